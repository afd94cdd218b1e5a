-- Outputs with the first ones left out.
use Rattle.std.proofs.Common.{◌≡◌, ℕ, zero, suc, ◌+◌, ◌-◌, ◌%◌, ◌^◌, ◌<◌, List, [], ◌∷◌, ◌++◌, length, Result, is_ok}
use Rattle.std.proofs.Common.{true, refl, ap, sym, subst, ◌∙◌, arith}
use Rattle.std.specs.Prelude.{drop}
use Rattle.std.proofs.Math.Nat.{sub-zero}
use Rattle.std.proofs.lemmas.List.{append-nil, length-append}
use Rattle.ft_edge.specs.declared.failed.Failed.{Failed}
use Rattle.ft_edge.specs.Lines.{Puts, end_of_puts, with_lines}
use Rattle.ft_edge.specs.Logs.{SinkLog}
use Rattle.ft_isa.specs.declared.output.Output.{Output}
use Rattle.ft_types.specs.declared.object.Object.{Object}
use Rattle.ft_types.specs.Texts.{line_at}
use Rattle.ft_machine.specs.Drives.{output_lines, end_of_going}
use Rattle.ft_machine.proofs.Counting.{count_next}
use Rattle.ft_machine.proofs.Putting.{outputs_next}
use Rattle.ft_recover.specs.Passing.{Passes}

abbrev pub no_outputs : List Output
no_outputs = []

pub drop_none : (n : ℕ) → drop n no_outputs ≡ no_outputs
drop_none zero = refl
drop_none (suc n) = refl

none_less : (n : ℕ) → 0 ≡ 0 - n
none_less n = omega arith

pub one_less : (n m : ℕ) → n - m ≡ suc n - suc m
one_less n m = omega arith

pub drop_append : (n : ℕ) (xs ys : List Output) → drop n (xs ++ ys) ≡ drop n xs ++ drop (n - length xs) ys
drop_append zero xs ys = ap (λ k. xs ++ drop k ys) (none_less (length xs))
drop_append (suc n) [] ys = ap (λ k. drop k ys) (sym (sub-zero (suc n)))
drop_append (suc n) (x ∷ xs) ys = drop_append n xs ys ∙ ap (λ k. drop n xs ++ drop k ys) (one_less n (length xs))

drop_one : (n : ℕ) (x : Output) → 0 < n → drop n (x ∷ []) ≡ no_outputs
drop_one zero x some = absurd (omega (arith, some))
drop_one (suc n) x some = drop_none n

fewer : (p n m left after : ℕ) → m ≡ n + 1 → left ≡ p - n → after ≡ left - 1 → after ≡ p - m
fewer p n m left after is h next = omega (arith, is, h, next)

none_left : (p n m left : ℕ) → m ≡ n + 1 → left ≡ p - n → left ≡ 0 → left ≡ p - m
none_left p n m left is h none = omega (arith, is, h, none)

module _ (o : Object) (passed count : ℕ) (before : List Output) (x : Output) (left now : ℕ) (first old : SinkLog)
    (h : Passes o passed count before true left now first old) where
  long : length (before ++ x ∷ []) ≡ length before + 1
  long = length-append before (x ∷ [])

  -- `Passes` still holds after one more output is left out
  pub passes_over : (left' now' : ℕ) → 0 < left → left' ≡ left - 1 → now' ≡ (now + 1) % 2 ^ 64 →
      Passes o passed count (before ++ x ∷ []) true left' now' first old
  passes_over left' now' some less more =
      let same : drop passed (before ++ x ∷ []) ≡ drop passed before
      = drop_append passed before (x ∷ []) ∙ ap (λ n. drop passed before ++ drop n (x ∷ [])) (sym h.left_is)
      ∙ ap (λ xs. drop passed before ++ xs) (drop_one left x some) ∙ append-nil (drop passed before) in
      record {
        left_is = fewer passed (length before) (length (before ++ x ∷ [])) left left' long h.left_is less;
        count_is = count_next count now now' before x h.count_is more;
        lines = subst (λ xs. old ≡ with_lines (output_lines o xs) first) (sym same) h.lines;
      }

  -- it still holds after the line of one more output was written, or its put failed
  pub passes_put : (r : Result (Unit {0}) Failed) (now' : ℕ) (new : SinkLog) → left ≡ 0 → now' ≡ (now + 1) % 2 ^ 64 →
      Puts (end_of_puts r) (line_at o x ∷ []) old new →
      Passes o passed count (before ++ x ∷ []) (is_ok r) left now' first new
  passes_put r now' new none more put =
      let same : drop passed (before ++ x ∷ []) ≡ drop passed before ++ x ∷ []
      = drop_append passed before (x ∷ []) ∙ ap (λ n. drop passed before ++ drop n (x ∷ [])) (sym h.left_is ∙ none) in
      record {
        left_is = none_left passed (length before) (length (before ++ x ∷ [])) left long h.left_is none;
        count_is = count_next count now now' before x h.count_is more;
        lines = subst (λ xs. Puts (end_of_going (is_ok r)) (output_lines o xs) first new) (sym same)
            (outputs_next o (drop passed before) x r first old new (record {
              lines = h.lines;
              pieces = ap (λ (log : SinkLog). log.pieces) h.lines;
            }) put).lines;
      }
