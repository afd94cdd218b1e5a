-- Stretches of steps whose outputs go into the caller's array.
use Rattle.std.proofs.Common.{◌≡◌, ℕ, zero, suc, ◌+◌, ◌-◌, ◌<◌, ◌≤◌, List, [], ◌∷◌, ◌++◌, length, refl, ap, sym, subst}
use Rattle.std.proofs.Common.{◌∙◌}
use Rattle.std.proofs.Common.{⊎_elim, arith, take, map}
use Rattle.std.specs.Prelude.{drop}
use Rattle.std.proofs.Math.Nat.{sub-zero}
use Rattle.std.proofs.lemmas.Bool.{cases_lt}
use Rattle.std.proofs.lemmas.List.{map-append, length-append, append-nil}
use Rattle.std.specs.Option.{option_to_list}
use Rattle.ft_isa.specs.declared.output.Output.{Output}
use Rattle.ft_isa.specs.declared.plan.Wild.{Wild}
use Rattle.ft_types.specs.declared.object.Object.{Object}
use Rattle.ft_semantics.specs.State.{State}
use Rattle.ft_semantics.specs.Run.{Ran}
use Rattle.ft_machine.specs.Spans.{span, span-zero}
use Rattle.ft_machine.specs.Advances.{Advances, IsQuiet, IsEnough, output_told}
use Rattle.ft_machine.specs.declared.stepped.Stepped.{Stepped}
use Rattle.ft_machine.specs.declared.stepped.Stepped.TheVariants.{Quiet, Commit, Done, Detected}
use Rattle.ft_machine.proofs.Spanned.{joined, span_then, rest_of}
use Rattle.ft_machine.proofs.Counting.{span_few}
use Rattle.ft_flight.specs.declared.flown.CellOutput.{CellOutput}
use Rattle.ft_recover.proofs.Stretches.{no_outputs, drop_none, drop_append}
use Rattle.ft_flight.proofs.NoAnswers.{no_words}
use Rattle.ft_flight.specs.Steps.{Fills, MayGo, cell_output, outputs_from, status_from}

-- no step was taken
pub fills_none : (o : Object) (s : State) (skip : ℕ) (out : List CellOutput) → Fills o s s 0 skip 0 0 out
fills_none o s skip out =
    let none = ap (λ (r : Ran). r.outputs) (span-zero o s no_words) in
    let left : drop skip (outputs_from o s 0) ≡ no_outputs = ap (drop skip) none ∙ drop_none skip in
    record {
      state_is = ap (λ (r : Ran). r.state) (sym (span-zero o s no_words));
      seen_is = ap length (sym none);
      count_is = ap length (sym left);
      outputs = ap (map cell_output) (sym left);
      before = λ j below. absurd (omega (arith, below));
    }

-- a call takes no more steps than it is allowed to take
pub enough_few : (last : Stepped) (n most : ℕ) → IsEnough last n most → n ≤ most
enough_few Quiet n most h = omega (arith, h)
enough_few (Commit output) n most h = h.1
enough_few Done n most h = h.1
enough_few Detected n most h = h.1

-- the number of steps so far, given how many are left
pub rest_less : (number left n : ℕ) → left ≤ number → n ≤ left → (number - left) + n ≡ number - (left - n)
rest_less number left n le few = omega arith

-- a step after the first n of n + m is one of the last m
pub rest_below : (n m j : ℕ) → j < n + m → n ≤ j → j - n < m
rest_below n m j below le = omega (arith, below, le)

module _ (o : Object) (s s1 s2 : State) (w1 w2 : List Wild) (n m most skip seen count seen2 count2 : ℕ) (last : Stepped)
    (mid new : List CellOutput) (a : Fills o s s1 n skip seen count mid) (wild : w1 ≡ (span o n s []).wild)
    (b : Advances o s1 w1 s2 w2 most m last) where
  abbrev more : List Output
  more = option_to_list (output_told last)

  whole : (k : ℕ) → span o (n + k) s no_words ≡ joined (outputs_from o s n) (span o k s1 w1)
  whole k = span_then o n k s s1 no_words w1 a.state_is wild

  outs : outputs_from o s (n + m) ≡ outputs_from o s n ++ more
  outs = ap (λ (r : Ran). r.outputs) (whole m) ∙ ap (λ xs. outputs_from o s n ++ xs) b.outputs

  dropped : drop skip (outputs_from o s (n + m)) ≡ drop skip (outputs_from o s n) ++ drop (skip - seen) more
  dropped = ap (drop skip) outs ∙ drop_append skip (outputs_from o s n) more
      ∙ ap (λ k. drop skip (outputs_from o s n) ++ drop (skip - k) more) (sym a.seen_is)

  still : (k : ℕ) → IsQuiet (span o k s1 w1) → count < length new
      → MayGo (status_from o s (n + k)) (length (drop skip (outputs_from o s (n + k)))) (length new)
  still k q free =
      let same : outputs_from o s (n + k) ≡ outputs_from o s n = ap (λ (r : Ran). r.outputs) (whole k)
      ∙ ap (λ xs. outputs_from o s n ++ xs) q.nothing ∙ append-nil (outputs_from o s n) in
      record {
        running = ap (λ (r : Ran). r.state.status) (whole k) ∙ q.running;
        free = subst (λ x. x < length new) (a.count_is ∙ ap (λ xs. length (drop skip xs)) (sym same)) free;
      }

  pub wild_more : w2 ≡ (span o (n + m) s []).wild
  wild_more = b.wild_is ∙ ap (λ (r : Ran). r.wild) (sym (whole m))

  pub fills_more : seen2 ≡ seen + length more → count2 ≡ count + length (drop (skip - seen) more) → count < length mid →
      length new ≡ length mid
      → take count2 new ≡ take count mid ++ map cell_output (drop (skip - seen) more) →
      Fills o s s2 (n + m) skip seen2 count2 new
  fills_more seen_next count_next free same put = record {
    state_is = b.state_is ∙ ap (λ (r : Ran). r.state) (sym (whole m));
    seen_is = seen_next ∙ ap (λ k. k + length more) a.seen_is ∙ sym (length-append (outputs_from o s n) more)
        ∙ ap length (sym outs);
    count_is = count_next ∙ ap (λ k. k + length (drop (skip - seen) more)) a.count_is
        ∙ sym (length-append (drop skip (outputs_from o s n)) (drop (skip - seen) more)) ∙ ap length (sym dropped);
    outputs = put ∙ ap (λ l. l ++ map cell_output (drop (skip - seen) more)) a.outputs
        ∙ sym (map-append cell_output (drop skip (outputs_from o s n)) (drop (skip - seen) more))
        ∙ ap (map cell_output) (sym dropped);
    before = λ j below. ⊎_elim
        (λ (lt : j < n). subst (λ k. MayGo (status_from o s j) (length (drop skip (outputs_from o s j))) k) (sym same)
        (a.before j lt))
        (λ (le : n ≤ j). subst (λ i. MayGo (status_from o s i) (length (drop skip (outputs_from o s i))) (length new))
        (rest_of n j le)
        (still (j - n) (b.before (j - n) (rest_below n m j below le)) (subst (λ k. count < k) (sym same) free)))
        (cases_lt j n);
  }

-- one iteration keeps the loop's invariant
pub fills_on : (o : Object) (s s1 s2 : State) (w1 w2 : List Wild) (most left m skip seen count seen2 count2 : ℕ)
    (last : Stepped)
    (mid new : List CellOutput) → Fills o s s1 (most - left) skip seen count mid → w1
    ≡ (span o (most - left) s []).wild →
    Advances o s1 w1 s2 w2 left m last → left ≤ most → seen2 ≡ seen + length (option_to_list (output_told last)) →
    count2 ≡ count + length (drop (skip - seen) (option_to_list (output_told last))) → count < length mid → length new
    ≡ length mid
    → take count2 new ≡ take count mid ++ map cell_output (drop (skip - seen) (option_to_list (output_told last)))
    → Fills o s s2 (most - (left - m)) skip seen2 count2 new × (w2 ≡ (span o (most - (left - m)) s []).wild)
fills_on o s s1 s2 w1 w2 most left m skip seen count seen2 count2 last mid new a wild b le seen_next count_next free
    same put =
    subst (λ k. Fills o s s2 k skip seen2 count2 new × (w2 ≡ (span o k s []).wild))
    (rest_less most left m le (enough_few last m left b.enough)) (
      fills_more o s s1 s2 w1 w2 (most - left) m left skip seen count seen2 count2 last mid new a wild b seen_next
          count_next free same put,
      wild_more o s s1 s2 w1 w2 (most - left) m left skip seen count seen2 count2 last mid new a wild b,
    )

-- no more outputs than steps
pub seen_few : (o : Object) (s s' : State) (n skip seen count : ℕ) (new : List CellOutput) →
    Fills o s s' n skip seen count new → seen ≤ n
seen_few o s s' n skip seen count new a = subst (λ k. k ≤ n) (sym a.seen_is) (span_few o n s no_words)

-- the loop's invariant holds before the first iteration
pub wild_first : (o : Object) (s : State) (most : ℕ) → no_words ≡ (span o (most - most) s []).wild
wild_first o s most =
    let none : 0 ≡ most - most = omega arith in
    subst (λ n. no_words ≡ (span o n s []).wild) none (ap (λ (r : Ran). r.wild) (sym (span-zero o s no_words)))

pub fills_first : (o : Object) (s : State) (most skip : ℕ) (out : List CellOutput) →
    Fills o s s (most - most) skip 0 0 out
fills_first o s most skip out = let none : 0 ≡ most - most = omega arith in
    subst (λ n. Fills o s s n skip 0 0 out) none (fills_none o s skip out)

-- the same in other words
pub refit : (o : Object) (a b s s' : State) (n skip seen count skip' seen' : ℕ) (new : List CellOutput) →
    Fills o a b n skip seen count new →
    a ≡ s → s' ≡ b → skip ≡ skip' → seen ≡ seen' → Fills o s s' n skip' seen' count new
refit o a b s s' n skip seen count skip' seen' new h e f k l =
    subst (λ x. Fills o x s' n skip' seen' count new) e
    (subst (λ x. Fills o a x n skip' seen' count new) (sym f)
    (subst (λ x. Fills o a b n x seen' count new) k
    (subst (λ x. Fills o a b n skip x count new) l h)))

pub grown : (x y f l : ℕ) → x ≡ y → f ≡ l → x + f ≡ y + l
grown x y f l e h = omega (arith, e, h)

pub gained : (x y f : ℕ) → x ≡ y → f ≡ (x + f) - y
gained x y f e = omega (arith, e)
