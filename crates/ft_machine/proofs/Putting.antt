-- Lines of outputs, as they are put.
use Rattle.std.proofs.Common.{◌≡◌, ℕ, List, [], ◌∷◌, ◌++◌, Result, Ok, Err, is_ok, true, refl, ap, sym, subst, ◌∙◌}
use Rattle.std.proofs.lemmas.List.{map-append}
use Rattle.ft_edge.specs.declared.failed.Failed.{Failed}
use Rattle.ft_edge.specs.Told.{append_told}
use Rattle.ft_edge.specs.Logs.{SinkLog}
use Rattle.ft_edge.specs.Lines.{Puts, end_of_puts}
use Rattle.ft_edge.proofs.Appended.{told_more}
use Rattle.ft_edge.proofs.Lines.{puts_then, made_by}
use Rattle.ft_isa.specs.declared.output.Output.{Output}
use Rattle.ft_types.specs.declared.object.Object.{Object}
use Rattle.ft_types.specs.Texts.{line_at}
use Rattle.ft_machine.specs.Drives.{PutsOutputs, output_lines, end_of_going}

-- the lines of concatenated outputs are the lines of the first list, then those of the second
pub lines-append : (o : Object) (xs ys : List Output) → output_lines o (xs ++ ys) ≡ output_lines o xs
    ++ output_lines o ys
lines-append o xs ys = map-append (line_at o) xs ys

one_line : (done : List (List ℕ)) (line x : List ℕ) (rest : List (List ℕ)) → x ∷ [] ≡ done ++ line ∷ rest → done
    ++ line ∷ [] ≡ x ∷ []
one_line [] line x rest h = cc
one_line (y ∷ []) line x rest h = absurd (cc)
one_line (y ∷ (z ∷ zs)) line x rest h = absurd (cc)

-- putting a line records it as a piece, even if the put fails
line_pieces : (r : Result (Unit {0}) Failed) (line : List ℕ) (old new : SinkLog) →
    Puts (end_of_puts r) (line ∷ []) old new → new.pieces ≡ append_told old.pieces (line ∷ [])
line_pieces (Ok done) line old new h = ap (λ (log : SinkLog). log.pieces) h
line_pieces (Err failed) line old new h =
    h.fails.pieces ∙ told_more old.pieces h.done (h.line ∷ [])
    ∙ ap (append_told old.pieces) (one_line h.done h.line line h.rest h.whole)

same_end : (r : Result (Unit {0}) Failed) → end_of_puts r ≡ end_of_going (is_ok r)
same_end (Ok done) = refl
same_end (Err failed) = refl

-- the line of one more output was put, or its put failed
pub outputs_next : (o : Object) (before : List Output) (x : Output) (r : Result (Unit {0}) Failed)
    (first old new : SinkLog) → PutsOutputs o before true first old
    → Puts (end_of_puts r) (line_at o x ∷ []) old new → PutsOutputs o (before ++ x ∷ []) (is_ok r) first new
outputs_next o before x r first old new h put =
    let line = line_at o x ∷ [] in
    let further = sym (lines-append o before (x ∷ [])) in
    record {
      lines = subst (λ e. Puts e (output_lines o (before ++ x ∷ [])) first new) (same_end r)
          (subst (λ ls. Puts (end_of_puts r) ls first new) further
          (puts_then (end_of_puts r) (output_lines o before) line first old new (made_by r) h.lines put));
      pieces = line_pieces r (line_at o x) old new put ∙ ap (λ p. append_told p line) h.pieces
          ∙ told_more first.pieces (output_lines o before) line ∙ ap (append_told first.pieces) further;
    }
