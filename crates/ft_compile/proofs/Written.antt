-- If an object stands for a program, outputs have the same lines with the object's cell names as with the program's.
use Rattle.std.proofs.Common.{◌≡◌, ℕ, ◌+◌, ◌*◌, ◌-◌, ◌≤◌, List, [], ◌∷◌, None, refl, sym, ap, ◌∙◌, subst, slice_get}
use Rattle.std.proofs.Common.{map}
use Rattle.std.specs.Option.{unwrap_or}
use Rattle.std.proofs.lemmas.Option.{slice_get-map}
use Rattle.std.proofs.lemmas.List.{map-append}
use Rattle.ft_isa.specs.Words.{cell_address, line}
use Rattle.ft_isa.specs.declared.output.Output.{Output}
use Rattle.ft_types.specs.declared.object.Object.{Object}
use Rattle.ft_semantics.specs.declared.status.Status.TheVariants.{Running, Done}
use Rattle.ft_types.specs.Objects.{name_of}
use Rattle.ft_semantics.specs.Run.{outputs_after, status_after}
use Rattle.ft_types.specs.Texts.{line_at}
use Rattle.ft_scope.specs.Resolved.{Program}
use Rattle.ft_meaning.specs.Begins.{Begins}
use Rattle.ft_meaning.specs.Lines.{line_of, output_lines}
use Rattle.ft_meaning.specs.Meaning.{State, Ended, Cut, outputs, meaning}
use Rattle.ft_compile.specs.StandsFor.{StandsFor}
use Rattle.ft_compile.specs.Laws.{object_lines, LinesBegin}
use Rattle.ft_compile.proofs.OtherWords.{own_run}

-- an output has the same line with the object's cell names as with these names
same_line : (o : Object) (names : List (List ℕ)) → map name_of o.cells ≡ names → (x : Output) → line_at o x
    ≡ line_of names x
same_line o names e x =
    let k = x.addr - cell_address 0 in
    ap (λ name. line (unwrap_or name []) x.value) (sym (slice_get-map name_of o.cells k) ∙ ap (λ l. slice_get l k) e)

-- outputs have the same lines with the object's cell names as with these names
lines_by_names : (o : Object) (names : List (List ℕ)) → map name_of o.cells ≡ names → (xs : List Output) →
    object_lines o xs ≡ output_lines names xs
lines_by_names o names e [] = refl
lines_by_names o names e (x ∷ xs) = ap (λ l. l ∷ object_lines o xs) (same_line o names e x)
    ∙ ap (λ ls. line_of names x ∷ ls) (lines_by_names o names e xs)

-- if an object stands for a program, outputs have the same lines with the object's cell names as with the program's
pub same_lines : (p : Program) (o : Object) → StandsFor p o → (xs : List Output) → object_lines o xs
    ≡ output_lines p.names xs
same_lines p o h xs = lines_by_names o p.names h.names xs

-- if outputs are a prefix of others, so are their lines
lines_begin : (names : List (List ℕ)) (xs ys : List Output) → Begins xs ys →
    LinesBegin (output_lines names xs) (output_lines names ys)
lines_begin names xs ys h = (
  output_lines names h.0,
  sym (map-append (line_of names) xs h.0)
      ∙ ap (output_lines names) h.1,
)

-- a run that is done has the lines of the meaning, which has ended
pub done_lines : (p : Program) (o : Object) → StandsFor p o → (n : ℕ) → status_after o None [] n ≡ Done → (s : State)
    × (meaning p n ≡ Ended s) × (object_lines o (outputs_after o None [] n) ≡ output_lines p.names s.out)
done_lines p o h n d =
    let m = (own_run p o h).done n d in
    (m.0, m.1, same_lines p o h (outputs_after o None [] n) ∙ ap (output_lines p.names) m.2)

-- the lines of a run that is running are a prefix of the meaning's lines
pub running_lines : (p : Program) (o : Object) → StandsFor p o → (n : ℕ) → status_after o None [] n ≡ Running →
    LinesBegin (object_lines o (outputs_after o None [] n)) (output_lines p.names (outputs (meaning p n)))
running_lines p o h n r =
    subst (λ ls. LinesBegin ls (output_lines p.names (outputs (meaning p n))))
    (sym (same_lines p o h (outputs_after o None [] n)))
    (lines_begin p.names (outputs_after o None [] n) (outputs (meaning p n)) ((own_run p o h).running n r))

-- if the meaning ends, the run ends with its lines
pub ended_lines : (p : Program) (o : Object) → StandsFor p o → (n t : ℕ) (s : State) → meaning p t ≡ Ended s →
    16 * s.work + 320 ≤ n → (status_after o None [] n ≡ Done)
    × (object_lines o (outputs_after o None [] n) ≡ output_lines p.names s.out)
ended_lines p o h n t s e lt =
    let m = (own_run p o h).ends n t s e lt in
    (m.0, same_lines p o h (outputs_after o None [] n) ∙ ap (output_lines p.names) m.1)

-- the lines of a meaning that is cut are a prefix of the run's lines
pub cut_lines : (p : Program) (o : Object) → StandsFor p o → (n t : ℕ) (s : State) → meaning p t ≡ Cut s →
    16 * s.work + 320 ≤ n → LinesBegin (output_lines p.names s.out) (object_lines o (outputs_after o None [] n))
cut_lines p o h n t s e lt =
    subst (LinesBegin (output_lines p.names s.out)) (sym (same_lines p o h (outputs_after o None [] n)))
    (lines_begin p.names s.out (outputs_after o None [] n) ((own_run p o h).cuts n t s e lt))
