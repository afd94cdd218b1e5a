-- The lines of verdicts, one after another.
use Rattle.std.proofs.Common.{◌≡◌, ℕ, suc, ◌+◌, ◌<◌, ◌≤◌, List, [], ◌∷◌, ◌++◌, length, take, drop, get_or, ap, sym, ◌∙◌}
use Rattle.std.proofs.Common.{arith}
use Rattle.std.specs.List.{zip}
use Rattle.std.proofs.Math.Seq.{split_at}
use Rattle.std.proofs.lemmas.List.{take_more, take_all, length-map, get_or-map}
use Rattle.std.proofs.lemmas.Slice.Zip.{length-zip, get_or-zip}
use Rattle.ft_isa.specs.declared.plan.Strike.{Strike}
use Rattle.ft_campaign.specs.declared.verdict.Verdict.{Verdict}
use Rattle.ft_campaign.specs.Texts.{verdict_line, verdict_lines}

-- the line of fault i
line_is : (xs : List Strike) (vs : List Verdict) (i : ℕ) (x : Strike) (v d : Verdict) → i < length xs → length vs
    ≡ length xs → x ≡ get_or xs i x → v ≡ get_or vs i d → get_or (verdict_lines xs vs) i (verdict_line x v)
    ≡ verdict_line x v
line_is xs vs i x v d lt long ex ev =
    get_or-map (λ p. verdict_line p.0 p.1) (zip xs vs) i (x, d) (verdict_line x v) (let h = length-zip xs vs in
    omega arith)
    ∙ ap (λ (p : Strike × Verdict). verdict_line p.0 p.1) (get_or-zip xs vs i (x, d) lt (omega arith))
    ∙ ap (λ y. verdict_line y (get_or vs i d)) (sym ex) ∙ ap (verdict_line x) (sym ev)

pub lines_long : (xs : List Strike) (vs : List Verdict) → length vs ≡ length xs → length (verdict_lines xs vs)
    ≡ length xs
lines_long xs vs e = length-map (zip xs vs) (λ p. verdict_line p.0 p.1) ∙ length-zip xs vs ∙ (omega arith)

-- the line of fault i comes between those before it and those after it
pub line_there : (xs : List Strike) (vs : List Verdict) (i : ℕ) (x : Strike) (v d : Verdict) → i < length xs → length vs
    ≡ length xs → x ≡ get_or xs i x → v ≡ get_or vs i d
    → verdict_lines xs vs ≡ take i (verdict_lines xs vs) ++ verdict_line x v ∷ drop (suc i) (verdict_lines xs vs)
line_there xs vs i x v d lt long ex ev =
    split_at (verdict_lines xs vs) i (verdict_line x v) (let h = lines_long xs vs long in omega arith)
    ∙ ap (λ l. take i (verdict_lines xs vs) ++ l ∷ drop (suc i) (verdict_lines xs vs))
    (line_is xs vs i x v d lt long ex ev)

-- with one more line, the first i lines become the first i + 1
pub line_next : (xs : List Strike) (vs : List Verdict) (i : ℕ) (x : Strike) (v d : Verdict) → i < length xs → length vs
    ≡ length xs → x ≡ get_or xs i x → v ≡ get_or vs i d
    → take (i + 1) (verdict_lines xs vs) ≡ take i (verdict_lines xs vs) ++ verdict_line x v ∷ []
line_next xs vs i x v d lt long ex ev =
    take_more (verdict_lines xs vs) i (verdict_line x v) (let h = lines_long xs vs long in omega arith)
    ∙ ap (λ l. take i (verdict_lines xs vs) ++ l ∷ []) (line_is xs vs i x v d lt long ex ev)

-- the first i lines are all lines once i reaches the number of faults
pub all_lines : (xs : List Strike) (vs : List Verdict) (i : ℕ) → length vs ≡ length xs → length xs ≤ i →
    take i (verdict_lines xs vs) ≡ verdict_lines xs vs
all_lines xs vs i long le = take_all i (verdict_lines xs vs) (let h = lines_long xs vs long in omega arith)
