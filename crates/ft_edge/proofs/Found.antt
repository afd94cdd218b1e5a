-- The first stored file with a name is the one that the map of the files holds.
use Rattle.std.proofs.Common.{◌≡◌, ℕ, Bool, cond, List, ◌∷◌, Some, map, ap, sym, ◌∙◌, string_bytes}
use Rattle.std.specs.Ordering.{nat_cmp}
use Rattle.std.specs.Cmp.Lexicographic.{slice_cmp, pointwise, texts_ties}
use Rattle.std.specs.Prelude.{nat_eq}
use Rattle.std.specs.FinMap.{find}
use Rattle.ft_edge.specs.declared.mem_shelf.Stored.{Stored}
use Rattle.ft_edge.specs.Stored.{entry_of}

-- the first file is the result if its name matches; otherwise the other files decide
pub find_entry : (q : List ℕ) (s : Stored) (rest all : List Stored) (b : Bool) → all ≡ s ∷ rest → b
    ≡ pointwise nat_eq q (string_bytes s.name)
    → find (slice_cmp nat_cmp) q (map entry_of all)
    ≡ cond b (Some s.bytes.items) (find (slice_cmp nat_cmp) q (map entry_of rest))
find_entry q s rest all b e t =
    ap (λ es. find (slice_cmp nat_cmp) q (map entry_of es)) e
    ∙ ap (λ v. cond v (Some s.bytes.items) (find (slice_cmp nat_cmp) q (map entry_of rest)))
    (sym (t ∙ texts_ties q (string_bytes s.name)))
