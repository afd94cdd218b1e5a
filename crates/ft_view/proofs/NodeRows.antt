-- Nodes, kept as their records.
use Rattle.std.proofs.Common.{◌≡◌, ℕ, ◌*◌, ◌<◌, ◌≤◌, true, false, List, [], ◌∷◌, length, map, take, drop}
use Rattle.std.proofs.Common.{Some, refl, sym, ap, ◌∙◌, arith}
use Rattle.std.specs.Prelude.{◌==◌, ◌||◌, nat_le, not, slice_get}
use Rattle.std.specs.Option.{option_map}
use Rattle.std.proofs.lemmas.List.{length-map}
use Rattle.std.proofs.lemmas.Option.{slice_get-map}
use Rattle.ft_static.specs.declared.node.Node.{Node}
use Rattle.ft_static.specs.NodeParts.{is_memory}
use Rattle.ft_format.specs.Layout.{numbers, rows, code_layout}
use Rattle.ft_format.specs.Rules.{is_of_sort, is_within}
use Rattle.ft_format.specs.NodeRecords.{shape_of, node_of}
use Rattle.ft_format.proofs.Layouts.{length_rows}
use Rattle.std.proofs.lemmas.Bool.Decides.{nat_tests}
use Rattle.ft_view.proofs.Records.{record_at}

-- there are as many nodes as records
pub count_is : (count : ℕ) (bytes : List ℕ) (nodes : List Node) → map node_of (rows code_layout count bytes) ≡ nodes →
    length nodes ≡ count
count_is count bytes nodes e = sym (ap length e) ∙ length-map (rows code_layout count bytes) node_of
    ∙ length_rows code_layout count bytes

-- node n is the one that record n encodes
pub row_is : (count n : ℕ) (bytes part row : List ℕ) (nodes : List Node) → map node_of (rows code_layout count bytes)
    ≡ nodes → n < length nodes → part ≡ take 16 (drop (16 * n) bytes) → row ≡ numbers code_layout part
    → slice_get nodes n ≡ Some (node_of row)
row_is count n bytes part row nodes e lt is numbers_are =
    let there : slice_get (rows code_layout count bytes) n
    ≡ Some row = record_at code_layout count n 0 (16 * n) bytes part row (omega (arith, count_is count bytes nodes e))
    (omega arith) is numbers_are in
    sym (ap (λ l. slice_get l n) e) ∙ slice_get-map node_of (rows code_layout count bytes) n
    ∙ ap (option_map node_of) there

-- a node is a memory exactly when its kind is 4 or 5
sort_is : (kind op a b c : ℕ) → is_memory (shape_of kind op a b c) ≡ ((kind == 4) || (kind == 5))
sort_is kind op a b c = grind (arith, nat_tests)

pub memory_sort : (nodes : List Node) (n kind op scope pad a b c : ℕ) → slice_get nodes n
    ≡ Some (node_of (kind ∷ op ∷ scope ∷ pad ∷ a ∷ b ∷ c ∷ [])) → ((kind == 4) || (kind == 5))
    ≡ is_of_sort true (slice_get nodes n)
memory_sort nodes n kind op scope pad a b c e = rw e (sym (sort_is kind op a b c))

pub integer_sort : (nodes : List Node) (n kind op scope pad a b c : ℕ) → slice_get nodes n
    ≡ Some (node_of (kind ∷ op ∷ scope ∷ pad ∷ a ∷ b ∷ c ∷ [])) → not ((kind == 4) || (kind == 5))
    ≡ is_of_sort false (slice_get nodes n)
integer_sort nodes n kind op scope pad a b c e = rw e (ap not (sym (sort_is kind op a b c)))

pub scope_is : (nodes : List Node) (n limit kind op scope pad a b c : ℕ) → slice_get nodes n
    ≡ Some (node_of (kind ∷ op ∷ scope ∷ pad ∷ a ∷ b ∷ c ∷ [])) → nat_le scope limit
    ≡ is_within limit (slice_get nodes n)
scope_is nodes n limit kind op scope pad a b c e = rw e refl
