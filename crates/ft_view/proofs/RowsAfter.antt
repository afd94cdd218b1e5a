-- Reading one more record.
use Rattle.std.proofs.Common.{◌≡◌, ℕ, ◌+◌, ◌*◌, List, [], ◌∷◌, ◌++◌, map, take, drop, refl, sym, ap, ◌∙◌}
use Rattle.std.specs.Int.{Width}
use Rattle.std.proofs.lemmas.List.{map-append}
use Rattle.ft_format.specs.Layout.{size, numbers, rows, code_layout}
use Rattle.ft_format.specs.NodeRecords.{node_of}
use Rattle.ft_format.proofs.Layouts.{rows_plus}

-- reading i + 1 records reads the first i and then one more
pub rows_snoc : (ws : List Width) (i : ℕ) (bs rest row : List ℕ) → rest ≡ drop (size ws * i) bs → row
    ≡ numbers ws (take (size ws) rest) → rows ws (i + 1) bs ≡ rows ws i bs ++ row ∷ []
unfolding rows
rows_snoc ws i bs rest row at is = rows_plus ws i 1 bs
    ∙ ap (λ r. rows ws i bs ++ numbers ws (take (size ws) r) ∷ []) (sym at) ∙ ap (λ r. rows ws i bs ++ r ∷ []) (sym is)

-- likewise for the nodes that these records encode
pub nodes_snoc : (i : ℕ) (bs rest row : List ℕ) → rest ≡ drop (16 * i) bs → row ≡ numbers code_layout (take 16 rest) →
    map node_of (rows code_layout i bs) ++ node_of row ∷ [] ≡ map node_of (rows code_layout (i + 1) bs)
nodes_snoc i bs rest row at is = sym (ap (map node_of) (rows_snoc code_layout i bs rest row at is)
    ∙ map-append node_of (rows code_layout i bs) (row ∷ []))

-- zero records encode no nodes
pub no_nodes : (bs : List ℕ) → map node_of (rows code_layout 0 bs) ≡ []
unfolding rows
no_nodes bs = refl
