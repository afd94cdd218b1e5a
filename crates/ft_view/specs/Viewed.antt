-- The bytes of a view, and what is known of their records.
use Rattle.std.specs.Prelude.{◌≡◌, ℕ, List, [], ◌∷◌, None}
use Rattle.ft_format.specs.declared.header.Header.{Header}
use Rattle.ft_format.specs.declared.places.Places.{Places}
use Rattle.ft_format.specs.Places.{ArePlaces}
use Rattle.ft_format.specs.Format.{AreBytes}
use Rattle.ft_format.specs.Layout.{rows, cell_layout, code_layout, type_layout, reg_layout, pair_layout, subst_layout}
use Rattle.ft_format.specs.Broken.{cells_part, nodes_part, types_part, regs_part, queue_part, blocks_part, substs_part, header_at, broken}

-- these are valid bytes, this is their header, and these are the places that it gives
pub record IsView (h : Header) (p : Places) (bytes : List ℕ) : Type 0 where
  pub are_bytes : AreBytes bytes
  pub header : h ≡ header_at bytes
  pub places : ArePlaces h p
  pub unbroken : broken bytes ≡ None

-- where the rows of the last of these records end; `start` if there are no records
abbrev pub last_end : (List ℕ → ℕ) → ℕ → List (List ℕ) → ℕ
last_end end_of start [] = start
last_end end_of start (row ∷ rest) = last_end end_of (end_of row) rest

-- the records of each section
abbrev pub cell_records : List ℕ → List (List ℕ)
cell_records bytes = rows cell_layout (header_at bytes).cells (cells_part bytes)

abbrev pub node_records : List ℕ → List (List ℕ)
node_records bytes = rows code_layout (header_at bytes).nodes (nodes_part (header_at bytes) bytes)

abbrev pub type_records : List ℕ → List (List ℕ)
type_records bytes = rows type_layout (header_at bytes).types (types_part (header_at bytes) bytes)

abbrev pub reg_records : List ℕ → List (List ℕ)
reg_records bytes = rows reg_layout (header_at bytes).regs (regs_part (header_at bytes) bytes)

abbrev pub queue_records : List ℕ → List (List ℕ)
queue_records bytes = rows pair_layout (header_at bytes).queue (queue_part (header_at bytes) bytes)

abbrev pub block_records : List ℕ → List (List ℕ)
block_records bytes = rows pair_layout (header_at bytes).blocks (blocks_part (header_at bytes) bytes)

abbrev pub subst_records : List ℕ → List (List ℕ)
subst_records bytes = rows subst_layout (header_at bytes).substs (substs_part (header_at bytes) bytes)
