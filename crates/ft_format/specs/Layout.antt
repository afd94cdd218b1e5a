-- Records of bytes: a record has fields, each of them a big-endian number of some width.
use Rattle.std.specs.Prelude.{ℕ, zero, suc, ◌+◌, List, [], ◌∷◌, ◌++◌, take, drop}
use Rattle.std.specs.Int.{Width, w8, w16, w32, w64, byte_len, to_be_bytes, from_be_bytes}
use Rattle.std.specs.List.{flat_map}

-- the number of this width in the first bytes
unfoldable pub number_of : Width → List ℕ → ℕ
number_of w bytes = from_be_bytes w (take (byte_len w) bytes)

-- the bytes of a number of this width
unfoldable pub bytes_of : Width → ℕ → List ℕ
bytes_of w n = to_be_bytes w n

-- how many bytes a record of these fields has
abbrev pub size : List Width → ℕ
size [] = 0
size (w ∷ ws) = byte_len w + size ws

-- the numbers of the first record in these bytes
unfoldable pub numbers : List Width → List ℕ → List ℕ
numbers [] bytes = []
numbers (w ∷ ws) bytes = number_of w bytes ∷ numbers ws (drop (byte_len w) bytes)

-- the bytes of a record with these numbers
unfoldable pub written : List Width → List ℕ → List ℕ
written [] ns = []
written (w ∷ ws) [] = []
written (w ∷ ws) (n ∷ ns) = bytes_of w n ++ written ws ns

-- the numbers of n records, one after the other
unfoldable pub rows : List Width → ℕ → List ℕ → List (List ℕ)
rows ws zero bytes = []
rows ws (suc n) bytes = numbers ws (take (size ws) bytes) ∷ rows ws n (drop (size ws) bytes)

-- the bytes of records, one after the other
abbrev pub spelled : List Width → List (List ℕ) → List ℕ
spelled ws rs = flat_map (written ws) rs

-- header: magic and version, then the counts of cells, nodes, types, register rows, queue rows, blocks,
-- instructions, substitution rows and name bytes, then the entry block
abbrev pub header_layout : List Width
header_layout = w64 ∷ w32 ∷ w32 ∷ w32 ∷ w32 ∷ w32 ∷ w32 ∷ w32 ∷ w32 ∷ w32 ∷ w32 ∷ []

-- cell: the name's end, refs, base, code type, initial word
abbrev pub cell_layout : List Width
cell_layout = w32 ∷ w8 ∷ w8 ∷ w16 ∷ w64 ∷ []

-- node: kind, operation, scope, padding, a, b, c; instruction: kind, a, b, c, x, and the two halves of v
abbrev pub code_layout : List Width
code_layout = w8 ∷ w8 ∷ w8 ∷ w8 ∷ w32 ∷ w32 ∷ w32 ∷ []

-- type: the ends of its register rows and of its queue rows, memory, number of variables, padding
abbrev pub type_layout : List Width
type_layout = w32 ∷ w32 ∷ w32 ∷ w8 ∷ w8 ∷ w8 ∷ w8 ∷ []

-- register row: register, colour, padding, refs, base, code type, expression
abbrev pub reg_layout : List Width
reg_layout = w8 ∷ w8 ∷ w16 ∷ w8 ∷ w8 ∷ w16 ∷ w32 ∷ []

-- queue row: address, value; block: first instruction, code type
abbrev pub pair_layout : List Width
pair_layout = w32 ∷ w32 ∷ []

-- substitution row: a node
abbrev pub subst_layout : List Width
subst_layout = w32 ∷ []
