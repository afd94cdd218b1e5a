-- The types of words: what a basic type says of a word, and when a basic type is accepted as another.
use Rattle.std.specs.Prelude.{◌≡◌, ◌⊎◌, ◌<◌, ℕ, zero, suc, ◌+◌, ◌-◌, Bool, true, false, ◌&&◌, ◌||◌, ◌==◌, nat_le, nat_lt, if◌then◌else◌, List, [], ◌∷◌, map, Option, None, Some, slice_get, slice_range, find}
use Rattle.std.specs.List.{list_all}
use Rattle.std.specs.Option.{option_map}
use Rattle.ft_isa.specs.Words.{code_address, cell_address}
use Rattle.ft_isa.specs.BasicTypes.{int}
use Rattle.ft_isa.specs.declared.basic.Base.{Base}
use Rattle.ft_isa.specs.declared.basic.Base.TheVariants.{Int, Code}
use Rattle.ft_isa.specs.declared.basic.Basic.{Basic}
use Rattle.ft_types.specs.declared.object.Object.{Object}
use Rattle.ft_types.specs.declared.object.Cell.{Cell}
use Rattle.ft_types.specs.declared.object.Block.{Block}
use Rattle.ft_types.specs.Objects.{basic_of, code_type_of}

-- the cell at an address: cell k is at 1,048,576 + k
unfoldable pub cell_of : Object → ℕ → Option Cell
cell_of o a = if nat_le (cell_address 0) a then slice_get o.cells (a - cell_address 0) else None

-- the basic type of the cell at an address
abbrev pub cell_type : Object → ℕ → Option Basic
cell_type o a = option_map basic_of (cell_of o a)

-- the block whose first instruction is at a code address; the blocks of an object that bytes spell begin at different
-- addresses
unfoldable pub block_at : Object → ℕ → Option Block
block_at o w = find (λ b. w == code_address b.start) o.blocks

-- the code type of the block whose first instruction is at a code address
abbrev pub code_type_at : Object → ℕ → Option ℕ
code_type_at o w = option_map code_type_of (block_at o w)

-- a word has the basic type of n refs over a base
abbrev pub HasTypeOver : Object → ℕ → ℕ → Base → Type 0
HasTypeOver o w zero Int = Unit {0}
HasTypeOver o w zero (Code t) = code_type_at o w ≡ Some t
HasTypeOver o w (suc k) base = cell_type o w ≡ Some (record { refs = k; base = base })

-- a word has a basic type: every word has `int`; the code address of the first instruction of a block of code type T
-- has `code T`; the address of a cell of basic type b has `ref b`
abbrev pub HasType : Object → ℕ → Basic → Type 0
HasType o w b = HasTypeOver o w b.refs b.base

-- a basic type is accepted as another if the two are equal or the other is `int`
abbrev pub IsSeenAs : Basic → Basic → Type 0
IsSeenAs a b = (a ≡ b) ⊎ (b ≡ int)

-- whether two bases are equal
abbrev pub same_base : Base → Base → Bool
same_base Int Int = true
same_base Int (Code t) = false
same_base (Code t) Int = false
same_base (Code t) (Code u) = t == u

-- whether two basic types are equal: they have the same number of refs and the same base
unfoldable pub same_basic : Basic → Basic → Bool
same_basic a b = (a.refs == b.refs) && same_base a.base b.base

-- whether a basic type is accepted as another
unfoldable pub is_seen_as : Basic → Basic → Bool
is_seen_as a b = same_basic a b || same_basic b int

-- the common type of a list of basic types, if all are equal; none if the list is empty
unfoldable pub common_type : List Basic → Option Basic
common_type [] = None
common_type (b ∷ bs) = if list_all (same_basic b) bs then Some b else None

-- the basic types of the cells of a run
abbrev pub types_of_run : Object → ℕ → ℕ → List Basic
types_of_run o first m = map basic_of (slice_range o.cells first (first + m))

-- the type, if a `ref` can refer to it, that is, if it has fewer than 8 refs itself
abbrev pub only_referable : Option Basic → Option Basic
only_referable None = None
only_referable (Some b) = if nat_lt b.refs 8 then Some b else None

-- the type of the cells of a run, if all have the same type and a `ref` can refer to it
unfoldable pub run_type : Object → ℕ → ℕ → Option Basic
run_type o first m = only_referable (common_type (types_of_run o first m))

-- the cells of a run all have this basic type, and a `ref` can refer to it
pub record IsRunOf (o : Object) (first m : ℕ) (b : Basic) : Type 0 where
  pub each : (k : ℕ) → k < m → cell_type o (cell_address (first + k)) ≡ Some b
  pub referable : b.refs < 8

-- whether a block was found and has code type t
abbrev pub is_code_type : Option ℕ → ℕ → Bool
is_code_type None t = false
is_code_type (Some u) t = u == t

-- whether a cell was found and has this basic type
abbrev pub is_cell_type : Option Basic → Basic → Bool
is_cell_type None b = false
is_cell_type (Some a) b = same_basic a b

-- whether a word has the basic type of n refs over a base
abbrev pub has_type_over : Object → ℕ → ℕ → Base → Bool
has_type_over o w zero Int = true
has_type_over o w zero (Code t) = is_code_type (code_type_at o w) t
has_type_over o w (suc k) base = is_cell_type (cell_type o w) (record { refs = k; base = base })

-- whether a word has a basic type
unfoldable pub has_type : Object → ℕ → Basic → Bool
has_type o w b = has_type_over o w b.refs b.base
