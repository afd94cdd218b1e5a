-- Changing the initial word of a cell.
use Rattle.std.specs.Prelude.{◌≡◌, ◌≢◌, ℕ, zero, suc, ◌≤◌, List, [], ◌∷◌, length, Some, slice_get, slice_set}
use Rattle.ft_isa.specs.BasicTypes.{int}
use Rattle.ft_types.specs.declared.object.Object.{Object}
use Rattle.ft_types.specs.declared.object.Cell.{Cell}
use Rattle.ft_typing.specs.Accepted.{IsAccepted}
use Rattle.ft_format.specs.Format.{Spells}
use Rattle.ft_format.specs.Broken.{object_of, version_at}
use Rattle.ft_scope.specs.Resolved.{Program}
use Rattle.ft_scope.specs.InitialWords.{program_with_words}
use Rattle.ft_types.specs.InitialWords.{begun_with}
use Rattle.ft_compile.specs.StandsFor.{StandsFor}

-- the cells, with another initial word in cell k
abbrev pub with_word : List Cell → ℕ → ℕ → List Cell
with_word [] k w = []
with_word (c ∷ cs) zero w = begun_with c w ∷ cs
with_word (c ∷ cs) (suc k) w = c ∷ with_word cs k w

-- the program with another initial word in cell k
abbrev pub program_with_word : Program → ℕ → ℕ → Program
program_with_word p k w = program_with_words p (slice_set p.inits k w)

-- the object with another initial word in cell k
abbrev pub object_with_word : Object → ℕ → ℕ → Object
object_with_word o k w = record o { cells = with_word o.cells k w }

-- the bytes spell an object, and this is its cell k
pub record HasCell (bytes : List ℕ) (k : ℕ) (c : Cell) : Type 0 where
  pub spelled : Spells bytes (version_at bytes) (object_of bytes)
  pub there : slice_get (object_of bytes).cells k ≡ Some c

-- the bytes spell an object whose cell k is of type `int`
pub record HasIntCell (bytes : List ℕ) (k : ℕ) : Type 0 where
  pub cell : Cell
  pub has : HasCell bytes k cell
  pub is_int : cell.basic ≡ int

-- the bytes spell an object whose cell k is of another type
pub record HasOtherCell (bytes : List ℕ) (k : ℕ) : Type 0 where
  pub cell : Cell
  pub has : HasCell bytes k cell
  pub not_int : cell.basic ≢ int

-- the bytes spell an object that has no cell k
pub record HasNoCell (bytes : List ℕ) (k : ℕ) : Type 0 where
  pub spelled : Spells bytes (version_at bytes) (object_of bytes)
  pub none : length (object_of bytes).cells ≤ k

-- the old bytes spell an object whose cell k is of type `int`, and the new ones spell, in the same version, that object
-- with this initial word in cell k; the new object is accepted exactly when the old one is, and if the old one stands for
-- a program, the new one stands for the program with this initial word in cell k
pub record IsSet (old new : List ℕ) (k w : ℕ) : Type 0 where
  pub cell : HasIntCell old k
  pub spelled : Spells new (version_at old) (object_with_word (object_of old) k w)
  pub version : version_at new ≡ version_at old
  pub object : object_of new ≡ object_with_word (object_of old) k w
  pub accepted : IsAccepted (object_of old) → IsAccepted (object_of new)
  pub only : IsAccepted (object_of new) → IsAccepted (object_of old)
  pub stands : (p : Program) → StandsFor p (object_of old) → StandsFor (program_with_word p k w) (object_of new)
