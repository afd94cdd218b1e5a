-- The object format: which bytes spell which object.
use Rattle.std.specs.Prelude.{◌≡◌, ℕ, ◌<◌, ◌≤◌, true, List, length, All, get_or}
use Rattle.std.specs.List.{list_all}
use Rattle.ft_types.specs.declared.object.Object.{Object}
use Rattle.ft_types.specs.declared.object.Cell.{Cell}
use Rattle.ft_types.specs.Spellable.{IsSpellable}
use Rattle.ft_format.specs.declared.version.Version.{Version}
use Rattle.ft_format.specs.Versions.{longest_name, may_follow}
use Rattle.ft_format.specs.NodeRecords.{SupportsNode}
use Rattle.ft_format.specs.InstrRecords.{SupportsInstr}
use Rattle.ft_format.specs.Rows.{spelling}

-- the version supports the name of this cell
pub record SupportsName (v : Version) (c : Cell) : Type 0 where
  pub short : length c.name ≤ longest_name v
  pub bytes : list_all (may_follow v) c.name ≡ true

-- the version supports everything in this object
pub record Supports (v : Version) (o : Object) : Type 0 where
  pub names : All (SupportsName v) o.cells
  pub nodes : All (SupportsNode v) o.nodes
  pub instrs : All (SupportsInstr v) o.instrs

-- the object obeys the rules of this version of the format, and these bytes are the header and the nine sections of its
-- tables
pub record Spells (bytes : List ℕ) (v : Version) (o : Object) : Type 0 where
  pub spellable : IsSpellable o
  pub has : Supports v o
  pub spelled : bytes ≡ spelling v o

-- each number of the list is a byte
abbrev pub AreBytes : List ℕ → Type 0
AreBytes bytes = (i : ℕ) → get_or bytes i 0 < 256
