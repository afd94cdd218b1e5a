-- Joins of imports with exports, as the code keeps them.
use Rattle.std.specs.Prelude.{◌≡◌, ℕ, ◌+◌, ◌==◌, ◌&&◌, Bool, List, Some, slice_get}
use Rattle.ft_isa.specs.Words.{code_address}
use Rattle.ft_types.specs.declared.object.Object.{Object}
use Rattle.ft_modules.specs.Linkable.{HasBlock}
use Rattle.ft_modules.specs.Linked.{before_module, nothing_before}
use Rattle.ft_modules.specs.Links.{Link, start_in, type_in}
use Rattle.ft_linker.specs.Tables.{AreLaid, CanBeLaid}
use Rattle.ft_linker.specs.declared.laying.Laid.{Laid}
use Rattle.ft_linker.specs.Numbers.{AreNumbered, AreCompared}
use Rattle.ft_linker.specs.declared.joins.Join.{Join}

-- a join as a link
abbrev pub link_as : Join → Link
link_as j = record { module_of = j.module_of; block = j.block; to_module = j.to_module; to_block = j.to_block }

-- the code address of a block of a module, and its code type, in the linked object
abbrev pub address_in : List Object → ℕ → ℕ → ℕ
address_in modules m b = code_address ((before_module nothing_before modules m).instrs + start_in modules m b)

abbrev pub code_type_in : List Object → ℕ → ℕ → ℕ
code_type_in modules m b = (before_module nothing_before modules m).types + type_in modules m b

-- the number of a block of a module in the linked object
abbrev pub number_in : List Object → ℕ → ℕ → ℕ
number_in modules m b = (before_module nothing_before modules m).blocks + b

-- both blocks of a join exist
pub record HasBoth (modules : List Object) (j : Join) : Type 0 where
  pub from : HasBlock modules j.module_of j.block
  pub to : HasBlock modules j.to_module j.to_block

-- whether a link is from this block of the first module
abbrev pub is_from : ℕ → Link → Bool
is_from entry l = (l.module_of == 0) && (l.block == entry)

-- these are the tables of these modules, and the numbers of all their nodes
pub record AreReady (modules : List Object) (l : Laid) (numbers : List ℕ) : Type 0 where
  pub can : CanBeLaid modules
  pub tables : AreLaid modules l
  pub numbered : AreNumbered l.nodes.items numbers
  pub compared : (m n : ℕ) (o x : Object) → slice_get modules m ≡ Some o → slice_get modules n ≡ Some x → AreCompared numbers o (before_module nothing_before modules m).nodes x (before_module nothing_before modules n).nodes
