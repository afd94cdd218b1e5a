-- Modules laid one after another: when they can be, and what their tables then are.
use Rattle.std.specs.Prelude.{◌≡◌, ℕ, ◌+◌, ◌≤◌, List, [], ◌∷◌, ◌++◌, length, Some, slice_get, All}
use Rattle.ft_isa.specs.declared.basic.Basic.{Basic}
use Rattle.ft_isa.specs.declared.colour.Coloured.{Coloured}
use Rattle.ft_isa.specs.declared.reg.Reg.{Reg}
use Rattle.ft_isa.specs.declared.instr.Instr.TheVariants.{Mov}
use Rattle.ft_types.specs.declared.object.Object.{Object}
use Rattle.ft_types.specs.Spellable.{IsSpellable}
use Rattle.ft_typing.specs.TypedWord.{HasType}
use Rattle.ft_modules.specs.Linkable.{AreFew}
use Rattle.ft_modules.specs.declared.before.Before.{Before}
use Rattle.ft_modules.specs.Linked.{laid, nothing_before, nodes_part, types_part, blocks_part, instrs_part, substs_part}
use Rattle.ft_linker.specs.declared.laying.Laid.{Laid}

-- a module fits after those before it: the totals of nodes, code types, blocks, instructions and substitution rows stay
-- within their limits
pub record Fits (k : Before) (o : Object) : Type 0 where
  pub nodes : k.nodes + length o.nodes ≤ 1048576
  pub types : k.types + length o.types ≤ 4096
  pub blocks : k.blocks + length o.blocks ≤ 65536
  pub instrs : k.instrs + length o.instrs ≤ 65536
  pub substs : k.substs + length o.substs ≤ 1048576

-- the word of each `mov` of a module has the type that the `mov` claims
abbrev pub HasTypedMoves : Object → Type 0
HasTypedMoves o = (n : ℕ) (rd : Reg) (v : Coloured) (b : Basic) → slice_get o.instrs n ≡ Some (Mov rd b v) → HasType o v.word b

-- modules that can be laid one after another
pub record CanBeLaid (modules : List Object) : Type 0 where
  pub spelled : All IsSpellable modules
  pub typed : All HasTypedMoves modules
  pub few : AreFew modules

-- the totals before a module, as a table with one row
abbrev pub start_part : Before → Object → List Before
start_part k o = k ∷ []

-- these are the tables of the modules, with their numbers raised
pub record AreLaid (modules : List Object) (l : Laid) : Type 0 where
  pub starts : l.starts.items ≡ laid start_part nothing_before modules
  pub nodes : l.nodes.items ≡ laid nodes_part nothing_before modules
  pub types : l.types.items ≡ laid types_part nothing_before modules
  pub blocks : l.blocks.items ≡ laid blocks_part nothing_before modules
  pub instrs : l.instrs.items ≡ laid instrs_part nothing_before modules
  pub substs : l.substs.items ≡ laid substs_part nothing_before modules

-- the new tables are the old ones followed by one more module's
pub record AddsModule (old new : Laid) (k : Before) (o : Object) : Type 0 where
  pub starts : new.starts.items ≡ old.starts.items ++ start_part k o
  pub nodes : new.nodes.items ≡ old.nodes.items ++ nodes_part k o
  pub types : new.types.items ≡ old.types.items ++ types_part k o
  pub blocks : new.blocks.items ≡ old.blocks.items ++ blocks_part k o
  pub instrs : new.instrs.items ≡ old.instrs.items ++ instrs_part k o
  pub substs : new.substs.items ≡ old.substs.items ++ substs_part k o
