-- When no refusal applies to modules and their map.
use Rattle.std.specs.Prelude.{◌≡◌, ℕ, ◌≤◌, ◌<◌, List, [], ◌∷◌, length, slice_get, Some, None}
use Rattle.std.specs.FinMap as finite
use Rattle.std.specs.Prelude.{All, sum_by}
use Rattle.ft_isa.specs.declared.basic.Base.TheVariants.{Int}
use Rattle.ft_isa.specs.declared.instr.Instr.TheVariants.{Halt}
use Rattle.ft_types.specs.declared.object.Object.{Object}
use Rattle.ft_types.specs.declared.object.Cell.{Cell}
use Rattle.ft_types.specs.declared.object.CodeType.{CodeType}
use Rattle.ft_types.specs.declared.object.RegType.{RegType}
use Rattle.ft_typing.specs.Accepted.{IsAccepted}
use Rattle.ft_types.specs.Objects.{block_instrs}
use Rattle.ft_types.specs.Spellable.{IsSpellable, reg_row_count, queue_row_count}
use Rattle.ft_link_map.specs.declared.link_map.Ask.{Ask}
use Rattle.ft_link_map.specs.declared.link_map.LinkMap.{LinkMap}
use Rattle.ft_modules.specs.CodeWalk.{code_walk}
use Rattle.ft_modules.specs.LikeTypes.{LikeTypes}
use Rattle.ft_modules.specs.Links.{Link, links, export_of, type_in}

-- the cell's base is `int`; otherwise refusal 3 applies
abbrev pub HasPlainCell : Cell → Type 0
HasPlainCell c = c.basic.base ≡ Int

-- the register row's base is `int`; otherwise refusal 4 applies
abbrev pub HasPlainRow : RegType → Type 0
HasPlainRow r = r.basic.base ≡ Int

-- the bases of a code type's register rows are `int`
abbrev pub HasPlainRows : CodeType → Type 0
HasPlainRows t = All HasPlainRow t.regs

-- a module that can be linked with modules that have these cells, within the limits on totals: it is spellable and
-- accepted, and refusals 3, 4 and 5 do not apply, so only refusal 6 can keep it from being added
pub record IsModule (cells : List Cell) (o : Object) : Type 0 where
  pub spelled : IsSpellable o
  pub accepted : IsAccepted o
  pub same_cells : o.cells ≡ cells
  pub plain_cells : All HasPlainCell o.cells
  pub plain_rows : All HasPlainRows o.types
  pub walked : (b : ℕ) → b < length o.blocks → code_walk o finite.empty 0 (block_instrs o b) ≡ None

-- the totals are within their limits; otherwise refusal 6 applies
pub record AreFew (modules : List Object) : Type 0 where
  pub nodes : sum_by (λ (o : Object). length o.nodes) modules ≤ 1048576
  pub types : sum_by (λ (o : Object). length o.types) modules ≤ 4096
  pub reg_rows : sum_by (λ (o : Object). reg_row_count o.types) modules ≤ 262144
  pub queue_rows : sum_by (λ (o : Object). queue_row_count o.types) modules ≤ 32768
  pub blocks : sum_by (λ (o : Object). length o.blocks) modules ≤ 65536
  pub instrs : sum_by (λ (o : Object). length o.instrs) modules ≤ 65536
  pub substs : sum_by (λ (o : Object). length o.substs) modules ≤ 1048576

-- the module has the block; otherwise refusal 7 applies
pub record HasBlock (modules : List Object) (m b : ℕ) : Type 0 where
  pub object : Object
  pub there : slice_get modules m ≡ Some object
  pub below : b < length object.blocks

-- both blocks of a link exist, the imported one is a stub, and their code types agree; otherwise refusal 7, 8 or 10
-- applies
pub record IsJoined (modules : List Object) (l : Link) : Type 0 where
  pub from : HasBlock modules l.module_of l.block
  pub to : HasBlock modules l.to_module l.to_block
  pub stub : block_instrs from.object l.block ≡ Halt ∷ []
  pub types : LikeTypes from.object (type_in modules l.module_of l.block) to.object (type_in modules l.to_module l.to_block)

-- the import's name is exported; otherwise refusal 9 applies
abbrev pub IsExported : List Ask → Ask → Type 0
IsExported exports i = (e : Ask) × (export_of exports i.name ≡ Some e)

-- none of refusals 3 to 10 applies
pub record AreLinkable (linkage : LinkMap) (first : Object) (others : List Object) : Type 0 where
  pub modules : All (IsModule first.cells) (first ∷ others)
  pub few : AreFew (first ∷ others)
  pub exports : All (λ (e : Ask). HasBlock (first ∷ others) e.module e.block) linkage.exports
  pub exported : All (IsExported linkage.exports) linkage.imports
  pub joined : All (IsJoined (first ∷ others)) (links linkage)
