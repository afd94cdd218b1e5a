-- Why modules are not linked: the refusals, in order.
use Rattle.std.specs.Prelude.{ℕ, suc, Bool, true, false, ◌&&◌, not, ◌==◌, nat_le, nat_lt, min, if◌then◌else◌, List, [], ◌∷◌, ◌++◌, length, find, slice_get, sum_by, Option, None, Some}
use Rattle.std.specs.List.{list_all}
use Rattle.std.specs.Option.{option_map, option_or, unwrap_or}
use Rattle.std.specs.FinMap as finite
use Rattle.ft_isa.specs.declared.basic.Base.{Base}
use Rattle.ft_isa.specs.declared.basic.Base.TheVariants.{Int, Code}
use Rattle.ft_isa.specs.declared.instr.Instr.{Instr}
use Rattle.ft_isa.specs.declared.instr.Instr.TheVariants.{Halt}
use Rattle.ft_types.specs.declared.object.Object.{Object}
use Rattle.ft_types.specs.declared.object.Cell.{Cell}
use Rattle.ft_types.specs.declared.object.Block.{Block}
use Rattle.ft_types.specs.declared.object.CodeType.{CodeType}
use Rattle.ft_types.specs.declared.object.RegType.{RegType}
use Rattle.ft_types.specs.Objects.{block_instrs}
use Rattle.ft_types.specs.Spellable.{reg_row_count, queue_row_count}
use Rattle.ft_typing.specs.TypedWord.{same_basic}
use Rattle.ft_link_map.specs.declared.link_map.Ask.{Ask}
use Rattle.ft_link_map.specs.declared.link_map.LinkMap.{LinkMap}
use Rattle.ft_modules.specs.CodeWalk.{code_walk}
use Rattle.ft_modules.specs.Links.{same_name, export_of, type_in}
use Rattle.ft_modules.specs.SameTrees.{like_types}

-- refusals 3 to 10: 3 to 6 carry the number of a module (5 also a block and an index in it), the others a line of the
-- map
pub data LinkRefusal : Type 0 where
  Cells : ℕ → LinkRefusal
  Rows : ℕ → LinkRefusal
  CodeOf : ℕ → ℕ → ℕ → LinkRefusal
  TooBig : ℕ → LinkRefusal
  NoBlock : ℕ → LinkRefusal
  Stub : ℕ → LinkRefusal
  Missing : ℕ → LinkRefusal
  Types : ℕ → LinkRefusal

-- REFUSALS OF MODULES

-- whether a base is `int`
abbrev pub is_int : Base → Bool
is_int Int = true
is_int (Code t) = false

-- whether two cells are equal
abbrev pub same_cell : Cell → Cell → Bool
same_cell a b = same_name a.name b.name && same_basic a.basic b.basic && (a.init == b.init)

-- whether two lists of cells are equal
abbrev pub same_cells : List Cell → List Cell → Bool
same_cells [] [] = true
same_cells [] (b ∷ bs) = false
same_cells (a ∷ xs) [] = false
same_cells (a ∷ xs) (b ∷ bs) = same_cell a b && same_cells xs bs

-- whether a cell's base is `int`
abbrev pub is_plain_cell : Cell → Bool
is_plain_cell c = is_int c.basic.base

-- whether a register row's base is `int`
abbrev pub is_plain_row : RegType → Bool
is_plain_row r = is_int r.basic.base

-- whether all of a code type's register rows have base `int`
abbrev pub has_plain_rows : CodeType → Bool
has_plain_rows t = list_all is_plain_row t.regs

-- the number of the first of these blocks in which the walk fails, counted from b, and the index in it
abbrev pub first_walk_fault : Object → ℕ → List Block → Option (ℕ × ℕ)
first_walk_fault o b [] = None
first_walk_fault o b (y ∷ ys) = option_or (option_map (λ i. (b, i)) (code_walk o finite.empty 0 (block_instrs o b))) (first_walk_fault o (suc b) ys)

-- whether the totals are within their limits
unfoldable pub are_few : List Object → Bool
are_few modules =
    nat_le (sum_by (λ (o : Object). length o.nodes) modules) 1048576
    && nat_le (sum_by (λ (o : Object). length o.types) modules) 4096
    && nat_le (sum_by (λ (o : Object). reg_row_count o.types) modules) 262144
    && nat_le (sum_by (λ (o : Object). queue_row_count o.types) modules) 32768
    && nat_le (sum_by (λ (o : Object). length o.blocks) modules) 65536
    && nat_le (sum_by (λ (o : Object). length o.instrs) modules) 65536
    && nat_le (sum_by (λ (o : Object). length o.substs) modules) 1048576

-- the refusal, if the test fails
abbrev pub unless : Bool → LinkRefusal → Option LinkRefusal
unless b r = if b then None else Some r

-- why module m is refused after these earlier modules, if it is; the first module has these cells
abbrev pub module_refusal : List Object → ℕ → List Cell → Object → Option LinkRefusal
module_refusal earlier m cells o =
    option_or (unless (same_cells o.cells cells && list_all is_plain_cell o.cells) (Cells m)) (
    option_or (unless (list_all has_plain_rows o.types) (Rows m)) (
    option_or (option_map (λ f. CodeOf m f.0 f.1) (first_walk_fault o 0 o.blocks)) (
    unless (are_few (earlier ++ o ∷ [])) (TooBig m))))

-- the first refusal of modules that are added in turn, if there is one
unfoldable pub modules_refusal : List Object → ℕ → List Cell → List Object → Option LinkRefusal
modules_refusal earlier m cells [] = None
modules_refusal earlier m cells (o ∷ os) = option_or (module_refusal earlier m cells o) (modules_refusal (earlier ++ o ∷ []) (suc m) cells os)

-- REFUSALS OF LINES

-- whether module m has block b
abbrev pub has_block : List Object → ℕ → ℕ → Bool
has_block modules m b = nat_lt b (unwrap_or (option_map (λ (o : Object). length o.blocks) (slice_get modules m)) 0)

-- the line of an export or an import
abbrev pub line_of : Ask → ℕ
line_of a = a.line

-- the line of the first of these exports or imports whose block does not exist
abbrev pub first_without : List Object → List Ask → Option ℕ
first_without modules asks = option_map line_of (find (λ (a : Ask). not (has_block modules a.module a.block)) asks)

-- the lower of two lines
abbrev pub lower_line : Option ℕ → Option ℕ → Option ℕ
lower_line None y = y
lower_line (Some a) None = Some a
lower_line (Some a) (Some b) = Some (min a b)

-- whether an instruction is `halt`
abbrev pub is_halt : Instr → Bool
is_halt Halt = true
is_halt i = false

-- whether a block of these instructions is a stub: the single instruction `halt`
abbrev pub is_stub : List Instr → Bool
is_stub [] = false
is_stub (i ∷ []) = is_halt i
is_stub (i ∷ j ∷ js) = false

-- the instructions of block b of module m
abbrev pub instrs_in : List Object → ℕ → ℕ → List Instr
instrs_in modules m b = unwrap_or (option_map (λ (o : Object). block_instrs o b) (slice_get modules m)) []

-- whether two modules exist and their code types t and u agree
abbrev pub like_in : Option Object → ℕ → Option Object → ℕ → Bool
like_in (Some o) t (Some x) u = like_types o t x u
like_in (Some o) t None u = false
like_in None t x u = false

-- why an import is refused, if it is, given the export of its name
abbrev pub for_export : List Object → Ask → Option Ask → Option LinkRefusal
for_export modules i None = Some (Missing i.line)
for_export modules i (Some e) = unless (like_in (slice_get modules i.module) (type_in modules i.module i.block) (slice_get modules e.module) (type_in modules e.module e.block)) (Types i.line)

-- why an import is refused, if it is: its block is not a stub, its name is not exported, or the code types differ
abbrev pub import_refusal : List Object → List Ask → Ask → Option LinkRefusal
import_refusal modules exports i = option_or (unless (is_stub (instrs_in modules i.module i.block)) (Stub i.line)) (for_export modules i (export_of exports i.name))

-- the refusal of the first import that is refused
unfoldable pub imports_refusal : List Object → List Ask → List Ask → Option LinkRefusal
imports_refusal modules exports [] = None
imports_refusal modules exports (i ∷ is) = option_or (import_refusal modules exports i) (imports_refusal modules exports is)

-- why a map's modules cannot be linked, if they cannot
abbrev pub link_refusal : LinkMap → Object → List Object → Option LinkRefusal
link_refusal linkage first others =
    let modules : List Object = first ∷ others in
    option_or (modules_refusal [] 0 first.cells modules) (
    option_or (option_map NoBlock (lower_line (first_without modules linkage.exports) (first_without modules linkage.imports))) (
    imports_refusal modules linkage.exports linkage.imports))
