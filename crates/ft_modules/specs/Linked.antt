-- The object that a map makes of modules: their tables concatenated, references renumbered, and `mov`s of imported
-- addresses redirected.
use Rattle.std.specs.Prelude.{ℕ, zero, suc, ◌+◌, ◌==◌, ◌&&◌, List, [], ◌∷◌, ◌++◌, length, map, find, Option, Some, None}
use Rattle.ft_isa.specs.Words.{code_address}
use Rattle.ft_isa.specs.declared.basic.Basic.{Basic}
use Rattle.ft_isa.specs.declared.colour.Coloured.{Coloured}
use Rattle.ft_isa.specs.declared.reg.Reg.{Reg}
use Rattle.ft_isa.specs.declared.instr.Subst.{Subst}
use Rattle.ft_isa.specs.declared.instr.Instr.{Instr}
use Rattle.ft_isa.specs.declared.instr.Instr.TheVariants.{Mov, JmpB, BzB}
use Rattle.ft_static.specs.NodeParts.{renamed}
use Rattle.ft_static.specs.declared.node.Node.{Node}
use Rattle.ft_static.specs.declared.node.Shape.{Shape}
use Rattle.ft_types.specs.declared.object.Object.{Object}
use Rattle.ft_types.specs.declared.object.Block.{Block}
use Rattle.ft_types.specs.declared.object.CodeType.{CodeType}
use Rattle.ft_types.specs.declared.object.RegType.{RegType}
use Rattle.ft_isa.specs.BasicTypes.{code}
pub use Rattle.ft_modules.specs.declared.before.Before.{Before}
use Rattle.ft_link_map.specs.declared.link_map.LinkMap.{LinkMap}
use Rattle.ft_modules.specs.CodeWalk.{code_claimed}
use Rattle.ft_modules.specs.Links.{Link, links, start_in, type_in}

-- RAISED NUMBERS

-- the totals before the first module: all 0
abbrev pub nothing_before : Before
nothing_before = record { nodes = 0; types = 0; blocks = 0; instrs = 0; substs = 0 }

-- the totals before the next module
abbrev pub after_module : Before → Object → Before
after_module k o = record {
  nodes = k.nodes + length o.nodes;
  types = k.types + length o.types;
  blocks = k.blocks + length o.blocks;
  instrs = k.instrs + length o.instrs;
  substs = k.substs + length o.substs;
}

-- the totals before module m
unfoldable pub before_module : Before → List Object → ℕ → Before
before_module k [] m = k
before_module k (o ∷ os) zero = k
before_module k (o ∷ os) (suc m) = before_module (after_module k o) os m

-- a shape whose parts' numbers are raised by this many nodes
abbrev pub raised_shape : ℕ → Shape → Shape
raised_shape n x = renamed (λ k. n + k) x

-- a node, raised; its scope stays the same
abbrev pub raised_node : ℕ → Node → Node
raised_node n x = record { scope = x.scope; shape = raised_shape n x.shape }

-- a register row, raised; its basic type stays the same, since a module's rows name no code type
abbrev pub raised_row : ℕ → RegType → RegType
raised_row n r = record { reg = r.reg; colour = r.colour; basic = r.basic; expr = n + r.expr }

-- a queue row, raised: the nodes of its address and its value
abbrev pub raised_pair : ℕ → ℕ × ℕ → ℕ × ℕ
raised_pair n q = (n + q.0, n + q.1)

-- a code type, raised; its number of variables stays the same
abbrev pub raised_type : ℕ → CodeType → CodeType
raised_type n t = record { ints = t.ints; regs = map (raised_row n) t.regs; queue = map (raised_pair n) t.queue; memory = n + t.memory }

-- a block, raised: where it begins, and its code type
abbrev pub raised_block : Before → Block → Block
raised_block k b = record { start = k.instrs + b.start; code_type = k.types + b.code_type }

-- a substitution, raised: its rows, and the node of its memory
abbrev pub raised_subst : Before → Subst → Subst
raised_subst k u = record { first = k.substs + u.first; past = k.substs + u.past; memory = k.nodes + u.memory }

-- a `mov` with another word and another code type
abbrev pub moves_to : Reg → Coloured → ℕ → ℕ → Instr
moves_to rd x w t = Mov rd (code t) (record { colour = x.colour; word = w })

-- a `mov`, raised if it claims a code type
abbrev pub raised_mov : Before → Reg → Coloured → Basic → Option ℕ → Instr
raised_mov k rd x b None = Mov rd b x
raised_mov k rd x b (Some t) = moves_to rd x (k.instrs + x.word) (k.types + t)

-- an instruction, raised; the cells that an `idx` selects from are the same in all modules
abbrev pub raised_instr : Before → Instr → Instr
raised_instr k (Mov rd basic value) = raised_mov k rd value basic (code_claimed basic)
raised_instr k (JmpB rd subst) = JmpB rd (raised_subst k subst)
raised_instr k (BzB rz rd subst) = BzB rz rd (raised_subst k subst)
raised_instr k i = i

-- CHANGED MOVES

-- a code address that is redirected to another, at which a block of this code type begins
pub record Change : Type 0 where
  pub from : ℕ
  pub to : ℕ
  pub code_type : ℕ

-- a link, as a change of addresses in the linked object
abbrev pub change_of : List Object → Link → Change
change_of modules l = record {
  from = code_address ((before_module nothing_before modules l.module_of).instrs + start_in modules l.module_of l.block);
  to = code_address ((before_module nothing_before modules l.to_module).instrs + start_in modules l.to_module l.to_block);
  code_type = (before_module nothing_before modules l.to_module).types + type_in modules l.to_module l.to_block;
}

-- the change of an address, if there is one
abbrev pub change_at : List Change → ℕ → Option Change
change_at changes w = find (λ (c : Change). w == c.from) changes

-- a `mov`, changed if there is a change of its word
abbrev pub changed_by : Reg → Coloured → Basic → Option Change → Instr
changed_by rd x b None = Mov rd b x
changed_by rd x b (Some c) = moves_to rd x c.to c.code_type

-- a `mov`, changed only if it claims a code type
abbrev pub changed_mov : List Change → Reg → Coloured → Basic → Option ℕ → Instr
changed_mov changes rd x b None = Mov rd b x
changed_mov changes rd x b (Some t) = changed_by rd x b (change_at changes x.word)

-- an instruction, changed if it is a move of an imported address
abbrev pub changed_instr : List Change → Instr → Instr
changed_instr changes (Mov rd basic value) = changed_mov changes rd value basic (code_claimed basic)
changed_instr changes i = i

-- THE LINKED OBJECT

-- a table of the linked object: each module's part, made with the totals before it
unfoldable pub laid : {X : Type 0} → (Before → Object → List X) → Before → List Object → List X
laid part k [] = []
laid part k (o ∷ os) = part k o ++ laid part (after_module k o) os

-- a module's nodes
abbrev pub nodes_part : Before → Object → List Node
nodes_part k o = map (raised_node k.nodes) o.nodes

-- a module's code types
abbrev pub types_part : Before → Object → List CodeType
types_part k o = map (raised_type k.nodes) o.types

-- a module's blocks
abbrev pub blocks_part : Before → Object → List Block
blocks_part k o = map (raised_block k) o.blocks

-- a module's instructions
abbrev pub instrs_part : Before → Object → List Instr
instrs_part k o = map (raised_instr k) o.instrs

-- a module's substitution rows
abbrev pub substs_part : Before → Object → List ℕ
substs_part k o = map (λ n. k.nodes + n) o.substs

-- the entry: the first module's entry block, or if that is imported, the exported block
abbrev pub entry_by : List Object → ℕ → Option Link → ℕ
entry_by modules entry None = entry
entry_by modules entry (Some l) = (before_module nothing_before modules l.to_module).blocks + l.to_block

-- the first module and the others, linked by a map
abbrev pub linked : LinkMap → Object → List Object → Object
linked linkage first others =
    let modules : List Object = first ∷ others in
    let joins : List Link = links linkage in
    record {
      cells = first.cells;
      nodes = laid nodes_part nothing_before modules;
      types = laid types_part nothing_before modules;
      blocks = laid blocks_part nothing_before modules;
      instrs = map (changed_instr (map (change_of modules) joins)) (laid instrs_part nothing_before modules);
      substs = laid substs_part nothing_before modules;
      entry = entry_by modules first.entry (find (λ (l : Link). (l.module_of == 0) && (l.block == first.entry)) joins);
    }
