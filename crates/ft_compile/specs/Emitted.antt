-- The object of a flow: its blocks' instructions, with the nodes, code types and substitutions by which they are typed.
use Rattle.std.specs.Prelude.{◌≡◌, ℕ, ◌+◌, ◌≤◌, List, [], ◌∷◌, ◌++◌, map, length}
use Rattle.std.specs.List.{range_with_len, zip}
use Rattle.ft_isa.specs.declared.colour.Colour.TheVariants.{Green, Blue}
use Rattle.ft_isa.specs.declared.instr.Subst.{Subst}
use Rattle.ft_isa.specs.declared.instr.Instr.{Instr}
use Rattle.ft_isa.specs.declared.instr.Instr.TheVariants as instr
use Rattle.ft_isa.specs.BasicTypes.{int}
use Rattle.ft_static.specs.declared.node.Node.{Node}
use Rattle.ft_static.specs.declared.node.Shape.TheVariants as shape
use Rattle.ft_types.specs.declared.object.Object.{Object}
use Rattle.ft_types.specs.declared.object.Cell.{Cell}
use Rattle.ft_types.specs.declared.object.Block.{Block}
use Rattle.ft_types.specs.declared.object.CodeType.{CodeType}
use Rattle.ft_types.specs.declared.object.RegType.{RegType}
use Rattle.ft_scope.specs.Resolved.{Program, program_need, program_weight}
use Rattle.ft_lower.specs.Flow.{Blocks}
use Rattle.ft_lower.specs.Lowered.{lowered}
use Rattle.ft_lower.specs.Lowers.{Lowers}
use Rattle.ft_lower.specs.Size.{PairsBelow, blocks_size}
use Rattle.ft_lower.specs.Well.{IsWell}
use Rattle.ft_dup.specs.Images.{green, blue, starts, doubled}
use Rattle.ft_compile.specs.Noted.{Noted, node, first_pairs, blocks_noted}

-- the node of a variable
abbrev pub variable_node : ℕ → ℕ → Node
variable_node vars i = node vars (shape.Var i)

-- the notes before the first block: the memory variable and the integer variables
abbrev pub at_first : ℕ → Noted
at_first vars = record { nodes = node 0 shape.Memory ∷ map (variable_node vars) (range_with_len 0 vars); rows = []; substs = []; pairs = first_pairs; memory = 0 }

-- the notes after all blocks
abbrev pub noted : ℕ → Blocks → Noted
noted vars bs = blocks_noted vars 0 (at_first vars) bs

-- an instruction with the first of these substitutions, if it is a blue jump or branch and there is one
abbrev pub with_subst : Instr → List Subst → Instr
with_subst (instr.JmpB rd t) (u ∷ us) = instr.JmpB rd u
with_subst (instr.BzB rz rd t) (u ∷ us) = instr.BzB rz rd u
with_subst i us = i

-- the substitutions that are left after an instruction: a blue jump or branch takes the first
abbrev pub substs_left : Instr → List Subst → List Subst
substs_left (instr.JmpB rd t) (u ∷ us) = us
substs_left (instr.BzB rz rd t) (u ∷ us) = us
substs_left i us = us

-- the instructions, with these substitutions given to them in order
abbrev pub placed : List Subst → List Instr → List Instr
placed us [] = []
placed us (i ∷ is) = with_subst i us ∷ placed (substs_left i us) is

-- the rows of variable i in code type 1
abbrev pub green_row : ℕ → RegType
green_row i = record { reg = green i; colour = Green; basic = int; expr = 1 + i }

abbrev pub blue_row : ℕ → RegType
blue_row i = record { reg = blue i; colour = Blue; basic = int; expr = 1 + i }

-- code type 0, the entry's: only the memory is known
abbrev pub entry_type : CodeType
entry_type = record { ints = 0; regs = []; queue = []; memory = 0 }

-- code type 1: each variable is in both registers of its pair
abbrev pub variables_type : ℕ → CodeType
variables_type vars = record { ints = vars; regs = map green_row (range_with_len 0 vars) ++ map blue_row (range_with_len 0 vars); queue = []; memory = 0 }

-- a block that starts at this place, with code type 1
abbrev pub block_from : ℕ → Block
block_from s = record { start = s; code_type = 1 }

-- the blocks that start at these places: the first has code type 0, the others code type 1
abbrev pub blocks_at : List ℕ → List Block
blocks_at [] = []
blocks_at (s ∷ ss) = record { start = s; code_type = 0 } ∷ map block_from ss

-- a cell of type `int` with this name and initial word
abbrev pub cell_from : List ℕ × ℕ → Cell
cell_from x = record { name = x.0; basic = int; init = x.1 }

-- the object of these blocks, over cells with these names and initial words
abbrev pub emitted : List (List ℕ) → List ℕ → ℕ → Blocks → Object
emitted names inits vars bs = record {
  cells = map cell_from (zip names inits);
  nodes = (noted vars bs).nodes;
  types = entry_type ∷ variables_type vars ∷ [];
  blocks = blocks_at (starts bs);
  instrs = placed (noted vars bs).substs (doubled bs);
  substs = (noted vars bs).rows;
  entry = 0;
}

-- the object to which a program is compiled: that of the blocks to which it is lowered
abbrev pub compiled_object : Program → Object
compiled_object p = emitted p.names p.inits p.vars (lowered p)

-- the object is that of a flow of the program, over the program's cells and at most 32 variables: the flow's blocks are
-- well formed, their run over any initial words commits the outputs of the meaning of the program with these words and
-- ends when the meaning ends, they become at most as many instructions as the program weighs, and all their pairs are
-- below the program's need
pub record IsEmitted (p : Program) (o : Object) : Type 0 where
  pub flow : Blocks
  pub few : p.vars ≤ 32
  pub well : IsWell p.vars (length p.inits) flow
  pub runs : Lowers p flow
  pub light : blocks_size flow ≤ program_weight p
  pub pairs : PairsBelow (program_need p) flow
  pub object : o ≡ emitted p.names p.inits p.vars flow
