-- Short names for the example objects with two blocks.
use Rattle.std.specs.Prelude.{ℕ, List, [], ◌∷◌, codes}
use Rattle.ft_isa.specs.declared.colour.Colour.TheVariants.{Green, Blue}
use Rattle.ft_isa.specs.declared.instr.Instr.{Instr}
use Rattle.ft_isa.specs.declared.instr.Instr.TheVariants.{Mov, St, JmpG, JmpB, BzG, BzB, Halt}
use Rattle.ft_isa.specs.declared.instr.Subst.{Subst}
use Rattle.ft_isa.specs.BasicTypes.{int, code, ref}
use Rattle.ft_typing.specs.Examples.{r0, r1, r2, r32, r33, r34, green, blue, out, int_cell, nothing_known}
use Rattle.ft_static.specs.declared.node.Node.{Node}
use Rattle.ft_static.specs.declared.node.Shape.TheVariants as shape
use Rattle.ft_types.specs.declared.object.Object.{Object}
use Rattle.ft_types.specs.declared.object.CodeType.{CodeType}

-- a code type with one integer variable, which r0 and r32 hold
abbrev pub variable_held : CodeType
variable_held = record { ints = 1; regs = record { reg = r0; colour = Green; basic = int; expr = 1 } ∷ record { reg = r32; colour = Blue; basic = int; expr = 1 } ∷ []; queue = []; memory = 0 }

-- the memory variable, an integer variable and the word 5
abbrev pub three_nodes : List Node
three_nodes = record { scope = 0; shape = shape.Memory } ∷ record { scope = 1; shape = shape.Var 0 } ∷ record { scope = 0; shape = shape.Word 5 } ∷ []

-- an object with these instructions as two blocks: the second begins at `second` and has the code type `variable_held`,
-- and the node of the word 5 is substituted for the variable
abbrev pub two_blocks : ℕ → List Instr → Object
two_blocks second instrs = record {
  cells = int_cell (codes "out") 0 ∷ [];
  nodes = three_nodes;
  types = nothing_known ∷ variable_held ∷ [];
  blocks = record { start = 0; code_type = 0 } ∷ record { start = second; code_type = 1 } ∷ [];
  instrs = instrs;
  substs = 2 ∷ [];
  entry = 0;
}

-- the substitution with that one row
abbrev pub five : Subst
five = record { first = 0; past = 1; memory = 0 }

-- the variable is stored in `out`
abbrev pub stores_variable : List Instr
stores_variable = Mov r2 (ref int) (green out) ∷ Mov r34 (ref int) (blue out) ∷ St Green r2 r0 ∷ St Blue r34 r32 ∷ Halt ∷ []

-- five is passed to a block that stores it
abbrev pub jumps : List Instr
jumps =
    Mov r0 int (green 5) ∷ Mov r32 int (blue 5) ∷ Mov r1 (code 1) (green 7) ∷ Mov r33 (code 1) (blue 7)
    ∷ JmpG r1 ∷ JmpB r33 five ∷ stores_variable

-- five is not zero, so the branch is not taken
abbrev pub branches : List Instr
branches =
    Mov r0 int (green 5) ∷ Mov r32 int (blue 5) ∷ Mov r1 (code 1) (green 8) ∷ Mov r33 (code 1) (blue 8)
    ∷ BzG r0 r1 ∷ BzB r32 r33 five ∷ Halt ∷ stores_variable

-- five is stored before it is passed on, so the memory isn't the memory variable
abbrev pub stores_and_jumps : List Instr
stores_and_jumps =
    Mov r0 int (green 5) ∷ Mov r32 int (blue 5) ∷ Mov r1 (code 1) (green 11) ∷ Mov r33 (code 1) (blue 11)
    ∷ Mov r2 (ref int) (green out) ∷ Mov r34 (ref int) (blue out) ∷ St Green r2 r0 ∷ St Blue r34 r32
    ∷ JmpG r1 ∷ JmpB r33 five ∷ stores_variable
