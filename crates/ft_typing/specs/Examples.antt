-- Short names for the objects of the examples.
use Rattle.std.specs.Prelude.{ℕ, zero, suc, ◌+◌, List, [], ◌∷◌, slice_set, codes}
use Rattle.std.proofs.Common.{lit<}
use Rattle.ft_isa.specs.declared.colour.Colour.TheVariants.{Green, Blue}
use Rattle.ft_isa.specs.declared.colour.Coloured.{Coloured}
use Rattle.ft_isa.specs.declared.instr.Instr.{Instr}
use Rattle.ft_isa.specs.declared.instr.Instr.TheVariants.{OpReg, OpWord, Mov, Ld, St, Halt, Idx}
use Rattle.ft_isa.specs.declared.op.Op.TheVariants.{Add, Mul}
use Rattle.ft_isa.specs.declared.reg.Reg.{Reg}
use Rattle.ft_isa.specs.declared.basic.Basic.{Basic}
use Rattle.ft_isa.specs.declared.basic.Base.TheVariants.{Int}
use Rattle.ft_isa.specs.BasicTypes.{int, ref}
use Rattle.ft_static.specs.declared.node.Shape.TheVariants as shape
use Rattle.ft_types.specs.declared.object.Object.{Object}
use Rattle.ft_types.specs.declared.object.Cell.{Cell}
use Rattle.ft_types.specs.declared.object.CodeType.{CodeType}

-- registers: from r0 on for the green computation, from r32 on for the blue one
abbrev pub r0 : Reg
r0 = record { number = 0; in_range = lit< tt }

abbrev pub r1 : Reg
r1 = record { number = 1; in_range = lit< tt }

abbrev pub r2 : Reg
r2 = record { number = 2; in_range = lit< tt }

abbrev pub r3 : Reg
r3 = record { number = 3; in_range = lit< tt }

abbrev pub r9 : Reg
r9 = record { number = 9; in_range = lit< tt }

abbrev pub r32 : Reg
r32 = record { number = 32; in_range = lit< tt }

abbrev pub r33 : Reg
r33 = record { number = 33; in_range = lit< tt }

abbrev pub r34 : Reg
r34 = record { number = 34; in_range = lit< tt }

abbrev pub r35 : Reg
r35 = record { number = 35; in_range = lit< tt }

-- a green and a blue word
abbrev pub green : ℕ → Coloured
green w = record { colour = Green; word = w }

abbrev pub blue : ℕ → Coloured
blue w = record { colour = Blue; word = w }

-- the address of the cell `out`, and of the next cell
abbrev pub out : ℕ
out = 1048576

abbrev pub two : ℕ
two = 1048577

-- a cell of type `int`
abbrev pub int_cell : List ℕ → ℕ → Cell
int_cell name init = record { name = name; basic = int; init = init }

-- a code type with nothing but the memory variable
abbrev pub nothing_known : CodeType
nothing_known = record { ints = 0; regs = []; queue = []; memory = 0 }

-- an object with these instructions as its one block, and the cell `out` with this initial word
abbrev pub one_block : ℕ → List Instr → Object
one_block init instrs = record {
  cells = int_cell (codes "out") init ∷ [];
  nodes = record { scope = 0; shape = shape.Memory } ∷ [];
  types = nothing_known ∷ [];
  blocks = record { start = 0; code_type = 0 } ∷ [];
  instrs = instrs;
  substs = [];
  entry = 0;
}

-- an object with these instructions as its one block, and these cells
abbrev pub over_cells : List Cell → List Instr → Object
over_cells cells instrs = record (one_block 0 instrs) { cells = cells }

-- a run of three cells, the second of which has this basic type and initial word
abbrev pub run_of_three : Basic → ℕ → List Cell
run_of_three basic init =
    int_cell (codes "a[0]") 0 ∷ record { name = codes "a[1]"; basic = basic; init = init } ∷ int_cell (codes "a[2]") 0 ∷ []

-- n cells, numbered from k; each holds the address just before its own, and the type of cell i has i refs
abbrev pub refs_upwards : ℕ → ℕ → List Cell
refs_upwards k zero = []
refs_upwards k (suc n) = record { name = (97 + k) ∷ []; basic = record { refs = k; base = Int }; init = 1048575 + k } ∷ refs_upwards (suc k) n

-- the list with instruction k replaced
abbrev pub with_instr : ℕ → Instr → List Instr → List Instr
with_instr k i is = slice_set is k i

-- five is stored in `out`
abbrev pub stores_five : List Instr
stores_five =
    Mov r0 (ref int) (green out) ∷ Mov r1 int (green 5) ∷ Mov r32 (ref int) (blue out) ∷ Mov r33 int (blue 5)
    ∷ St Green r0 r1 ∷ St Blue r32 r33 ∷ Halt ∷ []

-- five and six are stored; green reads six while both are pending, blue after both are committed; six is stored again
abbrev pub reads_pending : List Instr
reads_pending =
    Mov r0 (ref int) (green out) ∷ Mov r1 int (green 5) ∷ Mov r2 int (green 6)
    ∷ Mov r32 (ref int) (blue out) ∷ Mov r33 int (blue 5) ∷ Mov r34 int (blue 6)
    ∷ St Green r0 r1 ∷ St Green r0 r2 ∷ Ld Green r3 r0 ∷ St Blue r32 r33 ∷ St Blue r32 r34 ∷ Ld Blue r35 r32
    ∷ St Green r0 r3 ∷ St Blue r32 r35 ∷ Halt ∷ []

-- `out` is doubled, by a product in green and by a sum in blue
abbrev pub doubles : List Instr
doubles =
    Mov r0 (ref int) (green out) ∷ Ld Green r1 r0 ∷ OpWord Mul r2 r1 (green 2)
    ∷ Mov r32 (ref int) (blue out) ∷ Ld Blue r33 r32 ∷ OpReg Add r34 r33 r33
    ∷ St Green r0 r2 ∷ St Blue r32 r34 ∷ Halt ∷ []

-- 9 is stored in the cell that index 4 selects in a run of three: the second
abbrev pub stores_in_run : List Instr
stores_in_run =
    Mov r0 int (green 4) ∷ Idx r1 r0 0 3 ∷ Mov r2 int (green 9) ∷ Mov r32 int (blue 4) ∷ Idx r33 r32 0 3 ∷ Mov r34 int (blue 9)
    ∷ St Green r1 r2 ∷ St Blue r33 r34 ∷ Halt ∷ []

-- the address of a cell in a run is computed but not used
abbrev pub takes_address : ℕ → ℕ → List Instr
takes_address first length = Mov r0 int (green 4) ∷ Idx r1 r0 first length ∷ Halt ∷ []

-- nine green stores
abbrev pub stores_nine_times : List Instr
stores_nine_times =
    Mov r0 (ref int) (green out) ∷ Mov r1 int (green 5)
    ∷ St Green r0 r1 ∷ St Green r0 r1 ∷ St Green r0 r1 ∷ St Green r0 r1 ∷ St Green r0 r1 ∷ St Green r0 r1
    ∷ St Green r0 r1 ∷ St Green r0 r1 ∷ St Green r0 r1 ∷ Halt ∷ []
