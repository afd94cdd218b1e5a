-- The sample object of n turns.
use Rattle.std.specs.Prelude.{ℕ, zero, suc, List, [], ◌∷◌, ◌++◌}
use Rattle.ft_isa.specs.declared.colour.Colour.TheVariants.{Green, Blue}
use Rattle.ft_isa.specs.declared.instr.Instr.{Instr}
use Rattle.ft_isa.specs.declared.instr.Instr.TheVariants.{OpWord, Mov, St, Halt}
use Rattle.ft_isa.specs.declared.op.Op.TheVariants.{Add, Mul}
use Rattle.ft_isa.specs.BasicTypes.{int, ref}
use Rattle.ft_typing.specs.Examples.{r0, r1, r32, r33, green, blue, out, one_block}
use Rattle.ft_types.specs.declared.object.Object.{Object}

-- the address of `out` and the value 0, in both colours
abbrev pub opening : List Instr
opening = Mov r0 (ref int) (green out) ∷ Mov r32 (ref int) (blue out) ∷ Mov r1 int (green 0) ∷ Mov r33 int (blue 0) ∷ []

-- the value becomes three times itself plus i, and is stored in `out`
abbrev pub turn : ℕ → List Instr
turn i =
    OpWord Mul r1 r1 (green 3) ∷ OpWord Add r1 r1 (green i) ∷ OpWord Mul r33 r33 (blue 3) ∷ OpWord Add r33 r33 (blue i)
    ∷ St Green r0 r1 ∷ St Blue r32 r33 ∷ []

-- n turns, numbered from i, and the end
abbrev pub turns_from : ℕ → ℕ → List Instr
turns_from i zero = Halt ∷ []
turns_from i (suc n) = turn i ++ turns_from (suc i) n

-- the object of n turns: one block, and the single cell `out`
abbrev pub sample_object : ℕ → Object
sample_object n = one_block 0 (opening ++ turns_from 1 n)
