-- The instructions of a flow.
use Rattle.std.specs.Prelude.{ℕ, zero, suc, ◌+◌, List, [], ◌∷◌, ◌++◌}
use Rattle.std.specs.Option.{unwrap_or}
use Rattle.std.proofs.Common.{refl}
use borrow.Author.Tests.{ltb-true}
use Rattle.ft_isa.specs.Words.{code_address, cell_address}
use Rattle.ft_isa.specs.Registers.{reg_of}
use Rattle.ft_isa.specs.BasicTypes.{int, code, ref}
use Rattle.ft_isa.specs.declared.colour.Colour.TheVariants.{Green, Blue}
use Rattle.ft_isa.specs.declared.colour.Coloured.{Coloured}
use Rattle.ft_isa.specs.declared.reg.Reg.{Reg}
use Rattle.ft_isa.specs.declared.basic.Basic.{Basic}
use Rattle.ft_isa.specs.declared.instr.Subst.{Subst}
use Rattle.ft_isa.specs.declared.op.Op.TheVariants.{Add}
use Rattle.ft_isa.specs.declared.instr.Instr.{Instr}
use Rattle.ft_isa.specs.declared.instr.Instr.TheVariants as instr
use Rattle.ft_lower.specs.declared.step3.Step3.{Step3}
use Rattle.ft_lower.specs.declared.step3.Step3.TheVariants.{Put, Copy, Op, Load, Store, LoadAt, StoreAt, Exit, Go, Stop}
use Rattle.ft_lower.specs.Flow.{Blocks}
use Rattle.ft_lower.specs.Size.{row_size}

-- register 0
abbrev pub register_zero : Reg
register_zero = record { number = 0; in_range = ltb-true 0 64 refl }

-- the green register of a pair, and the blue one, if the pair is below 32
abbrev pub green : ℕ → Reg
green p = unwrap_or (reg_of p) register_zero

abbrev pub blue : ℕ → Reg
blue p = unwrap_or (reg_of (32 + p)) register_zero

-- a green word and a blue one
abbrev pub green_word : ℕ → Coloured
green_word w = record { colour = Green; word = w }

abbrev pub blue_word : ℕ → Coloured
blue_word w = record { colour = Blue; word = w }

-- the empty substitution
abbrev pub empty : Subst
empty = record { first = 0; past = 0; memory = 0 }

-- green and blue moves of a word into the two registers of a pair
abbrev pub moves : ℕ → ℕ → Basic → List Instr → List Instr
moves p w b rest = instr.Mov (green p) b (green_word w) ∷ instr.Mov (blue p) b (blue_word w) ∷ rest

-- a green and a blue `idx`, which put the address of the array cell that the word of pair q selects into the registers
-- of pair p
abbrev pub indexes : ℕ → ℕ → ℕ → ℕ → List Instr → List Instr
indexes p q first length rest = instr.Idx (green p) (green q) first length ∷ instr.Idx (blue p) (blue q) first length ∷ rest

-- a green and a blue load, each from the address in a register of a pair into that register
abbrev pub loads : ℕ → List Instr
loads p = instr.Ld Green (green p) (green p) ∷ instr.Ld Blue (blue p) (blue p) ∷ []

-- green and blue stores of pair q to the addresses in both registers of a pair
abbrev pub stores : ℕ → ℕ → List Instr
stores p q = instr.St Green (green p) (green q) ∷ instr.St Blue (blue p) (blue q) ∷ []

-- the instructions of a step, if `start b` is the place of the first instruction of block b
abbrev pub image : (ℕ → ℕ) → Step3 → List Instr
image start (Put p w) = moves p w int []
image start (Copy p q) = instr.OpWord Add (green p) (green q) (green_word 0) ∷ instr.OpWord Add (blue p) (blue q) (blue_word 0) ∷ []
image start (Op o p q s) = instr.OpReg o (green p) (green q) (green s) ∷ instr.OpReg o (blue p) (blue q) (blue s) ∷ []
image start (Load p c) = moves p (cell_address c) (ref int) (loads p)
image start (Store c q spare) = moves spare (cell_address c) (ref int) (stores spare q)
image start (LoadAt p q first length) = indexes p q first length (loads p)
image start (StoreAt first length i q spare) = indexes spare i first length (stores spare q)
image start (Exit q spare to) = moves spare (code_address (start to)) (code 1) (instr.BzG (green q) (green spare) ∷ instr.BzB (blue q) (blue spare) empty ∷ [])
image start (Go spare to) = moves spare (code_address (start to)) (code 1) (instr.JmpG (green spare) ∷ instr.JmpB (blue spare) empty ∷ [])
image start Stop = instr.Halt ∷ []

-- the instructions of the steps of a row
abbrev pub row_images : (ℕ → ℕ) → List Step3 → List Instr
row_images start [] = []
row_images start (i ∷ is) = image start i ++ row_images start is

-- the instructions of the steps of all blocks
abbrev pub blocks_images : (ℕ → ℕ) → Blocks → List Instr
blocks_images start [] = []
blocks_images start (b ∷ bs) = row_images start b ++ blocks_images start bs

-- the places of the blocks' first instructions, if the first block's is n
abbrev pub starts_from : ℕ → Blocks → List ℕ
starts_from n [] = []
starts_from n (b ∷ bs) = n ∷ starts_from (n + row_size b) bs

abbrev pub starts : Blocks → List ℕ
starts bs = starts_from 0 bs

-- the place of a block's first instruction
abbrev pub start_of : Blocks → ℕ → ℕ
start_of [] b = 0
start_of (x ∷ bs) zero = 0
start_of (x ∷ bs) (suc b) = row_size x + start_of bs b

-- the instructions of a flow
abbrev pub doubled : Blocks → List Instr
doubled bs = blocks_images (start_of bs) bs
