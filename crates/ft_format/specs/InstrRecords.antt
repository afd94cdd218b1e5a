-- The record of an instruction: its numbers, what they encode, which instructions fit, which ones a version supports,
-- and the rules.
use Rattle.std.specs.Prelude.{ℕ, ◌+◌, ◌/◌, ◌%◌, ◌^◌, ◌≤◌, true, ◌==◌, nat_lt, nat_le, List, [], ◌∷◌, Option, Some, None, if◌then◌else◌}
use Rattle.ft_isa.specs.Words.{IsWord}
use Rattle.ft_isa.specs.Operations.{op_code, op_of}
use Rattle.ft_isa.specs.declared.reg.Reg.{Reg}
use Rattle.ft_isa.specs.declared.instr.Subst.{Subst}
use Rattle.ft_isa.specs.declared.instr.Instr.{Instr}
use Rattle.ft_isa.specs.declared.instr.Instr.TheVariants.{OpReg, OpWord, Mov, Ld, St, JmpG, JmpB, BzG, BzB, Halt, Idx}
use Rattle.ft_static.specs.declared.node.Node.{Node}
use Rattle.ft_types.specs.NodeRows.{high_half, low_half}
use Rattle.ft_format.specs.declared.version.Version.{Version}
use Rattle.ft_format.specs.declared.object_error.ObjectError.{ObjectError}
use Rattle.ft_format.specs.declared.object_error.ObjectError.TheVariants as errors
use Rattle.ft_format.specs.declared.header.Header.{Header}
use Rattle.ft_format.specs.Versions.{SupportsOp, version_of, last_instr_kind}
use Rattle.ft_format.specs.Codes.{colour_code, basic_number, register_of, colour_of, basic_type_of, coloured, Is32, FitsBasic}
use Rattle.ft_format.specs.Rules.{must, ◌next◌, zero_broken, some_broken, colour_broken, op_broken, register_broken, basic_broken, node_number_broken}

-- the numbers of an instruction
abbrev pub instr_row : Instr → List ℕ
instr_row (OpReg op rd rs rt) = 0 ∷ rd.number ∷ rs.number ∷ rt.number ∷ op_code op ∷ 0 ∷ 0 ∷ []
instr_row (OpWord op rd rs value) = 1 ∷ rd.number ∷ rs.number ∷ colour_code value.colour ∷ op_code op ∷ high_half value.word ∷ low_half value.word ∷ []
instr_row (Mov rd basic value) = 2 ∷ rd.number ∷ 0 ∷ colour_code value.colour ∷ basic_number basic ∷ high_half value.word ∷ low_half value.word ∷ []
instr_row (Ld colour rd rs) = 3 ∷ rd.number ∷ rs.number ∷ colour_code colour ∷ 0 ∷ 0 ∷ 0 ∷ []
instr_row (St colour rd rs) = 4 ∷ rd.number ∷ rs.number ∷ colour_code colour ∷ 0 ∷ 0 ∷ 0 ∷ []
instr_row (JmpG rd) = 5 ∷ rd.number ∷ 0 ∷ 0 ∷ 0 ∷ 0 ∷ 0 ∷ []
instr_row (JmpB rd s) = 5 ∷ rd.number ∷ 0 ∷ 1 ∷ s.first ∷ s.past ∷ s.memory ∷ []
instr_row (BzG rz rd) = 6 ∷ rz.number ∷ rd.number ∷ 0 ∷ 0 ∷ 0 ∷ 0 ∷ []
instr_row (BzB rz rd s) = 6 ∷ rz.number ∷ rd.number ∷ 1 ∷ s.first ∷ s.past ∷ s.memory ∷ []
instr_row Halt = 7 ∷ 0 ∷ 0 ∷ 0 ∷ 0 ∷ 0 ∷ 0 ∷ []
instr_row (Idx rd rs first m) = 8 ∷ rd.number ∷ rs.number ∷ 0 ∷ first ∷ 0 ∷ m ∷ []

-- the substitution that a jump or branch carries, if it is blue
abbrev pub carried : ℕ → ℕ → ℕ → ℕ → Option Subst
carried colour x high low = if colour == 0 then None else Some (record { first = x; past = high; memory = low })

-- the jump, green without a substitution, blue with one
abbrev pub jump_of : Reg → Option Subst → Instr
jump_of rd None = JmpG rd
jump_of rd (Some s) = JmpB rd s

-- the branch, green without a substitution, blue with one
abbrev pub branch_of : Reg → Reg → Option Subst → Instr
branch_of rz rd None = BzG rz rd
branch_of rz rd (Some s) = BzB rz rd s

-- an instruction, from its kind and its fields
abbrev pub instr_by : ℕ → ℕ → ℕ → ℕ → ℕ → ℕ → ℕ → Instr
instr_by kind a b c x high low =
    if kind == 0 then OpReg (op_of x) (register_of a) (register_of b) (register_of c)
    else (if kind == 1 then OpWord (op_of x) (register_of a) (register_of b) (coloured c high low)
    else (if kind == 2 then Mov (register_of a) (basic_type_of (x / 2 ^ 24) (x / 2 ^ 16 % 2 ^ 8) (x % 2 ^ 16)) (coloured c high low)
    else (if kind == 3 then Ld (colour_of c) (register_of a) (register_of b)
    else (if kind == 4 then St (colour_of c) (register_of a) (register_of b)
    else (if kind == 5 then jump_of (register_of a) (carried c x high low)
    else (if kind == 6 then branch_of (register_of a) (register_of b) (carried c x high low)
    else (if kind == 7 then Halt
    else Idx (register_of a) (register_of b) x low)))))))

-- an instruction, from its record
abbrev pub instr_of : List ℕ → Instr
instr_of (kind ∷ a ∷ b ∷ c ∷ x ∷ high ∷ low ∷ []) = instr_by kind a b c x high low
instr_of _ = Halt

-- the row after the last one that the substitutions up to this instruction take
abbrev pub rows_past : ℕ → List ℕ → ℕ
rows_past first (kind ∷ a ∷ b ∷ c ∷ x ∷ high ∷ low ∷ []) = if kind == 5 then (if c == 0 then first else high) else (if kind == 6 then (if c == 0 then first else high) else first)
rows_past first _ = first

-- the numbers of a substitution fit their fields
abbrev pub FitsSubst : Subst → Type 0
FitsSubst s = Is32 s.first × Is32 s.past × Is32 s.memory

-- the numbers of an instruction fit
abbrev pub FitsInstr : Instr → Type 0
FitsInstr (OpWord op rd rs value) = IsWord value.word
FitsInstr (Mov rd basic value) = IsWord value.word × FitsBasic basic
FitsInstr (JmpB rd subst) = FitsSubst subst
FitsInstr (BzB rz rd subst) = FitsSubst subst
FitsInstr (Idx rd rs first m) = Is32 first × Is32 m
FitsInstr _ = Unit {0}

-- the version supports this instruction; an `idx` has kind 8
abbrev pub SupportsInstr : Version → Instr → Type 0
SupportsInstr v (OpReg op rd rs rt) = SupportsOp v op
SupportsInstr v (OpWord op rd rs value) = SupportsOp v op
SupportsInstr v (Idx rd rs first m) = 8 ≤ last_instr_kind v
SupportsInstr v _ = Unit {0}

-- the rule that v, 8 bytes in two halves, is zero
abbrev pub no_word_broken : ℕ → ℕ → ℕ → Option ObjectError
no_word_broken at high low = zero_broken at high next zero_broken at low

-- the rules for the substitution of a blue jump or branch, where earlier ones took the rows up to `first`
abbrev pub substitution_broken : Header → List Node → ℕ → ℕ → ℕ → ℕ → ℕ → Option ObjectError
substitution_broken h nodes first at x past memory =
    must (x == first) (errors.Order at)
    next must (nat_le x past) (errors.Order (at + 4))
    next must (nat_le past h.substs) (errors.Order (at + 4))
    next must (nat_le past (x + 128)) (errors.Count (at + 4))
    next node_number_broken nodes true (at + 8) memory

-- the rules for x and v of a jump or branch: zero for a green one, a substitution for a blue one
abbrev pub transfer_broken : Header → List Node → ℕ → ℕ → ℕ → ℕ → ℕ → ℕ → Option ObjectError
transfer_broken h nodes first at colour x high low =
    if colour == 0 then zero_broken at x next no_word_broken (at + 4) high low
    else substitution_broken h nodes first at x high low

-- the rules for the basic type that x spells
abbrev pub basic_number_broken : ℕ → ℕ → ℕ → Option ObjectError
basic_number_broken types at x = basic_broken types at (x / 2 ^ 24) (x / 2 ^ 16 % 2 ^ 8) (x % 2 ^ 16)

-- the rules for `op rd, rs, rt`
abbrev pub op_reg_broken : Version → ℕ → ℕ → ℕ → ℕ → ℕ → ℕ → ℕ → Option ObjectError
op_reg_broken v at a b c x high low =
    register_broken (at + 1) a
    next register_broken (at + 2) b
    next register_broken (at + 3) c
    next op_broken v (at + 4) x
    next no_word_broken (at + 8) high low

-- the rules for `op rd, rs, c v`
abbrev pub op_word_broken : Version → ℕ → ℕ → ℕ → ℕ → ℕ → Option ObjectError
op_word_broken v at a b c x =
    register_broken (at + 1) a
    next register_broken (at + 2) b
    next colour_broken (at + 3) c
    next op_broken v (at + 4) x

-- the rules for `mov rd, c v`
abbrev pub mov_broken : ℕ → ℕ → ℕ → ℕ → ℕ → ℕ → Option ObjectError
mov_broken types at a b c x =
    register_broken (at + 1) a
    next zero_broken (at + 2) b
    next colour_broken (at + 3) c
    next basic_number_broken types (at + 4) x

-- the rules for `ld_c rd, rs` and `st_c rd, rs`
abbrev pub access_broken : ℕ → ℕ → ℕ → ℕ → ℕ → ℕ → ℕ → Option ObjectError
access_broken at a b c x high low =
    register_broken (at + 1) a
    next register_broken (at + 2) b
    next colour_broken (at + 3) c
    next zero_broken (at + 4) x
    next no_word_broken (at + 8) high low

-- the rules for `jmp_c rd`
abbrev pub jump_broken : Header → List Node → ℕ → ℕ → ℕ → ℕ → ℕ → ℕ → ℕ → ℕ → Option ObjectError
jump_broken h nodes first at a b c x high low =
    register_broken (at + 1) a
    next zero_broken (at + 2) b
    next colour_broken (at + 3) c
    next transfer_broken h nodes first (at + 4) c x high low

-- the rules for `bz_c rz, rd`
abbrev pub branch_broken : Header → List Node → ℕ → ℕ → ℕ → ℕ → ℕ → ℕ → ℕ → ℕ → Option ObjectError
branch_broken h nodes first at a b c x high low =
    register_broken (at + 1) a
    next register_broken (at + 2) b
    next colour_broken (at + 3) c
    next transfer_broken h nodes first (at + 4) c x high low

-- the rules for `halt`
abbrev pub halt_broken : ℕ → ℕ → ℕ → ℕ → ℕ → ℕ → ℕ → Option ObjectError
halt_broken at a b c x high low =
    zero_broken (at + 1) a
    next zero_broken (at + 2) b
    next zero_broken (at + 3) c
    next zero_broken (at + 4) x
    next no_word_broken (at + 8) high low

-- the rules for v, 8 bytes in two halves, as the length of a run that starts at cell x
abbrev pub run_broken : ℕ → ℕ → ℕ → ℕ → ℕ → Option ObjectError
run_broken cells at x high low =
    must (high == 0) (errors.Count at)
    next some_broken 1024 at low
    next must (nat_le (x + low) cells) (errors.Index at)

-- the rules for `idx rd, rs, first, length`
abbrev pub index_broken : ℕ → ℕ → ℕ → ℕ → ℕ → ℕ → ℕ → ℕ → Option ObjectError
index_broken cells at a b c x high low =
    register_broken (at + 1) a
    next register_broken (at + 2) b
    next zero_broken (at + 3) c
    next must (nat_lt x cells) (errors.Index (at + 4))
    next run_broken cells (at + 8) x high low

-- the rules for the fields a, b, c, x and v of an instruction, by its kind
abbrev pub fields_broken : Header → List Node → ℕ → ℕ → ℕ → ℕ → ℕ → ℕ → ℕ → ℕ → ℕ → Option ObjectError
fields_broken h nodes first at kind a b c x high low =
    if kind == 0 then op_reg_broken (version_of h) at a b c x high low
    else (if kind == 1 then op_word_broken (version_of h) at a b c x
    else (if kind == 2 then mov_broken h.types at a b c x
    else (if nat_le kind 4 then access_broken at a b c x high low
    else (if kind == 5 then jump_broken h nodes first at a b c x high low
    else (if kind == 6 then branch_broken h nodes first at a b c x high low
    else (if kind == 7 then halt_broken at a b c x high low
    else index_broken h.cells at a b c x high low))))))

-- the rules for an instruction, 16 bytes, where earlier substitutions took the rows up to `first`
abbrev pub instr_broken : Header → List Node → ℕ → ℕ → List ℕ → Option ObjectError
instr_broken h nodes first at (kind ∷ a ∷ b ∷ c ∷ x ∷ high ∷ low ∷ []) =
    must (nat_le kind (last_instr_kind (version_of h))) (errors.Kind at)
    next fields_broken h nodes first at kind a b c x high low
instr_broken h nodes first at _ = None
