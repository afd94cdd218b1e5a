-- The record of an instruction that obeys the rules fits its fields, is valid, and decodes to that instruction.
use Rattle.std.proofs.Common.{◌≡◌, ℕ, ◌/◌, ◌%◌, ◌^◌, ◌<◌, ◌≤◌, List, ◌∷◌, refl, arith, ◌+◌, true, [], length, map}
use Rattle.std.proofs.Common.{Option, None, Some, sym, subst}
use Rattle.std.specs.List.{AllByRecursion}
use Rattle.ft_isa.specs.Words.{IsWord}
use Rattle.ft_isa.specs.declared.basic.Basic.{Basic}
use Rattle.ft_isa.specs.declared.op.Op.{Op}
use Rattle.ft_isa.specs.declared.reg.Reg.{Reg}
use Rattle.ft_isa.specs.declared.colour.Colour.{Colour}
use Rattle.ft_isa.specs.declared.instr.Instr.{Instr}
use Rattle.ft_isa.specs.declared.instr.Instr.TheVariants.{Mov, JmpB, BzB, Halt, Idx}
use Rattle.ft_isa.specs.Operations.{op_code, last_op_code}
use Rattle.ft_isa.proofs.Operations.{op_back, op_small}
use Rattle.ft_isa.specs.declared.instr.Subst.{Subst}
use Rattle.ft_static.specs.declared.node.Node.{Node}
use Rattle.ft_types.specs.NodeRows.{high_half, low_half}
use Rattle.ft_types.specs.Spellable.{IsInstr, IsSubst, subst_of, before, substs_of, Cover}
use Rattle.ft_format.specs.declared.header.Header.{Header}
use Rattle.ft_format.specs.Layout.{code_layout}
use Rattle.ft_format.specs.Versions.{version_of}
use Rattle.ft_format.specs.Codes.{colour_code, base_code, base_type, basic_number, FitsBasic}
use Rattle.ft_format.specs.InstrRecords.{instr_row, instr_of, FitsInstr, substitution_broken, instr_broken, rows_past}
use Rattle.ft_format.specs.InstrRecords.{FitsSubst}
use Rattle.ft_format.specs.Broken.{instrs_broken, rows_taken}
use Rattle.ft_format.specs.InstrRecords.{SupportsInstr}
use Rattle.ft_format.proofs.Layouts.{Fit, AllFit}
use Rattle.ft_format.proofs.Codes.{colour_back, register_back, basic_back, base_small, type_fits, colour_small}
use Rattle.ft_format.proofs.Codes.{word_back, le_true, lt_true, eq_true, colour_fine, op_fine, register_fine}
use Rattle.ft_format.proofs.Codes.{basic_fine, basic_fits, type_small}
use Rattle.ft_format.proofs.Versions.{has_op, has_instr_kind}
use Rattle.ft_format.proofs.References.{number_fine}
use Rattle.ft_format.proofs.InstrsAgain.{Carries, past_of}

-- splitting the number of a basic type gives its parts
pub refs_back : (b : Basic) → base_code b.base ≤ 1 → base_type b.base < 2 ^ 16 → basic_number b / 2 ^ 24 ≡ b.refs
refs_back b p q = omega arith

pub code_back : (b : Basic) → base_code b.base ≤ 1 → base_type b.base < 2 ^ 16 → basic_number b / 2 ^ 16 % 2 ^ 8
    ≡ base_code b.base
code_back b p q = omega arith

pub own_back : (b : Basic) → base_code b.base ≤ 1 → base_type b.base < 2 ^ 16 → basic_number b % 2 ^ 16
    ≡ base_type b.base
own_back b p q = omega arith

-- each part of an instruction fits its field
reg_fits : (r : Reg) → r.number < 2 ^ 8
reg_fits r = omega (arith, r.in_range)

colour_fits : (c : Colour) → colour_code c < 2 ^ 8
colour_fits c = omega (arith, colour_small c)

op_fits : (op : Op) → op_code op < 2 ^ 32
op_fits op = omega (arith, has_op op)

basic_number_fits : (basic : Basic) → FitsBasic basic → basic_number basic < 2 ^ 32
basic_number_fits basic h = omega (arith, base_small basic.base, type_fits basic.base h.1, h.0)

high_fits : (w : ℕ) → IsWord w → high_half w < 2 ^ 32
high_fits w h = omega (arith, h)

low_fits : (w : ℕ) → low_half w < 2 ^ 32
low_fits w = omega arith

-- if an instruction fits, its record's fields can hold its numbers
pub instr_fit : (i : Instr) → FitsInstr i → Fit code_layout (instr_row i)
instr_fit Halt h = search arith
instr_fit _ h = search (arith, reg_fits, colour_fits, op_fits, basic_number_fits, high_fits, low_fits)

-- decoding these numbers gives the instruction back
pub instr_back : (i : Instr) → FitsInstr i → instr_of (instr_row i) ≡ i
instr_back (Mov rd basic value) h =
    let small = base_small basic.base in
    let own = type_fits basic.base h.1.1 in
    rw (
      register_back rd,
      colour_back value.colour,
      word_back value.word,
      refs_back basic small own,
      code_back basic small own,
      own_back basic small own,
      basic_back basic,
    ) refl
instr_back Halt h = refl
instr_back _ h = simp (op_back, register_back, colour_back, word_back)

-- bounds on a record: nine kinds, ten operations, and three fields that each hold a register, a colour or zero
abbrev pub IsPlain : List ℕ → Type 0
IsPlain (kind ∷ a ∷ b ∷ c ∷ x ∷ rest) = (kind ≤ 8) × (kind ≤ 1 → x ≤ last_op_code) × (a < 64) × (b < 64) × (c < 64)
IsPlain _ = Unit {0}

reg_low : (r : Reg) → r.number < 64
reg_low r = r.in_range

colour_low : (c : Colour) → colour_code c < 64
colour_low c = omega (arith, colour_small c)

pub row_plain : (i : Instr) → IsPlain (instr_row i)
row_plain Halt = search arith
row_plain _ = search (arith, op_small, reg_low, colour_low)

-- counts that are small enough for their fields
pub record AreFew (h : Header) (nodes : List Node) : Type 0 where
  pub types : h.types ≤ 4096
  pub cells : h.cells ≤ 1024
  pub substs : h.substs ≤ 1048576
  pub node_count : length nodes ≤ 1048576

-- an instruction that obeys the rules fits
subst_fits : (h : Header) (nodes : List Node) (first : ℕ) (s : Subst) → AreFew h nodes →
    IsSubst nodes h.substs first s → FitsSubst s
subst_fits h nodes first s m i = (
  omega (arith, i.there, i.rising, m.substs),
  omega (arith, i.there, m.substs),
  omega (arith, i.memory.lower, m.node_count),
)

instr_fits : (h : Header) (nodes : List Node) (first : ℕ) (i : Instr) → AreFew h nodes → IsInstr h.types h.cells i
    → Carries nodes h.substs first (subst_of i) → FitsInstr i
instr_fits h nodes first (Mov rd basic value) m i s = (i.0, basic_fits h.types basic m.types i.1)
instr_fits h nodes first (JmpB rd subst) m i s = subst_fits h nodes first subst m s
instr_fits h nodes first (BzB rz rd subst) m i s = subst_fits h nodes first subst m s
instr_fits h nodes first (Idx rd rs x n) m i s = (omega (arith, i.begins, m.cells), omega (arith, i.length.1))
instr_fits h nodes first _ m i s = i

-- the record of an instruction that obeys the rules breaks no rule
substitution_fine : (h : Header) (nodes : List Node) (first at : ℕ) (s : Subst) → IsSubst nodes h.substs first s →
    substitution_broken h nodes first at s.first s.past s.memory ≡ None
substitution_fine h nodes first at s i =
    rw (
      eq_true s.first first i.first_is,
      le_true s.first s.past i.rising,
      le_true s.past h.substs i.there,
      le_true s.past (s.first + 128) i.few,
      number_fine nodes 128 true (at + 8) s.memory i.memory,
    ) refl

instr_unbroken : (h : Header) (nodes : List Node) (first at : ℕ) (i : Instr) → AreFew h nodes →
    IsInstr h.types h.cells i
    → SupportsInstr (version_of h) i → Carries nodes h.substs first (subst_of i) →
    instr_broken h nodes first at (instr_row i) ≡ None
instr_unbroken h nodes first at (Mov rd basic value) m i has s = rw (
  has_instr_kind (version_of h) 2 (omega arith),
  register_fine (at + 1) rd,
  colour_fine (at + 3) value.colour,
  refs_back basic (base_small basic.base) (type_small h.types basic.base m.types i.1.base),
  code_back basic (base_small basic.base) (type_small h.types basic.base m.types i.1.base),
  own_back basic (base_small basic.base) (type_small h.types basic.base m.types i.1.base),
  basic_fine h.types (at + 4) basic i.1,
) refl
instr_unbroken h nodes first at _ m i has s =
    search (arith, has_instr_kind, le_true, lt_true, register_fine, colour_fine, op_fine, substitution_fine)

instr_past : (first : ℕ) (i : Instr) → rows_past first (instr_row i) ≡ past_of first (subst_of i)
instr_past first (JmpB rd s) = refl
instr_past first _ = refl

-- the record of an instruction breaks no rule, and decodes to that instruction
pub record InstrFine (h : Header) (nodes : List Node) (first at : ℕ) (i : Instr) : Type 0 where
  pub unbroken : instr_broken h nodes first at (instr_row i) ≡ None
  pub back : instr_of (instr_row i) ≡ i
  pub fit : Fit code_layout (instr_row i)
  pub past : rows_past first (instr_row i) ≡ past_of first (subst_of i)

pub instr_fine : (h : Header) (nodes : List Node) (first at : ℕ) (i : Instr) → AreFew h nodes →
    IsInstr h.types h.cells i → SupportsInstr (version_of h) i → Carries nodes h.substs first (subst_of i) →
    InstrFine h nodes first at i
instr_fine h nodes first at i m is has s =
    let fits = instr_fits h nodes first i m is s in
    record {
      unbroken = instr_unbroken h nodes first at i m is has s;
      back = instr_back i fits;
      fit = instr_fit i fits;
      past = instr_past first i;
    }

-- conversely, if all substitutions obey the rules, so do that of the first instruction and those of the later ones
carried_first : (nodes : List Node) (rows first : ℕ) (s : Option Subst) (ss : List Subst) →
    Cover nodes rows first (before s ss) → Carries nodes rows first s × Cover nodes rows (past_of first s) ss
carried_first nodes rows first None ss c = (tt, c)
carried_first nodes rows first (Some s) ss c = c

-- the records of instructions break no rule, and decode to these instructions
pub record InstrsFine (h : Header) (nodes : List Node) (first at : ℕ) (is : List Instr) : Type 0 where
  pub unbroken : instrs_broken h nodes first at (map instr_row is) ≡ None
  pub back : map instr_of (map instr_row is) ≡ is
  pub fit : AllFit code_layout (map instr_row is)
  pub taken : rows_taken first (map instr_row is) ≡ h.substs

pub instrs_fine : (h : Header) (nodes : List Node) (first at : ℕ) (is : List Instr) → AreFew h nodes →
    AllByRecursion (IsInstr h.types h.cells) is → AllByRecursion (SupportsInstr (version_of h)) is →
    Cover nodes h.substs first (substs_of is) → InstrsFine h nodes first at is
unfolding instrs_broken rows_taken
instrs_fine h nodes first at [] m i has c = record { unbroken = refl; back = refl; fit = tt; taken = c }
instrs_fine h nodes first at (x ∷ xs) m i has c =
    let own = carried_first nodes h.substs first (subst_of x) (substs_of xs) c in
    let here = instr_fine h nodes first at x m i.0 has.0 own.0 in
    let after = instrs_fine h nodes (rows_past first (instr_row x)) (at + 16) xs m i.1 has.1
    (subst (λ k. Cover nodes h.substs k (substs_of xs)) (sym here.past) own.1) in
    record {
      unbroken = rw (here.unbroken, after.unbroken) refl;
      back = rw (here.back, after.back) refl;
      fit = (here.fit, after.fit);
      taken = after.taken;
    }
