-- A valid record encodes an instruction that obeys the rules, and is the record of that instruction.
use Rattle.std.proofs.Common.{◌≡◌, ℕ, ◌+◌, ◌*◌, ◌/◌, ◌%◌, ◌^◌, ◌<◌, ◌≤◌, true, List, [], ◌∷◌, map, Option, None, Some}
use Rattle.std.proofs.Common.{refl, sym, subst, arith}
use Rattle.std.specs.Prelude.{◌==◌, nat_le}
use Rattle.std.specs.List.{AllByRecursion}
use Rattle.ft_isa.specs.declared.instr.Subst.{Subst}
use Rattle.ft_static.specs.declared.node.Node.{Node}
use Rattle.ft_types.specs.Spellable.{IsInstr, IsSubst, subst_of, before, substs_of, Cover}
use Rattle.ft_types.specs.NodeRows.{joined}
use Rattle.ft_format.specs.declared.object_error.ObjectError.TheVariants as errors
use Rattle.ft_format.specs.declared.version.Version.{Version}
use Rattle.ft_format.specs.declared.header.Header.{Header}
use Rattle.ft_format.specs.Layout.{code_layout}
use Rattle.ft_format.specs.Versions.{version_of, last_instr_kind}
use Rattle.ft_format.specs.InstrRecords.{SupportsInstr, instr_broken, instr_row, instr_of, rows_past}
use Rattle.ft_format.specs.Rules.{must, zero_broken, register_broken, colour_broken, node_number_broken}
use Rattle.ft_format.specs.InstrRecords.{basic_number_broken, substitution_broken, transfer_broken, fields_broken}
use Rattle.ft_format.specs.Codes.{basic_number, basic_type_of}
use Rattle.ft_format.specs.Broken.{instrs_broken, rows_taken}
use Rattle.ft_format.proofs.Layouts.{Fit, AllFit}
use Rattle.ft_format.proofs.Unbroken.{both, each, first_none, rest_none}
use Rattle.ft_format.proofs.Codes.{le_held, lt_held, eq_held, zero_again, up_to, colour_again, register_again}
use Rattle.ft_format.proofs.Codes.{basic_again, high_back, low_back, op_code_again, op_has_again, Each, of_each}
use Rattle.ft_format.proofs.References.{AreNarrowNodes, number_again}
use Rattle.ft_format.proofs.Versions.{instr_kinds, few_instr_kinds}
use Rattle.ft_format.proofs.Nodes.{same_seven, length_again}

-- joining the parts of a basic type's number gives the number back
parts_joined : (x : ℕ) → x / 2 ^ 24 * 2 ^ 24 + x / 2 ^ 16 % 2 ^ 8 * 2 ^ 16 + x % 2 ^ 16 ≡ x
parts_joined x = omega arith

-- an instruction's substitution obeys the rules, given that earlier ones took the rows up to `first`
abbrev pub Carries : List Node → ℕ → ℕ → Option Subst → Type 0
Carries nodes rows first None = Unit {0}
Carries nodes rows first (Some s) = IsSubst nodes rows first s

-- the row after the last one that a substitution takes
abbrev pub past_of : ℕ → Option Subst → ℕ
past_of first None = first
past_of first (Some s) = s.past

-- what holds of a valid record and of the instruction that it encodes
pub record InstrAgain (h : Header) (nodes : List Node) (first : ℕ) (row : List ℕ) : Type 0 where
  pub written : instr_row (instr_of row) ≡ row
  pub instr : IsInstr h.types h.cells (instr_of row)
  pub has : SupportsInstr (version_of h) (instr_of row)
  pub carries : Carries nodes h.substs first (subst_of (instr_of row))
  pub past : rows_past first row ≡ past_of first (subst_of (instr_of row))

-- a substitution of a blue jump or branch that breaks no rule obeys the rules
substitution_again : (h : Header) (nodes : List Node) (first at x past memory : ℕ) → AreNarrowNodes nodes
    → substitution_broken h nodes first at x past memory ≡ None
    → IsSubst nodes h.substs first (record { first = x; past = past; memory = memory })
substitution_again h nodes first at x past memory narrow n =
    let r = each (
    must (x == first) (errors.Order at) ∷ must (nat_le x past) (errors.Order (at + 4))
    ∷ must (nat_le past h.substs) (errors.Order (at + 4)) ∷ must (nat_le past (x + 128)) (errors.Count (at + 4))
    ∷ node_number_broken nodes true (at + 8) memory ∷ []) n in
    record {
      first_is = eq_held x first (errors.Order at) r.0;
      rising = le_held x past (errors.Order (at + 4)) r.1.0;
      there = le_held past h.substs (errors.Order (at + 4)) r.1.1.0;
      few = le_held past (x + 128) (errors.Count (at + 4)) r.1.1.1.0;
      memory = number_again nodes true (at + 8) memory narrow r.1.1.1.1.0;
    }

-- if the rule that a field is 0, whose error is `Count`, is not broken, the field is 0
no_again : (at n : ℕ) → must (n == 0) (errors.Count at) ≡ None → 0 ≡ n
no_again at n h = sym (eq_held n 0 (errors.Count at) h)

-- instructions, kind by kind
module _ (h : Header) (nodes : List Node) (first at a b c x high low : ℕ) (narrow : AreNarrowNodes nodes)
    (fit_high : high < 2 ^ 32) (fit_low : low < 2 ^ 32) where
  abbrev Again : ℕ → Type 0
  Again kind = fields_broken h nodes first at kind a b c x high low ≡ None →
      InstrAgain h nodes first (kind ∷ a ∷ b ∷ c ∷ x ∷ high ∷ low ∷ [])

  abbrev v : Version
  v = version_of h

  instr_2 : Again 2
  instr_2 n =
      let r = each (register_broken (at + 1) a ∷ zero_broken (at + 2) b ∷ colour_broken (at + 3) c ∷ basic_number_broken
      h.types (at + 4) x ∷ []) n in
      let word : joined high low < 2 ^ 64 = omega arith in
      let basic = basic_again h.types (at + 4) (x / 2 ^ 24) (x / 2 ^ 16 % 2 ^ 8) (x % 2 ^ 16) r.1.1.1.0 in
      let number : basic_number (basic_type_of (x / 2 ^ 24) (x / 2 ^ 16 % 2 ^ 8) (x % 2 ^ 16))
      ≡ x = rw (basic.code, basic.own) (parts_joined x) in
      record {
        written = same_seven refl (register_again (at + 1) a r.0) (zero_again (at + 2) b r.1.0)
            (colour_again (at + 3) c r.1.1.0)
            number (high_back high low fit_low) (low_back high low fit_low);
        instr = (word, basic.basic);
        has = tt;
        carries = tt;
        past = refl;
      }

  -- a jump or a branch, green or blue
  abbrev After : ℕ → ℕ → Type 0
  After kind k = transfer_broken h nodes first (at + 4) k x high low ≡ None →
      InstrAgain h nodes first (kind ∷ a ∷ b ∷ k ∷ x ∷ high ∷ low ∷ [])

  zeros : transfer_broken h nodes first (at + 4) 0 x high low ≡ None → (0 ≡ x) × (0 ≡ high) × (0 ≡ low)
  zeros n =
      let r = each (zero_broken (at + 4) x ∷ zero_broken (at + 4 + 4) high ∷ zero_broken (at + 4 + 4) low ∷ []) n in
      (zero_again (at + 4) x r.0, zero_again (at + 4 + 4) high r.1.0, zero_again (at + 4 + 4) low r.1.1.0)

  blue : transfer_broken h nodes first (at + 4) 1 x high low ≡ None →
      IsSubst nodes h.substs first (record { first = x; past = high; memory = low })
  blue n = substitution_again h nodes first (at + 4) x high low narrow n

  instr_5 : Again 5
  instr_5 n =
      let r = each (
      register_broken (at + 1) a ∷ zero_broken (at + 2) b ∷ colour_broken (at + 3) c
      ∷ transfer_broken h nodes first (at + 4) c x high low ∷ []) n in
      let rd = register_again (at + 1) a r.0 in
      let no_b = zero_again (at + 2) b r.1.0 in
      up_to (After 5) 1
      (λ m. let z = zeros m in record {
        written = same_seven refl rd no_b refl z.0 z.1 z.2;
        instr = tt;
        has = tt;
        carries = tt;
        past = refl;
      })
      (λ m. record {
        written = same_seven refl rd no_b refl refl refl refl;
        instr = tt;
        has = tt;
        carries = blue m;
        past = refl;
      })
      c (le_held c 1 (errors.Kind (at + 3)) r.1.1.0) r.1.1.1.0

  instr_6 : Again 6
  instr_6 n =
      let r = each (
      register_broken (at + 1) a ∷ register_broken (at + 2) b ∷ colour_broken (at + 3) c
      ∷ transfer_broken h nodes first (at + 4) c x high low ∷ []) n in
      let rz = register_again (at + 1) a r.0 in
      let rd = register_again (at + 2) b r.1.0 in
      up_to (After 6) 1
      (λ m. let z = zeros m in record {
        written = same_seven refl rz rd refl z.0 z.1 z.2;
        instr = tt;
        has = tt;
        carries = tt;
        past = refl;
      })
      (λ m. record {
        written = same_seven refl rz rd refl refl refl refl;
        instr = tt;
        has = tt;
        carries = blue m;
        past = refl;
      })
      c (le_held c 1 (errors.Kind (at + 3)) r.1.1.0) r.1.1.1.0

  -- the facts about valid fields, and about the kinds whose rules depend on a field
  ruleset again = (
    arith,
    same_seven,
    first_none,
    rest_none,
    zero_again,
    register_again,
    colour_again,
    op_code_again,
    op_has_again,
    high_back,
    low_back,
    lt_held,
    le_held,
    length_again,
    no_again,
    instr_2,
    instr_5,
    instr_6,
  )

  -- `Again` holds for each kind; the proof search reads the rules, so it covers new kinds too
  each_again : Each (λ kind. kind ≤ last_instr_kind v → Again kind) instr_kinds
  each_again = search again parts 12

-- a valid record encodes an instruction that obeys the rules, and is the record of that instruction
pub instr_again : (h : Header) (nodes : List Node) (first at : ℕ) (row : List ℕ) → AreNarrowNodes nodes →
    Fit code_layout row → instr_broken h nodes first at row ≡ None → InstrAgain h nodes first row
instr_again h nodes first at (kind ∷ a ∷ b ∷ c ∷ x ∷ high ∷ low ∷ []) narrow fit n =
    let v = version_of h in
    let most = both (must (nat_le kind (last_instr_kind v)) (errors.Kind at))
    (fields_broken h nodes first at kind a b c x high low) n in
    let has : kind ≤ last_instr_kind v = le_held kind (last_instr_kind v) (errors.Kind at) most.0 in
    of_each (λ k. k ≤ last_instr_kind v → Again h nodes first at a b c x high low narrow fit.1.1.1.1.1.0
    fit.1.1.1.1.1.1.0 k) instr_kinds
    (each_again h nodes first at a b c x high low narrow fit.1.1.1.1.1.0 fit.1.1.1.1.1.1.0)
    kind (omega (arith, has, few_instr_kinds v)) has most.1
instr_again h nodes first at [] narrow fit n = absurd fit
instr_again h nodes first at (a ∷ []) narrow fit n = absurd fit.1
instr_again h nodes first at (a ∷ b ∷ []) narrow fit n = absurd fit.1.1
instr_again h nodes first at (a ∷ b ∷ c ∷ []) narrow fit n = absurd fit.1.1.1
instr_again h nodes first at (a ∷ b ∷ c ∷ d ∷ []) narrow fit n = absurd fit.1.1.1.1
instr_again h nodes first at (a ∷ b ∷ c ∷ d ∷ e ∷ []) narrow fit n = absurd fit.1.1.1.1.1
instr_again h nodes first at (a ∷ b ∷ c ∷ d ∷ e ∷ f ∷ []) narrow fit n = absurd fit.1.1.1.1.1.1
instr_again h nodes first at (a ∷ b ∷ c ∷ d ∷ e ∷ f ∷ g ∷ z ∷ zs) narrow fit n = absurd fit.1.1.1.1.1.1.1

-- valid records encode instructions that obey the rules, and are the records of those instructions
pub record InstrsAgain (h : Header) (nodes : List Node) (first : ℕ) (rs : List (List ℕ)) : Type 0 where
  pub written : map instr_row (map instr_of rs) ≡ rs
  pub instrs : AllByRecursion (IsInstr h.types h.cells) (map instr_of rs)
  pub has : AllByRecursion (SupportsInstr (version_of h)) (map instr_of rs)
  pub cover : Cover nodes h.substs first (substs_of (map instr_of rs))

-- if an instruction's substitution and those of later instructions obey the rules, so do all of them together
cover_first : (nodes : List Node) (rows first : ℕ) (s : Option Subst) (ss : List Subst) → Carries nodes rows first s →
    Cover nodes rows (past_of first s) ss → Cover nodes rows first (before s ss)
cover_first nodes rows first None ss h c = c
cover_first nodes rows first (Some s) ss h c = (h, c)

pub instrs_again : (h : Header) (nodes : List Node) (first at : ℕ) (rs : List (List ℕ)) → AreNarrowNodes nodes →
    AllFit code_layout rs → instrs_broken h nodes first at rs ≡ None → rows_taken first rs ≡ h.substs →
    InstrsAgain h nodes first rs
unfolding instrs_broken rows_taken
instrs_again h nodes first at [] narrow fit n taken = record { written = refl; instrs = tt; has = tt; cover = taken }
instrs_again h nodes first at (r ∷ rs) narrow fit n taken =
    let parts = both (instr_broken h nodes first at r) (instrs_broken h nodes (rows_past first r) (at + 16) rs) n in
    let here = instr_again h nodes first at r narrow fit.0 parts.0 in
    let after = instrs_again h nodes (rows_past first r) (at + 16) rs narrow fit.1 parts.1 taken in
    record {
      written = rw (here.written, after.written) refl;
      instrs = (here.instr, after.instrs);
      has = (here.has, after.has);
      cover = cover_first nodes h.substs first (subst_of (instr_of r)) (substs_of (map instr_of rs)) here.carries
          (subst (λ k. Cover nodes h.substs k (substs_of (map instr_of rs))) here.past after.cover);
    }
