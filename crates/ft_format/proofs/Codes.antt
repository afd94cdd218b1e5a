-- Converting fields of records: tests, codes, registers, basic types and words, in both directions.
use Rattle.std.proofs.Common.{◌≡◌, ℕ, zero, suc, ◌+◌, ◌^◌, ◌<◌, ◌≤◌, Bool, true, false, None, Some, refl, sym, ap}
use Rattle.std.proofs.Common.{arith}
use Rattle.std.specs.Prelude.{◌==◌, nat_lt, nat_le}
use Rattle.std.proofs.lemmas.Bool.{true≢false, lt-ltb}
use Rattle.std.proofs.lemmas.Bool.Decides.{nat_tests}
use Rattle.std.proofs.Math.Bridge.{le_prop}
use borrow.Author.Tests.{ltb-true}
use Rattle.ft_isa.specs.declared.reg.Reg.{Reg}
use Rattle.ft_isa.specs.declared.colour.Colour.{Colour}
use Rattle.ft_isa.specs.declared.colour.Colour.TheVariants.{Green, Blue}
use Rattle.ft_isa.specs.declared.op.Op.{Op}
use Rattle.ft_isa.specs.declared.basic.Base.{Base}
use Rattle.ft_isa.specs.declared.basic.Base.TheVariants.{Int, Code}
use Rattle.ft_isa.specs.declared.basic.Basic.{Basic}
use Rattle.ft_isa.specs.Registers.{reg_if}
use Rattle.ft_types.specs.Spellable.{IsBase, IsBasic}
use Rattle.ft_isa.specs.Operations.{op_code, op_of}
use Rattle.ft_isa.proofs.Operations.{code_again}
use Rattle.ft_types.specs.NodeRows.{high_half, low_half, joined}
use Rattle.ft_format.specs.declared.object_error.ObjectError.{ObjectError}
use Rattle.ft_format.specs.declared.object_error.ObjectError.TheVariants as errors
use Rattle.ft_format.specs.Rules.{must, ◌next◌, zero_broken, colour_broken, op_broken, register_broken}
use Rattle.ft_format.specs.Rules.{code_type_broken, basic_broken}
use Rattle.ft_format.specs.Codes.{colour_code, base_code, base_type, or_first, register_of, colour_of, base_of}
use Rattle.ft_format.specs.Codes.{basic_type_of, FitsBase, FitsBasic}
use Rattle.ft_format.specs.declared.version.Version.{Version}
use Rattle.ft_format.specs.Versions.{last_op, SupportsOp}
use Rattle.ft_format.proofs.Unbroken.{held, both}
use Rattle.ft_format.proofs.Versions.{few_ops}

-- if a rule is not broken, its comparison holds; and if a comparison holds, its test is true
pub le_held : (n m : ℕ) (e : ObjectError) → must (nat_le n m) e ≡ None → n ≤ m
le_held n m e h = grind (arith, nat_tests, held (nat_le n m) e h)

pub lt_held : (n m : ℕ) (e : ObjectError) → must (nat_lt n m) e ≡ None → n < m
lt_held n m e h = grind (arith, nat_tests, held (nat_lt n m) e h)

pub eq_held : (n m : ℕ) (e : ObjectError) → must (n == m) e ≡ None → n ≡ m
eq_held n m e h = grind (arith, nat_tests, held (n == m) e h)

pub zero_again : (at n : ℕ) → zero_broken at n ≡ None → 0 ≡ n
zero_again at n h = sym (eq_held n 0 (errors.Pad at) h)

pub le_true : (n m : ℕ) → n ≤ m → nat_le n m ≡ true
le_true n m h = grind (arith, nat_tests)

pub lt_true : (n m : ℕ) → n < m → nat_lt n m ≡ true
lt_true n m h = grind (arith, nat_tests)

pub eq_true : (n m : ℕ) → n ≡ m → (n == m) ≡ true
eq_true n m h = grind (arith, nat_tests)

pub eq_false : (n m : ℕ) → (n ≡ m → ⊥) → (n == m) ≡ false
eq_false n m h = grind (arith, nat_tests)

-- proof by cases on a number of at most n: `Given P n R` is R under the hypotheses P 0 to P n
abbrev pub Given : (ℕ → Type 0) → ℕ → Type 0 → Type 0
Given P zero R = P 0 → R
Given P (suc n) R = P 0 → Given (λ k. P (suc k)) n R

given_more : (P : ℕ → Type 0) (n : ℕ) (R S : Type 0) → (R → S) → Given P n R → Given P n S
given_more P zero R S f g = λ a. f (g a)
given_more P (suc n) R S f g = λ a. given_more (λ k. P (suc k)) n R S f (g a)

first_or : (P : ℕ → Type 0) (n : ℕ) → P 0 → ((k : ℕ) → k ≤ n → P (suc k)) → (k : ℕ) → k ≤ suc n → P k
first_or P n a f zero l = a
first_or P n a f (suc k) l = f k (omega arith)

only : (P : ℕ → Type 0) → P 0 → (k : ℕ) → k ≤ 0 → P k
only P a zero l = a
only P a (suc k) l = absurd (omega arith)

pub up_to : (P : ℕ → Type 0) (n : ℕ) → Given P n ((k : ℕ) → k ≤ n → P k)
up_to P zero = only P
up_to P (suc n) = λ a. given_more (λ k. P (suc k)) n ((k : ℕ) → k ≤ n → P (suc k)) ((k : ℕ) → k ≤ suc n → P k)
    (first_or P n a) (up_to (λ k. P (suc k)) n)

-- P holds of each number up to n
abbrev pub Each : (ℕ → Type 0) → ℕ → Type 0
Each P zero = P 0
Each P (suc n) = P 0 × Each (λ k. P (suc k)) n

pub of_each : (P : ℕ → Type 0) (n : ℕ) → Each P n → (k : ℕ) → k ≤ n → P k
of_each P zero e zero l = e
of_each P zero e (suc k) l = absurd (omega arith)
of_each P (suc n) e zero l = e.0
of_each P (suc n) e (suc k) l = of_each (λ k. P (suc k)) n e.1 k (omega arith)

-- colours: a valid code is recovered from its colour, and a colour from its code; a colour's code is valid and small
pub colour_again : (at n : ℕ) → colour_broken at n ≡ None → colour_code (colour_of n) ≡ n
colour_again at n h = up_to (λ k. colour_code (colour_of k) ≡ k) 1 refl refl n (le_held n 1 (errors.Kind at) h)

pub colour_back : (c : Colour) → colour_of (colour_code c) ≡ c
colour_back Green = refl
colour_back Blue = refl

pub colour_fine : (at : ℕ) (c : Colour) → colour_broken at (colour_code c) ≡ None
colour_fine at Green = refl
colour_fine at Blue = refl

pub colour_small : (c : Colour) → colour_code c ≤ 1
colour_small Green = omega arith
colour_small Blue = omega arith

-- operations: what holds of a valid operation code
pub record OpAgain (v : Version) (n : ℕ) : Type 0 where
  pub code : op_code (op_of n) ≡ n
  pub has : SupportsOp v (op_of n)

pub op_again : (v : Version) (at n : ℕ) → op_broken v at n ≡ None → OpAgain v n
op_again v at n h =
    let few : n ≤ last_op v = le_held n (last_op v) (errors.Kind at) h in
    let code : op_code (op_of n) ≡ n = code_again n (omega (arith, few, few_ops v)) in
    record { code = code; has = rw code few }

pub op_code_again : (v : Version) (at n : ℕ) → op_broken v at n ≡ None → op_code (op_of n) ≡ n
op_code_again v at n h = (op_again v at n h).code

pub op_has_again : (v : Version) (at n : ℕ) → op_broken v at n ≡ None → SupportsOp v (op_of n)
op_has_again v at n h = (op_again v at n h).has

pub op_fine : (v : Version) (at : ℕ) (o : Op) → SupportsOp v o → op_broken v at (op_code o) ≡ None
op_fine v at o h = rw (le_true (op_code o) (last_op v) h) refl

-- registers: a valid number is recovered from its register, and a register from its number; a register's number is
-- valid
same_reg : (n : ℕ) (h : n < 64) (b : Bool) (e : nat_lt n 64 ≡ b) → b ≡ true → reg_if n b e
    ≡ Some (record { number = n; in_range = h })
same_reg n h true e t = ap (λ p. Some (record { number = n; in_range = p })) (le_prop (ltb-true n 64 e) h)
same_reg n h false e t = absurd (true≢false (sym t))

pub register_again : (at n : ℕ) → register_broken at n ≡ None → (register_of n).number ≡ n
register_again at n h =
    let lt : n < 64 = lt_held n 64 (errors.Index at) h in
    ap (λ r. (or_first r).number) (same_reg n lt (nat_lt n 64) refl (lt-ltb n 64 lt))

pub register_back : (r : Reg) → register_of r.number ≡ r
register_back r = ap or_first (same_reg r.number r.in_range (nat_lt r.number 64) refl (lt-ltb r.number 64 r.in_range))

pub register_fine : (at : ℕ) (r : Reg) → register_broken at r.number ≡ None
register_fine at r = rw (lt_true r.number 64 r.in_range) refl

-- basic types: what holds of valid fields
pub record BasicAgain (types refs base code_type : ℕ) : Type 0 where
  pub basic : IsBasic types (basic_type_of refs base code_type)
  pub code : base_code (base_of base code_type) ≡ base
  pub own : base_type (base_of base code_type) ≡ code_type

code_type_again : (types at refs : ℕ) → refs ≤ 8 → (base : ℕ) → base ≤ 1 → (code_type : ℕ) →
    code_type_broken types at base code_type ≡ None → BasicAgain types refs base code_type
code_type_again types at refs few = up_to (λ base. (code_type : ℕ) → code_type_broken types at base code_type ≡ None →
    BasicAgain types refs base code_type) 1
    (λ t h. record { basic = record { refs = few; base = tt }; code = refl; own = sym (eq_held t 0 (errors.Pad at) h) })
    (λ t h. record {
      basic = record { refs = few; base = lt_held t types (errors.Index at) h };
      code = refl;
      own = refl;
    })

pub basic_again : (types at refs base code_type : ℕ) → basic_broken types at refs base code_type ≡ None →
    BasicAgain types refs base code_type
basic_again types at refs base code_type h =
    let a = both (must (nat_le refs 8) (errors.Kind at))
    (must (nat_le base 1) (errors.Kind (at + 1)) next code_type_broken types (at + 2) base code_type) h in
    let b = both (must (nat_le base 1) (errors.Kind (at + 1))) (code_type_broken types (at + 2) base code_type) a.1 in
    code_type_again types (at + 2) refs (le_held refs 8 (errors.Kind at) a.0) base
    (le_held base 1 (errors.Kind (at + 1)) b.0) code_type b.1

basic_parts : (types at refs : ℕ) (base : Base) → nat_le refs 8 ≡ true → IsBase types base →
    basic_broken types at refs (base_code base) (base_type base) ≡ None
basic_parts types at refs Int few h = rw few refl
basic_parts types at refs (Code t) few h = rw (few, lt_true t types h) refl

pub basic_fine : (types at : ℕ) (b : Basic) → IsBasic types b →
    basic_broken types at b.refs (base_code b.base) (base_type b.base) ≡ None
basic_fine types at b h = basic_parts types at b.refs b.base (le_true b.refs 8 h.refs) h.base

pub base_back : (b : Base) → base_of (base_code b) (base_type b) ≡ b
base_back Int = refl
base_back (Code t) = refl

pub basic_back : (b : Basic) → basic_type_of b.refs (base_code b.base) (base_type b.base) ≡ b
basic_back b = ap (λ x. record { refs = b.refs; base = x }) (base_back b.base)

-- bounds on the parts of a basic type
pub base_small : (b : Base) → base_code b ≤ 1
base_small Int = omega arith
base_small (Code t) = omega arith

pub type_small : (types : ℕ) (b : Base) → types ≤ 4096 → IsBase types b → base_type b < 2 ^ 16
type_small types Int m h = omega arith
type_small types (Code t) m h = omega arith

-- a basic type that obeys the rules fits its fields
base_fits : (types : ℕ) (b : Base) → types ≤ 4096 → IsBase types b → FitsBase b
base_fits types Int m h = tt
base_fits types (Code t) m h = omega arith

pub basic_fits : (types : ℕ) (b : Basic) → types ≤ 4096 → IsBasic types b → FitsBasic b
basic_fits types b m h = let few = h.refs in (omega arith, base_fits types b.base m h.base)

pub type_fits : (b : Base) → FitsBase b → base_type b < 2 ^ 16
type_fits Int h = omega arith
type_fits (Code t) h = h

-- splitting two joined halves gives the halves back, and joining the halves of a word gives the word back
pub high_back : (high low : ℕ) → low < 2 ^ 32 → high_half (joined high low) ≡ high
high_back high low h = omega arith

pub low_back : (high low : ℕ) → low < 2 ^ 32 → low_half (joined high low) ≡ low
low_back high low h = omega arith

pub word_back : (w : ℕ) → joined (high_half w) (low_half w) ≡ w
word_back w = omega arith
