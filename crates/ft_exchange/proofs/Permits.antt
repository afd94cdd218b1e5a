-- What a permitted exchange implies about its two instructions.
use Rattle.std.proofs.Common.{◌≡◌, ℕ, Bool, true, false, not, ◌||◌, ◌==◌, Option, Some, refl, subst, eqb-true}
use Rattle.std.proofs.lemmas.Bool.{and_parts, not-true}
use Rattle.ft_isa.specs.declared.colour.Colour.{Colour}
use Rattle.ft_isa.specs.declared.colour.Colour.TheVariants.{Green, Blue}
use Rattle.ft_isa.specs.declared.reg.Reg.{Reg}
use Rattle.ft_isa.specs.declared.instr.Instr.{Instr}
use Rattle.ft_isa.specs.declared.instr.Instr.TheVariants.{Ld, St}
use Rattle.ft_isa.specs.Instructions.{is_fixed, is_leading, written, reads, is_register}
use Rattle.ft_isa.proofs.Instructions.{Kind, fixed, store, write, kind_of, leading_is_free}
use Rattle.ft_exchange.specs.Exchange.{is_trailing, leaves_alone, has_room, may_exchange}

-- a trailing instruction writes a register, or is a blue store
pub data Trailing : Instr → Type 0 where
  trailing_write : {i : Instr} (r : ℕ) → written i ≡ Some r → ((k : Colour) (rd rs : Reg) → i ≡ Ld k rd rs → k ≡ Blue) →
      Trailing i
  trailing_store : (rd rs : Reg) → Trailing (St Blue rd rs)

-- a leading one writes a register, or is a green store
pub data Leading : Instr → Type 0 where
  leading_write : {i : Instr} (r : ℕ) → written i ≡ Some r → ((k : Colour) (rd rs : Reg) → i ≡ Ld k rd rs → k ≡ Green) →
      Leading i
  leading_store : (rd rs : Reg) → Leading (St Green rd rs)

-- a trailing load is blue, and a leading one is green
pub trailing_load : (i : Instr) (k : Colour) (rd rs : Reg) → is_trailing i ≡ true → i ≡ Ld k rd rs → k ≡ Blue
trailing_load i k rd rs h e = by_colour k (subst (λ (z : Instr). is_trailing z ≡ true) e h)
  where
    by_colour : (c : Colour) → is_trailing (Ld c rd rs) ≡ true → c ≡ Blue
    by_colour Green h = cc
    by_colour Blue h = refl

pub leading_load : (i : Instr) (k : Colour) (rd rs : Reg) → is_leading i ≡ true → i ≡ Ld k rd rs → k ≡ Green
leading_load i k rd rs h e = by_colour k (subst (λ (z : Instr). is_leading z ≡ true) e h)
  where
    by_colour : (c : Colour) → is_leading (Ld c rd rs) ≡ true → c ≡ Green
    by_colour Green h = refl
    by_colour Blue h = cc

pub trailing : (i : Instr) → is_trailing i ≡ true → Trailing i
trailing i h = by_kind (kind_of i) h
  where
    by_kind : {i : Instr} → Kind i → is_trailing i ≡ true → Trailing i
    by_kind {i = i} (fixed f n) h = (let free : is_fixed i ≡ false = not-true (is_fixed i) (and_parts _ _ h).0 in cc)
    by_kind (store Green rd rs) h = cc
    by_kind (store Blue rd rs) h = trailing_store rd rs
    by_kind {i = i} (write r f w) h = trailing_write r w (λ k rd rs e. trailing_load i k rd rs h e)

pub leading : (i : Instr) → is_leading i ≡ true → Leading i
leading i h = by_kind (kind_of i) h
  where
    by_kind : {i : Instr} → Kind i → is_leading i ≡ true → Leading i
    by_kind (fixed f n) h = cc
    by_kind (store Green rd rs) h = leading_store rd rs
    by_kind (store Blue rd rs) h = cc
    by_kind {i = i} (write r f w) h = leading_write r w (λ k rd rs e. leading_load i k rd rs h e)

-- what a permitted exchange implies
pub record Permits (n : ℕ) (first second : Instr) : Type 0 where
  pub trails : Trailing first
  pub leads : Leading second
  pub first_trails : is_trailing first ≡ true
  pub second_leads : is_leading second ≡ true
  pub first_free : is_fixed first ≡ false
  pub second_free : is_fixed second ≡ false
  pub second_alone : leaves_alone second (written first) ≡ true
  pub first_alone : leaves_alone first (written second) ≡ true
  pub room : has_room first second n ≡ true

pub permits : (n : ℕ) (first second : Instr) → may_exchange n first second ≡ true → Permits n first second
permits n first second h =
    let p = and_parts _ _ h in
    let q = and_parts _ _ p.0 in
    let r = and_parts _ _ q.0 in
    let s = and_parts _ _ r.0 in
    let t = and_parts (not (is_fixed first)) (not (is_leading first)) s.0 in
    record {
      trails = trailing first s.0;
      leads = leading second s.1;
      first_trails = s.0;
      second_leads = s.1;
      first_free = not-true (is_fixed first) t.0;
      second_free = leading_is_free second s.1;
      second_alone = r.1;
      first_alone = q.1;
      room = p.1;
    }

-- REGISTERS

or_left_false : (a b : Bool) → not (a || b) ≡ true → a ≡ false
or_left_false true b e = cc
or_left_false false b e = refl

or_right_false : (a b : Bool) → not (a || b) ≡ true → b ≡ false
or_right_false true b e = cc
or_right_false false b e = not-true b e

-- an instruction that leaves a register alone doesn't read it
pub not_read : (i : Instr) (w : Option ℕ) (r : ℕ) → w ≡ Some r → leaves_alone i w ≡ true → reads i r ≡ false
not_read i w r e h = or_left_false (reads i r) (is_register (written i) r) (subst (λ u. leaves_alone i u ≡ true) e h)

-- an instruction that leaves a register alone doesn't write it
pub not_written : (i : Instr) (w : Option ℕ) (q r : ℕ) → w ≡ Some r → written i ≡ Some q → leaves_alone i w ≡ true →
    (q == r) ≡ false
not_written i w q r e f h = subst (λ u. is_register u r
    ≡ false) f (or_right_false (reads i r) (is_register (written i) r) (subst (λ u. leaves_alone i u ≡ true) e h))

-- so each register that it reads is a different one
pub read_other : (i : Instr) (r q : ℕ) → reads i r ≡ false → reads i q ≡ true → (q == r) ≡ false
read_other i r q no_read h = by_test (q == r) refl
  where
    by_test : (b : Bool) → (q == r) ≡ b → (q == r) ≡ false
    by_test false e = e
    by_test true e = (let same : q ≡ r = eqb-true q r e in
        let g : reads i r ≡ true = subst (λ z. reads i z ≡ true) same h in cc)
