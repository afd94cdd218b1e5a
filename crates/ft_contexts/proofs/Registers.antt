-- The array of registers and the finite map that it represents.
use Rattle.std.proofs.Common.{◌≡◌, ◌≢◌, ◌<◌, ◌+◌, ℕ, zero, suc, Bool, true, false, cond, eqb, eqb-true, eq-eqb, List}
use Rattle.std.proofs.Common.{[], ◌∷◌, length, get_or, slice_get, Option, None, Some, refl, sym, ap, ◌∙◌, subst, arith}
use Rattle.std.specs.Option.{option_map}
use Rattle.std.specs.Ordering.{nat_cmp}
use Rattle.std.specs.Cmp.{nat_cmp_total, unsigned_tied}
use Rattle.std.specs.FinMap as finite
use Rattle.std.proofs.Math.ListN.{set}
use Rattle.std.proofs.lemmas.List.{get_or-set_same, get_or-set_other}
use Rattle.ft_static.specs.Form.{Form as Normal}
use Rattle.ft_norm.specs.Held.{IsInteger}
use Rattle.ft_typing.specs.Context.{Typed, TypedRegisters}
use Rattle.ft_types.specs.Spellable.{IsBase}
use Rattle.ft_contexts.specs.declared.register.RegForm.{RegForm}
use Rattle.ft_contexts.specs.Contexts.{typed_in, with_known, registers_in, HoldsRegisters, RegistersNameTypes}

-- different numbers fail the test for equality
pub apart : (q n : ℕ) → q ≢ n → eqb q n ≡ false
apart q n h = by_test (eqb q n) refl
  where
    by_test : (b : Bool) → eqb q n ≡ b → eqb q n ≡ false
    by_test true e = absurd (h (eqb-true q n e))
    by_test false e = e

-- an insertion leaves the entries of other registers unchanged
get_other : (m : TypedRegisters) (n q : ℕ) (t : Typed) → q ≢ n → finite.get (finite.insert m n t) q ≡ finite.get m q
get_other m n q t h = finite.get-insert nat_cmp_total m n t q
    ∙ ap (λ b. cond b (Some t) (finite.get m q)) (unsigned_tied q n ∙ apart q n h)

-- after an insertion, the register has the new entry
get_same : (m : TypedRegisters) (n : ℕ) (t : Typed) → finite.get (finite.insert m n t) n ≡ Some t
get_same m n t = finite.get-insert nat_cmp_total m n t n ∙ ap (λ b. cond b (Some t) (finite.get m n)) (unsigned_tied n n
    ∙ eq-eqb n n refl)

-- if nothing else is known of register n, what is added for it is what is known of it
get_known : (x : Option Typed) (m : TypedRegisters) (n : ℕ) → finite.get m n ≡ None → finite.get (with_known n x m) n
    ≡ x
get_known None m n h = h
get_known (Some t) m n h = get_same m n t

-- what is added for register n does not change what is known of other registers
get_unchanged : (x : Option Typed) (m : TypedRegisters) (n q : ℕ) → q ≢ n → finite.get (with_known n x m) q
    ≡ finite.get m q
get_unchanged None m n q h = refl
get_unchanged (Some t) m n q h = get_other m n q t h

-- nothing is known of registers below the first
get_below : (fs : List Normal) (n : ℕ) (xs : List (Option RegForm)) (q : ℕ) → q < n →
    finite.get (registers_in fs n xs) q ≡ None
unfolding registers_in
get_below fs n [] q h = finite.get-empty nat_cmp q
get_below fs n (x ∷ xs) q h =
    let ne : q ≢ n = omega arith in
    get_unchanged (option_map (typed_in fs) x) (registers_in fs (suc n) xs) n q ne
    ∙ get_below fs (suc n) xs q (omega arith)

-- what is known of a register is what the array has at its index
pub get_at : (fs : List Normal) (n : ℕ) (xs : List (Option RegForm)) (r q : ℕ) → q ≡ n + r →
    finite.get (registers_in fs n xs) q ≡ option_map (typed_in fs) (get_or xs r None)
unfolding registers_in
get_at fs n [] r q e = finite.get-empty nat_cmp q
get_at fs n (x ∷ xs) zero q e =
    let same : q ≡ n = omega arith in
    rw same (get_known (option_map (typed_in fs) x) (registers_in fs (suc n) xs) n
    (get_below fs (suc n) xs n (omega arith)))
get_at fs n (x ∷ xs) (suc r) q e =
    let ne : q ≢ n = omega arith in
    get_unchanged (option_map (typed_in fs) x) (registers_in fs (suc n) xs) n q ne
    ∙ get_at fs (suc n) xs r q (omega arith)

-- what is known of register r is what the array of all registers has at index r
pub known_of : (fs : List Normal) (xs : List (Option RegForm)) (r : ℕ) → finite.get (registers_in fs 0 xs) r
    ≡ option_map (typed_in fs) (get_or xs r None)
known_of fs xs r = get_at fs 0 xs r r (omega arith)

-- setting an entry of the array changes what is known of that register, and of no other
get_set : (fs : List Normal) (xs : List (Option RegForm)) (r : ℕ) (k : RegForm) (q : ℕ) → r < length xs →
    finite.get (registers_in fs 0 (set xs r (Some k))) q
    ≡ finite.get (finite.insert (registers_in fs 0 xs) r (typed_in fs k)) q
get_set fs xs r k q h = by_test (eqb q r) refl
  where
    by_test : (b : Bool) → eqb q r ≡ b → finite.get (registers_in fs 0 (set xs r (Some k))) q
        ≡ finite.get (finite.insert (registers_in fs 0 xs) r (typed_in fs k)) q
    by_test true e =
        let same : q ≡ r = eqb-true q r e in
        rw same (known_of fs (set xs r (Some k)) r
        ∙ ap (option_map (typed_in fs)) (get_or-set_same xs r (Some k) None h)
        ∙ sym (get_same (registers_in fs 0 xs) r (typed_in fs k)))
    by_test false e =
        let ne : q ≢ r = (λ s. let t : eqb q r ≡ true = eq-eqb q r s in cc) in
        known_of fs (set xs r (Some k)) q ∙ ap (option_map (typed_in fs)) (get_or-set_other xs r q (Some k) None ne)
        ∙ sym (known_of fs xs q) ∙ sym (get_other (registers_in fs 0 xs) r q (typed_in fs k) ne)

-- noting what is known of a register sets the array's entry
pub registers_set : (fs : List Normal) (xs : List (Option RegForm)) (r : ℕ) (k : RegForm) → r < length xs →
    registers_in fs 0 (set xs r (Some k)) ≡ finite.insert (registers_in fs 0 xs) r (typed_in fs k)
registers_set fs xs r k h = finite.same_map nat_cmp_total finite.nat_cmp-IsAntisymmetric _ _ (λ q.
    get_set fs xs r k q h)

-- an entry that was found exists
pub there_from_get_or : (xs : List (Option RegForm)) (r : ℕ) (x : RegForm) → get_or xs r None ≡ Some x → slice_get xs r
    ≡ Some (Some x)
there_from_get_or [] r x e = cc
there_from_get_or (y ∷ xs) zero x e = ap Some e
there_from_get_or (y ∷ xs) (suc r) x e = there_from_get_or xs r x e

-- the entry that was set holds what was set, and the others are unchanged
set_cases : (xs : List (Option RegForm)) (r : ℕ) (k : RegForm) (q : ℕ) (x : RegForm) → slice_get (set xs r (Some k)) q
    ≡ Some (Some x) → (P : RegForm → Type 0) → P k → (slice_get xs q ≡ Some (Some x) → P x) → P x
set_cases [] r k q x e P h l = l e
set_cases (y ∷ xs) zero k zero x e P h l = let same : k ≡ x = cc in subst P same h
set_cases (y ∷ xs) zero k (suc q) x e P h l = l e
set_cases (y ∷ xs) (suc r) k zero x e P h l = l e
set_cases (y ∷ xs) (suc r) k (suc q) x e P h l = set_cases xs r k q x e P h l

-- after a register with a held form is noted, the forms of all registers are held
pub registers_held_set : (fs : List Normal) (xs : List (Option RegForm)) (r : ℕ) (k : RegForm) → HoldsRegisters fs xs →
    IsInteger fs k.form → HoldsRegisters fs (set xs r (Some k))
registers_held_set fs xs r k h i q x e = set_cases xs r k q x e (λ y. IsInteger fs y.form) i (λ f. h q x f)

-- after a register with an existing code type is noted, all registers name existing code types
pub registers_typed_set : (types : ℕ) (xs : List (Option RegForm)) (r : ℕ) (k : RegForm) → RegistersNameTypes types xs →
    IsBase types k.basic.base → RegistersNameTypes types (set xs r (Some k))
registers_typed_set types xs r k h i q x e = set_cases xs r k q x e (λ y. IsBase types y.basic.base) i (λ f. h q x f)
