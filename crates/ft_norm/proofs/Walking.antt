-- One step of the walk of `sel`.
use Rattle.std.proofs.Common.{ℕ, ◌≡◌, ◌≢◌, ◌+◌, ◌<◌, ◌≤◌, Bool, true, false, List, Some, length, get_or, refl, sym, ap}
use Rattle.std.proofs.Common.{◌∙◌, arith}
use Rattle.std.proofs.lemmas.Option.{slice_get_within}
use Rattle.ft_static.specs.Form.{Form, Polynomial, Updates, integer_form, memory_form, unchanged, update, updates}
use Rattle.ft_static.specs.Form.{sel_atom, same_polynomial}
use Rattle.ft_static.specs.NormalForm.{alone, norm_sel, norm_sub, norm_upd, constant_of, is_not_zero}
use Rattle.ft_static.proofs.Equal.{equal_polynomials}
use Rattle.ft_norm.specs.declared.entry.Entry.{Entry}
use Rattle.ft_norm.specs.declared.entry.Entry.TheVariants.{Update}
use Rattle.ft_norm.specs.Held.{polynomial_at, updates_at}
use Rattle.ft_norm.specs.Entries.{AreEntries, IsDistinct, IsIntegerAt, IsMemoryAt, forms_of, memory_reach}
use Rattle.ft_norm.proofs.Forms.{length-forms_of, link, link_address, link_sorts, memory_reaches}

-- at the end of the updates, the result is an atom
pub walk_end : (u : Updates) (p : Polynomial) → u ≡ unchanged → alone (sel_atom u p) ≡ norm_sel u p
walk_end u p e = rw e refl

-- at an update with the address, the result is its value
pub walk_value : (u w : Updates) (a v p : Polynomial) (b : Bool) → u ≡ update a v w → b ≡ same_polynomial a p → b
    ≡ true → v ≡ norm_sel u p
walk_value u w a v p b e g h = let t : same_polynomial a p ≡ true = sym g ∙ h in rw (e, t) refl

-- at an update whose address is not known to differ, the result is an atom
pub walk_stop : (u w : Updates) (a v p : Polynomial) (b d : Bool) → u ≡ update a v w → b ≡ same_polynomial a p → b
    ≡ false → d ≡ is_not_zero (constant_of (norm_sub p a)) → d ≡ false → alone (sel_atom u p) ≡ norm_sel u p
walk_stop u w a v p b d e g h i j = let t : same_polynomial a p ≡ false = sym g ∙ h in rw (e, t, sym i, j) refl

-- an update whose address is known to differ does not affect the result
pub walk_on : (u w : Updates) (a v p : Polynomial) (b d : Bool) → u ≡ update a v w → b ≡ same_polynomial a p → b
    ≡ false → d ≡ is_not_zero (constant_of (norm_sub p a)) → d ≡ true → norm_sel w p ≡ norm_sel u p
walk_on u w a v p b d e g h i j = let t : same_polynomial a p ≡ false = sym g ∙ h in rw (e, t, sym i, j) refl

-- an update replaces the newest one if that has the same address
pub upd_over : (u w : Updates) (a v p x : Polynomial) (b : Bool) → u ≡ update a v w → b ≡ same_polynomial a p → b
    ≡ true → update p x w ≡ norm_upd u p x
upd_over u w a v p x b e g h = let t : same_polynomial a p ≡ true = sym g ∙ h in
    let s : a ≡ p = (equal_polynomials a p).0 t in rw (e, t) (ap (λ q. update q x w) (sym s))

-- an update goes on top of the newest one if that has another address
pub upd_other : (u w : Updates) (a v p x : Polynomial) (b : Bool) → u ≡ update a v w → b ≡ same_polynomial a p → b
    ≡ false → update p x u ≡ norm_upd u p x
upd_other u w a v p x b e g h = let t : same_polynomial a p ≡ false = sym g ∙ h in rw (e, t) refl

-- an update of the memory variable becomes its only update
pub upd_first : (u : Updates) (p x : Polynomial) → u ≡ unchanged → update p x u ≡ norm_upd u p x
upd_first u p x e = rw e refl

-- equal numbers stand for the same form
pub one_is_same : (fs : List Form) (a p : ℕ) → a ≡ p → same_polynomial (polynomial_at fs a) (polynomial_at fs p) ≡ true
one_is_same fs a p e = (equal_polynomials (polynomial_at fs a) (polynomial_at fs p)).1 (ap (polynomial_at fs) e)

-- different numbers stand for different forms
pub two_differ : (fs : List Form) (a p : ℕ) → IsDistinct fs → IsIntegerAt fs a → IsIntegerAt fs p → a ≢ p →
    same_polynomial (polynomial_at fs a) (polynomial_at fs p) ≡ false
two_differ fs a p d i j n = go (same_polynomial (polynomial_at fs a) (polynomial_at fs p)) refl
  where
    go : (b : Bool) → same_polynomial (polynomial_at fs a) (polynomial_at fs p) ≡ b →
        same_polynomial (polynomial_at fs a) (polynomial_at fs p) ≡ false
    go false e = e
    go true e = absurd (n (d.one a p (integer_form (polynomial_at fs p)) (i
        ∙ ap (λ x. Some (integer_form x)) ((equal_polynomials (polynomial_at fs a) (polynomial_at fs p)).0 e)) j))

-- the place of an integer is within the entries
pub integer_bound : (es : List Entry) (i : ℕ) → IsIntegerAt (forms_of es) i → i < length es
integer_bound es i h = let w = slice_get_within (forms_of es) i (integer_form (polynomial_at (forms_of es) i)) h in
    let l = length-forms_of es in omega arith

-- the place of a memory is within the entries
pub memory_bound : (es : List Entry) (i : ℕ) → IsMemoryAt (forms_of es) i → i < length es
memory_bound es i h = let w = slice_get_within (forms_of es) i (memory_form (updates_at (forms_of es) i)) h in
    let l = length-forms_of es in omega arith

-- the reach of a memory is within the forms
pub memory_reached_at : (es : List Entry) (i : ℕ) → IsMemoryAt (forms_of es) i →
    memory_reach (forms_of es) i ≤ length (forms_of es)
memory_reached_at es i h = let w = slice_get_within (forms_of es) i (memory_form (updates_at (forms_of es) i)) h in
    let x = memory_reaches (forms_of es) i (updates_at (forms_of es) i) h in omega (arith, x, w)

-- so is the reach of the older memory of an update
pub older_reach : (es : List Entry) (m : ℕ) (e : Entry) (a v k : ℕ) → AreEntries es → m < length es → e
    ≡ get_or es m e → e ≡ Update a v k → memory_reach (forms_of es) k ≤ length (forms_of es)
older_reach es m e a v k h l r q = let x = link_sorts es m e a v k h.earlier l r q in let n = length-forms_of es in
    omega (arith, x, n)

-- the older memory of an update has one update fewer
pub older_count : (es : List Entry) (m : ℕ) (e : Entry) (a v k : ℕ) → AreEntries es → m < length es → e
    ≡ get_or es m e → e ≡ Update a v k → updates (updates_at (forms_of es) m) ≡ updates (updates_at (forms_of es) k) + 1
older_count es m e a v k h l r q = ap updates (link es m e a v k h.earlier l r q) ∙ omega arith

-- addresses with different numbers differ
pub address_differs : (es : List Entry) (m : ℕ) (e : Entry) (a v k p : ℕ) → AreEntries es → m < length es → e
    ≡ get_or es m e → e ≡ Update a v k → IsIntegerAt (forms_of es) p → a ≢ p
    → same_polynomial (polynomial_at (forms_of es) a) (polynomial_at (forms_of es) p) ≡ false
address_differs es m e a v k p h l r q i n = two_differ (forms_of es) a p h.distinct
    (link_address es m e a v k h.earlier l r q) i n
