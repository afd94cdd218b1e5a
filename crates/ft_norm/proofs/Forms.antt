-- The forms of a list of entries: appending keeps the earlier forms, and each form is that of its entry.
use Rattle.std.proofs.Common.{ℕ, suc, zero, add-one, ◌≡◌, ◌+◌, ◌<◌, ◌≤◌, Bool, true, false, if◌then◌else◌, List, []}
use Rattle.std.proofs.Common.{◌∷◌, ◌++◌, length, get_or, refl, sym, ap, ◌∙◌, arith, max, length-append, inl, inr, map}
use Rattle.std.proofs.Common.{Option, None, Some, slice_get}
use Rattle.std.specs.Option.{unwrap_or}
use Rattle.std.proofs.lemmas.Bool.{cases_lt}
use Rattle.std.proofs.lemmas.List.{get_or_append_left, get_or_push}
use Rattle.ft_isa.proofs.Lists.{get_front}
use Rattle.ft_static.specs.Form.{Atom, Form, Monomial, Polynomial, Updates, integer_form, memory_form, polynomial_of}
use Rattle.ft_static.specs.Form.{updates_of, nought, one, plus, times, unchanged, update}
use Rattle.ft_static.specs.NormalForm.{alone, with_factor}
use Rattle.ft_static.specs.declared.node.Shape.{Shape}
use Rattle.ft_static.specs.declared.node.Shape.TheVariants.{Var}
use Rattle.ft_norm.specs.declared.entry.Term.{Term}
use Rattle.ft_norm.specs.declared.entry.Entry.{Entry}
use Rattle.ft_norm.specs.Packing.{unpacked}
use Rattle.ft_norm.specs.declared.entry.Entry.TheVariants.{Atom as Lone, Linear, Packed, Full, Unchanged, Update}
use Rattle.ft_norm.specs.Held.{polynomial_at, updates_at}
use Rattle.ft_norm.specs.Entries.{alone_term, atom_at, atom_form, atom_of, atom_reach, full, monomial_form}
use Rattle.ft_norm.specs.Entries.{polynomial_form, entry_form, forms_onto, forms_of, is_atom_form, is_integer_form}
use Rattle.ft_norm.specs.Entries.{is_memory_form, integer_reach, memory_reach, reach, reach_of_atoms, reach_of_terms}
use Rattle.ft_norm.specs.Entries.{reach_of_entry, with_atom, NamesEarlier, IsAtomAt, IsIntegerAt, IsMemoryAt}
use Rattle.ft_norm.proofs.Lists.{slice_get-push}

-- the first n forms of both lists are the same
pub record Agree (n : ℕ) (fs gs : List Form) : Type 0 where
  pub below : (k : ℕ) → k < n → slice_get fs k ≡ slice_get gs k

-- so are their polynomials
pub polynomials_agree : (n : ℕ) (fs gs : List Form) → Agree n fs gs → (k : ℕ) → k < n → polynomial_at fs k
    ≡ polynomial_at gs k
polynomials_agree n fs gs h k l = ap (λ (o : Option Form). polynomial_of (unwrap_or o (integer_form nought)))
    (h.below k l)

-- so are their updates
pub updates_agree : (n : ℕ) (fs gs : List Form) → Agree n fs gs → (k : ℕ) → k < n → updates_at fs k ≡ updates_at gs k
updates_agree n fs gs h k l = ap (λ (o : Option Form). updates_of (unwrap_or o (integer_form nought))) (h.below k l)

-- a node whose parts are below n is the same atom over both lists
pub atom_agree : (n : ℕ) (fs gs hs : List Form) → Agree n fs gs → (a : Shape) → reach hs a ≤ n → atom_form fs a
    ≡ atom_form gs a
atom_agree n fs gs hs h (Var i) l = refl
atom_agree n fs gs hs h a l = grind (arith, polynomials_agree n fs gs h, updates_agree n fs gs h)

-- an atom's number whose reach is at most n stands for the same atom over both lists
with_atom_agree : (n : ℕ) (fs gs hs : List Form) → Agree n fs gs → (x : ℕ) → atom_reach hs x ≤ n → (m : Monomial) →
    with_atom fs x m ≡ with_atom gs x m
with_atom_agree n fs gs hs h zero l m = refl
with_atom_agree n fs gs hs h (suc k) l m = ap (λ (p : Polynomial).
    with_factor (atom_of p) m) (polynomials_agree n fs gs h k (omega arith))

-- a monomial of atoms below n is the same over both lists
pub monomial_agree : (n : ℕ) (fs gs hs : List Form) → Agree n fs gs → (xs : List ℕ) → reach_of_atoms hs xs ≤ n →
    monomial_form fs xs ≡ monomial_form gs xs
monomial_agree n fs gs hs h [] l = refl
monomial_agree n fs gs hs h (x ∷ xs) l = with_atom_agree n fs gs hs h x (omega arith) (monomial_form fs xs)
    ∙ ap (with_atom gs x) (monomial_agree n fs gs hs h xs (omega arith))

-- terms of atoms below n are the same polynomial over both lists
pub terms_agree : (n : ℕ) (fs gs hs : List Form) → Agree n fs gs → (ts : List Term) → reach_of_terms hs ts ≤ n →
    polynomial_form fs ts ≡ polynomial_form gs ts
terms_agree n fs gs hs h [] l = refl
terms_agree n fs gs hs h (t ∷ ts) l = let a = monomial_agree n fs gs hs h t.atoms (omega arith) in
    let b = terms_agree n fs gs hs h ts (omega arith) in rw (a, b) refl

-- an entry that refers only to forms below n is the same form over both lists
pub entry_agree : (n : ℕ) (fs gs hs : List Form) → Agree n fs gs → (e : Entry) → reach_of_entry hs e ≤ n →
    entry_form fs e ≡ entry_form gs e
entry_agree n fs gs hs h (Lone a) l = ap (λ b. integer_form (alone b)) (atom_agree n fs gs hs h a l)
entry_agree n fs gs hs h (Linear ts) l = ap integer_form (terms_agree n fs gs hs h (map full ts.items) l)
entry_agree n fs gs hs h (Packed ts) l = ap integer_form (terms_agree n fs gs hs h (map unpacked ts.items) l)
entry_agree n fs gs hs h (Full ts) l = ap integer_form (terms_agree n fs gs hs h ts.items l)
entry_agree n fs gs hs h Unchanged l = refl
entry_agree n fs gs hs h (Update at value older) l = let x = polynomials_agree n fs gs h at (omega arith) in
    let y = polynomials_agree n fs gs h value (omega arith) in let z = updates_agree n fs gs h older (omega arith) in cc

-- one more entry appends one more form
pub forms_onto-push : (fs : List Form) (es : List Entry) (e : Entry) → forms_onto fs (es ++ (e ∷ [])) ≡ forms_onto fs es
    ++ (entry_form (forms_onto fs es) e ∷ [])
forms_onto-push fs [] e = refl
forms_onto-push fs (x ∷ es) e = forms_onto-push (fs ++ (entry_form fs x ∷ [])) es e

-- each entry adds one form
length-forms_onto : (fs : List Form) (es : List Entry) → length (forms_onto fs es) ≡ length fs + length es
length-forms_onto fs [] = omega arith
length-forms_onto fs (x ∷ es) = let h = length-forms_onto (fs ++ (entry_form fs x ∷ [])) es in
    omega (arith, h, length-append fs (entry_form fs x ∷ []))

-- there are as many forms as entries
pub length-forms_of : (es : List Entry) → length (forms_of es) ≡ length es
length-forms_of es = length-forms_onto [] es ∙ omega arith

-- the forms so far stay
forms_onto-kept : (fs : List Form) (es : List Entry) (k : ℕ) → k < length fs → slice_get (forms_onto fs es) k
    ≡ slice_get fs k
forms_onto-kept fs [] k l = refl
forms_onto-kept fs (x ∷ es) k l =
    let g = fs ++ (entry_form fs x ∷ []) in
    let m : k < length g = omega (arith, length-append fs (entry_form fs x ∷ [])) in
    forms_onto-kept g es k m ∙ get_front fs (entry_form fs x ∷ []) k l

-- the form of entry i of these is at index length fs + i, if the entry names only earlier forms
forms_onto-at : (fs hs : List Form) (es : List Entry) (i : ℕ) (e : Entry) → i < length es →
    reach_of_entry hs (get_or es i e) ≤ length fs + i
    → slice_get (forms_onto fs es) (length fs + i) ≡ Some (entry_form (forms_onto fs es) (get_or es i e))
forms_onto-at fs hs [] i e l r = absurd (omega arith)
forms_onto-at fs hs (x ∷ es) zero e l r =
    let g = fs ++ (entry_form fs x ∷ []) in
    let m : length fs + 0 < length g = omega (arith, length-append fs (entry_form fs x ∷ [])) in
    let agree : Agree (length fs) fs (forms_onto g es) = record { below = λ k q. sym (forms_onto-kept fs (x ∷ es) k q) }
    in
    forms_onto-kept g es (length fs + 0) m ∙ (slice_get-push fs (entry_form fs x) (length fs + 0) (omega arith)
    ∙ ap Some (entry_agree (length fs) fs (forms_onto g es) hs agree x (omega arith)))
forms_onto-at fs hs (x ∷ es) (suc i) e l r =
    let g = fs ++ (entry_form fs x ∷ []) in
    let n : length g ≡ suc (length fs) = omega (arith, length-append fs (entry_form fs x ∷ [])) in
    let h = forms_onto-at g hs es i e (omega arith) (omega arith) in
    let s : length fs + suc i ≡ length g + i = omega arith in
    rw s h

-- the form at index i is that of entry i
pub form_at : (es : List Entry) (i : ℕ) (e : Entry) → NamesEarlier es → i < length es → slice_get (forms_of es) i
    ≡ Some (entry_form (forms_of es) (get_or es i e))
form_at es i e h l = let z : 0 + i ≡ i = omega arith in
    rw z at (forms_onto-at [] (forms_of es) es i e l (let k = h i e l in omega arith))

-- likewise for an entry that the code has read
pub form_read : (es : List Entry) (i : ℕ) (e x : Entry) → NamesEarlier es → i < length es → e ≡ get_or es i e → e ≡ x →
    slice_get (forms_of es) i ≡ Some (entry_form (forms_of es) x)
form_read es i e x h l r k = form_at es i e h l ∙ ap (λ (y : Entry). Some (entry_form (forms_of es) y)) (sym r ∙ k)

-- the polynomial at index i is that of the entry that the code has read there
pub polynomial_read : (es : List Entry) (i : ℕ) (e x : Entry) → NamesEarlier es → i < length es → e ≡ get_or es i e → e
    ≡ x → polynomial_of (entry_form (forms_of es) x) ≡ polynomial_at (forms_of es) i
polynomial_read es i e x h l r k = sym (ap (λ (o : Option Form). polynomial_of (unwrap_or o (integer_form nought)))
    (form_read es i e x h l r k))

-- the polynomial of an atom's entry is one term, with the atom's number
pub lone_read : (es : List Entry) (i : ℕ) (e : Entry) (a : Shape) → NamesEarlier es → i < length es → e
    ≡ get_or es i e → e ≡ Lone a → polynomial_form (forms_of es) (alone_term (i + 1) ∷ [])
    ≡ polynomial_at (forms_of es) i
lone_read es i e a h l r k = let p : polynomial_at (forms_of es) i ≡ alone (atom_form (forms_of es) a) =
    sym (polynomial_read es i e (Lone a) h l r k) in rw (add-one, p) refl

-- the updates at index i are those of the entry that the code has read there
pub updates_read : (es : List Entry) (i : ℕ) (e x : Entry) → NamesEarlier es → i < length es → e ≡ get_or es i e → e
    ≡ x → updates_at (forms_of es) i ≡ updates_of (entry_form (forms_of es) x)
updates_read es i e x h l r k = ap (λ (o : Option Form). updates_of (unwrap_or o (integer_form nought)))
    (form_read es i e x h l r k)

-- an integer's reach stays within a bound in a list that agrees
integer_reach_agree : (n m : ℕ) (fs gs : List Form) → Agree n fs gs → n ≤ length fs → m ≤ n → (i : ℕ) →
    integer_reach fs i ≤ m → integer_reach gs i ≤ m
integer_reach_agree n m fs gs h l k i r = go (is_integer_form (slice_get fs i)) (is_integer_form (slice_get gs i))
    (ap is_integer_form (sym (h.below i (omega arith)))) r
  where
    go : (b c : Bool) → c ≡ b → i + 1 + (if b then 0 else length fs) ≤ m → i + 1 + (if c then 0 else length gs) ≤ m
    go true c e r = rw e r
    go false c e r = absurd (omega arith)

-- so does a memory's reach
memory_reach_agree : (n m : ℕ) (fs gs : List Form) → Agree n fs gs → n ≤ length fs → m ≤ n → (i : ℕ) →
    memory_reach fs i ≤ m → memory_reach gs i ≤ m
memory_reach_agree n m fs gs h l k i r = go (is_memory_form (slice_get fs i)) (is_memory_form (slice_get gs i))
    (ap is_memory_form (sym (h.below i (omega arith)))) r
  where
    go : (b c : Bool) → c ≡ b → i + 1 + (if b then 0 else length fs) ≤ m → i + 1 + (if c then 0 else length gs) ≤ m
    go true c e r = rw e r
    go false c e r = absurd (omega arith)

-- so does a node's
reach_agree : (n m : ℕ) (fs gs : List Form) → Agree n fs gs → n ≤ length fs → m ≤ n → (a : Shape) → reach fs a ≤ m →
    reach gs a ≤ m
reach_agree n m fs gs h l k (Var i) r = r
reach_agree n m fs gs h l k a r = omega (arith, integer_reach_agree n m fs gs h l k, memory_reach_agree n m fs gs h l k)

-- so does the reach of an atom's number
atom_reach_agree : (n m : ℕ) (fs gs : List Form) → Agree n fs gs → n ≤ length fs → m ≤ n → (x : ℕ) →
    atom_reach fs x ≤ m → atom_reach gs x ≤ m
atom_reach_agree n m fs gs h l k zero r = r
atom_reach_agree n m fs gs h l k (suc i) r = go (is_atom_form (slice_get fs i)) (is_atom_form (slice_get gs i))
    (ap is_atom_form (sym (h.below i (omega arith)))) r
  where
    go : (b c : Bool) → c ≡ b → i + 1 + (if b then 0 else length fs) ≤ m → i + 1 + (if c then 0 else length gs) ≤ m
    go true c e r = rw e r
    go false c e r = absurd (omega arith)

-- so does the reach of a monomial's atoms
atoms_reach_agree : (n m : ℕ) (fs gs : List Form) → Agree n fs gs → n ≤ length fs → m ≤ n → (xs : List ℕ) →
    reach_of_atoms fs xs ≤ m → reach_of_atoms gs xs ≤ m
atoms_reach_agree n m fs gs h l k [] r = r
atoms_reach_agree n m fs gs h l k (x ∷ xs) r = let a = atom_reach_agree n m fs gs h l k x (omega arith) in
    let b = atoms_reach_agree n m fs gs h l k xs (omega arith) in omega arith

-- so does the reach of terms
terms_reach_agree : (n m : ℕ) (fs gs : List Form) → Agree n fs gs → n ≤ length fs → m ≤ n → (ts : List Term) →
    reach_of_terms fs ts ≤ m → reach_of_terms gs ts ≤ m
terms_reach_agree n m fs gs h l k [] r = r
terms_reach_agree n m fs gs h l k (t ∷ ts) r = let a = atoms_reach_agree n m fs gs h l k t.atoms (omega arith) in
    let b = terms_reach_agree n m fs gs h l k ts (omega arith) in omega arith

-- so does the reach of an entry
pub entry_reach_agree : (n m : ℕ) (fs gs : List Form) → Agree n fs gs → n ≤ length fs → m ≤ n → (e : Entry) →
    reach_of_entry fs e ≤ m → reach_of_entry gs e ≤ m
entry_reach_agree n m fs gs h l k (Lone a) r = reach_agree n m fs gs h l k a r
entry_reach_agree n m fs gs h l k (Linear ts) r = terms_reach_agree n m fs gs h l k (map full ts.items) r
entry_reach_agree n m fs gs h l k (Packed ts) r = terms_reach_agree n m fs gs h l k (map unpacked ts.items) r
entry_reach_agree n m fs gs h l k (Full ts) r = terms_reach_agree n m fs gs h l k ts.items r
entry_reach_agree n m fs gs h l k Unchanged r = r
entry_reach_agree n m fs gs h l k (Update at value older) r =
    let x = integer_reach_agree n m fs gs h l k at (omega arith) in
    let y = integer_reach_agree n m fs gs h l k value (omega arith) in
    let z = memory_reach_agree n m fs gs h l k older (omega arith) in omega arith

-- appending an entry keeps the forms so far
pub push_agrees : (es : List Entry) (e : Entry) → Agree (length es) (forms_of es) (forms_of (es ++ e ∷ []))
push_agrees es e = record {
  below = λ k l.
      let n = length-forms_of es in
      sym (ap (λ fs. slice_get fs k) (forms_onto-push [] es e)
      ∙ get_front (forms_of es) (entry_form (forms_of es) e ∷ []) k (omega arith));
}

-- if each entry names only earlier ones, this still holds after such an entry is appended
pub names_push : (es : List Entry) (e : Entry) → NamesEarlier es → reach_of_entry (forms_of es) e ≤ length es →
    NamesEarlier (es ++ (e ∷ []))
names_push es e h r k d l =
    let fs = forms_of es in
    let gs = forms_of (es ++ e ∷ []) in
    let n = length-forms_of es in
    elim (cases_lt k (length es)) [
      | inl m ↦ rw (get_or_append_left es (e ∷ []) d k m)
          (entry_reach_agree (length es) k fs gs (push_agrees es e) (omega arith) (omega arith) (get_or es k d)
          (h k d m))
      | inr m ↦ let q : k ≡ length es = omega (arith, length-append es (e ∷ [])) in
          rw (q, get_or_push es e d (length es) refl)
          (entry_reach_agree (length es) (length es) fs gs (push_agrees es e)
          (omega arith) (omega arith) e r)
    ]

-- a number whose reach as an integer is within the list is the number of an integer's form
pub integer_reached : (fs : List Form) (n i : ℕ) → n ≤ length fs → integer_reach fs i ≤ n → IsIntegerAt fs i
integer_reached fs n i l r = go (slice_get fs i) refl r
  where
    go : (o : Option Form) → slice_get fs i ≡ o → i + 1 + (if is_integer_form o then 0 else length fs) ≤ n →
        IsIntegerAt fs i
    go None e r = absurd (omega arith)
    go (Some (integer_form p)) e r = e ∙ ap (λ (q : Option Form).
        Some (integer_form (polynomial_of (unwrap_or q (integer_form nought))))) (sym e)
    go (Some (memory_form u)) e r = absurd (omega arith)

-- a number whose reach as a memory is within the list is the number of a memory's form
pub memory_reached : (fs : List Form) (n i : ℕ) → n ≤ length fs → memory_reach fs i ≤ n → IsMemoryAt fs i
memory_reached fs n i l r = go (slice_get fs i) refl r
  where
    go : (o : Option Form) → slice_get fs i ≡ o → i + 1 + (if is_memory_form o then 0 else length fs) ≤ n →
        IsMemoryAt fs i
    go None e r = absurd (omega arith)
    go (Some (integer_form p)) e r = absurd (omega arith)
    go (Some (memory_form u)) e r = e ∙ ap (λ (q : Option Form).
        Some (memory_form (updates_of (unwrap_or q (integer_form nought))))) (sym e)

-- a number whose reach as an atom is within the list is the number of an atom
pub atom_reached : (fs : List Form) (n i : ℕ) → n ≤ length fs → atom_reach fs (suc i) ≤ n → IsAtomAt fs i
atom_reached fs n i l r = go (slice_get fs i) refl r
  where
    no : (o : Option Form) → is_atom_form o ≡ false → i + 1 + (if is_atom_form o then 0 else length fs) ≤ n →
        slice_get fs i ≡ Some (integer_form (alone (atom_at fs i)))
    no o e r = absurd (let w : i + 1 + length fs ≤ n = rw e at r in omega arith)

    go : (o : Option Form) → slice_get fs i ≡ o → i + 1 + (if is_atom_form o then 0 else length fs) ≤ n → IsAtomAt fs i
    go (Some (integer_form (plus (times a one) (suc zero) nought))) e r = e
        ∙ ap (λ (q : Option Form). Some (integer_form
        (alone (atom_of (polynomial_of (unwrap_or q (integer_form nought))))))) (sym e)
    go None e r = no None refl r
    go (Some (memory_form u)) e r = no (Some (memory_form u)) refl r
    go (Some (integer_form nought)) e r = no (Some (integer_form nought)) refl r
    go (Some (integer_form (plus one c p))) e r = no (Some (integer_form (plus one c p))) refl r
    go (Some (integer_form (plus (times a (times b m)) c p))) e r =
        no (Some (integer_form (plus (times a (times b m)) c p))) refl r
    go (Some (integer_form (plus (times a one) zero p))) e r =
        no (Some (integer_form (plus (times a one) zero p))) refl r
    go (Some (integer_form (plus (times a one) (suc (suc c)) p))) e r =
        no (Some (integer_form (plus (times a one) (suc (suc c)) p))) refl r
    go (Some (integer_form (plus (times a one) (suc zero) (plus m d p)))) e r =
        no (Some (integer_form (plus (times a one) (suc zero) (plus m d p)))) refl r

-- the reach of an atom's number is one more than its place in the list
pub atom_reaches : (fs : List Form) (i : ℕ) (a : Atom) → slice_get fs i ≡ Some (integer_form (alone a)) →
    atom_reach fs (i + 1) ≡ i + 1
atom_reaches fs i a e = rw (add-one, e) (omega arith)

-- likewise for an integer's
pub integer_reaches : (fs : List Form) (i : ℕ) (p : Polynomial) → slice_get fs i ≡ Some (integer_form p) →
    integer_reach fs i ≡ i + 1
integer_reaches fs i p e = rw e (omega arith)

-- likewise for a memory's
pub memory_reaches : (fs : List Form) (i : ℕ) (u : Updates) → slice_get fs i ≡ Some (memory_form u) → memory_reach fs i
    ≡ i + 1
memory_reaches fs i u e = rw e (omega arith)

-- an update entry is an update of its older memory
pub link : (es : List Entry) (m : ℕ) (e : Entry) (at value older : ℕ) → NamesEarlier es → m < length es → e
    ≡ get_or es m e → e ≡ Update at value older
    → updates_at (forms_of es) m ≡ update (polynomial_at (forms_of es) at) (polynomial_at (forms_of es) value)
    (updates_at (forms_of es) older)
link es m e at value older h l r k = updates_read es m e (Update at value older) h l r k

-- an update entry names earlier entries of the required sorts
pub link_sorts : (es : List Entry) (m : ℕ) (e : Entry) (at value older : ℕ) → NamesEarlier es → m < length es → e
    ≡ get_or es m e → e ≡ Update at value older
    → max (max (integer_reach (forms_of es) at) (integer_reach (forms_of es) value)) (memory_reach (forms_of es) older)
    ≤ m
link_sorts es m e at value older h l r k = let x = h m e l in let q : get_or es m e ≡ Update at value older = sym r
    ∙ k in rw q at x

-- an update entry names only earlier entries
pub link_reach : (es : List Entry) (m : ℕ) (e : Entry) (at value older : ℕ) → NamesEarlier es → m < length es → e
    ≡ get_or es m e → e ≡ Update at value older → max (max at value) older + 1 ≤ m
link_reach es m e at value older h l r k = let x = link_sorts es m e at value older h l r k in omega (arith, x)

-- the address of an update entry is an integer
pub link_address : (es : List Entry) (m : ℕ) (e : Entry) (at value older : ℕ) → NamesEarlier es → m < length es → e
    ≡ get_or es m e → e ≡ Update at value older → IsIntegerAt (forms_of es) at
link_address es m e at value older h l r k = let x = link_sorts es m e at value older h l r k in
    let n = length-forms_of es in integer_reached (forms_of es) m at (omega arith) (omega (arith, x))

-- the value of an update entry is an integer
pub link_value : (es : List Entry) (m : ℕ) (e : Entry) (at value older : ℕ) → NamesEarlier es → m < length es → e
    ≡ get_or es m e → e ≡ Update at value older → IsIntegerAt (forms_of es) value
link_value es m e at value older h l r k = let x = link_sorts es m e at value older h l r k in
    let n = length-forms_of es in integer_reached (forms_of es) m value (omega arith) (omega (arith, x))

-- a memory whose entry is not an update is unchanged
pub no_link : (es : List Entry) (m : ℕ) (e : Entry) → NamesEarlier es → m < length es → e ≡ get_or es m e →
    ((at value older : ℕ) → e ≡ Update at value older → ⊥) → updates_at (forms_of es) m ≡ unchanged
no_link es m e h l r k = updates_read es m e e h l r refl ∙ go e k
  where
    go : (e : Entry) → ((at value older : ℕ) → e ≡ Update at value older → ⊥) → updates_of (entry_form (forms_of es) e)
        ≡ unchanged
    go (Lone a) k = refl
    go (Linear ts) k = refl
    go (Packed ts) k = refl
    go (Full ts) k = refl
    go Unchanged k = refl
    go (Update at value older) k = absurd (k at value older refl)
