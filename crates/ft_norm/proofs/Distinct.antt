-- Over distinct forms, two entries are equal exactly when their forms are.
use Rattle.std.proofs.Common.{ℕ, suc, zero, ◌≡◌, ◌≢◌, ◌+◌, ◌^◌, ◌<◌, ◌≤◌, ◌||◌, Bool, true, false, if◌then◌else◌, List}
use Rattle.std.proofs.Common.{[], ◌∷◌, ◌++◌, length, get_or, refl, sym, ap, ◌∙◌, subst, arith, true≢false, Some}
use Rattle.std.proofs.Common.{slice_get, inl, inr, map, length-append}
use Rattle.std.specs.List.{list_any}
use Rattle.std.proofs.lemmas.Bool.{cases_lt}
use Rattle.std.proofs.lemmas.Bool.Decides.{Decides-and, Decides-eqb}
use Rattle.std.proofs.lemmas.List.{get_or_append_left, get_or_push}
use Rattle.std.proofs.lemmas.Option.{slice_get_within, get_or_from_slice_get}
use Rattle.ft_isa.proofs.Lists.{get_front}
use Rattle.ft_static.specs.Form.{Atom, Form, integer_form, polynomial_of}
use Rattle.ft_static.specs.NormalForm.{alone, degree}
use Rattle.ft_static.proofs.SameTrees.{shape_decides}
use Rattle.ft_norm.specs.declared.entry.LinearTerm.{LinearTerm}
use Rattle.ft_norm.specs.declared.entry.Term.{Term}
use Rattle.ft_norm.specs.declared.entry.Entry.{Entry}
use Rattle.ft_norm.specs.declared.entry.Entry.TheVariants.{Atom as Lone, Linear, Packed, Full, Unchanged, Update}
use Rattle.ft_norm.specs.contracts.entry.EntryPartialEq.TheImpl as entry
use Rattle.ft_norm.specs.Held.{Keeps, polynomial_at, updates_at}
use Rattle.ft_norm.specs.Entries.{AreCanonical, AreEntries, IsCanonical, IsDistinct, alone_term, atom_form, entry_form}
use Rattle.ft_norm.specs.Entries.{forms_of, full, greatest, polynomial_form, reach_of_entry, reach_of_terms}
use Rattle.ft_norm.specs.Orders.{AreTerms}
use Rattle.ft_norm.specs.Packing.{ArePacked, HaveSmall, unpacked}
use Rattle.ft_norm.specs.declared.packed.PackedTerm.{PackedTerm}
use Rattle.ft_norm.proofs.Forms.{entry_agree, push_agrees, form_at, forms_onto-push, length-forms_of, names_push}
use Rattle.ft_norm.proofs.HeldForms.{grown, keeps_itself, keeps_push}
use Rattle.ft_norm.proofs.Linear.{linear_degree, linears_itself}
use Rattle.ft_norm.proofs.Lists.{slice_get-push}
use Rattle.ft_norm.proofs.SameTerms.{linears_decide, packed_lists_decide, terms_decide}
use Rattle.ft_norm.proofs.Packing.{have_small_unpacked, packed_itself}
use Rattle.ft_norm.proofs.Single.{alone_is, degree_over, one_integer, one_memory, one_node, one_polynomial}

-- equal entries have equal forms
pub same_entry : (fs : List Form) (a b : Entry) → (entry.ghosts).eq a b ≡ true → entry_form fs a ≡ entry_form fs b
same_entry fs (Lone a) (Lone b) h = ap (λ x. integer_form (alone (atom_form fs x))) ((shape_decides a b).0 h)
same_entry fs (Linear ts) (Linear us) h = ap (λ xs. integer_form (polynomial_form fs (map full xs)))
    ((linears_decide ts.items us.items _ refl).0 h)
same_entry fs (Packed ts) (Packed us) h = ap (λ xs. integer_form (polynomial_form fs (map unpacked xs)))
    ((packed_lists_decide ts.items us.items _ refl).0 h)
same_entry fs (Full ts) (Full us) h = ap (λ xs. integer_form (polynomial_form fs xs))
    ((terms_decide ts.items us.items _ refl).0 h)
same_entry fs Unchanged Unchanged h = refl
same_entry fs (Update at value older) (Update at' value' older') h =
    let t = (Decides-and _ _ (Decides-eqb at at') (Decides-and _ _ (Decides-eqb value value')
    (Decides-eqb older older'))).0 h in rw (t.0, t.1.0, t.1.1) refl
same_entry fs a b h = absurd (true≢false (sym h))

module _ (fs : List Form) (d : IsDistinct fs) where
  -- terms of degree at most 1 and terms of degree at least 2 are different polynomials
  linear_apart : (ts : List LinearTerm) (us : List Term) → AreTerms (map full ts) → AreTerms us →
      reach_of_terms fs (map full ts) ≤ length fs → reach_of_terms fs us ≤ length fs → 2 ≤ greatest us
      → polynomial_form fs (map full ts) ≡ polynomial_form fs us → ⊥
  linear_apart ts us h k a b g e = let q = ap greatest (one_polynomial fs d (map full ts) us h k a b e) in
      let l = linear_degree ts in omega (arith, q, l, g)

  -- packed terms and terms with an atom that does not fit are different polynomials
  packed_apart : (ps : List PackedTerm) (us : List Term) → AreTerms (map unpacked ps) → AreTerms us →
      reach_of_terms fs (map unpacked ps) ≤ length fs → reach_of_terms fs us ≤ length fs → ArePacked ps →
      (HaveSmall us → ⊥)
      → polynomial_form fs (map unpacked ps) ≡ polynomial_form fs us → ⊥
  packed_apart ps us h k a b p n e = n (subst HaveSmall (one_polynomial fs d (map unpacked ps) us h k a b e)
      (have_small_unpacked ps p))

  -- a single atom is not the polynomial of a `Linear` entry
  alone_linear : (x : Atom) (ts : List Term) → AreTerms ts → reach_of_terms fs ts ≤ length fs → greatest ts ≤ 1 →
      ((k : ℕ) → ts ≢ alone_term (k + 1) ∷ []) → alone x ≡ polynomial_form fs ts → ⊥
  alone_linear x ts h r g n e = n (alone_is fs x ts (record { terms = h; distinct = d; reach = r }) g e).0
      (alone_is fs x ts (record { terms = h; distinct = d; reach = r }) g e).1

  -- nor is it the polynomial of terms of degree at least 2
  alone_full : (x : Atom) (ts : List Term) → AreTerms ts → reach_of_terms fs ts ≤ length fs → 2 ≤ greatest ts → alone x
      ≡ polynomial_form fs ts → ⊥
  alone_full x ts h r g e = let q = degree_over fs ts (record { terms = h; distinct = d; reach = r }) in
      let w : 1 ≡ degree (polynomial_form fs ts) = ap degree e in omega (arith, q, w, g)

  -- entries with equal forms are equal
  pub one_entry : (a b : Entry) → IsCanonical a → IsCanonical b → reach_of_entry fs a ≤ length fs →
      reach_of_entry fs b ≤ length fs → entry_form fs a ≡ entry_form fs b → (entry.ghosts).eq a b ≡ true
  one_entry (Lone x) (Lone y) h k a b e = (shape_decides x y).1
      (one_node fs d x y h k a b (let p : alone (atom_form fs x) ≡ alone (atom_form fs y) = ap polynomial_of e in cc))
  one_entry (Lone x) (Linear us) h k a b e = absurd
      (alone_linear (atom_form fs x) (map full us.items) k.0 b (linear_degree us.items) k.2 (ap polynomial_of e))
  one_entry (Linear ts) (Lone y) h k a b e = absurd
      (alone_linear (atom_form fs y) (map full ts.items) h.0 a (linear_degree ts.items) h.2 (sym (ap polynomial_of e)))
  one_entry (Lone x) (Packed us) h k a b e = absurd (alone_full (atom_form fs x) (map unpacked us.items) k.0 b k.2
      (ap polynomial_of e))
  one_entry (Packed ts) (Lone y) h k a b e = absurd (alone_full (atom_form fs y) (map unpacked ts.items) h.0 a h.2
      (sym (ap polynomial_of e)))
  one_entry (Lone x) (Full us) h k a b e = absurd (alone_full (atom_form fs x) us.items k.0 b k.2 (ap polynomial_of e))
  one_entry (Full ts) (Lone y) h k a b e = absurd (alone_full (atom_form fs y) ts.items h.0 a h.2
      (sym (ap polynomial_of e)))
  one_entry (Linear ts) (Linear us) h k a b e = (linears_decide ts.items us.items _ refl).1
      (linears_itself ts.items us.items (one_polynomial fs d (map full ts.items) (map full us.items) h.0 k.0 a b
      (ap polynomial_of e)))
  one_entry (Linear ts) (Full us) h k a b e = absurd
      (linear_apart ts.items us.items h.0 k.0 a b k.2 (ap polynomial_of e))
  one_entry (Full ts) (Linear us) h k a b e = absurd
      (linear_apart us.items ts.items k.0 h.0 b a h.2 (sym (ap polynomial_of e)))
  one_entry (Linear ts) (Packed us) h k a b e = absurd (linear_apart ts.items (map unpacked us.items) h.0 k.0 a b k.2
      (ap polynomial_of e))
  one_entry (Packed ts) (Linear us) h k a b e = absurd (linear_apart us.items (map unpacked ts.items) k.0 h.0 b a h.2
      (sym (ap polynomial_of e)))
  one_entry (Packed ts) (Packed us) h k a b e = (packed_lists_decide ts.items us.items _ refl).1
      (packed_itself ts.items us.items h.3 k.3 (one_polynomial fs d (map unpacked ts.items) (map unpacked us.items) h.0
      k.0 a b (ap polynomial_of e)))
  one_entry (Packed ts) (Full us) h k a b e = absurd
      (packed_apart ts.items us.items h.0 k.0 a b h.3 k.3 (ap polynomial_of e))
  one_entry (Full ts) (Packed us) h k a b e = absurd
      (packed_apart us.items ts.items k.0 h.0 b a k.3 h.3 (sym (ap polynomial_of e)))
  one_entry (Full ts) (Full us) h k a b e = (terms_decide ts.items us.items _ refl).1
      (one_polynomial fs d ts.items us.items h.0 k.0 a b (ap polynomial_of e))
  one_entry Unchanged Unchanged h k a b e = refl
  one_entry (Update at value older) (Update at' value' older') h k a b e =
      let t : polynomial_at fs at ≡ polynomial_at fs at' = cc in
      let u : polynomial_at fs value ≡ polynomial_at fs value' = cc in
      let w : updates_at fs older ≡ updates_at fs older' = cc in
      rw (
        (Decides-eqb at at').1 (one_integer fs d at at' (omega arith) (omega arith) t),
        (Decides-eqb value value').1 (one_integer fs d value value' (omega arith) (omega arith) u),
        (Decides-eqb older older').1 (one_memory fs d older older' (omega arith) (omega arith) w),
      ) refl
  one_entry x y h k a b e = cc

-- if no element passes a test, each fails it
none_passes : {A : Type 0} (test : A → Bool) (xs : List A) (k : ℕ) (d : A) → list_any test xs ≡ false → k < length xs →
    test (get_or xs k d) ≡ false
none_passes test [] k d h l = absurd (omega arith)
none_passes test (x ∷ xs) zero d h l = go (test x) h
  where
    go : (b : Bool) → (b || list_any test xs) ≡ false → b ≡ false
    go true h = absurd (true≢false h)
    go false h = refl
none_passes test (x ∷ xs) (suc k) d h l = none_passes test xs k d (go (test x) h) (omega arith)
  where
    go : (b : Bool) → (b || list_any test xs) ≡ false → list_any test xs ≡ false
    go true h = absurd (true≢false h)
    go false h = h

-- a new entry has a new form
new_form : (es : List Entry) (e : Entry) → AreEntries es → IsCanonical e → reach_of_entry (forms_of es) e ≤ length es →
    list_any ((entry.ghosts).eq e) es ≡ false
    → (k : ℕ) → slice_get (forms_of es) k ≡ Some (entry_form (forms_of es) e) → ⊥
new_form es e h c r n k f =
    let fs = forms_of es in
    let l = length-forms_of es in
    let m : k < length es = let w = slice_get_within fs k _ f in omega arith in
    let q : Some (entry_form fs e) ≡ Some (entry_form fs (get_or es k e)) = sym f ∙ form_at es k e h.earlier m in
    let p : entry_form fs e ≡ entry_form fs (get_or es k e) = cc in
    let b = h.earlier k e m in
    true≢false (sym (one_entry fs h.distinct e (get_or es k e) c (h.canonical k e m) (omega arith) (omega arith) p)
    ∙ none_passes ((entry.ghosts).eq e) es k e n m)

-- forms stay distinct if a new one is appended
distinct_push : (fs : List Form) (x : Form) → IsDistinct fs → ((k : ℕ) → slice_get fs k ≡ Some x → ⊥) →
    IsDistinct (fs ++ x ∷ [])
distinct_push fs x d n = record { one = go }
  where
    old : (i : ℕ) (y : Form) → i < length fs → slice_get (fs ++ x ∷ []) i ≡ Some y → slice_get fs i ≡ Some y
    old i y l e = sym (get_front fs (x ∷ []) i l) ∙ e

    new : (i : ℕ) (y : Form) → length fs ≤ i → slice_get (fs ++ x ∷ []) i ≡ Some y → (i ≡ length fs) × (y ≡ x)
    new i y l e =
        let w = slice_get_within (fs ++ x ∷ []) i y e in
        let q : i ≡ length fs = omega (arith, length-append fs (x ∷ [])) in
        let s : Some y ≡ Some x = sym e ∙ slice_get-push fs x i q in
        (q, cc)

    go : (i j : ℕ) (y : Form) → slice_get (fs ++ x ∷ []) i ≡ Some y → slice_get (fs ++ x ∷ []) j ≡ Some y → i ≡ j
    go i j y a b = elim (cases_lt i (length fs)) [
      | inl l ↦ elim (cases_lt j (length fs)) [
        | inl m ↦ d.one i j y (old i y l a) (old j y m b)
        | inr m ↦ absurd (n i (old i y l a ∙ ap Some (new j y m b).1))
      ]
      | inr l ↦ elim (cases_lt j (length fs)) [
        | inl m ↦ absurd (n j (old j y m b ∙ ap Some (new i y l a).1))
        | inr m ↦ (new i y l a).0 ∙ sym (new j y m b).0
      ]
    ]

-- entries stay canonical if a canonical one is appended
canonical_push : (es : List Entry) (e : Entry) → AreCanonical es → IsCanonical e → AreCanonical (es ++ e ∷ [])
canonical_push es e h c k d l = elim (cases_lt k (length es)) [
  | inl m ↦ rw (get_or_append_left es (e ∷ []) d k m) (h k d m)
  | inr m ↦ let q : k ≡ length es = omega (arith, length-append es (e ∷ [])) in
      rw (q, get_or_push es e d (length es) refl) c
]

-- a new canonical entry keeps the invariant of the entries
pub entries_push : (es : List Entry) (e : Entry) → AreEntries es → length es + 1 < 2 ^ 32 → IsCanonical e →
    reach_of_entry (forms_of es) e ≤ length es → list_any ((entry.ghosts).eq e) es ≡ false → AreEntries (es ++ e ∷ [])
entries_push es e h few c r n = record {
  earlier = names_push es e h.earlier r;
  distinct = subst IsDistinct (sym (forms_onto-push [] es e))
      (distinct_push (forms_of es) (entry_form (forms_of es) e) h.distinct (new_form es e h c r n));
  canonical = canonical_push es e h.canonical c;
  few = rw (length-append es (e ∷ [])) few;
}

-- what interning an entry does: the invariant holds, the forms held before stay, and place i has the entry's form
pub record Puts (fs : List Form) (e : Entry) (xs : List Entry) (i : ℕ) : Type 0 where
  pub entries : AreEntries xs
  pub kept : Keeps fs (forms_of xs)
  pub form : slice_get (forms_of xs) i ≡ Some (entry_form fs e)

-- interning finds an equal entry or appends the new one
pub put : (es xs : List Entry) (fs : List Form) (e k : Entry) (i : ℕ) → AreEntries es → length es + 1 < 2 ^ 32 →
    forms_of es ≡ fs → IsCanonical e → reach_of_entry fs e ≤ length fs
    → xs ≡ (if list_any ((entry.ghosts).eq e) es then es else es ++ e ∷ []) → slice_get xs i ≡ Some k →
    (entry.ghosts).eq e k ≡ true → Puts fs e xs i
put es xs fs e k i h w v c r x s q = go (list_any ((entry.ghosts).eq e) es) refl x
  where
    l : length es ≡ length fs
    l = sym (length-forms_of es) ∙ ap length v

    r' : reach_of_entry (forms_of es) e ≤ length es
    r' = rw v (omega (arith, r, l))

    at : (ys : List Entry) → AreEntries ys → slice_get ys i ≡ Some k → slice_get (forms_of ys) i
        ≡ Some (entry_form (forms_of ys) e)
    at ys a f = form_at ys i k a.earlier (slice_get_within ys i k f)
        ∙ ap Some (ap (entry_form (forms_of ys)) (get_or_from_slice_get ys i k k f)
        ∙ sym (same_entry (forms_of ys) e k q))

    go : (b : Bool) → list_any ((entry.ghosts).eq e) es ≡ b → xs ≡ (if b then es else es ++ e ∷ []) → Puts fs e xs i
    go true n y = record {
      entries = rw y h;
      kept = keeps_itself fs (forms_of xs) (ap forms_of y ∙ v);
      form = rw y (at es h (rw y at s) ∙ ap (λ gs. Some (entry_form gs e)) v);
    }
    go false n y =
        let p = entries_push es e h w c r' n in
        record {
          entries = rw y p;
          kept = keeps_push fs (forms_of xs) (entry_form fs e) (grown es xs fs e v y);
          form = rw y (at (es ++ e ∷ []) p (rw y at s)
              ∙ ap Some (sym (entry_agree (length es) (forms_of es) (forms_of (es ++ e ∷ [])) (forms_of es)
              (push_agrees es e) e r') ∙ ap (λ gs. entry_form gs e) v));
        }
