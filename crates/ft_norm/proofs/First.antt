-- The first entries alone: what an interner holds after `keep_first`.
use Rattle.std.proofs.Common.{ℕ, zero, suc, ◌≡◌, ◌+◌, ◌≤◌, List, [], ◌∷◌, ◌++◌, length, take, get_or, slice_get}
use Rattle.std.proofs.Common.{refl, sym, ap, ◌∙◌, arith, length-append, min, Some}
use Rattle.std.proofs.lemmas.List.{append-nil, get_or-take, length-take, take_all, take_at}
use Rattle.std.proofs.lemmas.Option.{slice_get_within}
use Rattle.ft_isa.proofs.Lists.{get_taken}
use Rattle.ft_static.specs.Form.{Form as Normal}
use Rattle.ft_norm.specs.declared.form.Form.{Form}
use Rattle.ft_norm.specs.declared.entry.Entry.{Entry}
use Rattle.ft_norm.specs.Held.{Keeps}
use Rattle.ft_norm.specs.Entries.{AreEntries, entry_form, forms_of, forms_onto}
use Rattle.ft_norm.proofs.Forms.{Agree, entry_reach_agree, length-forms_of}
use Rattle.ft_norm.proofs.HeldForms.{keeps_from}

-- the forms so far come first
pub onto_begins : (fs : List Normal) (es : List Entry) → (gs : List Normal) × (forms_onto fs es ≡ fs ++ gs)
onto_begins fs [] = ([], sym (append-nil fs))
onto_begins fs (e ∷ es) =
    let x = entry_form fs e in
    let r = onto_begins (fs ++ x ∷ []) es in
    (x ∷ r.0, r.1 ∙ grouped fs x r.0)
  where
    grouped : (xs : List Normal) (y : Normal) (ys : List Normal) → (xs ++ y ∷ []) ++ ys ≡ xs ++ y ∷ ys
    grouped [] y ys = refl
    grouped (x ∷ xs) y ys = ap (λ zs. x ∷ zs) (grouped xs y ys)

-- the forms of the first n entries, after those so far, are the first n after those so far
first_onto : (n : ℕ) (fs : List Normal) (es : List Entry) → forms_onto fs (take n es)
    ≡ take (length fs + n) (forms_onto fs es)
first_onto zero fs es =
    let r = onto_begins fs es in
    let l : length fs ≡ length fs + 0 = omega arith in
    sym (take_at fs r.0 (length fs + 0) l) ∙ ap (take (length fs + 0)) (sym r.1)
first_onto (suc n) fs [] = sym (take_all (length fs + suc n) fs (omega arith))
first_onto (suc n) fs (e ∷ es) =
    let gs = fs ++ entry_form fs e ∷ [] in
    let l : length gs + n ≡ length fs + suc n = omega (arith, length-append fs (entry_form fs e ∷ [])) in
    first_onto n gs es ∙ ap (λ m. take m (forms_onto gs es)) l

-- the forms of the first n entries are the first n forms
pub first_forms : (es : List Entry) (n : ℕ) → forms_of (take n es) ≡ take n (forms_of es)
first_forms es n = let z : 0 + n ≡ n = omega arith in first_onto n [] es ∙ ap (λ m. take m (forms_of es)) z

-- the first n forms agree with all
first_agree : (fs : List Normal) (n m : ℕ) → m ≤ n → Agree m fs (take n fs)
first_agree fs n m l = record { below = λ k h. sym (get_taken n fs k (omega (arith, l, h))) }

-- a form among the first n is one of all
first_held : (fs : List Normal) (n i : ℕ) (x : Normal) → slice_get (take n fs) i ≡ Some x → slice_get fs i ≡ Some x
first_held fs n i x h =
    let w = slice_get_within (take n fs) i x h in
    let l = length-take n fs in
    sym (get_taken n fs i (omega (arith, w, l))) ∙ h

-- the invariant of entries holds of the first n, too
pub first_entries : (es : List Entry) (n : ℕ) → AreEntries es → AreEntries (take n es)
first_entries es n h = record {
  earlier = λ k d l.
      let w = length-take n es in
      let s = length-forms_of es in
      let r = h.earlier k d (omega (arith, w, l)) in
      let m = min n (length es) in
      rw (first_forms es n, get_or-take n es k d (omega (arith, w, l)))
      (entry_reach_agree m k (forms_of es) (take n (forms_of es)) (first_agree (forms_of es) n m (omega arith))
      (omega (arith, s)) (omega (arith, w, l)) (get_or es k d) r);
  distinct = record {
    one = λ i j x a b.
        let a' = rw (first_forms es n) at a in
        let b' = rw (first_forms es n) at b in
        h.distinct.one i j x (first_held (forms_of es) n i x a') (first_held (forms_of es) n j x b');
  };
  canonical = λ k d l.
      let w = length-take n es in
      rw (get_or-take n es k d (omega (arith, w, l))) (h.canonical k d (omega (arith, w, l)));
  few = let w = length-take n es in let f = h.few in omega (arith, w, f);
}

-- the first forms still hold those that were held when there were as many
pub first_kept : (fs gs : List Normal) (n : ℕ) → length fs ≡ n → Keeps fs gs → Keeps fs (take n gs)
first_kept fs gs n l k = keeps_from fs (take n gs) (λ (f : Form) x h.
    let w = slice_get_within fs f.0 x h in
    get_taken n gs f.0 (omega (arith, w, l)) ∙ k.forms_stay f x h)
