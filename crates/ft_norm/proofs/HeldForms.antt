-- The forms that an interner holds, and the entries behind them.
use Rattle.std.proofs.Common.{ℕ, suc, ◌≡◌, ◌+◌, ◌<◌, ◌≤◌, List, [], ◌∷◌, ◌++◌, length, refl, sym, ap, ◌∙◌, subst, arith}
use Rattle.std.proofs.Common.{Option, Some, Result, Ok, Err, get_or, slice_get}
use Rattle.std.specs.Prelude.{IfOk}
use Rattle.std.specs.Option.{unwrap_or}
use Rattle.std.proofs.lemmas.Option.{slice_get_within}
use Rattle.ft_isa.proofs.Lists.{get_front}
use Rattle.ft_static.specs.Form.{Form as Normal, Polynomial, Updates, integer_form, memory_form, nought, polynomial_of}
use Rattle.ft_static.specs.Form.{updates_of}
use Rattle.ft_norm.specs.declared.form.Form.{Form}
use Rattle.ft_norm.specs.declared.entry.Entry.{Entry}
use Rattle.ft_norm.specs.Held.{held, polynomial_at, updates_at, polynomial, polynomials, updates_held, IsInteger}
use Rattle.ft_norm.specs.Held.{IsMemory, AreIntegers, Keeps}
use Rattle.ft_norm.specs.declared.entry.Term.{Term}
use Rattle.ft_norm.specs.Entries.{AreEntries, IsDistinct, IsIntegerAt, IsMemoryAt, NamesEarlier, entry_form, forms_of}
use Rattle.ft_norm.specs.Entries.{integer_reach, reach_of_terms}
use Rattle.ft_norm.specs.Orders.{AreTerms}
use Rattle.ft_norm.specs.Terms.{AreOver}
use Rattle.ft_norm.proofs.Forms.{form_read, integer_reaches, length-forms_of, forms_onto-push}

-- a form's place is within the entries
pub within : (es xs : List Entry) (fs : List Normal) (i : ℕ) (x : Normal) → forms_of es ≡ fs → xs ≡ es → slice_get fs i
    ≡ Some x → i < length xs
within es xs fs i x v e h =
    let a = slice_get_within fs i x h in
    let b = ap length v in
    let c = length-forms_of es in
    let d = ap length e in
    omega arith

-- there are as many entries as forms
as_many : (es xs : List Entry) (fs : List Normal) → forms_of es ≡ fs → xs ≡ es → length xs ≡ length fs
as_many es xs fs v e = ap length e ∙ (sym (length-forms_of es) ∙ ap length v)

-- appending an entry appends its form
pub grown : (es xs : List Entry) (fs : List Normal) (e : Entry) → forms_of es ≡ fs → xs ≡ es ++ e ∷ [] → forms_of xs
    ≡ fs ++ entry_form fs e ∷ []
grown es xs fs e v h = ap forms_of h ∙ (forms_onto-push [] es e ∙ ap (λ gs. gs ++ entry_form gs e ∷ []) v)

-- if a call made the form x, and x is y, it made the form y
pub made : {E : Type 0} (r : Result Form E) (gs : List Normal) (x y : Normal) → x ≡ y →
    IfOk r (λ f. held gs f ≡ Some x) → IfOk r (λ f. held gs f ≡ Some y)
made (Ok f) gs x y e h = h ∙ ap Some e
made (Err d) gs x y e h = tt

-- if the form at index i is that of a polynomial, `polynomial_at` returns this polynomial
pub polynomial_found : (gs : List Normal) (i : ℕ) (p : Polynomial) → slice_get gs i ≡ Some (integer_form p) →
    polynomial_at gs i ≡ p
polynomial_found gs i p h = ap (λ (o : Option Normal). polynomial_of (unwrap_or o (integer_form nought))) h

-- if the form at index i is that of updates, `updates_at` returns these updates
pub updates_found : (gs : List Normal) (i : ℕ) (u : Updates) → slice_get gs i ≡ Some (memory_form u) → updates_at gs i
    ≡ u
updates_found gs i u h = ap (λ (o : Option Normal). updates_of (unwrap_or o (integer_form nought))) h

-- a `Form` is an integer if it stands for a polynomial
pub integer_from : (gs : List Normal) (f : Form) (p : Polynomial) → held gs f ≡ Some (integer_form p) → IsInteger gs f
integer_from gs f p h = record { found = h ∙ ap (λ q. Some (integer_form q)) (sym (polynomial_found gs f.0 p h)) }

-- a `Form` is a memory if it stands for updates
pub memory_from : (gs : List Normal) (f : Form) (u : Updates) → held gs f ≡ Some (memory_form u) → IsMemory gs f
memory_from gs f u h = record { found = h ∙ ap (λ w. Some (memory_form w)) (sym (updates_found gs f.0 u h)) }

-- if every form stays, so do its sort and its contents
pub keeps_from : (fs gs : List Normal) → ((f : Form) (x : Normal) → held fs f ≡ Some x → held gs f ≡ Some x) →
    Keeps fs gs
keeps_from fs gs k = record {
  forms_stay = k;
  integers_stay = λ (f : Form) h. integer_from gs f (polynomial fs f) (k f (integer_form (polynomial fs f)) h.found);
  memories_stay = λ (f : Form) h. memory_from gs f (updates_held fs f) (k f (memory_form (updates_held fs f)) h.found);
  polynomials_stay = λ (f : Form) h. polynomial_found gs f.0 (polynomial fs f)
      (k f (integer_form (polynomial fs f)) h.found);
  updates_stay = λ (f : Form) h. updates_found gs f.0 (updates_held fs f)
      (k f (memory_form (updates_held fs f)) h.found);
}

-- appending a form keeps the others
pub keeps_push : (fs gs : List Normal) (x : Normal) → gs ≡ fs ++ x ∷ [] → Keeps fs gs
keeps_push fs gs x e = keeps_from fs gs (λ (f : Form) (y : Normal) h. ap (λ (hs : List Normal). slice_get hs f.0) e
    ∙ (get_front fs (x ∷ []) f.0 (slice_get_within fs f.0 y h) ∙ h))

-- an unchanged list keeps its forms
pub keeps_itself : (fs gs : List Normal) → gs ≡ fs → Keeps fs gs
keeps_itself fs gs e = keeps_from fs gs (λ (f : Form) (y : Normal) h. ap (λ (hs : List Normal). slice_get hs f.0) e ∙ h)

-- if each of two calls keeps the forms, so do both, one after the other
pub keeps_both : (fs gs hs : List Normal) → Keeps fs gs → Keeps gs hs → Keeps fs hs
keeps_both fs gs hs j k = keeps_from fs hs (λ (f : Form) (x : Normal) h. k.forms_stay f x (j.forms_stay f x h))

-- integers stay integers
pub integers_kept : (fs gs : List Normal) (xs : List Form) → Keeps fs gs → AreIntegers fs xs → AreIntegers gs xs
integers_kept fs gs xs k a = λ (i : ℕ) (f : Form) h. k.integers_stay f (a i f h)

-- integers keep their polynomials
pub polynomials_kept : (fs gs : List Normal) (xs : List Form) → Keeps fs gs → AreIntegers fs xs → polynomials gs xs
    ≡ polynomials fs xs
polynomials_kept fs gs [] k a = refl
polynomials_kept fs gs (x ∷ xs) k a = rw (
  k.polynomials_stay x (a 0 x refl),
  polynomials_kept fs gs xs k (λ i f h. a (suc i) f h),
) refl

-- the reach of an integer is within the list
pub integer_within : (fs : List Normal) (f : Form) (p : Polynomial) → held fs f ≡ Some (integer_form p) →
    integer_reach fs f.0 ≤ length fs
integer_within fs f p h = let x = integer_reaches fs f.0 p h in let w = slice_get_within fs f.0 (integer_form p) h in
    omega (arith, x, w)

-- an integer that is held is an integer among the forms of the entries
pub integer_seen : (es xs : List Entry) (fs : List Normal) (f : Form) → forms_of es ≡ fs → xs ≡ es → IsInteger fs f →
    IsIntegerAt (forms_of xs) f.0
integer_seen es xs fs f v e h = let g : forms_of xs ≡ fs = ap forms_of e ∙ v in rw g h.found

-- a memory that is held is a memory among the forms of the entries
pub memory_seen : (es xs : List Entry) (fs : List Normal) (f : Form) → forms_of es ≡ fs → xs ≡ es → IsMemory fs f →
    IsMemoryAt (forms_of xs) f.0
memory_seen es xs fs f v e h = let g : forms_of xs ≡ fs = ap forms_of e ∙ v in rw g h.found

-- the terms of an entry are over the held forms
pub over_seen : (es xs : List Entry) (fs : List Normal) (ts : List Term) (i : ℕ) → AreEntries es → forms_of es ≡ fs → xs
    ≡ es → AreTerms ts → reach_of_terms (forms_of xs) ts ≤ i + 1 → i < length xs → AreOver fs ts
over_seen es xs fs ts i h v e t r l = record {
  terms = t;
  distinct = subst IsDistinct v h.distinct;
  reach =
      let g : forms_of xs ≡ fs = ap forms_of e ∙ v in
      let q : reach_of_terms fs ts ≤ i + 1 = rw g at r in
      let n = as_many es xs fs v e in
      omega (arith, q, l, n);
}

-- an entry that the code has read has its form in the list
pub entry_seen : (es xs : List Entry) (fs : List Normal) (i : ℕ) (e : Entry) → AreEntries es → forms_of es ≡ fs → xs
    ≡ es → i < length xs → e ≡ get_or xs i e → slice_get fs i ≡ Some (entry_form fs e)
entry_seen es xs fs i e h v k l r =
    let g : forms_of xs ≡ fs = ap forms_of k ∙ v in
    let n : NamesEarlier xs = subst NamesEarlier (sym k) h.earlier in
    rw g at (form_read xs i e e n l r refl)
