-- Short ways through the updates of a memory stay right, and join.
use Rattle.std.proofs.Common.{ℕ, ◌≡◌, ◌≢◌, ◌+◌, ◌<◌, ◌≤◌, List, [], ◌∷◌, ◌++◌, Some, Option, true, false, Bool, get_or}
use Rattle.std.proofs.Common.{length, map}
use Rattle.std.proofs.Common.{None, nat_eq, if◌then◌else◌, inl, inr, ◌^◌, suc, zero}
use Rattle.std.proofs.Math.ListN.{set}
use Rattle.std.proofs.Common.{slice_get, refl, sym, ap, ◌∙◌, arith, subst, lit<}
use Rattle.std.specs.Option.{unwrap_or}
use Rattle.std.specs.Int.{bit_at}
use Rattle.std.proofs.lemmas.Bool.{cases_lt}
use Rattle.std.proofs.lemmas.Nat.Bits.{bit_at-lt, bit_at-trailing_zeros, bit_at-zero, bit_at_xor}
use Rattle.std.specs.Int.{w32}
use Rattle.std.specs.Int.Bits.{bit_xor}
use Rattle.std.specs.Int.Count.{count_trailing_zeros, trailing_of_zero}
use Rattle.std.proofs.lemmas.List.{append-nil, append_assoc, get_or_append_left}
use Rattle.std.proofs.lemmas.Option.{get_or_from_slice_get, slice_get-get_or, slice_get_read, slice_get_within}
use Rattle.ft_isa.proofs.Lists.{get_front}
use Rattle.ft_static.specs.Form.{Form, integer_form, memory_form, nought, polynomial_of}
use Rattle.ft_static.specs.Form.{updates_of}
use Rattle.ft_static.specs.NormalForm.{constant_of, is_not_zero, norm_sel, norm_sub}
use Rattle.ft_norm.specs.declared.entry.Term.{Term}
use Rattle.ft_norm.specs.declared.entry.Entry.{Entry}
use Rattle.ft_norm.specs.declared.entry.Entry.TheVariants.{Atom as Lone, Linear, Packed, Full, Unchanged, Update}
use Rattle.ft_norm.specs.declared.turns.Path.{Path}
use Rattle.ft_norm.specs.Held.{polynomial_at, updates_at}
use Rattle.ft_norm.specs.Entries.{AreEntries, IsIntegerAt, IsMemoryAt, alone_term, entry_form, forms_of, forms_onto}
use Rattle.ft_norm.specs.Entries.{full}
use Rattle.ft_norm.specs.Entries.{IsCanonical, polynomial_form, reach_of_entry, reach_of_terms}
use Rattle.ft_norm.specs.Orders.{AreTerms}
use Rattle.ft_norm.specs.Packing.{unpacked}
use Rattle.ft_norm.specs.Ways.{AreAlike, ArePaths, IsLevel, IsPath, IsTurn, IsUpdate, IsWay, Leads, Passes, Skips}
use Rattle.ft_norm.specs.Ways.{entry_terms, terms_in}
use Rattle.ft_norm.specs.Terms.{AreOver, constant_among}
use Rattle.ft_norm.proofs.Apart.{apart, apart_others, split_form}
use Rattle.ft_norm.proofs.First.{onto_begins}
use Rattle.ft_norm.proofs.Forms.{atom_reaches, form_at, form_read, length-forms_of, link, link_address, lone_read}
use Rattle.ft_norm.proofs.Forms.{link_reach, memory_reached, polynomial_read}
use Rattle.ft_norm.proofs.Walking.{integer_bound, memory_bound, older_count, older_reach, two_differ, walk_on}
use Rattle.indexmap.specs.IndexMap.{IndexMap, IsEmpty}
use Rattle.std.specs.Map.{lookup}

-- WHAT STAYS WHEN MORE IS INTERNED

-- the forms so far come first
forms_more : (es more : List Entry) → (gs : List Form) × (forms_of (es ++ more) ≡ forms_of es ++ gs)
forms_more es more = let r = onto_begins (forms_of es) more in (r.0, split [] es more ∙ r.1)
  where
    split : (fs : List Form) (xs ys : List Entry) → forms_onto fs (xs ++ ys) ≡ forms_onto (forms_onto fs xs) ys
    split fs [] ys = refl
    split fs (x ∷ xs) ys = split (fs ++ entry_form fs x ∷ []) xs ys

-- a form that is there stays
form_more : (es more : List Entry) (i : ℕ) → i < length es → slice_get (forms_of (es ++ more)) i
    ≡ slice_get (forms_of es) i
form_more es more i l =
    let r = forms_more es more in
    let n = length-forms_of es in
    ap (λ fs. slice_get fs i) r.1 ∙ get_front (forms_of es) r.0 i (omega (arith, l, n))

polynomial_more : (es more : List Entry) (i : ℕ) → i < length es → polynomial_at (forms_of (es ++ more)) i
    ≡ polynomial_at (forms_of es) i
polynomial_more es more i l = ap (λ (o : Option Form). polynomial_of (unwrap_or o (integer_form nought)))
    (form_more es more i l)

updates_more : (es more : List Entry) (i : ℕ) → i < length es → updates_at (forms_of (es ++ more)) i
    ≡ updates_at (forms_of es) i
updates_more es more i l = ap (λ (o : Option Form). updates_of (unwrap_or o (integer_form nought)))
    (form_more es more i l)

integer_more : (es more : List Entry) (i : ℕ) → IsIntegerAt (forms_of es) i → IsIntegerAt (forms_of (es ++ more)) i
integer_more es more i h =
    let l = integer_bound es i h in
    form_more es more i l ∙ h ∙ ap (λ p. Some (integer_form p)) (sym (polynomial_more es more i l))

memory_more : (es more : List Entry) (i : ℕ) → IsMemoryAt (forms_of es) i → IsMemoryAt (forms_of (es ++ more)) i
memory_more es more i h =
    let l = memory_bound es i h in
    form_more es more i l ∙ h ∙ ap (λ u. Some (memory_form u)) (sym (updates_more es more i l))

-- integers that are alike stay alike
pub alike_more : (es more : List Entry) (a b : ℕ) → AreAlike es a b → AreAlike (es ++ more) a b
alike_more es more a b h = record {
  first = integer_more es more a h.first;
  second = integer_more es more b h.second;
  same =
      let l = integer_bound es a h.first in
      let m = integer_bound es b h.second in
      rw (get_or_append_left es more Unchanged a l, get_or_append_left es more Unchanged b m) h.same;
}

-- an update stays
pub update_more : (es more : List Entry) (m a v k : ℕ) → IsUpdate es m a v k → IsUpdate (es ++ more) m a v k
update_more es more m a v k h = get_front es more m (slice_get_within es m (Update a v k) h) ∙ h

-- a way stays
pub way_more : (es more : List Entry) (m a : ℕ) (P : ℕ → Type 0) (t : ℕ) → IsWay es m a P t → IsWay (es ++ more) m a P t
way_more es more m a P t h = record {
  whole = memory_more es more m h.whole;
  sort = memory_more es more t h.sort;
  below = h.below;
  fewer =
      let l = memory_bound es m h.whole in
      let n = memory_bound es t h.sort in
      rw (updates_more es more m l, updates_more es more t n) h.fewer;
  same = λ rest n l x y i p.
      let e = append_assoc es more rest in
      subst (λ (xs : List Entry). norm_sel (updates_at (forms_of xs) m) (polynomial_at (forms_of xs) n)
      ≡ norm_sel (updates_at (forms_of xs) t) (polynomial_at (forms_of xs) n)) (sym e)
      (h.same (more ++ rest) n l (subst AreEntries e x) (subst (λ xs. AreAlike xs n a) e y) i p);
}

-- so does a path
pub path_more : (es more : List Entry) (m : ℕ) (p : Path) → IsPath es m p → IsPath (es ++ more) m p
path_more es more m p h = record {
  value = h.value;
  older = h.older;
  update = update_more es more m p.at h.value h.older h.update;
  base = alike_more es more p.at p.base h.base;
  size = h.size;
  turns = λ i t e. way_more es more m p.at (λ l. l ≡ i) t (h.turns i t e);
}

-- TERMS

-- the terms of an integer's form are over the forms, and give its polynomial
pub record HasTerms (es : List Entry) (n : ℕ) : Type 0 where
  pub over : AreOver (forms_of es) (terms_in es n)
  pub form : polynomial_form (forms_of es) (terms_in es n) ≡ polynomial_at (forms_of es) n

pub has_terms : (es : List Entry) (n : ℕ) → AreEntries es → n < length es → HasTerms es n
has_terms es n h l = go (get_or es n Unchanged) (slice_get-get_or es n Unchanged l)
  where
    fs : List Form
    fs = forms_of es

    size : length fs ≡ length es
    size = length-forms_of es

    read : (x d : Entry) → slice_get es n ≡ Some x → get_or es n d ≡ x
    read x d e = get_or_from_slice_get es n x d e

    canonical : (x : Entry) → slice_get es n ≡ Some x → IsCanonical x
    canonical x e = subst IsCanonical (read x Unchanged e) (h.canonical n Unchanged l)

    reach : (x : Entry) → slice_get es n ≡ Some x → reach_of_entry fs x ≤ n
    reach x e = subst (λ y. reach_of_entry fs y ≤ n) (read x Unchanged e) (h.earlier n Unchanged l)

    from : (x : Entry) (ts : List Term) → slice_get es n ≡ Some x → entry_terms x n ≡ ts → AreTerms ts →
        reach_of_terms fs ts ≤ n + 1 → polynomial_form fs ts ≡ polynomial_at fs n → HasTerms es n
    from x ts e f t r p =
        let g : terms_in es n ≡ ts = ap (λ y. entry_terms y n) (read x Unchanged e) ∙ f in
        record {
          over = record {
            terms = subst AreTerms (sym g) t;
            distinct = h.distinct;
            reach = subst (λ us. reach_of_terms fs us ≤ length fs) (sym g) (omega (arith, r, l, size));
          };
          form = ap (polynomial_form fs) g ∙ p;
        }

    go : (x : Entry) → slice_get es n ≡ Some x → HasTerms es n
    go (Lone a) e =
        let q = sym (read (Lone a) (Lone a) e) in
        let r = atom_reaches fs n _ (form_read es n (Lone a) (Lone a) h.earlier l q refl) in
        from (Lone a) (alone_term (n + 1) ∷ []) e refl
        ((refl, (omega arith, (omega arith, (omega arith, (tt, tt))))), lit< tt, lit< tt, tt, tt)
        (omega (arith, r)) (lone_read es n (Lone a) a h.earlier l q refl)
    go (Linear ts) e =
        let r = reach (Linear ts) e in
        from (Linear ts) (map full ts.items) e refl (canonical (Linear ts) e).0 (omega (arith, r))
        (polynomial_read es n (Linear ts) (Linear ts) h.earlier l (sym (read (Linear ts) (Linear ts) e)) refl)
    go (Packed ts) e =
        let r = reach (Packed ts) e in
        from (Packed ts) (map unpacked ts.items) e refl (canonical (Packed ts) e).0 (omega (arith, r))
        (polynomial_read es n (Packed ts) (Packed ts) h.earlier l (sym (read (Packed ts) (Packed ts) e)) refl)
    go (Full ts) e =
        let r = reach (Full ts) e in
        from (Full ts) ts.items e refl (canonical (Full ts) e).0 (omega (arith, r))
        (polynomial_read es n (Full ts) (Full ts) h.earlier l (sym (read (Full ts) (Full ts) e)) refl)
    go Unchanged e = from Unchanged [] e refl tt (omega arith)
        (polynomial_read es n Unchanged Unchanged h.earlier l (sym (read Unchanged Unchanged e)) refl)
    go (Update a v k) e = from (Update a v k) [] e refl tt (omega arith)
        (polynomial_read es n (Update a v k) (Update a v k) h.earlier l
        (sym (read (Update a v k) (Update a v k) e)) refl)

-- integers that differ by a constant other than 0 are alike
pub alike_apart : (es : List Entry) (a b : ℕ) → AreEntries es → IsIntegerAt (forms_of es) a →
    IsIntegerAt (forms_of es) b
    → is_not_zero (constant_of (norm_sub (polynomial_at (forms_of es) a) (polynomial_at (forms_of es) b))) ≡ true →
    AreAlike es a b
alike_apart es a b h i j e =
    let s = has_terms es a h (integer_bound es a i) in
    let t = has_terms es b h (integer_bound es b j) in
    record {
      first = i;
      second = j;
      same = apart_others (forms_of es) (terms_in es a) (terms_in es b) s.over t.over (rw (s.form, t.form) e);
    }

-- integers that are alike and have different numbers differ by a constant other than 0
pub apart_alike : (es : List Entry) (a b : ℕ) → AreEntries es → AreAlike es a b → a ≢ b →
    is_not_zero (constant_of (norm_sub (polynomial_at (forms_of es) a) (polynomial_at (forms_of es) b))) ≡ true
apart_alike es a b h k n =
    let fs = forms_of es in
    let ps = terms_in es a in
    let qs = terms_in es b in
    let s = has_terms es a h (integer_bound es a k.first) in
    let t = has_terms es b h (integer_bound es b k.second) in
    let differ : constant_among ps ≢ constant_among qs = λ e.
    let x = split_form fs ps s.over.terms in
    let y = split_form fs qs t.over.terms in
    let p : polynomial_form fs ps ≡ polynomial_form fs qs = x ∙ rw (e, k.same) (sym y) in
    let q : polynomial_at fs a ≡ polynomial_at fs b = sym s.form ∙ p ∙ t.form in
    n (h.distinct.one a b (integer_form (polynomial_at fs b)) (k.first ∙ ap (λ z. Some (integer_form z)) q) k.second) in
    sym (rw (sym s.form, sym t.form) (apart fs ps qs s.over t.over differ k.same))

-- alike is symmetric and transitive
pub alike_turned : (es : List Entry) (a b : ℕ) → AreAlike es a b → AreAlike es b a
alike_turned es a b h = record { first = h.second; second = h.first; same = sym h.same }

pub alike_joined : (es : List Entry) (a b c : ℕ) → AreAlike es a b → AreAlike es b c → AreAlike es a c
alike_joined es a b c h k = record { first = h.first; second = k.second; same = h.same ∙ k.same }

pub alike_itself : (es : List Entry) (a : ℕ) → IsIntegerAt (forms_of es) a → AreAlike es a a
alike_itself es a h = record { first = h; second = h; same = refl }

-- LEVELS

-- numbers that differ in a bit are different
level_differs : (a b l : ℕ) → IsLevel a b l → a ≢ b
level_differs a b l h e = h.differ (ap (λ x. bit_at x l) e)

-- if b agrees with a further than n does, n differs from both first in the same bit
level_low : (a b n l j : ℕ) → IsLevel a n l → ((k : ℕ) → k < j → bit_at a k ≡ bit_at b k) → l < j → IsLevel b n l
level_low a b n l j h g i = record {
  agree = λ k m. sym (g k (omega (arith, m, i))) ∙ h.agree k m;
  differ = λ e. h.differ (g l i ∙ e);
}

-- if n agrees with a further than b does, n differs from b first where a does
level_high : (a b n l j : ℕ) → IsLevel a n l → IsLevel a b j → j < l → IsLevel b n j
level_high a b n l j h g i = record {
  agree = λ k m. sym (g.agree k m) ∙ h.agree k (omega (arith, m, i));
  differ = λ e. g.differ (h.agree j i ∙ sym e);
}

-- the lowest bit in which two numbers differ, counted from their exclusive or
pub level_agrees : (a b : ℕ) → bit_xor a b < 2 ^ 32 → (k : ℕ) → k < count_trailing_zeros 32 (bit_xor a b) → bit_at a k
    ≡ bit_at b k
level_agrees a b h k l = elim (cases_lt 0 (bit_xor a b)) [
  | inl p ↦ agrees a b k ((bit_at-trailing_zeros w32 (bit_xor a b) p h).2 k l)
  | inr p ↦ let z : bit_xor a b ≡ 0 = omega arith in agrees a b k (rw z (bit_at-zero k))
]
  where
    agrees : (x y j : ℕ) → bit_at (bit_xor x y) j ≡ 0 → bit_at x j ≡ bit_at y j
    agrees x y j e = let s = bit_at_xor x y j in let m = bit_at-lt x j in let n = bit_at-lt y j in
        omega (arith, s, m, n, e)

pub level_differ : (a b : ℕ) → bit_xor a b < 2 ^ 32 → count_trailing_zeros 32 (bit_xor a b) < 32
    → bit_at a (count_trailing_zeros 32 (bit_xor a b)) ≢ bit_at b (count_trailing_zeros 32 (bit_xor a b))
level_differ a b h l e = elim (cases_lt 0 (bit_xor a b)) [
  | inl p ↦
      let j = count_trailing_zeros 32 (bit_xor a b) in
      let t = (bit_at-trailing_zeros w32 (bit_xor a b) p h).1 in
      let s = bit_at_xor a b j in
      let m = bit_at-lt a j in
      let n = bit_at-lt b j in
      omega (arith, s, m, n, e, t)
  | inr p ↦ let z : bit_xor a b ≡ 0 = omega arith in
      let t = trailing_of_zero 32 in
      let u : count_trailing_zeros 32 (bit_xor a b) ≡ 32 = ap (count_trailing_zeros 32) z ∙ t in
      omega (arith, u, l)
]

-- WAYS

-- the place of an update is that of a memory
pub update_memory : (es : List Entry) (m a v k : ℕ) → AreEntries es → IsUpdate es m a v k → IsMemoryAt (forms_of es) m
update_memory es m a v k h u =
    let l = slice_get_within es m (Update a v k) u in
    let e = get_or_from_slice_get es m (Update a v k) (Update a v k) u in
    let f = form_at es m (Update a v k) h.earlier l ∙ ap (λ x. Some (entry_form (forms_of es) x)) e in
    let w = link es m (Update a v k) a v k h.earlier l (sym e) refl in
    f ∙ ap (λ y. Some (memory_form y)) (sym w)

-- the address of an update is an integer
pub update_address : (es : List Entry) (m a v k : ℕ) → AreEntries es → IsUpdate es m a v k → IsIntegerAt (forms_of es) a
update_address es m a v k h u =
    let l = slice_get_within es m (Update a v k) u in
    let e = get_or_from_slice_get es m (Update a v k) (Update a v k) u in
    link_address es m (Update a v k) a v k h.earlier l (sym e) refl

-- the walk for another address that is alike passes an update
pub walk_passes : (es : List Entry) (m a v k n : ℕ) → AreEntries es → IsUpdate es m a v k → AreAlike es n a → n ≢ a →
    norm_sel (updates_at (forms_of es) m) (polynomial_at (forms_of es) n)
    ≡ norm_sel (updates_at (forms_of es) k) (polynomial_at (forms_of es) n)
walk_passes es m a v k n h u i d =
    let fs = forms_of es in
    let l = slice_get_within es m (Update a v k) u in
    let e = get_or_from_slice_get es m (Update a v k) (Update a v k) u in
    let w = link es m (Update a v k) a v k h.earlier l (sym e) refl in
    let f = two_differ fs a n h.distinct i.second i.first (λ z. d (sym z)) in
    let x = apart_alike es n a h i d in
    sym (walk_on _ _ _ _ _ _ true w refl f (sym x) refl)

-- a walk first passes to the memory below an update
pub leads_first : (es : List Entry) (m a v k : ℕ) → AreEntries es → IsUpdate es m a v k → Leads es m a 0 k
leads_first es m a v k h u =
    let l = slice_get_within es m (Update a v k) u in
    let e = sym (get_or_from_slice_get es m (Update a v k) (Update a v k) u) in
    let r = link_reach es m (Update a v k) a v k h.earlier l e refl in
    let n = older_count es m (Update a v k) a v k h l e refl in
    record {
      whole = update_memory es m a v k h u;
      sort = memory_reached (forms_of es) (length (forms_of es)) k (omega arith)
          (older_reach es m (Update a v k) a v k h l e refl);
      below = omega (arith, r);
      fewer = omega (arith, n);
      same = λ more n l x y i p.
          walk_passes (es ++ more) m a v k n x (update_more es more m a v k u) y (λ z. level_differs a n l i (sym z));
    }

module _ (es : List Entry) (m a i v t j : ℕ) (q : Path) (path : IsPath es v q) (alike : AreAlike es a q.at)
    (agree : (k : ℕ) → k < j → bit_at a k ≡ bit_at q.at k) (h : Leads es m a i v) where
  -- an address that is alike a is alike the address of the update
  near : (more : List Entry) (n : ℕ) → AreAlike (es ++ more) n a → AreAlike (es ++ more) n q.at
  near more n y = alike_joined (es ++ more) n a q.at y (alike_more es more a q.at alike)

  -- if the addresses differ in a lower bit, the way goes on along the path
  pub leads_on : bit_at a j ≢ bit_at q.at j → j < i → slice_get q.turns j ≡ Some t → Leads es m a i t
  leads_on d l e =
      let w = path.turns j t e in
      record {
        whole = h.whole;
        sort = w.sort;
        below = (let x = w.below in let y = h.below in omega (arith, x, y));
        fewer = (let x = w.fewer in let y = h.fewer in omega (arith, x, y));
        same = λ more n k x y lev p.
            h.same more n k x y lev p ∙ w.same more n j x (near more n y)
            (level_high a q.at n k j lev (record { agree = agree; differ = d }) (omega (arith, l, p))) refl;
      }

  -- if they differ in a higher bit, the path has the turn
  pub turn_low : i < j → slice_get q.turns i ≡ Some t → IsTurn es m a i t
  turn_low l e =
      let w = path.turns i t e in
      record {
        whole = h.whole;
        sort = w.sort;
        below = (let x = w.below in let y = h.below in omega (arith, x, y));
        fewer = (let x = w.fewer in let y = h.fewer in omega (arith, x, y));
        same = λ more n k x y lev p.
            let lev' = subst (IsLevel a n) p lev in
            h.same more n k x y lev (omega (arith, p)) ∙ w.same more n i x (near more n y)
            (level_low a q.at n i j lev' agree l) refl;
      }

-- a walk may go along the path of an update
pub skips_on : (es : List Entry) (m p v t i : ℕ) (q : Path) → AreEntries es → IsPath es v q → AreAlike es p q.at →
    ((k : ℕ) → k < i → bit_at q.at k ≡ bit_at p k) → bit_at q.at i ≢ bit_at p i → slice_get q.turns i ≡ Some t →
    Skips es m p v → Skips es m p t
skips_on es m p v t i q h path alike agree differ e s =
    let w = path.turns i t e in
    let z = append-nil es in
    let same : norm_sel (updates_at (forms_of es) v) (polynomial_at (forms_of es) p)
    ≡ norm_sel (updates_at (forms_of es) t) (polynomial_at (forms_of es) p) = rw z at (w.same [] p i
    (subst AreEntries (sym z) h) (subst (λ xs. AreAlike xs p q.at) (sym z) alike) (record {
      agree = agree;
      differ = differ;
    }) refl) in
    record {
      sort = w.sort;
      below = (let x = w.below in let y = s.below in omega (arith, x, y));
      most = (let x = w.fewer in let y = s.most in omega (arith, x, y));
      fewer = λ l. (let x = w.fewer in let y = s.most in omega (arith, x, y));
      same = s.same ∙ same;
    }

-- it may stay
pub skips_none : (es : List Entry) (m p : ℕ) → IsMemoryAt (forms_of es) m → Skips es m p m
skips_none es m p h = record {
  sort = h;
  below = omega arith;
  most = omega arith;
  fewer = λ l. omega (arith, l);
  same = refl;
}

-- two updates in one place have the same address
pub update_one : (es : List Entry) (m a v k b w l : ℕ) → IsUpdate es m a v k → IsUpdate es m b w l → a ≡ b
update_one es m a v k b w l h i = let e : Some (Update a v k) ≡ Some (Update b w l) = sym h ∙ i in cc

-- paths stay when an entry is interned
pub paths_more : {S : Type 0} (es xs : List Entry) (ps : IndexMap ℕ Path S) (x : Entry) (b : Bool) → xs
    ≡ (if b then es else es ++ x ∷ []) → ArePaths es ps → ArePaths xs ps
paths_more es xs ps x true e h = rw e h
paths_more es xs ps x false e h = rw e (λ m p g. path_more es (x ∷ []) m p (h m p g))

-- an empty table has only right paths
pub paths_none : {S : Type 0} (es : List Entry) (ps : IndexMap ℕ Path S) → IsEmpty ps → ArePaths es ps
paths_none es ps n k p e = let z : Some p ≡ None = sym e ∙ ap (lookup (nat_eq k)) n in cc

-- the turn of a path at bit i
pub turn_read : (es : List Entry) (m i : ℕ) (p : Path) → IsPath es m p → i < 32 → slice_get p.turns i
    ≡ Some (get_or p.turns i 0)
turn_read es m i p h l = let n = h.size in slice_get-get_or p.turns i 0 (omega (arith, n, l))

-- the address of an update is alike the address by which its path is known, if that is the base of the path
pub alike_known : (es : List Entry) (m a b : ℕ) (p : Path) → IsPath es m p → p.base ≡ b → AreAlike es a b →
    AreAlike es a p.at
alike_known es m a b p h e k = alike_joined es a b p.at k
    (alike_turned es p.at b (subst (λ c. AreAlike es p.at c) e h.base))

-- an element before the one that was set is as before
set_before : (xs : List ℕ) (i y k : ℕ) → k < i → slice_get (set xs i y) k ≡ slice_get xs k
set_before [] i y k l = refl
set_before (x ∷ xs) zero y k l = absurd (omega (arith, l))
set_before (x ∷ xs) (suc i) y zero l = refl
set_before (x ∷ xs) (suc i) y (suc k) l = set_before xs i y k (omega (arith, l))

-- the element that was set is the new one
set_there : (xs : List ℕ) (i y t : ℕ) → slice_get (set xs i y) i ≡ Some t → y ≡ t
set_there [] i y t e = cc
set_there (x ∷ xs) zero y t e = cc
set_there (x ∷ xs) (suc i) y t e = set_there xs i y t e

-- what holds of the elements before i, and of the one set there, holds of all of them
pub set_next : (P : ℕ → ℕ → Type 0) (xs : List ℕ) (i y : ℕ) → ((k t : ℕ) → k < i → slice_get xs k ≡ Some t → P k t) →
    P i y → (k t : ℕ) → k < i + 1 → slice_get (set xs i y) k ≡ Some t → P k t
set_next P xs i y h p k t l e = elim (cases_lt k i) [
  | inl m ↦ h k t m (sym (set_before xs i y k m) ∙ e)
  | inr m ↦
      let q : i ≡ k = omega (arith, l, m) in
      let z : y ≡ t = set_there xs i y t (subst (λ j. slice_get (set xs i y) j ≡ Some t) (sym q) e) in
      subst (λ j. P j t) q (subst (P i) z p)
]

-- an update that the code has read
pub update_read : (es : List Entry) (m : ℕ) (e : Entry) (a v k : ℕ) → m < length es → e ≡ get_or es m e → e
    ≡ Update a v k
    → IsUpdate es m a v k
update_read es m e a v k l r q = slice_get_read es (length es) m e refl l r ∙ ap Some q

-- the walk passes an update to the memory below it
pub passes_first : (es : List Entry) (m a v k p : ℕ) → AreEntries es → IsUpdate es m a v k → AreAlike es p a → p ≢ a →
    Passes es m p k
passes_first es m a v k p h u i n =
    let w = leads_first es m a v k h u in
    record { sort = w.sort; below = w.below; fewer = w.fewer; same = walk_passes es m a v k p h u i n }
