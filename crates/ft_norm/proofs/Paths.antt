-- The nodes that wait for their parts, the nodes whose forms have been made, and how many steps this takes.
use Rattle.std.proofs.Common.{ℕ, suc, zero, ◌≡◌, ◌≢◌, ◌+◌, ◌*◌, ◌<◌, ◌≤◌, ◌==◌, Bool, true, false, cond, if◌then◌else◌}
use Rattle.std.proofs.Common.{List, [], ◌∷◌, ◌++◌, length, get_or, refl, sym, ap, ◌∙◌, arith, Option, None, Some}
use Rattle.std.proofs.Common.{is_some, inl, inr, length-append, subst}
use Rattle.std.proofs.Math.Nat.{mul-le-mul_right}
use Rattle.std.proofs.lemmas.Bool.{cases_lt}
use Rattle.std.proofs.lemmas.Bool.Decides.{Decides-eqb}
use Rattle.std.proofs.lemmas.List.{get_or_append_left, get_or_push}

-- how many of the first n numbers have an entry
abbrev pub count : {A : Type 0} → (ℕ → Option A) → ℕ → ℕ
count look zero = 0
count look (suc n) = count look n + (if is_some (look n) then 1 else 0)

-- a test adds at most 1 to the count
at_most_one : (b : Bool) → (if b then 1 else 0) ≤ 1
at_most_one true = omega arith
at_most_one false = omega arith

-- at most n of the first n numbers have an entry
pub count_bound : {A : Type 0} (look : ℕ → Option A) (n : ℕ) → count look n ≤ n
count_bound look zero = omega arith
count_bound look (suc n) = let h = count_bound look n in let k = at_most_one (is_some (look n)) in omega (arith, h, k)

-- entries of other numbers do not affect the count
count_same : {A : Type 0} (look more : ℕ → Option A) (n : ℕ) → ((q : ℕ) → q < n → more q ≡ look q) → count more n
    ≡ count look n
count_same look more zero h = refl
count_same look more (suc n) h = rw (count_same look more n (λ q l. h q (omega arith)), h n (omega arith)) refl

-- a new entry adds one to the count
pub count_more : {A : Type 0} (look more : ℕ → Option A) (x : A) (k n : ℕ) → k < n → look k ≡ None →
    ((q : ℕ) → more q ≡ cond (k == q) (Some x) (look q)) → count more n ≡ count look n + 1
count_more look more x k zero l e h = absurd (omega arith)
count_more look more x k (suc n) l e h = elim (cases_lt k n) [
  | inl m ↦
      let f : (k == n) ≡ false = other k n (omega arith) in
      let g : more n ≡ look n = h n ∙ ap (λ b. cond b (Some x) (look n)) f in
      let r = count_more look more x k n m e h in
      rw g (omega (arith, r))
  | inr m ↦
      let q : k ≡ n = omega arith in
      let t : (k == n) ≡ true = (Decides-eqb k n).1 q in
      let g : more n ≡ Some x = h n ∙ ap (λ b. cond b (Some x) (look n)) t in
      let z : look n ≡ None = ap look (sym q) ∙ e in
      let r = count_same look more n (λ j i. h j ∙ ap (λ b. cond b (Some x) (look j)) (other k j (omega arith))) in
      rw (g, z) (omega (arith, r))
]
  where
    other : (a b : ℕ) → a ≢ b → (a == b) ≡ false
    other a b n = go (a == b) refl
      where
        go : (t : Bool) → (a == b) ≡ t → (a == b) ≡ false
        go true e = absurd (n ((Decides-eqb a b).0 e))
        go false e = e

-- the form of node k is made next; the open nodes, in decreasing order from node n, wait for it
pub record Path {A : Type 0} (look : ℕ → Option A) (n k : ℕ) (open_nodes : List ℕ) : Type 0 where
  pub near : k + length open_nodes ≤ n
  pub absent : look k ≡ None
  pub above : (i d : ℕ) → i < length open_nodes → (k < get_or open_nodes i d) × (get_or open_nodes i d + i ≤ n)
      × (look (get_or open_nodes i d) ≡ None)
  pub falls : (i j d : ℕ) → i < j → j < length open_nodes → get_or open_nodes j d < get_or open_nodes i d
  pub bottom : (d : ℕ) → get_or (open_nodes ++ k ∷ []) 0 d ≡ n

-- at first, node n is next
pub path_first : {A : Type 0} (look : ℕ → Option A) (n : ℕ) (xs : List ℕ) → xs ≡ [] → look n ≡ None → Path look n n xs
path_first look n [] e h = record {
  near = omega arith;
  absent = h;
  above = λ i d l. absurd (omega arith);
  falls = λ i j d a b. absurd (omega arith);
  bottom = λ d. refl;
}
path_first look n (x ∷ xs) e h = cc

-- after a node is opened, one of its parts is next
pub path_push : {A : Type 0} (look : ℕ → Option A) (n k part : ℕ) (xs : List ℕ) → Path look n k xs → part < k →
    look part ≡ None → Path look n part (xs ++ k ∷ [])
path_push look n k part xs p l e = record {
  near = omega (arith, length-append xs (k ∷ []), p.near);
  absent = e;
  above = λ i d m. elim (cases_lt i (length xs)) [
    | inl a ↦ let h = p.above i d a in rw (get_or_append_left xs (k ∷ []) d i a) (omega (arith, h.0), h.1, h.2)
    | inr a ↦ let q : i ≡ length xs = omega (arith, length-append xs (k ∷ [])) in
        rw (q, get_or_push xs k d (length xs) refl) (l, omega (arith, p.near), p.absent)
  ];
  falls = λ i j d a b. elim (cases_lt j (length xs)) [
    | inl m ↦ rw (get_or_append_left xs (k ∷ []) d j m, get_or_append_left xs (k ∷ []) d i (omega arith))
        (p.falls i j d a m)
    | inr m ↦ let q : j ≡ length xs = omega (arith, length-append xs (k ∷ [])) in
        let h = p.above i d (omega arith) in
        rw (q, get_or_push xs k d (length xs) refl, get_or_append_left xs (k ∷ []) d i (omega arith)) h.0
  ];
  bottom = λ d. get_or_append_left (xs ++ k ∷ []) (part ∷ []) d 0 (omega (arith, length-append xs (k ∷ [])))
      ∙ p.bottom d;
}

-- after a node's form is made, the last open node is next
pub path_pop : {A : Type 0} (look more : ℕ → Option A) (y : A) (n k x : ℕ) (ys xs : List ℕ) → Path look n k ys → ys ≡ xs
    ++ x ∷ [] → ((q : ℕ) → more q ≡ cond (k == q) (Some y) (look q)) → Path more n x xs
path_pop look more y n k x ys xs p' e h = record {
  near = omega (arith, last.1);
  absent = kept x last.0 last.2;
  above = λ i d m.
      let a = p.above i d (omega (arith, size)) in
      let f = p.falls i (length xs) d m (omega (arith, size)) in
      let g : get_or (xs ++ x ∷ []) i d ≡ get_or xs i d = get_or_append_left xs (x ∷ []) d i m in
      let z : get_or (xs ++ x ∷ []) (length xs) d ≡ x = get_or_push xs x d (length xs) refl in (
        rw (sym g, sym z) (rw (z, g) (rw (z, g) at f)),
        rw (sym g) (rw g (rw g at a.1)),
        kept (get_or xs i d) (rw g at a.0) (rw g at a.2),
      );
  bottom = λ d. sym (get_or_append_left (xs ++ x ∷ []) (k ∷ []) d 0 (omega (arith, size))) ∙ p.bottom d;
  falls = λ i j d a b. rw (get_or_append_left xs (x ∷ []) d j b, get_or_append_left xs (x ∷ []) d i (omega arith)) at
      (p.falls i j d a (omega (arith, size)));
}
  where
    p : Path look n k (xs ++ x ∷ [])
    p = subst (Path look n k) e p'

    size : length (xs ++ x ∷ []) ≡ length xs + 1
    size = length-append xs (x ∷ [])

    last : (k < x) × (x + length xs ≤ n) × (look x ≡ None)
    last = rw (get_or_push xs x x (length xs) refl) at (p.above (length xs) x (omega (arith, size)))

    kept : (q : ℕ) → k < q → look q ≡ None → more q ≡ None
    kept q l e = h q ∙ (ap (λ b. cond b (Some y) (look q)) (go (k == q) refl) ∙ e)
      where
        go : (t : Bool) → (k == q) ≡ t → (k == q) ≡ false
        go true e = let z = (Decides-eqb k q).0 e in absurd (omega arith)
        go false e = e

-- if no node is open, the next one is node n
pub path_end : {A : Type 0} (look : ℕ → Option A) (n k : ℕ) (xs : List ℕ) → Path look n k xs → length xs ≡ 0 → k ≡ n
path_end look n k [] p e = p.bottom 0
path_end look n k (x ∷ xs) p e = absurd (omega arith)

-- as long as a form is to be made, at least one node has no form yet
pub count_less : {A : Type 0} (look : ℕ → Option A) (x : A) (n k : ℕ) (xs : List ℕ) → Path look n k xs →
    count look (n + 1) + 1 ≤ n + 1
count_less look x n k xs p =
    let more : ℕ → Option _ = λ q. cond (k == q) (Some x) (look q) in
    let c = count_more look more x k (n + 1) (omega (arith, p.near)) p.absent (λ q. refl) in
    let b = count_bound more (n + 1) in
    omega (arith, c, b)

-- the steps for some nodes are at most those for all nodes
pub steps_all : (s i a n w : ℕ) → s ≤ i + a * w → a ≤ n + 1 → s ≤ i + (n + 1) * w
steps_all s i a n w h l = let m : a * w ≤ (n + 1) * w = mul-le-mul_right w l in omega (arith, h, m)

-- the bound on the steps still holds after one more node
pub steps_more : (s t i a u p k n : ℕ) → s ≤ i + a * (1 + u + n) → t ≤ s + 1 + p → p ≤ u + k → k ≤ n →
    t ≤ i + (a + 1) * (1 + u + n)
steps_more s t i a u p k n h g q l =
    let w = 1 + u + n in
    let e : (a + 1) * w ≡ a * w + w = omega arith in
    let r : s ≤ i + a * w = h in
    let z : t ≤ i + (a * w + w) = omega (arith, r, g, q, l) in
    rw e z
