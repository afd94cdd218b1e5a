-- Numbers the nodes one at a time.
use Rattle.std.proofs.Common.{◌≡◌, ℕ, ◌+◌, ◌<◌, ◌≤◌, Bool, true, false, cond, List, [], ◌∷◌, ◌++◌}
use Rattle.std.proofs.Common.{length, slice_get, Option, Some, None, refl, sym, ap, ◌∙◌, subst, arith, length-append}
use Rattle.std.specs.Prelude.{unwrap_or}
use Rattle.std.proofs.lemmas.Bool.{cases_lt}
use Rattle.std.proofs.lemmas.List.{get_or_append_left, get_or_push}
use Rattle.std.proofs.Common.{inl, inr, get_or}
use Rattle.std.proofs.lemmas.Option.{slice_get_within, slice_get-get_or}
use Rattle.ft_static.specs.NodeRules.{AreNodes}
use Rattle.ft_static.specs.declared.node.Node.{Node}
use Rattle.ft_static.specs.declared.node.Shape.{Shape}
use Rattle.ft_static.specs.NodeTree.{HasPartsBelow}
use Rattle.ft_static.proofs.NodeParts.{renamed_alike}
use Rattle.ft_static.proofs.NodeTrees.{each_part, parts_below}
use Rattle.ft_modules.specs.TreeKeys.{AreTreeNumbers, number_in, key_of}
use Rattle.ft_modules.proofs.Keys.{keys_same}
use Rattle.ft_linker.specs.Numbers.{AreKnown, AreNumbered}

-- EARLIER NUMBERS

-- appending a number keeps the earlier ones
number_more : (cs : List ℕ) (c i : ℕ) → i < length cs → number_in (cs ++ c ∷ []) i ≡ number_in cs i
number_more cs c i lt = get_or_append_left cs (c ∷ []) 0 i lt

number_last : (cs : List ℕ) (c : ℕ) → number_in (cs ++ c ∷ []) (length cs) ≡ c
number_last cs c = get_or_push cs c 0 (length cs) refl

-- so a key stays the same if its parts are earlier
key_more : (cs : List ℕ) (c n : ℕ) (s : Shape) → HasPartsBelow n s → n ≤ length cs → key_of (cs ++ c ∷ []) s
    ≡ key_of cs s
key_more cs c n s h le = renamed_alike (number_in (cs ++ c ∷ [])) (number_in cs) s
    (each_part (λ b i. i < n) _ (λ b i lt. number_more cs c i (omega (arith, lt, le))) s h)

-- ONE MORE NODE

some_one : (a b : ℕ) → Some a ≡ Some b → a ≡ b
some_one a b e = cc

module _ (nodes : List Node) (cs : List ℕ) (n c : ℕ) (y : Node) (known next : Shape → Option ℕ) (test : Shape → Bool)
    (are : AreNodes nodes) (h : AreKnown nodes cs n known) (there : slice_get nodes n ≡ Some y)
    (is : c ≡ unwrap_or (known (key_of cs y.shape)) n)
    (put : (q : Shape) → next q ≡ cond (test q) (Some c) (known q))
    (only : (q : Shape) → test q ≡ true → q ≡ key_of cs y.shape)
    (own : test (key_of cs y.shape) ≡ true) where
  abbrev ds : List ℕ
  ds = cs ++ c ∷ []

  abbrev last_key : Shape
  last_key = key_of cs y.shape

  -- the parts of node i come before it
  parts : (i : ℕ) (z : Node) → slice_get nodes i ≡ Some z → HasPartsBelow i z.shape
  parts i z e = parts_below nodes i z.scope z.shape (are.each i z e).shape

  long : (i : ℕ) → i ≤ n → i ≤ length cs
  long i le = let l = h.count in omega (arith, l, le)

  key_same : (i : ℕ) (z : Node) → i ≤ n → slice_get nodes i ≡ Some z → key_of ds z.shape ≡ key_of cs z.shape
  key_same i z le e = key_more cs c i z.shape (parts i z e) (long i le)

  number_same : (i : ℕ) → i < n → number_in ds i ≡ number_in cs i
  number_same i lt = number_more cs c i (let l = h.count in omega (arith, l, lt))

  number_new : number_in ds n ≡ c
  number_new = subst (λ (k : ℕ). number_in ds k ≡ c) h.count (number_last cs c)

  -- a key that was known keeps its number
  known_by : (b : Bool) (q : Shape) (d : ℕ) → test q ≡ b → known q ≡ Some d → next q ≡ Some d
  known_by true q d t e =
      let same : last_key ≡ q = sym (only q t) in
      let old : known last_key ≡ Some d = ap known same ∙ e in
      let one : c ≡ d = is ∙ ap (λ z. unwrap_or z n) old in
      put q ∙ ap (λ b. cond b (Some c) (known q)) t ∙ ap Some one
  known_by false q d t e = put q ∙ ap (λ b. cond b (Some c) (known q)) t ∙ e

  known_new : next last_key ≡ Some c
  known_new = put last_key ∙ ap (λ b. cond b (Some c) (known last_key)) own

  each_next : (i : ℕ) (z : Node) → i < n + 1 → slice_get nodes i ≡ Some z → next (key_of ds z.shape)
      ≡ Some (number_in ds i)
  each_next i z lt e = elim (cases_lt i n) [
    | inl below ↦
        ap next (key_same i z (omega (arith, below)) e)
        ∙ known_by (test (key_of cs z.shape)) (key_of cs z.shape) (number_in cs i) refl
        (h.each i z below e)
        ∙ ap Some (sym (number_same i below))
    | inr above ↦
        let here : i ≡ n = omega (arith, lt, above) in
        let found : slice_get nodes n ≡ Some z = subst (λ (k : ℕ). slice_get nodes k ≡ Some z) here e in
        let node : Some y ≡ Some z = sym there ∙ found in
        let same : y ≡ z = cc in
        ap next (key_same i z (omega (arith, here)) e)
        ∙ ap (λ (w : Node). next (key_of cs w.shape)) (sym same)
        ∙ known_new ∙ ap Some (sym number_new ∙ ap (number_in ds) (sym here))
  ]

  -- node d is one of the first n + 1, and has key k
  First : Shape → ℕ → Type 0
  First k d = (z : Node) × (d < n + 1) × (slice_get nodes d ≡ Some z) × (key_of ds z.shape ≡ k)

  first_old : (k : Shape) (d : ℕ) → known k ≡ Some d → First k d
  unfolding First
  first_old k d e =
      let f = h.first k d e in
      (f.0, omega (arith, f.1), f.2, key_same d f.0 (omega (arith, f.1)) f.2 ∙ f.3)

  first_new : (u : Option ℕ) → known last_key ≡ u → First last_key (unwrap_or u n)
  unfolding First
  first_new None e = (y, omega arith, there, key_same n y (omega arith) there)
  first_new (Some d) e = first_old last_key d e

  first_by : (b : Bool) (k : Shape) (d : ℕ) → test k ≡ b → next k ≡ Some d → First k d
  first_by true k d t e =
      let one : c ≡ d = some_one c d (sym (put k ∙ ap (λ b. cond b (Some c) (known k)) t) ∙ e) in
      let at : unwrap_or (known last_key) n ≡ d = sym is ∙ one in
      subst (λ (j : ℕ). First k j) at (subst (λ (q : Shape). First q (unwrap_or (known last_key) n)) (sym (only k t))
      (first_new (known last_key) refl))
  first_by false k d t e = first_old k d (sym (put k ∙ ap (λ b. cond b (Some c) (known k)) t) ∙ e)

  first_next : (k : Shape) (d : ℕ) → next k ≡ Some d → First k d
  first_next k d e = first_by (test k) k d refl e

  -- two numbers are equal exactly when the keys are
  numbers_of_keys : (i j : ℕ) (u z : Node) → i < n + 1 → j < n + 1 → slice_get nodes i ≡ Some u → slice_get nodes j
      ≡ Some z → number_in ds i ≡ number_in ds j → key_of ds u.shape ≡ key_of ds z.shape
  unfolding First
  numbers_of_keys i j u z li lj e f same =
      let a = first_next (key_of ds u.shape) (number_in ds i) (each_next i u li e) in
      let b = first_next (key_of ds z.shape) (number_in ds j) (each_next j z lj f) in
      let there_b : slice_get nodes (number_in ds i)
      ≡ Some b.0 = subst (λ (k : ℕ). slice_get nodes k ≡ Some b.0) (sym same) b.2 in
      let one : Some a.0 ≡ Some b.0 = sym a.2 ∙ there_b in
      let node : a.0 ≡ b.0 = cc in
      sym a.3 ∙ ap (λ (w : Node). key_of ds w.shape) node ∙ b.3

  keys_of_numbers : (i j : ℕ) (u z : Node) → i < n + 1 → j < n + 1 → slice_get nodes i ≡ Some u → slice_get nodes j
      ≡ Some z → key_of ds u.shape ≡ key_of ds z.shape → number_in ds i ≡ number_in ds j
  keys_of_numbers i j u z li lj e f same =
      some_one _ _ (sym (each_next i u li e) ∙ ap next same ∙ each_next j z lj f)

  -- the earlier nodes keep their numbers
  trees_old : AreTreeNumbers nodes ds n
  trees_old i j li lj =
      let t = h.trees i j li lj in
      (λ e. t.0 (sym (number_same i li) ∙ e ∙ number_same j lj), λ e. number_same i li ∙ t.1 e ∙ sym (number_same j lj))

  there_up_to : (i : ℕ) → i < n + 1 → (z : Node) × (slice_get nodes i ≡ Some z)
  there_up_to i lt = let within = slice_get_within nodes n y there in
      (get_or nodes i y, slice_get-get_or nodes i y (omega (arith, lt, within)))

  trees_next : AreTreeNumbers nodes ds (n + 1)
  trees_next i j li lj =
      let u = there_up_to i li in
      let z = there_up_to j lj in
      let t = keys_same nodes ds n are trees_old i j u.0 z.0 (omega (arith, li)) (omega (arith, lj)) u.1 z.1 in
      (λ e. t.0 (numbers_of_keys i j u.0 z.0 li lj u.1 z.1 e), λ e. keys_of_numbers i j u.0 z.0 li lj u.1 z.1 (t.1 e))

  pub known_more : AreKnown nodes ds (n + 1) next
  unfolding First
  known_more = record {
    count = (let l = h.count in let m = length-append cs (c ∷ []) in omega (arith, l, m));
    trees = trees_next;
    each = each_next;
    first = first_next;
  }

-- `AreKnown` holds before any node is numbered
pub known_none : (nodes : List Node) (cs : List ℕ) (known : Shape → Option ℕ) → cs ≡ [] →
    ((q : Shape) → known q ≡ None) →
    AreKnown nodes cs 0 known
known_none nodes cs known e h = record {
  count = ap length e;
  trees = λ i j li lj. absurd (omega (arith, li));
  each = λ i y lt f. absurd (omega (arith, lt));
  first = λ k c f. let g = sym (h k) ∙ f in cc;
}

-- once all nodes are numbered, `AreNumbered` holds
pub all_known : (nodes : List Node) (cs : List ℕ) (n : ℕ) (known : Shape → Option ℕ) → AreKnown nodes cs n known → n
    ≡ length nodes → AreNumbered nodes cs
all_known nodes cs n known h e = record { count = h.count ∙ e; trees = subst (AreTreeNumbers nodes cs) e h.trees }

-- `AreKnown` holds after one more node, given an equation for the longer list
pub known_next : (nodes : List Node) (cs ds : List ℕ) (n c : ℕ) (y : Node) (known next : Shape →
    Option ℕ) (test : Shape →
    Bool) (k : Shape) → AreNodes nodes → AreKnown nodes cs n known → slice_get nodes n ≡ Some y → k
    ≡ key_of cs y.shape → c ≡ unwrap_or (known k) n → ((q : Shape) → next q ≡ cond (test q) (Some c) (known q)) →
    ((q : Shape) → test q ≡ true → q ≡ k) → test k ≡ true → ds ≡ cs ++ c ∷ [] → AreKnown nodes ds (n + 1) next
known_next nodes cs ds n c y known next test k are h there e is put only own longer =
    subst (λ (z : List ℕ). AreKnown nodes z (n + 1) next) (sym longer)
    (known_more nodes cs n c y known next test are h there (is ∙ ap (λ q. unwrap_or (known q) n) e) put (λ q t. only q t
    ∙ e) (subst (λ q. test q ≡ true) e own))
