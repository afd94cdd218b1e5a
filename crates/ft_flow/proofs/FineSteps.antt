-- Steps that break no rule are well formed with their spares.
use Rattle.std.proofs.Common.{◌≡◌, ◌≢◌, ℕ, ◌+◌, ◌<◌, ◌≤◌, Bool, true, false, ◌&&◌, List, [], ◌∷◌}
use Rattle.std.proofs.Common.{Option, None, refl, arith, rules}
use Rattle.std.specs.Prelude.{nat_lt, nat_le}
use Rattle.std.specs.List.{All}
use Rattle.std.proofs.lemmas.Bool.{ltb-true, leb-true, leb-false}
use Rattle.std.proofs.lemmas.List.Elements.{All-nil, All-cons}
use Rattle.ft_lower.specs.declared.step3.Step3.{Step3}
use Rattle.ft_lower.specs.declared.step3.Step3.TheVariants.{Put, Copy, Op, Load, Store, LoadAt, StoreAt, Exit, Go, Stop}
use Rattle.ft_lower.specs.Size.{size, pairs_of}
use Rattle.ft_lower.specs.Well.{is_last, Known, IsTarget, StepFits, ReadsKnown, KeepsVariables, known_after}
use Rattle.ft_flow.specs.declared.fault.Frame.{Frame}
use Rattle.ft_flow.specs.declared.fault.Rule.{Rule}
use Rattle.ft_flow.specs.Spares.{sets, with_spare, Set, is_set, spare_of}
use Rattle.ft_flow.specs.Faults.{is_pair, pairs_exist, is_array, cells_exist, is_target, target_exists, reads_set}
use Rattle.ft_flow.specs.Faults.{variables_set, jump_keeps, spare_left, must, step_broken, with_set, HasWord}
use Rattle.ft_flow.proofs.SetPairs.{Agrees, IsUnset, learn_agrees, forget_agrees, spare_unset, set_differs}
use Rattle.ft_flow.proofs.SetPairs.{variable_set}

-- ALL TESTS HOLD

-- if nothing is broken, the first test holds and nothing of the rest is broken
must_none : (b : Bool) (r : Rule) (next : Option Rule) → must b r next ≡ None → (b ≡ true) × (next ≡ None)
must_none true r next e = (refl, e)
must_none false r next e = absurd (search (rules, e))

-- all tests of an unbroken step hold
pub record IsFine (f : Frame) (s : Set) (used : ℕ) (i : Step3) : Type 0 where
  pub pairs : pairs_exist i ≡ true
  pub cells : cells_exist f.cells i ≡ true
  pub target : target_exists f.blocks i ≡ true
  pub set : reads_set s i ≡ true
  pub keeps : jump_keeps f.vars s i ≡ true
  pub spare : spare_left s i ≡ true
  pub few : used + size i ≤ 65536

pub fine_of : (f : Frame) (s : Set) (used : ℕ) (i : Step3) → step_broken f s used i ≡ None → IsFine f s used i
fine_of f s used i e =
    let a = must_none (pairs_exist i) _ _ e in
    let b = must_none (cells_exist f.cells i) _ _ a.1 in
    let c = must_none (target_exists f.blocks i) _ _ b.1 in
    let d = must_none (reads_set s i) _ _ c.1 in
    let g = must_none (jump_keeps f.vars s i) _ _ d.1 in
    let h = must_none (spare_left s i) _ _ g.1 in
    let j = must_none (nat_le (used + size i) 65536) _ _ h.1 in
    record {
      pairs = a.0;
      cells = b.0;
      target = c.0;
      set = d.0;
      keeps = g.0;
      spare = h.0;
      few = leb-true (used + size i) 65536 j.0;
    }

-- both parts of a conjunction hold
both : (a b : Bool) → (a && b) ≡ true → (a ≡ true) × (b ≡ true)
both true b e = (refl, e)
both false b e = absurd (search (rules, e))

-- THE SPARED STEP

-- a spare changes neither whether a step ends its block nor its size
pub last_same : (n : ℕ) (i : Step3) → is_last (with_spare n i) ≡ is_last i
last_same n (Put p w) = refl
last_same n (Copy p q) = refl
last_same n (Op o p q s) = refl
last_same n (Load p c) = refl
last_same n (Store c q s) = refl
last_same n (LoadAt p q begin many) = refl
last_same n (StoreAt begin many i q s) = refl
last_same n (Exit q s to) = refl
last_same n (Go s to) = refl
last_same n Stop = refl

pub size_same : (n : ℕ) (i : Step3) → size (with_spare n i) ≡ size i
size_same n (Put p w) = refl
size_same n (Copy p q) = refl
size_same n (Op o p q s) = refl
size_same n (Load p c) = refl
size_same n (Store c q s) = refl
size_same n (LoadAt p q begin many) = refl
size_same n (StoreAt begin many i q s) = refl
size_same n (Exit q s to) = refl
size_same n (Go s to) = refl
size_same n Stop = refl

-- what a well-formed step satisfies
pub record IsGood (vars cells blocks : ℕ) (k : Known) (s : Set) (i : Step3) (j : Step3) : Type 0 where
  pub pairs : All (λ p. p < 32) (pairs_of j)
  pub fits : StepFits cells blocks j
  pub known : ReadsKnown vars k j
  pub after : Agrees (with_set (sets i) s) (known_after j k)

-- lists of pairs
one : (p : ℕ) → is_pair p ≡ true → All (λ p. p < 32) (p ∷ [])
one p h = All-cons (λ p. p < 32) p [] (ltb-true p 32 h) (All-nil (λ p. p < 32))

one_of : (p : ℕ) → p < 32 → All (λ p. p < 32) (p ∷ [])
one_of p h = All-cons (λ p. p < 32) p [] h (All-nil (λ p. p < 32))

more : (p : ℕ) (ps : List ℕ) → is_pair p ≡ true → All (λ p. p < 32) ps → All (λ p. p < 32) (p ∷ ps)
more p ps h rest = All-cons (λ p. p < 32) p ps (ltb-true p 32 h) rest

module _ (f : Frame) (s : Set) (k : Known) (A : Agrees s k) (few : f.vars ≤ 32) where
  -- a pair that is read is known
  known_of : (q : ℕ) → is_pair q ≡ true → is_set s q ≡ true → k q ≡ true
  known_of q p e = A.known q (ltb-true q 32 p) e

  -- the spare is a pair
  spare_pair : IsUnset s (spare_of s) → spare_of s < 32
  spare_pair U = omega (arith, U.there, A.many)

  -- an existing target
  target_of : (to : ℕ) → is_target f.blocks to ≡ true → IsTarget f.blocks to
  target_of to e = let t = both (nat_lt 0 to) (nat_lt to f.blocks) e in
      record { there = ltb-true to f.blocks t.1; no_entry = ltb-true 0 to t.0 }

  -- an existing array
  array_of : (first many : ℕ) → is_array f.cells first many ≡ true →
      (0 < many) × (many ≤ 1024) × (first + many ≤ f.cells)
  array_of first many e =
      let t = both (nat_lt 0 many && nat_le many 1024) (nat_le (first + many) f.cells) e in
      let u = both (nat_lt 0 many) (nat_le many 1024) t.0 in
      (ltb-true 0 many u.0, leb-true many 1024 u.1, leb-true (first + many) f.cells t.1)

  -- a spare that is not set is no variable, if each variable is set
  free_of : IsUnset s (spare_of s) → variables_set f.vars s ≡ true → f.vars ≤ spare_of s
  free_of U e = by (nat_le f.vars (spare_of s)) refl
    where
      by : (b : Bool) → nat_le f.vars (spare_of s) ≡ b → f.vars ≤ spare_of s
      by true h = leb-true f.vars (spare_of s) h
      by false h = absurd (set_differs s (spare_of s) (spare_of s) U.unset
          (variable_set s f.vars (spare_of s) A.many few (leb-false f.vars (spare_of s) h) e) refl)

  -- a jump keeps the variables
  keeps_of : IsUnset s (spare_of s) → variables_set f.vars s ≡ true → KeepsVariables f.vars k (spare_of s)
  keeps_of U e = record {
    known = λ x lt. A.known x (omega (arith, lt, few)) (variable_set s f.vars x A.many few lt e);
    free = free_of U e;
  }

  -- a read pair is not the spare
  differs : (q : ℕ) → IsUnset s (spare_of s) → is_set s q ≡ true → q ≢ spare_of s
  differs q U e = set_differs s (spare_of s) q U.unset e

  -- an unbroken step is well formed with its spare
  pub good_of : (used : ℕ) (i : Step3) → HasWord i → IsFine f s used i →
      IsGood f.vars f.cells f.blocks k s i (with_spare (spare_of s) i)
  good_of used (Put p w) word F = record {
    pairs = one p F.pairs;
    fits = word;
    known = tt;
    after = learn_agrees p s k A;
  }
  good_of used (Copy p q) word F =
      let t = both (is_pair p) (is_pair q) F.pairs in
      let r = both (is_set s q) true F.set in
      record {
        pairs = more p (q ∷ []) t.0 (one q t.1);
        fits = tt;
        known = known_of q t.1 r.0;
        after = learn_agrees p s k A;
      }
  good_of used (Op o p q z) word F =
      let t = both (is_pair p && is_pair q) (is_pair z) F.pairs in
      let u = both (is_pair p) (is_pair q) t.0 in
      let r = both (is_set s q) (is_set s z && true) F.set in
      let v = both (is_set s z) true r.1 in
      record {
        pairs = more p (q ∷ z ∷ []) u.0 (more q (z ∷ []) u.1 (one z t.1));
        fits = tt;
        known = (known_of q u.1 r.0, known_of z t.1 v.0);
        after = learn_agrees p s k A;
      }
  good_of used (Load p c) word F = record {
    pairs = one p F.pairs;
    fits = ltb-true c f.cells F.cells;
    known = tt;
    after = learn_agrees p s k A;
  }
  good_of used (Store c q z) word F =
      let U = spare_unset s F.spare in
      let r = both (is_set s q) true F.set in
      record {
        pairs = more q (spare_of s ∷ []) F.pairs (one_of (spare_of s) (spare_pair U));
        fits = ltb-true c f.cells F.cells;
        known = (known_of q F.pairs r.0, differs q U r.0);
        after = forget_agrees (spare_of s) s k U.unset A;
      }
  good_of used (LoadAt p q begin many) word F =
      let t = both (is_pair p) (is_pair q) F.pairs in
      let r = both (is_set s q) true F.set in
      record {
        pairs = more p (q ∷ []) t.0 (one q t.1);
        fits = array_of begin many F.cells;
        known = known_of q t.1 r.0;
        after = learn_agrees p s k A;
      }
  good_of used (StoreAt begin many x q z) word F =
      let U = spare_unset s F.spare in
      let t = both (is_pair x) (is_pair q) F.pairs in
      let r = both (is_set s x) (is_set s q && true) F.set in
      let v = both (is_set s q) true r.1 in
      record {
        pairs = more x (q ∷ spare_of s ∷ []) t.0 (more q (spare_of s ∷ []) t.1 (one_of (spare_of s) (spare_pair U)));
        fits = array_of begin many F.cells;
        known = (known_of x t.0 r.0, known_of q t.1 v.0, differs x U r.0, differs q U v.0);
        after = forget_agrees (spare_of s) s k U.unset A;
      }
  good_of used (Exit q z to) word F =
      let U = spare_unset s F.spare in
      let r = both (is_set s q) true F.set in
      record {
        pairs = more q (spare_of s ∷ []) F.pairs (one_of (spare_of s) (spare_pair U));
        fits = target_of to F.target;
        known = (known_of q F.pairs r.0, differs q U r.0, keeps_of U F.keeps);
        after = forget_agrees (spare_of s) s k U.unset A;
      }
  good_of used (Go z to) word F =
      let U = spare_unset s F.spare in
      record {
        pairs = one_of (spare_of s) (spare_pair U);
        fits = target_of to F.target;
        known = keeps_of U F.keeps;
        after = forget_agrees (spare_of s) s k U.unset A;
      }
  good_of used Stop word F = record { pairs = All-nil (λ p. p < 32); fits = tt; known = tt; after = A }
