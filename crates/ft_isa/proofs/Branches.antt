-- What follows from the result of a test, of a map over an option, or of a match on words.
use Rattle.std.proofs.Common.{◌≡◌, ℕ, Bool, true, false, List, Option, Some, None, eqb, ◌⊎◌, refl, sym, subst, inl, inr}
use Rattle.std.proofs.Common.{if◌then◌else◌}
use Rattle.std.specs.Option.{option_map}
use Rattle.std.specs.Str.{bytes_eq}
use Rattle.std.proofs.lemmas.Bool.{eqb-true}
use Rattle.std.proofs.lemmas.Slice.Eq.{bytes_eq-Decides}

-- if `if test then Some x else None` is `Some y`, the test holds, and x is y
pub if_some : {A : Type 0} (test : Bool) (x y : A) → (if test then Some x else None) ≡ Some y → (test ≡ true) × (x ≡ y)
if_some true x y e = (refl, cc)
if_some false x y e = absurd cc

-- if a conditional is `Some y`, either the test holds and the first branch is `Some y`, or the second branch is
pub of_branch : {A : Type 0} (test : Bool) (o p : Option A) (y : A) → (if test then o else p) ≡ Some y →
    ((test ≡ true) × (o ≡ Some y)) ⊎ (p ≡ Some y)
of_branch true o p y e = inl (refl, e)
of_branch false o p y e = inr e

-- if a mapped option is `Some y`, the option is `Some x`, and f maps x to y
pub of_map : {A B : Type 0} (f : A → B) (o : Option A) (y : B) → option_map f o ≡ Some y → (x : A)
    × ((o ≡ Some x) × (f x ≡ y))
of_map f None y e = absurd cc
of_map f (Some x) y e = (x, (refl, cc))

-- P holds of a byte and the result of a conditional that tests whether the byte is c, if it does so in both branches
pub of_letter : {A : Type 0} (P : ℕ → A → Type 0) (b c : ℕ) (made after : A) (o : Option A) → P c made →
    (o ≡ Some after → P b after) → (if eqb b c then Some made else o) ≡ Some after → P b after
of_letter {A} P b c made after o here other e =
    elim (of_branch (eqb b c) (Some made) o after e) [
      | inl taken ↦
          let same : made ≡ after = (let both : Some made ≡ Some after = taken.1 in cc) in
          subst (λ (x : ℕ). P x after) (sym (eqb-true b c taken.0)) (subst (λ (s : A). P c s) same here)
      | inr left ↦ other left
    ]

-- if the test finds two words equal, they are the same word
pub same_word : (w v : List ℕ) → bytes_eq w v ≡ true → w ≡ v
same_word w v e = (bytes_eq-Decides w v).0 e

-- P holds of a word and the result of a conditional that tests whether the word is v, if it does so in both branches
pub chosen : {A : Type 0} (P : List ℕ → A → Type 0) (v w : List ℕ) (x y : Option A) → ((a : A) → x ≡ Some a → P v a) →
    ((a : A) → y ≡ Some a → P w a) → (a : A) → (if bytes_eq w v then x else y) ≡ Some a → P w a
chosen P v w x y h i a e = elim (of_branch (bytes_eq w v) x y a e) [
  | inl here ↦ subst (λ (u : List ℕ). P u a) (sym (same_word w v here.0)) (h a here.1)
  | inr other ↦ i a other
]

-- if P holds of v and b, it holds of v and the value of `Some b`
pub known : {A : Type 0} (P : List ℕ → A → Type 0) (v : List ℕ) (b : A) → P v b → (a : A) → Some b ≡ Some a → P v a
known P v b h a e = let same : b ≡ a = cc in subst (P v) same h

pub none_is : {A : Type 0} (P : A → Type 0) (a : A) → None ≡ Some a → P a
none_is P a e = absurd cc
