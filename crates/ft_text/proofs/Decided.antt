-- Whether a text spells some value: a piece and a word, two words, or a number.
use Rattle.std.proofs.Common.{◌≡◌, ◌⊎◌, inl, inr, ℕ, ◌+◌, ◌-◌, ◌^◌, ◌<◌, ◌≤◌, Bool, true, false, List, ◌++◌, length}
use Rattle.std.proofs.Common.{take, drop, Option, Some, None, nat_lt, decimal, codes, refl, ap, sym, ◌∙◌, arith}
use Rattle.std.specs.Prelude.{position}
use Rattle.std.specs.Option.{option_and_then}
use Rattle.std.specs.Str.{bytes_eq}
use Rattle.std.proofs.lemmas.Bool.{true≢false, ltb-true, lt-ltb}
use Rattle.std.proofs.lemmas.List.{append_cancel_left}
use Rattle.std.proofs.lemmas.Fmt.{decimal_injective}
use Rattle.ft_isa.specs.Words.{IsWord}
use Rattle.ft_isa.specs.PlanText.{IsNumberText}
use Rattle.ft_isa.specs.Reading.{state_after}
use Rattle.ft_isa.proofs.Readers.{reads_ok}
use Rattle.ft_isa.proofs.NumberRead.{next_number, number_told, IsNumberRead}
use Rattle.ft_isa.proofs.NumberText.{whole_number, number_reader}
use Rattle.ft_text.proofs.FirstWords.{HasNoSpace, is_space, begins, begins_not, split_there, split_only, split_never}

-- some value satisfies P, or none does
abbrev pub IsDecided : {A : Type 0} → (A → Type 0) → Type 0
IsDecided {A} P = ((x : A) × P x) ⊎ ((x : A) → ¬ (P x))

-- a text spells a good value
abbrev pub IsOf : {A : Type 0} → (A → Type 0) → (A → List ℕ) → List ℕ → A → Type 0
IsOf Good written text x = Good x × (text ≡ written x)

-- if each value that satisfies P yields one that satisfies Q, and vice versa, then deciding P decides Q
pub moved : {A B : Type 0} (P : A → Type 0) (Q : B → Type 0) → ((x : A) → P x → (y : B) × Q y) →
    ((y : B) → Q y → (x : A) × P x) → IsDecided P → IsDecided Q
moved P Q there back (inl x) = inl (there x.0 x.1)
moved P Q there back (inr none) = inr (λ y h. (let x = back y h in none x.0 x.1))

-- PIECES

-- a piece, and then a text of some kind
module _ {A : Type 0} (Good : A → Type 0) (written : A → List ℕ) (found : (text : List ℕ) →
    IsDecided (IsOf Good written text)) (piece line : List ℕ) where
  -- cases: whether the text begins with the piece
  by_front : (b : Bool) → bytes_eq (take (length piece) line) piece ≡ b →
      IsDecided (IsOf Good (λ x. piece ++ written x) line)
  by_front true e =
      let rest = drop (length piece) line in
      let split : line ≡ piece ++ rest = begins line piece e in
      moved (IsOf Good written rest) (IsOf Good (λ x. piece ++ written x) line) (λ x h.
      (x, (h.0, split ∙ ap (λ l. piece ++ l) h.1)))
      (λ x h. (x, (h.0, append_cancel_left piece rest (written x) (sym split ∙ h.1)))) (found rest)
  by_front false e = inr (λ x h. begins_not line piece e (written x) h.1)

  -- it is decidable whether a text is the piece and then a text of that kind
  pub after_piece : IsDecided (IsOf Good (λ x. piece ++ written x) line)
  after_piece = by_front (bytes_eq (take (length piece) line) piece) refl

-- both values of a pair are good
abbrev pub BothGood : {A B : Type 0} → (A → Type 0) → (B → Type 0) → A × B → Type 0
BothGood GoodA GoodB p = GoodA p.0 × GoodB p.1

-- two texts with a space between them
abbrev pub with_space : {A B : Type 0} → (A → List ℕ) → (B → List ℕ) → A × B → List ℕ
with_space a b p = a p.0 ++ codes " " ++ b p.1

-- two words with a space between them
module _ {A B : Type 0} (GoodA : A → Type 0) (a : A → List ℕ) (GoodB : B → Type 0) (b : B → List ℕ) (free : (x : A) →
    GoodA x → HasNoSpace (a x)) (found_a : (text : List ℕ) → IsDecided (IsOf GoodA a text)) (found_b : (text : List ℕ) →
    IsDecided (IsOf GoodB b text)) (text : List ℕ) where
  -- cases: the words around the first space
  by_words : (at : ℕ) → position is_space text ≡ Some at → IsDecided (IsOf GoodA a (take at text)) →
      IsDecided (IsOf GoodB b (take (length text - (at + 1)) (drop (at + 1) text))) →
      IsDecided (IsOf (BothGood GoodA GoodB) (with_space a b) text)
  by_words at e (inl x) (inl y) =
      let back = take (length text - (at + 1)) (drop (at + 1) text) in
      inl (
        (x.0, y.0),
        (
          (x.1.0, y.1.0),
          split_there text at e ∙ ap (λ l. l ++ codes " " ++ back) x.1.1
              ∙ ap (λ l. a x.0 ++ codes " " ++ l) y.1.1,
        ),
      )
  by_words at e (inl x) (inr none) = inr (λ p h. none p.1 (
    h.0.1,
    (split_only text at (a p.0) (b p.1) e (free p.0 h.0.0) h.1).1,
  ))
  by_words at e (inr none) y = inr (λ p h. none p.0 (
    h.0.0,
    (split_only text at (a p.0) (b p.1) e (free p.0 h.0.0) h.1).0,
  ))

  -- cases: whether there is a space
  by_space : (o : Option ℕ) → position is_space text ≡ o → IsDecided (IsOf (BothGood GoodA GoodB) (with_space a b) text)
  by_space None e = inr (λ p h. split_never text (a p.0) (b p.1) e (free p.0 h.0.0) h.1)
  by_space (Some at) e = by_words at e (found_a (take at text))
      (found_b (take (length text - (at + 1)) (drop (at + 1) text)))

  -- it is decidable whether a text is two such words
  pub two_words : IsDecided (IsOf (BothGood GoodA GoodB) (with_space a b) text)
  two_words = by_space (position is_space text) refl

-- NUMBERS

-- cases: the state after the last byte
word_at : (text : List ℕ) (s o : Option ℕ) → state_after next_number None text ≡ Some s → s ≡ o →
    IsDecided (IsOf IsWord decimal text)
word_at text s None e f = inr (λ n h. (let g : None ≡ Some n = sym (ap (option_and_then whole_number) e ∙ f)
    ∙ number_reader.complete text n h in absurd cc))
word_at text s (Some n) e f = inl (
  n,
  reads_ok next_number whole_number None number_told IsNumberRead IsNumberText
      number_reader s n text e f,
)

-- cases: whether there is such a state
word_by : (text : List ℕ) (o : Option (Option ℕ)) → state_after next_number None text ≡ o →
    IsDecided (IsOf IsWord decimal text)
word_by text None e = inr (λ n h. (let g : None ≡ Some n = sym (ap (option_and_then whole_number) e)
    ∙ number_reader.complete text n h in absurd cc))
word_by text (Some s) e = word_at text s s e refl

-- it is decidable whether a text is a number
pub word_found : (text : List ℕ) → IsDecided (IsOf IsWord decimal text)
word_found text = word_by text (state_after next_number None text) refl

-- a number below a limit
abbrev pub IsBelow : ℕ → ℕ → Type 0
IsBelow limit n = n < limit

-- cases: whether the number is below the limit
below_at : (limit : ℕ) (text : List ℕ) (n : ℕ) (b : Bool) → limit ≤ 2 ^ 64 → IsOf IsWord decimal text n → nat_lt n limit
    ≡ b → IsDecided (IsOf (IsBelow limit) decimal text)
below_at limit text n true few h e = inl (n, (ltb-true n limit e, h.1))
below_at limit text n false few h e =
    inr (λ m i. (let less : m < limit = i.0 in let same : m
    ≡ n = decimal_injective m n (omega arith) h.0 (sym i.1 ∙ h.1) in let below : n < limit = omega arith in
    true≢false (sym (lt-ltb n limit below) ∙ e)))

-- cases: whether the text is a number
below_by : (limit : ℕ) (text : List ℕ) → limit ≤ 2 ^ 64 → IsDecided (IsOf IsWord decimal text) →
    IsDecided (IsOf (IsBelow limit) decimal text)
below_by limit text few (inl n) = below_at limit text n.0 (nat_lt n.0 limit) few n.1 refl
below_by limit text few (inr none) = inr (λ m i. (let less : m < limit = i.0 in none m (omega arith, i.1)))

-- it is decidable whether a text is a number below a limit
pub below_found : (limit : ℕ) → limit ≤ 2 ^ 64 → (text : List ℕ) → IsDecided (IsOf (IsBelow limit) decimal text)
below_found limit few text = below_by limit text few (word_found text)

-- TEXTS THAT SPELL THEMSELVES

-- a text spells itself
abbrev pub itself : List ℕ → List ℕ
itself text = text
