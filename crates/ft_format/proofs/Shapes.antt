-- Lists of a given length.
use Rattle.std.proofs.Common.{◌≡◌, ℕ, List, [], ◌∷◌, length, arith}

-- what holds of any 5 numbers, as a list, holds of any list of length 5
pub shape_5 : (P : List ℕ → Type 0) → ((a b c d e : ℕ) → P (a ∷ b ∷ c ∷ d ∷ e ∷ [])) → (row : List ℕ) → length row ≡ 5 →
    P row
shape_5 P make [] same = absurd (omega arith)
shape_5 P make (a ∷ []) same = absurd (omega arith)
shape_5 P make (a ∷ b ∷ []) same = absurd (omega arith)
shape_5 P make (a ∷ b ∷ c ∷ []) same = absurd (omega arith)
shape_5 P make (a ∷ b ∷ c ∷ d ∷ []) same = absurd (omega arith)
shape_5 P make (a ∷ b ∷ c ∷ d ∷ e ∷ []) same = make a b c d e
shape_5 P make (a ∷ b ∷ c ∷ d ∷ e ∷ x ∷ xs) same = absurd (omega arith)

-- what holds of any 7 numbers, as a list, holds of any list of length 7
pub shape_7 : (P : List ℕ → Type 0) → ((a b c d e f g : ℕ) → P (a ∷ b ∷ c ∷ d ∷ e ∷ f ∷ g ∷ [])) → (row : List ℕ) →
    length row ≡ 7 → P row
shape_7 P make [] same = absurd (omega arith)
shape_7 P make (a ∷ []) same = absurd (omega arith)
shape_7 P make (a ∷ b ∷ []) same = absurd (omega arith)
shape_7 P make (a ∷ b ∷ c ∷ []) same = absurd (omega arith)
shape_7 P make (a ∷ b ∷ c ∷ d ∷ []) same = absurd (omega arith)
shape_7 P make (a ∷ b ∷ c ∷ d ∷ e ∷ []) same = absurd (omega arith)
shape_7 P make (a ∷ b ∷ c ∷ d ∷ e ∷ f ∷ []) same = absurd (omega arith)
shape_7 P make (a ∷ b ∷ c ∷ d ∷ e ∷ f ∷ g ∷ []) same = make a b c d e f g
shape_7 P make (a ∷ b ∷ c ∷ d ∷ e ∷ f ∷ g ∷ x ∷ xs) same = absurd (omega arith)
