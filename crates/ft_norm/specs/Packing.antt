-- Packed terms, whose atoms have small numbers. Private to the code.
use Rattle.std.specs.Prelude.{ℕ, ◌<◌, ◌+◌, ◌*◌, ◌/◌, ◌%◌, ◌^◌, List, [], ◌∷◌}
use Rattle.ft_norm.specs.declared.entry.Term.{Term}
use Rattle.ft_norm.specs.declared.packed.PackedTerm.{PackedTerm}

-- the term that a packed one represents
abbrev pub unpacked : PackedTerm → Term
unpacked p = record {
  atoms = (p.first % 2 ^ 24) ∷ (p.second % 2 ^ 24) ∷ (p.third % 2 ^ 24) ∷ (p.first / 2 ^ 24 + 256 * (p.second / 2 ^ 24) + 65536 * (p.third / 2 ^ 24)) ∷ [];
  coefficient = p.high * 2 ^ 32 + p.low;
}

-- each part fits in four bytes
pub record IsPacked (p : PackedTerm) : Type 0 where
  pub first : p.first < 2 ^ 32
  pub second : p.second < 2 ^ 32
  pub third : p.third < 2 ^ 32
  pub high : p.high < 2 ^ 32
  pub low : p.low < 2 ^ 32

-- all parts of all these terms fit in four bytes
abbrev pub ArePacked : List PackedTerm → Type 0
ArePacked [] = Unit {0}
ArePacked (p ∷ ps) = IsPacked p × ArePacked ps

-- each number is below 2^24
abbrev pub AreSmall : List ℕ → Type 0
AreSmall [] = Unit {0}
AreSmall (x ∷ xs) = (x < 2 ^ 24) × AreSmall xs

-- each atom of these terms has a number below 2^24
abbrev pub HaveSmall : List Term → Type 0
HaveSmall [] = Unit {0}
HaveSmall (t ∷ ts) = AreSmall t.atoms × HaveSmall ts
