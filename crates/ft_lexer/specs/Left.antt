-- The rest of a lexer's scan, and what may come next in its text.
use Rattle.std.specs.Prelude.{◌≡◌, ℕ, ◌+◌, Bool, false, true, List, [], ◌∷◌, ◌==◌}
use Rattle.ft_lexer.specs.declared.lexer.Lexer.{Lexer}
use Rattle.ft_lexer.specs.declared.kind.Kind.{Kind}
use Rattle.ft_lexer.specs.Bytes.{is_blank, sign_kind}
use Rattle.ft_lexer.specs.Scan.{Scan, scan_from, gap, over, token, sign_at}

-- the rest of a lexer's scan
abbrev pub left : Lexer → Scan
left l = scan_from gap l.at l.rest.now

-- the next byte, if any, is neither blank nor the start of a comment
abbrev pub BeginsToken : List ℕ → Type 0
BeginsToken [] = Unit {0}
BeginsToken (b ∷ bs) = (is_blank b ≡ false) × ((b == 35) ≡ false)

-- there is a next byte, and it passes the test
abbrev pub BeginsWith : (ℕ → Bool) → List ℕ → Type 0
BeginsWith p [] = ⊥
BeginsWith p (b ∷ bs) = p b ≡ true

-- the next byte, if any, fails the test
abbrev pub BeginsWithout : (ℕ → Bool) → List ℕ → Type 0
BeginsWithout p [] = Unit {0}
BeginsWithout p (b ∷ bs) = p b ≡ false

-- the scan if no pair begins with the next byte: it is a token by itself, or an error
abbrev pub alone : ℕ → List ℕ → Scan
alone at [] = over
alone at (b ∷ bs) = sign_at (sign_kind b) at b (scan_from gap (at + 1) bs)

-- whether the next two bytes are equal
abbrev pub is_twice : List ℕ → Bool
is_twice (b ∷ c ∷ bs) = c == b
is_twice _ = false

-- the scan if the next two bytes make a token of this kind
abbrev pub scan_twice : Kind → ℕ → List ℕ → Scan
scan_twice k at (b ∷ c ∷ bs) = token (record { kind = k; text = b ∷ c ∷ []; at = at }) (scan_from gap (at + 2) bs)
scan_twice k at _ = over
