-- The limits on a source: its bytes, its open brackets and braces, and the operators of an assignment or a test.
use Rattle.std.specs.Prelude.{◌≡◌, ℕ, ◌+◌, ◌-◌, Bool, false, List, [], ◌∷◌, nat_le}
use Rattle.ft_lexer.specs.declared.kind.Kind.{Kind}
use Rattle.ft_lexer.specs.declared.kind.Kind.TheVariants.{While, If, Semi, LParen, RParen, LBrace, RBrace, Plus, Minus, Star, Less, EqEq, LBracket, RBracket, And, Or, Xor, Shl, Shr}
use Rattle.ft_lexer.specs.Scan.{Lexeme}

-- the maximum size of a source text in bytes
abbrev pub text_limit : ℕ
text_limit = 1048576

-- how many brackets and braces are open, and how many operators this statement or test has so far
pub record Tally : Type 0 where
  pub opened : ℕ
  pub ops : ℕ

-- the counts after a lexeme of this kind
abbrev pub tally : Kind → Tally → Tally
tally LParen c = record { opened = c.opened + 1; ops = c.ops }
tally LBracket c = record { opened = c.opened + 1; ops = c.ops }
tally LBrace c = record { opened = c.opened + 1; ops = 0 }
tally RParen c = record { opened = c.opened - 1; ops = c.ops }
tally RBracket c = record { opened = c.opened - 1; ops = c.ops }
tally RBrace c = record { opened = c.opened - 1; ops = 0 }
tally Semi c = record { opened = c.opened; ops = 0 }
tally While c = record { opened = c.opened; ops = 0 }
tally If c = record { opened = c.opened; ops = 0 }
tally Plus c = record { opened = c.opened; ops = c.ops + 1 }
tally Minus c = record { opened = c.opened; ops = c.ops + 1 }
tally Star c = record { opened = c.opened; ops = c.ops + 1 }
tally Less c = record { opened = c.opened; ops = c.ops + 1 }
tally EqEq c = record { opened = c.opened; ops = c.ops + 1 }
tally And c = record { opened = c.opened; ops = c.ops + 1 }
tally Or c = record { opened = c.opened; ops = c.ops + 1 }
tally Xor c = record { opened = c.opened; ops = c.ops + 1 }
tally Shl c = record { opened = c.opened; ops = c.ops + 1 }
tally Shr c = record { opened = c.opened; ops = c.ops + 1 }
tally _ c = c

-- the lexeme opens a 101st bracket or brace, or is the 201st operator of its statement or test
abbrev pub deep : Kind → Tally → Bool
deep LParen c = nat_le 100 c.opened
deep LBracket c = nat_le 100 c.opened
deep LBrace c = nat_le 100 c.opened
deep Plus c = nat_le 200 c.ops
deep Minus c = nat_le 200 c.ops
deep Star c = nat_le 200 c.ops
deep Less c = nat_le 200 c.ops
deep EqEq c = nat_le 200 c.ops
deep And c = nat_le 200 c.ops
deep Or c = nat_le 200 c.ops
deep Xor c = nat_le 200 c.ops
deep Shl c = nat_le 200 c.ops
deep Shr c = nat_le 200 c.ops
deep _ c = false

abbrev pub nothing_open : Tally
nothing_open = record { opened = 0; ops = 0 }

-- the counts after these lexemes
abbrev pub tallied : Tally → List Lexeme → Tally
tallied c [] = c
tallied c (t ∷ ts) = tallied (tally t.kind c) ts

-- no lexeme exceeds a limit
abbrev pub IsShallow : Tally → List Lexeme → Type 0
IsShallow c [] = Unit {0}
IsShallow c (t ∷ ts) = (deep t.kind c ≡ false) × IsShallow (tally t.kind c) ts
