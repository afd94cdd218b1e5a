-- Where the tokens of a text are.
use Rattle.std.specs.Prelude.{◌≡◌, ℕ, ◌+◌, ◌<◌, ◌≤◌, List, length, take, drop}
use Rattle.ft_lexer.specs.Scan.{Scan, over, wrong, token}

-- each token is the part of the text at its place, is not empty, and begins no sooner than the one before it ends
abbrev pub Placed : List ℕ → ℕ → Scan → Type 0
Placed text low over = Unit {0}
Placed text low (wrong e) = Unit {0}
Placed text low (token t rest) = (low ≤ t.at) × (0 < length t.text) × (t.text ≡ take (length t.text) (drop t.at text)) × Placed text (t.at + length t.text) rest
