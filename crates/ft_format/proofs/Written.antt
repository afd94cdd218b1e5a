-- Appending pieces one after the other.
use Rattle.std.proofs.Common.{ℕ, List, [], ◌++◌, sym, ap, ◌∙◌, append_assoc}
use Rattle.std.proofs.lemmas.List.{append-nil}
use Rattle.ft_format.specs.Puts.{Puts}

-- appending a piece and then the rest appends both
pub before : {x y z a rest : List ℕ} → Puts x y a → Puts y z rest → Puts x z (a ++ rest)
before {x = x} {a = a} {rest = rest} p q = record {
  added = q.added ∙ ap (λ l. l ++ rest) p.added
      ∙ append_assoc x a rest;
}

-- appending a piece appends that piece followed by nothing
pub last : {x y a : List ℕ} → Puts x y a → Puts x y (a ++ [])
last {x = x} {a = a} p = record { added = p.added ∙ ap (λ l. x ++ l) (sym (append-nil a)) }
