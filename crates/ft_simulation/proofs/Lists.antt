-- Prefixes of lists.
use Rattle.std.proofs.Common.{◌≡◌, List, [], ◌++◌, sym, ap, ◌∙◌, append-nil, append_assoc}

-- the first list is a prefix of the second
abbrev pub Begins : {A : Type 0} → List A → List A → Type 0
Begins {A} a b = (rest : List A) × (a ++ rest ≡ b)

-- a list is a prefix of itself
pub begins_itself : {A : Type 0} (a : List A) → Begins a a
begins_itself a = ([], append-nil a)

-- a prefix of a prefix is a prefix of the whole
pub begins_on : {A : Type 0} (a b c : List A) → Begins a b → Begins b c → Begins a c
begins_on a b c h k = (h.0 ++ k.0, sym (append_assoc a h.0 k.0) ∙ ap (λ l. l ++ k.0) h.1 ∙ k.1)
