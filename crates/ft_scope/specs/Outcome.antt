-- The outcome of a text: a program or a refusal.
use Rattle.std.specs.Prelude.{◌≡◌, ℕ, List, ◌⊎◌, Result, Ok, Err}
use Rattle.ft_syntax.specs.Syntax.{SyntaxTree}
use Rattle.ft_syntax.specs.Refusal.{IsSource, IsRefused}
use Rattle.ft_syntax.specs.declared.source_error.SourceError.{SourceError}
use Rattle.ft_scope.specs.Resolved.{Program, resolved}

-- the text is a source, and its tree resolves to this program
abbrev pub IsProgramOf : List ℕ → Program → Type 0
IsProgramOf text p = (t : SyntaxTree) × IsSource text t × (resolved t ≡ Ok p)

-- this is the text's refusal: it is not a source, or its tree is refused
abbrev pub IsRefusalOf : List ℕ → SourceError → Type 0
IsRefusalOf text e = IsRefused text e ⊎ ((t : SyntaxTree) × IsSource text t × (resolved t ≡ Err e))

-- the text's outcome: this program or this refusal
abbrev pub IsOutcome : List ℕ → Result Program SourceError → Type 0
IsOutcome text (Ok p) = IsProgramOf text p
IsOutcome text (Err e) = IsRefusalOf text e
