-- The state after one more line: private to the assembler.
use Rattle.std.specs.Prelude.{◌≡◌, ◌⊎◌, ℕ, true, false, List, Some, None}
use Rattle.ft_asm.specs.declared.assembly.Turn.{Turn}
use Rattle.ft_asm.specs.declared.assembly.Turn.TheVariants.{On, Bad, Stuck}
use Rattle.ft_asm.specs.declared.draft.Draft as tables
use Rattle.ft_asm.specs.declared.line.Line.{Line}
use Rattle.ft_text.specs.LineWords.{words_of}
use Rattle.ft_asm.specs.Words.{is_said}
use Rattle.ft_asm.specs.LineForms.{line_in}
use Rattle.ft_asm.specs.Drafts.{Draft, next}
use Rattle.ft_asm.specs.Held.{Holds}

-- the draft after a line: unchanged if the line says nothing, else the next one
abbrev pub Leads : Draft → List ℕ → Draft → Type 0
Leads d line e = ((is_said (words_of line) ≡ false) × (d ≡ e)) ⊎ ((l : Line) × (is_said (words_of line) ≡ true) × (line_in (words_of line) ≡ Some l) × (next d l ≡ Some e))

-- the state after one more line
abbrev pub Turns : Turn → tables.Draft → Draft → List ℕ → Type 0
Turns On t d line = (e : Draft) × Holds t e × Leads d line e
Turns Bad t d line = (is_said (words_of line) ≡ true) × (line_in (words_of line) ≡ None)
Turns Stuck t d line = (l : Line) × (is_said (words_of line) ≡ true) × (line_in (words_of line) ≡ Some l) × (next d l ≡ None)
