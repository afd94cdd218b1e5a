-- What the code has read of a line: private to the assembler.
use Rattle.std.specs.Prelude.{◌≡◌, ℕ, true, false, List, Some, None}
use Rattle.ft_asm.specs.declared.forms.Said.{Said}
use Rattle.ft_asm.specs.declared.forms.Said.TheVariants.{Nothing, Line, Bad}
use Rattle.ft_asm.specs.Words.{is_said}
use Rattle.ft_asm.specs.LineForms.{line_in}

-- what was read is what these words say
abbrev pub Says : List (List ℕ) → Said → Type 0
Says words Nothing = is_said words ≡ false
Says words (Line line) = (is_said words ≡ true) × (line_in words ≡ Some line)
Says words Bad = (is_said words ≡ true) × (line_in words ≡ None)
