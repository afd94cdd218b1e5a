-- One list of outputs is a prefix of another.
use Rattle.std.specs.Prelude.{◌≡◌, List, ◌++◌}
use Rattle.ft_isa.specs.declared.output.Output.{Output}

-- the first is a prefix of the second
abbrev pub Begins : List Output → List Output → Type 0
Begins a b = (rest : List Output) × (a ++ rest ≡ b)
