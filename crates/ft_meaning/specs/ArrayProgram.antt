-- A program that writes to each cell of an array, and then to the first one again.
use Rattle.std.specs.Prelude.{ℕ, List, [], ◌∷◌, codes}
use Rattle.ft_isa.specs.Words.{cell_address}
use Rattle.ft_isa.specs.declared.op.Op.TheVariants.{Add, Ltu, Xor}
use Rattle.ft_isa.specs.declared.output.Output.{Output}
use Rattle.ft_syntax.specs.Plain.{literal, name, operation, none, assign, assign_at, loop}
use Rattle.ft_scope.specs.declared.slot.Slot.TheVariants.{Var, Run}
use Rattle.ft_scope.specs.Resolved.{Program}

-- cell a[3] = 0; var i; while (i < 4) { a[i] = i ^ 5; i = i + 1; }
abbrev pub array_program : Program
array_program = record {
  names = codes "a[0]" ∷ codes "a[1]" ∷ codes "a[2]" ∷ [];
  inits = 0 ∷ 0 ∷ 0 ∷ [];
  vars = 1;
  body = loop (operation Ltu (name (Var 0)) (literal 4))
      (assign_at (Run 0 3) (name (Var 0)) (operation Xor (name (Var 0)) (literal 5)) (assign (Var 0) (operation Add (name (Var 0)) (literal 1)) none))
      none;
}

-- the output of assigning word w to cell k
abbrev at_cell : ℕ → ℕ → Output
at_cell k w = record { addr = cell_address k; value = w }

-- the program's outputs
abbrev pub array_outputs : List Output
array_outputs = at_cell 0 5 ∷ at_cell 1 4 ∷ at_cell 2 7 ∷ at_cell 0 6 ∷ []
