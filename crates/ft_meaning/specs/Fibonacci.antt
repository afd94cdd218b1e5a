-- A program that outputs the first ten Fibonacci numbers.
use Rattle.std.specs.Prelude.{ℕ, List, [], ◌∷◌, codes}
use Rattle.ft_isa.specs.Words.{cell_address}
use Rattle.ft_isa.specs.declared.op.Op.TheVariants.{Add, Ltu}
use Rattle.ft_isa.specs.declared.output.Output.{Output}
use Rattle.ft_syntax.specs.Plain.{literal, name, operation, none, assign, loop}
use Rattle.ft_scope.specs.declared.slot.Slot.TheVariants.{Cell, Var}
use Rattle.ft_scope.specs.Resolved.{Program}

-- cell out = 0; var a; var b; var t; var i; b = 1; while (i < 10) { out = a; t = a + b; a = b; b = t; i = i + 1; }
abbrev pub fibonacci : Program
fibonacci = record {
  names = codes "out" ∷ [];
  inits = 0 ∷ [];
  vars = 4;
  body = assign (Var 1) (literal 1)
      (loop (operation Ltu (name (Var 3)) (literal 10))
      (assign (Cell 0) (name (Var 0)) (assign (Var 2) (operation Add (name (Var 0)) (name (Var 1))) (assign (Var 0) (name (Var 1)) (assign (Var 1) (name (Var 2)) (assign (Var 3) (operation Add (name (Var 3)) (literal 1)) none)))))
      none);
}

-- one output of the cell for each of these words, in order
abbrev pub puts_out : List ℕ → List Output
puts_out [] = []
puts_out (w ∷ ws) = record { addr = cell_address 0; value = w } ∷ puts_out ws
