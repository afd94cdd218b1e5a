-- The program that a value of the code represents.
use Rattle.std.specs.Prelude.{map}
use Rattle.ft_syntax.specs.Plain.{plain_list}
use Rattle.ft_scope.specs.declared.prog.Prog.{Prog}
use Rattle.ft_scope.specs.CellNames.{joined_names}
use Rattle.ft_scope.specs.Size.{same_slot}
use Rattle.ft_scope.specs.Resolved.{Program}

abbrev pub program_of : Prog → Program
program_of p = record { names = joined_names (map (λ r. r.now) p.names.items) p.places.items; inits = p.inits.items; vars = p.vars; body = plain_list same_slot p.body.items }
