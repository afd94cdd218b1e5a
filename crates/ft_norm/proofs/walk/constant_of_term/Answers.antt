use Rattle.std.proofs.Common.{◌∙◌, sym}
use Rattle.ft_norm.proofs.Limits.{no_atom_constant, some_atom_constant}
use Rattle.ft_norm.proofs.walk.constant_of_term.Goals as goal

pub returns-then-degree-eq0 : goal.returns-then-degree-eq0
returns-then-degree-eq0 c = λ fs. no_atom_constant fs c.args.atoms c.args.coefficient (sym c.degree.ensures
    ∙ c.if-degree-eq0.true) c.ranges.coefficient.fits

pub returns-else-degree-eq0 : goal.returns-else-degree-eq0
returns-else-degree-eq0 c = λ fs. some_atom_constant fs c.args.atoms c.args.coefficient (λ e.
    c.if-degree-eq0.false (c.degree.ensures ∙ e))
