use Rattle.std.proofs.Common.{ℕ, ◌≡◌, ◌∙◌, List, ap, get_or}
use Rattle.ft_static.specs.NormalForm.{add_term}
use Rattle.ft_norm.specs.declared.entry.Term.{Term}
use Rattle.ft_norm.specs.Entries.{monomial_form, polynomial_form}
use Rattle.ft_norm.proofs.sum.add_term.Goals as goal

pub returns-in-Ok-clause-value : goal.returns-in-Ok-clause-value
returns-in-Ok-clause-value c = λ fs.
    let d : Term = record { atoms = c.args.atoms; coefficient = c.args.coefficient } in
    let e : (get_or c.args.sum.now.items c.in-Ok.i d).atoms
    ≡ c.args.atoms = rw c.as_slice.ensures at (c.in-Ok.ensures.there.same d) in
    c.raise.ensures.value fs d ∙ ap (λ (xs : List ℕ).
    add_term (monomial_form fs xs) c.args.coefficient (polynomial_form fs c.args.sum.now.items)) e
