-- The tree of statements in front of others is their own tree, followed by the others.
use Rattle.std.proofs.Common.{◌≡◌, Some, None, refl, sym, ap, ◌∙◌}
use Rattle.ft_syntax.specs.Plain.{StatementList, none, follow}
use Rattle.ft_syntax.specs.Syntax.{Named}
use Rattle.ft_syntax.specs.Grammar.{Statement, Statements, assignment, looping, choosing, choosing_else, nothing, more}
use Rattle.ft_syntax.specs.Grammar.{statement_tree, statements_tree}
use Rattle.ft_syntax.proofs.PlainForms.{follow_follow}

-- the tree of a statement in front of others is its own tree, followed by the others
pub statement_followed : (c : Statement) (after : StatementList Named) → statement_tree c after
    ≡ follow (statement_tree c none) after
statement_followed (assignment n None l e r) after = refl
statement_followed (assignment n (Some i) l e r) after = refl
statement_followed (looping h body r) after = refl
statement_followed (choosing h if_so r) after = refl
statement_followed (choosing_else h if_so r w l if_not q) after = refl

-- likewise for a list of statements
pub statements_followed : (c : Statements) (after : StatementList Named) → statements_tree c after
    ≡ follow (statements_tree c none) after
statements_followed nothing after = refl
statements_followed (more before s) after =
    let one = statement_tree s none in
    statements_followed before (statement_tree s after)
    ∙ ap (follow (statements_tree before none)) (statement_followed s after)
    ∙ sym (follow_follow (statements_tree before none) one after)
    ∙ ap (λ v. follow v after) (sym (statements_followed before one))

-- the tree of statements and a last one is their tree, followed by that of the last one
pub more_followed : (before : Statements) (s : Statement) → statements_tree (more before s) none
    ≡ follow (statements_tree before none) (statement_tree s none)
more_followed before s = statements_followed before (statement_tree s none)
