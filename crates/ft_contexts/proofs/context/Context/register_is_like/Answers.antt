use Rattle.std.proofs.Common.{sym, ◌∙◌}
use Rattle.ft_contexts.specs.Contexts.{typed_in, replacement_in}
use Rattle.ft_contexts.proofs.Kept.{integer_stays, polynomial_found}
use Rattle.ft_contexts.proofs.Turns.{like_typed}
use Rattle.ft_contexts.proofs.context.Context.register_is_like.Goals as goal

pub returns-clause-like : goal.returns-clause-like
returns-clause-like g c =
    let known = c.in-Some.known in
    let s = integer_stays c.args.forms.now c.integer.new.forms known.form c.integer.ensures.kept
    (c.in-Some.ensures.held c.args.forms.now c.requires.held) in
    let w = polynomial_found c.integer.new.forms c.in_ok-wanted.wanted _ c.in_ok-wanted.ensures.form in
    let l = like_typed (g.P.Program.object c.args.program.now) (replacement_in c.args.forms.now c.args.put.now) _
    (typed_in c.args.forms.now known) c.args.row (c.in-Some.ensures.known c.args.forms.now)
    (sym c.is_typed_like.ensures ∙ c.if-not-is_typed_like.false) in
    c.same_integers.ensures ∙ rw (s, w) (sym l)
