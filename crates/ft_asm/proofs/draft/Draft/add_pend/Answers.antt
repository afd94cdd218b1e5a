use Rattle.std.proofs.Common.{◌≡◌, true, is_ok, ap, sym, ◌∙◌}
use Rattle.std.proofs.lemmas.Bool.{cond-true}
use Rattle.ft_asm.proofs.HeldLaws.{pend_held}
use Rattle.ft_asm.proofs.draft.Draft.add_pend.Goals as goal

pub returns : goal.returns
returns c =
    let ok : is_ok c.push.result ≡ true = sym c.map_err.ensures.variant ∙ ap is_ok c.in_ok-map_err.was in
    let pushed = c.push.ensures.items ∙ cond-true _ _ _ ok in
    pend_held c.args.self.now (record c.args.self.now { queue = c.push.new.self }) c.args.address c.args.value
    c.in-InType.ints c.in-InType.memory c.in-InType.is pushed
