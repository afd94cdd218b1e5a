use Rattle.std.proofs.Common.{◌≡◌, [], true, is_ok, ap, sym, ◌∙◌, arith}
use Rattle.std.proofs.lemmas.Bool.{cond-true}
use Rattle.std.proofs.lemmas.List.{nil_from_length}
use Rattle.ft_asm.proofs.HeldLaws.{reg_held}
use Rattle.ft_asm.proofs.draft.Draft.add_reg.Goals as goal

pub returns : goal.returns
returns c =
    let none : c.args.self.now.queue.items ≡ [] = nil_from_length c.args.self.now.queue.items
    (grind (arith, c.as_slice.ensures, c.is_empty.ensures, c.if-not-is_empty.false)) in
    let ok : is_ok c.push.result ≡ true = sym c.map_err.ensures.variant ∙ ap is_ok c.in_ok-map_err.was in
    let pushed = c.push.ensures.items ∙ cond-true _ _ _ ok in
    reg_held c.args.self.now (record c.args.self.now { regs = c.push.new.self }) c.args.row c.in-InType.ints
    c.in-InType.memory c.in-InType.is none pushed
