use Rattle.std.proofs.Common.{◌≡◌, true, is_ok, ap, sym, ◌∙◌}
use Rattle.std.proofs.lemmas.Bool.{cond-true}
use Rattle.ft_asm.proofs.HeldLaws.{code_held}
use Rattle.ft_asm.proofs.draft.Draft.add_code.Goals as goal

pub returns : goal.returns
returns c =
    let ok : is_ok c.push.result ≡ true = sym c.map_err.ensures.variant ∙ ap is_ok c.in_ok-map_err.was in
    let pushed = c.push.ensures.items ∙ cond-true _ _ _ ok in
    code_held c.args.self.now c.placed.new.self (record c.placed.new.self { instrs = c.push.new.self }) c.args.code
    c.in_ok-instr.instr c.in-InBlock.is c.in_ok-instr.ensures pushed
