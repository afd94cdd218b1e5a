use Rattle.std.proofs.Common.{◌≡◌, length, true, is_ok, ap, sym, ◌∙◌, subst, arith}
use Rattle.std.proofs.lemmas.Bool.{cond-true}
use Rattle.ft_types.specs.declared.object.Block.{Block}
use Rattle.ft_asm.specs.Held.{Closes}
use Rattle.ft_asm.proofs.ClosedLaws.{block_held}
use Rattle.ft_asm.proofs.draft.Draft.add_block.Goals as goal

pub returns : goal.returns
returns c =
    let ok : is_ok c.push.result ≡ true = sym c.map_err.ensures.variant ∙ ap is_ok c.in_ok-map_err.was in
    let pushed = c.push.ensures.items ∙ cond-true _ _ _ ok in
    let starts : c.in-Ok.start ≡ length c.close.new.self.instrs.items = grind (
      arith,
      c.len.ensures,
      c.try_from.ensures,
      c.in-Ok.ensures,
      c.in-Ok.is,
    ) in
    let b : Block = record { start = c.in-Ok.start; code_type = c.args.code_type } in
    let is : b ≡ record { start = length c.close.new.self.instrs.items; code_type = c.args.code_type } =
    ap (λ n. record { start = n; code_type = c.args.code_type }) starts in
    λ d h. block_held c.close.new.self (record c.close.new.self { blocks = c.push.new.self }) c.args.code_type b d
    (subst (λ b. Closes b c.close.new.self d) c.if-not-branch.false (c.in_ok-close.ensures d h)) is pushed
