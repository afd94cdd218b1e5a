use Rattle.std.proofs.Common.{◌≡◌, [], true, is_ok, ap, sym, ◌∙◌, arith}
use Rattle.std.proofs.lemmas.Bool.{cond-true}
use Rattle.std.proofs.lemmas.Grind.{common_steps}
use Rattle.ft_types.specs.declared.object.CodeType.{CodeType}
use Rattle.ft_asm.proofs.ClosedLaws.{closes_start, closes_block, closes_type}
use Rattle.ft_asm.proofs.draft.Draft.close.Goals as goal

pub returns-in-Start : goal.returns-in-Start
returns-in-Start c = closes_start c.args.self.now c.in-Start.is

pub returns-in-InBlock : goal.returns-in-InBlock
returns-in-InBlock c = closes_block c.args.self.now c.in-InBlock.is

pub returns-in_ok-map_err-in-InType : goal.returns-in_ok-map_err-in-InType
returns-in_ok-map_err-in-InType c =
    let ok : is_ok c.push.result ≡ true = sym c.map_err.ensures.variant ∙ ap is_ok c.in_ok-map_err-in-InType.was in
    let pushed = c.push.ensures.items ∙ cond-true _ _ _ ok in
    let made : CodeType = record {
      ints = c.in-InType.ints;
      regs = c.from_vec-regs.result;
      queue = c.from_vec-queue.result;
      memory = c.in-InType.memory;
    } in
    let r : c.from_vec-regs.result ≡ c.args.self.now.regs.items = grind (
      arith,
      common_steps,
      c.from_vec-regs.ensures,
      c.replace.ensures,
    ) in
    let q : c.from_vec-queue.result ≡ c.args.self.now.queue.items =
    grind (arith, common_steps, c.from_vec-queue.ensures, c.replace-in-InType.ensures) in
    let f : c.replace.new.dest.items ≡ [] = grind (arith, common_steps, c.replace.ensures, c.new.ensures) in
    let g : c.replace-in-InType.new.dest.items ≡ [] = grind (
      arith,
      common_steps,
      c.replace-in-InType.ensures,
      c.new-in-InType.ensures,
    ) in
    closes_type c.args.self.now (record c.args.self.now {
      types = c.push.new.self;
      regs = c.replace.new.dest;
      queue = c.replace-in-InType.new.dest;
    }) made c.in-InType.is r q pushed f g
