use Rattle.std.proofs.Common.{arith, refl, ◌∙◌}
use Rattle.std.proofs.lemmas.List.{length-set}
use Rattle.std.proofs.lemmas.Option.{slice_get_within}
use Rattle.ft_norm.proofs.Ways.{leads_first, set_next, update_address}
use Rattle.ft_norm.specs.Ways.{IsTurn}
use Rattle.ft_norm.proofs.turns.path_over.Goals as goal

pub base_over-base-requires-clause-address : goal.base_over-base-requires-clause-address
base_over-base-requires-clause-address c = update_address c.args.entries.now c.args.m c.args.at c.requires.update.0
    c.args.older c.requires.entries c.requires.update.1

pub loop-i-init : goal.loop-i-init
loop-i-init c = record {
  leads = leads_first c.args.entries.now c.args.m c.args.at c.requires.update.0 c.args.older c.requires.entries
      c.requires.update.1;
  size = refl;
  turns = λ k t l e. absurd (omega (arith, l));
}

pub returns : goal.returns
returns c = record {
  value = c.requires.update.0;
  older = c.args.older;
  update = c.requires.update.1;
  base = c.base_over-base.ensures;
  size = c.loop-i.invariant.size;
  turns = λ i t e.
      let w = slice_get_within c.loop-i.turns i t e in
      c.loop-i.invariant.turns i t (omega (arith, w, c.loop-i.invariant.size, c.loop-i-test.false)) e;
}

pub loop-i-preserved : goal.loop-i-preserved
loop-i-preserved c = record {
  leads = c.turn-here.ensures.next c.args.m c.loop-i.invariant.leads;
  size = length-set _ _ _ ∙ c.loop-i.invariant.size;
  turns = set_next (λ k t. IsTurn c.args.entries.now c.args.m c.args.at k t) c.loop-i.turns c.loop-i.i
      c.turn-here.result.0 c.loop-i.invariant.turns (c.turn-here.ensures.turn c.args.m c.loop-i.invariant.leads);
}
