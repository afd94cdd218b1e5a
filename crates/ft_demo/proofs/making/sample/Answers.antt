use Rattle.ft_demo.proofs.Applies.{sample_is_accepted}
use Rattle.ft_demo.proofs.Spelled.{sample_is_spellable}
use Rattle.ft_demo.proofs.making.sample.Goals as goal

pub returns-clause-spellable : goal.returns-clause-spellable
returns-clause-spellable c = sample_is_spellable c.in_ok-object.object c.args.n c.in_ok-object.ensures c.requires.some
    c.requires.few

pub returns-clause-accepted : goal.returns-clause-accepted
returns-clause-accepted c = sample_is_accepted c.in_ok-object.object c.args.n c.in_ok-object.ensures
