use Rattle.ft_encode.proofs.Spelled.{counted, unbroken, back, one, apart}
use Rattle.ft_encode.proofs.writing.encode.Goals as goal

pub spell-requires : goal.spell-requires
spell-requires c = counted c.args.object.now c.requires

pub returns-clause-unbroken : goal.returns-clause-unbroken
returns-clause-unbroken c = unbroken c.args.object.now c.spell.result c.requires c.spell.ensures

pub returns-clause-back : goal.returns-clause-back
returns-clause-back c = back c.args.object.now c.spell.result c.requires c.spell.ensures

pub returns-clause-one : goal.returns-clause-one
returns-clause-one c = one c.args.object.now c.spell.result c.requires c.spell.ensures

pub returns-clause-apart : goal.returns-clause-apart
returns-clause-apart c = apart c.args.object.now c.spell.result c.requires c.spell.ensures
