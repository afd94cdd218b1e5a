use Rattle.std.proofs.Common.{◌+◌, ap, arith}
use Rattle.ft_modules.specs.declared.before.Before.{Before}
use Rattle.ft_linker.proofs.Joining.{start_within, start_is, number_fits}
use Rattle.ft_linker.proofs.joins.number.Goals as goal

pub start_of-start-requires : goal.start_of-start-requires
start_of-start-requires c = start_within c.args.objects.now c.args.starts.now c.requires.can c.requires.starts c.args.m
    c.args.b c.requires.there

pub overflow_add-at : goal.overflow_add-at
overflow_add-at c =
    let low = number_fits c.args.objects.now c.args.starts.now c.requires.can c.requires.starts c.args.m c.args.b
    c.start_of-start.result c.requires.there c.start_of-start.ensures in
    omega (arith, low)

pub returns : goal.returns
returns c = ap (λ (k : Before). k.blocks + c.args.b) (start_is c.args.objects.now c.args.starts.now c.requires.can
    c.requires.starts c.args.m c.args.b c.start_of-start.result c.requires.there c.start_of-start.ensures)
