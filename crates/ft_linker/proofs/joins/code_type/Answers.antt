use Rattle.std.proofs.Common.{arith}
use Rattle.ft_linker.proofs.Joining.{start_within, type_fits, type_is}
use Rattle.ft_linker.proofs.joins.code_type.Goals as goal

pub start_of-start-requires : goal.start_of-start-requires
start_of-start-requires c = start_within c.args.objects.now c.args.starts.now c.requires.can c.requires.starts c.args.m
    c.args.b c.requires.there

pub overflow_add-at : goal.overflow_add-at
overflow_add-at c =
    let low = type_fits c.args.objects.now c.args.starts.now c.requires.can c.requires.starts c.args.m c.args.b
    c.requires.there c.start_of-start.result c.block_of-block.result c.start_of-start.ensures c.block_of-block.ensures
    in
    omega (arith, low)

pub overflow_cast-result : goal.overflow_cast-result
overflow_cast-result c =
    let low = type_fits c.args.objects.now c.args.starts.now c.requires.can c.requires.starts c.args.m c.args.b
    c.requires.there c.start_of-start.result c.block_of-block.result c.start_of-start.ensures c.block_of-block.ensures
    in
    omega (arith, low)

pub returns : goal.returns
returns c = type_is c.args.objects.now c.args.starts.now c.requires.can c.requires.starts c.args.m c.args.b
    c.requires.there c.start_of-start.result c.block_of-block.result c.start_of-start.ensures c.block_of-block.ensures
