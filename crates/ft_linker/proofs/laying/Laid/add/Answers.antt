use Rattle.ft_linker.proofs.Raisable.{nodes_raise, types_raise, blocks_raise, instrs_raise, substs_raise}
use Rattle.ft_linker.proofs.laying.Laid.add.Goals as goal

pub lay_nodes-requires : goal.lay_nodes-requires
lay_nodes-requires c = nodes_raise c.args.object.now c.args.k c.requires.spelled c.requires.fits

pub lay_types-requires : goal.lay_types-requires
lay_types-requires c = types_raise c.args.object.now c.args.k c.requires.spelled c.requires.fits

pub lay_blocks-requires : goal.lay_blocks-requires
lay_blocks-requires c = blocks_raise c.args.object.now c.args.k c.requires.spelled c.requires.fits

pub lay_instrs-requires : goal.lay_instrs-requires
lay_instrs-requires c = instrs_raise c.args.object.now c.args.k c.requires.spelled c.requires.typed c.requires.fits

pub lay_substs-requires : goal.lay_substs-requires
lay_substs-requires c = substs_raise c.args.object.now c.args.k c.requires.spelled c.requires.fits
