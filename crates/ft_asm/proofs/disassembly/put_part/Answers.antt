use Rattle.ft_asm.proofs.PieceLaws.{block_ends, part_put}
use Rattle.ft_asm.proofs.disassembly.put_part.Goals as goal

pub put_codes-requires-clause-within : goal.put_codes-requires-clause-within
put_codes-requires-clause-within g c = rw c.block_end-end.ensures
    (block_ends (g.P.Program.object c.args.program.now) c.requires.spellable c.args.b c.block-block.result
    c.block-block.ensures)

pub returns : goal.returns
returns g c = λ x is. part_put _ _ _ (g.P.Program.object c.args.program.now) c.args.b c.block-block.result x
    c.block_end-end.result is c.block-block.ensures c.block_end-end.ensures c.in_ok-put_block.ensures
    c.in_ok-put_codes.ensures
