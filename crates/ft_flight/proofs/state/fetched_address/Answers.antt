use Rattle.std.proofs.Common.{rules}
use Rattle.ft_types.specs.Objects.{instr_at}
use Rattle.ft_flight.proofs.Fetched.{from_last}
use Rattle.ft_flight.proofs.state.fetched_address.Goals as goal

pub returns : goal.returns
returns g c =
    let o = g.P.Program.object c.args.program.now in
    let p = c.args.processor.now in
    from_last o (instr_at o c.args.old) p.fetched p.pc_green c.requires.from (search rules) (search rules)
