use Rattle.std.proofs.Common.{rules}
use Rattle.ft_machine.specs.Processors.{state_with}
use Rattle.ft_machine.proofs.Rows.{fetch_apart, fetch_none}
use Rattle.ft_machine.proofs.processor.Processor.fetch.Goals as goal

pub returns-then-self : goal.returns-then-self
returns-then-self g c = λ queue cells. fetch_apart (g.P.Program.object c.args.program.now)
    (state_with c.args.self.now queue cells) (state_with c.detect.new.self queue cells)
    c.detect.result (search rules) (c.detect.ensures queue cells)

pub returns-in-None : goal.returns-in-None
returns-in-None g c = λ queue cells. fetch_none (g.P.Program.object c.args.program.now)
    (state_with c.args.self.now queue cells) (state_with c.detect-in-None.new.self queue cells)
    c.detect-in-None.result (search rules) (search rules) (c.detect-in-None.ensures queue cells)
