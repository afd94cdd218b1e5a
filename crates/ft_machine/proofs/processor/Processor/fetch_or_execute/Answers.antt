use Rattle.std.proofs.Common.{rules}
use Rattle.ft_machine.specs.Arrays.{cells_of}
use Rattle.ft_machine.proofs.processor.Processor.fetch_or_execute.Goals as goal

pub returns-in-None : goal.returns-in-None
returns-in-None g c =
    let h = c.fetch.ensures (g.Q.PendingStores.pending c.args.queue.now) (cells_of c.args.cells.now) in
    search rules
