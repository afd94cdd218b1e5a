use Rattle.ft_edge.proofs.Lines.{line_puts}
use Rattle.ft_edge.proofs.putting.put_line.Goals as goal

pub returns : goal.returns
returns g c =
    let put = c.put.ensures in
    line_puts c.put.result c.args.line.now (g.K.Sink.log c.args.out.now) (g.K.Sink.log c.put.new.self) put.pieces
    put.count put.same_count put.ok put.err put.cause
