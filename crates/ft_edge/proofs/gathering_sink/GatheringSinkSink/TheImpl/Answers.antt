use Rattle.std.proofs.Common.{refl}
use Rattle.ft_edge.specs.Gathered.{written_to}
use Rattle.ft_edge.proofs.PutTells.{ok_known, err_known, err_rose}
use Rattle.ft_edge.proofs.gathering_sink.GatheringSinkSink.TheImpl.Goals as goal

pub put-tells : goal.put-tells
put-tells g c =
    let old = written_to c.args.self.now in
    let new = written_to c.new.self.now in
    record {
      pieces = refl;
      count = c.ensures.count;
      same_count = c.ensures.same_count;
      ok = ok_known c.result old new c.args.bytes.now c.ensures.gathers;
      err = err_known c.result old new c.args.bytes.now c.ensures.front;
      cause = err_rose c.result c.args.self.now.failures c.new.self.now.failures c.ensures.counted;
    }
