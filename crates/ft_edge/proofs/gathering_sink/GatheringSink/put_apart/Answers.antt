use Rattle.ft_edge.specs.Gathered.{written_to}
use Rattle.ft_edge.proofs.KeptFront.{front_after}
use Rattle.ft_edge.proofs.gathering_sink.GatheringSink.put_apart.Goals as goal

pub returns-clause-front : goal.returns-clause-front
returns-clause-front g c =
    front_after c.gather.result (written_to c.args.self.now) (written_to c.hand_on.new.self)
    (written_to c.gather.new.self) c.args.bytes.now c.hand_on.ensures.kept c.gather.ensures.front
