use Rattle.std.proofs.Common.{rules, ◌≡◌, ◌++◌, subst}
use Rattle.std.specs.Io.KnownBytes.{Appends}
use Rattle.ft_edge.specs.Recording.{accepted, recorded_writer}
use Rattle.ft_edge.specs.Gathered.{sink_writer}
use Rattle.ft_edge.proofs.Followed.{follows_by}
use Rattle.ft_edge.proofs.gathering_sink.GatheringSink.finish.Goals as goal

pub returns-clause-rest : goal.returns-clause-rest
returns-clause-rest g c =
    let contents = g.W.Write.contents in
    let old = sink_writer c.args.self in
    let new = sink_writer c.hand_on.new.self in
    let bytes = c.args.self.gathered.items in
    let grew : accepted new ≡ accepted old ++ bytes = search rules in
    subst (λ w. Appends (contents (recorded_writer old)) (contents (recorded_writer w)) bytes)
    c.discard-2.ensures.writer (follows_by contents old new bytes c.hand_on.ensures.told grew)
