use Rattle.std.proofs.Common.{length, ap, arith}
use Rattle.ft_text.specs.Lines.{lines_of}
use Rattle.ft_link_map.specs.Reads.{line_of}
use Rattle.ft_link_map.proofs.Walked.{takes_more, takes_none, ends_early, ends_twice, ends_well}
use Rattle.ft_link_map.proofs.reading.read_lines.Goals as goal

pub take-requires : goal.take-requires
take-requires c = let held = c.loop-line.invariant.so_far.1 in omega (arith, ap length held.files, held.few)

pub returns-in-Stuck : goal.returns-in-Stuck
returns-in-Stuck c = λ said are.
    let x = c.loop-line.invariant.so_far in
    takes_none (lines_of c.args.text.now) c.take.new.self x.0 c.loop-line.twice c.loop-line.number
    (lines_of c.loop-line.rest.now) c.in-Some.line.now (lines_of c.in-Some.after.now) (line_of c.read_entry.result)
    c.in-Ok.turn
    x.2 c.in-Some.ensures.0 c.read_entry.ensures (c.in-Ok.ensures x.0 x.1) c.in-Stuck.is said are

pub loop-line-preserved : goal.loop-line-preserved
loop-line-preserved c =
    let x = c.loop-line.invariant.so_far in
    record {
      so_far = takes_more (lines_of c.args.text.now) c.take.new.self x.0 c.loop-line.twice c.first_of-twice.result
          c.loop-line.number (lines_of c.loop-line.rest.now) c.in-Some.line.now (lines_of c.in-Some.after.now)
          (line_of c.read_entry.result)
          c.in-Ok.turn x.2 c.in-Some.ensures.0 c.read_entry.ensures (c.in-Ok.ensures x.0 x.1)
          c.in_default-turn.not-Stuck c.first_of-twice.ensures;
      few = omega (arith, c.loop-line.invariant.few, c.in-Some.ensures.1);
    }

pub returns-in_default-finish : goal.returns-in_default-finish
returns-in_default-finish c = λ said are.
    let x = c.loop-line.invariant.so_far in
    ends_early (lines_of c.args.text.now) x.0 c.loop-line.twice c.loop-line.number (lines_of c.loop-line.rest.now) x.2
    (ap lines_of c.in_default.ensures) (c.in_default-finish.ensures x.0 x.1) said are

pub returns-in-Some-twice : goal.returns-in-Some-twice
returns-in-Some-twice c = λ said are.
    let x = c.loop-line.invariant.so_far in
    ends_twice (lines_of c.args.text.now) x.0 c.in-Some-finish.map c.loop-line.twice c.in-Some-twice.line
    c.loop-line.number (lines_of c.loop-line.rest.now) x.2 (ap lines_of c.in_default.ensures)
    (c.in-Some-finish.ensures x.0 x.1) c.in-Some-twice.is said are

pub returns-in-None : goal.returns-in-None
returns-in-None c = λ said are.
    let x = c.loop-line.invariant.so_far in
    ends_well (lines_of c.args.text.now) x.0 c.in-Some-finish.map c.loop-line.twice c.loop-line.number
    (lines_of c.loop-line.rest.now) x.2 (ap lines_of c.in_default.ensures) (c.in-Some-finish.ensures x.0 x.1)
    c.in-None.is said are
