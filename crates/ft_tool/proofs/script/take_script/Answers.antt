use Rattle.std.proofs.Common.{rules, ◌≡◌, ℕ, ◌+◌, ◌≤◌, ◌++◌, length, take, drop, ap, sym, subst, ◌∙◌, arith}
use Rattle.std.proofs.Common.{length-append, length-take}
use Rattle.std.specs.Io.KnownBytes.{Consumes}
use Rattle.ft_edge.specs.declared.failed.Failed.{Failed}
use Rattle.std.proofs.KnownBytes.{Consumes-trans}
use Rattle.std.proofs.lemmas.List.{take-append-le}
use Rattle.ft_tool.proofs.Frugal.{takes_last, takes_failed, gave_more}
use Rattle.ft_tool.proofs.Begun.{more_read, whole_begun, longer_begun}
use Rattle.ft_tool.proofs.Taken.{whole_script, longer_script}
use Rattle.ft_tool.proofs.script.take_script.Goals as goal

pub returns-in-Err-clause-taken : goal.returns-in-Err-clause-taken
returns-in-Err-clause-taken g c =
    takes_failed 1048577 (g.I.Source.log c.args.script.now) (g.I.Source.log c.loop-piece.script)
    (g.I.Source.log c.take.new.self)
    c.loop-piece.text.items c.loop-piece.invariant.gave c.loop-piece.invariant.taken c.in-Err.ensures.takes
    c.in-Err.ensures.bytes (omega (arith, c.loop-piece-test.true))

pub returns-then-is_err-clause-taken : goal.returns-then-is_err-clause-taken
returns-then-is_err-clause-taken g c =
    takes_last 1048577 (g.I.Source.log c.args.script.now) (g.I.Source.log c.loop-piece.script)
    (g.I.Source.log c.take.new.self)
    c.loop-piece.text.items (take c.in-Ok.count c.take.new.buf) c.in-Ok.count c.loop-piece.invariant.gave
    c.loop-piece.invariant.taken c.in-Ok.ensures.takes c.in-Ok.ensures.bytes.0
    (omega (arith, length-take {A = ℕ}, c.in-Ok.ensures.bound.0, c.in-Ok.ensures.bound.1))
    (omega (arith, length-take {A = ℕ}, c.in-Ok.ensures.bound.0, c.in-Ok.ensures.bound.1))

pub returns-then-count-eq0-clause-taken : goal.returns-then-count-eq0-clause-taken
returns-then-count-eq0-clause-taken g c =
    takes_last 1048577 (g.I.Source.log c.args.script.now) (g.I.Source.log c.loop-piece.script)
    (g.I.Source.log c.take.new.self)
    c.loop-piece.text.items (take c.in-Ok.count c.take.new.buf) c.in-Ok.count c.loop-piece.invariant.gave
    c.loop-piece.invariant.taken c.in-Ok.ensures.takes c.in-Ok.ensures.bytes.0
    (omega (arith, length-take {A = ℕ}, c.in-Ok.ensures.bound.0, c.in-Ok.ensures.bound.1))
    (omega (arith, length-take {A = ℕ}, c.in-Ok.ensures.bound.0, c.in-Ok.ensures.bound.1))

pub loop-piece-preserved : goal.loop-piece-preserved
loop-piece-preserved g c =
    let more = take c.in-Ok.count c.take.new.buf in
    let rest = drop (c.min-room.result + 1) c.loop-piece.piece in
    let fits : c.in-Ok.count ≤ length c.take.new.buf = c.in-Ok.ensures.bound.0 in
    let whole : c.extend_from_slice.new.self.items ≡ c.loop-piece.text.items
    ++ take c.in-Ok.count (c.take.new.buf ++ rest) = search rules in
    let added : c.extend_from_slice.new.self.items ≡ c.loop-piece.text.items ++ more = whole
    ∙ ap (λ bytes. c.loop-piece.text.items ++ bytes) (take-append-le c.in-Ok.count c.take.new.buf rest fits) in
    let longer : length c.extend_from_slice.new.self.items ≡ length c.loop-piece.text.items + c.in-Ok.count =
    omega (
      arith,
      ap length added,
      length-append c.loop-piece.text.items more,
      length-take {A = ℕ},
      c.in-Ok.ensures.bound.0,
      c.in-Ok.ensures.bound.1,
    ) in
    record {
      taken = subst (Consumes _ _) (sym added) (Consumes-trans _ _ _ _ _ c.loop-piece.invariant.taken
          c.in-Ok.ensures.bytes.0);
      within = omega (arith, longer, length-take {A = ℕ}, c.in-Ok.ensures.bound.0, c.in-Ok.ensures.bound.1);
      gave = gave_more (g.I.Source.log c.args.script.now).takes (g.I.Source.log c.loop-piece.script).takes
          (g.I.Source.log c.take.new.self).takes (length c.loop-piece.text.items)
          (length c.extend_from_slice.new.self.items) c.in-Ok.count
          c.loop-piece.invariant.gave c.in-Ok.ensures.takes (omega (arith, c.if-count-eq0.false)) longer;
      read = more_read (g.I.Source.heard c.args.script.now) (g.I.Source.heard c.loop-piece.script)
          (g.I.Source.heard c.take.new.self) c.loop-piece.text.items more c.extend_from_slice.new.self.items
          c.loop-piece.invariant.read c.in-Ok.ensures.heard added;
      count = c.in-Ok.ensures.same_count ∙ c.loop-piece.invariant.count;
    }

pub returns-then-count-eq0-clause-takes : goal.returns-then-count-eq0-clause-takes
returns-then-count-eq0-clause-takes g c = λ left may. (
  omega (arith, c.loop-piece-test.true),
  whole_begun Failed (g.I.Source.may_be_left c.loop-piece.script) (g.I.Source.heard c.args.script.now)
      (g.I.Source.heard c.loop-piece.script)
      (g.I.Source.heard c.take.new.self) c.loop-piece.text.items c.in-Ok.count c.take.new.buf
      c.loop-piece.invariant.read
      c.in-Ok.ensures.heard c.if-count-eq0.true (search rules) c.in-Ok.ensures.may_be_left
      (whole_script (g.I.Source.log c.args.script.now).left (g.I.Source.log c.loop-piece.script).left
      (g.I.Source.log c.take.new.self).left c.loop-piece.text.items c.in-Ok.count c.take.new.buf
      c.loop-piece.invariant.taken c.if-count-eq0.true c.in-Ok.ensures.bytes.0
      (c.in-Ok.ensures.bytes.1 c.if-count-eq0.true (search rules))) may,
)

pub returns-clause-takes : goal.returns-clause-takes
returns-clause-takes g c = λ left may.
    longer_begun c.loop-piece.text.items c.loop-piece.invariant.read (omega (arith, c.loop-piece-test.false))
    (longer_script (g.I.Source.log c.args.script.now).left
    (g.I.Source.log c.loop-piece.script).left c.loop-piece.text.items c.loop-piece.invariant.taken
    (omega (arith, c.loop-piece-test.false))) may
