use Rattle.std.proofs.Common.{◌≡◌, ◌&&◌, not, true, false, refl, ap, sym, ◌∙◌, arith}
use Rattle.ft_semantics.specs.Strike.{is_running}
use Rattle.ft_debug.specs.Inside.{halting}
use Rattle.ft_debug.proofs.Advanced.{walked_none, walked_more, walk_halts, walk_ends, walk_breaks}
use Rattle.ft_debug.proofs.debugger.Debugger.walk.Goals as goal

pub loop-init : goal.loop-init
loop-init g c = record {
  ready = c.requires.ready;
  breaks = refl;
  position = omega arith;
  walked = walked_none (g.P.Program.object c.args.program.now) (halting c.args.halts c.args.self.now.breaks)
      c.args.count c.args.self.now (g.K.Sink.log c.args.out.now);
}

pub returns-then-not-goes_on-clause-does : goal.returns-then-not-goes_on-clause-does
returns-then-not-goes_on-clause-does g c =
    let m = c.loop.self.present.machine in
    let off : (not (halting c.args.halts c.args.self.now.breaks m) && is_running m.status)
    ≡ false = ap (λ b. not (halting c.args.halts b m) && is_running m.status) (sym c.loop.invariant.breaks)
    ∙ sym c.goes_on.ensures ∙ c.if-not-goes_on.true in
    walk_halts (g.P.Program.object c.args.program.now) (halting c.args.halts c.args.self.now.breaks) c.args.count
    c.loop.counter c.args.self.now c.loop.self _ _ off c.loop.invariant.walked

pub returns-in_err-advance-clause-does : goal.returns-in_err-advance-clause-does
returns-in_err-advance-clause-does g c =
    let o = g.P.Program.object c.args.program.now in
    let h = halting c.args.halts c.args.self.now.breaks in
    let m = c.loop.self.present.machine in
    let on : (not (h m) && is_running m.status) ≡ true = ap (λ b. not (halting c.args.halts b m)
    && is_running m.status) (sym c.loop.invariant.breaks) ∙ sym c.goes_on.ensures ∙ c.if-not-goes_on.false in
    walk_breaks o h c.args.count c.loop.counter c.args.self.now c.loop.self c.advance.new.self
    c.in_err-advance.field-0.0
    c.from_residual.result _ _ _ c.from_residual.ensures.0 c.loop-test.true on c.loop.invariant.walked
    c.in_err-advance.ensures.does

pub loop-preserved : goal.loop-preserved
loop-preserved g c =
    let o = g.P.Program.object c.args.program.now in
    let h = halting c.args.halts c.args.self.now.breaks in
    let m = c.loop.self.present.machine in
    let on : (not (h m) && is_running m.status) ≡ true = ap (λ b. not (halting c.args.halts b m)
    && is_running m.status) (sym c.loop.invariant.breaks) ∙ sym c.goes_on.ensures ∙ c.if-not-goes_on.false in
    record {
      ready = c.advance.ensures.ready;
      breaks = c.advance.ensures.breaks ∙ c.loop.invariant.breaks;
      position = (let before = c.loop.invariant.position in let more = c.advance.ensures.position in omega arith);
      walked = walked_more o h c.args.count c.loop.counter c.args.self.now c.loop.self c.advance.new.self _ _ _
          c.loop-test.true on c.loop.invariant.walked c.in_ok-advance.ensures.does;
    }

pub returns-clause-does : goal.returns-clause-does
returns-clause-does g c =
    walk_ends (g.P.Program.object c.args.program.now) (halting c.args.halts c.args.self.now.breaks) c.args.count
    c.loop.counter c.args.self.now c.loop.self _ _ c.loop-test.false c.loop.invariant.walked
