use Rattle.std.proofs.Common.{subst, sym, ◌∙◌}
use Rattle.ft_isa.specs.declared.plan.Wild.{Wild as Answer}
use Rattle.std.proofs.Common.{List}
use Rattle.ft_runs.specs.Runs.{CleanRun, IsStruckRun}
use Rattle.ft_runs.proofs.StruckSteps.{struck_begins}
use Rattle.ft_runs.proofs.clean.Clean.strike.Goals as goal

pub invariant_of-result : goal.invariant_of-result
invariant_of-result g c =
    let r : CleanRun = record { object = g.P.Program.object c.self.inside.program.now; taken = c.self.inside.taken } in
    subst (λ (l : List Answer). IsStruckRun (record {
      object = r.object;
      strike = record { step = r.taken; site = c.args.site; value = c.args.value };
      wild = c.args.wild.now;
      taken = r.taken;
    }) c.strike.new.self l) (sym c.new.ensures)
    (struck_begins r c.self.inside.machine c.strike.new.self c.args.site c.args.value c.args.wild.now c.self.invariant
    (sym c.strike.ensures.there ∙ c.if-strike.true) c.strike.ensures.struck)
