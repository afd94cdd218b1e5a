use Rattle.std.proofs.Common.{◌≡◌, ◌+◌, ◌*◌, ◌≤◌, drop, take}
use Rattle.std.specs.Prelude.{IfSome}
use Rattle.ft_contexts.specs.Contexts.{HoldsShared}
use Rattle.ft_checker.specs.Judges.{IsStart}
use Rattle.ft_checker.specs.Costs.{instrs_cost, visit_cost}
use Rattle.ft_checker.proofs.Costs.{begins}
use Rattle.ft_typing.specs.Accepted.{block_refusal, first_refusal}
use Rattle.ft_checker.proofs.blocks.check_blocks.Given as goal

abbrev pub invariant-loop-b : goal.invariant-loop-b
invariant-loop-b g l = let o = g.P.Program.object l.program in
    record {
      shared : HoldsShared o l.forms l.shared;
      start : IfSome l.last (IsStart o l.forms);
      left : first_refusal (block_refusal o) l.b (drop l.b o.blocks) ≡ first_refusal (block_refusal o) 0 o.blocks;
      steps : (g.M.Meter.counted l.meter) ≤ (g.M.Meter.counted l.fn.meter) +
          (l.b * visit_cost o + instrs_cost o (take (begins o l.b) o.instrs));
    }
