use Rattle.std.proofs.Common.{◌≡◌, ◌≤◌, ◌++◌, drop}
use Rattle.ft_flow.specs.Faults.{fault_from, fault_of, spared_from, spared, HaveWords}
use Rattle.ft_flow.proofs.choosing.choose_spares.Given as goal

abbrev pub invariant-loop-step : goal.invariant-loop-step
invariant-loop-step l = record {
  fault : fault_from l.frame l.open l.set l.used l.at (drop l.step-index l.steps) ≡ fault_of l.fn.frame l.fn.steps;
  spares : l.out.items ++ spared_from l.frame.vars l.set (drop l.step-index l.steps)
      ≡ spared l.fn.frame.vars l.fn.steps;
  words : HaveWords (drop l.step-index l.steps) → HaveWords l.fn.steps;
  few : l.used ≤ 65536;
  here : l.at ≡ l.step-index;
  frame : l.frame ≡ l.fn.frame;
  steps : l.steps ≡ l.fn.steps;
}
