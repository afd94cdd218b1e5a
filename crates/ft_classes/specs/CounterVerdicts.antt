-- Strikes of the program counters. Each step but that of `halt` reads or overwrites both counters, so each of their words
-- is a class of its own; but the next fetch compares them, so the verdicts of such faults follow from the run without a
-- fault.
use Rattle.std.specs.Prelude.{ℕ, suc, ◌&&◌, nat_lt, List, Option, Some, None, if◌then◌else◌}
use Rattle.ft_isa.specs.declared.instr.Instr.{Instr}
use Rattle.ft_isa.specs.declared.plan.Wild.{Wild}
use Rattle.ft_types.specs.declared.object.Object.{Object}
use Rattle.ft_semantics.specs.State.{State}
use Rattle.ft_semantics.specs.Run.{state_after}
use Rattle.ft_campaign.specs.declared.verdict.Verdict.{Verdict}
use Rattle.ft_campaign.specs.declared.verdict.Verdict.TheVariants.{Masked, Detected}
use Rattle.ft_access.specs.Lasting.{fetched_at}
use Rattle.ft_access.specs.Counters.{adds_one}

-- the verdict of a strike of a counter with another word before step k, by what is fetched: the next fetch detects it,
-- if the word is not lost by then
abbrev pub verdict_by : Option Instr → State → ℕ → ℕ → Verdict
verdict_by None s n k = Detected k
verdict_by (Some i) s n k = if adds_one i s && nat_lt (suc k) n then Detected (suc k) else Masked

-- the verdict of a strike of a counter with another word before step k of runs of n steps
abbrev pub counter_verdict : Object → List Wild → ℕ → ℕ → Verdict
counter_verdict o w n k = verdict_by (fetched_at o w k) (state_after o None w k) n k
