-- Runs whose first outputs may be left out: private to the crate.
use Rattle.std.specs.Prelude.{◌≡◌, ℕ, zero, suc, ◌+◌, ◌-◌, ◌^◌, ◌<◌, Bool, true, List, [], length, drop, Option}
use Rattle.std.proofs.Common.{sym, add-zero}
use Rattle.std.proofs.Math.Nat.{sub-zero}
use Rattle.ft_edge.specs.Logs.{SinkLog}
use Rattle.ft_edge.specs.Lines.{Puts, with_lines}
use Rattle.ft_edge.proofs.Lines.{lines_none}
use Rattle.ft_isa.specs.declared.output.Output.{Output}
use Rattle.ft_isa.specs.declared.plan.Strike.{Strike}
use Rattle.ft_isa.specs.declared.plan.Wild.{Wild}
use Rattle.ft_types.specs.declared.object.Object.{Object}
use Rattle.ft_semantics.specs.declared.status.Status.{Status}
use Rattle.ft_semantics.specs.declared.status.Status.TheVariants as status
use Rattle.ft_semantics.specs.State.{State}
use Rattle.ft_semantics.specs.Run.{outputs_after, state_after}
use Rattle.ft_machine.specs.Drives.{output_lines, end_of_going}
use Rattle.ft_recover.specs.declared.recover_end.RecoverEnd.{RecoverEnd}
use Rattle.ft_recover.specs.declared.recover_end.RecoverEnd.TheVariants as ending

-- these outputs were counted in addition to `count`, and the sum is `now` if it fits in a word; unless a put failed, a
-- line was written for each after the first `passed`; `left` more outputs are to be left out
pub record Passes (o : Object) (passed count : ℕ) (outputs : List Output) (goes : Bool) (left now : ℕ) (old new : SinkLog) : Type 0 where
  pub left_is : left ≡ passed - length outputs
  pub count_is : count + length outputs < 2 ^ 64 → now ≡ count + length outputs
  pub lines : Puts (end_of_going goes) (output_lines o (drop passed outputs)) old new

no_lines : (o : Object) (passed : ℕ) (log : SinkLog) → log ≡ with_lines (output_lines o (drop passed [])) log
no_lines o zero log = lines_none log
no_lines o (suc passed) log = lines_none log

-- no output
pub passes_none : (o : Object) (passed count : ℕ) (log : SinkLog) → Passes o passed count [] true passed count log log
passes_none o passed count log = record { left_is = sym (sub-zero passed); count_is = λ few. sym (add-zero count); lines = no_lines o passed log }

-- n steps of a run under a plan were taken, with this many outputs
pub record RunsTo (o : Object) (strike : Option Strike) (w : List Wild) (n : ℕ) (s' : State) (count : ℕ) : Type 0 where
  pub state_is : s' ≡ state_after o strike w n
  pub count_is : count ≡ length (outputs_after o strike w n)

-- a recovery finished: the run without a fault has this status, and this is the number of outputs left out, if there
-- was a second run
abbrev pub Finishes : RecoverEnd → Status → Option ℕ → Type 0
Finishes (ending.Done again) s restart = (s ≡ status.Done) × (again ≡ restart)
Finishes (ending.OutOfSteps again) s restart = (s ≡ status.Running) × (again ≡ restart)
Finishes ending.WriteFault s restart = ⊥
Finishes ending.NoMemory s restart = ⊥
