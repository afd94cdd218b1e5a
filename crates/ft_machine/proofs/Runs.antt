-- Runs: what the test of a status means, and that a run keeps the object's cells.
use Rattle.std.proofs.Common.{◌≡◌, length, ℕ, zero, suc, List, Option, true, false, refl, ap, ◌∙◌}
use Rattle.std.specs.Prelude.{not}
use denote.Enum.Bare.{sameb}
use Rattle.ft_isa.specs.declared.plan.Wild.{Wild}
use Rattle.ft_isa.specs.declared.plan.Strike.{Strike}
use Rattle.ft_types.specs.declared.object.Object.{Object}
use Rattle.ft_semantics.specs.contracts.status.Status as the_status
use Rattle.ft_semantics.specs.declared.status.Status.{Status}
use Rattle.ft_semantics.specs.declared.status.Status.TheVariants as status
use Rattle.ft_semantics.specs.State.{is_cell, HasCells}
use Rattle.ft_semantics.specs.Strike.{struck_before}
use Rattle.ft_semantics.specs.Run.{run}
use Rattle.ft_semantics.proofs.Runs.{HasStopped}
use Rattle.ft_machine.proofs.Steps.{step_is_proper, strike_keeps}
use Rattle.ft_machine.proofs.Tabulated.{cells_there}

-- if the test says so, the machine has stopped
pub has_stopped : (s : Status) → not (sameb the_status.the_type s status.Running) ≡ true → HasStopped s
has_stopped status.Running h = cc
has_stopped status.Done h = tt
has_stopped status.Detected h = tt

-- otherwise it is running
pub still_running : (s : Status) → not (sameb the_status.the_type s status.Running) ≡ false → s ≡ status.Running
still_running status.Running h = refl
still_running status.Done h = cc
still_running status.Detected h = cc

-- each state of a run has the object's cells
pub run_has_cells : (o : Object) (strike : Option Strike) (w : List Wild) (n : ℕ) →
    HasCells (length o.cells) (run o strike w n).state
unfolding run
run_has_cells o strike w zero a = cells_there _ _ a
run_has_cells o strike w (suc n) a =
    (step_is_proper o (struck_before strike n (run o strike w n).state) (run o strike w n).wild).cells a
    ∙ ap (λ m. is_cell m a) (strike_keeps strike n (run o strike w n).state).cells
    ∙ run_has_cells o strike w n a
