-- Steps of a run, compared with the outputs of another: private to the crate.
use Rattle.std.specs.Prelude.{◌≡◌, ℕ, ◌≤◌, ◌<◌, Bool, true, false, List, [], ◌++◌, length, take}
use Rattle.std.proofs.Common.{sym}
use Rattle.std.proofs.lemmas.List.{append-nil}
use Rattle.ft_isa.specs.declared.output.Output.{Output}
use Rattle.ft_isa.specs.declared.plan.Wild.{Wild}
use Rattle.ft_types.specs.declared.object.Object.{Object}
use Rattle.ft_semantics.specs.declared.status.Status.TheVariants.{Running}
use Rattle.ft_semantics.specs.State.{State}
use Rattle.ft_semantics.specs.Agrees.{IsPrefix}
use Rattle.ft_machine.specs.Spans.{span}
use Rattle.ft_machine.specs.declared.stepped.Pause.{Pause}
use Rattle.ft_machine.specs.declared.stepped.Pause.TheVariants as pause
use Rattle.ft_campaign.specs.declared.follow.How.{How}
use Rattle.ft_campaign.specs.declared.follow.How.TheVariants.{On, Stopped, Apart}
use Rattle.ft_campaign.specs.declared.follow.Followed.{Followed}

-- these outputs are those of the whole after the first `old`, up to the first `new`
pub record Continues (whole : List Output) (old new : ℕ) (more : List Output) : Type 0 where
  pub front : take new whole ≡ take old whole ++ more
  pub few : new ≤ length whole

-- whether these outputs follow the first `old` of the whole
abbrev pub Heeds : Bool → List Output → ℕ → ℕ → List Output → Type 0
Heeds true whole old new more = Continues whole old new more
Heeds false whole old new more = ¬ (IsPrefix (take old whole ++ more) whole)

-- how some steps went
abbrev pub WentSo : How → Object → State → List Wild → List Output → ℕ → ℕ → ℕ → ℕ → Type 0
WentSo On o s w whole old new number done = (done ≡ number) × Continues whole old new (span o done s w).outputs × ((span o done s w).state.status ≡ Running)
WentSo Stopped o s w whole old new number done = (0 < done) × Continues whole old new (span o done s w).outputs × (¬ ((span o done s w).state.status ≡ Running))
WentSo Apart o s w whole old new number done = (0 < done) × (¬ (IsPrefix (take old whole ++ (span o done s w).outputs) whole))

-- some steps were taken and compared with the outputs of another run, the first `old` of which had already been passed
pub record Follows (o : Object) (s : State) (w : List Wild) (s' : State) (w' : List Wild) (whole : List Output) (old new number : ℕ) (t : Followed) : Type 0 where
  pub few : t.done ≤ number
  pub state_is : s' ≡ (span o t.done s w).state
  pub wild_is : w' ≡ (span o t.done s w).wild
  pub running : (j : ℕ) → j < t.done → (span o j s w).state.status ≡ Running
  pub went : WentSo t.how o s w whole old new number t.done

-- how steps went, given how they ended
abbrev pub how_of : Pause → How
how_of pause.Running = On
how_of pause.Done = Stopped
how_of pause.Detected = Stopped
how_of pause.Refused = Apart

-- no outputs
pub heeds_none : (whole : List Output) (at : ℕ) → at ≤ length whole → Heeds true whole at at []
heeds_none whole at within = record { front = sym (append-nil (take at whole)); few = within }
