-- The verdict of a fault: the run with it compared with the run without it, each after n steps.
use Rattle.std.specs.Prelude.{◌≡◌, ℕ, ◌+◌, true, false, List, None, Some}
use Rattle.std.specs.List.{AllZip}
use Rattle.ft_isa.specs.declared.plan.Strike.{Strike}
use Rattle.ft_isa.specs.declared.plan.Wild.{Wild}
use Rattle.ft_types.specs.declared.object.Object.{Object}
use Rattle.ft_semantics.specs.declared.status.Status.TheVariants.{Running, Detected}
use Rattle.ft_semantics.specs.Agrees.{IsPrefix}
use Rattle.ft_semantics.specs.Run.{outputs_after, status_after, is_struck}
use Rattle.ft_campaign.specs.declared.verdict.Verdict.{Verdict}
use Rattle.ft_campaign.specs.declared.verdict.Verdict.TheVariants as verdicts

-- outputs and status are equal
abbrev pub IsSame : Object → Strike → List Wild → ℕ → Type 0
IsSame o x w n = (outputs_after o (Some x) w n ≡ outputs_after o None w n) × (status_after o (Some x) w n ≡ status_after o None w n)

-- the struck run is detected, and its outputs are a prefix of the other's
abbrev pub IsNoticed : Object → Strike → List Wild → ℕ → Type 0
IsNoticed o x w n = (status_after o (Some x) w n ≡ Detected) × IsPrefix (outputs_after o (Some x) w n) (outputs_after o None w n)

-- step k detects the struck run's fault: the run is running after k steps and detected after k + 1
abbrev pub IsDetectedAt : Object → Strike → List Wild → ℕ → Type 0
IsDetectedAt o x w k = (status_after o (Some x) w k ≡ Running) × (status_after o (Some x) w (k + 1) ≡ Detected)

-- the verdict is the first of the four that applies
abbrev pub IsVerdict : Object → Strike → List Wild → ℕ → Verdict → Type 0
IsVerdict o x w n verdicts.Idle = is_struck o (Some x) w n ≡ false
IsVerdict o x w n verdicts.Masked = (is_struck o (Some x) w n ≡ true) × IsSame o x w n
IsVerdict o x w n (verdicts.Detected at) = (is_struck o (Some x) w n ≡ true) × (¬ (IsSame o x w n)) × IsNoticed o x w n × IsDetectedAt o x w at
IsVerdict o x w n verdicts.Corrupt = (is_struck o (Some x) w n ≡ true) × (¬ (IsSame o x w n)) × (¬ (IsNoticed o x w n))

-- the verdicts of faults, in the order of the faults
abbrev pub AreVerdicts : Object → List Strike → List Wild → ℕ → List Verdict → Type 0
AreVerdicts o faults w n vs = AllZip (λ x v. IsVerdict o x w n v) faults vs
