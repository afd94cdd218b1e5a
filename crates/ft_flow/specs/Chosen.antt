-- When `choose_spares` refuses steps.
use Rattle.std.specs.Prelude.{◌≡◌, List, Some}
use Rattle.ft_lower.specs.declared.step3.Step3.{Step3}
use Rattle.ft_flow.specs.declared.fault.Frame.{Frame}
use Rattle.ft_flow.specs.declared.fault.SparesError.{SparesError}
use Rattle.ft_flow.specs.declared.fault.SparesError.TheVariants.{Broken, NoMemory}
use Rattle.ft_flow.specs.Faults.{fault_of}

-- the fault is the steps' first; `NoMemory` says nothing about the steps
abbrev pub IsRefusal : Frame → List Step3 → SparesError → Type 0
IsRefusal f is (Broken fault) = fault_of f is ≡ Some fault
IsRefusal f is NoMemory = Unit {0}
