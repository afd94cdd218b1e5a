-- Agreement of two runs: one that a fault may have struck, and the fault-free one.
use Rattle.std.specs.Prelude.{◌≡◌, List, ◌++◌}
use Rattle.ft_isa.specs.declared.output.Output.{Output}
use Rattle.ft_semantics.specs.declared.status.Status.{Status}
use Rattle.ft_semantics.specs.declared.status.Status.TheVariants.{Detected}

-- one list is a prefix of the other
abbrev pub IsPrefix : List Output → List Output → Type 0
IsPrefix front all = (rest : List Output) × (front ++ rest ≡ all)

-- outputs and status of a run agree with those of another: both are equal, or the run is detected and its outputs are a
-- prefix of the other's
pub data Agrees : List Output → Status → List Output → Status → Type 0 where
  equal : {outputs outputs' : List Output} {status status' : Status} → outputs ≡ outputs' → status ≡ status' → Agrees outputs status outputs' status'
  stopped : {outputs outputs' : List Output} {status status' : Status} → status ≡ Detected → IsPrefix outputs outputs' → Agrees outputs status outputs' status'
