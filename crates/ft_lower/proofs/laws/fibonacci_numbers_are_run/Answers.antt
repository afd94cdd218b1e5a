use Rattle.std.proofs.Common.{refl, arith}
use Rattle.ft_isa.specs.Words.{apply}
use Rattle.ft_scope.specs.Size.{StatementsFit}
use Rattle.ft_meaning.specs.Fibonacci.{fibonacci}
use Rattle.ft_lower.proofs.Whole.{IsResolved}
use Rattle.ft_lower.proofs.Pairs.{lowered_below}
use Rattle.ft_lower.proofs.WellFormed.{lowered_is_well}
use Rattle.ft_lower.proofs.laws.fibonacci_numbers_are_run.Goals as goal

-- each name exists
names : StatementsFit 1 4 fibonacci.body
names = (
  omega arith,
  omega arith,
  (
    (omega arith, omega arith),
    (
      omega arith,
      omega arith,
      (
        omega arith,
        (omega arith, omega arith),
        (omega arith, omega arith, (omega arith, omega arith, (omega arith, (omega arith, omega arith), tt))),
      ),
    ),
    tt,
  ),
)

resolved : IsResolved fibonacci
resolved = record { names = names; need = omega arith; weight = omega arith }

pub returns-clause-well : goal.returns-clause-well
returns-clause-well c = lowered_is_well fibonacci resolved

pub returns-clause-pairs : goal.returns-clause-pairs
returns-clause-pairs c = lowered_below fibonacci names 7 (omega arith)

pub returns-clause-size : goal.returns-clause-size
returns-clause-size c = refl

pub returns-clause-done : goal.returns-clause-done
unfolding apply
returns-clause-done c = refl

pub returns-clause-out : goal.returns-clause-out
unfolding apply
returns-clause-out c = refl
