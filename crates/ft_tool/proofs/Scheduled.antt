-- The answers of `schedule`.
use Rattle.std.proofs.Common.{◌≡◌, Option, Some, None, sym, subst}
use Rattle.ft_types.specs.declared.object.Object.{Object}
use Rattle.ft_typing.specs.Accepted.{Refusal, refusal}
use Rattle.ft_checker.specs.Judges.{IsRefusalOf}
use Rattle.ft_checker.specs.declared.error.CheckError.{CheckError}
use Rattle.ft_checker.specs.declared.error.CheckError.TheVariants as checks
use Rattle.ft_typing.specs.Accepted as refusals
use Rattle.ft_tool.specs.Replies.{Answer}
use Rattle.ft_tool.specs.Objects.{judged}
use Rattle.ft_tool.specs.Answers.{SchedulesAccepted, SchedulesUnless}
use Rattle.ft_tool.specs.Files.{IsNotAccepted}

-- if the object is accepted, its schedule is the answer
pub schedule_accepted : (x : Option Refusal) (o : Object) → x ≡ None → (a : Answer) → SchedulesAccepted o a →
    SchedulesUnless x o a
schedule_accepted None o e a h = h
schedule_accepted (Some r) o e a h = cc

-- if the object is not accepted, its refusal is the answer
refused_so : (x : Option Refusal) (o : Object) (r : Refusal) → x ≡ Some r → (a : Answer) → a ≡ judged (Some r) →
    SchedulesUnless x o a
refused_so x o r e a h = subst (λ y. SchedulesUnless y o a) (sym e) h

pub schedule_refused : (x : Option Refusal) (o : Object) (e : CheckError) → IsRefusalOf x e → (a : Answer) →
    IsNotAccepted e a → SchedulesUnless x o a
schedule_refused x o checks.EntryType e a h = refused_so x o refusals.EntryType e a h
schedule_refused x o (checks.CellType k) e a h = refused_so x o (refusals.CellType k) e a h
schedule_refused x o (checks.Refused b i why) e a h = refused_so x o (refusals.Refused b i why) e a h
schedule_refused x o checks.NoMemory e a h = absurd h
