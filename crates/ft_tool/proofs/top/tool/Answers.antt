use Rattle.std.proofs.Common.{refl}
use Rattle.ft_tool.specs.Known.{revealed, is_left}
use Rattle.ft_tool.proofs.Obeyed.{loads_or_nothing}
use Rattle.ft_tool.proofs.top.tool.Goals as goal

pub returns-in-Usage-clause-usage : goal.returns-in-Usage-clause-usage
returns-in-Usage-clause-usage g c = λ e request h. c.in-Usage.ensures.usage refl request h

pub returns-in-Done-clause-loads : goal.returns-in-Done-clause-loads
returns-in-Done-clause-loads g c = λ told may. loads_or_nothing (λ e. cc) (c.in-Done.ensures.loads told may)

pub returns-in-Detected-clause-loads : goal.returns-in-Detected-clause-loads
returns-in-Detected-clause-loads g c = λ told may. loads_or_nothing (λ e. cc) (c.in-Detected.ensures.loads told may)

pub returns-in-Usage-clause-loads : goal.returns-in-Usage-clause-loads
returns-in-Usage-clause-loads g c = λ told may. loads_or_nothing (λ e. cc) (c.in-Usage.ensures.loads told may)

pub returns-in-LoadFailed-clause-loads : goal.returns-in-LoadFailed-clause-loads
returns-in-LoadFailed-clause-loads g c = λ told may. loads_or_nothing (λ e. cc) (c.in-LoadFailed.ensures.loads told may)

pub returns-in-WriteFailed-clause-loads : goal.returns-in-WriteFailed-clause-loads
returns-in-WriteFailed-clause-loads g c = λ told may.
    loads_or_nothing (λ e. cc) (c.in-WriteFailed.ensures.loads told may)

pub returns-in-NoMemory-clause-loads : goal.returns-in-NoMemory-clause-loads
returns-in-NoMemory-clause-loads g c = λ told may. loads_or_nothing (λ e. refl) (c.in-NoMemory.ensures.loads told may)

pub returns-in-SourceRefused-clause-loads : goal.returns-in-SourceRefused-clause-loads
returns-in-SourceRefused-clause-loads g c = λ told may.
    loads_or_nothing (λ e. cc) (c.in-SourceRefused.ensures.loads told may)

pub returns-in-ObjectRefused-clause-loads : goal.returns-in-ObjectRefused-clause-loads
returns-in-ObjectRefused-clause-loads g c = λ told may.
    loads_or_nothing (λ e. cc) (c.in-ObjectRefused.ensures.loads told may)

pub returns-in-NotAccepted-clause-loads : goal.returns-in-NotAccepted-clause-loads
returns-in-NotAccepted-clause-loads g c = λ told may.
    loads_or_nothing (λ e. cc) (c.in-NotAccepted.ensures.loads told may)

pub returns-in-OutOfSteps-clause-loads : goal.returns-in-OutOfSteps-clause-loads
returns-in-OutOfSteps-clause-loads g c = λ told may. loads_or_nothing (λ e. cc) (c.in-OutOfSteps.ensures.loads told may)

pub returns-in-Corrupt-clause-loads : goal.returns-in-Corrupt-clause-loads
returns-in-Corrupt-clause-loads g c = λ told may. loads_or_nothing (λ e. cc) (c.in-Corrupt.ensures.loads told may)

pub returns-in-ListRefused-clause-loads : goal.returns-in-ListRefused-clause-loads
returns-in-ListRefused-clause-loads g c = λ told may.
    loads_or_nothing (λ e. cc) (c.in-ListRefused.ensures.loads told may)

pub returns-in-TextRefused-clause-loads : goal.returns-in-TextRefused-clause-loads
returns-in-TextRefused-clause-loads g c = λ told may.
    loads_or_nothing (λ e. cc) (c.in-TextRefused.ensures.loads told may)

pub returns-in-LinkRefused-clause-loads : goal.returns-in-LinkRefused-clause-loads
returns-in-LinkRefused-clause-loads g c = λ told may.
    loads_or_nothing (λ e. cc) (c.in-LinkRefused.ensures.loads told may)

pub returns-in-LoadFailed-clause-load_failure : goal.returns-in-LoadFailed-clause-load_failure
returns-in-LoadFailed-clause-load_failure g c = λ e told may.
    (c.in-LoadFailed.ensures.ends told may (g.I.Source.log c.args.script.now).left (is_left refl)).1

pub returns-in-LoadFailed-clause-load_failure_puts_nothing : goal.returns-in-LoadFailed-clause-load_failure_puts_nothing
returns-in-LoadFailed-clause-load_failure_puts_nothing g c = λ e.
    (c.in-LoadFailed.ensures.ends (g.F.Shelf.log c.args.shelf.now).files (revealed refl)
    (g.I.Source.log c.args.script.now).left (is_left refl)).0

pub returns-in-NoMemory-clause-no_memory_puts_nothing : goal.returns-in-NoMemory-clause-no_memory_puts_nothing
returns-in-NoMemory-clause-no_memory_puts_nothing g c = λ e.
    c.in-NoMemory.ensures.ends (g.F.Shelf.log c.args.shelf.now).files (revealed refl)
    (g.I.Source.log c.args.script.now).left (is_left refl)
