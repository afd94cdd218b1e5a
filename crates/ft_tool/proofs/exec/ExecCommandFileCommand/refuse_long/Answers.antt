use Rattle.std.proofs.Common.{◌<◌, ℕ, List, length}
use Rattle.ft_syntax.specs.declared.source_error.SourceError.TheVariants.{TooLong}
use Rattle.ft_tool.specs.Sources.{OverText, ExecutesProgram, IsSourceRefused}
use Rattle.ft_tool.proofs.Answered.{Ends-map}
use Rattle.ft_tool.proofs.Compiled.{long_source}
use Rattle.ft_tool.proofs.exec.ExecCommandFileCommand.refuse_long.Goals as goal

pub returns : goal.returns
returns g c =
    Ends-map c.refuse_source.result (IsSourceRefused TooLong)
    (λ a. (text : List ℕ) → 1048576 < length text → OverText (ExecutesProgram c.args.self.now.asked.steps) text a) _
    _ ⊥ ⊥ (λ a is text long. long_source (ExecutesProgram c.args.self.now.asked.steps) text long a is) (λ n. n)
    c.refuse_source.ensures
