use Rattle.std.proofs.Common.{◌<◌, ℕ, List, length}
use Rattle.ft_asm.specs.declared.asm_error.AsmError.TheVariants as errors
use Rattle.ft_asm.specs.Reads.{TooLong}
use Rattle.ft_tool.specs.Answers.{OverAssembly}
use Rattle.ft_tool.specs.Files.{IsTextRefused}
use Rattle.ft_tool.proofs.Answered.{Ends-map}
use Rattle.ft_tool.proofs.assemble.AssembleCommandFileCommand.refuse_long.Goals as goal

pub returns : goal.returns
returns g c =
    Ends-map c.refuse_text.result (IsTextRefused errors.TooLong)
    (λ a. (text : List ℕ) → 134217728 < length text → OverAssembly text a) _ _ ⊥ ⊥
    (λ a is text long. (TooLong, (long, is))) (λ n. n) c.refuse_text.ensures
