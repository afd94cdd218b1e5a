-- The answers of `asm`.
use Rattle.std.proofs.Common.{ℕ, List}
use Rattle.ft_types.specs.declared.object.Object as objects
use Rattle.ft_asm.specs.declared.asm_error.AsmError.{AsmError}
use Rattle.ft_asm.specs.declared.asm_error.AsmError.TheVariants as errors
use Rattle.ft_asm.specs.Reads.{Is, TooLong, Text, Order, Broken, Applies}
use Rattle.ft_asm.specs.Refusals.{IsRefusal}
use Rattle.ft_tool.specs.Replies.{Answer}
use Rattle.ft_tool.specs.Objects.{UpgradesObject}
use Rattle.ft_tool.specs.Answers.{OverAssembly}
use Rattle.ft_tool.specs.Files.{IsTextRefused}

-- the bytes of the object that a text describes are an answer for the text
pub object_assembled : (text : List ℕ) (o : objects.Object) → Applies text (Is o) → (a : Answer) → UpgradesObject o a →
    OverAssembly text a
object_assembled text o h a is = (Is o, (h, is))

-- the answer to a refused text is an answer for it
pub text_refused : (text : List ℕ) (e : AsmError) → IsRefusal text e → (a : Answer) → IsTextRefused e a →
    OverAssembly text a
text_refused text (errors.Text line) h a is = (Text line, (h, is))
text_refused text (errors.Order line) h a is = (Order line, (h, is))
text_refused text errors.TooLong h a is = (TooLong, (h, is))
text_refused text (errors.Object e) h a is = (Broken e, (h, is))
text_refused text errors.NoMemory h a is = absurd is
