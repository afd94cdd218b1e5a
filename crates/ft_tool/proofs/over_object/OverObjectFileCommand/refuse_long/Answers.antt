use Rattle.std.proofs.Common.{◌≡◌, ◌<◌, ℕ, List, length, inr}
use Rattle.ft_format.specs.declared.object_error.ObjectError.TheVariants.{Length}
use Rattle.ft_tool.specs.Objects.{refused, OverBytes}
use Rattle.ft_tool.proofs.Answered.{Ends-map, too_long}
use Rattle.ft_tool.proofs.over_object.OverObjectFileCommand.refuse_long.Goals as goal

pub returns : goal.returns
returns g c =
    Ends-map c.refuse_bytes.result (λ a. a ≡ refused (Length 67108864)) (λ a. (bytes : List ℕ) →
    67108864 < length bytes → OverBytes (g.C.ObjectCommand.answer c.args.self.now.command) bytes a) _ _ ⊥ ⊥
    (λ a is bytes long. inr (Length 67108864, (too_long bytes long, is))) (λ n. n) c.refuse_bytes.ensures
