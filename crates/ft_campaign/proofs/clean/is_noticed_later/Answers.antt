use Rattle.std.proofs.Common.{◌≡◌, ℕ, ◌-◌, List, length, take, drop, subst, Decides, arith}
use Rattle.std.proofs.lemmas.List.{take_all, length-drop}
use Rattle.ft_isa.specs.declared.output.Output.{Output}
use Rattle.ft_semantics.specs.Agrees.{IsPrefix}
use Rattle.ft_campaign.proofs.Equal.{prefix_decides}
use Rattle.ft_campaign.proofs.clean.is_noticed_later.Goals as goal

all_after : (k : ℕ) (xs : List Output) → take (length xs - k) (drop k xs) ≡ drop k xs
all_after k xs = take_all (length xs - k) (drop k xs) (let h = length-drop k xs in omega (arith, h))

pub returns : goal.returns
returns c =
    let xs = c.args.outputs.now in
    let a = all_after c.args.at xs in
    let b = all_after c.args.from xs in
    let h = prefix_decides (take (length xs - c.args.at) (drop c.args.at xs))
    (take (length xs - c.args.from) (drop c.args.from xs)) c.starts_with.result c.starts_with.ensures.value in
    subst (λ (front : List Output). Decides c.starts_with.result (IsPrefix front (drop c.args.at xs))) b
    (subst (λ (all : List Output). Decides c.starts_with.result
    (IsPrefix (take (length xs - c.args.from) (drop c.args.from xs)) all)) a h)
