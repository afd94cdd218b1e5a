use Rattle.std.proofs.Common.{ℕ, arith, ap, ◌∙◌, length, max, Vec, Global}
use Rattle.ft_meaning.proofs.Sinks.{room_step}
use Rattle.ft_meaning.proofs.output_line.longest.Goals as goal

pub loop-name-preserved : goal.loop-name-preserved
loop-name-preserved c =
    let l = c.loop-name in
    let name = c.name-item.result in
    room_step c.args.names.now l.name-index l.most c.max-most.result name (omega arith) l.invariant
    (c.max-most.ensures ∙ ap (λ n. max n l.most) (c.len.ensures ∙ name.ok.0
    ∙ ap (λ (n : Vec ℕ Global). length n.items) c.name-item.is))
