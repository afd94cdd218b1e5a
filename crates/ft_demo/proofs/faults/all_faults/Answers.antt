use Rattle.std.proofs.Common.{◌++◌, ◌∷◌, [], ap, sym, ◌∙◌}
use Rattle.ft_demo.proofs.Tried.{no_faults, more_faults}
use Rattle.ft_demo.proofs.faults.all_faults.Goals as goal

pub loop-j-init : goal.loop-j-init
loop-j-init c = c.new-faults.ensures.items ∙ sym no_faults

pub loop-j-preserved : goal.loop-j-preserved
loop-j-preserved c = c.in_ok-push.ensures.items ∙ ap (λ xs. xs ++ c.fault.result ∷ []) c.loop-j.invariant
    ∙ sym (more_faults c.loop-j.j c.fault.result c.fault.ensures)
