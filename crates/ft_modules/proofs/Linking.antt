-- The laws of linked objects, proved.
use Rattle.std.proofs.Common.{ℕ, List, [], ◌∷◌, Option, None, refl, sym, ap, ◌∙◌, subst}
use Rattle.ft_isa.specs.declared.output.Output.{Output}
use Rattle.ft_isa.specs.declared.plan.Strike.{Strike}
use Rattle.ft_isa.specs.declared.plan.Wild.{Wild}
use Rattle.ft_semantics.specs.State.{State}
use Rattle.ft_semantics.specs.declared.status.Status.{Status}
use Rattle.ft_semantics.specs.Agrees.{Agrees}
use Rattle.ft_semantics.specs.Run.{outputs_after, status_after}
use Rattle.ft_tolerance.proofs.AnyAnswers.{any_answers}
use Rattle.ft_tolerance.proofs.Masking.{tolerant}
use Rattle.ft_modules.specs.ModulesRun.{modules_outputs, modules_status}
use Rattle.ft_types.specs.declared.object.Object.{Object}
use Rattle.ft_link_map.specs.declared.link_map.LinkMap.{LinkMap}
use Rattle.ft_modules.specs.Linkable.{AreLinkable}
use Rattle.ft_modules.specs.Linked.{linked}
use Rattle.ft_modules.specs.Links.{links}
use Rattle.ft_modules.proofs.AcceptedLinked.{accepted_linked, linked_world, first_found, first_sent}
use Rattle.ft_modules.proofs.Runs.{SameRuns, same_runs, begin_together}
use Rattle.ft_modules.proofs.SpelledWhole.{spelled_linked}

-- the linked object's run is the modules' run
pub linked_runs : (linkage : LinkMap) (first : Object) (others : List Object) → AreLinkable linkage first others →
    (n : ℕ) → SameRuns linkage first others (linked linkage first others) n
linked_runs linkage first others h n =
    let x = linked linkage first others in
    let spelled = spelled_linked linkage first others h in
    let accepted = accepted_linked linkage first others h in
    let w = linked_world linkage first others h in
    same_runs linkage first others x w spelled accepted
    (begin_together (first ∷ others) (links linkage) x spelled accepted w first refl
    (first_found linkage first others h) (first_sent linkage first others h)) n

-- one fault in the linked object's run is masked or detected, whatever the answers to wild loads
pub linked_tolerant : (linkage : LinkMap) (first : Object) (others : List Object) (strike : Option Strike)
    (w : List Wild) (n : ℕ) → AreLinkable linkage first others →
    Agrees (outputs_after (linked linkage first others) strike w n)
    (status_after (linked linkage first others) strike w n) (modules_outputs linkage first others n)
    (modules_status linkage first others n)
linked_tolerant linkage first others strike w n h =
    let x = linked linkage first others in
    let spelled = spelled_linked linkage first others h in
    let accepted = accepted_linked linkage first others h in
    let r = linked_runs linkage first others h n in
    let same = any_answers x w [] n spelled accepted in
    subst (λ (o : List Output). Agrees (outputs_after x strike w n) (status_after x strike w n) o
    (modules_status linkage first others n)) (same.outputs ∙ sym r.outputs)
    (subst (λ (z : Status). Agrees (outputs_after x strike w n) (status_after x strike w n) (outputs_after x None w n)
    z) (ap (λ (s : State). s.status) same.state ∙ sym r.status)
    (tolerant x strike w n spelled accepted))
