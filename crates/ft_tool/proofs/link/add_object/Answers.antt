use Rattle.std.proofs.Common.{◌≡◌, [], ◌∷◌, ◌++◌, None, subst}
use Rattle.ft_linker.specs.LinkErrors.{IsRefusalOf}
use Rattle.ft_linker.specs.Linking.{added_refusal}
use Rattle.ft_tool.specs.Files.{IsNotAccepted, IsUnlinkedBy}
use Rattle.ft_tool.specs.Links.{EndsAtObject}
use Rattle.ft_tool.proofs.Answered.{Ends-map}
use Rattle.ft_tool.proofs.Linking.{adds_object, ends_unadded, ends_unaccepted}
use Rattle.ft_tool.proofs.link.add_object.Goals as goal

pub returns-in-Ok-add-clause-ok : goal.returns-in-Ok-add-clause-ok
returns-in-Ok-add-clause-ok g c =
    let modules = c.args.linker.now in
    adds_object modules c.add.new.self (g.P.Program.object c.args.program.now) c.in-Ok.ensures.judged
    (subst (λ p. added_refusal modules (g.P.Program.object p) ≡ None) c.in-Ok.ensures.program
    c.in-Ok-add.ensures.unrefused)
    (subst (λ p. c.add.new.self ≡ modules ++ g.P.Program.object p ∷ []) c.in-Ok.ensures.program c.in-Ok-add.ensures.ok)

pub returns-in-Err-add-clause-ends : goal.returns-in-Err-add-clause-ends
returns-in-Err-add-clause-ends g c =
    let modules = c.args.linker.now in
    let o = g.P.Program.object c.args.program.now in
    Ends-map c.refuse_modules.result (IsUnlinkedBy c.in-Err-add.error) (EndsAtObject modules o) _ _ ⊥ ⊥
    (λ a is. ends_unadded modules o c.in-Err-add.error c.in-Ok.ensures.judged
    (subst (λ p. IsRefusalOf (added_refusal modules (g.P.Program.object p)) c.in-Err-add.error)
    c.in-Ok.ensures.program c.in-Err-add.ensures.refused) a is)
    (λ x. x) c.refuse_modules.ensures

pub returns-in-Err-clause-ends : goal.returns-in-Err-clause-ends
returns-in-Err-clause-ends g c =
    let modules = c.args.linker.now in
    let o = g.P.Program.object c.args.program.now in
    Ends-map c.refuse_check.result (IsNotAccepted c.in-Err.error) (EndsAtObject modules o) _ _ ⊥ ⊥
    (λ a is. ends_unaccepted modules o c.in-Err.error c.in-Err.ensures.judged a is) (λ x. x) c.refuse_check.ensures
