use Rattle.ft_tool.specs.Files.{IsUnlinkedBy}
use Rattle.ft_tool.specs.Links.{LinksAdded}
use Rattle.ft_tool.specs.Objects.{UpgradesObject}
use Rattle.ft_tool.proofs.Answered.{Ends-map}
use Rattle.ft_tool.proofs.Linking.{links_object, links_refused}
use Rattle.ft_tool.proofs.link.put_linked.Goals as goal

pub put_object-requires : goal.put_object-requires
put_object-requires g c = c.in-Ok.ensures.linked.spellable

pub returns-in-Ok : goal.returns-in-Ok
returns-in-Ok g c =
    Ends-map c.put_object.result (UpgradesObject c.in-Ok.object) (LinksAdded c.args.linkage.now c.args.linker) _ _ ⊥ ⊥
    (λ a is. links_object c.args.linkage.now c.args.linker c.in-Ok.object c.in-Ok.ensures.linked
    c.in-Ok.ensures.unrefused a is) (λ x. x) c.put_object.ensures

pub returns-in-Err : goal.returns-in-Err
returns-in-Err g c =
    Ends-map c.refuse_modules.result (IsUnlinkedBy c.in-Err.error) (LinksAdded c.args.linkage.now c.args.linker) _ _ ⊥ ⊥
    (λ a is. links_refused c.args.linkage.now c.args.linker c.in-Err.error c.in-Err.ensures.refused a is) (λ x. x)
    c.refuse_modules.ensures
