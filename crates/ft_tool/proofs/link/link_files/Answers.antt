use Rattle.ft_tool.specs.Endings.{ends_early}
use Rattle.ft_tool.proofs.ModulesInTurn.{makes_none, makes_all}
use Rattle.std.proofs.Common.{arith, [], refl, subst}
use Rattle.ft_tool.specs.Endings.{Ends}
use Rattle.ft_tool.specs.Links.{LinksAdded, LinksFiles}
use Rattle.ft_tool.specs.LinkTurns.{FailsInTurn}
use Rattle.ft_tool.specs.Known.{revealing, revealed}
use Rattle.ft_tool.proofs.Answered.{Ends-map}
use Rattle.ft_tool.proofs.link.link_files.Goals as goal

pub returns-in_default-clause-made : goal.returns-in_default-clause-made
returns-in_default-clause-made g c = λ told may. makes_none told c.args.linkage.now
    (g.F.Shelf.log c.args.shelf.now).asked

pub returns-in-Ok-add_files-clause-made : goal.returns-in-Ok-add_files-clause-made
returns-in-Ok-add_files-clause-made g c = λ told may.
    makes_all told c.args.linkage.now c.add_files.new.linker
    (g.F.Shelf.log c.args.shelf.now).asked (g.F.Shelf.log c.add_files.new.shelf).asked
    (ends_early c.put_linked.result) (c.in-Ok-add_files.ensures.ok told may)

pub put_linked-requires-clause-modules : goal.put_linked-requires-clause-modules
put_linked-requires-clause-modules g c =
    let h = c.in-Ok-add_files.ensures.ok (g.F.Shelf.log c.args.shelf.now).files (revealed refl) in
    omega (arith, h.count)

pub returns-in-Ok-add_files-clause-ends : goal.returns-in-Ok-add_files-clause-ends
returns-in-Ok-add_files-clause-ends g c = λ told may.
    let h = c.in-Ok-add_files.ensures.ok told may in
    Ends-map c.put_linked.result (LinksAdded c.args.linkage.now c.add_files.new.linker)
    (LinksFiles told c.args.linkage.now [] c.args.linkage.now.files) _ _ ⊥
    (FailsInTurn c.args.linkage.now (revealing told (g.F.Shelf.log c.args.shelf.now))
    (revealing told (g.F.Shelf.log c.add_files.new.shelf))) (λ a is. h.answers a is) (λ x. absurd x)
    (subst (λ out. Ends c.put_linked.result (LinksAdded c.args.linkage.now c.add_files.new.linker) (g.K.Sink.log out)
    (g.K.Sink.log c.put_linked.new.out) ⊥) c.in-Ok-add_files.ensures.untouched c.put_linked.ensures)
