use Rattle.std.proofs.Common.{◌≡◌}
use Rattle.std.proofs.lemmas.Result.{on_ok_weaker}
use Rattle.ft_format.specs.Broken.{object_of}
use Rattle.ft_tool.specs.declared.load.ObjectFault.TheVariants.{Failed}
use Rattle.ft_tool.specs.Files.{IsRefusedBy}
use Rattle.ft_tool.specs.Links.{EndsAtObject}
use Rattle.ft_tool.specs.LinkTurns.{EndsWithFile}
use Rattle.ft_edge.specs.Logs.{LoadFails}
use Rattle.ft_tool.proofs.Answered.{Ends-map, object_failed}
use Rattle.ft_tool.proofs.Linking.{if_err_map, adds_file, ends_with_object, ends_with_fault}
use Rattle.std.proofs.Common.{refl}
use Rattle.ft_tool.specs.Known.{revealed}
use Rattle.ft_tool.proofs.link.add_file.Goals as goal

pub returns-in-Ok-clause-ok : goal.returns-in-Ok-clause-ok
returns-in-Ok-clause-ok g c =
    on_ok_weaker c.add_object.result
    (λ h told may. adds_file told c.args.linker.now c.add_object.new.linker c.args.name.now
    c.in-Ok.view (c.in-Ok.ensures.loads told may) h) c.add_object.ensures.ok

pub returns-in-Ok-clause-ends : goal.returns-in-Ok-clause-ends
returns-in-Ok-clause-ends g c =
    if_err_map c.add_object.result (λ e h told may. Ends-map e (EndsAtObject c.args.linker.now (object_of c.in-Ok.view))
    (EndsWithFile told c.args.linker.now c.args.name.now)
    (g.K.Sink.log c.args.out.now) (g.K.Sink.log c.add_object.new.out) ⊥
    (LoadFails c.args.name.now (g.F.Shelf.log c.args.shelf.now) (g.F.Shelf.log c.load_object.new.shelf))
    (λ a is. ends_with_object told c.args.linker.now c.args.name.now c.in-Ok.view (c.in-Ok.ensures.loads told may) a is)
    (λ x. absurd x) h) c.add_object.ensures.ends

pub returns-clause-ends : goal.returns-clause-ends
returns-clause-ends g c = λ told may.
    Ends-map c.refuse_object.result (IsRefusedBy c.in-Err.fault) (EndsWithFile told c.args.linker.now c.args.name.now) _
    _ (c.in-Err.fault ≡ Failed)
    (LoadFails c.args.name.now (g.F.Shelf.log c.args.shelf.now) (g.F.Shelf.log c.load_object.new.shelf))
    (λ a is. ends_with_fault told c.args.linker.now c.args.name.now c.in-Err.fault (c.in-Err.ensures.loads told may) a
    is)
    (λ e. object_failed c.args.name.now c.in-Err.fault (g.F.Shelf.log c.args.shelf.now)
    (g.F.Shelf.log c.load_object.new.shelf) c.in-Err.ensures.cause e) c.refuse_object.ensures.ends

pub add_object-requires : goal.add_object-requires
add_object-requires g c =
    (c.in-Ok.ensures.loads (g.F.Shelf.log c.args.shelf.now).files (revealed refl)).1.spellable
