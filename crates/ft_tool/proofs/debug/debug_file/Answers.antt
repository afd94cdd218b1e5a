use Rattle.std.proofs.Common.{◌≡◌, inl}
use Rattle.std.specs.Prelude.{◌⊎◌}
use Rattle.ft_edge.specs.Causes.{Rose}
use Rattle.ft_format.specs.Broken.{object_of}
use Rattle.ft_command.specs.Commands.{Debugs}
use Rattle.ft_command.specs.Asked.{debugging_view}
use Rattle.ft_tool.specs.declared.load.ObjectFault.TheVariants.{Failed}
use Rattle.ft_tool.specs.Scripts.{DebugsObject}
use Rattle.ft_tool.specs.Answers.{OverFile, FailsIn, FailsAtScript}
use Rattle.ft_tool.specs.Known.{revealing}
use Rattle.ft_tool.specs.Told.{OfFiles, OfScript}
use Rattle.ft_tool.specs.Files.{IsRefusedBy}
use Rattle.ft_tool.proofs.Answered.{Ends-map, object_failed}
use Rattle.ft_tool.proofs.Taken.{over_debugged, over_undebugged, script_failed, session_failed}
use Rattle.ft_tool.proofs.Tried.{spells_file}
use Rattle.ft_tool.specs.Known.{revealed}
use Rattle.std.proofs.Common.{refl}
use Rattle.ft_tool.proofs.debug.debug_file.Goals as goal

pub returns-in-Ok-clause-ends : goal.returns-in-Ok-clause-ends
returns-in-Ok-clause-ends g c = λ told may left begin.
    let d = debugging_view c.args.asked.now in
    let shelf = revealing told (g.F.Shelf.log c.args.shelf.now) in
    let new = revealing told (g.F.Shelf.log c.load_object.new.shelf) in
    let script = g.I.Source.log c.args.script.now in
    let taken = g.I.Source.log c.debug_object.new.script in
    Ends-map c.debug_object.result (λ a. OfScript left (λ text. DebugsObject d text (object_of c.in-Ok.view) a))
    (λ a. OfFiles shelf.files (λ files. OfScript left (λ text. OverFile (DebugsObject d text) d.object files a)))
    _ _
    (Rose script.failures taken.failures) (OfFiles shelf.files
    (λ files. FailsIn (Debugs d) files shelf new ⊎ FailsAtScript d files script taken))
    (λ a is. over_debugged d shelf.files left c.in-Ok.view (c.in-Ok.ensures.loads told may) a is)
    (script_failed d c.in-Ok.view shelf new script taken (c.in-Ok.ensures.loads told may))
    (c.debug_object.ensures.ends left begin)

pub returns-clause-ends : goal.returns-clause-ends
returns-clause-ends g c = λ told may left begin.
    let d = debugging_view c.args.asked.now in
    let shelf = revealing told (g.F.Shelf.log c.args.shelf.now) in
    let new = revealing told (g.F.Shelf.log c.load_object.new.shelf) in
    let script = g.I.Source.log c.args.script.now in
    Ends-map c.refuse_object.result (IsRefusedBy c.in-Err.fault)
    (λ a. OfFiles shelf.files (λ files. OfScript left (λ text. OverFile (DebugsObject d text) d.object files a)))
    _ _ (c.in-Err.fault ≡ Failed)
    (OfFiles shelf.files (λ files. FailsIn (Debugs d) files shelf new ⊎ FailsAtScript d files script script))
    (λ a is. over_undebugged d shelf.files left c.in-Err.fault (c.in-Err.ensures.loads told may) a is)
    (λ e. session_failed d shelf new script script
    (object_failed d.object c.in-Err.fault (g.F.Shelf.log c.args.shelf.now)
    (g.F.Shelf.log c.load_object.new.shelf)
    c.in-Err.ensures.cause e)) c.refuse_object.ensures.ends

pub returns-in-Ok-clause-script : goal.returns-in-Ok-clause-script
returns-in-Ok-clause-script g c = λ told may.
    inl (
      spells_file told c.args.asked.now.object.now c.in-Ok.view
          (c.in-Ok.ensures.loads told may),
      c.debug_object.ensures.taken,
    )

pub debug_object-requires : goal.debug_object-requires
debug_object-requires g c = record {
  spellable = (c.in-Ok.ensures.loads (g.F.Shelf.log c.args.shelf.now).files (revealed refl)).1.spellable;
}
