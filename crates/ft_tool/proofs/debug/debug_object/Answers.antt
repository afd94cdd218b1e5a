use Rattle.std.proofs.Common.{◌≡◌, ℕ, Vec, Global, subst}
use Rattle.ft_edge.specs.Causes.{Rose}
use Rattle.ft_command.specs.Asked.{debugging_view}
use Rattle.ft_tool.specs.declared.script.ScriptFault.TheVariants.{Failed}
use Rattle.ft_format.specs.Format.{AreBytes}
use Rattle.ft_tool.specs.Scripts.{DebugsObject, IsScriptRefusedBy}
use Rattle.ft_tool.specs.Told.{OfScript}
use Rattle.ft_tool.proofs.Answered.{Ends-map}
use Rattle.ft_tool.proofs.Taken.{over_script, over_long_script, take_failed}
use Rattle.std.proofs.Common.{◌≤◌, length, refl, sym}
use Rattle.ft_tool.specs.Known.{is_left}
use Rattle.ft_tool.proofs.debug.debug_object.Goals as goal

pub returns-in-Ok-clause-ends : goal.returns-in-Ok-clause-ends
returns-in-Ok-clause-ends g c = λ left may.
    let d = debugging_view c.args.asked.now in
    Ends-map c.debug_text.result (DebugsObject d c.as_slice.result.now (g.P.Program.object c.args.program.now)) (λ a.
    OfScript left (λ text. DebugsObject d text (g.P.Program.object c.args.program.now) a)) _ _ ⊥
    (Rose (g.I.Source.log c.args.script.now).failures (g.I.Source.log c.take_script.new.script).failures)
    (λ a is. over_script {V = Vec ℕ Global} (λ v. v.items) d left (g.P.Program.object c.args.program.now) c.in-Ok.text
    (c.in-Ok.ensures.takes left may) (subst AreBytes c.as_slice.ensures.value c.debug_text.ensures.bytes) a
    (subst (λ text. DebugsObject d text (g.P.Program.object c.args.program.now) a) c.as_slice.ensures.value is))
    (λ x. absurd x) c.debug_text.ensures.ends

pub returns-in-Err-clause-ends : goal.returns-in-Err-clause-ends
returns-in-Err-clause-ends g c = λ left may.
    let d = debugging_view c.args.asked.now in
    Ends-map c.refuse_script.result (IsScriptRefusedBy c.in-Err.fault) (λ a.
    OfScript left (λ text. DebugsObject d text (g.P.Program.object c.args.program.now) a)) _ _ (c.in-Err.fault
    ≡ Failed)
    (Rose (g.I.Source.log c.args.script.now).failures (g.I.Source.log c.take_script.new.script).failures)
    (λ a is. over_long_script {V = Vec ℕ Global} (λ v. v.items) d left (g.P.Program.object c.args.program.now)
    c.in-Err.fault (c.in-Err.ensures.takes left may) a is)
    (λ e. take_failed (Vec ℕ Global) _ _ c.in-Err.fault c.in-Err.ensures.cause e) c.refuse_script.ensures.ends

pub debug_text-requires-clause-short : goal.debug_text-requires-clause-short
debug_text-requires-clause-short g c =
    subst (λ text. length text ≤ 1048576) (sym c.as_slice.ensures.value)
    (c.in-Ok.ensures.takes (g.I.Source.log c.args.script.now).left (is_left refl)).0
