use Rattle.std.proofs.Common.{refl}
use Rattle.ft_syntax.specs.TreeOf.{tree_of}
use Rattle.ft_scope.specs.ProgramOf.{program_of}
use Rattle.ft_meaning.specs.Meaning.{meaning}
use Rattle.ft_tool.specs.Sources.{OverText, MeansProgram, IsSourceRefused}
use Rattle.ft_tool.proofs.Answered.{Ends-map}
use Rattle.ft_tool.proofs.Meant.{tree_refused, meaning_ended, meaning_cut, meaning_broken}
use Rattle.ft_tool.proofs.mean.mean_text.Goals as goal

pub returns-in-Err-resolve : goal.returns-in-Err-resolve
returns-in-Err-resolve g c =
    let t = tree_of c.in-Ok.tree in
    let e = c.in-Err-resolve.error in
    Ends-map c.refuse_source-in-Err-resolve.result (IsSourceRefused e)
    (OverText (MeansProgram c.args.turns) c.args.text.now)
    (g.K.Sink.log c.args.out.now) (g.K.Sink.log c.refuse_source-in-Err-resolve.new.out) ⊥ ⊥
    (tree_refused c.args.turns c.args.text.now t e c.in-Ok.ensures.ok c.in-Err-resolve.ensures.err) (λ x. x)
    c.refuse_source-in-Err-resolve.ensures

pub returns-in-Ended : goal.returns-in-Ended
returns-in-Ended g c =
    let p = program_of c.in-Ok-resolve.program in
    meaning_ended c.args.turns c.args.text.now p (
      tree_of c.in-Ok.tree,
      c.in-Ok.ensures.ok,
      c.in-Ok-resolve.ensures.ok,
    ) (meaning p c.args.turns) refl c.in-Ended.ensures.ends
    (g.K.Sink.log c.args.out.now) (g.K.Sink.log c.mean.new.out) c.in-Ended.ensures.lines

pub returns-in-Cut : goal.returns-in-Cut
returns-in-Cut g c =
    let p = program_of c.in-Ok-resolve.program in
    meaning_cut c.args.turns c.args.text.now p (
      tree_of c.in-Ok.tree,
      c.in-Ok.ensures.ok,
      c.in-Ok-resolve.ensures.ok,
    ) (meaning p c.args.turns) refl c.in-Cut.ensures.ends
    (g.K.Sink.log c.args.out.now) (g.K.Sink.log c.mean.new.out) c.in-Cut.ensures.lines

pub returns-in-WriteFault : goal.returns-in-WriteFault
returns-in-WriteFault g c =
    let p = program_of c.in-Ok-resolve.program in
    meaning_broken c.args.turns c.args.text.now p (tree_of c.in-Ok.tree, c.in-Ok.ensures.ok, c.in-Ok-resolve.ensures.ok)
    (meaning p c.args.turns) refl
    (g.K.Sink.log c.args.out.now) (g.K.Sink.log c.mean.new.out) c.in-WriteFault.ensures.lines
