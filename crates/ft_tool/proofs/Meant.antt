-- The answers of `mean`.
use Rattle.std.proofs.Common.{◌≡◌, ◌≢◌, ℕ, List, Err, inl, inr, refl, ap}
use Rattle.ft_edge.specs.Lines.{with_lines, BreaksOff as LinesBreakOff}
use Rattle.ft_edge.specs.Logs.{SinkLog}
use Rattle.ft_syntax.specs.Syntax.{SyntaxTree}
use Rattle.ft_syntax.specs.Refusal.{IsSource}
use Rattle.ft_syntax.specs.declared.source_error.SourceError.{SourceError}
use Rattle.ft_syntax.specs.declared.source_error.SourceError.TheVariants.{NoMemory}
use Rattle.ft_scope.specs.Resolved.{Program, resolved}
use Rattle.ft_scope.specs.Outcome.{IsProgramOf}
use Rattle.ft_meaning.specs.declared.mean_end.MeanEnd.TheVariants as ends
use Rattle.ft_meaning.specs.Meaning.{Outcome, Ended, Cut, meaning, outputs}
use Rattle.ft_meaning.specs.Lines.{output_lines}
use Rattle.ft_meaning.specs.Ends.{EndsAs}
use Rattle.ft_tool.specs.Replies.{Answer}
use Rattle.ft_tool.specs.Sources.{IsSourceRefused, OverText, MeansProgram, meant}
use Rattle.ft_tool.specs.Answers.{Concludes, BreaksOff}

-- if the tree of a source is refused, that refusal is an answer for the text
pub tree_refused : (turns : ℕ) (text : List ℕ) (t : SyntaxTree) (e : SourceError) → IsSource text t →
    (e ≢ NoMemory → resolved t ≡ Err e)
    → (a : Answer) → IsSourceRefused e a → OverText (MeansProgram turns) text a
tree_refused turns text t e source err a is = inr (e, (inr (t, source, err is.named), is))

-- if a meaning ended and its lines were written, its answer was written, with status 0
pub meaning_ended : (turns : ℕ) (text : List ℕ) (p : Program) → IsProgramOf text p → (r : Outcome) → r
    ≡ meaning p turns → EndsAs ends.Ended r
    → (old new : SinkLog) → new ≡ with_lines (output_lines p.names (outputs r)) old
    → Concludes (OverText (MeansProgram turns) text) 0 old new
meaning_ended turns text p is (Ended s) e ended old new put =
    record { answer = meant p (Ended s); is = inl (p, (is, ap (meant p) e)); put = put; status_is = refl }
meaning_ended turns text p is (Cut s) e ended old new put = absurd ended

-- if a meaning was cut and its lines were written, its answer was written, with status 9
pub meaning_cut : (turns : ℕ) (text : List ℕ) (p : Program) → IsProgramOf text p → (r : Outcome) → r ≡ meaning p turns →
    EndsAs ends.Cut r
    → (old new : SinkLog) → new ≡ with_lines (output_lines p.names (outputs r)) old
    → Concludes (OverText (MeansProgram turns) text) 9 old new
meaning_cut turns text p is (Ended s) e ended old new put = absurd ended
meaning_cut turns text p is (Cut s) e ended old new put =
    record { answer = meant p (Cut s); is = inl (p, (is, ap (meant p) e)); put = put; status_is = refl }

-- if the put of one of a meaning's lines failed, its answer was written up to that line
pub meaning_broken : (turns : ℕ) (text : List ℕ) (p : Program) → IsProgramOf text p → (r : Outcome) → r
    ≡ meaning p turns
    → (old new : SinkLog) → LinesBreakOff (output_lines p.names (outputs r)) old new
    → BreaksOff (OverText (MeansProgram turns) text) old new
meaning_broken turns text p is (Ended s) e old new broken =
    record { answer = meant p (Ended s); is = inl (p, (is, ap (meant p) e)); broken = broken }
meaning_broken turns text p is (Cut s) e old new broken =
    record { answer = meant p (Cut s); is = inl (p, (is, ap (meant p) e)); broken = broken }
