use Rattle.std.proofs.Common.{◌≡◌, ℕ, Bool, List, Option, Result, Ok, Err, sym, subst, ◌∙◌}
use Rattle.std.specs.Result.{IsErrAnd}
use Rattle.ft_isa.specs.declared.instr.Instr.{Instr}
use Rattle.ft_typing.specs.Accepted.{after_row}
use Rattle.ft_typing.specs.Context.{Context}
use Rattle.ft_typing.specs.Premise.{Premise}
use Rattle.ft_typing.specs.RowWords.{Outcome}
use Rattle.ft_rules.specs.declared.why.RuleError.{RuleError}
use Rattle.ft_rules.specs.declared.why.RuleError.TheVariants.{Refused, NoMemory}
use Rattle.ft_rules.specs.Answers.{IsRefusal}
use Rattle.ft_contexts.specs.Contexts.{context_in}
use Rattle.ft_checker.specs.Judges.{Turns}
use Rattle.ft_checker.proofs.Turned.{on_last, on_more, end_last, end_more, row_fails}
use Rattle.ft_checker.proofs.blocks.turn.Goals as goal

-- an error of the row is a correct error of `turn`
error_turns : (x : Outcome) (e : RuleError) (k : ℕ) (others : List Instr) (next : Context →
    Option (ℕ × Premise)) (later : Option (ℕ × Premise)) → IsRefusal x e →
    Turns (after_row x k others next) k later (Err e)
error_turns x (Refused why) k others next later h = row_fails x _ k others next h
error_turns x NoMemory k others next later h = tt

-- likewise for a result that is such an error
exit_turns : (x : Outcome) (r : Result Bool RuleError) (e : RuleError) (k : ℕ) (others : List Instr) (next : Context →
    Option (ℕ × Premise)) (later : Option (ℕ × Premise)) → IsErrAnd r (λ f. f ≡ e) → IsRefusal x e →
    Turns (after_row x k others next) k later r
exit_turns x (Ok b) e k others next later i h = absurd i
exit_turns x (Err f) e k others next later i h = subst (λ (z : RuleError).
    Turns (after_row x k others next) k later (Err z)) (sym i) (error_turns x e k others next later h)

pub returns-then-last-clause-turns : goal.returns-then-last-clause-turns
returns-then-last-clause-turns g c = λ k others next h.
    on_last _ _ k others next (rw c.in-On.is at c.in_ok-next.ensures.row) (h ∙ c.if-last.true)

pub returns-else-last-clause-turns : goal.returns-else-last-clause-turns
returns-else-last-clause-turns g c = λ k others next h.
    on_more _ _ k others next (rw c.in-On.is at c.in_ok-next.ensures.row) (h ∙ c.if-last.false)

pub returns-then-last-2-clause-turns : goal.returns-then-last-2-clause-turns
returns-then-last-2-clause-turns g c = λ k others next h.
    end_last _ k others next (rw c.in-Ends.is at c.in_ok-next.ensures.row) (h ∙ c.if-last-2.true)

pub returns-else-last-2-clause-turns : goal.returns-else-last-2-clause-turns
returns-else-last-2-clause-turns g c = λ k others next h.
    end_more _ k others next (rw c.in-Ends.is at c.in_ok-next.ensures.row) (h ∙ c.if-last-2.false)

pub returns-in_err-pay-clause-turns : goal.returns-in_err-pay-clause-turns
returns-in_err-pay-clause-turns g c = λ k others next h.
    exit_turns _ c.from_residual.result NoMemory k others next (next (context_in c.args.forms.now c.args.context.now))
    c.from_residual.ensures.1 tt

pub returns-in_err-next-clause-turns : goal.returns-in_err-next-clause-turns
returns-in_err-next-clause-turns g c = λ k others next h.
    exit_turns _ c.from_residual-in_err-next.result c.in_err-next.field-0.0 k others next
    (next (context_in c.apply_rule_over.new.forms c.apply_rule_over.new.ctx)) c.from_residual-in_err-next.ensures.1
    c.in_err-next.ensures.row
