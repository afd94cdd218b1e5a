-- The run of an object that carries a program's blocks does what the program means.
use Rattle.std.proofs.Common.{◌≡◌, ℕ, ◌+◌, ◌*◌, Bool, true, false, length, refl, sym, ap, ◌∙◌, subst, arith, [], None}
use Rattle.ft_types.specs.declared.object.Object.{Object}
use Rattle.ft_semantics.specs.Run.{run}
use Rattle.ft_scope.specs.Resolved.{Program}
use Rattle.ft_scope.specs.InitialWords.{program_with_words}
use Rattle.ft_meaning.specs.Meaning.{Outcome, outputs, meaning}
use Rattle.ft_meaning.specs.Begins.{Begins}
use Rattle.ft_simulation.proofs.Lists.{begins_on, begins_itself}
use Rattle.ft_lower.specs.Flow.{Blocks, FlowState, flow_run}
use Rattle.ft_lower.specs.Lowers.{FlowsAsMeant}
use Rattle.ft_dup.specs.Doubles.{words_of}
use Rattle.ft_compile.specs.StandsFor.{RunsAsMeant}
use Rattle.ft_compile.specs.FlowObjects.{RunsAsFlow}
use Rattle.ft_compile.specs.Laws.{CarriedBlocksRunAsMeant, OwnBlocksRunAsMeant}
use Rattle.ft_compile.proofs.FlowRuns.{as_flow}

module _ (p : Program) (o : Object) (bs : Blocks) (L : FlowsAsMeant p bs) (R : RunsAsFlow bs p.inits o) where
  -- the flow after k steps
  abbrev at : ℕ → FlowState
  at k = flow_run bs p.inits k

  -- the flow's outputs are a prefix of the meaning's
  begins_at : (n : ℕ) (b : Bool) → (at n).done ≡ b → Begins (at n).out (outputs (meaning p n))
  begins_at n true e =
      let E = L.done n e in
      subst (λ (r : Outcome). Begins (at n).out (outputs r)) (sym E.1)
      (subst (λ x. Begins (at n).out x) E.2 (begins_itself (at n).out))
  begins_at n false e = L.running n e

  -- the machine's run does what the program means
  meant : RunsAsMeant p o
  meant = record {
    undetected = R.undetected;
    done = λ n e.
        let F = R.done n e in
        let E = L.done n F.0 in
        (E.0, E.1, F.1 ∙ E.2);
    running = λ n e. begins_on (run o None [] n).outputs (at n).out _ (R.running n e) (begins_at n (at n).done refl);
    ends = λ n t s e le.
        let k = 2 * s.work + 40 in
        let E = L.ends k t s e (omega arith) in
        let F = R.ends n k E.0 (omega (arith, le)) in
        (F.0, F.1 ∙ E.1);
    cuts = λ n t s e le.
        let k = 2 * s.work + 40 in
        begins_on s.out (at k).out _ (L.cuts k t s e (omega arith)) (R.cuts n k (omega (arith, le)));
  }

-- so does the run of any object that carries a program's blocks
pub runs_as_meant : CarriedBlocksRunAsMeant
runs_as_meant p vars cells bs o L R C many =
    meant (program_with_words p (words_of o)) o bs (L (words_of o) many)
    (as_flow o vars bs (words_of o) (R o C []) refl)

-- with the program's initial words, as the program means
pub own_blocks : OwnBlocksRunAsMeant
own_blocks p vars cells bs o L R C same = subst (λ ws. RunsAsMeant (program_with_words p ws) o) same
    (runs_as_meant p vars cells bs o L R C (ap length same))
