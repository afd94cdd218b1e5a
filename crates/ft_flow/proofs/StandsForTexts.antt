-- An object that stands for a text's flow stands for the text.
use Rattle.std.proofs.Common.{◌≡◌, ℕ, List, [], length, None, sym, ap, ◌∙◌, subst, arith}
use Rattle.ft_types.specs.declared.object.Object.{Object}
use Rattle.ft_meaning.specs.Begins.{Begins}
use Rattle.ft_semantics.specs.Run.{outputs_after}
use Rattle.ft_lower.specs.Cutting.{blocks_onto}
use Rattle.ft_lower.specs.Flow.{Blocks, FlowState, flow_run}
use Rattle.ft_lower.specs.Well.{IsWell}
use Rattle.ft_compile.specs.FlowObjects.{RunsAsFlow, StandsForFlow}
use Rattle.ft_flow.specs.Runs.{plain_run, RunsAsText, StandsForText}
use Rattle.ft_flow.specs.Texts.{FlowText, blocks_in}
use Rattle.ft_flow.proofs.PlainRuns.{runs_alike}
use Rattle.ft_flow.proofs.Unspared.{run_unspared}

module _ (bs cs : Blocks) (words : List ℕ) (o : Object)
    (done : (k : ℕ) → (flow_run bs words k).done ≡ (plain_run cs words k).done)
    (out : (k : ℕ) → (flow_run bs words k).out ≡ (plain_run cs words k).out) (R : RunsAsFlow bs words o) where
  -- the runs are the same
  as_text : RunsAsText cs words o
  as_text = record {
    undetected = R.undetected;
    done = λ n e. let D = R.done n e in (sym (done n) ∙ D.0, D.1 ∙ out n);
    running = λ n e. subst (λ x. Begins (outputs_after o None [] n) x) (out n) (R.running n e);
    ends = λ n k e le. let E = R.ends n k (done k ∙ e) le in (E.0, E.1 ∙ out k);
    cuts = λ n k le. subst (λ x. Begins x (outputs_after o None [] n)) (out k) (R.cuts n k le);
  }

-- with the spares that were chosen
pub stands_for_text : (t : FlowText) (o : Object) → IsWell t.vars (length t.inits) (blocks_in t) →
    StandsForFlow t.names t.inits (blocks_in t) o → StandsForText t o
stands_for_text t o W S = record {
  names_are = S.names_are;
  words_are = S.words_are;
  ints = S.ints;
  spellable = S.spellable;
  accepted = S.accepted;
  short = (let a = S.instrs in let b = W.short in omega (arith, a, b));
  run = λ words A.
      as_text (blocks_in t) (blocks_onto [] t.steps) words _
      (λ k. (runs_alike t.vars (length t.inits) (blocks_in t) W words k).done
      ∙ ap (λ (f : FlowState). f.done) (run_unspared t.vars t.steps words k))
      (λ k. (runs_alike t.vars (length t.inits) (blocks_in t) W words k).out
      ∙ ap (λ (f : FlowState). f.out) (run_unspared t.vars t.steps words k))
      (S.run words A);
}
