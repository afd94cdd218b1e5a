-- The flow of a program does what the program does, no less and no more.
use Rattle.std.proofs.Common.{◌≡◌, ℕ, zero, suc, ◌+◌, ◌*◌, ◌≤◌, Bool, true, false, [], ◌∷◌, ◌++◌, length, Some, inl}
use Rattle.std.proofs.Common.{inr, refl, sym, ap, ◌∙◌, subst, arith}
use Rattle.std.proofs.lemmas.Bool.{cases_eq}
use Rattle.std.proofs.lemmas.List.{get_or-replicate, length-replicate}
use Rattle.ft_scope.specs.Size.{StatementsFit}
use Rattle.ft_scope.specs.InitialWords.{program_with_words}
use Rattle.ft_scope.specs.Resolved.{Program, program_need, program_weight}
use Rattle.ft_meaning.specs.Meaning.{State, Outcome, Ended, Cut, state_of, run, start, meaning}
use Rattle.ft_meaning.specs.Begins.{Begins}
use Rattle.ft_lower.specs.declared.step3.Step3.TheVariants.{Put, Stop}
use Rattle.ft_lower.specs.Flow.{Blocks, Place, FlowState, on, first, goes_on, with_pair, act, step_at, steps}
use Rattle.ft_lower.specs.Flow.{flow_start}
use Rattle.ft_lower.specs.Lowered.{statement_steps, zeros, program_steps, lowered}
use Rattle.ft_lower.specs.Lowers.{FlowsAsMeant, Lowers}
use Rattle.ft_lower.proofs.Runs.{Reaches, reach_trans, reach_one, done_stays, done_once, done_after, out_grows, after}
use Rattle.ft_lower.proofs.Runs.{after-append, HasAt, has_front, has_back, has_all}
use Rattle.ft_lower.proofs.EndBlocks.{zeros_block}
use Rattle.ft_lower.proofs.Expressions.{Like, same_pair, other_pair}
use Rattle.ft_lower.proofs.Ends.{Runs}
use Rattle.ft_lower.proofs.Statements.{statements_run}

-- a resolved program: its names exist, and its need and its weight are within the limits
pub record IsResolved (p : Program) : Type 0 where
  pub names : StatementsFit (length p.inits) p.vars p.body
  pub need : program_need p ≤ 32
  pub weight : program_weight p ≤ 65536

-- what the steps for the zeros at the start lead to: a running state at place p with 0 in each pair, and with the same
-- cells and outputs
record Fresh (bs : Blocks) (k : ℕ) (p : Place) (f : FlowState) : Type 0 where
  end : FlowState
  reaches : Reaches bs k f end
  pairs : (q : ℕ) → end.pairs q ≡ 0
  cells : end.cells ≡ f.cells
  place : end.place ≡ p
  out : end.out ≡ f.out
  running : end.done ≡ false

-- if each pair is 0, each still is after one is set to 0
zero_pair : (k q : ℕ) (f : FlowState) → f.pairs q ≡ 0 → (with_pair k 0 f).pairs q ≡ 0
zero_pair k q f z = elim (cases_eq q k) [
  | inl e ↦ subst (λ x. (with_pair k 0 f).pairs x ≡ 0) (sym e) (same_pair k 0 f)
  | inr ne ↦ other_pair k 0 f q ne ∙ z
]

-- the zeros take one step for each variable
zeros_run : (bs : Blocks) (k : ℕ) (p : Place) (f : FlowState) → HasAt bs p (zeros k) → ((q : ℕ) → f.pairs q ≡ 0) →
    f.place ≡ p → f.done ≡ false → Fresh bs k (after p (zeros k)) f
zeros_run bs zero p f has z at run = record {
  end = f;
  reaches = record { is = refl };
  pairs = z;
  cells = refl;
  place = at;
  out = refl;
  running = run;
}
zeros_run bs (suc k) p f has z at run =
    let A = zeros_run bs k p f (has_front bs p (zeros k) _ has) z at run in
    let p1 = after p (zeros k) in
    let h = has_back bs p (zeros k) (Put k 0 ∷ []) has in
    let g = goes_on (with_pair k 0 A.end) in
    let j : k + 1 ≡ suc k = omega arith in
    record {
      end = g;
      reaches = subst (λ i. Reaches bs i f g) j (reach_trans bs k 1 f A.end g A.reaches
          (reach_one bs A.end (Put k 0) A.running (ap (step_at bs) A.place ∙ h.0)));
      pairs = λ q. zero_pair k q A.end (A.pairs q);
      cells = A.cells;
      place = ap on A.place ∙ sym (after-append p (zeros k) (Put k 0 ∷ []));
      out = A.out;
      running = A.running;
    }

-- what the flow does if the program has this outcome
abbrev Follows : Blocks → FlowState → ℕ → Outcome → Type 0
Follows bs f t (Ended s) = (j : ℕ) × (j ≤ 2 * s.work + 40) × ((steps bs j f).done ≡ true) × ((steps bs j f).out ≡ s.out)
Follows bs f t (Cut s) = (j : ℕ) × (t ≤ j) × (j ≤ 2 * s.work + 40) × ((steps bs j f).done ≡ false)
    × ((steps bs j f).out ≡ s.out)

-- after the zeros come the steps of the statements, and then the end
follows_from : (bs : Blocks) (n i t : ℕ) (p : Place) (s : State) (f f1 : FlowState) (r : Outcome) → i ≤ 32 → s.work
    ≡ 0 → s.left ≡ t → Reaches bs i f f1 → step_at bs p ≡ Some Stop → Runs bs n 0 p s f1 r → Follows bs f t r
follows_from bs n i t p s f f1 (Ended s1) le w l to at r =
    let g = act Stop r.end in
    let all = reach_trans bs (i + r.taken) 1 f r.end g (reach_trans bs i r.taken f f1 r.end to r.reaches)
    (reach_one bs r.end Stop r.like.running (ap (step_at bs) r.like.place ∙ at)) in (
      i + r.taken + 1,
      omega (arith, r.few),
      ap (λ (x : FlowState). x.done) all.is,
      ap (λ (x : FlowState). x.out) all.is
          ∙ r.like.out,
    )
follows_from bs n i t p s f f1 (Cut s1) le w l to at r =
    let all = reach_trans bs i r.taken f f1 r.end to r.reaches in (
      i + r.taken,
      omega (arith, r.many),
      omega (arith, r.few),
      ap (λ (x : FlowState). x.done) all.is ∙ r.running,
      ap (λ (x : FlowState). x.out) all.is ∙ r.out,
    )

-- the flow does what the program does
follows : (p : Program) → IsResolved p → (t : ℕ) → Follows (lowered p) (flow_start p.inits) t (meaning p t)
follows p fits t =
    let bs = lowered p in
    let n = p.vars in
    let f = flow_start p.inits in
    let cp = statement_steps n 0 p.body in
    let has = has_all [] [] (program_steps p) in
    let A = zeros_run bs n (first 0) f (has_front bs (first 0) (zeros n) _ has) (λ q. refl) refl refl in
    let p1 = after (first 0) (zeros n) in
    let h = has_back bs (first 0) (zeros n) (cp ++ Stop ∷ []) has in
    let like : Like n p1 (start p t) A.end = record {
      vars = λ x lt. A.pairs x ∙ sym (get_or-replicate n x 0 0 lt);
      many = length-replicate n 0;
      cells = A.cells;
      place = A.place;
      out = A.out;
      running = A.running;
    } in
    let R = statements_run bs n (length p.inits) p.body 0 p1 (start p t) A.end (zeros_block n (first 0)) fits.names
    (has_front bs p1 cp _ h) like in
    follows_from bs n n t (after p1 cp) (start p t) f A.end (meaning p t) (omega (arith, fits.need)) refl refl A.reaches
    (has_back bs p1 cp (Stop ∷ []) h).0 R

-- a `Bool` is not both true and false
pub clash : (b : Bool) → b ≡ true → b ≡ false → ⊥
clash b p q = cc

-- if the run is done, the program has ended with its outputs
done_from : (bs : Blocks) (f : FlowState) (k : ℕ) (r : Outcome) → Follows bs f k r → (steps bs k f).done ≡ true →
    (s : State) × (r ≡ Ended s) × ((steps bs k f).out ≡ s.out)
done_from bs f k (Ended s) h d = (s, refl, ap (λ (x : FlowState). x.out) (done_once bs f k h.0 d h.2) ∙ h.3)
done_from bs f k (Cut s) h d = absurd (clash (steps bs h.0 f).done
    (ap (λ (x : FlowState). x.done) (done_stays bs f k h.0 h.1 d) ∙ d) h.3)

-- if the run is not done, its outputs are a prefix of the program's
running_from : (bs : Blocks) (f : FlowState) (k : ℕ) (r : Outcome) → Follows bs f k r → (steps bs k f).done ≡ false →
    Begins (steps bs k f).out (state_of r).out
running_from bs f k (Ended s) h d =
    let lt = done_after bs f k h.0 (λ e. clash (steps bs k f).done e d) h.2 in
    subst (λ o. Begins (steps bs k f).out o) h.3 (out_grows bs f k h.0 (omega (arith, lt)))
running_from bs f k (Cut s) h d = subst (λ o. Begins (steps bs k f).out o) h.4 (out_grows bs f k h.0 h.1)

-- if the program ends, the run is done with its outputs after twice the work plus 40 steps, or more
ends_from : (bs : Blocks) (f : FlowState) (k t : ℕ) (s : State) → Follows bs f t (Ended s) → 2 * s.work + 40 ≤ k →
    ((steps bs k f).done ≡ true) × ((steps bs k f).out ≡ s.out)
ends_from bs f k t s h le = let e = done_stays bs f h.0 k (omega (arith, h.1)) h.2 in
    (ap (λ (x : FlowState). x.done) e ∙ h.2, ap (λ (x : FlowState). x.out) e ∙ h.3)

-- if the program is cut, its outputs are a prefix of the run's after twice its work plus 40 steps, or more
cuts_from : (bs : Blocks) (f : FlowState) (k t : ℕ) (s : State) → Follows bs f t (Cut s) → 2 * s.work + 40 ≤ k →
    Begins s.out (steps bs k f).out
cuts_from bs f k t s h le = subst (λ o. Begins o (steps bs k f).out) h.4 (out_grows bs f h.0 k (omega (arith, h.2)))

-- the blocks of a program do what it means
flows_as_meant : (p : Program) → IsResolved p → FlowsAsMeant p (lowered p)
flows_as_meant p fits =
    let bs = lowered p in
    let f = flow_start p.inits in
    record {
      done = λ k d. done_from bs f k (meaning p k) (follows p fits k) d;
      running = λ k d. running_from bs f k (meaning p k) (follows p fits k) d;
      ends = λ k t s e le. ends_from bs f k t s (subst (Follows bs f t) e (follows p fits t)) le;
      cuts = λ k t s e le. cuts_from bs f k t s (subst (Follows bs f t) e (follows p fits t)) le;
    }

-- they do so with any initial words, since the blocks are made without them
pub lowers : (p : Program) → IsResolved p → Lowers p (lowered p)
lowers p fits words many = flows_as_meant (program_with_words p words) (record {
  names = subst (λ n. StatementsFit n p.vars p.body) (sym many) fits.names;
  need = fits.need;
  weight = fits.weight;
})

-- so do blocks that a program lowers to, with the program's own initial words
pub own_flow : (p : Program) (bs : Blocks) → Lowers p bs → FlowsAsMeant p bs
own_flow p bs L = L p.inits refl
