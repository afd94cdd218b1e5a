-- Runs from some step on, and runs that meet.
use Rattle.std.proofs.Common.{◌≡◌, ℕ, zero, suc, ◌+◌, ◌-◌, ◌<◌, ◌≤◌, List, [], Some, None, refl, ap, sym, subst, ◌∙◌}
use Rattle.std.proofs.Common.{arith, add-zero}
use Rattle.std.proofs.lemmas.List.{append-nil}
use Rattle.ft_isa.specs.declared.plan.Wild.{Wild}
use Rattle.ft_isa.specs.declared.plan.Strike.{Strike}
use Rattle.ft_types.specs.declared.object.Object.{Object}
use Rattle.ft_semantics.specs.State.{State}
use Rattle.ft_semantics.specs.Strike.{struck_before}
use Rattle.ft_semantics.specs.Run.{Ran, run, state_after, wild_after, outputs_after}
use Rattle.ft_machine.specs.Spans.{span, span-zero}
use Rattle.ft_semantics.proofs.Struck.{spared}
use Rattle.ft_machine.proofs.Spanned.{joined, run_on, run_second}
use Rattle.ft_campaign.specs.Snapshots.{Meets, HasMet}

-- a run without a strike continues from each of its states as a span
pub run_free : (o : Object) (w : List Wild) (m j : ℕ) → run o None w (m + j)
    ≡ joined (outputs_after o None w m) (span o j (state_after o None w m) (wild_after o None w m))
run_free o w m zero =
    ap (run o None w) (add-zero m)
    ∙ ap (λ xs. record { state = state_after o None w m; wild = wild_after o None w m; outputs = xs })
    (sym (append-nil (outputs_after o None w m)))
    ∙ ap (joined (outputs_after o None w m)) (sym (span-zero o (state_after o None w m) (wild_after o None w m)))
run_free o w m (suc j) = run_on o None w m j (λ i above s. refl)

-- a strike does not change the state before a later step
pub spares : (x : Strike) (s : ℕ) (q : State) → x.step < s → struck_before (Some x) s q ≡ q
spares x s q above = spared x s (λ e. omega arith) q

-- after a meeting, both runs take the same steps
pub past_meeting : (o : Object) (x : Strike) (w : List Wild) (m j : ℕ) → Meets o x w m → 0 < j
    → run o (Some x) w (m + j) ≡ joined (outputs_after o (Some x) w m)
    (span o j (state_after o None w m) (wild_after o None w m))
past_meeting o x w m j h some =
    let above = h.above in
    let s = state_after o (Some x) w m in
    run_second o (Some x) w s (state_after o None w m) (wild_after o None w m) m j refl (sym h.wild)
    (sym (spares x m s above ∙ h.state)) (λ i later. spared x i (λ e. omega (arith, above, later))) some

met_by : (o : Object) (x : Strike) (w : List Wild) (m j : ℕ) → Meets o x w m → HasMet o x w m (m + j)
met_by o x w m zero h = record {
  rest = [];
  struck = ap (outputs_after o (Some x) w) (add-zero m) ∙ sym (append-nil (outputs_after o (Some x) w m));
  other = ap (outputs_after o None w) (add-zero m) ∙ sym (append-nil (outputs_after o None w m));
  state = ap (state_after o (Some x) w) (add-zero m) ∙ h.state ∙ sym (ap (state_after o None w) (add-zero m));
}
met_by o x w m (suc j) h =
    let p = past_meeting o x w m (suc j) h (omega arith) in
    let q = run_free o w m (suc j) in
    record {
      rest = (span o (suc j) (state_after o None w m) (wild_after o None w m)).outputs;
      struck = ap (λ (r : Ran). r.outputs) p;
      other = ap (λ (r : Ran). r.outputs) q;
      state = ap (λ (r : Ran). r.state) p ∙ sym (ap (λ (r : Ran). r.state) q);
    }

-- the law of meetings: from there on, the states agree, and so do the remaining outputs
pub has_met : (o : Object) (x : Strike) (w : List Wild) (m n : ℕ) → Meets o x w m → m ≤ n → HasMet o x w m n
has_met o x w m n h le = subst (HasMet o x w m) (there m n le) (met_by o x w m (n - m) h)
  where
    there : (m n : ℕ) → m ≤ n → m + (n - m) ≡ n
    there m n le = omega arith
