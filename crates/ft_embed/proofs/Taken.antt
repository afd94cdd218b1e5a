-- Runs under a plan, with their outputs in an array.
use Rattle.std.proofs.Common.{◌≡◌, ℕ, zero, suc, ◌+◌, ◌-◌, ◌<◌, ◌≤◌, List, ◌++◌, length, Option, ap, sym, subst, ◌∙◌}
use Rattle.std.proofs.Common.{⊎_elim, arith, add-zero}
use Rattle.std.specs.Prelude.{map}
use Rattle.std.proofs.lemmas.Bool.{cases_lt}
use Rattle.std.proofs.lemmas.List.{map-append, length-append}
use Rattle.ft_isa.specs.declared.plan.Wild.{Wild}
use Rattle.ft_isa.specs.declared.plan.Strike.{Strike}
use Rattle.ft_types.specs.declared.object.Object.{Object}
use Rattle.ft_semantics.specs.declared.status.Status.TheVariants.{Running}
use Rattle.ft_semantics.specs.State.{State, start, is_cell, HasCells}
use Rattle.ft_semantics.specs.Strike.{struck_before}
use Rattle.ft_semantics.specs.Run.{Ran, run}
use Rattle.ft_machine.specs.Spans.{span, span-zero, Spares}
use Rattle.ft_machine.proofs.Steps.{strike_keeps}
use Rattle.ft_machine.proofs.Spanned.{run_first, run_second, outputs_second, rest_of}
use Rattle.ft_embed.specs.declared.filling.CellOutput.{CellOutput}
use Rattle.ft_embed.specs.Outputs.{Fills, GoesUntil, MayGoOn, Takes, cell_output}
use Rattle.ft_flight.proofs.Turns.{rest_below}

-- a strike neither adds nor removes a cell
pub struck_cells : (strike : Option Strike) (k cells : ℕ) (s t : State) → t ≡ struck_before strike k s →
    HasCells cells s → HasCells cells t
struck_cells strike k cells s t struck has a =
    ap (λ (q : State). is_cell q.cells a) struck ∙ ap (λ m. is_cell m a) (strike_keeps strike k s).cells ∙ has a

-- steps from the start, with no strike within them
module _ (o : Object) (strike : Option Strike) (w : List Wild) (s0 : State) (w0 : List Wild) (begun : s0
    ≡ start o) (answers : w0 ≡ w) where
  -- before each of these steps, the run had not stopped and the array had room
  pub might_first : (n c : ℕ) (s1 : State) (w1 : List Wild) (old mid new : List CellOutput) → length new ≡ length old →
      ((j : ℕ) → j < n → Spares strike j) → Fills o s0 w0 n s1 w1 0 c old mid → GoesUntil o strike w n (length new)
  might_first n c s1 w1 old mid new same spares a k less =
      let is = run_first o strike w w0 s0 k begun answers (λ j below. spares j (omega (arith, below, less))) in
      let m = a.before k less in
      let outs = ap (λ (r : Ran). length r.outputs) is in
      let room = m.free in
      record { running = ap (λ (r : Ran). r.state.status) is ∙ m.running; free = omega (arith, outs, room, same) }

  pub takes_first : (steps n before c : ℕ) (s1 : State) (w1 : List Wild) (old new : List CellOutput) →
      ((j : ℕ) → j < before → Spares strike j) → n ≤ before → before ≤ steps → c ≤ length new → length new ≡ length old
      → (s1.status ≡ Running → c < length new → n ≡ steps) → Fills o s0 w0 n s1 w1 0 c old new →
      Takes o strike w steps n s1.status c new
  takes_first steps n before c s1 w1 old new spares few le within same all a =
      let spared_by : (j : ℕ) → j < n → Spares strike j = λ j below. spares j (omega (arith, below, few)) in
      let is = run_first o strike w w0 s0 n begun answers spared_by in
      record {
        few = omega (arith, few, le);
        within = within;
        outputs = a.outputs ∙ ap (λ (r : Ran). map cell_output r.outputs) (sym is);
        status_is = ap (λ (s : State). s.status) a.state_is ∙ ap (λ (r : Ran). r.state.status) (sym is);
        all = all;
        before = might_first n c s1 w1 old new new same spared_by a;
      }

-- steps after a strike, or without one
module _ (o : Object) (strike : Option Strike) (w : List Wild) (before : ℕ) (s1 s2 : State) (w1 : List Wild)
    (state_is : s1 ≡ (run o strike w before).state) (wild_is : w1 ≡ (run o strike w before).wild) (struck : s2
    ≡ struck_before strike before s1)
    (spares : (j : ℕ) → before < j → Spares strike j) where
  pub status_on : (m : ℕ) → (span o m s2 w1).state.status ≡ (run o strike w (before + m)).state.status
  status_on zero =
      ap (λ (r : Ran). r.state.status) (span-zero o s2 w1)
      ∙ ap (λ (s : State). s.status) struck
      ∙ (strike_keeps strike before s1).status
      ∙ ap (λ (s : State). s.status) state_is
      ∙ ap (λ i. (run o strike w i).state.status) (sym (add-zero before))
  status_on (suc m) =
      ap (λ (x : Ran). x.state.status)
      (sym (run_second o strike w s1 s2 w1 before (suc m) state_is wild_is struck spares (omega arith)))

  -- likewise for these steps, whose outputs are in an array after those before the strike
  pub might_second : (m c1 c2 : ℕ) (s3 : State) (w3 : List Wild) (mid new : List CellOutput) → length new ≡ length mid →
      c1 ≡ length (run o strike w before).outputs → Fills o s2 w1 m s3 w3 c1 c2 mid new
      → (k : ℕ) → k < m → MayGoOn (run o strike w (before + k)).state.status
      (length (run o strike w (before + k)).outputs) (length new)
  might_second m c1 c2 s3 w3 mid new same is b k less =
      let h = b.before k less in
      let outs = ap length (outputs_second o strike w s1 s2 w1 before state_is wild_is struck spares k)
      ∙ length-append (run o strike w before).outputs (span o k s2 w1).outputs in
      let room = h.free in
      record { running = sym (status_on k) ∙ h.running; free = omega (arith, outs, room, same, is) }

-- the steps before a strike and those after it make up one run under the plan
pub takes_second : (o : Object) (strike : Option Strike) (w : List Wild) (s0 s1 s2 s3 : State) (w0 w1 w3 : List Wild)
    (steps n before m c1 c2 : ℕ) (old mid new : List CellOutput) → s0 ≡ start o → w0 ≡ w →
    ((j : ℕ) → j < before → Spares strike j) → ((j : ℕ) → before < j → Spares strike j)
    → n ≡ before → before + m ≤ steps → c2 ≤ length new → length mid ≡ length old → length new ≡ length mid →
    (s3.status ≡ Running → c2 < length new → before + m ≡ steps)
    → Fills o s0 w0 n s1 w1 0 c1 old mid → s2 ≡ struck_before strike before s1 → Fills o s2 w1 m s3 w3 c1 c2 mid new →
    Takes o strike w steps (before + m) s3.status c2 new
takes_second o strike w s0 s1 s2 s3 w0 w1 w3 steps n before m c1 c2 old mid new begun answers spares after all_before
    few within same same' all a struck b =
    let a' : Fills o s0 w0 before s1 w1 0 c1 old mid = subst (λ k. Fills o s0 w0 k s1 w1 0 c1 old mid) all_before a in
    let is = run_first o strike w w0 s0 before begun answers spares in
    let state_is = a'.state_is ∙ ap (λ (r : Ran). r.state) (sym is) in
    let wild_is = a'.wild_is ∙ ap (λ (r : Ran). r.wild) (sym is) in
    let xs = (run o strike w before).outputs in
    let ys = (span o m s2 w1).outputs in
    let earlier = ap (λ (r : Ran). length r.outputs) is in
    let counted = a'.count_is in
    record {
      few = few;
      within = within;
      outputs =
          b.outputs
          ∙ ap (λ l. l ++ map cell_output ys) (a'.outputs ∙ ap (λ (r : Ran). map cell_output r.outputs) (sym is))
          ∙ sym (map-append cell_output xs ys)
          ∙ ap (map cell_output) (sym (outputs_second o strike w s1 s2 w1 before state_is wild_is struck after m));
      status_is = ap (λ (s : State). s.status) b.state_is
          ∙ status_on o strike w before s1 s2 w1 state_is wild_is struck after m;
      all = all;
      before = λ j below. ⊎_elim
          (λ (lt : j < before). might_first o strike w s0 w0 begun answers before c1 s1 w1 old mid new (same'
          ∙ same) spares a' j lt)
          (λ (le : before ≤ j). subst (λ i. MayGoOn (run o strike w i).state.status (length (run o strike w i).outputs)
          (length new)) (rest_of before j le)
          (might_second o strike w before s1 s2 w1 state_is wild_is struck after m c1 c2 s3 w3 mid new same'
          (omega (arith, earlier, counted)) b (j - before) (rest_below before m j below le)))
          (cases_lt j before);
    }
