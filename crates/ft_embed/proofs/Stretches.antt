-- Steps whose outputs are in an array.
use Rattle.std.proofs.Common.{◌≡◌, ℕ, ◌+◌, ◌-◌, ◌<◌, ◌≤◌, List, ◌++◌, true, refl, length, ap, sym, subst, ◌∙◌}
use Rattle.std.proofs.Common.{⊎_elim, append_assoc, add-zero, arith}
use Rattle.std.specs.Prelude.{take, map}
use Rattle.std.specs.Option.{option_to_list}
use Rattle.std.proofs.lemmas.Bool.{cases_lt}
use Rattle.std.proofs.lemmas.List.{map-append, append-nil, length-append, length-map, length-take-le}
use Rattle.ft_isa.specs.declared.plan.Wild.{Wild}
use Rattle.ft_isa.specs.declared.output.Output.{Output}
use Rattle.ft_types.specs.declared.object.Object.{Object}
use Rattle.ft_semantics.specs.State.{State, is_cell, HasCells}
use Rattle.ft_semantics.specs.Run.{Ran}
use Rattle.ft_machine.specs.declared.stepped.Stepped.{Stepped}
use Rattle.ft_machine.specs.declared.stepped.Stepped.TheVariants.{Quiet, Commit, Done, Detected}
use Rattle.ft_machine.specs.Advances.{Advances, IsEnough, IsQuiet, output_told}
use Rattle.ft_machine.specs.Spans.{span, span-zero}
use Rattle.ft_machine.proofs.Spanned.{joined, span_then, span_has_cells, cell_bounds, rest_of}
use Rattle.ft_flight.proofs.Turns.{rest_below, enough_few, rest_less}
use Rattle.ft_embed.specs.declared.filling.CellOutput.{CellOutput}
use Rattle.ft_embed.specs.Outputs.{Fills, GoesToCell, MayGoOn, cell_output}

-- an output that a step commits goes to a cell
pub goes_to_cell : (last : Stepped) (s : State) (cells : ℕ) → HasCells cells s →
    ((output : Output) → last ≡ Commit output → is_cell s.cells output.addr ≡ true) → GoesToCell last
goes_to_cell Quiet s cells has commits = tt
goes_to_cell (Commit output) s cells has commits =
    (cell_bounds cells output.addr (sym (has output.addr) ∙ commits output refl)).0
goes_to_cell Done s cells has commits = tt
goes_to_cell Detected s cells has commits = tt

none_below : (j : ℕ) → j < 0 → ⊥
none_below j less = omega (arith, less)

-- `Fills` holds when no steps were taken
pub fills_none : (o : Object) (s : State) (w : List Wild) (from : ℕ) (out : List CellOutput) →
    Fills o s w 0 s w from from out out
fills_none o s w from out = record {
  state_is = ap (λ (r : Ran). r.state) (sym (span-zero o s w));
  wild_is = ap (λ (r : Ran). r.wild) (sym (span-zero o s w));
  outputs = sym (append-nil (take from out)) ∙ ap (λ (r : Ran). take from out
      ++ map cell_output r.outputs) (sym (span-zero o s w));
  count_is = sym (add-zero from) ∙ ap (λ (r : Ran). from + length r.outputs) (sym (span-zero o s w));
  before = λ j less. absurd (none_below j less);
}

-- the machine keeps its cells
pub fills_cells : (o : Object) (s s' : State) (w w' : List Wild) (n from count : ℕ) (old new : List CellOutput) →
    Fills o s w n s' w' from count old new → (cells : ℕ) → HasCells cells s → HasCells cells s'
fills_cells o s s' w w' n from count old new a cells has =
    subst (HasCells cells) (sym a.state_is) (span_has_cells o cells n s w has)

-- steps that follow others
module _ (o : Object) (s s1 : State) (w w1 : List Wild) (n from c1 : ℕ) (old mid : List CellOutput)
    (a : Fills o s w n s1 w1 from c1 old mid) where
  whole : (k : ℕ) → span o (n + k) s w ≡ joined (span o n s w).outputs (span o k s1 w1)
  whole k = span_then o n k s s1 w w1 a.state_is a.wild_is

  -- the number of earlier outputs plus the number of outputs of all n + k steps is the number of outputs in the array
  -- plus the number of outputs of the last k steps
  counted : (k : ℕ) → from + length (span o (n + k) s w).outputs ≡ c1 + length (span o k s1 w1).outputs
  counted k =
      let more = ap (λ (r : Ran). length r.outputs) (whole k)
      ∙ length-append (span o n s w).outputs (span o k s1 w1).outputs in
      let is = a.count_is in
      omega (arith, more, is)

  might : (k : ℕ) → length mid ≡ length old → MayGoOn (span o k s1 w1).state.status
      (c1 + length (span o k s1 w1).outputs) (length mid)
      → MayGoOn (span o (n + k) s w).state.status (from + length (span o (n + k) s w).outputs) (length old)
  might k same h =
      let c = counted k in
      let r = h.free in
      record { running = ap (λ (r : Ran). r.state.status) (whole k) ∙ h.running; free = omega (arith, c, r, same) }

  pub fills_more : (s2 : State) (w2 : List Wild) (m c2 : ℕ) (new : List CellOutput) → length mid ≡ length old →
      Fills o s1 w1 m s2 w2 c1 c2 mid new → Fills o s w (n + m) s2 w2 from c2 old new
  fills_more s2 w2 m c2 new same b =
      let xs = (span o n s w).outputs in
      let ys = (span o m s1 w1).outputs in
      record {
        state_is = b.state_is ∙ ap (λ (r : Ran). r.state) (sym (whole m));
        wild_is = b.wild_is ∙ ap (λ (r : Ran). r.wild) (sym (whole m));
        outputs =
            b.outputs
            ∙ ap (λ l. l ++ map cell_output ys) a.outputs
            ∙ append_assoc (take from old) (map cell_output xs) (map cell_output ys)
            ∙ ap (λ l. take from old ++ l) (sym (map-append cell_output xs ys))
            ∙ ap (λ (r : Ran). take from old ++ map cell_output r.outputs) (sym (whole m));
        count_is = b.count_is ∙ sym (counted m);
        before = λ j below. ⊎_elim
            (λ (lt : j < n). a.before j lt)
            (λ (le : n ≤ j).
            subst (λ i. MayGoOn (span o i s w).state.status (from + length (span o i s w).outputs) (length old))
            (rest_of n j le)
            (might (j - n) same (b.before (j - n) (rest_below n m j below le))))
            (cases_lt j n);
      }

-- the steps of one call, with room for one more output
module _ (o : Object) (s s' : State) (w w' : List Wild) (most n at after : ℕ) (last : Stepped)
    (old new : List CellOutput) (a : Advances o s w s' w' most n last) (room : at < length old)
    (within : after ≤ length new)
    (put : take after new ≡ take at old ++ map cell_output (option_to_list (output_told last))) where
  put_counted : after ≡ at + length (span o n s w).outputs
  put_counted =
      let outs : List Output = option_to_list (output_told last) in
      let whole = sym (length-take-le after new within) ∙ ap length put
      ∙ length-append (take at old) (map cell_output outs) in
      let low : at ≤ length old = omega (arith, room) in
      let front = length-take-le at old low in
      let back = length-map outs cell_output in
      let is = ap length a.outputs in
      omega (arith, whole, front, back, is)

  quiet_room : (j : ℕ) → IsQuiet (span o j s w) → MayGoOn (span o j s w).state.status
      (at + length (span o j s w).outputs) (length old)
  quiet_room j q =
      let none : length (span o j s w).outputs ≡ 0 = ap length q.nothing in
      record { running = q.running; free = omega (arith, none, room) }

  pub fills_step : Fills o s w n s' w' at after old new
  fills_step = record {
    state_is = a.state_is;
    wild_is = a.wild_is;
    outputs = put ∙ ap (λ xs. take at old ++ map cell_output xs) (sym a.outputs);
    count_is = put_counted;
    before = λ j less. quiet_room j (a.before j less);
  }

-- the loop's invariant holds before the first iteration
pub fills_first : (o : Object) (s : State) (w : List Wild) (most from : ℕ) (out : List CellOutput) →
    Fills o s w (most - most) s w from from out out
fills_first o s w most from out = let none : 0 ≡ most - most = omega arith in
    subst (λ n. Fills o s w n s w from from out out) none (fills_none o s w from out)

-- one iteration keeps the loop's invariant
pub fills_on : (o : Object) (s s1 s2 : State) (w w1 w2 : List Wild) (most left n from count after : ℕ) (last : Stepped)
    (old mid new : List CellOutput) → left ≤ most → length mid ≡ length old → count < length mid → after ≤ length new
    → Fills o s w (most - left) s1 w1 from count old mid → Advances o s1 w1 s2 w2 left n last
    → take after new ≡ take count mid ++ map cell_output (option_to_list (output_told last)) →
    Fills o s w (most - (left - n)) s2 w2 from after old new
fills_on o s s1 s2 w w1 w2 most left n from count after last old mid new le same room within a b put =
    subst (λ k. Fills o s w k s2 w2 from after old new) (rest_less most left n le (enough_few last n left b.enough))
    (fills_more o s s1 w w1 (most - left) from count old mid a s2 w2 n after new same
    (fills_step o s1 s2 w1 w2 left n count after last mid new b room within put))
