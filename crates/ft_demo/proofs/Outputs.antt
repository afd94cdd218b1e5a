-- How many outputs a run has, and the value of the last one.
use Rattle.std.proofs.Common.{◌≡◌, ℕ, ◌+◌, ◌%◌, ◌^◌, ◌<◌, List, [], ◌∷◌, ◌++◌, length, None, false, true, refl, ap, sym}
use Rattle.std.proofs.Common.{◌∙◌, arith}
use Rattle.ft_isa.specs.declared.output.Output.{Output}
use Rattle.ft_types.specs.declared.object.Object.{Object}
use Rattle.ft_semantics.specs.Run.{outputs_after}
use Rattle.ft_machine.specs.declared.stepped.Pause.{Pause}
use Rattle.ft_machine.specs.declared.stepped.Pause.TheVariants.{Refused}
use Rattle.ft_machine.specs.Goes.{goes_on}
use Rattle.ft_machine.proofs.Counting.{count_next, run_few}
use Rattle.ft_demo.specs.Demonstrations.{last_value_or}
use Rattle.ft_demo.specs.Shown.{Tallies, TalliesMore}
use Rattle.ft_demo.specs.declared.tally.Tally.{Tally}

last_more : (value : ℕ) (outputs : List Output) (output : Output) → last_value_or value (outputs ++ output ∷ [])
    ≡ output.value
last_more value [] output = refl
last_more value (x ∷ xs) output = last_more x.value xs output

-- the tally is right after one more output
pub tally_more : (first old new : Tally) (before : List Output) (x : Output) → TalliesMore first before old → new.count
    ≡ (old.count + 1) % 2 ^ 64 → new.last ≡ x.value → TalliesMore first (before ++ x ∷ []) new
tally_more first old new before x h count last = record {
  count = count_next first.count old.count new.count before x h.count count;
  last = last ∙ sym (last_more first.last before x);
}

-- the tally is right after a whole run
pub tally_whole : (o : Object) (old new : Tally) (taken most : ℕ) (pause : Pause) → old.count ≡ 0 → old.last ≡ 0 →
    most < 2 ^ 64 → (¬ (pause ≡ Refused) → outputs_after o None [] most ≡ outputs_after o None [] taken)
    → goes_on pause ≡ true → TalliesMore old (outputs_after o None [] taken) new →
    Tallies new (outputs_after o None [] most)
tally_whole o old new taken most pause zeros first small whole is h =
    let all = whole (λ refused. absurd (let e : false ≡ true = sym (ap goes_on refused) ∙ is in cc)) in
    let long = run_few o None [] most in
    let same = ap length all in
    let count = h.count (omega (arith, zeros, small, long, same)) in
    record {
      count = omega (arith, count, zeros, same);
      last = h.last ∙ ap (λ value. last_value_or value (outputs_after o None [] taken)) first
          ∙ ap (last_value_or 0) (sym all);
    }
