-- Without a fault, the run of an accepted object is the same whatever the answers to wild loads are.
use Rattle.std.proofs.Common.{◌≡◌, ℕ, zero, suc, true, false, not, ◌&&◌, List, ◌++◌, Option, Some, None, is_some, refl}
use Rattle.std.proofs.Common.{ap, ◌∙◌}
use Rattle.std.specs.Option.{option_or, option_to_list}
use Rattle.ft_isa.specs.declared.colour.Colour.{Colour}
use Rattle.ft_isa.specs.declared.colour.Colour.TheVariants.{Green, Blue}
use Rattle.ft_isa.specs.declared.reg.Reg.{Reg}
use Rattle.ft_isa.specs.declared.plan.Wild.{Wild}
use Rattle.ft_isa.specs.Pending.{newest_at}
use Rattle.ft_types.specs.declared.object.Object.{Object}
use Rattle.ft_semantics.specs.declared.status.Status.{Status}
use Rattle.ft_semantics.specs.declared.status.Status.TheVariants.{Running}
use Rattle.ft_typing.specs.Accepted.{IsAccepted}
use Rattle.ft_types.specs.Spellable.{IsSpellable}
use Rattle.ft_semantics.specs.State.{State, word, cell_at}
use Rattle.ft_semantics.specs.Step.{Stepping, step, step_at, load, found, is_wild}
use Rattle.ft_semantics.specs.Run.{run, state_after, outputs_after, wild_after}
use Rattle.ft_semantics.proofs.StepKinds.{step_at_is}
use Rattle.ft_tolerance.specs.Soundness.{IsUntroubled}
use Rattle.ft_tolerance.proofs.Whole.{accepted_fits}

-- two steps lead to the same state, with the same output
pub record AreSame (x y : Stepping) : Type 0 where
  pub state : x.state ≡ y.state
  pub output : x.output ≡ y.output

-- a load that finds a word does not depend on the answers
load_same : (c : Colour) (rd : Reg) (x : Option ℕ) (s : State) (w v : List Wild) → is_some x ≡ true →
    AreSame (load c rd x s w) (load c rd x s v)
load_same c rd (Some n) s w v h = record { state = refl; output = refl }
load_same c rd None s w v h = absurd (cc)

some_of : (x y : Option ℕ) → (not (is_some x) && not (is_some y)) ≡ false → is_some (option_or x y) ≡ true
some_of (Some n) y h = refl
some_of None (Some m) h = refl
some_of None None h = absurd (cc)

some_alone : (y : Option ℕ) → not (is_some y) ≡ false → is_some y ≡ true
some_alone (Some m) h = refl
some_alone None h = absurd (cc)

-- a load that is not wild finds a word
finds : (c : Colour) (s : State) (a : ℕ) → is_wild c s a ≡ false → is_some (found c s a) ≡ true
finds Green s a h = some_of (newest_at s.queue a) (cell_at s.cells a) h
finds Blue s a h = some_alone (cell_at s.cells a) h

-- a step that meets no wild load does not depend on the answers
pub step_same : (o : Object) (x : Status) (s : State) (w v : List Wild) → s.status ≡ x →
    (s.status ≡ Running → IsUntroubled o s) → AreSame (step_at o x s w) (step_at o x s v)
step_same o x s w v is h =
    step_at_is s (λ f. AreSame (f w) (f v)) (λ t e. record { state = refl; output = refl }) (λ a y e.
    record { state = refl; output = refl }) o x
    (λ go c rd rs e. load_same c rd (found c s (word s rs)) s w v
    (finds c s (word s rs) ((h (is ∙ go)).load c rd rs e)))

-- the two runs are in the same state, with the same outputs
pub record AreSameRuns (o : Object) (w v : List Wild) (n : ℕ) : Type 0 where
  pub state : state_after o None w n ≡ state_after o None v n
  pub outputs : outputs_after o None w n ≡ outputs_after o None v n

pub any_answers : (o : Object) (w v : List Wild) (n : ℕ) → IsSpellable o → IsAccepted o → AreSameRuns o w v n
unfolding run
any_answers o w v zero spelled acc = record { state = refl; outputs = refl }
any_answers o w v (suc n) spelled acc =
    let h = any_answers o w v n spelled acc in
    let s = state_after o None w n in
    let same = step_same o s.status s (wild_after o None w n) (wild_after o None v n) refl
    (accepted_fits o w n spelled acc).untroubled in
    record {
      state = same.state ∙ ap (λ (t : State). (step o t (wild_after o None v n)).state) h.state;
      outputs =
          ap (λ xs. xs ++ option_to_list (step o s (wild_after o None w n)).output) h.outputs
          ∙ ap (λ x. outputs_after o None v n ++ option_to_list x) (same.output
          ∙ ap (λ (t : State). (step o t (wild_after o None v n)).output) h.state);
    }
