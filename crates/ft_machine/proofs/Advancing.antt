-- Steps up to the first that is not quiet.
use Rattle.std.proofs.Common.{◌≡◌, ℕ, ◌+◌, ◌-◌, ◌<◌, ◌≤◌, List, [], ◌∷◌, ◌++◌, Option, Some, None, true, refl, ap, sym}
use Rattle.std.proofs.Common.{◌∙◌, arith}
use Rattle.std.specs.Option.{option_to_list}
use Rattle.ft_isa.specs.declared.plan.Wild.{Wild}
use Rattle.ft_isa.specs.declared.output.Output.{Output}
use Rattle.ft_types.specs.declared.object.Object.{Object}
use Rattle.ft_semantics.specs.State.{State, is_cell, HasCells}
use Rattle.ft_semantics.specs.Step.{step}
use Rattle.ft_semantics.specs.Run.{Ran, extended}
use Rattle.ft_machine.specs.declared.outlet.Outlet.{Ghosts}
use Rattle.ft_machine.specs.declared.stepped.Stepped.{Stepped}
use Rattle.ft_machine.specs.declared.stepped.Stepped.TheVariants.{Commit}
use Rattle.ft_machine.specs.declared.stepped.Pause.{Pause}
use Rattle.ft_machine.specs.declared.stepped.Pause.TheVariants as pauses
use Rattle.ft_machine.specs.Spans.{span, span-add_one}
use Rattle.ft_machine.specs.Advances.{Advances, IsFirst, last_of}
use Rattle.ft_machine.specs.Goes.{Goes, goes_on}
use Rattle.ft_machine.proofs.Steps.{step_is_proper}
use Rattle.ft_machine.proofs.Spanned.{span_join, span_keeps_cells, rest_of}

one_of : (x : Option Output) (out : Output) → option_to_list x ≡ out ∷ [] → x ≡ Some out
one_of None out h = absurd (cc)
one_of (Some y) out h = cc

one_less : (n : ℕ) → 0 < n → (n - 1) + 1 ≡ n
one_less n some = omega arith

below_it : (n : ℕ) → 0 < n → n - 1 < n
below_it n some = omega arith

-- a committed pair goes to a cell
pub advances_to_cell : (o : Object) (s s' : State) (w w' : List Wild) (most n : ℕ) (out : Output) →
    Advances o s w s' w' most n (Commit out) → is_cell s.cells out.addr ≡ true
advances_to_cell o s s' w w' most n out a =
    let some = a.enough.0 in
    let q = span o (n - 1) s w in
    let t = step o q.state q.wild in
    let last : span o n s w ≡ extended q.outputs t = ap (λ k. span o k s w) (sym (one_less n some))
    ∙ span-add_one o (n - 1) s w in
    let alone : option_to_list t.output ≡ out ∷ [] =
    ap (λ xs. xs ++ option_to_list t.output) (sym (a.before (n - 1) (below_it n some)).nothing)
    ∙ sym (ap (λ (r : Ran). r.outputs) last) ∙ a.outputs in
    sym (span_keeps_cells o (n - 1) s w out.addr) ∙
    ((step_is_proper o q.state q.wild).output out (one_of t.output out alone)).1

-- the cells keep their addresses
pub advances_cells : (o : Object) (s s' : State) (w w' : List Wild) (most n : ℕ) (last : Stepped) →
    Advances o s w s' w' most n last → (c : ℕ) → HasCells c s → HasCells c s'
advances_cells o s s' w w' most n last a c h q = ap (λ (x : State). is_cell x.cells q) a.state_is
    ∙ span_keeps_cells o n s w q ∙ h q

none_of : (xs ys : List Output) → [] ≡ xs ++ ys → xs ≡ []
none_of [] ys h = refl
none_of (x ∷ xs) ys h = absurd (cc)

-- if n steps commit nothing, the first j of them commit nothing
none_before : (o : Object) (j n : ℕ) (s : State) (w : List Wild) → j ≤ n → (span o n s w).outputs ≡ [] →
    (span o j s w).outputs ≡ []
none_before o j n s w le none =
    none_of (span o j s w).outputs (span o (n - j) (span o j s w).state (span o j s w).wild).outputs
    (sym none ∙ ap (λ k. (span o k s w).outputs) (sym (rest_of j n le))
    ∙ ap (λ (r : Ran). r.outputs) (span_join o j (n - j) s w))

alone : (xs : List Output) (x : Output) (y : Option Output) → option_to_list y ≡ xs ++ x ∷ [] → xs ≡ []
alone [] x y h = refl
alone (z ∷ []) x None h = absurd (cc)
alone (z ∷ (v ∷ vs)) x None h = absurd (cc)
alone (z ∷ []) x (Some y) h = absurd (cc)
alone (z ∷ (v ∷ vs)) x (Some y) h = absurd (cc)

kept_one : (y : Option Output) (xs : List Output) (x : Output) → option_to_list y ≡ xs ++ x ∷ [] → (output : Output)
    × (y ≡ Some output)
kept_one (Some y) xs x h = (y, refl)
kept_one None [] x h = absurd (cc)
kept_one None (z ∷ zs) x h = absurd (cc)

up_to : (j n k : ℕ) → j < n → n ≡ k + 1 → j ≤ k
up_to j n k below is = omega (arith, below, is)

at_most : (n : ℕ) → n ≤ n
at_most n = omega arith

later : (j n : ℕ) → j < n → j ≤ n
later j n below = omega (arith, below)

-- steps that end at the first output, if there is one
module _ {T : Type 0} (outlet : Ghosts T) (o : Object) (s s' : State) (w w' : List Wild) (t t' : T) (n most : ℕ) where
  pub advances_first : (pause : Pause) (y : Option Output) → Goes outlet o s w t s' w' t' n pause →
      IsFirst None (span o n s w).outputs (goes_on pause) y
      → n ≤ most → (¬ (pause ≡ pauses.Running) → 0 < n) → (pause ≡ pauses.Running → n ≡ most) →
      Advances o s w s' w' most n (last_of pause y)
  advances_first pauses.Running y a f few some all = record {
    enough = all refl;
    state_is = a.state_is;
    wild_is = a.wild_is;
    outputs = f.0;
    status_is = a.status_is;
    before = λ j below. record { running = a.running j below; nothing = none_before o j n s w (later j n below) f.0 };
  }
  advances_first pauses.Done y a f few some all = record {
    enough = (some (λ e. absurd (cc)), few);
    state_is = a.state_is;
    wild_is = a.wild_is;
    outputs = f.0;
    status_is = a.status_is;
    before = λ j below. record { running = a.running j below; nothing = none_before o j n s w (later j n below) f.0 };
  }
  advances_first pauses.Detected y a f few some all = record {
    enough = (some (λ e. absurd (cc)), few);
    state_is = a.state_is;
    wild_is = a.wild_is;
    outputs = f.0;
    status_is = a.status_is;
    before = λ j below. record { running = a.running j below; nothing = none_before o j n s w (later j n below) f.0 };
  }
  advances_first pauses.Refused (Some y) a f few some all =
      let k = a.last.0 in
      let x = a.last.1.0 in
      let none = alone (span o k s w).outputs x (Some y) (f ∙ a.last.1.1.1) in
      record {
        enough = (some (λ e. absurd (cc)), few);
        state_is = a.state_is;
        wild_is = a.wild_is;
        outputs = sym f;
        status_is = a.status_is;
        before = λ j below. record {
          running = a.running j below;
          nothing = none_before o j k s w (up_to j n k below a.last.1.1.0) none;
        };
      }
  advances_first pauses.Refused None a f few some all = let kept =
      kept_one None (span o a.last.0 s w).outputs a.last.1.0 (f ∙ a.last.1.1.1) in absurd (cc)
