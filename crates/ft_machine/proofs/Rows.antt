-- How the code chooses between the rows of the table of steps.
use Rattle.std.proofs.Common.{◌≡◌, ◌≢◌, ℕ, ◌≤◌, Bool, true, false, ◌&&◌, List, length, None, ap, sym, subst, ◌∙◌, refl}
use Rattle.std.proofs.Common.{nat_lt}
use Rattle.std.specs.Prelude.{if◌then◌else◌, ◌==◌}
use Rattle.std.proofs.lemmas.Bool.{eq-eqb, ne_eqb, ltb-false}
use Rattle.ft_isa.specs.declared.plan.Wild.{Wild}
use Rattle.ft_isa.specs.Pending.{Pending, with_address, with_value}
use Rattle.ft_queue.proofs.PendingLemmas.{with_address-beyond, with_value-beyond}
use Rattle.ft_types.specs.declared.object.Object.{Object}
use Rattle.ft_types.specs.Objects.{instr_at}
use Rattle.ft_semantics.specs.State.{State}
use Rattle.ft_semantics.specs.Step.{Stepping, detected, advance, fetch}
use Rattle.ft_isa.specs.declared.plan.Site.TheVariants.{QAddr, QVal}
use Rattle.ft_semantics.specs.declared.status.Status.TheVariants.{Running}
use Rattle.ft_semantics.specs.Strike.{is_running, is_there, struck_state}
use Rattle.ft_machine.specs.declared.stepped.Stepped.{Stepped}
use Rattle.ft_machine.specs.Answers.{TakesQuietly}

-- if the condition holds, the choice takes the step of its first case
takes_first : (b : Bool) (t u : List Wild → Stepping) (s : State) (answer : Stepped) → b ≡ true →
    TakesQuietly t s answer → TakesQuietly (λ w. if b then t w else u w) s answer
takes_first b t u s answer holds h = subst (λ v. TakesQuietly (λ w. if v then t w else u w) s answer) (sym holds) h

-- if the condition fails, the choice takes the step of its second case
takes_second : (b : Bool) (t u : List Wild → Stepping) (s : State) (answer : Stepped) → b ≡ false →
    TakesQuietly u s answer → TakesQuietly (λ w. if b then t w else u w) s answer
takes_second b t u s answer fails h = subst (λ v. TakesQuietly (λ w. if v then t w else u w) s answer) (sym fails) h

-- if the counters differ, nothing is fetched
pub fetch_apart : (o : Object) (s s' : State) (x : Stepped) → s.pc_green ≢ s.pc_blue → TakesQuietly (detected s) s' x →
    TakesQuietly (advance o None s) s' x
fetch_apart o s s' x apart h = takes_second (s.pc_green == s.pc_blue) (fetch (instr_at o s.pc_green) s) (detected s) s'
    x (ne_eqb _ _ apart) h

-- nothing is fetched if there is no instruction
pub fetch_none : (o : Object) (s s' : State) (x : Stepped) → s.pc_green ≡ s.pc_blue → None ≡ instr_at o s.pc_green →
    TakesQuietly (detected s) s' x → TakesQuietly (advance o None s) s' x
fetch_none o s s' x together none h =
    takes_first (s.pc_green == s.pc_blue) (fetch (instr_at o s.pc_green) s) (detected s) s' x (eq-eqb _ _ together)
    (subst (λ i. TakesQuietly (fetch i s) s' x) none h)

chosen_same : (b : Bool) (s t : State) → (b ≡ false → t ≡ s) → t ≡ (if b then t else s)
chosen_same true s t h = refl
chosen_same false s t h = h refl

-- a running state has no entry i if the site of entry i does not exist
no_entry : (s : State) (i : ℕ) → s.status ≡ Running → (is_running s.status && nat_lt i (length s.queue)) ≡ false →
    length s.queue ≤ i
no_entry s i running absent = ltb-false i (length s.queue)
    (ap (λ x. is_running x && nat_lt i (length s.queue)) (sym running) ∙ absent)

-- striking a queued address changes the address of that entry
pub strike_address : (s : State) (i v : ℕ) (q : Pending) → s.status ≡ Running → q ≡ with_address s.queue i v →
    record s { queue = q } ≡ struck_state s (QAddr i) v
strike_address s i v q running is =
    ap (λ (p : Pending). record s { queue = p }) is
    ∙ chosen_same (is_there s (QAddr i)) s (record s { queue = with_address s.queue i v })
    (λ absent. ap (λ (p : Pending). record s { queue = p })
    (with_address-beyond s.queue i v (no_entry s i running absent)))

-- striking a queued value changes the value of that entry
pub strike_value : (s : State) (i v : ℕ) (q : Pending) → s.status ≡ Running → q ≡ with_value s.queue i v →
    record s { queue = q } ≡ struck_state s (QVal i) v
strike_value s i v q running is =
    ap (λ (p : Pending). record s { queue = p }) is
    ∙ chosen_same (is_there s (QVal i)) s (record s { queue = with_value s.queue i v })
    (λ absent. ap (λ (p : Pending). record s { queue = p })
    (with_value-beyond s.queue i v (no_entry s i running absent)))
