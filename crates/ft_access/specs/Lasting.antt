-- How long a word lasts in the run without a fault: until a step reads it, overwrites it or stops the machine.
use Rattle.std.specs.Prelude.{◌≡◌, ◌≤◌, ℕ, suc, true, false, List, Option, None}
use Rattle.ft_isa.specs.declared.instr.Instr.{Instr}
use Rattle.ft_isa.specs.declared.plan.Site.{Site}
use Rattle.ft_isa.specs.declared.plan.Strike.{Strike}
use Rattle.ft_isa.specs.declared.plan.Wild.{Wild}
use Rattle.ft_types.specs.declared.object.Object.{Object}
use Rattle.ft_semantics.specs.declared.status.Status.TheVariants.{Running}
use Rattle.ft_semantics.specs.Step.{Stepping}
use Rattle.ft_semantics.specs.Strike.{is_there, struck_state}
use Rattle.ft_semantics.specs.Run.{state_after, outputs_after, status_after}
use Rattle.ft_access.specs.Access.{reads_site, overwrites, site_after}

-- ONE STEP

-- a step from a struck state, compared with the step from the state itself: the same output, answers left and status
pub record IsUnnoticed (t u : Stepping) : Type 0 where
  pub output : u.output ≡ t.output
  pub wild : u.wild ≡ t.wild
  pub status : u.state.status ≡ t.state.status

-- the site is there after the first step, and to strike it there gives the second
pub record IsPostponed (x : Site) (v : ℕ) (t u : Stepping) : Type 0 where
  pub there : is_there t.state x ≡ true
  pub struck : u ≡ record t { state = struck_state t.state x v }

-- RUNS

-- what is fetched before step k of the run without a fault
abbrev pub fetched_at : Object → List Wild → ℕ → Option Instr
fetched_at o w k = (state_after o None w k).fetched

-- the word at site x before step k is there before step l, at site y: no step in between reads it, overwrites it or
-- stops the machine
pub data Lasts (o : Object) (w : List Wild) (k : ℕ) (x : Site) : ℕ → Site → Type 0 where
  at_once : is_there (state_after o None w k) x ≡ true → Lasts o w k x k x
  further : (l : ℕ) (y : Site) → Lasts o w k x l y →
      reads_site (fetched_at o w l) y ≡ false →
      overwrites (fetched_at o w l) y ≡ false →
      status_after o None w (suc l) ≡ Running →
      Lasts o w k x (suc l) (site_after (fetched_at o w l) y)

-- a step neither reads nor overwrites a site, and does not move its word; blue stores alone move words, of pending entries
pub record IsUntouched (fetched : Option Instr) (x : Site) : Type 0 where
  pub unread : reads_site fetched x ≡ false
  pub kept : overwrites fetched x ≡ false
  pub still : site_after fetched x ≡ x

-- the word at site x before step k is read by none of the first n steps: it lasts to the last of them, or to a step
-- that overwrites it or stops the machine without reading it
pub data IsDead (o : Object) (w : List Wild) (n k : ℕ) (x : Site) : Type 0 where
  unread : (l : ℕ) (y : Site) → Lasts o w k x l y → n ≤ l → IsDead o w n k x
  overwritten : (l : ℕ) (y : Site) → Lasts o w k x l y → reads_site (fetched_at o w l) y ≡ false →
      overwrites (fetched_at o w l) y ≡ true → IsDead o w n k x
  at_stop : (l : ℕ) (y : Site) → Lasts o w k x l y → reads_site (fetched_at o w l) y ≡ false →
      ¬ (status_after o None w (suc l) ≡ Running) → IsDead o w n k x

-- a strike at this step, at this site, with this word
abbrev pub strike_at : ℕ → Site → ℕ → Strike
strike_at k x v = record { step = k; site = x; value = v }

-- two plans give the same outputs and the same status after n steps
pub record IsSameAfter (o : Object) (p q : Option Strike) (w : List Wild) (n : ℕ) : Type 0 where
  pub outputs : outputs_after o p w n ≡ outputs_after o q w n
  pub status : status_after o p w n ≡ status_after o q w n
