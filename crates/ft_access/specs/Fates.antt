-- The fate of a word in the run without a fault: the step that reads it first, or none. Faults with the same fate and
-- the same word form a class, and one of them stands for all.
use Rattle.std.specs.Prelude.{◌≡◌, ◌-◌, ◌<◌, ℕ, zero, suc, Bool, true, List, Option, Some, None, if◌then◌else◌}
use Rattle.ft_isa.specs.declared.instr.Instr.{Instr}
use Rattle.ft_isa.specs.declared.plan.Site.{Site}
use Rattle.ft_isa.specs.declared.plan.Strike.{Strike}
use Rattle.ft_isa.specs.declared.plan.Wild.{Wild}
use Rattle.ft_types.specs.declared.object.Object.{Object}
use Rattle.ft_semantics.specs.Strike.{is_running}
use Rattle.ft_semantics.specs.Run.{status_after}
use Rattle.ft_access.specs.Access.{reads_site, overwrites, site_after}
use Rattle.ft_access.specs.Lasting.{fetched_at, strike_at, Lasts}

-- the step that reads the word first, and the site where the word then is; or no step reads it
pub data Fate : Type 0 where
  ReadAt : ℕ → Site → Fate
  Unread : Fate

-- the fate of each word before step k, from the fates before step k + 1: by what the step does to the word's site, and
-- whether the machine still runs after the step
abbrev pub fate_before : Option Instr → ℕ → Bool → (Site → Fate) → Site → Fate
fate_before fetched k runs_on later x =
    if reads_site fetched x then ReadAt k x
    else if overwrites fetched x then Unread
    else if runs_on then later (site_after fetched x) else Unread

-- the fate of the word at a site before step k, if so many steps are left
abbrev pub fate : Object → List Wild → ℕ → ℕ → Site → Fate
fate o w zero k x = Unread
fate o w (suc left) k x = fate_before (fetched_at o w k) k (is_running (status_after o None w (suc k))) (fate o w left (suc k)) x

-- the word is read at this step, and lasts until then
pub record IsReadAt (o : Object) (w : List Wild) (n k : ℕ) (x : Site) (l : ℕ) (y : Site) : Type 0 where
  pub lasts : Lasts o w k x l y
  pub reads : reads_site (fetched_at o w l) y ≡ true
  pub within : l < n

-- the fault that stands for the faults with a fate and a word
abbrev pub fault_of : Fate → ℕ → Option Strike
fault_of (ReadAt l y) v = Some (strike_at l y v)
fault_of Unread v = None

-- the fault that stands for a fault in runs of n steps: the strike of its word just before the word is read
abbrev pub representative : Object → List Wild → ℕ → Strike → Option Strike
representative o w n x = fault_of (fate o w (n - x.step) x.step x.site) x.value
