-- What the fates kept in arrays mean.
use Rattle.std.specs.Prelude.{◌≡◌, ◌<◌, ◌-◌, Bool, ℕ, suc, List, Option, Some, None, get_or, if◌then◌else◌}
use Rattle.ft_isa.specs.declared.instr.Instr.{Instr}
use Rattle.ft_isa.specs.declared.plan.Site.{Site}
use Rattle.ft_isa.specs.declared.plan.Site.TheVariants.{R, D, PcG, PcB, QAddr, QVal}
use Rattle.ft_isa.specs.declared.reg.Reg.{Reg}
use Rattle.ft_isa.specs.declared.plan.Strike.{Strike}
use Rattle.ft_isa.specs.declared.plan.Wild.{Wild}
use Rattle.ft_types.specs.declared.object.Object.{Object}
use Rattle.ft_semantics.specs.Strike.{is_running}
use Rattle.ft_semantics.specs.Run.{status_after}
use Rattle.ft_access.specs.Access.{reads_site, overwrites, site_after}
use Rattle.ft_access.specs.Fates.{Fate, ReadAt, Unread, fate, fault_of}
use Rattle.ft_access.specs.Lasting.{fetched_at}
use Rattle.ft_access.specs.declared.fates.EntryRead.{EntryRead}
use Rattle.ft_access.specs.declared.fates.RegisterReads.{RegisterReads}
use Rattle.ft_access.specs.declared.fates.FirstRead.{FirstRead}
use Rattle.ft_access.specs.declared.fates.Fates.{Fates}

-- the fate of a word that a step reads at this site, if a step is given
abbrev pub fate_at : Site → Option ℕ → Fate
fate_at x None = Unread
fate_at x (Some k) = ReadAt k x

-- the fate of half a pending entry
abbrev pub fate_of_half : (ℕ → Site) → Option EntryRead → Fate
fate_of_half half None = Unread
fate_of_half half (Some read) = ReadAt read.step (half read.entry)

-- the step that reads a register first
abbrev pub step_of : RegisterReads → ℕ → Option ℕ
step_of reads r = get_or reads.steps r None

-- how many entries the queue has room for
abbrev pub queue_room : ℕ
queue_room = 8

-- what is kept are these fates
pub record Holds (kept : Fates) (f : Site → Fate) : Type 0 where
  pub registers : (r : Reg) → fate_at (R r) (step_of kept.registers r.number) ≡ f (R r)
  pub d : fate_at D kept.d ≡ f D
  pub pc_green : fate_at PcG kept.pc_green ≡ f PcG
  pub pc_blue : fate_at PcB kept.pc_blue ≡ f PcB
  pub addresses : (e : ℕ) → e < queue_room → fate_of_half QAddr (get_or kept.entries e None) ≡ f (QAddr e)
  pub values : (e : ℕ) → e < queue_room → fate_of_half QVal (get_or kept.entries e None) ≡ f (QVal e)

-- the fate that a first read tells
abbrev pub fate_told : Option FirstRead → Fate
fate_told None = Unread
fate_told (Some read) = ReadAt read.step read.site

-- the fates before a step after which the machine still runs
abbrev pub fate_past : Option Instr → ℕ → (Site → Fate) → Site → Fate
fate_past fetched k later x =
    if reads_site fetched x then ReadAt k x else if overwrites fetched x then Unread else later (site_after fetched x)

-- IN TERMS OF A RUN

-- what is kept are the fates of the words before step k, in runs of n steps
pub record AreFates (o : Object) (w : List Wild) (n k : ℕ) (kept : Fates) : Type 0 where
  pub holds : Holds kept (fate o w (n - k) k)

-- step k of the run without a fault: what is fetched before it, and whether the machine runs after it
pub record IsStep (o : Object) (w : List Wild) (k : ℕ) (fetched : Option Instr) (runs_on : Bool) : Type 0 where
  pub fetched_is : fetched_at o w k ≡ fetched
  pub runs_is : is_running (status_after o None w (suc k)) ≡ runs_on

-- the strike that a first read tells for a word
abbrev pub strike_told : Option FirstRead → ℕ → Option Strike
strike_told read v = fault_of (fate_told read) v
