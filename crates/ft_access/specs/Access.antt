-- Which sites a step reads, which it overwrites, and where the word at any other site is after the step: a table by
-- what is fetched.
use Rattle.std.specs.Prelude.{ℕ, suc, Bool, true, false, ◌==◌, Option, Some, None}
use Rattle.ft_isa.specs.declared.colour.Colour.TheVariants.{Green, Blue}
use Rattle.ft_isa.specs.declared.instr.Instr.{Instr}
use Rattle.ft_isa.specs.declared.instr.Instr.TheVariants.{Ld, St, JmpG, JmpB, BzG, BzB, Halt}
use Rattle.ft_isa.specs.declared.plan.Site.{Site}
use Rattle.ft_isa.specs.declared.plan.Site.TheVariants.{R, D, PcG, PcB, QAddr, QVal}
use Rattle.ft_isa.specs.Instructions.{reads, written, is_register}

-- jumps and branches read d
abbrev pub reads_d : Instr → Bool
reads_d (JmpG rd) = true
reads_d (JmpB rd subst) = true
reads_d (BzG rz rd) = true
reads_d (BzB rz rd subst) = true
reads_d i = false

-- a green load may read any pending entry; a blue store reads the oldest, entry 0
abbrev pub reads_entry : Instr → ℕ → Bool
reads_entry (Ld Green rd rs) e = true
reads_entry (St Blue rd rs) e = e == 0
reads_entry i e = false

-- a blue jump overwrites both counters, and `halt` leaves them; any other instruction reads them
abbrev pub reads_counters : Instr → Bool
reads_counters (JmpB rd subst) = false
reads_counters Halt = false
reads_counters i = true

-- whether a blue jump is fetched
abbrev pub is_blue_jump : Instr → Bool
is_blue_jump (JmpB rd subst) = true
is_blue_jump i = false

-- whether a step reads the word at a site: a fetch reads both counters
abbrev pub reads_site : Option Instr → Site → Bool
reads_site None PcG = true
reads_site None PcB = true
reads_site None x = false
reads_site (Some i) (R r) = reads i r.number
reads_site (Some i) D = reads_d i
reads_site (Some i) PcG = reads_counters i
reads_site (Some i) PcB = reads_counters i
reads_site (Some i) (QAddr e) = reads_entry i e
reads_site (Some i) (QVal e) = reads_entry i e

-- whether a step that does not read a site overwrites its word, unless it stops the machine
abbrev pub overwrites : Option Instr → Site → Bool
overwrites (Some i) (R r) = is_register (written i) r.number
overwrites (Some i) PcG = is_blue_jump i
overwrites (Some i) PcB = is_blue_jump i
overwrites fetched x = false

-- the number of a pending entry after a step: a blue store removes entry 0
abbrev pub entry_after : Instr → ℕ → ℕ
entry_after (St Blue rd rs) (suc e) = e
entry_after i e = e

-- the site of a word after a step that neither reads nor overwrites it
abbrev pub site_after : Option Instr → Site → Site
site_after (Some i) (QAddr e) = QAddr (entry_after i e)
site_after (Some i) (QVal e) = QVal (entry_after i e)
site_after fetched x = x
