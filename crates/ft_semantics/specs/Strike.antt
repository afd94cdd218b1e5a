-- Faults: which sites exist, and what a strike changes.
use Rattle.std.specs.Prelude.{ℕ, Bool, true, false, ◌&&◌, ◌==◌, nat_lt, if◌then◌else◌, length, Option, Some, None}
use Rattle.ft_isa.specs.declared.plan.Site.{Site}
use Rattle.ft_isa.specs.declared.plan.Site.TheVariants.{R, D, PcG, PcB, QAddr, QVal}
use Rattle.ft_isa.specs.declared.plan.Strike.{Strike}
use Rattle.ft_isa.specs.Pending.{with_address, with_value}
use Rattle.ft_semantics.specs.declared.status.Status.{Status}
use Rattle.ft_semantics.specs.declared.status.Status.TheVariants.{Running, Done, Detected}
use Rattle.ft_semantics.specs.State.{State, colour}
use Rattle.ft_semantics.specs.Step.{put}

-- whether a machine with this status takes steps
abbrev pub is_running : Status → Bool
is_running Running = true
is_running Done = false
is_running Detected = false

-- whether a site exists if the queue has n entries
abbrev pub is_site : Site → ℕ → Bool
is_site (R r) entries = true
is_site D entries = true
is_site PcG entries = true
is_site PcB entries = true
is_site (QAddr i) entries = nat_lt i entries
is_site (QVal i) entries = nat_lt i entries

-- the machine is running, and the site exists
abbrev pub is_there : State → Site → Bool
is_there s site = is_running s.status && is_site site (length s.queue)

-- the state with this word at an existing site; no colour changes
abbrev pub with_word : Site → ℕ → State → State
with_word (R r) v s = put r (record { colour = colour s r; word = v }) s
with_word D v s = record s { d = v }
with_word PcG v s = record s { pc_green = v }
with_word PcB v s = record s { pc_blue = v }
with_word (QAddr i) v s = record s { queue = with_address s.queue i v }
with_word (QVal i) v s = record s { queue = with_value s.queue i v }

-- the state after a strike
abbrev pub struck_state : State → Site → ℕ → State
struck_state s site v = if is_there s site then with_word site v s else s

-- the state from which step k is taken, struck first if the plan strikes at k
abbrev pub struck_before : Option Strike → ℕ → State → State
struck_before None k s = s
struck_before (Some strike) k s = if strike.step == k then struck_state s strike.site strike.value else s
