-- Why the next step of a running machine is detected. A detected step changes the status alone, so this can be told afterwards.
use Rattle.std.specs.Prelude.{ℕ, Bool, true, false, nat_lt, ◌==◌, if◌then◌else◌, List, [], ◌∷◌, length, Option, None, Some}
use Rattle.ft_isa.specs.Pending.{Pending}
use Rattle.ft_isa.specs.declared.colour.Colour.TheVariants.{Green, Blue}
use Rattle.ft_isa.specs.declared.instr.Instr.{Instr}
use Rattle.ft_isa.specs.declared.instr.Instr.TheVariants.{Ld, St, JmpG, JmpB, BzG, BzB}
use Rattle.ft_types.specs.declared.object.Object.{Object}
use Rattle.ft_types.specs.Objects.{instr_at}
use Rattle.ft_semantics.specs.declared.status.Status.{Status}
use Rattle.ft_semantics.specs.declared.status.Status.TheVariants as status
use Rattle.ft_semantics.specs.State.{State, word, is_cell}
use Rattle.ft_semantics.specs.Step.{found}
use Rattle.ft_flight.specs.declared.reason.Cause.{Cause}
use Rattle.ft_flight.specs.declared.reason.Reason.{Reason}
use Rattle.ft_flight.specs.declared.reason.Reason.TheVariants as reason

-- this reason and these two words
abbrev pub because : Reason → ℕ → ℕ → Option Cause
because r a b = Some (record { reason = r; left = a; right = b })

-- a fetch: an instruction is at both counters
abbrev pub fetch_cause : Option Instr → ℕ → Option Cause
fetch_cause None pc = because reason.NoCode pc pc
fetch_cause (Some i) pc = None

-- a load: something is at its address
abbrev pub load_cause : Option ℕ → ℕ → Option Cause
load_cause None a = because reason.Wild a 0
load_cause (Some v) a = None

-- a green store: fewer than eight stores are pending
abbrev pub green_store_cause : Pending → ℕ → Option Cause
green_store_cause q a = if nat_lt (length q) 8 then None else because reason.Crowded a 8

-- a blue store: the oldest pending store is its own pair, and its address is a cell's
abbrev pub blue_store_cause : Pending → ℕ → ℕ → Bool → Option Cause
blue_store_cause [] a v there = because reason.NonePending a 0
blue_store_cause (e ∷ q) a v there =
    if e.0 == a
    then (if e.1 == v then (if there then None else because reason.NoAddress a a) else because reason.Values v e.1)
    else because reason.Addresses a e.0

-- a green jump or branch: no jump is pending
abbrev pub green_cause : ℕ → Option Cause
green_cause d = if d == 0 then None else because reason.JumpPending d 0

-- a blue jump: green meant this target
abbrev pub blue_cause : ℕ → ℕ → Option Cause
blue_cause a d = if d == 0 then because reason.NoJump a 0 else (if d == a then None else because reason.Targets a d)

-- a blue branch that falls through: green did not mean to jump
abbrev pub pass_cause : ℕ → ℕ → Option Cause
pass_cause z d = if d == 0 then None else because reason.NoPass z d

-- why the step of what is fetched is detected
abbrev pub cause_at : Object → Option Instr → State → Option Cause
cause_at o None s = if s.pc_green == s.pc_blue then fetch_cause (instr_at o s.pc_green) s.pc_green else because reason.Counters s.pc_green s.pc_blue
cause_at o (Some (Ld c rd rs)) s = load_cause (found c s (word s rs)) (word s rs)
cause_at o (Some (St Green rd rs)) s = green_store_cause s.queue (word s rd)
cause_at o (Some (St Blue rd rs)) s = blue_store_cause s.queue (word s rd) (word s rs) (is_cell s.cells (word s rd))
cause_at o (Some (JmpG rd)) s = green_cause s.d
cause_at o (Some (JmpB rd subst)) s = blue_cause (word s rd) s.d
cause_at o (Some (BzG rz rd)) s = green_cause s.d
cause_at o (Some (BzB rz rd subst)) s = if word s rz == 0 then blue_cause (word s rd) s.d else pass_cause (word s rz) s.d
cause_at o (Some i) s = None

-- why the next step is detected, if it is
abbrev pub cause : Object → State → Option Cause
cause o s = cause_at o s.fetched s

-- whether a run is detected
abbrev pub is_detected : Status → Bool
is_detected status.Running = false
is_detected status.Done = false
is_detected status.Detected = true
