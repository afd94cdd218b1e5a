-- How the debugger's parts represent the defined session: private to the code.
use Rattle.std.specs.Prelude.{◌≡◌, ℕ, ◌+◌, ◌-◌, ◌<◌, ◌≤◌, Bool, true, false, ◌&&◌, not, List, [], ◌∷◌, length, slice_get, All, Some, Result, OnOk}
use Rattle.std.specs.List.{AllByRecursion}
use Rattle.ft_edge.specs.declared.failed.Failed.{Failed}
use Rattle.ft_isa.specs.declared.plan.Strike.{Strike}
use Rattle.ft_isa.specs.declared.plan.Wild.{Wild}
use Rattle.ft_edge.specs.Lines.{Puts, end_of_puts}
use Rattle.ft_edge.specs.Logs.{SinkLog}
use Rattle.ft_types.specs.declared.object.Object.{Object}
use Rattle.ft_semantics.specs.State.{State, HasCells}
use Rattle.ft_semantics.specs.Strike.{is_running}
use Rattle.ft_types.specs.Texts.{line_at}
use Rattle.ft_machine.specs.declared.stepped.Stepped.{Stepped}
use Rattle.ft_machine.specs.declared.stepped.Stepped.TheVariants.{Commit, Quiet, Done, Detected}
use Rattle.ft_script.specs.Commands.{Command, Step, Go, IsCount}
use Rattle.ft_debug.specs.declared.moment.Moment.{Moment}
use Rattle.ft_debug.specs.declared.debugger.Debugger.{Debugger}
use Rattle.ft_debug.specs.Kept.{HasMomentCells, IsFull}
use Rattle.ft_debug.specs.Sessions.{Session, Shown, Reply, shown, present, further, step_lines, never, is_at_break}

-- what is shown at a position, as a moment
abbrev pub moment_of : ℕ → Shown → Moment
moment_of p now = record { machine = now.state; wild = now.wild; position = p }

-- the moment of a position
abbrev pub moment_at : Object → List Wild → List Strike → ℕ → Moment
moment_at o w strikes p = moment_of p (shown o w strikes p)

-- a strike was made at this position or before it
abbrev pub IsMadeBy : ℕ → Strike → Type 0
IsMadeBy p strike = strike.step ≤ p

-- the ring is full, and all machines have the object's cells
pub record Ready (o : Object) (d : Debugger) : Type 0 where
  pub full : IsFull d.history
  pub past : All (HasMomentCells (length o.cells)) d.history.moments.items
  pub cells : HasCells (length o.cells) d.present.machine

-- the line of what a step committed, if it committed anything
abbrev pub committed_lines : Object → Stepped → List (List ℕ)
committed_lines o (Commit output) = line_at o output ∷ []
committed_lines o Quiet = []
committed_lines o Done = []
committed_lines o Detected = []

-- the debugger holds a session: what it shows, what it showed at each position since the low-water mark, and its
-- breakpoints
pub record Holds (o : Object) (w : List Wild) (s : Session) (d : Debugger) : Type 0 where
  pub present : d.present ≡ moment_at o w s.strikes s.position
  pub kept : s.low + d.history.count ≡ s.position
  pub past : (i : ℕ) → 4096 ≤ i + d.history.count → i < 4096 → slice_get d.history.moments.items i ≡ Some (moment_at o w s.strikes (s.position + i - 4096))
  pub breaks : d.breaks ≡ s.breaks
  pub made : AllByRecursion (IsMadeBy s.position) s.strikes

-- a reply was written, up to the first failed put; if none failed, the debugger holds the session after it
abbrev pub IsReplied : Object → List Wild → Reply → Debugger → Result (Unit {0}) Failed → SinkLog → SinkLog → Type 0
IsReplied o w r e result old new = OnOk result (Holds o w r.session e) × Puts (end_of_puts result) r.lines old new

-- the debugger gives this reply, whichever session it held
abbrev pub Does : (List Wild → Session → Reply) → Object → Debugger → Debugger → Result (Unit {0}) Failed → SinkLog
    → SinkLog → Type 0
Does go o d e result old new = (w : List Wild) (s : Session) → Holds o w s d → IsReplied o w (go w s) e result old new

-- one step of a running machine
abbrev pub advances : Object → List Wild → Session → Reply
advances o w s = record { session = further s; lines = step_lines o (present o w s) }

-- where a walk halts: at breakpoints, or nowhere
abbrev pub halting : Bool → List ℕ → State → Bool
halting true breaks = is_at_break breaks
halting false breaks = never

-- whether the machine takes another step
abbrev pub goes_on : Bool → List ℕ → State → Bool
goes_on halts breaks s = not (halting halts breaks s) && is_running s.status

-- a command takes at most 1,000,000 steps
abbrev pub IsSmall : Command → Type 0
IsSmall (Step n) = IsCount n
IsSmall (Go n) = IsCount n
IsSmall command = Unit {0}
