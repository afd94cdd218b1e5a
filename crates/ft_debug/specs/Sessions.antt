-- Debugger sessions: what is shown at each position, and what each command does and writes.
use Rattle.std.specs.Prelude.{ℕ, zero, suc, ◌+◌, ◌-◌, max, Bool, false, ◌&&◌, ◌==◌, nat_lt, nat_le, if◌then◌else◌, List, [], ◌∷◌, ◌++◌, length, map, filter, count_by, position, bytes_eq, Option, Some, None, is_none, decimal, codes}
use Rattle.std.specs.List.{list_any}
use Rattle.std.specs.Option.{option_to_list, unwrap_or}
use Rattle.ft_isa.specs.Words.{code_address, cell_address, line}
use Rattle.ft_isa.specs.Pending.{Pending}
use Rattle.ft_isa.specs.declared.colour.Colour.{Colour}
use Rattle.ft_isa.specs.declared.colour.Colour.TheVariants.{Green, Blue}
use Rattle.ft_isa.specs.declared.colour.Coloured.{Coloured}
use Rattle.ft_isa.specs.declared.plan.Site.{Site}
use Rattle.ft_isa.specs.declared.plan.Strike.{Strike}
use Rattle.ft_isa.specs.declared.plan.Wild.{Wild}
use Rattle.ft_types.specs.declared.object.Object.{Object}
use Rattle.ft_types.specs.declared.object.Cell.{Cell}
use Rattle.ft_types.specs.declared.object.Block.{Block}
use Rattle.ft_semantics.specs.declared.status.Status.{Status}
use Rattle.ft_semantics.specs.declared.status.Status.TheVariants as status
use Rattle.ft_types.specs.Objects.{block_start, block_end}
use Rattle.ft_semantics.specs.State.{State, start, register, cell_at}
use Rattle.ft_semantics.specs.Step.{Stepping, quiet, step}
use Rattle.ft_semantics.specs.Strike.{is_running, is_there, struck_before}
use Rattle.ft_types.specs.Texts.{line_at}
use Rattle.ft_script.specs.declared.register.Register.{Register}
use Rattle.ft_script.specs.declared.register.Register.TheVariants as registers
use Rattle.ft_script.specs.Commands as commands
use Rattle.ft_script.specs.Commands.{Command, register_text}

-- WHAT IS SHOWN

-- a session: the position, which counts the steps since the start; the low-water mark, below which the session cannot
-- go back; the strikes in the order made, each with the position at which it was made; and the code addresses of the
-- breakpoints
pub record Session : Type 0 where
  pub position : ℕ
  pub low : ℕ
  pub strikes : List Strike
  pub breaks : List ℕ

-- the session before the first line
abbrev pub first_session : Session
first_session = record { position = 0; low = 0; strikes = []; breaks = [] }

-- what is shown: a state of the machine, and the remaining answers to wild loads
pub record Shown : Type 0 where
  pub state : State
  pub wild : List Wild

-- the state after the strikes made at a position, in the order made
abbrev pub struck_at : ℕ → List Strike → State → State
struck_at p [] s = s
struck_at p (strike ∷ strikes) s = struck_at p strikes (struck_before (Some strike) p s)

-- what is shown at a position that was reached by a step
abbrev pub led_to : ℕ → List Strike → Stepping → Shown
led_to p strikes t = record { state = struck_at p strikes t.state; wild = t.wild }

-- what is shown at a position: the run up to there, with each strike made before its step, and then the strikes made
-- there
unfoldable pub shown : Object → List Wild → List Strike → ℕ → Shown
shown o w strikes zero = led_to 0 strikes (quiet (start o) w)
shown o w strikes (suc p) = led_to (suc p) strikes (step o (shown o w strikes p).state (shown o w strikes p).wild)

-- what a session shows
abbrev pub present : Object → List Wild → Session → Shown
present o w s = shown o w s.strikes s.position

-- TEXTS

-- a machine's status
abbrev pub status_text : Status → List ℕ
status_text status.Running = codes "running"
status_text status.Done = codes "done"
status_text status.Detected = codes "detected"

-- the position, and the machine's status
abbrev pub at_text : ℕ → State → List ℕ
at_text p s = codes "at " ++ decimal p ++ codes " " ++ status_text s.status

abbrev pub at_line : ℕ → State → List ℕ
at_line p s = at_text p s ++ codes "\n"

-- the letter of a colour, between spaces
abbrev pub colour_text : Colour → List ℕ
colour_text Green = codes " G "
colour_text Blue = codes " B "

-- a register with its colour and its word; d and the green counter are green, and the blue counter is blue
abbrev pub coloured_in : State → Register → Coloured
coloured_in s (registers.R reg) = register s reg
coloured_in s registers.D = record { colour = Green; word = s.d }
coloured_in s registers.PcG = record { colour = Green; word = s.pc_green }
coloured_in s registers.PcB = record { colour = Blue; word = s.pc_blue }

abbrev pub coloured_line : List ℕ → Coloured → List ℕ
coloured_line name c = name ++ colour_text c.colour ++ decimal c.word ++ codes "\n"

abbrev pub register_line : State → Register → List ℕ
register_line s r = coloured_line (register_text r) (coloured_in s r)

-- an entry of the store queue: its address and its value
abbrev pub entry_line : ℕ × ℕ → List ℕ
entry_line e = decimal e.0 ++ codes " " ++ decimal e.1 ++ codes "\n"

-- a line for each pending store, oldest first, or `empty` if there is none
abbrev pub queue_lines : Pending → List (List ℕ)
queue_lines [] = codes "empty\n" ∷ []
queue_lines (e ∷ es) = map entry_line (e ∷ es)

-- whether a cell has this name
abbrev pub is_named : List ℕ → Cell → Bool
is_named name c = bytes_eq c.name name

-- the line with the word of cell k, or `no cell`
abbrev pub cell_line : List ℕ → State → Option ℕ → List ℕ
cell_line name s None = codes "no cell\n"
cell_line name s (Some k) = line name (unwrap_or (cell_at s.cells (cell_address k)) 0)

-- the number of the cell with this name, if there is one
abbrev pub named_cell : Object → List ℕ → Option ℕ
named_cell o name = position (is_named name) o.cells

-- whether a block begins at instruction i or before it
abbrev pub begins_by : ℕ → Block → Bool
begins_by i b = nat_le b.start i

-- the block of instruction i: the last that begins at it or before it
abbrev pub block_of : Object → ℕ → ℕ
block_of o i = count_by (begins_by i) o.blocks - 1

-- a block, and the index of instruction i in it
abbrev pub block_text : Object → ℕ → ℕ → List ℕ
block_text o i b = codes " block " ++ decimal b ++ codes " index " ++ decimal (i - block_start o b)

-- the place of a code address, if it is in the code
abbrev pub place_text : Object → ℕ → List ℕ
place_text o zero = []
place_text o (suc i) = if nat_lt i (length o.instrs) then block_text o i (block_of o i) else []

-- the place of two program counters, if they are equal
abbrev pub counters_text : Object → ℕ → ℕ → List ℕ
counters_text o green blue = if green == blue then place_text o green else []

-- the position, the machine's status, its program counters, and their place
abbrev pub where_line : Object → ℕ → State → List ℕ
where_line o p s = at_text p s ++ codes " pcg " ++ decimal s.pc_green ++ codes " pcb " ++ decimal s.pc_blue ++ counters_text o s.pc_green s.pc_blue ++ codes "\n"

-- WHAT A COMMAND DOES

-- what a command does: the session after it, and the lines it writes
pub record Reply : Type 0 where
  pub session : Session
  pub lines : List (List ℕ)

-- nothing changes and nothing is written
abbrev pub stays : Session → Reply
stays s = record { session = s; lines = [] }

-- one line is written
abbrev pub says : List ℕ → Session → Reply
says text s = record { session = s; lines = text ∷ [] }

-- some lines are written before those of a reply
abbrev pub after_lines : List (List ℕ) → Reply → Reply
after_lines before r = record { session = r.session; lines = before ++ r.lines }

-- the session one step further: the low-water mark rises to 4,096 below the new position, if it was lower
abbrev pub further : Session → Session
further s = record s { position = s.position + 1; low = max s.low (s.position + 1 - 4096) }

-- the line of what a step commits, if it commits anything
abbrev pub step_lines : Object → Shown → List (List ℕ)
step_lines o now = map (line_at o) (option_to_list (step o now.state now.wild).output)

-- a running machine takes a step, and then `more` is done; a stopped one stays as it is
abbrev pub takes_step : Object → List Wild → (Session → Reply) → Session → Reply
takes_step o w more s = if is_running (present o w s).state.status then after_lines (step_lines o (present o w s)) (more (further s)) else stays s

-- at most n steps, until the machine stops or `halts` holds
unfoldable pub walks : Object → List Wild → (State → Bool) → ℕ → Session → Reply
walks o w halts zero s = stays s
walks o w halts (suc n) s = if halts (present o w s).state then stays s else takes_step o w (walks o w halts n) s

-- halts nowhere
abbrev pub never : State → Bool
never s = false

-- whether an address is one of the breakpoints
abbrev pub is_set : List ℕ → ℕ → Bool
is_set breaks a = list_any (λ b. b == a) breaks

-- nothing is fetched, both counters are equal, and their address is a breakpoint
abbrev pub is_at_break : List ℕ → State → Bool
is_at_break breaks s = is_none s.fetched && (s.pc_green == s.pc_blue) && is_set breaks s.pc_green

-- at most n steps, until the machine stops or is at a breakpoint; the first step may start at one
abbrev pub goes : Object → List Wild → ℕ → Session → Reply
goes o w zero s = stays s
goes o w (suc n) s = takes_step o w (walks o w (is_at_break s.breaks) n) s

-- a reply, followed by the position
abbrev pub reports : Object → List Wild → Reply → Reply
reports o w r = record { session = r.session; lines = r.lines ++ at_line r.session.position (present o w r.session).state ∷ [] }

-- the session n steps back: the strikes made after that position are forgotten
abbrev pub earlier : ℕ → Session → Session
earlier n s = record s { position = s.position - n; strikes = filter (λ (x : Strike). nat_le x.step (s.position - n)) s.strikes }

-- n steps back, unless that is below the low-water mark
abbrev pub goes_back : Object → List Wild → ℕ → Session → Reply
goes_back o w n s = if nat_lt (s.position - s.low) n then says (codes "no history\n") s else reports o w (stays (earlier n s))

-- the session with one more strike, at its position
abbrev pub with_strike : Site → ℕ → Session → Session
with_strike site value s = record s { strikes = s.strikes ++ record { step = s.position; site = site; value = value } ∷ [] }

-- a strike, if the machine is running and the site exists
abbrev pub zaps : Object → List Wild → Site → ℕ → Session → Reply
zaps o w site value s = if is_there (present o w s).state site then says (codes "zapped\n") (with_strike site value s) else says (codes "nothing there\n") s

-- the code address of an instruction of a block, if it exists
abbrev pub break_address : Object → ℕ → ℕ → Option ℕ
break_address o b i = if nat_lt b (length o.blocks) && nat_lt (block_start o b + i) (block_end o b) then Some (code_address (block_start o b + i)) else None

-- the session with one more breakpoint
abbrev pub with_break : ℕ → Session → Session
with_break a s = record s { breaks = s.breaks ++ a ∷ [] }

-- a breakpoint, if the instruction exists, and unless it is set already or would be the 65th
abbrev pub sets_break : Option ℕ → Session → Reply
sets_break None s = says (codes "no place\n") s
sets_break (Some a) s = if is_set s.breaks a then says (codes "break set\n") s else (if nat_lt (length s.breaks) 64 then says (codes "break set\n") (with_break a s) else says (codes "too many breaks\n") s)

-- what each command does
abbrev pub reply : Object → List Wild → Command → Session → Reply
reply o w (commands.Step n) s = reports o w (walks o w never n s)
reply o w (commands.Go n) s = reports o w (goes o w n s)
reply o w (commands.Back n) s = goes_back o w n s
reply o w (commands.Zap site value) s = zaps o w site value s
reply o w (commands.Reg r) s = says (register_line (present o w s).state r) s
reply o w commands.Queue s = record { session = s; lines = queue_lines (present o w s).state.queue }
reply o w (commands.Cell name) s = says (cell_line name (present o w s).state (named_cell o name)) s
reply o w commands.Where s = says (where_line o s.position (present o w s).state) s
reply o w (commands.Break b i) s = sets_break (break_address o b i) s
reply o w commands.Bad s = says (codes "bad command\n") s

-- the lines that these commands write, one after another
abbrev pub replies : Object → List Wild → List Command → Session → List (List ℕ)
replies o w [] s = []
replies o w (c ∷ cs) s = (reply o w c s).lines ++ replies o w cs (reply o w c s).session

-- the lines of a whole session
abbrev pub session_lines : Object → List Wild → List Command → List (List ℕ)
session_lines o w cs = replies o w cs first_session
