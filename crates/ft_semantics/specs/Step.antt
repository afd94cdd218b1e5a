-- One step of the machine, defined as a function; and the table of steps, row by row: what is fetched, the condition,
-- and the effect.
use Rattle.std.specs.Prelude.{ℕ, ◌+◌, ◌%◌, ◌^◌, Bool, ◌&&◌, not, ◌==◌, nat_lt, if◌then◌else◌, List, [], ◌∷◌, ◌++◌, length, drop, Option, Some, None, ◌≡◌, nat_le, is_some, filter_map, ◌⊎◌}
use Rattle.std.specs.Option.{option_or, unwrap_or}
use Rattle.ft_isa.specs.declared.colour.Colour.{Colour}
use Rattle.ft_isa.specs.declared.colour.Colour.TheVariants.{Green, Blue}
use Rattle.ft_isa.specs.declared.colour.Coloured.{Coloured}
use Rattle.ft_isa.specs.declared.reg.Reg.{Reg}
use Rattle.ft_isa.specs.declared.instr.Instr.{Instr}
use Rattle.ft_isa.specs.declared.instr.Instr.TheVariants.{OpReg, OpWord, Mov, Ld, St, JmpG, JmpB, BzG, BzB, Halt, Idx}
use Rattle.ft_isa.specs.declared.plan.Wild.{Wild}
use Rattle.ft_isa.specs.declared.plan.Wild.TheVariants.{Word, Stop}
use Rattle.ft_isa.specs.declared.output.Output.{Output}
use Rattle.ft_isa.specs.Words.{apply, cell_in_run}
use Rattle.ft_isa.specs.Pending.{is_oldest, newest_at, Pending}
use Rattle.ft_semantics.specs.declared.status.Status.{Status}
use Rattle.ft_semantics.specs.declared.status.Status.TheVariants.{Running, Done, Detected}
use Rattle.ft_types.specs.declared.object.Object.{Object}
use Rattle.ft_types.specs.Objects.{instr_at}
use Rattle.ft_semantics.specs.State.{State, word, colour, with_held, cell_at, is_cell, with_cell, Cells}

-- the result of a step: the state after it, the remaining answers to wild loads, and its output
pub record Stepping : Type 0 where
  pub state : State
  pub wild : List Wild
  pub output : Option Output

-- a step without an output
abbrev pub quiet : State → List Wild → Stepping
quiet s w = record { state = s; wild = w; output = None }

-- a step to Detected changes the status and nothing else
abbrev pub detected : State → List Wild → Stepping
detected s w = quiet (record s { status = Detected }) w

-- one more than a counter, modulo 2^64
abbrev pub next : ℕ → ℕ
next pc = (pc + 1) % 2 ^ 64

-- both counters grow by 1 modulo 2^64, and nothing is fetched
abbrev pub goes_on : State → State
goes_on s = record s { pc_green = next s.pc_green; pc_blue = next s.pc_blue; fetched = None }

-- the green counter becomes d, the blue one this word, d becomes 0, and nothing is fetched
abbrev pub transfers : ℕ → State → State
transfers a s = record s { pc_green = s.d; pc_blue = a; d = 0; fetched = None }

-- a register gets a colour and a word
abbrev pub put : Reg → Coloured → State → State
put r x s = record s { registers = with_held s.registers r.number x }

-- a register is written, and the machine goes on
abbrev pub writes : Reg → Colour → ℕ → State → List Wild → Stepping
writes rd c v s w = quiet (goes_on (put rd (record { colour = c; word = v }) s)) w

-- the instruction that a look-up found is fetched; if it found none, the status becomes Detected
abbrev pub fetch : Option Instr → State → List Wild → Stepping
fetch (Some i) s w = quiet (record s { fetched = Some i }) w
fetch None s w = detected s w

-- what a load finds without an answer from the plan: green looks at the pending stores first, blue only at the cells
abbrev pub found : Colour → State → ℕ → Option ℕ
found Green s a = option_or (newest_at s.queue a) (cell_at s.cells a)
found Blue s a = cell_at s.cells a

-- a wild load takes the plan's next answer, a word or a stop; if none is left, that counts as a stop
abbrev pub wild_load : Colour → Reg → State → List Wild → Stepping
wild_load c rd s (Word v ∷ w) = writes rd c v s w
wild_load c rd s (Stop ∷ w) = detected s w
wild_load c rd s [] = detected s []

-- a load of what was found, or a wild load
abbrev pub load : Colour → Reg → Option ℕ → State → List Wild → Stepping
load c rd (Some v) s w = writes rd c v s w
load c rd None s w = wild_load c rd s w

-- a green store adds its pair as the newest entry, if there are fewer than 8
abbrev pub store_green : ℕ → ℕ → State → List Wild → Stepping
store_green a v s w =
    if nat_lt (length s.queue) 8
    then quiet (goes_on (record s { queue = s.queue ++ (a, v) ∷ [] })) w
    else detected s w

-- the oldest entry leaves the queue, its cell gets its value, and the pair is the output
abbrev pub commit : ℕ → ℕ → State → List Wild → Stepping
commit a v s w = record {
  state = goes_on (record s { queue = drop 1 s.queue; cells = with_cell s.cells a v });
  wild = w;
  output = Some (record { addr = a; value = v });
}

-- whether the oldest entry is this pair, and its address is a cell's
abbrev pub commits : ℕ → ℕ → State → Bool
commits a v s = is_oldest s.queue a v && is_cell s.cells a

-- a blue store commits the oldest entry, if that is the store's own pair and its address is a cell's
abbrev pub store_blue : ℕ → ℕ → State → List Wild → Stepping
store_blue a v s w = if commits a v s then commit a v s w else detected s w

-- a store of either colour
abbrev pub store : Colour → ℕ → ℕ → State → List Wild → Stepping
store Green a v s w = store_green a v s w
store Blue a v s w = store_blue a v s w

-- a green jump sets d, if d is 0
abbrev pub jump_green : ℕ → State → List Wild → Stepping
jump_green a s w = if s.d == 0 then quiet (goes_on (record s { d = a })) w else detected s w

-- a blue jump transfers, if d is its target and not 0
abbrev pub jump_blue : ℕ → State → List Wild → Stepping
jump_blue a s w = if not (s.d == 0) && (s.d == a) then quiet (transfers a s) w else detected s w

-- a branch that is not taken goes on, if d is 0
abbrev pub pass : State → List Wild → Stepping
pass s w = if s.d == 0 then quiet (goes_on s) w else detected s w

-- what an instruction does
abbrev pub execute : Instr → State → List Wild → Stepping
execute (OpReg op rd rs rt) s w = writes rd (colour s rs) (apply op (word s rs) (word s rt)) s w
execute (OpWord op rd rs value) s w = writes rd (colour s rs) (apply op (word s rs) value.word) s w
execute (Mov rd basic value) s w = writes rd value.colour value.word s w
execute (Ld c rd rs) s w = load c rd (found c s (word s rs)) s w
execute (St c rd rs) s w = store c (word s rd) (word s rs) s w
execute (JmpG rd) s w = jump_green (word s rd) s w
execute (JmpB rd subst) s w = jump_blue (word s rd) s w
execute (BzG rz rd) s w = if word s rz == 0 then jump_green (word s rd) s w else pass s w
execute (BzB rz rd subst) s w = if word s rz == 0 then jump_blue (word s rd) s w else pass s w
execute Halt s w = quiet (record s { status = Done }) w
execute (Idx rd rs first m) s w = writes rd (colour s rs) (cell_in_run first m (word s rs)) s w

-- a running machine fetches if nothing is fetched, and otherwise does what is fetched
abbrev pub advance : Object → Option Instr → State → List Wild → Stepping
advance o None s w = if s.pc_green == s.pc_blue then fetch (instr_at o s.pc_green) s w else detected s w
advance o (Some i) s w = execute i s w

-- a stopped machine does not change
abbrev pub step_at : Object → Status → State → List Wild → Stepping
step_at o Running s w = advance o s.fetched s w
step_at o Done s w = quiet s w
step_at o Detected s w = quiet s w

-- one step of an object's machine
abbrev pub step : Object → State → List Wild → Stepping
step o s w = step_at o s.status s w

-- THE TABLE

-- a row: the step that it gives for what is fetched, or none if it does not apply
abbrev pub Row : Type 0
Row = Option Instr → Object → State → List Wild → Option Stepping

-- the effect, if the condition holds
abbrev pub given : Bool → Stepping → Option Stepping
given condition effect = if condition then Some effect else None

-- the address is the code address of an instruction
abbrev pub is_code : Object → ℕ → Bool
is_code o a = is_some (instr_at o a)

-- a pending entry has this address
abbrev pub is_pending : Pending → ℕ → Bool
is_pending queue a = is_some (newest_at queue a)

-- the value of the newest pending entry with an address
abbrev pub pending_value : Pending → ℕ → ℕ
pending_value queue a = unwrap_or (newest_at queue a) 0

-- the word of the cell at an address
abbrev pub cell_word : Cells → ℕ → ℕ
cell_word cells a = unwrap_or (cell_at cells a) 0

-- a load of this colour finds nothing at the address: no cell, and for green no pending entry
abbrev pub is_wild : Colour → State → ℕ → Bool
is_wild Green s a = not (is_pending s.queue a) && not (is_cell s.cells a)
is_wild Blue s a = not (is_cell s.cells a)

-- nothing fetched | pc_G = pc_B, and it is the code address of an instruction | that instruction is fetched
abbrev pub fetch_row : Row
fetch_row None o s w = given ((s.pc_green == s.pc_blue) && is_code o s.pc_green) (quiet (record s { fetched = instr_at o s.pc_green }) w)
fetch_row (Some i) o s w = None

-- nothing fetched | otherwise | Detected
abbrev pub fetch_elsewhere_row : Row
fetch_elsewhere_row None o s w = given (not ((s.pc_green == s.pc_blue) && is_code o s.pc_green)) (detected s w)
fetch_elsewhere_row (Some i) o s w = None

-- op rd, rs, rt | always | rd gets the colour of rs and apply(op, rs, rt); goes on
abbrev pub operate_row : Row
operate_row (Some (OpReg op rd rs rt)) o s w = Some (writes rd (colour s rs) (apply op (word s rs) (word s rt)) s w)
operate_row other o s w = None

-- op rd, rs, c v | always | rd gets the colour of rs and apply(op, rs, v); goes on
abbrev pub operate_word_row : Row
operate_word_row (Some (OpWord op rd rs value)) o s w = Some (writes rd (colour s rs) (apply op (word s rs) value.word) s w)
operate_word_row other o s w = None

-- mov rd, c v | always | rd gets c and v; goes on
abbrev pub move_row : Row
move_row (Some (Mov rd basic value)) o s w = Some (writes rd value.colour value.word s w)
move_row other o s w = None

-- ld_G rd, rs | a pending entry has the address rs | rd gets green and the value of the newest such entry; goes on
abbrev pub load_green_pending_row : Row
load_green_pending_row (Some (Ld Green rd rs)) o s w = given (is_pending s.queue (word s rs)) (writes rd Green (pending_value s.queue (word s rs)) s w)
load_green_pending_row other o s w = None

-- ld_G rd, rs | no such entry, and rs is a cell's address | rd gets green and the cell's word; goes on
abbrev pub load_green_cell_row : Row
load_green_cell_row (Some (Ld Green rd rs)) o s w =
    given (not (is_pending s.queue (word s rs)) && is_cell s.cells (word s rs)) (writes rd Green (cell_word s.cells (word s rs)) s w)
load_green_cell_row other o s w = None

-- ld_B rd, rs | rs is a cell's address | rd gets blue and the cell's word; goes on
abbrev pub load_blue_cell_row : Row
load_blue_cell_row (Some (Ld Blue rd rs)) o s w = given (is_cell s.cells (word s rs)) (writes rd Blue (cell_word s.cells (word s rs)) s w)
load_blue_cell_row other o s w = None

-- ld_c rd, rs | none of the above (a wild load), and the plan's next answer is a word w | rd gets c and w; goes on
abbrev pub load_wild_word_row : Row
load_wild_word_row (Some (Ld c rd rs)) o s (Word v ∷ w) = given (is_wild c s (word s rs)) (writes rd c v s w)
load_wild_word_row other o s w = None

-- ld_c rd, rs | a wild load, and the plan's next answer is a stop or none is left | Detected
abbrev pub load_wild_stop_row : Row
load_wild_stop_row (Some (Ld c rd rs)) o s (Stop ∷ w) = given (is_wild c s (word s rs)) (detected s w)
load_wild_stop_row (Some (Ld c rd rs)) o s [] = given (is_wild c s (word s rs)) (detected s [])
load_wild_stop_row other o s w = None

-- st_G rd, rs | fewer than 8 entries | the pair (rd, rs) becomes the newest entry; goes on
abbrev pub store_green_row : Row
store_green_row (Some (St Green rd rs)) o s w =
    given (nat_lt (length s.queue) 8) (quiet (goes_on (record s { queue = s.queue ++ (word s rd, word s rs) ∷ [] })) w)
store_green_row other o s w = None

-- st_G rd, rs | 8 entries or more (a state's queue may have any length) | Detected
abbrev pub store_green_full_row : Row
store_green_full_row (Some (St Green rd rs)) o s w = given (nat_le 8 (length s.queue)) (detected s w)
store_green_full_row other o s w = None

-- st_B rd, rs | the oldest entry is (rd, rs), and rd is a cell's address | the entry leaves, the cell's word becomes
-- rs, the pair is the step's output; goes on
abbrev pub store_blue_row : Row
store_blue_row (Some (St Blue rd rs)) o s w = given (is_oldest s.queue (word s rd) (word s rs) && is_cell s.cells (word s rd)) (commit (word s rd) (word s rs) s w)
store_blue_row other o s w = None

-- st_B rd, rs | otherwise, including an empty queue | Detected
abbrev pub store_blue_otherwise_row : Row
store_blue_otherwise_row (Some (St Blue rd rs)) o s w = given (not (is_oldest s.queue (word s rd) (word s rs) && is_cell s.cells (word s rd))) (detected s w)
store_blue_otherwise_row other o s w = None

-- jmp_G rd | d = 0 | d becomes rd; goes on
abbrev pub jump_green_row : Row
jump_green_row (Some (JmpG rd)) o s w = given (s.d == 0) (quiet (goes_on (record s { d = word s rd })) w)
jump_green_row other o s w = None

-- jmp_G rd | d isn't 0 | Detected
abbrev pub jump_green_again_row : Row
jump_green_again_row (Some (JmpG rd)) o s w = given (not (s.d == 0)) (detected s w)
jump_green_again_row other o s w = None

-- jmp_B rd | d isn't 0, and d = rd | transfers
abbrev pub jump_blue_row : Row
jump_blue_row (Some (JmpB rd subst)) o s w = given (not (s.d == 0) && (s.d == word s rd)) (quiet (transfers (word s rd) s) w)
jump_blue_row other o s w = None

-- jmp_B rd | otherwise | Detected
abbrev pub jump_blue_otherwise_row : Row
jump_blue_otherwise_row (Some (JmpB rd subst)) o s w = given (not (not (s.d == 0) && (s.d == word s rd))) (detected s w)
jump_blue_otherwise_row other o s w = None

-- bz_G rz, rd | d = 0 and rz = 0 | d becomes rd; goes on
abbrev pub branch_green_row : Row
branch_green_row (Some (BzG rz rd)) o s w = given ((s.d == 0) && (word s rz == 0)) (quiet (goes_on (record s { d = word s rd })) w)
branch_green_row other o s w = None

-- bz_G rz, rd | d = 0 and rz isn't 0 | goes on
abbrev pub branch_green_passes_row : Row
branch_green_passes_row (Some (BzG rz rd)) o s w = given ((s.d == 0) && not (word s rz == 0)) (quiet (goes_on s) w)
branch_green_passes_row other o s w = None

-- bz_G rz, rd | d isn't 0 | Detected
abbrev pub branch_green_again_row : Row
branch_green_again_row (Some (BzG rz rd)) o s w = given (not (s.d == 0)) (detected s w)
branch_green_again_row other o s w = None

-- whether the blue branch on a word transfers to this target: rz = 0, d isn't 0, and d = rd
abbrev pub branch_transfers : ℕ → ℕ → State → Bool
branch_transfers z a s = (z == 0) && not (s.d == 0) && (s.d == a)

-- whether the blue branch on a word passes: rz isn't 0, and d = 0
abbrev pub branch_passes : ℕ → State → Bool
branch_passes z s = not (z == 0) && (s.d == 0)

-- bz_B rz, rd | rz = 0, d isn't 0, and d = rd | transfers
abbrev pub branch_blue_row : Row
branch_blue_row (Some (BzB rz rd subst)) o s w = given (branch_transfers (word s rz) (word s rd) s) (quiet (transfers (word s rd) s) w)
branch_blue_row other o s w = None

-- bz_B rz, rd | rz isn't 0, and d = 0 | goes on
abbrev pub branch_blue_passes_row : Row
branch_blue_passes_row (Some (BzB rz rd subst)) o s w = given (branch_passes (word s rz) s) (quiet (goes_on s) w)
branch_blue_passes_row other o s w = None

-- bz_B rz, rd | otherwise | Detected
abbrev pub branch_blue_otherwise_row : Row
branch_blue_otherwise_row (Some (BzB rz rd subst)) o s w =
    given (not (branch_transfers (word s rz) (word s rd) s) && not (branch_passes (word s rz) s)) (detected s w)
branch_blue_otherwise_row other o s w = None

-- halt | always | Done
abbrev pub halt_row : Row
halt_row (Some Halt) o s w = Some (quiet (record s { status = Done }) w)
halt_row other o s w = None

-- idx rd, rs, first, length | always | rd gets the colour of rs and 1048576 + first + (rs modulo length); goes on
abbrev pub index_row : Row
index_row (Some (Idx rd rs first m)) o s w = Some (writes rd (colour s rs) (cell_in_run first m (word s rs)) s w)
index_row other o s w = None

-- the table
abbrev pub steps_table : List Row
steps_table =
    fetch_row ∷ fetch_elsewhere_row
    ∷ operate_row ∷ operate_word_row ∷ move_row
    ∷ load_green_pending_row ∷ load_green_cell_row ∷ load_blue_cell_row ∷ load_wild_word_row ∷ load_wild_stop_row
    ∷ store_green_row ∷ store_green_full_row ∷ store_blue_row ∷ store_blue_otherwise_row
    ∷ jump_green_row ∷ jump_green_again_row ∷ jump_blue_row ∷ jump_blue_otherwise_row
    ∷ branch_green_row ∷ branch_green_passes_row ∷ branch_green_again_row
    ∷ branch_blue_row ∷ branch_blue_passes_row ∷ branch_blue_otherwise_row
    ∷ halt_row ∷ index_row ∷ []

-- the steps that the rows of the table give here
abbrev pub given_steps : Option Instr → Object → State → List Wild → List Stepping
given_steps fetched o s w = filter_map (λ row. row fetched o s w) steps_table

-- exactly one row of the table applies, and the machine's step is that row's
abbrev pub IsTheTable : Object → State → List Wild → Type 0
IsTheTable o s w = given_steps s.fetched o s w ≡ step o s w ∷ []

-- the machine is Done or Detected
abbrev pub IsStopped : State → Type 0
IsStopped s = (s.status ≡ Done) ⊎ (s.status ≡ Detected)
