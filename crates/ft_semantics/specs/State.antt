-- The machine's states.
use Rattle.std.specs.Prelude.{◌≡◌, ℕ, zero, suc, ◌+◌, ◌&&◌, nat_le, nat_lt, [], length, Option, None, Bool, is_some}
use Rattle.std.proofs.Common.{refl, add-one}
use Rattle.std.specs.Option.{unwrap_or}
use Rattle.std.specs.Ordering.{nat_cmp}
use Rattle.std.specs.FinMap as map
use Rattle.std.specs.FinMap.{FinMap}
use Rattle.ft_isa.specs.declared.colour.Colour.{Colour}
use Rattle.ft_isa.specs.declared.colour.Colour.TheVariants.{Green}
use Rattle.ft_isa.specs.declared.colour.Coloured.{Coloured}
use Rattle.ft_isa.specs.declared.reg.Reg.{Reg}
use Rattle.ft_isa.specs.declared.instr.Instr.{Instr}
use Rattle.ft_isa.specs.Words.{cell_address}
use Rattle.ft_isa.specs.Pending.{Pending}
use Rattle.ft_semantics.specs.declared.status.Status.{Status}
use Rattle.ft_semantics.specs.declared.status.Status.TheVariants.{Running}
use Rattle.ft_types.specs.declared.object.Object.{Object}
use Rattle.ft_types.specs.Objects.{init_of, entry_address}

-- what the registers hold, by number
abbrev pub Registers : Type 0
Registers = FinMap nat_cmp Coloured

-- the words of the cells, by address
abbrev pub Cells : Type 0
Cells = FinMap nat_cmp ℕ

-- what a register holds at the start
abbrev pub green_zero : Coloured
green_zero = record { colour = Green; word = 0 }

-- what register r holds
unfoldable pub held : Registers → ℕ → Coloured
held m r = unwrap_or (map.get m r) green_zero

-- the registers with this colour and word in register r
abbrev pub with_held : Registers → ℕ → Coloured → Registers
with_held m r x = map.insert m r x

-- the word of the cell at an address, if there is one
abbrev pub cell_at : Cells → ℕ → Option ℕ
cell_at m a = map.get m a

-- whether a cell has this address
abbrev pub is_cell : Cells → ℕ → Bool
is_cell m a = is_some (cell_at m a)

-- the cells with this word at an address
abbrev pub with_cell : Cells → ℕ → ℕ → Cells
with_cell m a v = map.insert m a v

-- a state: the registers, d, the two program counters, the store queue, the cells, the fetched instruction if any, and
-- the status
pub record State : Type 0 where
  pub registers : Registers
  pub d : ℕ
  pub pc_green : ℕ
  pub pc_blue : ℕ
  pub queue : Pending
  pub cells : Cells
  pub fetched : Option Instr
  pub status : Status

-- what a register of the state holds; its word alone, and its colour alone
abbrev pub register : State → Reg → Coloured
register s r = held s.registers r.number

abbrev pub word : State → Reg → ℕ
word s r = (register s r).word

abbrev pub colour : State → Reg → Colour
colour s r = (register s r).colour

-- the map after n insertions: insertion i, counted from 0, inserts the value of i at the key of i
unfoldable pub tabulate : {X : Type 0} → ℕ → (ℕ → ℕ) → (ℕ → X) → FinMap nat_cmp X
tabulate zero key value = map.empty
tabulate (suc n) key value = map.insert (tabulate n key value) (key n) (value n)

pub tabulate-zero : {X : Type 0} (key : ℕ → ℕ) (value : ℕ → X) → tabulate 0 key value ≡ map.empty
unfolding tabulate
tabulate-zero key value = refl

pub tabulate-add_one : {X : Type 0} (n : ℕ) (key : ℕ → ℕ) (value : ℕ → X) → tabulate (n + 1) key value ≡ map.insert (tabulate n key value) (key n) (value n)
unfolding tabulate
tabulate-add_one n key value = rw add-one refl

-- before the first step: green 0 in all 64 registers, and the initial words in the cells
abbrev pub start : Object → State
start o = record {
  registers = tabulate 64 (λ r. r) (λ _. green_zero);
  d = 0;
  pc_green = entry_address o;
  pc_blue = entry_address o;
  queue = [];
  cells = tabulate (length o.cells) cell_address (init_of o);
  fetched = None;
  status = Running;
}

-- the state's cells are at exactly the addresses of cells 0 to n - 1
abbrev pub HasCells : ℕ → State → Type 0
HasCells n s = (a : ℕ) → is_cell s.cells a ≡ (nat_le (cell_address 0) a && nat_lt a (cell_address n))
