-- What waits, and what it holds back: private to the code.
use Rattle.std.specs.Prelude.{◌≡◌, ℕ, ◌<◌, ◌≤◌, Bool, not, ◌&&◌, ◌||◌, nat_lt, List, length, Some, slice_index_or}
use Rattle.std.specs.List.{list_any}
use Rattle.ft_isa.specs.declared.instr.Instr.{Instr}
use Rattle.ft_exchange.specs.Exchange.{written, leaves_alone, is_green_store, is_blue_store}
use Rattle.ft_sched.specs.Registers.{writes, meets}
use Rattle.ft_sched.specs.LastPlaces.{last_place}

-- what is recorded about a list whose waiting part begins at `front`: for each register, the last place of an
-- instruction that writes it, and of one that reads or writes it; and the last place of a blue store
pub record IsKept (is : List Instr) (front : ℕ) (written_at touched_at : List ℕ) (blue_at : ℕ) : Type 0 where
  pub front_within : front ≤ length is
  pub writers : length written_at ≡ 64
  pub touchers : length touched_at ≡ 64
  pub written_last : (r : ℕ) → r < 64 → slice_index_or written_at r 0 ≡ last_place (writes (Some r)) is
  pub touched_last : (r : ℕ) → r < 64 → slice_index_or touched_at r 0 ≡ last_place (meets (Some r)) is
  pub blue_last : blue_at ≡ last_place is_blue_store is

-- whether one of these two instructions writes a register that the other reads or writes
abbrev pub conflicts : Instr → Instr → Bool
conflicts i w = not (leaves_alone i (written w) && leaves_alone w (written i))

-- whether a waiting instruction holds another one back, if the static queue has n pairs before them: the two conflict;
-- or the other is a green store, the queue is full, and a blue store waits
abbrev pub holds_back : ℕ → List Instr → Instr → Bool
holds_back n waiting i = list_any (conflicts i) waiting || (is_green_store i && not (nat_lt n 8) && list_any is_blue_store waiting)
