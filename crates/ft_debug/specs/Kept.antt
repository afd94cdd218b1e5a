-- What the history keeps: private to the code.
use Rattle.std.specs.Prelude.{◌≡◌, ℕ, ◌≤◌, length}
use Rattle.ft_semantics.specs.State.{is_cell, HasCells}
use Rattle.ft_debug.specs.declared.history.History.{History}
use Rattle.ft_debug.specs.declared.moment.Moment.{Moment}

-- a moment's machine has this many cells
abbrev pub HasMomentCells : ℕ → Moment → Type 0
HasMomentCells n m = HasCells n m.machine

-- the machines of two moments have the same cells
abbrev pub HasCellsOf : Moment → Moment → Type 0
HasCellsOf m x = (a : ℕ) → is_cell x.machine.cells a ≡ is_cell m.machine.cells a

-- the ring holds 4,096 moments, the last `count` of which are the history
pub record IsFull (h : History) : Type 0 where
  pub length_is : length h.moments.items ≡ 4096
  pub capacity_is : h.moments.capacity ≡ 4096
  pub few : h.count ≤ 4096
