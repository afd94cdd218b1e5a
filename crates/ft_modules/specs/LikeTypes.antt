-- When code types of two objects agree: the same number of variables, the same rows, and the same trees.
use Rattle.std.specs.Prelude.{◌≡◌, ℕ}
use Rattle.std.specs.List.{AllZip}
use Rattle.ft_static.specs.NodeTree.{trees, integer_at, memory_at}
use Rattle.ft_types.specs.declared.object.Object.{Object}
use Rattle.ft_types.specs.declared.object.RegType.{RegType}
use Rattle.ft_types.specs.Objects.{reg_rows, queue_rows, ints_of, memory_of}

-- two nodes stand for the same integer
abbrev pub SameInteger : Object → Object → ℕ → ℕ → Type 0
SameInteger o x n m = integer_at (trees o.nodes) n ≡ integer_at (trees x.nodes) m

-- two nodes stand for the same memory
abbrev pub SameMemory : Object → Object → ℕ → ℕ → Type 0
SameMemory o x n m = memory_at (trees o.nodes) n ≡ memory_at (trees x.nodes) m

-- two register rows agree
pub record SameRow (o x : Object) (r q : RegType) : Type 0 where
  pub reg : r.reg.number ≡ q.reg.number
  pub colour : r.colour ≡ q.colour
  pub basic : r.basic ≡ q.basic
  pub tree : SameInteger o x r.expr q.expr

-- two queue rows agree
pub record SamePair (o x : Object) (r q : ℕ × ℕ) : Type 0 where
  pub address : SameInteger o x r.0 q.0
  pub value : SameInteger o x r.1 q.1

-- code type t of o and code type u of x agree
pub record LikeTypes (o : Object) (t : ℕ) (x : Object) (u : ℕ) : Type 0 where
  pub ints : ints_of o t ≡ ints_of x u
  pub regs : AllZip (SameRow o x) (reg_rows o t) (reg_rows x u)
  pub queue : AllZip (SamePair o x) (queue_rows o t) (queue_rows x u)
  pub memory : SameMemory o x (memory_of o t) (memory_of x u)
