-- What can be raised: the parts of a module whose numbers still fit their types after they are raised.
use Rattle.std.specs.Prelude.{◌≡◌, ℕ, zero, suc, ◌+◌, ◌<◌, ◌^◌, List, Some, slice_get}
use Rattle.ft_isa.specs.declared.basic.Base.{Base}
use Rattle.ft_isa.specs.declared.basic.Base.TheVariants.{Int, Code}
use Rattle.ft_isa.specs.declared.instr.Subst.{Subst}
use Rattle.ft_isa.specs.declared.instr.Instr.{Instr}
use Rattle.ft_isa.specs.declared.instr.Instr.TheVariants.{Mov, JmpB, BzB}
use Rattle.ft_static.specs.NodeParts.{EachPart}
use Rattle.ft_static.specs.declared.node.Node.{Node}
use Rattle.ft_static.specs.declared.node.Shape.{Shape}
use Rattle.ft_types.specs.declared.object.Block.{Block}
use Rattle.ft_types.specs.declared.object.CodeType.{CodeType}
use Rattle.ft_types.specs.declared.object.RegType.{RegType}
use Rattle.ft_modules.specs.declared.before.Before.{Before}

-- a fact about each element of a list
abbrev pub Each : {X : Type 0} → (X → Type 0) → List X → Type 0
Each {X} P xs = (n : ℕ) (x : X) → slice_get xs n ≡ Some x → P x

-- a shape whose parts can be raised by this many nodes
abbrev pub CanRaiseShape : ℕ → Shape → Type 0
CanRaiseShape k y = EachPart (λ s m. k + m < 2 ^ 32) y

abbrev pub CanRaiseNode : ℕ → Node → Type 0
CanRaiseNode k y = CanRaiseShape k y.shape

-- likewise for the rows of a code type
abbrev pub CanRaiseRow : ℕ → RegType → Type 0
CanRaiseRow k r = k + r.expr < 2 ^ 32

abbrev pub CanRaisePair : ℕ → ℕ × ℕ → Type 0
CanRaisePair k q = (k + q.0 < 2 ^ 32) × (k + q.1 < 2 ^ 32)

-- likewise for a code type
pub record CanRaiseType (k : ℕ) (t : CodeType) : Type 0 where
  pub regs : Each (CanRaiseRow k) t.regs
  pub queue : Each (CanRaisePair k) t.queue
  pub memory : k + t.memory < 2 ^ 32

-- likewise for a block
pub record CanRaiseBlock (k : Before) (b : Block) : Type 0 where
  pub start : k.instrs + b.start < 2 ^ 32
  pub code_type : k.types + b.code_type < 2 ^ 32

-- likewise for a substitution
pub record CanRaiseSubst (k : Before) (u : Subst) : Type 0 where
  pub first : k.substs + u.first < 2 ^ 32
  pub past : k.substs + u.past < 2 ^ 32
  pub memory : k.nodes + u.memory < 2 ^ 32

-- likewise for the word and the claimed code type of a `mov`
abbrev pub CanRaiseOver : Before → ℕ → ℕ → Base → Type 0
CanRaiseOver k w zero Int = Unit {0}
CanRaiseOver k w zero (Code t) = (k.instrs + w < 2 ^ 64) × (k.types + t < 2 ^ 16)
CanRaiseOver k w (suc n) base = Unit {0}

-- likewise for an instruction
abbrev pub CanRaise : Before → Instr → Type 0
CanRaise k (Mov rd basic value) = CanRaiseOver k value.word basic.refs basic.base
CanRaise k (JmpB rd subst) = CanRaiseSubst k subst
CanRaise k (BzB rz rd subst) = CanRaiseSubst k subst
CanRaise k i = Unit {0}
