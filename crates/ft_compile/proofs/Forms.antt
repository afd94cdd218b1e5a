-- The forms of nodes, and the numbers of registers.
use Rattle.std.proofs.Common.{◌≡◌, ℕ, ◌<◌, Bool, true, false, Some, refl, ap, slice_get}
use Rattle.std.specs.Prelude.{nat_lt}
use Rattle.std.specs.Option.{unwrap_or}
use Rattle.std.proofs.lemmas.Bool.{lt-ltb}
use Rattle.ft_isa.specs.Registers.{reg_if}
use Rattle.ft_isa.specs.declared.op.Op.{Op}
use Rattle.ft_static.specs.declared.node.Shape.{Shape}
use Rattle.ft_static.specs.declared.node.Shape.TheVariants as shape
use Rattle.ft_static.specs.NormalForm.{constant, norm_op, norm_rem, norm_sel, norm_upd, norm_integer, norm_memory}
use Rattle.ft_static.specs.NormalForm.{norm_under, norm_memory_under}
use Rattle.ft_static.specs.NodeRules.{AreNodes}
use Rattle.ft_static.specs.NodeTree.{integer_part, memory_part, tree_of, trees}
use Rattle.ft_static.proofs.NodeTrees.{tree_at-row}
use Rattle.ft_types.specs.declared.object.Object.{Object}
use Rattle.ft_typing.specs.Context.{Replacement, integer_form_of, memory_form_of, integer_form_after, memory_form_after}
use Rattle.ft_dup.specs.Images.{register_zero, green}
use Rattle.ft_compile.specs.Noted.{node}

-- REGISTERS

-- the register made from a number below 64 has this number
reg_number : (n : ℕ) (b : Bool) (e : nat_lt n 64 ≡ b) → b ≡ true → (unwrap_or (reg_if n b e) register_zero).number ≡ n
reg_number n true e h = refl
reg_number n false e h = cc

-- the green register of a pair has the pair's number
pub green_number : (p : ℕ) → p < 64 → (green p).number ≡ p
green_number p lt = reg_number p (nat_lt p 64) refl (lt-ltb p 64 lt)

-- FORMS

module _ (o : Object) (N : AreNodes o.nodes) (n scope : ℕ) where
  -- the form of a word's node is the constant of this word
  pub word_form : (w : ℕ) → slice_get o.nodes n ≡ Some (node scope (shape.Word w)) → integer_form_of o n ≡ constant w
  unfolding integer_form_of
  word_form w e = ap (λ t. norm_integer (integer_part t)) (tree_at-row o.nodes n (node scope (shape.Word w)) N e)

  -- the form of an operation is computed from the forms of its operands
  pub operation_form : (p : Op) (a b : ℕ) → slice_get o.nodes n ≡ Some (node scope (shape.Op p a b)) →
      integer_form_of o n ≡ norm_op p (integer_form_of o a) (integer_form_of o b)
  unfolding integer_form_of
  operation_form p a b e = ap (λ t. norm_integer (integer_part t))
      (tree_at-row o.nodes n (node scope (shape.Op p a b)) N e)

  -- the form of a remainder is computed from the form of the dividend
  pub rem_form : (a m : ℕ) → slice_get o.nodes n ≡ Some (node scope (shape.Rem a m)) → integer_form_of o n
      ≡ norm_rem (integer_form_of o a) m
  unfolding integer_form_of
  rem_form a m e = ap (λ t. norm_integer (integer_part t)) (tree_at-row o.nodes n (node scope (shape.Rem a m)) N e)

  -- the form of a word of a memory is computed from the forms of the memory and the address
  pub sel_form : (m a : ℕ) → slice_get o.nodes n ≡ Some (node scope (shape.Sel m a)) → integer_form_of o n
      ≡ norm_sel (memory_form_of o m) (integer_form_of o a)
  unfolding integer_form_of memory_form_of
  sel_form m a e = ap (λ t. norm_integer (integer_part t)) (tree_at-row o.nodes n (node scope (shape.Sel m a)) N e)

  -- the form of an update is computed from the forms of its parts
  pub upd_form : (m a v : ℕ) → slice_get o.nodes n ≡ Some (node scope (shape.Upd m a v)) → memory_form_of o n
      ≡ norm_upd (memory_form_of o m) (integer_form_of o a) (integer_form_of o v)
  unfolding integer_form_of memory_form_of
  upd_form m a v e = ap (λ t. norm_memory (memory_part t)) (tree_at-row o.nodes n (node scope (shape.Upd m a v)) N e)

  -- the form of an integer's node after a substitution is computed from the node's shape and the substituted forms
  pub integer_after : (y : Shape) (x : Replacement) → slice_get o.nodes n ≡ Some (node scope y) →
      integer_form_after o x n ≡ norm_under (integer_part (tree_of (trees o.nodes) y)) x.integers x.memory
  unfolding integer_form_after
  integer_after y x e = ap (λ t. norm_under (integer_part t) x.integers x.memory)
      (tree_at-row o.nodes n (node scope y) N e)

  -- likewise for a memory's node
  pub memory_after : (y : Shape) (x : Replacement) → slice_get o.nodes n ≡ Some (node scope y) →
      memory_form_after o x n ≡ norm_memory_under (memory_part (tree_of (trees o.nodes) y)) x.integers x.memory
  unfolding memory_form_after
  memory_after y x e = ap (λ t. norm_memory_under (memory_part t) x.integers x.memory)
      (tree_at-row o.nodes n (node scope y) N e)
