-- What a memo remembers.
use Rattle.std.specs.Prelude.{ℕ, ◌≡◌, nat_eq, List, None, Some}
use Rattle.indexmap.specs.IndexMap.{get}
use Rattle.ft_static.specs.Form.{Form as Normal}
use Rattle.ft_static.specs.NormalForm.{form_under}
use Rattle.ft_static.specs.NodeTree.{tree_at}
use Rattle.ft_static.specs.declared.node.Node.{Node}
use Rattle.ft_norm.specs.declared.form.Form.{Form}
use Rattle.ft_norm.specs.declared.substitution.Memo.{Memo}
use Rattle.ft_norm.specs.Held.{held, polynomials, updates_held}

-- the memo remembers no form
abbrev pub IsFresh : Memo → Type 0
IsFresh m = (k : ℕ) → get nat_eq m.made k ≡ None

-- each form that the memo remembers is that of its node's tree, with these substituted for the variables
pub record Remembers (ns : List Node) (fs : List Normal) (ints : List Form) (memory : Form) (m : Memo) : Type 0 where
  pub each : (k : ℕ) (f : Form) → get nat_eq m.made k ≡ Some f → held fs f ≡ Some (form_under (polynomials fs ints) (updates_held fs memory) (tree_at ns k))
