-- The nodes of the examples obey the rules.
use Rattle.std.proofs.Common.{◌≡◌, ℕ, zero, suc, true, false, slice_get, Option, Some, refl, lit<, lit≤, subst}
use Rattle.ft_isa.specs.declared.op.Op.TheVariants.{Add}
use Rattle.ft_static.specs.Examples.{nodes}
use Rattle.ft_static.specs.NodeRules.{MayName, IsNode, AreNodes}
use Rattle.ft_static.specs.declared.node.Node.{Node}
use Rattle.ft_static.specs.declared.node.Shape.TheVariants as shape

-- node 3 may name the variable
names_variable : MayName nodes 3 1 false 1
names_variable = record {
  lower = lit< tt;
  node = record { scope = 1; shape = shape.Var 0 };
  found = refl;
  sort = refl;
  scope_within = lit≤ tt;
}

-- node 3 may name the word
names_word : MayName nodes 3 1 false 2
names_word = record {
  lower = lit< tt;
  node = record { scope = 0; shape = shape.Word 5 };
  found = refl;
  sort = refl;
  scope_within = lit≤ tt;
}

-- node 4 may name the memory variable
names_memory : MayName nodes 4 1 true 0
names_memory = record {
  lower = lit< tt;
  node = record { scope = 0; shape = shape.Memory };
  found = refl;
  sort = refl;
  scope_within = lit≤ tt;
}

-- node 4 may name the sum
names_sum : MayName nodes 4 1 false 3
names_sum = record {
  lower = lit< tt;
  node = record { scope = 1; shape = shape.Op Add 1 2 };
  found = refl;
  sort = refl;
  scope_within = lit≤ tt;
}

-- if x obeys the rules, so does the node that was found, which is x
given : (n : ℕ) (x node : Node) → ◌≡◌ {A = Option Node} (Some x) (Some node) → IsNode nodes n x → IsNode nodes n node
given n x node e h = let q : x ≡ node = cc in subst (IsNode nodes n) q h

-- each of the five nodes obeys the rules
each_node : (n : ℕ) (node : Node) → slice_get nodes n ≡ Some node → IsNode nodes n node
each_node zero node e = given 0 (record { scope = 0; shape = shape.Memory }) node e (record {
  scope = lit≤ tt;
  shape = tt;
})
each_node (suc zero) node e = given 1 (record { scope = 1; shape = shape.Var 0 }) node e (record {
  scope = lit≤ tt;
  shape = lit< tt;
})
each_node (suc (suc zero)) node e = given 2 (record { scope = 0; shape = shape.Word 5 }) node e
    (record { scope = lit≤ tt; shape = lit< tt })
each_node (suc (suc (suc zero))) node e = given 3 (record { scope = 1; shape = shape.Op Add 1 2 }) node e
    (record { scope = lit≤ tt; shape = (names_variable, names_word) })
each_node (suc (suc (suc (suc zero)))) node e = given 4 (record { scope = 1; shape = shape.Sel 0 3 }) node e
    (record { scope = lit≤ tt; shape = (names_memory, names_sum) })
each_node (suc (suc (suc (suc (suc n))))) node e = cc

-- the nodes of the examples obey the rules
pub nodes_are_lawful : AreNodes nodes
nodes_are_lawful = record { few = lit≤ tt; each = each_node }
