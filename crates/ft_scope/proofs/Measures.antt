-- Needs and weights of statements in sequence, and bounds on them.
use Rattle.std.proofs.Common.{◌≡◌, ◌+◌, ◌*◌, ◌≤◌, [], max, ap, arith}
use Rattle.ft_syntax.specs.Plain.{Expression, literal, name, indexed, operation, StatementList, none, assign, assign_at}
use Rattle.ft_syntax.specs.Plain.{loop, choose, follow, plain_list}
use Rattle.ft_syntax.specs.Size.{expression_nodes, statement_nodes}
use Rattle.ft_syntax.proofs.PlainForms.{list_empty}
use Rattle.ft_scope.specs.declared.slot.Slot.{Slot}
use Rattle.ft_scope.specs.declared.slot.Slot.TheVariants.{Cell, Var, Run}
use Rattle.ft_scope.specs.Size.{same_slot, need, most_need, slot_weight, expression_weight, statements_weight}

-- an empty list of statements needs nothing
pub nothing_needed : most_need (plain_list same_slot []) ≡ 0
nothing_needed = ap most_need (list_empty same_slot)

-- an empty list of statements weighs nothing
pub nothing_weighed : statements_weight (plain_list same_slot []) ≡ 0
nothing_weighed = ap statements_weight (list_empty same_slot)

-- the need of statements in sequence is the larger of the two needs
pub need_follow : {N : Type 0} → (a b : StatementList N) → most_need (follow a b) ≡ max (most_need a) (most_need b)
need_follow none b = omega arith
need_follow (assign to e rest) b = omega (arith, need_follow rest b)
need_follow (assign_at to i e rest) b = omega (arith, need_follow rest b)
need_follow (loop e body rest) b = omega (arith, need_follow rest b)
need_follow (choose e if_so if_not rest) b = omega (arith, need_follow rest b)

-- the weight of statements in sequence is the sum of the two weights
pub weight_follow : (a b : StatementList Slot) → statements_weight (follow a b)
    ≡ statements_weight a + statements_weight b
weight_follow none b = omega arith
weight_follow (assign to e rest) b = omega (arith, weight_follow rest b)
weight_follow (assign_at to i e rest) b = omega (arith, weight_follow rest b)
weight_follow (loop e body rest) b = omega (arith, weight_follow rest b)
weight_follow (choose e if_so if_not rest) b = omega (arith, weight_follow rest b)

-- statements in sequence have as many nodes as both parts together
pub nodes_follow : {N : Type 0} → (a b : StatementList N) → statement_nodes (follow a b)
    ≡ statement_nodes a + statement_nodes b
nodes_follow none b = omega arith
nodes_follow (assign to e rest) b = omega (arith, nodes_follow rest b)
nodes_follow (assign_at to i e rest) b = omega (arith, nodes_follow rest b)
nodes_follow (loop e body rest) b = omega (arith, nodes_follow rest b)
nodes_follow (choose e if_so if_not rest) b = omega (arith, nodes_follow rest b)

need_within : {N : Type 0} → (e : Expression N) → need e ≤ expression_nodes e
need_within (literal w) = omega arith
need_within (name n) = omega arith
need_within (indexed n i) = omega (arith, need_within i)
need_within (operation o a b) = omega (arith, need_within a, need_within b)

-- the need is at most the number of nodes
pub most_need_within : {N : Type 0} → (b : StatementList N) → most_need b ≤ statement_nodes b
most_need_within none = omega arith
most_need_within (assign to e rest) = omega (arith, need_within e, most_need_within rest)
most_need_within (assign_at to i e rest) = omega (arith, need_within i, need_within e, most_need_within rest)
most_need_within (loop e body rest) = omega (arith, need_within e, most_need_within body, most_need_within rest)
most_need_within (choose e if_so if_not rest) = omega (
  arith,
  need_within e,
  most_need_within if_so,
  most_need_within if_not,
  most_need_within rest,
)

-- a name weighs at most 4
pub slot_within : (s : Slot) → slot_weight s ≤ 4
slot_within (Cell k) = omega arith
slot_within (Var x) = omega arith
slot_within (Run c l) = omega arith

weight_within : (e : Expression Slot) → expression_weight e ≤ 4 * expression_nodes e
weight_within (literal w) = omega arith
weight_within (name s) = slot_within s
weight_within (indexed s i) = omega (arith, weight_within i)
weight_within (operation o a b) = omega (arith, weight_within a, weight_within b)

-- the weight is at most sixteen times the number of nodes
pub statements_within : (b : StatementList Slot) → statements_weight b ≤ 16 * statement_nodes b
statements_within none = omega arith
statements_within (assign to e rest) = omega (arith, slot_within to, weight_within e, statements_within rest)
statements_within (assign_at to i e rest) = omega (arith, weight_within i, weight_within e, statements_within rest)
statements_within (loop e body rest) = omega (arith, weight_within e, statements_within body, statements_within rest)
statements_within (choose e if_so if_not rest) = omega (
  arith,
  weight_within e,
  statements_within if_so,
  statements_within if_not,
  statements_within rest,
)
