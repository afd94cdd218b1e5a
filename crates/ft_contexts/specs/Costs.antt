-- A bound on the steps of making forms.
use Rattle.std.specs.Prelude.{ℕ, ◌+◌, ◌*◌, length}
use Rattle.ft_types.specs.declared.object.Object.{Object}

-- a bound on the steps to make the form of one node, if a memory with u updates is substituted for the memory variable
unfoldable pub tree_cost : Object → ℕ → ℕ
tree_cost o u = length o.nodes * (u + length o.nodes)
