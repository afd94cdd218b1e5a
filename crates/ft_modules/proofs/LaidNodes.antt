-- The nodes of modules, laid one after another, obey the rules and stand for the same trees.
use Rattle.std.proofs.Common.{◌≡◌, ℕ, ◌+◌, ◌≤◌, List, length, slice_get, Some, refl, sym, subst, arith}
use Rattle.std.specs.Prelude.{sum_by}
use Rattle.std.proofs.lemmas.List.{length-map}
use Rattle.ft_isa.proofs.Lists.{there_mapped}
use Rattle.ft_static.specs.NodeRules.{IsNode, AreNodes}
use Rattle.ft_static.specs.NodeTree.{tree_at}
use Rattle.ft_static.specs.declared.node.Node.{Node}
use Rattle.ft_types.specs.declared.object.Object.{Object}
use Rattle.ft_types.specs.Spellable.{IsSpellable}
use Rattle.ft_modules.specs.Linked.{nothing_before, raised_node, laid, nodes_part}
use Rattle.ft_modules.proofs.Laying.{get_among, whence, laid_length}
use Rattle.ft_modules.proofs.ModuleParts.{of_nodes, nodes_grow, among_all}
use Rattle.ft_modules.proofs.SpelledLinked.{from_map, raised_is_node}
use Rattle.ft_modules.proofs.Trees.{StandIn, tree_raised}
use Rattle.ft_modules.proofs.World.{before_of}

module _ (modules : List Object) (spelled : (m : ℕ) (o : Object) → slice_get modules m ≡ Some o →
    IsSpellable o) (few : sum_by (λ (o : Object). length o.nodes) modules ≤ 1048576) where
  -- the nodes of all modules
  abbrev all_nodes : List Node
  all_nodes = laid nodes_part nothing_before modules

  -- a module's nodes are among them, raised
  laid_stand : (m : ℕ) (o : Object) → slice_get modules m ≡ Some o →
      StandIn o.nodes all_nodes (before_of modules m).nodes
  laid_stand m o e n y f = get_among _ _ (before_of modules m).nodes n _
      (among_all nodes_part of_nodes refl nodes_grow modules m o e)
      (there_mapped (raised_node (before_of modules m).nodes) o.nodes n y f)

  -- all nodes obey the rules
  pub laid_nodes : AreNodes all_nodes
  laid_nodes = record {
    few = (let long = laid_length nodes_part (λ (o : Object). length o.nodes) (λ k o.
        length-map o.nodes (raised_node k.nodes)) nothing_before modules in omega (arith, long, few));
    each = λ n y e.
        let w = whence nodes_part of_nodes nodes_grow nothing_before modules n y e in
        let k = before_of modules w.number in
        let z = from_map (raised_node k.nodes) w.object.nodes w.place y w.found in
        let counted = w.counted in
        let is = raised_is_node w.object.nodes all_nodes k.nodes w.place z.0 (laid_stand w.number w.object w.there)
        ((spelled w.number w.object w.there).nodes.each w.place z.0 z.1) in
        let at : k.nodes + w.place ≡ n = omega (arith, counted) in
        subst (λ j. IsNode all_nodes j y) at (subst (λ (q : Node). IsNode all_nodes (k.nodes + w.place) q) (sym z.2)
        is);
  }

  -- a module's node, raised, stands for the same tree
  pub laid_tree : (m n : ℕ) (o : Object) (y : Node) → slice_get modules m ≡ Some o → slice_get o.nodes n ≡ Some y →
      tree_at all_nodes ((before_of modules m).nodes + n) ≡ tree_at o.nodes n
  laid_tree m n o y e f = tree_raised o.nodes all_nodes (before_of modules m).nodes n y (spelled m o e).nodes laid_nodes
      (laid_stand m o e) f
