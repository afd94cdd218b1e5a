-- Modules that were added can be laid, and their nodes can be compared.
use Rattle.std.proofs.Common.{◌≡◌, ℕ, ◌+◌, ◌<◌, ◌≤◌, List, length, slice_get, get_or, Some, refl, sym, ◌∙◌, subst}
use Rattle.std.proofs.Common.{arith}
use Rattle.std.specs.Prelude.{sum_by}
use Rattle.std.proofs.lemmas.List.{length-map}
use Rattle.std.proofs.lemmas.Option.{slice_get-get_or}
use Rattle.ft_isa.specs.declared.instr.Instr.TheVariants.{Mov}
use Rattle.ft_isa.proofs.Lists.{all_there}
use Rattle.ft_static.specs.NodeRules.{AreNodes}
use Rattle.ft_static.specs.NodeTree.{tree_at}
use Rattle.ft_static.specs.declared.node.Node.{Node}
use Rattle.ft_static.specs.declared.node.Shape.TheVariants as shape
use Rattle.ft_types.specs.declared.object.Object.{Object}
use Rattle.ft_types.specs.Objects.{block_instrs}
use Rattle.ft_types.specs.Spellable.{IsSpellable}
use Rattle.ft_typing.specs.Accepted.{IsAccepted}
use Rattle.ft_typing.specs.Context.{start_context}
use Rattle.ft_modules.specs.Linked.{before_module, laid, nodes_part, nothing_before, raised_node}
use Rattle.ft_modules.proofs.Elements.{all_of}
use Rattle.ft_modules.proofs.Laying.{laid_length}
use Rattle.ft_modules.proofs.LaidNodes.{laid_nodes, laid_tree}
use Rattle.ft_modules.proofs.ModuleInstrs.{typed_moves}
use Rattle.ft_modules.proofs.SpelledLinked.{instr_in_block}
use Rattle.ft_linker.specs.Tables.{AreLaid, CanBeLaid, HasTypedMoves}
use Rattle.ft_linker.specs.declared.laying.Laid.{Laid}
use Rattle.ft_linker.proofs.Stacking.{before_low}
use Rattle.ft_linker.specs.Numbers.{AreCompared, AreNumbered}
use Rattle.ft_linker.specs.Joins.{AreReady}
use Rattle.ft_linker.specs.Linking.{AreAdded}

-- the word of each `mov` of an accepted module has the type that the `mov` claims
moves_of : (o : Object) → IsSpellable o → IsAccepted o → HasTypedMoves o
moves_of o s a = λ n rd v b e.
    let p = instr_in_block o n (Mov rd b v) s e in
    typed_moves o (start_context o p.1.code_type) (block_instrs o p.0) p.2 (Mov rd b v) (a.blocks p.0 p.1 p.3) p.4 rd v
    b refl

pub can_be_laid : (ms : List Object) → AreAdded ms → CanBeLaid ms
can_be_laid ms h = record {
  spelled = h.spelled;
  typed = all_of HasTypedMoves ms (λ k o e. moves_of o (all_there IsSpellable ms k o h.spelled e)
      (all_there IsAccepted ms k o h.accepted e));
  few = h.few;
}

module _ (ms : List Object) (h : AreAdded ms) where
  abbrev all_nodes : List Node
  all_nodes = laid nodes_part nothing_before ms

  each_spelled : (m : ℕ) (o : Object) → slice_get ms m ≡ Some o → IsSpellable o
  each_spelled m o e = all_there IsSpellable ms m o h.spelled e

  pub all_are_nodes : AreNodes all_nodes
  all_are_nodes = laid_nodes ms each_spelled h.few.nodes

  all_long : length all_nodes ≡ sum_by (λ (o : Object). length o.nodes) ms
  all_long = laid_length nodes_part (λ (o : Object). length o.nodes) (λ k o. length-map o.nodes (raised_node k.nodes))
      nothing_before ms

  within : (m : ℕ) (o : Object) → slice_get ms m ≡ Some o →
      (before_module nothing_before ms m).nodes + length o.nodes ≤ length all_nodes
  within m o e =
      let low = before_low (λ k. k.nodes) (λ (x : Object). length x.nodes) (λ k x. refl) nothing_before ms m o e in
      let long = all_long in
      omega (arith, low, long)

  tree_same : (m n : ℕ) (o : Object) → slice_get ms m ≡ Some o → n < length o.nodes →
      tree_at all_nodes ((before_module nothing_before ms m).nodes + n) ≡ tree_at o.nodes n
  tree_same m n o e lt =
      let word_node : Node = record { scope = 0; shape = shape.Word 0 } in
      laid_tree ms each_spelled h.few.nodes m n o (get_or o.nodes n word_node) e
      (slice_get-get_or o.nodes n word_node lt)

  compared_all : (cs : List ℕ) → AreNumbered all_nodes cs → (m n : ℕ) (o x : Object) → slice_get ms m ≡ Some o →
      slice_get ms n ≡ Some x → AreCompared cs o (before_module nothing_before ms m).nodes x
      (before_module nothing_before ms n).nodes
  compared_all cs numbered m n o x e f =
      let count = numbered.count in
      let from = within m o e in
      let to = within n x f in
      record {
        from = omega (arith, count, from);
        to = omega (arith, count, to);
        same = λ i j li lj.
            let t = numbered.trees ((before_module nothing_before ms m).nodes + i)
            ((before_module nothing_before ms n).nodes + j) (omega (arith, from, li)) (omega (arith, to, lj)) in (
              λ s. sym (tree_same m i o e li) ∙ t.0 s ∙ tree_same n j x f lj,
              λ s.
                  t.1 (tree_same m i o e li ∙ s ∙ sym (tree_same n j x f lj)),
            );
      }

  pub are_ready : (l : Laid) (cs : List ℕ) → AreLaid ms l → AreNumbered l.nodes.items cs → AreReady ms l cs
  are_ready l cs tables numbered = record {
    can = can_be_laid ms h;
    tables = tables;
    numbered = numbered;
    compared = compared_all cs (subst (λ (z : List Node). AreNumbered z cs) tables.nodes numbered);
  }
