use Rattle.std.proofs.Common.{◌≡◌, ℕ, get_or, length, sym, ap, ◌∙◌, subst, arith}
use Rattle.std.proofs.lemmas.Option.{slice_get-get_or}
use Rattle.std.specs.BTreeMap.{is_at}
use Rattle.ft_static.specs.declared.node.Node.{Node}
use Rattle.ft_static.specs.declared.node.Shape.TheVariants as shape
use Rattle.ft_static.specs.contracts.node.ShapeOrd.TheImpl as key_order
use Rattle.ft_linker.specs.Keys.{look}
use Rattle.ft_modules.specs.TreeKeys.{key_of}
use Rattle.std.specs.Map.{lookup}
use Rattle.ft_static.specs.NodeTree.{HasPartsBelow}
use Rattle.ft_static.proofs.NodeTrees.{parts_below}
use Rattle.ft_linker.proofs.OneKey.{only_key, own_key}
use Rattle.ft_linker.proofs.Numbering.{known_next, known_none, all_known}
use Rattle.ft_linker.proofs.numbers.number_trees.Goals as goal

word_node : Node
word_node = record { scope = 0; shape = shape.Word 0 }

pub loop-n-init : goal.loop-n-init
unfolding look
loop-n-init c = known_none c.args.nodes.now c.in_ok-numbers.numbers.items (look c.new-known.result)
    c.in_ok-numbers.ensures.items (λ q. ap (lookup (is_at ((key_order.ghosts).cmp q))) c.new-known.ensures.empty)

pub key_of-key-requires : goal.key_of-key-requires
unfolding word_node
key_of-key-requires c =
    let y = get_or c.args.nodes.now c.loop-n.n word_node in
    let there = slice_get-get_or c.args.nodes.now c.loop-n.n word_node c.loop-n-test.true in
    let long : c.loop-n.n ≡ length c.as_slice.result.now = sym (ap length c.as_slice.ensures.value
    ∙ c.loop-n.invariant.count) in
    subst (λ (n : ℕ). HasPartsBelow n y.shape) long
    (parts_below c.args.nodes.now c.loop-n.n y.scope y.shape (c.requires.each c.loop-n.n y there).shape)

pub loop-n-preserved : goal.loop-n-preserved
unfolding word_node
loop-n-preserved c =
    let y = get_or c.args.nodes.now c.loop-n.n word_node in
    let there = slice_get-get_or c.args.nodes.now c.loop-n.n word_node c.loop-n-test.true in
    known_next c.args.nodes.now c.loop-n.numbers.items c.push.new.self.items c.loop-n.n c.in_ok-number.number y
    (look c.loop-n.known) (look c.number_key.new.known) (is_at ((key_order.ghosts).cmp c.key_of-key.result))
    c.key_of-key.result
    c.requires c.loop-n.invariant there (c.key_of-key.ensures
    ∙ ap (λ z. key_of z y.shape) c.as_slice.ensures.value) c.in_ok-number.ensures.number
    c.in_ok-number.ensures.known
    (only_key c.key_of-key.result) (own_key c.key_of-key.result) c.in_ok-push.ensures.items

pub returns : goal.returns
returns c =
    let whole : c.loop-n.n ≡ length c.args.nodes.now = omega arith in
    all_known c.args.nodes.now c.loop-n.numbers.items c.loop-n.n (look c.loop-n.known) c.loop-n.invariant whole
