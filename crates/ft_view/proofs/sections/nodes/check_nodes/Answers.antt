use Rattle.std.proofs.Common.{◌≡◌, ◌+◌, ◌-◌, ℕ, suc, None, Some, List, [], ◌∷◌, ◌++◌, map, refl, sym, ap, ◌∙◌, subst}
use Rattle.std.proofs.Common.{arith, take, drop}
use Rattle.std.proofs.lemmas.List.{length-drop}
use Rattle.std.proofs.lemmas.Result.{err_from_is_err_and}
use Rattle.ft_format.specs.Layout.{numbers, rows, code_layout}
use Rattle.ft_format.specs.Fields.{node_numbers}
use Rattle.ft_format.specs.NodeRecords.{node_broken, node_of}
use Rattle.ft_format.specs.Broken.{nodes_broken}
use Rattle.ft_format.proofs.Loops.{goes, stops, ends, past_more}
use Rattle.ft_view.proofs.RowsAfter.{nodes_snoc, no_nodes}
use Rattle.ft_view.proofs.sections.nodes.check_nodes.Goals as goal

pub returns-in_err-check_node : goal.returns-in_err-check_node
unfolding nodes_broken
returns-in_err-check_node c =
    let one_more : c.args.count - c.loop-i.i ≡ suc (c.args.count - (c.loop-i.i + 1)) = omega arith in
    let bs = c.loop-i.rest.now in
    let row : List ℕ = node_numbers c.read-row.result in
    let is : row ≡ numbers code_layout (take 16 bs) = c.read-row.ensures
    ∙ ap (numbers code_layout) c.split_at.ensures.front in
    let earlier = map node_of (rows code_layout c.loop-i.i c.args.bytes.now) in
    let rule : node_broken c.args.version earlier c.loop-i.place row ≡ Some c.in_err-check_node.field-0.0 =
    subst (λ ns. node_broken c.args.version ns c.loop-i.place row ≡ Some c.in_err-check_node.field-0.0)
    c.new-earlier.ensures c.in_err-check_node.ensures in
    let p = err_from_is_err_and c.from_residual.result c.from_residual.ensures.1 in
    rw (p.1, p.2) (stops code_layout _ _ bs row (node_broken c.args.version earlier c.loop-i.place row) _
    c.in_err-check_node.field-0.0 (nodes_broken c.args.version earlier c.loop-i.place)
    (nodes_broken c.args.version (earlier ++ node_of row ∷ []) (c.loop-i.place + 16)) one_more is (λ rest.
    refl) rule c.loop-i.invariant.broken)

pub loop-i-preserved : goal.loop-i-preserved
unfolding nodes_broken
loop-i-preserved c =
    let one_more : c.args.count - c.loop-i.i ≡ suc (c.args.count - (c.loop-i.i + 1)) = omega arith in
    let bs = c.loop-i.rest.now in
    let row : List ℕ = node_numbers c.read-row.result in
    let is : row ≡ numbers code_layout (take 16 bs) = c.read-row.ensures
    ∙ ap (numbers code_layout) c.split_at.ensures.front in
    let earlier = map node_of (rows code_layout c.loop-i.i c.args.bytes.now) in
    let rule : node_broken c.args.version earlier c.loop-i.place row
    ≡ None = subst (λ ns. node_broken c.args.version ns c.loop-i.place row
    ≡ None) c.new-earlier.ensures c.in_ok-check_node.ensures in
    let gone = goes code_layout _ _ bs row (node_broken c.args.version earlier c.loop-i.place row) _
    (nodes_broken c.args.version earlier c.loop-i.place) (nodes_broken c.args.version (earlier
    ++ node_of row ∷ []) (c.loop-i.place + 16)) one_more is (λ rest. refl) rule c.loop-i.invariant.broken in
    rw c.split_at.ensures.back (record {
      there = omega (arith, length-drop 16 bs);
      places = omega arith;
      rest = past_more 16 c.loop-i.i c.args.bytes.now bs c.loop-i.invariant.rest;
      broken = sym (ap (λ ns. nodes_broken c.args.version ns (c.loop-i.place + 16)
          (rows code_layout (c.args.count - (c.loop-i.i + 1)) (drop 16 bs)))
          (nodes_snoc c.loop-i.i c.args.bytes.now bs row c.loop-i.invariant.rest is)) ∙ gone;
    })

pub returns : goal.returns
unfolding nodes_broken
returns c =
    let no_more : c.args.count - c.loop-i.i ≡ 0 = omega arith in
    ends code_layout _ c.loop-i.rest.now _ _ (nodes_broken c.args.version
    (map node_of (rows code_layout c.loop-i.i c.args.bytes.now)) c.loop-i.place) no_more refl
    c.loop-i.invariant.broken

pub loop-i-init : goal.loop-i-init
loop-i-init c =
    let bs = c.args.bytes.now in
    let all : c.args.count - 0 ≡ c.args.count = omega arith in
    record {
      there = omega arith;
      places = omega arith;
      rest = refl;
      broken = ap (λ ns. nodes_broken c.args.version ns c.args.at (rows code_layout (c.args.count - 0) bs))
          (no_nodes bs) ∙ ap (λ k. nodes_broken c.args.version [] c.args.at (rows code_layout k bs)) all;
    }
