use Rattle.std.proofs.Common.{◌≡◌, ◌≤◌, length, slice_get, Some, refl, ap, subst, arith}
use Rattle.ft_asm.specs.Pieces.{node_text}
use Rattle.ft_asm.proofs.WriteLaws.{line_goes, line_ends}
use Rattle.ft_asm.proofs.disassembly.put_nodes.Goals as goal

pub loop-n-init : goal.loop-n-init
loop-n-init g c = refl

pub loop-n-preserved : goal.loop-n-preserved
loop-n-preserved g c =
    let all = (g.P.Program.object c.args.program.now).nodes in
    let is : slice_get all c.loop-n.n ≡ Some c.node.result = subst (λ ns. slice_get ns c.loop-n.n
    ≡ Some c.node.result) (g.met.P.Program.nodes_are c.args.program.now) c.node.ensures in
    line_goes node_text all c.loop-n.n c.node.result c.loop-n.out.items c.put_node.new.out.items _ is
    c.in_ok-put_node.ensures c.loop-n.invariant

pub returns : goal.returns
returns g c =
    let all = (g.P.Program.object c.args.program.now).nodes in
    let long = ap length (g.met.P.Program.nodes_are c.args.program.now) in
    let count = c.node_count-n-end.ensures in
    let past = c.loop-n-test.false in
    let le : length all ≤ c.loop-n.n = omega arith in
    line_ends node_text all c.loop-n.n c.loop-n.out.items _ le c.loop-n.invariant
