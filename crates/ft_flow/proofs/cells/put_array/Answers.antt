use Rattle.std.proofs.Common.{◌≡◌, [], ◌∷◌, ◌++◌, rules}
use Rattle.ft_flow.proofs.Arrays.{names_turn}
use Rattle.ft_flow.proofs.cells.put_array.Goals as goal

pub loop-k-preserved : goal.loop-k-preserved
loop-k-preserved c =
    let added : c.push.new.self.items ≡ c.loop-k.cells.items ++ c.in_ok-cell.cell ∷ [] = search rules in
    names_turn (λ n. n.items) c.loop-k.cells.items c.push.new.self.items c.in_ok-cell.cell c.args.name.now c.loop-k.k
    c.args.length _ c.loop-k-test.true added c.in_ok-cell.ensures c.loop-k.invariant
