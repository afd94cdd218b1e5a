use Rattle.std.proofs.Common.{length, ap, arith}
use Rattle.ft_view.proofs.Opened.{sections}
use Rattle.ft_view.proofs.view.View.stretch_of.Goals as goal

pub returns-in-Cells-clause-within : goal.returns-in-Cells-clause-within
returns-in-Cells-clause-within c =
    let u = sections c.self.inside.header c.self.inside.at c.self.inside.bytes.now c.self.invariant in
    omega (arith, ap length c.self.view_is, u.whole.whole, c.self.invariant.places.nodes)

pub returns-in-Nodes-clause-within : goal.returns-in-Nodes-clause-within
returns-in-Nodes-clause-within c =
    let u = sections c.self.inside.header c.self.inside.at c.self.inside.bytes.now c.self.invariant in
    omega (arith, ap length c.self.view_is, u.whole.whole, c.self.invariant.places.types)

pub returns-in-Types-clause-within : goal.returns-in-Types-clause-within
returns-in-Types-clause-within c =
    let u = sections c.self.inside.header c.self.inside.at c.self.inside.bytes.now c.self.invariant in
    omega (arith, ap length c.self.view_is, u.whole.whole, c.self.invariant.places.regs)

pub returns-in-Regs-clause-within : goal.returns-in-Regs-clause-within
returns-in-Regs-clause-within c =
    let u = sections c.self.inside.header c.self.inside.at c.self.inside.bytes.now c.self.invariant in
    omega (arith, ap length c.self.view_is, u.whole.whole, c.self.invariant.places.queue)

pub returns-in-Queue-clause-within : goal.returns-in-Queue-clause-within
returns-in-Queue-clause-within c =
    let u = sections c.self.inside.header c.self.inside.at c.self.inside.bytes.now c.self.invariant in
    omega (arith, ap length c.self.view_is, u.whole.whole, c.self.invariant.places.blocks)

pub returns-in-Blocks-clause-within : goal.returns-in-Blocks-clause-within
returns-in-Blocks-clause-within c =
    let u = sections c.self.inside.header c.self.inside.at c.self.inside.bytes.now c.self.invariant in
    omega (arith, ap length c.self.view_is, u.whole.whole, c.self.invariant.places.instrs)

pub returns-in-Instrs-clause-within : goal.returns-in-Instrs-clause-within
returns-in-Instrs-clause-within c =
    let u = sections c.self.inside.header c.self.inside.at c.self.inside.bytes.now c.self.invariant in
    omega (arith, ap length c.self.view_is, u.whole.whole, c.self.invariant.places.substs)

pub returns-in-Substs-clause-within : goal.returns-in-Substs-clause-within
returns-in-Substs-clause-within c =
    let u = sections c.self.inside.header c.self.inside.at c.self.inside.bytes.now c.self.invariant in
    omega (arith, ap length c.self.view_is, u.whole.whole, c.self.invariant.places.names)

pub returns-in-Names-clause-within : goal.returns-in-Names-clause-within
returns-in-Names-clause-within c =
    let u = sections c.self.inside.header c.self.inside.at c.self.inside.bytes.now c.self.invariant in
    omega (arith, ap length c.self.view_is, u.whole.whole, c.self.invariant.places.end)
