use Rattle.std.proofs.Common.{refl}
use Rattle.ft_linker.proofs.Compared.{integers_compared, without}
use Rattle.ft_linker.proofs.types.same_pair.Goals as goal

pub returns-then-not-is_address : goal.returns-then-not-is_address
returns-then-not-is_address c =
    let p = c.requires.row in
    let q = c.requires.other_row in
    let t = integers_compared c.args.numbers.now c.args.a.object.now c.args.a.first c.args.b.object.now c.args.b.first
    c.requires.one.nodes c.requires.other.nodes c.requires.compared p.scope q.scope c.args.r.0 c.args.q.0 p.address
    q.address in
    without c.if-not-is_address.ensures (λ h. t.1 h.address)

pub returns : goal.returns
returns c =
    let p = c.requires.row in
    let q = c.requires.other_row in
    let s = integers_compared c.args.numbers.now c.args.a.object.now c.args.a.first c.args.b.object.now c.args.b.first
    c.requires.one.nodes c.requires.other.nodes c.requires.compared p.scope q.scope c.args.r.0 c.args.q.0 p.address
    q.address in
    let t = integers_compared c.args.numbers.now c.args.a.object.now c.args.a.first c.args.b.object.now c.args.b.first
    c.requires.one.nodes c.requires.other.nodes c.requires.compared p.scope q.scope c.args.r.1 c.args.q.1 p.value
    q.value in (
      λ e. record { address = s.0 (c.if-not-is_address.ensures.0 refl); value = t.0 (c.same_tree.ensures.0 e) },
      λ h. c.same_tree.ensures.1 (t.1 h.value),
    )
