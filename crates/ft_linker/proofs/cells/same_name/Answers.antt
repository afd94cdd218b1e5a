use Rattle.std.proofs.Common.{◌≤◌, length, sym, ◌∙◌, arith}
use Rattle.ft_linker.proofs.Comparing.{names_go, names_stop, names_end, names_long}
use Rattle.ft_linker.proofs.cells.same_name.Goals as goal

pub loop-k-preserved : goal.loop-k-preserved
loop-k-preserved c = c.loop-k.invariant ∙ names_go c.args.a.now c.args.b.now c.loop-k.k c.at-x.result.now
    c.at-y.result.now c.at-x.ensures c.at-y.ensures c.if-x-y.false

pub returns-then-x-y : goal.returns-then-x-y
returns-then-x-y c = sym (c.loop-k.invariant ∙ names_stop c.args.a.now c.args.b.now c.loop-k.k c.at-x.result.now
    c.at-y.result.now c.at-x.ensures c.at-y.ensures c.if-x-y.true)

pub returns-then-len : goal.returns-then-len
returns-then-len c = sym (names_long c.args.a.now c.args.b.now (λ e.
    c.if-len.true (c.len.ensures ∙ e ∙ sym c.len-2.ensures)))

pub returns : goal.returns
returns c =
    let all : length c.args.a.now ≤ c.loop-k.k = omega (arith, c.len-k-end.ensures, c.loop-k-test.false) in
    let both : length c.args.b.now ≤ c.loop-k.k = omega (arith, all, c.len.ensures, c.len-2.ensures, c.if-len.false) in
    sym (c.loop-k.invariant ∙ names_end c.args.a.now c.args.b.now c.loop-k.k all both)
