use Rattle.std.proofs.Common.{sym, ◌∙◌, true≢false, arith}
use Rattle.ft_typing.proofs.TypedWords.{same_basic_is, is_same_basic}
use Rattle.ft_tolerance.proofs.Premises.{same_colour_is}
use Rattle.ft_linker.proofs.Compared.{integers_compared, refuted}
use Rattle.ft_modules.proofs.Deciding.{colour_same}
use Rattle.ft_linker.proofs.types.same_row.Goals as goal

pub same_tree-requires : goal.same_tree-requires
same_tree-requires c =
    let from = c.requires.compared.from in
    let to = c.requires.compared.to in
    let p = c.requires.row.1.lower in
    let q = c.requires.other_row.1.lower in
    record { one = omega (arith, from, p); other = omega (arith, to, q) }

pub returns-then-not-same_colour : goal.returns-then-not-same_colour
returns-then-not-same_colour c = refuted (λ h. true≢false (sym (colour_same c.args.r.colour c.args.q.colour h.colour)
    ∙ sym c.if-not-same_colour.ensures))

pub returns-then-not-same_basic : goal.returns-then-not-same_basic
returns-then-not-same_basic c = refuted (λ h. true≢false (sym (is_same_basic c.args.r.basic c.args.q.basic h.basic)
    ∙ sym c.if-not-same_basic.ensures))

pub returns : goal.returns
returns c =
    let t = integers_compared c.args.numbers.now c.args.a.object.now c.args.a.first c.args.b.object.now c.args.b.first
    c.requires.one.nodes c.requires.other.nodes c.requires.compared c.requires.row.0 c.requires.other_row.0
    c.args.r.expr c.args.q.expr c.requires.row.1 c.requires.other_row.1 in (
      λ e. record {
        reg = sym c.number.ensures.same ∙ c.if-number.false ∙ c.number-2.ensures.same;
        colour = same_colour_is c.args.r.colour c.args.q.colour (sym c.if-not-same_colour.ensures);
        basic = same_basic_is c.args.r.basic c.args.q.basic (sym c.if-not-same_basic.ensures);
        tree = t.0 (c.same_tree.ensures.0 e);
      },
      λ h. c.same_tree.ensures.1 (t.1 h.tree),
    )
