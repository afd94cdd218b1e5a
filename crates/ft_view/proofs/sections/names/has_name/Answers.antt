use Rattle.std.proofs.Common.{◌≡◌, ◌+◌, ◌-◌, suc, true, false, length, take, drop, sym, ap, ◌∙◌, subst, arith}
use Rattle.std.specs.Str.{bytes_eq}
use Rattle.std.proofs.lemmas.List.{length-drop}
use Rattle.ft_types.specs.declared.object.Cell.{Cell}
use Rattle.ft_format.specs.Layout.{numbers, cell_layout}
use Rattle.ft_format.specs.Fields.{cell_numbers}
use Rattle.ft_format.specs.Values.{past_of}
use Rattle.ft_view.proofs.EndsRise.{first_end}
use Rattle.ft_view.proofs.Named.{any_more, any_here, any_none}
use Rattle.ft_view.proofs.sections.names.has_name.Goals as goal

pub overflow_sub-row : goal.overflow_sub-row
overflow_sub-row c =
    let one_more : c.args.count - c.loop.counter ≡ suc (c.args.count - (c.loop.counter + 1)) = omega arith in
    let is : cell_numbers c.read-row.result ≡ numbers cell_layout (take 16 c.loop.rest.now) = c.read-row.ensures
    ∙ ap (numbers cell_layout) c.split_at.ensures.front in
    (first_end past_of (length c.args.names.now) c.loop.start cell_layout _ _ c.loop.rest.now
    (cell_numbers c.read-row.result) one_more is c.loop.invariant.ends).0

pub stretch-other-requires : goal.stretch-other-requires
stretch-other-requires c =
    let one_more : c.args.count - c.loop.counter ≡ suc (c.args.count - (c.loop.counter + 1)) = omega arith in
    let is : cell_numbers c.read-row.result ≡ numbers cell_layout (take 16 c.loop.rest.now) = c.read-row.ensures
    ∙ ap (numbers cell_layout) c.split_at.ensures.front in
    let end = first_end past_of (length c.args.names.now) c.loop.start cell_layout _ _ c.loop.rest.now
    (cell_numbers c.read-row.result) one_more is c.loop.invariant.ends in
    omega (arith, end.0, end.1)

pub returns-then-is_same : goal.returns-then-is_same
returns-then-is_same c =
    let one_more : c.args.count - c.loop.counter ≡ suc (c.args.count - (c.loop.counter + 1)) = omega arith in
    let is : cell_numbers c.read-row.result ≡ numbers cell_layout (take 16 c.loop.rest.now) = c.read-row.ensures
    ∙ ap (numbers cell_layout) c.split_at.ensures.front in
    let same : bytes_eq c.args.name.now (take (c.read-row.result.past - c.loop.start)
    (drop c.loop.start c.args.names.now)) ≡ true = subst (λ l. bytes_eq c.args.name.now l
    ≡ true) c.stretch-other.ensures.bytes (sym c.is_same.ensures ∙ c.if-is_same.true) in
    any_here (λ (x : Cell). bytes_eq c.args.name.now x.name) c.args.names.now c.loop.start _ _ c.loop.rest.now
    (cell_numbers c.read-row.result) _ one_more is same c.loop.invariant.left

pub loop-preserved : goal.loop-preserved
loop-preserved c =
    let one_more : c.args.count - c.loop.counter ≡ suc (c.args.count - (c.loop.counter + 1)) = omega arith in
    let is : cell_numbers c.read-row.result ≡ numbers cell_layout (take 16 c.loop.rest.now) = c.read-row.ensures
    ∙ ap (numbers cell_layout) c.split_at.ensures.front in
    let other : bytes_eq c.args.name.now (take (c.read-row.result.past - c.loop.start)
    (drop c.loop.start c.args.names.now)) ≡ false = subst (λ l. bytes_eq c.args.name.now l
    ≡ false) c.stretch-other.ensures.bytes (sym c.is_same.ensures ∙ c.if-is_same.false) in
    let end = first_end past_of (length c.args.names.now) c.loop.start cell_layout _ _ c.loop.rest.now
    (cell_numbers c.read-row.result) one_more is c.loop.invariant.ends in
    rw c.split_at.ensures.back (record {
      there = omega (arith, length-drop 16 c.loop.rest.now);
      ends = end.2;
      left = any_more (λ (x : Cell). bytes_eq c.args.name.now x.name) c.args.names.now c.loop.start _ _ c.loop.rest.now
          (cell_numbers c.read-row.result) _ one_more is other c.loop.invariant.left;
    })

pub returns : goal.returns
returns c =
    let no_more : c.args.count - c.loop.counter ≡ 0 = omega arith in
    any_none (λ (x : Cell). bytes_eq c.args.name.now x.name) c.args.names.now c.loop.start _ c.loop.rest.now _ no_more
    c.loop.invariant.left
