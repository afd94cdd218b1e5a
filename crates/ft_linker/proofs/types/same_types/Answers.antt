use Rattle.std.proofs.Common.{refl, arith}
use Rattle.ft_linker.proofs.Compared.{rows_named, pairs_named, ints_say, rows_say, pairs_say, memory_says, says}
use Rattle.ft_linker.proofs.Compared.{is_code_type, memories_compared, refuted, without}
use Rattle.ft_linker.proofs.types.same_types.Goals as goal

pub same_rows-requires : goal.same_rows-requires
same_rows-requires c = record {
  one = c.requires.one;
  other = c.requires.other;
  compared = c.requires.compared;
  rows = rows_named c.args.a.object.now c.args.t c.at-x.result.now c.requires.one c.at-x.ensures;
  other_rows = rows_named c.args.b.object.now c.args.u c.at-y.result.now c.requires.other c.at-y.ensures;
}

pub same_pairs-requires : goal.same_pairs-requires
same_pairs-requires c = record {
  one = c.requires.one;
  other = c.requires.other;
  compared = c.requires.compared;
  rows = pairs_named c.args.a.object.now c.args.t c.at-x.result.now c.requires.one c.at-x.ensures;
  other_rows = pairs_named c.args.b.object.now c.args.u c.at-y.result.now c.requires.other c.at-y.ensures;
}

pub same_tree-requires : goal.same_tree-requires
same_tree-requires c =
    let from = c.requires.compared.from in
    let to = c.requires.compared.to in
    let p = (is_code_type c.args.a.object.now c.args.t c.at-x.result.now c.requires.one c.at-x.ensures).memory.lower in
    let q = (is_code_type c.args.b.object.now c.args.u c.at-y.result.now c.requires.other c.at-y.ensures).memory.lower
    in
    record { one = omega (arith, from, p); other = omega (arith, to, q) }

pub returns-then-x-y : goal.returns-then-x-y
returns-then-x-y c = refuted (λ h. c.if-x-y.true (ints_say c.args.a.object.now c.args.t c.args.b.object.now c.args.u
    c.at-x.result.now c.at-y.result.now c.at-x.ensures c.at-y.ensures h))

pub returns-then-not-same_rows : goal.returns-then-not-same_rows
returns-then-not-same_rows c = without c.if-not-same_rows.ensures
    (rows_say c.args.a.object.now c.args.t c.args.b.object.now c.args.u c.at-x.result.now c.at-y.result.now
    c.at-x.ensures c.at-y.ensures)

pub returns-then-not-same_pairs : goal.returns-then-not-same_pairs
returns-then-not-same_pairs c = without c.if-not-same_pairs.ensures
    (pairs_say c.args.a.object.now c.args.t c.args.b.object.now c.args.u c.at-x.result.now c.at-y.result.now
    c.at-x.ensures c.at-y.ensures)

pub returns : goal.returns
returns c =
    let x = c.at-x.result.now in
    let y = c.at-y.result.now in
    let p = is_code_type c.args.a.object.now c.args.t x c.requires.one c.at-x.ensures in
    let q = is_code_type c.args.b.object.now c.args.u y c.requires.other c.at-y.ensures in
    let t = memories_compared c.args.numbers.now c.args.a.object.now c.args.a.first c.args.b.object.now c.args.b.first
    c.requires.one.nodes c.requires.other.nodes c.requires.compared x.ints y.ints x.memory y.memory p.memory q.memory
    in (
      λ e. says c.args.a.object.now c.args.t c.args.b.object.now c.args.u x y c.at-x.ensures c.at-y.ensures
          c.if-x-y.false (c.if-not-same_rows.ensures.0 refl) (c.if-not-same_pairs.ensures.0 refl)
          (t.0 (c.same_tree.ensures.0 e)),
      λ h. c.same_tree.ensures.1 (t.1 (memory_says c.args.a.object.now c.args.t c.args.b.object.now c.args.u x y
          c.at-x.ensures c.at-y.ensures h)),
    )
