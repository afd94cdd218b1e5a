use Rattle.std.proofs.Common.{◌≡◌, ◌+◌, ◌-◌, suc, None, Some, length, take, drop, refl, sym, ap, ◌∙◌, subst, arith}
use Rattle.std.proofs.lemmas.List.{length-drop}
use Rattle.std.proofs.lemmas.Result.{err_from_is_err_and}
use Rattle.ft_format.specs.Layout.{numbers, rows, cell_layout}
use Rattle.ft_format.specs.Fields.{cell_numbers}
use Rattle.ft_format.specs.Values.{past_of, cells_of}
use Rattle.ft_format.specs.Broken.{name_broken, names_broken}
use Rattle.ft_format.proofs.Loops.{past_more}
use Rattle.ft_view.specs.Found.{Finds}
use Rattle.ft_view.proofs.EndsRise.{first_end}
use Rattle.ft_view.proofs.Named.{ends_first, last_more, name_goes, name_halts, names_end, no_cells, no_past}
use Rattle.ft_view.proofs.sections.names.check_names.Goals as goal

pub loop-i-init : goal.loop-i-init
loop-i-init c =
    let all : c.args.count - 0 ≡ c.args.count = omega arith in
    let here : c.args.at + 0 ≡ c.args.at = omega arith in
    let ns = c.args.names.now in
    let rs = c.args.records.now in
    rw (all, here, no_cells ns rs) (record {
      there = c.requires.there;
      rest = refl;
      start = omega arith;
      last = no_past rs;
      ends = c.requires.ends;
      broken = refl;
    })

pub overflow_sub-row : goal.overflow_sub-row
overflow_sub-row c =
    let one_more : c.args.count - c.loop-i.i ≡ suc (c.args.count - (c.loop-i.i + 1)) = omega arith in
    let is : cell_numbers c.read-row.result ≡ numbers cell_layout (take 16 c.loop-i.rest.now) = c.read-row.ensures
    ∙ ap (numbers cell_layout) c.split_at.ensures.front in
    (first_end past_of (length c.args.names.now) c.loop-i.start cell_layout _ _ c.loop-i.rest.now
    (cell_numbers c.read-row.result) one_more is c.loop-i.invariant.ends).0

pub stretch-name-requires : goal.stretch-name-requires
stretch-name-requires c =
    let one_more : c.args.count - c.loop-i.i ≡ suc (c.args.count - (c.loop-i.i + 1)) = omega arith in
    let is : cell_numbers c.read-row.result ≡ numbers cell_layout (take 16 c.loop-i.rest.now) = c.read-row.ensures
    ∙ ap (numbers cell_layout) c.split_at.ensures.front in
    let end = first_end past_of (length c.args.names.now) c.loop-i.start cell_layout _ _ c.loop-i.rest.now
    (cell_numbers c.read-row.result) one_more is c.loop-i.invariant.ends in
    omega (arith, end.0, end.1)

pub check_name-requires-clause-ends : goal.check_name-requires-clause-ends
check_name-requires-clause-ends c = ends_first past_of (length c.args.names.now) 0 c.args.count c.loop-i.i
    c.args.records.now (omega arith) c.requires.ends

pub returns-in_err-check_name : goal.returns-in_err-check_name
returns-in_err-check_name c =
    let one_more : c.args.count - c.loop-i.i ≡ suc (c.args.count - (c.loop-i.i + 1)) = omega arith in
    let is : cell_numbers c.read-row.result ≡ numbers cell_layout (take 16 c.loop-i.rest.now) = c.read-row.ensures
    ∙ ap (numbers cell_layout) c.split_at.ensures.front in
    let why = c.in_err-check_name.field-0.0 in
    let earlier = cells_of c.args.names.now 0 (rows cell_layout c.loop-i.i c.args.records.now) in
    let some : name_broken c.args.version earlier (c.args.at + c.loop-i.start)
    (take (c.read-row.result.past - c.loop-i.start) (drop c.loop-i.start c.args.names.now)) ≡ Some why =
    subst (λ l. name_broken c.args.version earlier (c.args.at + c.loop-i.start) l
    ≡ Some why) c.stretch-name.ensures.bytes c.in_err-check_name.ensures in
    let p = err_from_is_err_and c.from_residual.result c.from_residual.ensures.1 in
    rw (p.1, p.2) (name_halts c.args.version c.args.end c.args.at c.loop-i.start _ _ _ _ _ _ _ c.args.names.now
    c.loop-i.rest.now earlier _ why one_more is some c.loop-i.invariant.broken)

pub loop-i-preserved : goal.loop-i-preserved
loop-i-preserved c =
    let one_more : c.args.count - c.loop-i.i ≡ suc (c.args.count - (c.loop-i.i + 1)) = omega arith in
    let is : cell_numbers c.read-row.result ≡ numbers cell_layout (take 16 c.loop-i.rest.now) = c.read-row.ensures
    ∙ ap (numbers cell_layout) c.split_at.ensures.front in
    let end = first_end past_of (length c.args.names.now) c.loop-i.start cell_layout _ _ c.loop-i.rest.now
    (cell_numbers c.read-row.result) one_more is c.loop-i.invariant.ends in
    let earlier = cells_of c.args.names.now 0 (rows cell_layout c.loop-i.i c.args.records.now) in
    let none : name_broken c.args.version earlier (c.args.at + c.loop-i.start)
    (take (c.read-row.result.past - c.loop-i.start) (drop c.loop-i.start c.args.names.now)) ≡ None =
    subst (λ l. name_broken c.args.version earlier (c.args.at + c.loop-i.start) l ≡ None) c.stretch-name.ensures.bytes
    c.in_ok-check_name.ensures in
    rw c.split_at.ensures.back (record {
      there = omega (arith, length-drop 16 c.loop-i.rest.now);
      rest = past_more 16 c.loop-i.i c.args.records.now c.loop-i.rest.now c.loop-i.invariant.rest;
      start = end.1;
      last = last_more c.loop-i.i c.args.records.now c.loop-i.rest.now (cell_numbers c.read-row.result)
          c.loop-i.invariant.rest is;
      ends = end.2;
      broken = name_goes c.args.version c.args.end c.args.at c.loop-i.start c.loop-i.i _ _ _ _ _ _ _ c.args.names.now
          c.args.records.now c.loop-i.rest.now _ one_more is c.loop-i.invariant.rest c.loop-i.invariant.last end.0 end.1
          none c.loop-i.invariant.broken;
    })

pub returns : goal.returns
unfolding names_broken
returns c =
    let no_more : c.args.count - c.loop-i.i ≡ 0 = omega arith in
    subst (λ b. Finds c.check.result b) (sym (names_end c.args.version c.args.end (c.args.at + c.loop-i.start)
    c.loop-i.start _ c.args.names.now c.loop-i.rest.now
    (cells_of c.args.names.now 0 (rows cell_layout c.loop-i.i c.args.records.now)) _ no_more
    c.loop-i.invariant.broken)) c.check.ensures
