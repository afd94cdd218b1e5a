use Rattle.std.proofs.Common.{◌≡◌, ◌++◌, List, length, map, take, drop, slice_get, sym, ap, ◌∙◌}
use Rattle.std.proofs.lemmas.List.{length-map}
use Rattle.std.proofs.Math.Seq.{take-append_seam}
use Rattle.ft_types.specs.declared.object.Object.{Object}
use Rattle.ft_modules.specs.Linked.{change_of, changed_instr}
use Rattle.ft_linker.specs.Joins.{link_as}
use Rattle.ft_linker.proofs.Assembled.{put_is}
use Rattle.ft_linker.proofs.assembling.put_together.Goals as goal

pub changes_of-requires : goal.changes_of-requires
changes_of-requires c = record {
  can = c.requires.can;
  starts = c.as_slice-starts.ensures.value ∙ c.requires.tables.starts;
  there = c.requires.joins c.as_slice-links.result.now (ap (map link_as) c.as_slice-links.ensures.value
      ∙ c.in_ok-joins.ensures);
}

pub entry_of-entry-requires : goal.entry_of-entry-requires
entry_of-entry-requires c = record {
  can = c.requires.can;
  starts = c.as_slice-starts.ensures.value ∙ c.requires.tables.starts;
  there = c.requires.joins c.as_slice-links.result.now (ap (map link_as) c.as_slice-links.ensures.value
      ∙ c.in_ok-joins.ensures);
  some = c.requires.some;
}

pub returns : goal.returns
returns c = λ first others e.
    let ms = c.args.objects.now in
    let there = ap (λ (z : List Object). slice_get z 0) e in
    let ls = map link_as c.as_slice-links.result.now in
    let new = c.change.new.instrs in
    let change = changed_instr (map (change_of ms) ls) in
    let old = c.as_mut_slice.result.now in
    let changed : new ≡ map change old = c.change.ensures (map (change_of ms) ls) c.in_ok-changes.ensures in
    let as_long = sym c.as_mut_slice.ensures.len ∙ sym (length-map old change) ∙ sym (ap length changed) in
    let rest = drop (length new) c.args.laid.instrs.items in
    let whole = ap (λ n. take n (new ++ rest)) as_long ∙ take-append_seam new _ in
    put_is c.args.linkage.now ms first others ls _ e (ap (map link_as) c.as_slice-links.ensures.value
    ∙ c.in_ok-joins.ensures)
    (c.in_ok-cells.ensures first there)
    (c.from_vec.ensures ∙ c.requires.tables.nodes)
    (c.from_vec-2.ensures ∙ c.requires.tables.types)
    (c.from_vec-3.ensures ∙ c.requires.tables.blocks)
    (c.from_vec-4.ensures ∙ whole ∙ changed ∙ ap (map change) (c.as_mut_slice.ensures.value ∙ c.requires.tables.instrs))
    (c.from_vec-5.ensures ∙ c.requires.tables.substs)
    (c.entry_of-entry.ensures first there)
