use Rattle.std.proofs.Common.{refl}
use Rattle.ft_isa.proofs.Lists.{all_there}
use Rattle.ft_modules.specs.LikeTypes.{SameRow}
use Rattle.ft_linker.specs.Numbers.{HasRow}
use Rattle.ft_linker.proofs.Compared.{without}
use Rattle.ft_linker.proofs.Zips.{zip_at, zip_more}
use Rattle.ft_linker.proofs.types.same_rows.Goals as goal

pub same_row-requires-clause-row : goal.same_row-requires-clause-row
same_row-requires-clause-row c = all_there (HasRow c.args.a.object.now) c.args.rs.now c.loop-j.j c.at-r.result.now
    c.requires.rows c.at-r.ensures

pub same_row-requires-clause-other_row : goal.same_row-requires-clause-other_row
same_row-requires-clause-other_row c = all_there (HasRow c.args.b.object.now) c.args.qs.now c.loop-j.j c.at-q.result.now
    c.requires.other_rows c.at-q.ensures

pub loop-j-preserved : goal.loop-j-preserved
loop-j-preserved c = zip_more (SameRow c.args.a.object.now c.args.b.object.now) c.args.rs.now c.args.qs.now c.loop-j.j
    c.at-r.result.now c.at-q.result.now c.loop-j.invariant c.at-r.ensures c.at-q.ensures
    (c.if-not-same_row.ensures.0 refl)

pub returns-then-not-same_row : goal.returns-then-not-same_row
returns-then-not-same_row c = without c.if-not-same_row.ensures (λ h.
    zip_at (SameRow c.args.a.object.now c.args.b.object.now) c.args.rs.now c.args.qs.now c.loop-j.j c.at-r.result.now
    c.at-q.result.now h c.at-r.ensures c.at-q.ensures)
