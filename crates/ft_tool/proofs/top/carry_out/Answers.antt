use Rattle.std.proofs.Common.{map, string_bytes, inl, refl}
use Rattle.ft_tool.specs.Known.{revealed, is_left}
use Rattle.ft_tool.proofs.Obeyed.{asked_ends, asked_failures, asked_usage, asked_loads, asked_takes}
use Rattle.ft_tool.proofs.top.carry_out.Goals as goal

pub returns-in-Ok-clause-ends : goal.returns-in-Ok-clause-ends
returns-in-Ok-clause-ends g c = λ told may left begin.
    asked_ends (map string_bytes c.args.words.now) c.in-Ok.ensures.ok (c.obey.ensures.does told may left begin)

pub returns-in-Ok-clause-usage : goal.returns-in-Ok-clause-usage
returns-in-Ok-clause-usage g c = asked_usage (map string_bytes c.args.words.now) c.in-Ok.ensures.ok
    (c.obey.ensures.does (g.F.Shelf.log c.args.shelf.now).files (revealed refl) (g.I.Source.log c.args.script.now).left
    (is_left refl))

pub returns-in-Ok-clause-failures : goal.returns-in-Ok-clause-failures
returns-in-Ok-clause-failures g c = asked_failures (map string_bytes c.args.words.now) c.in-Ok.ensures.ok
    (c.obey.ensures.does (g.F.Shelf.log c.args.shelf.now).files (revealed refl) (g.I.Source.log c.args.script.now).left
    (is_left refl))

pub returns-in-Ok-clause-loads : goal.returns-in-Ok-clause-loads
returns-in-Ok-clause-loads g c = λ told may.
    inl (asked_loads (map string_bytes c.args.words.now) c.in-Ok.ensures.ok
    (c.obey.ensures.does told may (g.I.Source.log c.args.script.now).left (is_left refl)))

pub returns-in-Ok-clause-script : goal.returns-in-Ok-clause-script
returns-in-Ok-clause-script g c = λ told may.
    asked_takes (map string_bytes c.args.words.now) c.in-Ok.ensures.ok (c.obey.ensures.script told may)

pub returns-in-Ok-clause-load_failures : goal.returns-in-Ok-clause-load_failures
returns-in-Ok-clause-load_failures g c =
    (c.obey.ensures.does (g.F.Shelf.log c.args.shelf.now).files (revealed refl) (g.I.Source.log c.args.script.now).left
    (is_left refl)).load_failures
