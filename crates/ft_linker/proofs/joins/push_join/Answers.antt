use Rattle.std.proofs.Common.{List, sym, ap, ◌∙◌}
use Rattle.ft_link_map.specs.declared.link_map.Ask.{Ask}
use Rattle.ft_linker.proofs.Joining.{joined_none, joined_some}
use Rattle.ft_modules.specs.Links.{export_of}
use Rattle.ft_linker.proofs.joins.push_join.Goals as goal

pub returns-in_ok-push-in-Some : goal.returns-in_ok-push-in-Some
returns-in_ok-push-in-Some c =
    joined_some c.args.joins.now.items c.push.new.self.items c.args.import.now c.in-Some.export.now
    (export_of c.args.linkage.now.exports c.args.import.now.name)
    (ap (λ (z : List Ask). export_of z c.args.import.now.name) (sym c.as_slice.ensures)
    ∙ c.in-Some.ensures.found) c.in_ok-push-in-Some.ensures.items

pub returns-in-None : goal.returns-in-None
returns-in-None c =
    joined_none c.args.joins.now.items c.args.import.now (export_of c.args.linkage.now.exports c.args.import.now.name)
    (ap (λ (z : List Ask). export_of z c.args.import.now.name) (sym c.as_slice.ensures) ∙ c.in-None.ensures.none)
