use Rattle.std.proofs.Common.{◌||◌, ap, ◌∙◌}
use Rattle.std.specs.Ordering.{nat_cmp, is_eq}
use Rattle.std.specs.Cmp.Lexicographic.{slice_cmp}
use Rattle.std.proofs.lemmas.Map.Text.{is_eq-slice_cmp}
use Rattle.ft_link_map.specs.Held.{knows_name}
use Rattle.ft_link_map.proofs.NamedSets.{cond_is_or}
use Rattle.ft_link_map.proofs.names.Names.note.Goals as goal

pub returns-clause-noted : goal.returns-clause-noted
unfolding knows_name
returns-clause-noted c = λ text.
    let known = knows_name c.args.self.now text in
    c.in_ok-added.ensures.updates.0 (record c.args.name { now = text })
    ∙ cond_is_or (is_eq (slice_cmp nat_cmp c.args.name.now text)) known
    ∙ ap (λ t. t || known) (is_eq-slice_cmp c.args.name.now text)
