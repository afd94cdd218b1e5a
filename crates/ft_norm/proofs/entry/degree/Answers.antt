use Rattle.std.proofs.Common.{rules, ◌≡◌, ◌∙◌, ◌==◌, not}
use Rattle.std.specs.List.{count_by}
use Rattle.ft_norm.proofs.Numbers.{size_counts}
use Rattle.ft_norm.proofs.entry.degree.Goals as goal

pub returns : goal.returns
returns c = let r : c.count.result ≡ count_by (λ x. not (x == 0)) c.args.atoms = search rules in
    r ∙ size_counts c.args.atoms
