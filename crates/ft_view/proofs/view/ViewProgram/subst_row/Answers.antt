use Rattle.std.proofs.Common.{◌<◌, refl, subst}
use Rattle.ft_view.proofs.CountedParts.{subst_count, subst_is}
use Rattle.ft_view.proofs.view.ViewProgram.subst_row.Goals as goal

pub subst_record-requires : goal.subst_record-requires
subst_record-requires c = subst (λ n. c.args.n < n) (subst_count c.args.self.now) c.requires

pub returns : goal.returns
returns c = subst_is c.args.self.now _ c.args.n c.subst_record.result.node c.subst_record.ensures refl
