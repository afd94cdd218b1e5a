use Rattle.ft_access.proofs.KeptFates.{told_fates}
use Rattle.ft_access.proofs.fates.Fates.first_read.Goals as goal

pub returns : goal.returns
returns c = λ o w n k v h. told_fates o w n k v c.args.site c.args.self.now c.read_of.result c.read_of.ensures h
