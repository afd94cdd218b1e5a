use Rattle.ft_access.proofs.KeptFates.{step_fates}
use Rattle.ft_access.proofs.fates.Fates.step_back.Goals as goal

pub returns : goal.returns
returns c = λ o w n lt is h. step_fates o w n c.args.step c.args.fetched.now c.args.runs_on c.args.self.now
    c.back.new.self lt is
    c.back.ensures h
