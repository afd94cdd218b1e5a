use Rattle.std.proofs.Common.{refl}
use Rattle.std.proofs.lemmas.Bool.{lt-ltb}
use Rattle.ft_isa.proofs.Registers.{some_reg}
use Rattle.ft_isa.proofs.reg.Reg.new.Goals as goal

pub returns-then-n-lt64 : goal.returns-then-n-lt64
returns-then-n-lt64 c = some_reg c.args.n _ refl _ (lt-ltb c.args.n 64 c.if-n-lt64.true)
