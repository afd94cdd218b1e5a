use Rattle.std.proofs.Common.{ap, arith, length}
use Rattle.ft_norm.proofs.Forms.{length-forms_of}
use Rattle.ft_norm.proofs.interner.Interner.count.Goals as goal

pub returns : goal.returns
returns c =
    let n = length-forms_of c.self.inside.entries.keys in
    let v = ap length c.self.view_is in
    omega (arith, c.len.ensures.len, n, v)
