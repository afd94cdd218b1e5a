use Rattle.std.proofs.Common.{ℕ, subst}
use Rattle.ft_isa.specs.declared.colour.Coloured.{Coloured}
use Rattle.ft_isa.specs.Words.{apply}
use Rattle.ft_semantics.specs.Step.{writes}
use Rattle.ft_machine.specs.Effects.{DoesQuietly}
use Rattle.ft_machine.specs.Banks.{bank_with}
use Rattle.ft_machine.proofs.bank.RegisterFile.operate.Goals as goal

pub returns : goal.returns
returns c = λ queue cells.
    subst (λ (x : Coloured). DoesQuietly (writes c.args.rd x.colour (apply c.args.op x.word c.args.other))
    (bank_with c.args.self.now queue cells) (bank_with c.write.new.self queue cells) c.write.result)
    c.get-colour.ensures
    (subst (λ (v : ℕ). DoesQuietly (writes c.args.rd c.get-colour.result.colour v)
    (bank_with c.args.self.now queue cells) (bank_with c.write.new.self queue cells)
    c.write.result) c.applied-word.ensures (c.write.ensures queue cells))
