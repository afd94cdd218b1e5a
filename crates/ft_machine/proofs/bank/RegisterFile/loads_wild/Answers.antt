use Rattle.ft_machine.specs.declared.bank.Effect.TheVariants.{On}
use Rattle.ft_machine.specs.Banks.{bank_with}
use Rattle.ft_machine.proofs.Banks.{wild_word}
use Rattle.ft_machine.proofs.bank.RegisterFile.loads_wild.Goals as goal

pub returns-in-Word : goal.returns-in-Word
returns-in-Word c = λ queue cells. wild_word c.args.colour c.args.rd c.in-Word.word
    (bank_with c.args.self.now queue cells) (bank_with c.put.new.self queue cells) On c.args.wild.now
    c.next.new.self c.in-Word.ensures.answer c.in-Word.ensures.taken (c.put.ensures queue cells)
