use Rattle.std.proofs.Common.{◌≡◌, ◌-◌, ◌++◌}
use Rattle.ft_asm.specs.Operands.{refs_word, basic_word}
use Rattle.ft_asm.proofs.writing.put_basic.Given as goal

abbrev pub invariant-loop : goal.invariant-loop
invariant-loop l = l.out.items ++ refs_word (l.basic.refs - l.counter) l.basic.base ≡ l.fn.out.items
    ++ basic_word l.basic
