use Rattle.std.proofs.Common.{◌≡◌, None, Some, ◌∙◌, sym, subst, arith}
use Rattle.ft_isa.specs.PlanText.{IsNumberText}
use Rattle.ft_command.proofs.Numbers.{turns_found, no_turns, out_of_range}
use Rattle.ft_command.proofs.command.turns_of.Goals as goal

pub returns-in_default : goal.returns-in_default
returns-in_default c =
    sym (no_turns 10921 c.args.operand.now (λ n some within is. (
    let e : None ≡ Some n = sym c.in_default.is ∙ c.read_number.ensures.exact n (
      omega (arith, within),
      c.as_bytes.ensures.value ∙ is,
    ) in absurd cc)))

pub returns-then-turns-lt1 : goal.returns-then-turns-lt1
returns-then-turns-lt1 c =
    sym (out_of_range c.in-Some.turns c.args.operand.now
    (subst (λ t. IsNumberText t c.in-Some.turns) c.as_bytes.ensures.value c.in-Some.ensures.some)
    (λ some within. (let less = c.if-turns-lt1.true in omega (arith, some, less))))

pub returns-then-turns-gt-DEMO_TURNS : goal.returns-then-turns-gt-DEMO_TURNS
returns-then-turns-gt-DEMO_TURNS c =
    sym (out_of_range c.in-Some.turns c.args.operand.now
    (subst (λ t. IsNumberText t c.in-Some.turns) c.as_bytes.ensures.value c.in-Some.ensures.some)
    (λ some within. (let more = c.if-turns-gt-DEMO_TURNS.true in omega (arith, within, more))))

pub returns : goal.returns
returns c =
    let some = c.if-turns-lt1.false in
    let within = c.if-turns-gt-DEMO_TURNS.false in
    sym (turns_found 10921 c.in-Some.turns c.args.operand.now (omega arith) (omega (arith, some))
    (omega (arith, within)) (sym c.as_bytes.ensures.value ∙ c.in-Some.ensures.some.1))
