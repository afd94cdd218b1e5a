use Rattle.std.proofs.Common.{◌≡◌, arith, refl, subst}
use Rattle.std.specs.FinMap as finite
use Rattle.std.proofs.Math.ListN.{set}
use Rattle.std.proofs.Common.{Some}
use Rattle.ft_contexts.specs.Contexts.{registers_in, typed_in}
use Rattle.ft_contexts.proofs.Registers.{registers_set, registers_held_set, registers_typed_set}
use Rattle.ft_contexts.proofs.context.Context.put.Goals as goal

pub returns-clause-context : goal.returns-clause-context
returns-clause-context c = λ fs.
    let s = c.args.self.now in
    let e : registers_in fs 0 (set s.registers c.number.result (Some c.args.known))
    ≡ finite.insert (registers_in fs 0 s.registers) c.args.rd.number (typed_in fs c.args.known) =
    subst (λ n. registers_in fs 0 (set s.registers c.number.result (Some c.args.known))
    ≡ finite.insert (registers_in fs 0 s.registers) n (typed_in fs c.args.known)) c.number.ensures.same
    (registers_set fs s.registers c.number.result c.args.known (omega arith)) in
    rw e refl

pub returns-clause-held : goal.returns-clause-held
returns-clause-held c = λ fs h i. record {
  registers = registers_held_set fs c.args.self.now.registers c.number.result c.args.known h.registers i;
  d = h.d;
  queue = h.queue;
  memory = h.memory;
}

pub returns-clause-types : goal.returns-clause-types
returns-clause-types c = λ o h i. record {
  registers = registers_typed_set _ c.args.self.now.registers c.number.result
      c.args.known h.registers i;
  d = h.d;
}
