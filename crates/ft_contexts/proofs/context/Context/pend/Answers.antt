use Rattle.std.proofs.Common.{◌≡◌, List, [], ◌∷◌, ◌++◌, Result, Ok, Err}
use Rattle.std.specs.Result.{OnOk}
use Rattle.ft_isa.specs.declared.memory.NoMemory.{NoMemory}
use Rattle.ft_static.specs.Form.{Form as Normal}
use Rattle.ft_norm.specs.declared.form.Form.{Form}
use Rattle.ft_norm.specs.Held.{IsInteger}
use Rattle.ft_contexts.specs.declared.context.Context.{Context}
use Rattle.ft_contexts.specs.Contexts.{HoldsForms}
use Rattle.ft_contexts.proofs.Pairs.{more_held}
use Rattle.ft_contexts.proofs.context.Context.pend.Goals as goal

held_after : (r : Result (Unit {0}) NoMemory) (c : Context) (q : List (Form × Form)) (p : Form × Form) →
    OnOk r (q ≡ c.queue ++ p ∷ []) → OnOk r ((fs : List Normal) → HoldsForms fs c → IsInteger fs p.0
    × IsInteger fs p.1 → HoldsForms fs (record c { queue = q }))
held_after (Ok u) c q p e = λ fs h k. record {
  registers = h.registers;
  d = h.d;
  queue = rw e (more_held fs c.queue p h.queue k);
  memory = h.memory;
}
held_after (Err n) c q p e = tt

pub returns-clause-held : goal.returns-clause-held
returns-clause-held c = held_after c.push.result c.args.self.now c.push.new.self c.args.pair c.push.ensures.ok
