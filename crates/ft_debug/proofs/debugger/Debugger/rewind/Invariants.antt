use Rattle.std.proofs.Common.{◌≡◌, ◌+◌, List}
use Rattle.ft_isa.specs.declared.plan.Wild.{Wild}
use Rattle.ft_types.specs.declared.object.Object.{Object}
use Rattle.ft_debug.specs.Kept.{IsFull}
use Rattle.ft_debug.specs.Sessions.{Session}
use Rattle.ft_debug.specs.Inside.{Ready, Holds}
use Rattle.ft_debug.proofs.Held.{Rewound}
use Rattle.ft_debug.proofs.debugger.Debugger.rewind.Given as goal

abbrev pub invariant-loop : goal.invariant-loop
invariant-loop l = record {
  full : IsFull l.self.history;
  counted : l.self.history.count + l.counter ≡ l.fn.self.history.count;
  ready : (o : Object) → Ready o l.fn.self → Ready o l.self;
  rewound : (o : Object) (w : List Wild) (s : Session) → Holds o w s l.fn.self → Rewound o w s l.counter l.self;
}
