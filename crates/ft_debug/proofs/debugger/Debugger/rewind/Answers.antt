use Rattle.std.proofs.Common.{refl, subst, arith}
use Rattle.ft_debug.proofs.Held.{Rewound, ready_back, rewound_none, rewound_more, holds_earlier}
use Rattle.ft_debug.proofs.debugger.Debugger.rewind.Goals as goal

pub loop-init : goal.loop-init
loop-init c = record {
  full = c.requires.full;
  counted = omega arith;
  ready = λ o h. h;
  rewound = λ o w s h. rewound_none o w s _ h;
}

pub loop-preserved : goal.loop-preserved
loop-preserved c =
    let inv = c.loop.invariant in
    let back = c.take_back.ensures in
    record {
      full = back.full;
      counted = (let counted = inv.counted in let less = back.count in omega arith);
      ready = λ o h. ready_back o _ _ (inv.ready o h) back.full back.newest back.moments;
      rewound = λ o w s h. rewound_more o w s c.loop.counter c.loop.self _ inv.full (omega arith) (inv.rewound o w s h)
          back.newest back.moments back.count refl;
    }

pub returns-clause-holds : goal.returns-clause-holds
returns-clause-holds c = λ o w s h. holds_earlier o w s c.args.count c.loop.self c.loop.invariant.full
    (subst (λ n. Rewound o w s n c.loop.self) (omega arith) (c.loop.invariant.rewound o w s h))
