use Rattle.std.proofs.Common.{refl}
use Rattle.ft_debug.proofs.Held.{holds_struck}
use Rattle.ft_debug.proofs.debugger.Debugger.zap.Goals as goal

pub returns-clause-holds : goal.returns-clause-holds
returns-clause-holds c = λ o w s h. holds_struck o w s c.args.self.now _ c.args.site c.args.value c.requires h
    c.strike.ensures.struck refl refl refl refl
