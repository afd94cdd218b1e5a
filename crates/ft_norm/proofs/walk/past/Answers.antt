use Rattle.ft_norm.proofs.Ways.{passes_first}
use Rattle.ft_norm.proofs.walk.past.Goals as goal

pub returns-then-passed-lt-FEW : goal.returns-then-passed-lt-FEW
returns-then-passed-lt-FEW c = λ a v u i n. passes_first c.args.entries.now c.args.m a v c.args.older c.args.p
    c.requires.entries u i n

pub returns-then-next-m : goal.returns-then-next-m
returns-then-next-m c = λ a v u i n.
    let s = c.follow-next.ensures a v c.args.older u i in
    record { sort = s.sort; below = c.if-next-m.true; fewer = s.fewer c.if-next-m.true; same = s.same }

pub returns : goal.returns
returns c = λ a v u i n. passes_first c.args.entries.now c.args.m a v c.args.older c.args.p c.requires.entries u i n
