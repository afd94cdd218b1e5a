-- Faults that change the word at a site by a function of it, such as a flip of one bit.
use Rattle.std.specs.Prelude.{ℕ, List, None, get_or}
use Rattle.ft_isa.specs.declared.plan.Site.{Site}
use Rattle.ft_isa.specs.declared.plan.Site.TheVariants.{R, D, PcG, PcB, QAddr, QVal}
use Rattle.ft_isa.specs.declared.plan.Strike.{Strike}
use Rattle.ft_isa.specs.declared.plan.Wild.{Wild}
use Rattle.ft_isa.specs.Pending.{Pending}
use Rattle.ft_types.specs.declared.object.Object.{Object}
use Rattle.ft_semantics.specs.State.{State, word}
use Rattle.ft_semantics.specs.Run.{state_after}
use Rattle.ft_access.specs.Lasting.{strike_at}

-- a pending entry
abbrev pub entry : Pending → ℕ → ℕ × ℕ
entry queue e = get_or queue e (0, 0)

-- the word at a site that is there
abbrev pub word_at : Site → State → ℕ
word_at (R r) s = word s r
word_at D s = s.d
word_at PcG s = s.pc_green
word_at PcB s = s.pc_blue
word_at (QAddr e) s = (entry s.queue e).0
word_at (QVal e) s = (entry s.queue e).1

-- the strike before step k that changes the word at a site in this way
abbrev pub change_at : Object → List Wild → (ℕ → ℕ) → ℕ → Site → Strike
change_at o w f k x = strike_at k x (f (word_at x (state_after o None w k)))
