-- What the runs of a program's flow do.
use Rattle.std.specs.Prelude.{◌≡◌, ℕ, ◌+◌, ◌*◌, ◌≤◌, true, false, List, length}
use Rattle.ft_scope.specs.Resolved.{Program}
use Rattle.ft_scope.specs.InitialWords.{program_with_words}
use Rattle.ft_meaning.specs.Meaning.{State, Ended, Cut, outputs, meaning}
use Rattle.ft_meaning.specs.Begins.{Begins}
use Rattle.ft_lower.specs.Flow.{Blocks, flow_run}

-- the run of the blocks over the program's initial words commits the outputs of the program's meaning, and ends when the
-- meaning ends
pub record FlowsAsMeant (p : Program) (bs : Blocks) : Type 0 where
  -- a run that is done after k steps has the outputs of the meaning with k turns, which has ended
  pub done : (k : ℕ) → (flow_run bs p.inits k).done ≡ true → (s : State) × (meaning p k ≡ Ended s) × ((flow_run bs p.inits k).out ≡ s.out)
  -- a run that is not done has outputs that are a prefix of the meaning's
  pub running : (k : ℕ) → (flow_run bs p.inits k).done ≡ false → Begins (flow_run bs p.inits k).out (outputs (meaning p k))
  -- if the meaning ends, the run is done with its outputs after twice the work plus 40 steps, or more
  pub ends : (k t : ℕ) (s : State) → meaning p t ≡ Ended s → 2 * s.work + 40 ≤ k → ((flow_run bs p.inits k).done ≡ true) × ((flow_run bs p.inits k).out ≡ s.out)
  -- if the meaning is cut, its outputs are a prefix of the run's after twice its work plus 40 steps, or more
  pub cuts : (k t : ℕ) (s : State) → meaning p t ≡ Cut s → 2 * s.work + 40 ≤ k → Begins s.out (flow_run bs p.inits k).out

-- whatever initial words the cells have, the run of the blocks over them does what the program with them means
abbrev pub Lowers : Program → Blocks → Type 0
Lowers p bs = (words : List ℕ) → length words ≡ length p.inits → FlowsAsMeant (program_with_words p words) bs
