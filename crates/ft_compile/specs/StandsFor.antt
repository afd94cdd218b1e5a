-- When an object stands for a program.
use Rattle.std.specs.Prelude.{◌≡◌, ◌≢◌, ℕ, ◌+◌, ◌*◌, ◌≤◌, List, [], length, map, None, All}
use Rattle.ft_semantics.specs.declared.status.Status.TheVariants.{Running, Done, Detected}
use Rattle.ft_types.specs.declared.object.Object.{Object}
use Rattle.ft_types.specs.declared.object.Cell.{Cell}
use Rattle.ft_typing.specs.Accepted.{IsAccepted}
use Rattle.ft_types.specs.Objects.{name_of}
use Rattle.ft_semantics.specs.Run.{outputs_after, status_after}
use Rattle.ft_types.specs.Spellable.{IsSpellable}
use Rattle.ft_scope.specs.Resolved.{Program, program_weight}
use Rattle.ft_scope.specs.InitialWords.{program_with_words, AreInitialWords}
use Rattle.ft_dup.specs.Doubles.{IsIntCell}
use Rattle.ft_meaning.specs.Meaning.{State, Ended, Cut, outputs, meaning}
use Rattle.ft_meaning.specs.Begins.{Begins}
use Rattle.ft_types.specs.InitialWords.{object_with_words}

-- the object's run, without a strike and without answers to wild loads, does what the program means
pub record RunsAsMeant (p : Program) (o : Object) : Type 0 where
  -- its status is never `Detected`
  pub undetected : (n : ℕ) → status_after o None [] n ≢ Detected
  -- if it is done after n steps, the meaning with n turns has ended with the same outputs
  pub done : (n : ℕ) → status_after o None [] n ≡ Done → (s : State) × (meaning p n ≡ Ended s) × (outputs_after o None [] n ≡ s.out)
  -- if it is running after n steps, its outputs are a prefix of the outputs of the meaning with n turns
  pub running : (n : ℕ) → status_after o None [] n ≡ Running → Begins (outputs_after o None [] n) (outputs (meaning p n))
  -- if the meaning has ended, the run is done, with the same outputs, after 16 times the work plus 320 steps, or more
  pub ends : (n t : ℕ) (s : State) → meaning p t ≡ Ended s → 16 * s.work + 320 ≤ n → (status_after o None [] n ≡ Done) × (outputs_after o None [] n ≡ s.out)
  -- if the meaning is cut, its outputs are a prefix of the run's outputs after 16 times the work plus 320 steps, or
  -- more
  pub cuts : (n t : ℕ) (s : State) → meaning p t ≡ Cut s → 16 * s.work + 320 ≤ n → Begins s.out (outputs_after o None [] n)

-- the initial word of a cell
abbrev pub initial_word : Cell → ℕ
initial_word c = c.init

-- an object stands for a program: it has the program's cells in order, with their names and initial words, all of type
-- `int`; it is spellable and accepted; it has at most as many instructions as the program weighs; and whatever initial
-- words its cells are given, its run does what the program with these initial words means
pub record StandsFor (p : Program) (o : Object) : Type 0 where
  pub names : map name_of o.cells ≡ p.names
  pub inits : map initial_word o.cells ≡ p.inits
  pub ints : All IsIntCell o.cells
  pub spellable : IsSpellable o
  pub accepted : IsAccepted o
  pub short : length o.instrs ≤ program_weight p
  pub run : (words : List ℕ) → AreInitialWords p words → RunsAsMeant (program_with_words p words) (object_with_words o words)
