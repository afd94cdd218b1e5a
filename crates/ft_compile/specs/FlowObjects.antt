-- When an object stands for a flow.
use Rattle.std.specs.Prelude.{◌≡◌, ◌≢◌, ℕ, ◌*◌, ◌≤◌, true, List, [], length, map, None, All}
use Rattle.ft_isa.specs.Words.{IsWord}
use Rattle.ft_semantics.specs.declared.status.Status.TheVariants.{Running, Done, Detected}
use Rattle.ft_types.specs.declared.object.Object.{Object}
use Rattle.ft_types.specs.Objects.{name_of}
use Rattle.ft_types.specs.Spellable.{IsSpellable}
use Rattle.ft_typing.specs.Accepted.{IsAccepted}
use Rattle.ft_semantics.specs.Run.{outputs_after, status_after}
use Rattle.ft_meaning.specs.Begins.{Begins}
use Rattle.ft_lower.specs.Flow.{Blocks, flow_run}
use Rattle.ft_lower.specs.Size.{blocks_size}
use Rattle.ft_dup.specs.Doubles.{IsIntCell, words_of}
use Rattle.ft_types.specs.InitialWords.{object_with_words}

-- the object's run, without a strike and without answers to wild loads, does what the blocks' run over cells with these
-- words does
pub record RunsAsFlow (bs : Blocks) (words : List ℕ) (o : Object) : Type 0 where
  -- its status is never `Detected`
  pub undetected : (n : ℕ) → status_after o None [] n ≢ Detected
  -- if it is done after n steps, so is the flow, with the same outputs
  pub done : (n : ℕ) → status_after o None [] n ≡ Done → ((flow_run bs words n).done ≡ true)
      × (outputs_after o None [] n ≡ (flow_run bs words n).out)
  -- if it is running after n steps, its outputs are a prefix of the flow's after n steps
  pub running : (n : ℕ) → status_after o None [] n ≡ Running →
      Begins (outputs_after o None [] n) (flow_run bs words n).out
  -- if the flow is done after k steps, the run is done, with the same outputs, after 8 times as many steps, or more
  pub ends : (n k : ℕ) → (flow_run bs words k).done ≡ true → 8 * k ≤ n → (status_after o None [] n ≡ Done)
      × (outputs_after o None [] n ≡ (flow_run bs words k).out)
  -- the flow's outputs after k steps are a prefix of the run's after 8 times as many steps, or more
  pub cuts : (n k : ℕ) → 8 * k ≤ n → Begins (flow_run bs words k).out (outputs_after o None [] n)

-- a word for each of this many cells
pub record AreWordsFor (cells : ℕ) (words : List ℕ) : Type 0 where
  pub as_many : length words ≡ cells
  pub are_words : All IsWord words

-- an object stands for blocks over cells with these names and initial words: it has these cells in order, all of type
-- `int`; it is spellable and accepted; it has as many instructions as the blocks become; and whatever initial words its
-- cells are given, its run does what the blocks' run over these words does
pub record StandsForFlow (names : List (List ℕ)) (inits : List ℕ) (bs : Blocks) (o : Object) : Type 0 where
  pub names_are : map name_of o.cells ≡ names
  pub words_are : words_of o ≡ inits
  pub ints : All IsIntCell o.cells
  pub spellable : IsSpellable o
  pub accepted : IsAccepted o
  pub instrs : length o.instrs ≡ blocks_size bs
  pub run : (words : List ℕ) → AreWordsFor (length inits) words → RunsAsFlow bs words (object_with_words o words)
