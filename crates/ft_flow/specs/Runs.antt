-- Runs of a text's steps, in which no step has a spare.
use Rattle.std.specs.Prelude.{◌≡◌, ◌≢◌, ℕ, zero, suc, ◌*◌, ◌≤◌, Bool, true, false, List, [], length, map, Option, Some}
use Rattle.std.specs.Prelude.{None, All}
use Rattle.ft_semantics.specs.declared.status.Status.TheVariants.{Running, Done, Detected}
use Rattle.ft_types.specs.declared.object.Object.{Object}
use Rattle.ft_types.specs.Objects.{name_of}
use Rattle.ft_types.specs.Spellable.{IsSpellable}
use Rattle.ft_typing.specs.Accepted.{IsAccepted}
use Rattle.ft_semantics.specs.Run.{outputs_after, status_after}
use Rattle.ft_meaning.specs.Begins.{Begins}
use Rattle.ft_meaning.specs.Meaning.{at_zero, cell_of_run}
use Rattle.ft_lower.specs.declared.step3.Step3.{Step3}
use Rattle.ft_lower.specs.declared.step3.Step3.TheVariants.{Store, StoreAt, Exit, Go}
use Rattle.ft_lower.specs.Cutting.{blocks_onto}
use Rattle.ft_lower.specs.Flow.{Blocks, FlowState, act, goes_on, goes_to, with_cell, step_at, flow_start}
use Rattle.ft_dup.specs.Doubles.{IsIntCell, words_of}
use Rattle.ft_compile.specs.FlowObjects.{AreWordsFor}
use Rattle.ft_types.specs.InitialWords.{object_with_words}
use Rattle.ft_flow.specs.Texts.{FlowText}

-- what a step does; a spare is left alone
abbrev pub plain_act : Step3 → FlowState → FlowState
plain_act (Store c q spare) f = goes_on (with_cell c (f.pairs q) f)
plain_act (StoreAt start length i q spare) f = goes_on (with_cell (cell_of_run start length (f.pairs i)) (f.pairs q) f)
plain_act (Exit q spare to) f = at_zero (f.pairs q) (goes_to to f) (goes_on f)
plain_act (Go spare to) f = goes_to to f
plain_act i f = act i f

-- the effect of a step, if there is one and the run is not done
abbrev pub plain_if : Bool → Option Step3 → FlowState → FlowState
plain_if true o f = f
plain_if false None f = f
plain_if false (Some i) f = plain_act i f

-- one step of a run, and n steps
abbrev pub plain_step : Blocks → FlowState → FlowState
plain_step bs f = plain_if f.done (step_at bs f.place) f

abbrev pub plain_steps : Blocks → ℕ → FlowState → FlowState
plain_steps bs zero f = f
plain_steps bs (suc k) f = plain_steps bs k (plain_step bs f)

-- the run of blocks over cells with these initial words, after k steps
abbrev pub plain_run : Blocks → List ℕ → ℕ → FlowState
plain_run bs words k = plain_steps bs k (flow_start words)

-- the object's run, without a strike and without answers to wild loads, does what the blocks' run over cells with these
-- words does
pub record RunsAsText (bs : Blocks) (words : List ℕ) (o : Object) : Type 0 where
  -- its status is never `Detected`
  pub undetected : (n : ℕ) → status_after o None [] n ≢ Detected
  -- if it is done after n steps, so are the blocks, with the same outputs
  pub done : (n : ℕ) → status_after o None [] n ≡ Done → ((plain_run bs words n).done ≡ true)
      × (outputs_after o None [] n ≡ (plain_run bs words n).out)
  -- if it is running after n steps, its outputs are a prefix of the blocks' after n steps
  pub running : (n : ℕ) → status_after o None [] n ≡ Running →
      Begins (outputs_after o None [] n) (plain_run bs words n).out
  -- if the blocks are done after k steps, the run is done, with the same outputs, after 8 times as many steps, or more
  pub ends : (n k : ℕ) → (plain_run bs words k).done ≡ true → 8 * k ≤ n → (status_after o None [] n ≡ Done)
      × (outputs_after o None [] n ≡ (plain_run bs words k).out)
  -- the blocks' outputs after k steps are a prefix of the run's after 8 times as many steps, or more
  pub cuts : (n k : ℕ) → 8 * k ≤ n → Begins (plain_run bs words k).out (outputs_after o None [] n)

-- an object stands for a text: it has its cells in order, with their names and initial words, all of type `int`; it is
-- spellable and accepted; it has at most 65,536 instructions; and whatever initial words its cells are given, its run
-- does what the text's steps do over these words
pub record StandsForText (t : FlowText) (o : Object) : Type 0 where
  pub names_are : map name_of o.cells ≡ t.names
  pub words_are : words_of o ≡ t.inits
  pub ints : All IsIntCell o.cells
  pub spellable : IsSpellable o
  pub accepted : IsAccepted o
  pub short : length o.instrs ≤ 65536
  pub run : (words : List ℕ) → AreWordsFor (length t.inits) words →
      RunsAsText (blocks_onto [] t.steps) words (object_with_words o words)
