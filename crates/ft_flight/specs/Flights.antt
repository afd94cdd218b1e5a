-- Cycles: runs of an object that begins with the words that its cells hold.
use Rattle.std.specs.Prelude.{◌≡◌, ℕ, ◌≤◌, List, [], ◌∷◌, ◌++◌, length, take, map, slice_get, All, Option, None, Some, IfSome}
use Rattle.ft_isa.specs.BasicTypes.{int}
use Rattle.ft_isa.specs.Words.{IsWord}
use Rattle.ft_typing.specs.TypedWord.{HasType}
use Rattle.ft_semantics.specs.declared.status.Status.TheVariants as status
use Rattle.ft_isa.specs.declared.output.Output.{Output}
use Rattle.ft_isa.specs.declared.plan.Strike.{Strike}
use Rattle.ft_types.specs.declared.object.Object.{Object}
use Rattle.ft_types.specs.declared.object.Cell.{Cell}
use Rattle.ft_types.specs.InitialWords.{cells_with_words, object_with_words}
use Rattle.ft_types.specs.Spellable.{IsSpellable}
use Rattle.ft_typing.specs.Accepted.{IsAccepted}
use Rattle.ft_semantics.specs.Agrees.{IsPrefix}
use Rattle.ft_semantics.specs.Strike.{struck_before}
use Rattle.ft_semantics.specs.Run.{state_after, outputs_after, status_after}
use Rattle.ft_flight.specs.declared.state.FlightState.{FlightState}
use Rattle.ft_flight.specs.declared.flown.CellOutput.{CellOutput}
use Rattle.ft_flight.specs.States.{state_in}
use Rattle.ft_flight.specs.Steps.{cell_output}

-- words that the cells of an object may hold: words of 64 bits, each of its cell's basic type
pub record MayHold (o : Object) (words : List ℕ) : Type 0 where
  pub fit : All IsWord words
  pub types : (k : ℕ) (x : Cell) → slice_get (cells_with_words o.cells words) k ≡ Some x → HasType o x.init x.basic

-- each cell is of type `int`
abbrev pub HasIntCells : Object → Type 0
HasIntCells o = (k : ℕ) (x : Cell) → slice_get o.cells k ≡ Some x → x.basic ≡ int

-- the strike was made at a step already taken, or is due before the next one
abbrev pub IsBy : ℕ → Strike → Type 0
IsBy taken x = x.step ≤ taken

-- The words of a caller hold an attempt at a cycle: the run of the accepted object that begins with the saved words, under at most one
-- strike, after the steps that the words count.
pub record IsFlight (o : Object) (strike : Option Strike) (s : FlightState) (cells saved : List ℕ) : Type 0 where
  pub spellable : IsSpellable (object_with_words o saved)
  pub accepted : IsAccepted (object_with_words o saved)
  pub by : IfSome strike (IsBy s.steps)
  pub state : state_in o s cells ≡ struck_before strike s.steps (state_after (object_with_words o saved) strike [] s.steps)
  pub seen : s.seen ≡ length (outputs_after (object_with_words o saved) strike [] s.steps)
  pub handed : s.seen ≤ s.handed

-- what was handed out in a cycle: the first outputs of the cycle without a strike, this many, in order and each once
pub record HandedOut (o : Object) (handed : ℕ) (given : List Output) : Type 0 where
  pub count : length given ≡ handed
  pub far : ℕ
  pub front : IsPrefix given (outputs_after o None [] far)

-- an array begins with further outputs, and with them what was handed out is still that
pub record HandsOn (o : Object) (handed count : ℕ) (given : List Output) (new : List CellOutput) : Type 0 where
  pub more : List Output
  pub stand : take count new ≡ map cell_output more
  pub all : HandedOut o handed (given ++ more)

-- an attempt that is done has handed out all outputs of the cycle without a strike, which is done then, too
pub record IsWhole (o : Object) (s : FlightState) : Type 0 where
  pub done : status_after o None [] s.steps ≡ status.Done
  pub all : s.handed ≡ length (outputs_after o None [] s.steps)
