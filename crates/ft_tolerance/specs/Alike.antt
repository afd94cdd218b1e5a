-- Alike states: what one fault may leave different in a run, until it is detected.
use Rattle.std.specs.Prelude.{◌≡◌, ◌≢◌, ℕ, ◌<◌, ◌≤◌, List, Some, None, length}
use Rattle.ft_isa.specs.declared.colour.Colour.{Colour}
use Rattle.ft_isa.specs.declared.colour.Colour.TheVariants.{Green, Blue}
use Rattle.ft_isa.specs.declared.colour.Coloured.{Coloured}
use Rattle.ft_isa.specs.declared.plan.Site.{Site}
use Rattle.ft_isa.specs.declared.plan.Site.TheVariants.{R, D, PcG, PcB, QAddr, QVal}
use Rattle.ft_isa.specs.declared.plan.Strike.{Strike}
use Rattle.ft_isa.specs.declared.plan.Wild.{Wild}
use Rattle.ft_types.specs.declared.object.Object.{Object}
use Rattle.ft_semantics.specs.declared.status.Status.TheVariants.{Detected}
use Rattle.ft_semantics.specs.State.{State, Registers, held, colour}
use Rattle.ft_semantics.specs.Step.{Stepping}
use Rattle.ft_semantics.specs.Strike.{struck_before}
use Rattle.ft_semantics.specs.Run.{state_after}

-- two registers have equal colours, and equal words unless that colour is c
pub record AreAlikeWords (c : Colour) (x y : Coloured) : Type 0 where
  pub colour : x.colour ≡ y.colour
  pub word : x.colour ≢ c → x.word ≡ y.word

-- the same holds for all registers
unfoldable pub AreAlikeRegisters : Colour → Registers → Registers → Type 0
AreAlikeRegisters c m n = (r : ℕ) → AreAlikeWords c (held m r) (held n r)

-- two states are equal except for the words in registers of colour c and the counter of c; for green, d and the
-- contents of the queue may differ too, but not the queue's length
pub record AreAlike (c : Colour) (s t : State) : Type 0 where
  pub registers : AreAlikeRegisters c s.registers t.registers
  pub d : c ≢ Green → s.d ≡ t.d
  pub pc_green : c ≢ Green → s.pc_green ≡ t.pc_green
  pub pc_blue : c ≢ Blue → s.pc_blue ≡ t.pc_blue
  pub queue : c ≢ Green → s.queue ≡ t.queue
  pub queue_length : length s.queue ≡ length t.queue
  pub cells : s.cells ≡ t.cells
  pub fetched : s.fetched ≡ t.fetched
  pub status : s.status ≡ t.status

-- the colour of a site: the register's own; green for d, the green counter and the queue; blue for the blue counter
abbrev pub colour_of_site : State → Site → Colour
colour_of_site s (R r) = colour s r
colour_of_site s D = Green
colour_of_site s PcG = Green
colour_of_site s PcB = Blue
colour_of_site s (QAddr i) = Green
colour_of_site s (QVal i) = Green

-- one step from each of two alike states leads to alike states with the same output, or the second is detected and has
-- no output
pub data Follows (c : Colour) (x y : Stepping) : Type 0 where
  keeps_alike : AreAlike c x.state y.state → x.output ≡ y.output → Follows c x y
  is_detected : y.state.status ≡ Detected → y.output ≡ None → Follows c x y

-- the first state, of the run without the fault, and the second, of the struck run, are alike, or the second is
-- detected
pub data IsAlikeOrDetected (c : Colour) (s t : State) : Type 0 where
  is_alike : AreAlike c s t → IsAlikeOrDetected c s t
  has_stopped : t.status ≡ Detected → IsAlikeOrDetected c s t

-- a state after n steps of a struck run and the state after n steps of the run without the strike are alike, for the
-- colour of the struck site, or the former is detected
abbrev pub IsAlikeAfter : Object → Strike → List Wild → ℕ → State → Type 0
IsAlikeAfter o x w n s = IsAlikeOrDetected (colour_of_site (state_after o None w x.step) x.site) (state_after o None w n) s

-- from the strike on, the states from which step n is taken are alike, or the struck one is detected; at the step of
-- the strike, the struck one is the state right after the strike
abbrev pub StaysAlike : Object → Strike → List Wild → ℕ → Type 0
StaysAlike o x w n = x.step ≤ n → IsAlikeAfter o x w n (struck_before (Some x) n (state_after o (Some x) w n))

-- after each step from the strike on, the states are alike, or the struck one is detected
abbrev pub IsAlikeLater : Object → Strike → List Wild → ℕ → Type 0
IsAlikeLater o x w n = x.step < n → IsAlikeAfter o x w n (state_after o (Some x) w n)
