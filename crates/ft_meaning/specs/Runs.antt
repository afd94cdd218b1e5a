-- What running statements does to the code's words and to the sink: private to the code.
use Rattle.std.specs.Prelude.{◌≡◌, ℕ, ◌-◌, ◌≤◌, List, length, Result, Ok, Err}
use Rattle.ft_edge.specs.Lines.{BreaksOff, with_lines}
use Rattle.ft_edge.specs.Logs.{SinkLog}
use Rattle.ft_isa.specs.declared.output.Output.{Output}
use Rattle.ft_meaning.specs.declared.run.Run.{Run}
use Rattle.ft_meaning.specs.declared.run.Stop.{Stop}
use Rattle.ft_meaning.specs.declared.run.Stop.TheVariants as stops
use Rattle.ft_meaning.specs.declared.mean_end.MeanEnd.{MeanEnd}
use Rattle.ft_meaning.specs.declared.mean_end.MeanEnd.TheVariants as ends
use Rattle.ft_meaning.specs.Meaning.{State, Outcome, Ended, Cut, outputs}
use Rattle.ft_meaning.specs.Lines.{output_lines}
use Rattle.ft_meaning.specs.Room.{HasRoom}

-- the defined state, with these outputs and this work done
abbrev pub state : Run → List Output → ℕ → State
state r out w = record { vars = r.vars.items; cells = r.cells.items; out = out; left = r.left; work = w }

-- a sink's record after the lines of these outputs, each written with one put
abbrev pub told : List (List ℕ) → SinkLog → List Output → SinkLog
told names first out = with_lines (output_lines names out) first

-- the code's vectors keep their lengths, and the turns left do not increase
pub record Keeps (r q : Run) : Type 0 where
  pub vars : length q.vars.items ≡ length r.vars.items
  pub cells : length q.cells.items ≡ length r.cells.items
  pub line : length q.line.items ≡ length r.line.items
  pub left : q.left ≤ r.left

-- each cell has a name, there are at most 1,024 cells, and the line buffer has room for each name and a value
pub record Ready (names : List (List ℕ)) (r : Run) : Type 0 where
  pub as_many : length names ≡ length r.cells.items
  pub few : length r.cells.items ≤ 1024
  pub line : 22 ≤ length r.line.items
  pub room : HasRoom names (length r.line.items - 22)

-- whatever lines were written and whatever work was done before, the code does what the definition does
abbrev pub RunsTo : (State → Outcome) → List (List ℕ) → Run → Run → SinkLog → SinkLog → Result (Unit {0}) Stop → Type 0
RunsTo go names r q before after (Ok u) =
    (first : SinkLog) (o : List Output) (w : ℕ) → before ≡ told names first o → (p : List Output) × (v : ℕ) ×
    (go (state r o w) ≡ Ended (state q p v)) × (after ≡ told names first p)
RunsTo go names r q before after (Err stops.Cut) =
    (first : SinkLog) (o : List Output) (w : ℕ) → before ≡ told names first o → (p : List Output) × (v : ℕ) ×
    (go (state r o w) ≡ Cut (state q p v)) × (after ≡ told names first p)
RunsTo go names r q before after (Err stops.WriteFault) =
    (first : SinkLog) (o : List Output) (w : ℕ) → before ≡ told names first o → BreaksOff
    (output_lines names (outputs (go (state r o w)))) first after

-- how the computation of a meaning ended, given how its run ended
abbrev pub end_of_run : Result (Unit {0}) Stop → MeanEnd
end_of_run (Ok u) = ends.Ended
end_of_run (Err stops.Cut) = ends.Cut
end_of_run (Err stops.WriteFault) = ends.WriteFault
