-- What a text means, or why it is refused.
use Rattle.std.specs.Prelude.{ℕ, ◌+◌, nat_lt, List, [], length, Option, Some, None, if◌then◌else◌, Result, Ok, Err}
use Rattle.std.specs.Prelude.{slice_index_or}
use Rattle.ft_text.specs.Lines.{lines_of}
use Rattle.ft_lower.specs.declared.step3.Step3.{Step3}
use Rattle.ft_lower.specs.Flow.{Blocks}
use Rattle.ft_lower.specs.Cutting.{blocks_onto}
use Rattle.ft_flow.specs.declared.fault.Frame.{Frame}
use Rattle.ft_flow.specs.declared.fault.Fault.{Fault}
use Rattle.ft_flow.specs.Faults.{fault_of, spared, ends}
use Rattle.ft_flow.specs.Heads.{Said, said, read_head, Declared, none_declared}
use Rattle.ft_flow.specs.Bodies.{Cells, goes_on, read_cells, labels_of, SoFar, at_start, read_steps}
use Rattle.ft_flow.specs.Steps.{Known}
use Rattle.ft_flow.specs.declared.flow_error.FlowError.{FlowError}
use Rattle.ft_flow.specs.declared.flow_error.FlowError.TheVariants as errors

-- what a text says: the number of variables, the cells with their names and initial words, and the steps with their
-- lines
pub record FlowText : Type 0 where
  pub vars : ℕ
  pub names : List (List ℕ)
  pub inits : List ℕ
  pub steps : List Step3
  pub lines : List ℕ

-- the blocks of a text's steps, with their spares
abbrev pub blocks_in : FlowText → Blocks
blocks_in t = blocks_onto [] (spared t.vars t.steps)

-- the names that steps may use, after these declarations
abbrev pub known_after : Declared → List Said → Known
known_after d rows = record {
  names = d.names;
  firsts = d.firsts;
  lengths = d.lengths;
  cells = length d.inits;
  labels = labels_of rows;
}

-- the text of these parts
abbrev pub text_of : ℕ → Declared → SoFar → FlowText
text_of vars d s = record { vars = vars; names = d.cells; inits = d.inits; steps = s.steps; lines = s.lines }

-- what the lines after these declarations say, or the first refusal
abbrev pub read_blocks : ℕ → ℕ → Cells → Result FlowText FlowError
read_blocks end vars c = goes_on (read_steps (known_after c.declared c.rest) end at_start c.rest) (λ s.
    Ok (text_of vars c.declared s))

-- what the lines of a text say, or the first refusal; `end` is the number of the line after the last
abbrev pub read_rows : ℕ → List Said → Result FlowText FlowError
read_rows end rows = goes_on (read_head end rows) (λ h.
    goes_on (read_cells none_declared h.rest) (λ c. read_blocks end h.vars c))

-- the frame of a text's steps
abbrev pub frame_of : FlowText → Frame
frame_of t = record { vars = t.vars; cells = length t.inits; blocks = ends t.steps }

-- a text whose steps break no rule, or the line of the first that does
abbrev pub without_fault : FlowText → Option Fault → Result FlowText FlowError
without_fault t None = Ok t
without_fault t (Some f) = Err (errors.Step (slice_index_or t.lines f.at 0) f.rule)

-- a text, or the line of its first step that breaks a rule
abbrev pub judged : FlowText → Result FlowText FlowError
judged t = without_fault t (fault_of (frame_of t) t.steps)

-- what a text says, or why it is refused
abbrev pub read_text : List ℕ → Result FlowText FlowError
read_text text = if nat_lt 134217728 (length text) then Err errors.TooLong
    else goes_on (read_rows (length (lines_of text) + 1) (said 1 (lines_of text))) (λ t. judged t)
