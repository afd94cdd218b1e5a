-- What a demonstration writes and returns.
use Rattle.std.specs.Prelude.{◌≡◌, ℕ, List, []}
use Rattle.ft_tolerance.specs.Soundness.{IsNeverDetected}
use Rattle.ft_campaign.specs.declared.verdict.Verdict.{Verdict}
use Rattle.ft_demo.specs.Sample.{sample_object}
use Rattle.ft_demo.specs.Demonstrations.{AreDemoVerdicts, demo_lines}
use Rattle.ft_tool.specs.Lists.{NoneCorrupt}
use Rattle.ft_tool.specs.Replies.{Answer}

-- the answer of `demo` for this many turns: the line of the outputs and the last line of the campaign. No verdict is
-- corrupt, and the run without a fault is never detected
pub record ShowsSample (turns : ℕ) (a : Answer) : Type 0 where
  pub found : List Verdict
  pub verdicts : AreDemoVerdicts (sample_object turns) found
  pub none_corrupt : NoneCorrupt found
  pub undetected : IsNeverDetected (sample_object turns) []
  pub answer : a ≡ record { pieces = demo_lines (sample_object turns) found; status = 0 }
