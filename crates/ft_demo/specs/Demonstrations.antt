-- What a demonstration writes: the outputs of a run of the sample object, and how many of 64 faults have each verdict.
use Rattle.std.specs.Prelude.{◌≡◌, ℕ, zero, suc, ◌*◌, List, [], ◌∷◌, ◌++◌, length, codes, decimal, count_by, Option, None}
use Rattle.std.specs.Option.{option_map, option_to_list}
use Rattle.ft_edge.specs.Logs.{SinkLog}
use Rattle.ft_edge.specs.Lines.{with_lines, BreaksOff}
use Rattle.ft_isa.specs.Registers.{reg_of}
use Rattle.ft_isa.specs.declared.output.Output.{Output}
use Rattle.ft_isa.specs.declared.plan.Site.TheVariants.{R}
use Rattle.ft_isa.specs.declared.plan.Strike.{Strike}
use Rattle.ft_types.specs.declared.object.Object.{Object}
use Rattle.ft_semantics.specs.Run.{outputs_after}
use Rattle.ft_campaign.specs.declared.verdict.Verdict.{Verdict}
use Rattle.ft_campaign.specs.Verdicts.{AreVerdicts}
use Rattle.ft_campaign.specs.Texts.{is_corrupt, totals_of, end_line}
use Rattle.ft_demo.specs.Sample.{sample_object}
use Rattle.ft_demo.specs.declared.demo_end.DemoEnd.{DemoEnd}
use Rattle.ft_demo.specs.declared.demo_end.DemoEnd.TheVariants.{Finished, WriteFault, NoMemory}

-- fault j is at step 16j, at register j, with value j
abbrev pub fault : ℕ → Option Strike
fault j = option_map (λ register. record { step = 16 * j; site = R register; value = j }) (reg_of j)

-- the first n faults, from fault 0
unfoldable pub first_faults : ℕ → List Strike
first_faults zero = []
first_faults (suc n) = first_faults n ++ option_to_list (fault n)

-- the value of the last output, or this default
abbrev pub last_value_or : ℕ → List Output → ℕ
last_value_or value [] = value
last_value_or value (output ∷ outputs) = last_value_or output.value outputs

-- the line of the outputs: how many there are, and the value of the last one
abbrev pub outputs_line : ℕ → ℕ → List ℕ
outputs_line count last = codes "outputs " ++ decimal count ++ codes " last " ++ decimal last ++ codes "\n"

-- the line of the outputs of an object's run without a fault, for at most 131,072 steps; its last value is 0 if there
-- is no output
abbrev pub run_line : Object → List ℕ
run_line o = let outputs = outputs_after o None [] 131072 in outputs_line (length outputs) (last_value_or 0 outputs)

-- the verdicts of the 64 faults on an object, for at most 131,072 steps
abbrev pub AreDemoVerdicts : Object → List Verdict → Type 0
AreDemoVerdicts o verdicts = AreVerdicts o (first_faults 64) [] 131072 verdicts

-- the lines of a demonstration on an object: the line of its outputs, and the last line of the campaign
abbrev pub demo_lines : Object → List Verdict → List (List ℕ)
demo_lines o verdicts = run_line o ∷ end_line 64 (totals_of verdicts) ∷ []

-- a demonstration finished: no verdict is corrupt, and both lines were written
pub record Finishes (n : ℕ) (old new : SinkLog) : Type 0 where
  pub found : List Verdict
  pub verdicts : AreDemoVerdicts (sample_object n) found
  pub uncorrupted : count_by is_corrupt found ≡ 0
  pub lines : new ≡ with_lines (demo_lines (sample_object n) found) old

-- a demonstration stopped: no verdict is corrupt, and the put of a line failed
pub record Stops (n : ℕ) (old new : SinkLog) : Type 0 where
  pub found : List Verdict
  pub verdicts : AreDemoVerdicts (sample_object n) found
  pub uncorrupted : count_by is_corrupt found ≡ 0
  pub lines : BreaksOff (demo_lines (sample_object n) found) old new

-- how a demonstration of n turns ended
abbrev pub EndsAs : DemoEnd → ℕ → SinkLog → SinkLog → Type 0
EndsAs Finished n old new = Finishes n old new
EndsAs WriteFault n old new = Stops n old new
EndsAs NoMemory n old new = new ≡ old
