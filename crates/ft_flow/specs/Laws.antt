-- Laws of the definitions.
use Rattle.std.specs.Prelude.{◌≡◌, ℕ, List, [], ◌∷◌, codes, Ok, Err}
use Rattle.ft_lower.specs.Flow.{Blocks, flow_run}
use Rattle.ft_lower.specs.Well.{IsWell}
use Rattle.ft_lower.specs.declared.step3.Step3.TheVariants.{Put, Store, Stop}
use Rattle.ft_flow.specs.Runs.{plain_run}
use Rattle.ft_flow.specs.Texts.{FlowText, read_text}
use Rattle.ft_flow.specs.declared.fault.Rule.TheVariants as rules
use Rattle.ft_flow.specs.declared.flow_error.FlowError.TheVariants as errors

-- a well-formed flow does the same whether or not its stores and jumps set their spares
abbrev pub SparesChangeNothing : Type 0
SparesChangeNothing = (vars cells : ℕ) (bs : Blocks) → IsWell vars cells bs → (words : List ℕ) (k : ℕ) →
    ((flow_run bs words k).done ≡ (plain_run bs words k).done)
    × ((flow_run bs words k).out ≡ (plain_run bs words k).out)

-- a text of one block, which stores 7
abbrev pub small_text : List ℕ
small_text = codes "flow 1\nvars 0\ncell out = 0\nb:\n  p0 = 7\n  store p0 out # told\n  stop\n"

-- what it says
abbrev pub small_flow : FlowText
small_flow = record {
  vars = 0;
  names = codes "out" ∷ [];
  inits = 0 ∷ [];
  steps = Put 0 7 ∷ Store 0 0 0 ∷ Stop ∷ [];
  lines = 5 ∷ 6 ∷ 7 ∷ [];
}

-- the same text, but the store on line 6 reads a pair that is not set
abbrev pub wrong_text : List ℕ
wrong_text = codes "flow 1\nvars 0\ncell out = 0\nb:\n  p0 = 7\n  store p1 out # told\n  stop\n"

abbrev pub SmallTextIsRead : Type 0
SmallTextIsRead = read_text small_text ≡ Ok small_flow

abbrev pub WrongTextIsRefused : Type 0
WrongTextIsRefused = read_text wrong_text ≡ Err (errors.Step 6 rules.Unset)
