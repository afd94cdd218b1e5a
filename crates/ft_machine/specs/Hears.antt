-- How an outlet takes some outputs, whatever it took before them.
use Rattle.std.specs.Prelude.{List, ◌++◌, Bool, true}
use Rattle.ft_isa.specs.declared.output.Output.{Output}

-- whatever an outlet has taken so far, if it goes on, it takes these outputs too; `goes` says whether it goes on after
-- them
abbrev pub Hears : {T : Type 0} → (T → List Output → Bool → T → Type 0) → T → List Output → Bool → T → Type 0
Hears {T = T} heard old outputs goes new = (first : T) (before : List Output) → heard first before true old → heard first (before ++ outputs) goes new
