-- Lists that an implementation may record.
use Rattle.std.specs.Prelude.{List, ◌++◌, Option}
use Rattle.std.specs.Option.{option_map}

-- the recorded list, if there is one, with these elements appended
abbrev pub append_told : {X : Type 0} → Option (List X) → List X → Option (List X)
append_told told xs = option_map (λ ys. ys ++ xs) told
