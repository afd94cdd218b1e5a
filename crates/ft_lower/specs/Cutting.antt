-- Rows of steps, cut into blocks.
use Rattle.std.specs.Prelude.{true, false, List, [], ◌∷◌, ◌++◌}
use Rattle.ft_lower.specs.declared.step3.Step3.{Step3}
use Rattle.ft_lower.specs.declared.flow.Flow.{Flow}
use Rattle.ft_lower.specs.Flow.{Blocks}
use Rattle.ft_lower.specs.Well.{is_last}

-- the blocks into which a row of steps is cut, if these steps of an open block come first
abbrev pub blocks_onto : List Step3 → List Step3 → Blocks
blocks_onto [] [] = []
blocks_onto (i ∷ open_block) [] = (i ∷ open_block) ∷ []
blocks_onto open_block (i ∷ is) =
    elim (is_last i) as (λ b. Blocks) [ true ↦ (open_block ++ i ∷ []) ∷ blocks_onto [] is | false ↦ blocks_onto (open_block ++ i ∷ []) is ]

-- the blocks of a flow
abbrev pub blocks_of : Flow → Blocks
blocks_of f = blocks_onto [] f.steps.items
