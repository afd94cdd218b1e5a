-- Places in a list, counted from 1: private to the code.
use Rattle.std.specs.Prelude.{ℕ, zero, suc, Bool, cond, List, [], ◌∷◌, Option, Some, None, slice_index_or, replicate}
use Rattle.std.specs.List.{slice_set}
use Rattle.ft_isa.specs.declared.instr.Instr.{Instr}

-- the place of a register, if one is given; 0 otherwise
abbrev pub place_of : List ℕ → Option ℕ → ℕ
place_of ps None = 0
place_of ps (Some r) = slice_index_or ps r 0

-- the places after place p is recorded for a register, if one is given
abbrev pub marked : List ℕ → Option ℕ → ℕ → List ℕ
marked ps None p = ps
marked ps (Some r) p = slice_set ps r p

-- no register has been seen
abbrev pub unmet : List ℕ
unmet = replicate 64 0

-- the place of the last instruction that passes a test, given that place in the rest (0 if none passes) and whether the
-- first instruction passes
abbrev pub or_first : ℕ → Bool → ℕ
or_first zero passes = cond passes 1 0
or_first (suc n) passes = suc (suc n)

-- the place of the last instruction that passes a test; 0 if none does
abbrev pub last_place : (Instr → Bool) → List Instr → ℕ
last_place test [] = 0
last_place test (i ∷ is) = or_first (last_place test is) (test i)
