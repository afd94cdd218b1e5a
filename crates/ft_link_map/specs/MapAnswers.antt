-- The map that the lines of a text describe, or the line that is refused if they describe none.
use Rattle.std.specs.Prelude.{◌≡◌, ℕ, suc, ◌-◌, Bool, false, ◌&&◌, ◌||◌, ◌==◌, nat_lt, if◌then◌else◌, List, [], ◌∷◌, ◌++◌, length, Option, Some, None, Result, Ok, Err}
use Rattle.std.specs.List.{list_any}
use Rattle.std.specs.Str.{bytes_eq}
use Rattle.ft_link_map.specs.declared.link_map.Ask.{Ask}
use Rattle.ft_link_map.specs.declared.link_map.LinkMap as maps
use Rattle.ft_link_map.specs.declared.map_error.MapError.{MapError}
use Rattle.ft_link_map.specs.declared.map_error.MapError.TheVariants as errors
use Rattle.ft_link_map.specs.MapLines.{MapLine, Module, Export, Import, Bad}

-- THE MAP

-- the map of no lines
abbrev pub no_lines : maps.LinkMap
no_lines = record { files = []; exports = []; imports = [] }

-- the number of the last module so far, counted from 0
abbrev pub last_module : maps.LinkMap → ℕ
last_module m = length m.files - 1

-- an export or import of the last module so far
abbrev pub asked : maps.LinkMap → ℕ → List ℕ → ℕ → Ask
asked m number name block = record { «module» = last_module m; block = block; name = name; line = number }

-- the map after one more line, which has this number
abbrev pub with_line : maps.LinkMap → ℕ → MapLine → maps.LinkMap
with_line m number (Module file) = record { files = m.files ++ file ∷ []; exports = m.exports; imports = m.imports }
with_line m number (Export name block) = record { files = m.files; exports = m.exports ++ asked m number name block ∷ []; imports = m.imports }
with_line m number (Import name block) = record { files = m.files; exports = m.exports; imports = m.imports ++ asked m number name block ∷ [] }
with_line m number Bad = m

-- the map after these lines, which follow the first `count`
abbrev pub with_lines : maps.LinkMap → ℕ → List MapLine → maps.LinkMap
with_lines m count [] = m
with_lines m count (l ∷ ls) = with_lines (with_line m (suc count) l) (suc count) ls

-- MISPLACED LINES

-- whether a line may come after those of a map: there are at most 64 modules, an export or import comes after a module,
-- and a bad line is never allowed
abbrev pub may_stand : maps.LinkMap → MapLine → Bool
may_stand m (Module file) = nat_lt (length m.files) 64
may_stand m (Export name block) = nat_lt 0 (length m.files)
may_stand m (Import name block) = nat_lt 0 (length m.files)
may_stand m Bad = false

-- the number of the first misplaced line, or of the line after the last if there is no module
abbrev pub first_bad : maps.LinkMap → ℕ → List MapLine → Option ℕ
first_bad m count [] = if nat_lt 0 (length m.files) then None else Some (suc count)
first_bad m count (l ∷ ls) = if may_stand m l then first_bad (with_line m (suc count) l) (suc count) ls else Some (suc count)

-- REPEATED LINES

-- whether one of these has this name
abbrev pub has_name : List Ask → List ℕ → Bool
has_name asks name = list_any (λ (a : Ask). bytes_eq a.name name) asks

-- whether one of these names this block of this module
abbrev pub has_block : List Ask → ℕ → ℕ → Bool
has_block asks m b = list_any (λ (a : Ask). (a.module == m) && (a.block == b)) asks

-- whether a line exports a name already exported, exports a block already imported, or imports a block already named
abbrev pub repeats : maps.LinkMap → MapLine → Bool
repeats m (Module file) = false
repeats m (Export name block) = has_name m.exports name || has_block m.imports (last_module m) block
repeats m (Import name block) = has_block m.exports (last_module m) block || has_block m.imports (last_module m) block
repeats m Bad = false

-- the number of the first repeated line
abbrev pub first_twice : maps.LinkMap → ℕ → List MapLine → Option ℕ
first_twice m count [] = None
first_twice m count (l ∷ ls) = if repeats m l then Some (suc count) else first_twice (with_line m (suc count) l) (suc count) ls

-- THE ANSWER

-- the map, or the line that is refused and why
pub data Answer : Type 0 where
  Is : maps.LinkMap → Answer
  Line : ℕ → Answer
  Twice : ℕ → Answer

-- misplaced lines are refused before repeated ones
abbrev pub answered : Option ℕ → Option ℕ → maps.LinkMap → Answer
answered (Some number) twice m = Line number
answered None (Some number) m = Twice number
answered None None m = Is m

-- the answer to these lines
abbrev pub answer_of : List MapLine → Answer
answer_of said = answered (first_bad no_lines 0 said) (first_twice no_lines 0 said) (with_lines no_lines 0 said)

-- the error is the answer, unless memory ran out
abbrev pub IsRefusal : MapError → Answer → Type 0
IsRefusal (errors.Line line) answer = answer ≡ Line line
IsRefusal (errors.Twice line) answer = answer ≡ Twice line
IsRefusal errors.NoMemory answer = Unit {0}

-- the result is the answer, unless memory ran out
abbrev pub Gives : Result maps.LinkMap MapError → Answer → Type 0
Gives (Ok map) answer = answer ≡ Is map
Gives (Err error) answer = IsRefusal error answer
