-- What the table of names holds: private to the code.
use Rattle.std.specs.Prelude.{◌≡◌, ℕ, ◌<◌, ◌≤◌, ◌-◌, ◌^◌, List, Option, Some, min, is_some, true}
use Rattle.std.specs.Option.{option_map}
use Rattle.std.specs.Ordering.{nat_cmp}
use Rattle.std.specs.Cmp.Lexicographic.{slice_cmp}
use Rattle.std.specs.BTreeMap.{get_by}
use Rattle.ft_syntax.specs.Plain.{StatementList}
use Rattle.ft_syntax.specs.Syntax.{Declared}
use Rattle.ft_syntax.specs.declared.source_error.SourceError.{SourceError}
use Rattle.ft_syntax.specs.declared.source_error.SourceError.TheVariants.{Twice, Cells, Registers, Weight, NoMemory}
use Rattle.ft_scope.specs.declared.slot.Slot.{Slot}
use Rattle.ft_scope.specs.declared.slot.Slot.TheVariants.{Cell, Var, Run}
use Rattle.ft_scope.specs.declared.names.Names.{Names}
use Rattle.ft_scope.specs.Scope.{find, cell_count, variable_count}
use Rattle.ft_scope.specs.Size.{whole_need, whole_weight}

-- a slot as the table holds it: a variable's number is capped at 255, and the numbers of cells at 2^32 - 1
abbrev pub narrow : Slot → Slot
narrow (Cell k) = Cell (min k (2 ^ 32 - 1))
narrow (Var x) = Var (min x 255)
narrow (Run c l) = Run (min c (2 ^ 32 - 1)) (min l (2 ^ 32 - 1))

-- what the table holds for a text
unfoldable pub look : Names → List ℕ → Option Slot
look n text = get_by (λ k. slice_cmp nat_cmp text k.now) n.slots

-- the table holds these declarations
pub record Holds (n : Names) (ds : List Declared) : Type 0 where
  pub slots : (text : List ℕ) → look n text ≡ option_map narrow (find ds text)
  pub cells : n.cells ≡ min (cell_count ds) (2 ^ 64 - 1)
  pub vars : n.vars ≡ variable_count ds

-- a declaration fails at the place of its name, if the name was declared before; nothing is claimed if memory runs out
abbrev pub DeclareFails : SourceError → ℕ → Option Slot → Type 0
DeclareFails (Twice at) place before = (at ≡ place) × (is_some before ≡ true)
DeclareFails NoMemory place before = Unit {0}
DeclareFails _ place before = ⊥

-- declarations fail at the first name that was declared before; nothing is claimed if memory runs out
abbrev pub TwiceFails : SourceError → Option ℕ → Type 0
TwiceFails (Twice at) first = first ≡ Some at
TwiceFails NoMemory first = Unit {0}
TwiceFails _ first = ⊥

-- the error names the first limit that c cells, v variables and these statements exceed, with the number that exceeds
-- it
abbrev pub BreaksLimit : SourceError → ℕ → ℕ → StatementList Slot → Type 0
BreaksLimit (Cells n) c v b = (n ≡ c) × (1024 < c)
BreaksLimit (Registers n) c v b = (c ≤ 1024) × (n ≡ whole_need v b) × (32 < n)
BreaksLimit (Weight n) c v b = (c ≤ 1024) × (whole_need v b ≤ 32) × (n ≡ whole_weight v b) × (65536 < n)
BreaksLimit _ c v b = ⊥
