-- What the results of the checker say about an object.
use Rattle.std.specs.Prelude.{◌≡◌, ◌≤◌, ℕ, List, length, Bool, true, false, Option, Some, None, Result, Ok, Err}
use Rattle.ft_typing.specs.Accepted.{Refusal, IsAccepted}
use Rattle.ft_types.specs.Spellable.{IsSpellable}
use Rattle.ft_types.specs.declared.object.Object.{Object}
use Rattle.ft_typing.specs.Accepted as refusals
use Rattle.ft_typing.specs.Premise.{Premise}
use Rattle.ft_rules.specs.declared.why.RuleError.{RuleError}
use Rattle.ft_rules.specs.declared.why.RuleError.TheVariants as rule
use Rattle.ft_checker.specs.declared.error.CheckError.{CheckError}
use Rattle.ft_checker.specs.declared.error.CheckError.TheVariants.{EntryType, CellType, Refused, NoMemory}
use Rattle.ft_checker.specs.declared.blocks.Start.{Start}
use Rattle.ft_static.specs.Form.{Form as Normal, updates}
use Rattle.ft_typing.specs.Context.{start_context}
use Rattle.ft_contexts.specs.Contexts.{HoldsForms, NamesTypes, context_in, pending_count}

-- what an error says: which refusal it is; `NoMemory` says nothing
abbrev pub IsRefusalOf : Option Refusal → CheckError → Type 0
IsRefusalOf x EntryType = x ≡ Some refusals.EntryType
IsRefusalOf x (CellType k) = x ≡ Some (refusals.CellType k)
IsRefusalOf x (Refused b i why) = x ≡ Some (refusals.Refused b i why)
IsRefusalOf x NoMemory = Unit {0}

-- what a result says: that nothing is refused, or which refusal it is
abbrev pub Judges : {A : Type 0} → Option Refusal → Result A CheckError → Type 0
Judges x (Ok a) = x ≡ None
Judges x (Err e) = IsRefusalOf x e

-- what an error of an instruction says about the walk of its block from instruction k
abbrev pub StopsAt : Option (ℕ × Premise) → ℕ → RuleError → Type 0
StopsAt x k (rule.Refused why) = x ≡ Some (k, why)
StopsAt x k rule.NoMemory = Unit {0}

-- what `true` and `false` say: the block has ended and the walk refuses nothing, or the walk continues
abbrev pub HasEnded : Option (ℕ × Premise) → Option (ℕ × Premise) → Bool → Type 0
HasEnded x later true = x ≡ None
HasEnded x later false = x ≡ later

-- what the result of `turn` says about the walk of the block from instruction k
abbrev pub Turns : Option (ℕ × Premise) → ℕ → Option (ℕ × Premise) → Result Bool RuleError → Type 0
Turns x k later (Ok ended) = HasEnded x later ended
Turns x k later (Err e) = StopsAt x k e

-- the invariant of a checked program: its object obeys the rules of its tables, and is accepted
pub record IsChecked (o : Object) : Type 0 where
  pub spellable : IsSpellable o
  pub accepted : IsAccepted o

-- a start's context is the one with which blocks of its code type begin; its forms are held, its code types are the
-- object's, its queue has at most 8 pairs, and its memory has at most as many updates as there are nodes
pub record IsStart (o : Object) (fs : List Normal) (s : Start) : Type 0 where
  pub context : context_in fs s.context ≡ start_context o s.code_type
  pub held : HoldsForms fs s.context
  pub types : NamesTypes o s.context
  pub pending : pending_count s.context ≤ 8
  pub count : updates (context_in fs s.context).memory ≤ length o.nodes

-- a start exists, and it is of code type t
abbrev pub IsStartOf : ℕ → Option Start → Type 0
IsStartOf t None = ⊥
IsStartOf t (Some s) = s.code_type ≡ t
