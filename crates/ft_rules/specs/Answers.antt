-- What the results of the rules say about a typing row.
use Rattle.std.specs.Prelude.{◌≡◌, ◌+◌, ◌*◌, ◌≤◌, ℕ, List, length, Result, Ok, Err, OnErr, Some, slice_get}
use Rattle.ft_isa.specs.declared.instr.Instr.{Instr}
use Rattle.ft_static.specs.Form.{Form as Normal, updates}
use Rattle.ft_types.specs.declared.object.Object.{Object}
use Rattle.ft_typing.specs.RowWords.{Outcome, Goes, Ends, Fails}
use Rattle.ft_rules.specs.declared.why.RuleError.{RuleError}
use Rattle.ft_rules.specs.declared.why.RuleError.TheVariants.{Refused, NoMemory}
use Rattle.ft_rules.specs.declared.why.Next.{Next}
use Rattle.ft_rules.specs.declared.why.Next.TheVariants as next
use Rattle.ft_contexts.specs.declared.context.Context.{Context}
use Rattle.ft_norm.specs.Held.{Keeps}
use Rattle.ft_isa.specs.declared.instr.Instr.TheVariants.{Ld, JmpB, BzB}
use Rattle.ft_typing.specs.Context.{Context as Defined}
use Rattle.ft_contexts.specs.Costs.{tree_cost}
use Rattle.ft_contexts.specs.Contexts.{context_in, HoldsForms, NamesTypes}

-- what an error says about a row: a refusal names the first failing premise; `NoMemory` says nothing
abbrev pub IsRefusal : Outcome → RuleError → Type 0
IsRefusal x (Refused why) = x ≡ Fails why
IsRefusal x NoMemory = Unit {0}

-- what the result of one premise says about a row: the remaining premises decide, or the row is refused
abbrev pub Passes : {A : Type 0} → Outcome → (A → Outcome) → Result A RuleError → Type 0
Passes x after (Ok a) = x ≡ after a
Passes x after (Err e) = IsRefusal x e

-- what the result of a whole row says about it, if this is the context afterwards
abbrev pub GoesOn : Outcome → List Normal → Context → Next → Type 0
GoesOn x fs c next.On = x ≡ Goes (context_in fs c)
GoesOn x fs c next.Ends = x ≡ Ends

abbrev pub Answers : Outcome → List Normal → Context → Result Next RuleError → Type 0
Answers x fs c (Ok n) = GoesOn x fs c n
Answers x fs c (Err e) = IsRefusal x e

-- the instruction is one of the object's
pub record IsInstrOf (o : Object) (i : Instr) : Type 0 where
  pub index : ℕ
  pub found : slice_get o.instrs index ≡ Some i

-- the memory has at most one more update, and the static queue still has at most 8 pairs if it had at most 8 before
pub record Grows (fs gs : List Normal) (c d : Context) : Type 0 where
  pub memory : updates (context_in gs d).memory ≤ updates (context_in fs c).memory + 1
  pub queue : length (context_in fs c).queue ≤ 8 → length (context_in gs d).queue ≤ 8

-- a bound on the steps of a row
abbrev pub rule_cost : Object → Defined → Instr → ℕ
rule_cost o c (JmpB rd subst) = 210 * tree_cost o (length o.nodes)
rule_cost o c (BzB rz rd subst) = 210 * tree_cost o (length o.nodes)
rule_cost o c (Ld colour rd rs) = updates c.memory + 2 * length c.queue
rule_cost o c i = 0

-- the contract of a row: its result, given both contexts; an error leaves the context unchanged; held forms stay held;
-- the context's forms are held, and its code types are the object's
pub record Does (x : Outcome) (o : Object) (fs gs : List Normal) (c d : Context) (r : Result Next RuleError) : Type 0 where
  pub row : Answers x gs d r
  pub before : OnErr r (d ≡ c)
  pub kept : Keeps fs gs
  pub held : HoldsForms gs d
  pub types : NamesTypes o d
  pub grows : Grows fs gs c d
