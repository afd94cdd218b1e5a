-- When modules are added, and what object they are linked into.
use Rattle.std.specs.Prelude.{◌≡◌, ℕ, List, [], ◌∷◌, length, Option, None, All}
use Rattle.ft_isa.specs.declared.plan.Strike.{Strike}
use Rattle.ft_isa.specs.declared.plan.Wild.{Wild}
use Rattle.ft_types.specs.declared.object.Object.{Object}
use Rattle.ft_types.specs.declared.object.Cell.{Cell}
use Rattle.ft_types.specs.Spellable.{IsSpellable}
use Rattle.ft_semantics.specs.Agrees.{Agrees}
use Rattle.ft_semantics.specs.Run.{outputs_after, status_after}
use Rattle.ft_typing.specs.Accepted.{IsAccepted}
use Rattle.ft_link_map.specs.declared.link_map.LinkMap.{LinkMap}
use Rattle.ft_modules.specs.Linkable.{AreFew}
use Rattle.ft_modules.specs.Linked.{linked}
use Rattle.ft_modules.specs.LinkRefusals.{LinkRefusal, module_refusal, modules_refusal, link_refusal}
use Rattle.ft_modules.specs.ModulesRun.{modules_outputs, modules_status}

-- the cells that an object must have to be added to these modules: the first one's
abbrev pub cells_of : List Object → Object → List Cell
cells_of [] o = o.cells
cells_of (first ∷ others) o = first.cells

-- why an object is refused as the next module, if it is
abbrev pub added_refusal : List Object → Object → Option LinkRefusal
added_refusal modules o = module_refusal modules (length modules) (cells_of modules o) o

-- why these modules are not linked, if they cannot be
abbrev pub refusal_of : LinkMap → List Object → Option LinkRefusal
refusal_of linkage [] = None
refusal_of linkage (first ∷ others) = link_refusal linkage first others

-- the first refusal of these modules, which are added in turn, if one of them is refused
abbrev pub turns_refusal : List Object → Option LinkRefusal
turns_refusal [] = None
turns_refusal (first ∷ others) = modules_refusal [] 0 first.cells (first ∷ others)

-- modules that were added: they obey the rules of the format, are accepted, and are not refused
pub record AreAdded (modules : List Object) : Type 0 where
  pub spelled : All IsSpellable modules
  pub accepted : All IsAccepted modules
  pub unrefused : turns_refusal modules ≡ None
  pub few : AreFew modules

-- the object is the one into which the map links the modules; it obeys the rules, is accepted, runs as they do, and
-- tolerates one fault
pub record IsLinked (linkage : LinkMap) (modules : List Object) (o : Object) : Type 0 where
  pub first : Object
  pub others : List Object
  pub modules_are : modules ≡ first ∷ others
  pub linked_is : o ≡ linked linkage first others
  pub spellable : IsSpellable o
  pub accepted : IsAccepted o
  pub outputs : (n : ℕ) → outputs_after o None [] n ≡ modules_outputs linkage first others n
  pub status : (n : ℕ) → status_after o None [] n ≡ modules_status linkage first others n
  pub tolerates : (strike : Option Strike) (w : List Wild) (n : ℕ) → Agrees (outputs_after o strike w n) (status_after o strike w n) (modules_outputs linkage first others n) (modules_status linkage first others n)
