use Rattle.std.proofs.Common.{◌≡◌, ℕ, List, Option, None, Some, IfSome, get_or, length, refl}
use Rattle.ft_static.specs.Form.{Form as Normal}
use Rattle.ft_norm.specs.Held.{IsInteger}
use Rattle.ft_types.specs.Spellable.{IsBase}
use Rattle.ft_contexts.specs.declared.register.RegForm.{RegForm}
use Rattle.ft_contexts.specs.Contexts.{HoldsRegisters, RegistersNameTypes}
use Rattle.ft_contexts.proofs.Registers.{known_of, there_from_get_or}
use Rattle.ft_contexts.proofs.context.Context.reg.Goals as goal

-- the form of a known register is held
known_held : (fs : List Normal) (xs : List (Option RegForm)) (r : ℕ) (x : Option RegForm) → HoldsRegisters fs xs →
    get_or xs r None ≡ x → IfSome x (λ y. IsInteger fs y.form)
known_held fs xs r None h e = tt
known_held fs xs r (Some y) h e = h r y (there_from_get_or xs r y e)

pub returns-clause-known : goal.returns-clause-known
returns-clause-known c = λ fs. rw c.number.ensures.same (known_of fs c.args.self.now.registers c.args.r.number)

pub returns-clause-held : goal.returns-clause-held
returns-clause-held c = λ fs h. known_held fs c.args.self.now.registers c.number.result _ h.registers refl

-- its code type exists
known_typed : (types : ℕ) (xs : List (Option RegForm)) (r : ℕ) (x : Option RegForm) → RegistersNameTypes types xs →
    get_or xs r None ≡ x → IfSome x (λ y. IsBase types y.basic.base)
known_typed types xs r None h e = tt
known_typed types xs r (Some y) h e = h r y (there_from_get_or xs r y e)

pub returns-clause-types : goal.returns-clause-types
returns-clause-types c = λ o h. known_typed (length o.types) c.args.self.now.registers c.number.result _ h.registers
    refl
