-- What is held stays held, with the same meaning, when the list of forms grows.
use Rattle.std.proofs.Common.{◌≡◌, ℕ, suc, List, [], ◌∷◌, map, Option, None, Some, refl, ap}
use Rattle.std.specs.Option.{unwrap_or}
use Rattle.ft_static.specs.Form.{Form as Normal, integer_form, memory_form, polynomial_of, updates_of, Polynomial}
use Rattle.ft_static.specs.Form.{Updates, nought}
use Rattle.ft_norm.specs.declared.form.Form.{Form}
use Rattle.ft_norm.specs.Held.{held, polynomial, updates_held, IsInteger, IsMemory, AreIntegers, Keeps}
use Rattle.ft_norm.specs.declared.substitution.Memo.{Memo}
use Rattle.ft_norm.proofs.Memos.{remembers_kept}
use Rattle.ft_norm.proofs.HeldForms.{integer_from, memory_from, polynomials_kept}
use Rattle.ft_types.specs.declared.object.Object.{Object}
use Rattle.ft_contexts.specs.declared.register.RegForm.{RegForm}
use Rattle.ft_contexts.specs.declared.destination.StateD.{StateD}
use Rattle.ft_contexts.specs.declared.destination.StateD.TheVariants.{Zero, Code, Conditional}
use Rattle.ft_contexts.specs.declared.variables.OwnVariables.{OwnVariables}
use Rattle.ft_contexts.specs.declared.variables.Variables.{Variables}
use Rattle.ft_contexts.specs.declared.context.Context.{Context}
use Rattle.ft_contexts.specs.declared.transfers.Shared.{Shared}
use Rattle.ft_contexts.specs.Contexts.{typed_in, registers_in, d_in, pair_in, context_in, replacement_in}
use Rattle.ft_contexts.specs.Contexts.{HoldsVariables, AreOwn, HoldsOwn, HoldsShared, RemembersUnder, HoldsD}
use Rattle.ft_contexts.specs.Contexts.{HoldsQueue, HoldsForms, HoldsRegisters}

-- a form that is held as p has the polynomial p
pub polynomial_found : (fs : List Normal) (f : Form) (p : Polynomial) → held fs f ≡ Some (integer_form p) →
    polynomial fs f ≡ p
polynomial_found fs f p h = ap (λ (x : Option Normal). polynomial_of (unwrap_or x (integer_form nought))) h

-- a form that is held as u has the updates u
pub updates_found : (fs : List Normal) (f : Form) (u : Updates) → held fs f ≡ Some (memory_form u) → updates_held fs f
    ≡ u
updates_found fs f u h = ap (λ (x : Option Normal). updates_of (unwrap_or x (integer_form nought))) h

-- an integer's form keeps its polynomial
pub integer_stays : (fs gs : List Normal) (f : Form) → Keeps fs gs → IsInteger fs f → polynomial gs f ≡ polynomial fs f
integer_stays fs gs f k h = k.polynomials_stay f h

-- an integer's form remains one
pub integer_kept : (fs gs : List Normal) (f : Form) → Keeps fs gs → IsInteger fs f → IsInteger gs f
integer_kept fs gs f k h = k.integers_stay f h

-- a memory's form keeps its updates
pub memory_stays : (fs gs : List Normal) (f : Form) → Keeps fs gs → IsMemory fs f → updates_held gs f
    ≡ updates_held fs f
memory_stays fs gs f k h = k.updates_stay f h

-- a memory's form remains one
pub memory_kept : (fs gs : List Normal) (f : Form) → Keeps fs gs → IsMemory fs f → IsMemory gs f
memory_kept fs gs f k h = k.memories_stay f h

-- a list keeps its own forms
pub keeps_itself : (fs : List Normal) → Keeps fs fs
keeps_itself fs = record {
  forms_stay = λ f x h. h;
  integers_stay = λ f h. h;
  memories_stay = λ f h. h;
  polynomials_stay = λ f h. refl;
  updates_stay = λ f h. refl;
}

-- VARIABLES

-- an empty list has only forms of integers
pub none_held : (fs : List Normal) (xs : List Form) → xs ≡ [] → AreIntegers fs xs
none_held fs [] e i f h = cc
none_held fs (x ∷ xs) e i f h = cc

-- the forms of variables remain held
pub variables_kept : (fs gs : List Normal) (v : Variables) → Keeps fs gs → HoldsVariables fs v → HoldsVariables gs v
variables_kept fs gs v k h = record {
  integers = λ i f e. integer_kept fs gs f k (h.integers i f e);
  memory = memory_kept fs gs v.memory k h.memory;
}

-- what is substituted for variables is unchanged
pub replacement_stays : (fs gs : List Normal) (v : Variables) → Keeps fs gs → HoldsVariables fs v → replacement_in gs v
    ≡ replacement_in fs v
replacement_stays fs gs v k h =
    let p = polynomials_kept fs gs v.integers k h.integers in
    let u = memory_stays fs gs v.memory k h.memory in
    λ i. record { integers = p i; memory = u i }

-- `AreOwn` is preserved
pub own_kept : (fs gs : List Normal) (n : ℕ) (v : Variables) → Keeps fs gs → AreOwn fs n v → AreOwn gs n v
own_kept fs gs n v k h = record {
  count = h.count;
  integers = λ i f e. k.forms_stay f _ (h.integers i f e);
  memory = k.forms_stay v.memory _ h.memory;
}

-- the forms of the variables themselves are held
pub own_held : (fs : List Normal) (n : ℕ) (v : Variables) → AreOwn fs n v → HoldsVariables fs v
own_held fs n v h = record {
  integers = λ i f e. integer_from fs f _ (h.integers i f e);
  memory = memory_from fs v.memory _ h.memory;
}

-- what is remembered under a substitution remains right
pub under_kept : (o : Object) (fs gs : List Normal) (v : Variables) (m : Memo) → Keeps fs gs → HoldsVariables fs v →
    RemembersUnder o fs v m → RemembersUnder o gs v m
under_kept o fs gs v m k h r = remembers_kept o.nodes fs gs v.integers v.memory m k h.integers h.memory r

-- `HoldsOwn` is preserved
pub owned_kept : (o : Object) (fs gs : List Normal) (v : OwnVariables) → Keeps fs gs → HoldsOwn o fs v → HoldsOwn o gs v
owned_kept o fs gs v k h = record {
  own = own_kept fs gs 128 v.variables k h.own;
  made = under_kept o fs gs v.variables v.made k (own_held fs 128 v.variables h.own) h.made;
}

-- `HoldsShared` is preserved
pub shared_kept : (o : Object) (fs gs : List Normal) (s : Shared) → Keeps fs gs → HoldsShared o fs s →
    HoldsShared o gs s
shared_kept o fs gs s k h = record {
  own = owned_kept o fs gs s.own k h.own;
  put = variables_kept fs gs s.put k h.put;
  made = under_kept o fs gs s.put s.made k h.put h.made;
}

-- likewise if more was made for nodes
pub shared_made : (o : Object) (fs gs : List Normal) (s : Shared) (m : Memo) → Keeps fs gs → HoldsShared o fs s →
    RemembersUnder o gs s.put m → HoldsShared o gs (record s { made = m })
shared_made o fs gs s m k h r = record {
  own = owned_kept o fs gs s.own k h.own;
  put = variables_kept fs gs s.put k h.put;
  made = r;
}

-- likewise if the variables substituted for themselves have made more
pub shared_own : (o : Object) (fs gs : List Normal) (s : Shared) (v : OwnVariables) → Keeps fs gs → HoldsShared o fs s →
    HoldsOwn o gs v → HoldsShared o gs (record s { own = v })
shared_own o fs gs s v k h w = record {
  own = w;
  put = variables_kept fs gs s.put k h.put;
  made = under_kept o fs gs s.put s.made k h.put h.made;
}

-- CONTEXTS

-- what is known of a register is unchanged
pub typed_stays : (fs gs : List Normal) (x : RegForm) → Keeps fs gs → IsInteger fs x.form → typed_in gs x
    ≡ typed_in fs x
typed_stays fs gs x k h = let e = integer_stays fs gs x.form k h in
    λ i. record { colour = x.colour; basic = x.basic; form = e i }

-- the forms of registers remain held
pub registers_kept : (fs gs : List Normal) (xs : List (Option RegForm)) → Keeps fs gs → HoldsRegisters fs xs →
    HoldsRegisters gs xs
registers_kept fs gs xs k h r x e = integer_kept fs gs x.form k (h r x e)

-- what is known of registers is unchanged
pub registers_stay : (fs gs : List Normal) (n : ℕ) (xs : List (Option RegForm)) → Keeps fs gs → HoldsRegisters fs xs →
    registers_in gs n xs ≡ registers_in fs n xs
unfolding registers_in
registers_stay fs gs n [] k h = refl
registers_stay fs gs n (None ∷ xs) k h = registers_stay fs gs (suc n) xs k (λ r x e. h (suc r) x e)
registers_stay fs gs n (Some y ∷ xs) k h = rw (
  registers_stay fs gs (suc n) xs k (λ r x e. h (suc r) x e),
  typed_stays fs gs y k (h 0 y refl),
) refl

-- the forms of d's state remain held
pub d_kept : (fs gs : List Normal) (d : StateD) → Keeps fs gs → HoldsD fs d → HoldsD gs d
d_kept fs gs Zero k h = tt
d_kept fs gs (Code t f) k h = integer_kept fs gs f k h
d_kept fs gs (Conditional z t f) k h = (integer_kept fs gs z k h.0, integer_kept fs gs f k h.1)

-- what is known of d is unchanged
pub d_stays : (fs gs : List Normal) (d : StateD) → Keeps fs gs → HoldsD fs d → d_in gs d ≡ d_in fs d
d_stays fs gs Zero k h = refl
d_stays fs gs (Code t f) k h = rw (integer_stays fs gs f k h) refl
d_stays fs gs (Conditional z t f) k h = rw (integer_stays fs gs z k h.0, integer_stays fs gs f k h.1) refl

-- the forms of pairs remain held
pub queue_kept : (fs gs : List Normal) (q : List (Form × Form)) → Keeps fs gs → HoldsQueue fs q → HoldsQueue gs q
queue_kept fs gs q k h i p e = (integer_kept fs gs p.0 k (h i p e).0, integer_kept fs gs p.1 k (h i p e).1)

-- the pairs' meaning is unchanged
pub queue_stays : (fs gs : List Normal) (q : List (Form × Form)) → Keeps fs gs → HoldsQueue fs q → map (pair_in gs) q
    ≡ map (pair_in fs) q
queue_stays fs gs [] k h = refl
queue_stays fs gs (p ∷ q) k h =
    let x = h 0 p refl in
    rw (integer_stays fs gs p.0 k x.0, integer_stays fs gs p.1 k x.1, queue_stays fs gs q k (λ i y e. h (suc i) y e))
    refl

-- the forms of a context remain held
pub forms_kept : (fs gs : List Normal) (c : Context) → Keeps fs gs → HoldsForms fs c → HoldsForms gs c
forms_kept fs gs c k h = record {
  registers = registers_kept fs gs c.registers k h.registers;
  d = d_kept fs gs c.d k h.d;
  queue = queue_kept fs gs c.queue k h.queue;
  memory = memory_kept fs gs c.memory k h.memory;
}

-- a context's meaning is unchanged
pub context_stays : (fs gs : List Normal) (c : Context) → Keeps fs gs → HoldsForms fs c → context_in gs c
    ≡ context_in fs c
context_stays fs gs c k h =
    let r = registers_stay fs gs 0 c.registers k h.registers in
    let d = d_stays fs gs c.d k h.d in
    let q = queue_stays fs gs c.queue k h.queue in
    let m = memory_stays fs gs c.memory k h.memory in
    λ i. record { ints = c.ints; registers = r i; d = d i; queue = q i; memory = m i }
