-- The exits of a row: what comes after a premise that holds, and the refusal of one that fails.
use Rattle.std.proofs.Common.{◌≡◌, ◌+◌, ◌≤◌, ℕ, suc, eqb, List, [], ◌∷◌, ◌++◌, true, drop, length, Result, Ok, Err}
use Rattle.std.proofs.Common.{Some, arith, refl, sym, ap, ◌∙◌, subst}
use Rattle.std.specs.Result.{IsErrAnd}
use Rattle.std.proofs.lemmas.List.{length-drop, length_push}
use Rattle.std.proofs.lemmas.Bool.{ltb-true}
use Rattle.std.proofs.Math.Dec.{ltb}
use Rattle.ft_static.specs.Form.{Form as Normal, integer_form, memory_form, updates, Polynomial, Updates}
use Rattle.ft_norm.specs.Held.{held, held as Found, Keeps, IsInteger, IsMemory, updates_held}
use Rattle.ft_typing.specs.Context.{Context as Defined, Typed, FormPair, with_type}
use Rattle.ft_isa.specs.declared.instr.Instr.{Instr}
use Rattle.ft_types.specs.Spellable.{IsBase}
use Rattle.ft_contexts.specs.declared.register.RegForm.{RegForm}
use Rattle.ft_types.specs.declared.object.Object.{Object}
use Rattle.ft_typing.specs.TypingRow.{row}
use Rattle.ft_typing.specs.RowWords.{Outcome, Goes, Ends, is_empty}
use Rattle.ft_rules.specs.declared.why.RuleError.{RuleError}
use Rattle.ft_rules.specs.declared.why.RuleError.TheVariants.{NoMemory}
use Rattle.ft_rules.specs.declared.why.Next.{Next}
use Rattle.ft_rules.specs.declared.why.Next.TheVariants.{On, Ends as End}
use Rattle.ft_contexts.specs.declared.context.Context.{Context}
use Rattle.ft_contexts.specs.Contexts.{typed_in, context_in, HoldsForms, NamesTypes}
use Rattle.ft_rules.specs.Answers.{IsRefusal, Passes, Answers, Does, Grows, rule_cost}
use Rattle.ft_contexts.proofs.Kept.{polynomial_found, updates_found, forms_kept, context_stays}
use Rattle.ft_contexts.proofs.Registers.{apart}
use Rattle.ft_norm.specs.declared.form.Form.{Form}
use Rattle.ft_norm.proofs.HeldForms.{integer_from, memory_from}

-- a refusal after some premises that hold is a refusal of the whole row
pub refused : (x y : Outcome) (e : RuleError) → x ≡ y → IsRefusal y e → IsRefusal x e
refused x y e s h = subst (λ z. IsRefusal z e) (sym s) h

-- returning the refusal of a failing premise is a correct result
pub passes_exit : {A : Type 0} (r : Result A RuleError) (e : RuleError) (x y : Outcome) (after : A → Outcome) →
    IsErrAnd r (λ f. f ≡ e) → x ≡ y → IsRefusal y e → Passes x after r
passes_exit (Ok a) e x y after h s k = absurd h
passes_exit (Err f) e x y after h s k = subst (λ (g : RuleError). IsRefusal x g) (sym h) (refused x y e s k)

-- so is returning because memory ran out
pub passes_stop : {A : Type 0} (r : Result A RuleError) (x : Outcome) (after : A → Outcome) →
    IsErrAnd r (λ f. f ≡ NoMemory) → Passes x after r
passes_stop (Ok a) x after h = absurd h
passes_stop (Err f) x after h = subst (λ (g : RuleError). IsRefusal x g) (sym h) tt

-- a correct result for the remaining premises is correct for the whole row if the premises before them have passed
pub passes_after : {A : Type 0} (r : Result A RuleError) (x y : Outcome) (after : A → Outcome) → x ≡ y →
    Passes y after r → Passes x after r
passes_after r x y after e h = subst (λ z. Passes z after r) (sym e) h

-- WHOLE ROWS

-- a row that leaves the context unchanged is within the bounds of `Grows`
grows_none : (fs gs : List Normal) (c : Context) → Keeps fs gs → HoldsForms fs c → Grows fs gs c c
grows_none fs gs c keeps held =
    let e = context_stays fs gs c keeps held in
    let m = ap (λ (k : Defined). updates k.memory) e in
    let q = ap (λ (k : Defined). length k.queue) e in
    record { memory = omega (arith, m); queue = λ l. omega (arith, q, l) }

-- so is a row that leaves the sizes of the memory and of the static queue unchanged
pub grows_same : (fs gs : List Normal) (c d : Context) → Keeps fs gs → HoldsForms fs c →
    updates (context_in gs d).memory ≡ updates (context_in gs c).memory → length (context_in gs d).queue
    ≡ length (context_in gs c).queue → Grows fs gs c d
grows_same fs gs c d keeps held a b =
    let g = grows_none fs gs c keeps held in
    record { memory = omega (arith, g.memory, a); queue = λ l. let h = g.queue l in omega (arith, h, b) }

-- returning the refusal of a failing premise meets the contract of a row
pub does_exit : (r : Result Next RuleError) (e : RuleError) (x y : Outcome) (o : Object) (fs gs : List Normal)
    (c : Context) → IsErrAnd r (λ f. f ≡ e) → x ≡ y → IsRefusal y e → Keeps fs gs → HoldsForms fs c → NamesTypes o c →
    Does x o fs gs c c r
does_exit (Ok n) e x y o fs gs c h s k keeps held types = absurd h
does_exit (Err f) e x y o fs gs c h s k keeps held types = record {
  row = subst (λ (g : RuleError). IsRefusal x g) (sym h) (refused x y e s k);
  before = refl;
  kept = keeps;
  held = forms_kept fs gs c keeps held;
  types = types;
  grows = grows_none fs gs c keeps held;
}

-- so does returning because memory ran out
pub does_stop : (r : Result Next RuleError) (x : Outcome) (o : Object) (fs gs : List Normal) (c : Context) →
    IsErrAnd r (λ f. f ≡ NoMemory) → Keeps fs gs → HoldsForms fs c → NamesTypes o c → Does x o fs gs c c r
does_stop (Ok n) x o fs gs c h keeps held types = absurd h
does_stop (Err f) x o fs gs c h keeps held types = record {
  row = subst (λ (g : RuleError). IsRefusal x g) (sym h) tt;
  before = refl;
  kept = keeps;
  held = forms_kept fs gs c keeps held;
  types = types;
  grows = grows_none fs gs c keeps held;
}

-- so does a row that continues with this context
pub does_go : (x : Outcome) (o : Object) (fs gs : List Normal) (c d : Context) → x ≡ Goes (context_in gs d) →
    Keeps fs gs → HoldsForms gs d → NamesTypes o d → Grows fs gs c d → Does x o fs gs c d (Ok On)
does_go x o fs gs c d h keeps held types g = record {
  row = h;
  before = tt;
  kept = keeps;
  held = held;
  types = types;
  grows = g;
}

-- so does a row that ends the block
pub does_end : (x : Outcome) (o : Object) (fs gs : List Normal) (c : Context) → x ≡ Ends → Keeps fs gs →
    HoldsForms fs c → NamesTypes o c → Does x o fs gs c c (Ok End)
does_end x o fs gs c h keeps held types = record {
  row = h;
  before = tt;
  kept = keeps;
  held = forms_kept fs gs c keeps held;
  types = types;
  grows = grows_none fs gs c keeps held;
}

-- so does a row that notes what is known of a register
pub does_note : (x : Outcome) (o : Object) (fs gs : List Normal) (c d : Context) (rd : ℕ) (k : RegForm) (p : Polynomial)
    → x ≡ Goes (with_type rd (record { colour = k.colour; basic = k.basic; form = p }) (context_in fs c)) →
    held gs k.form ≡ Some (integer_form p) → IsBase (length o.types) k.basic.base
    → Keeps fs gs → HoldsForms fs c → NamesTypes o c
    → ((hs : List Normal) → context_in hs d ≡ with_type rd (typed_in hs k) (context_in hs c)) →
    ((hs : List Normal) → HoldsForms hs c → IsInteger hs k.form → HoldsForms hs d) →
    ((q : Object) → NamesTypes q c → IsBase (length q.types) k.basic.base → NamesTypes q d)
    → Does x o fs gs c d (Ok On)
does_note x o fs gs c d rd k p goes made base keeps held types noted still named =
    let t : typed_in gs k ≡ record { colour = k.colour; basic = k.basic; form = p } =
    (let e = polynomial_found gs k.form p made in λ i. record { colour = k.colour; basic = k.basic; form = e i }) in
    let e : context_in gs d ≡ with_type rd (record { colour = k.colour; basic = k.basic; form = p }) (context_in fs c) =
    noted gs ∙ ap (λ (y : Typed). with_type rd y (context_in gs c)) t
    ∙ ap (with_type rd (record { colour = k.colour; basic = k.basic; form = p })) (context_stays fs gs c keeps held)
    in
    does_go x o fs gs c d (goes ∙ ap Goes (sym e)) keeps
    (still gs (forms_kept fs gs c keeps held) (integer_from gs k.form p made)) (named o types base)
    (grows_same fs gs c d keeps held (ap (λ (y : Defined). updates y.memory) (noted gs))
    (ap (λ (y : Defined). length y.queue) (noted gs)))

-- THE STATIC QUEUE

-- the queue is empty exactly when its length is 0
pub empty_is : (q : List FormPair) (n : ℕ) → length q ≡ n → eqb n 0 ≡ is_empty q
unfolding is_empty
empty_is [] n e = rw (sym e) refl
empty_is (p ∷ q) n e = rw (sym e) (apart (suc (length q)) 0 (λ s. absurd (omega arith)))

-- a blue store meets the contract of a row
pub does_commit : (x : Outcome) (o : Object) (fs gs : List Normal) (c d : Context) (m : Form) (u : Updates)
    → x ≡ Goes (record (context_in fs c) { queue = drop 1 (context_in fs c).queue; memory = u }) → Found gs m
    ≡ Some (memory_form u) → updates u ≤ updates (context_in fs c).memory + 1 → Keeps fs gs → HoldsForms fs c →
    NamesTypes o c
    → context_in gs d ≡ record (context_in gs c) {
      queue = drop 1 (context_in gs c).queue;
      memory = updates_held gs m;
    } → (HoldsForms gs c → IsMemory gs m → HoldsForms gs d) →
    (NamesTypes o c → NamesTypes o d)
    → Does x o fs gs c d (Ok On)
does_commit x o fs gs c d m u goes made more keeps held types committed still named =
    let e : context_in gs d ≡ record (context_in fs c) { queue = drop 1 (context_in fs c).queue; memory = u } =
    committed
    ∙ ap (λ (k : Defined). record k { queue = drop 1 k.queue; memory = updates_held gs m })
    (context_stays fs gs c keeps held)
    ∙ ap (λ (v : Updates). record (context_in fs c) { queue = drop 1 (context_in fs c).queue; memory = v })
    (updates_found gs m u made) in
    does_go x o fs gs c d (goes ∙ ap Goes (sym e)) keeps
    (still (forms_kept fs gs c keeps held) (memory_from gs m u made)) (named types)
    (record {
      memory = (let w = ap (λ (k : Defined). updates k.memory) e in omega (arith, w, more));
      queue = λ l. (let w = ap (λ (k : Defined). length k.queue) e in let z = length-drop 1 (context_in fs c).queue in
          omega (arith, w, z, l));
    })

-- equal instructions have the same row
pub row_of : (o : Object) (k : Defined) (gs : List Normal) (d : Context) (r : Result Next RuleError) (i j : Instr) → i
    ≡ j → Answers (row o k j) gs d r → Answers (row o k i) gs d r
row_of o k gs d r i j e h = subst (λ (x : Instr). Answers (row o k x) gs d r) (sym e) h

-- equal instructions have the same bound on their steps
pub steps_of : (o : Object) (k : Defined) (i j : Instr) (s t : ℕ) → i ≡ j → t ≤ s + rule_cost o k j →
    t ≤ s + rule_cost o k i
steps_of o k i j s t e h = subst (λ (x : Instr). t ≤ s + rule_cost o k x) (sym e) h

-- one more pair is within the bounds of `Grows` if there was room
pub grows_pair : (fs : List Normal) (c d : Context) (p : FormPair) (n : ℕ) → context_in fs d
    ≡ record (context_in fs c) { queue = (context_in fs c).queue ++ p ∷ [] } → length (context_in fs c).queue ≡ n →
    ltb n 8 ≡ true → Grows fs fs c d
grows_pair fs c d p n e l h =
    let m = ap (λ (k : Defined). updates k.memory) e in
    let q = ap (λ (k : Defined). length k.queue) e in
    let z = length_push (context_in fs c).queue p in
    let b = ltb-true n 8 h in
    record { memory = omega (arith, m); queue = λ _. omega (arith, q, z, b, l) }

-- OVER MORE FORMS

-- a context has the same row after the list of forms has grown
pub row_on : (o : Object) (fs gs hs : List Normal) (c d : Context) (i : Instr) (r : Result Next RuleError) →
    Keeps fs gs → HoldsForms fs c → Answers (row o (context_in gs c) i) hs d r →
    Answers (row o (context_in fs c) i) hs d r
row_on o fs gs hs c d i r k h a = subst (λ (x : Defined). Answers (row o x i) hs d r) (context_stays fs gs c k h) a

-- `Grows` from a list of forms gs also holds from a shorter list fs
pub grows_on : (fs gs hs : List Normal) (c d : Context) → Keeps fs gs → HoldsForms fs c → Grows gs hs c d →
    Grows fs hs c d
grows_on fs gs hs c d k h g =
    let e = context_stays fs gs c k h in
    let m = ap (λ (x : Defined). updates x.memory) e in
    let q = ap (λ (x : Defined). length x.queue) e in
    record { memory = omega (arith, m, g.memory); queue = λ l. g.queue (omega (arith, q, l)) }

-- a bound on the steps of the row is still a bound after the list of forms has grown
pub steps_on : (o : Object) (fs gs : List Normal) (c : Context) (i : Instr) (s t : ℕ) → Keeps fs gs → HoldsForms fs c →
    t ≤ s + rule_cost o (context_in gs c) i → t ≤ s + rule_cost o (context_in fs c) i
steps_on o fs gs c i s t k h l = subst (λ (x : Defined). t ≤ s + rule_cost o x i) (context_stays fs gs c k h) l
