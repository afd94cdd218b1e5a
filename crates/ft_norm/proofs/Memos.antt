-- What a memo remembers while forms are made.
use Rattle.std.proofs.Common.{◌≡◌, ◌+◌, ◌≤◌, ℕ, true, false, List, None, Some, Result, Ok, Err, nat_eq, slice_get, sym}
use Rattle.std.proofs.Common.{ap, ◌∙◌, Bool, Option, ◌<◌, cond, filter, get_or, length, nat_lt, refl, subst}
use Rattle.std.proofs.lemmas.Bool.{ltb-true}
use Rattle.std.proofs.lemmas.Map.Entries.{lookup-filter-values, option_filter}
use Rattle.std.proofs.lemmas.Option.{slice_get-get_or}
use Rattle.std.specs.Map.{lookup}
use Rattle.std.specs.Cmp.{nat_eq_equiv}
use Rattle.std.specs.Prelude.{IfOk}
use Rattle.indexmap.specs.IndexMap.{IsUnchanged, IsUnique, get}
use Rattle.ft_static.specs.Form.{Form as Normal, Polynomial, Updates, integer_form, nought, updates}
use Rattle.ft_static.specs.NormalForm.{form_under}
use Rattle.ft_static.specs.NodeRules.{AreNodes}
use Rattle.ft_static.specs.NodeParts.{is_memory}
use Rattle.ft_static.specs.NodeTree.{tree_at}
use Rattle.ft_static.specs.declared.node.Node.{Node}
use Rattle.ft_norm.specs.declared.form.Form.{Form}
use Rattle.ft_norm.specs.declared.substitution.Memo.{Memo}
use Rattle.ft_norm.specs.Held.{AreIntegers, IsInteger, IsMemory, Keeps, held, polynomials, updates_held}
use Rattle.ft_norm.specs.Memos.{IsFresh, Remembers}
use Rattle.ft_norm.proofs.Made.{Stands, held_count, integer_tree, memory_tree}
use Rattle.ft_norm.proofs.HeldForms.{integer_from, memory_from, polynomials_kept}

-- what a fresh memo remembers is right, since it remembers nothing
pub remembers_none : (ns : List Node) (fs : List Normal) (ints : List Form) (memory : Form) (m : Memo) → IsFresh m →
    Remembers ns fs ints memory m
remembers_none ns fs ints memory m n = record { each = λ k f e. let z : Some f ≡ None = sym e ∙ n k in cc }

-- what is remembered stays right if the list of forms grows
pub remembers_kept : (ns : List Node) (fs gs : List Normal) (ints : List Form) (memory : Form) (m : Memo) →
    Keeps fs gs → AreIntegers fs ints → IsMemory fs memory → Remembers ns fs ints memory m →
    Remembers ns gs ints memory m
remembers_kept ns fs gs ints memory m k i w r = record {
  each = λ n f e.
      let p = polynomials_kept fs gs ints k i in
      let u = k.updates_stay memory w in
      k.forms_stay f _ (r.each n f e)
      ∙ ap (λ (ps : List Polynomial). Some (form_under ps (updates_held fs memory) (tree_at ns n))) (sym p)
      ∙ ap (λ (v : Updates). Some (form_under (polynomials gs ints) v (tree_at ns n))) (sym u);
}

-- likewise if the memo's entries do not change
pub remembers_same : (ns : List Node) (fs : List Normal) (ints : List Form) (memory : Form) (m l : Memo) →
    IsUnchanged m.made l.made → Remembers ns fs ints memory m → Remembers ns fs ints memory l
remembers_same ns fs ints memory m l u r = record { each = λ k f e. r.each k f (rw u at e) }

-- each form that a memo remembers is that of its node's tree
pub stands_from : (ns : List Node) (fs : List Normal) (ints : List Form) (memory : Form) (m : Memo) (h : AreNodes ns) →
    Remembers ns fs ints memory m → Stands (polynomials fs ints) (updates_held fs memory) ns h fs (get nat_eq m.made)
stands_from ns fs ints memory m h r = record { each = r.each }

-- conversely, if each form in a memo is that of its node's tree, what the memo remembers is right, even after the list
-- has grown
pub remembered : (ns : List Node) (fs gs : List Normal) (ints : List Form) (memory : Form) (m : Memo) (h : AreNodes ns)
    → Keeps fs gs → AreIntegers fs ints → IsMemory fs memory →
    Stands (polynomials fs ints) (updates_held fs memory) ns h gs (get nat_eq m.made) → Remembers ns gs ints memory m
remembered ns fs gs ints memory m h k i w s = record {
  each = λ n f e.
      let p = polynomials_kept fs gs ints k i in
      let u = k.updates_stay memory w in
      s.each n f e
      ∙ ap (λ (ps : List Polynomial). Some (form_under ps (updates_held fs memory) (tree_at ns n))) (sym p)
      ∙ ap (λ (v : Updates). Some (form_under (polynomials gs ints) v (tree_at ns n))) (sym u);
}

-- what is known of the form of a node's tree
pub record Tells (ns : List Node) (fs gs : List Normal) (ints : List Form) (memory : Form) (n : ℕ) (f : Form) : Type 0
  where
    pub form : held gs f ≡ Some (form_under (polynomials fs ints) (updates_held fs memory) (tree_at ns n))
    pub of_integer : (x : Node) → slice_get ns n ≡ Some x → is_memory x.shape ≡ false → IsInteger gs f
    pub of_memory : (x : Node) → slice_get ns n ≡ Some x → is_memory x.shape ≡ true → IsMemory gs f
    pub count : updates (updates_held gs f) ≤ updates (updates_held fs memory) + n

-- the form of node n's tree is of the node's sort, and has at most n updates more than the memory variable
pub told : (ns : List Node) (h : AreNodes ns) (fs gs : List Normal) (ints : List Form) (memory : Form) (n : ℕ)
    (f : Form) (x : Node) → slice_get ns n ≡ Some x → held gs f
    ≡ Some (form_under (polynomials fs ints) (updates_held fs memory) (tree_at ns n)) → Tells ns fs gs ints memory n f
told ns h fs gs ints memory n f x e q =
    let ps = polynomials fs ints in
    let u = updates_held fs memory in
    record {
      form = q;
      of_integer = λ y a s. integer_from gs f _ (q ∙ ap Some (integer_tree ps u ns h n y a s));
      of_memory = λ y a s. memory_from gs f _ (q ∙ ap Some (memory_tree ps u ns h n y a s));
      count = held_count ps u ns h gs f n x e q;
    }

-- likewise for a call's result
pub told_answer : {E : Type 0} (ns : List Node) (h : AreNodes ns) (fs gs : List Normal) (ints : List Form)
    (memory : Form) (n : ℕ) (r : Result Form E) (x : Node) → slice_get ns n ≡ Some x →
    IfOk r (λ f. held gs f ≡ Some (form_under (polynomials fs ints) (updates_held fs memory) (tree_at ns n))) →
    IfOk r (λ f. Tells ns fs gs ints memory n f)
told_answer ns h fs gs ints memory n (Ok f) x e q = told ns h fs gs ints memory n f x e q
told_answer ns h fs gs ints memory n (Err d) x e q = tt

-- if a call returns a form, it is of the node's sort, and its number of updates is within the bound
pub integer_told : {E : Type 0} (ns : List Node) (fs gs : List Normal) (ints : List Form) (memory : Form) (n : ℕ)
    (r : Result Form E) → IfOk r (λ f. Tells ns fs gs ints memory n f) → (x : Node) → slice_get ns n ≡ Some x →
    is_memory x.shape ≡ false → IfOk r (λ f. IsInteger gs f)
integer_told ns fs gs ints memory n (Ok f) t = t.of_integer
integer_told ns fs gs ints memory n (Err d) t = λ x e s. tt

pub memory_told : {E : Type 0} (ns : List Node) (fs gs : List Normal) (ints : List Form) (memory : Form) (n : ℕ)
    (r : Result Form E) → IfOk r (λ f. Tells ns fs gs ints memory n f) → (x : Node) → slice_get ns n ≡ Some x →
    is_memory x.shape ≡ true → IfOk r (λ f. IsMemory gs f)
memory_told ns fs gs ints memory n (Ok f) t = t.of_memory
memory_told ns fs gs ints memory n (Err d) t = λ x e s. tt

pub count_told : {E : Type 0} (ns : List Node) (fs gs : List Normal) (ints : List Form) (memory : Form) (n : ℕ)
    (r : Result Form E) → IfOk r (λ f. Tells ns fs gs ints memory n f) →
    IfOk r (λ f. updates (updates_held gs f) ≤ updates (updates_held fs memory) + n)
count_told ns fs gs ints memory n (Ok f) t = t.count
count_told ns fs gs ints memory n (Err d) t = tt

-- a value that passes the filter is there, and passes the test
filtered : {X : Type 0} (p : X → Bool) (o : Option X) (x : X) → option_filter p o ≡ Some x → (o ≡ Some x) × (p x ≡ true)
filtered p None x h = cc
filtered p (Some y) x h = go (p y) refl h
  where
    go : (b : Bool) → p y ≡ b → cond b (Some y) None ≡ Some x → (Some y ≡ Some x) × (p x ≡ true)
    go true e h = (h, subst (λ z. p z ≡ true) (let q : y ≡ x = cc in q) e)
    go false e h = cc

-- if a memo is left with the forms among the first n, what it remembers is right over the first n
pub remembers_first : (ns : List Node) (fs gs : List Normal) (ints : List Form) (memory : Form) (n : ℕ) (m l : Memo) →
    IsUnique nat_eq m.made → l.made.entries ≡ filter (λ e. nat_lt e.1.0 n) m.made.entries →
    Remembers ns gs ints memory m → length fs ≡ n → Keeps fs gs → AreIntegers fs ints → IsMemory fs memory →
    Remembers ns fs ints memory l
remembers_first ns fs gs ints memory n m l u e r c k i w = record {
  each = λ q f h.
      let s : option_filter (λ (x : Form). nat_lt x.0 n) (get nat_eq m.made q) ≡ Some f =
      sym (ap (lookup (nat_eq q)) e
      ∙ lookup-filter-values nat_eq_equiv (λ (x : Form). nat_lt x.0 n) q m.made.entries u) ∙ h in
      let t = filtered (λ (x : Form). nat_lt x.0 n) (get nat_eq m.made q) f s in
      let b : f.0 < length fs = rw c (ltb-true f.0 n t.1) in
      let p = polynomials_kept fs gs ints k i in
      let v = k.updates_stay memory w in
      let x = get_or fs f.0 (integer_form nought) in
      let at : slice_get fs f.0 ≡ Some x = slice_get-get_or fs f.0 (integer_form nought) b in
      at ∙ sym (k.forms_stay f x at) ∙ r.each q f t.0
      ∙ ap (λ (ps : List Polynomial). Some (form_under ps (updates_held gs memory) (tree_at ns q))) p
      ∙ ap (λ (y : Updates). Some (form_under (polynomials fs ints) y (tree_at ns q))) v;
}
