-- An object is accepted exactly when no part of it is refused.
use Rattle.std.proofs.Common.{◌≡◌, ℕ, zero, suc, ◌+◌, Bool, true, false, List, [], ◌∷◌, Option, Some, None, refl, sym}
use Rattle.std.proofs.Common.{ap, ◌∙◌, subst, arith, eqb-true, eq-eqb, slice_get}
use Rattle.std.specs.Prelude.{Decides, ◌↔◌, if◌then◌else◌}
use Rattle.std.specs.Option.{option_or, option_map}
use Rattle.std.proofs.lemmas.Bool.{and_parts, and_from}
use Rattle.ft_isa.specs.declared.instr.Instr.{Instr}
use Rattle.ft_static.specs.declared.node.Node.{Node}
use Rattle.ft_static.specs.declared.node.Shape.{Shape}
use Rattle.ft_static.specs.declared.node.Shape.TheVariants as shape
use Rattle.ft_static.specs.NodeTree.{HasShape}
use Rattle.ft_types.specs.declared.object.Object.{Object}
use Rattle.ft_types.specs.declared.object.Cell.{Cell}
use Rattle.ft_types.specs.Objects.{reg_rows, queue_rows, ints_of, memory_of, block_type, block_instrs}
use Rattle.ft_typing.specs.TypedWord.{has_type}
use Rattle.ft_typing.specs.Context.{Context, start_context}
use Rattle.ft_typing.specs.Premise.{Premise}
use Rattle.ft_typing.specs.TypingRow.{row}
use Rattle.ft_typing.specs.RowWords.{Outcome, Goes, Ends, Fails}
use Rattle.ft_typing.specs.Accepted.{Applies, last_row, next_row, IsEntryType, IsAccepted, Refusal, EntryType, CellType}
use Rattle.ft_typing.specs.Accepted.{Refused, is_variable, is_memory_variable, has_none, is_entry_type, after_row, walk}
use Rattle.ft_typing.specs.Accepted.{first_refusal, cell_refusal, block_refusal, refusal}
use Rattle.ft_typing.proofs.TypedWords.{has_type_decides}

-- THE ENTRY'S CODE TYPE

has_none_is : {X : Type 0} (xs : List X) → Decides (has_none xs) (xs ≡ [])
has_none_is [] = (λ e. refl, λ e. refl)
has_none_is (x ∷ xs) = (λ e. cc, λ e. cc)

is_variable_is : (x : Shape) → Decides (is_variable x) (x ≡ shape.Memory)
is_variable_is shape.Memory = (λ e. refl, λ e. refl)
is_variable_is x = (λ e. cc, λ e. cc)

is_memory_variable_is : (o : Object) (n : ℕ) (x : Option Node) → slice_get o.nodes n ≡ x →
    Decides (is_memory_variable x) (HasShape o.nodes n shape.Memory)
is_memory_variable_is o n None f = (λ e. cc, λ h. let g = h.found in cc)
is_memory_variable_is o n (Some x) f = (
  λ e. record { node = x; found = f; shape = (is_variable_is x.shape).0 e },
  λ h. let g = h.found in let same : h.node ≡ x = cc in
      (is_variable_is x.shape).1 (ap (λ (y : Node). y.shape) (sym same) ∙ h.shape),
)

-- `is_entry_type` decides whether a run may begin with a code type
pub is_entry_type_decides : (o : Object) (t : ℕ) → Decides (is_entry_type o t) (IsEntryType o t)
unfolding is_entry_type
is_entry_type_decides o t = (
  λ e.
      let p = and_parts _ _ e in
      let q = and_parts _ _ p.0 in
      let r = and_parts _ _ q.0 in
      record {
        ints = eqb-true (ints_of o t) 0 r.0;
        regs = (has_none_is (reg_rows o t)).0 r.1;
        queue = (has_none_is (queue_rows o t)).0 q.1;
        memory = (is_memory_variable_is o (memory_of o t) _ refl).0 p.1;
      },
  λ h. and_from _ _ (and_from _ _ (and_from _ _ (eq-eqb (ints_of o t) 0 h.ints) ((has_none_is (reg_rows o t)).1 h.regs))
      ((has_none_is (queue_rows o t)).1 h.queue)) ((is_memory_variable_is o (memory_of o t) _ refl).1 h.memory),
)

-- THE WALK OF A BLOCK

-- if the walk refuses neither this row nor those after it, all of them apply
walked : (o : Object) (c : Context) (k : ℕ) (i : Instr) (is : List Instr) (x : Outcome) → row o c i ≡ x →
    ((d : Context) → walk o d (suc k) is ≡ None → Applies o d is) → after_row x k is (λ d. walk o d (suc k) is) ≡ None →
    Applies o c (i ∷ is)
unfolding after_row
walked o c k i is (Fails p) e h w = cc
walked o c k i [] (Goes d) e h w = cc
walked o c k i (j ∷ js) (Goes d) e h w = next_row d e (h d w)
walked o c k i [] Ends e h w = last_row e
walked o c k i (j ∷ js) Ends e h w = cc

-- if the walk refuses nothing, the rows apply
applies_walked : (o : Object) (c : Context) (k : ℕ) (is : List Instr) → walk o c k is ≡ None → Applies o c is
unfolding walk
applies_walked o c k [] w = cc
applies_walked o c k (i ∷ is) w = walked o c k i is (row o c i) refl (λ d. applies_walked o d (suc k) is) w

-- if a row goes on and the walk of the rest refuses nothing, the walk from this row on refuses nothing
after_goes : (o : Object) (d : Context) (k : ℕ) (is : List Instr) (x : Outcome) → x ≡ Goes d → Applies o d is →
    walk o d (suc k) is ≡ None → after_row x k is (λ d. walk o d (suc k) is) ≡ None
unfolding after_row
after_goes o d k [] x e a w = elim a [ ]
after_goes o d k (i ∷ is) x e a w = rw e w

-- if the rows apply, the walk refuses nothing
walk_applied : (o : Object) (c : Context) (k : ℕ) (is : List Instr) → Applies o c is → walk o c k is ≡ None
unfolding walk after_row
walk_applied o c k [] a = elim a [ ]
walk_applied o c k (i ∷ []) (last_row e) = rw e refl
walk_applied o c k (i ∷ is) (next_row d e a) = after_goes o d k is (row o c i) e a (walk_applied o d (suc k) is a)

-- FIRST REFUSALS

-- if `option_or` of two options has no value, neither of them has one
pub or_parts : {A : Type 0} (x y : Option A) → option_or x y ≡ None → (x ≡ None) × (y ≡ None)
or_parts None y e = (refl, e)
or_parts (Some a) y e = cc

-- if there is no first refusal, no element is refused
first_none : {X : Type 0} (refuse : ℕ → X → Option Refusal) (k : ℕ) (xs : List X) → first_refusal refuse k xs ≡ None →
    (n : ℕ) (x : X) → slice_get xs n ≡ Some x → refuse (k + n) x ≡ None
unfolding first_refusal
first_none refuse k [] e n x f = cc
first_none refuse k (y ∷ ys) e zero x f =
    let p = or_parts (refuse k y) (first_refusal refuse (suc k) ys) e in
    let same : y ≡ x = cc in
    let here : k + 0 ≡ k = omega arith in
    rw here (subst (λ z. refuse k z ≡ None) same p.0)
first_none refuse k (y ∷ ys) e (suc n) x f =
    let p = or_parts (refuse k y) (first_refusal refuse (suc k) ys) e in
    let here : k + suc n ≡ suc k + n = omega arith in
    rw here (first_none refuse (suc k) ys p.1 n x f)

-- if no element is refused, there is no first refusal
none_first : {X : Type 0} (refuse : ℕ → X → Option Refusal) (k : ℕ) (xs : List X) →
    ((n : ℕ) (x : X) → slice_get xs n ≡ Some x → refuse (k + n) x ≡ None) → first_refusal refuse k xs ≡ None
unfolding first_refusal
none_first refuse k [] h = refl
none_first refuse k (y ∷ ys) h =
    let here : k + 0 ≡ k = omega arith in
    let first : refuse k y ≡ None = subst (λ z. refuse z y ≡ None) here (h 0 y refl) in
    rw first (none_first refuse (suc k) ys (λ n x f. let there : k + suc n ≡ suc k + n = omega arith in
    subst (λ z. refuse z x ≡ None) there (h (suc n) x f)))

-- THE WHOLE OBJECT

-- a cell causes no refusal exactly when its initial word has its basic type
cell_typed : (o : Object) (k : ℕ) (x : Cell) → Decides (has_type o x.init x.basic) (cell_refusal o k x ≡ None)
cell_typed o k x = (λ e. rw e refl, λ e. by_test (has_type o x.init x.basic) e)
  where
    by_test : (b : Bool) → (if b then None else Some (CellType k)) ≡ None → b ≡ true
    by_test true e = refl
    by_test false e = cc

-- a block causes no refusal exactly when its walk refuses nothing
walk_of_block : (o : Object) (b : ℕ) (w : Option (ℕ × Premise)) → option_map (λ r. Refused b r.0 r.1) w ≡ None ↔ w
    ≡ None
walk_of_block o b None = (λ e. refl, λ e. refl)
walk_of_block o b (Some r) = (λ e. cc, λ e. cc)

-- if nothing is refused, the entry's code type passes its test and nothing after it is refused
after_entry : (o : Object) (b : Bool) (r : Option Refusal) → (if b then r else Some EntryType) ≡ None → (b ≡ true)
    × (r ≡ None)
after_entry o true r e = (refl, e)
after_entry o false r e = cc

-- an object is accepted exactly when it has no refusal
pub accepted_is_unrefused : (o : Object) → IsAccepted o ↔ refusal o ≡ None
accepted_is_unrefused o = (
  λ h.
      let cells : first_refusal (cell_refusal o) 0 o.cells
      ≡ None = none_first (cell_refusal o) 0 o.cells (λ n x f.
      (cell_typed o (0 + n) x).0 ((has_type_decides o x.init x.basic).1 (h.cells n x f))) in
      let blocks : first_refusal (block_refusal o) 0 o.blocks ≡ None =
      none_first (block_refusal o) 0 o.blocks (λ n x f. let here : 0 + n ≡ n = omega arith in
      rw here ((walk_of_block o n _).1 (walk_applied o (start_context o x.code_type) 0 (block_instrs o n)
      (h.blocks n x f)))) in
      rw ((is_entry_type_decides o (block_type o o.entry)).1 h.entry, cells, blocks) refl,
  λ e.
      let p = after_entry o _ _ e in
      let q = or_parts _ _ p.1 in
      record {
        entry = (is_entry_type_decides o (block_type o o.entry)).0 p.0;
        cells = λ k x f. (has_type_decides o x.init x.basic).0
            ((cell_typed o (0 + k) x).1 (first_none (cell_refusal o) 0 o.cells q.0 k x f));
        blocks = λ b x f. let here : 0 + b ≡ b = omega arith in
            applies_walked o (start_context o x.code_type) 0 (block_instrs o b)
            ((walk_of_block o b _).0 (subst (λ z. block_refusal o z x
            ≡ None) here (first_none (block_refusal o) 0 o.blocks q.1 b x f)));
      },
)
