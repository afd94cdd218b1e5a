-- The code types of a compiled object state what its blocks need.
use Rattle.std.proofs.Common.{◌≡◌, ℕ, zero, suc, ◌+◌, ◌<◌, ◌≤◌, Bool, true, false, ◌==◌, ◌&&◌, List, [], ◌∷◌, ◌++◌}
use Rattle.std.proofs.Common.{length, ◌⊎◌, inl, inr, Some, refl, sym, ap, ◌∙◌, subst, arith, take, map, eq-eqb}
use Rattle.std.specs.Prelude.{slice_index, slice_index_or, nat_le}
use Rattle.std.specs.List.{list_all, range_with_len}
use Rattle.std.specs.Option.{option_map, unwrap_or}
use Rattle.std.proofs.lemmas.Bool.{and_from, le-leb}
use Rattle.std.proofs.lemmas.List.{length-map, length-take-le, get_or-take, get_or_default}
use Rattle.ft_isa.specs.declared.colour.Colour.TheVariants.{Green, Blue}
use Rattle.ft_isa.specs.declared.instr.Subst.{Subst}
use Rattle.ft_static.specs.declared.node.Shape.TheVariants as shape
use Rattle.ft_static.specs.Form.{Updates, nought, same_polynomial, same_updates}
use Rattle.ft_static.specs.NodeRules.{MayName, AreNodes}
use Rattle.ft_static.proofs.Under.{get_or-map}
use Rattle.ft_static.proofs.Equal.{equal_updates, same_itself}
use Rattle.ft_types.specs.declared.object.Object.{Object}
use Rattle.ft_types.specs.declared.object.RegType.{RegType}
use Rattle.ft_types.specs.Objects.{reg_rows, queue_rows, ints_of, memory_of, scope_of, scope_of_node}
use Rattle.ft_typing.specs.Context.{Context, typed, rows_of, replacement, integer_form_of, memory_form_of}
use Rattle.ft_typing.specs.Context.{integer_form_after, memory_form_after, FormPair}
use Rattle.ft_isa.specs.BasicTypes.{int}
use Rattle.ft_typing.specs.TypedWord.{is_seen_as, same_basic}
use Rattle.ft_typing.specs.RowWords.{Outcome, same_colour, need, is_like, are_like, is_queue_like, is_annotated, leads}
use Rattle.ft_lower.specs.Well.{Known, KeepsVariables}
use Rattle.ft_dup.specs.Images.{green, blue}
use Rattle.ft_compile.specs.Emitted.{variable_node, at_first, green_row, blue_row}
use Rattle.ft_compile.specs.Noted.{node}
use Rattle.ft_compile.proofs.Lists.{Starts, get_starts}
use Rattle.ft_compile.proofs.Named.{IsNamed}
use Rattle.ft_compile.proofs.Walked.{variable_there}
use Rattle.ft_compile.proofs.Forms.{integer_after, memory_after}
use Rattle.ft_compile.proofs.PremiseRows.{ty}

-- THE CODE TYPES

-- what an emitted object has: the two code types, and the first nodes
pub record HasTypes (o : Object) (vars : ℕ) : Type 0 where
  pub few : vars ≤ 32
  pub entry_ints : ints_of o 0 ≡ 0
  pub entry_rows : reg_rows o 0 ≡ []
  pub entry_queue : queue_rows o 0 ≡ []
  pub entry_memory : memory_of o 0 ≡ 0
  pub ints : ints_of o 1 ≡ vars
  pub rows : reg_rows o 1 ≡ map green_row (range_with_len 0 vars) ++ map blue_row (range_with_len 0 vars)
  pub queue : queue_rows o 1 ≡ []
  pub memory : memory_of o 1 ≡ 0
  pub nodes : AreNodes o.nodes
  pub first_nodes : Starts (at_first vars).nodes o.nodes

-- each of these rows is the green or blue row of one of n variables
abbrev pub AreRows : ℕ → List RegType → Type 0
AreRows n [] = Unit {0}
AreRows n (x ∷ xs) = ((i : ℕ) × (i < n) × ((x ≡ green_row i) ⊎ (x ≡ blue_row i))) × AreRows n xs

-- the blue rows are such rows
blue_rows : (n a k : ℕ) → a + k ≤ n → AreRows n (map blue_row (range_with_len a k))
blue_rows n a zero h = tt
blue_rows n a (suc k) h = ((a, omega (arith, h), inr refl), blue_rows n (a + 1) k (omega (arith, h)))

-- so are green rows followed by such rows
green_rows : (n a k : ℕ) (rest : List RegType) → a + k ≤ n → AreRows n rest →
    AreRows n (map green_row (range_with_len a k) ++ rest)
green_rows n a zero rest h r = r
green_rows n a (suc k) rest h r = ((a, omega (arith, h), inl refl), green_rows n (a + 1) k rest (omega (arith, h)) r)

-- so are the rows of code type 1
pub type_rows : (n : ℕ) → AreRows n (map green_row (range_with_len 0 n) ++ map blue_row (range_with_len 0 n))
type_rows n = green_rows n 0 n (map blue_row (range_with_len 0 n)) (omega arith) (blue_rows n 0 n (omega arith))

-- a list passes a test if each of its elements does
all_pass : (p : ℕ → Bool) (xs : List ℕ) → ((k : ℕ) → k < length xs → p (slice_index xs k) ≡ true) → list_all p xs ≡ true
all_pass p [] h = refl
all_pass p (x ∷ xs) h = and_from (p x) (list_all p xs) (h 0 (omega arith))
    (all_pass p xs (λ k lt. h (suc k) (omega arith)))

-- TRANSFERS TO CODE TYPE 1

module _ (o : Object) (vars : ℕ) (T : HasTypes o vars) (scope : ℕ) (pairs : List ℕ) (memory : ℕ) (u : Subst) where
  -- the substitution has the nodes of the variables, in order, and of the memory
  pub record PutsThese : Type 0 where
    pub rows : rows_of o u ≡ take vars pairs
    pub memory_is : u.memory ≡ memory
    pub many : length pairs ≡ 32

  -- both registers of each variable's pair have the form of the variable's node
  abbrev HasVariables : Context → Type 0
  HasVariables c = (q : ℕ) → q < vars → (typed c (green q).number
      ≡ Some (ty Green int (integer_form_of o (slice_index pairs q))))
      × (typed c (blue q).number ≡ Some (ty Blue int (integer_form_of o (slice_index pairs q))))

  -- the forms that are substituted are those of the variables' nodes
  put_rows : PutsThese → (replacement o u).integers ≡ map (integer_form_of o) (take vars pairs)
  unfolding replacement
  put_rows P = ap (map (integer_form_of o)) P.rows

  -- the form that is substituted for the memory is that of its node
  put_memory : PutsThese → (replacement o u).memory ≡ memory_form_of o memory
  unfolding replacement
  put_memory P = ap (memory_form_of o) P.memory_is

  -- after the substitution, a variable of the target has the form that is substituted for it
  put_variable : PutsThese → (q : ℕ) → q < vars → integer_form_after o (replacement o u) (1 + q)
      ≡ integer_form_of o (slice_index pairs q)
  put_variable P q lt =
      let few = T.few in
      let many = P.many in
      let l : length (take vars pairs) ≡ vars = length-take-le vars pairs (omega arith) in
      let f = integer_form_of o in
      let z : 1 + q ≡ suc q = omega arith in
      ap (integer_form_after o (replacement o u)) z
      ∙ integer_after o T.nodes (suc q) vars (shape.Var q) (replacement o u)
      (get_starts (at_first vars).nodes o.nodes (suc q) (variable_node vars q) T.first_nodes
      (variable_there vars q lt))
      ∙ ap (λ ps. slice_index_or ps q nought) (put_rows P)
      ∙ get_or_default (map f (take vars pairs)) q nought (f 0) (let m = length-map (take vars pairs) f in omega arith)
      ∙ get_or-map f (take vars pairs) q 0
      ∙ ap f (get_or-take vars pairs q 0 lt)

  -- the register of a row meets the row's requirements
  row_like : PutsThese → (c : Context) (q : ℕ) (x : RegType) → q < vars → HasVariables c →
      (x ≡ green_row q) ⊎ (x ≡ blue_row q) → is_like o (replacement o u) (typed c x.reg.number) x ≡ true
  unfolding is_like same_colour is_seen_as same_basic
  row_like P c q x lt h (inl e) =
      let y = integer_form_of o (slice_index pairs q) in
      subst (λ z. is_like o (replacement o u) (typed c z.reg.number) z ≡ true) (sym e)
      (ap (λ t. is_like o (replacement o u) t (green_row q)) (h q lt).0 ∙ ap (same_polynomial y) (put_variable P q lt)
      ∙ same_itself y)
  row_like P c q x lt h (inr e) =
      let y = integer_form_of o (slice_index pairs q) in
      subst (λ z. is_like o (replacement o u) (typed c z.reg.number) z ≡ true) (sym e)
      (ap (λ t. is_like o (replacement o u) t (blue_row q)) (h q lt).1 ∙ ap (same_polynomial y) (put_variable P q lt)
      ∙ same_itself y)

  -- the registers of all rows meet the rows' requirements
  rows_like : PutsThese → (c : Context) (xs : List RegType) → HasVariables c → AreRows vars xs →
      are_like o (replacement o u) c xs ≡ true
  rows_like P c [] h r = refl
  rows_like P c (x ∷ xs) h r = and_from (is_like o (replacement o u) (typed c x.reg.number) x)
      (are_like o (replacement o u) c xs) (row_like P c r.0.0 x r.0.1 h r.0.2) (rows_like P c xs h r.1)

  -- the queue is empty, as code type 1 requires
  queue_like : (q : List FormPair) → q ≡ [] → is_queue_like o (replacement o u) q (queue_rows o 1) ≡ true
  unfolding is_queue_like
  queue_like q e = rw (e, T.queue) refl

  -- the memory is as code type 1 requires
  memory_like : PutsThese → (m : Updates) → m ≡ memory_form_of o memory →
      same_updates m (memory_form_after o (replacement o u) (memory_of o 1)) ≡ true
  memory_like P m e =
      (equal_updates m (memory_form_after o (replacement o u) (memory_of o 1))).1
      (e ∙ sym (put_memory P) ∙ sym (memory_after o T.nodes 0 0 shape.Memory (replacement o u)
      (get_starts (at_first vars).nodes o.nodes 0 (node 0 shape.Memory) T.first_nodes refl))
      ∙ ap (memory_form_after o (replacement o u)) (sym T.memory))

  -- the scope of a node that may be named is within this one
  named_scope : (n : ℕ) (sort : Bool) (m : ℕ) → MayName o.nodes n scope sort m → nat_le (scope_of o m) scope ≡ true
  named_scope n sort m h = le-leb (scope_of o m) scope (let e : scope_of o m
      ≡ h.node.scope = ap (λ x. unwrap_or (option_map scope_of_node x) 0) h.found in let w = h.scope_within in
      omega arith)

  -- whether a number is the number of integer variables of code type 1
  abbrev as_many : ℕ → Bool
  as_many m = m == ints_of o 1

  -- the substitution has a row for each variable, within the scope
  annotated : PutsThese → (k : Known) (n : ℕ) (spare ints : ℕ) → IsNamed o.nodes scope k n pairs memory →
      KeepsVariables vars k spare → ints ≡ scope → is_annotated o ints u 1 ≡ true
  unfolding is_annotated
  annotated P k n spare ints h keeps e =
      let few = T.few in
      let many = P.many in
      let l : length (take vars pairs) ≡ vars = length-take-le vars pairs (omega arith) in
      rw (e, P.rows, P.memory_is) (and_from (as_many (length (take vars pairs))
      && list_all (λ m. nat_le (scope_of o m) scope) (take vars pairs)) (nat_le (scope_of o memory) scope)
      (and_from (as_many (length (take vars pairs))) (list_all (λ m. nat_le (scope_of o m) scope) (take vars pairs))
      (eq-eqb (length (take vars pairs)) (ints_of o 1) (l ∙ sym T.ints))
      (all_pass (λ m. nat_le (scope_of o m) scope) (take vars pairs) (λ j lt. let jv : j < vars = omega arith in
      subst (λ m. nat_le (scope_of o m) scope ≡ true) (sym (get_or-take vars pairs j 0 jv))
      (named_scope n false (slice_index pairs j) (h.pair j (keeps.known j jv))))))
      (named_scope n true memory h.memory_node))

  -- the premises of a transfer hold
  pub leads_on : PutsThese → (k : Known) (n spare : ℕ) (c : Context) (next : Outcome) →
      IsNamed o.nodes scope k n pairs memory → KeepsVariables vars k spare → HasVariables c → c.ints ≡ scope → c.queue
      ≡ [] → c.memory ≡ memory_form_of o memory → leads o u 1 c next ≡ next
  unfolding leads need
  leads_on P k n spare c next h keeps v ints qu mem =
      let r : AreRows vars (reg_rows o 1) = subst (AreRows vars) (sym T.rows) (type_rows vars) in
      rw (
        annotated P k n spare c.ints h keeps ints,
        rows_like P c (reg_rows o 1) v r,
        queue_like c.queue qu,
        memory_like P c.memory mem,
      ) refl
