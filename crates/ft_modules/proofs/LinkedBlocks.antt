-- Starting contexts, and why the typing rules of a whole block of the linked object apply.
use Rattle.std.proofs.Common.{◌≡◌, ℕ, suc, Bool, true, false, List, [], ◌∷◌, map, Option, Some, None, refl, sym, ap}
use Rattle.std.proofs.Common.{◌∙◌, subst, if◌then◌else◌}
use Rattle.std.specs.List.{AllZip}
use Rattle.std.specs.Ordering.{nat_cmp}
use Rattle.std.specs.FinMap as finite
use Rattle.ft_isa.specs.declared.instr.Instr.{Instr}
use Rattle.ft_static.specs.NormalForm.{norm_integer, norm_memory}
use Rattle.ft_types.specs.declared.object.Object.{Object}
use Rattle.ft_types.specs.declared.object.RegType.{RegType}
use Rattle.ft_types.specs.Objects.{reg_rows, queue_rows, memory_of}
use Rattle.ft_typing.specs.Context.{TypedRegisters, d_zero, Context, typed, integer_form_of, memory_form_of, typed_row}
use Rattle.ft_typing.specs.Context.{registers_after, queue_pair, start_context}
use Rattle.ft_typing.specs.RowWords.{Outcome, Goes, Ends, Fails}
use Rattle.ft_typing.specs.Accepted.{Applies, last_row, next_row}
use Rattle.ft_modules.specs.CodeWalk.{Entered, entered_after, is_traced, code_walk}
use Rattle.ft_modules.specs.LikeTypes.{SameInteger, SameMemory, SameRow, SamePair, LikeTypes}
use Rattle.ft_modules.proofs.Both.{Both}
use Rattle.ft_modules.proofs.LinkedContexts.{AreSent, IsInstrOf, RegistersBeside, Beside}
use Rattle.ft_modules.proofs.LinkedRows.{row_beside}

-- STARTING CONTEXTS

-- nodes that stand for the same integer have the same form
pub form_same : (o x : Object) (n m : ℕ) → SameInteger o x n m → integer_form_of o n ≡ integer_form_of x m
unfolding integer_form_of
form_same o x n m h = ap norm_integer h

-- nodes that stand for the same memory have the same form
pub memory_form_same : (o x : Object) (n m : ℕ) → SameMemory o x n m → memory_form_of o n ≡ memory_form_of x m
unfolding memory_form_of
memory_form_same o x n m h = ap norm_memory h

-- register rows that agree give a register the same type
row_same : (o x : Object) (r q : RegType) → SameRow o x r q → typed_row o r ≡ typed_row x q
row_same o x r q h = λ i. record { colour = h.colour i; basic = h.basic i; form = form_same o x r.expr q.expr h.tree i }

-- lists of register rows that agree give all registers the same types
registers_same : (o x : Object) (m : TypedRegisters) (rs qs : List RegType) → AllZip (SameRow o x) rs qs →
    registers_after o m rs ≡ registers_after x m qs
unfolding registers_after
registers_same o x m [] [] l = refl
registers_same o x m [] (q ∷ qs) l = absurd l
registers_same o x m (r ∷ rs) [] l = absurd l
registers_same o x m (r ∷ rs) (q ∷ qs) l =
    let a = l.0 in
    ap (λ (z : TypedRegisters). registers_after o z rs) (λ i. finite.insert m (a.reg i) (row_same o x r q a i))
    ∙ registers_same o x (finite.insert m q.reg.number (typed_row x q)) rs qs l.1

-- queue rows that agree give the same static queue
pairs_same : (o x : Object) (rs qs : List (ℕ × ℕ)) → AllZip (SamePair o x) rs qs → map (queue_pair o) rs
    ≡ map (queue_pair x) qs
pairs_same o x [] [] l = refl
pairs_same o x [] (q ∷ qs) l = absurd l
pairs_same o x (r ∷ rs) [] l = absurd l
pairs_same o x (r ∷ rs) (q ∷ qs) l =
    let a = l.0 in
    λ i. (form_same o x r.0 q.0 a.address i, form_same o x r.1 q.1 a.value i) ∷ pairs_same o x rs qs l.1 i

-- code types that agree have the same starting context
pub starts_same : (o x : Object) (t u : ℕ) → LikeTypes o t x u → start_context o t ≡ start_context x u
starts_same o x t u l = λ i. record {
  ints = l.ints i;
  registers = registers_same o x finite.empty (reg_rows o t) (reg_rows x u) l.regs i;
  d = d_zero;
  queue = pairs_same o x (queue_rows o t) (queue_rows x u) l.queue i;
  memory = memory_form_same o x (memory_of o t) (memory_of x u) l.memory i;
}

-- the starting contexts of code types that agree correspond, with no register entered
pub start_beside : (o x : Object) (to : ℕ → ℕ × ℕ) (t u : ℕ) → LikeTypes o t x u →
    Beside o to finite.empty (start_context o t) (start_context x u)
start_beside o x to t u l = record {
  ints = l.ints;
  registers = λ r. subst (λ (z : Option ℕ). RegistersBeside o to z (typed (start_context o t) r)
      (typed (start_context x u) r)) (sym (finite.get-empty nat_cmp r))
      (ap (λ (c : Context). typed c r) (starts_same o x t u l));
  d = refl;
  queue = ap (λ (c : Context). c.queue) (starts_same o x t u l);
  memory = ap (λ (c : Context). c.memory) (starts_same o x t u l);
}

-- BLOCKS

-- if the first rule ends the block, so does the second
pub both_ends : (R : Context → Context → Type 0) (y z : Outcome) → Both R y z → y ≡ Ends → z ≡ Ends
unfolding Both
both_ends R (Goes c) z h e = cc
both_ends R Ends (Goes d) h e = absurd h
both_ends R Ends Ends h e = refl
both_ends R Ends (Fails p) h e = absurd h
both_ends R (Fails p) z h e = cc

-- the second rule continues, with a context to which R relates the first rule's context
pub record GoesBeside (R : Context → Context → Type 0) (c : Context) (z : Outcome) : Type 0 where
  pub context : Context
  pub goes : z ≡ Goes context
  pub beside : R c context

-- this holds if the first rule continues
pub both_go : (R : Context → Context → Type 0) (y z : Outcome) (c : Context) → Both R y z → y ≡ Goes c →
    GoesBeside R c z
unfolding Both
both_go R (Goes b) (Goes d) c h e = let same : b ≡ c = cc in
    record { context = d; goes = refl; beside = subst (λ (w : Context). R w d) same h }
both_go R (Goes b) Ends c h e = absurd h
both_go R (Goes b) (Fails p) c h e = absurd h
both_go R Ends z c h e = cc
both_go R (Fails p) z c h e = cc

-- the walk passes this instruction, and then the rest
pub record Walked (o : Object) (e : Entered) (k : ℕ) (i : Instr) (is : List Instr) : Type 0 where
  pub first : is_traced o e i ≡ true
  pub rest : code_walk o (entered_after i e) (suc k) is ≡ None

-- a walk that does not fail passes both: by cases on the test of the instruction
walked_by : (o : Object) (e : Entered) (k : ℕ) (i : Instr) (is : List Instr) (b : Bool) → is_traced o e i ≡ b →
    (if b then code_walk o (entered_after i e) (suc k) is else Some k) ≡ None → Walked o e k i is
walked_by o e k i is true f h = record { first = f; rest = h }
walked_by o e k i is false f h = cc

-- a walk that does not fail passes its first instruction
pub walked_first : (o : Object) (e : Entered) (k : ℕ) (i : Instr) (is : List Instr) → code_walk o e k (i ∷ is) ≡ None →
    Walked o e k i is
unfolding code_walk
walked_first o e k i is h = walked_by o e k i is (is_traced o e i) refl h

-- if the typing rules of a module's instructions apply and the walk passes the instructions, the typing rules of the
-- linked object's versions apply too
pub applies_beside : (o x : Object) (to : ℕ → ℕ × ℕ) → AreSent o x to →
    (e : Entered) (c b : Context) (k : ℕ) (is js : List Instr) → Beside o to e c b → code_walk o e k is ≡ None →
    AllZip (IsInstrOf o x to) is js → Applies o c is → Applies x b js
applies_beside o x to s e c b k [] js h w l a = elim a [ ]
applies_beside o x to s e c b k (i ∷ is) [] h w l a = absurd l
applies_beside o x to s e c b k (i ∷ []) (j ∷ []) h w l (last_row f) =
    let v = walked_first o e k i [] w in
    last_row (both_ends _ _ _ (row_beside o x to s e c b h i j v.first l.0) f)
applies_beside o x to s e c b k (i ∷ []) (j ∷ j' ∷ js) h w l (last_row f) = absurd l.1
applies_beside o x to s e c b k (i ∷ is) (j ∷ js) h w l (next_row d f a) =
    let v = walked_first o e k i is w in
    let g = both_go _ _ _ d (row_beside o x to s e c b h i j v.first l.0) f in
    next_row g.context g.goes (applies_beside o x to s (entered_after i e) d g.context (suc k) is js g.beside v.rest l.1
    a)
