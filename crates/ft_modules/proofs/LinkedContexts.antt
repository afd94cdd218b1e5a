-- A module's contexts correspond to those of the linked object. They are equal except for entered registers and the
-- state of d: there the linked object has the code address to which the module's is sent, and its code type.
use Rattle.std.proofs.Common.{◌≡◌, ℕ, Bool, true, false, cond, not, length, nat_le, ◌==◌, Option, Some, None, is_some}
use Rattle.std.proofs.Common.{refl, subst}
use Rattle.std.specs.List.{list_all}
use Rattle.std.specs.FinMap as finite
use Rattle.ft_isa.specs.Words.{IsWord}
use Rattle.ft_isa.specs.declared.basic.Basic.{Basic}
use Rattle.ft_isa.specs.declared.colour.Colour.{Colour}
use Rattle.ft_isa.specs.declared.colour.Coloured.{Coloured}
use Rattle.ft_isa.specs.declared.reg.Reg.{Reg}
use Rattle.ft_isa.specs.declared.instr.Subst.{Subst}
use Rattle.ft_isa.specs.declared.instr.Instr.{Instr}
use Rattle.ft_isa.specs.declared.instr.Instr.TheVariants.{Mov, JmpB, BzB}
use Rattle.ft_static.specs.Expression.{Valuation}
use Rattle.ft_static.specs.Form.{Polynomial}
use Rattle.ft_static.specs.NormalForm.{constant}
use Rattle.ft_types.specs.declared.object.Object.{Object}
use Rattle.ft_types.specs.Objects.{reg_rows, scope_of}
use Rattle.ft_isa.specs.BasicTypes.{code}
use Rattle.ft_typing.specs.TypedWord.{code_type_at}
use Rattle.ft_typing.specs.Context.{Typed, StateOfD, d_zero, d_code, d_conditional, Context, typed, with_type}
use Rattle.ft_typing.specs.Context.{replacement, rows_of}
use Rattle.ft_typing.specs.RowWords.{Outcome, for_zero, for_target, for_conditional}
use Rattle.ft_tolerance.specs.TypedState.{valuation_by}
use Rattle.ft_types.proofs.Maps.{get-insert}
use Rattle.ft_modules.specs.CodeWalk.{Entered, code_claimed, entered_with, is_free, is_entered, are_free}
use Rattle.ft_modules.specs.CodeWalk.{is_free_target}
use Rattle.ft_modules.specs.LikeTypes.{LikeTypes}
use Rattle.ft_modules.specs.Linked.{moves_to}
use Rattle.ft_modules.proofs.Elements.{get-remove}
use Rattle.ft_modules.proofs.Both.{Both}

-- a code address of the module is a word, and is sent to a block of the linked object whose code type agrees
pub record Sends (o x : Object) (to : ℕ → ℕ × ℕ) (w t : ℕ) : Type 0 where
  pub is_word : IsWord w
  pub sent_word : IsWord (to w).0
  pub there : code_type_at x (to w).0 ≡ Some (to w).1
  pub alike : LikeTypes o t x (to w).1

-- the two objects have the same cells, and each code address of the first is sent to one of the second
pub record AreSent (o x : Object) (to : ℕ → ℕ × ℕ) : Type 0 where
  pub cells : x.cells ≡ o.cells
  pub sends : (w t : ℕ) → code_type_at o w ≡ Some t → Sends o x to w t

-- two substitutions have the same effect
pub record SameSubst (o x : Object) (u q : Subst) : Type 0 where
  pub forms : replacement o u ≡ replacement x q
  pub count : length (rows_of o u) ≡ length (rows_of x q)
  pub scopes : (n : ℕ) → list_all (λ m. nat_le (scope_of o m) n) (rows_of o u)
      ≡ list_all (λ m. nat_le (scope_of x m) n) (rows_of x q)
  pub memory_scope : scope_of o u.memory ≡ scope_of x q.memory
  pub values : (v : Valuation) → valuation_by o u v ≡ valuation_by x q v

-- the linked object's version of a `mov`, by the code type that it claims
abbrev pub IsMovOf : (ℕ → ℕ × ℕ) → Reg → Coloured → Basic → Instr → Option ℕ → Type 0
IsMovOf to rd x b j None = j ≡ Mov rd b x
IsMovOf to rd x b j (Some t) = j ≡ moves_to rd x (to x.word).0 (to x.word).1

-- the linked object's version of a module's instruction
abbrev pub IsInstrOf : Object → Object → (ℕ → ℕ × ℕ) → Instr → Instr → Type 0
IsInstrOf o x to (Mov rd basic value) j = IsMovOf to rd value basic j (code_claimed basic)
IsInstrOf o x to (JmpB rd u) j = (q : Subst) × (j ≡ JmpB rd q) × SameSubst o x u q
IsInstrOf o x to (BzB rz rd u) j = (q : Subst) × (j ≡ BzB rz rd q) × SameSubst o x u q
IsInstrOf o x to i j = j ≡ i

-- the type of an entered register
abbrev pub addressed : Colour → ℕ → ℕ → Typed
addressed k t w = record { colour = k; basic = code t; form = constant w }

-- how the types of a register that is entered with code type t correspond in both contexts
pub record IsEntered (o : Object) (to : ℕ → ℕ × ℕ) (t : ℕ) (y z : Option Typed) : Type 0 where
  pub colour : Colour
  pub word : ℕ
  pub address : code_type_at o word ≡ Some t
  pub known : y ≡ Some (addressed colour t word)
  pub beside : z ≡ Some (addressed colour (to word).1 (to word).0)

-- how the types of a register in both contexts correspond: equal, or as `IsEntered` says if it is entered with a code
-- type
abbrev pub RegistersBeside : Object → (ℕ → ℕ × ℕ) → Option ℕ → Option Typed → Option Typed → Type 0
RegistersBeside o to None y z = y ≡ z
RegistersBeside o to (Some t) y z = IsEntered o to t y z

-- how the states of d correspond in both contexts if d holds a target
pub record IsTarget (o : Object) (to : ℕ → ℕ × ℕ) (t : ℕ) (f : Polynomial) (d : StateOfD) (make : ℕ → Polynomial →
    StateOfD) : Type 0 where
  pub word : ℕ
  pub address : code_type_at o word ≡ Some t
  pub form : f ≡ constant word
  pub beside : d ≡ make (to word).1 (constant (to word).0)

-- how the states of d correspond in both contexts
abbrev pub DBeside : Object → (ℕ → ℕ × ℕ) → StateOfD → StateOfD → Type 0
DBeside o to d_zero d = d ≡ d_zero
DBeside o to (d_code t f) d = IsTarget o to t f d d_code
DBeside o to (d_conditional z t f) d = IsTarget o to t f d (d_conditional z)

-- the two contexts correspond, with these registers entered
pub record Beside (o : Object) (to : ℕ → ℕ × ℕ) (e : Entered) (c b : Context) : Type 0 where
  pub ints : c.ints ≡ b.ints
  pub registers : (r : ℕ) → RegistersBeside o to (finite.get e r) (typed c r) (typed b r)
  pub d : DBeside o to c.d b.d
  pub queue : c.queue ≡ b.queue
  pub memory : c.memory ≡ b.memory

-- REGISTERS

-- an option that is not `Some` is `None`
some_free : (u : Option ℕ) → not (is_some u) ≡ true → u ≡ None
some_free None e = refl
some_free (Some t) e = cc

-- a register that is not entered has the same type in both contexts
pub free_at : (o : Object) (to : ℕ → ℕ × ℕ) (e : Entered) (c b : Context) (r : ℕ) → Beside o to e c b →
    not (is_some (finite.get e r)) ≡ true → typed c r ≡ typed b r
free_at o to e c b r h f = subst (λ (u : Option ℕ). RegistersBeside o to u (typed c r) (typed b r))
    (some_free (finite.get e r) f) (h.registers r)

pub free_same : (o : Object) (to : ℕ → ℕ × ℕ) (e : Entered) (c b : Context) (r : Reg) → Beside o to e c b → is_free e r
    ≡ true → typed c r.number ≡ typed b r.number
free_same o to e c b r h f = free_at o to e c b r.number h f

-- a target register that is entered
pub record Target (o : Object) (to : ℕ → ℕ × ℕ) (e : Entered) (c b : Context) (r : Reg) : Type 0 where
  pub code_type : ℕ
  pub entered : finite.get e r.number ≡ Some code_type
  pub is : IsEntered o to code_type (typed c r.number) (typed b r.number)

-- an entered register is a target register: by cases on the code type with which it is entered
target_by : (o : Object) (to : ℕ → ℕ × ℕ) (e : Entered) (c b : Context) (r : Reg) (u : Option ℕ) → finite.get e r.number
    ≡ u → RegistersBeside o to u (typed c r.number) (typed b r.number) → is_some u ≡ true → Target o to e c b r
target_by o to e c b r None g h t = cc
target_by o to e c b r (Some u) g h t = record { code_type = u; entered = g; is = h }

-- a register that the walk takes as a target is a target register
pub target_there : (o : Object) (to : ℕ → ℕ × ℕ) (e : Entered) (c b : Context) (r : Reg) → Beside o to e c b →
    is_entered e r ≡ true → Target o to e c b r
target_there o to e c b r h t = target_by o to e c b r (finite.get e r.number) refl (h.registers r.number) t

-- a target that passes the test `is_free_target` is entered
pub free_target_entered : (o : Object) (e : Entered) (u : Option ℕ) → is_free_target o e u ≡ true → is_some u ≡ true
free_target_entered o e None h = cc
free_target_entered o e (Some t) h = refl

-- the target of a blue jump: its code type has no row for an entered register
pub record FreeTarget (o : Object) (to : ℕ → ℕ × ℕ) (e : Entered) (c b : Context) (r : Reg) : Type 0 where
  pub code_type : ℕ
  pub free : are_free e (reg_rows o code_type) ≡ true
  pub is : IsEntered o to code_type (typed c r.number) (typed b r.number)

-- a target that the walk finds free is such a target
pub free_target_there : (o : Object) (to : ℕ → ℕ × ℕ) (e : Entered) (c b : Context) (r : Reg) → Beside o to e c b →
    is_free_target o e (finite.get e r.number) ≡ true → FreeTarget o to e c b r
free_target_there o to e c b r h t =
    let g = target_there o to e c b r h (free_target_entered o e (finite.get e r.number) t) in
    record {
      code_type = g.code_type;
      free = subst (λ (u : Option ℕ). is_free_target o e u ≡ true) g.entered t;
      is = g.is;
    }

-- the types of a register still correspond in both contexts after a write of types that correspond
wrote_by : (o : Object) (to : ℕ → ℕ × ℕ) (a : Bool) (u v : Option ℕ) (t t' : Typed) (y z : Option Typed) →
    RegistersBeside o to v (Some t) (Some t') → RegistersBeside o to u y z →
    RegistersBeside o to (cond a v u) (cond a (Some t) y) (cond a (Some t') z)
wrote_by o to true u v t t' y z h k = h
wrote_by o to false u v t t' y z h k = k

-- after a register is entered or removed, only its own entry has changed
pub entered_get : (e : Entered) (r : ℕ) (v : Option ℕ) (q : ℕ) → finite.get (entered_with r v e) q
    ≡ cond (q == r) v (finite.get e q)
entered_get e r None q = get-remove e r q
entered_get e r (Some t) q = get-insert e r t q

-- contexts still correspond after a write to the same register in both
pub written : (o : Object) (to : ℕ → ℕ × ℕ) (e : Entered) (c b : Context) (r : ℕ) (v : Option ℕ) (t t' : Typed) →
    Beside o to e c b → RegistersBeside o to v (Some t) (Some t') →
    Beside o to (entered_with r v e) (with_type r t c) (with_type r t' b)
written o to e c b r v t t' h k = record {
  ints = h.ints;
  registers = λ q. rw (entered_get e r v q, get-insert c.registers r t q, get-insert b.registers r t' q)
      (wrote_by o to (q == r) (finite.get e q) v t t' (typed c q) (typed b q) k (h.registers q));
  d = h.d;
  queue = h.queue;
  memory = h.memory;
}

-- THE STATE OF D

-- `Both` holds of rules that require d to be Zero if it holds when d is Zero in both contexts
pub both_zero : (R : Context → Context → Type 0) (o : Object) (to : ℕ → ℕ × ℕ) (d d' : StateOfD) (x x' : Outcome) →
    DBeside o to d d' → (d ≡ d_zero → d' ≡ d_zero → Both R x x') → Both R (for_zero d x) (for_zero d' x')
unfolding Both for_zero
both_zero R o to d_zero d' x x' h k = rw h (k refl h)
both_zero R o to (d_code t f) d' x x' h k = tt
both_zero R o to (d_conditional z t f) d' x x' h k = tt

-- `Both` holds of rules that require d to be Code if it holds for each target and where it is sent
pub both_target : (R : Context → Context → Type 0) (o : Object) (to : ℕ → ℕ × ℕ) (d d' : StateOfD) (f f' : ℕ →
    Polynomial → Outcome) → DBeside o to d d' → ((w t : ℕ) → code_type_at o w ≡ Some t →
    Both R (f t (constant w)) (f' (to w).1 (constant (to w).0))) → Both R (for_target d f) (for_target d' f')
unfolding Both for_target
both_target R o to d_zero d' f f' h k = tt
both_target R o to (d_code t p) d' f f' h k = rw (h.form, h.beside) (k h.word t h.address)
both_target R o to (d_conditional z t p) d' f f' h k = tt

-- `Both` holds of rules that require d to be Conditional if it holds for each target and where it is sent
pub both_conditional : (R : Context → Context → Type 0) (o : Object) (to : ℕ → ℕ
    × ℕ) (d d' : StateOfD) (f f' : Polynomial → ℕ → Polynomial → Outcome) → DBeside o to d d' →
    ((z : Polynomial) (w t : ℕ) → code_type_at o w ≡ Some t →
    Both R (f z t (constant w)) (f' z (to w).1 (constant (to w).0))) →
    Both R (for_conditional d f) (for_conditional d' f')
unfolding Both for_conditional
both_conditional R o to d_zero d' f f' h k = tt
both_conditional R o to (d_code t p) d' f f' h k = tt
both_conditional R o to (d_conditional z t p) d' f f' h k = rw (h.form, h.beside) (k z h.word t h.address)
