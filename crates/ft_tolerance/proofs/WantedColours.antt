-- What a typed instruction finds in a state that fits: the colours that it requires, and no trouble.
use Rattle.std.proofs.Common.{◌≡◌, ℕ, zero, suc, ◌<◌, true, false, not, ◌&&◌, List, [], ◌∷◌, length, Option, Some, None}
use Rattle.std.proofs.Common.{refl, sym, ap, ◌∙◌, arith, is_some}
use Rattle.std.specs.Option.{option_or, unwrap_or}
use borrow.Author.Tests.{ltb-true}
use Rattle.ft_isa.specs.Pending.{newest_at}
use Rattle.ft_isa.specs.BasicTypes.{ref}
use Rattle.ft_isa.specs.declared.basic.Base.{Base}
use Rattle.ft_isa.specs.declared.reg.Reg.{Reg}
use Rattle.ft_isa.specs.declared.colour.Colour.{Colour}
use Rattle.ft_isa.specs.declared.colour.Colour.TheVariants.{Green, Blue}
use Rattle.ft_isa.specs.declared.instr.Instr.{Instr}
use Rattle.ft_isa.specs.declared.instr.Instr.TheVariants.{OpReg, Ld, St, JmpG, JmpB, BzG, BzB}
use Rattle.ft_static.specs.Expression.{Valuation}
use Rattle.ft_types.specs.declared.object.Object.{Object}
use Rattle.ft_semantics.specs.State.{State, held, word, colour, cell_at}
use Rattle.ft_semantics.specs.Step.{found, is_wild}
use Rattle.ft_typing.specs.Context.{Typed, FormPair, Context, typed}
use Rattle.ft_typing.specs.RowWords.{Outcome, Goes, Ends, Fails, same_colour, is_empty}
use Rattle.ft_typing.specs.RowTests.{known, refers as is_reference_over, referred}
use Rattle.ft_typing.proofs.TypingRows.{Holds}
use Rattle.ft_tolerance.specs.TypedState.{FitsContext}
use Rattle.ft_tolerance.proofs.Premises.{After, same_colour_is}
use Rattle.ft_tolerance.proofs.RegisterRows.{refers, finds}
use Rattle.ft_tolerance.proofs.StoreRows.{queue_length}

-- an instruction finds the colours that it requires, its load finds a word, and its store finds room or an entry
abbrev pub Wants : Instr → State → Type 0
Wants (OpReg op rd rs rt) s = colour s rt ≡ colour s rs
Wants (Ld c rd rs) s = (colour s rs ≡ c) × (is_some (found c s (word s rs)) ≡ true)
Wants (St Green rd rs) s = (colour s rd ≡ Green) × (colour s rs ≡ Green) × (length s.queue < 8)
Wants (St Blue rd rs) s = (colour s rd ≡ Blue) × (colour s rs ≡ Blue) × (0 < length s.queue)
Wants (JmpG rd) s = colour s rd ≡ Green
Wants (JmpB rd u) s = colour s rd ≡ Blue
Wants (BzG rz rd) s = (colour s rz ≡ Green) × (colour s rd ≡ Green)
Wants (BzB rz rd u) s = (colour s rz ≡ Blue) × (colour s rd ≡ Blue)
Wants i s = Unit {0}

-- a fact that holds anyway holds after any row
pub anyhow : (C : Type 0) (x : Outcome) → C → After (λ _. C) C x
unfolding After
anyhow C (Goes c) h = h
anyhow C Ends h = h
anyhow C (Fails p) h = tt

-- a typed register has the colour that the row requires
has_colour : (o : Object) (v : Valuation) (c : Context) (s : State) (r : Reg) (t : Typed) (k : Colour) →
    FitsContext o v c s → typed c r.number ≡ Some t → same_colour t.colour k ≡ true → colour s r ≡ k
has_colour o v c s r t k h it e = (h.registers r.number t it).colour ∙ same_colour_is t.colour k e

-- if something is known of a register, looking it up with a default finds just that
typed_is : (x : Option Typed) (d : Typed) → is_some x ≡ true → x ≡ Some (unwrap_or x d)
typed_is None d e = cc
typed_is (Some t) d e = refl

-- a type that passes the test for a `ref` refers to a type
reference_is : (n : ℕ) (base : Base) → is_reference_over n ≡ true → record { refs = n; base = base }
    ≡ ref (referred n base)
reference_is zero base e = cc
reference_is (suc n) base e = refl

-- a static queue that is not empty has a pair
has_pair : (q : List FormPair) → not (is_empty q) ≡ true → 0 < length q
unfolding is_empty
has_pair [] e = cc
has_pair (p ∷ q) e = omega arith

module _ (o : Object) (v : Valuation) (c : Context) (s : State) (h : FitsContext o v c s) where
  -- a register that passes the test for a colour has that colour
  coloured : (r : Reg) (k : Colour) → is_some (typed c r.number) ≡ true → same_colour (known c r).colour k ≡ true →
      colour s r ≡ k
  coloured r k it e = has_colour o v c s r (known c r) k h (typed_is (typed c r.number) _ it) e

  -- an instruction finds what it requires if all tests of its row hold
  pub wants : (i : Instr) (x : Outcome) → Holds o c i x → Wants i s
  wants (OpReg op rd rs rt) x t =
      let first : typed c rs.number ≡ Some (known c rs) = typed_is _ _ t.tested.0 in
      coloured rt (known c rs).colour t.tested.1.0 t.tested.1.1.0
      ∙ sym (h.registers rs.number (known c rs) first).colour
  wants (Ld k rd rs) x t =
      let here = h.registers rs.number (known c rs) (typed_is (typed c rs.number) _ t.tested.0) in
      let b = referred (known c rs).basic.refs (known c rs).basic.base in
      let at = refers o v (known c rs) (held s.registers rs.number) b here
      (reference_is (known c rs).basic.refs (known c rs).basic.base t.tested.1.1.0) in
      (coloured rs k t.tested.0 t.tested.1.0, ap is_some (finds o v k c s (word s rs) b h at).is)
  wants (St Green rd rs) x t =
      let lengths = queue_length o v c.queue s.queue h.queue in
      let few : length c.queue < 8 = ltb-true (length c.queue) 8 t.tested.1.1.1.1.1.1.0 in
      (coloured rd Green t.tested.0 t.tested.1.1.0, coloured rs Green t.tested.1.0 t.tested.1.1.1.0, omega arith)
  wants (St Blue rd rs) x t =
      let lengths = queue_length o v c.queue s.queue h.queue in
      let some : 0 < length c.queue = has_pair c.queue t.tested.1.1.1.1.1.1.0 in
      (coloured rd Blue t.tested.0 t.tested.1.1.0, coloured rs Blue t.tested.1.0 t.tested.1.1.1.0, omega arith)
  wants (JmpG rd) x t = coloured rd Green t.tested.0 t.tested.1.0
  wants (JmpB rd u) x t = coloured rd Blue t.tested.0 t.tested.1.0
  wants (BzG rz rd) x t = (coloured rz Green t.tested.0 t.tested.1.1.0, coloured rd Green t.tested.1.0 t.tested.1.1.1.0)
  wants (BzB rz rd u) x t = (coloured rz Blue t.tested.0 t.tested.1.1.0, coloured rd Blue t.tested.1.0 t.tested.1.1.1.0)
  wants i x t = tt

-- if at least one of the two exists, they are not both missing
one_there : (x y : Option ℕ) → is_some (option_or x y) ≡ true → (not (is_some x) && not (is_some y)) ≡ false
one_there None None e = cc
one_there None (Some b) e = refl
one_there (Some a) y e = refl

one_there_alone : (y : Option ℕ) → is_some y ≡ true → not (is_some y) ≡ false
one_there_alone None e = cc
one_there_alone (Some b) e = refl

-- a load that finds a word is not wild
pub found_is_not_wild : (c : Colour) (s : State) (a : ℕ) → is_some (found c s a) ≡ true → is_wild c s a ≡ false
found_is_not_wild Green s a e = one_there (newest_at s.queue a) (cell_at s.cells a) e
found_is_not_wild Blue s a e = one_there_alone (cell_at s.cells a) e
