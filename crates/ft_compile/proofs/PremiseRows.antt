-- Typing rules whose premises hold, and the context after each.
use Rattle.std.proofs.Common.{◌≡◌, ◌≢◌, ℕ, true, cond, ◌==◌, [], ◌∷◌, Some, refl, ap, ◌∙◌}
use Rattle.std.proofs.lemmas.Bool.{ne_eqb, eq-eqb}
use Rattle.ft_isa.specs.declared.colour.Colour.{Colour}
use Rattle.ft_isa.specs.declared.colour.Colour.TheVariants.{Green, Blue}
use Rattle.ft_isa.specs.declared.basic.Basic.{Basic}
use Rattle.ft_isa.specs.declared.op.Op.{Op as Operator}
use Rattle.ft_isa.specs.declared.instr.Instr.TheVariants as instr
use Rattle.ft_isa.specs.declared.reg.Reg.{Reg}
use Rattle.ft_static.specs.Form.{Polynomial}
use Rattle.ft_static.specs.NormalForm.{constant, norm_op, norm_sel, norm_upd}
use Rattle.ft_static.proofs.Equal.{same_itself}
use Rattle.ft_types.specs.declared.object.Object.{Object}
use Rattle.ft_typing.specs.Context.{Typed, Context, typed, with_type}
use Rattle.ft_isa.specs.BasicTypes.{int, ref}
use Rattle.ft_typing.specs.TypedWord.{has_type, is_seen_as, same_basic, run_type}
use Rattle.ft_typing.specs.RowWords.{Goes, same_colour, need, for_typed, for_ref_over, for_oldest, for_run}
use Rattle.ft_typing.specs.RowWords.{pending_memory, run_form}
use Rattle.ft_typing.specs.TypingRow.{row}
use Rattle.ft_types.proofs.Maps.{get-insert}
use Rattle.ft_typing.proofs.TypedWords.{same_colours}

-- the type of a register, with its form
abbrev pub ty : Colour → Basic → Polynomial → Typed
ty k b x = record { colour = k; basic = b; form = x }

-- after a register is set, only its own type has changed
typed_with : (c : Context) (r : ℕ) (t : Typed) (q : ℕ) → typed (with_type r t c) q ≡ cond (q == r) (Some t) (typed c q)
typed_with c r t q = get-insert c.registers r t q

-- after a register is set, it has the new type
pub typed_same : (c : Context) (r : ℕ) (t : Typed) → typed (with_type r t c) r ≡ Some t
typed_same c r t = typed_with c r t r ∙ ap (λ b. cond b (Some t) (typed c r)) (eq-eqb r r refl)

-- after a register is set, any other register has its old type
pub typed_other : (c : Context) (r : ℕ) (t : Typed) (q : ℕ) → q ≢ r → typed (with_type r t c) q ≡ typed c q
typed_other c r t q ne = typed_with c r t q ∙ ap (λ b. cond b (Some t) (typed c q)) (ne_eqb q r ne)

-- each word has the type `int`
pub has_int : (o : Object) (v : ℕ) → has_type o v int ≡ true
unfolding has_type
has_int o v = refl

-- RULES WHOSE PREMISES HOLD

module _ (o : Object) where
  -- the rule of a move continues
  pub mov_row : (c : Context) (rd : Reg) (v : ℕ) (k : Colour) (b : Basic) → has_type o v b ≡ true →
      row o c (instr.Mov rd b (record { colour = k; word = v })) ≡ Goes (with_type rd.number (ty k b (constant v)) c)
  unfolding need
  mov_row c rd v k b h = rw h refl

  -- the rule of an operation on two registers continues
  pub op_row : (c : Context) (p : Operator) (rd rs rt : Reg) (k : Colour) (a b : Basic) (x y : Polynomial) →
      typed c rs.number ≡ Some (ty k a x) → typed c rt.number ≡ Some (ty k b y) → row o c (instr.OpReg p rd rs rt)
      ≡ Goes (with_type rd.number (ty k int (norm_op p x y)) c)
  unfolding need for_typed
  op_row c p rd rs rt k a b x y hs ht = rw (hs, ht, same_colours k) refl

  -- the rule of an operation with a word continues
  pub op_word_row : (c : Context) (p : Operator) (rd rs : Reg) (v : ℕ) (k : Colour) (a : Basic) (x : Polynomial) →
      typed c rs.number ≡ Some (ty k a x) → row o c (instr.OpWord p rd rs (record { colour = k; word = v }))
      ≡ Goes (with_type rd.number (ty k int (norm_op p x (constant v))) c)
  unfolding need for_typed
  op_word_row c p rd rs v k a x hs = rw (hs, same_colours k) refl

  -- the rule of a green load continues if the queue is empty
  pub load_green_row : (c : Context) (rd rs : Reg) (x : Polynomial) → c.queue ≡ [] → typed c rs.number
      ≡ Some (ty Green (ref int) x) → row o c (instr.Ld Green rd rs)
      ≡ Goes (with_type rd.number (ty Green int (norm_sel c.memory x)) c)
  unfolding need for_typed for_ref_over same_colour pending_memory
  load_green_row c rd rs x q hs = rw (hs, q) refl

  -- the rule of a blue load continues
  pub load_blue_row : (c : Context) (rd rs : Reg) (x : Polynomial) → typed c rs.number ≡ Some (ty Blue (ref int) x) →
      row o c (instr.Ld Blue rd rs) ≡ Goes (with_type rd.number (ty Blue int (norm_sel c.memory x)) c)
  unfolding need for_typed for_ref_over same_colour
  load_blue_row c rd rs x hs = rw hs refl

  -- the rule of a green store continues if the queue is empty
  pub store_green_row : (c : Context) (rd rs : Reg) (a x : Polynomial) → c.queue ≡ [] → typed c rd.number
      ≡ Some (ty Green (ref int) a) → typed c rs.number ≡ Some (ty Green int x) → row o c (instr.St Green rd rs)
      ≡ Goes (record c { queue = (a, x) ∷ [] })
  unfolding need for_typed for_ref_over is_seen_as same_basic same_colour
  store_green_row c rd rs a x q hd hs = rw (hd, hs, q) refl

  -- the rule of a blue store continues if the queue consists of the same address and value
  pub store_blue_row : (c : Context) (rd rs : Reg) (a x : Polynomial) → c.queue ≡ (a, x) ∷ [] → typed c rd.number
      ≡ Some (ty Blue (ref int) a) → typed c rs.number ≡ Some (ty Blue int x) → row o c (instr.St Blue rd rs)
      ≡ Goes (record c { queue = []; memory = norm_upd c.memory a x })
  unfolding need for_typed for_ref_over is_seen_as same_basic same_colour for_oldest
  store_blue_row c rd rs a x q hd hs = rw (hd, hs, q) (rw (same_itself a) (rw (same_itself x) refl))

  -- the rule of an `idx` into an array of type `int` continues
  pub index_row : (c : Context) (rd rs : Reg) (k : Colour) (b : Basic) (begin many : ℕ) (x : Polynomial) →
      run_type o begin many ≡ Some int → typed c rs.number ≡ Some (ty k b x) → row o c (instr.Idx rd rs begin many)
      ≡ Goes (with_type rd.number (ty k (ref int) (run_form begin many x)) c)
  unfolding for_typed for_run
  index_row c rd rs k b begin many x h hs = rw (hs, h) refl
