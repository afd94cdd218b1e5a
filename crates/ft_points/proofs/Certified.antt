-- A certified state that is alike to a state that fits a place fits the place.
use Rattle.std.proofs.Common.{◌≡◌, ◌≢◌, ◌⊎◌, inl, inr, ⊎_elim, ℕ, zero, suc, true}
use Rattle.std.proofs.Common.{List, [], ◌∷◌, length, map, Option, Some, None, refl, sym, ap, ◌∙◌, subst, arith}
use Rattle.std.proofs.Common.{eqb-true, slice_get}
use Rattle.std.specs.Option.{option_map, unwrap_or, is_none}
use Rattle.std.specs.List.{list_all}
use Rattle.std.proofs.lemmas.Bool.{and_parts}
use Rattle.std.proofs.lemmas.Option.{same_Some}
use Rattle.ft_isa.specs.Words.{code_address}
use Rattle.ft_isa.specs.Pending.{Pending}
use Rattle.ft_isa.specs.declared.colour.Colour.{Colour}
use Rattle.ft_isa.specs.declared.colour.Colour.TheVariants.{Green, Blue}
use Rattle.ft_isa.specs.declared.colour.Coloured.{Coloured}
use Rattle.ft_isa.specs.declared.instr.Instr.{Instr}
use Rattle.ft_static.specs.Expression.{Valuation}
use Rattle.ft_static.specs.Form.{value_polynomial}
use Rattle.ft_types.specs.declared.object.Object.{Object}
use Rattle.ft_types.specs.declared.object.Block.{Block}
use Rattle.ft_types.specs.declared.object.RegType.{RegType}
use Rattle.ft_types.specs.Objects.{code_type_of, block_type, reg_rows, queue_rows}
use Rattle.ft_types.specs.Spellable.{IsSpellable}
use Rattle.ft_semantics.specs.State.{State, Cells, held}
use Rattle.ft_typing.specs.TypedWord.{block_at, HasType}
use Rattle.ft_typing.specs.Context.{Typed, Context, typed_row, queue_pair, start_context, integer_form_of}
use Rattle.ft_typing.specs.Accepted.{has_none, IsAccepted}
use Rattle.ft_tolerance.specs.TypedState.{Place, instr_number, FitsRegister, FitsQueue, FitsCells, FitsContext, Fits}
use Rattle.ft_tolerance.specs.TypedState.{context_at, IsPlace}
use Rattle.ft_tolerance.specs.Alike.{AreAlikeWords, AreAlikeRegisters, AreAlike}
use Rattle.ft_tolerance.proofs.BlockPlaces.{one_number, no_block_inside}
use Rattle.ft_tolerance.proofs.Transfers.{block_there}
use Rattle.ft_points.specs.Certified.{is_confirmed, is_certified_for, is_certified}
use Rattle.ft_points.proofs.Rows.{rows_rise, RowFor, row_for, known_after, Confirmed, confirmed_at}

-- REGISTERS

-- two colours are equal or differ
cases_colour : (a b : Colour) → (a ≡ b) ⊎ (a ≢ b)
cases_colour Green Green = inl refl
cases_colour Green Blue = inr (λ e. cc)
cases_colour Blue Green = inr (λ e. cc)
cases_colour Blue Blue = inl refl

-- x and y are two registers of a state that fits, x' and y' those of an alike state: if both of the first state have
-- one
-- word and different colours, and both of the second have one word, this is the same word
word_same : (c : Colour) (x y x' y' : Coloured) → x.colour ≢ y.colour → x.word ≡ y.word → x'.word ≡ y'.word →
    AreAlikeWords c x x' → AreAlikeWords c y y' → x'.word ≡ x.word
word_same c x y x' y' apart same same' p q =
    ⊎_elim
    (λ (e : x.colour ≡ c). same' ∙ sym (q.word (λ f. apart (e ∙ sym f))) ∙ sym same)
    (λ (ne : x.colour ≢ c). sym (p.word ne))
    (cases_colour x.colour c)

-- a register with the same colour and word fits what the other fits
same_fits : (o : Object) (v : Valuation) (t : Typed) (x y : Coloured) → x.colour ≡ y.colour → y.word ≡ x.word →
    FitsRegister o v t x → FitsRegister o v t y
same_fits o v t x y e f h = record {
  colour = sym e ∙ h.colour;
  word = f ∙ h.word;
  basic = subst (λ w. HasType o w t.basic) (sym f) h.basic;
}

-- alike states have alike words in each register
alike_at : (c : Colour) (s u : State) (r : ℕ) → AreAlike c s u → AreAlikeWords c (held s.registers r)
    (held u.registers r)
unfolding AreAlikeRegisters
alike_at c s u r h = h.registers r

module _ (c : Colour) (o : Object) (v : Valuation) (t : ℕ) (s u : State) (spelled : IsSpellable o)
    (fits : FitsContext o v (start_context o t) s) (alike : AreAlike c s u) where
  abbrev rows : List RegType
  rows = reg_rows o t

  -- the register of a row fits it
  row_fits : (k : ℕ) (r : RegType) → slice_get rows k ≡ Some r → FitsRegister o v (typed_row o r)
      (held s.registers r.reg.number)
  row_fits k r e = fits.registers r.reg.number (typed_row o r) (known_after o 0 rows _ k r (rows_rise o t spelled) e)

  -- so does that of the alike state, if it is confirmed
  confirmed_fits : (k : ℕ) (r : RegType) → slice_get rows k ≡ Some r → Confirmed u rows r →
      FitsRegister o v (typed_row o r) (held u.registers r.reg.number)
  confirmed_fits k r e h =
      let q = h.partner in
      let a = row_fits k r e in
      let b = row_fits h.place q h.there in
      let x = held s.registers r.reg.number in
      let y = held s.registers q.reg.number in
      let one : x.word ≡ y.word = a.word ∙ ap (λ n. value_polynomial (integer_form_of o n) v) h.expr ∙ sym b.word in
      let same = word_same c x y (held u.registers r.reg.number) (held u.registers q.reg.number)
      (λ i. h.colours (sym a.colour ∙ i ∙ b.colour)) one h.words (alike_at c s u r.reg.number alike)
      (alike_at c s u q.reg.number alike) in
      same_fits o v (typed_row o r) x (held u.registers r.reg.number) (alike_at c s u r.reg.number alike).colour same a

  -- an empty queue fits the queue rows of a code type without any
  queue_fits : (qs : List (ℕ × ℕ)) (q q' : Pending) → has_none qs ≡ true → FitsQueue o v (map (queue_pair o) qs) q →
      length q ≡ length q' → FitsQueue o v (map (queue_pair o) qs) q'
  queue_fits [] [] [] e h l = tt
  queue_fits [] [] (x ∷ q') e h l = absurd (omega (arith, l))
  queue_fits [] (x ∷ q) q' e h l = absurd h
  queue_fits (x ∷ qs) q q' e h l = cc

  -- what the start of a block knows holds of an alike state if d is 0, there are no queue rows, and the register of
  -- each
  -- row is confirmed
  context_fits : u.d ≡ 0 → has_none (queue_rows o t) ≡ true → list_all (is_confirmed u rows) rows ≡ true →
      FitsContext o v (start_context o t) u
  context_fits zero_d none all = record {
    lawful = fits.lawful;
    registers = λ r y e. (let f : RowFor o rows r y = row_for o rows r y e in
        subst (λ n. FitsRegister o v y (held u.registers n)) f.number
        (subst (λ (z : Typed). FitsRegister o v z (held u.registers f.row.reg.number)) f.says
        (confirmed_fits f.place f.row f.there (confirmed_at u rows f.place f.row all f.there))));
    d = zero_d;
    queue = queue_fits (queue_rows o t) s.queue u.queue none fits.queue alike.queue_length;
    cells = subst (λ (m : Cells). FitsCells o v (start_context o t).memory m) alike.cells fits.cells;
  }

-- PLACES

-- the place is the start of this block
pub record Begins (o : Object) (p : Place) (b : Block) : Type 0 where
  pub block : p.block ≡ b
  pub index : p.index ≡ 0
  pub context : p.context ≡ start_context o b.code_type

-- a place whose instruction is the first of a block is the start of that block
begins_by : (o : Object) (p : Place) (b : Block) (m i : ℕ) → IsSpellable o → IsAccepted o → (at : IsPlace o p) →
    slice_get o.blocks m ≡ Some b → code_address (instr_number p) ≡ code_address b.start → p.index ≡ i → Begins o p b
unfolding context_at
begins_by o p b m (suc j) spelled acc at there address i =
    absurd (no_block_inside o p j m b spelled acc at i there address)
begins_by o p b m zero spelled acc at there address i =
    let one = one_number (length o.instrs) 0 o.blocks at.number m p.block b spelled.blocks at.block there
    (let z = i in omega (arith, address, z)) in
    let same : p.block ≡ b = same_Some p.block b (sym at.block ∙ ap (slice_get o.blocks) one ∙ there) in
    let kind : block_type o at.number ≡ b.code_type
    = ap (λ x. unwrap_or (option_map code_type_of x) 0) (at.block ∙ ap Some same) in
    record {
      block = same;
      index = i;
      context = same_Some p.context (start_context o b.code_type)
          (sym at.context ∙ ap (context_at o at.number) i ∙ ap (λ t. Some (start_context o t)) kind);
    }

-- so is a place at whose address a block begins
pub begins : (o : Object) (p : Place) (b : Block) → IsSpellable o → IsAccepted o → IsPlace o p →
    block_at o (code_address (instr_number p)) ≡ Some b → Begins o p b
begins o p b spelled acc at e =
    let f = block_there o (code_address (instr_number p)) b e in
    begins_by o p b f.number p.index spelled acc at f.there f.begins refl

-- CERTIFIED

-- if the test finds nothing, nothing is there
is_nothing : (x : Option Instr) → is_none x ≡ true → x ≡ None
is_nothing None e = refl
is_nothing (Some i) e = cc

-- alike states whose second has equal counters have equal counters
same_counter : (c : Colour) (s u : State) (a : ℕ) → AreAlike c s u → s.pc_green ≡ a → s.pc_blue ≡ a → u.pc_green
    ≡ u.pc_blue → u.pc_green ≡ a
same_counter Green s u a h g b e = e ∙ sym (h.pc_blue (λ i. cc)) ∙ b
same_counter Blue s u a h g b e = sym (h.pc_green (λ i. cc)) ∙ g

-- one case of the next lemma: what is found at the address of the place
certified_by : (c : Colour) (o : Object) (p : Place) (s u : State) (x : Option Block) → IsSpellable o → IsAccepted o →
    IsPlace o p → Fits o p s → AreAlike c s u → u.fetched ≡ None → u.pc_green ≡ u.pc_blue →
    u.pc_green ≡ code_address (instr_number p) → block_at o (code_address (instr_number p)) ≡ x →
    is_certified_for o u x ≡ true → Fits o p u
certified_by c o p s u None spelled acc at fits alike none counters pc e h = cc
certified_by c o p s u (Some b) spelled acc at fits alike none counters pc e h =
    let start = begins o p b spelled acc at e in
    let first = and_parts _ _ h in
    let second = and_parts _ _ first.0 in
    record {
      pc_green = pc;
      pc_blue = sym counters ∙ pc;
      fetched = inl none;
      context = subst (λ (z : Context). FitsContext o p.valuation z u) (sym start.context)
          (context_fits c o p.valuation b.code_type s u spelled
          (subst (λ (z : Context). FitsContext o p.valuation z s) start.context fits.context) alike
          (eqb-true u.d 0 second.0) second.1 first.1);
    }

-- a certified state that is alike to one that fits a place fits it
pub certified_fits : (c : Colour) (o : Object) (p : Place) (s u : State) → IsSpellable o → IsAccepted o → IsPlace o p →
    Fits o p s → AreAlike c s u → is_certified o u ≡ true → Fits o p u
certified_fits c o p s u spelled acc at fits alike h =
    let a = and_parts _ _ h in
    let b = and_parts _ _ a.0 in
    let d = and_parts _ _ b.0 in
    let counters = eqb-true u.pc_green u.pc_blue b.1 in
    let pc = same_counter c s u (code_address (instr_number p)) alike fits.pc_green fits.pc_blue counters in
    certified_by c o p s u (block_at o (code_address (instr_number p))) spelled acc at fits alike
    (is_nothing u.fetched d.1) counters pc refl
    (subst (λ w. is_certified_for o u (block_at o w) ≡ true) pc a.1)
