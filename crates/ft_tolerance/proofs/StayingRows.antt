-- The rows that stay in their block: the step goes on to a state that fits the context after the row.
use Rattle.std.proofs.Common.{◌≡◌, ◌≢◌, ◌≤◌, ℕ, Bool, true, false, List, length, ◌==◌, None, refl, sym, ◌∙◌, subst}
use Rattle.std.proofs.Common.{if◌then◌else◌, eqb-true, eq-eqb}
use Rattle.std.proofs.lemmas.Bool.{eqb-false}
use Rattle.ft_isa.specs.declared.reg.Reg.{Reg}
use Rattle.ft_isa.specs.declared.colour.Colour.TheVariants.{Green, Blue}
use Rattle.ft_isa.specs.declared.instr.Instr.{Instr}
use Rattle.ft_isa.specs.declared.instr.Instr.TheVariants.{OpReg, OpWord, Mov, Ld, St, JmpG, BzG, Halt, Idx}
use Rattle.ft_isa.specs.declared.plan.Wild.{Wild}
use Rattle.ft_static.specs.Expression.{Valuation}
use Rattle.ft_static.specs.Form.{Polynomial, value_polynomial}
use Rattle.ft_types.specs.declared.object.Object.{Object}
use Rattle.ft_types.specs.Spellable.{IsInstr, subst_of}
use Rattle.ft_semantics.specs.declared.status.Status.TheVariants.{Done}
use Rattle.ft_semantics.specs.State.{State, word}
use Rattle.ft_semantics.specs.Step.{quiet, detected, goes_on, jump_green, pass, execute}
use Rattle.ft_typing.specs.TypedWord.{HasType}
use Rattle.ft_typing.specs.declared.why.Why.TheVariants as premise
use Rattle.ft_typing.specs.Context.{StateOfD, d_zero, d_code, d_conditional, Context, typed}
use Rattle.ft_typing.specs.TypingRow.{row}
use Rattle.ft_typing.specs.RowWords.{is_empty}
use Rattle.ft_tolerance.specs.TypedState.{FitsTarget, FitsD, FitsContext}
use Rattle.ft_tolerance.proofs.Premises.{After, after_goes, after_ends, after_need, after_typed, after_code, after_zero}
use Rattle.ft_tolerance.proofs.RegisterRows.{GoesOn, op_row, op_word_row, mov_row, index_row, load_row}
use Rattle.ft_tolerance.proofs.StoreRows.{store_green_row, store_blue_row}

-- if d gets a word that fits what is then known of it, the machine goes on to a state that fits
d_fits : (o : Object) (v : Valuation) (c : Context) (s : State) (w : List Wild) (x : StateOfD) (d : ℕ) →
    FitsContext o v c s → FitsD o v x d → GoesOn o v s w (quiet (goes_on (record s { d = d })) w) (record c { d = x })
d_fits o v c s w x d h f = record {
  fits = record { lawful = h.lawful; registers = h.registers; d = f; queue = h.queue; cells = h.cells };
  wild = refl;
  status = refl;
  pc_green = refl;
  pc_blue = refl;
  fetched = refl;
}

-- if d is 0, a green jump leads to a state that fits
jump_green_fits : (o : Object) (v : Valuation) (c : Context) (s : State) (w : List Wild) (x : StateOfD) (a : ℕ) →
    FitsContext o v c s → s.d ≡ 0 → FitsD o v x a → GoesOn o v s w (jump_green a s w) (record c { d = x })
jump_green_fits o v c s w x a h z f = subst (λ (t : Bool).
    GoesOn o v s w (if t then quiet (goes_on (record s { d = a })) w else detected s w) (record c { d = x }))
    (sym (eq-eqb s.d 0 z)) (d_fits o v c s w x a h f)

-- if d is 0, a branch that is not taken leads to a state that fits
pub pass_fits : (o : Object) (v : Valuation) (c : Context) (s : State) (w : List Wild) (x : StateOfD) →
    FitsContext o v c s → s.d ≡ 0 → FitsD o v x 0 → GoesOn o v s w (pass s w) (record c { d = x })
pass_fits o v c s w x h z f = subst (λ (t : Bool).
    GoesOn o v s w (if t then quiet (goes_on s) w else detected s w) (record c { d = x })) (sym (eq-eqb s.d 0 z))
    (d_fits o v c s w x s.d h (subst (FitsD o v x) (sym z) f))

-- if d is known to be Zero, it is 0
d_is_zero : (o : Object) (v : Valuation) (c : Context) (s : State) → FitsContext o v c s → c.d ≡ d_zero → s.d ≡ 0
d_is_zero o v c s h z = subst (λ (y : StateOfD). FitsD o v y s.d) z h.d

pub jump_green_row : (o : Object) (v : Valuation) (c : Context) (s : State) (w : List Wild) (E : Type 0) (rd : Reg) →
    FitsContext o v c s → After (GoesOn o v s w (execute (JmpG rd) s w)) E (row o c (JmpG rd))
jump_green_row o v c s w E rd h =
    let G = GoesOn o v s w (execute (JmpG rd) s w) in
    after_typed G E (typed c rd.number) _ (λ a ia.
    after_need G E premise.Colour _ _ (λ col. after_code G E a.basic.refs a.basic.base _ (λ t is.
    after_zero G E c.d _ (λ z.
    let m = h.registers rd.number a ia in
    after_goes G E _ (jump_green_fits o v c s w (d_code t a.form) (word s rd) h (d_is_zero o v c s h z)
    (record { word = m.word; basic = subst (HasType o (word s rd)) is m.basic }))))))

branch_green_by : (o : Object) (v : Valuation) (c : Context) (s : State) (w : List Wild) (z : Polynomial) (t : ℕ)
    (f : Polynomial) (a : ℕ) (b : Bool) → FitsContext o v c s → s.d ≡ 0 → (b ≡ true → value_polynomial z v ≡ 0) →
    (b ≡ false → value_polynomial z v ≡ 0 → ⊥) → FitsTarget o v t f a →
    GoesOn o v s w (if b then jump_green a s w else pass s w) (record c { d = d_conditional z t f })
branch_green_by o v c s w z t f a true h dz at_zero elsewhere target =
    jump_green_fits o v c s w (d_conditional z t f) a h dz (λ _. target, λ n. absurd (n (at_zero refl)))
branch_green_by o v c s w z t f a false h dz at_zero elsewhere target =
    pass_fits o v c s w (d_conditional z t f) h dz (λ e. absurd (elsewhere refl e), λ _. refl)

pub branch_green_row : (o : Object) (v : Valuation) (c : Context) (s : State) (w : List Wild) (E : Type 0) (rz rd : Reg)
    → FitsContext o v c s → After (GoesOn o v s w (execute (BzG rz rd) s w)) E (row o c (BzG rz rd))
branch_green_row o v c s w E rz rd h =
    let G = GoesOn o v s w (execute (BzG rz rd) s w) in
    after_typed G E (typed c rz.number) _ (λ z iz.
    after_typed G E (typed c rd.number) _ (λ a ia.
    after_need G E premise.Colour _ _ (λ col. after_code G E a.basic.refs a.basic.base _ (λ t is.
    after_zero G E c.d _ (λ dz.
    let mz = h.registers rz.number z iz in
    let m = h.registers rd.number a ia in
    after_goes G E _ (branch_green_by o v c s w z.form t a.form (word s rd) (word s rz == 0) h (d_is_zero o v c s h dz)
    (λ y. sym mz.word ∙ eqb-true (word s rz) 0 y) (λ y k. eqb-false (word s rz) 0 y (mz.word ∙ k))
    (record { word = m.word; basic = subst (HasType o (word s rd)) is m.basic })))))))

-- if the row of `halt` does not fail, it ends the block, and the machine is then done
pub halt_row : (o : Object) (c : Context) (s : State) (w : List Wild) (G : Context → Type 0) →
    After G ((execute Halt s w).state.status ≡ Done) (row o c Halt)
halt_row o c s w G =
    let E = (execute Halt s w).state.status ≡ Done in
    after_zero G E c.d _ (λ z. after_need G E premise.QueueUnlike (is_empty c.queue) _ (λ n. after_ends G E refl))

-- an instruction without a substitution, other than `halt`, leads to a state that fits the context after its row
pub staying_row : (o : Object) (v : Valuation) (c : Context) (s : State) (w : List Wild) (E : Type 0) (i : Instr) →
    subst_of i ≡ None → i ≢ Halt → length o.cells ≤ 1024 → IsInstr (length o.types) (length o.cells) i →
    FitsContext o v c s → After (GoesOn o v s w (execute i s w)) E (row o c i)
staying_row o v c s w E (OpReg op rd rs rt) u n few k h = op_row o v c s w E op rd rs rt h
staying_row o v c s w E (OpWord op rd rs x) u n few k h = op_word_row o v c s w E op rd rs x k h
staying_row o v c s w E (Mov rd b x) u n few k h = mov_row o v c s w E rd x b k.0 h
staying_row o v c s w E (Ld col rd rs) u n few k h = load_row o v c s w E col rd rs h
staying_row o v c s w E (St Green rd rs) u n few k h = store_green_row o v c s w E rd rs h
staying_row o v c s w E (St Blue rd rs) u n few k h = store_blue_row o v c s w E rd rs h
staying_row o v c s w E (JmpG rd) u n few k h = jump_green_row o v c s w E rd h
staying_row o v c s w E (BzG rz rd) u n few k h = branch_green_row o v c s w E rz rd h
staying_row o v c s w E (Idx rd rs first m) u n few k h = index_row o v c s w E rd rs first m few k h
staying_row o v c s w E Halt u n few k h = absurd (n refl)
staying_row o v c s w E i u n few k h = cc
