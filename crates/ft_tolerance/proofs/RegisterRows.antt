-- The rows that write a register: the step goes on to a state that fits the context after the row.
use Rattle.std.proofs.Common.{◌≡◌, ⊎_elim, ◌+◌, ◌%◌, ◌<◌, ◌≤◌, ℕ, Bool, true, false, cond, List, [], ◌∷◌, length, ◌==◌}
use Rattle.std.proofs.Common.{Option, Some, None, refl, sym, ap, ◌∙◌, subst, arith, if◌then◌else◌, eqb-true, eq-eqb}
use Rattle.std.proofs.Common.{ne_eqb}
use Rattle.std.proofs.Math.Nat.{mod-eq_of_lt, mod-lt}
use Rattle.std.specs.Option.{option_or}
use Rattle.std.proofs.lemmas.Bool.{cases_Bool, eqb-false}
use Rattle.ft_isa.specs.Words.{apply, cell_address, cell_in_run, IsWord}
use Rattle.ft_isa.specs.Pending.{Pending, newest_at}
use Rattle.ft_isa.specs.declared.op.Op.{Op}
use Rattle.ft_isa.specs.declared.op.Op.TheVariants.{Add}
use Rattle.ft_isa.specs.declared.reg.Reg.{Reg}
use Rattle.ft_isa.specs.declared.colour.Colour.{Colour}
use Rattle.ft_isa.specs.declared.colour.Colour.TheVariants.{Green, Blue}
use Rattle.ft_isa.specs.declared.colour.Coloured.{Coloured}
use Rattle.ft_isa.specs.declared.basic.Basic.{Basic}
use Rattle.ft_isa.specs.declared.instr.Instr.TheVariants.{OpReg, OpWord, Mov, Ld, Idx}
use Rattle.ft_isa.specs.declared.plan.Wild.{Wild}
use Rattle.ft_static.specs.Expression.{IsLawful, Valuation, word_at}
use Rattle.ft_static.specs.Form.{Polynomial, Updates, value_polynomial, value_updates}
use Rattle.ft_static.specs.NormalForm.{constant, norm_op, norm_rem, norm_sel, norm_upd}
use Rattle.ft_static.proofs.FormsDenote.{value_constant}
use Rattle.ft_static.proofs.FormRows.{value_op, value_rem, value_upd, value_sel}
use Rattle.ft_static.proofs.Words.{word_at-with_word}
use Rattle.ft_types.specs.declared.object.Object.{Object}
use Rattle.ft_types.specs.Spellable.{IsRun}
use Rattle.ft_semantics.specs.State.{State, held, word, colour}
use Rattle.ft_semantics.specs.Step.{Stepping, next, writes, found, load, execute}
use Rattle.ft_isa.specs.BasicTypes.{int, ref}
use Rattle.ft_typing.specs.TypedWord.{cell_type, HasType, run_type, has_type}
use Rattle.ft_typing.specs.declared.why.Why.TheVariants as premise
use Rattle.ft_typing.specs.Context.{Typed, FormPair, Context, typed, with_type}
use Rattle.ft_typing.specs.TypingRow.{row}
use Rattle.ft_typing.specs.RowWords.{pending_memory, seen_memory, run_form}
use Rattle.ft_typing.proofs.Runs.{run_type_is}
use Rattle.ft_typing.proofs.TypedWords.{has_type_decides}
use Rattle.ft_tolerance.specs.TypedState.{FitsRegister, FitsQueue, FitsCell, FitsCells, FitsContext}
use Rattle.ft_types.proofs.Maps.{get-insert}
use Rattle.ft_semantics.proofs.Held.{held-with_held}
use Rattle.ft_tolerance.proofs.Premises.{After, after_goes, after_need, after_typed, after_ref, after_run}

-- the machine goes on, and its state fits this context
pub record GoesOn (o : Object) (v : Valuation) (s : State) (w : List Wild) (t : Stepping) (c : Context) : Type 0 where
  pub fits : FitsContext o v c t.state
  pub wild : t.wild ≡ w
  pub status : t.state.status ≡ s.status
  pub pc_green : t.state.pc_green ≡ next s.pc_green
  pub pc_blue : t.state.pc_blue ≡ next s.pc_blue
  pub fetched : t.state.fetched ≡ None

-- WRITTEN REGISTERS

register_by : (o : Object) (v : Valuation) (b : Bool) (t t' : Typed) (u : Option Typed) (x y : Coloured) →
    FitsRegister o v t x → ((z : Typed) → u ≡ Some z → FitsRegister o v z y) → cond b (Some t) u ≡ Some t' →
    FitsRegister o v t' (cond b x y)
register_by o v true t t' u x y m h e = let same : t ≡ t' = cc in subst (λ (z : Typed). FitsRegister o v z x) same m
register_by o v false t t' u x y m h e = h t' e

-- if a word fits what is then known of a register, writing it there leads to a state that fits
pub write_fits : (o : Object) (v : Valuation) (c : Context) (s : State) (w : List Wild) (rd : Reg) (t : Typed)
    (x : Coloured) → FitsContext o v c s → FitsRegister o v t x →
    GoesOn o v s w (writes rd x.colour x.word s w) (with_type rd.number t c)
write_fits o v c s w rd t x h m = record {
  fits = record {
    lawful = h.lawful;
    registers = λ r t' e. rw (held-with_held s.registers rd.number x r)
        (register_by o v (r == rd.number) t t' (typed c r) x (held s.registers r) m (h.registers r)
        (rw (get-insert c.registers rd.number t r) at e));
    d = h.d;
    queue = h.queue;
    cells = h.cells;
  };
  wild = refl;
  status = refl;
  pc_green = refl;
  pc_blue = refl;
  fetched = refl;
}

-- the constant polynomial of a word denotes that word
constant_denotes : (w : ℕ) (v : Valuation) → IsWord w → w ≡ value_polynomial (constant w) v
constant_denotes w v h = sym (value_constant w v ∙ mod-eq_of_lt h)

pub op_row : (o : Object) (v : Valuation) (c : Context) (s : State) (w : List Wild) (E : Type 0) (op : Op)
    (rd rs rt : Reg) → FitsContext o v c s → After (GoesOn o v s w (execute (OpReg op rd rs rt) s w)) E
    (row o c (OpReg op rd rs rt))
op_row o v c s w E op rd rs rt h =
    let G = GoesOn o v s w (execute (OpReg op rd rs rt) s w) in
    after_typed G E (typed c rs.number) _ (λ a ia.
    after_typed G E (typed c rt.number) _ (λ b ib. after_need G E premise.Colour _ _ (λ col.
    let ma = h.registers rs.number a ia in
    let mb = h.registers rt.number b ib in
    after_goes G E _ (write_fits o v c s w rd (record {
      colour = a.colour;
      basic = int;
      form = norm_op op a.form b.form;
    }) (record { colour = colour s rs; word = apply op (word s rs) (word s rt) }) h
    (record {
      colour = ma.colour;
      word = (λ i. apply op (ma.word i) (mb.word i))
          ∙ sym (value_op op a.form b.form v h.lawful);
      basic = tt;
    })))))

pub op_word_row : (o : Object) (v : Valuation) (c : Context) (s : State) (w : List Wild) (E : Type 0) (op : Op)
    (rd rs : Reg) (x : Coloured) → IsWord x.word → FitsContext o v c s →
    After (GoesOn o v s w (execute (OpWord op rd rs x) s w)) E (row o c (OpWord op rd rs x))
op_word_row o v c s w E op rd rs x below h =
    let G = GoesOn o v s w (execute (OpWord op rd rs x) s w) in
    after_typed G E (typed c rs.number) _ (λ a ia. after_need G E premise.Colour _ _ (λ col.
    let ma = h.registers rs.number a ia in
    after_goes G E _ (write_fits o v c s w rd (record {
      colour = a.colour;
      basic = int;
      form = norm_op op a.form (constant x.word);
    }) (record {
      colour = colour s rs;
      word = apply op (word s rs) x.word;
    }) h
    (record {
      colour = ma.colour;
      word = (λ i. apply op (ma.word i) (constant_denotes x.word v below i))
          ∙ sym (value_op op a.form (constant x.word) v h.lawful);
      basic = tt;
    }))))

pub mov_row : (o : Object) (v : Valuation) (c : Context) (s : State) (w : List Wild) (E : Type 0) (rd : Reg)
    (x : Coloured) (b : Basic) → IsWord x.word → FitsContext o v c s →
    After (GoesOn o v s w (execute (Mov rd b x) s w)) E (row o c (Mov rd b x))
mov_row o v c s w E rd x b below h =
    let G = GoesOn o v s w (execute (Mov rd b x) s w) in
    after_need G E premise.BasicType (has_type o x.word b) _ (λ t.
    after_goes G E _ (write_fits o v c s w rd (record { colour = x.colour; basic = b; form = constant x.word }) x h
    (record { colour = refl; word = constant_denotes x.word v below; basic = (has_type_decides o x.word b).0 t })))

-- the form of the address of a cell in a run denotes that address
run_denotes : (first m : ℕ) (p : Polynomial) (v : Valuation) → IsLawful v → 1 ≤ m → first + m ≤ 1024 →
    cell_in_run first m (value_polynomial p v) ≡ value_polynomial (run_form first m p) v
unfolding apply
run_denotes first m p v lawful some few =
    let w = value_polynomial p v in
    let l : w % m < m = mod-lt w some in
    let base : value_polynomial (constant (cell_address first)) v
    ≡ cell_address first = value_constant (cell_address first) v ∙ mod-eq_of_lt (omega (arith, few)) in
    sym (
    value_op Add (constant (cell_address first)) (norm_rem p m) v lawful
    ∙ rw (base, value_rem p m v lawful) (mod-eq_of_lt (omega (arith, few, l)))
    ∙ (let z : cell_address first + w % m ≡ cell_in_run first m w = omega arith in z)
    )

pub index_row : (o : Object) (v : Valuation) (c : Context) (s : State) (w : List Wild) (E : Type 0) (rd rs : Reg)
    (first m : ℕ) → length o.cells ≤ 1024 → IsRun (length o.cells) first m → FitsContext o v c s →
    After (GoesOn o v s w (execute (Idx rd rs first m) s w)) E (row o c (Idx rd rs first m))
index_row o v c s w E rd rs first m few run h =
    let G = GoesOn o v s w (execute (Idx rd rs first m) s w) in
    after_typed G E (typed c rs.number) _ (λ a ia. after_run G E (run_type o first m) _ (λ b ib.
    let ma = h.registers rs.number a ia in
    let some = run.length.0 in
    let ends = run.ends in
    let cells = (run_type_is o first m b some ends).0 ib in
    after_goes G E _ (write_fits o v c s w rd (record {
      colour = a.colour;
      basic = ref b;
      form = run_form first m a.form;
    }) (record { colour = colour s rs; word = cell_in_run first m (word s rs) }) h
    (record {
      colour = ma.colour;
      word = ap (cell_in_run first m) ma.word ∙ run_denotes first m a.form v h.lawful some (omega (arith, few, ends));
      basic = cells.each (word s rs % m) (mod-lt (word s rs) some);
    }))))

-- LOADS

-- an entry at the address replaces the old word
newest_by : (b : Bool) (u : Option ℕ) (x old : ℕ) → option_or (option_or u (if b then Some x else None)) (Some old)
    ≡ option_or u (Some (cond b x old))
newest_by true None x old = refl
newest_by false None x old = refl
newest_by b (Some y) x old = refl

-- the word that a load of the pending memory finds
pub record FindsWord (o : Object) (v : Valuation) (m : Updates) (a : ℕ) (b : Basic) (u : Option ℕ) : Type 0 where
  pub word : ℕ
  pub is : u ≡ Some word
  pub denoted : word ≡ word_at (value_updates m v) a
  pub typed : HasType o word b

-- an update changes the word at its own address only
pub updated : (m : Updates) (p : FormPair) (v : Valuation) (a : ℕ) → word_at (value_updates (norm_upd m p.0 p.1) v) a
    ≡ (if a == value_polynomial p.0 v then value_polynomial p.1 v else word_at (value_updates m v) a)
updated m p v a = ap (λ z. word_at z a) (value_upd m p.0 p.1 v)
    ∙ word_at-with_word (value_updates m v) (value_polynomial p.0 v) (value_polynomial p.1 v) a

-- a load finds the value of the newest entry at its address, or otherwise the old word
newest_fits : (o : Object) (v : Valuation) (a : ℕ) (b : Basic) → cell_type o a ≡ Some b →
    (ps : List FormPair) (q : Pending) (m : Updates) (old : ℕ) → FitsQueue o v ps q → old
    ≡ word_at (value_updates m v) a → HasType o old b →
    FindsWord o v (pending_memory m ps) a b (option_or (newest_at q a) (Some old))
unfolding newest_at pending_memory
newest_fits o v a b at [] [] m old f e k = record { word = old; is = refl; denoted = e; typed = k }
newest_fits o v a b at [] (x ∷ q) m old f e k = absurd f
newest_fits o v a b at (p ∷ ps) [] m old f e k = absurd f
newest_fits o v a b at (p ∷ ps) (x ∷ q) m old f e k =
    let pair = f.0 in
    let see = updated m p v a in
    subst (FindsWord o v (pending_memory (norm_upd m p.0 p.1) ps) a b)
    (sym (newest_by (x.0 == a) (newest_at q a) x.1 old)) (⊎_elim
    (λ (is : (x.0 == a) ≡ true).
    let here : x.0 ≡ a = eqb-true x.0 a is in
    let there = pair.cell in
    let same : pair.basic ≡ b = cc in
    let test : (a == value_polynomial p.0 v) ≡ true = eq-eqb a (value_polynomial p.0 v) (sym here ∙ pair.address) in
    let now : x.1 ≡ word_at (value_updates (norm_upd m p.0 p.1) v) a = pair.value
    ∙ sym (see ∙ ap (λ t. if t then value_polynomial p.1 v else word_at (value_updates m v) a) test) in
    rw is (newest_fits o v a b at ps q (norm_upd m p.0 p.1) x.1 f.1 now (subst (HasType o x.1) same pair.typed)))
    (λ (other : (x.0 == a) ≡ false).
    let test : (a == value_polynomial p.0 v) ≡ false = ne_eqb a (value_polynomial p.0 v) (λ z.
    eqb-false x.0 a other (pair.address ∙ sym z)) in
    let now : old ≡ word_at (value_updates (norm_upd m p.0 p.1) v) a = e
    ∙ sym (see ∙ ap (λ t. if t then value_polynomial p.1 v else word_at (value_updates m v) a) test) in
    rw other (newest_fits o v a b at ps q (norm_upd m p.0 p.1) old f.1 now k))
    (cases_Bool (x.0 == a)))

-- in a state that fits a context, each typed cell fits too
pub cell_fits : (o : Object) (v : Valuation) (c : Context) (s : State) (a : ℕ) (b : Basic) → FitsContext o v c s →
    cell_type o a ≡ Some b → FitsCell o v c.memory s.cells a b
unfolding FitsCells
cell_fits o v c s a b h at = h.cells a b at

-- a load finds the word that its form denotes, with the cell's type
pub finds : (o : Object) (v : Valuation) (k : Colour) (c : Context) (s : State) (a : ℕ) (b : Basic) →
    FitsContext o v c s → cell_type o a ≡ Some b → FindsWord o v (seen_memory k c) a b (found k s a)
finds o v Green c s a b h at =
    let f = cell_fits o v c s a b h at in
    subst (λ (u : Option ℕ). FindsWord o v (pending_memory c.memory c.queue) a b (option_or (newest_at s.queue a) u))
    (sym f.word)
    (newest_fits o v a b at c.queue s.queue c.memory (word_at (value_updates c.memory v) a) h.queue refl f.typed)
finds o v Blue c s a b h at =
    let f = cell_fits o v c s a b h at in
    record { word = word_at (value_updates c.memory v) a; is = f.word; denoted = refl; typed = f.typed }

-- a register of a `ref` type holds the address of a cell of the type referred to
pub refers : (o : Object) (v : Valuation) (t : Typed) (x : Coloured) (b : Basic) → FitsRegister o v t x → t.basic
    ≡ ref b → cell_type o x.word ≡ Some b
refers o v t x b m is = subst (λ (z : Basic). HasType o x.word z) is m.basic

pub load_row : (o : Object) (v : Valuation) (c : Context) (s : State) (w : List Wild) (E : Type 0) (k : Colour)
    (rd rs : Reg) → FitsContext o v c s → After (GoesOn o v s w (execute (Ld k rd rs) s w)) E (row o c (Ld k rd rs))
load_row o v c s w E k rd rs h =
    let G = GoesOn o v s w (execute (Ld k rd rs) s w) in
    after_typed G E (typed c rs.number) _ (λ t it.
    after_need G E premise.Colour _ _ (λ col. after_ref G E t.basic.refs t.basic.base _ (λ b is.
    let m = h.registers rs.number t it in
    let n = finds o v k c s (word s rs) b h (refers o v t (held s.registers rs.number) b m is) in
    let t' : Typed = record { colour = k; basic = b; form = norm_sel (seen_memory k c) t.form } in
    after_goes G E (with_type rd.number t' c) (subst (λ (p : Option ℕ).
    GoesOn o v s w (load k rd p s w) (with_type rd.number t' c)) (sym n.is)
    (write_fits o v c s w rd t' (record { colour = k; word = n.word }) h (record {
      colour = refl;
      word = n.denoted ∙ ap (word_at (value_updates (seen_memory k c) v)) m.word
          ∙ sym (value_sel (seen_memory k c) t.form v h.lawful);
      basic = n.typed;
    }))))))
