-- The rows of stores: the step goes on to a state that fits the context after the row.
use Rattle.std.proofs.Common.{◌≡◌, ⊎_elim, ℕ, suc, Bool, true, false, cond, List, [], ◌∷◌, ◌++◌, length, drop, ◌==◌}
use Rattle.std.proofs.Common.{nat_lt, Option, Some, refl, sym, ap, ◌∙◌, subst, is_some, if◌then◌else◌, eqb-true, eq-eqb}
use Rattle.std.proofs.lemmas.Bool.{and_from}
use Rattle.ft_isa.specs.Pending.{Pending, is_oldest}
use Rattle.ft_isa.specs.declared.reg.Reg.{Reg}
use Rattle.ft_isa.specs.declared.colour.Colour.TheVariants.{Green, Blue}
use Rattle.ft_isa.specs.declared.basic.Basic.{Basic}
use Rattle.ft_isa.specs.declared.instr.Instr.TheVariants.{St}
use Rattle.ft_isa.specs.declared.plan.Wild.{Wild}
use Rattle.ft_static.specs.Expression.{Valuation, word_at}
use Rattle.ft_static.specs.Form.{Polynomial, Updates, same_polynomial, value_polynomial, value_updates}
use Rattle.ft_static.specs.NormalForm.{norm_upd}
use Rattle.ft_static.proofs.Equal.{equal_polynomials}
use Rattle.ft_types.specs.declared.object.Object.{Object}
use Rattle.ft_semantics.specs.State.{State, Cells, held, word, cell_at, with_cell}
use Rattle.ft_semantics.specs.Step.{quiet, detected, goes_on, store_blue, commit, commits, execute}
use Rattle.ft_isa.specs.BasicTypes.{int}
use Rattle.ft_typing.specs.TypedWord.{cell_type, HasType, is_seen_as}
use Rattle.ft_typing.specs.declared.why.Why.TheVariants as premise
use Rattle.ft_typing.specs.Context.{FormPair, Context, typed}
use Rattle.ft_typing.specs.TypingRow.{row}
use Rattle.ft_typing.proofs.TypedWords.{is_seen_as_decides}
use Rattle.ft_tolerance.specs.TypedState.{FitsPair, FitsQueue, FitsCells, FitsContext}
use Rattle.ft_types.proofs.Maps.{get-insert}
use Rattle.ft_tolerance.proofs.Premises.{After, after_goes, after_need, after_typed, after_ref, after_oldest}
use Rattle.ft_tolerance.proofs.RegisterRows.{GoesOn, updated, cell_fits, refers}

-- polynomials that the test finds equal denote the same value
pub same_denotes : (p q : Polynomial) (v : Valuation) → same_polynomial p q ≡ true → value_polynomial p v
    ≡ value_polynomial q v
same_denotes p q v e = ap (λ (z : Polynomial). value_polynomial z v) ((equal_polynomials p q).0 e)

-- if one type is accepted as another, each word of the first type has the second type, too
pub has_seen : (o : Object) (w : ℕ) (a b : Basic) → is_seen_as a b ≡ true → HasType o w a → HasType o w b
has_seen o w a b e h = ⊎_elim (λ (s : a ≡ b). subst (HasType o w) s h) (λ (s : b ≡ int). subst (HasType o w) (sym s) tt)
    ((is_seen_as_decides a b).0 e)

-- the queues still fit after a pair is added to each, if these pairs fit
queue_append : (o : Object) (v : Valuation) (ps : List FormPair) (q : Pending) (p : FormPair) (x : ℕ × ℕ) →
    FitsQueue o v ps q → FitsPair o v p x → FitsQueue o v (ps ++ p ∷ []) (q ++ x ∷ [])
queue_append o v [] [] p x f g = (g, tt)
queue_append o v [] (y ∷ q) p x f g = absurd f
queue_append o v (r ∷ ps) [] p x f g = absurd f
queue_append o v (r ∷ ps) (y ∷ q) p x f g = (f.0, queue_append o v ps q p x f.1 g)

-- the two queues have the same length
pub queue_length : (o : Object) (v : Valuation) (ps : List FormPair) (q : Pending) → FitsQueue o v ps q → length ps
    ≡ length q
queue_length o v [] [] f = refl
queue_length o v [] (y ∷ q) f = absurd f
queue_length o v (r ∷ ps) [] f = absurd f
queue_length o v (r ∷ ps) (y ∷ q) f = ap suc (queue_length o v ps q f.1)

pub store_green_row : (o : Object) (v : Valuation) (c : Context) (s : State) (w : List Wild) (E : Type 0) (rd rs : Reg)
    → FitsContext o v c s → After (GoesOn o v s w (execute (St Green rd rs) s w)) E (row o c (St Green rd rs))
store_green_row o v c s w E rd rs h =
    let G = GoesOn o v s w (execute (St Green rd rs) s w) in
    after_typed G E (typed c rd.number) _ (λ a ia.
    after_typed G E (typed c rs.number) _ (λ x ix.
    after_need G E premise.Colour _ _ (λ col. after_ref G E a.basic.refs a.basic.base _ (λ b is.
    after_need G E premise.BasicType _ _ (λ see. after_need G E premise.QueueFull _ _ (λ room.
    let ma = h.registers rd.number a ia in
    let mx = h.registers rs.number x ix in
    let room' : nat_lt (length s.queue) 8 ≡ true = ap (λ n. nat_lt n 8) (sym (queue_length o v c.queue s.queue h.queue))
    ∙ room in
    let pair : FitsPair o v (a.form, x.form) (word s rd, word s rs) = record {
      address = ma.word;
      value = mx.word;
      basic = b;
      cell = refers o v a (held s.registers rd.number) b ma is;
      typed = has_seen o (word s rs) x.basic b see mx.basic;
    } in
    let c' : Context = record c { queue = c.queue ++ (a.form, x.form) ∷ [] } in
    after_goes G E c' (subst (λ (t : Bool). GoesOn o v s w (if t
    then quiet (goes_on (record s { queue = s.queue ++ (word s rd, word s rs) ∷ [] })) w else detected s w) c')
    (sym room')
    (record {
      fits = record {
        lawful = h.lawful;
        registers = h.registers;
        d = h.d;
        queue = queue_append o v c.queue s.queue (a.form, x.form) (word s rd, word s rs) h.queue pair;
        cells = h.cells;
      };
      wild = refl;
      status = refl;
      pc_green = refl;
      pc_blue = refl;
      fetched = refl;
    }))))))))

-- whichever word the cell then holds, the new one or the old one, has the cell's type
written : (o : Object) (b : Basic) (t : Bool) (x z : ℕ) (u : Option ℕ) → (t ≡ true → HasType o x b) → u ≡ Some z →
    HasType o z b → (cond t (Some x) u ≡ Some (if t then x else z)) × HasType o (if t then x else z) b
written o b true x z u f e h = (refl, f refl)
written o b false x z u f e h = (e, h)

-- after a typed word is written to a cell, the cells fit the updated memory form
cells_written : (o : Object) (v : Valuation) (m : Updates) (cells : Cells) (a x : ℕ) (fa fx : Polynomial) (b : Basic) →
    FitsCells o v m cells → a ≡ value_polynomial fa v → x ≡ value_polynomial fx v → cell_type o a ≡ Some b →
    HasType o x b → FitsCells o v (norm_upd m fa fx) (with_cell cells a x)
unfolding FitsCells
cells_written o v m cells a x fa fx b h ea ex at has = λ q b' at'.
    let f = h q b' at' in
    let here : (q == a) ≡ true → HasType o x b' = λ t. let same_type : cell_type o a
    ≡ Some b' = subst (λ z. cell_type o z ≡ Some b') (eqb-true q a t) at' in let same : b ≡ b' = cc in
    subst (HasType o x) same has in
    let g = written o b' (q == a) x (word_at (value_updates m v) q) (cell_at cells q) here f.word f.typed in
    let now : word_at (value_updates (norm_upd m fa fx) v) q ≡ (if q == a then x else word_at (value_updates m v) q) =
    updated m (fa, fx) v q ∙ (λ i. if q == sym ea i then sym ex i else word_at (value_updates m v) q) in
    record {
      word = get-insert cells a x q ∙ g.0 ∙ ap Some (sym now);
      typed = subst (λ z. HasType o z b') (sym now) g.1;
    }

-- if the oldest pair of the static queue denotes what the registers hold, a blue store leads to a state that fits
commit_fits : (o : Object) (v : Valuation) (c : Context) (s : State) (w : List Wild) (a x : ℕ) (fa fx : Polynomial)
    (b : Basic) (p : FormPair) (ps : List FormPair) (q : Pending) → s.queue ≡ q → FitsContext o v c s → a
    ≡ value_polynomial fa v → x ≡ value_polynomial fx v → cell_type o a ≡ Some b → HasType o x b → value_polynomial fa v
    ≡ value_polynomial p.0 v → value_polynomial fx v ≡ value_polynomial p.1 v → FitsQueue o v (p ∷ ps) q →
    GoesOn o v s w (store_blue a x s w) (record c { queue = ps; memory = norm_upd c.memory fa fx })
commit_fits o v c s w a x fa fx b p ps [] eq h ea ex at has sa sx f = absurd f
commit_fits o v c s w a x fa fx b p ps (y ∷ q) eq h ea ex at has sa sx f =
    let pair = f.0 in
    let cell = cell_fits o v c s a b h at in
    let oldest : is_oldest s.queue a x ≡ true = subst (λ (z : Pending). is_oldest z a x
    ≡ true) (sym eq) (and_from _ _ (eq-eqb y.0 a (pair.address ∙ sym sa ∙ sym ea)) (eq-eqb y.1 x (pair.value ∙ sym sx
    ∙ sym ex))) in
    let test : commits a x s ≡ true = and_from _ _ oldest (ap is_some cell.word) in
    let others : drop 1 s.queue ≡ q = ap (drop 1) eq in
    subst (λ (t : Bool). GoesOn o v s w (if t then commit a x s w else detected s w) (record c {
      queue = ps;
      memory = norm_upd c.memory fa fx;
    })) (sym test)
    (record {
      fits = record {
        lawful = h.lawful;
        registers = h.registers;
        d = h.d;
        queue = subst (FitsQueue o v ps) (sym others) f.1;
        cells = cells_written o v c.memory s.cells a x fa fx b h.cells ea ex at has;
      };
      wild = refl;
      status = refl;
      pc_green = refl;
      pc_blue = refl;
      fetched = refl;
    })

pub store_blue_row : (o : Object) (v : Valuation) (c : Context) (s : State) (w : List Wild) (E : Type 0) (rd rs : Reg) →
    FitsContext o v c s → After (GoesOn o v s w (execute (St Blue rd rs) s w)) E (row o c (St Blue rd rs))
store_blue_row o v c s w E rd rs h =
    let G = GoesOn o v s w (execute (St Blue rd rs) s w) in
    after_typed G E (typed c rd.number) _ (λ a ia.
    after_typed G E (typed c rs.number) _ (λ x ix.
    after_need G E premise.Colour _ _ (λ col. after_ref G E a.basic.refs a.basic.base _ (λ b is.
    after_need G E premise.BasicType _ _ (λ see. after_oldest G E c.queue _ (λ p ps eq.
    after_need G E premise.Addresses _ _ (λ sa. after_need G E premise.Values _ _ (λ sx.
    let ma = h.registers rd.number a ia in
    let mx = h.registers rs.number x ix in
    after_goes G E _ (commit_fits o v c s w (word s rd) (word s rs) a.form x.form b p ps s.queue refl h ma.word mx.word
    (refers o v a (held s.registers rd.number) b ma is) (has_seen o (word s rs) x.basic b see mx.basic)
    (same_denotes a.form p.0 v sa) (same_denotes x.form p.1 v sx) (subst (λ (z : List FormPair).
    FitsQueue o v z s.queue) eq h.queue))))))))))
