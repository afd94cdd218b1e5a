-- The rows that transfer: the state fits the target's starting context, under the valuation after the transfer.
use Rattle.std.proofs.Common.{◌≡◌, ℕ, Bool, true, false, cond, not, ◌&&◌, List, [], ◌∷◌, map, slice_get, ◌==◌, Option}
use Rattle.std.proofs.Common.{Some, None, refl, sym, ap, ◌∙◌, subst, arith, true≢false, if◌then◌else◌, eqb-true, eq-eqb}
use Rattle.std.proofs.Common.{ne_eqb}
use Rattle.std.specs.Option.{option_map}
use Rattle.std.specs.FinMap as finite
use Rattle.std.specs.Ordering.{nat_cmp}
use Rattle.std.proofs.lemmas.Bool.{and_parts, and_from, eqb-false}
use Rattle.ft_isa.specs.Words.{code_address}
use Rattle.ft_isa.specs.Pending.{Pending}
use Rattle.ft_isa.specs.declared.colour.Coloured.{Coloured}
use Rattle.ft_isa.specs.declared.reg.Reg.{Reg}
use Rattle.ft_isa.specs.declared.instr.Subst.{Subst}
use Rattle.ft_isa.specs.declared.instr.Instr.TheVariants.{JmpB, BzB}
use Rattle.ft_isa.specs.declared.plan.Wild.{Wild}
use Rattle.ft_static.specs.Expression.{Valuation, WordMap, IsLawful, word_at}
use Rattle.ft_static.specs.Form.{Updates, same_polynomial, same_updates, value_polynomial, value_updates}
use Rattle.ft_static.specs.NodeRules.{AreNodes}
use Rattle.ft_static.proofs.Equal.{equal_updates}
use Rattle.ft_types.specs.declared.object.Object.{Object}
use Rattle.ft_types.specs.declared.object.Block.{Block}
use Rattle.ft_types.specs.declared.object.RegType.{RegType}
use Rattle.ft_types.specs.Objects.{code_type_of, reg_rows, queue_rows, memory_of}
use Rattle.ft_semantics.specs.State.{State, Cells, held, word}
use Rattle.ft_semantics.specs.Step.{Stepping, quiet, detected, transfers, jump_blue, pass, execute}
use Rattle.ft_isa.specs.BasicTypes.{code}
use Rattle.ft_typing.specs.TypedWord.{block_at, HasType}
use Rattle.ft_typing.specs.declared.why.Why.TheVariants as premise
use Rattle.ft_typing.specs.Context.{Typed, StateOfD, d_zero, d_conditional, FormPair, TypedRegisters, Context, typed}
use Rattle.ft_typing.specs.Context.{replacement, memory_form_of, integer_form_after, memory_form_after, typed_row}
use Rattle.ft_typing.specs.Context.{registers_after, queue_pair, start_context}
use Rattle.ft_typing.specs.TypingRow.{row}
use Rattle.ft_typing.specs.RowWords.{Outcome, Ends, is_like, are_like, is_queue_like, leads}
use Rattle.ft_tolerance.specs.TypedState.{valuation_by, FitsRegister, FitsTarget, FitsD, FitsQueue, FitsCells}
use Rattle.ft_tolerance.specs.TypedState.{FitsContext}
use Rattle.ft_types.proofs.Maps.{get-insert}
use Rattle.ft_tolerance.proofs.Lists.{found_there}
use Rattle.ft_tolerance.proofs.Forms.{by_lawful, after_denotes, memory_after_denotes}
use Rattle.ft_tolerance.proofs.Premises.{After, after_goes, after_ends, after_need, after_typed, after_code}
use Rattle.ft_tolerance.proofs.Premises.{after_target, after_conditional, same_colour_is}
use Rattle.ft_tolerance.proofs.RegisterRows.{GoesOn}
use Rattle.ft_tolerance.proofs.StoreRows.{same_denotes, has_seen}
use Rattle.ft_tolerance.proofs.StayingRows.{pass_fits}

-- BLOCKS

-- a block of code type t whose first instruction is at code address a
pub record BlockAt (o : Object) (a t : ℕ) : Type 0 where
  pub block : Block
  pub found : block_at o a ≡ Some block
  pub code_type : block.code_type ≡ t

-- a word of type `code t` is the code address of a block of code type t
pub block_of_type : (o : Object) (a t : ℕ) → HasType o a (code t) → BlockAt o a t
block_of_type o a t h = by_block (block_at o a) refl h
  where
    by_block : (b : Option Block) → block_at o a ≡ b → option_map code_type_of b ≡ Some t → BlockAt o a t
    by_block None e k = cc
    by_block (Some b) e k = record { block = b; found = e; code_type = (let same : b.code_type ≡ t = cc in same) }

-- block b is one of the object's, and begins at code address a
pub record BlockThere (o : Object) (a : ℕ) (b : Block) : Type 0 where
  pub number : ℕ
  pub there : slice_get o.blocks number ≡ Some b
  pub begins : a ≡ code_address b.start

pub block_there : (o : Object) (a : ℕ) (b : Block) → block_at o a ≡ Some b → BlockThere o a b
unfolding block_at
block_there o a b e =
    let f = found_there (λ (x : Block). a == code_address x.start) o.blocks b e in
    record { number = f.place; there = f.there; begins = eqb-true a (code_address b.start) f.passes }

-- no block begins at code address 0
not_zero : (o : Object) (a t : ℕ) → HasType o a (code t) → a ≡ 0 → ⊥
not_zero o a t h z = let b = block_of_type o a t h in let f = block_there o a b.block b.found in
    let begins = f.begins in omega arith

-- WHAT LEADS TO A CONTEXT

-- a register that is like a row of the target fits it afterwards
like_fits : (o : Object) (u : Subst) (v : Valuation) (x : Option Typed) (r : RegType) (y : Coloured) →
    AreNodes o.nodes → IsLawful v → is_like o (replacement o u) x r ≡ true →
    ((t : Typed) → x ≡ Some t → FitsRegister o v t y) → FitsRegister o (valuation_by o u v) (typed_row o r) y
unfolding is_like
like_fits o u v None r y nodes lawful l h = absurd (true≢false (sym l))
like_fits o u v (Some t) r y nodes lawful l h =
    let m = h t refl in
    let p = and_parts _ _ l in
    let q = and_parts _ _ p.0 in
    record {
      colour = m.colour ∙ same_colour_is t.colour r.colour q.0;
      word = m.word ∙ same_denotes t.form (integer_form_after o (replacement o u) r.expr) v p.1
          ∙ after_denotes o u r.expr v nodes lawful;
      basic = has_seen o y.word t.basic r.basic q.1 m.basic;
    }

-- a register fits what is known of it, whether that comes from the last row or from before
by_row : (o : Object) (v : Valuation) (b : Bool) (t y : Typed) (u : Option Typed) (x : Coloured) →
    (b ≡ true → FitsRegister o v t x) → (u ≡ Some y → FitsRegister o v y x) → cond b (Some t) u ≡ Some y →
    FitsRegister o v y x
by_row o v true t y u x f g e = let same : t ≡ y = cc in subst (λ (z : Typed). FitsRegister o v z x) same (f refl)
by_row o v false t y u x f g e = g e

-- registers that are like the rows fit what the rows say
rows_fit : (o : Object) (u : Subst) (v : Valuation) (c : Context) (s : State) (rows : List RegType) (m : TypedRegisters)
    → AreNodes o.nodes → FitsContext o v c s → are_like o (replacement o u) c rows ≡ true →
    ((r : ℕ) (y : Typed) → finite.get m r ≡ Some y → FitsRegister o (valuation_by o u v) y (held s.registers r)) →
    (r : ℕ) (y : Typed) → finite.get (registers_after o m rows) r ≡ Some y →
    FitsRegister o (valuation_by o u v) y (held s.registers r)
unfolding registers_after
rows_fit o u v c s [] m nodes h l k r y e = k r y e
rows_fit o u v c s (row ∷ rows) m nodes h l k r y e =
    let p = and_parts _ _ l in
    let n = row.reg.number in
    rows_fit o u v c s rows (finite.insert m n (typed_row o row)) nodes h p.1
    (λ q z i. by_row o (valuation_by o u v) (q == n) (typed_row o row) z (finite.get m q) (held s.registers q)
    (λ is. subst (λ (j : ℕ). FitsRegister o (valuation_by o u v) (typed_row o row) (held s.registers j))
    (sym (eqb-true q n is)) (like_fits o u v (typed c n) row (held s.registers n) nodes h.lawful p.0 (h.registers n)))
    (k q z)
    (rw (get-insert m n (typed_row o row) q) at i))
    r y e

-- a queue that is like the target's queue rows fits them afterwards
queue_leads : (o : Object) (u : Subst) (v : Valuation) (ps : List FormPair) (rows : List (ℕ × ℕ)) (q : Pending) →
    AreNodes o.nodes → IsLawful v → is_queue_like o (replacement o u) ps rows ≡ true → FitsQueue o v ps q →
    FitsQueue o (valuation_by o u v) (map (queue_pair o) rows) q
unfolding is_queue_like
queue_leads o u v [] [] [] nodes lawful l f = tt
queue_leads o u v [] [] (x ∷ q) nodes lawful l f = absurd f
queue_leads o u v [] (r ∷ rs) q nodes lawful l f = absurd (true≢false (sym l))
queue_leads o u v (p ∷ ps) [] q nodes lawful l f = absurd (true≢false (sym l))
queue_leads o u v (p ∷ ps) (r ∷ rs) [] nodes lawful l f = absurd f
queue_leads o u v (p ∷ ps) (r ∷ rs) (x ∷ q) nodes lawful l f =
    let a = and_parts _ _ l in
    let b = and_parts _ _ a.0 in
    let g = f.0 in (
      record {
        address = g.address ∙ same_denotes p.0 (integer_form_after o (replacement o u) r.0) v b.0
            ∙ after_denotes o u r.0 v nodes lawful;
        value = g.value ∙ same_denotes p.1 (integer_form_after o (replacement o u) r.1) v b.1
            ∙ after_denotes o u r.1 v nodes lawful;
        basic = g.basic;
        cell = g.cell;
        typed = g.typed;
      },
      queue_leads o u v ps rs q nodes lawful a.1 f.1,
    )

-- cells that fit a memory form fit each form that denotes the same memory
same_cells : (o : Object) (v v' : Valuation) (m m' : Updates) (cells : Cells) → value_updates m v
    ≡ value_updates m' v' → FitsCells o v m cells → FitsCells o v' m' cells
unfolding FitsCells
same_cells o v v' m m' cells e h = λ a b at.
    let f = h a b at in
    record {
      word = f.word ∙ ap (λ (z : WordMap). Some (word_at z a)) e;
      typed = subst (λ (z : WordMap). HasType o (word_at z a) b) e f.typed;
    }

-- under a substitution, a context meets the requirements of code type t
pub record Leads (o : Object) (u : Subst) (t : ℕ) (c : Context) : Type 0 where
  pub registers : are_like o (replacement o u) c (reg_rows o t) ≡ true
  pub queue : is_queue_like o (replacement o u) c.queue (queue_rows o t) ≡ true
  pub memory : same_updates c.memory (memory_form_after o (replacement o u) (memory_of o t)) ≡ true

pub after_leads : (G : Context → Type 0) (E : Type 0) (o : Object) (u : Subst) (t : ℕ) (c : Context) (x : Outcome) →
    (Leads o u t c → After G E x) → After G E (leads o u t c x)
unfolding leads
after_leads G E o u t c x h = after_need G E _ _ _ (λ n.
    after_need G E _ _ _ (λ a. after_need G E _ _ _ (λ b.
    after_need G E _ _ _ (λ m. h (record { registers = a; queue = b; memory = m })))))

-- if a context leads to code type t, a state that fits the context fits the starting context of t after the transfer
transferred : (o : Object) (u : Subst) (v : Valuation) (c : Context) (s : State) (a t : ℕ) → AreNodes o.nodes →
    FitsContext o v c s → Leads o u t c → FitsContext o (valuation_by o u v) (start_context o t) (transfers a s)
transferred o u v c s a t nodes h l = record {
  lawful = by_lawful o u v nodes h.lawful;
  registers = rows_fit o u v c s (reg_rows o t) finite.empty nodes h l.registers (λ r y e.
      let none = finite.get-empty {X = Typed} nat_cmp r in cc);
  d = refl;
  queue = queue_leads o u v c.queue (queue_rows o t) s.queue nodes h.lawful l.queue h.queue;
  cells = same_cells o v (valuation_by o u v) c.memory (memory_form_of o (memory_of o t)) s.cells
      (ap (λ (z : Updates). value_updates z v) ((equal_updates _ _).0 l.memory)
      ∙ memory_after_denotes o u (memory_of o t) v nodes h.lawful) h.cells;
}

-- TRANSFERS

-- the machine is at the start of the block at address a, and its state fits the block's starting context
pub record Arrives (o : Object) (v : Valuation) (a : ℕ) (s : State) (w : List Wild) (t : Stepping) : Type 0 where
  pub block : Block
  pub found : block_at o a ≡ Some block
  pub fits : FitsContext o v (start_context o block.code_type) t.state
  pub pc_green : t.state.pc_green ≡ a
  pub pc_blue : t.state.pc_blue ≡ a
  pub wild : t.wild ≡ w
  pub status : t.state.status ≡ s.status
  pub fetched : t.state.fetched ≡ None

-- a blue jump to the address in d arrives at the block there
arrive : (o : Object) (u : Subst) (v : Valuation) (c : Context) (s : State) (w : List Wild) (a t : ℕ) →
    AreNodes o.nodes → FitsContext o v c s → s.d ≡ a → HasType o s.d (code t) → Leads o u t c →
    Arrives o (valuation_by o u v) a s w (jump_blue a s w)
arrive o u v c s w a t nodes h same target l =
    let nonzero : (s.d == 0) ≡ false = ne_eqb s.d 0 (not_zero o s.d t target) in
    let test : (not (s.d == 0) && (s.d == a)) ≡ true = and_from _ _ (ap not nonzero) (eq-eqb s.d a same) in
    let b = block_of_type o a t (subst (λ z. HasType o z (code t)) same target) in
    subst (λ (y : Bool). Arrives o (valuation_by o u v) a s w (if y then quiet (transfers a s) w else detected s w))
    (sym test)
    (record {
      block = b.block;
      found = b.found;
      fits = subst (λ (k : ℕ). FitsContext o (valuation_by o u v) (start_context o k) (transfers a s)) (sym b.code_type)
          (transferred o u v c s a t nodes h l);
      pc_green = same;
      pc_blue = refl;
      wild = refl;
      status = refl;
      fetched = refl;
    })

pub jump_blue_row : (o : Object) (v : Valuation) (c : Context) (s : State) (w : List Wild) (rd : Reg) (u : Subst) →
    AreNodes o.nodes → FitsContext o v c s → After (λ _.
    ⊥) (Arrives o (valuation_by o u v) (word s rd) s w (execute (JmpB rd u) s w)) (row o c (JmpB rd u))
jump_blue_row o v c s w rd u nodes h =
    let G : Context → Type 0 = λ _. ⊥ in
    let E = Arrives o (valuation_by o u v) (word s rd) s w (execute (JmpB rd u) s w) in
    after_typed G E (typed c rd.number) _ (λ a ia.
    after_need G E premise.Colour _ _ (λ col. after_code G E a.basic.refs a.basic.base _ (λ t is.
    after_target G E c.d _ (λ t' f df. after_need G E premise.Targets _ _ (λ both.
    after_leads G E o u t c Ends (λ l.
    let ma = h.registers rd.number a ia in
    let p = and_parts (t == t') (same_polynomial a.form f) both in
    let fd : FitsTarget o v t' f s.d = subst (λ (y : StateOfD). FitsD o v y s.d) df h.d in
    let same : s.d ≡ word s rd = fd.word ∙ sym (same_denotes a.form f v p.1) ∙ sym ma.word in
    after_ends G E (arrive o u v c s w (word s rd) t nodes h same
    (subst (λ k. HasType o s.d (code k)) (sym (eqb-true t t' p.0)) fd.basic) l)))))))

-- a blue branch: it arrives at its target or goes on, depending on its test
pub data Branch (o : Object) (v v' : Valuation) (a : ℕ) (s : State) (w : List Wild) (x : Stepping) (c : Context)
    (b : Bool) : Type 0 where
  taken : b ≡ true → Arrives o v' a s w x → Branch o v v' a s w x c b
  passed : b ≡ false → GoesOn o v s w x c → Branch o v v' a s w x c b

branch_blue_by : (o : Object) (u : Subst) (v : Valuation) (c : Context) (s : State) (w : List Wild) (a t : ℕ) (b : Bool)
    → AreNodes o.nodes → FitsContext o v c s → (b ≡ true → (s.d ≡ a) × HasType o s.d (code t)) → (b ≡ false → s.d ≡ 0) →
    Leads o u t c → Branch o v (valuation_by o u v) a s w (if b then jump_blue a s w
    else pass s w) (record c { d = d_zero }) b
branch_blue_by o u v c s w a t true nodes h at_zero elsewhere l = let y = at_zero refl in
    taken refl (arrive o u v c s w a t nodes h y.0 y.1 l)
branch_blue_by o u v c s w a t false nodes h at_zero elsewhere l =
    passed refl (pass_fits o v c s w d_zero h (elsewhere refl) refl)

pub branch_blue_row : (o : Object) (v : Valuation) (c : Context) (s : State) (w : List Wild) (rz rd : Reg) (u : Subst) →
    AreNodes o.nodes → FitsContext o v c s → After (λ d.
    Branch o v (valuation_by o u v) (word s rd) s w (execute (BzB rz rd u) s w) d (word s rz == 0)) ⊥
    (row o c (BzB rz rd u))
branch_blue_row o v c s w rz rd u nodes h =
    let G : Context → Type 0 = λ d. Branch o v (valuation_by o u v) (word s rd) s w (execute (BzB rz rd u) s w) d
    (word s rz == 0) in
    after_typed G ⊥ (typed c rz.number) _ (λ z iz.
    after_typed G ⊥ (typed c rd.number) _ (λ a ia.
    after_need G ⊥ premise.Colour _ _ (λ col. after_code G ⊥ a.basic.refs a.basic.base _ (λ t is.
    after_conditional G ⊥ c.d _ (λ y t' f dy. after_need G ⊥ premise.Conditions _ _ (λ same_z.
    after_need G ⊥ premise.Targets _ _ (λ both.
    after_leads G ⊥ o u t c _ (λ l.
    let mz = h.registers rz.number z iz in
    let ma = h.registers rd.number a ia in
    let p = and_parts (t == t') (same_polynomial a.form f) both in
    let fd : FitsD o v (d_conditional y t' f) s.d = subst (λ (k : StateOfD). FitsD o v k s.d) dy h.d in
    let zy : word s rz ≡ value_polynomial y v = mz.word ∙ same_denotes z.form y v same_z in
    let at_zero : (word s rz == 0) ≡ true → (s.d ≡ word s rd) × HasType o s.d (code t) = λ k.
    let g = fd.0 (sym zy ∙ eqb-true (word s rz) 0 k) in (
      g.word ∙ sym (same_denotes a.form f v p.1) ∙ sym ma.word,
      subst (λ j. HasType o s.d (code j)) (sym (eqb-true t t' p.0)) g.basic,
    ) in
    after_goes G ⊥ _ (branch_blue_by o u v c s w (word s rd) t (word s rz == 0) nodes h at_zero (λ k.
    fd.1 (λ n. eqb-false (word s rz) 0 k (zy ∙ n))) l)))))))))
