-- What two neighbours that may be exchanged do to a machine.
use Rattle.std.proofs.Common.{◌≡◌, ◌≢◌, ℕ, suc, Bool, true, false, cond, ◌&&◌, ◌==◌, nat_lt, List, [], ◌∷◌, ◌++◌}
use Rattle.std.proofs.Common.{length, drop, Option, Some, None, refl, sym, ap, ◌∙◌, subst, arith, eq-eqb, eqb-true}
use Rattle.std.proofs.Common.{ne_eqb, if◌then◌else◌}
use Rattle.std.specs.Option.{option_or}
use Rattle.std.proofs.lemmas.Bool.{and_parts, and_from, or_left, or_right, ltb-true, lt-ltb}
use Rattle.ft_isa.specs.Words.{apply, cell_in_run}
use Rattle.ft_isa.specs.Pending.{Pending, is_oldest, newest_at}
use Rattle.ft_isa.specs.declared.reg.Reg.{Reg}
use Rattle.ft_isa.specs.declared.colour.Colour.{Colour}
use Rattle.ft_isa.specs.declared.colour.Colour.TheVariants.{Green, Blue}
use Rattle.ft_isa.specs.declared.colour.Coloured.{Coloured}
use Rattle.ft_isa.specs.declared.instr.Instr.{Instr}
use Rattle.ft_isa.specs.declared.instr.Instr.TheVariants.{OpReg, OpWord, Mov, Ld, St, Idx}
use Rattle.ft_isa.specs.declared.output.Output.{Output}
use Rattle.ft_isa.specs.declared.plan.Wild.{Wild}
use Rattle.ft_semantics.specs.declared.status.Status.TheVariants.{Detected}
use Rattle.ft_semantics.specs.State.{State, Registers, Cells, held, with_held, word, cell_at, is_cell, with_cell}
use Rattle.ft_semantics.specs.Step.{Stepping, quiet, detected, goes_on, load, found, commits, execute}
use Rattle.ft_types.proofs.Maps.{get-insert}
use Rattle.ft_semantics.proofs.Held.{held-with_held}
use Rattle.ft_isa.specs.Instructions.{is_fixed, is_leading, written, reads}
use Rattle.ft_exchange.specs.Exchange.{is_trailing, leaves_alone}
use Rattle.ft_exchange.proofs.Permits.{not_read, not_written, read_other, trailing_load, leading_load}
use Rattle.ft_exchange.proofs.Crossing.{insert-insert}

-- the part of a state that is read and changed by instructions that are not fixed
pub record Core : Type 0 where
  pub registers : Registers
  pub queue : Pending
  pub cells : Cells

abbrev pub core : State → Core
core s = record { registers = s.registers; queue = s.queue; cells = s.cells }

-- the state with another core, after an instruction that continues with the next one
abbrev pub moved : State → Core → State
moved s m = goes_on (record s { registers = m.registers; queue = m.queue; cells = m.cells })

abbrev loaded : Colour → Option ℕ → Option Coloured
loaded k None = None
loaded k (Some v) = Some (record { colour = k; word = v })

abbrev seen : Colour → Core → ℕ → Option ℕ
seen Green m a = option_or (newest_at m.queue a) (cell_at m.cells a)
seen Blue m a = cell_at m.cells a

-- what an instruction writes to its register
abbrev puts : Instr → Core → Option Coloured
puts (OpReg op rd rs rt) m = Some (record {
  colour = (held m.registers rs.number).colour;
  word = apply op (held m.registers rs.number).word (held m.registers rt.number).word;
})
puts (OpWord op rd rs value) m = Some (record {
  colour = (held m.registers rs.number).colour;
  word = apply op (held m.registers rs.number).word value.word;
})
puts (Mov rd basic value) m = Some value
puts (Ld k rd rs) m = loaded k (seen k m (held m.registers rs.number).word)
puts (Idx rd rs first n) m = Some (record {
  colour = (held m.registers rs.number).colour;
  word = cell_in_run first n (held m.registers rs.number).word;
})
puts i m = None

-- the core after a register is written
abbrev pub with_put : ℕ → Coloured → Core → Core
with_put r x m = record m { registers = with_held m.registers r x }

abbrev pub with_pending : ℕ → ℕ → Core → Core
with_pending a v m = record m { queue = m.queue ++ (a, v) ∷ [] }

abbrev pub with_commit : ℕ → ℕ → Core → Core
with_commit a v m = record m { queue = drop 1 m.queue; cells = with_cell m.cells a v }

-- what an instruction that is not fixed does, if no fault is detected and no load is wild: the core after it, and the
-- output
pub data Does : Instr → Core → Core → Option Output → Type 0 where
  writes : {i : Instr} {m : Core} (r : ℕ) (x : Coloured) → written i ≡ Some r → puts i m ≡ Some x →
      Does i m (with_put r x m) None
  queues : {m : Core} (rd rs : Reg) → nat_lt (length m.queue) 8 ≡ true →
      Does (St Green rd rs) m (with_pending (held m.registers rd.number).word (held m.registers rs.number).word m) None
  commits_it : {m : Core} (rd rs : Reg) → (is_oldest m.queue (held m.registers rd.number).word
      (held m.registers rs.number).word && is_cell m.cells (held m.registers rd.number).word) ≡ true →
      Does (St Blue rd rs) m (with_commit (held m.registers rd.number).word (held m.registers rs.number).word m)
      (Some (record { addr = (held m.registers rd.number).word; value = (held m.registers rs.number).word }))

-- THE STEP

-- a load of a word has the effect of writing it to its register
loaded_execute : (k : Colour) (rd rs : Reg) (s : State) (w : List Wild) (x : Coloured) (u : Option ℕ) → loaded k u
    ≡ Some x → load k rd u s w ≡ quiet (moved s (with_put rd.number x (core s))) w
loaded_execute k rd rs s w x None e = cc
loaded_execute k rd rs s w x (Some v) e = (let same : record { colour = k; word = v } ≡ x = cc in
    ap (λ (z : Coloured). quiet (moved s (with_put rd.number z (core s))) w) same)

seen_found : (k : Colour) (s : State) (a : ℕ) → seen k (core s) a ≡ found k s a
seen_found Green s a = refl
seen_found Blue s a = refl

-- steps that write the same value to the same register are equal
put_there : (q r : ℕ) (y x : Coloured) (s : State) (w : List Wild) → Some q ≡ Some r → Some y ≡ Some x →
    quiet (moved s (with_put q y (core s))) w ≡ quiet (moved s (with_put r x (core s))) w
put_there q r y x s w e f = (let a : q ≡ r = cc in let b : y ≡ x = cc in
    λ j. quiet (moved s (with_put (a j) (b j) (core s))) w)

put_execute : (i : Instr) (s : State) (w : List Wild) (r : ℕ) (x : Coloured) → written i ≡ Some r → puts i (core s)
    ≡ Some x → execute i s w ≡ quiet (moved s (with_put r x (core s))) w
put_execute (OpReg op rd rs rt) s w r x e f = put_there _ _ _ _ s w e f
put_execute (OpWord op rd rs value) s w r x e f = put_there _ _ _ _ s w e f
put_execute (Mov rd basic value) s w r x e f = put_there _ _ _ _ s w e f
put_execute (Ld k rd rs) s w r x e f =
    loaded_execute k rd rs s w x (found k s (word s rs)) (ap (loaded k) (sym (seen_found k s (word s rs))) ∙ f)
    ∙ put_there _ _ _ _ s w e refl
put_execute (Idx rd rs first n) s w r x e f = put_there _ _ _ _ s w e f
put_execute i s w r x e f = cc

abbrev pub went : State → Core → List Wild → Option Output → Stepping
went s m w x = record { state = moved s m; wild = w; output = x }

executes : (i : Instr) (s : State) (c m : Core) (w : List Wild) (x : Option Output) → core s ≡ c → Does i c m x →
    execute i s w ≡ went s m w x
executes i s c m w x same (writes r v e f) = put_execute i s w r v e (ap (puts i) same ∙ f)
    ∙ ap (λ (z : Core). quiet (moved s (with_put r v z)) w) same
executes _ s c _ w _ same (queues rd rs h) =
    (λ j. if eight j then quiet (moved s (with_pending (word s rd) (word s rs) (core s))) w else detected s w)
    ∙ ap (λ (z : Core). quiet (moved s (with_pending (held z.registers rd.number).word (held z.registers rs.number).word
    z)) w) same
  where
    eight : nat_lt (length s.queue) 8 ≡ true
    eight = ap (λ (z : Core). nat_lt (length z.queue) 8) same ∙ h
executes _ s c _ w _ same (commits_it rd rs h) =
    (λ j. if oldest j then went s (with_commit (word s rd) (word s rs) (core s)) w
    (Some (record { addr = word s rd; value = word s rs })) else detected s w)
    ∙ ap (λ (z : Core). went s (with_commit (held z.registers rd.number).word (held z.registers rs.number).word z) w
    (Some (record { addr = (held z.registers rd.number).word; value = (held z.registers rs.number).word }))) same
  where
    oldest : commits (word s rd) (word s rs) s ≡ true
    oldest = ap (λ (z : Core). is_oldest z.queue (held z.registers rd.number).word (held z.registers rs.number).word
        && is_cell z.cells (held z.registers rd.number).word) same ∙ h

pub does_execute : (i : Instr) (s : State) (m : Core) (w : List Wild) (x : Option Output) → Does i (core s) m x →
    execute i s w ≡ went s m w x
does_execute i s m w x h = executes i s (core s) m w x refl h

-- what an instruction that isn't fixed does to a state, if no fault is detected
pub record Done_ (i : Instr) (c : Core) : Type 0 where
  pub after : Core
  pub output : Option Output
  pub does : Does i c after output

load_done : (k : Colour) (rd rs : Reg) (s : State) (u : Option ℕ) → seen k (core s) (word s rs) ≡ u →
    (load k rd u s []).state.status ≢ Detected → Done_ (Ld k rd rs) (core s)
load_done k rd rs s None e h = absurd (h refl)
load_done k rd rs s (Some v) e h = record {
  after = _;
  output = None;
  does = writes rd.number (record { colour = k; word = v }) refl (ap (loaded k) e);
}

green_done : (rd rs : Reg) (s : State) (b : Bool) → nat_lt (length s.queue) 8 ≡ b →
    (if b then quiet (goes_on (record s { queue = s.queue ++ (word s rd, word s rs) ∷ [] })) []
    else detected s []).state.status ≢ Detected → Done_ (St Green rd rs) (core s)
green_done rd rs s true e h = record { after = _; output = None; does = queues rd rs e }
green_done rd rs s false e h = absurd (h refl)

blue_done : (rd rs : Reg) (s : State) (b : Bool) → commits (word s rd) (word s rs) s ≡ b →
    (if b then went s (with_commit (word s rd) (word s rs) (core s)) []
    (Some (record { addr = word s rd; value = word s rs })) else detected s []).state.status ≢ Detected →
    Done_ (St Blue rd rs) (core s)
blue_done rd rs s true e h = record { after = _; output = _; does = commits_it rd rs e }
blue_done rd rs s false e h = absurd (h refl)

pub executed : (i : Instr) (s : State) → is_fixed i ≡ false → (execute i s []).state.status ≢ Detected →
    Done_ i (core s)
executed (OpReg op rd rs rt) s free h = record { after = _; output = None; does = writes rd.number _ refl refl }
executed (OpWord op rd rs value) s free h = record { after = _; output = None; does = writes rd.number _ refl refl }
executed (Mov rd basic value) s free h = record { after = _; output = None; does = writes rd.number value refl refl }
executed (Ld k rd rs) s free h = load_done k rd rs s (found k s (word s rs)) (seen_found k s (word s rs)) h
executed (St Green rd rs) s free h = green_done rd rs s (nat_lt (length s.queue) 8) refl h
executed (St Blue rd rs) s free h = blue_done rd rs s (commits (word s rd) (word s rs) s) refl h
executed (Idx rd rs first n) s free h = record { after = _; output = None; does = writes rd.number _ refl refl }
executed i s free h = cc

-- BOTH ORDERS

-- the value written depends only on the registers read and, for a load, on what it sees
puts_same : (i : Instr) (m n : Core) → ((r : ℕ) → reads i r ≡ true → held n.registers r ≡ held m.registers r) →
    ((k : Colour) (rd rs : Reg) (a : ℕ) → i ≡ Ld k rd rs → seen k n a ≡ seen k m a) → puts i n ≡ puts i m
puts_same (OpReg op rd rs rt) m n h l =
    (let s = h rs.number (or_left (rs.number == rs.number) (rt.number == rs.number) (eq-eqb rs.number rs.number refl))
    in
    let t = h rt.number (or_right (rs.number == rt.number) (rt.number == rt.number) (eq-eqb rt.number rt.number refl))
    in
    λ j. Some (record { colour = (s j).colour; word = apply op (s j).word (t j).word }))
puts_same (OpWord op rd rs value) m n h l = (let s = h rs.number (eq-eqb rs.number rs.number refl) in
    λ j. Some (record { colour = (s j).colour; word = apply op (s j).word value.word }))
puts_same (Ld k rd rs) m n h l = (let s = h rs.number (eq-eqb rs.number rs.number refl) in
    ap (loaded k) (l k rd rs (held n.registers rs.number).word refl ∙ (λ j. seen k m (s j).word)))
puts_same (Idx rd rs first k) m n h l = (let s = h rs.number (eq-eqb rs.number rs.number refl) in
    λ j. Some (record { colour = (s j).colour; word = cell_in_run first k (s j).word }))
puts_same i m n h l = refl

held_other : (m : Registers) (r : ℕ) (x : Coloured) (q : ℕ) → (q == r) ≡ false → held (with_held m r x) q ≡ held m q
held_other m r x q e = held-with_held m r x q ∙ ap (λ b. cond b x (held m q)) e

-- what a green load sees is unchanged after the oldest entry is committed
or_oldest : (u c : Option ℕ) (b : Bool) (v : ℕ) → option_or (option_or u (if b then Some v else None)) c
    ≡ option_or u (cond b (Some v) c)
or_oldest None c true v = refl
or_oldest None c false v = refl
or_oldest (Some y) c b v = refl

pub turned : (a b : ℕ) → (a == b) ≡ (b == a)
turned a b = by_test (a == b) refl
  where
    by_test : (t : Bool) → (a == b) ≡ t → (a == b) ≡ (b == a)
    by_test true e = e ∙ sym (eq-eqb b a (sym (eqb-true a b e)))
    by_test false e = e ∙ sym (ne_eqb b a (λ (f : b ≡ a). let g : (a == b) ≡ true = eq-eqb a b (sym f) in absurd (cc)))

committed_seen : (q : Pending) (cells : Cells) (a v x : ℕ) → is_oldest q a v ≡ true →
    option_or (newest_at (drop 1 q) x) (cell_at (with_cell cells a v) x) ≡ option_or (newest_at q x) (cell_at cells x)
unfolding newest_at
committed_seen [] cells a v x h = cc
committed_seen (e ∷ q) cells a v x h =
    let p = and_parts (e.0 == a) (e.1 == v) h in
    let ea : e.0 ≡ a = eqb-true e.0 a p.0 in
    let ev : e.1 ≡ v = eqb-true e.1 v p.1 in
    ap (option_or (newest_at q x)) (get-insert cells a v x
    ∙ ap (λ b. cond b (Some v) (cell_at cells x)) (turned x a ∙ ap (λ z. z == x) (sym ea))
    ∙ ap (λ z. cond (e.0 == x) (Some z) (cell_at cells x)) (sym ev))
    ∙ sym (or_oldest (newest_at q x) (cell_at cells x) (e.0 == x) e.1)

-- it makes no difference whether an entry is queued before or after the oldest one is committed
drop_append : (q : Pending) (a v : ℕ) (x : ℕ × ℕ) → is_oldest q a v ≡ true → drop 1 (q ++ x ∷ []) ≡ drop 1 q ++ x ∷ []
drop_append [] a v x h = cc
drop_append (e ∷ q) a v x h = refl

oldest_append : (q : Pending) (a v : ℕ) (x : ℕ × ℕ) → is_oldest q a v ≡ true → is_oldest (q ++ x ∷ []) a v ≡ true
oldest_append [] a v x h = cc
oldest_append (e ∷ q) a v x h = h

fewer : (q : Pending) → nat_lt (length q) 8 ≡ true → nat_lt (length (drop 1 q)) 8 ≡ true
fewer [] h = h
fewer (e ∷ q) h = lt-ltb (length q) 8 (let l = ltb-true (suc (length q)) 8 h in omega arith)

-- both orders of the two lead to the same core; the first instruction has the same output in both, and the second has
-- none
pub record Meets (m m1 m2 : Core) (first second : Instr) (x y : Option Output) : Type 0 where
  pub last : Core
  pub second_last : Does second m1 last None
  pub first_last : Does first m2 last x
  pub silent : y ≡ None

seen_same : (k : Colour) (m n : Core) (a : ℕ) → n.queue ≡ m.queue → n.cells ≡ m.cells → seen k n a ≡ seen k m a
seen_same Green m n a q c = λ j. option_or (newest_at (q j) a) (cell_at (c j) a)
seen_same Blue m n a q c = ap (λ z. cell_at z a) c

both_put : (a b : Instr) (m : Core) (p q : ℕ) (x y : Coloured) → leaves_alone b (written a) ≡ true →
    leaves_alone a (written b) ≡ true → written a ≡ Some p → written b ≡ Some q → puts a m ≡ Some x → puts b m
    ≡ Some y → Meets m (with_put p x m) (with_put q y m) a b None None
both_put a b m p q x y ab ba wa wb pa pb =
    let pb' : puts b (with_put p x m) ≡ Some y = puts_same b m (with_put p x m) (λ r rr.
    held_other m.registers p x r (read_other b p r (not_read b (written a) p wa ab) rr)) (λ k rd rs c e.
    seen_same k m (with_put p x m) c refl refl) ∙ pb in
    let pa' : puts a (with_put q y m) ≡ Some x = puts_same a m (with_put q y m) (λ r rr.
    held_other m.registers q y r (read_other a q r (not_read a (written b) q wb ba) rr)) (λ k rd rs c e.
    seen_same k m (with_put q y m) c refl refl) ∙ pa in
    let order = insert-insert m.registers q p y x (not_written a (written b) p q wb wa ba) in
    record {
      last = with_put q y (with_put p x m);
      second_last = writes q y wb pb';
      first_last = subst (λ (z : Core). Does a (with_put q y m) z None) (λ j. record m { registers = order j })
          (writes p x wa pa');
      silent = refl;
    }

put_queue : (a : Instr) (m : Core) (p : ℕ) (x : Coloured) (rd rs : Reg) → is_trailing a ≡ true →
    leaves_alone (St Green rd rs) (written a) ≡ true → written a ≡ Some p → puts a m ≡ Some x →
    nat_lt (length m.queue) 8 ≡ true → Meets m (with_put p x m)
    (with_pending (held m.registers rd.number).word (held m.registers rs.number).word m) a (St Green rd rs) None None
put_queue a m p x rd rs ta ab wa pa room =
    let m1 = with_put p x m in
    let m2 = with_pending (held m.registers rd.number).word (held m.registers rs.number).word m in
    let no = not_read (St Green rd rs) (written a) p wa ab in
    let sd = held_other m.registers p x rd.number (read_other (St Green rd rs) p rd.number no
    (or_left (rd.number == rd.number) (rs.number == rd.number) (eq-eqb rd.number rd.number refl))) in
    let ss = held_other m.registers p x rs.number (read_other (St Green rd rs) p rs.number no
    (or_right (rd.number == rs.number) (rs.number == rs.number) (eq-eqb rs.number rs.number refl))) in
    let pa' : puts a m2 ≡ Some x = puts_same a m m2 (λ r rr. refl) (λ k ra rb c e.
    subst (λ z. seen z m2 c ≡ seen z m c) (sym (trailing_load a k ra rb ta e)) refl) ∙ pa in
    record {
      last = with_put p x m2;
      second_last = subst (λ (z : Core). Does (St Green rd rs) m1 z None) (λ j. with_pending (sd j).word (ss j).word m1)
          (queues rd rs room);
      first_last = writes p x wa pa';
      silent = refl;
    }

commit_put : (rd rs : Reg) (b : Instr) (m : Core) (q : ℕ) (y : Coloured) → is_leading b ≡ true →
    leaves_alone (St Blue rd rs) (written b) ≡ true →
    (is_oldest m.queue (held m.registers rd.number).word (held m.registers rs.number).word
    && is_cell m.cells (held m.registers rd.number).word) ≡ true → written b ≡ Some q → puts b m ≡ Some y →
    Meets m (with_commit (held m.registers rd.number).word (held m.registers rs.number).word m) (with_put q y m)
    (St Blue rd rs) b (Some (record {
      addr = (held m.registers rd.number).word;
      value = (held m.registers rs.number).word;
    })) None
commit_put rd rs b m q y lb ba test wb pb =
    let a = (held m.registers rd.number).word in
    let v = (held m.registers rs.number).word in
    let m1 = with_commit a v m in
    let m2 = with_put q y m in
    let no = not_read (St Blue rd rs) (written b) q wb ba in
    let sd = held_other m.registers q y rd.number (read_other (St Blue rd rs) q rd.number no
    (or_left (rd.number == rd.number) (rs.number == rd.number) (eq-eqb rd.number rd.number refl))) in
    let ss = held_other m.registers q y rs.number (read_other (St Blue rd rs) q rs.number no
    (or_right (rd.number == rs.number) (rs.number == rs.number) (eq-eqb rs.number rs.number refl))) in
    let t = and_parts (is_oldest m.queue a v) (is_cell m.cells a) test in
    let pb' : puts b m1 ≡ Some y = puts_same b m m1 (λ r rr. refl) (λ k ra rb c e.
    subst (λ z. seen z m1 c ≡ seen z m c) (sym (leading_load b k ra rb lb e))
    (committed_seen m.queue m.cells a v c t.0)) ∙ pb in
    let test' : (is_oldest m2.queue (held m2.registers rd.number).word (held m2.registers rs.number).word
    && is_cell m2.cells (held m2.registers rd.number).word)
    ≡ true = (λ j. is_oldest m.queue (sd j).word (ss j).word && is_cell m.cells (sd j).word) ∙ test in
    record {
      last = with_put q y m1;
      second_last = writes q y wb pb';
      first_last = subst (λ (z : Core × Option Output). Does (St Blue rd rs) m2 z.0 z.1) (λ j.
          (with_commit (sd j).word (ss j).word m2, Some (record { addr = (sd j).word; value = (ss j).word })))
          (commits_it rd rs test');
      silent = refl;
    }

commit_queue : (ra rb rd rs : Reg) (m : Core) → (is_oldest m.queue (held m.registers ra.number).word
    (held m.registers rb.number).word && is_cell m.cells (held m.registers ra.number).word) ≡ true →
    nat_lt (length m.queue) 8 ≡ true → Meets m (with_commit (held m.registers ra.number).word
    (held m.registers rb.number).word m) (with_pending (held m.registers rd.number).word
    (held m.registers rs.number).word m) (St Blue ra rb) (St Green rd rs)
    (Some (record { addr = (held m.registers ra.number).word; value = (held m.registers rb.number).word })) None
commit_queue ra rb rd rs m test room =
    let a = (held m.registers ra.number).word in
    let v = (held m.registers rb.number).word in
    let e : ℕ × ℕ = ((held m.registers rd.number).word, (held m.registers rs.number).word) in
    let m2 = with_pending e.0 e.1 m in
    let t = and_parts (is_oldest m.queue a v) (is_cell m.cells a) test in
    record {
      last = with_pending e.0 e.1 (with_commit a v m);
      second_last = queues rd rs (fewer m.queue room);
      first_last = subst (λ (z : Core). Does (St Blue ra rb) m2 z (Some (record { addr = a; value = v }))) (λ j.
          record m { queue = drop_append m.queue a v e t.0 j; cells = with_cell m.cells a v })
          (commits_it ra rb (and_from _ _ (oldest_append m.queue a v e t.0) t.1));
      silent = refl;
    }

pub meets : (a b : Instr) (m m1 m2 : Core) (x y : Option Output) → is_trailing a ≡ true → is_leading b ≡ true →
    leaves_alone b (written a) ≡ true → leaves_alone a (written b) ≡ true → Does a m m1 x → Does b m m2 y →
    Meets m m1 m2 a b x y
meets a b m _ _ _ _ ta lb ab ba (writes p x wa pa) (writes q y wb pb) = both_put a b m p q x y ab ba wa wb pa pb
meets a _ m _ _ _ _ ta lb ab ba (writes p x wa pa) (queues rd rs room) = put_queue a m p x rd rs ta ab wa pa room
meets a _ m _ _ _ _ ta lb ab ba (writes p x wa pa) (commits_it rd rs t) = cc
meets _ b m _ _ _ _ ta lb ab ba (queues ra rb h) d = cc
meets _ b m _ _ _ _ ta lb ab ba (commits_it ra rb t) (writes q y wb pb) = commit_put ra rb b m q y lb ba t wb pb
meets _ _ m _ _ _ _ ta lb ab ba (commits_it ra rb t) (queues rd rs room) = commit_queue ra rb rd rs m t room
meets _ _ m _ _ _ _ ta lb ab ba (commits_it ra rb t) (commits_it rd rs u) = cc
