-- A step from a struck state, if the step does not read the word.
use Rattle.std.proofs.Common.{◌≡◌, ℕ, zero, suc, Bool, true, false, ◌&&◌, ◌==◌, nat_lt, if◌then◌else◌, not, List, []}
use Rattle.std.proofs.Common.{◌∷◌, ◌++◌, length, drop, Option, Some, None, refl, sym, ap, ◌∙◌, subst, arith}
use Rattle.std.proofs.lemmas.Bool.{ltb-true, lt-ltb, and_parts, and_from}
use Rattle.std.proofs.lemmas.List.{length-append}
use Rattle.ft_isa.specs.Instructions.{written, is_register}
use Rattle.ft_isa.specs.Pending.{Pending}
use Rattle.ft_isa.specs.declared.colour.Colour.{Colour}
use Rattle.ft_isa.specs.declared.colour.Colour.TheVariants.{Green, Blue}
use Rattle.ft_isa.specs.declared.colour.Coloured.{Coloured}
use Rattle.ft_isa.specs.declared.instr.Instr.{Instr}
use Rattle.ft_isa.specs.declared.instr.Instr.TheVariants.{OpReg, OpWord, Mov, Ld, St, JmpG, JmpB, BzG, BzB, Halt, Idx}
use Rattle.ft_isa.specs.declared.plan.Site.{Site}
use Rattle.ft_isa.specs.declared.plan.Site.TheVariants.{R, D, PcG, PcB, QAddr, QVal}
use Rattle.ft_isa.specs.declared.plan.Wild.{Wild}
use Rattle.ft_isa.specs.declared.plan.Wild.TheVariants.{Word, Stop}
use Rattle.ft_isa.specs.declared.reg.Reg.{Reg}
use Rattle.ft_types.specs.declared.object.Object.{Object}
use Rattle.ft_types.specs.Objects.{instr_at}
use Rattle.ft_semantics.specs.declared.status.Status.TheVariants.{Running}
use Rattle.ft_semantics.specs.State.{State, word}
use Rattle.ft_semantics.specs.Step.{Stepping, step, step_at, advance, fetch, found, commits}
use Rattle.ft_semantics.specs.Strike.{is_running, is_site, is_there, with_word, struck_state}
use Rattle.ft_tolerance.proofs.Statuses.{running_is}
use Rattle.ft_access.specs.Access.{reads_d, reads_counters, reads_site, overwrites, entry_after, site_after}
use Rattle.ft_access.specs.Lasting.{IsUnnoticed, IsPostponed}
use Rattle.ft_access.proofs.Changes.{Change, fetches, detects, halts, passes, puts, queues, commits_it, sets_d}
use Rattle.ft_access.proofs.Changes.{transfers_to, act, touches, covers, moves, act_struck}
use Rattle.ft_access.proofs.Doings.{Doing, silently, result, wild_doing, load_doing}
use Rattle.ft_access.proofs.Doings.{doing, execute_is, struck_is, same_doing}

-- THE TABLE AND THE CHANGES

-- the table agrees with a change about a site that is not read, unless the change stops the machine
pub data Suits (f : Option Instr) (x : Site) : Change → Type 0 where
  stops : Suits f x detects
  ends : Suits f x halts
  suits : {c : Change} → touches c x ≡ false → covers c x ≡ overwrites f x → moves c x ≡ site_after f x → Suits f x c

-- what is read is not unread
clash : {A : Type 0} {b : Bool} → b ≡ true → b ≡ false → A
clash t f = (let e : true ≡ false = sym t ∙ f in cc)

-- putting a register suits the table
put_suits : (i : Instr) (r : ℕ) (y : Coloured) (x : Site) → reads_counters i ≡ true → written i ≡ Some r →
    ((e : ℕ) → entry_after i e ≡ e) → reads_site (Some i) x ≡ false → Suits (Some i) x (puts r y)
put_suits i r y (R q) p e n h = suits refl (ap (λ u. is_register u q.number) (sym e)) refl
put_suits i r y D p e n h = suits refl refl refl
put_suits i r y PcG p e n h = clash p h
put_suits i r y PcB p e n h = clash p h
put_suits i r y (QAddr k) p e n h = suits refl refl (ap QAddr (sym (n k)))
put_suits i r y (QVal k) p e n h = suits refl refl (ap QVal (sym (n k)))

-- queueing a store suits it
queue_suits : (rd rs : Reg) (a u : ℕ) (x : Site) → reads_site (Some (St Green rd rs)) x ≡ false →
    Suits (Some (St Green rd rs)) x (queues a u)
queue_suits rd rs a u PcG h = cc
queue_suits rd rs a u PcB h = cc
queue_suits rd rs a u x h = suits refl refl refl

-- committing a store suits it
commit_suits : (rd rs : Reg) (a u : ℕ) (x : Site) → reads_site (Some (St Blue rd rs)) x ≡ false →
    Suits (Some (St Blue rd rs)) x (commits_it a u)
commit_suits rd rs a u PcG h = cc
commit_suits rd rs a u PcB h = cc
commit_suits rd rs a u (QAddr zero) h = cc
commit_suits rd rs a u (QAddr (suc e)) h = suits h refl refl
commit_suits rd rs a u (QVal zero) h = cc
commit_suits rd rs a u (QVal (suc e)) h = suits h refl refl
commit_suits rd rs a u x h = suits refl refl refl

-- an instruction that reads d and the counters, and leaves registers and entries alone
sets_suits : (i : Instr) (a : ℕ) (x : Site) → reads_d i ≡ true → reads_counters i ≡ true → written i ≡ None →
    ((e : ℕ) → entry_after i e ≡ e) → reads_site (Some i) x ≡ false → Suits (Some i) x (sets_d a)
sets_suits i a (R q) d p e n h = suits refl (ap (λ u. is_register u q.number) (sym e)) refl
sets_suits i a D d p e n h = clash d h
sets_suits i a PcG d p e n h = clash p h
sets_suits i a PcB d p e n h = clash p h
sets_suits i a (QAddr k) d p e n h = suits refl refl (ap QAddr (sym (n k)))
sets_suits i a (QVal k) d p e n h = suits refl refl (ap QVal (sym (n k)))

-- a jump or branch that only counts suits it
passes_suits : (i : Instr) (x : Site) → reads_d i ≡ true → reads_counters i ≡ true → written i ≡ None →
    ((e : ℕ) → entry_after i e ≡ e) → reads_site (Some i) x ≡ false → Suits (Some i) x passes
passes_suits i (R q) d p e n h = suits refl (ap (λ u. is_register u q.number) (sym e)) refl
passes_suits i D d p e n h = clash d h
passes_suits i PcG d p e n h = clash p h
passes_suits i PcB d p e n h = clash p h
passes_suits i (QAddr k) d p e n h = suits refl refl (ap QAddr (sym (n k)))
passes_suits i (QVal k) d p e n h = suits refl refl (ap QVal (sym (n k)))

-- a blue jump suits it
jump_suits : (rd : Reg) (rows : _) (a : ℕ) (x : Site) → reads_site (Some (JmpB rd rows)) x ≡ false →
    Suits (Some (JmpB rd rows)) x (transfers_to a)
jump_suits rd rows a D h = cc
jump_suits rd rows a x h = suits refl refl refl

-- a blue branch that is taken suits it
branch_suits : (rz rd : Reg) (rows : _) (a : ℕ) (x : Site) → reads_site (Some (BzB rz rd rows)) x ≡ false →
    Suits (Some (BzB rz rd rows)) x (transfers_to a)
branch_suits rz rd rows a D h = cc
branch_suits rz rd rows a PcG h = cc
branch_suits rz rd rows a PcB h = cc
branch_suits rz rd rows a x h = suits refl refl refl

-- a step that depends on a test
by_if : (f : Option Instr) (x : Site) (b : Bool) (g h : Doing) → Suits f x g.change → Suits f x h.change →
    Suits f x (if b then g else h).change
by_if f x true g h p q = p
by_if f x false g h p q = q

-- a wild load suits it
wild_suits : (c : Colour) (rd rs : Reg) (x : Site) (w : List Wild) → ((r : ℕ) (y : Coloured) → rd.number ≡ r →
    Suits (Some (Ld c rd rs)) x (puts r y)) → Suits (Some (Ld c rd rs)) x (wild_doing c rd.number w).change
wild_suits c rd rs x (Word v ∷ w) p = p rd.number _ refl
wild_suits c rd rs x (Stop ∷ w) p = stops
wild_suits c rd rs x [] p = stops

-- a load suits it
load_suits : (c : Colour) (rd rs : Reg) (x : Site) (u : Option ℕ) (w : List Wild) → ((r : ℕ) (y : Coloured) → rd.number
    ≡ r → Suits (Some (Ld c rd rs)) x (puts r y)) → Suits (Some (Ld c rd rs)) x (load_doing c rd.number u w).change
load_suits c rd rs x (Some v) w p = p rd.number _ refl
load_suits c rd rs x None w p = wild_suits c rd rs x w p

-- the table agrees with what an instruction does
doing_suits : (i : Instr) (x : Site) (s : State) (w : List Wild) → reads_site (Some i) x ≡ false →
    Suits (Some i) x (doing i s w).change
doing_suits (OpReg op rd rs rt) x s w h = put_suits _ _ _ x refl refl (λ e. refl) h
doing_suits (OpWord op rd rs value) x s w h = put_suits _ _ _ x refl refl (λ e. refl) h
doing_suits (Mov rd basic value) x s w h = put_suits _ _ _ x refl refl (λ e. refl) h
doing_suits (Ld Green rd rs) x s w h = load_suits Green rd rs x (found Green s (word s rs)) w (λ r y e.
    put_suits (Ld Green rd rs) r y x refl (ap Some e) (λ e. refl) h)
doing_suits (Ld Blue rd rs) x s w h = load_suits Blue rd rs x (found Blue s (word s rs)) w (λ r y e.
    put_suits (Ld Blue rd rs) r y x refl (ap Some e) (λ e. refl) h)
doing_suits (St Green rd rs) x s w h = by_if _ x (nat_lt (length s.queue) 8) _ _ (queue_suits rd rs _ _ x h) stops
doing_suits (St Blue rd rs) x s w h = by_if _ x (commits (word s rd) (word s rs) s) _ _ (commit_suits rd rs _ _ x h)
    stops
doing_suits (JmpG rd) x s w h = by_if _ x (s.d == 0) _ _ (sets_suits (JmpG rd) _ x refl refl refl (λ e. refl) h) stops
doing_suits (JmpB rd rows) x s w h = by_if _ x (not (s.d == 0) && (s.d == word s rd)) _ _ (jump_suits rd rows _ x h)
    stops
doing_suits (BzG rz rd) x s w h = by_if _ x (word s rz == 0) _ _
    (by_if _ x (s.d == 0) _ _ (sets_suits (BzG rz rd) _ x refl refl refl (λ e. refl) h) stops)
    (by_if _ x (s.d == 0) _ _ (passes_suits (BzG rz rd) x refl refl refl (λ e. refl) h) stops)
doing_suits (BzB rz rd rows) x s w h = by_if _ x (word s rz == 0) _ _
    (by_if _ x (not (s.d == 0) && (s.d == word s rd)) _ _ (branch_suits rz rd rows _ x h) stops)
    (by_if _ x (s.d == 0) _ _ (passes_suits (BzB rz rd rows) x refl refl refl (λ e. refl) h) stops)
doing_suits Halt x s w h = ends
doing_suits (Idx rd rs first m) x s w h = put_suits _ _ _ x refl refl (λ e. refl) h

-- BOTH STEPS

-- two steps do the same, from a state and from the state with a word struck, and the table agrees with it
pub record DoSame (f : Option Instr) (x : Site) (v : ℕ) (s : State) (t u : Stepping) : Type 0 where
  pub does : Doing
  pub here : t ≡ result does s
  pub there : u ≡ result does (with_word x v s)
  pub suited : Suits f x does.change

-- what a fetch does
abbrev fetch_doing : Option Instr → List Wild → Doing
fetch_doing (Some i) w = silently (fetches i) w
fetch_doing None w = silently detects w

-- a fetch does this
fetch_is : (u : Option Instr) (s : State) (w : List Wild) → fetch u s w ≡ result (fetch_doing u w) s
fetch_is (Some i) s w = refl
fetch_is None s w = refl

-- a fetch suits the table
fetch_suits : (u : Option Instr) (x : Site) (w : List Wild) → reads_site None x ≡ false →
    Suits None x (fetch_doing u w).change
fetch_suits None x w h = stops
fetch_suits (Some i) PcG w h = cc
fetch_suits (Some i) PcB w h = cc
fetch_suits (Some i) x w h = suits refl refl refl

-- a fetch that depends on the counters
fetch_if : (b : Bool) (u : Option Instr) (x : Site) (v : ℕ) (s : State) (w : List Wild) → reads_site None x ≡ false →
    DoSame None x v s (if b then fetch u s w else result (silently detects w) s)
    (if b then fetch u (with_word x v s) w else result (silently detects w) (with_word x v s))
fetch_if true u x v s w h = record {
  does = fetch_doing u w;
  here = fetch_is u s w;
  there = fetch_is u (with_word x v s) w;
  suited = fetch_suits u x w h;
}
fetch_if false u x v s w h = record { does = silently detects w; here = refl; there = refl; suited = stops }

-- a step of a running machine does the same from the struck state
advance_same : (o : Object) (f : Option Instr) (x : Site) (v : ℕ) (s : State) (w : List Wild) → is_there s x ≡ true →
    reads_site f x ≡ false → DoSame f x v s (advance o f s w) (advance o f (with_word x v s) w)
advance_same o (Some i) x v s w there h = record {
  does = doing i s w;
  here = execute_is i s w;
  there = execute_is i (with_word x v s) w ∙ ap (λ g. result g (with_word x v s)) (same_doing i x v s w there h);
  suited = doing_suits i x s w h;
}
advance_same o None PcG v s w there h = cc
advance_same o None PcB v s w there h = cc
advance_same o None x v s w there h = fetch_if (s.pc_green == s.pc_blue) (instr_at o s.pc_green) x v s w h

-- THE LAWS OF ONE STEP

-- a strike keeps the status
pub same_status : (x : Site) (v : ℕ) (s : State) → (with_word x v s).status ≡ s.status
same_status (R r) v s = refl
same_status x v s = refl

-- a strike keeps what is fetched
pub same_fetched : (x : Site) (v : ℕ) (s : State) → (with_word x v s).fetched ≡ s.fetched
same_fetched (R r) v s = refl
same_fetched x v s = refl

-- a machine runs if a site is there
pub there_runs : (x : Site) (s : State) → is_there s x ≡ true → s.status ≡ Running
there_runs x s h = running_is s.status (and_parts (is_running s.status) (is_site x (length s.queue)) h).0

-- a step of a running machine
running_step : (o : Object) (s : State) (w : List Wild) → s.status ≡ Running → step o s w ≡ advance o s.fetched s w
running_step o s w h = ap (λ v. step_at o v s w) h

-- a step that does not read a site that is there does the same from the struck state
pub step_same : (o : Object) (x : Site) (v : ℕ) (s : State) (w : List Wild) → is_there s x ≡ true →
    reads_site s.fetched x ≡ false → DoSame s.fetched x v s (step o s w) (step o (struck_state s x v) w)
step_same o x v s w there h =
    let run = there_runs x s there in
    let same = advance_same o s.fetched x v s w there h in
    record {
      does = same.does;
      here = running_step o s w run ∙ same.here;
      there = ap (λ t. step o t w) (struck_is s x v there)
          ∙ running_step o (with_word x v s) w (same_status x v s ∙ run)
          ∙ ap (λ f. advance o f (with_word x v s) w) (same_fetched x v s)
          ∙ same.there;
      suited = same.suited;
    }

-- a change gives the same status from states with the same
act_status : (c : Change) (s t : State) → t.status ≡ s.status → (act c t).status ≡ (act c s).status
act_status detects s t e = refl
act_status halts s t e = refl
act_status c s t e = e

-- steps that do the same differ in nothing that shows
unnoticed_by : (f : Option Instr) (x : Site) (v : ℕ) (s : State) (t u : Stepping) → DoSame f x v s t u → IsUnnoticed t u
unnoticed_by f x v s t u h = record {
  output = ap (λ (z : Stepping). z.output) h.there ∙ sym (ap (λ (z : Stepping). z.output) h.here);
  wild = ap (λ (z : Stepping). z.wild) h.there ∙ sym (ap (λ (z : Stepping). z.wild) h.here);
  status = ap (λ (z : Stepping). z.state.status) h.there
      ∙ act_status h.does.change s (with_word x v s) (same_status x v s)
      ∙ sym (ap (λ (z : Stepping). z.state.status) h.here);
}

-- the output, the answers left and the status are the same
pub unnoticed : (o : Object) (s : State) (w : List Wild) (x : Site) (v : ℕ) → is_there s x ≡ true →
    reads_site s.fetched x ≡ false → IsUnnoticed (step o s w) (step o (struck_state s x v) w)
unnoticed o s w x v there h = unnoticed_by s.fetched x v s _ _ (step_same o x v s w there h)

-- the state after a change that goes on, from the struck state
left_then : (f : Option Instr) (x : Site) (v : ℕ) (s : State) (c : Change) → is_site x (length s.queue) ≡ true →
    Suits f x c → (act c s).status ≡ Running → act c (with_word x v s)
    ≡ (if overwrites f x then act c s else with_word (site_after f x) v (act c s))
left_then f x v s c there stops run = cc
left_then f x v s c there ends run = cc
left_then f x v s c there (suits t p q) run = act_struck c x v s there t
    ∙ (λ j. if p j then act c s else with_word (q j) v (act c s))

-- an entry moves with the queue
shorter : (e : ℕ) (q : Pending) → nat_lt (suc e) (length q) ≡ true → nat_lt e (length (drop 1 q)) ≡ true
shorter e [] h = absurd (let l = ltb-true (suc e) 0 h in omega arith)
shorter e (y ∷ q) h = lt-ltb e (length q) (let l = ltb-true (suc e) (suc (length q)) h in omega arith)

-- an entry stays in a longer queue
longer : (e : ℕ) (q : Pending) (p : ℕ × ℕ) → nat_lt e (length q) ≡ true → nat_lt e (length (q ++ p ∷ [])) ≡ true
longer e q p h = lt-ltb e (length (q ++ p ∷ [])) (let l = ltb-true e (length q) h in
    let k = length-append q (p ∷ []) in omega arith)

-- the site where the word is after a change is there
site_past : (c : Change) (x : Site) (s : State) → touches c x ≡ false → is_site x (length s.queue) ≡ true →
    is_site (moves c x) (length (act c s).queue) ≡ true
site_past c (R r) s t h = refl
site_past (queues a u) (QAddr e) s t h = longer e s.queue (a, u) h
site_past (queues a u) (QVal e) s t h = longer e s.queue (a, u) h
site_past (commits_it a u) (QAddr zero) s t h = cc
site_past (commits_it a u) (QAddr (suc e)) s t h = shorter e s.queue h
site_past (commits_it a u) (QVal zero) s t h = cc
site_past (commits_it a u) (QVal (suc e)) s t h = shorter e s.queue h
site_past c x s t h = h

-- a site that the change does not read or overwrite is there after it
there_then : (f : Option Instr) (x : Site) (s : State) (c : Change) → is_site x (length s.queue) ≡ true → Suits f x c →
    (act c s).status ≡ Running → is_there (act c s) (site_after f x) ≡ true
there_then f x s c there stops run = cc
there_then f x s c there ends run = cc
there_then f x s c there (suits t p q) run =
    and_from _ _ (ap is_running run) (subst (λ y. is_site y (length (act c s).queue)
    ≡ true) q (site_past c x s t there))

module _ (f : Option Instr) (x : Site) (v : ℕ) (s : State) (t u : Stepping) (there : is_there s x ≡ true)
    (h : DoSame f x v s t u) (run : t.state.status ≡ Running) where
  abbrev after : State
  after = act h.does.change s

  runs : after.status ≡ Running
  runs = sym (ap (λ (z : Stepping). z.state.status) h.here) ∙ run

  site : is_site x (length s.queue) ≡ true
  site = (and_parts (is_running s.status) (is_site x (length s.queue)) there).1

  -- the struck state after the step
  left_is : act h.does.change (with_word x v s) ≡ (if overwrites f x then after else with_word (site_after f x) v after)
  left_is = left_then f x v s h.does.change site h.suited runs

  is_there_after : is_there t.state (site_after f x) ≡ true
  is_there_after = subst (λ (z : Stepping). is_there z.state (site_after f x) ≡ true) (sym h.here)
      (there_then f x s h.does.change site h.suited runs)

  abbrev with_state : State → Stepping
  with_state z = record { state = z; wild = h.does.wild; output = h.does.output }

  gone_by : overwrites f x ≡ true → u ≡ t
  gone_by e = h.there ∙ ap with_state (left_is
      ∙ ap (λ b. if b then after else with_word (site_after f x) v after) e) ∙ sym h.here

  postponed_by : overwrites f x ≡ false → IsPostponed (site_after f x) v t u
  postponed_by e = record {
    there = is_there_after;
    struck = h.there ∙ ap with_state (left_is
        ∙ ap (λ b. if b then after else with_word (site_after f x) v after) e)
        ∙ ap (λ (z : Stepping). record z { state = with_word (site_after f x) v z.state }) (sym h.here)
        ∙ sym (ap (λ y. record t { state = y }) (struck_is t.state (site_after f x) v is_there_after));
  }

-- a word that is neither read nor overwritten may as well be struck after the step
pub postponed : (o : Object) (s : State) (w : List Wild) (x : Site) (v : ℕ) → is_there s x ≡ true →
    reads_site s.fetched x ≡ false → overwrites s.fetched x ≡ false → (step o s w).state.status ≡ Running →
    IsPostponed (site_after s.fetched x) v (step o s w) (step o (struck_state s x v) w)
postponed o s w x v there h e run = postponed_by s.fetched x v s _ _ there (step_same o x v s w there h) run e

-- a word that is overwritten before it is read may as well not be struck
pub gone : (o : Object) (s : State) (w : List Wild) (x : Site) (v : ℕ) → is_there s x ≡ true → reads_site s.fetched x
    ≡ false → overwrites s.fetched x ≡ true → (step o s w).state.status ≡ Running → step o (struck_state s x v) w
    ≡ step o s w
gone o s w x v there h e run = gone_by s.fetched x v s _ _ there (step_same o x v s w there h) run e
