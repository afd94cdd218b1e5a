-- The run of an accepted object, compared with the run of the object after one exchange.
use Rattle.std.proofs.Common.{◌≡◌, ◌≢◌, ⊎_elim, ℕ, zero, suc, ◌+◌, ◌<◌, ◌==◌, Bool, true, false, if◌then◌else◌, List}
use Rattle.std.proofs.Common.{[], ◌∷◌, ◌++◌, length, Option, Some, None, refl, sym, ap, ◌∙◌, subst, arith, eq-eqb}
use Rattle.std.proofs.Common.{append-nil, mod-eq_of_lt}
use Rattle.std.specs.Option.{option_to_list}
use Rattle.std.proofs.lemmas.Bool.{cases_eq}
use Rattle.std.proofs.lemmas.Option.{slice_get_within}
use Rattle.ft_isa.specs.declared.reg.Reg.{Reg}
use Rattle.ft_isa.specs.declared.colour.Colour.{Colour}
use Rattle.ft_isa.specs.declared.colour.Colour.TheVariants.{Green, Blue}
use Rattle.ft_isa.specs.declared.instr.Subst.{Subst}
use Rattle.ft_isa.specs.declared.instr.Instr.{Instr}
use Rattle.ft_isa.specs.declared.instr.Instr.TheVariants.{Ld, St, JmpG, JmpB, BzG, BzB, Halt}
use Rattle.ft_isa.specs.declared.output.Output.{Output}
use Rattle.ft_isa.specs.declared.plan.Wild.{Wild}
use Rattle.ft_isa.specs.declared.plan.Wild.TheVariants.{Word, Stop}
use Rattle.ft_semantics.specs.declared.status.Status.{Status}
use Rattle.ft_semantics.specs.declared.status.Status.TheVariants.{Running, Done, Detected}
use Rattle.ft_types.specs.declared.object.Object.{Object}
use Rattle.ft_types.specs.declared.object.Block.{Block}
use Rattle.ft_types.specs.Objects.{block_start, instr_at}
use Rattle.ft_types.specs.Spellable.{IsSpellable}
use Rattle.ft_typing.specs.Accepted.{IsAccepted}
use Rattle.ft_semantics.specs.State.{State, word, start}
use Rattle.ft_semantics.specs.Step.{Stepping, quiet, detected, next, fetch, load, found, jump_green, jump_blue, pass}
use Rattle.ft_semantics.specs.Step.{execute, advance, step_at, step}
use Rattle.ft_semantics.specs.Run.{Ran, extended, run, run-zero}
use Rattle.ft_semantics.proofs.Runs.{HasStopped, stays_at}
use Rattle.ft_typing.specs.RowWords.{Outcome, Goes, Ends, Fails}
use Rattle.ft_typing.specs.TypedWord.{block_at}
use Rattle.ft_tolerance.specs.TypedState.{Place, entry_block, start_place, instr_number, further, arrived, place_after}
use Rattle.ft_tolerance.specs.TypedState.{next_place, place, place-zero, Fits, IsPlace}
use Rattle.ft_tolerance.specs.Soundness.{FitsAfter}
use Rattle.ft_tolerance.proofs.Whole.{accepted_fits}
use Rattle.ft_exchange.specs.Exchange.{queue_before, IsPermitted, after_exchange}
use Rattle.ft_exchange.proofs.Lists.{get_first, get_second, get_other}
use Rattle.ft_exchange.proofs.BlockRanges.{Placed, placed, no_start}
use Rattle.ft_exchange.proofs.Permits.{Permits, permits}
use Rattle.ft_exchange.proofs.Accepted.{spellable_exchanged, accepted_exchanged}
use Rattle.ft_exchange.proofs.Effects.{Core, core, moved, went, does_execute, executed, Meets, meets}

-- STEPS

-- a running machine executes what is fetched
pub step_executes : (o : Object) (s : State) (w : List Wild) (i : Instr) → s.status ≡ Running → s.fetched ≡ Some i →
    step o s w ≡ execute i s w
step_executes o s w i go e = ap (λ (x : Status). step_at o x s w) go ∙ ap (λ (x : Option Instr). advance o x s w) e

-- a running machine with nothing fetched fetches the instruction at its counters
pub step_fetches : (o : Object) (s : State) (w : List Wild) → s.status ≡ Running → s.fetched ≡ None → s.pc_green
    ≡ s.pc_blue → step o s w ≡ fetch (instr_at o s.pc_green) s w
step_fetches o s w go e pc = ap (λ (x : Status). step_at o x s w) go ∙ ap (λ (x : Option Instr). advance o x s w) e
    ∙ ap (λ b. if b then fetch (instr_at o s.pc_green) s w else detected s w) (eq-eqb s.pc_green s.pc_blue pc)

-- nothing is fetched after an instruction that leaves the machine running
Fetches : Stepping → Type 0
Fetches x = x.state.status ≡ Running → x.state.fetched ≡ None

fetches_if : (b : Bool) (x y : Stepping) → Fetches x → Fetches y → Fetches (if b then x else y)
fetches_if true x y h l = h
fetches_if false x y h l = l

fetches_detected : (s : State) (w : List Wild) → Fetches (detected s w)
unfolding Fetches
fetches_detected s w h = cc

fetches_load : (k : Colour) (rd : Reg) (u : Option ℕ) (s : State) (w : List Wild) → Fetches (load k rd u s w)
unfolding Fetches
fetches_load k rd (Some v) s w h = refl
fetches_load k rd None s [] h = cc
fetches_load k rd None s (Word v ∷ w) h = refl
fetches_load k rd None s (Stop ∷ w) h = cc

fetches_jump_green : (a : ℕ) (s : State) (w : List Wild) → Fetches (jump_green a s w)
unfolding Fetches
fetches_jump_green a s w = fetches_if (s.d == 0) _ _ (λ h. refl) (fetches_detected s w)

fetches_jump_blue : (a : ℕ) (s : State) (w : List Wild) → Fetches (jump_blue a s w)
unfolding Fetches
fetches_jump_blue a s w = fetches_if _ _ _ (λ h. refl) (fetches_detected s w)

fetches_pass : (s : State) (w : List Wild) → Fetches (pass s w)
unfolding Fetches
fetches_pass s w = fetches_if _ _ _ (λ h. refl) (fetches_detected s w)

fetches_after : (i : Instr) (s : State) (w : List Wild) → Fetches (execute i s w)
unfolding Fetches
fetches_after (Ld k rd rs) s w = fetches_load k rd (found k s (word s rs)) s w
fetches_after (St Green rd rs) s w = fetches_if _ _ _ (λ h. refl) (fetches_detected s w)
fetches_after (St Blue rd rs) s w = fetches_if _ _ _ (λ h. refl) (fetches_detected s w)
fetches_after (JmpG rd) s w = fetches_jump_green (word s rd) s w
fetches_after (JmpB rd u) s w = fetches_jump_blue (word s rd) s w
fetches_after (BzG rz rd) s w = fetches_if (word s rz == 0) (jump_green (word s rd) s w) (pass s w)
    (fetches_jump_green (word s rd) s w) (fetches_pass s w)
fetches_after (BzB rz rd u) s w = fetches_if (word s rz == 0) (jump_blue (word s rd) s w) (pass s w)
    (fetches_jump_blue (word s rd) s w) (fetches_pass s w)
fetches_after Halt s w = λ h. cc
fetches_after i s w = λ h. refl

fetches_none : (i : Instr) (s : State) (w : List Wild) → (execute i s w).state.status ≡ Running →
    (execute i s w).state.fetched ≡ None
unfolding Fetches
fetches_none i s w h = fetches_after i s w h

-- WHERE AN INSTRUCTION LEADS

-- the place after a step has the same instruction number, the next one, or that of the start of a block
pub data Number (p q : Place) : Type 0 where
  same_number : instr_number q ≡ instr_number p → Number p q
  next_number : instr_number q ≡ suc (instr_number p) → Number p q
  at_start : q.index ≡ 0 → Number p q

number_further : (x : Outcome) (p : Place) → Number p (further x p)
number_further (Goes c) p = next_number (omega arith)
number_further Ends p = same_number refl
number_further (Fails n) p = same_number refl

number_arrived : (o : Object) (x : Option Block) (u : Subst) (p : Place) → Number p (arrived o x u p)
number_arrived o None u p = same_number refl
number_arrived o (Some b) u p = at_start refl

number_if : (b : Bool) (p x y : Place) → Number p x → Number p y → Number p (if b then x else y)
number_if true p x y h l = h
number_if false p x y h l = l

number_after : (o : Object) (i : Instr) (s : State) (p : Place) → Number p (place_after o i s p)
number_after o (JmpB rd u) s p = number_arrived o (block_at o (word s rd)) u p
number_after o (BzB rz rd u) s p = number_if (word s rz == 0) p _ _ (number_arrived o (block_at o (word s rd)) u p)
    (number_further _ p)
number_after o i s p = number_further _ p

-- TWO MACHINES

abbrev pub ran : State → List Output → Ran
ran s os = record { state = s; wild = []; outputs = os }

-- a state that both runs share: it is not between the two instructions, and the first is not about to be executed
pub record Clear (n : ℕ) (s : State) : Type 0 where
  pub not_between : s.status ≡ Running → s.pc_green ≢ suc (suc n)
  pub not_fetched : s.status ≡ Running → (i : Instr) → s.fetched ≡ Some i → s.pc_green ≢ suc n

-- a running state at the first instruction
pub record Base (n : ℕ) (t : State) : Type 0 where
  pub running : t.status ≡ Running
  pub green : t.pc_green ≡ suc n
  pub blue : t.pc_blue ≡ suc n

-- both runs after the same number of steps: in the same state with the same outputs, or within the four steps of the
-- two instructions
pub data Side (n : ℕ) (first second : Instr) : Ran → Ran → Type 0 where
  together : (r : Ran) → Clear n r.state → Side n first second r r
  first_fetched : (t : State) (os : List Output) → Base n t →
      Side n first second (ran (record t { fetched = Some first }) os) (ran (record t { fetched = Some second }) os)
  first_done : (t : State) (os os' : List Output) (m m' : Core) (x : Option Output) → Base n t →
      Meets (core t) m m' first second x None → os ≡ os' ++ option_to_list x →
      Side n first second (ran (moved t m) os) (ran (moved t m') os')
  second_fetched : (t : State) (os os' : List Output) (m m' : Core) (x : Option Output) → Base n t →
      Meets (core t) m m' first second x None → os ≡ os' ++ option_to_list x →
      Side n first second (ran (record (moved t m) { fetched = Some second }) os)
      (ran (record (moved t m') { fetched = Some first }) os')

module _ (o : Object) (b k : ℕ) (spelled : IsSpellable o) (acc : IsAccepted o) (p : IsPermitted o b k) where
  abbrev s' : Object
  s' = after_exchange o b k

  abbrev n0 : ℕ
  n0 = block_start o b + k

  spelled' : IsSpellable s'
  spelled' = spellable_exchanged o b k spelled p

  acc' : IsAccepted s'
  acc' = accepted_exchanged o b k spelled acc p

  allows : Permits (queue_before o b k) p.first p.second
  allows = permits (queue_before o b k) p.first p.second p.may

  at : Placed o b k p.first p.second
  at = placed o b k p

  -- at any other address, both objects have the same instruction
  same_instr : (a : ℕ) → a ≢ suc n0 → a ≢ suc (suc n0) → instr_at s' a ≡ instr_at o a
  same_instr zero h l = refl
  same_instr (suc i) h l = get_other o.instrs n0 i (λ e. h (ap suc e)) (λ e. l (ap suc e))

  by_steps : (os os' : List Output) (x x' y y' : Stepping) → x ≡ y → x' ≡ y' →
      Side n0 p.first p.second (extended os y) (extended os' y') →
      Side n0 p.first p.second (extended os x) (extended os' x')
  by_steps os os' x x' y y' e f h = subst (λ (z : Stepping). Side n0 p.first p.second (extended os z) (extended os' x'))
      (sym e) (subst (λ (z : Stepping). Side n0 p.first p.second (extended os y) (extended os' z)) (sym f) h)

  -- the first instruction of each order is executed
  step_first : (t : State) (os : List Output) → Base n0 t →
      (execute p.first (record t { fetched = Some p.first }) []).state.status ≢ Detected →
      (execute p.second (record t { fetched = Some p.second }) []).state.status ≢ Detected →
      Side n0 p.first p.second (extended os (step o (record t { fetched = Some p.first }) []))
      (extended os (step s' (record t { fetched = Some p.second }) []))
  step_first t os base und und' =
      let tf = record t { fetched = Some p.first } in
      let ts = record t { fetched = Some p.second } in
      let a = executed p.first tf allows.first_free und in
      let c = executed p.second ts allows.second_free und' in
      let z = meets p.first p.second (core t) a.after c.after a.output c.output allows.first_trails allows.second_leads
      allows.second_alone allows.first_alone a.does c.does in
      let z' : Meets (core t) a.after c.after p.first p.second a.output None =
      subst (λ (y : Option Output). Meets (core t) a.after c.after p.first p.second a.output y) z.silent z in
      by_steps os os _ _ (went tf a.after [] a.output) (went ts c.after [] None)
      (step_executes o tf [] p.first base.running refl ∙ does_execute p.first tf a.after [] a.output a.does)
      (step_executes s' ts [] p.second base.running refl ∙ does_execute p.second ts c.after [] c.output c.does
      ∙ ap (went ts c.after []) z.silent)
      (first_done t (os ++ option_to_list a.output) (os ++ []) a.after c.after a.output base z'
      (ap (λ (l : List Output). l ++ option_to_list a.output) (sym (append-nil os))))

  pub next_of : (t : State) → Base n0 t → next t.pc_green ≡ suc (suc n0)
  next_of t base =
      let few = spelled.few_instrs in
      let l = at_below in
      let e = base.green in
      mod-eq_of_lt (omega arith) ∙ omega arith
    where
      at_below : suc n0 < length o.instrs
      at_below = slice_get_within o.instrs (suc n0) p.second at.second_there

  -- the second instruction of each order is fetched
  step_between : (t : State) (os os' : List Output) (m m' : Core) (x : Option Output) → Base n0 t →
      Meets (core t) m m' p.first p.second x None → os ≡ os' ++ option_to_list x →
      Side n0 p.first p.second (extended os (step o (moved t m) [])) (extended os' (step s' (moved t m') []))
  step_between t os os' m m' x base z e =
      let pc = next_of t base in
      let pcs : next t.pc_green ≡ next t.pc_blue = ap next (base.green ∙ sym base.blue) in
      by_steps os os' _ _ (quiet (record (moved t m) { fetched = Some p.second }) [])
      (quiet (record (moved t m') { fetched = Some p.first }) [])
      (step_fetches o (moved t m) [] base.running refl pcs
      ∙ ap (λ u. fetch u (moved t m) []) (ap (instr_at o) pc ∙ at.second_there))
      (step_fetches s' (moved t m') [] base.running refl pcs
      ∙ ap (λ u. fetch u (moved t m') []) (ap (instr_at s') pc
      ∙ get_second o.instrs n0 p.first p.second at.first_there at.second_there))
      (second_fetched t (os ++ []) (os' ++ []) m m' x base z (append-nil os ∙ e
      ∙ ap (λ (l : List Output). l ++ option_to_list x) (sym (append-nil os'))))

  -- the second instruction of each order is executed, after which both runs share a state
  step_last : (t : State) (os os' : List Output) (m m' : Core) (x : Option Output) → Base n0 t →
      Meets (core t) m m' p.first p.second x None → os ≡ os' ++ option_to_list x →
      Side n0 p.first p.second (extended os (step o (record (moved t m) { fetched = Some p.second }) []))
      (extended os' (step s' (record (moved t m') { fetched = Some p.first }) []))
  step_last t os os' m m' x base z e =
      let u = record (moved t m) { fetched = Some p.second } in
      let u' = record (moved t m') { fetched = Some p.first } in
      let end = moved (moved t m) z.last in
      let pc = next_of t base in
      let few = spelled.few_instrs in
      let below = slice_get_within o.instrs (suc n0) p.second at.second_there in
      let now : next (next t.pc_green) ≡ suc (suc (suc n0)) = ap next pc ∙ mod-eq_of_lt (omega arith) ∙ omega arith in
      by_steps os os' _ _ (went u z.last [] None) (went u' z.last [] x)
      (step_executes o u [] p.second base.running refl ∙ does_execute p.second u z.last [] None z.second_last)
      (step_executes s' u' [] p.first base.running refl ∙ does_execute p.first u' z.last [] x z.first_last)
      (subst (λ (l : List Output). Side n0 p.first p.second (ran end (os ++ [])) (ran end l)) (append-nil os ∙ e)
      (together (ran end (os ++ [])) (record {
        not_between = λ go f. omega (arith, f, now);
        not_fetched = λ go i f. cc;
      })))

  -- a state that is not running is `Clear`
  clear_stopped : (x : State) → x.status ≢ Running → Clear n0 x
  clear_stopped x h = record { not_between = λ go e. h go; not_fetched = λ go i f e. h go }

  pc_next : (t t' : State) (P Q : Place) → Number P Q → Fits o P t → IsPlace o Q → Fits o Q t' → t.pc_green ≢ suc n0 →
      t.pc_green ≢ suc (suc n0) → t'.pc_green ≢ suc (suc n0)
  pc_next t t' P Q (same_number e) f at' f' h l g = (let a = f.pc_green in let c = f'.pc_green in l (omega arith))
  pc_next t t' P Q (next_number e) f at' f' h l g = (let a = f.pc_green in let c = f'.pc_green in h (omega arith))
  pc_next t t' P Q (at_start e) f at' f' h l g = (let c = f'.pc_green in
      no_start o b k at'.number Q.block spelled p at'.block (omega arith))

  -- what is known of a step from a place, if it leaves the machine running
  abbrev Onward : State → List Wild → Place → Type 0
  Onward t w P = (step o t w).state.status ≡ Running → IsPlace o (next_place o t.fetched t P)
      × Fits o (next_place o t.fetched t P) (step o t w).state

  clear_fetch : (u : Option Instr) (t : State) (w : List Wild) → t.pc_green ≢ suc n0 → t.pc_green ≢ suc (suc n0) →
      Clear n0 (fetch u t w).state
  clear_fetch (Some i) t w h l = record { not_between = λ go e. l e; not_fetched = λ go j f e. h e }
  clear_fetch None t w h l = clear_stopped _ (λ go. cc)

  together_fetch : (t : State) (w : List Wild) (os : List Output) → t.status ≡ Running → t.fetched ≡ None → t.pc_green
      ≡ t.pc_blue → t.pc_green ≢ suc (suc n0) → (w ≡ []) →
      Side n0 p.first p.second (extended os (step o t w)) (extended os (step s' t w))
  together_fetch t w os go none pcs l nil =
      ⊎_elim
      (λ (e : t.pc_green ≡ suc n0).
      by_steps os os _ _ (quiet (record t { fetched = Some p.first }) [])
      (quiet (record t { fetched = Some p.second }) [])
      (step_fetches o t w go none pcs ∙ ap (λ u. fetch u t w) (ap (instr_at o) e ∙ at.first_there)
      ∙ ap (quiet (record t { fetched = Some p.first })) nil)
      (step_fetches s' t w go none pcs ∙ ap (λ u. fetch u t w) (ap (instr_at s') e
      ∙ get_first o.instrs n0 p.first p.second at.first_there at.second_there)
      ∙ ap (quiet (record t { fetched = Some p.second })) nil)
      (first_fetched t (os ++ []) (record { running = go; green = e; blue = sym pcs ∙ e })))
      (λ (ne : t.pc_green ≡ suc n0 → ⊥).
      by_steps os os _ _ (fetch (instr_at o t.pc_green) t w) (fetch (instr_at o t.pc_green) t w)
      (step_fetches o t w go none pcs)
      (step_fetches s' t w go none pcs ∙ ap (λ u. fetch u t w) (same_instr t.pc_green ne l))
      (together (extended os (fetch (instr_at o t.pc_green) t w)) (clear_fetch (instr_at o t.pc_green) t w ne l)))
      (cases_eq t.pc_green (suc n0))

  together_execute : (t : State) (w : List Wild) (os : List Output) (P : Place) (i : Instr) → t.status ≡ Running →
      t.fetched ≡ Some i → Fits o P t → Onward t w P → t.pc_green ≢ suc n0 → t.pc_green ≢ suc (suc n0) →
      Side n0 p.first p.second (extended os (step o t w)) (extended os (step s' t w))
  together_execute t w os P i go e fits on h l =
      let x = execute i t w in
      let eq = step_executes o t w i go e in
      let after : x.state.status ≡ Running → x.state.pc_green ≢ suc (suc n0) = (λ run_on.
      let on' = on (ap (λ (z : Stepping). z.state.status) eq ∙ run_on) in
      let number : Number P (next_place o t.fetched t P) =
      subst (λ (u : Option Instr). Number P (next_place o u t P)) (sym e) (number_after o i t P) in
      let pc = pc_next t (step o t w).state P (next_place o t.fetched t P) number fits on'.0 on'.1 h l in
      subst (λ (z : Stepping). z.state.pc_green ≢ suc (suc n0)) eq pc) in
      by_steps os os _ _ x x eq (step_executes s' t w i go e)
      (together (extended os x) (record {
        not_between = after;
        not_fetched = λ run_on j f. (let none = fetches_none i t w run_on in cc);
      }))

  together_running : (t : State) (w : List Wild) (os : List Output) (P : Place) (u : Option Instr) → t.fetched ≡ u →
      t.status ≡ Running → w ≡ [] → Clear n0 t → Fits o P t → Onward t w P →
      Side n0 p.first p.second (extended os (step o t w)) (extended os (step s' t w))
  together_running t w os P None e go nil c fits on = together_fetch t w os go e (fits.pc_green
      ∙ sym fits.pc_blue) (c.not_between go) nil
  together_running t w os P (Some i) e go nil c fits on =
      together_execute t w os P i go e fits on (c.not_fetched go i e) (c.not_between go)

  together_stopped : (t : State) (w : List Wild) (os : List Output) → HasStopped t.status →
      Side n0 p.first p.second (extended os (step o t w)) (extended os (step s' t w))
  together_stopped t w os h =
      by_steps os os _ _ _ _ (stays_at o t.status t w h) (stays_at s' t.status t w h)
      (together (extended os (quiet t w)) (clear_stopped t (λ go. subst HasStopped go h)))

  together_step : (t : State) (w : List Wild) (os : List Output) (P : Place) (u : Status) → t.status ≡ u → w ≡ [] →
      Clear n0 t → (t.status ≡ Running → Fits o P t) → Onward t w P →
      Side n0 p.first p.second (extended os (step o t w)) (extended os (step s' t w))
  together_step t w os P Running e nil c fits on = together_running t w os P t.fetched refl e nil c (fits e) on
  together_step t w os P Done e nil c fits on = together_stopped t w os (subst HasStopped (sym e) tt)
  together_step t w os P Detected e nil c fits on = together_stopped t w os (subst HasStopped (sym e) tt)

  side_step : (r r' : Ran) (P : Place) → Side n0 p.first p.second r r' → r.wild ≡ [] →
      (r.state.status ≡ Running → Fits o P r.state) → Onward r.state r.wild P →
      (step o r.state r.wild).state.status ≢ Detected → (step s' r'.state r'.wild).state.status ≢ Detected →
      Side n0 p.first p.second (extended r.outputs (step o r.state r.wild))
      (extended r'.outputs (step s' r'.state r'.wild))
  side_step _ _ P (together r c) nil fits on und und' = together_step r.state r.wild r.outputs P r.state.status refl nil
      c fits on
  side_step _ _ P (first_fetched t os base) nil fits on und und' =
      step_first t os base
      (subst (λ (z : Stepping). z.state.status ≢ Detected)
      (step_executes o (record t { fetched = Some p.first }) [] p.first base.running refl) und)
      (subst (λ (z : Stepping). z.state.status ≢ Detected)
      (step_executes s' (record t { fetched = Some p.second }) [] p.second base.running refl) und')
  side_step _ _ P (first_done t os os' m m' x base z e) nil fits on und und' = step_between t os os' m m' x base z e
  side_step _ _ P (second_fetched t os os' m m' x base z e) nil fits on und und' = step_last t os os' m m' x base z e

  start_clear : Clear n0 (start o)
  start_clear = record {
    not_between = λ go e. begins (accepted_fits o [] 0 spelled acc) e;
    not_fetched = λ go i f. cc;
  }
    where
      begins : FitsAfter o [] 0 → (start o).pc_green ≢ suc (suc n0)
      begins f e =
          let at' : IsPlace o (place o [] 0) = f.is_place (ap (λ (r : Ran). r.state.status) (run-zero o None [])) in
          let at0 : IsPlace o (start_place o) = subst (IsPlace o) (place-zero o []) at' in
          no_start o b k at0.number (entry_block o) spelled p at0.block (omega arith)

  pub sides : (n : ℕ) → Side n0 p.first p.second (run o None [] n) (run s' None [] n)
  unfolding run place
  sides zero = together (run o None [] 0) start_clear
  sides (suc n) =
      let f = accepted_fits o [] n spelled acc in
      let g = accepted_fits o [] (suc n) spelled acc in
      let g' = accepted_fits s' [] (suc n) spelled' acc' in
      side_step (run o None [] n) (run s' None [] n) (place o [] n) (sides n) f.wild f.fits (λ go.
      (g.is_place go, g.fits go)) g.undetected g'.undetected
