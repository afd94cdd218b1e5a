-- Runs of an object compared with those of objects that come from it.
use Rattle.std.proofs.Common.{◌≡◌, ◌≢◌, ⊎_elim, ℕ, zero, suc, ◌+◌, ◌*◌, ◌-◌, ◌≤◌, Bool, true, false, List, [], ◌++◌}
use Rattle.std.proofs.Common.{length, drop, Option, Some, None, slice_get, refl, sym, ap, ◌∙◌, subst, arith, append-nil}
use Rattle.std.proofs.Common.{length-take, length-drop}
use Rattle.std.specs.Option.{option_to_list}
use Rattle.std.proofs.lemmas.Bool.{cases_eq}
use Rattle.std.proofs.lemmas.Option.{slice_get_within}
use Rattle.ft_simulation.proofs.Lists.{begins_itself, begins_on}
use Rattle.ft_isa.specs.declared.instr.Instr.{Instr}
use Rattle.ft_isa.specs.declared.instr.Instr.TheVariants.{JmpG, JmpB, BzG, BzB, Halt}
use Rattle.ft_isa.specs.declared.plan.Wild.{Wild}
use Rattle.ft_semantics.specs.declared.status.Status.{Status}
use Rattle.ft_semantics.specs.declared.status.Status.TheVariants.{Running, Done, Detected}
use Rattle.ft_types.specs.declared.object.Object.{Object}
use Rattle.ft_types.specs.Objects.{block_start, block_end, block_instrs, instr_at}
use Rattle.ft_semantics.specs.Agrees.{IsPrefix}
use Rattle.ft_types.specs.Spellable.{IsSpellable}
use Rattle.ft_typing.specs.Accepted.{IsAccepted}
use Rattle.ft_semantics.specs.State.{State}
use Rattle.ft_semantics.specs.Step.{Stepping, step, fetch}
use Rattle.ft_semantics.proofs.Runs.{outputs_grow}
use Rattle.ft_semantics.specs.Run.{Ran, run, state_after, wild_after, outputs_after, status_after}
use Rattle.ft_typing.specs.Context.{Context}
use Rattle.ft_typing.specs.TypingRow.{row}
use Rattle.ft_typing.specs.RowWords.{Outcome, Goes}
use Rattle.ft_tolerance.specs.TypedState.{Place, instr_number, further, place_after, next_place, place, Fits}
use Rattle.ft_tolerance.specs.TypedState.{context_of, context_after, context_at, IsPlace}
use Rattle.ft_tolerance.proofs.Whole.{accepted_fits}
use Rattle.ft_tolerance.proofs.AcceptedSteps.{Here, here, Passes, ends, goes}
use Rattle.ft_tolerance.proofs.AnyAnswers.{any_answers}
use Rattle.ft_isa.specs.Instructions.{is_fixed}
use Rattle.ft_exchange.specs.Exchange.{queue_before, IsPermitted, exchanged, after_exchange}
use Rattle.ft_exchange.specs.Scheduled.{ComesFrom, itself, exchange}
use Rattle.ft_exchange.specs.Alike.{RunsAlike}
use Rattle.ft_exchange.proofs.Lists.{get_first, get_second, get_other}
use Rattle.ft_exchange.proofs.BlockRanges.{Placed, placed}
use Rattle.ft_exchange.proofs.Permits.{Permits, permits}
use Rattle.ft_exchange.proofs.QueueLengths.{ends_fixed}
use Rattle.ft_exchange.proofs.Accepted.{spellable_exchanged, accepted_exchanged}
use Rattle.ft_exchange.proofs.Lockstep.{step_fetches, Side, together, first_fetched, first_done, second_fetched}
use Rattle.ft_exchange.proofs.Lockstep.{next_of, sides}

-- WHERE RUNS MEET

-- a state is a meeting point if it has stopped, or is at a fixed instruction or at no instruction
abbrev meets_by : Status → Option Instr → Bool
meets_by Running (Some i) = is_fixed i
meets_by Running None = true
meets_by Done u = true
meets_by Detected u = true

abbrev is_meeting : Object → State → Bool
is_meeting o t = meets_by t.status (instr_at o t.pc_green)

-- the runs of two objects after the same number of steps
pub record Tied (o s : Object) (r x : Ran) : Type 0 where
  pub status : x.state.status ≡ r.state.status
  pub prefix : IsPrefix x.outputs r.outputs
  pub meets : is_meeting o r.state ≡ true → r ≡ x
  pub meeting : is_meeting o r.state ≡ true → is_meeting s x.state ≡ true

tied_itself : (o : Object) (r : Ran) → Tied o o r r
tied_itself o r = record { status = refl; prefix = begins_itself r.outputs; meets = λ _. refl; meeting = λ h. h }

tied_on : (o s t : Object) (r x y : Ran) → Tied o s r x → Tied s t x y → Tied o t r y
tied_on o s t r x y h l = record {
  status = l.status ∙ h.status;
  prefix = begins_on y.outputs x.outputs r.outputs l.prefix h.prefix;
  meets = λ m. h.meets m ∙ l.meets (h.meeting m);
  meeting = λ m. l.meeting (h.meeting m);
}

module _ (o : Object) (b k : ℕ) (spelled : IsSpellable o) (acc : IsAccepted o) (p : IsPermitted o b k) where
  abbrev n0 : ℕ
  n0 = block_start o b + k

  abbrev s' : Object
  s' = after_exchange o b k

  allows : Permits (queue_before o b k) p.first p.second
  allows = permits (queue_before o b k) p.first p.second p.may

  at : Placed o b k p.first p.second
  at = placed o b k p

  -- both objects have fixed instructions at the same addresses
  meets_same : (st : Status) (a : ℕ) → meets_by st (instr_at s' a) ≡ meets_by st (instr_at o a)
  meets_same Done a = refl
  meets_same Detected a = refl
  meets_same Running zero = refl
  meets_same Running (suc i) =
      ⊎_elim
      (λ (e : i ≡ n0). subst (λ j. meets_by Running (slice_get (exchanged o.instrs n0) j)
      ≡ meets_by Running (slice_get o.instrs j)) (sym e)
      (ap (meets_by Running) (get_first o.instrs n0 p.first p.second at.first_there at.second_there)
      ∙ allows.second_free ∙ sym allows.first_free ∙ sym (ap (meets_by Running) at.first_there)))
      (λ (ne : i ≡ n0 → ⊥). ⊎_elim
      (λ (e : i ≡ suc n0). subst (λ j. meets_by Running (slice_get (exchanged o.instrs n0) j)
      ≡ meets_by Running (slice_get o.instrs j)) (sym e)
      (ap (meets_by Running) (get_second o.instrs n0 p.first p.second at.first_there at.second_there)
      ∙ allows.first_free ∙ sym allows.second_free ∙ sym (ap (meets_by Running) at.second_there)))
      (λ (ne' : i ≡ suc n0 → ⊥). ap (meets_by Running) (get_other o.instrs n0 i ne ne'))
      (cases_eq i (suc n0)))
      (cases_eq i n0)

  -- a running state at an instruction that isn't fixed is not at a meeting point
  apart : (t : State) (a : ℕ) (i : Instr) → t.status ≡ Running → t.pc_green ≡ a → instr_at o a ≡ Some i → is_fixed i
      ≡ false → is_meeting o t ≡ true → ⊥
  apart t a i go e f free m = (let g : is_meeting o t ≡ false = (λ j. meets_by (go j) (instr_at o (e j)))
      ∙ ap (meets_by Running) f ∙ free in cc)

  tied_apart : (r x : Ran) (a : ℕ) (i : Instr) → x.state.status ≡ r.state.status → IsPrefix x.outputs r.outputs →
      r.state.status ≡ Running → r.state.pc_green ≡ a → instr_at o a ≡ Some i → is_fixed i ≡ false → Tied o s' r x
  tied_apart r x a i st pre go e f free = record {
    status = st;
    prefix = pre;
    meets = λ m. absurd (apart r.state a i go e f free m);
    meeting = λ m. absurd (apart r.state a i go e f free m);
  }

  tied_side : (r x : Ran) → Side n0 p.first p.second r x → Tied o s' r x
  tied_side _ _ (together r c) = record {
    status = refl;
    prefix = ([], append-nil r.outputs);
    meets = λ _. refl;
    meeting = λ m. meets_same r.state.status r.state.pc_green ∙ m;
  }
  tied_side _ _ (first_fetched t os base) = tied_apart _ _ (suc n0) p.first refl (
    [],
    append-nil os,
  ) base.running base.green at.first_there allows.first_free
  tied_side _ _ (first_done t os os' m m' x base z e) = tied_apart _ _ (suc (suc n0)) p.second refl (
    option_to_list x,
    sym e,
  ) base.running (next_of o b k spelled acc p t base) at.second_there allows.second_free
  tied_side _ _ (second_fetched t os os' m m' x base z e) =
      tied_apart _ _ (suc (suc n0)) p.second refl (
        option_to_list x,
        sym e,
      ) base.running (next_of o b k spelled acc p t base) at.second_there allows.second_free

  tied_exchange : (n : ℕ) → Tied o s' (run o None [] n) (run s' None [] n)
  tied_exchange n = tied_side (run o None [] n) (run s' None [] n) (sides o b k spelled acc p n)

-- CHAINS

-- an object that comes from an accepted one is spellable and accepted, and its run is tied to the other's
pub record Kept (o s : Object) : Type 0 where
  pub spellable : IsSpellable s
  pub accepted : IsAccepted s
  pub tied : (n : ℕ) → Tied o s (run o None [] n) (run s None [] n)

pub kept : (o s : Object) → IsSpellable o → IsAccepted o → ComesFrom o s → Kept o s
kept o _ spelled acc itself = record {
  spellable = spelled;
  accepted = acc;
  tied = λ n. tied_itself o (run o None [] n);
}
kept o _ spelled acc (exchange {s = s} b k h p) =
    let l = kept o s spelled acc h in
    record {
      spellable = spellable_exchanged s b k l.spellable p;
      accepted = accepted_exchanged s b k l.spellable l.accepted p;
      tied = λ n. tied_on o s (after_exchange s b k) (run o None [] n) (run s None [] n)
          (run (after_exchange s b k) None [] n) (l.tied n) (tied_exchange s b k l.spellable l.accepted p n);
    }

-- THE NEXT MEETING POINT

further_free : (o : Object) (i : Instr) (t : State) (P : Place) → is_fixed i ≡ false → place_after o i t P
    ≡ further (row o P.context i) P
further_free o (JmpG rd) t P h = cc
further_free o (JmpB rd u) t P h = cc
further_free o (BzG rz rd) t P h = cc
further_free o (BzB rz rd u) t P h = cc
further_free o Halt t P h = cc
further_free o i t P h = refl

-- the row of an instruction that isn't fixed continues
goes_free : (o : Object) (c : Context) (i : Instr) → Passes o c i → is_fixed i ≡ false → (d : Context)
    × (row o c i ≡ Goes d)
goes_free o c i (ends e) free = (let f = ends_fixed o c i e in absurd (cc))
goes_free o c i (goes d e) free = (d, e)

-- 1 if something is fetched, and 0 otherwise
abbrev fetched_one : Option Instr → ℕ
fetched_one None = 0
fetched_one (Some i) = 1

fetched_few : (u : Option Instr) → fetched_one u ≤ 1
fetched_few None = omega arith
fetched_few (Some i) = omega arith

-- a place with at most f steps to the end of its block
pub record Ahead (o : Object) (t : State) (P : Place) (f : ℕ) : Type 0 where
  pub at : IsPlace o P
  pub enough : 2 * length (block_instrs o at.number) ≤ f + fetched_one t.fetched + 2 * P.index

-- a running state at an instruction that isn't fixed
pub record Free (o : Object) (t : State) : Type 0 where
  pub running : t.status ≡ Running
  pub instr : Instr
  pub there : instr_at o t.pc_green ≡ Some instr
  pub free : is_fixed instr ≡ false

free_by : (o : Object) (t : State) (u : Status) (x : Option Instr) → t.status ≡ u → instr_at o t.pc_green ≡ x →
    meets_by u x ≡ false → Free o t
free_by o t Running (Some i) e f h = record { running = e; instr = i; there = f; free = h }
free_by o t Running None e f h = cc
free_by o t Done x e f h = cc
free_by o t Detected x e f h = cc

stopped_meets : (u : Status) (x : Option Instr) → u ≢ Running → meets_by u x ≡ true
stopped_meets Running x h = absurd (h refl)
stopped_meets Done x h = refl
stopped_meets Detected x h = refl

module _ (o : Object) (spelled : IsSpellable o) (acc : IsAccepted o) where
  -- the instruction at the counter is the one at the place
  instr_here : (t : State) (P : Place) (n : ℕ) (h : Here o P n) → Fits o P t → (free : Free o t) → h.instr ≡ free.instr
  instr_here t P n h fits free =
      let pc : t.pc_green ≡ suc (instr_number P) = (let g = fits.pc_green in omega arith) in
      let both : Some h.instr ≡ Some free.instr = sym h.there ∙ sym (ap (instr_at o) pc) ∙ free.there in
      cc

  ahead_fetched : (t : State) (w : List Wild) (P : Place) (f : ℕ) (i : Instr) → t.status ≡ Running → t.fetched ≡ None →
      Fits o P t → instr_at o t.pc_green ≡ Some i → Ahead o t P (suc f) →
      Ahead o (step o t w).state (next_place o t.fetched t P) f
  ahead_fetched t w P f i go none fits there a =
      let eq = step_fetches o t w go none (fits.pc_green ∙ sym fits.pc_blue) ∙ ap (λ u. fetch u t w) there in
      let same : next_place o t.fetched t P ≡ P = ap (λ (u : Option Instr). next_place o u t P) none in
      let enough = a.enough in
      let zero_fetched : fetched_one t.fetched ≡ 0 = ap fetched_one none in
      subst (λ (Q : Place). Ahead o (step o t w).state Q f) (sym same)
      (subst (λ (x : Stepping). Ahead o x.state P f) (sym eq) (record { at = a.at; enough = omega arith }))

  ahead_executed : (t : State) (w : List Wild) (P : Place) (f : ℕ) (a : Ahead o t P (suc f)) (h : Here o P a.at.number)
      → t.fetched ≡ Some h.instr → is_fixed h.instr ≡ false → Ahead o (step o t w).state (next_place o t.fetched t P) f
  unfolding context_at
  ahead_executed t w P f a h e free =
      let g = goes_free o P.context h.instr h.passes free in
      let Q : Place = record P { index = suc P.index; context = g.0 } in
      let same : next_place o t.fetched t P ≡ Q = ap (λ (u : Option Instr). next_place o u t P) e
      ∙ further_free o h.instr t P free ∙ ap (λ (x : Outcome). further x P) g.1 in
      let is_place : IsPlace o Q = record {
        number = a.at.number;
        block = a.at.block;
        context = (λ i. context_after o (h.in_block i) (a.at.context i)) ∙ ap context_of g.1;
      } in
      let enough = a.enough in
      let few = fetched_few t.fetched in
      subst (λ (z : Place). Ahead o (step o t w).state z f) (sym same) (record { at = is_place; enough = omega arith })

  ahead_next : (t : State) (w : List Wild) (P : Place) (f : ℕ) → Free o t → Fits o P t → Ahead o t P (suc f) →
      Ahead o (step o t w).state (next_place o t.fetched t P) f
  ahead_next t w P f free fits a =
      let h = here o P acc a.at in
      let same = instr_here t P a.at.number h fits free in
      ⊎_elim
      (λ (none : t.fetched ≡ None). ahead_fetched t w P f free.instr free.running none fits free.there a)
      (λ (e : t.fetched ≡ slice_get o.instrs (instr_number P)).
      ahead_executed t w P f a h (e ∙ h.there) (ap is_fixed same ∙ free.free))
      fits.fetched

  -- from any place, at least one step is left to the end of its block
  ahead_some : (t : State) (P : Place) → Ahead o t P 0 → ⊥
  ahead_some t P a =
      let h = here o P acc a.at in
      let below = slice_get_within (block_instrs o a.at.number) P.index h.instr h.in_block in
      let enough = a.enough in
      let few = fetched_few t.fetched in
      omega arith

  -- after at most f more steps, the run is at a meeting point
  pub record Soon (n f : ℕ) : Type 0 where
    pub step_number : ℕ
    pub from : n ≤ step_number
    pub up_to : step_number ≤ n + f
    pub meets : is_meeting o (state_after o None [] step_number) ≡ true

  soon : (f n : ℕ) → (status_after o None [] n ≡ Running → Ahead o (state_after o None [] n) (place o [] n) f) →
      Soon n f
  unfolding run place
  soon f n ahead = by_test f n (is_meeting o (state_after o None [] n)) refl ahead
    where
      by_test : (f n : ℕ) (m : Bool) → is_meeting o (state_after o None [] n) ≡ m →
          (status_after o None [] n ≡ Running → Ahead o (state_after o None [] n) (place o [] n) f) → Soon n f
      by_test f n true e ahead = record { step_number = n; from = omega arith; up_to = omega arith; meets = e }
      by_test zero n false e ahead =
          (let free = free_by o (state_after o None [] n) _ _ refl refl e in
          absurd (ahead_some (state_after o None [] n) (place o [] n) (ahead free.running)))
      by_test (suc f) n false e ahead =
          (let free = free_by o (state_after o None [] n) _ _ refl refl e in
          let fits = (accepted_fits o [] n spelled acc).fits free.running in
          let l = by_test f (suc n) (is_meeting o (state_after o None [] (suc n))) refl (λ go.
          ahead_next (state_after o None [] n) (wild_after o None [] n) (place o [] n) f free fits
          (ahead free.running)) in
          let from = l.from in
          let up = l.up_to in
          record { step_number = l.step_number; from = omega arith; up_to = omega arith; meets = l.meets })

  pub soon_enough : (n : ℕ) → Soon n 131072
  soon_enough n = soon 131072 n (λ go.
      let at = (accepted_fits o [] n spelled acc).is_place go in
      let a = length-take (block_end o at.number - block_start o at.number) (drop (block_start o at.number) o.instrs) in
      let c = length-drop (block_start o at.number) o.instrs in
      let few = spelled.few_instrs in
      record { at = at; enough = omega arith })

-- WHOLE RUNS

alike_nil : (o s : Object) (n : ℕ) → IsSpellable o → IsAccepted o → ComesFrom o s → RunsAlike o s [] n
alike_nil o s n spelled acc h =
    let l = kept o s spelled acc h in
    let x = soon_enough o spelled acc n in
    let same : outputs_after o None [] x.step_number ≡ outputs_after s None [] x.step_number =
    ap (λ (r : Ran). r.outputs) ((l.tied x.step_number).meets x.meets) in
    record {
      status = (l.tied n).status;
      prefix = (l.tied n).prefix;
      end = λ stopped. sym (ap (λ (r : Ran). r.outputs) ((l.tied n).meets (stopped_meets _ _ stopped)));
      later = begins_on (outputs_after o None [] n) (outputs_after s None [] x.step_number)
          (outputs_after s None [] (n + 131072))
          (subst (IsPrefix (outputs_after o None [] n)) same (outputs_grow o None [] n x.step_number x.from))
          (outputs_grow s None [] x.step_number (n + 131072) x.up_to);
    }

pub alike : (o s : Object) (w : List Wild) (n : ℕ) → IsSpellable o → IsAccepted o → ComesFrom o s → RunsAlike o s w n
alike o s w n spelled acc h =
    let l = kept o s spelled acc h in
    let r = alike_nil o s n spelled acc h in
    let a = any_answers o w [] n spelled acc in
    let c = any_answers s w [] n l.spellable l.accepted in
    let d = any_answers s w [] (n + 131072) l.spellable l.accepted in
    let st = ap (λ (t : State). t.status) a.state in
    record {
      status = ap (λ (t : State). t.status) c.state ∙ r.status ∙ sym st;
      prefix = (r.prefix.0, (λ i. c.outputs i ++ r.prefix.0) ∙ r.prefix.1 ∙ sym a.outputs);
      end = λ stopped. c.outputs ∙ r.end (λ go. stopped (st ∙ go)) ∙ sym a.outputs;
      later = (r.later.0, (λ i. a.outputs i ++ r.later.0) ∙ r.later.1 ∙ sym d.outputs);
    }

pub comes_spellable : (o s : Object) → IsSpellable o → IsAccepted o → ComesFrom o s → IsSpellable s
comes_spellable o s spelled acc h = (kept o s spelled acc h).spellable

pub comes_accepted : (o s : Object) → IsSpellable o → IsAccepted o → ComesFrom o s → IsAccepted s
comes_accepted o s spelled acc h = (kept o s spelled acc h).accepted
