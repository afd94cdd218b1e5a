-- Two states that fit one place under one valuation go on alike: one step.
use Rattle.std.proofs.Common.{◌≡◌, ◌≢◌, ⊎_elim, ℕ, ◌==◌, nat_lt, Bool, true, false, ◌&&◌, not}
use Rattle.std.proofs.Common.{if◌then◌else◌, List, [], ◌∷◌, length, Option, Some, None, is_some, refl, sym, ap, ◌∙◌}
use Rattle.std.proofs.Common.{subst}
use Rattle.std.proofs.Common.{slice_get}
use Rattle.ft_isa.specs.declared.colour.Colour.{Colour}
use Rattle.ft_isa.specs.declared.colour.Colour.TheVariants.{Green, Blue}
use Rattle.ft_isa.specs.declared.reg.Reg.{Reg}
use Rattle.ft_isa.specs.declared.instr.Instr.{Instr}
use Rattle.ft_isa.specs.declared.instr.Instr.TheVariants.{Ld, St, JmpG, JmpB, BzG, BzB, Halt}
use Rattle.ft_isa.specs.declared.output.Output.{Output}
use Rattle.ft_isa.specs.declared.plan.Wild.{Wild}
use Rattle.ft_isa.specs.declared.plan.Wild.TheVariants.{Word, Stop}
use Rattle.ft_types.specs.declared.object.Object.{Object}
use Rattle.ft_types.specs.Objects.{instr_at}
use Rattle.ft_types.specs.Spellable.{IsSpellable}
use Rattle.ft_semantics.specs.declared.status.Status.{Status}
use Rattle.ft_semantics.specs.declared.status.Status.TheVariants.{Running, Done, Detected}
use Rattle.ft_semantics.specs.State.{State, word}
use Rattle.ft_semantics.specs.Step.{Stepping, step, step_at, advance, fetch, detected, execute, load, found, pass}
use Rattle.ft_semantics.specs.Step.{commits}
use Rattle.ft_typing.specs.TypedWord.{block_at}
use Rattle.ft_typing.specs.Context.{Typed, Context, typed}
use Rattle.ft_typing.specs.TypingRow.{row}
use Rattle.ft_typing.specs.RowWords.{Outcome, Goes, Ends}
use Rattle.ft_typing.specs.Accepted.{IsAccepted}
use Rattle.ft_typing.proofs.TypingRows.{Holds, row_holds}
use Rattle.ft_tolerance.specs.TypedState.{Place, instr_number, further, arrived, place_after, next_place, FitsContext}
use Rattle.ft_tolerance.specs.TypedState.{Fits, IsPlace}
use Rattle.ft_tolerance.specs.Soundness.{EndsOrFits, ended, running}
use Rattle.ft_tolerance.proofs.AcceptedSteps.{Passes, ends, goes, Here, here, keeps}
use Rattle.ft_tolerance.proofs.Masking.{undetected}
use Rattle.ft_points.specs.Points.{AreTogether, both_done, both_run, GoTogether}

-- WHAT AN INSTRUCTION READS

-- what is known is there
known_there : (x : Option Typed) → is_some x ≡ true → (t : Typed) × (x ≡ Some t)
known_there None e = cc
known_there (Some t) e = (t, refl)

module _ (o : Object) (p : Place) (s u : State) (hs : FitsContext o p.valuation p.context s)
    (hu : FitsContext o p.valuation p.context u) where
  -- a typed register has the same word in both states
  same_word : (r : Reg) → is_some (typed p.context r.number) ≡ true → word s r ≡ word u r
  same_word r e =
      let t = known_there (typed p.context r.number) e in
      (hs.registers r.number t.0 t.1).word ∙ sym (hu.registers r.number t.0 t.1).word

  -- so both states go to the same place
  same_place : (i : Instr) (x : Outcome) → Holds o p.context i x → place_after o i s p ≡ place_after o i u p
  same_place (JmpB rd b) x h = ap (λ w. arrived o (block_at o w) b p) (same_word rd h.tested.0)
  same_place (BzB rz rd b) x h = λ k.
      if same_word rz h.tested.0 k == 0 then arrived o (block_at o (same_word rd h.tested.1.0 k)) b p
      else further (row o p.context (BzB rz rd b)) p
  same_place i x h = refl

-- the output of an instruction that is executed without a detection
abbrev says : Instr → State → Option Output
says (St Blue rd rs) s = Some (record { addr = word s rd; value = word s rs })
says i s = None

-- the status after it
abbrev ending : Instr → Status → Status
ending Halt x = Done
ending i x = x

-- executing an instruction without a detection
record Acts (i : Instr) (s : State) (t : Stepping) : Type 0 where
  pub output : t.output ≡ says i s
  pub status : t.state.status ≡ ending i s.status
  pub fetched : i ≢ Halt → t.state.fetched ≡ None

-- a load that is not detected acts
acts_load : (c : Colour) (rd rs : Reg) (x : Option ℕ) (s : State) (w : List Wild) → (load c rd x s w).state.status
    ≢ Detected → Acts (Ld c rd rs) s (load c rd x s w)
acts_load c rd rs (Some v) s w ok = record { output = refl; status = refl; fetched = λ _. refl }
acts_load c rd rs None s [] ok = absurd (ok refl)
acts_load c rd rs None s (Word v ∷ w) ok = record { output = refl; status = refl; fetched = λ _. refl }
acts_load c rd rs None s (Stop ∷ w) ok = absurd (ok refl)

-- a step that depends on a test, and detects a fault if the test fails
acts_if : (i : Instr) (b : Bool) (s : State) (x : Stepping) (w : List Wild) → Acts i s x → (if b then x
    else detected s w).state.status ≢ Detected → Acts i s (if b then x else detected s w)
acts_if i true s x w h ok = h
acts_if i false s x w h ok = absurd (ok refl)

-- an instruction that is not detected acts
acts : (i : Instr) (s : State) (w : List Wild) → (execute i s w).state.status ≢ Detected → Acts i s (execute i s w)
acts (Ld c rd rs) s w ok = acts_load c rd rs (found c s (word s rs)) s w ok
acts (St Green rd rs) s w ok = acts_if (St Green rd rs) (nat_lt (length s.queue) 8) s _ w
    (record { output = refl; status = refl; fetched = λ _. refl }) ok
acts (St Blue rd rs) s w ok = acts_if (St Blue rd rs) (commits (word s rd) (word s rs) s) s _ w
    (record { output = refl; status = refl; fetched = λ _. refl }) ok
acts (JmpG rd) s w ok = acts_if (JmpG rd) (s.d == 0) s _ w
    (record { output = refl; status = refl; fetched = λ _. refl }) ok
acts (JmpB rd b) s w ok = acts_if (JmpB rd b) (not (s.d == 0) && (s.d == word s rd)) s _ w
    (record { output = refl; status = refl; fetched = λ _. refl }) ok
acts (BzG rz rd) s w ok = by_test (word s rz == 0) ok
  where
    by_test : (t : Bool) → (if t then execute (JmpG rd) s w else pass s w).state.status ≢ Detected →
        Acts (BzG rz rd) s (if t then execute (JmpG rd) s w else pass s w)
    by_test true ok = acts_if (BzG rz rd) (s.d == 0) s _ w
        (record { output = refl; status = refl; fetched = λ _. refl }) ok
    by_test false ok = acts_if (BzG rz rd) (s.d == 0) s _ w
        (record { output = refl; status = refl; fetched = λ _. refl }) ok
acts (BzB rz rd b) s w ok = by_test (word s rz == 0) ok
  where
    by_test : (t : Bool) → (if t then execute (JmpB rd b) s w else pass s w).state.status ≢ Detected →
        Acts (BzB rz rd b) s (if t then execute (JmpB rd b) s w else pass s w)
    by_test true ok = acts_if (BzB rz rd b) (not (s.d == 0) && (s.d == word s rd)) s _ w
        (record { output = refl; status = refl; fetched = λ _. refl }) ok
    by_test false ok = acts_if (BzB rz rd b) (s.d == 0) s _ w
        (record { output = refl; status = refl; fetched = λ _. refl }) ok
acts Halt s w ok = record { output = refl; status = refl; fetched = λ n. absurd (n refl) }
acts i s w ok = record { output = refl; status = refl; fetched = λ _. refl }

-- both states have the same output
same_says : (o : Object) (p : Place) (s u : State) → FitsContext o p.valuation p.context s →
    FitsContext o p.valuation p.context u → (i : Instr) (x : Outcome) → Holds o p.context i x → says i s ≡ says i u
same_says o p s u hs hu (St Blue rd rs) x h = λ k.
    Some (record { addr = same_word o p s u hs hu rd h.tested.0 k; value = same_word o p s u hs hu rs h.tested.1.0 k })
same_says o p s u hs hu i x h = refl

-- ONE STEP

-- an instruction of an accepted block passes the tests of its row
holds_by : (o : Object) (c : Context) (i : Instr) → Passes o c i → (x : Outcome) × Holds o c i x
holds_by o c i (ends f) = (Ends, row_holds o c i Ends f (λ n g. cc))
holds_by o c i (goes d f) = (Goes d, row_holds o c i (Goes d) f (λ n g. cc))

-- if both states are done or fit a place, they are together if they have the same status and have fetched the same
join : (o : Object) (p : Place) (s u : State) → EndsOrFits o p s → EndsOrFits o p u → s.status ≡ u.status →
    (s.status ≡ Running → s.fetched ≡ u.fetched) → AreTogether o p s u
join o p s u (ended d) (ended e) same f = both_done d e
join o p s u (ended d) (running go at fits) same f = cc
join o p s u (running go at fits) (ended d) same f = cc
join o p s u (running go at fits) (running go' at' fits') same f = both_run go go' at fits fits' (f go)

-- fetching without a detection
record Fetches (x : Option Instr) (s : State) (t : Stepping) : Type 0 where
  pub output : t.output ≡ None
  pub status : t.state.status ≡ s.status
  pub fetched : t.state.fetched ≡ x

-- a fetch that is not detected
fetches : (b : Bool) (x : Option Instr) (s : State) (w : List Wild) → (if b then fetch x s w
    else detected s w).state.status ≢ Detected → Fetches x s (if b then fetch x s w else detected s w)
fetches true (Some i) s w ok = record { output = refl; status = refl; fetched = refl }
fetches true None s w ok = absurd (ok refl)
fetches false x s w ok = absurd (ok refl)

module _ (o : Object) (p : Place) (s u : State) (w v : List Wild) (spelled : IsSpellable o) (acc : IsAccepted o)
    (go : s.status ≡ Running) (go' : u.status ≡ Running) (at : IsPlace o p) (fits : Fits o p s) (fits' : Fits o p u)
  where
    -- both states execute the instruction at the place
    executed : (h : Here o p at.number) → EndsOrFits o (place_after o h.instr s p) (execute h.instr s w).state →
        EndsOrFits o (place_after o h.instr u p) (execute h.instr u v).state →
        GoTogether o (place_after o h.instr s p) (execute h.instr s w) (execute h.instr u v)
    executed h a b =
        let t = holds_by o p.context h.instr h.passes in
        let x = acts h.instr s w (undetected o (place_after o h.instr s p) (execute h.instr s w).state a) in
        let y = acts h.instr u v (undetected o (place_after o h.instr u p) (execute h.instr u v).state b) in
        let place = same_place o p s u fits.context fits'.context h.instr t.0 t.1 in
        let status = x.status ∙ ap (ending h.instr) (go ∙ sym go') ∙ sym y.status in
        record {
          output = x.output ∙ same_says o p s u fits.context fits'.context h.instr t.0 t.1 ∙ sym y.output;
          after = join o (place_after o h.instr s p) (execute h.instr s w).state (execute h.instr u v).state a
              (subst (λ (q : Place). EndsOrFits o q (execute h.instr u v).state) (sym place) b) status
              (λ r. let not_halt : h.instr ≢ Halt = (λ e. let done = x.status ∙ ap (λ i. ending i s.status) e in cc) in
              x.fetched not_halt ∙ sym (y.fetched not_halt));
        }

    -- both states fetch the instruction at the place
    fetched_both : EndsOrFits o p (advance o None s w).state → EndsOrFits o p (advance o None u v).state →
        GoTogether o p (advance o None s w) (advance o None u v)
    fetched_both a b =
        let x = fetches (s.pc_green == s.pc_blue) (instr_at o s.pc_green) s w
        (undetected o p (advance o None s w).state a) in
        let y = fetches (u.pc_green == u.pc_blue) (instr_at o u.pc_green) u v
        (undetected o p (advance o None u v).state b) in
        record {
          output = x.output ∙ sym y.output;
          after = join o p (advance o None s w).state (advance o None u v).state a b
              (x.status ∙ go ∙ sym go' ∙ sym y.status)
              (λ r. x.fetched ∙ ap (instr_at o) (fits.pc_green ∙ sym fits'.pc_green) ∙ sym y.fetched);
        }

    executed_as : (h : Here o p at.number) (i : Instr) → h.instr ≡ i →
        EndsOrFits o (place_after o i s p) (execute i s w).state →
        EndsOrFits o (place_after o i u p) (execute i u v).state →
        GoTogether o (place_after o i s p) (execute i s w) (execute i u v)
    executed_as h i e = subst (λ (j : Instr). EndsOrFits o (place_after o j s p) (execute j s w).state →
        EndsOrFits o (place_after o j u p) (execute j u v).state →
        GoTogether o (place_after o j s p) (execute j s w) (execute j u v)) e (executed h)

    by_fetched : (x : Option Instr) → s.fetched ≡ x → EndsOrFits o (next_place o x s p) (advance o x s w).state →
        EndsOrFits o (next_place o x u p) (advance o x u v).state →
        GoTogether o (next_place o x s p) (advance o x s w) (advance o x u v)
    by_fetched None e a b = fetched_both a b
    by_fetched (Some i) e a b =
        let h = here o p acc at in
        executed_as h i (⊎_elim (λ (n : s.fetched ≡ None). absurd (cc)) (λ (f : s.fetched
        ≡ slice_get o.instrs (instr_number p)). let g = h.there in let same : h.instr ≡ i = cc in same) fits.fetched) a
        b

    -- a step of a running machine
    step_runs : (t : State) (z : List Wild) → t.status ≡ Running → step o t z ≡ advance o t.fetched t z
    step_runs t z r = ap (λ x. step_at o x t z) r

    -- one step of both keeps them together
    pub step_together : s.fetched ≡ u.fetched → GoTogether o (next_place o s.fetched s p) (step o s w) (step o u v)
    step_together e =
        let a = (keeps o p s w spelled acc at go fits).after in
        let b = (keeps o p u v spelled acc at go' fits').after in
        let a' = subst (λ (t : Stepping). EndsOrFits o (next_place o s.fetched s p) t.state) (step_runs s w go) a in
        let b' = subst (λ (x : Option Instr). EndsOrFits o (next_place o x u p) (advance o x u v).state) (sym e)
        (subst (λ (t : Stepping). EndsOrFits o (next_place o u.fetched u p) t.state) (step_runs u v go') b) in
        let both = by_fetched s.fetched refl a' b' in
        subst (λ (t : Stepping). GoTogether o (next_place o s.fetched s p) t (step o u v)) (sym (step_runs s w go))
        (subst (λ (t : Stepping). GoTogether o (next_place o s.fetched s p) (advance o s.fetched s w) t)
        (sym (step_runs u v go' ∙ ap (λ x. advance o x u v) (sym e))) both)

-- a step from each of two states that are together keeps them so, with the same output
pub go_together : (o : Object) (p : Place) (s u : State) (w v : List Wild) → IsSpellable o → IsAccepted o →
    AreTogether o p s u → GoTogether o (next_place o s.fetched s p) (step o s w) (step o u v)
go_together o p s u w v spelled acc (both_done d e) =
    subst (λ (x : Status). GoTogether o (next_place o s.fetched s p) (step_at o x s w) (step o u v)) (sym d)
    (subst (λ (x : Status). GoTogether o (next_place o s.fetched s p) (step_at o Done s w) (step_at o x u v)) (sym e)
    (record { output = refl; after = both_done d e }))
go_together o p s u w v spelled acc (both_run go go' at fits fits' e) =
    step_together o p s u w v spelled acc go go' at fits fits' e
