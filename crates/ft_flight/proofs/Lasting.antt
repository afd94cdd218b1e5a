-- In a cycle that is struck at most once, the cells always hold words of their types.
use Rattle.std.proofs.Common.{◌≡◌, ◌≢◌, ℕ, zero, suc, ◌-◌, ◌<◌, ◌≤◌, List, [], ◌∷◌, map, Option, Some, None, slice_get}
use Rattle.std.proofs.Common.{inl, inr, ◌⊎◌, refl, ap, sym, subst, ◌∙◌, arith, ⊎_elim, get_or, length}
use Rattle.std.specs.Prelude.{All}
use Rattle.std.specs.Option.{option_map}
use Rattle.std.proofs.lemmas.Bool.{cases_lt}
use Rattle.std.proofs.lemmas.Option.{slice_get-map, slice_get-get_or, slice_get_within}
use Rattle.ft_isa.specs.Words.{IsWord, cell_address}
use Rattle.ft_isa.specs.declared.basic.Basic.{Basic}
use Rattle.ft_isa.specs.declared.colour.Colour.{Colour}
use Rattle.ft_isa.specs.declared.plan.Strike.{Strike}
use Rattle.ft_isa.specs.declared.plan.Wild.{Wild}
use Rattle.ft_isa.specs.declared.plan.Wild.TheVariants.{Word, Stop}
use Rattle.ft_isa.specs.declared.reg.Reg.{Reg}
use Rattle.ft_types.specs.declared.object.Object.{Object}
use Rattle.ft_types.specs.declared.object.Cell.{Cell}
use Rattle.ft_types.specs.Objects.{basic_of, cell_head_of, init_of, init_or_zero}
use Rattle.ft_types.specs.Spellable.{IsSpellable}
use Rattle.ft_types.specs.InitialWords.{object_with_words, cells_with_words}
use Rattle.ft_typing.specs.TypedWord.{cell_of, cell_type, HasType}
use Rattle.ft_typing.specs.Accepted.{IsAccepted}
use Rattle.ft_typing.proofs.Runs.{cell_at_address}
use Rattle.ft_typing.proofs.SameTables.{has_over}
use Rattle.ft_semantics.specs.declared.status.Status.{Status}
use Rattle.ft_semantics.specs.declared.status.Status.TheVariants as status
use Rattle.ft_semantics.specs.State.{State, Cells, cell_at, word}
use Rattle.ft_semantics.specs.Step.{Stepping, step, step_at, found, load, wild_load}
use Rattle.ft_semantics.specs.Strike.{struck_before}
use Rattle.ft_semantics.specs.Run.{run, state_after, status_after}
use Rattle.ft_semantics.proofs.StepKinds.{step_at_is}
use Rattle.ft_machine.specs.Arrays.{cells_of}
use Rattle.ft_machine.proofs.Arrayed.{cell_read}
use Rattle.ft_machine.proofs.Steps.{strike_keeps}
use Rattle.ft_tolerance.specs.TypedState.{FitsCells}
use Rattle.ft_tolerance.specs.Alike.{IsAlikeOrDetected, is_alike, has_stopped}
use Rattle.ft_tolerance.proofs.Whole.{accepted_fits}
use Rattle.ft_tolerance.proofs.Masking.{alike_later, before}
use Rattle.ft_flight.specs.declared.state.FlightState.{FlightState}
use Rattle.ft_flight.specs.States.{state_in}
use Rattle.ft_flight.specs.Flights.{IsFlight, MayHold}
use Rattle.ft_flight.proofs.Started.{kept_with}

-- STEPS

-- a step keeps the cells or the status
abbrev Keeps : State → Stepping → Type 0
Keeps s t = (t.state.cells ≡ s.cells) ⊎ (t.state.status ≡ s.status)

wild_keeps : (c : Colour) (rd : Reg) (s : State) (w : List Wild) → Keeps s (wild_load c rd s w)
wild_keeps c rd s (Word v ∷ w) = inl refl
wild_keeps c rd s (Stop ∷ w) = inl refl
wild_keeps c rd s [] = inl refl

load_keeps : (c : Colour) (rd : Reg) (f : Option ℕ) (s : State) (w : List Wild) → Keeps s (load c rd f s w)
load_keeps c rd (Some v) s w = inl refl
load_keeps c rd None s w = wild_keeps c rd s w

keeps_at : (o : Object) (x : Status) (s : State) (w : List Wild) → Keeps s (step_at o x s w)
keeps_at o x s w = step_at_is s (λ f. Keeps s (f w)) (λ t e. inl e) (λ a v h. inr refl) o x
    (λ go c rd rs e. load_keeps c rd (found c s (word s rs)) s w)

-- only a step after which the machine runs on changes the cells
stopping : (o : Object) (x : Status) (s : State) (w : List Wild) → s.status ≡ x →
    (step_at o x s w).state.status ≢ status.Running → (step_at o x s w).state.cells ≡ s.cells
stopping o status.Running s w e stops =
    ⊎_elim (λ (same : (step_at o status.Running s w).state.cells ≡ s.cells). same)
    (λ (same : (step_at o status.Running s w).state.status ≡ s.status). absurd (stops (same ∙ e)))
    (keeps_at o status.Running s w)
stopping o status.Done s w e stops = refl
stopping o status.Detected s w e stops = refl

-- RUNS

-- each cell of an object holds a word of its basic type
pub record HoldsTyped (o : Object) (cells : Cells) (a : ℕ) (b : Basic) : Type 0 where
  pub content : ℕ
  pub there : cell_at cells a ≡ Some content
  pub typed : HasType o content b

abbrev HoldTyped : Object → Cells → Type 0
HoldTyped o cells = (a : ℕ) (b : Basic) → cell_type o a ≡ Some b → HoldsTyped o cells a b

by_status : (o : Object) (s t : State) → (t.status ≡ status.Running → HoldTyped o t.cells) →
    (t.status ≢ status.Running → t.cells ≡ s.cells) → HoldTyped o s.cells → (v : Status) → t.status ≡ v →
    HoldTyped o t.cells
by_status o s t running stopped h status.Running e = running e
by_status o s t running stopped h status.Done e = subst (HoldTyped o) (sym (stopped (λ go. (let x = sym e ∙ go in cc))))
    h
by_status o s t running stopped h status.Detected e =
    subst (HoldTyped o) (sym (stopped (λ go. (let x = sym e ∙ go in cc)))) h

module _ (o : Object) (w : List Wild) (spelled : IsSpellable o) (acc : IsAccepted o) where
  -- if they do as long as a run is running, they do after all its steps
  always : (strike : Option Strike) → ((n : ℕ) → status_after o strike w n ≡ status.Running →
      HoldTyped o (state_after o strike w n).cells) → (n : ℕ) → HoldTyped o (state_after o strike w n).cells
  unfolding run
  always strike running zero = running 0 refl
  always strike running (suc n) =
      let r = run o strike w n in
      let s = struck_before strike n r.state in
      let t = (step o s r.wild).state in
      by_status o s t (running (suc n)) (stopping o s.status s r.wild refl)
      (subst (HoldTyped o) (sym (strike_keeps strike n r.state).cells) (always strike running n)) t.status refl

  running_clean : (n : ℕ) → status_after o None w n ≡ status.Running → HoldTyped o (state_after o None w n).cells
  unfolding FitsCells
  running_clean n go = λ a b e.
      let x = ((accepted_fits o w n spelled acc).fits go).context.cells a b e in
      record { content = _; there = x.word; typed = x.typed }

  clean : (n : ℕ) → HoldTyped o (state_after o None w n).cells
  clean = always None running_clean

  alike : (c : Colour) (s t : State) → t.status ≡ status.Running → HoldTyped o s.cells → IsAlikeOrDetected c s t →
      HoldTyped o t.cells
  alike c s t go h (is_alike same) = subst (HoldTyped o) same.cells h
  alike c s t go h (has_stopped d) = absurd (let x = sym d ∙ go in cc)

  running_struck : (x : Strike) (n : ℕ) → status_after o (Some x) w n ≡ status.Running →
      HoldTyped o (state_after o (Some x) w n).cells
  running_struck x n go = ⊎_elim
      (λ (lt : x.step < n). alike _ _ _ go (clean n) (alike_later o x w n spelled acc lt))
      (λ (le : n ≤ x.step). subst (λ r. HoldTyped o r.state.cells) (before o x w n le) (clean n))
      (cases_lt x.step n)

  -- under at most one strike, the cells hold words of their types after any number of steps
  pub typed_cells : (strike : Option Strike) (n : ℕ) → HoldTyped o (state_after o strike w n).cells
  typed_cells None n = clean n
  typed_cells (Some x) n = always (Some x) (running_struck x) n

-- THE CALLER'S WORDS

-- a cell that begins with a word that is there
begun : (cs : List Cell) (ws : List ℕ) (k v : ℕ) (x : Cell) → slice_get (cells_with_words cs ws) k ≡ Some x →
    slice_get ws k ≡ Some v → x.init ≡ v
begun [] ws k v x f e = absurd cc
begun (c ∷ cs) [] k v x f e = absurd cc
begun (c ∷ cs) (y ∷ ws) zero v x f e =
    let same : record c { init = y } ≡ x = cc in
    let word : y ≡ v = cc in
    sym (ap (λ (z : Cell). z.init) same) ∙ word
begun (c ∷ cs) (y ∷ ws) (suc k) v x f e = begun cs ws k v x f e

-- a cell that begins with another word has its type
pub record HasCell (cs : List Cell) (k : ℕ) (b : Basic) : Type 0 where
  pub cell : Cell
  pub there : slice_get cs k ≡ Some cell
  pub basic : cell.basic ≡ b

same_cell : (cs : List Cell) (ws : List ℕ) (k : ℕ) (x : Cell) → slice_get (cells_with_words cs ws) k ≡ Some x →
    HasCell cs k x.basic
same_cell [] ws k x f = absurd cc
same_cell (c ∷ cs) [] k x f = record { cell = x; there = f; basic = refl }
same_cell (c ∷ cs) (w ∷ ws) zero x f = record {
  cell = c;
  there = refl;
  basic = (let same : record c { init = w } ≡ x = cc in ap (λ (z : Cell). z.basic) same);
}
same_cell (c ∷ cs) (w ∷ ws) (suc k) x f =
    let q = same_cell cs ws k x f in
    record { cell = q.cell; there = q.there; basic = q.basic }

-- the type of a cell does not depend on initial words
type_there : (o : Object) (ws saved : List ℕ) (k : ℕ) (x : Cell) → slice_get (cells_with_words o.cells ws) k ≡ Some x →
    cell_type (object_with_words o saved) (cell_address k) ≡ Some x.basic
type_there o ws saved k x f =
    let cs = cells_with_words o.cells saved in
    let ds = cells_with_words o.cells ws in
    ap (option_map basic_of) (cell_at_address (object_with_words o saved) k)
    ∙ sym (slice_get-map basic_of cs k)
    ∙ ap (λ bs. slice_get bs k) (kept_with basic_of (λ c w. refl) o.cells saved
    ∙ sym (kept_with basic_of (λ c w. refl) o.cells ws))
    ∙ slice_get-map basic_of ds k
    ∙ ap (option_map basic_of) f

high : (k : ℕ) → 1048576 ≤ cell_address k
high k = omega arith

index : (k : ℕ) → cell_address k - 1048576 ≡ k
index k = omega arith

-- in an attempt at a cycle, the cells always hold words that they may hold
pub may_hold : (o : Object) (strike : Option Strike) (s : FlightState) (cells saved : List ℕ) →
    IsFlight o strike s cells saved → All IsWord cells → MayHold o cells
may_hold o strike s cells saved h fit =
    let O = object_with_words o saved in
    let t = state_after O strike [] s.steps in
    let same : cells_of cells ≡ t.cells = ap (λ (x : State). x.cells) h.state ∙ (strike_keeps strike s.steps t).cells in
    let typed = subst (HoldTyped O) (sym same) (typed_cells O [] h.spellable h.accepted strike s.steps) in
    record {
      fit = fit;
      types = λ k x f.
          let c = typed (cell_address k) x.basic (type_there o cells saved k x f) in
          let read : slice_get cells k ≡ Some c.content = ap (slice_get cells) (sym (index k))
          ∙ sym (cell_read cells (cell_address k) (high k)) ∙ c.there in
          subst (λ v. HasType o v x.basic) (sym (begun o.cells cells k c.content x f read))
          (has_over O o.cells o.instrs (sym (kept_with basic_of (λ c w. refl) o.cells saved)) c.content x.basic.refs
          x.basic.base c.typed);
    }
