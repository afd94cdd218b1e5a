-- Objects with other initial words: the same steps, another start.
use Rattle.std.proofs.Common.{◌≡◌, ℕ, zero, suc, ◌+◌, ◌<◌, ◌==◌, if◌then◌else◌, List, [], ◌∷◌, length, take, map, Bool}
use Rattle.std.proofs.Common.{true, false, Option, Some, None, refl, ap, sym, subst, ◌∙◌, arith, get_or, slice_get}
use Rattle.std.proofs.Common.{replicate}
use Rattle.std.specs.Option.{option_map}
use Rattle.std.proofs.lemmas.List.{get_or-replicate, length-map}
use Rattle.ft_isa.specs.Words.{cell_address}
use Rattle.ft_isa.specs.Pending.{Pending}
use Rattle.ft_isa.specs.declared.colour.Colour.TheVariants.{Green}
use Rattle.ft_isa.specs.declared.instr.Instr.{Instr}
use Rattle.ft_isa.specs.declared.plan.Wild.{Wild}
use Rattle.ft_types.specs.declared.object.Object.{Object}
use Rattle.ft_types.specs.declared.object.Cell.{Cell}
use Rattle.ft_types.specs.Objects.{name_of, instr_at, init_of, init_or_zero, cell_head_of, entry_address}
use Rattle.ft_semantics.specs.declared.status.Status.{Status}
use Rattle.ft_semantics.specs.declared.status.Status.TheVariants as status
use Rattle.ft_semantics.specs.State.{State, Registers, Cells, tabulate, start, green_zero}
use Rattle.ft_semantics.specs.Step.{Stepping, step, step_at, advance, fetch, detected}
use Rattle.ft_semantics.specs.Run.{Ran, extended}
use Rattle.ft_machine.specs.Arrays.{cells_of}
use Rattle.ft_machine.specs.Plain.{colour_in, plain_held, registers_in}
use Rattle.ft_machine.specs.Spans.{span}
use Rattle.ft_machine.proofs.Arrayed.{filled, same_tabulated}
use Rattle.ft_isa.specs.declared.plan.Site.{Site}
use Rattle.ft_isa.specs.declared.plan.Site.TheVariants.{R, D, PcG, PcB, QAddr, QVal}
use Rattle.ft_semantics.specs.Strike.{is_there, struck_state, with_word}
use Rattle.ft_flight.specs.declared.state.FlightState.{FlightState}
use Rattle.ft_types.specs.InitialWords.{begun_with, object_with_words, cells_with_words}

module _ (o : Object) (ws : List ℕ) where
  same_instr : (pc : ℕ) → instr_at (object_with_words o ws) pc ≡ instr_at o pc
  same_instr zero = refl
  same_instr (suc i) = refl

  same_advance : (f : Option Instr) (s : State) (w : List Wild) → advance (object_with_words o ws) f s w
      ≡ advance o f s w
  same_advance None s w = ap (λ i. if s.pc_green == s.pc_blue then fetch i s w
      else detected s w) (same_instr s.pc_green)
  same_advance (Some i) s w = refl

  same_step : (v : Status) (s : State) (w : List Wild) → step_at (object_with_words o ws) v s w ≡ step_at o v s w
  same_step status.Running s w = same_advance s.fetched s w
  same_step status.Done s w = refl
  same_step status.Detected s w = refl

  -- the same steps
  pub same_span : (n : ℕ) (s : State) (w : List Wild) → span (object_with_words o ws) n s w ≡ span o n s w
  unfolding span
  same_span zero s w = refl
  same_span (suc n) s w =
      ap (λ (r : Ran). extended r.outputs (step (object_with_words o ws) r.state r.wild)) (same_span n s w)
      ∙ ap (extended (span o n s w).outputs) (same_step (span o n s w).state.status (span o n s w).state
      (span o n s w).wild)

-- what does not depend on the initial words stays the same
pub kept_with : {A : Type 0} (f : Cell → A) → ((c : Cell) (w : ℕ) → f (begun_with c w) ≡ f c) → (cs : List Cell)
    (ws : List ℕ) → map f (cells_with_words cs ws) ≡ map f cs
kept_with f same [] ws = refl
kept_with f same (c ∷ cs) [] = refl
kept_with f same (c ∷ cs) (w ∷ ws) =
    ap (λ a. a ∷ map f (cells_with_words cs ws)) (same c w) ∙ ap (λ l. f c ∷ l) (kept_with f same cs ws)

-- so does the number of cells
pub as_long : (o : Object) (ws : List ℕ) → length (object_with_words o ws).cells ≡ length o.cells
as_long o ws =
    sym (length-map (cells_with_words o.cells ws) name_of)
    ∙ ap length (kept_with name_of (λ c w. refl) o.cells ws)
    ∙ length-map o.cells name_of

word_at : (cs : List Cell) (ws : List ℕ) (i : ℕ) → length ws ≡ length cs → i < length ws
    → get_or ws i 0 ≡ init_or_zero (option_map cell_head_of (slice_get (cells_with_words cs ws) i))
word_at [] [] i e below = absurd (omega (arith, below))
word_at [] (w ∷ ws) i e below = absurd (omega (arith, e))
word_at (c ∷ cs) [] i e below = absurd (omega (arith, e))
word_at (c ∷ cs) (w ∷ ws) zero e below = refl
word_at (c ∷ cs) (w ∷ ws) (suc i) e below = word_at cs ws i (omega (arith, e)) (omega (arith, below))

-- these words are the cells at the start
pub cells_start : (o : Object) (ws : List ℕ) → length ws ≡ length o.cells
    → cells_of ws ≡ tabulate (length (cells_with_words o.cells ws)) cell_address (init_of (object_with_words o ws))
cells_start o ws e = filled ws (length ws) (length (cells_with_words o.cells ws)) (init_of (object_with_words o ws))
    refl
    (e ∙ sym (as_long o ws)) (λ i below. word_at o.cells ws i e below)

-- words 0 and colours 0 are green 0 in each register
pub registers_start : registers_in (replicate 64 0) (replicate 64 0) ≡ tabulate 64 (λ r. r) (λ _. green_zero)
registers_start = same_tabulated 64 (λ r. r) _ _ (λ i below.
    ap (λ k. record { colour = colour_in k; word = get_or (replicate 64 0) i 0 }) (get_or-replicate 64 i 0 0 below)
    ∙ ap (λ w. record { colour = Green; word = w }) (get_or-replicate 64 i 0 0 below))

abbrev begun : Registers → ℕ → Pending → Cells → State
begun m g q cs = record {
  registers = m;
  d = 0;
  pc_green = g;
  pc_blue = g;
  queue = q;
  cells = cs;
  fetched = None;
  status = status.Running;
}

-- words before the first step of a cycle stand for the start
pub first_is : (o : Object) (g : ℕ) (q : Pending) (ws : List ℕ) → g ≡ entry_address o → q ≡ [] → length ws
    ≡ length o.cells
    → begun (registers_in (replicate 64 0) (replicate 64 0)) g q (cells_of ws) ≡ start (object_with_words o ws)
first_is o g q ws here none e =
    ap (λ p. begun (registers_in (replicate 64 0) (replicate 64 0)) g p (cells_of ws)) none
    ∙ ap (λ m. begun m g [] (cells_of ws)) registers_start
    ∙ ap (λ k. begun (tabulate 64 (λ r. r) (λ _. green_zero)) k [] (cells_of ws)) here
    ∙ ap (begun (tabulate 64 (λ r. r) (λ _. green_zero)) (entry_address o) []) (cells_start o ws e)

pub struck_fetched : (s : State) (site : Site) (v : ℕ) → (struck_state s site v).fetched ≡ s.fetched
struck_fetched s site v = either (is_there s site) s site v
  where
    either : (b : Bool) (s : State) (site : Site) (v : ℕ) → (if b then with_word site v s else s).fetched ≡ s.fetched
    either false s site v = refl
    either true s (R r) v = refl
    either true s D v = refl
    either true s PcG v = refl
    either true s PcB v = refl
    either true s (QAddr i) v = refl
    either true s (QVal i) v = refl
