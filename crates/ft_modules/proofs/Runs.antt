-- The modules' run and the linked object's run, after any number of steps.
use Rattle.std.proofs.Common.{◌≡◌, ℕ, zero, suc, Bool, true, false, ◌==◌, List, [], ◌∷◌, ◌++◌, length, slice_get}
use Rattle.std.proofs.Common.{Option, Some, None, refl, sym, ap, ◌∙◌, subst, if◌then◌else◌}
use Rattle.std.specs.Option.{option_map, option_to_list}
use Rattle.ft_isa.specs.Words.{cell_address}
use Rattle.ft_isa.specs.declared.instr.Instr.{Instr}
use Rattle.ft_isa.specs.declared.output.Output.{Output}
use Rattle.ft_isa.specs.declared.plan.Wild.{Wild}
use Rattle.ft_types.specs.declared.object.Object.{Object}
use Rattle.ft_types.specs.declared.object.Cell.{Cell}
use Rattle.ft_semantics.specs.declared.status.Status.{Status}
use Rattle.ft_semantics.specs.declared.status.Status.TheVariants.{Done}
use Rattle.ft_typing.specs.Accepted.{IsAccepted}
use Rattle.ft_types.specs.Objects.{cell_head_of, init_or_zero, entry_address}
use Rattle.ft_types.specs.Spellable.{IsSpellable}
use Rattle.ft_semantics.specs.State.{State, Cells, tabulate, start}
use Rattle.ft_semantics.specs.Step.{Stepping, quiet, step}
use Rattle.ft_semantics.proofs.Runs.{HasStopped, stays_at}
use Rattle.ft_typing.specs.TypedWord.{block_at}
use Rattle.ft_semantics.specs.Run.{run, state_after, wild_after, outputs_after, status_after}
use Rattle.ft_tolerance.specs.TypedState.{entry_block, start_place}
use Rattle.ft_tolerance.proofs.Start.{start_fits}
use Rattle.ft_tolerance.proofs.Whole.{accepted_fits}
use Rattle.ft_link_map.specs.declared.link_map.LinkMap.{LinkMap}
use Rattle.ft_modules.specs.Links.{Link, links}
use Rattle.ft_modules.specs.ModulesRun.{InModule, link_at, sent_by, sent_unfetched, sent, step_in, ModulesRan}
use Rattle.ft_modules.specs.ModulesRun.{after_sent, modules_ran, modules_outputs, modules_status}
use Rattle.ft_modules.proofs.World.{World, AreTogether, both_ended, both_stand}
use Rattle.ft_modules.proofs.LinkedSteps.{steps_together}
use Rattle.ft_modules.proofs.Arrivals.{arrives}

-- a machine keeps its status when a link sends it
sent_to_status : (modules : List Object) (a : InModule) (l : Option Link) → (sent_by modules a l).state.status
    ≡ a.state.status
sent_to_status modules a None = refl
sent_to_status modules a (Some l) = refl

-- if two machines have the same status, a choice between them has it too
if_status : (b : Bool) (x y : InModule) (z : Status) → x.state.status ≡ z → y.state.status ≡ z →
    (if b then x else y).state.status ≡ z
if_status true x y z h k = h
if_status false x y z h k = k

-- a machine keeps its status when it is sent, whatever is fetched
sent_by_fetched : (modules : List Object) (joins : List Link) (a : InModule) (f : Option Instr) →
    (sent_unfetched modules joins a f).state.status ≡ a.state.status
sent_by_fetched modules joins a (Some i) = refl
sent_by_fetched modules joins a None = if_status (a.state.pc_green == a.state.pc_blue) _ _ _
    (sent_to_status modules a (link_at modules joins a.number a.state.pc_green)) refl

-- a machine keeps its status when it is sent
sent_status : (modules : List Object) (joins : List Link) (a : InModule) → (sent modules joins a).state.status
    ≡ a.state.status
sent_status modules joins a = sent_by_fetched modules joins a a.state.fetched

-- a step of a machine that is done changes nothing and has no output
stays_in : (u : Option Object) (s : State) → s.status ≡ Done → step_in u s ≡ quiet s []
stays_in None s d = refl
stays_in (Some o) s d = stays_at o s.status s [] (subst HasStopped (sym d) tt)

-- the two runs so far: equal outputs, and states that correspond
pub record RunsBeside (modules : List Object) (joins : List Link) (x : Object) (world : World modules joins x)
    (r : ModulesRan) (outputs : List Output) (t : State) : Type 0 where
  pub outputs_same : r.outputs ≡ outputs
  pub together : AreTogether modules joins x world r.at t

-- the runs still correspond after one more step
step_runs : (modules : List Object) (joins : List Link) (x : Object) (world : World modules joins x) → IsSpellable x →
    IsAccepted x → (r : ModulesRan) (outputs : List Output) (t : State) → r.outputs ≡ outputs →
    AreTogether modules joins x world r.at t → RunsBeside modules joins x world
    (after_sent modules r.outputs (sent modules joins r.at)) (outputs ++ option_to_list (step x t []).output)
    (step x t []).state
step_runs modules joins x world spelled acc r outputs t same (both_stand h) =
    let g = steps_together modules joins x spelled acc world (sent modules joins r.at) t h in
    record { outputs_same = λ i. same i ++ option_to_list (g.output i); together = g.after }
step_runs modules joins x world spelled acc r outputs t same (both_ended d e) =
    let a = sent modules joins r.at in
    let ended : a.state.status ≡ Done = sent_status modules joins r.at ∙ d in
    let y : step_in (slice_get modules a.number) a.state
    ≡ quiet a.state [] = stays_in (slice_get modules a.number) a.state ended in
    let z : step x t [] ≡ quiet t [] = stays_at x t.status t [] (subst HasStopped (sym e) tt) in
    record {
      outputs_same = (λ i. same i ++ option_to_list (y i).output) ∙ (λ i. outputs ++ option_to_list (sym z i).output);
      together = both_ended (ap (λ (k : Stepping). k.state.status) y ∙ ended) (ap (λ (k : Stepping). k.state.status) z
          ∙ e);
    }

-- the runs correspond after n steps
pub runs_beside : (linkage : LinkMap) (first : Object) (others : List Object) (x : Object)
    (world : World (first ∷ others) (links linkage) x) → IsSpellable x → IsAccepted x →
    AreTogether (first ∷ others) (links linkage) x world (record { number = 0; state = start first }) (start x) →
    (n : ℕ) → RunsBeside (first ∷ others) (links linkage) x world (modules_ran linkage first others n)
    (outputs_after x None [] n) (state_after x None [] n)
unfolding modules_ran run
runs_beside linkage first others x world spelled acc begin zero = record { outputs_same = refl; together = begin }
runs_beside linkage first others x world spelled acc begin (suc n) =
    let h = runs_beside linkage first others x world spelled acc begin n in
    let left : wild_after x None [] n ≡ [] = (accepted_fits x [] n spelled acc).wild in
    let t = state_after x None [] n in
    let g = step_runs (first ∷ others) (links linkage) x world spelled acc (modules_ran linkage first others n)
    (outputs_after x None [] n) t h.outputs_same h.together in
    subst (λ (w : List Wild). RunsBeside (first ∷ others) (links linkage) x world
    (modules_ran linkage first others (suc n)) (outputs_after x None [] n ++ option_to_list (step x t w).output)
    (step x t w).state) (sym left) g

-- states that correspond have the same status
stands_status : (modules : List Object) (joins : List Link) (x : Object) (world : World modules joins x) (a : InModule)
    (t : State) → AreTogether modules joins x world a t → a.state.status ≡ t.status
stands_status modules joins x world a t (both_ended d e) = d ∙ sym e
stands_status modules joins x world a t (both_stand h) = sym (sent_status modules joins a) ∙ h.going ∙ sym h.other_going

-- outputs and status are the same after n steps
pub record SameRuns (linkage : LinkMap) (first : Object) (others : List Object) (x : Object) (n : ℕ) : Type 0 where
  pub outputs : modules_outputs linkage first others n ≡ outputs_after x None [] n
  pub status : modules_status linkage first others n ≡ status_after x None [] n

-- they are the same if the first states correspond
pub same_runs : (linkage : LinkMap) (first : Object) (others : List Object) (x : Object)
    (world : World (first ∷ others) (links linkage) x) → IsSpellable x → IsAccepted x →
    AreTogether (first ∷ others) (links linkage) x world (record { number = 0; state = start first }) (start x) →
    (n : ℕ) → SameRuns linkage first others x n
same_runs linkage first others x world spelled acc begin n =
    let h = runs_beside linkage first others x world spelled acc begin n in
    record { outputs = h.outputs_same; status = stands_status (first ∷ others) (links linkage) x world _ _ h.together }

-- THE START

-- the words of cells at the start
abbrev cells_of : List Cell → Cells
cells_of cs = tabulate (length cs) cell_address (λ k. init_or_zero (option_map cell_head_of (slice_get cs k)))

-- objects with the same cells start with the same words
starts_valuation : (o x : Object) → x.cells ≡ o.cells → (start_place o).valuation ≡ (start_place x).valuation
starts_valuation o x e = λ i. record { integers = []; memory = cells_of (sym e i) }

-- the first states correspond, if the first module's entry block is sent to the linked object's
pub begin_together : (modules : List Object) (joins : List Link) (x : Object) → IsSpellable x → IsAccepted x →
    (world : World modules joins x) (first : Object) (there : slice_get modules 0 ≡ Some first) →
    block_at first (entry_address first) ≡ Some (entry_block first) →
    block_at x ((world 0 first there).to (entry_address first)).0 ≡ Some (entry_block x) →
    AreTogether modules joins x world (record { number = 0; state = start first }) (start x)
begin_together modules joins x spelled acc world first there at begins =
    let home = world 0 first there in
    let f = start_fits first home.spelled home.accepted in
    let g = start_fits x spelled acc in
    both_stand (arrives modules joins x spelled acc world 0 first there (entry_address first) (entry_block first) at
    (start first) (start x) (start_place first).valuation (start_place x).valuation
    (starts_valuation first x home.same_cells)
    f.context refl refl refl refl (entry_block x) begins g.context refl refl refl refl)
