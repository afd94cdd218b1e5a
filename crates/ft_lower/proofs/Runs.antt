-- Runs of a flow, and where the steps of a row are in its blocks.
use Rattle.std.proofs.Common.{◌≡◌, ℕ, zero, suc, ◌+◌, ◌<◌, ◌≤◌, Bool, true, false, cond, List, [], ◌∷◌, ◌++◌}
use Rattle.std.proofs.Common.{length, Option, Some, None, refl, sym, ap, ◌∙◌, subst, arith, append_assoc, length-append}
use Rattle.std.proofs.Common.{slice_get}
use Rattle.std.proofs.Math.Seq.{get_or-append_seam}
use Rattle.std.proofs.lemmas.List.{append-nil}
use Rattle.std.proofs.lemmas.Option.{slice_get-get_or, unwrap_or-slice_get}
use Rattle.ft_simulation.proofs.Lists.{begins_itself, begins_on}
use Rattle.ft_simulation.proofs.Sequences.{later, stays, ends_once, goes_on as goes_before}
use Rattle.ft_simulation.proofs.Steps.{iterate_last, Leads, lead_on}
use Rattle.ft_isa.specs.Words.{cell_address}
use Rattle.ft_isa.specs.declared.output.Output.{Output}
use Rattle.ft_meaning.specs.Meaning.{at_zero, cell_of_run}
use Rattle.ft_meaning.specs.Begins.{Begins}
use Rattle.ft_lower.specs.declared.step3.Step3.{Step3}
use Rattle.ft_lower.specs.declared.step3.Step3.TheVariants.{Put, Copy, Op, Load, Store, LoadAt, StoreAt, Exit, Go, Stop}
use Rattle.ft_lower.specs.Flow.{Blocks, Place, FlowState, on, first, goes_on, goes_to, with_pair, act, step_at, act_if}
use Rattle.ft_lower.specs.Flow.{flow_step, steps}
use Rattle.ft_lower.specs.Well.{is_last}
use Rattle.ft_lower.specs.Cutting.{blocks_onto}

-- RUNS

-- one state leads to another in j steps
abbrev pub Reaches : Blocks → ℕ → FlowState → FlowState → Type 0
Reaches bs = Leads (flow_step bs)

-- i steps followed by j steps are i + j steps
pub reach_trans : (bs : Blocks) (i j : ℕ) (f g h : FlowState) → Reaches bs i f g → Reaches bs j g h →
    Reaches bs (i + j) f h
reach_trans bs = lead_on (flow_step bs)

-- a run that is not done takes the step at its place
pub reach_one : (bs : Blocks) (f : FlowState) (i : Step3) → f.done ≡ false → step_at bs f.place ≡ Some i →
    Reaches bs 1 f (act i f)
reach_one bs f i run at = record { is = ap (λ b. act_if b (step_at bs f.place) f) run ∙ ap (λ o. act_if false o f) at }

-- if outputs begin with o in both cases, they do in the case that is chosen
zero_begins : (v : ℕ) (o : List Output) (f g : FlowState) → Begins o f.out → Begins o g.out →
    Begins o (at_zero v f g).out
zero_begins zero o f g p q = p
zero_begins (suc v) o f g p q = q

-- a step keeps the earlier outputs
act_begins : (i : Step3) (f : FlowState) → Begins f.out (act i f).out
act_begins (Put p w) f = begins_itself f.out
act_begins (Copy p q) f = begins_itself f.out
act_begins (Op o p q s) f = begins_itself f.out
act_begins (Load p c) f = begins_itself f.out
act_begins (Store c q spare) f = (record { addr = cell_address c; value = f.pairs q } ∷ [], refl)
act_begins (LoadAt p q c l) f = begins_itself f.out
act_begins (StoreAt c l i q spare) f = (
  record {
    addr = cell_address (cell_of_run c l (f.pairs i));
    value = f.pairs q;
  } ∷ [],
  refl,
)
act_begins (Exit q spare to) f = zero_begins (f.pairs q) f.out (goes_to to (with_pair spare 0 f))
    (goes_on (with_pair spare 0 f)) (begins_itself f.out) (begins_itself f.out)
act_begins (Go spare to) f = begins_itself f.out
act_begins Stop f = begins_itself f.out

-- so does a step that may be missing
act_if_begins : (b : Bool) (o : Option Step3) (f : FlowState) → Begins f.out (act_if b o f).out
act_if_begins true o f = begins_itself f.out
act_if_begins false None f = begins_itself f.out
act_if_begins false (Some i) f = act_begins i f

module _ (bs : Blocks) (f : FlowState) where
  -- the state after k steps
  abbrev at : ℕ → FlowState
  at k = steps bs k f

  abbrev IsDone : FlowState → Type 0
  IsDone g = g.done ≡ true

  done_stops : (k : ℕ) → IsDone (at k) → at (suc k) ≡ at k
  done_stops k d = iterate_last (flow_step bs) k f ∙ ap (λ b. act_if b (step_at bs (at k).place) (at k)) d

  -- a run that is done no longer changes
  pub done_stays : (j k : ℕ) → j ≤ k → (steps bs j f).done ≡ true → steps bs k f ≡ steps bs j f
  done_stays = stays at IsDone done_stops

  -- a run has at most one state in which it is done
  pub done_once : (j k : ℕ) → (steps bs j f).done ≡ true → (steps bs k f).done ≡ true → steps bs j f ≡ steps bs k f
  done_once = ends_once at IsDone done_stops

  -- if a run is done after k steps but not after j, then j is below k
  pub done_after : (j k : ℕ) → ((steps bs j f).done ≡ true → ⊥) → (steps bs k f).done ≡ true → j < k
  done_after = goes_before at IsDone done_stops

  -- the outputs after j steps are a prefix of the later ones
  pub out_grows : (j k : ℕ) → j ≤ k → Begins (steps bs j f).out (steps bs k f).out
  out_grows =
      later at (λ (g h : FlowState). Begins g.out h.out) (λ g. begins_itself g.out) (λ g h i.
      begins_on g.out h.out i.out)
      (λ k. let g = at k in subst (λ (h : FlowState). Begins g.out h.out) (sym (iterate_last (flow_step bs) k f))
      (act_if_begins g.done (step_at bs g.place) g))

-- CODE IN BLOCKS

-- the place after a step of a row
abbrev pub next : Step3 → Place → Place
next i p = cond (is_last i) (first (suc p.block)) (on p)

-- the place after a row of steps
abbrev pub after : Place → List Step3 → Place
after p [] = p
after p (i ∷ is) = after (next i p) is

-- the place after two rows is the one after the second row, begun where the first ends
pub after-append : (p : Place) (a b : List Step3) → after p (a ++ b) ≡ after (after p a) b
after-append p [] b = refl
after-append p (i ∷ a) b = after-append (next i p) a b

-- the blocks hold the steps of a row, from this place on
abbrev pub HasAt : Blocks → Place → List Step3 → Type 0
HasAt bs p [] = Unit {0}
HasAt bs p (i ∷ is) = (step_at bs p ≡ Some i) × HasAt bs (next i p) is

-- blocks that hold two rows hold the first
pub has_front : (bs : Blocks) (p : Place) (a b : List Step3) → HasAt bs p (a ++ b) → HasAt bs p a
has_front bs p [] b h = tt
has_front bs p (i ∷ a) b h = (h.0, has_front bs (next i p) a b h.1)

-- they hold the second row after the first
pub has_back : (bs : Blocks) (p : Place) (a b : List Step3) → HasAt bs p (a ++ b) → HasAt bs (after p a) b
has_back bs p [] b h = h
has_back bs p (i ∷ a) b h = has_back bs (next i p) a b h.1

-- the first block begins with the steps of the open block
record Begun (open_block left : List Step3) : Type 0 where
  rest : List Step3
  others : Blocks
  is : blocks_onto open_block left ≡ (open_block ++ rest) ∷ others

-- the first block begins this way whether or not the next step ends it
begun_by : (x : Step3) (o : List Step3) (i : Step3) (is : List Step3) (b : Bool) → Begun (x ∷ (o ++ i ∷ [])) is →
    (rest : List Step3) × (others : Blocks) × ((elim b as (λ b. Blocks) [
      | true ↦ (x ∷ (o ++ i ∷ [])) ∷ blocks_onto [] is
      | false ↦ blocks_onto (x ∷ (o ++ i ∷ [])) is
    ]) ≡ (x ∷ (o ++ rest)) ∷ others)
begun_by x o i is true d = (i ∷ [], blocks_onto [] is, refl)
begun_by x o i is false d = (i ∷ d.rest, d.others, d.is ∙ ap (λ l. (x ∷ l) ∷ d.others) (append_assoc o (i ∷ []) d.rest))

-- the first block begins this way if the open block has a first step
begun : (x : Step3) (open_block is : List Step3) → Begun (x ∷ open_block) is
begun x o [] = record { rest = []; others = []; is = ap (λ l. l ∷ []) (sym (append-nil (x ∷ o))) }
begun x o (i ∷ is) = let b = begun_by x o i is (is_last i) (begun x (o ++ i ∷ []) is) in
    record { rest = b.0; others = b.1; is = b.2 }

-- the first block begins this way if the open block has a last step
begun_after : (o : List Step3) (i : Step3) (is : List Step3) → Begun (o ++ i ∷ []) is
begun_after [] i is = begun i [] is
begun_after (x ∷ o) i is = begun x (o ++ i ∷ []) is

-- the step after those of the open block is at the next index of the block that begins with them
here : (bs : Blocks) (o rest : List Step3) (others : Blocks) (i : Step3) →
    step_at (bs ++ (o ++ i ∷ rest) ∷ others) (record { block = length bs; index = length o }) ≡ Some i
here bs o rest others i =
    let within : length o < length (o ++ i ∷ rest) = omega (arith, length-append o (i ∷ rest)) in
    ap (λ b. slice_get b (length o)) (unwrap_or-slice_get (bs ++ (o ++ i ∷ rest) ∷ others) (length bs) []
    ∙ get_or-append_seam bs (o ++ i ∷ rest) others [])
    ∙ slice_get-get_or (o ++ i ∷ rest) (length o) i within
    ∙ ap Some (get_or-append_seam o i rest i)

-- the next step is in the blocks, and the steps that follow are after it
has_from : (bs : Blocks) (o : List Step3) (i : Step3) (is : List Step3) (b : Bool) →
    ((bs1 : Blocks) (o1 : List Step3) → HasAt (bs1 ++ blocks_onto o1 is) (record {
      block = length bs1;
      index = length o1;
    }) is) → (let all = bs ++ (elim b as (λ b. Blocks) [
      | true ↦ (o ++ i ∷ []) ∷ blocks_onto [] is
      | false ↦ blocks_onto (o ++ i ∷ []) is
    ]) in (step_at all (record { block = length bs; index = length o }) ≡ Some i)
    × HasAt all (cond b (first (suc (length bs))) (record { block = length bs; index = suc (length o) })) is)
has_from bs o i is true all =
    let B = o ++ i ∷ [] in
    let e : length (bs ++ B ∷ []) ≡ suc (length bs) = omega (arith, length-append bs (B ∷ [])) in
    let h = subst (λ l. HasAt l (record { block = length (bs ++ B ∷ []); index = 0 }) is)
    (append_assoc bs (B ∷ []) (blocks_onto [] is)) (all (bs ++ B ∷ []) []) in (
      here bs o [] (blocks_onto [] is) i,
      subst (λ n.
          HasAt (bs ++ B ∷ blocks_onto [] is) (record { block = n; index = 0 }) is) e h,
    )
has_from bs o i is false all =
    let B = o ++ i ∷ [] in
    let e : length B ≡ suc (length o) = omega (arith, length-append o (i ∷ [])) in
    let b = begun_after o i is in
    let at = here bs o b.rest b.others i in
    let is_begun : blocks_onto B is ≡ (o ++ i ∷ b.rest) ∷ b.others = b.is
    ∙ ap (λ l. l ∷ b.others) (append_assoc o (i ∷ []) b.rest) in (
      subst (λ l. step_at (bs ++ l) (record { block = length bs; index = length o }) ≡ Some i) (sym is_begun) at,
      subst (λ n. HasAt (bs ++ blocks_onto B is) (record { block = length bs; index = n }) is) e (all bs B),
    )

-- blocks cut from a row hold its steps
pub has_all : (bs : Blocks) (o is : List Step3) → HasAt (bs ++ blocks_onto o is) (record {
  block = length bs;
  index = length o;
}) is
has_all bs o [] = tt
has_all bs o (i ∷ is) = has_from bs o i is (is_last i) (λ bs1 o1. has_all bs1 o1 is)
