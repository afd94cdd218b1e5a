-- The runs of a text's steps do not depend on their spares.
use Rattle.std.proofs.Common.{◌≡◌, ℕ, zero, suc, Bool, true, false, List, [], ◌∷◌, ◌++◌, map, Option, Some, None, refl}
use Rattle.std.proofs.Common.{sym, ap, ◌∙◌}
use Rattle.std.proofs.Common.{slice_get}
use Rattle.std.specs.Option.{option_map, unwrap_or}
use Rattle.std.proofs.lemmas.List.{map-append}
use Rattle.std.proofs.lemmas.Option.{slice_get-map}
use Rattle.ft_lower.specs.declared.step3.Step3.{Step3}
use Rattle.ft_lower.specs.declared.step3.Step3.TheVariants.{Put, Copy, Op, Load, Store, LoadAt, StoreAt, Exit, Go, Stop}
use Rattle.ft_lower.specs.Flow.{Blocks, Place, FlowState, block_of, step_at, flow_start}
use Rattle.ft_lower.specs.Well.{is_last}
use Rattle.ft_lower.specs.Cutting.{blocks_onto}
use Rattle.ft_flow.specs.Spares.{with_spare, Set, spare_of}
use Rattle.ft_flow.specs.Faults.{next_set, none_set, spared_from, spared}
use Rattle.ft_flow.specs.Runs.{plain_act, plain_if, plain_step, plain_steps, plain_run}
use Rattle.ft_flow.proofs.FineSteps.{last_same}

-- the step with spare 0
abbrev bare : Step3 → Step3
bare i = with_spare 0 i

-- of two spares the last counts
bare_again : (n : ℕ) (i : Step3) → bare (with_spare n i) ≡ bare i
bare_again n (Put p w) = refl
bare_again n (Copy p q) = refl
bare_again n (Op o p q s) = refl
bare_again n (Load p c) = refl
bare_again n (Store c q s) = refl
bare_again n (LoadAt p q begin many) = refl
bare_again n (StoreAt begin many i q s) = refl
bare_again n (Exit q s to) = refl
bare_again n (Go s to) = refl
bare_again n Stop = refl

-- a step does the same with another spare
act_bare : (i : Step3) (f : FlowState) → plain_act (bare i) f ≡ plain_act i f
act_bare (Put p w) f = refl
act_bare (Copy p q) f = refl
act_bare (Op o p q s) f = refl
act_bare (Load p c) f = refl
act_bare (Store c q s) f = refl
act_bare (LoadAt p q begin many) f = refl
act_bare (StoreAt begin many i q s) f = refl
act_bare (Exit q s to) f = refl
act_bare (Go s to) f = refl
act_bare Stop f = refl

-- the spared steps differ in their spares alone
same_steps : (vars : ℕ) (set : Set) (is : List Step3) → map bare (spared_from vars set is) ≡ map bare is
same_steps vars set [] = refl
same_steps vars set (i ∷ is) =
    ap (λ j. j ∷ map bare (spared_from vars (next_set vars i set) is)) (bare_again (spare_of set) i)
    ∙ ap (λ l. bare i ∷ l) (same_steps vars (next_set vars i set) is)

-- steps with other spares are cut into the same blocks
cut_bare : (o is : List Step3) → blocks_onto (map bare o) (map bare is) ≡ map (map bare) (blocks_onto o is)
cut_bare [] [] = refl
cut_bare (x ∷ o) [] = refl
cut_bare o (i ∷ is) =
    ap (λ b. elim b as (λ b. Blocks) [
      | true ↦ (map bare o ++ bare i ∷ []) ∷ blocks_onto [] (map bare is)
      | false ↦ blocks_onto (map bare o ++ bare i ∷ []) (map bare is)
    ]) (last_same 0 i)
    ∙ by (is_last i) (cut_bare [] is) (cut_bare (o ++ i ∷ []) is)
  where
    by : (b : Bool) → blocks_onto [] (map bare is) ≡ map (map bare) (blocks_onto [] is) →
        blocks_onto (map bare (o ++ i ∷ [])) (map bare is) ≡ map (map bare) (blocks_onto (o ++ i ∷ []) is) →
        elim b as (λ b. Blocks) [
          | true ↦ (map bare o ++ bare i ∷ []) ∷ blocks_onto [] (map bare is)
          | false ↦ blocks_onto (map bare o ++ bare i ∷ []) (map bare is)
        ]
        ≡ map (map bare) (elim b as (λ b. Blocks) [
          | true ↦ (o ++ i ∷ []) ∷ blocks_onto [] is
          | false ↦ blocks_onto (o ++ i ∷ []) is
        ])
    by true p q =
        ap (λ l. l ∷ blocks_onto [] (map bare is)) (sym (map-append bare o (i ∷ [])))
        ∙ ap (λ l. map bare (o ++ i ∷ []) ∷ l) p
    by false p q = ap (λ l. blocks_onto l (map bare is)) (sym (map-append bare o (i ∷ []))) ∙ q

-- the blocks with other spares have the same steps at each place
block_bare : (bs : Blocks) (b : ℕ) → block_of (map (map bare) bs) b ≡ map bare (block_of bs b)
block_bare bs b = ap (λ o. unwrap_or o []) (slice_get-map (map bare) bs b) ∙ by (slice_get bs b)
  where
    by : (o : Option (List Step3)) → unwrap_or (option_map (map bare) o) [] ≡ map bare (unwrap_or o [])
    by None = refl
    by (Some l) = refl

step_bare : (bs : Blocks) (p : Place) → step_at (map (map bare) bs) p ≡ option_map bare (step_at bs p)
step_bare bs p = ap (λ l. slice_get l p.index) (block_bare bs p.block)
    ∙ slice_get-map bare (block_of bs p.block) p.index

-- so a step of a run is the same
if_bare : (b : Bool) (o : Option Step3) (f : FlowState) → plain_if b (option_map bare o) f ≡ plain_if b o f
if_bare true o f = refl
if_bare false None f = refl
if_bare false (Some i) f = act_bare i f

one_bare : (bs : Blocks) (f : FlowState) → plain_step (map (map bare) bs) f ≡ plain_step bs f
one_bare bs f = ap (λ o. plain_if f.done o f) (step_bare bs f.place) ∙ if_bare f.done (step_at bs f.place) f

steps_bare : (bs : Blocks) (k : ℕ) (f : FlowState) → plain_steps (map (map bare) bs) k f ≡ plain_steps bs k f
steps_bare bs zero f = refl
steps_bare bs (suc k) f =
    ap (plain_steps (map (map bare) bs) k) (one_bare bs f) ∙ steps_bare bs k (plain_step bs f)

-- and so is the whole run
pub run_unspared : (vars : ℕ) (is : List Step3) (words : List ℕ) (k : ℕ) →
    plain_run (blocks_onto [] (spared vars is)) words k ≡ plain_run (blocks_onto [] is) words k
run_unspared vars is words k =
    sym (steps_bare (blocks_onto [] (spared vars is)) k (flow_start words))
    ∙ ap (λ bs. plain_steps bs k (flow_start words)) (sym (cut_bare [] (spared vars is)))
    ∙ ap (λ l. plain_steps (blocks_onto [] l) k (flow_start words)) (same_steps vars none_set is)
    ∙ ap (λ bs. plain_steps bs k (flow_start words)) (cut_bare [] is)
    ∙ steps_bare (blocks_onto [] is) k (flow_start words)
