-- The machine follows the flow.
use Rattle.std.proofs.Common.{◌≡◌, ℕ, zero, suc, ◌+◌, ◌*◌, ◌<◌, ◌≤◌, Bool, true, false, cond, List, [], ◌∷◌, ◌++◌}
use Rattle.std.proofs.Common.{length, map, Some, refl, sym, ap, ◌∙◌, subst, arith, slice_get, slice_index}
use Rattle.std.proofs.Common.{length-append, append_assoc, take}
use Rattle.std.specs.List.{All}
use Rattle.std.proofs.lemmas.Bool.{ne_eqb, ltb-true}
use Rattle.std.proofs.lemmas.List.{length-set, append-nil, length-map}
use Rattle.std.proofs.lemmas.List.Elements.{All-head, All-tail, All-set}
use Rattle.std.proofs.lemmas.Option.{slice_get-get_or}
use Rattle.std.proofs.Math.Nat.{mod-lt}
use Rattle.std.proofs.Math.Seq.{get_or-append_seam, take-append_seam}
use Rattle.ft_simulation.proofs.Steps.{iterate, follows}
use Rattle.ft_isa.specs.Words.{IsWord, apply}
use Rattle.ft_isa.specs.declared.plan.Wild.{Wild}
use Rattle.ft_isa.specs.declared.instr.Instr.TheVariants as instr
use Rattle.ft_types.specs.declared.object.Object.{Object}
use Rattle.ft_semantics.specs.declared.status.Status.TheVariants.{Running, Done}
use Rattle.ft_semantics.specs.State.{Registers, Cells}
use Rattle.ft_semantics.specs.Run.{Ran}
use Rattle.ft_meaning.specs.Meaning.{cell_of_run}
use Rattle.ft_lower.specs.declared.step3.Step3.{Step3}
use Rattle.ft_lower.specs.declared.step3.Step3.TheVariants.{Put, Copy, Op, Load, Store, LoadAt, StoreAt, Exit, Go, Stop}
use Rattle.ft_lower.specs.Flow.{Blocks, Place, FlowState, on, first, goes_on, goes_to, with_pair, with_cell, block_of}
use Rattle.ft_lower.specs.Flow.{act, act_if, step_at, flow_step, steps}
use Rattle.ft_lower.specs.Size.{size, row_size, pairs_of}
use Rattle.ft_lower.specs.Well.{IsBlock, IsTarget, Known, pairs_below, forget, known_after, KeepsVariables, RowIsWell}
use Rattle.ft_lower.specs.Well.{known_first, row_known, known_at, IsWell}
use Rattle.ft_lower.proofs.Runs.{done_stays}
use Rattle.ft_lower.proofs.Sizes.{row_size-append}
use Rattle.ft_dup.specs.Images.{start_of, doubled}
use Rattle.ft_dup.specs.Doubles.{bare, Carries, cost, cost_if, Holds}
use Rattle.ft_dup.proofs.WellFormedBlocks.{block_is}
use Rattle.ft_dup.proofs.Stretches.{machine_step, Leads, spot, ran, fetched_state, two_any}
use Rattle.ft_dup.proofs.Pairs.{PairsHeld, CellsHold}
use Rattle.ft_dup.proofs.FlowSteps.{Below, Row, put_row, copy_row, op_row, load_row, store_row, load_at_row}
use Rattle.ft_dup.proofs.FlowSteps.{store_at_row, go_row, exit_zero_row, exit_other_row}
use Rattle.ft_dup.proofs.Laying.{blocks_length, Laid, laid}

-- WHAT IS KNOWN

-- what is known after one more step is what this step leaves known
row_known-append : (k : Known) (o : List Step3) (i : Step3) → row_known k (o ++ i ∷ []) ≡ known_after i (row_known k o)
row_known-append k [] i = refl
row_known-append k (x ∷ o) i = row_known-append (known_after x k) o i

-- false is not true
pub no_known : false ≡ true → ⊥
no_known e = cc

-- the array cell that a word selects exists
named_cell : (begin many x cells : ℕ) → 0 < many → begin + many ≤ cells → cell_of_run begin many x < cells
named_cell begin many x cells some within = omega (arith, mod-lt x some, within)

-- RUNS SIDE BY SIDE

-- a point of the machine's run and a state of the flow agree
pub record Agrees (vars : ℕ) (bs : Blocks) (f : FlowState) (r : Ran) : Type 0 where
  pub out : r.outputs ≡ f.out
  pub cells : CellsHold r.state.cells f.cells
  pub status : r.state.status ≡ cond f.done Done Running
  pub holds : f.done ≡ false → Holds (known_at vars bs f.place) f.pairs r.state

-- each step becomes at least one instruction
size_some : (s : Step3) → 1 ≤ size s
size_some (Put p w) = omega arith
size_some (Copy p q) = omega arith
size_some (Op o p q s) = omega arith
size_some (Load p c) = omega arith
size_some (Store c q s) = omega arith
size_some (LoadAt p q first m) = omega arith
size_some (StoreAt first m i q s) = omega arith
size_some (Exit q s to) = omega arith
size_some (Go s to) = omega arith
size_some Stop = omega arith

-- a step of a running flow costs two machine steps for each of its instructions
costs : (bs : Blocks) (f : FlowState) (s : Step3) → f.done ≡ false → step_at bs f.place ≡ Some s →
    cost_if f.done (step_at bs f.place) ≡ 2 * size s
costs bs f s runs at = ap (λ b. cost_if b (step_at bs f.place)) runs ∙ ap (cost_if false) at

-- the step after those that come before a place is the step at this place
pub there : (bs : Blocks) (f : FlowState) (front rest : List Step3) (s : Step3) → block_of bs f.place.block ≡ front
    ++ s ∷ rest → f.place.index ≡ length front → step_at bs f.place ≡ Some s
there bs f front rest s e n =
    let within : length front < length (front ++ s ∷ rest) = omega (arith, length-append front (s ∷ rest)) in
    ap (λ l. slice_get l f.place.index) e ∙ ap (slice_get (front ++ s ∷ rest)) n
    ∙ slice_get-get_or (front ++ s ∷ rest) (length front) s within ∙ ap Some (get_or-append_seam front s rest s)

module _ (o : Object) (vars cells : ℕ) (bs : Blocks) (W : IsWell vars cells bs) (C : Carries o cells bs) (w : List Wild)
  where
    -- the flow is running, has as many cells as the object, and each holds a word
    pub record Fine (cs : List ℕ) (done : Bool) : Type 0 where
      pub many : length cs ≡ cells
      pub words : All IsWord cs
      pub running : done ≡ false

    -- a running flow is between the steps `front` and the steps `rest` of its block, and so is the machine
    pub record At (f : FlowState) (i : ℕ) (m : Registers) (c : Cells) (front rest : List Step3) (known : Known) : Type 0
      where
        pub within : f.place.block < length bs
        pub is : block_of bs f.place.block ≡ front ++ rest
        pub index : f.place.index ≡ length front
        pub ended : IsBlock rest
        pub well : RowIsWell vars cells (length bs) known rest
        pub pairs : All (λ s. Below (pairs_of s)) rest
        pub walked : known ≡ row_known (known_first vars f.place.block) front
        pub number : i ≡ start_of bs f.place.block + row_size front
        pub holds : PairsHeld known m f.pairs
        pub memory : CellsHold c f.cells
        pub fine : Fine f.cells f.done

    -- the machine at the flow's place
    abbrev from : FlowState → ℕ → Registers → Cells → Ran
    from f i m c = spot i m 0 [] c w f.out

    -- the machine is where the flow is, or the flow is done
    pub data Beside (f : FlowState) : Ran → Type 0 where
      standing : (i : ℕ) (m : Registers) (c : Cells) (front rest : List Step3) (known : Known) →
          At f i m c front rest known → Beside f (from f i m c)
      over : {r : Ran} → f.done ≡ true → Agrees vars bs f r → Beside f r

    -- after a step of the flow and the machine steps that it costs, both are at the same place again
    data Onward (s : Step3) (f : FlowState) (r : Ran) : Type 0 where
      onward : (g : FlowState) (q : Ran) → act s f ≡ g → Leads o (2 * size s) r q → Beside g q → Onward s f r

    -- after a step that continues with the next one, the flow and the machine are between this step and the rest of the
    -- block
    goes : (f g : FlowState) (i j : ℕ) (m n : Registers) (c d : Cells) (s : Step3) (front rest : List Step3)
        (known : Known) → At f i m c front (s ∷ rest) known → IsBlock rest → g.place ≡ on f.place → j ≡ i + size s →
        PairsHeld (known_after s known) n g.pairs → CellsHold d g.cells → Fine g.cells g.done →
        At g j n d (front ++ s ∷ []) rest (known_after s known)
    goes f g i j m n c d s front rest known A ended place num holds memory fine =
        let b : g.place.block ≡ f.place.block = ap (λ (p : Place). p.block) place in
        record {
          within = subst (λ k. k < length bs) (sym b) A.within;
          is = ap (block_of bs) b ∙ A.is ∙ sym (append_assoc front (s ∷ []) rest);
          index = ap (λ (p : Place). p.index) place ∙ (let x = A.index in omega (arith, length-append front (s ∷ [])));
          ended = ended;
          well = A.well.2;
          pairs = All-tail (λ s. Below (pairs_of s)) s rest A.pairs;
          walked = ap (known_after s) A.walked ∙ sym (row_known-append (known_first vars f.place.block) front s)
              ∙ ap (λ z. row_known (known_first vars z) (front ++ s ∷ [])) (sym b);
          number = let z : start_of bs g.place.block ≡ start_of bs f.place.block = ap (start_of bs) b in
              let y = A.number in omega (arith, row_size-append front (s ∷ []));
          holds = holds;
          memory = memory;
          fine = fine;
        }

    -- the variables' pairs are known at a jump's target
    holds_below : (k : Known) (spare : ℕ) (m : Registers) (ps : ℕ → ℕ) → KeepsVariables vars k spare →
        PairsHeld (forget spare k) m ps → PairsHeld (pairs_below vars) m ps
    holds_below k spare m ps J h = λ q lt.
        let l : q < vars = ltb-true q vars lt in
        h q (ap (λ b. cond b false (k q)) (ne_eqb q spare (λ e. let x = J.free in omega arith)) ∙ J.known q l)

    -- after a step that jumps to a block, the flow and the machine are at the start of this block
    jumps : (k : Known) (spare to : ℕ) (g : FlowState) (n : Registers) (d : Cells) → IsTarget (length bs) to →
        KeepsVariables vars k spare → g.place ≡ first to → PairsHeld (forget spare k) n g.pairs → CellsHold d g.cells →
        Fine g.cells g.done → At g (start_of bs to) n d [] (block_of bs to) (known_first vars to)
    jumps k spare zero g n d T J place holds memory fine = absurd (let x = T.no_entry in omega arith)
    jumps k spare (suc t) g n d T J place holds memory fine =
        let b : g.place.block ≡ suc t = ap (λ (p : Place). p.block) place in
        record {
          within = subst (λ k. k < length bs) (sym b) T.there;
          is = ap (block_of bs) b;
          index = ap (λ (p : Place). p.index) place;
          ended = W.ended (suc t) T.there;
          well = W.rows (suc t) T.there;
          pairs = subst (All (λ s. Below (pairs_of s))) (sym (block_is bs (suc t) T.there))
              (W.pairs (suc t) [] T.there);
          walked = ap (known_first vars) (sym b);
          number = let z : start_of bs g.place.block ≡ start_of bs (suc t) = ap (start_of bs) b in omega arith;
          holds = holds_below k spare n g.pairs J holds;
          memory = memory;
          fine = fine;
        }

    -- after a step that continues with the next one, both are at the same place again, given the step's `Row`
    on_row : (f g : FlowState) (i j : ℕ) (m : Registers) (c : Cells) (s : Step3) (front rest : List Step3)
        (known : Known)
        → At f i m c front (s ∷ rest) known → IsBlock rest → act s f ≡ g → g.place ≡ on f.place → j ≡ i + size s →
        Fine g.cells g.done → Row o w (known_after s known) (2 * size s) i j m c f g → Onward s f (from f i m c)
    on_row f g i j m c s front rest known A ended eq place num fine R =
        onward g (from g j R.regs R.cells) eq R.leads
        (standing j R.regs R.cells (front ++ s ∷ []) rest (known_after s known)
        (goes f g i j m R.regs c R.cells s front rest known A ended place num R.holds R.memory fine))

    -- after a step that jumps to a block, both are at the same place again, given the step's `Row`
    to_row : (f g : FlowState) (i to spare : ℕ) (m : Registers) (c : Cells) (s : Step3) (front rest : List Step3)
        (known : Known) → At f i m c front (s ∷ rest) known → IsTarget (length bs) to →
        KeepsVariables vars known spare →
        act s f ≡ g → g.place ≡ first to → Fine g.cells g.done →
        Row o w (forget spare known) (2 * size s) i (start_of bs to) m c f g → Onward s f (from f i m c)
    to_row f g i to spare m c s front rest known A T J eq place fine R =
        onward g (from g (start_of bs to) R.regs R.cells) eq R.leads
        (standing (start_of bs to) R.regs R.cells [] (block_of bs to) (known_first vars to)
        (jumps known spare to g R.regs R.cells T J place R.holds R.memory fine))

    -- after an exit, both are at the same place again: by cases on the word that it tests
    exit_by : (v : ℕ) (f : FlowState) (i : ℕ) (m : Registers) (c : Cells) (q s to : ℕ) (front rest : List Step3)
        (known : Known) → At f i m c front (Exit q s to ∷ rest) known →
        Laid (map bare o.instrs) i (start_of bs) (Exit q s to) → i + 4 < 65537 → Below (pairs_of (Exit q s to)) →
        f.pairs q
        ≡ v → Onward (Exit q s to) f (from f i m c)
    exit_by zero f i m c q s to front rest known A L n p is =
        let a = goes_to to (with_pair s 0 f) in
        let r = A.well.1 in
        to_row f a i to s m c (Exit q s to) front rest known A A.well.0 r.2 (rw is refl) refl A.fine
        (exit_zero_row o w known i q s to m c f (start_of bs) n L.has p r.0 r.1 is A.holds A.memory)
    exit_by (suc v) f i m c q s to front rest known A L n p is =
        let b = goes_on (with_pair s 0 f) in
        let r = A.well.1 in
        on_row f b i (suc (suc (suc (suc i)))) m c (Exit q s to) front rest known A A.ended (rw is refl) refl
        (omega arith) A.fine
        (exit_other_row o w known i q s to v m c f (start_of bs) n L.has p r.0 r.1 is A.holds A.memory)

    -- after any step of the flow, both are at the same place again: by cases on the kind of step
    by_step : (f : FlowState) (i : ℕ) (m : Registers) (c : Cells) (s : Step3) (front rest : List Step3) (known : Known)
        →
        At f i m c front (s ∷ rest) known → Laid (map bare o.instrs) i (start_of bs) s → i + size s < 65537 →
        Below (pairs_of s) → Onward s f (from f i m c)
    by_step f i m c (Put p v) front rest known A L n h =
        on_row f (goes_on (with_pair p v f)) i (suc (suc i)) m c (Put p v) front rest known A A.ended refl refl
        (omega arith) A.fine
        (put_row o w known i p v m c f (start_of bs) n L.has h A.well.0 A.holds A.memory)
    by_step f i m c (Copy p q) front rest known A L n h =
        on_row f (goes_on (with_pair p (f.pairs q) f)) i (suc (suc i)) m c (Copy p q) front rest known A A.ended refl
        refl
        (omega arith) A.fine
        (copy_row o w known i p q m c f (start_of bs) n L.has h A.well.1 A.holds A.memory)
    by_step f i m c (Op z p q s) front rest known A L n h =
        on_row f (goes_on (with_pair p (apply z (f.pairs q) (f.pairs s)) f)) i (suc (suc i)) m c (Op z p q s) front rest
        known A A.ended refl refl (omega arith) A.fine
        (op_row o w known i p q s z m c f (start_of bs) n L.has h A.well.1 A.holds A.memory)
    by_step f i m c (Load p x) front rest known A L n h =
        let lt : x < length f.cells = let y = A.well.0 in let z = A.fine.many in omega arith in
        on_row f (goes_on (with_pair p (slice_index f.cells x) f)) i (suc (suc (suc (suc i)))) m c (Load p x) front rest
        known A A.ended refl refl (omega arith) A.fine
        (load_row o w known i p x m c f (start_of bs) n L.has h lt (A.fine.words x 0 lt) A.holds A.memory)
    by_step f i m c (Store x q s) front rest known A L n h =
        let lt : x < length f.cells = let y = A.well.0 in let z = A.fine.many in omega arith in
        on_row f (goes_on (with_pair s 0 (with_cell x (f.pairs q) f))) i (suc (suc (suc (suc i)))) m c (Store x q s)
        front
        rest known A A.ended refl refl (omega arith)
        (record {
          many = length-set f.cells x (f.pairs q) ∙ A.fine.many;
          words = All-set IsWord f.cells x (f.pairs q) (A.holds q A.well.1.0).word A.fine.words;
          running = A.fine.running;
        })
        (store_row o w known i x q s m c f (start_of bs) n L.has h lt A.well.1 A.holds A.memory)
    by_step f i m c (LoadAt p q begin many) front rest known A L n h =
        let x = cell_of_run begin many (f.pairs q) in
        let lt : x < length f.cells = let y = named_cell begin many (f.pairs q) cells A.well.0.0 A.well.0.2 in
        let z = A.fine.many in omega arith in
        on_row f (goes_on (with_pair p (slice_index f.cells x) f)) i (suc (suc (suc (suc i)))) m c
        (LoadAt p q begin many)
        front rest known A A.ended refl refl (omega arith) A.fine
        (load_at_row o w known i p q begin many m c f (start_of bs) n L.has h lt (A.fine.words x 0 lt) A.well.1 A.holds
        A.memory)
    by_step f i m c (StoreAt begin many e q s) front rest known A L n h =
        let r = A.well.1 in
        let x = cell_of_run begin many (f.pairs e) in
        let lt : x < length f.cells = let y = named_cell begin many (f.pairs e) cells A.well.0.0 A.well.0.2 in
        let z = A.fine.many in omega arith in
        on_row f (goes_on (with_pair s 0 (with_cell x (f.pairs q) f))) i (suc (suc (suc (suc i)))) m c
        (StoreAt begin many e q s) front rest known A A.ended refl refl (omega arith)
        (record {
          many = length-set f.cells x (f.pairs q) ∙ A.fine.many;
          words = All-set IsWord f.cells x (f.pairs q) (A.holds q r.1).word A.fine.words;
          running = A.fine.running;
        })
        (store_at_row o w known i begin many e q s m c f (start_of bs) n L.has h lt r.0 r.1 r.3 A.holds A.memory)
    by_step f i m c (Exit q s to) front rest known A L n h =
        exit_by (f.pairs q) f i m c q s to front rest known A L n h refl
    by_step f i m c (Go s to) front rest known A L n h =
        to_row f (goes_to to (with_pair s 0 f)) i to s m c (Go s to) front rest known A A.well.0 A.well.1 refl refl
        A.fine
        (go_row o w known i s to m c f (start_of bs) n L.has h A.holds A.memory)
    by_step f i m c Stop front rest known A L n h =
        let g = act Stop f in
        let T = two_any o instr.Halt i m 0 [] c w f.out L.has.0 in
        let z : Ran = ran (record (fetched_state i m 0 [] c T.0) { status = Done }) w (f.out ++ []) in
        let agrees : Agrees vars bs g z = record {
          out = append-nil f.out;
          cells = A.memory;
          status = refl;
          holds = λ d. absurd (no_known (sym d));
        } in
        onward g z refl T.1 (over refl agrees)

    -- the code has at most 65,536 instructions
    code_short : length (map bare o.instrs) ≤ 65536
    code_short = let x = W.short in omega (
      arith,
      ap length C.instrs,
      length-map (doubled bs) bare,
      blocks_length (start_of bs) bs,
    )

    -- after a step of the flow and the machine steps that it costs, both are still at the same place
    one_by : (f : FlowState) (r : Ran) (s : Step3) → f.done ≡ false → step_at bs f.place ≡ Some s → Onward s f r →
        Beside (flow_step bs f) (iterate (machine_step o) (cost_if f.done (step_at bs f.place)) r)
    one_by f r s runs at (onward g q eq l h) =
        let to : flow_step bs f ≡ g = ap (λ b. act_if b (step_at bs f.place) f) runs ∙ ap (λ x. act_if false x f) at
        ∙ eq in
        let e = ap (λ n. iterate (machine_step o) n r) (costs bs f s runs at) ∙ l.is in
        subst (Beside (flow_step bs f)) (sym e) (subst (λ x. Beside x q) (sym to) h)

    -- likewise, whether the flow is running or done: a running flow has a step to take, and one that is done stays as
    -- it is
    one : (f : FlowState) (r : Ran) → Beside f r → Beside (flow_step bs f)
        (iterate (machine_step o) (cost_if f.done (step_at bs f.place)) r)
    one f _ (standing i m c front [] known A) = absurd A.ended
    one f _ (standing i m c front (s ∷ rest) known A) =
        let L = subst (λ j. Laid (map bare o.instrs) j (start_of bs) s) (sym A.number)
        (laid bs (map bare o.instrs) f.place.block front rest s C.instrs A.within A.is) in
        one_by f (from f i m c) s A.fine.running (there bs f front rest s A.is A.index)
        (by_step f i m c s front rest known A L (let y = L.short in
        omega (arith, code_short)) (All-head (λ s. Below (pairs_of s)) s rest A.pairs))
    one f r (over d h) = subst (λ b. Beside (act_if b (step_at bs f.place) f)
        (iterate (machine_step o) (cost_if b (step_at bs f.place)) r)) (sym d) (over d h)

    -- the machine holds the pairs known at the flow's place
    held_at : (f : FlowState) (i : ℕ) (m : Registers) (c : Cells) (front rest : List Step3) (known : Known) →
        At f i m c front rest known → Holds (known_at vars bs f.place) f.pairs (from f i m c).state
    held_at f i m c front rest known A =
        let e : known_at vars bs f.place ≡ known =
        ap (λ l. row_known (known_first vars f.place.block) (take f.place.index l)) A.is
        ∙ ap (λ n. row_known (known_first vars f.place.block) (take n (front ++ rest))) A.index
        ∙ ap (row_known (known_first vars f.place.block)) (take-append_seam front rest)
        ∙ sym A.walked in
        subst (λ (k : Known). Holds k f.pairs (from f i m c).state) (sym e) (record {
          green_pairs = λ q h.
              (A.holds q h).green;
          blue_pairs = λ q h. (A.holds q h).blue;
          d = refl;
          queue = refl;
        })

    -- a flow and a machine at the same place agree
    pub agrees : (f : FlowState) (r : Ran) → Beside f r → Agrees vars bs f r
    agrees f _ (standing i m c front rest known A) = record {
      out = refl;
      cells = A.memory;
      status = ap (λ b. cond b Done Running) (sym A.fine.running);
      holds = λ d. held_at f i m c front rest known A;
    }
    agrees f r (over d h) = h

    -- after any number of steps and what they cost, both are at the same place
    pub follow : (k : ℕ) (f : FlowState) (r : Ran) → Beside f r →
        Beside (steps bs k f) (iterate (machine_step o) (cost bs k f) r)
    follow = follows (flow_step bs) (λ f. cost_if f.done (step_at bs f.place)) (machine_step o) Beside one

    -- k steps of a running flow cost at least k machine steps
    pub pace : (k : ℕ) (f : FlowState) (r : Ran) → Beside f r → (steps bs k f).done ≡ false → k ≤ cost bs k f
    pace zero f r h e = omega arith
    pace (suc k) f _ (standing i m c front [] known A) e = absurd A.ended
    pace (suc k) f _ (standing i m c front (s ∷ rest) known A) e =
        let some = costs bs f s A.fine.running (there bs f front rest s A.is A.index) in
        let more = pace k (flow_step bs f) _ (one f _ (standing i m c front (s ∷ rest) known A)) e in
        omega (arith, some, more, size_some s)
    pace (suc k) f r (over d h) e = absurd (no_known (sym e
        ∙ ap (λ (x : FlowState). x.done) (done_stays bs f 0 (suc k) (omega arith) d) ∙ d))
