-- A step from a place of an accepted object.
use Rattle.std.proofs.Common.{◌≡◌, ◌⊎◌, inl, inr, ⊎_elim, ℕ, zero, suc, ◌+◌, ◌-◌, ◌<◌, ◌^◌, Bool, true, List, [], ◌∷◌}
use Rattle.std.proofs.Common.{length, take, drop, slice_get, ◌==◌, Option, Some, None, refl, sym, ap, ◌∙◌, subst, arith}
use Rattle.std.proofs.Common.{is_some, if◌then◌else◌, eq-eqb, mod-eq_of_lt}
use Rattle.std.specs.Option.{option_map, unwrap_or}
use Rattle.std.proofs.lemmas.Option.{slice_get_within}
use Rattle.ft_isa.specs.Words.{code_address}
use Rattle.ft_isa.specs.declared.colour.Colour.TheVariants.{Green, Blue}
use Rattle.ft_isa.specs.declared.reg.Reg.{Reg}
use Rattle.ft_isa.specs.declared.instr.Subst.{Subst}
use Rattle.ft_isa.specs.declared.instr.Instr.{Instr}
use Rattle.ft_isa.specs.declared.instr.Instr.TheVariants.{Ld, St, JmpB, BzB, Halt}
use Rattle.ft_isa.specs.declared.plan.Wild.{Wild}
use Rattle.ft_isa.proofs.Lists.{drop_there, all_there}
use Rattle.ft_types.specs.declared.object.Object.{Object}
use Rattle.ft_types.specs.declared.object.Block.{Block}
use Rattle.ft_semantics.specs.declared.status.Status.{Status}
use Rattle.ft_semantics.specs.declared.status.Status.TheVariants.{Running}
use Rattle.ft_types.specs.Objects.{start_of, code_type_of, block_start, block_type, block_end, block_instrs, instr_at}
use Rattle.ft_types.specs.Spellable.{IsInstr, IsSpellable}
use Rattle.ft_semantics.specs.State.{State, word}
use Rattle.ft_semantics.specs.Step.{Stepping, next, fetch, detected, execute, advance, step_at, step}
use Rattle.ft_typing.specs.TypedWord.{block_at}
use Rattle.ft_typing.specs.Context.{Context, start_context}
use Rattle.ft_typing.specs.TypingRow.{row}
use Rattle.ft_typing.specs.RowWords.{Outcome, Goes, Ends, Fails}
use Rattle.ft_typing.specs.Accepted.{Applies, last_row, next_row, IsAccepted}
use Rattle.ft_tolerance.specs.TypedState.{Place, instr_number, further, arrived, place_after, next_place, valuation_by}
use Rattle.ft_tolerance.specs.TypedState.{Fits, context_of, context_after, context_at, IsPlace}
use Rattle.ft_tolerance.specs.Soundness.{IsUntroubled, EndsOrFits, ended, running, Keeps}
use Rattle.ft_tolerance.proofs.Premises.{After}
use Rattle.ft_typing.proofs.TypingRows.{row_holds}
use Rattle.ft_tolerance.proofs.RegisterRows.{GoesOn}
use Rattle.ft_tolerance.proofs.StayingRows.{staying_row}
use Rattle.ft_tolerance.proofs.Transfers.{block_there, Arrives, jump_blue_row, Branch, taken, passed, branch_blue_row}
use Rattle.ft_tolerance.proofs.WantedColours.{Wants, wants, found_is_not_wild}

-- INSTRUCTIONS OF A BLOCK

-- if instructions are left from index k on, the first of them is instruction k
drop_at : (xs : List Instr) (k : ℕ) (i : Instr) (is : List Instr) → drop k xs ≡ i ∷ is → (slice_get xs k ≡ Some i)
    × (drop (suc k) xs ≡ is)
drop_at [] zero i is e = cc
drop_at [] (suc k) i is e = cc
drop_at (x ∷ xs) zero i is e = let a : x ≡ i = cc in let b : xs ≡ is = cc in (ap Some a, b)
drop_at (x ∷ xs) (suc k) i is e = drop_at xs k i is e

-- an element of a part of a list is an element of the list
get-take : (xs : List Instr) (n k : ℕ) (i : Instr) → slice_get (take n xs) k ≡ Some i → slice_get xs k ≡ Some i
get-take [] zero k i e = cc
get-take [] (suc n) k i e = cc
get-take (x ∷ xs) zero k i e = cc
get-take (x ∷ xs) (suc n) zero i e = e
get-take (x ∷ xs) (suc n) (suc k) i e = get-take xs n k i e

get-drop : (xs : List Instr) (a k : ℕ) → slice_get (drop a xs) k ≡ slice_get xs (a + k)
get-drop xs zero k = ap (slice_get xs) (omega arith)
get-drop [] (suc a) k = refl
get-drop (x ∷ xs) (suc a) k = get-drop xs a k ∙ (let e : suc (a + k) ≡ suc a + k = omega arith in
    ap (slice_get (x ∷ xs)) e)

-- if the first row goes on, the remaining rows apply
applies_on : (o : Object) (d c : Context) (i : Instr) (is : List Instr) → Applies o d (i ∷ is) → row o d i ≡ Goes c →
    Applies o c is
applies_on o d c i _ (last_row e) g = cc
applies_on o d c i is (next_row b e a) g = let same : b ≡ c = cc in subst (λ (z : Context). Applies o z is) same a

-- if there is a context after an instruction, there is one before it, and the instruction's row goes on
goes_of : (o : Object) (x : Option Instr) (y : Option Context) (c : Context) → context_after o x y ≡ Some c →
    (i : Instr) × (d : Context) × (x ≡ Some i) × (y ≡ Some d) × (row o d i ≡ Goes c)
goes_of o None y c e = cc
goes_of o (Some i) None c e = cc
goes_of o (Some i) (Some d) c e = (i, d, refl, refl, by_outcome (row o d i) e)
  where
    by_outcome : (x : Outcome) → context_of x ≡ Some c → x ≡ Goes c
    by_outcome (Goes b) e = (let same : b ≡ c = cc in ap Goes same)
    by_outcome Ends e = cc
    by_outcome (Fails p) e = cc

-- in the context at index k of a block, the rows of the instructions from there on apply
applies_at : (o : Object) (b k : ℕ) (c : Context) → Applies o (start_context o (block_type o b)) (block_instrs o b) →
    context_at o b k ≡ Some c → Applies o c (drop k (block_instrs o b))
unfolding context_at
applies_at o b zero c a e = (let same : start_context o (block_type o b) ≡ c = cc in
    subst (λ (z : Context). Applies o z (block_instrs o b)) same a)
applies_at o b (suc k) c a e =
    let g = goes_of o (slice_get (block_instrs o b) k) (context_at o b k) c e in
    let before = applies_at o b k g.1 a g.3 in
    applies_on o g.1 c g.0 (drop (suc k) (block_instrs o b))
    (subst (Applies o g.1) (drop_there (block_instrs o b) k g.0 g.2) before) g.4

-- the row of an instruction of an accepted block ends the block or goes on
pub data Passes (o : Object) (c : Context) (i : Instr) : Type 0 where
  ends : row o c i ≡ Ends → Passes o c i
  goes : (d : Context) → row o c i ≡ Goes d → Passes o c i

passes_first : (o : Object) (c : Context) (i : Instr) (is : List Instr) → Applies o c (i ∷ is) → Passes o c i
passes_first o c i _ (last_row e) = ends e
passes_first o c i is (next_row d e a) = goes d e

-- the instruction at a place
pub record Here (o : Object) (p : Place) (number : ℕ) : Type 0 where
  pub instr : Instr
  pub there : slice_get o.instrs (instr_number p) ≡ Some instr
  pub in_block : slice_get (block_instrs o number) p.index ≡ Some instr
  pub passes : Passes o p.context instr

-- if the rows of the rest of a block apply, the rest is not empty and begins with the instruction at the place
here_of : (o : Object) (p : Place) (number : ℕ) (is : List Instr) → block_start o number ≡ p.block.start →
    drop p.index (block_instrs o number) ≡ is → Applies o p.context is → Here o p number
here_of o p number [] start e a = elim a [ ]
here_of o p number (i ∷ is) start e a =
    let d = drop_at (block_instrs o number) p.index i is e in
    let inside = get-take (drop (block_start o number) o.instrs) (block_end o number - block_start o number) p.index i
    d.0 in
    record {
      instr = i;
      there = ap (λ k. slice_get o.instrs (k + p.index)) (sym start)
          ∙ sym (get-drop o.instrs (block_start o number) p.index) ∙ inside;
      in_block = d.0;
      passes = passes_first o p.context i is a;
    }

-- each place of an accepted object has an instruction
pub here : (o : Object) (p : Place) → IsAccepted o → (at : IsPlace o p) → Here o p at.number
here o p acc at =
    let start : block_start o at.number ≡ p.block.start = ap (λ x. unwrap_or (option_map start_of x) 0) at.block in
    let kind : block_type o at.number ≡ p.block.code_type =
    ap (λ x. unwrap_or (option_map code_type_of x) 0) at.block in
    let a = subst (λ (t : ℕ). Applies o (start_context o t) (block_instrs o at.number)) (sym kind)
    (acc.blocks at.number p.block at.block) in
    here_of o p at.number (drop p.index (block_instrs o at.number)) start refl
    (applies_at o at.number p.index p.context a at.context)

-- WHERE A STEP LEADS

-- a step that takes no answer to a wild load, and leads to the end or to a state that fits a place
pub record Lands (o : Object) (p : Place) (w : List Wild) (t : Stepping) : Type 0 where
  pub wild : t.wild ≡ w
  pub after : EndsOrFits o p t.state

-- the code address of instruction n + 1 comes right after that of instruction n
pub next_address : (n : ℕ) → n < 65536 → next (code_address n) ≡ code_address (suc n)
next_address n h = let a : 1 + n + 1 ≡ 1 + suc n = omega arith in let b : 1 + n + 1 < 2 ^ 64 = omega arith in
    mod-eq_of_lt b ∙ a

module _ (o : Object) (p : Place) (s : State) (w : List Wild) (spelled : IsSpellable o) (acc : IsAccepted o)
    (at : IsPlace o p) (go : s.status ≡ Running) (fits : Fits o p s) where
  -- a step that goes on leads to the next index
  lands_further : (t : Stepping) (h : Here o p at.number) (d : Context) → row o p.context h.instr ≡ Goes d →
      GoesOn o p.valuation s w t d → Lands o (further (row o p.context h.instr) p) w t
  unfolding context_at
  lands_further t h d e g =
      let few = spelled.few_instrs in
      let below = slice_get_within o.instrs (instr_number p) h.instr h.there in
      let number : suc (instr_number p) ≡ p.block.start + suc p.index = omega arith in
      let address : next (code_address (instr_number p)) ≡ code_address (p.block.start + suc p.index) =
      next_address (instr_number p) (omega arith) ∙ ap code_address number in
      let q : Place = record p { index = suc p.index; context = d } in
      let is_place : IsPlace o q = record {
        number = at.number;
        block = at.block;
        context = (λ i. context_after o (h.in_block i) (at.context i)) ∙ ap context_of e;
      } in
      let is_fit : Fits o q t.state = record {
        pc_green = g.pc_green ∙ ap next fits.pc_green ∙ address;
        pc_blue = g.pc_blue ∙ ap next fits.pc_blue ∙ address;
        fetched = inl g.fetched;
        context = g.fits;
      } in
      record {
        wild = g.wild;
        after = subst (λ (x : Outcome). EndsOrFits o (further x p) t.state) (sym e)
            (running (g.status ∙ go) is_place is_fit);
      }

  -- a step that arrives at a block leads to its start
  lands_at : (t : Stepping) (u : Subst) (a : ℕ) → Arrives o (valuation_by o u p.valuation) a s w t →
      Lands o (arrived o (block_at o a) u p) w t
  unfolding context_at
  lands_at t u a g =
      let b = block_there o a g.block g.found in
      let q : Place = record {
        block = g.block;
        index = 0;
        context = start_context o g.block.code_type;
        valuation = valuation_by o u p.valuation;
      } in
      let kind : block_type o b.number ≡ g.block.code_type =
      ap (λ x. unwrap_or (option_map code_type_of x) 0) b.there in
      let number : g.block.start ≡ g.block.start + 0 = omega arith in
      let is_place : IsPlace o q = record {
        number = b.number;
        block = b.there;
        context = ap (λ t. Some (start_context o t)) kind;
      } in
      let is_fit : Fits o q t.state = record {
        pc_green = g.pc_green ∙ b.begins ∙ ap code_address number;
        pc_blue = g.pc_blue ∙ b.begins ∙ ap code_address number;
        fetched = inl g.fetched;
        context = g.fits;
      } in
      record {
        wild = g.wild;
        after = subst (λ (x : Option Block). EndsOrFits o (arrived o x u p) t.state) (sym g.found)
            (running (g.status ∙ go) is_place is_fit);
      }

  -- a step leads to the next index if its row goes on; if its row ends the block, where it leads is a premise
  by_row : (t : Stepping) (E : Type 0) (h : Here o p at.number) (x : Outcome) → row o p.context h.instr ≡ x →
      After (GoesOn o p.valuation s w t) E x → Passes o p.context h.instr → (E → Lands o (further x p) w t) →
      Lands o (further x p) w t
  unfolding After
  by_row t E h (Goes d) e a passes done = subst (λ (x : Outcome). Lands o (further x p) w t) e (lands_further t h d e a)
  by_row t E h Ends e a passes done = done a
  by_row t E h (Fails n) e a (ends f) done = cc
  by_row t E h (Fails n) e a (goes d f) done = cc

  -- an instruction that never leaves its block leads to the next index
  stays : (h : Here o p at.number) → After (GoesOn o p.valuation s w (execute h.instr s w)) ⊥ (row o p.context h.instr)
      → Lands o (further (row o p.context h.instr) p) w (execute h.instr s w)
  stays h a = by_row (execute h.instr s w) ⊥ h (row o p.context h.instr) refl a h.passes (λ e. absurd e)

  stays_as : (h : Here o p at.number) (i : Instr) → h.instr ≡ i →
      After (GoesOn o p.valuation s w (execute i s w)) ⊥ (row o p.context i) →
      Lands o (further (row o p.context i) p) w (execute i s w)
  stays_as h i e a = subst (λ (j : Instr). Lands o (further (row o p.context j) p) w (execute j s w)) e
      (stays h (subst (λ (j : Instr). After (GoesOn o p.valuation s w (execute j s w)) ⊥ (row o p.context j)) (sym e)
      a))

  -- a blue jump leads to the start of its target
  jumped : (rd : Reg) (u : Subst) (x : Outcome) → row o p.context (JmpB rd u) ≡ x →
      After (λ _. ⊥) (Arrives o (valuation_by o u p.valuation) (word s rd) s w (execute (JmpB rd u) s w)) x →
      Passes o p.context (JmpB rd u) → Lands o (arrived o (block_at o (word s rd)) u p) w (execute (JmpB rd u) s w)
  unfolding After
  jumped rd u (Goes d) f a passes = absurd a
  jumped rd u Ends f a passes = lands_at (execute (JmpB rd u) s w) u (word s rd) a
  jumped rd u (Fails n) f a (ends g) = cc
  jumped rd u (Fails n) f a (goes d g) = cc

  -- a blue branch leads to the place after it, whether it is taken or not
  branched_by : (h : Here o p at.number) (rz rd : Reg) (u : Subst) → h.instr ≡ BzB rz rd u → (d : Context) →
      row o p.context (BzB rz rd u) ≡ Goes d → Branch o p.valuation (valuation_by o u p.valuation) (word s rd) s w
      (execute (BzB rz rd u) s w) d (word s rz == 0) →
      Lands o (place_after o (BzB rz rd u) s p) w (execute (BzB rz rd u) s w)
  branched_by h rz rd u e d f (taken x g) = subst (λ (t : Bool).
      Lands o (if t then arrived o (block_at o (word s rd)) u p else further (row o p.context (BzB rz rd u)) p) w
      (execute (BzB rz rd u) s w)) (sym x) (lands_at (execute (BzB rz rd u) s w) u (word s rd) g)
  branched_by h rz rd u e d f (passed x g) =
      subst (λ (t : Bool). Lands o (if t then arrived o (block_at o (word s rd)) u p
      else further (row o p.context (BzB rz rd u)) p) w (execute (BzB rz rd u) s w)) (sym x)
      (subst (λ (i : Instr). Lands o (further (row o p.context i) p) w (execute (BzB rz rd u) s w)) e
      (lands_further (execute (BzB rz rd u) s w) h d (ap (row o p.context) e ∙ f) g))

  branched : (h : Here o p at.number) (rz rd : Reg) (u : Subst) → h.instr ≡ BzB rz rd u → (x : Outcome) →
      row o p.context (BzB rz rd u) ≡ x → After (λ d.
      Branch o p.valuation (valuation_by o u p.valuation) (word s rd) s w (execute (BzB rz rd u) s w) d (word s rz ==
      0))
      ⊥ x → Passes o p.context (BzB rz rd u) → Lands o (place_after o (BzB rz rd u) s p) w (execute (BzB rz rd u) s w)
  unfolding After
  branched h rz rd u e (Goes d) f a passes = branched_by h rz rd u e d f a
  branched h rz rd u e Ends f a passes = absurd a
  branched h rz rd u e (Fails n) f a (ends g) = cc
  branched h rz rd u e (Fails n) f a (goes d g) = cc

  -- executing the instruction at the place, whichever it is, leads to the place after it
  executed_by : (h : Here o p at.number) (i : Instr) → h.instr ≡ i → IsInstr (length o.types) (length o.cells) i →
      Lands o (place_after o i s p) w (execute i s w)
  executed_by h (JmpB rd u) e k = jumped rd u (row o p.context (JmpB rd u)) refl
      (jump_blue_row o p.valuation p.context s w rd u spelled.nodes fits.context)
      (subst (Passes o p.context) e h.passes)
  executed_by h (BzB rz rd u) e k = branched h rz rd u e (row o p.context (BzB rz rd u)) refl
      (branch_blue_row o p.valuation p.context s w rz rd u spelled.nodes fits.context)
      (subst (Passes o p.context) e h.passes)
  executed_by h Halt e k = record { wild = refl; after = ended refl }
  executed_by h i e k = stays_as h i e (staying_row o p.valuation p.context s w ⊥ i refl (λ f.
      cc) spelled.few_cells k fits.context)

  -- executing the instruction at the place leads to the place after it
  executed : (h : Here o p at.number) → Lands o (place_after o h.instr s p) w (execute h.instr s w)
  executed h = executed_by h h.instr refl (all_there (IsInstr (length o.types) (length o.cells)) o.instrs
      (instr_number p) h.instr spelled.instrs h.there)

  -- the counters hold the code address of the instruction at the place
  at_counter : (h : Here o p at.number) → instr_at o s.pc_green ≡ Some h.instr
  at_counter h = (let pc : s.pc_green ≡ suc (instr_number p) = (let g = fits.pc_green in omega arith) in
      ap (instr_at o) pc) ∙ h.there

  -- a step leads to the next place, whether nothing or the instruction at the place is fetched
  step_by : (x : Option Instr) → s.fetched ≡ x → (h : Here o p at.number) → (x ≡ None) ⊎ (x ≡ Some h.instr) →
      Lands o (next_place o x s p) w (advance o x s w)
  step_by None e h f =
      let test : (s.pc_green == s.pc_blue) ≡ true = eq-eqb s.pc_green s.pc_blue (fits.pc_green ∙ sym fits.pc_blue) in
      subst (λ (b : Bool). Lands o p w (if b then fetch (instr_at o s.pc_green) s w else detected s w)) (sym test)
      (subst (λ (x : Option Instr). Lands o p w (fetch x s w)) (sym (at_counter h))
      (record {
        wild = refl;
        after = running go at (record {
          pc_green = fits.pc_green;
          pc_blue = fits.pc_blue;
          fetched = inr (sym h.there);
          context = record {
            lawful = fits.context.lawful;
            registers = fits.context.registers;
            d = fits.context.d;
            queue = fits.context.queue;
            cells = fits.context.cells;
          };
        });
      }))
  step_by (Some i) e h (inl f) = cc
  step_by (Some i) e h (inr f) = (let same : h.instr ≡ i = cc in
      subst (λ (j : Instr). Lands o (place_after o j s p) w (execute j s w)) same (executed h))

  -- what is fetched is nothing or the instruction at the place
  fetched_here : (h : Here o p at.number) → (s.fetched ≡ None) ⊎ (s.fetched ≡ Some h.instr)
  fetched_here h = ⊎_elim (λ n. inl n) (λ e. inr (e ∙ h.there)) fits.fetched

  lands : Lands o (next_place o s.fetched s p) w (step o s w)
  lands =
      let h = here o p acc at in
      subst (λ (x : Status). Lands o (next_place o s.fetched s p) w (step_at o x s w)) (sym go)
      (step_by s.fetched refl h (fetched_here h))

  -- the instruction at the place finds what it requires
  wants_by : (h : Here o p at.number) → Passes o p.context h.instr → Wants h.instr s
  wants_by h (ends f) = wants o p.valuation p.context s fits.context h.instr Ends
      (row_holds o p.context h.instr Ends f (λ n g. cc))
  wants_by h (goes d f) = wants o p.valuation p.context s fits.context h.instr (Goes d)
      (row_holds o p.context h.instr (Goes d) f (λ n g. cc))

  -- a fetched instruction finds what it requires
  pub wants_fetched : (i : Instr) → s.fetched ≡ Some i → Wants i s
  wants_fetched i e =
      let h = here o p acc at in
      let w = wants_by h h.passes in
      ⊎_elim (λ (n : s.fetched ≡ None). absurd (cc)) (λ (f : s.fetched ≡ Some h.instr). let same : h.instr ≡ i = cc in
      subst (λ (j : Instr). Wants j s) same w) (fetched_here h)

  untroubled : IsUntroubled o s
  untroubled =
      let h = here o p acc at in
      record {
        fetch = λ e. (fits.pc_green ∙ sym fits.pc_blue, ap is_some (at_counter h));
        load = λ c rd rs e. found_is_not_wild c s (word s rs) (wants_fetched (Ld c rd rs) e).1;
        store_green = λ rd rs e. (wants_fetched (St Green rd rs) e).2;
        store_blue = λ rd rs e. (wants_fetched (St Blue rd rs) e).2;
      }

  -- the step from a place is untroubled, and leads to the end or to a state that fits the next place
  pub keeps : Keeps o p s w
  keeps = let l = lands in record { untroubled = untroubled; wild = l.wild; after = l.after }
