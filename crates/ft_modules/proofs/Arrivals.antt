-- What a typing rule claims about a step, and how a jump arrives in the module and in the linked object.
use Rattle.std.proofs.Common.{◌≡◌, ℕ, zero, suc, ◌+◌, Bool, true, false, not, ◌&&◌, ◌==◌, nat_lt, List, [], ◌∷◌}
use Rattle.std.proofs.Common.{length, slice_get, Option, Some, None, refl, sym, ap, ◌∙◌, subst, arith, eq-eqb}
use Rattle.std.proofs.Common.{mod-eq_of_lt}
use Rattle.std.proofs.Common.{if◌then◌else◌}
use Rattle.std.specs.List.{AllZip}
use Rattle.std.specs.FinMap as finite
use Rattle.ft_isa.specs.Words.{IsWord, code_address}
use Rattle.ft_isa.specs.declared.colour.Colour.{Colour}
use Rattle.ft_isa.specs.declared.colour.Colour.TheVariants.{Green, Blue}
use Rattle.ft_isa.specs.declared.reg.Reg.{Reg}
use Rattle.ft_isa.specs.declared.instr.Instr.{Instr}
use Rattle.ft_isa.specs.declared.instr.Instr.TheVariants.{Ld, St, JmpG, JmpB, BzG, BzB}
use Rattle.ft_isa.specs.Instructions.{is_blue_store}
use Rattle.ft_static.specs.Expression.{Valuation}
use Rattle.ft_static.proofs.FormsDenote.{value_constant}
use Rattle.ft_types.specs.declared.object.Object.{Object}
use Rattle.ft_types.specs.declared.object.Block.{Block}
use Rattle.ft_semantics.specs.declared.status.Status.TheVariants.{Running}
use Rattle.ft_typing.specs.Accepted.{IsAccepted}
use Rattle.ft_types.specs.Objects.{instr_at}
use Rattle.ft_types.specs.Spellable.{IsSpellable}
use Rattle.ft_semantics.specs.State.{State, word}
use Rattle.ft_semantics.specs.Step.{Stepping, quiet, detected, fetch, load, commits, commit, store_blue, jump_green}
use Rattle.ft_semantics.specs.Step.{jump_blue, found, pass, execute, advance}
use Rattle.ft_typing.specs.TypedWord.{block_at}
use Rattle.ft_typing.specs.Context.{Context, typed, start_context}
use Rattle.ft_typing.specs.TypingRow.{row}
use Rattle.ft_typing.specs.RowWords.{Outcome, Goes, Ends, Fails}
use Rattle.ft_tolerance.specs.TypedState.{Place, instr_number, FitsContext, Fits}
use Rattle.ft_tolerance.proofs.Premises.{After}
use Rattle.ft_tolerance.proofs.AcceptedSteps.{Here, Passes, ends, goes}
use Rattle.ft_modules.specs.Linked.{raised_block}
use Rattle.ft_modules.specs.Links.{Link}
use Rattle.ft_modules.specs.ModulesRun.{InModule, sent}
use Rattle.ft_modules.proofs.LinkedContexts.{addressed}
use Rattle.ft_modules.proofs.LinkedBlocks.{start_beside}
use Rattle.ft_modules.proofs.World.{before_of, at_address, World, none_fetched, Stands, AreTogether, start_fits_like}
use Rattle.ft_modules.proofs.World.{block_place, block_begins, block_start_fits}

-- LISTS

-- elements at the same place in two related lists are related
pub zip_at : {A B : Type 0} (R : A → B → Type 0) (xs : List A) (ys : List B) (k : ℕ) (x : A) (y : B) → AllZip R xs ys →
    slice_get xs k ≡ Some x → slice_get ys k ≡ Some y → R x y
zip_at R [] ys k x y l e f = cc
zip_at R (a ∷ xs) [] k x y l e f = absurd l
zip_at R (a ∷ xs) (b ∷ ys) zero x y l e f = let p : a ≡ x = cc in let q : b ≡ y = cc in
    subst (λ z. R z y) p (subst (R a) q l.0)
zip_at R (a ∷ xs) (b ∷ ys) (suc k) x y l e f = zip_at R xs ys k x y l.1 e f

-- STEPS

-- a machine at a place fetches the place's instruction
pub fetches : (o : Object) (p : Place) (n : ℕ) (s : State) → Here o p n → Fits o p s → (i : Instr) →
    slice_get o.instrs (instr_number p) ≡ Some i → advance o None s [] ≡ quiet (record s { fetched = Some i }) []
fetches o p n s h f i there =
    let test : (s.pc_green == s.pc_blue) ≡ true = eq-eqb s.pc_green s.pc_blue (f.pc_green ∙ sym f.pc_blue) in
    let pc : s.pc_green ≡ suc (instr_number p) = (let g = f.pc_green in omega arith) in
    let at : instr_at o s.pc_green ≡ Some i = ap (instr_at o) pc ∙ there in
    ap (λ (b : Bool). if b then fetch (instr_at o s.pc_green) s [] else detected s []) test
    ∙ ap (λ (u : Option Instr). fetch u s []) at

-- a load has no output
load_silent : (c : Colour) (rd : Reg) (u : Option ℕ) (s : State) → (load c rd u s []).output ≡ None
load_silent c rd None s = refl
load_silent c rd (Some v) s = refl

-- a choice between two steps without output has no output
if_silent : (b : Bool) (x y : Stepping) → x.output ≡ None → y.output ≡ None → (if b then x else y).output ≡ None
if_silent true x y h k = h
if_silent false x y h k = k

-- a green jump has no output
jump_green_silent : (a : ℕ) (s : State) → (jump_green a s []).output ≡ None
jump_green_silent a s = if_silent (s.d == 0) _ _ refl refl

-- a branch that is not taken has no output
pass_silent : (s : State) → (pass s []).output ≡ None
pass_silent s = if_silent (s.d == 0) _ _ refl refl

-- a blue jump has no output
jump_blue_silent : (a : ℕ) (s : State) → (jump_blue a s []).output ≡ None
jump_blue_silent a s = if_silent (not (s.d == 0) && (s.d == a)) _ _ refl refl

-- a blue store that continues has its pair as output
store_blue_by : (b : Bool) (a v : ℕ) (s : State) → s.status ≡ Running →
    (if b then commit a v s [] else detected s []).state.status ≡ Running →
    (if b then commit a v s [] else detected s []).output ≡ Some (record { addr = a; value = v })
store_blue_by true a v s go h = refl
store_blue_by false a v s go h = cc

-- a blue store after which the machine runs has its pair as output
pub store_blue_shows : (a v : ℕ) (s : State) → s.status ≡ Running → (store_blue a v s []).state.status ≡ Running →
    (store_blue a v s []).output ≡ Some (record { addr = a; value = v })
store_blue_shows a v s go h = store_blue_by (commits a v s) a v s go h

-- an instruction other than a blue store has no output
pub silent : (i : Instr) (s : State) → is_blue_store i ≡ false → (execute i s []).output ≡ None
silent (Ld k rd rs) s h = load_silent k rd (found k s (word s rs)) s
silent (St Green rd rs) s h = if_silent (nat_lt (length s.queue) 8) _ _ refl refl
silent (St Blue rd rs) s h = cc
silent (JmpG rd) s h = jump_green_silent (word s rd) s
silent (JmpB rd u) s h = jump_blue_silent (word s rd) s
silent (BzG rz rd) s h = if_silent (word s rz == 0) _ _ (jump_green_silent (word s rd) s) (pass_silent s)
silent (BzB rz rd u) s h = if_silent (word s rz == 0) _ _ (jump_blue_silent (word s rd) s) (pass_silent s)
silent i s h = refl

-- CLAIMS

-- a claim holds if the rule's premises do
pub claimed : (o : Object) (c : Context) (i : Instr) (C : Type 0) (x : Outcome) → row o c i ≡ x → After (λ _. C) C x →
    Passes o c i → C
unfolding After
claimed o c i C (Goes d) e a p = a
claimed o c i C Ends e a p = a
claimed o c i C (Fails n) e a (ends f) = cc
claimed o c i C (Fails n) e a (goes d f) = cc

-- the context to which a rule leads, and what holds of it, if the rule never ends the block
pub record GoesTo (o : Object) (c : Context) (i : Instr) (G : Context → Type 0) : Type 0 where
  pub context : Context
  pub goes_to : row o c i ≡ Goes context
  pub holds : G context

-- such a context exists if the rule's premises hold: by cases on the rule's outcome
goes_to_by : (o : Object) (c : Context) (i : Instr) (G : Context → Type 0) (x : Outcome) → row o c i ≡ x → After G ⊥ x →
    Passes o c i → GoesTo o c i G
unfolding After
goes_to_by o c i G (Goes d) e a p = record { context = d; goes_to = e; holds = a }
goes_to_by o c i G Ends e a p = absurd a
goes_to_by o c i G (Fails n) e a (ends f) = cc
goes_to_by o c i G (Fails n) e a (goes d f) = cc

-- such a context exists if the rule's premises hold
pub goes_to : (o : Object) (c : Context) (i : Instr) (G : Context → Type 0) → After G ⊥ (row o c i) → Passes o c i →
    GoesTo o c i G
goes_to o c i G a p = goes_to_by o c i G (row o c i) refl a p

-- if the premises of a rule that never continues hold, the rule ends the block, and its claim holds
pub ends_by : (o : Object) (c : Context) (i : Instr) (E : Type 0) (x : Outcome) → row o c i ≡ x → After (λ _. ⊥) E x →
    Passes o c i → (row o c i ≡ Ends) × E
unfolding After
ends_by o c i E (Goes d) e a p = absurd a
ends_by o c i E Ends e a p = (e, a)
ends_by o c i E (Fails n) e a (ends f) = cc
ends_by o c i E (Fails n) e a (goes d f) = cc

-- if a rule continues, its claim holds of the context to which it leads
pub goes_holds : (G : Context → Type 0) (E : Type 0) (x : Outcome) (d : Context) → After G E x → x ≡ Goes d → G d
unfolding After
goes_holds G E (Goes c) d a e = let same : c ≡ d = cc in subst G same a
goes_holds G E Ends d a e = cc
goes_holds G E (Fails p) d a e = cc

-- if a rule ends the block, its claim about the end holds
pub ends_holds : (G : Context → Type 0) (E : Type 0) (x : Outcome) → After G E x → x ≡ Ends → E
unfolding After
ends_holds G E (Goes c) a e = cc
ends_holds G E Ends a e = a
ends_holds G E (Fails p) a e = cc

-- WORDS

-- a register whose form is the constant of a word holds this word
pub address_word : (o : Object) (v : Valuation) (c : Context) (s : State) (r : Reg) (k : Colour) (t w : ℕ) →
    FitsContext o v c s → typed c r.number ≡ Some (addressed k t w) → IsWord w → word s r ≡ w
address_word o v c s r k t w f e is = (f.registers r.number (addressed k t w) e).word ∙ value_constant w v
    ∙ mod-eq_of_lt is

-- the results of one step in each run: equal outputs, and states that correspond
pub record Steps (modules : List Object) (joins : List Link) (x : Object) (world : World modules joins x) (m : ℕ)
    (a b : Stepping) : Type 0 where
  pub output : a.output ≡ b.output
  pub after : AreTogether modules joins x world (record { number = m; state = a.state }) b.state

module _ (modules : List Object) (joins : List Link) (x : Object) (spelled : IsSpellable x) (accepted : IsAccepted x)
    (world : World modules joins x) where
  -- ARRIVALS

  -- if the module's machine is at the start of block y, and the linked object's machine is where y is sent, their
  -- states correspond
  pub arrives : (m : ℕ) (o : Object) (there : slice_get modules m ≡ Some o) (w : ℕ) (y : Block) → block_at o w
      ≡ Some y → (s t : State) (v u : Valuation) → v ≡ u → FitsContext o v (start_context o y.code_type) s → s.pc_green
      ≡ w → s.pc_blue ≡ w → s.fetched ≡ None → s.status ≡ Running → (b : Block) → block_at x ((world m o there).to w).0
      ≡ Some b → FitsContext x u (start_context x b.code_type) t → t.pc_green ≡ code_address b.start → t.pc_blue
      ≡ code_address b.start → t.fetched ≡ None → t.status ≡ Running →
      Stands modules joins x world (sent modules joins (record { number = m; state = s })) t
  arrives m o there w y at s t v u same f sg sb sf sr b bt g tg tb tf run_t =
      let here = world m o there in
      let l = here.lands w y at in
      let home = world l.number l.object l.there in
      let k = before_of modules l.number in
      let is : raised_block k l.block ≡ b = (let z = l.found in cc) in
      let blocks = home.blocks l.block_number l.block l.block_there in
      subst (λ (a : InModule). Stands modules joins x world a t) (sym (l.is_sent s sf sg sb)) (record {
        object = l.object;
        there = l.there;
        place = block_place l.object l.block v;
        at = record {
          number = l.block_number;
          block = l.block_there;
          context = block_begins l.object l.block_number l.block l.block_there;
        };
        fits = block_start_fits l.object l.block v (at_address (code_address l.block.start) s)
            (start_fits_like o l.object v y.code_type l.block.code_type s (code_address l.block.start)
            (sym home.same_cells ∙ here.same_cells) here.plain_cells here.plain_rows l.like f) refl refl sf;
        going = sr;
        other = block_place x (raised_block k l.block) u;
        other_at = record {
          number = k.blocks + l.block_number;
          block = blocks.there;
          context = block_begins x (k.blocks + l.block_number) (raised_block k l.block) blocks.there;
        };
        other_fits = block_start_fits x (raised_block k l.block) u t
            (subst (λ (z : Block). FitsContext x u (start_context x z.code_type) t) (sym is) g) (tg
            ∙ ap (λ (z : Block). code_address z.start) (sym is)) (tb
            ∙ ap (λ (z : Block). code_address z.start) (sym is))
            tf;
        other_going = run_t;
        number = refl;
        index = refl;
        entered = finite.empty;
        contexts = start_beside l.object x home.to l.block.code_type (k.types + l.block.code_type) blocks.alike;
        rest = home.walked l.block_number l.block l.block_there;
        values = same;
        fetched = none_fetched sf tf;
      })
