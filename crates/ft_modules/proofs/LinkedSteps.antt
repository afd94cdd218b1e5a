-- One step of the modules' run and of the linked object's run, from states that correspond.
use Rattle.std.proofs.Common.{◌≡◌, ◌≢◌, ◌⊎◌, inl, inr, ℕ, true, false, List, [], length, slice_get, Option, Some}
use Rattle.std.proofs.Common.{None, refl, sym, ap, ◌∙◌, subst}
use Rattle.ft_isa.specs.Words.{IsWord}
use Rattle.ft_isa.specs.declared.basic.Basic.{Basic}
use Rattle.ft_isa.specs.declared.colour.Colour.TheVariants.{Blue}
use Rattle.ft_isa.specs.declared.colour.Coloured.{Coloured}
use Rattle.ft_isa.specs.declared.reg.Reg.{Reg}
use Rattle.ft_isa.specs.declared.instr.Instr.{Instr}
use Rattle.ft_isa.specs.declared.instr.Instr.TheVariants.{Mov, St, JmpB, BzB, Halt}
use Rattle.ft_isa.specs.Instructions.{is_blue_store}
use Rattle.ft_isa.proofs.Lists.{all_there}
use Rattle.ft_static.specs.Expression.{Valuation}
use Rattle.ft_types.specs.declared.object.Object.{Object}
use Rattle.ft_semantics.specs.declared.status.Status.{Status}
use Rattle.ft_semantics.specs.declared.status.Status.TheVariants.{Running}
use Rattle.ft_typing.specs.Accepted.{IsAccepted}
use Rattle.ft_types.specs.Spellable.{IsInstr, IsSpellable, subst_of}
use Rattle.ft_semantics.specs.State.{State, word}
use Rattle.ft_semantics.specs.Step.{Stepping, quiet, execute, advance, step_at, step}
use Rattle.ft_typing.specs.Context.{Context}
use Rattle.ft_typing.specs.TypingRow.{row}
use Rattle.ft_tolerance.specs.TypedState.{instr_number}
use Rattle.ft_tolerance.proofs.Premises.{After}
use Rattle.ft_tolerance.proofs.AcceptedSteps.{Here, here}
use Rattle.ft_tolerance.proofs.RegisterRows.{GoesOn, mov_row}
use Rattle.ft_tolerance.proofs.StoreRows.{store_blue_row}
use Rattle.ft_tolerance.proofs.StayingRows.{staying_row}
use Rattle.ft_modules.specs.CodeWalk.{code_claimed, is_traced}
use Rattle.ft_modules.specs.Linked.{moves_to}
use Rattle.ft_modules.specs.Links.{Link}
use Rattle.ft_modules.specs.ModulesRun.{InModule, step_in}
use Rattle.ft_modules.proofs.LinkedContexts.{IsMovOf, IsInstrOf}
use Rattle.ft_modules.proofs.LinkedBlocks.{both_go}
use Rattle.ft_modules.proofs.World.{InWorld, World, SameFetched, none_fetched, both_fetched, Stands, both_ended}
use Rattle.ft_modules.proofs.World.{both_stand}
use Rattle.ft_modules.proofs.Arrivals.{fetches, silent, store_blue_shows, goes_to, goes_holds, Steps}
use Rattle.ft_modules.proofs.GoTogether.{related, walked, rows, further, stored_words, jumps, branches}

module _ (modules : List Object) (joins : List Link) (x : Object) (spelled : IsSpellable x) (accepted : IsAccepted x)
    (world : World modules joins x) (a : InModule) (t : State) (h : Stands modules joins x world a t) where
  -- the module and the linked object, with their states, contexts and valuations
  abbrev o : Object
  o = h.object

  abbrev s : State
  s = a.state

  abbrev c : Context
  c = h.place.context

  abbrev b : Context
  b = h.other.context

  abbrev v : Valuation
  v = h.place.valuation

  abbrev u : Valuation
  u = h.other.valuation

  -- the module satisfies `InWorld`
  abbrev home : InWorld modules joins x a.number h.object
  home = world a.number h.object h.there

  -- the instructions at both places
  abbrev here_o : Here h.object h.place h.at.number
  here_o = here h.object h.place (world a.number h.object h.there).accepted h.at

  abbrev here_x : Here x h.other h.other_at.number
  here_x = here x h.other accepted h.other_at

  -- the results correspond if both execute an instruction that stays in its block
  stays : After (GoesOn o v s [] (execute here_o.instr s [])) ⊥ (row o c here_o.instr) →
      After (GoesOn x u t [] (execute here_x.instr t [])) ⊥ (row x b here_x.instr) →
      ((execute here_o.instr s []).state.status ≡ Running → (execute here_x.instr t []).state.status ≡ Running →
      (execute here_o.instr s []).output ≡ (execute here_x.instr t []).output) →
      Steps modules joins x world a.number (execute here_o.instr s []) (execute here_x.instr t [])
  stays p q out =
      let g = goes_to o c here_o.instr _ p here_o.passes in
      let k = both_go _ _ _ g.context (rows modules joins x spelled accepted world a t h) g.goes_to in
      let gx = goes_holds _ _ _ k.context q k.goes in
      let go : GoesOn o v s [] (execute here_o.instr s []) g.context = g.holds in
      record {
        output = out (go.status ∙ h.going) (gx.status ∙ h.other_going);
        after = further modules joins x spelled accepted world a t h _ _ g.context k.context g.goes_to k.goes k.beside
            go gx;
      }

  -- likewise for given instructions
  stays_as : (i j : Instr) → here_o.instr ≡ i → here_x.instr ≡ j →
      After (GoesOn o v s [] (execute i s [])) ⊥ (row o c i) → After (GoesOn x u t [] (execute j t [])) ⊥ (row x b j) →
      ((execute i s []).state.status ≡ Running → (execute j t []).state.status ≡ Running → (execute i s []).output
      ≡ (execute j t []).output) → Steps modules joins x world a.number (execute i s []) (execute j t [])
  stays_as i j ei ej p q out =
      subst (λ (y : Instr). Steps modules joins x world a.number (execute y s []) (execute j t [])) ei
      (subst (λ (z : Instr). Steps modules joins x world a.number (execute here_o.instr s []) (execute z t [])) ej
      (stays
      (subst (λ (y : Instr). After (GoesOn o v s [] (execute y s [])) ⊥ (row o c y)) (sym ei) p)
      (subst (λ (z : Instr). After (GoesOn x u t [] (execute z t [])) ⊥ (row x b z)) (sym ej) q)
      (subst (λ (y : Instr). (execute y s []).state.status ≡ Running → (execute here_x.instr t []).state.status
      ≡ Running → (execute y s []).output ≡ (execute here_x.instr t []).output) (sym ei)
      (subst (λ (z : Instr). (execute i s []).state.status ≡ Running → (execute z t []).state.status ≡ Running →
      (execute i s []).output ≡ (execute z t []).output) (sym ej) out))))

  -- the results correspond if both execute a `mov`
  moves : (rd : Reg) (y : Coloured) (basic : Basic) (j : Instr) (n : Option ℕ) → here_o.instr ≡ Mov rd basic y →
      here_x.instr ≡ j → IsMovOf home.to rd y basic j n → IsWord y.word → IsInstr (length x.types) (length x.cells) j →
      Steps modules joins x world a.number (execute (Mov rd basic y) s []) (execute j t [])
  moves rd y basic j None eo ex is below k =
      subst (λ (z : Instr). Steps modules joins x world a.number (execute (Mov rd basic y) s []) (execute z t []))
      (sym is)
      (stays_as (Mov rd basic y) (Mov rd basic y) eo (ex ∙ is) (mov_row o v c s [] ⊥ rd y basic below h.fits.context)
      (mov_row x u b t [] ⊥ rd y basic below h.other_fits.context) (λ _ _. refl))
  moves rd y basic j (Some n) eo ex is below k =
      let k' : IsInstr (length x.types) (length x.cells) (moves_to rd y (home.to y.word).0 (home.to y.word).1) =
      subst (IsInstr (length x.types) (length x.cells)) is k in
      subst (λ (z : Instr). Steps modules joins x world a.number (execute (Mov rd basic y) s []) (execute z t []))
      (sym is)
      (stays_as (Mov rd basic y) (moves_to rd y (home.to y.word).0 (home.to y.word).1) eo (ex
      ∙ is) (mov_row o v c s [] ⊥ rd y basic below h.fits.context)
      (mov_row x u b t [] ⊥ rd _ _ k'.0 h.other_fits.context) (λ _ _. refl))

  -- the results correspond if both execute an instruction that stays in its block and has no output
  stays_silent : (i j : Instr) → here_o.instr ≡ i → here_x.instr ≡ j → j ≡ i → subst_of i ≡ None → i ≢ Halt →
      is_blue_store i ≡ false → IsInstr (length o.types) (length o.cells) i →
      IsInstr (length x.types) (length x.cells) j →
      Steps modules joins x world a.number (execute i s []) (execute j t [])
  stays_silent i j eo ex is plain going still k l =
      subst (λ (z : Instr). Steps modules joins x world a.number (execute i s []) (execute z t [])) (sym is)
      (stays_as i i eo (ex ∙ is) (staying_row o v c s [] ⊥ i plain going home.spelled.few_cells k h.fits.context)
      (staying_row x u b t [] ⊥ i plain going spelled.few_cells (subst (IsInstr (length x.types) (length x.cells)) is l)
      h.other_fits.context) (λ _ _. silent i s still ∙ sym (silent i t still)))

  -- the results correspond if both execute given instructions
  executed_by : (i j : Instr) → here_o.instr ≡ i → here_x.instr ≡ j → IsInstrOf o x home.to i j →
      is_traced o h.entered i ≡ true → IsInstr (length o.types) (length o.cells) i →
      IsInstr (length x.types) (length x.cells) j →
      Steps modules joins x world a.number (execute i s []) (execute j t [])
  executed_by (Mov rd basic y) j eo ex is f k l = moves rd y basic j (code_claimed basic) eo ex is k.0 l
  executed_by (St Blue rd rs) j eo ex is f k l =
      let words = stored_words modules joins x spelled accepted world a t h rd rs eo f in
      subst (λ (z : Instr). Steps modules joins x world a.number (execute (St Blue rd rs) s []) (execute z t []))
      (sym is)
      (stays_as (St Blue rd rs) (St Blue rd rs) eo (ex ∙ is) (store_blue_row o v c s [] ⊥ rd rs h.fits.context)
      (store_blue_row x u b t [] ⊥ rd rs h.other_fits.context)
      (λ go gx. store_blue_shows (word s rd) (word s rs) s h.going go
      ∙ (λ i. Some (record { addr = words.0 i; value = words.1 i }))
      ∙ sym (store_blue_shows (word t rd) (word t rs) t h.other_going gx)))
  executed_by (JmpB rd w) j eo ex is f k l =
      subst (λ (z : Instr). Steps modules joins x world a.number (execute (JmpB rd w) s []) (execute z t [])) (sym is.1)
      (jumps modules joins x spelled accepted world a t h rd w is.0 eo (ex ∙ is.1) is.2 f)
  executed_by (BzB rz rd w) j eo ex is f k l =
      subst (λ (z : Instr). Steps modules joins x world a.number (execute (BzB rz rd w) s []) (execute z t []))
      (sym is.1) (branches modules joins x spelled accepted world a t h rz rd w is.0 eo (ex ∙ is.1) is.2 f)
  executed_by Halt j eo ex is f k l =
      subst (λ (z : Instr). Steps modules joins x world a.number (execute Halt s []) (execute z t [])) (sym is)
      (record { output = refl; after = both_ended refl refl })
  executed_by i j eo ex is f k l = stays_silent i j eo ex is refl (λ e. cc) refl k l

  -- the results correspond if both execute the instructions at their places
  executed : Steps modules joins x world a.number (execute here_o.instr s []) (execute here_x.instr t [])
  executed = executed_by here_o.instr here_x.instr refl refl (related modules joins x spelled accepted world a t h)
      (walked modules joins x spelled accepted world a t h).first
      (all_there (IsInstr (length o.types) (length o.cells)) o.instrs (instr_number h.place) here_o.instr
      home.spelled.instrs here_o.there)
      (all_there (IsInstr (length x.types) (length x.cells)) x.instrs (instr_number h.other) here_x.instr spelled.instrs
      here_x.there)

  -- the results correspond if both fetch the instructions at their places
  fetched_both : SameFetched (Some here_o.instr) (Some here_x.instr) →
      Steps modules joins x world a.number (quiet (record s { fetched = Some here_o.instr }) [])
      (quiet (record t { fetched = Some here_x.instr }) [])
  fetched_both f = record {
    output = refl;
    after = both_stand (record {
      object = o;
      there = h.there;
      place = h.place;
      at = h.at;
      fits = record {
        pc_green = h.fits.pc_green;
        pc_blue = h.fits.pc_blue;
        fetched = inr (sym here_o.there);
        context = record {
          lawful = h.fits.context.lawful;
          registers = h.fits.context.registers;
          d = h.fits.context.d;
          queue = h.fits.context.queue;
          cells = h.fits.context.cells;
        };
      };
      going = h.going;
      other = h.other;
      other_at = h.other_at;
      other_fits = record {
        pc_green = h.other_fits.pc_green;
        pc_blue = h.other_fits.pc_blue;
        fetched = inr (sym here_x.there);
        context = record {
          lawful = h.other_fits.context.lawful;
          registers = h.other_fits.context.registers;
          d = h.other_fits.context.d;
          queue = h.other_fits.context.queue;
          cells = h.other_fits.context.cells;
        };
      };
      other_going = h.other_going;
      number = h.number;
      index = h.index;
      entered = h.entered;
      contexts = h.contexts;
      rest = h.rest;
      values = h.values;
      fetched = f;
    });
  }

  -- a fetched instruction is the one at the place
  fetched_is : (o' : Object) (i k : Instr) (f : Option Instr) (g : Option Instr) → g ≡ Some k → f ≡ Some i →
      (f ≡ None) ⊎ (f ≡ g) → k ≡ i
  fetched_is o' i k f g e fi (inl n) = cc
  fetched_is o' i k f g e fi (inr m) = cc

  -- if steps equal to these correspond, so do these
  steps_as : (p q y z : Stepping) → p ≡ y → q ≡ z → Steps modules joins x world a.number y z →
      Steps modules joins x world a.number p q
  steps_as p q y z e f g = subst (λ (k : Stepping). Steps modules joins x world a.number k q) (sym e)
      (subst (λ (k : Stepping). Steps modules joins x world a.number y k) (sym f) g)

  -- the results correspond if both machines take a step
  advanced : SameFetched s.fetched t.fetched → Steps modules joins x world a.number (advance o s.fetched s [])
      (advance x t.fetched t [])
  advanced (none_fetched f g) =
      steps_as _ _ _ _
      (ap (λ (k : Option Instr). advance o k s []) f
      ∙ fetches o h.place h.at.number s here_o h.fits here_o.instr here_o.there)
      (ap (λ (k : Option Instr). advance x k t []) g
      ∙ fetches x h.other h.other_at.number t here_x h.other_fits here_x.instr here_x.there)
      (fetched_both (both_fetched here_o.instr here_x.instr refl refl))
  advanced (both_fetched i j f g) =
      let mi = fetched_is o i here_o.instr s.fetched _ here_o.there f h.fits.fetched in
      let nj = fetched_is x j here_x.instr t.fetched _ here_x.there g h.other_fits.fetched in
      steps_as _ _ _ _
      (ap (λ (k : Option Instr). advance o k s []) f ∙ ap (λ (k : Instr). execute k s []) (sym mi))
      (ap (λ (k : Option Instr). advance x k t []) g ∙ ap (λ (k : Instr). execute k t []) (sym nj))
      executed

  -- the results of the next step correspond in both runs
  pub steps_together : Steps modules joins x world a.number (step_in (slice_get modules a.number) a.state) (step x t [])
  steps_together =
      let so : step o s [] ≡ advance o s.fetched s [] = ap (λ (z : Status). step_at o z s []) h.going in
      let sx : step x t [] ≡ advance x t.fetched t [] = ap (λ (z : Status). step_at x z t []) h.other_going in
      let inn : step_in (slice_get modules a.number) a.state
      ≡ advance o s.fetched s [] = ap (λ (z : Option Object). step_in z s) h.there ∙ so in
      subst (λ (y : Stepping). Steps modules joins x world a.number y (step x t [])) (sym inn)
      (subst (λ (z : Stepping). Steps modules joins x world a.number (advance o s.fetched s []) z) (sym sx)
      (advanced h.fetched))
