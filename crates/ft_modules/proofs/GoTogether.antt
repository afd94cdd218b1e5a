-- A step of the modules' run and one of the linked object's run: both continue in their blocks, or both leave for a
-- target.
use Rattle.std.proofs.Common.{◌≡◌, inl, ℕ, suc, ◌+◌, Bool, true, ◌==◌, List, [], drop, slice_get, Some, None, is_some}
use Rattle.std.proofs.Common.{refl, sym, ap, ◌∙◌, subst, arith, true≢false}
use Rattle.std.specs.FinMap as finite
use Rattle.std.proofs.lemmas.Bool.{and_parts}
use Rattle.std.proofs.lemmas.Option.{slice_get_within}
use Rattle.ft_isa.specs.Words.{code_address}
use Rattle.ft_isa.specs.declared.colour.Colour.{Colour}
use Rattle.ft_isa.specs.declared.colour.Colour.TheVariants.{Blue}
use Rattle.ft_isa.specs.declared.reg.Reg.{Reg}
use Rattle.ft_isa.specs.declared.instr.Subst.{Subst}
use Rattle.ft_isa.specs.declared.instr.Instr.{Instr}
use Rattle.ft_isa.specs.declared.instr.Instr.TheVariants.{St, JmpB, BzB}
use Rattle.ft_isa.proofs.Lists.{drop_there}
use Rattle.ft_static.specs.Expression.{Valuation}
use Rattle.ft_static.specs.Form.{value_polynomial}
use Rattle.ft_types.specs.declared.object.Object.{Object}
use Rattle.ft_typing.specs.Accepted.{IsAccepted}
use Rattle.ft_types.specs.Objects.{block_instrs}
use Rattle.ft_types.specs.Spellable.{IsSpellable}
use Rattle.ft_semantics.specs.State.{State, word}
use Rattle.ft_semantics.specs.Step.{Stepping, next, execute}
use Rattle.ft_typing.specs.TypedWord.{block_at, code_type_at}
use Rattle.ft_typing.specs.Context.{Typed, Context, typed}
use Rattle.ft_typing.specs.TypingRow.{row}
use Rattle.ft_typing.specs.RowWords.{Goes}
use Rattle.ft_tolerance.specs.TypedState.{Place, instr_number, valuation_by, context_of, context_after, context_at}
use Rattle.ft_tolerance.specs.TypedState.{IsPlace}
use Rattle.ft_tolerance.proofs.Premises.{after_typed}
use Rattle.ft_tolerance.proofs.AcceptedSteps.{Here, here, Passes, next_address}
use Rattle.ft_tolerance.proofs.RegisterRows.{GoesOn}
use Rattle.ft_tolerance.proofs.Transfers.{block_there, Arrives, jump_blue_row, Branch, taken, passed, branch_blue_row}
use Rattle.ft_tolerance.proofs.WantedColours.{anyhow}
use Rattle.ft_modules.specs.CodeWalk.{entered_after, is_free, is_traced, code_walk}
use Rattle.ft_modules.specs.Links.{Link}
use Rattle.ft_modules.specs.ModulesRun.{InModule}
use Rattle.ft_modules.proofs.Both.{Both}
use Rattle.ft_modules.proofs.LinkedContexts.{SameSubst, IsInstrOf, addressed, Beside, free_same, target_there}
use Rattle.ft_modules.proofs.LinkedContexts.{free_target_entered}
use Rattle.ft_modules.proofs.LinkedRows.{row_beside}
use Rattle.ft_modules.proofs.LinkedBlocks.{both_ends, both_go, Walked, walked_first}
use Rattle.ft_modules.proofs.World.{before_of, InWorld, World, none_fetched, Stands, AreTogether, both_stand}
use Rattle.ft_modules.proofs.Arrivals.{zip_at, silent, claimed, goes_to, ends_by}
use Rattle.ft_modules.proofs.Arrivals.{goes_holds, ends_holds, address_word, Steps, arrives}

module _ (modules : List Object) (joins : List Link) (x : Object) (spelled : IsSpellable x) (accepted : IsAccepted x)
    (world : World modules joins x) (a : InModule) (t : State) (h : Stands modules joins x world a t) where
  -- the module and the linked object, with their states, contexts and valuations
  abbrev o : Object
  o = h.object

  abbrev s : State
  s = a.state

  abbrev c : Context
  c = h.place.context

  abbrev b : Context
  b = h.other.context

  abbrev v : Valuation
  v = h.place.valuation

  abbrev u : Valuation
  u = h.other.valuation

  -- the module satisfies `InWorld`
  abbrev home : InWorld modules joins x a.number h.object
  home = world a.number h.object h.there

  -- the instructions at both places
  abbrev here_o : Here h.object h.place h.at.number
  here_o = here h.object h.place (world a.number h.object h.there).accepted h.at

  abbrev here_x : Here x h.other h.other_at.number
  here_x = here x h.other accepted h.other_at

  -- the second instruction is the linked object's version of the first
  pub related : IsInstrOf o x home.to here_o.instr here_x.instr
  related =
      let k = before_of modules a.number in
      let there : slice_get (block_instrs x (k.blocks + h.at.number)) h.place.index ≡ Some here_x.instr =
      (λ i. slice_get (block_instrs x (sym h.number i)) (sym h.index i)) ∙ here_x.in_block in
      zip_at (IsInstrOf o x home.to) (block_instrs o h.at.number) (block_instrs x (k.blocks + h.at.number))
      h.place.index here_o.instr here_x.instr (home.blocks h.at.number h.place.block h.at.block).code here_o.in_block
      there

  -- the walk passes the instruction and the rest of its block
  pub walked : Walked o h.entered h.place.index here_o.instr (drop (suc h.place.index) (block_instrs o h.at.number))
  walked = walked_first o h.entered h.place.index here_o.instr (drop (suc h.place.index) (block_instrs o h.at.number))
      (subst (λ (is : List Instr). code_walk o h.entered h.place.index is
      ≡ None) (drop_there (block_instrs o h.at.number) h.place.index here_o.instr here_o.in_block) h.rest)

  -- the outcomes of the typing rules for both instructions correspond
  pub rows : Both (Beside o home.to (entered_after here_o.instr h.entered)) (row o c here_o.instr)
      (row x b here_x.instr)
  rows = row_beside o x home.to home.are_sent h.entered c b h.contexts here_o.instr here_x.instr walked.first related

  -- the states correspond if both continue with the next instruction
  pub further : (p q : Stepping) (d e : Context) → row o c here_o.instr ≡ Goes d → row x b here_x.instr ≡ Goes e →
      Beside o home.to (entered_after here_o.instr h.entered) d e → GoesOn o v s [] p d → GoesOn x u t [] q e →
      AreTogether modules joins x world (record { number = a.number; state = p.state }) q.state
  unfolding context_at
  further p q d e eo ex beside go gx =
      let few = home.spelled.few_instrs in
      let below = slice_get_within (o.instrs) (instr_number h.place) here_o.instr here_o.there in
      let few_x = spelled.few_instrs in
      let below_x = slice_get_within (x.instrs) (instr_number h.other) here_x.instr here_x.there in
      let next_o : next (code_address (instr_number h.place)) ≡ code_address (h.place.block.start + suc h.place.index) =
      next_address (instr_number h.place) (omega arith) ∙ ap code_address (omega arith) in
      let next_x : next (code_address (instr_number h.other)) ≡ code_address (h.other.block.start + suc h.other.index) =
      next_address (instr_number h.other) (omega arith) ∙ ap code_address (omega arith) in
      let place : Place = record (h.place) { index = suc h.place.index; context = d } in
      let at : IsPlace o place = record {
        number = h.at.number;
        block = h.at.block;
        context = (λ i. context_after o (here_o.in_block i) (h.at.context i)) ∙ ap context_of eo;
      } in
      let other : Place = record (h.other) { index = suc h.other.index; context = e } in
      let other_at : IsPlace x other = record {
        number = h.other_at.number;
        block = h.other_at.block;
        context = (λ i. context_after x (here_x.in_block i) (h.other_at.context i)) ∙ ap context_of ex;
      } in
      let green = go.pc_green ∙ ap next h.fits.pc_green ∙ next_o in
      let blue = go.pc_blue ∙ ap next h.fits.pc_blue ∙ next_o in
      both_stand (subst (λ (z : InModule). Stands modules joins x world z q.state)
      (sym (home.inside place h.place.index p.state at refl go.fetched green blue)) (record {
        object = o;
        there = h.there;
        place = place;
        at = at;
        fits = record { pc_green = green; pc_blue = blue; fetched = inl go.fetched; context = go.fits };
        going = go.status ∙ h.going;
        other = other;
        other_at = other_at;
        other_fits = record {
          pc_green = gx.pc_green ∙ ap next h.other_fits.pc_green ∙ next_x;
          pc_blue = gx.pc_blue ∙ ap next h.other_fits.pc_blue ∙ next_x;
          fetched = inl gx.fetched;
          context = gx.fits;
        };
        other_going = gx.status ∙ h.other_going;
        number = h.number;
        index = ap suc h.index;
        entered = entered_after here_o.instr h.entered;
        contexts = beside;
        rest = walked.rest;
        values = h.values;
        fetched = none_fetched go.fetched gx.fetched;
      }))

  -- a register that is not entered holds the same word in both states
  same_word : (r : Reg) (k : Typed) → is_free h.entered r ≡ true → typed c r.number ≡ Some k → word s r ≡ word t r
  same_word r k f e =
      let known : typed b r.number ≡ Some k = sym (free_same o home.to h.entered c b r h.contexts f) ∙ e in
      (h.fits.context.registers r.number k e).word ∙ ap (value_polynomial k.form) h.values
      ∙ sym (h.other_fits.context.registers r.number k known).word

  -- the address and the value of a blue store are the same in both states
  pub stored_words : (rd rs : Reg) → here_o.instr ≡ St Blue rd rs → is_traced o h.entered (St Blue rd rs) ≡ true →
      (word s rd ≡ word t rd) × (word s rs ≡ word t rs)
  stored_words rd rs e f =
      let p = and_parts _ _ f in
      let C : Type 0 = (word s rd ≡ word t rd) × (word s rs ≡ word t rs) in
      claimed o c (St Blue rd rs) C (row o c (St Blue rd rs)) refl
      (after_typed (λ _. C) C (typed c rd.number) _ (λ k ik.
      after_typed (λ _. C) C (typed c rs.number) _ (λ l il.
      anyhow C _ (same_word rd k p.0 ik, same_word rs l p.1 il))))
      (subst (Passes o c) e here_o.passes)

  -- the tested word of a branch is the same in both states
  tested_word : (rz rd : Reg) (w : Subst) → here_o.instr ≡ BzB rz rd w → is_free h.entered rz ≡ true → word s rz
      ≡ word t rz
  tested_word rz rd w e f =
      let C : Type 0 = word s rz ≡ word t rz in
      claimed o c (BzB rz rd w) C (row o c (BzB rz rd w)) refl
      (after_typed (λ _. C) C (typed c rz.number) _ (λ k ik. anyhow C _ (same_word rz k f ik)))
      (subst (Passes o c) e here_o.passes)

  -- in the module's state, an entered target register holds a code address of the module; in the linked object's state,
  -- it holds the address to which that one is sent
  target_words : (k : Colour) (n w : ℕ) → (rd : Reg) → code_type_at o w ≡ Some n → typed c rd.number
      ≡ Some (addressed k n w) → typed b rd.number ≡ Some (addressed k (home.to w).1 (home.to w).0) → (word s rd ≡ w)
      × (word t rd ≡ (home.to w).0)
  target_words k n w rd at e f =
      let sends = home.are_sent.sends w n at in (
        address_word o v c s rd k n w h.fits.context e sends.is_word,
        address_word x u b t rd k (home.to w).1 (home.to w).0 h.other_fits.context f sends.sent_word,
      )

  -- the states correspond if both machines leave their blocks for corresponding targets
  leave : (rd : Reg) (w q : Subst) (y z : Stepping) → is_some (finite.get h.entered rd.number) ≡ true →
      SameSubst o x w q → Arrives o (valuation_by o w v) (word s rd) s [] y →
      Arrives x (valuation_by x q u) (word t rd) t [] z →
      AreTogether modules joins x world (record { number = a.number; state = y.state }) z.state
  leave rd w q y z f same ay az =
      let g = target_there o home.to h.entered c b rd h.contexts f in
      let i = g.is in
      let words = target_words i.colour g.code_type i.word rd i.address i.known i.beside in
      let found : block_at o i.word ≡ Some ay.block = ap (block_at o) (sym words.0) ∙ ay.found in
      let found_x : block_at x (home.to i.word).0 ≡ Some az.block = ap (block_at x) (sym words.1) ∙ az.found in
      let begins = (block_there x (home.to i.word).0 az.block found_x).begins in
      let values : valuation_by o w v ≡ valuation_by x q u = same.values v ∙ ap (valuation_by x q) h.values in
      both_stand (arrives modules joins x spelled accepted world a.number o h.there i.word ay.block found y.state
      z.state (valuation_by o w v) (valuation_by x q u) values
      ay.fits (ay.pc_green ∙ words.0) (ay.pc_blue ∙ words.0) ay.fetched (ay.status ∙ h.going)
      az.block found_x az.fits (az.pc_green ∙ words.1 ∙ begins) (az.pc_blue ∙ words.1 ∙ begins) az.fetched (az.status
      ∙ h.other_going))

  -- the results correspond if both execute a blue jump
  pub jumps : (rd : Reg) (w q : Subst) → here_o.instr ≡ JmpB rd w → here_x.instr ≡ JmpB rd q → SameSubst o x w q →
      is_traced o h.entered (JmpB rd w) ≡ true → Steps modules joins x world a.number (execute (JmpB rd w) s [])
      (execute (JmpB rd q) t [])
  jumps rd w q eo ex same f =
      let entered = free_target_entered o h.entered (finite.get h.entered rd.number) f in
      let y = ends_by o c (JmpB rd w) _ (row o c (JmpB rd w)) refl
      (jump_blue_row o v c s [] rd w home.spelled.nodes h.fits.context) (subst (Passes o c) eo here_o.passes) in
      let both = subst (λ (i : Instr). Both (Beside o home.to (entered_after i h.entered)) (row o c i)
      (row x b (JmpB rd q))) eo (subst (λ (j : Instr).
      Both (Beside o home.to (entered_after here_o.instr h.entered)) (row o c here_o.instr) (row x b j)) ex rows) in
      let z = ends_holds _ _ (row x b (JmpB rd q)) (jump_blue_row x u b t [] rd q spelled.nodes h.other_fits.context)
      (both_ends _ _ _ both y.0) in
      record {
        output = silent (JmpB rd w) s refl ∙ sym (silent (JmpB rd q) t refl);
        after = leave rd w q _ _ entered same y.1 z;
      }

  -- the states correspond if both take a blue branch, or neither does
  branched : (rz rd : Reg) (w q : Subst) (d e : Context) (y z : Stepping) (p r : Bool) → p ≡ r →
      is_some (finite.get h.entered rd.number) ≡ true → SameSubst o x w q → row o c here_o.instr ≡ Goes d →
      row x b here_x.instr ≡ Goes e → Beside o home.to (entered_after here_o.instr h.entered) d e →
      Branch o v (valuation_by o w v) (word s rd) s [] y d p → Branch x u (valuation_by x q u) (word t rd) t [] z e r →
      AreTogether modules joins x world (record { number = a.number; state = y.state }) z.state
  branched rz rd w q d e y z p r pr f same eo ex beside (taken i m) (taken j n) = leave rd w q y z f same m n
  branched rz rd w q d e y z p r pr f same eo ex beside (taken i m) (passed j n) = absurd (true≢false (sym i ∙ pr ∙ j))
  branched rz rd w q d e y z p r pr f same eo ex beside (passed i m) (taken j n) =
      absurd (true≢false (sym j ∙ sym pr ∙ i))
  branched rz rd w q d e y z p r pr f same eo ex beside (passed i m) (passed j n) = further y z d e eo ex beside m n

  -- the results correspond if both execute a blue branch
  pub branches : (rz rd : Reg) (w q : Subst) → here_o.instr ≡ BzB rz rd w → here_x.instr ≡ BzB rz rd q →
      SameSubst o x w q →
      is_traced o h.entered (BzB rz rd w) ≡ true → Steps modules joins x world a.number (execute (BzB rz rd w) s [])
      (execute (BzB rz rd q) t [])
  branches rz rd w q eo ex same f =
      let parts = and_parts _ _ f in
      let entered = free_target_entered o h.entered (finite.get h.entered rd.number) parts.1 in
      let zero_same = tested_word rz rd w eo parts.0 in
      let y = goes_to o c (BzB rz rd w) _ (branch_blue_row o v c s [] rz rd w home.spelled.nodes h.fits.context)
      (subst (Passes o c) eo here_o.passes) in
      let eo' : row o c here_o.instr ≡ Goes y.context = ap (row o c) eo ∙ y.goes_to in
      let k = both_go _ _ _ y.context rows eo' in
      let z = goes_holds _ _ (row x b (BzB rz rd q)) k.context
      (branch_blue_row x u b t [] rz rd q spelled.nodes h.other_fits.context) (ap (row x b) (sym ex) ∙ k.goes) in
      record {
        output = silent (BzB rz rd w) s refl ∙ sym (silent (BzB rz rd q) t refl);
        after = branched rz rd w q y.context k.context _ _ (word s rz == 0) (word t rz == 0)
            (ap (λ n. n == 0) zero_same) entered same eo' k.goes k.beside y.holds z;
      }
