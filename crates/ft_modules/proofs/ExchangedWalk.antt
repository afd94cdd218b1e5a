-- The walk that traces code addresses still passes after a permitted exchange, so a module stays a module.
use Rattle.std.proofs.Common.{◌≡◌, ℕ, zero, suc, Bool, true, false, cond, not, ◌&&◌, ◌==◌, if◌then◌else◌, List, []}
use Rattle.std.proofs.Common.{◌∷◌, Option, Some, None, is_some, slice_get, refl, sym, ap, ◌∙◌, subst, arith}
use Rattle.std.proofs.Common.{inl, inr, eqb-true, eq-eqb}
use Rattle.std.specs.Cmp.{nat_cmp_total}
use Rattle.std.specs.FinMap as finite
use Rattle.std.specs.FinMap.{nat_cmp-IsAntisymmetric}
use Rattle.std.proofs.lemmas.Bool.{cases_eq, or_left, or_right}
use Rattle.std.proofs.lemmas.Option.{slice_get_cases}
use Rattle.ft_isa.specs.declared.colour.Colour.TheVariants.{Green, Blue}
use Rattle.ft_isa.specs.declared.instr.Instr.{Instr}
use Rattle.ft_isa.specs.declared.instr.Instr.TheVariants.{St, JmpG, JmpB, BzG, BzB}
use Rattle.ft_isa.specs.Instructions.{first_read, second_read, is_one_of}
use Rattle.ft_types.specs.declared.object.Object.{Object}
use Rattle.ft_types.specs.declared.object.Block.{Block}
use Rattle.ft_types.specs.declared.object.Cell.{Cell}
use Rattle.ft_types.specs.Objects.{block_instrs}
use Rattle.ft_types.specs.Spellable.{IsSpellable}
use Rattle.ft_exchange.specs.Exchange.{is_fixed, written, reads, leaves_alone, queue_before, may_exchange}
use Rattle.ft_exchange.specs.Exchange.{IsPermitted, exchanged, with_instrs, after_exchange}
use Rattle.ft_exchange.specs.Scheduled.{ComesFrom, itself, exchange}
use Rattle.ft_exchange.proofs.Permits.{Trailing, trailing_write, trailing_store, Leading, leading_write, leading_store}
use Rattle.ft_exchange.proofs.Permits.{Permits, permits, not_read, not_written, read_other}
use Rattle.ft_exchange.proofs.BlockRanges.{same_block, other_block}
use Rattle.ft_exchange.proofs.Accepted.{spellable_exchanged, accepted_exchanged}
use Rattle.ft_modules.specs.CodeWalk.{Entered, claimed, entered_past, entered_with, entered_after, is_free, both_free}
use Rattle.ft_modules.specs.CodeWalk.{is_free_target, is_traced, code_walk}
use Rattle.ft_modules.specs.Linkable.{IsModule}
use Rattle.ft_modules.proofs.LinkedContexts.{entered_get}

-- TESTS

-- if `a` tests as different from `b`, then `b` tests as different from `a`
turned : (a b : ℕ) → (a == b) ≡ false → (b == a) ≡ false
turned a b h = by_test (b == a) refl
  where
    by_test : (t : Bool) → (b == a) ≡ t → (b == a) ≡ false
    by_test false e = e
    by_test true e = (let f : (a == b) ≡ true = eq-eqb a b (sym (eqb-true b a e)) in cc)

-- an instruction that writes a register enters or removes only this register
enters : (e : Entered) (i : Instr) (r : ℕ) → written i ≡ Some r → entered_after i e ≡ entered_with r (claimed i) e
enters e i r h = ap (λ w. entered_past w (claimed i) e) h

-- whether two registers are free depends on these registers alone
free_same : (e f : Entered) (p q : Option ℕ) →
    ((r : ℕ) → is_one_of p q r ≡ true → finite.get e r ≡ finite.get f r) → both_free e p q ≡ both_free f p q
free_same e f (Some p) (Some q) same = λ j.
    not (is_some (same p (or_left (p == p) (q == p) (eq-eqb p p refl)) j))
    && not (is_some (same q (or_right (p == q) (q == q) (eq-eqb q q refl)) j))
free_same e f (Some p) None same = λ j. not (is_some (same p (eq-eqb p p refl) j))
free_same e f None (Some q) same = λ j. not (is_some (same q (eq-eqb q q refl) j))
free_same e f None None same = refl

-- for an instruction that is not fixed, whether it passes depends only on the registers that it reads
traced_same : (o : Object) (e f : Entered) (i : Instr) → is_fixed i ≡ false →
    ((r : ℕ) → reads i r ≡ true → finite.get e r ≡ finite.get f r) → is_traced o e i ≡ is_traced o f i
traced_same o e f (JmpG rd) h same = cc
traced_same o e f (JmpB rd u) h same = cc
traced_same o e f (BzG rz rd) h same = cc
traced_same o e f (BzB rz rd u) h same = cc
traced_same o e f i h same = free_same e f (first_read i) (second_read i) same

-- entering or removing a register leaves any other register unchanged
entered_other : (e : Entered) (r : ℕ) (v : Option ℕ) (q : ℕ) → (q == r) ≡ false → finite.get (entered_with r v e) q
    ≡ finite.get e q
entered_other e r v q h = entered_get e r v q ∙ ap (λ b. cond b v (finite.get e q)) h

-- two registers may be entered or removed in either order
entered_twice : (e : Entered) (p q : ℕ) (v w : Option ℕ) → (q == p) ≡ false → entered_with q w (entered_with p v e)
    ≡ entered_with p v (entered_with q w e)
entered_twice e p q v w other = finite.same_map nat_cmp_total nat_cmp-IsAntisymmetric _ _ (λ k.
    entered_get (entered_with p v e) q w k
    ∙ ap (cond (k == q) w) (entered_get e p v k)
    ∙ by_tests (k == q) (k == p) (finite.get e k) (λ f g. both k f g)
    ∙ sym (ap (cond (k == p) v) (entered_get e q w k))
    ∙ sym (entered_get (entered_with q w e) p v k))
  where
    both : (k : ℕ) → (k == q) ≡ true → (k == p) ≡ true → ⊥
    both k f g = (let a : k ≡ q = eqb-true k q f in let b : k ≡ p = eqb-true k p g in
        let c : (q == p) ≡ true = eq-eqb q p (sym a ∙ b) in cc)

    by_tests : (s t : Bool) (u : Option ℕ) → (s ≡ true → t ≡ true → ⊥) → cond s w (cond t v u) ≡ cond t v (cond s w u)
    by_tests true true u h = absurd (h refl refl)
    by_tests true false u h = refl
    by_tests false true u h = refl
    by_tests false false u h = refl

-- TWO NEIGHBOURS

-- for an instruction that is not fixed, a write that it does not depend on does not change whether it passes
pass_over : (o : Object) (e : Entered) (i w : Instr) (r : ℕ) → is_fixed i ≡ false → written w ≡ Some r →
    leaves_alone i (written w) ≡ true → is_traced o (entered_after w e) i ≡ is_traced o e i
pass_over o e i w r free wr alone =
    let no_read = not_read i (written w) r wr alone in
    ap (λ f. is_traced o f i) (enters e w r wr) ∙ traced_same o (entered_with r (claimed w) e) e i free (λ q h.
    entered_other e r (claimed w) q (read_other i r q no_read h))

-- two neighbours also pass in the other order, and then enter the same registers
record Crossed (o : Object) (e : Entered) (a b : Instr) : Type 0 where
  pub second_passes : is_traced o e b ≡ true
  pub first_passes : is_traced o (entered_after b e) a ≡ true
  pub same : entered_after b (entered_after a e) ≡ entered_after a (entered_after b e)

-- this holds, by cases on whether each of them writes a register or is a store
crossed_by : (o : Object) (e : Entered) (n : ℕ) (a b : Instr) → Trailing a → Leading b → Permits n a b → is_traced o e a
    ≡ true → is_traced o (entered_after a e) b ≡ true → Crossed o e a b
crossed_by o e n a b (trailing_write p wa la) (leading_write q wb lb) h ta tb =
    let other = turned p q (not_written a (written b) p q wb wa h.first_alone) in
    record {
      second_passes = sym (pass_over o e b a p h.second_free wa h.second_alone) ∙ tb;
      first_passes = pass_over o e a b q h.first_free wb h.first_alone ∙ ta;
      same =
          ap (entered_after b) (enters e a p wa) ∙ enters (entered_with p (claimed a) e) b q wb
          ∙ entered_twice e p q (claimed a) (claimed b) other
          ∙ sym (ap (entered_after a) (enters e b q wb) ∙ enters (entered_with q (claimed b) e) a p wa);
    }
crossed_by o e n a _ (trailing_write p wa la) (leading_store rd rs) h ta tb =
    record {
      second_passes = sym (pass_over o e (St Green rd rs) a p h.second_free wa h.second_alone) ∙ tb;
      first_passes = ta;
      same = refl;
    }
crossed_by o e n _ b (trailing_store rd rs) (leading_write q wb lb) h ta tb = record {
  second_passes = tb;
  first_passes = pass_over o e (St Blue rd rs) b q h.first_free wb h.first_alone ∙ ta;
  same = refl;
}
crossed_by o e n _ _ (trailing_store rd rs) (leading_store rx ry) h ta tb = record {
  second_passes = tb;
  first_passes = ta;
  same = refl;
}

-- two neighbours that pass and may be exchanged also pass in the other order
crossed : (o : Object) (e : Entered) (n : ℕ) (a b : Instr) → may_exchange n a b ≡ true → is_traced o e a ≡ true →
    is_traced o (entered_after a e) b ≡ true → Crossed o e a b
crossed o e n a b m ta tb = let h = permits n a b m in crossed_by o e n a b h.trails h.leads h ta tb

-- THE WALK

-- a walk that does not fail passes the first instruction and then the others
pub walk_parts : (o : Object) (e : Entered) (k : ℕ) (i : Instr) (is : List Instr) → code_walk o e k (i ∷ is) ≡ None →
    (is_traced o e i ≡ true) × (code_walk o (entered_after i e) (suc k) is ≡ None)
unfolding code_walk
walk_parts o e k i is h = by_test (is_traced o e i) (code_walk o (entered_after i e) (suc k) is) h
  where
    by_test : (b : Bool) (rest : Option ℕ) → (if b then rest else Some k) ≡ None → (b ≡ true) × (rest ≡ None)
    by_test true rest g = (refl, g)
    by_test false rest g = cc

-- conversely, a walk that passes the first instruction and then the others does not fail
pub walk_on : (o : Object) (e : Entered) (k : ℕ) (i : Instr) (is : List Instr) → is_traced o e i ≡ true →
    code_walk o (entered_after i e) (suc k) is ≡ None → code_walk o e k (i ∷ is) ≡ None
unfolding code_walk
walk_on o e k i is t h = (λ j. if t j then code_walk o (entered_after i e) (suc k) is else Some k) ∙ h

-- a walk that does not fail still does not fail after an exchange
walk_exchanged : (o : Object) (e : Entered) (k : ℕ) (is : List Instr) (n q : ℕ) (a b : Instr) → slice_get is n
    ≡ Some a → slice_get is (suc n) ≡ Some b → may_exchange q a b ≡ true → code_walk o e k is ≡ None →
    code_walk o e k (exchanged is n) ≡ None
walk_exchanged o e k [] n q a b ea eb m h = cc
walk_exchanged o e k (i ∷ is) (suc n) q a b ea eb m h =
    let p = walk_parts o e k i is h in
    walk_on o e k i (exchanged is n) p.0 (walk_exchanged o (entered_after i e) (suc k) is n q a b ea eb m p.1)
walk_exchanged o e k (i ∷ []) zero q a b ea eb m h = cc
walk_exchanged o e k (i ∷ j ∷ is) zero q a b ea eb m h =
    let ia : a ≡ i = cc in
    let jb : b ≡ j = cc in
    let m1 = subst (λ (z : Instr). may_exchange q z b ≡ true) ia m in
    let m2 = subst (λ (z : Instr). may_exchange q i z ≡ true) jb m1 in
    let p = walk_parts o e k i (j ∷ is) h in
    let r = walk_parts o (entered_after i e) (suc k) j is p.1 in
    let x = crossed o e q i j m2 p.0 r.0 in
    walk_on o e k j (i ∷ is) x.second_passes (walk_on o (entered_after j e) (suc k) i is x.first_passes
    (subst (λ f. code_walk o f (suc (suc k)) is ≡ None) x.same r.1))

-- TABLES

-- whether a target is free does not depend on the object's instructions
target_same : (o : Object) (xs : List Instr) (e : Entered) (u : Option ℕ) → is_free_target (with_instrs o xs) e u
    ≡ is_free_target o e u
target_same o xs e None = refl
target_same o xs e (Some t) = refl

-- so whether an instruction passes does not depend on them either
traced_there : (o : Object) (xs : List Instr) (e : Entered) (i : Instr) → is_traced (with_instrs o xs) e i
    ≡ is_traced o e i
traced_there o xs e (JmpB rd u) = target_same o xs e (finite.get e rd.number)
traced_there o xs e (BzB rz rd u) = ap (λ b. is_free e rz && b) (target_same o xs e (finite.get e rd.number))
traced_there o xs e i = refl

-- nor does the walk of given instructions
walk_there : (o : Object) (xs : List Instr) (e : Entered) (k : ℕ) (is : List Instr) →
    code_walk (with_instrs o xs) e k is ≡ code_walk o e k is
unfolding code_walk
walk_there o xs e k [] = refl
walk_there o xs e k (i ∷ is) = λ j. if traced_there o xs e i j then walk_there o xs (entered_after i e) (suc k) is j
    else Some k

-- MODULES

-- if the walk of a block does not fail, it does not fail after an exchange either
block_walked : (o : Object) (b k : ℕ) → IsSpellable o → IsPermitted o b k → (j : ℕ) (y : Block) → slice_get o.blocks j
    ≡ Some y → code_walk o finite.empty 0 (block_instrs o j) ≡ None →
    code_walk (after_exchange o b k) finite.empty 0 (block_instrs (after_exchange o b k) j) ≡ None
block_walked o b k spelled p j y ey h =
    let s = after_exchange o b k in
    walk_there o s.instrs finite.empty 0 (block_instrs s j) ∙ elim (cases_eq j b) [
      | inl e ↦ (
          let here : block_instrs s j ≡ exchanged (block_instrs o j) k = ap (block_instrs s) e ∙ same_block o b k p
          ∙ sym (ap (λ n. exchanged (block_instrs o n) k) e) in
          let first_there : slice_get (block_instrs o j) k
          ≡ Some p.first = subst (λ n. slice_get (block_instrs o n) k ≡ Some p.first) (sym e) p.first_there in
          let second_there : slice_get (block_instrs o j) (suc k)
          ≡ Some p.second = subst (λ n. slice_get (block_instrs o n) (suc k) ≡ Some p.second) (sym e) p.second_there
          in
          ap (code_walk o finite.empty 0) here ∙ walk_exchanged o finite.empty 0 (block_instrs o j) k
          (queue_before o b k) p.first p.second first_there second_there p.may h)
      | inr ne ↦ ap (code_walk o finite.empty 0) (other_block o b k j y spelled p ey ne) ∙ h
    ]

-- a module is still a module after an exchange
module_exchanged : (cells : List Cell) (o : Object) (b k : ℕ) → IsModule cells o → IsPermitted o b k →
    IsModule cells (after_exchange o b k)
module_exchanged cells o b k h p = record {
  spelled = spellable_exchanged o b k h.spelled p;
  accepted = accepted_exchanged o b k h.spelled h.accepted p;
  same_cells = h.same_cells;
  plain_cells = h.plain_cells;
  plain_rows = h.plain_rows;
  walked = λ j lt. elim (slice_get_cases o.blocks j).1 [
    | inl y ↦ block_walked o b k h.spelled p j y.0 y.2 (h.walked j lt)
    | inr n ↦ (let m = n.0 in absurd (omega arith))
  ];
}

-- a module is still a module after exchanges
pub modules_exchanged : (cells : List Cell) (o s : Object) → IsModule cells o → ComesFrom o s → IsModule cells s
modules_exchanged cells o _ h itself = h
modules_exchanged cells o _ h (exchange {s = s} b k comes p) =
    module_exchanged cells s b k (modules_exchanged cells o s h comes) p
