-- The typing rows of two neighbours that may be exchanged.
use Rattle.std.proofs.Common.{◌≡◌, ℕ, Bool, true, false, cond, ◌==◌, nat_lt, [], ◌∷◌, ◌++◌, length, Option, Some, refl}
use Rattle.std.proofs.Common.{sym, ap, ◌∙◌, subst, eq-eqb, eqb-true}
use Rattle.std.specs.Ordering.{nat_cmp}
use Rattle.std.specs.Cmp.{nat_cmp_total}
use Rattle.std.specs.FinMap as finite
use Rattle.std.specs.FinMap.{FinMap, nat_cmp-IsAntisymmetric}
use Rattle.ft_isa.specs.declared.reg.Reg.{Reg}
use Rattle.ft_isa.specs.declared.colour.Colour.{Colour}
use Rattle.ft_isa.specs.declared.colour.Colour.TheVariants.{Green, Blue}
use Rattle.ft_isa.specs.declared.instr.Instr.{Instr}
use Rattle.ft_isa.specs.declared.instr.Instr.TheVariants.{Ld, St}
use Rattle.ft_types.specs.declared.object.Object.{Object}
use Rattle.ft_typing.specs.Context.{Typed, Context, typed, with_type}
use Rattle.ft_typing.specs.TypingRow.{row}
use Rattle.ft_typing.specs.RowWords.{Goes, pending_memory, seen_memory}
use Rattle.ft_types.proofs.Maps.{get-insert}
use Rattle.ft_isa.specs.Instructions.{written}
use Rattle.ft_exchange.specs.Exchange.{leaves_alone, has_room}
use Rattle.ft_exchange.proofs.Permits.{Trailing, trailing_write, trailing_store, Leading, leading_write, leading_store}
use Rattle.ft_exchange.proofs.Permits.{Permits, not_read, not_written, read_other}
use Rattle.ft_exchange.proofs.WriteRows.{gives, wrote, writes_on, gives_same}
use Rattle.ft_exchange.proofs.StoreRows.{of_store, queued, queues_on, committed, commits_now}
use Rattle.ft_exchange.proofs.StoreRows.{store_same}

-- MAPS

-- entries with different keys may be inserted in either order
pub insert-insert : {X : Type 0} (m : FinMap nat_cmp X) (p q : ℕ) (x y : X) → (q == p) ≡ false →
    finite.insert (finite.insert m p x) q y ≡ finite.insert (finite.insert m q y) p x
insert-insert {X = X} m p q x y other = finite.same_map nat_cmp_total nat_cmp-IsAntisymmetric _ _ (λ k.
    get-insert (finite.insert m p x) q y k
    ∙ ap (cond (k == q) (Some y)) (get-insert m p x k)
    ∙ by_tests (k == q) (k == p) (finite.get m k) (λ e f. both k e f)
    ∙ sym (ap (cond (k == p) (Some x)) (get-insert m q y k))
    ∙ sym (get-insert (finite.insert m q y) p x k))
  where
    both : (k : ℕ) → (k == q) ≡ true → (k == p) ≡ true → ⊥
    both k e f = (let a : k ≡ q = eqb-true k q e in let b : k ≡ p = eqb-true k p f in
        let c : (q == p) ≡ true = eq-eqb q p (sym a ∙ b) in cc)

    by_tests : (s t : Bool) (u : Option X) → (s ≡ true → t ≡ true → ⊥) → cond s (Some y) (cond t (Some x) u)
        ≡ cond t (Some x) (cond s (Some y) u)
    by_tests true true u h = absurd (h refl refl)
    by_tests true false u h = refl
    by_tests false true u h = refl
    by_tests false false u h = refl

-- writing a register does not change what is known of another
pub typed_other : (c : Context) (r q : ℕ) (t : Typed) → (q == r) ≡ false → typed (with_type r t c) q ≡ typed c q
typed_other c r q t e = get-insert c.registers r t q ∙ ap (λ b. cond b (Some t) (typed c q)) e

seen_other : (k : Colour) (c : Context) (r : ℕ) (t : Typed) → seen_memory k (with_type r t c) ≡ seen_memory k c
seen_other Green c r t = refl
seen_other Blue c r t = refl

-- TWO NEIGHBOURS

-- in the other order, the rows continue too, and lead to the same context
pub record Crosses (o : Object) (c e : Context) (first second : Instr) : Type 0 where
  pub between : Context
  pub second_row : row o c second ≡ Goes between
  pub first_row : row o between first ≡ Goes e

pub crosses : (o : Object) (c d e : Context) (first second : Instr) → Permits (length c.queue) first second →
    row o c first ≡ Goes d → row o d second ≡ Goes e → Crosses o c e first second
unfolding pending_memory
crosses o c d e first second h f s = by_kinds first second h.trails h.leads h.second_alone h.first_alone h.room f s
  where
    write_write : (a b : Instr) (p q : ℕ) → written a ≡ Some p → written b ≡ Some q → leaves_alone b (written a)
        ≡ true → leaves_alone a (written b) ≡ true → row o c a ≡ Goes d → row o d b ≡ Goes e → Crosses o c e a b
    write_write a b p q wa wb ab ba f s =
        (let x = wrote o c d a p wa f in
        let y = wrote o d e b q wb s in
        let between = with_type q y.what c in
        let gb : gives o c b ≡ Some y.what = sym (gives_same o c d b (λ r rr. ap (λ (z : Context). typed z r) x.after
        ∙ typed_other c p r x.what (read_other b p r (not_read b (written a) p wa ab) rr)) (λ k rd rs i.
        ap (seen_memory k) x.after ∙ seen_other k c p x.what)) ∙ y.given in
        let ga : gives o between a ≡ Some x.what = gives_same o c between a (λ r rr.
        typed_other c q r y.what (read_other a q r (not_read a (written b) q wb ba) rr)) (λ k rd rs i.
        seen_other k c q y.what) ∙ x.given in
        record {
          between = between;
          second_row = writes_on o c b q y.what wb gb;
          first_row = writes_on o between a p x.what wa ga
              ∙ ap Goes ((λ j. record c {
                registers =
                    insert-insert c.registers q p y.what x.what (not_written a (written b) p q wb wa ba) j;
              })
              ∙ ap (with_type q y.what) (sym x.after) ∙ sym y.after);
        })

    write_store : (a : Instr) (p : ℕ) (rd rs : Reg) → written a ≡ Some p →
        ((k : Colour) (ra rb : Reg) → a ≡ Ld k ra rb → k ≡ Blue) → leaves_alone (St Green rd rs) (written a) ≡ true →
        row o c a ≡ Goes d → row o d (St Green rd rs) ≡ Goes e → Crosses o c e a (St Green rd rs)
    write_store a p rd rs wa blue ab f s =
        (let x = wrote o c d a p wa f in
        let y = queued o d e rd rs s in
        let between = record c { queue = c.queue ++ y.pair ∷ [] } in
        let gb : of_store Green (typed c rd.number) (typed c rs.number)
        ≡ Some y.pair = sym (store_same Green c d rd rs (λ r rr. ap (λ (z : Context). typed z r) x.after
        ∙ typed_other c p r x.what (read_other (St Green rd rs) p r (not_read (St Green rd rs) (written a) p wa ab)
        rr))) ∙ y.given in
        let room : nat_lt (length c.queue) 8 ≡ true = ap (λ (z : Context). nat_lt (length z.queue) 8) (sym x.after)
        ∙ y.room in
        let ga : gives o between a ≡ Some x.what = gives_same o c between a (λ r rr. refl) (λ k ra rb i.
        subst (λ z. seen_memory z between ≡ seen_memory z c) (sym (blue k ra rb i)) refl) ∙ x.given in
        record {
          between = between;
          second_row = queues_on o c rd rs y.pair gb room;
          first_row = writes_on o between a p x.what wa ga
              ∙ ap Goes (ap (λ (z : Context). record z { queue = z.queue ++ y.pair ∷ [] }) (sym x.after) ∙ sym y.after);
        })

    store_write : (rd rs : Reg) (b : Instr) (q : ℕ) → written b ≡ Some q →
        ((k : Colour) (ra rb : Reg) → b ≡ Ld k ra rb → k ≡ Green) → leaves_alone (St Blue rd rs) (written b) ≡ true →
        row o c (St Blue rd rs) ≡ Goes d → row o d b ≡ Goes e → Crosses o c e (St Blue rd rs) b
    store_write rd rs b q wb green ba f s =
        (let x = committed o c d rd rs f in
        let y = wrote o d e b q wb s in
        let between = with_type q y.what c in
        let seen : seen_memory Green d ≡ seen_memory Green c = ap (seen_memory Green) x.after
        ∙ sym (ap (pending_memory c.memory) x.queue) in
        let gb : gives o c b ≡ Some y.what = sym (gives_same o c d b (λ r rr. ap (λ (z : Context). typed z r) x.after)
        (λ k ra rb i. subst (λ z. seen_memory z d ≡ seen_memory z c) (sym (green k ra rb i)) seen)) ∙ y.given in
        let ga : of_store Blue (typed between rd.number) (typed between rs.number)
        ≡ Some x.pair = store_same Blue c between rd rs (λ r rr.
        typed_other c q r y.what (read_other (St Blue rd rs) q r (not_read (St Blue rd rs) (written b) q wb ba) rr))
        ∙ x.given in
        record {
          between = between;
          second_row = writes_on o c b q y.what wb gb;
          first_row = commits_now o between rd rs x.pair x.others ga x.queue
              ∙ ap Goes (ap (with_type q y.what) (sym x.after) ∙ sym y.after);
        })

    store_store : (ra rb rd rs : Reg) → nat_lt (length c.queue) 8 ≡ true → row o c (St Blue ra rb) ≡ Goes d →
        row o d (St Green rd rs) ≡ Goes e → Crosses o c e (St Blue ra rb) (St Green rd rs)
    store_store ra rb rd rs room f s =
        (let x = committed o c d ra rb f in
        let y = queued o d e rd rs s in
        let between = record c { queue = c.queue ++ y.pair ∷ [] } in
        let gb : of_store Green (typed c rd.number) (typed c rs.number)
        ≡ Some y.pair = sym (store_same Green c d rd rs (λ r rr. ap (λ (z : Context). typed z r) x.after))
        ∙ y.given in
        record {
          between = between;
          second_row = queues_on o c rd rs y.pair gb room;
          first_row = commits_now o between ra rb x.pair (x.others
              ++ y.pair ∷ []) x.given (ap (λ z. z ++ y.pair ∷ []) x.queue)
              ∙ ap Goes (ap (λ (z : Context). record z { queue = z.queue ++ y.pair ∷ [] }) (sym x.after) ∙ sym y.after);
        })

    by_kinds : (a b : Instr) → Trailing a → Leading b → leaves_alone b (written a) ≡ true → leaves_alone a (written b)
        ≡ true → has_room a b (length c.queue) ≡ true → row o c a ≡ Goes d → row o d b ≡ Goes e → Crosses o c e a b
    by_kinds a b (trailing_write p wa blue) (leading_write q wb green) ab ba room f s =
        write_write a b p q wa wb ab ba f s
    by_kinds a _ (trailing_write p wa blue) (leading_store rd rs) ab ba room f s = write_store a p rd rs wa blue ab f s
    by_kinds _ b (trailing_store ra rb) (leading_write q wb green) ab ba room f s =
        store_write ra rb b q wb green ba f s
    by_kinds _ _ (trailing_store ra rb) (leading_store rd rs) ab ba room f s = store_store ra rb rd rs room f s
