-- What a step changes, apart from what it reads to find out.
use Rattle.std.proofs.Common.{◌≡◌, ℕ, zero, suc, ◌<◌, Bool, true, false, cond, ◌==◌, if◌then◌else◌, []}
use Rattle.std.proofs.Common.{◌∷◌, ◌++◌, length, drop, Option, Some, None, refl, sym, ap, ◌∙◌, subst, arith, eqb-true}
use Rattle.std.proofs.lemmas.Bool.Decides.{nat_tests}
use Rattle.std.proofs.lemmas.Bool.{ltb-true}
use Rattle.std.specs.Cmp.{nat_cmp_total}
use Rattle.std.specs.FinMap as finite
use Rattle.std.specs.FinMap.{nat_cmp-IsAntisymmetric}
use Rattle.ft_isa.specs.declared.colour.Coloured.{Coloured}
use Rattle.ft_isa.specs.declared.instr.Instr.{Instr}
use Rattle.ft_isa.specs.declared.plan.Site.{Site}
use Rattle.ft_isa.specs.declared.plan.Site.TheVariants.{R, D, PcG, PcB, QAddr, QVal}
use Rattle.ft_isa.specs.Pending.{Pending, with_address, with_value}
use Rattle.ft_semantics.specs.declared.status.Status.TheVariants.{Done, Detected}
use Rattle.ft_semantics.specs.State.{State, Registers, held, with_held, with_cell}
use Rattle.ft_semantics.specs.Step.{goes_on}
use Rattle.ft_semantics.specs.Strike.{is_site, with_word}
use Rattle.ft_types.proofs.Maps.{get-insert}
use Rattle.ft_semantics.proofs.Held.{held-with_held}
use Rattle.ft_exchange.proofs.Crossing.{insert-insert}

-- what a step does to the state: it fetches, stops, or does what an instruction does
pub data Change : Type 0 where
  fetches : Instr → Change
  detects : Change
  halts : Change
  passes : Change
  puts : ℕ → Coloured → Change
  queues : ℕ → ℕ → Change
  commits_it : ℕ → ℕ → Change
  sets_d : ℕ → Change
  transfers_to : ℕ → Change

-- the state after it
abbrev pub act : Change → State → State
act (fetches i) s = record s { fetched = Some i }
act detects s = record s { status = Detected }
act halts s = record s { status = Done }
act passes s = goes_on s
act (puts r x) s = goes_on (record s { registers = with_held s.registers r x })
act (queues a v) s = goes_on (record s { queue = s.queue ++ (a, v) ∷ [] })
act (commits_it a v) s = goes_on (record s { queue = drop 1 s.queue; cells = with_cell s.cells a v })
act (sets_d a) s = goes_on (record s { d = a })
act (transfers_to a) s = record s { pc_green = s.d; pc_blue = a; d = 0; fetched = None }

-- whether the state after it depends on the word at a site in another way than by keeping the word
abbrev pub counts : Change → Bool
counts (fetches i) = false
counts detects = false
counts halts = false
counts (transfers_to a) = false
counts c = true

-- whether a change reads the word at a site
abbrev pub touches : Change → Site → Bool
touches c PcG = counts c
touches c PcB = counts c
touches (sets_d a) D = true
touches (transfers_to a) D = true
touches (commits_it a v) (QAddr e) = e == 0
touches (commits_it a v) (QVal e) = e == 0
touches c x = false

-- whether it writes the site
abbrev pub covers : Change → Site → Bool
covers (puts r x) (R q) = r == q.number
covers (transfers_to a) PcG = true
covers (transfers_to a) PcB = true
covers c x = false

-- the number of a pending entry after a change
abbrev pub entry_past : Change → ℕ → ℕ
entry_past (commits_it a v) (suc e) = e
entry_past c e = e

-- where the word is afterwards
abbrev pub moves : Change → Site → Site
moves c (QAddr e) = QAddr (entry_past c e)
moves c (QVal e) = QVal (entry_past c e)
moves c x = x

-- the state after a change from a struck state, in terms of the state after it from the state itself
abbrev pub left_by : Change → Site → ℕ → State → State
left_by c x v t = if covers c x then t else with_word (moves c x) v t

-- QUEUES

address-append : (q : Pending) (e v : ℕ) (p : ℕ × ℕ) → e < length q → with_address (q ++ p ∷ []) e v
    ≡ with_address q e v ++ p ∷ []
unfolding with_address
address-append [] e v p h = absurd (omega arith)
address-append (y ∷ q) zero v p h = refl
address-append (y ∷ q) (suc e) v p h = ap (λ z. y ∷ z) (address-append q e v p (omega arith))

value-append : (q : Pending) (e v : ℕ) (p : ℕ × ℕ) → e < length q → with_value (q ++ p ∷ []) e v
    ≡ with_value q e v ++ p ∷ []
unfolding with_value
value-append [] e v p h = absurd (omega arith)
value-append (y ∷ q) zero v p h = refl
value-append (y ∷ q) (suc e) v p h = ap (λ z. y ∷ z) (value-append q e v p (omega arith))

drop-with_address : (q : Pending) (e v : ℕ) → drop 1 (with_address q (suc e) v) ≡ with_address (drop 1 q) e v
unfolding with_address
drop-with_address [] e v = refl
drop-with_address (y ∷ q) e v = refl

drop-with_value : (q : Pending) (e v : ℕ) → drop 1 (with_value q (suc e) v) ≡ with_value (drop 1 q) e v
unfolding with_value
drop-with_value [] e v = refl
drop-with_value (y ∷ q) e v = refl

-- REGISTERS

-- a register that is written twice holds what was written last
twice : (m : Registers) (r : ℕ) (x y : Coloured) → with_held (with_held m r x) r y ≡ with_held m r y
twice m r x y = finite.same_map nat_cmp_total nat_cmp-IsAntisymmetric _ _ (λ k.
    get-insert (with_held m r x) r y k
    ∙ ap (cond (k == r) (Some y)) (get-insert m r x k)
    ∙ by_test (k == r) (finite.get m k)
    ∙ sym (get-insert m r y k))
  where
    by_test : (b : Bool) (u : Option Coloured) → cond b (Some y) (cond b (Some x) u) ≡ cond b (Some y) u
    by_test true u = refl
    by_test false u = refl

-- the registers with the word of one struck
abbrev struck_in : Registers → ℕ → ℕ → Registers
struck_in m q v = with_held m q (record { colour = (held m q).colour; word = v })

-- a register is written after it, or another one, was struck
struck_write : (m : Registers) (q v r : ℕ) (x : Coloured) (b : Bool) → (r == q) ≡ b → with_held (struck_in m q v) r x
    ≡ (if b then with_held m r x else struck_in (with_held m r x) q v)
struck_write m q v r x true e = let same : r ≡ q = eqb-true r q e in
    subst (λ k. with_held (struck_in m k v) r x ≡ with_held m r x) same (twice m r _ x)
struck_write m q v r x false e =
    insert-insert m q r _ x e
    ∙ ap (λ (y : Coloured). with_held (with_held m r x) q (record { colour = y.colour; word = v }))
    (sym (held-with_held m r x q ∙ ap (λ b. cond b x (held m q)) (other e)))
  where
    other : (r == q) ≡ false → (q == r) ≡ false
    other f = grind (arith, nat_tests)

-- STATES

-- putting a register of a struck state
struck_put : (s : State) (q v r : ℕ) (x : Coloured) (b : Bool) → (r == q) ≡ b →
    goes_on (record s { registers = with_held (struck_in s.registers q v) r x })
    ≡ (if b then goes_on (record s { registers = with_held s.registers r x })
    else goes_on (record s { registers = struck_in (with_held s.registers r x) q v }))
struck_put s q v r x true e = ap (λ m. goes_on (record s { registers = m })) (struck_write s.registers q v r x true e)
struck_put s q v r x false e = ap (λ m. goes_on (record s { registers = m })) (struck_write s.registers q v r x false e)

-- the state with a word struck, after a change that does not depend on it
pub act_struck : (c : Change) (x : Site) (v : ℕ) (s : State) → is_site x (length s.queue) ≡ true → touches c x ≡ false →
    act c (with_word x v s) ≡ left_by c x v (act c s)
act_struck (puts r y) (R q) v s h t = struck_put s q.number v r y (r == q.number) refl
act_struck (queues a u) (QAddr e) v s h t =
    ap (λ z. goes_on (record s { queue = z })) (sym (address-append s.queue e v (a, u) (ltb-true e (length s.queue) h)))
act_struck (queues a u) (QVal e) v s h t =
    ap (λ z. goes_on (record s { queue = z })) (sym (value-append s.queue e v (a, u) (ltb-true e (length s.queue) h)))
act_struck (commits_it a u) (QAddr zero) v s h t = cc
act_struck (commits_it a u) (QAddr (suc e)) v s h t =
    ap (λ z. goes_on (record s { queue = z; cells = with_cell s.cells a u })) (drop-with_address s.queue e v)
act_struck (commits_it a u) (QVal zero) v s h t = cc
act_struck (commits_it a u) (QVal (suc e)) v s h t =
    ap (λ z. goes_on (record s { queue = z; cells = with_cell s.cells a u })) (drop-with_value s.queue e v)
act_struck (sets_d a) D v s h t = cc
act_struck (transfers_to a) D v s h t = cc
act_struck (transfers_to a) x v s h t = refl
act_struck (fetches i) D v s h t = refl
act_struck (fetches i) x v s h t = refl
act_struck detects D v s h t = refl
act_struck detects x v s h t = refl
act_struck halts D v s h t = refl
act_struck halts x v s h t = refl
act_struck c PcG v s h t = cc
act_struck c PcB v s h t = cc
act_struck c x v s h t = refl
