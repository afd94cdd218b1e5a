-- A larger budget leaves a run that ended unchanged, and extends one that was cut.
use Rattle.std.proofs.Common.{◌≡◌, ℕ, zero, suc, ◌+◌, ◌≤◌, [], ◌∷◌, length, refl, sym, ◌∙◌, subst, arith}
use Rattle.std.proofs.lemmas.List.{length-set}
use Rattle.ft_simulation.proofs.Lists.{begins_itself, begins_on}
use Rattle.ft_isa.specs.Words.{cell_address}
use Rattle.ft_syntax.specs.Plain.{Expression, StatementList, none, assign, assign_at, loop, choose}
use Rattle.ft_scope.specs.declared.slot.Slot.{Slot}
use Rattle.ft_scope.specs.declared.slot.Slot.TheVariants.{Cell, Var, Run}
use Rattle.ft_scope.specs.Resolved.{Program}
use Rattle.ft_meaning.specs.Meaning.{State, Outcome, Ended, Cut, state_of, indexed_cell, value, evaluated}
use Rattle.ft_meaning.specs.Meaning.{evaluated_both, assigned, with_left, then_do, at_zero, with_turn, loops, run}
use Rattle.ft_meaning.specs.Meaning.{start, meaning}
use Rattle.ft_meaning.specs.Begins.{Begins}

-- a run that ended is the same except for the turns left over, and the outputs of a run that was cut are a prefix of
-- the longer run's
abbrev pub Longer : ℕ → Outcome → Outcome → Type 0
Longer d (Ended s) r = r ≡ Ended (with_left (s.left + d) s)
Longer d (Cut s) r = Begins s.out (state_of r).out

-- what holds of each run: turns are only used up, outputs are only added, and the number of variables stays the same
pub record Grows (s t : State) : Type 0 where
  pub left : t.left ≤ s.left
  pub out : Begins s.out t.out
  pub vars : length t.vars ≡ length s.vars

pub grows_trans : (a b c : State) → Grows a b → Grows b c → Grows a c
grows_trans a b c p q = record {
  left = omega (arith, p.left, q.left);
  out = begins_on a.out b.out c.out p.out q.out;
  vars = q.vars ∙ p.vars;
}

pub evaluated_grows : (e : Expression Slot) (s : State) → Grows s (evaluated e s)
evaluated_grows e s = record { left = omega arith; out = begins_itself s.out; vars = refl }

both_grow : (i e : Expression Slot) (s : State) → Grows s (evaluated_both i e s)
both_grow i e s = record { left = omega arith; out = begins_itself s.out; vars = refl }

pub assigned_grows : (n : Slot) (v : ℕ) (s : State) → Grows s (assigned n v s)
assigned_grows (Var x) v s = record { left = omega arith; out = begins_itself s.out; vars = length-set s.vars x v }
assigned_grows (Cell c) v s = record {
  left = omega arith;
  out = (record { addr = cell_address c; value = v } ∷ [], refl);
  vars = refl;
}
assigned_grows (Run c l) v s = record { left = omega arith; out = begins_itself s.out; vars = refl }

left_grows : (s t : State) (l : ℕ) → l ≤ s.left → Grows (with_left l s) t → Grows s t
left_grows s t l h g = record { left = omega (arith, g.left); out = g.out; vars = g.vars }

then_grows : (s : State) (r : Outcome) (go : State → Outcome) → Grows s (state_of r) →
    ((s1 : State) → Grows s1 (state_of (go s1))) → Grows s (state_of (then_do r go))
then_grows s (Ended s1) go p q = grows_trans s s1 _ p (q s1)
then_grows s (Cut s1) go p q = p

zero_grows : (v : ℕ) (s : State) (a b : Outcome) → Grows s (state_of a) → Grows s (state_of b) →
    Grows s (state_of (at_zero v a b))
zero_grows zero s a b p q = p
zero_grows (suc v) s a b p q = q

turn_grows : (l : ℕ) (s : State) (go : State → Outcome) → l ≤ s.left → ((s1 : State) → Grows s1 (state_of (go s1))) →
    Grows s (state_of (with_turn l s go))
turn_grows zero s go h q = record { left = omega arith; out = begins_itself s.out; vars = refl }
turn_grows (suc l) s go h q = left_grows s _ l (omega arith) (q (with_left l s))

pub loops_grows : (n : ℕ) (e : Expression Slot) (body : State → Outcome) (s : State) →
    ((s1 : State) → Grows s1 (state_of (body s1))) → Grows s (state_of (loops n e body s))
loops_grows zero e body s q = zero_grows (value e s.vars s.cells) s (Ended (evaluated e s)) (Cut (evaluated e s))
    (evaluated_grows e s) (evaluated_grows e s)
loops_grows (suc n) e body s q =
    let s1 = evaluated e s in
    zero_grows (value e s.vars s.cells) s (Ended s1) _ (evaluated_grows e s)
    (grows_trans s s1 _ (evaluated_grows e s) (turn_grows s.left s1 _ (omega arith) (λ s2.
    then_grows s2 (body s2) (loops n e body) (q s2) (λ s3. loops_grows n e body s3 q))))

pub run_grows : (b : StatementList Slot) (s : State) → Grows s (state_of (run b s))
run_grows none s = record { left = omega arith; out = begins_itself s.out; vars = refl }
run_grows (assign to e rest) s =
    grows_trans s _ _ (grows_trans s (evaluated e s) _ (evaluated_grows e s)
    (assigned_grows to (value e s.vars s.cells) (evaluated e s)))
    (run_grows rest (assigned to (value e s.vars s.cells) (evaluated e s)))
run_grows (assign_at to i e rest) s =
    let c = Cell (indexed_cell to (value i s.vars s.cells)) in
    let v = value e s.vars s.cells in
    let s1 = evaluated_both i e s in
    grows_trans s _ _ (grows_trans s s1 _ (both_grow i e s) (assigned_grows c v s1)) (run_grows rest (assigned c v s1))
run_grows (loop e body rest) s =
    then_grows s (loops s.left e (run body) s) (run rest) (loops_grows s.left e (run body) s (λ s1. run_grows body s1))
    (λ s1. run_grows rest s1)
run_grows (choose e a b rest) s =
    let s1 = evaluated e s in
    then_grows s (at_zero (value e s.vars s.cells) (run b s1) (run a s1)) (run rest)
    (grows_trans s s1 _ (evaluated_grows e s) (zero_grows (value e s.vars s.cells) s1 (run b s1) (run a s1)
    (run_grows b s1) (run_grows a s1))) (λ s2. run_grows rest s2)

-- the state with d more turns
abbrev more : ℕ → State → State
more d s = with_left (s.left + d) s

test_longer : (d v : ℕ) (s : State) (r q : Outcome) → Longer d r q →
    Longer d (at_zero v (Ended s) r) (at_zero v (Ended (more d s)) q)
test_longer d zero s r q h = refl
test_longer d (suc v) s r q h = h

then_longer : (d l : ℕ) (r q : Outcome) (f g : State → Outcome) → (state_of r).left ≤ l → Longer d r q →
    ((s : State) → s.left ≤ l → Longer d (f s) (g (more d s))) → ((s : State) → Grows s (state_of (g s))) →
    Longer d (then_do r f) (then_do q g)
then_longer d l (Ended s) q f g le h k grow = subst (λ x. Longer d (f s) (then_do x g)) (sym h) (k s le)
then_longer d l (Cut s) (Ended t) f g le h k grow = begins_on s.out t.out _ h (grow t).out
then_longer d l (Cut s) (Cut t) f g le h k grow = h

turn_longer : (d l : ℕ) (s : State) (f g : State → Outcome) → l ≡ s.left →
    ((t : State) → suc t.left ≤ l → Longer d (f t) (g (more d t))) → ((t : State) → Grows t (state_of (g t))) →
    Longer d (with_turn l s f) (with_turn (l + d) (more d s) g)
turn_longer d zero s f g e k grow = (turn_grows (0 + d) (more d s) g (omega arith) grow).out
turn_longer d (suc l) s f g e k grow =
    let n : suc (l + d) ≡ suc l + d = omega arith in
    subst (λ x. Longer d (f (with_left l s)) (with_turn x (more d s) g)) n (k (with_left l s) (omega arith))

longer_loops : (d n m : ℕ) (e : Expression Slot) (body : State → Outcome) (s : State) → s.left ≤ n → s.left + d ≤ m →
    ((t : State) → Longer d (body t) (body (more d t))) → ((t : State) → Grows t (state_of (body t))) →
    Longer d (loops n e body s) (loops m e body (more d s))
longer_loops d zero zero e body s h k b grow = test_longer d (value e s.vars s.cells) (evaluated e s)
    (Cut (evaluated e s)) (Cut (evaluated e (more d s))) (begins_itself s.out)
longer_loops d zero (suc m) e body s h k b grow =
    test_longer d (value e s.vars s.cells) (evaluated e s) (Cut (evaluated e s)) _
    (turn_grows (s.left + d) (evaluated e (more d s)) _ (omega arith) (λ t.
    then_grows t (body t) (loops m e body) (grow t) (λ t1. loops_grows m e body t1 grow))).out
longer_loops d (suc n) zero e body s h k b grow =
    let z : 0 ≡ s.left = omega arith in
    test_longer d (value e s.vars s.cells) (evaluated e s) _ (Cut (evaluated e (more d s)))
    (subst (λ x. Longer d (with_turn x (evaluated e s) (λ t. then_do (body t) (loops n e body)))
    (Cut (evaluated e (more d s)))) z (begins_itself s.out))
longer_loops d (suc n) (suc m) e body s h k b grow =
    test_longer d (value e s.vars s.cells) (evaluated e s) _ _
    (turn_longer d s.left (evaluated e s) (λ t. then_do (body t) (loops n e body)) (λ t.
    then_do (body t) (loops m e body)) refl
    (λ t le. then_longer d t.left (body t) (body (more d t)) (loops n e body) (loops m e body) (grow t).left (b t)
    (λ t1 le1. longer_loops d n m e body t1 (omega arith) (omega arith) b grow) (λ t1. loops_grows m e body t1 grow))
    (λ t. then_grows t (body t) (loops m e body) (grow t) (λ t1. loops_grows m e body t1 grow)))

assigned_more : (d : ℕ) (n : Slot) (v : ℕ) (s : State) → assigned n v (more d s) ≡ more d (assigned n v s)
assigned_more d (Var x) v s = refl
assigned_more d (Cell c) v s = refl
assigned_more d (Run c l) v s = refl

zero_longer : (d v : ℕ) (a b x y : Outcome) → Longer d a x → Longer d b y → Longer d (at_zero v a b) (at_zero v x y)
zero_longer d zero a b x y p q = p
zero_longer d (suc v) a b x y p q = q

longer_run : (d : ℕ) (b : StatementList Slot) (s : State) → Longer d (run b s) (run b (more d s))
longer_run d none s = refl
longer_run d (assign to e rest) s =
    let v = value e s.vars s.cells in
    subst (λ x. Longer d (run rest (assigned to v (evaluated e s))) (run rest x))
    (sym (assigned_more d to v (evaluated e s))) (longer_run d rest (assigned to v (evaluated e s)))
longer_run d (assign_at to i e rest) s = longer_run d rest
    (assigned (Cell (indexed_cell to (value i s.vars s.cells))) (value e s.vars s.cells) (evaluated_both i e s))
longer_run d (loop e body rest) s =
    then_longer d s.left (loops s.left e (run body) s) (loops (s.left + d) e (run body) (more d s)) (run rest)
    (run rest) (loops_grows s.left e (run body) s (run_grows body)).left
    (longer_loops d s.left (s.left + d) e (run body) s (omega arith) (omega arith) (longer_run d body)
    (run_grows body)) (λ t le. longer_run d rest t) (run_grows rest)
longer_run d (choose e a b rest) s =
    let v = value e s.vars s.cells in
    let s1 = evaluated e s in
    then_longer d s.left (at_zero v (run b s1) (run a s1)) (at_zero v (run b (more d s1)) (run a (more d s1)))
    (run rest) (run rest) (zero_grows v s1 (run b s1) (run a s1) (run_grows b s1) (run_grows a s1)).left
    (zero_longer d v _ _ _ _ (longer_run d b s1) (longer_run d a s1)) (λ t le. longer_run d rest t) (run_grows rest)

pub longer_meaning : (p : Program) (t d : ℕ) → Longer d (meaning p t) (meaning p (t + d))
longer_meaning p t d = longer_run d p.body (start p t)

-- the two parts of the law
pub longer_ended : (p : Program) (t d : ℕ) (s : State) → meaning p t ≡ Ended s → meaning p (t + d)
    ≡ Ended (with_left (s.left + d) s)
longer_ended p t d s h = subst (λ r. Longer d r (meaning p (t + d))) h (longer_meaning p t d)

pub longer_cut : (p : Program) (t d : ℕ) (s : State) → meaning p t ≡ Cut s →
    Begins s.out (state_of (meaning p (t + d))).out
longer_cut p t d s h = subst (λ r. Longer d r (meaning p (t + d))) h (longer_meaning p t d)
