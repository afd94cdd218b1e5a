-- What is shown at a position, depending on the strikes made.
use Rattle.std.proofs.Common.{◌≡◌, ℕ, zero, suc, ◌+◌, ◌<◌, ◌≤◌, ◌==◌, Bool, true, false, cond, List, [], ◌∷◌, ◌++◌}
use Rattle.std.proofs.Common.{Some, nat_le, refl, ap, sym, ◌∙◌, add-one, arith}
use Rattle.std.specs.Prelude.{filter, if◌then◌else◌}
use Rattle.std.specs.List.{AllByRecursion}
use Rattle.std.proofs.lemmas.Bool.{ne_eqb, leb-true}
use Rattle.std.proofs.lemmas.Bool.Decides.{leb_tells}
use Rattle.ft_isa.specs.declared.plan.Site.{Site}
use Rattle.ft_isa.specs.declared.plan.Strike.{Strike}
use Rattle.ft_isa.specs.declared.plan.Wild.{Wild}
use Rattle.ft_types.specs.declared.object.Object.{Object}
use Rattle.ft_semantics.specs.State.{State, start}
use Rattle.ft_semantics.specs.Step.{Stepping, quiet, step}
use Rattle.ft_semantics.specs.Strike.{struck_state, struck_before}
use Rattle.ft_semantics.proofs.Struck.{struck_there}
use Rattle.ft_debug.specs.Sessions.{Shown, shown, led_to, struck_at}
use Rattle.ft_debug.specs.Inside.{IsMadeBy}

pub shown-zero : (o : Object) (w : List Wild) (xs : List Strike) → shown o w xs 0 ≡ led_to 0 xs (quiet (start o) w)
unfolding shown
shown-zero o w xs = refl

pub shown-add_one : (o : Object) (w : List Wild) (xs : List Strike) (p : ℕ) → shown o w xs (p + 1)
    ≡ led_to (p + 1) xs (step o (shown o w xs p).state (shown o w xs p).wild)
unfolding shown
shown-add_one o w xs p = rw add-one refl

-- a strike at another position changes nothing here
before-other : (x : Strike) (q : ℕ) (s : State) → (x.step == q) ≡ false → struck_before (Some x) q s ≡ s
before-other x q s e = ap (λ t. if t then struck_state s x.site x.value else s) e

-- strikes made at earlier positions change nothing here
pub struck_later : (p q : ℕ) (xs : List Strike) (s : State) → p < q → AllByRecursion (IsMadeBy p) xs → struck_at q xs s
    ≡ s
struck_later p q [] s l h = refl
struck_later p q (x ∷ xs) s l h = let at : x.step ≤ p = h.0 in
    ap (struck_at q xs) (before-other x q s (ne_eqb x.step q (λ e. absurd (omega arith)))) ∙ struck_later p q xs s l h.1

-- a strike added at the end is made last
struck-push : (p : ℕ) (xs : List Strike) (x : Strike) (s : State) → struck_at p (xs ++ x ∷ []) s
    ≡ struck_before (Some x) p (struck_at p xs s)
struck-push p [] x s = refl
struck-push p (y ∷ xs) x s = struck-push p xs x (struck_before (Some y) p s)

-- the next position shows the state after a step from this one
pub shown_next : (o : Object) (w : List Wild) (xs : List Strike) (p : ℕ) → AllByRecursion (IsMadeBy p) xs
    → shown o w xs (p + 1) ≡ record {
      state = (step o (shown o w xs p).state (shown o w xs p).wild).state;
      wild = (step o (shown o w xs p).state (shown o w xs p).wild).wild;
    }
shown_next o w xs p h =
    let t = step o (shown o w xs p).state (shown o w xs p).wild in
    shown-add_one o w xs p ∙ ap (λ (s : State). record { state = s; wild = t.wild })
    (struck_later p (p + 1) xs t.state (omega arith) h)

-- two lists of strikes with the same effects up to a position show the same there
same_shown : (o : Object) (w : List Wild) (xs ys : List Strike) (q : ℕ) →
    ((r : ℕ) → r ≤ q → (s : State) → struck_at r xs s ≡ struck_at r ys s) → shown o w xs q ≡ shown o w ys q
unfolding shown
same_shown o w xs ys zero h = ap (λ (s : State). record { state = s; wild = w }) (h 0 (omega arith) (start o))
same_shown o w xs ys (suc q) h =
    let before = same_shown o w xs ys q (λ r l s. h r (omega arith) s) in
    let t = step o (shown o w ys q).state (shown o w ys q).wild in
    ap (λ (m : Shown). led_to (suc q) xs (step o m.state m.wild)) before
    ∙ ap (λ (s : State). record { state = s; wild = t.wild }) (h (suc q) (omega arith) t.state)

-- a strike leaves what is shown before it unchanged
pub shown_before : (o : Object) (w : List Wild) (xs : List Strike) (x : Strike) (q : ℕ) → q < x.step →
    shown o w (xs ++ x ∷ []) q ≡ shown o w xs q
shown_before o w xs x q l = same_shown o w (xs ++ x ∷ []) xs q (λ r le s. struck-push r xs x s
    ∙ before-other x r (struck_at r xs s) (ne_eqb x.step r (λ e. absurd (omega arith))))

struck_now : (o : Object) (w : List Wild) (xs : List Strike) (x : Strike) (t : Stepping) →
    led_to x.step (xs ++ x ∷ []) t ≡ record {
      state = struck_state (led_to x.step xs t).state x.site x.value;
      wild = (led_to x.step xs t).wild;
    }
struck_now o w xs x t = ap (λ (s : State). record { state = s; wild = t.wild }) (struck-push x.step xs x t.state
    ∙ struck_there x (struck_at x.step xs t.state))

-- at the position of a strike, the struck state is shown
pub shown_struck : (o : Object) (w : List Wild) (xs : List Strike) (p : ℕ) (site : Site) (value : ℕ)
    → shown o w (xs ++ record { step = p; site = site; value = value } ∷ []) p
    ≡ record { state = struck_state (shown o w xs p).state site value; wild = (shown o w xs p).wild }
unfolding shown
shown_struck o w xs zero site value = struck_now o w xs (record { step = 0; site = site; value = value })
    (quiet (start o) w)
shown_struck o w xs (suc p) site value =
    let x : Strike = record { step = suc p; site = site; value = value } in
    ap (λ (m : Shown). led_to (suc p) (xs ++ x ∷ []) (step o m.state m.wild)) (shown_before o w xs x p (omega arith))
    ∙ struck_now o w xs x (step o (shown o w xs p).state (shown o w xs p).wild)

-- whether a strike was made at a position or before it
abbrev pub is_by : ℕ → Strike → Bool
is_by p x = nat_le x.step p

filter_step : (p r : ℕ) (x : Strike) (xs : List Strike) (s : State) (t : Bool) → r ≤ p → is_by p x ≡ t →
    ((s : State) → struck_at r (filter (is_by p) xs) s ≡ struck_at r xs s)
    → struck_at r (cond t (x ∷ filter (is_by p) xs) (filter (is_by p) xs)) s
    ≡ struck_at r xs (struck_before (Some x) r s)
filter_step p r x xs s true l e h = h (struck_before (Some x) r s)
filter_step p r x xs s false l e h = h s ∙ ap (struck_at r xs)
    (sym (before-other x r s (ne_eqb x.step r (λ i. grind (arith, leb_tells x.step p)))))

-- dropping the strikes after a position changes nothing up to there
struck_filtered : (p r : ℕ) (xs : List Strike) (s : State) → r ≤ p → struck_at r (filter (is_by p) xs) s
    ≡ struck_at r xs s
struck_filtered p r [] s l = refl
struck_filtered p r (x ∷ xs) s l = filter_step p r x xs s (is_by p x) l refl (λ t. struck_filtered p r xs t l)

pub shown_filtered : (o : Object) (w : List Wild) (xs : List Strike) (p q : ℕ) → q ≤ p →
    shown o w (filter (is_by p) xs) q ≡ shown o w xs q
shown_filtered o w xs p q l = same_shown o w (filter (is_by p) xs) xs q (λ r le s.
    struck_filtered p r xs s (omega arith))

made_step : (p : ℕ) (x : Strike) (xs : List Strike) (t : Bool) → is_by p x ≡ t → AllByRecursion (IsMadeBy p) xs →
    AllByRecursion (IsMadeBy p) (cond t (x ∷ xs) xs)
made_step p x xs true e h = (leb-true x.step p e, h)
made_step p x xs false e h = h

-- the strikes that remain were made at that position or before it
pub made_filtered : (p : ℕ) (xs : List Strike) → AllByRecursion (IsMadeBy p) (filter (is_by p) xs)
made_filtered p [] = tt
made_filtered p (x ∷ xs) = made_step p x (filter (is_by p) xs) (is_by p x) refl (made_filtered p xs)

pub made_later : (p q : ℕ) (xs : List Strike) → p ≤ q → AllByRecursion (IsMadeBy p) xs → AllByRecursion (IsMadeBy q) xs
made_later p q [] l h = tt
made_later p q (x ∷ xs) l h = let at : x.step ≤ p = h.0 in (omega arith, made_later p q xs l h.1)

pub made_push : (p : ℕ) (xs : List Strike) (x : Strike) → AllByRecursion (IsMadeBy p) xs → x.step ≤ p →
    AllByRecursion (IsMadeBy p) (xs ++ x ∷ [])
made_push p [] x h l = (l, tt)
made_push p (y ∷ xs) x h l = (h.0, made_push p xs x h.1 l)
