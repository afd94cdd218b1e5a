-- Fates: what the backward definition says about the run.
use Rattle.std.proofs.Common.{◌≡◌, ⊎_elim, ◌≤◌, sym, ap, ◌∙◌, subst, ℕ, zero, suc, ◌+◌, ◌<◌, Bool, true, false, List}
use Rattle.std.proofs.Common.{None, refl}
use Rattle.std.proofs.Common.{arith, if◌then◌else◌}
use Rattle.ft_isa.specs.declared.plan.Site.{Site}
use Rattle.ft_isa.specs.declared.plan.Wild.{Wild}
use Rattle.ft_types.specs.declared.object.Object.{Object}
use Rattle.ft_semantics.specs.declared.status.Status.{Status}
use Rattle.ft_semantics.specs.declared.status.Status.TheVariants.{Running, Done, Detected}
use Rattle.ft_semantics.specs.Strike.{is_running, is_there}
use Rattle.ft_semantics.specs.Run.{Ran, state_after, status_after}
use Rattle.ft_semantics.proofs.Runs.{HasStopped, run_stays}
use Rattle.std.proofs.lemmas.Bool.{cases_eq}
use Rattle.ft_access.specs.Access.{reads_site, overwrites, site_after}
use Rattle.ft_access.specs.Lasting.{fetched_at, IsUntouched, Lasts, at_once, further, IsDead, unread, overwritten}
use Rattle.ft_access.specs.Lasting.{at_stop}
use Rattle.ft_access.specs.Fates.{Fate, ReadAt, Unread, fate, IsReadAt}
use Rattle.ft_tolerance.proofs.Statuses.{running_is}
use Rattle.ft_access.proofs.Waiting.{lasts_there}

-- a word that lasts from the next step on lasts from this one
module _ (o : Object) (w : List Wild) (k : ℕ) (x : Site) (there : is_there (state_after o None w k) x ≡ true)
    (r : reads_site (fetched_at o w k) x ≡ false) (e : overwrites (fetched_at o w k) x ≡ false)
    (go : status_after o None w (suc k) ≡ Running) where
  abbrev next : Site
  next = site_after (fetched_at o w k) x

  pub lasts_before : (l : ℕ) (y : Site) → Lasts o w (suc k) next l y → Lasts o w k x l y
  lasts_before _ _ (at_once h) = further k x (at_once there) r e go
  lasts_before _ _ (further l y h s f on) = further l y (lasts_before l y h) s f on

  dead_before : (n : ℕ) → IsDead o w n (suc k) next → IsDead o w n k x
  dead_before n (unread l y h past) = unread l y (lasts_before l y h) past
  dead_before n (overwritten l y h s f) = overwritten l y (lasts_before l y h) s f
  dead_before n (at_stop l y h s stop) = at_stop l y (lasts_before l y h) s stop

  read_before : (n l : ℕ) (y : Site) → IsReadAt o w n (suc k) next l y → IsReadAt o w n k x l y
  read_before n l y h = record { lasts = lasts_before l y h.lasts; reads = h.reads; within = h.within }

  there_next : is_there (state_after o None w (suc k)) next ≡ true
  there_next = lasts_there o w k x (suc k) next (further k x (at_once there) r e go)

-- what a fate says of a word
abbrev pub Says : Object → List Wild → ℕ → ℕ → Site → Fate → Type 0
Says o w n k x (ReadAt l y) = IsReadAt o w n k x l y
Says o w n k x Unread = IsDead o w n k x

-- what a fate says after a step, it says before it
says_before : (o : Object) (w : List Wild) (n k : ℕ) (x : Site) → is_there (state_after o None w k) x ≡ true →
    reads_site (fetched_at o w k) x ≡ false → overwrites (fetched_at o w k) x ≡ false → status_after o None w (suc k)
    ≡ Running → (f : Fate) → Says o w n (suc k) (site_after (fetched_at o w k) x) f → Says o w n k x f
says_before o w n k x there r e go (ReadAt l y) h = read_before o w k x there r e go n l y h
says_before o w n k x there r e go Unread h = dead_before o w k x there r e go n h

-- a status that fails the test is not `Running`
not_running : (u : Status) → is_running u ≡ false → ¬ (u ≡ Running)
not_running Running h = cc
not_running Done h = λ e. cc
not_running Detected h = λ e. cc

-- one step of the next lemma
module _ (o : Object) (w : List Wild) (n k : ℕ) (x : Site) (f : Fate) (there : is_there (state_after o None w k) x
    ≡ true)
    (within : k < n) (rest : is_there (state_after o None w (suc k)) (site_after (fetched_at o w k) x) ≡ true →
    Says o w n (suc k) (site_after (fetched_at o w k) x) f) where
  by_running : (b : Bool) → is_running (status_after o None w (suc k)) ≡ b → reads_site (fetched_at o w k) x ≡ false →
      overwrites (fetched_at o w k) x ≡ false → Says o w n k x (if b then f else Unread)
  by_running true runs r e =
      let go = running_is (status_after o None w (suc k)) runs in
      says_before o w n k x there r e go f (rest (there_next o w k x there r e go))
  by_running false stop r e = at_stop k x (at_once there) r (not_running _ stop)

  by_overwritten : (b : Bool) → overwrites (fetched_at o w k) x ≡ b → reads_site (fetched_at o w k) x ≡ false →
      Says o w n k x (if b then Unread else if is_running (status_after o None w (suc k)) then f else Unread)
  by_overwritten true e r = overwritten k x (at_once there) r e
  by_overwritten false e r = by_running (is_running (status_after o None w (suc k))) refl r e

  by_read : (b : Bool) → reads_site (fetched_at o w k) x ≡ b → Says o w n k x (if b then ReadAt k x
      else if overwrites (fetched_at o w k) x then Unread
      else if is_running (status_after o None w (suc k)) then f else Unread)
  by_read true r = record { lasts = at_once there; reads = r; within = within }
  by_read false r = by_overwritten (overwrites (fetched_at o w k) x) refl r

-- a fate says what it should
pub fate_says : (o : Object) (w : List Wild) (n left k : ℕ) (x : Site) → n ≡ k + left →
    is_there (state_after o None w k) x ≡ true → Says o w n k x (fate o w left k x)
fate_says o w n zero k x e there = unread k x (at_once there) (omega arith)
fate_says o w n (suc left) k x e there =
    by_read o w n k x (fate o w left (suc k) (site_after (fetched_at o w k) x)) there (omega arith)
    (fate_says o w n left (suc k) (site_after (fetched_at o w k) x) (omega arith))
    (reads_site (fetched_at o w k) x) refl

-- a machine that has stopped keeps its status
still_stopped : (o : Object) (w : List Wild) (l : ℕ) → HasStopped (status_after o None w l) → status_after o None w l
    ≡ status_after o None w (suc l)
still_stopped o w l h = sym (ap (λ (r : Ran). r.state.status) (run_stays o None w l (suc l) (omega arith) h))

-- a machine that runs ran before
ran_before : (o : Object) (w : List Wild) (l : ℕ) (u : Status) → status_after o None w l ≡ u →
    status_after o None w (suc l) ≡ Running → status_after o None w l ≡ Running
ran_before o w l Running e go = e
ran_before o w l Done e go = still_stopped o w l (subst HasStopped (sym e) tt) ∙ go
ran_before o w l Detected e go = still_stopped o w l (subst HasStopped (sym e) tt) ∙ go

-- a word that no step touches stays at its site
pub lasts_still : (o : Object) (w : List Wild) (k : ℕ) (x : Site) → is_there (state_after o None w k) x ≡ true → (l : ℕ)
    → k ≤ l → status_after o None w l ≡ Running → ((i : ℕ) → k ≤ i → i < l → IsUntouched (fetched_at o w i) x) →
    Lasts o w k x l x
lasts_still o w k x there zero le go h = let e : k ≡ zero = omega arith in
    subst (λ m. Lasts o w k x m x) e (at_once there)
lasts_still o w k x there (suc l) le go h =
    ⊎_elim
    (λ (e : k ≡ suc l). subst (λ m. Lasts o w k x m x) e (at_once there))
    (λ (ne : k ≡ suc l → ⊥).
    let u = h l (omega arith) (omega arith) in
    subst (Lasts o w k x (suc l)) u.still (further l x (lasts_still o w k x there l (omega arith)
    (ran_before o w l (status_after o None w l) refl go) (λ i a b. h i a (omega arith))) u.unread u.kept go))
    (cases_eq k (suc l))
