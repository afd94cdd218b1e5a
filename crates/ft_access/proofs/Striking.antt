-- Faults that strike: the site is there before their step.
use Rattle.std.proofs.Common.{◌≡◌, ℕ, ◌-◌, ◌<◌, true, nat_lt, List, Some, None}
use Rattle.std.proofs.Common.{sym, ap, ◌∙◌, arith}
use Rattle.std.proofs.lemmas.Bool.{ltb-true, lt-ltb, and_parts, and_from}
use Rattle.ft_isa.specs.declared.plan.Site.{Site}
use Rattle.ft_isa.specs.declared.plan.Strike.{Strike}
use Rattle.ft_isa.specs.declared.plan.Wild.{Wild}
use Rattle.ft_types.specs.declared.object.Object.{Object}
use Rattle.ft_semantics.specs.Strike.{is_there}
use Rattle.ft_semantics.specs.Run.{Ran, state_after, is_struck}
use Rattle.ft_tolerance.proofs.Masking.{before}
use Rattle.ft_access.specs.Lasting.{Lasts, at_once, further, IsDead, unread, overwritten, at_stop}
use Rattle.ft_access.specs.Lasting.{strike_at}
use Rattle.ft_access.specs.Fates.{fate}
use Rattle.ft_access.proofs.Fated.{Says, fate_says}

-- before the strike, the site is there in the struck run if it is there in the run without a fault
there_too : (o : Object) (x : Strike) (w : List Wild) → is_there (state_after o (Some x) w x.step) x.site
    ≡ is_there (state_after o None w x.step) x.site
there_too o x w = ap (λ (r : Ran). is_there r.state x.site) (sym (before o x w x.step (omega arith)))

-- a strike of a word that is there strikes
pub strikes : (o : Object) (w : List Wild) (n k : ℕ) (x : Site) (v : ℕ) → k < n → is_there (state_after o None w k) x
    ≡ true
    → is_struck o (Some (strike_at k x v)) w n ≡ true
strikes o w n k x v lt there = and_from (nat_lt k n) _ (lt-ltb k n lt) (there_too o (strike_at k x v) w ∙ there)

-- the site is there at the beginning
pub lasts_from : (o : Object) (w : List Wild) (k : ℕ) (x : Site) (l : ℕ) (y : Site) → Lasts o w k x l y →
    is_there (state_after o None w k) x ≡ true
lasts_from o w k x _ _ (at_once there) = there
lasts_from o w k x _ _ (further l y h r e go) = lasts_from o w k x l y h

-- a word that is dead was there
pub dead_there : (o : Object) (w : List Wild) (n k : ℕ) (x : Site) → IsDead o w n k x →
    is_there (state_after o None w k) x ≡ true
dead_there o w n k x (unread l y h past) = lasts_from o w k x l y h
dead_there o w n k x (overwritten l y h r e) = lasts_from o w k x l y h
dead_there o w n k x (at_stop l y h r stop) = lasts_from o w k x l y h

-- a fault that strikes
pub record Strikes (o : Object) (w : List Wild) (n : ℕ) (x : Strike) : Type 0 where
  pub within : x.step < n
  pub there : is_there (state_after o None w x.step) x.site ≡ true

-- a fault that strikes does so at a site that is there
pub strikes_then : (o : Object) (w : List Wild) (n : ℕ) (x : Strike) → is_struck o (Some x) w n ≡ true → Strikes o w n x
strikes_then o w n x h =
    let p = and_parts (nat_lt x.step n) (is_there (state_after o (Some x) w x.step) x.site) h in
    record { within = ltb-true x.step n p.0; there = sym (there_too o x w) ∙ p.1 }

-- what the fate of a fault says
pub says_of : (o : Object) (w : List Wild) (n : ℕ) (x : Strike) → Strikes o w n x →
    Says o w n x.step x.site (fate o w (n - x.step) x.step x.site)
says_of o w n x h = let lt = h.within in fate_says o w n (n - x.step) x.step x.site (omega (arith, lt)) h.there
