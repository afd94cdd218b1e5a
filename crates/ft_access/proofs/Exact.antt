-- The members of a class are exactly the words that last until the representative's step.
use Rattle.std.proofs.Common.{◌≡◌, ◌↔◌, ℕ, suc, ◌-◌, ◌<◌, ◌≤◌, true, List, Some, None, refl}
use Rattle.std.proofs.Common.{ap, ◌∙◌, subst, arith, if◌then◌else◌}
use Rattle.ft_isa.specs.declared.plan.Site.{Site}
use Rattle.ft_isa.specs.declared.plan.Strike.{Strike}
use Rattle.ft_isa.specs.declared.plan.Wild.{Wild}
use Rattle.ft_types.specs.declared.object.Object.{Object}
use Rattle.ft_semantics.specs.Strike.{is_running, is_there}
use Rattle.ft_semantics.specs.Run.{state_after, status_after}
use Rattle.ft_access.specs.Access.{reads_site, overwrites, site_after}
use Rattle.ft_access.specs.Lasting.{fetched_at, Lasts, at_once, further, strike_at}
use Rattle.ft_access.specs.Fates.{Fate, ReadAt, Unread, fate, IsReadAt, fault_of, representative}
use Rattle.ft_access.proofs.Fated.{Says, fate_says}

-- a step with steps left to come
fate_step : (o : Object) (w : List Wild) (n l : ℕ) (y : Site) → l < n → fate o w (n - l) l y
    ≡ fate o w (suc (n - suc l)) l y
fate_step o w n l y lt = ap (λ left. fate o w left l y) (let e : n - l ≡ suc (n - suc l) = omega arith in e)

-- a word keeps its fate as long as it lasts
pub keeps_fate : (o : Object) (w : List Wild) (n k : ℕ) (x : Site) (l : ℕ) (y : Site) → Lasts o w k x l y → l ≤ n →
    fate o w (n - k) k x ≡ fate o w (n - l) l y
keeps_fate o w n k x _ _ (at_once there) le = refl
keeps_fate o w n k x _ _ (further l y h r e go) le =
    let next = fate o w (n - suc l) (suc l) (site_after (fetched_at o w l) y) in
    keeps_fate o w n k x l y h (omega arith)
    ∙ fate_step o w n l y (omega arith)
    ∙ (λ j. if r j then ReadAt l y
    else if e j then Unread
    else if is_running (go j) then next else Unread)

-- a word that is read has this fate
fate_read : (o : Object) (w : List Wild) (n l : ℕ) (y : Site) → reads_site (fetched_at o w l) y ≡ true → l < n →
    fate o w (n - l) l y ≡ ReadAt l y
fate_read o w n l y r lt =
    fate_step o w n l y lt
    ∙ ap (λ b. if b then ReadAt l y
    else if overwrites (fetched_at o w l) y then Unread
    else if is_running (status_after o None w (suc l))
    then fate o w (n - suc l) (suc l) (site_after (fetched_at o w l) y) else Unread) r

-- a fault whose word is read is represented by the strike right before the read
member : (o : Object) (w : List Wild) (n k : ℕ) (x : Site) (v l : ℕ) (y : Site) → IsReadAt o w n k x l y →
    representative o w n (strike_at k x v) ≡ Some (strike_at l y v)
member o w n k x v l y h =
    let lt = h.within in
    ap (λ f. fault_of f v) (keeps_fate o w n k x l y h.lasts (omega (arith, lt)) ∙ fate_read o w n l y h.reads lt)

-- a representative reads the word
read_by : (o : Object) (w : List Wild) (n k : ℕ) (x : Site) (v l : ℕ) (y : Site) (f : Fate) → Says o w n k x f →
    fault_of f v ≡ Some (strike_at l y v) → IsReadAt o w n k x l y
read_by o w n k x v l y (ReadAt m z) h e =
    (let same : strike_at m z v ≡ strike_at l y v = cc in
    subst (λ (s : Strike). IsReadAt o w n k x s.step s.site) same h)
read_by o w n k x v l y Unread h e = cc

-- the representative is the strike before step l at site y just if the word lasts until step l reads it there
pub exact : (o : Object) (w : List Wild) (n k : ℕ) (x : Site) (v l : ℕ) (y : Site) → k ≤ n →
    is_there (state_after o None w k) x ≡ true →
    (representative o w n (strike_at k x v) ≡ Some (strike_at l y v)) ↔ IsReadAt o w n k x l y
exact o w n k x v l y le there = (
  read_by o w n k x v l y (fate o w (n - k) k x) (fate_says o w n (n - k) k x (omega (arith, le)) there),
  member o w n k x v l y,
)
