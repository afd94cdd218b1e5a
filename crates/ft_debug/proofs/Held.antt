-- What the debugger holds after each of its actions.
use Rattle.std.proofs.Common.{◌≡◌, ℕ, zero, suc, ◌+◌, ◌-◌, ◌<◌, ◌≤◌, Bool, true, false, min, List, [], ◌∷◌, ◌++◌}
use Rattle.std.proofs.Common.{length, take, drop, Some, refl, ap, sym, ◌∙◌, subst, arith, ⊎_elim}
use Rattle.std.specs.Prelude.{slice_get, if◌then◌else◌, All, codes}
use Rattle.std.specs.List.{AllByRecursion}
use Rattle.std.proofs.lemmas.Bool.{cases_lt}
use Rattle.std.proofs.lemmas.List.{length-drop}
use Rattle.std.proofs.lemmas.List.Elements.{All-weaker, All-same, All-cons, All-take, All-get_or}
use Rattle.std.proofs.lemmas.Option.{get_or_from_slice_get, slice_get_within, same_Some}
use Rattle.circular_buffer.proofs.Places.{slice_get-last, slice_get-append_left, slice_get-drop, slice_get-take}
use Rattle.ft_isa.specs.declared.plan.Site.{Site}
use Rattle.ft_isa.specs.declared.plan.Strike.{Strike}
use Rattle.ft_isa.specs.declared.plan.Wild.{Wild}
use Rattle.ft_types.specs.declared.object.Object.{Object}
use Rattle.ft_semantics.specs.State.{State, start}
use Rattle.ft_semantics.specs.Step.{step}
use Rattle.ft_semantics.specs.Strike.{is_there, struck_state, with_word}
use Rattle.ft_debug.specs.declared.moment.Moment.{Moment}
use Rattle.ft_debug.specs.declared.debugger.Debugger.{Debugger}
use Rattle.ft_debug.specs.declared.history.History.{History}
use Rattle.ft_debug.specs.Kept.{IsFull, HasMomentCells, HasCellsOf}
use Rattle.ft_debug.specs.Sessions.{Session, Shown, first_session, shown, present, further, earlier, with_strike, says}
use Rattle.ft_debug.specs.Sessions.{zaps}
use Rattle.ft_debug.specs.Inside.{moment_of, moment_at, IsMadeBy, Ready, Holds}
use Rattle.ft_debug.proofs.Shown.{shown-zero, shown_next, shown_before, shown_struck, shown_filtered, made_filtered}
use Rattle.ft_debug.proofs.Shown.{made_later, made_push}

-- THE RING

-- after a moment is added at the end of the ring and the first one dropped, the last one is the new one
turned_last : {X : Type 0} (xs : List X) (x : X) (n i : ℕ) → length xs ≡ suc n → i ≡ n →
    slice_get (drop 1 xs ++ x ∷ []) i ≡ Some x
turned_last xs x n i e l = slice_get-last (drop 1 xs) x i (omega (arith, length-drop 1 xs))

turned : {X : Type 0} (xs : List X) (x : X) (n i : ℕ) → length xs ≡ suc n → i < n → slice_get (drop 1 xs ++ x ∷ []) i
    ≡ slice_get xs (suc i)
turned xs x n i e l = slice_get-append_left (drop 1 xs) (x ∷ []) i (omega (arith, length-drop 1 xs))
    ∙ slice_get-drop 1 xs i (suc i) (omega arith)

-- THE START

pub holds_first : (o : Object) (w : List Wild) (d : Debugger) → d.present.machine ≡ start o → d.present.wild ≡ w →
    d.present.position ≡ 0 → d.history.count ≡ 0 → d.breaks ≡ [] → Holds o w first_session d
holds_first o w d em ew ep ec eb = record {
  present = (λ i. record { machine = em i; wild = ew i; position = ep i }) ∙ ap (moment_of 0) (sym (shown-zero o w []));
  kept = omega arith;
  past = λ i l h. absurd (omega arith);
  breaks = eb;
  made = tt;
}

-- A STEP

next_moment : (o : Object) (w : List Wild) (s : Session) (m : Moment) (n : Moment) →
    AllByRecursion (IsMadeBy s.position) s.strikes → m ≡ moment_at o w s.strikes s.position
    → n.machine ≡ (step o m.machine m.wild).state → n.wild ≡ (step o m.machine m.wild).wild → n.position
    ≡ m.position + 1 → n ≡ moment_at o w s.strikes (s.position + 1)
next_moment o w s m n made e em ew ep =
    let t = step o (shown o w s.strikes s.position).state (shown o w s.strikes s.position).wild in
    (λ i. record { machine = em i; wild = ew i; position = ep i })
    ∙ ap (λ (x : Moment). record {
      machine = (step o x.machine x.wild).state;
      wild = (step o x.machine x.wild).wild;
      position = x.position + 1;
    }) e
    ∙ ap (moment_of (s.position + 1)) (sym (shown_next o w s.strikes s.position made))

pub holds_further : (o : Object) (w : List Wild) (s : Session) (d e : Debugger) → IsFull d.history → Holds o w s d
    → e.present.machine ≡ (step o d.present.machine d.present.wild).state → e.present.wild
    ≡ (step o d.present.machine d.present.wild).wild → e.present.position ≡ d.present.position + 1
    → e.history.moments.items ≡ drop 1 d.history.moments.items ++ d.present ∷ [] → e.history.count
    ≡ min (d.history.count + 1) 4096 → e.breaks ≡ d.breaks → Holds o w (further s) e
holds_further o w s d e full h em ew ep ei ec eb =
    let few = full.few in
    let long = full.length_is in
    let kept = h.kept in
    record {
      present = next_moment o w s d.present e.present h.made h.present em ew ep;
      kept = omega arith;
      past = λ i l lt.
          ap (λ (xs : List Moment). slice_get xs i) ei
          ∙ ⊎_elim
          (λ (below : i < 4095).
          turned d.history.moments.items d.present 4095 i long below ∙ h.past (suc i) (omega arith) (omega arith)
          ∙ ap (λ p. Some (moment_at o w s.strikes p)) (later s.position i))
          (λ (last : 4095 ≤ i).
          turned_last d.history.moments.items d.present 4095 i long (omega arith) ∙ ap Some h.present
          ∙ ap (λ p. Some (moment_at o w s.strikes p)) (omega arith))
          (cases_lt i 4095);
      breaks = eb ∙ h.breaks;
      made = made_later s.position (s.position + 1) s.strikes (omega arith) h.made;
    }
  where
    later : (p i : ℕ) → p + suc i - 4096 ≡ p + 1 + i - 4096
    later p i = omega arith

-- STEPS BACK

-- the debugger after k steps back, before the later strikes are forgotten
pub record Rewound (o : Object) (w : List Wild) (s : Session) (k : ℕ) (d : Debugger) : Type 0 where
  pub present : d.present ≡ moment_at o w s.strikes (s.position - k)
  pub kept : s.low + d.history.count + k ≡ s.position
  pub past : (i : ℕ) → 4096 ≤ i + d.history.count → i < 4096 → slice_get d.history.moments.items i
      ≡ Some (moment_at o w s.strikes (s.position - k + i - 4096))
  pub breaks : d.breaks ≡ s.breaks

pub rewound_none : (o : Object) (w : List Wild) (s : Session) (d : Debugger) → Holds o w s d → Rewound o w s 0 d
rewound_none o w s d h =
    let kept = h.kept in
    let same : s.position ≡ s.position - 0 = omega arith in
    record {
      present = h.present ∙ ap (moment_at o w s.strikes) same;
      kept = omega arith;
      past = λ i l lt. h.past i l lt ∙ ap (λ p. Some (moment_at o w s.strikes (p + i - 4096))) same;
      breaks = h.breaks;
    }

-- after one more step back, `Rewound` holds for k + 1
pub rewound_more : (o : Object) (w : List Wild) (s : Session) (k : ℕ) (d e : Debugger) → IsFull d.history →
    0 < d.history.count → Rewound o w s k d
    → slice_get d.history.moments.items 4095 ≡ Some e.present → e.history.moments.items
    ≡ d.present ∷ take 4095 d.history.moments.items → e.history.count + 1 ≡ d.history.count → e.breaks ≡ d.breaks →
    Rewound o w s (k + 1) e
rewound_more o w s k d e full some h newest items counted eb =
    let kept = h.kept in
    let few = full.few in
    record {
      present =
          same_Some _ _ (sym newest ∙ h.past 4095 (omega arith) (omega arith))
          ∙ ap (moment_at o w s.strikes) (last s.position k s.low d.history.count kept some);
      kept = omega arith;
      past = λ i l lt.
          ap (λ (xs : List Moment). slice_get xs i) items ∙ before d.history.moments.items d.present i (omega arith)
          ∙ slice_get-take 4095 d.history.moments.items (i - 1) (omega arith)
          ∙ h.past (i - 1) (omega arith) (omega arith)
          ∙ ap (λ p. Some (moment_at o w s.strikes p)) (earlier_place s.position k s.low d.history.count i kept some
          (omega arith));
      breaks = eb ∙ h.breaks;
    }
  where
    before : {X : Type 0} (xs : List X) (x : X) (i : ℕ) → 0 < i → slice_get (x ∷ take 4095 xs) i
        ≡ slice_get (take 4095 xs) (i - 1)
    before xs x zero l = absurd (omega arith)
    before xs x (suc i) l = let same : i ≡ suc i - 1 = omega arith in ap (slice_get (take 4095 xs)) same

    last : (p k low n : ℕ) → low + n + k ≡ p → 0 < n → p - k + 4095 - 4096 ≡ p - (k + 1)
    last p k low n e l = omega arith

    earlier_place : (p k low n i : ℕ) → low + n + k ≡ p → 0 < n → 0 < i → p - k + (i - 1) - 4096
        ≡ p - (k + 1) + i - 4096
    earlier_place p k low n i e l m = omega arith

-- once the later strikes are forgotten, the debugger holds the session k steps back
pub holds_earlier : (o : Object) (w : List Wild) (s : Session) (k : ℕ) (d : Debugger) → IsFull d.history →
    Rewound o w s k d → Holds o w (earlier k s) d
holds_earlier o w s k d full h =
    let kept = h.kept in
    let few = full.few in
    let at = s.position - k in
    let xs = s.strikes in
    record {
      present = h.present ∙ ap (moment_of at) (sym (shown_filtered o w xs at at (omega arith)));
      kept = omega arith;
      past = λ i l lt. h.past i l lt ∙ ap (λ (m : Shown). Some (moment_of (at + i - 4096) m))
          (sym (shown_filtered o w xs at (at + i - 4096) (omega arith)));
      breaks = h.breaks;
      made = made_filtered at xs;
    }

-- A STRIKE

struck_by : (o : Object) (w : List Wild) (s : Session) (d e : Debugger) (site : Site) (value : ℕ)
    (yes_line no_line : List ℕ) (t : Bool) → is_there (present o w s).state site ≡ t → IsFull d.history → Holds o w s d
    → e.present.machine ≡ struck_state d.present.machine site value → e.present.wild ≡ d.present.wild →
    e.present.position ≡ d.present.position → e.history ≡ d.history → e.breaks ≡ d.breaks
    → Holds o w (if t then says yes_line (with_strike site value s) else says no_line s).session e
struck_by o w s d e site value a b true t full h em ew ep eh eb =
    let kept = h.kept in
    let few = full.few in
    let x : Strike = record { step = s.position; site = site; value = value } in
    record {
      present =
          (λ i. record { machine = em i; wild = ew i; position = ep i })
          ∙ ap (λ (m : Moment). record {
            machine = struck_state m.machine site value;
            wild = m.wild;
            position = m.position;
          }) h.present
          ∙ ap (moment_of s.position) (sym (shown_struck o w s.strikes s.position site value));
      kept = ap (λ (r : History). s.low + r.count) eh ∙ kept;
      past = λ i l lt.
          let count = ap (λ (r : History). r.count) eh in
          ap (λ (r : History). slice_get r.moments.items i) eh ∙ h.past i (omega arith) lt
          ∙ ap (λ (m : Shown). Some (moment_of (s.position + i - 4096) m))
          (sym (shown_before o w s.strikes x (s.position + i - 4096) (omega arith)));
      breaks = eb ∙ h.breaks;
      made = made_push s.position s.strikes x h.made (omega arith);
    }
struck_by o w s d e site value a b false t full h em ew ep eh eb =
    let same : struck_state d.present.machine site value ≡ d.present.machine =
    ap (λ (m : Moment). if is_there m.machine site then with_word site value d.present.machine
    else d.present.machine) h.present
    ∙ ap (λ b. if b then with_word site value d.present.machine else d.present.machine) t in
    record {
      present = (λ i. record { machine = em i; wild = ew i; position = ep i })
          ∙ ap (λ (m : State). record { machine = m; wild = d.present.wild; position = d.present.position }) same
          ∙ h.present;
      kept = ap (λ (r : History). s.low + r.count) eh ∙ h.kept;
      past = λ i l lt. let count = ap (λ (r : History). r.count) eh in
          ap (λ (r : History). slice_get r.moments.items i) eh ∙ h.past i (omega arith) lt;
      breaks = eb ∙ h.breaks;
      made = h.made;
    }

pub holds_struck : (o : Object) (w : List Wild) (s : Session) (d e : Debugger) (site : Site) (value : ℕ) →
    IsFull d.history → Holds o w s d
    → e.present.machine ≡ struck_state d.present.machine site value → e.present.wild ≡ d.present.wild →
    e.present.position ≡ d.present.position → e.history ≡ d.history → e.breaks ≡ d.breaks
    → Holds o w (zaps o w site value s).session e
holds_struck o w s d e site value full h em ew ep eh eb =
    struck_by o w s d e site value (codes "zapped\n") (codes "nothing there\n") (is_there (present o w s).state site)
    refl full h em ew ep eh eb

-- CELLS

-- the machines in the ring have the same cells as the present one
pub same_cells : (o : Object) (d : Debugger) → Ready o d → All (HasCellsOf d.present) d.history.moments.items
same_cells o d h = All-weaker (HasMomentCells (length o.cells)) (HasCellsOf d.present) (λ x i a. i a
    ∙ sym (h.cells a)) d.history.moments.items h.past

-- the debugger is ready after a step back into the ring
pub ready_back : (o : Object) (d e : Debugger) → Ready o d → IsFull e.history → slice_get d.history.moments.items 4095
    ≡ Some e.present → e.history.moments.items ≡ d.present ∷ take 4095 d.history.moments.items → Ready o e
ready_back o d e h full newest items =
    let P = HasMomentCells (length o.cells) in
    let xs = d.history.moments.items in
    record {
      full = full;
      past = All-same P _ _ items (All-cons P d.present (take 4095 xs) h.cells (All-take P 4095 xs h.past));
      cells = subst P (get_or_from_slice_get xs 4095 e.present d.present newest)
          (All-get_or P xs 4095 d.present (slice_get_within xs 4095 e.present newest) h.past);
    }
