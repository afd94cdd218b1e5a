-- How writing an instruction, or letting it wait, changes the order so far.
use Rattle.std.proofs.Common.{◌≡◌, ℕ, suc, ◌+◌, ◌-◌, ◌<◌, ◌≤◌, Bool, true, false, cond, not, ◌&&◌, List, [], ◌∷◌, ◌++◌}
use Rattle.std.proofs.Common.{length, drop, Ok, Err, refl, sym, ap, ◌∙◌, subst, arith, append-nil, append_assoc}
use Rattle.std.specs.Prelude.{OnOk, Result}
use Rattle.std.specs.List.{count_by, list_all}
use Rattle.std.proofs.lemmas.Bool.{and_parts, and_from}
use Rattle.std.proofs.lemmas.List.{length-append}
use Rattle.std.proofs.lemmas.List.Folds.{list_all-append}
use Rattle.ft_isa.specs.declared.instr.Instr.{Instr}
use Rattle.ft_isa.specs.declared.instr.Instr.TheVariants.{OpReg, OpWord, Mov, Ld, St, Idx}
use Rattle.ft_exchange.specs.Exchange.{is_fixed, is_leading, is_trailing, is_green_store, is_blue_store, queue_after}
use Rattle.ft_exchange.specs.Exchange.{may_exchange}
use Rattle.ft_exchange.proofs.Permits.{permits}
use Rattle.ft_sched.specs.Inside.{Reaches, HasNone}
use Rattle.ft_sched.specs.Waiting.{holds_back}
use Rattle.ft_sched.specs.Arranged.{Arranges, IsSettled, IsArranged, Lays, LaysFirst, LaysAll, GetsPlace}
use Rattle.ft_sched.proofs.Listed.{same_front, count_more}
use Rattle.ft_sched.proofs.Passing.{counts_none, passes_all, Stuck, stuck_behind, reach_passed, none_behind}
use Rattle.ft_sched.proofs.Passing.{none_passed}

-- KINDS

fixed_leads : (i : Instr) → is_fixed i ≡ true → is_leading i ≡ false
fixed_leads (OpReg op rd rs rt) h = cc
fixed_leads (OpWord op rd rs value) h = cc
fixed_leads (Mov rd basic value) h = cc
fixed_leads (Ld k rd rs) h = cc
fixed_leads (St k rd rs) h = cc
fixed_leads (Idx rd rs first m) h = cc
fixed_leads i h = refl

fixed_trails : (i : Instr) → is_fixed i ≡ true → is_trailing i ≡ false
fixed_trails i h = ap (λ b. not b && not (is_leading i)) h

leading_trails : (i : Instr) → is_leading i ≡ true → is_trailing i ≡ false
leading_trails i h = ap (λ b. not (is_fixed i) && not b) h ∙ and_none (not (is_fixed i))
  where
    and_none : (b : Bool) → (b && false) ≡ false
    and_none true = refl
    and_none false = refl

neither_trails : (i : Instr) → is_leading i ≡ false → is_fixed i ≡ false → is_trailing i ≡ true
neither_trails i l f = (λ j. not (f j) && not (l j))

-- if the last written instruction isn't trailing, no instruction may pass it
pub stuck_settled : (rows start : ℕ) (laid : List Instr) (i : Instr) → IsSettled start laid → Stuck rows start laid i
unfolding Stuck
stuck_settled rows start laid i settled = λ front l e low may. (let t = (permits _ l i may).first_trails in
    let n = settled front l e low in absurd (cc))

settled_by : (start : ℕ) (laid : List Instr) (i : Instr) → is_trailing i ≡ false → IsSettled start (laid ++ i ∷ [])
settled_by start laid i h = λ front l e low. subst (λ (z : Instr). is_trailing z
    ≡ false) (same_front laid front i l e).1 h

-- what holds while waiting instructions are written before a leading one
pub record Leading (i : Instr) (rows start past : ℕ) (base rest laid waiting : List Instr) (queued committed : ℕ) : Type
    0 where
  pub arranged : Arranges rows start past base (i ∷ rest) laid waiting queued committed
  pub within : length laid + length waiting < past
  pub stuck : holds_back (queued - committed) waiting i ≡ false → Stuck rows start laid i

pub leading_begins : (i : Instr) (rows start past : ℕ) (base rest laid waiting : List Instr) (q c : ℕ) →
    length laid + length waiting < past → IsArranged rows start past base (i ∷ rest) laid waiting q c →
    Leading i rows start past base rest laid waiting q c
leading_begins i rows start past base rest laid waiting q c h a = record {
  arranged = a.arranged;
  within = h;
  stuck = λ _. stuck_settled rows start laid i a.settled;
}

-- LISTS

-- the first waiting instruction becomes the last written one
shifted : (laid : List Instr) (w : Instr) (ws : List Instr) → (laid ++ w ∷ []) ++ ws ≡ laid ++ w ∷ ws
shifted laid w ws = append_assoc laid (w ∷ []) ws

-- the first of the rest becomes the last waiting one
waiting_on : (laid ws : List Instr) (i : Instr) (rest : List Instr) → (laid ++ (ws ++ i ∷ [])) ++ rest ≡ (laid ++ ws)
    ++ i ∷ rest
waiting_on laid ws i rest = ap (λ z. z ++ rest) (sym (append_assoc laid ws (i ∷ [])))
    ∙ append_assoc (laid ++ ws) (i ∷ []) rest

module _ (rows start past : ℕ) (base : List Instr) where
  -- the block is still arranged after a trailing instruction begins to wait
  pub arranged_trailing : (i : Instr) (rest laid ws : List Instr) (q c : ℕ) → is_leading i ≡ false → is_fixed i
      ≡ false → IsArranged rows start past base (i ∷ rest) laid ws q c →
      IsArranged rows start past base rest laid (ws ++ i ∷ []) q c
  arranged_trailing i rest laid ws q c l f a =
      let x = a.arranged in
      let same = waiting_on laid ws i rest in
      let longer : length (laid ++ (ws ++ i ∷ []))
      ≡ length (laid ++ ws) + 1 = ap length (sym (append_assoc laid ws (i ∷ [])))
      ∙ length-append (laid ++ ws) (i ∷ []) in
      record {
        arranged = record {
          begins = x.begins;
          reached = subst (Reaches rows start past base) (sym same) x.reached;
          none_left = subst (λ n. HasNone rows start n ((laid ++ (ws ++ i ∷ [])) ++ rest)) (sym longer)
              (subst (HasNone rows start (length (laid ++ ws) + 1)) (sym same)
              (none_behind rows start (laid ++ ws) i rest l x.none_left));
          trails = list_all-append is_trailing ws (i ∷ [])
              ∙ and_from _ _ x.trails (and_from _ _ (neither_trails i l f) refl);
          queued_is = x.queued_is;
          committed_is = x.committed_is;
        };
        settled = a.settled;
      }

  -- how many pairs the written instructions queue and commit
  record Tallies (laid : List Instr) (q c : ℕ) : Type 0 where
    begins : start ≤ length laid
    queued_is : q ≡ rows + count_by is_green_store (drop start laid)
    committed_is : c ≡ count_by is_blue_store (drop start laid)

  tallies_of : (rest laid ws : List Instr) (q c : ℕ) → Arranges rows start past base rest laid ws q c → Tallies laid q c
  tallies_of rest laid ws q c x = record { begins = x.begins; queued_is = x.queued_is; committed_is = x.committed_is }

  tallies_on : (i : Instr) (laid laid' : List Instr) (q q' c c' : ℕ) → Lays i laid laid' q q' c c' → Tallies laid q c →
      Tallies laid' q' c'
  tallies_on i laid laid' q q' c c' lays t =
      let low = t.begins in
      let longer : length laid' ≡ length laid + 1 = ap length lays.laid_is ∙ length-append laid (i ∷ []) in
      let greens = count_more is_green_store laid start i low in
      let blues = count_more is_blue_store laid start i low in
      let queued : q' ≡ rows + count_by is_green_store (drop start (laid ++ i ∷ [])) =
      omega (arith, lays.queued_is, t.queued_is, greens) in
      let committed : c' ≡ count_by is_blue_store (drop start (laid ++ i ∷ [])) = omega (
        arith,
        lays.committed_is,
        t.committed_is,
        blues,
      ) in
      record {
        begins = omega arith;
        queued_is = queued ∙ ap (λ z. rows + count_by is_green_store (drop start z)) (sym lays.laid_is);
        committed_is = committed ∙ ap (λ z. count_by is_blue_store (drop start z)) (sym lays.laid_is);
      }

  -- the block is still arranged after the first waiting instruction is written
  pub arranged_first : (rest laid laid' ws : List Instr) (w : Instr) (q q' c c' : ℕ) → Lays w laid laid' q q' c c' →
      Arranges rows start past base rest laid (w ∷ ws) q c → Arranges rows start past base rest laid' ws q' c'
  arranged_first rest laid laid' ws w q q' c c' lays x =
      let same : laid' ++ ws ≡ laid ++ w ∷ ws = ap (λ z. z ++ ws) lays.laid_is ∙ shifted laid w ws in
      let t = tallies_on w laid laid' q q' c c' lays (tallies_of rest laid (w ∷ ws) q c x) in
      record {
        begins = t.begins;
        reached = subst (λ z. Reaches rows start past base (z ++ rest)) (sym same) x.reached;
        none_left = subst (λ z. HasNone rows start (length z) (z ++ rest)) (sym same) x.none_left;
        trails = (and_parts (is_trailing w) (list_all is_trailing ws) x.trails).1;
        queued_is = t.queued_is;
        committed_is = t.committed_is;
      }

  -- the block is still arranged after a fixed instruction is written, if none waits
  pub arranged_fixed : (i : Instr) (rest laid laid' : List Instr) (q q' c c' : ℕ) → is_fixed i ≡ true →
      Lays i laid laid' q q' c c' → Arranges rows start past base (i ∷ rest) laid [] q c →
      IsArranged rows start past base rest laid' [] q' c'
  arranged_fixed i rest laid laid' q q' c c' h lays x =
      let t = tallies_on i laid laid' q q' c c' lays (tallies_of (i ∷ rest) laid [] q c x) in
      let empty : laid ++ [] ≡ laid = append-nil laid in
      let same : (laid' ++ []) ++ rest ≡ laid ++ i ∷ rest = ap (λ z. z ++ rest) (append-nil laid' ∙ lays.laid_is)
      ∙ append_assoc laid (i ∷ []) rest in
      let longer : length (laid' ++ []) ≡ length laid + 1 = ap length (append-nil laid' ∙ lays.laid_is)
      ∙ length-append laid (i ∷ []) in
      let reached : Reaches rows start past base (laid ++ i ∷ rest) =
      subst (λ z. Reaches rows start past base (z ++ i ∷ rest)) empty x.reached in
      let none : HasNone rows start (length laid) (laid ++ i ∷ rest) =
      subst (λ z. HasNone rows start (length z) (z ++ i ∷ rest)) empty x.none_left in
      record {
        arranged = record {
          begins = t.begins;
          reached = subst (Reaches rows start past base) (sym same) reached;
          none_left = subst (λ n. HasNone rows start n ((laid' ++ []) ++ rest)) (sym longer)
              (subst (HasNone rows start (length laid + 1)) (sym same)
              (none_behind rows start laid i rest (fixed_leads i h) none));
          trails = refl;
          queued_is = t.queued_is;
          committed_is = t.committed_is;
        };
        settled = subst (IsSettled start) (sym lays.laid_is) (settled_by start laid i (fixed_trails i h));
      }

  -- the block is still arranged after a leading instruction is written, if nothing holds that instruction back
  pub arranged_leading : (i : Instr) (rest laid laid' ws : List Instr) (q q' c c' : ℕ) → is_leading i ≡ true →
      holds_back (q - c) ws i ≡ false → Lays i laid laid' q q' c c' → Leading i rows start past base rest laid ws q c →
      IsArranged rows start past base rest laid' ws q' c'
  arranged_leading i rest laid laid' ws q q' c c' l h lays x =
      let a = x.arranged in
      let t = tallies_on i laid laid' q q' c c' lays (tallies_of (i ∷ rest) laid ws q c a) in
      let was : (laid ++ ws) ++ i ∷ rest ≡ laid ++ (ws ++ i ∷ rest) = append_assoc laid ws (i ∷ rest) in
      let same : (laid' ++ ws) ++ rest ≡ laid ++ i ∷ (ws ++ rest) = ap (λ z. (z ++ ws) ++ rest) lays.laid_is
      ∙ ap (λ z. z ++ rest) (shifted laid i ws) ∙ append_assoc laid (i ∷ ws) rest in
      let longer : length (laid' ++ ws) ≡ length laid + length ws + 1 =
      ap (λ (z : List Instr). length (z ++ ws)) lays.laid_is ∙ (let m = length-append (laid ++ i ∷ []) ws in
      let n = length-append laid (i ∷ []) in omega arith) in
      let moved = reach_passed rows start past base laid ws i rest q c a.begins x.within a.queued_is a.committed_is
      (passes_all q c ws i a.trails l h) (subst (Reaches rows start past base) was a.reached) in
      let none : HasNone rows start (length laid + length ws) (laid ++ (ws ++ i ∷ rest)) =
      subst (λ n. HasNone rows start n (laid ++ (ws ++ i ∷ rest))) (length-append laid ws)
      (subst (HasNone rows start (length (laid ++ ws))) was a.none_left) in
      record {
        arranged = record {
          begins = t.begins;
          reached = subst (Reaches rows start past base) (sym same) moved;
          none_left = subst (λ n. HasNone rows start n ((laid' ++ ws) ++ rest)) (sym longer)
              (subst (HasNone rows start (length laid + length ws + 1)) (sym same)
              (none_passed rows start laid ws i rest a.trails l (x.stuck h) none));
          trails = a.trails;
          queued_is = t.queued_is;
          committed_is = t.committed_is;
        };
        settled = subst (IsSettled start) (sym lays.laid_is) (settled_by start laid i (leading_trails i l));
      }

  -- `Leading` still holds after the first waiting instruction is written, if it or another holds the leading one back
  pub leading_on : (i : Instr) (rest laid laid' ws : List Instr) (w : Instr) (q q' c c' : ℕ) →
      Lays w laid laid' q q' c c' → holds_back (q - c) (w ∷ ws) i ≡ true →
      Leading i rows start past base rest laid (w ∷ ws) q c → Leading i rows start past base rest laid' ws q' c'
  unfolding Stuck
  leading_on i rest laid laid' ws w q q' c c' lays held x =
      let a = x.arranged in
      let longer : length laid' ≡ length laid + 1 = ap length lays.laid_is ∙ length-append laid (w ∷ []) in
      let one : length (w ∷ ws) ≡ suc (length ws) = refl in
      let trails = (and_parts (is_trailing w) (list_all is_trailing ws) a.trails).0 in
      let none = counts_none w trails in
      let pairs : q' - c' ≡ q - (c + cond (is_blue_store w) 1 0) = (let e = lays.queued_is in
      let f = lays.committed_is in omega arith) in
      let queue : q - c ≡ queue_after rows (drop start laid) = (λ j. a.queued_is j - a.committed_is j) in
      let within = x.within in
      record {
        arranged = arranged_first (i ∷ rest) laid laid' ws w q q' c c' lays a;
        within = omega arith;
        stuck = λ free front l e low may.
            let ends = same_front laid front w l (sym lays.laid_is ∙ e) in
            stuck_behind q c w ws i held (sym (ap (λ n. holds_back n ws i) pairs) ∙ free)
            ((λ j. may_exchange (queue j) (ends.1 j) i)
            ∙ ap (λ z. may_exchange (queue_after rows (drop start z)) l i) ends.0 ∙ may);
      }

-- the block is still arranged after a call that writes the first waiting instruction
pub first_laid : (rows start past : ℕ) (base rest laid laid' ws ws' : List Instr) (q q' c c' : ℕ) →
    LaysFirst laid laid' ws ws' q q' c c' → Arranges rows start past base rest laid ws q c →
    Arranges rows start past base rest laid' ws' q' c'
first_laid rows start past base rest laid laid' ws ws' q q' c c' f a =
    arranged_first rows start past base rest laid laid' ws' f.first q q' c c' f.lays
    (subst (λ z. Arranges rows start past base rest laid z q c) f.waited a)

pub first_led : (i : Instr) (rows start past : ℕ) (base rest laid laid' ws ws' : List Instr) (q q' c c' : ℕ) →
    LaysFirst laid laid' ws ws' q q' c c' → holds_back (q - c) ws i ≡ true →
    Leading i rows start past base rest laid ws q c → Leading i rows start past base rest laid' ws' q' c'
first_led i rows start past base rest laid laid' ws ws' q q' c c' f held a =
    leading_on rows start past base i rest laid laid' ws' f.first q q' c c' f.lays
    (subst (λ z. holds_back (q - c) z i ≡ true) f.waited held)
    (subst (λ z. Leading i rows start past base rest laid z q c) f.waited a)

-- each kind of instruction gets its place

pub led : (i : Instr) (laid ws laid1 ws1 laid2 ws2 : List Instr) (q c q1 c1 q2 c2 : ℕ) → is_leading i ≡ true →
    holds_back (q1 - c1) ws1 i ≡ false
    → ((rows start past : ℕ) (base rest : List Instr) → length laid + length ws < past →
    IsArranged rows start past base (i ∷ rest) laid ws q c → Leading i rows start past base rest laid1 ws1 q1 c1)
    → Lays i laid1 laid2 q1 q2 c1 c2 → ws2 ≡ ws1 → GetsPlace i laid ws q c laid2 ws2 q2 c2
led i laid ws laid1 ws1 laid2 ws2 q c q1 c1 q2 c2 l free leads lays same = λ rows start past base rest h a.
    subst (λ z. IsArranged rows start past base rest laid2 z q2 c2) (sym same)
    (arranged_leading rows start past base i rest laid1 laid2 ws1 q1 q2 c1 c2 l free lays
    (leads rows start past base rest h a))

pub fixed_laid : (i : Instr) (laid ws laid1 ws1 laid2 ws2 : List Instr) (q c q1 c1 q2 c2 : ℕ) → is_fixed i ≡ true →
    LaysAll laid ws q c laid1 q1 c1 → ws1 ≡ [] → Lays i laid1 laid2 q1 q2 c1 c2 → ws2 ≡ ws1 →
    GetsPlace i laid ws q c laid2 ws2 q2 c2
fixed_laid i laid ws laid1 ws1 laid2 ws2 q c q1 c1 q2 c2 f all none lays same = λ rows start past base rest h a.
    subst (λ z. IsArranged rows start past base rest laid2 z q2 c2) (sym (same ∙ none))
    (arranged_fixed rows start past base i rest laid1 laid2 q1 q2 c1 c2 f lays
    (all rows start past base (i ∷ rest) a.arranged))

pub trailing_waits : (i : Instr) (laid ws ws' : List Instr) (q c : ℕ) → is_leading i ≡ false → is_fixed i ≡ false → ws'
    ≡ ws ++ i ∷ [] → GetsPlace i laid ws q c laid ws' q c
trailing_waits i laid ws ws' q c l f same = λ rows start past base rest h a.
    subst (λ z. IsArranged rows start past base rest laid z q c) (sym same)
    (arranged_trailing rows start past base i rest laid ws q c l f a)

-- if two facts hold when a call succeeds, so does what follows from them; likewise for one fact
pub on_both : {A E P Q S : Type 0} (r : Result A E) → (P → Q → S) → OnOk r P → OnOk r Q → OnOk r S
on_both (Ok x) f p q = f p q
on_both (Err e) f p q = tt

pub on_one : {A E P S : Type 0} (r : Result A E) → (P → S) → OnOk r P → OnOk r S
on_one (Ok x) f p = f p
on_one (Err e) f p = tt
