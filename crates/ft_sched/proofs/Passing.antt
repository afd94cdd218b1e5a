-- A leading instruction passes the waiting ones, and stops behind the last one that holds it back.
use Rattle.std.proofs.Common.{◌≡◌, ⊎_elim, ℕ, suc, ◌+◌, ◌-◌, ◌<◌, ◌≤◌, Bool, true, false, cond, not, ◌&&◌, ◌||◌, nat_lt}
use Rattle.std.proofs.Common.{List, [], ◌∷◌, ◌++◌, length, take, drop, Some, slice_get, refl, sym, ap, ◌∙◌, subst}
use Rattle.std.proofs.Common.{arith, append_assoc}
use Rattle.std.specs.List.{slice_range, count_by, list_all, list_any}
use Rattle.std.proofs.lemmas.Bool.{and_parts, and_from, cases_eq, cases_lt, ltb-true, lt-ltb, or_parts, not-false}
use Rattle.std.proofs.lemmas.Bool.{or_right, or_left}
use Rattle.std.proofs.lemmas.List.{length-append}
use Rattle.ft_isa.specs.declared.instr.Instr.{Instr}
use Rattle.ft_isa.specs.declared.instr.Instr.TheVariants.{St}
use Rattle.ft_isa.specs.declared.colour.Colour.TheVariants.{Green}
use Rattle.ft_exchange.specs.Exchange.{is_leading, is_trailing, written, leaves_alone, is_green_store, is_blue_store}
use Rattle.ft_exchange.specs.Exchange.{queue_after, may_exchange}
use Rattle.ft_exchange.proofs.Permits.{permits}
use Rattle.ft_exchange.proofs.Unique.{not_both}
use Rattle.ft_sched.specs.Inside.{IsPermittedAt, Reaches, exchanges, HasNone}
use Rattle.ft_sched.specs.Waiting.{conflicts, holds_back}
use Rattle.ft_sched.proofs.Listed.{get_front, get_behind, get_seam, all_at, last_apart, range_front, range_end}
use Rattle.ft_sched.proofs.Listed.{rest_of_front, exchanged_seam, count_more}

-- KINDS

-- a trailing instruction is not a green store
pub trailing_store : (i : Instr) → is_trailing i ≡ true → is_green_store i ≡ false
trailing_store (St Green rd rs) h = cc
trailing_store i h = refl

pub counts_none : (i : Instr) → is_trailing i ≡ true → ◌≡◌ {A = ℕ} (cond (is_green_store i) 1 0) 0
counts_none i h = ap (λ b. cond b 1 0) (trailing_store i h)

-- TESTS

roomy : (a b c : Bool) → (a ≡ true → b ≡ true → c ≡ true) → (not (a && b) || c) ≡ true
roomy false b c h = refl
roomy true false c h = refl
roomy true true c h = h refl refl

room_of : (a b c : Bool) → (not (a && b) || c) ≡ true → a ≡ true → b ≡ true → c ≡ true
room_of true true c h e f = h
room_of true false c h e f = cc
room_of false b c h e f = cc

-- PASSING

-- each of these may be exchanged with an instruction, from the last to the first
abbrev pub Passes : ℕ → ℕ → List Instr → Instr → Type 0
Passes queued committed [] i = Unit {0}
Passes queued committed (w ∷ ws) i = (may_exchange (queued - committed) w i ≡ true)
    × Passes queued (committed + cond (is_blue_store w) 1 0) ws i

may_pass : (n : ℕ) (w i : Instr) → is_trailing w ≡ true → is_leading i ≡ true → conflicts i w ≡ false →
    (is_blue_store w ≡ true → is_green_store i ≡ true → nat_lt n 8 ≡ true) → may_exchange n w i ≡ true
may_pass n w i t l c room =
    let alone = and_parts (leaves_alone i (written w)) (leaves_alone w (written i)) (not-false _ c) in
    and_from _ _ (and_from _ _ (and_from _ _ (and_from _ _ t l) alone.0) alone.1)
    (roomy (is_blue_store w) (is_green_store i) (nat_lt n 8) room)

fewer_pairs : (q c b : ℕ) → nat_lt (q - c) 8 ≡ true → nat_lt (q - (c + b)) 8 ≡ true
fewer_pairs q c b h = lt-ltb (q - (c + b)) 8 (let l = ltb-true (q - c) 8 h in omega arith)

passes_by : (q c : ℕ) (ws : List Instr) (i : Instr) → list_all is_trailing ws ≡ true → is_leading i ≡ true →
    list_any (conflicts i) ws ≡ false → (is_green_store i ≡ true → list_any is_blue_store ws ≡ true → nat_lt (q - c) 8
    ≡ true) → Passes q c ws i
passes_by q c [] i t l h room = tt
passes_by q c (w ∷ ws) i t l h room =
    let ts = and_parts (is_trailing w) (list_all is_trailing ws) t in
    let hs = or_parts (conflicts i w) (list_any (conflicts i) ws) h in (
      may_pass (q - c) w i ts.0 l hs.0 (λ b g. room g (or_left (is_blue_store w) (list_any is_blue_store ws) b)),
      passes_by q (c + cond (is_blue_store w) 1 0) ws i ts.1 l hs.1 (λ g b.
          fewer_pairs q c (cond (is_blue_store w) 1 0)
          (room g (or_right (is_blue_store w) (list_any is_blue_store ws) b))),
    )

full_by : (g n b : Bool) → (g && not n && b) ≡ false → g ≡ true → b ≡ true → n ≡ true
full_by true true true h e f = refl
full_by true false true h e f = cc
full_by g n false h e f = cc
full_by false n b h e f = cc

-- a leading instruction passes all waiting ones if nothing holds it back
pub passes_all : (q c : ℕ) (ws : List Instr) (i : Instr) → list_all is_trailing ws ≡ true → is_leading i ≡ true →
    holds_back (q - c) ws i ≡ false → Passes q c ws i
passes_all q c ws i t l h =
    let hs = or_parts (list_any (conflicts i) ws) _ h in
    passes_by q c ws i t l hs.0 (full_by (is_green_store i) (nat_lt (q - c) 8) (list_any is_blue_store ws) hs.1)

-- the instruction may not pass the last written one
unfoldable pub Stuck : ℕ → ℕ → List Instr → Instr → Type 0
Stuck rows start laid i = (front : List Instr) (l : Instr) → laid ≡ front ++ l ∷ [] → start ≤ length front →
    may_exchange (queue_after rows (drop start front)) l i ≡ true → ⊥

held_by : (g n b bs : Bool) (n' : Bool) → (g && not n && (b || bs)) ≡ true → (g && not n' && bs) ≡ false →
    (b ≡ false → n' ≡ n) → (b ≡ true → g ≡ true → n ≡ true) → ⊥
held_by false n b bs n' h k e room = cc
held_by true true b bs n' h k e room = cc
held_by true false true bs n' h k e room = (let r = room refl refl in cc)
held_by true false false false n' h k e room = cc
held_by true false false true true h k e room = (let r = e refl in cc)
held_by true false false true false h k e room = cc

any_held : (a b r : Bool) → ((a || b) || r) ≡ true → a ≡ false → b ≡ false → r ≡ true
any_held false false r h e f = h
any_held true b r h e f = cc
any_held false true r h e f = cc

conflict_free : (a b : Bool) → a ≡ true → b ≡ true → not (a && b) ≡ false
conflict_free true true h k = refl
conflict_free true false h k = cc
conflict_free false b h k = cc

-- an instruction may not pass the last waiting one that holds it back
pub stuck_behind : (q c : ℕ) (w : Instr) (ws : List Instr) (i : Instr) → holds_back (q - c) (w ∷ ws) i ≡ true →
    holds_back (q - (c + cond (is_blue_store w) 1 0)) ws i ≡ false → may_exchange (q - c) w i ≡ true → ⊥
stuck_behind q c w ws i h k may =
    let p = permits (q - c) w i may in
    let free : conflicts i w ≡ false = conflict_free (leaves_alone i (written w)) (leaves_alone w (written i))
    p.second_alone p.first_alone in
    let ks = or_parts (list_any (conflicts i) ws) _ k in
    let full = any_held (conflicts i w) (list_any (conflicts i) ws) _ h free ks.0 in
    held_by (is_green_store i) (nat_lt (q - c) 8) (is_blue_store w) (list_any is_blue_store ws)
    (nat_lt (q - (c + cond (is_blue_store w) 1 0)) 8) full ks.1
    (λ e. ap (λ b. nat_lt (q - (c + cond b 1 0)) 8) e ∙ (let z : q - (c + 0) ≡ q - c = omega arith in
    ap (λ n. nat_lt n 8) z))
    (λ b g. room_of (is_blue_store w) (is_green_store i) (nat_lt (q - c) 8) p.room b g)

-- MOVES

pub reach_passed : (rows start past : ℕ) (base front ws : List Instr) (i : Instr) (rest : List Instr) (q c : ℕ) →
    start ≤ length front → length front + length ws < past → q ≡ rows + count_by is_green_store (drop start front) → c
    ≡ count_by is_blue_store (drop start front) → Passes q c ws i →
    Reaches rows start past base (front ++ (ws ++ i ∷ rest)) → Reaches rows start past base (front ++ i ∷ (ws ++ rest))
reach_passed rows start past base front [] i rest q c l h eq ec p r = r
reach_passed rows start past base front (w ∷ ws) i rest q c l h eq ec p r =
    let front' = front ++ w ∷ [] in
    let longer : length front' ≡ length front + 1 = length-append front (w ∷ []) in
    let one : length (w ∷ ws) ≡ suc (length ws) = refl in
    let trails = (permits (q - c) w i p.0).first_trails in
    let greens = count_more is_green_store front start w l in
    let none = counts_none w trails in
    let blues = count_more is_blue_store front start w l in
    let r' : Reaches rows start past base (front' ++ (ws ++ i ∷ rest)) =
    subst (Reaches rows start past base) (sym (append_assoc front (w ∷ []) (ws ++ i ∷ rest))) r in
    let moved = reach_passed rows start past base front' ws i rest q (c + cond (is_blue_store w) 1 0) (omega arith)
    (omega arith) (omega (arith, eq, greens, none)) (omega (arith, ec, blues)) p.1 r' in
    let now : Reaches rows start past base (front ++ w ∷ i ∷ (ws ++ rest)) =
    subst (Reaches rows start past base) (append_assoc front (w ∷ []) (i ∷ (ws ++ rest))) moved in
    let queue : queue_after rows (slice_range (front ++ w ∷ i ∷ (ws ++ rest)) start (length front)) ≡ q - c =
    ap (queue_after rows) (range_front front (w ∷ i ∷ (ws ++ rest)) start (length front) l (omega arith)
    ∙ range_end front start) ∙ (λ j. sym eq j - sym ec j) in
    let permitted : IsPermittedAt rows start past (front ++ w ∷ i ∷ (ws ++ rest)) (length front) = record {
      first = w;
      second = i;
      low = l;
      high = omega arith;
      first_there = get_seam front w (i ∷ (ws ++ rest));
      second_there = (let s : suc (length front) ≡ length front + 1 = omega arith in
          ap (slice_get (front ++ w ∷ i ∷ (ws ++ rest))) s) ∙ get_behind front (w ∷ i ∷ (ws ++ rest)) 1;
      may = ap (λ n. may_exchange n w i) queue ∙ p.0;
    } in
    subst (Reaches rows start past base) (exchanged_seam front w i (ws ++ rest))
    (exchanges (length front) now permitted)

-- NONE LEFT

-- which exchanges are permitted within a front does not depend on what follows it
permitted_in : (rows start e e' : ℕ) (front xs ys : List Instr) (k : ℕ) → suc k < length front → suc k < e' →
    IsPermittedAt rows start e (front ++ xs) k → IsPermittedAt rows start e' (front ++ ys) k
permitted_in rows start e e' front xs ys k l h p =
    let low = p.low in
    record {
      first = p.first;
      second = p.second;
      low = p.low;
      high = h;
      first_there = get_front front ys k (omega arith) ∙ sym (get_front front xs k (omega arith)) ∙ p.first_there;
      second_there = get_front front ys (suc k) l ∙ sym (get_front front xs (suc k) l) ∙ p.second_there;
      may = subst (λ (z : List Instr). may_exchange (queue_after rows z) p.first p.second
          ≡ true) (range_front front xs start k low (omega arith)
          ∙ sym (range_front front ys start k low (omega arith)))
          p.may;
    }

-- no exchange is left up to and including an instruction that doesn't lead
pub none_behind : (rows start : ℕ) (front : List Instr) (i : Instr) (rest : List Instr) → is_leading i ≡ false →
    HasNone rows start (length front) (front ++ i ∷ rest) → HasNone rows start (length front + 1) (front ++ i ∷ rest)
none_behind rows start front i rest n h k p =
    let high = p.high in
    ⊎_elim
    (λ (lt : suc k < length front). h k (permitted_in rows start (length front + 1) (length front) front (i ∷ rest)
    (i ∷ rest) k lt lt p))
    (λ (ge : length front ≤ suc k).
    let here : suc k ≡ length front = omega arith in
    let both : Some p.second ≡ Some i = sym p.second_there ∙ ap (slice_get (front ++ i ∷ rest)) here
    ∙ get_seam front i rest in
    let same : p.second ≡ i = cc in
    let leads = (permits _ p.first p.second p.may).second_leads in
    let no : is_leading p.second ≡ false = ap is_leading same ∙ n in
    absurd (cc))
    (cases_lt (suc k) (length front))

-- no exchange is left up to and including a leading instruction and those that it passed
pub none_passed : (rows start : ℕ) (front ws : List Instr) (i : Instr) (rest : List Instr) → list_all is_trailing ws
    ≡ true → is_leading i ≡ true → Stuck rows start front i →
    HasNone rows start (length front + length ws) (front ++ (ws ++ i ∷ rest)) →
    HasNone rows start (length front + length ws + 1) (front ++ i ∷ (ws ++ rest))
unfolding Stuck
none_passed rows start front ws i rest t leads stuck h k p =
    let high = p.high in
    let low = p.low in
    let allows = permits _ p.first p.second p.may in
    ⊎_elim
    (λ (lt : suc k < length front). h k (permitted_in rows start (length front + length ws + 1)
    (length front + length ws) front (i ∷ (ws ++ rest)) (ws ++ i ∷ rest) k lt (omega arith) p))
    (λ (ge : length front ≤ suc k). ⊎_elim
    (λ (here : suc k ≡ length front).
    let both : Some p.second ≡ Some i = sym p.second_there ∙ ap (slice_get (front ++ i ∷ (ws ++ rest))) here
    ∙ get_seam front i (ws ++ rest) in
    let same : p.second ≡ i = cc in
    let there : slice_get front k ≡ Some p.first = sym (get_front front (i ∷ (ws ++ rest)) k (omega arith))
    ∙ p.first_there in
    let queue : slice_range (front ++ i ∷ (ws ++ rest)) start k
    ≡ drop start (take k front) = range_front front (i ∷ (ws ++ rest)) start k low (omega arith)
    ∙ rest_of_front front start k low in
    let apart = last_apart front k p.first there here in
    stuck (take k front) p.first apart
    (let m = ap length apart in let n = length-append (take k front) (p.first ∷ []) in omega arith)
    ((λ j. may_exchange (queue_after rows (sym queue j)) p.first (sym same j)) ∙ p.may))
    (λ (ne : suc k ≡ length front → ⊥).
    let beyond : length front ≤ k = ⊎_elim (λ (l : k < length front). let q : suc k ≡ length front = omega arith in
    absurd (ne q)) (λ (g : length front ≤ k). g) (cases_lt k (length front)) in
    let place : suc k ≡ length front + suc (k - length front) = omega arith in
    let there : slice_get (ws ++ rest) (k - length front)
    ≡ Some p.second = sym (get_behind front (i ∷ (ws ++ rest)) (suc (k - length front)))
    ∙ ap (slice_get (front ++ i ∷ (ws ++ rest))) (sym place) ∙ p.second_there in
    let waits : slice_get ws (k - length front) ≡ Some p.second =
    sym (get_front ws rest (k - length front) (omega arith)) ∙ there in
    not_both p.second (all_at is_trailing ws (k - length front) p.second t waits) allows.second_leads)
    (cases_eq (suc k) (length front)))
    (cases_lt (suc k) (length front))
