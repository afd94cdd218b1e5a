-- What is recorded about the waiting instructions after one more is added, and what look-ups find.
use Rattle.std.proofs.Common.{◌≡◌, ℕ, suc, ◌+◌, ◌<◌, Bool, true, false, cond, not, ◌&&◌, ◌||◌, ◌==◌, nat_lt, List, []}
use Rattle.std.proofs.Common.{◌∷◌, ◌++◌, length, drop, Option, Some, None, refl, sym, ap, ◌∙◌, subst, arith}
use Rattle.std.specs.Prelude.{slice_index_or}
use Rattle.std.specs.List.{list_any}
use Rattle.std.proofs.lemmas.List.{length-append, length-set, length-replicate, get_or-replicate}
use Rattle.std.proofs.lemmas.Bool.{or_right}
use Rattle.ft_isa.specs.declared.reg.Reg.{Reg}
use Rattle.ft_isa.specs.declared.instr.Instr.{Instr}
use Rattle.ft_isa.specs.declared.instr.Instr.TheVariants.{OpWord, Ld, JmpG, JmpB, Idx}
use Rattle.ft_exchange.specs.Exchange.{written, reads, is_register, touches, leaves_alone, is_blue_store}
use Rattle.ft_exchange.proofs.Effects.{turned}
use Rattle.ft_sched.specs.Registers.{number_of, first_read, second_read, writes, meets}
use Rattle.ft_sched.specs.LastPlaces.{place_of, marked, unmet, last_place}
use Rattle.ft_sched.specs.Waiting.{IsKept, conflicts}
use Rattle.ft_sched.proofs.LastMet.{last_more, below_none, is_behind, marked_at}

-- MARKS

-- after place p is recorded for a register, if one is given, that register has place p and the others are unchanged
marked_one : (ps : List ℕ) (u : Option Reg) (p q : ℕ) → length ps ≡ 64 → slice_index_or (marked ps (number_of u) p) q 0
    ≡ cond (is_register (number_of u) q) p (slice_index_or ps q 0)
marked_one ps None p q l = refl
marked_one ps (Some r) p q l = marked_at ps r.number p q (let g = r.in_range in omega arith)

length_marked : (ps : List ℕ) (u : Option Reg) (p : ℕ) → length (marked ps (number_of u) p) ≡ length ps
length_marked ps None p = refl
length_marked ps (Some r) p = length-set ps r.number p

either : (a b : Bool) (p m : ℕ) → cond b p (cond a p m) ≡ cond (b || a) p m
either a true p m = refl
either a false p m = refl

-- READS

or_none : (b : Bool) → b ≡ (b || false)
or_none true = refl
or_none false = refl

-- an instruction reads its first register and its second, and no other
pub reads_two : (i : Instr) (r : ℕ) → reads i r ≡ (is_register (first_read i) r || is_register (second_read i) r)
reads_two (OpWord op rd rs value) r = or_none (rs.number == r)
reads_two (Ld k rd rs) r = or_none (rs.number == r)
reads_two (JmpG rd) r = or_none (rd.number == r)
reads_two (JmpB rd u) r = or_none (rd.number == r)
reads_two (Idx rd rs first m) r = or_none (rs.number == r)
reads_two i r = refl

or_turned : (a b c : Bool) → (c || (b || a)) ≡ ((b || c) || a)
or_turned true true true = refl
or_turned true true false = refl
or_turned true false true = refl
or_turned true false false = refl
or_turned false true true = refl
or_turned false true false = refl
or_turned false false true = refl
or_turned false false false = refl

-- ONE MORE

module _ (is : List Instr) (front : ℕ) (writers touchers : List ℕ) (blue : ℕ)
    (kept : IsKept is front writers touchers blue) (i : Instr) (w f s : Option Reg) (ew : number_of w
    ≡ written i) (ef : number_of f ≡ first_read i) (es : number_of s ≡ second_read i) (place : ℕ) (at : place
    ≡ suc (length is)) where
  written_more : (r : ℕ) → r < 64 → slice_index_or (marked writers (number_of w) place) r 0
      ≡ last_place (writes (Some r)) (is ++ i ∷ [])
  written_more r l =
      marked_one writers w place r kept.writers
      ∙ (λ j. cond (is_register (ew j) r) (at j) (kept.written_last r l j))
      ∙ sym (last_more (writes (Some r)) is i)

  touched_more : (r : ℕ) → r < 64 → slice_index_or
      (marked (marked (marked touchers (number_of w) place) (number_of f) place) (number_of s) place) r 0
      ≡ last_place (meets (Some r)) (is ++ i ∷ [])
  touched_more r l =
      let m1 = marked touchers (number_of w) place in
      let m2 = marked m1 (number_of f) place in
      let l1 : length m1 ≡ 64 = length_marked touchers w place ∙ kept.touchers in
      let l2 : length m2 ≡ 64 = length_marked m1 f place ∙ l1 in
      let tests : (is_register (number_of s) r || (is_register (number_of f) r || is_register (number_of w) r))
      ≡ touches i r =
      (λ j. is_register (es j) r || (is_register (ef j) r || is_register (ew j) r))
      ∙ or_turned (is_register (written i) r) (is_register (first_read i) r) (is_register (second_read i) r)
      ∙ ap (λ b. b || is_register (written i) r) (sym (reads_two i r)) in
      marked_one m2 s place r l2
      ∙ ap (cond (is_register (number_of s) r) place) (marked_one m1 f place r l1
      ∙ ap (cond (is_register (number_of f) r) place) (marked_one touchers w place r kept.touchers)
      ∙ either (is_register (number_of w) r) (is_register (number_of f) r) place (slice_index_or touchers r 0))
      ∙ either (is_register (number_of f) r || is_register (number_of w) r) (is_register (number_of s) r) place
      (slice_index_or touchers r 0)
      ∙ (λ j. cond (tests j) (at j) (kept.touched_last r l j))
      ∙ sym (last_more (meets (Some r)) is i)

  pub kept_more : IsKept (is ++ i ∷ []) front (marked writers (number_of w) place)
      (marked (marked (marked touchers (number_of w) place) (number_of f) place) (number_of s) place)
      (cond (is_blue_store i) place blue)
  kept_more = record {
    front_within = (let g = kept.front_within in let m = length-append is (i ∷ []) in omega arith);
    writers = length_marked writers w place ∙ kept.writers;
    touchers = length_marked (marked (marked touchers (number_of w) place) (number_of f) place) s place
        ∙ length_marked (marked touchers (number_of w) place) f place ∙ length_marked touchers w place ∙ kept.touchers;
    written_last = written_more;
    touched_last = touched_more;
    blue_last = (λ j. cond (is_blue_store i) (at j) (kept.blue_last j)) ∙ sym (last_more is_blue_store is i);
  }

-- the records are right again after one more instruction is added and its marks are set
pub kept_pushed : (is new : List Instr) (front : ℕ) (writers writers_new touchers first_marked then_marked touchers_new
    : List ℕ) (blue blue_new : ℕ) (i : Instr) (w f s : Option Reg) (place : ℕ) → IsKept is front writers touchers blue
    → new ≡ is ++ i ∷ [] → number_of w ≡ written i → number_of f ≡ first_read i → number_of s ≡ second_read i → place
    ≡ length new
    → writers_new ≡ marked writers (number_of w) place → first_marked ≡ marked touchers (number_of w) place →
    then_marked ≡ marked first_marked (number_of f) place → touchers_new ≡ marked then_marked (number_of s) place
    → blue_new ≡ cond (is_blue_store i) place blue → IsKept new front writers_new touchers_new blue_new
kept_pushed is new front writers writers_new touchers first_marked then_marked touchers_new blue blue_new i w f s place
    kept grown ew ef es at e1 e2 e3 e4 e5 =
    let long : place ≡ suc (length is) = at ∙ ap length grown ∙ length-append is (i ∷ [])
    ∙ (let n : length is + 1 ≡ suc (length is) = omega arith in n) in
    let touched : touchers_new ≡ marked (marked (marked touchers (number_of w) place) (number_of f) place) (number_of s)
    place =
    e4 ∙ ap (λ z. marked z (number_of s) place) (e3 ∙ ap (λ z. marked z (number_of f) place) e2) in
    let more = kept_more is front writers touchers blue kept i w f s ew ef es place long in
    subst (λ z. IsKept z front writers_new touchers_new blue_new) (sym grown)
    (subst (λ z. IsKept (is ++ i ∷ []) front z touchers_new blue_new) (sym e1)
    (subst (λ z. IsKept (is ++ i ∷ []) front (marked writers (number_of w) place) z blue_new) (sym touched)
    (subst (λ z. IsKept (is ++ i ∷ []) front (marked writers (number_of w) place)
    (marked (marked (marked touchers (number_of w) place) (number_of f) place) (number_of s) place) z) (sym e5)
    more)))

-- NONE YET

kept_none : IsKept [] 0 unmet unmet 0
kept_none = record {
  front_within = omega arith;
  writers = length-replicate {A = ℕ} 64 0;
  touchers = length-replicate {A = ℕ} 64 0;
  written_last = λ r l. get_or-replicate {A = ℕ} 64 r 0 0 l;
  touched_last = λ r l. get_or-replicate {A = ℕ} 64 r 0 0 l;
  blue_last = refl;
}

pub kept_new : (is : List Instr) (writers touchers : List ℕ) → is ≡ [] → writers ≡ unmet → touchers ≡ unmet →
    IsKept is 0 writers touchers 0
kept_new is writers touchers e f g = subst (λ z. IsKept z 0 writers touchers 0) (sym e)
    (subst (λ z. IsKept [] 0 z touchers 0) (sym f) (subst (λ z. IsKept [] 0 unmet z 0) (sym g) kept_none))

-- LOOK-UPS

-- place 0 is never above the front, just as no instruction passes a test that always fails
none_behind : (front : ℕ) (is : List Instr) → nat_lt front 0 ≡ list_any (λ (i : Instr). false) is
none_behind front [] = below_none front
none_behind front (i ∷ is) = none_behind front is

-- a look-up finds whether a waiting instruction writes a register, if one is given
pub writes_behind : (is : List Instr) (front : ℕ) (writers touchers : List ℕ) (blue : ℕ) (u : Option Reg) →
    IsKept is front writers touchers blue → nat_lt front (place_of writers (number_of u))
    ≡ list_any (writes (number_of u)) (drop front is)
writes_behind is front writers touchers blue None k = none_behind front (drop front is)
writes_behind is front writers touchers blue (Some r) k = ap (nat_lt front) (k.written_last r.number r.in_range)
    ∙ is_behind (writes (Some r.number)) is front

-- a look-up finds whether a waiting instruction reads or writes a register, if one is given
pub meets_behind : (is : List Instr) (front : ℕ) (writers touchers : List ℕ) (blue : ℕ) (u : Option Reg) →
    IsKept is front writers touchers blue → nat_lt front (place_of touchers (number_of u))
    ≡ list_any (meets (number_of u)) (drop front is)
meets_behind is front writers touchers blue None k = none_behind front (drop front is)
meets_behind is front writers touchers blue (Some r) k = ap (nat_lt front) (k.touched_last r.number r.in_range)
    ∙ is_behind (meets (Some r.number)) is front

-- a look-up finds whether a waiting instruction is a blue store
pub blue_behind : (is : List Instr) (front : ℕ) (writers touchers : List ℕ) (blue : ℕ) →
    IsKept is front writers touchers blue → nat_lt front blue ≡ list_any is_blue_store (drop front is)
blue_behind is front writers touchers blue k = ap (nat_lt front) k.blue_last ∙ is_behind is_blue_store is front

-- CONFLICTS

-- some instruction passes one of two tests exactly when some instruction passes the first, or some the second
either_any : (s t u : Instr → Bool) (is : List Instr) → ((i : Instr) → u i ≡ (s i || t i)) → list_any u is
    ≡ (list_any s is || list_any t is)
either_any s t u [] h = refl
either_any s t u (i ∷ is) h = (λ j. h i j || either_any s t u is h j)
    ∙ crossed (s i) (t i) (list_any s is) (list_any t is)
  where
    crossed : (a b c d : Bool) → ((a || b) || (c || d)) ≡ ((a || c) || (b || d))
    crossed true b c d = refl
    crossed false true true d = refl
    crossed false true false d = refl
    crossed false false true d = refl
    crossed false false false d = refl

-- whether an instruction leaves a register alone, in terms of the registers that it reads and writes
alone_by : Option ℕ → Option ℕ → Option ℕ → Option ℕ → Bool
alone_by f s v None = true
alone_by f s v (Some q) = not ((is_register f q || is_register s q) || is_register v q)

alone_read : (i : Instr) (u : Option ℕ) → leaves_alone i u ≡ alone_by (first_read i) (second_read i) (written i) u
unfolding alone_by
alone_read i None = refl
alone_read i (Some q) = ap (λ b. not (b || is_register (written i) q)) (reads_two i q)

-- whether two registers are both given and equal
hits : Option ℕ → Option ℕ → Bool
hits u None = false
hits u (Some r) = is_register u r

hits_writes : (u : Option ℕ) (w : Instr) → writes u w ≡ hits (written w) u
unfolding hits
hits_writes None w = refl
hits_writes (Some r) w = refl

hits_none : (u : Option ℕ) → hits None u ≡ false
unfolding hits
hits_none None = refl
hits_none (Some r) = refl

hits_one : (q : ℕ) (u : Option ℕ) → hits (Some q) u ≡ is_register u q
unfolding hits
hits_one q None = refl
hits_one q (Some r) = turned q r

not_not : (b : Bool) → not (not b && true) ≡ (b || false)
not_not true = refl
not_not false = refl

not_alone : (b : Bool) → not (true && not b) ≡ (false || b)
not_alone true = refl
not_alone false = refl

-- three tests reduce to two, since the second implies the third
all_three : (a c t : Bool) → (c ≡ true → t ≡ true) → not (not (a || c) && not t) ≡ (a || t)
all_three true c t h = refl
all_three false false true h = refl
all_three false false false h = refl
all_three false true true h = refl
all_three false true false h = sym (h refl)

conflict_by : (f s v u : Option ℕ) (w : Instr) → written w ≡ u → not (alone_by f s v u && leaves_alone w v)
    ≡ ((hits u f || hits u s) || meets v w)
unfolding alone_by
conflict_by f s None None w e = sym ((λ j. (hits_none f j || hits_none s j) || false))
conflict_by f s (Some r) None w e = not_alone (touches w r)
    ∙ sym ((λ j. (hits_none f j || hits_none s j) || touches w r))
conflict_by f s None (Some q) w e = not_not ((is_register f q || is_register s q) || false)
    ∙ or_twice (is_register f q || is_register s q) ∙ sym ((λ j. (hits_one q f j || hits_one q s j) || false))
  where
    or_twice : (b : Bool) → ((b || false) || false) ≡ (b || false)
    or_twice true = refl
    or_twice false = refl
conflict_by f s (Some r) (Some q) w e =
    all_three (is_register f q || is_register s q) (r == q) (touches w r) (λ h.
    or_right (reads w r) (is_register (written w) r) (ap (λ z. is_register z r) e ∙ turned q r ∙ h))
    ∙ sym ((λ j. (hits_one q f j || hits_one q s j) || touches w r))

conflict_tests : (i w : Instr) → conflicts i w ≡ ((writes (first_read i) w || writes (second_read i) w) || meets
    (written i) w)
conflict_tests i w =
    ap (λ b. not (b && leaves_alone w (written i))) (alone_read i (written w))
    ∙ conflict_by (first_read i) (second_read i) (written i) (written w) w refl
    ∙ sym (λ j. (hits_writes (first_read i) w j || hits_writes (second_read i) w j) || meets (written i) w)

-- three look-ups find whether a waiting instruction conflicts with another instruction
pub conflict_behind : (i : Instr) (is : List Instr) → list_any (conflicts i) is
    ≡ ((list_any (writes (first_read i)) is || list_any (writes (second_read i)) is) || list_any (meets (written i)) is)
conflict_behind i is =
    either_any (λ w. writes (first_read i) w || writes (second_read i) w) (meets (written i)) (conflicts i) is
    (conflict_tests i)
    ∙ ap (λ b. b || list_any (meets (written i)) is) (either_any (writes (first_read i)) (writes (second_read i)) (λ w.
    writes (first_read i) w || writes (second_read i) w) is (λ w. refl))
