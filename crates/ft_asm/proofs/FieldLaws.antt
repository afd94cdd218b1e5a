-- The word of a value is read as that value, and no other word is.
use Rattle.std.proofs.Common.{◌≡◌, ℕ, zero, suc, ◌^◌, ◌<◌, ◌≤◌, true, List, [], ◌∷◌, ◌++◌, map, take, drop, Option}
use Rattle.std.proofs.Common.{Some, None, decimal, codes, nat_lt, eqb, refl, ap, sym, ◌∙◌, subst, arith, inl, inr}
use Rattle.std.specs.Prelude.{if◌then◌else◌}
use Rattle.std.specs.Option.{option_map, option_and_then}
use Rattle.std.specs.List.{AllByRecursion}
use Rattle.std.specs.Str.{bytes_eq}
use Rattle.std.proofs.lemmas.Bool.{ltb-true, lt-ltb, eqb-true}
use Rattle.std.proofs.lemmas.List.{take-append-drop}
use Rattle.std.proofs.lemmas.Option.{option_and_then_some}
use Rattle.ft_isa.specs.Words.{IsWord}
use Rattle.ft_isa.specs.PlanText.{IsNumberText}
use Rattle.ft_isa.specs.Registers.{reg_of}
use Rattle.ft_isa.proofs.NumberRead.{next_number, number_told, IsNumberRead}
use Rattle.ft_isa.proofs.NumberText.{whole_number, number_reader}
use Rattle.ft_isa.proofs.Readers.{reads_ok}
use Rattle.ft_isa.specs.Operations.{op_word, op_in}
use Rattle.ft_isa.proofs.Branches.{if_some, of_branch, of_map, same_word, chosen, known, none_is}
use Rattle.ft_isa.proofs.Operations.{op_sound, op_complete}
use Rattle.ft_isa.proofs.Registers.{reg_of-number, number-reg_of}
use Rattle.ft_isa.specs.Reading.{state_after}
use Rattle.ft_isa.specs.declared.basic.Base.{Base}
use Rattle.ft_isa.specs.declared.basic.Base.TheVariants.{Int}
use Rattle.ft_isa.specs.declared.basic.Base.TheVariants as bases
use Rattle.ft_isa.specs.declared.basic.Basic.{Basic}
use Rattle.ft_isa.specs.declared.colour.Colour.{Colour}
use Rattle.ft_isa.specs.declared.colour.Colour.TheVariants.{Green, Blue}
use Rattle.ft_isa.specs.declared.reg.Reg.{Reg}
use Rattle.ft_format.specs.Codes.{FitsBase, FitsBasic, Is32}
use Rattle.ft_asm.specs.Operands.{reg_word, colour_word, base_word, refs_word, basic_word}
use Rattle.ft_text.proofs.NumberWords.{number_sound, number_complete}
use Rattle.ft_text.specs.LineWords.{number_of}
use Rattle.ft_asm.specs.Forms.{if_below, below, reg_in, colour_in, plain_basic, base_in, one_more_ref}
use Rattle.ft_asm.specs.Forms.{basic_in, rows_in}

-- a reader reads the word of each value that fits as that value, and reads no other word
pub record IsField {A : Type 0} (read : List ℕ → Option A) (word : A → List ℕ) (Fits : A → Type 0) : Type 0 where
  pub sound : (w : List ℕ) (a : A) → read w ≡ Some a → Fits a × (w ≡ word a)
  pub complete : (a : A) → Fits a → read (word a) ≡ Some a

-- NUMBERS

below_sound : (limit : ℕ) (w : List ℕ) (n : ℕ) → below limit w ≡ Some n → (n < limit) × (w ≡ decimal n)
unfolding below
below_sound limit w n e =
    option_and_then_some (if_below limit) (number_of w) n e
    (λ m f g.
    let t = if_some (nat_lt m limit) m n g in
    let low : m < limit = ltb-true m limit t.0 in
    (subst (λ (x : ℕ). x < limit) t.1 low, (number_sound w m f).1 ∙ ap decimal t.1))

below_complete : (limit n : ℕ) → limit ≤ 2 ^ 64 → n < limit → below limit (decimal n) ≡ Some n
unfolding below
below_complete limit n le lt = ap (option_and_then (if_below limit)) (number_complete n (omega arith))
    ∙ ap (λ t. if t then Some n else None) (lt-ltb n limit lt)

-- a number below a limit is read from its decimal digits, and from no other word
pub number_field : (limit : ℕ) → limit ≤ 2 ^ 64 → IsField (below limit) decimal (λ n. n < limit)
number_field limit le = record { sound = below_sound limit; complete = λ n h. below_complete limit n le h }

-- WORDS

abbrev IsColourWord : List ℕ → Colour → Type 0
IsColourWord w c = Unit {0} × (w ≡ colour_word c)

colours : (c : Colour) → Unit {0} → colour_in (colour_word c) ≡ Some c
unfolding colour_in
colours Green h = refl
colours Blue h = refl

pub colour_field : IsField colour_in colour_word (λ c. Unit {0})
unfolding colour_in
colour_field = record {
  sound = λ w. chosen IsColourWord (codes "G") w _ _ (known IsColourWord (codes "G") Green (tt, refl))
      (chosen IsColourWord (codes "B") w _ _ (known IsColourWord (codes "B") Blue (tt, refl))
      (none_is (IsColourWord w)));
  complete = colours;
}

pub op_field : IsField op_in op_word (λ op. Unit {0})
op_field = record { sound = λ w op e. (tt, op_sound w op e); complete = λ op h. op_complete op }

-- REGISTERS

reg_sound : (w : List ℕ) (r : Reg) → reg_in w ≡ Some r → Unit {0} × (w ≡ reg_word r)
unfolding reg_in
reg_sound [] r e = absurd cc
reg_sound (b ∷ bs) r e =
    elim (of_branch (eqb b 114) (option_and_then reg_of (number_of bs)) None r e) [
      | inl here ↦
          option_and_then_some reg_of (number_of bs) r here.1
          (λ n f g. (
            tt,
            ap (λ x. x ∷ bs) (eqb-true b 114 here.0)
                ∙ ap (λ l. 114 ∷ l) ((number_sound bs n f).1 ∙ ap decimal (sym (number-reg_of n r g))),
          ))
      | inr none ↦ absurd cc
    ]

reg_complete : (r : Reg) → Unit {0} → reg_in (reg_word r) ≡ Some r
unfolding reg_in
reg_complete r h = let low = r.in_range in ap (option_and_then reg_of) (number_complete r.number (omega arith))
    ∙ reg_of-number r

pub reg_field : IsField reg_in reg_word (λ r. Unit {0})
reg_field = record { sound = reg_sound; complete = reg_complete }

-- BASIC TYPES

abbrev IsBaseWord : List ℕ → Base → Type 0
IsBaseWord w base = FitsBase base × (w ≡ base_word base)

begins_with : (n : ℕ) (w v : List ℕ) → bytes_eq (take n w) v ≡ true → w ≡ v ++ drop n w
begins_with n w v e = sym (take-append-drop n w) ∙ ap (λ l. l ++ drop n w) (same_word (take n w) v e)

code_base : (w : List ℕ) (base : Base) → (if bytes_eq (take 5 w) (codes "code:")
    then option_map bases.Code (below (2 ^ 16) (drop 5 w)) else None) ≡ Some base → IsBaseWord w base
code_base w base e = elim (of_branch (bytes_eq (take 5 w) (codes "code:"))
    (option_map bases.Code (below (2 ^ 16) (drop 5 w))) None base e) [
      | inl here ↦
          let made = of_map bases.Code (below (2 ^ 16) (drop 5 w)) base here.1 in
          let read = below_sound (2 ^ 16) (drop 5 w) made.0 made.1.0 in
          subst (IsBaseWord w) made.1.1 (
            read.0,
            begins_with 5 w (codes "code:") here.0
                ∙ ap (λ l. codes "code:" ++ l) read.1,
          )
      | inr none ↦ absurd cc
    ]

base_sound : (w : List ℕ) (base : Base) → base_in w ≡ Some base → IsBaseWord w base
base_sound w = chosen IsBaseWord (codes "int") w _ _ (known IsBaseWord (codes "int") Int (tt, refl)) (code_base w)

base_complete : (base : Base) → FitsBase base → base_in (base_word base) ≡ Some base
base_complete Int h = refl
base_complete (bases.Code t) h = ap (option_map bases.Code) (below_complete (2 ^ 16) t (omega arith) h)

abbrev IsBasicWord : ℕ → List ℕ → Basic → Type 0
IsBasicWord n w basic = ((basic.refs ≤ n) × FitsBase basic.base) × (w ≡ basic_word basic)

plain_sound : (n : ℕ) (w : List ℕ) (basic : Basic) → option_map plain_basic (base_in w) ≡ Some basic →
    IsBasicWord n w basic
plain_sound n w basic e =
    let made = of_map plain_basic (base_in w) basic e in
    let read = base_sound w made.0 made.1.0 in
    subst (IsBasicWord n w) made.1.1 ((omega arith, read.0), read.1)

basic_sound : (n : ℕ) (w : List ℕ) (basic : Basic) → basic_in n w ≡ Some basic → IsBasicWord n w basic
unfolding basic_in
basic_sound zero w basic e = plain_sound 0 w basic e
basic_sound (suc n) w basic e = elim (of_branch (bytes_eq (take 4 w) (codes "ref:"))
    (option_map one_more_ref (basic_in n (drop 4 w))) (option_map plain_basic (base_in w)) basic e) [
      | inl here ↦
          let made = of_map one_more_ref (basic_in n (drop 4 w)) basic here.1 in
          let read = basic_sound n (drop 4 w) made.0 made.1.0 in
          let few = read.0.0 in
          subst (IsBasicWord (suc n) w) made.1.1 (
            (omega arith, read.0.1),
            begins_with 4 w (codes "ref:") here.0
                ∙ ap (λ l. codes "ref:" ++ l) read.1,
          )
      | inr plain ↦ plain_sound (suc n) w basic plain
    ]

-- the word of a base is read as that base without refs
plain_again : (n : ℕ) (base : Base) → FitsBase base → basic_in n (base_word base) ≡ Some (plain_basic base)
unfolding basic_in
plain_again zero Int h = refl
plain_again (suc n) Int h = refl
plain_again zero (bases.Code t) h = ap (option_map plain_basic) (base_complete (bases.Code t) h)
plain_again (suc n) (bases.Code t) h = ap (option_map plain_basic) (base_complete (bases.Code t) h)

basic_again : (n refs : ℕ) (base : Base) → refs ≤ n → FitsBase base → basic_in n (refs_word refs base)
    ≡ Some (record { refs = refs; base = base })
unfolding basic_in
basic_again n zero base le h = plain_again n base h
basic_again zero (suc refs) base le h = absurd (omega arith)
basic_again (suc n) (suc refs) base le h = ap (option_map one_more_ref) (basic_again n refs base (omega arith) h)

pub basic_field : IsField (basic_in 255) basic_word FitsBasic
basic_field = record {
  sound = λ w basic e. let read = basic_sound 255 w basic e in let few = read.0.0 in ((omega arith, read.0.1), read.1);
  complete = λ basic h. let few = h.0 in basic_again 255 basic.refs basic.base (omega arith) h.1;
}

-- ROWS

abbrev pub AreRows : List (List ℕ) → List ℕ → Type 0
AreRows ws rows = AllByRecursion Is32 rows × (ws ≡ map decimal rows)

pub rows_sound : (ws : List (List ℕ)) (rows : List ℕ) → rows_in ws ≡ Some rows → AreRows ws rows
rows_sound [] rows e = let same : [] ≡ rows = cc in subst (AreRows []) same (tt, refl)
rows_sound (w ∷ ws) rows e =
    option_and_then_some (λ n. option_map (λ ns. n ∷ ns) (rows_in ws)) (below (2 ^ 32) w) rows e
    (λ n f g.
    let made = of_map (λ ns. n ∷ ns) (rows_in ws) rows g in
    let rest = rows_sound ws made.0 made.1.0 in
    let first = below_sound (2 ^ 32) w n f in
    subst (AreRows (w ∷ ws)) made.1.1 ((first.0, rest.0), ap (λ x. x ∷ ws) first.1 ∙ ap (λ xs. decimal n ∷ xs) rest.1))

pub rows_complete : (rows : List ℕ) → AllByRecursion Is32 rows → rows_in (map decimal rows) ≡ Some rows
rows_complete [] h = refl
rows_complete (n ∷ ns) h =
    ap (option_and_then (λ m. option_map (λ ms. m ∷ ms) (rows_in (map decimal ns))))
    (below_complete (2 ^ 32) n (omega arith) h.0)
    ∙ ap (option_map (λ ms. n ∷ ms)) (rows_complete ns h.1)
