-- The names of a text's cells are lawful and distinct.
use Rattle.std.proofs.Common.{◌≡◌, ◌≢◌, ℕ, zero, suc, ◌+◌, ◌^◌, ◌<◌, ◌≤◌, Bool, true, false, cond, ◌||◌, ◌==◌, List, []}
use Rattle.std.proofs.Common.{◌∷◌, ◌++◌, length, Option, Some, None, refl, sym, ap, ◌∙◌, subst, arith, get_or, decimal}
use Rattle.std.proofs.Common.{length-append}
use Rattle.std.specs.Prelude.{All, is_some, nat_le, codes}
use Rattle.std.specs.List.{AllPairs, AllByRecursion, list_all}
use Rattle.std.specs.Str.{bytes_eq}
use Rattle.std.specs.Str.Parse.{AllDigits}
use Rattle.std.proofs.lemmas.Bool.{and_parts, and_from, or_parts, le-leb, eqb-true, true≢false, or_from, or_right}
use Rattle.std.proofs.lemmas.Fmt.{decimal_is_IsNumeral, length-decimal-le, decimal_injective}
use Rattle.std.proofs.lemmas.List.{append_cancel_left, append_cancel_right}
use Rattle.std.proofs.lemmas.List.Elements.{All-nil, All-cons, All-append}
use Rattle.std.proofs.lemmas.List.Folds.{list_all-append}
use Rattle.std.proofs.lemmas.List.Kept.{AllPairs-cons}
use Rattle.std.proofs.lemmas.Slice.Eq.{bytes_eq-Decides}
use Rattle.std.proofs.lemmas.Str.Parse.{digit_from_value}
use Rattle.ft_lexer.specs.Bytes.{is_letter, is_digit, is_name_byte}
use Rattle.ft_lexer.proofs.FitLexemes.{is_word, IsNameText}
use Rattle.ft_syntax.specs.Syntax.{Declared, cell, var, array}
use Rattle.ft_syntax.proofs.FitTrees.{IsFitDeclaration}
use Rattle.ft_scope.specs.declared.slot.Slot.{Slot}
use Rattle.ft_scope.specs.declared.slot.Slot.TheVariants.{Cell, Var, Run}
use Rattle.ft_scope.specs.CellNames.{cell_name, array_names, cell_names}
use Rattle.ft_scope.specs.Proper.{is_cell_byte, is_cell_text, IsCellName}
use Rattle.ft_scope.specs.Scope.{declared_name, found_after, find, repeated, wrong_length}
use Rattle.ft_scope.proofs.Found.{length_fine, length_few}

-- LAWFUL NAMES

-- a byte that a declared name may have is allowed in a cell's name
cell_byte : (b : ℕ) → is_name_byte b ≡ true → is_cell_byte b ≡ true
cell_byte b e = ap (λ x. x || (b == 91 || b == 93)) e

-- a list of such bytes is allowed in a cell's name
cell_bytes : (bs : List ℕ) → list_all is_name_byte bs ≡ true → list_all is_cell_byte bs ≡ true
cell_bytes [] e = refl
cell_bytes (b ∷ bs) e =
    let p = and_parts (is_name_byte b) (list_all is_name_byte bs) e in
    and_from (is_cell_byte b) (list_all is_cell_byte bs) (cell_byte b p.0) (cell_bytes bs p.1)

-- a digit is allowed in a name
digit_byte : (c : ℕ) → 48 ≤ c → c ≤ 57 → is_name_byte c ≡ true
digit_byte c low high = or_right (is_letter c) (is_digit c)
    (and_from (nat_le 48 c) (nat_le c 57) (le-leb 48 c low) (le-leb c 57 high))

-- digits are allowed in a name
digit_bytes : (ds : List ℕ) → AllDigits 10 ds → list_all is_name_byte ds ≡ true
digit_bytes [] d = refl
digit_bytes (c ∷ cs) d =
    let range = digit_from_value c d.0 in
    and_from (is_name_byte c) (list_all is_name_byte cs) (digit_byte c range.0 range.1) (digit_bytes cs d.1)

-- the bytes of a word are allowed in a name
word_bytes : (t : List ℕ) → is_word t ≡ true → list_all is_name_byte t ≡ true
word_bytes [] e = refl
word_bytes (b ∷ bs) e =
    let p = and_parts (is_letter b) (list_all is_name_byte bs) e in
    and_from (is_name_byte b) (list_all is_name_byte bs) (ap (λ x. x || is_digit b) p.0) p.1

-- a word is a valid text of a cell's name
word_text : (t : List ℕ) → is_word t ≡ true → is_cell_text t ≡ true
word_text [] e = e
word_text (b ∷ bs) e =
    let p = and_parts (is_letter b) (list_all is_name_byte bs) e in
    and_from (is_letter b) (list_all is_cell_byte bs) p.0 (cell_bytes bs p.1)

-- the bytes of a name with a place are allowed in a cell's name
place_bytes : (bs : List ℕ) (k : ℕ) → k < 2 ^ 64 → list_all is_name_byte bs ≡ true →
    list_all is_cell_byte (cell_name bs (Some k)) ≡ true
place_bytes bs k small e =
    list_all-append is_cell_byte (bs ++ codes "[" ++ decimal k) (codes "]")
    ∙ and_from (list_all is_cell_byte (bs ++ codes "[" ++ decimal k)) (list_all is_cell_byte (codes "]"))
    (list_all-append is_cell_byte (bs ++ codes "[") (decimal k)
    ∙ and_from (list_all is_cell_byte (bs ++ codes "[")) (list_all is_cell_byte (decimal k))
    (list_all-append is_cell_byte bs (codes "[") ∙ and_from (list_all is_cell_byte bs)
    (list_all is_cell_byte (codes "[")) (cell_bytes bs e) refl)
    (cell_bytes (decimal k) (digit_bytes (decimal k) (decimal_is_IsNumeral k small).0.1)))
    refl

-- a word with a place is a valid text of a cell's name
place_text : (t : List ℕ) (k : ℕ) → k < 2 ^ 64 → is_word t ≡ true → is_cell_text (cell_name t (Some k)) ≡ true
place_text [] k small e = absurd (true≢false (sym e))
place_text (b ∷ bs) k small e =
    let p = and_parts (is_letter b) (list_all is_name_byte bs) e in
    and_from (is_letter b) (list_all is_cell_byte (cell_name bs (Some k))) p.0 (place_bytes bs k small p.1)

-- a place takes at most six bytes
place_short : (t : List ℕ) (k : ℕ) → k < 10000 → length t ≤ 32 → length (cell_name t (Some k)) ≤ 38
place_short t k small h =
    omega (
      arith,
      length-append (t ++ codes "[" ++ decimal k) (codes "]"),
      length-append (t ++ codes "[") (decimal k),
      length-append t (codes "["),
      length-decimal-le 4 k (omega arith) (omega arith) (omega arith),
      h,
    )

-- the names of an array's cells are lawful
array_lawful : (t : List ℕ) (k l : ℕ) → k + l ≤ 1024 → IsNameText t → All IsCellName (array_names t k l)
array_lawful t k zero few h = All-nil IsCellName
array_lawful t k (suc l) few h =
    All-cons IsCellName (cell_name t (Some k)) (array_names t (k + 1) l)
    (record { bytes = place_text t k (omega arith) h.word; short = place_short t k (omega arith) h.short })
    (array_lawful t (k + 1) l (omega arith) h)

-- the cell names of fit declarations are lawful
pub names_lawful : (ds : List Declared) → AllByRecursion IsFitDeclaration ds → wrong_length ds ≡ None →
    All IsCellName (cell_names ds)
names_lawful [] h ok = All-nil IsCellName
names_lawful (cell n w ∷ ds) h ok =
    All-cons IsCellName n.text (cell_names ds) (record {
      bytes = word_text n.text h.0.0.word;
      short = omega (arith, h.0.0.short);
    }) (names_lawful ds h.1 ok)
names_lawful (var n ∷ ds) h ok = names_lawful ds h.1 ok
names_lawful (array n l at w ∷ ds) h ok =
    let fine = length_fine l at (wrong_length ds) ok in
    All-append IsCellName (array_names n.text 0 l) (cell_names ds)
    (array_lawful n.text 0 l (omega (arith, length_few l fine.0)) h.0.0) (names_lawful ds h.1 fine.1)

-- DECLARED NAMES

-- the bytes before the first bracket
abbrev base : List ℕ → List ℕ
base [] = []
base (b ∷ bs) = cond (b == 91) [] (b ∷ base bs)

-- no byte of a declared name is a bracket
no_bracket : (b : ℕ) → is_name_byte b ≡ true → (b == 91) ≡ false
no_bracket b e = by (b == 91) refl
  where
    by : (x : Bool) → (b == 91) ≡ x → x ≡ false
    by true f = absurd (true≢false (sym e ∙ ap is_name_byte (eqb-true b 91 f)))
    by false f = refl

-- the declared name of a plain cell is its name
base_plain : (t : List ℕ) → list_all is_name_byte t ≡ true → base t ≡ t
base_plain [] e = refl
base_plain (b ∷ bs) e =
    let p = and_parts (is_name_byte b) (list_all is_name_byte bs) e in
    ap (λ x. cond x [] (b ∷ base bs)) (no_bracket b p.0) ∙ ap (λ v. b ∷ v) (base_plain bs p.1)

-- the declared name of a cell of an array is the array's
base_place : (t : List ℕ) (k : ℕ) → list_all is_name_byte t ≡ true → base (cell_name t (Some k)) ≡ t
base_place [] k e = refl
base_place (b ∷ bs) k e =
    let p = and_parts (is_name_byte b) (list_all is_name_byte bs) e in
    ap (λ x. cond x [] (b ∷ base (cell_name bs (Some k)))) (no_bracket b p.0) ∙ ap (λ v. b ∷ v) (base_place bs k p.1)

-- what holds of an array's name holds of the declared names of its cells
array_based : (q : List ℕ → Type 0) (t : List ℕ) (k l : ℕ) → list_all is_name_byte t ≡ true → q t →
    All (λ x. q (base x)) (array_names t k l)
array_based q t k zero e h = All-nil (λ x. q (base x))
array_based q t k (suc l) e h = All-cons (λ x. q (base x)) (cell_name t (Some k)) (array_names t (k + 1) l)
    (subst q (sym (base_place t k e)) h) (array_based q t (k + 1) l e h)

-- DISTINCT NAMES

-- two texts differ if the test for equality fails
not_equal : (x y : List ℕ) → bytes_eq x y ≡ false → x ≢ y
not_equal x y e f = true≢false (sym ((bytes_eq-Decides x y).1 f) ∙ e)

-- names with different declared names differ
apart : (x y t : List ℕ) → base x ≡ t → bytes_eq t (base y) ≡ false → x ≢ y
apart x y t e f g = not_equal t (base y) f (sym e ∙ ap base g)

-- names with different places differ
places_differ : (t : List ℕ) (k j : ℕ) → k < j → j < 2 ^ 64 → cell_name t (Some k) ≢ cell_name t (Some j)
places_differ t k j less small e =
    let digits = append_cancel_left (t ++ codes "[") (decimal k) (decimal j) (append_cancel_right (t ++ codes "["
    ++ decimal k) (t ++ codes "[" ++ decimal j) (codes "]") e) in
    omega (arith, decimal_injective k j (omega arith) small digits)

-- the name of a cell of an array differs from those of the array's later cells
later_differ : (t : List ℕ) (k j l : ℕ) → k < j → j + l ≤ 1024 → All (λ y. cell_name t (Some k) ≢ y) (array_names t j l)
later_differ t k j zero less few = All-nil (λ y. cell_name t (Some k) ≢ y)
later_differ t k j (suc l) less few =
    All-cons (λ y. cell_name t (Some k) ≢ y) (cell_name t (Some j)) (array_names t (j + 1) l)
    (places_differ t k j less (omega arith)) (later_differ t k (j + 1) l (omega arith) (omega arith))

-- the names of an array's cells differ from each other, and from names with other declared names
array_differs : (t : List ℕ) (k l : ℕ) (rest : List (List ℕ)) → k + l ≤ 1024 → list_all is_name_byte t ≡ true →
    All (λ y. bytes_eq t (base y) ≡ false) rest → AllPairs (λ x y. x ≢ y) rest →
    AllPairs (λ x y. x ≢ y) (array_names t k l ++ rest)
array_differs t k zero rest few e new differ = differ
array_differs t k (suc l) rest few e new differ =
    let x = cell_name t (Some k) in
    AllPairs-cons (λ x y. x ≢ y) x (array_names t (k + 1) l ++ rest)
    (All-append (λ y. x ≢ y) (array_names t (k + 1) l) rest (later_differ t k (k + 1) l (omega arith) (omega arith))
    (λ i d lt. apart x (get_or rest i d) t (base_place t k e) (new i d lt)))
    (array_differs t (k + 1) l rest (omega arith) e new differ)

-- whether a text is declared
abbrev is_seen : List Declared → List ℕ → Bool
is_seen [] t = false
is_seen (d ∷ ds) t = bytes_eq (declared_name d).text t || is_seen ds t

-- a text is found exactly when it is found here or later
seen_or : (b : Bool) (s : Slot) (o : Option Slot) (c : Bool) → is_some o ≡ c → is_some (cond b (Some s) o) ≡ (b || c)
seen_or true s o c e = refl
seen_or false s o c e = e

-- a text is found exactly when it is declared
found_is_seen : (c v : ℕ) (ds : List Declared) (t : List ℕ) → is_some (found_after c v ds t) ≡ is_seen ds t
found_is_seen c v [] t = refl
found_is_seen c v (cell n w ∷ ds) t = seen_or (bytes_eq n.text t) (Cell c) (found_after (c + 1) v ds t) (is_seen ds t)
    (found_is_seen (c + 1) v ds t)
found_is_seen c v (var n ∷ ds) t = seen_or (bytes_eq n.text t) (Var v) (found_after c (v + 1) ds t) (is_seen ds t)
    (found_is_seen c (v + 1) ds t)
found_is_seen c v (array n l at w ∷ ds) t = seen_or (bytes_eq n.text t) (Run c l) (found_after (c + l) v ds t)
    (is_seen ds t) (found_is_seen (c + l) v ds t)

-- a text that is not declared even with one more declaration was not declared before, and is not the new name
seen_push : (xs : List Declared) (d : Declared) (t : List ℕ) → is_seen (xs ++ d ∷ []) t ≡ false → (is_seen xs t ≡ false)
    × (bytes_eq (declared_name d).text t ≡ false)
seen_push [] d t e = (refl, (or_parts (bytes_eq (declared_name d).text t) false e).0)
seen_push (x ∷ xs) d t e =
    let p = or_parts (bytes_eq (declared_name x).text t) (is_seen (xs ++ d ∷ []) t) e in
    let q = seen_push xs d t p.1 in
    (or_from (bytes_eq (declared_name x).text t) (is_seen xs t) p.0 q.0, q.1)

-- the cells' names differ from each other, and none of their declared names was declared before
record AreNew (before ds : List Declared) : Type 0 where
  unseen : All (λ x. is_seen before (base x) ≡ false) (cell_names ds)
  differ : AllPairs (λ x y. x ≢ y) (cell_names ds)

-- if the choice is `None`, the test fails and the other branch is `None`
unrepeated : (b : Bool) (at : ℕ) (o : Option ℕ) → cond b (Some at) o ≡ None → (b ≡ false) × (o ≡ None)
unrepeated true at o e = cc
unrepeated false at o e = (refl, e)

-- if no name is repeated, the cells' names are new
are_new : (before ds : List Declared) → AllByRecursion IsFitDeclaration ds → wrong_length ds ≡ None → repeated before ds
    ≡ None → AreNew before ds
are_new before [] fit ok e = record {
  unseen = All-nil (λ x. is_seen before (base x) ≡ false);
  differ = λ i j d h k. absurd (omega (arith, k));
}
are_new before (cell n w ∷ ds) fit ok e =
    let p = unrepeated (is_some (find before n.text)) n.at (repeated (before ++ cell n w ∷ []) ds) e in
    let r = are_new (before ++ cell n w ∷ []) ds fit.1 ok p.1 in
    let own = base_plain n.text (word_bytes n.text fit.0.0.word) in
    record {
      unseen = All-cons (λ x. is_seen before (base x) ≡ false) n.text (cell_names ds) (ap (is_seen before) own
          ∙ sym (found_is_seen 0 0 before n.text) ∙ p.0) (λ k d lt.
          (seen_push before (cell n w) (base (get_or (cell_names ds) k d)) (r.unseen k d lt)).0);
      differ = AllPairs-cons (λ x y. x ≢ y) n.text (cell_names ds) (λ k d lt.
          apart n.text (get_or (cell_names ds) k d) n.text own
          (seen_push before (cell n w) (base (get_or (cell_names ds) k d)) (r.unseen k d lt)).1) r.differ;
    }
are_new before (var n ∷ ds) fit ok e =
    let p = unrepeated (is_some (find before n.text)) n.at (repeated (before ++ var n ∷ []) ds) e in
    let r = are_new (before ++ var n ∷ []) ds fit.1 ok p.1 in
    record {
      unseen = λ k d lt. (seen_push before (var n) (base (get_or (cell_names ds) k d)) (r.unseen k d lt)).0;
      differ = r.differ;
    }
are_new before (array n l at w ∷ ds) fit ok e =
    let p = unrepeated (is_some (find before n.text)) n.at (repeated (before ++ array n l at w ∷ []) ds) e in
    let fine = length_fine l at (wrong_length ds) ok in
    let r = are_new (before ++ array n l at w ∷ []) ds fit.1 fine.1 p.1 in
    let bytes = word_bytes n.text fit.0.0.word in
    record {
      unseen = All-append (λ x. is_seen before (base x) ≡ false) (array_names n.text 0 l) (cell_names ds)
          (array_based (λ t. is_seen before t ≡ false) n.text 0 l bytes (sym (found_is_seen 0 0 before n.text) ∙ p.0))
          (λ k d lt. (seen_push before (array n l at w) (base (get_or (cell_names ds) k d)) (r.unseen k d lt)).0);
      differ = array_differs n.text 0 l (cell_names ds) (omega (arith, length_few l fine.0)) bytes (λ k d lt.
          (seen_push before (array n l at w) (base (get_or (cell_names ds) k d)) (r.unseen k d lt)).1) r.differ;
    }

-- the cell names of fit declarations are distinct if no name is declared twice
pub names_differ : (ds : List Declared) → AllByRecursion IsFitDeclaration ds → wrong_length ds ≡ None → repeated [] ds
    ≡ None → AllPairs (λ x y. x ≢ y) (cell_names ds)
names_differ ds fit ok e = (are_new [] ds fit ok e).differ
