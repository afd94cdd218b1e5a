-- The cells that declarations make, as declarations and cells are added.
use Rattle.std.proofs.Common.{◌≡◌, true, false, add-one, ℕ, suc, zero, ◌+◌, List, [], ◌∷◌, ◌++◌, length, map, replicate}
use Rattle.std.proofs.Common.{Option, Some, None, refl, sym, ap, ◌∙◌, arith, append_assoc, append-nil, length-append}
use Rattle.std.proofs.Common.{cond, Bor, Result, Ok, Err}
use Rattle.std.specs.Prelude.{OnOk}
use Rattle.std.proofs.lemmas.List.{map_push}
use Rattle.ft_syntax.specs.Syntax.{Named, Declared, cell, var, array}
use Rattle.ft_scope.specs.CellNames.{cell_name, array_names, cell_names, joined_names}
use Rattle.ft_scope.specs.Scope.{cell_texts, cell_places, cell_words, cell_count, places_from, wrong_length, is_length}
use Rattle.ft_scope.specs.declared.making.Cells.{Cells}
use Rattle.ft_scope.specs.Made.{Made}

-- adding a declaration appends its declared names, places and initial words
pub texts_push : (ds : List Declared) (d : Declared) → cell_texts (ds ++ d ∷ []) ≡ cell_texts ds ++ cell_texts (d ∷ [])
texts_push [] d = refl
texts_push (cell m u ∷ ds) d = ap (λ v. m.text ∷ v) (texts_push ds d)
texts_push (var m ∷ ds) d = texts_push ds d
texts_push (array m l at u ∷ ds) d = ap (λ v. replicate l m.text ++ v) (texts_push ds d)
    ∙ sym (append_assoc (replicate l m.text) (cell_texts ds) (cell_texts (d ∷ [])))

pub places_push : (ds : List Declared) (d : Declared) → cell_places (ds ++ d ∷ []) ≡ cell_places ds
    ++ cell_places (d ∷ [])
places_push [] d = refl
places_push (cell m u ∷ ds) d = ap (λ v. None ∷ v) (places_push ds d)
places_push (var m ∷ ds) d = places_push ds d
places_push (array m l at u ∷ ds) d = ap (λ v. places_from 0 l ++ v) (places_push ds d)
    ∙ sym (append_assoc (places_from 0 l) (cell_places ds) (cell_places (d ∷ [])))

pub words_push : (ds : List Declared) (d : Declared) → cell_words (ds ++ d ∷ []) ≡ cell_words ds ++ cell_words (d ∷ [])
words_push [] d = refl
words_push (cell m u ∷ ds) d = ap (λ v. u ∷ v) (words_push ds d)
words_push (var m ∷ ds) d = words_push ds d
words_push (array m l at u ∷ ds) d = ap (λ v. replicate l u ++ v) (words_push ds d)
    ∙ sym (append_assoc (replicate l u) (cell_words ds) (cell_words (d ∷ [])))

-- one more cell of an array appends one declared name, one place and one initial word
alike_next : {A : Type 0} (x : A) (l : ℕ) → replicate (suc l) x ≡ replicate l x ++ x ∷ []
alike_next x zero = refl
alike_next x (suc l) = ap (λ v. x ∷ v) (alike_next x l)

more_alike : {A : Type 0} (x : A) (l : ℕ) → replicate (l + 1) x ≡ replicate l x ++ x ∷ []
more_alike x l = rw add-one (alike_next x l)

places_next : (k l : ℕ) → places_from k (suc l) ≡ places_from k l ++ Some (k + l) ∷ []
places_next k zero = let e : k ≡ k + 0 = omega arith in ap (λ v. Some v ∷ []) e
places_next k (suc l) =
    let e : k + 1 + l ≡ k + suc l = omega arith in
    ap (λ v. Some k ∷ v) (places_next (k + 1) l ∙ ap (λ v. places_from (k + 1) l ++ Some v ∷ []) e)

more_places : (k l : ℕ) → places_from k (l + 1) ≡ places_from k l ++ Some (k + l) ∷ []
more_places k l = let e : l + 1 ≡ suc l = omega arith in ap (places_from k) e ∙ places_next k l

pub texts_grow : (ds : List Declared) (n : Named) (l at w : ℕ) → cell_texts (ds ++ array n (l + 1) at w ∷ [])
    ≡ cell_texts (ds ++ array n l at w ∷ []) ++ n.text ∷ []
texts_grow ds n l at w =
    texts_push ds (array n (l + 1) at w) ∙ ap (λ v. cell_texts ds ++ v) (append-nil (replicate (l + 1) n.text)
    ∙ more_alike n.text l)
    ∙ sym (append_assoc (cell_texts ds) (replicate l n.text) (n.text ∷ []))
    ∙ ap (λ v. v ++ n.text ∷ []) (ap (λ v. cell_texts ds ++ v) (sym (append-nil (replicate l n.text)))
    ∙ sym (texts_push ds (array n l at w)))

pub places_grow : (ds : List Declared) (n : Named) (l at w : ℕ) → cell_places (ds ++ array n (l + 1) at w ∷ [])
    ≡ cell_places (ds ++ array n l at w ∷ []) ++ Some l ∷ []
places_grow ds n l at w =
    let e : 0 + l ≡ l = omega arith in
    places_push ds (array n (l + 1) at w) ∙ ap (λ v. cell_places ds ++ v) (append-nil (places_from 0 (l + 1))
    ∙ more_places 0 l ∙ ap (λ k. places_from 0 l ++ Some k ∷ []) e)
    ∙ sym (append_assoc (cell_places ds) (places_from 0 l) (Some l ∷ []))
    ∙ ap (λ v. v ++ Some l ∷ []) (ap (λ v. cell_places ds ++ v) (sym (append-nil (places_from 0 l)))
    ∙ sym (places_push ds (array n l at w)))

pub words_grow : (ds : List Declared) (n : Named) (l at w : ℕ) → cell_words (ds ++ array n (l + 1) at w ∷ [])
    ≡ cell_words (ds ++ array n l at w ∷ []) ++ w ∷ []
words_grow ds n l at w =
    words_push ds (array n (l + 1) at w) ∙ ap (λ v. cell_words ds ++ v) (append-nil (replicate (l + 1) w)
    ∙ more_alike w l)
    ∙ sym (append_assoc (cell_words ds) (replicate l w) (w ∷ []))
    ∙ ap (λ v. v ++ w ∷ []) (ap (λ v. cell_words ds ++ v) (sym (append-nil (replicate l w)))
    ∙ sym (words_push ds (array n l at w)))

-- there are as many declared names, places, initial words and names as cells
alike_length : {A : Type 0} (x : A) (l : ℕ) → length (replicate l x) ≡ l
alike_length x zero = refl
alike_length x (suc l) = ap suc (alike_length x l)

places_length : (k l : ℕ) → length (places_from k l) ≡ l
places_length k zero = refl
places_length k (suc l) = ap suc (places_length (k + 1) l)

pub count_texts : (ds : List Declared) → length (cell_texts ds) ≡ cell_count ds
count_texts [] = refl
count_texts (cell n w ∷ ds) = omega (arith, count_texts ds)
count_texts (var n ∷ ds) = count_texts ds
count_texts (array n l at w ∷ ds) = omega (
  arith,
  count_texts ds,
  alike_length n.text l,
  length-append (replicate l n.text) (cell_texts ds),
)

pub count_places : (ds : List Declared) → length (cell_places ds) ≡ cell_count ds
count_places [] = refl
count_places (cell n w ∷ ds) = omega (arith, count_places ds)
count_places (var n ∷ ds) = count_places ds
count_places (array n l at w ∷ ds) = omega (
  arith,
  count_places ds,
  places_length 0 l,
  length-append (places_from 0 l) (cell_places ds),
)

pub count_words : (ds : List Declared) → length (cell_words ds) ≡ cell_count ds
count_words [] = refl
count_words (cell n w ∷ ds) = omega (arith, count_words ds)
count_words (var n ∷ ds) = count_words ds
count_words (array n l at w ∷ ds) = omega (
  arith,
  count_words ds,
  alike_length w l,
  length-append (replicate l w) (cell_words ds),
)

-- an array has as many cells as its length
pub array_length : (t : List ℕ) (k l : ℕ) → length (array_names t k l) ≡ l
array_length t k zero = refl
array_length t k (suc l) = ap suc (array_length t (k + 1) l)

pub count_names : (ds : List Declared) → length (cell_names ds) ≡ cell_count ds
count_names [] = refl
count_names (cell n w ∷ ds) = omega (arith, count_names ds)
count_names (var n ∷ ds) = count_names ds
count_names (array n l at w ∷ ds) = omega (
  arith,
  count_names ds,
  array_length n.text 0 l,
  length-append (array_names n.text 0 l) (cell_names ds),
)

-- joining the declared names and the places gives the cells' names
array_joined : (t : List ℕ) (k l : ℕ) (ts : List (List ℕ)) (ps : List (Option ℕ)) →
    joined_names (replicate l t ++ ts) (places_from k l ++ ps) ≡ array_names t k l ++ joined_names ts ps
array_joined t k zero ts ps = refl
array_joined t k (suc l) ts ps = ap (λ v. cell_name t (Some k) ∷ v) (array_joined t (k + 1) l ts ps)

names_joined : (ds : List Declared) → joined_names (cell_texts ds) (cell_places ds) ≡ cell_names ds
names_joined [] = refl
names_joined (cell n w ∷ ds) = ap (λ v. n.text ∷ v) (names_joined ds)
names_joined (var n ∷ ds) = names_joined ds
names_joined (array n l at w ∷ ds) = array_joined n.text 0 l (cell_texts ds) (cell_places ds)
    ∙ ap (λ v. array_names n.text 0 l ++ v) (names_joined ds)

-- likewise for the declared names and the places of the cells that were made
pub made_names : (c : Cells) (ds : List Declared) → Made c ds →
    joined_names (map (λ r. r.now) c.names.items) c.places.items ≡ cell_names ds
made_names c ds m = ap (λ v. joined_names v c.places.items) m.names ∙ ap (joined_names (cell_texts ds)) m.places
    ∙ names_joined ds

-- if the first declaration's length is not wrong, the first wrong length is that of the rest
pub wrong_first : (d : Declared) (ds : List Declared) → wrong_length (d ∷ []) ≡ None → wrong_length (d ∷ ds)
    ≡ wrong_length ds
wrong_first (cell n w) ds h = refl
wrong_first (var n) ds h = refl
wrong_first (array n l at w) ds h = by (is_length l) h
  where
    by : (b : _) → cond b None (Some at) ≡ None → cond b (wrong_length ds) (Some at) ≡ wrong_length ds
    by true g = refl
    by false g = cc

pub wrong_here : (d : Declared) (ds : List Declared) (at : ℕ) → wrong_length (d ∷ []) ≡ Some at → wrong_length (d ∷ ds)
    ≡ Some at
wrong_here (cell n w) ds p h = cc
wrong_here (var n) ds p h = cc
wrong_here (array n l at w) ds p h = by (is_length l) h
  where
    by : (b : _) → cond b None (Some at) ≡ Some p → cond b (wrong_length ds) (Some at) ≡ Some p
    by true g = cc
    by false g = g

pub wrong_parts : (d : Declared) (ds : List Declared) → wrong_length (d ∷ ds) ≡ None → (wrong_length (d ∷ []) ≡ None)
    × (wrong_length ds ≡ None)
wrong_parts (cell n w) ds h = (refl, h)
wrong_parts (var n) ds h = (refl, h)
wrong_parts (array n l at w) ds h = by (is_length l) h
  where
    by : (b : _) → cond b (wrong_length ds) (Some at) ≡ None → (cond b None (Some at) ≡ None) × (wrong_length ds ≡ None)
    by true g = (refl, g)
    by false g = cc

-- an array adds nothing before its first cell is made
pub made_none : (c : Cells) (ds : List Declared) (n : Named) (at w : ℕ) → Made c ds → Made c (ds ++ array n 0 at w ∷ [])
made_none c ds n at w m = record {
  names = m.names ∙ sym (texts_push ds (array n 0 at w) ∙ append-nil (cell_texts ds));
  places = m.places ∙ sym (places_push ds (array n 0 at w) ∙ append-nil (cell_places ds));
  inits = m.inits ∙ sym (words_push ds (array n 0 at w) ∙ append-nil (cell_words ds));
}

-- making one more cell of an array makes the cells of an array that is one longer
pub made_more : (c e : Cells) (ds : List Declared) (n : Named) (name : Bor (List ℕ)) (l at w : ℕ) → n.text ≡ name.now →
    e.names.items ≡ c.names.items ++ name ∷ [] → e.places.items ≡ c.places.items ++ Some l ∷ [] → e.inits.items
    ≡ c.inits.items ++ w ∷ [] → Made c (ds ++ array n l at w ∷ []) → Made e (ds ++ array n (l + 1) at w ∷ [])
made_more c e ds n name l at w is names places inits m = record {
  names = ap (map (λ r. r.now)) names ∙ map_push (λ r. r.now) c.names.items name ∙ ap (λ v. v ++ name.now ∷ []) m.names
      ∙ ap (λ v. cell_texts (ds ++ array n l at w ∷ []) ++ v ∷ []) (sym is) ∙ sym (texts_grow ds n l at w);
  places = places ∙ ap (λ v. v ++ Some l ∷ []) m.places ∙ sym (places_grow ds n l at w);
  inits = inits ∙ ap (λ v. v ++ w ∷ []) m.inits ∙ sym (words_grow ds n l at w);
}

-- making a plain cell makes the cell of its declaration
pub made_cell : (c e : Cells) (ds : List Declared) (n : Named) (name : Bor (List ℕ)) (w : ℕ) → n.text ≡ name.now →
    e.names.items ≡ c.names.items ++ name ∷ [] → e.places.items ≡ c.places.items ++ None ∷ [] → e.inits.items
    ≡ c.inits.items ++ w ∷ [] → Made c ds → Made e (ds ++ cell n w ∷ [])
made_cell c e ds n name w is names places inits m = record {
  names = ap (map (λ r. r.now)) names ∙ map_push (λ r. r.now) c.names.items name ∙ ap (λ v. v ++ name.now ∷ []) m.names
      ∙ ap (λ v. cell_texts ds ++ v ∷ []) (sym is) ∙ sym (texts_push ds (cell n w));
  places = places ∙ ap (λ v. v ++ None ∷ []) m.places ∙ sym (places_push ds (cell n w));
  inits = inits ∙ ap (λ v. v ++ w ∷ []) m.inits ∙ sym (words_push ds (cell n w));
}

-- a variable makes no cell
pub made_var : (c : Cells) (ds : List Declared) (n : Named) → Made c ds → Made c (ds ++ var n ∷ [])
made_var c ds n m = record {
  names = m.names ∙ sym (texts_push ds (var n) ∙ append-nil (cell_texts ds));
  places = m.places ∙ sym (places_push ds (var n) ∙ append-nil (cell_places ds));
  inits = m.inits ∙ sym (words_push ds (var n) ∙ append-nil (cell_words ds));
}

-- if three facts hold of a success, so does what follows from them
pub ok_from : {A E P Q R S : Type 0} (r : Result A E) → OnOk r P → OnOk r Q → OnOk r R → (P → Q → R → S) → OnOk r S
ok_from (Ok x) p q r f = f p q r
ok_from (Err e) p q r f = tt
