-- What names refer to, as declarations are added.
use Rattle.std.proofs.Common.{◌≡◌, ℕ, ◌+◌, ◌*◌, ◌<◌, ◌≤◌, Bool, true, false, cond, List, [], ◌∷◌, ◌++◌, length, Option}
use Rattle.std.proofs.Common.{Some, None, is_some, refl, sym, ap, ◌∙◌, subst, arith}
use Rattle.std.specs.Option.{option_map}
use Rattle.std.specs.Str.{bytes_eq}
use Rattle.std.specs.Cmp.Lexicographic.{bytes_decides}
use Rattle.ft_syntax.specs.Syntax.{Declared, cell, var, array}
use Rattle.ft_scope.specs.declared.slot.Slot.{Slot}
use Rattle.ft_scope.specs.declared.slot.Slot.TheVariants.{Cell, Var, Run}
use Rattle.ft_scope.specs.Scope.{declared_name, cell_count, variable_count, found_after, find, repeated, is_length}
use Rattle.ft_scope.specs.Scope.{wrong_length}
use Rattle.ft_scope.specs.Renames.{AnyFits}
use Rattle.ft_syntax.specs.declared.source_error.SourceError.{SourceError}
use Rattle.ft_syntax.specs.declared.source_error.SourceError.TheVariants.{Twice, NoMemory}
use Rattle.ft_scope.specs.Held.{narrow, DeclareFails, TwiceFails}

-- the slot of a declaration that comes after c cells and v variables
abbrev pub slot_at : ℕ → ℕ → Declared → Slot
slot_at c v (cell n w) = Cell c
slot_at c v (var n) = Var v
slot_at c v (array n l at w) = Run c l

-- the first of two slots that exists
abbrev or_else : Option Slot → Option Slot → Option Slot
or_else (Some s) o = Some s
or_else None o = o

cond_or : (b : Bool) (s : Slot) (x y o : Option Slot) → x ≡ or_else y o → cond b (Some s) x
    ≡ or_else (cond b (Some s) y) o
cond_or true s x y o h = refl
cond_or false s x y o h = h

-- the slot of a declaration, if it declares this name
abbrev last : ℕ → ℕ → Declared → List ℕ → Option Slot
last c v d text = cond (bytes_eq (declared_name d).text text) (Some (slot_at c v d)) None

-- after one more declaration, a name refers to what it referred to before, or otherwise to the slot of the new
-- declaration
found_push : (c v : ℕ) (ds : List Declared) (d : Declared) (text : List ℕ) → found_after c v (ds ++ d ∷ []) text
    ≡ or_else (found_after c v ds text) (last (c + cell_count ds) (v + variable_count ds) d text)
found_push c v [] (cell n w) text =
    let e : c ≡ c + cell_count [] = omega arith in
    ap (λ k. cond (bytes_eq n.text text) (Some (Cell k)) None) e
found_push c v [] (array n l at w) text =
    let e : c ≡ c + cell_count [] = omega arith in
    ap (λ k. cond (bytes_eq n.text text) (Some (Run k l)) None) e
found_push c v [] (var n) text =
    let e : v ≡ v + variable_count [] = omega arith in
    ap (λ k. cond (bytes_eq n.text text) (Some (Var k)) None) e
found_push c v (cell m w ∷ ds) d text =
    let e : c + 1 + cell_count ds ≡ c + cell_count (cell m w ∷ ds) = omega arith in
    cond_or (bytes_eq m.text text) (Cell c) (found_after (c + 1) v (ds ++ d ∷ []) text) (found_after (c + 1) v ds text)
    (last (c + cell_count (cell m w ∷ ds)) (v + variable_count ds) d text)
    (found_push (c + 1) v ds d text ∙ ap (λ k. or_else (found_after (c + 1) v ds text)
    (last k (v + variable_count ds) d text)) e)
found_push c v (array m l at w ∷ ds) d text =
    let e : c + l + cell_count ds ≡ c + cell_count (array m l at w ∷ ds) = omega arith in
    cond_or (bytes_eq m.text text) (Run c l) (found_after (c + l) v (ds ++ d ∷ []) text) (found_after (c + l) v ds text)
    (last (c + cell_count (array m l at w ∷ ds)) (v + variable_count ds) d text)
    (found_push (c + l) v ds d text ∙ ap (λ k. or_else (found_after (c + l) v ds text)
    (last k (v + variable_count ds) d text)) e)
found_push c v (var m ∷ ds) d text =
    let e : v + 1 + variable_count ds ≡ v + variable_count (var m ∷ ds) = omega arith in
    cond_or (bytes_eq m.text text) (Var v) (found_after c (v + 1) (ds ++ d ∷ []) text) (found_after c (v + 1) ds text)
    (last (c + cell_count ds) (v + variable_count (var m ∷ ds)) d text)
    (found_push c (v + 1) ds d text ∙ ap (λ k. or_else (found_after c (v + 1) ds text)
    (last (c + cell_count ds) k d text)) e)

-- a name that is missing from the table is not declared
pub none_mapped : (o : Option Slot) → option_map narrow o ≡ None → o ≡ None
none_mapped None h = refl
none_mapped (Some s) h = cc

-- narrowing a slot's numbers does not change whether it is found
pub some_mapped : (o : Option Slot) → is_some (option_map narrow o) ≡ is_some o
some_mapped None = refl
some_mapped (Some s) = refl

mapped_or : (b : Bool) (o : Option Slot) (s : Slot) → (b ≡ true → o ≡ None) →
    cond b (Some (narrow s)) (option_map narrow o) ≡ option_map narrow (or_else o (cond b (Some s) None))
mapped_or true o s h = ap (λ x. option_map narrow (or_else x (Some s))) (sym (h refl))
mapped_or false None s h = refl
mapped_or false (Some x) s h = refl

-- once a new name is added, the table agrees with the declarations again
pub table_push : (ds : List Declared) (d : Declared) (s : Slot) (old new : List ℕ → Option Slot) →
    s ≡ narrow (slot_at (cell_count ds) (variable_count ds) d) →
    ((t : List ℕ) → old t ≡ option_map narrow (find ds t)) → old (declared_name d).text ≡ None →
    ((t : List ℕ) → new t ≡ cond (bytes_eq (declared_name d).text t) (Some s) (old t)) → (t : List ℕ) → new t
    ≡ option_map narrow (find (ds ++ d ∷ []) t)
table_push ds d s old new is held fresh noted t =
    let n = (declared_name d).text in
    let b = bytes_eq n t in
    let x = slot_at (cell_count ds) (variable_count ds) d in
    noted t
    ∙ ap (λ y. cond b (Some y) (old t)) is
    ∙ ap (λ y. cond b (Some (narrow x)) y) (held t)
    ∙ mapped_or b (find ds t) x (λ h. ap (find ds) (sym ((bytes_decides n t).0 h))
    ∙ none_mapped (find ds n) (sym (held n) ∙ fresh))
    ∙ ap (option_map narrow) (sym (found_push 0 0 ds d t ∙ zeros))
  where
    zeros : or_else (find ds t) (last (0 + cell_count ds) (0 + variable_count ds) d t)
        ≡ or_else (find ds t) (last (cell_count ds) (variable_count ds) d t)
    zeros =
        let e : 0 + cell_count ds ≡ cell_count ds = omega arith in
        let f : 0 + variable_count ds ≡ variable_count ds = omega arith in
        ap (λ k. or_else (find ds t) (last k (0 + variable_count ds) d t)) e
        ∙ ap (λ k. or_else (find ds t) (last (cell_count ds) k d t)) f

-- adding a declaration adds its cells and variables to the counts
pub count_push : (ds : List Declared) (d : Declared) → cell_count (ds ++ d ∷ []) ≡ cell_count ds + cell_count (d ∷ [])
count_push [] d = omega arith
count_push (cell m u ∷ ds) d = omega (arith, count_push ds d)
count_push (var m ∷ ds) d = count_push ds d
count_push (array m l at u ∷ ds) d = omega (arith, count_push ds d)

pub variables_push : (ds : List Declared) (d : Declared) → variable_count (ds ++ d ∷ [])
    ≡ variable_count ds + variable_count (d ∷ [])
variables_push [] d = omega arith
variables_push (cell m u ∷ ds) d = variables_push ds d
variables_push (var m ∷ ds) d = omega (arith, variables_push ds d)
variables_push (array m l at u ∷ ds) d = variables_push ds d

-- there are at most as many variables as declarations
pub counts_within : (ds : List Declared) → variable_count ds ≤ length ds
counts_within [] = omega arith
counts_within (cell n w ∷ ds) = omega (arith, counts_within ds)
counts_within (var n ∷ ds) = omega (arith, counts_within ds)
counts_within (array n l at w ∷ ds) = omega (arith, counts_within ds)

fits_cond : (b : Bool) (p q c v : ℕ) (x s : Slot) (o : Option Slot) → cond b (Some x) o ≡ Some s → AnyFits p q x →
    (o ≡ Some s → AnyFits p q s) → AnyFits p q s
fits_cond true p q c v x s o e h g = subst (AnyFits p q) (the_same e) h
  where
    the_same : Some x ≡ Some s → x ≡ s
    the_same e = cc
fits_cond false p q c v x s o e h g = g e

-- if there is no wrong length, this one is right and none after it is wrong
pub length_fine : (l at : ℕ) (o : Option ℕ) → cond (is_length l) o (Some at) ≡ None → (is_length l ≡ true) × (o ≡ None)
length_fine l at o h = by (is_length l) refl h
  where
    by : (b : Bool) → is_length l ≡ b → cond b o (Some at) ≡ None → (is_length l ≡ true) × (o ≡ None)
    by true e g = (e, g)
    by false e g = cc

pub length_some : (l : ℕ) → is_length l ≡ true → 0 < l
length_some l h = grind arith

pub length_few : (l : ℕ) → is_length l ≡ true → l ≤ 1024
length_few l h = grind arith

-- if no length is wrong, there are at most 1,024 cells for each declaration
pub count_within : (ds : List Declared) → wrong_length ds ≡ None → cell_count ds ≤ 1024 * length ds
count_within [] h = omega arith
count_within (cell n w ∷ ds) h = omega (arith, count_within ds h)
count_within (var n ∷ ds) h = omega (arith, count_within ds h)
count_within (array n l at w ∷ ds) h =
    let fine = length_fine l at (wrong_length ds) h in
    omega (arith, count_within ds fine.1, length_few l fine.0)

-- what a name refers to exists
pub found_fits : (c v : ℕ) (ds : List Declared) (text : List ℕ) (s : Slot) → wrong_length ds ≡ None →
    found_after c v ds text ≡ Some s → AnyFits (c + cell_count ds) (v + variable_count ds) s
found_fits c v [] text s ok h = absurd (nothing h)
  where
    nothing : None ≡ Some s → ⊥
    nothing h = cc
found_fits c v (cell n w ∷ ds) text s ok h =
    let e : c + 1 + cell_count ds ≡ c + cell_count (cell n w ∷ ds) = omega arith in
    fits_cond (bytes_eq n.text text) (c + cell_count (cell n w ∷ ds)) (v + variable_count ds) c v (Cell c) s
    (found_after (c + 1) v ds text) h (omega arith)
    (λ g. subst (λ k. AnyFits k (v + variable_count ds) s) e (found_fits (c + 1) v ds text s ok g))
found_fits c v (var n ∷ ds) text s ok h =
    let e : v + 1 + variable_count ds ≡ v + variable_count (var n ∷ ds) = omega arith in
    fits_cond (bytes_eq n.text text) (c + cell_count ds) (v + variable_count (var n ∷ ds)) c v (Var v) s
    (found_after c (v + 1) ds text) h (omega arith)
    (λ g. subst (λ k. AnyFits (c + cell_count ds) k s) e (found_fits c (v + 1) ds text s ok g))
found_fits c v (array n l at w ∷ ds) text s ok h =
    let e : c + l + cell_count ds ≡ c + cell_count (array n l at w ∷ ds) = omega arith in
    let fine = length_fine l at (wrong_length ds) ok in
    fits_cond (bytes_eq n.text text) (c + cell_count (array n l at w ∷ ds)) (v + variable_count ds) c v (Run c l) s
    (found_after (c + l) v ds text) h
    (length_some l fine.0, length_few l fine.0, omega arith)
    (λ g. subst (λ k. AnyFits k (v + variable_count ds) s) e (found_fits (c + l) v ds text s fine.1 g))

-- if a declaration's name is new, the first repeated name is that of the later declarations
pub repeated_step : (before : List Declared) (d : Declared) (ds : List Declared) → find before (declared_name d).text
    ≡ None → repeated before (d ∷ ds) ≡ repeated (before ++ d ∷ []) ds
repeated_step before d ds h = ap (λ o. cond (is_some o) (Some (declared_name d).at) (repeated (before ++ d ∷ []) ds)) h

repeated_here : (before : List Declared) (d : Declared) (ds : List Declared) (at : ℕ) →
    is_some (find before (declared_name d).text) ≡ true → at ≡ (declared_name d).at → repeated before (d ∷ ds) ≡ Some at
repeated_here before d ds at h e = ap (λ b. cond b (Some (declared_name d).at) (repeated (before ++ d ∷ []) ds)) h
    ∙ ap Some (sym e)

-- a declaration that fails has the first repeated name
pub twice_fails : (e : SourceError) (before : List Declared) (d : Declared) (ds : List Declared) (found : Option Slot) →
    found ≡ option_map narrow (find before (declared_name d).text) → DeclareFails e (declared_name d).at found →
    TwiceFails e (repeated before (d ∷ ds))
twice_fails (Twice at) before d ds found h g = repeated_here before d ds at
    (sym (some_mapped (find before (declared_name d).text)) ∙ ap is_some (sym h) ∙ g.1) g.0
twice_fails NoMemory before d ds found h g = tt
twice_fails _ before d ds found h g = absurd g
