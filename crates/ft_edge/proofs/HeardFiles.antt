-- What is heard of a file in several reads, and the files that agree with it.
use Rattle.std.proofs.Common.{◌≡◌, ℕ, ◌<◌, arith, Bool, true, false, ◌||◌, List, [], ◌∷◌, ◌++◌, length, Option, Some}
use Rattle.std.proofs.Common.{refl, ap}
use Rattle.std.proofs.Common.{subst, ◌∙◌, append_assoc, append-nil, length-append, Result, Ok, Err, inl, inr}
use Rattle.ft_history.specs.Files.{HeardFile, gives, gave}
use Rattle.ft_edge.specs.Loads.{Files}
use Rattle.ft_edge.specs.Heard.{Agree, LoadsHeard, LoadsFrom}
use Rattle.ft_edge.specs.declared.shelf.Load.{Load}
use Rattle.ft_edge.specs.declared.shelf.Load.TheVariants.{Whole, TooLong}
use Rattle.ft_edge.specs.declared.shelf.LoadFault.{LoadFault}

-- two files with equal parts are equal
same_file : (name : List ℕ) {g g' : List ℕ} {e e' : Bool} (files : List HeardFile) → g ≡ g' → e ≡ e' →
    ◌≡◌ {A = List HeardFile} (record { name = name; given = g; ended = e } ∷ files) (record {
      name = name;
      given = g';
      ended = e';
    } ∷ files)
same_file name files a b = λ i. record { name = name; given = a i; ended = b i } ∷ files

or_assoc : (a b c : Bool) → (a || (b || c)) ≡ ((a || b) || c)
or_assoc true b c = refl
or_assoc false b c = refl

pub gives_twice : (files : List HeardFile) (xs ys : List ℕ) (a b : Bool) → gives (gives files xs a) ys b
    ≡ gives files (xs ++ ys) (b || a)
gives_twice [] xs ys a b = refl
gives_twice (f ∷ files) xs ys a b = same_file f.name files (append_assoc f.given xs ys) (or_assoc b a f.ended)

pub gives_none : (files : List HeardFile) → gives files [] false ≡ files
gives_none [] = refl
gives_none (f ∷ files) = same_file f.name files (append-nil f.given) refl

-- a read that returned some bytes did not find the end
pub gave_some : (files : List HeardFile) (bytes : List ℕ) → 0 < length bytes → gave files bytes
    ≡ gives files bytes false
gave_some files [] h = absurd (omega arith)
gave_some files (b ∷ bs) h = refl

-- what a load returns is what the files have that agree with all that was heard
pub heard_loads : (known : Option (List ℕ)) (r : Result Load LoadFault) (old new : List HeardFile) (name : List ℕ)
    (limit : ℕ) (into : List ℕ)
    (files : Files)
    → LoadsHeard known old new name limit into r → Agree new files → Agree old files × LoadsFrom files name limit into r
heard_loads known (Ok Whole) old new name limit into files h agree =
    let a = subst (λ heard. Agree heard files) h.1.heard agree in
    (a.1, a.0.found ∙ ap (λ rest. Some (into ++ rest)) (a.0.whole refl) ∙ ap Some (append-nil into))
heard_loads known (Ok TooLong) old new name limit into files h agree =
    let bytes = h.1.0 in
    let longer = h.1.2 in
    let a = subst (λ heard. Agree heard files) h.1.1.heard agree in (
      a.1,
      record {
        bytes = bytes ++ a.0.rest;
        found = a.0.found;
        longer = omega (arith, longer, length-append bytes a.0.rest);
      },
    )
heard_loads known (Err e) old new name limit into files (inl h) agree = (subst (λ heard. Agree heard files) h agree, tt)
heard_loads known (Err e) old new name limit into files (inr h) agree =
    let a = subst (λ heard. Agree heard files) h.1.1.heard agree in
    (a.1, tt)
