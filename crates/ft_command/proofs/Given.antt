-- Options by their names.
use Rattle.std.proofs.Common.{◌≡◌, ℕ, List, true, false, sym, ap, ◌∙◌, subst, codes, OnOk, Result, Ok, Err, nat_eq}
use Rattle.std.proofs.Common.{slice_index, ◌∷◌, [], ◌≤◌, ◌-◌, length, take, drop, map, get_or, arith, refl, ◌<◌}
use Rattle.std.proofs.lemmas.List.{take_all}
use Rattle.std.proofs.lemmas.Bool.{true≢false}
use Rattle.ft_command.specs.declared.allowed.Allowed.{Allowed}
use Rattle.ft_command.specs.declared.options.OptionError.{OptionError}
use Rattle.ft_command.specs.Options.{Word, Given, GivesSteps, GivesTurns, GivesStrike, GivesWild, GivesFaults, Gives}
use Rattle.ft_command.specs.Options.{by_steps, by_turns, by_strike, by_wild, by_faults, GivesAll}

-- a word cannot equal both of two names that differ in a letter
differ : (name a b : Word) (i x : ℕ) → name ≡ a → name ≡ b → nat_eq (slice_index a i) x ≡ true →
    nat_eq (slice_index b i) x ≡ false → ⊥
differ name a b i x e f p q = true≢false (sym p ∙ ap (λ n. nat_eq (slice_index n i) x) (sym e ∙ f) ∙ q)

-- an option named `--steps` gives only what `--steps` gives
pub steps_only : (allowed : Allowed) (name value : Word) (old new : Given) → name ≡ codes "--steps" →
    ((g : Given) → GivesSteps allowed (codes "--steps") value old g → g ≡ new) → (g : Given) →
    Gives allowed name value old g → g ≡ new
steps_only allowed name value old new is only g (by_steps h) =
    only g (subst (λ n. GivesSteps allowed n value old g) is h)
steps_only allowed name value old new is only g (by_turns h) =
    absurd (differ name (codes "--steps") (codes "--turns") 2 115 is h.name_is refl refl)
steps_only allowed name value old new is only g (by_strike h) =
    absurd (differ name (codes "--steps") (codes "--fault") 2 115 is h.name_is refl refl)
steps_only allowed name value old new is only g (by_wild h) =
    absurd (differ name (codes "--steps") (codes "--wild") 2 115 is h.name_is refl refl)
steps_only allowed name value old new is only g (by_faults h) =
    absurd (differ name (codes "--steps") (codes "--faults") 2 115 is h.name_is refl refl)

-- an option named `--turns` gives only what `--turns` gives
pub turns_only : (allowed : Allowed) (name value : Word) (old new : Given) → name ≡ codes "--turns" →
    ((g : Given) → GivesTurns allowed (codes "--turns") value old g → g ≡ new) → (g : Given) →
    Gives allowed name value old g → g ≡ new
turns_only allowed name value old new is only g (by_steps h) =
    absurd (differ name (codes "--turns") (codes "--steps") 2 116 is h.name_is refl refl)
turns_only allowed name value old new is only g (by_turns h) =
    only g (subst (λ n. GivesTurns allowed n value old g) is h)
turns_only allowed name value old new is only g (by_strike h) =
    absurd (differ name (codes "--turns") (codes "--fault") 2 116 is h.name_is refl refl)
turns_only allowed name value old new is only g (by_wild h) =
    absurd (differ name (codes "--turns") (codes "--wild") 2 116 is h.name_is refl refl)
turns_only allowed name value old new is only g (by_faults h) =
    absurd (differ name (codes "--turns") (codes "--faults") 2 116 is h.name_is refl refl)

-- an option named `--fault` gives only what `--fault` gives
pub strike_only : (allowed : Allowed) (name value : Word) (old new : Given) → name ≡ codes "--fault" →
    ((g : Given) → GivesStrike allowed (codes "--fault") value old g → g ≡ new) → (g : Given) →
    Gives allowed name value old g → g ≡ new
strike_only allowed name value old new is only g (by_steps h) =
    absurd (differ name (codes "--fault") (codes "--steps") 2 102 is h.name_is refl refl)
strike_only allowed name value old new is only g (by_turns h) =
    absurd (differ name (codes "--fault") (codes "--turns") 2 102 is h.name_is refl refl)
strike_only allowed name value old new is only g (by_strike h) =
    only g (subst (λ n. GivesStrike allowed n value old g) is h)
strike_only allowed name value old new is only g (by_wild h) =
    absurd (differ name (codes "--fault") (codes "--wild") 2 102 is h.name_is refl refl)
strike_only allowed name value old new is only g (by_faults h) =
    absurd (differ name (codes "--fault") (codes "--faults") 7 0 is h.name_is refl refl)

-- an option named `--wild` gives only what `--wild` gives
pub wild_only : (allowed : Allowed) (name value : Word) (old new : Given) → name ≡ codes "--wild" →
    ((g : Given) → GivesWild allowed (codes "--wild") value old g → g ≡ new) → (g : Given) →
    Gives allowed name value old g → g ≡ new
wild_only allowed name value old new is only g (by_steps h) =
    absurd (differ name (codes "--wild") (codes "--steps") 2 119 is h.name_is refl refl)
wild_only allowed name value old new is only g (by_turns h) =
    absurd (differ name (codes "--wild") (codes "--turns") 2 119 is h.name_is refl refl)
wild_only allowed name value old new is only g (by_strike h) =
    absurd (differ name (codes "--wild") (codes "--fault") 2 119 is h.name_is refl refl)
wild_only allowed name value old new is only g (by_wild h) = only g (subst (λ n. GivesWild allowed n value old g) is h)
wild_only allowed name value old new is only g (by_faults h) =
    absurd (differ name (codes "--wild") (codes "--faults") 2 119 is h.name_is refl refl)

-- an option named `--faults` gives only what `--faults` gives
pub faults_only : (allowed : Allowed) (name value : Word) (old new : Given) → name ≡ codes "--faults" →
    ((g : Given) → GivesFaults allowed (codes "--faults") value old g → g ≡ new) → (g : Given) →
    Gives allowed name value old g → g ≡ new
faults_only allowed name value old new is only g (by_steps h) =
    absurd (differ name (codes "--faults") (codes "--steps") 2 102 is h.name_is refl refl)
faults_only allowed name value old new is only g (by_turns h) =
    absurd (differ name (codes "--faults") (codes "--turns") 2 102 is h.name_is refl refl)
faults_only allowed name value old new is only g (by_strike h) =
    absurd (differ name (codes "--faults") (codes "--fault") 7 115 is h.name_is refl refl)
faults_only allowed name value old new is only g (by_wild h) =
    absurd (differ name (codes "--faults") (codes "--wild") 2 102 is h.name_is refl refl)
faults_only allowed name value old new is only g (by_faults h) =
    only g (subst (λ n. GivesFaults allowed n value old g) is h)

-- what is known after a successful call may be weakened
pub on_ok : {A P Q : Type 0} (r : Result A OptionError) → (P → Q) → OnOk r P → OnOk r Q
on_ok (Ok x) f h = f h
on_ok (Err e) f h = tt

-- a list of at least two words is the first two followed by the rest
pub split_two : {A B : Type 0} (f : A → B) (xs : List A) (a b : A) (n m : B) → 2 ≤ length xs → a ≡ get_or xs 0 a → b
    ≡ get_or xs 1 b → n ≡ f a → m ≡ f b → map f xs ≡ n ∷ m ∷ map f (take (length xs - 2) (drop 2 xs))
split_two f [] a b n m two first second p q = absurd (omega arith)
split_two f (x ∷ []) a b n m two first second p q = absurd (omega arith)
split_two f (x ∷ y ∷ xs) a b n m two first second p q =
    let rest : take (length (x ∷ y ∷ xs) - 2) xs ≡ xs = take_all _ xs (omega arith) in
    ap (λ v. v ∷ f y ∷ map f xs) (ap f (sym first) ∙ sym p) ∙ ap (λ v. n ∷ v ∷ map f xs) (ap f (sym second) ∙ sym q)
    ∙ ap (λ v. n ∷ m ∷ map f v) (sym rest)

-- words give what their rest gives after their first option
pub gives_on : (allowed : Allowed) (words more : List Word) (name value : Word) (old new g : Given) → words
    ≡ name ∷ value ∷ more → ((mid : Given) → Gives allowed name value old mid → mid ≡ new) →
    GivesAll allowed words old g → GivesAll allowed more new g
gives_on allowed words more name value old new g split only h =
    let parts = subst (λ ws. GivesAll allowed ws old g) split h in
    subst (λ mid. GivesAll allowed more mid g) (only parts.0 parts.1.0) parts.1.1

pub gives_back : (allowed : Allowed) (words more : List Word) (name value : Word) (old new g : Given) → words
    ≡ name ∷ value ∷ more → Gives allowed name value old new → GivesAll allowed more new g →
    GivesAll allowed words old g
gives_back allowed words more name value old new g split one h =
    subst (λ ws. GivesAll allowed ws old g) (sym split) (new, (one, h))

-- words give nothing if their first option is not valid
pub gives_nothing : (allowed : Allowed) (words more : List Word) (name value : Word) (old g : Given) → words
    ≡ name ∷ value ∷ more → ((mid : Given) → Gives allowed name value old mid → ⊥) → GivesAll allowed words old g → ⊥
gives_nothing allowed words more name value old g split none h =
    let parts = subst (λ ws. GivesAll allowed ws old g) split h in
    none parts.0 parts.1.0

-- an empty list of words gives nothing new
pub gives_same : {A : Type 0} (f : A → Word) (allowed : Allowed) (xs : List A) (old : Given) → length xs ≡ 0 →
    GivesAll allowed (map f xs) old old
gives_same f allowed [] old e = refl
gives_same f allowed (x ∷ xs) old e = absurd (omega arith)

pub gives_only : {A : Type 0} (f : A → Word) (allowed : Allowed) (xs : List A) (old g : Given) → length xs ≡ 0 →
    GivesAll allowed (map f xs) old g → g ≡ old
gives_only f allowed [] old g e h = h
gives_only f allowed (x ∷ xs) old g e h = absurd (omega arith)

-- a single word left over is not a valid option
pub one_left : {A : Type 0} (f : A → Word) (allowed : Allowed) (xs : List A) (old g : Given) → length xs < 2 →
    (length xs ≡ 0 → ⊥) → GivesAll allowed (map f xs) old g → ⊥
one_left f allowed [] old g short some h = some refl
one_left f allowed (x ∷ []) old g short some h = h
one_left f allowed (x ∷ y ∷ xs) old g short some h = absurd (omega arith)
