-- What may be told of a script, given what was taken of it.
use Rattle.std.proofs.Common.{◌≡◌, ◌∙◌, ℕ, ◌<◌, ◌≤◌, List, [], ◌∷◌, ◌++◌, length, take, Option, Some, None, Result, Ok}
use Rattle.std.proofs.Common.{refl, sym, ap}
use Rattle.std.proofs.Common.{subst, arith, append-nil, length-append}
use Rattle.std.specs.Prelude.{IfSome}
use Rattle.std.specs.Option.{option_map}
use Rattle.ft_edge.specs.Takes.{after_read, TakesBack}
use Rattle.ft_tool.specs.Replies.{IsScript}
use Rattle.ft_tool.specs.Known.{MayBegin, is_left, was_taken, joined}

-- the recorded reads rose by these bytes
abbrev pub HasRead : Option (List (List ℕ)) → Option (List (List ℕ)) → List ℕ → Type 0
HasRead before after text = (reads : List (List ℕ)) → before ≡ Some reads
    → (reads' : List (List ℕ)) × ((after ≡ Some reads') × (joined reads' ≡ joined reads ++ text))

pub none_read : (told : Option (List (List ℕ))) → HasRead told told []
none_read told reads e = (reads, (e, sym (append-nil (joined reads))))

append_assoc : (xs ys zs : List ℕ) → (xs ++ ys) ++ zs ≡ xs ++ (ys ++ zs)
append_assoc [] ys zs = refl
append_assoc (x ∷ xs) ys zs = ap (λ l. x ∷ l) (append_assoc xs ys zs)

tail_of : List ℕ → List ℕ
tail_of [] = []
tail_of (x ∷ xs) = xs

append_cancel : (xs ys zs : List ℕ) → xs ++ ys ≡ xs ++ zs → ys ≡ zs
unfolding tail_of
append_cancel [] ys zs e = e
append_cancel (x ∷ xs) ys zs e = append_cancel xs ys zs (ap tail_of e)

pub more_read : (before between after : Option (List (List ℕ))) (text more text' : List ℕ) → HasRead before between text
    → after ≡ option_map (λ reads. more ∷ reads) between → text' ≡ text ++ more → HasRead before after text'
more_read before between after text more text' h e longer reads is =
    let m = h reads is in (
      more ∷ m.0,
      (
        e ∙ ap (λ told. option_map (λ rs. more ∷ rs) told) m.1.0,
        ap (λ l. l ++ more) m.1.1 ∙ append_assoc (joined reads) text more ∙ ap (λ l. joined reads ++ l) (sym longer),
      ),
    )

reads_of : Option (List (List ℕ)) → List (List ℕ)
reads_of None = []
reads_of (Some reads) = reads

same_reads : (xs ys : List (List ℕ)) → Some xs ≡ Some ys → xs ≡ ys
unfolding reads_of
same_reads xs ys e = ap (λ (o : Option (List (List ℕ))). reads_of o) e

-- the bytes that were read begin the script
pub begins : {before after : Option (List (List ℕ))} (text : List ℕ) → HasRead before after text
    → (reads reads' : List (List ℕ)) (rest script : List ℕ) → before ≡ Some reads → after ≡ Some reads'
    → joined reads ++ script ≡ joined reads' ++ rest → script ≡ text ++ rest
begins text h reads reads' rest script e e' is =
    let m = h reads e in
    let same : joined m.0 ≡ joined reads' = ap joined (same_reads m.0 reads' (sym m.1.0 ∙ e')) in
    append_cancel (joined reads) script (text ++ rest)
    (is ∙ ap (λ l. l ++ rest) (sym same ∙ m.1.1) ∙ append_assoc (joined reads) text rest)

-- if the last take found the script at its end, the bytes read before are the whole script, whatever may be told of it
pub whole_begun : (E : Type 0) (Left : List ℕ → Type 0) {known left : Option (List ℕ)}
    (before between after : Option (List (List ℕ))) {Left' : List ℕ → Type 0} (text : List ℕ) (n : ℕ) (buf : List ℕ) →
    HasRead before between text
    → after ≡ option_map (λ reads. take n buf ∷ reads) between → n ≡ 0 → 0 < length buf
    → ((rest : List ℕ) → Left' rest → TakesBack {E = E} Left rest (Ok n) buf) → IfSome known (λ told. text ≡ told)
    → MayBegin known before after Left' left → IfSome left (λ told. text ≡ told)
whole_begun E Left before between after text n buf read e none room back whole (is_left same) =
    subst (λ l. IfSome l (λ told. text ≡ told)) (sym same) whole
whole_begun E Left before between after text n buf read e none room back whole
    (was_taken reads reads' rest script b a may is same) =
    let nothing : take n buf ≡ [] = ap (λ k. take k buf) none in
    let all : text ≡ text ++ take n buf = sym (append-nil text) ∙ ap (λ l. text ++ l) (sym nothing) in
    let more = more_read before between after text (take n buf) text read e all in
    let begun : script ≡ text ++ rest = begins text more reads reads' rest script b a is in
    let end : rest ≡ [] = (back rest may).1 none room in
    subst (λ l. IfSome l (λ told. text ≡ told)) (sym same)
    (sym (begun ∙ ap (λ l. text ++ l) end ∙ append-nil text))

-- if more bytes than the limit were read, the script is longer than the limit, whatever may be told of it
pub longer_begun : {known left : Option (List ℕ)} {before after : Option (List (List ℕ))} {Left : List ℕ → Type 0}
    (text : List ℕ) → HasRead before after text → 1048576 < length text
    → (all : List ℕ) × (IsScript known all × (1048576 < length all)) → MayBegin known before after Left left
    → (all : List ℕ) × (IsScript left all × (1048576 < length all))
longer_begun text read long known_longer (is_left same) =
    subst (λ l. (all : List ℕ) × (IsScript l all × (1048576 < length all))) (sym same) known_longer
longer_begun text read long known_longer (was_taken reads reads' rest script b a may is same) =
    let begun : script ≡ text ++ rest = begins text read reads reads' rest script b a is in
    let e : length script ≡ length (text ++ rest) = ap length begun in
    subst (λ l. (all : List ℕ) × (IsScript l all × (1048576 < length all))) (sym same)
    (script, (refl, omega (arith, e, length-append {A = ℕ}, long)))
