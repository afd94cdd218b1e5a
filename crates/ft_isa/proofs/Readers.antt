-- Readers that work byte by byte: what holds of any reader whose states record what was read.
use Rattle.std.proofs.Common.{◌≡◌, ℕ, ◌+◌, ◌<◌, ◌≤◌, List, [], ◌∷◌, ◌++◌, length, take, drop, get_or, Option, Some}
use Rattle.std.proofs.Common.{None, refl, sym, ap, ◌∙◌, subst, inl, inr, arith, append_assoc}
use Rattle.std.specs.Option.{option_and_then}
use Rattle.std.proofs.lemmas.List.{take_more, take-append-drop, take_all, append-nil, take-take}
use Rattle.std.proofs.lemmas.Bool.{cases_lt}
use Rattle.ft_isa.specs.PlanText.{IsViable, IsRefusedAt}
use Rattle.ft_isa.specs.Reading.{state_after}

-- the state after two pieces is reached by reading the second from the state after the first
pub state_after-append : {S : Type 0} (next : S → ℕ → Option S) (s : S) (xs ys : List ℕ) → state_after next s (xs ++ ys)
    ≡ option_and_then (λ t. state_after next t ys) (state_after next s xs)
state_after-append next s [] ys = refl
state_after-append next s (x ∷ xs) ys =
    elim (next s x) as (λ o. option_and_then (λ a. state_after next a (xs ++ ys)) o
    ≡ option_and_then (λ t. state_after next t ys) (option_and_then (λ a. state_after next a xs) o))
    [ None ↦ refl | Some t ↦ state_after-append next t xs ys ]

-- a second piece is read from the state after the first
pub state_after-on : {S : Type 0} (next : S → ℕ → Option S) (s t : S) (xs ys : List ℕ) → state_after next s xs
    ≡ Some t → state_after next s (xs ++ ys) ≡ state_after next t ys
state_after-on next s t xs ys e = state_after-append next s xs ys ∙ ap (option_and_then (λ a. state_after next a ys)) e

-- if one piece leads from state s to t, and another from t to u, then both together lead from s to u
pub state_after-both : {S : Type 0} (next : S → ℕ → Option S) (s t u : S) (xs ys : List ℕ) → state_after next s xs
    ≡ Some t → state_after next t ys ≡ Some u → state_after next s (xs ++ ys) ≡ Some u
state_after-both next s t u xs ys e f = state_after-on next s t xs ys e ∙ f

-- if a byte leads from state s to t, the bytes after it are read from t
pub state_after-byte : {S : Type 0} (next : S → ℕ → Option S) (s t : S) (x : ℕ) (xs : List ℕ) → next s x ≡ Some t →
    state_after next s (x ∷ xs) ≡ state_after next t xs
state_after-byte next s t x xs e = ap (option_and_then (λ a. state_after next a xs)) e

-- one iteration of a loop: reading one more byte of a text
pub state_after-more : {S : Type 0} (next : S → ℕ → Option S) (s t u : S) (xs : List ℕ) (i : ℕ) → i < length xs →
    state_after next s (take i xs) ≡ Some t → next t (get_or xs i 0) ≡ Some u → state_after next s (take (i + 1) xs)
    ≡ Some u
state_after-more next s t u xs i below e f =
    ap (state_after next s) (take_more xs i 0 below) ∙ state_after-on next s t (take i xs) (get_or xs i 0 ∷ []) e
    ∙ state_after-byte next t u (get_or xs i 0) [] f

-- a reader inside another behaves as it does on its own
pub state_after-inside : {S T : Type 0} (next : S → ℕ → Option S) (outer : T → ℕ → Option T) (f : S → T) →
    ((s t : S) (b : ℕ) → next s b ≡ Some t → outer (f s) b ≡ Some (f t)) → (s t : S) (xs : List ℕ) →
    state_after next s xs ≡ Some t → state_after outer (f s) xs ≡ Some (f t)
state_after-inside next outer f h s t [] e = cc
state_after-inside {S} {T} next outer f h s t (x ∷ xs) e =
    let go : next s x ≡ next s x → option_and_then (λ a. state_after next a xs) (next s x) ≡ Some t →
    option_and_then (λ a. state_after outer a xs) (outer (f s) x) ≡ Some (f t) =
    elim (next s x) as (λ o. next s x ≡ o → option_and_then (λ a. state_after next a xs) o ≡ Some t →
    option_and_then (λ a. state_after outer a xs) (outer (f s) x) ≡ Some (f t)) [
      | None ↦ λ p q. cc
      | Some u ↦ λ p q. state_after-byte outer (f s) (f u) x xs (h s u x p) ∙ state_after-inside next outer f h u t xs q
    ] in
    go refl e

-- each state of a reader records what was read, which is a prefix of some text; a complete text is read as its value
pub record IsReader {S V : Type 0} (next : S → ℕ → Option S) (whole : S → Option V) (start : S) (told : S →
    List ℕ) (Good : S → Type 0) (Tells : List ℕ → V → Type 0) : Type 0 where
  pub begins : told start ≡ []
  pub good : Good start
  pub step : (s t : S) (b : ℕ) → Good s → next s b ≡ Some t → (told t ≡ told s ++ b ∷ []) × Good t
  pub ends : (s : S) (v : V) → Good s → whole s ≡ Some v → Tells (told s) v
  pub goes_on : (s : S) → Good s → IsViable Tells (told s)
  pub complete : (xs : List ℕ) (v : V) → Tells xs v → option_and_then whole (state_after next start xs) ≡ Some v

-- if i < n, a text that begins with the first n of these bytes begins with the first i and byte i
pub split_front : (xs zs : List ℕ) (i n : ℕ) → i < n → n ≤ length xs → (ws : List ℕ)
    × (take n xs ++ zs ≡ take i xs ++ get_or xs i 0 ∷ ws)
split_front xs zs i n below within =
    let inside : i < length xs = omega arith in
    let one : take (i + 1) xs ≡ take i xs ++ get_or xs i 0 ∷ [] = take_more xs i 0 inside in
    let shorter : take (i + 1) (take n xs) ≡ take (i + 1) xs = take-take (i + 1) n xs (omega arith) in
    let parts : take (i + 1) (take n xs) ++ drop (i + 1) (take n xs)
    ≡ take n xs = take-append-drop (i + 1) (take n xs) in
    let front : take n xs ≡ take i xs ++ get_or xs i 0 ∷ drop (i + 1) (take n xs) = sym parts
    ∙ ap (λ ys. ys ++ drop (i + 1) (take n xs)) (shorter ∙ one)
    ∙ append_assoc (take i xs) (get_or xs i 0 ∷ []) (drop (i + 1) (take n xs)) in (
      drop (i + 1) (take n xs) ++ zs,
      ap (λ ys. ys ++ zs) front
          ∙ append_assoc (take i xs) (get_or xs i 0 ∷ drop (i + 1) (take n xs)) zs,
    )

module _ {S V : Type 0} (next : S → ℕ → Option S) (whole : S → Option V) (start : S) (told : S → List ℕ) (Good : S →
    Type 0) (Tells : List ℕ → V → Type 0) (reader : IsReader next whole start told Good Tells) where
  -- a state records what was read on the way to it
  pub told_after : (s t : S) (xs : List ℕ) → Good s → state_after next s xs ≡ Some t → (told t ≡ told s ++ xs) × Good t
  told_after s t [] g e =
      let same : s ≡ t = cc in
      (subst (λ (u : S). told u ≡ told s ++ []) same (sym (append-nil (told s))), subst Good same g)
  told_after s t (x ∷ xs) g e =
      let go : next s x ≡ next s x → option_and_then (λ a. state_after next a xs) (next s x) ≡ Some t →
      (told t ≡ told s ++ x ∷ xs) × Good t =
      elim (next s x) as (λ o. next s x ≡ o → option_and_then (λ a. state_after next a xs) o ≡ Some t →
      (told t ≡ told s ++ x ∷ xs) × Good t) [
        | None ↦ λ p q. absurd cc
        | Some u ↦ λ p q.
            let one = reader.step s u x g p in
            let rest = told_after u t xs one.1 q in
            (rest.0 ∙ ap (λ ys. ys ++ xs) one.0 ∙ append_assoc (told s) (x ∷ []) xs, rest.1)
      ] in
      go refl e

  -- what the state after a text records is the text
  pub told_whole : (s : S) (xs : List ℕ) → state_after next start xs ≡ Some s → (told s ≡ xs) × Good s
  told_whole s xs e =
      let all = told_after start s xs reader.good e in
      (all.0 ∙ ap (λ ys. ys ++ xs) reader.begins, all.1)

  -- a text that is read completely as a value is a text of that value
  pub reads_ok : (s : S) (v : V) (xs : List ℕ) → state_after next start xs ≡ Some s → whole s ≡ Some v → Tells xs v
  reads_ok s v xs e f =
      let all = told_whole s xs e in
      subst (λ (ys : List ℕ). Tells ys v) all.0 (reader.ends s v all.1 f)

  -- a text of a value is read as that value
  pub reads_only : (s : S) (v : V) (xs : List ℕ) → state_after next start xs ≡ Some s → Tells xs v → whole s ≡ Some v
  reads_only s v xs e h = sym (ap (option_and_then whole) e) ∙ reader.complete xs v h

  -- no text continues with a byte for which the state has no next state
  pub no_text_past : (s : S) (xs ys : List ℕ) (b : ℕ) (v : V) → state_after next start xs ≡ Some s → next s b ≡ None →
      ¬ (Tells (xs ++ b ∷ ys) v)
  no_text_past s xs ys b v e f h =
      let whole_is = reader.complete (xs ++ b ∷ ys) v h in
      let on = state_after-on next start s xs (b ∷ ys) e in
      let stops : state_after next s (b ∷ ys) ≡ None = ap (option_and_then (λ a. state_after next a ys)) f in
      let none : option_and_then whole (state_after next start (xs ++ b ∷ ys))
      ≡ None = ap (option_and_then whole) (on ∙ stops) in
      cc

  -- a text is refused at the byte for which the state has no next state
  pub refused_at : (s : S) (xs : List ℕ) (i : ℕ) → i < length xs → state_after next start (take i xs) ≡ Some s →
      next s (get_or xs i 0) ≡ None → IsRefusedAt Tells xs i
  refused_at s xs i below e f =
      let past : (n : ℕ) (zs : List ℕ) (v : V) → i < n → n ≤ length xs → ¬ (Tells (take n xs ++ zs) v) =
      λ n zs v b w h. (let parts = split_front xs zs i n b w in
      no_text_past s (take i xs) parts.0 (get_or xs i 0) v e f (subst (λ (ys : List ℕ). Tells ys v) parts.1 h)) in
      let seen = told_whole s (take i xs) e in
      record {
        none = λ v h. past (length xs) [] v below (omega arith)
            (subst (λ (ys : List ℕ). Tells ys v) (sym (append-nil (take (length xs) xs)
            ∙ take_all (length xs) xs (omega arith))) h);
        place = record {
          within = omega arith;
          viable = subst (λ (ys : List ℕ). IsViable Tells ys) seen.0 (reader.goes_on s seen.1);
          longest = λ n w h. elim (cases_lt i n) [
            | inl more ↦ absurd (past n h.1.0 h.0 more w h.1.1)
            | inr less ↦ less
          ];
        };
      }

  -- an incomplete text is refused at its end
  pub refused_at_end : (s : S) (xs : List ℕ) → state_after next start xs ≡ Some s → whole s ≡ None →
      IsRefusedAt Tells xs (length xs)
  refused_at_end s xs e f =
      let seen = told_whole s xs e in
      record {
        none = λ v h. (let w = reads_only s v xs e h in cc);
        place = record {
          within = omega arith;
          viable = subst (λ (ys : List ℕ). IsViable Tells ys) (seen.0 ∙ sym (take_all (length xs) xs (omega arith)))
              (reader.goes_on s seen.1);
          longest = λ n w h. w;
        };
      }
