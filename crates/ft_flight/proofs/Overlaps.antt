-- Two prefixes of one list.
use Rattle.std.proofs.Common.{◌≡◌, ℕ, zero, suc, ◌+◌, ◌-◌, ◌≤◌, List, [], ◌∷◌, ◌++◌, length, max, refl, ap, sym, subst}
use Rattle.std.proofs.Common.{◌∙◌, arith}
use Rattle.std.specs.Prelude.{drop}
use Rattle.std.proofs.Math.Nat.{sub-zero}
use Rattle.std.proofs.lemmas.List.{append-nil, length-append, length-drop}
use Rattle.ft_isa.specs.declared.output.Output.{Output}
use Rattle.ft_recover.proofs.Stretches.{one_less}

abbrev Front : List Output → List Output → Type 0
Front a b = (rest : List Output) × (a ++ rest ≡ b)

front_cons : (x : Output) (a b : List Output) → Front a b → Front (x ∷ a) (x ∷ b)
front_cons x a b h = (h.0, ap (λ l. x ∷ l) h.1)

overlap : (given more r1 r2 : List Output) → given ++ r1 ≡ more ++ r2 →
    Front (given ++ drop (length given) more) (given ++ r1)
overlap [] more r1 r2 e = (r2, sym e)
overlap (g ∷ gs) [] r1 r2 e = (r1, ap (λ l. l ++ r1) (append-nil (g ∷ gs)))
overlap (g ∷ gs) (m ∷ ms) r1 r2 e =
    let t : gs ++ r1 ≡ ms ++ r2 = cc in
    front_cons g (gs ++ drop (length gs) ms) (gs ++ r1) (overlap gs ms r1 r2 t)

-- what was given, and what follows in a longer prefix, is a prefix
pub past : (given xs more r1 r2 : List Output) → length xs ≤ length given → given ++ r1 ≡ (xs ++ more) ++ r2 →
    Front (given ++ drop (length given - length xs) more) (given ++ r1)
past given [] more r1 r2 le e = subst (λ k. Front (given ++ drop k more) (given ++ r1)) (sym (sub-zero (length given)))
    (overlap given more r1 r2 e)
past [] (x ∷ xs) more r1 r2 le e = absurd (omega (arith, le))
past (g ∷ gs) (x ∷ xs) more r1 r2 le e =
    let t : gs ++ r1 ≡ (xs ++ more) ++ r2 = cc in
    let low : length xs ≤ length gs = omega (arith, le) in
    subst (λ k. Front ((g ∷ gs) ++ drop k more) ((g ∷ gs) ++ r1)) (one_less (length gs) (length xs))
    (front_cons g (gs ++ drop (length gs - length xs) more) (gs ++ r1) (past gs xs more r1 r2 low t))

greatest : (g x m d l : ℕ) → x ≤ g → d ≡ m - (g - x) → l ≡ g + d → l ≡ max g (x + m)
greatest g x m d l le e f = omega (arith, le, e, f)

pub past_long : (given more : List Output) (x : ℕ) → x ≤ length given → length (given ++ drop (length given - x) more)
    ≡ max (length given) (x + length more)
past_long given more x le =
    greatest (length given) x (length more) (length (drop (length given - x) more)) _ le
    (length-drop (length given - x) more)
    (length-append given (drop (length given - x) more))
