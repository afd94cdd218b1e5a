-- Texts without a space: numbers and sites.
use Rattle.std.proofs.Common.{◌≡◌, ◌≢◌, ℕ, ◌+◌, ◌%◌, ◌^◌, ◌<◌, List, [], ◌∷◌, ◌++◌, Option, Some, None, decimal, codes}
use Rattle.std.proofs.Common.{sym, ◌∙◌, arith}
use Rattle.std.specs.List.{AllByRecursion}
use Rattle.std.proofs.lemmas.List.Elements.{All-from_recursion, All-cons}
use Rattle.std.proofs.lemmas.Fmt.{decimal_by_steps}
use Rattle.ft_isa.specs.Words.{IsWord}
use Rattle.ft_isa.specs.PlanText.{IsNumberText, IsSite, site_text}
use Rattle.ft_isa.specs.declared.plan.Site.{Site}
use Rattle.ft_isa.specs.declared.plan.Site.TheVariants as sites
use Rattle.ft_text.proofs.FirstWords.{HasNoSpace}

-- digits are not spaces
pub decimal_no_space : (n : ℕ) → n < 2 ^ 64 → HasNoSpace (decimal n)
decimal_no_space n word =
    All-from_recursion (λ byte. byte ≢ 32) (decimal n)
    (decimal_by_steps (λ m ds. AllByRecursion (λ byte. byte ≢ 32) ds) (λ m h. (λ is. absurd (omega arith), tt))
    (λ m ds ten front. further ds (48 + m % 10) front (λ is. absurd (omega arith))) n word)
  where
    further : (ds : List ℕ) (b : ℕ) → AllByRecursion (λ byte. byte ≢ 32) ds → b ≢ 32 →
        AllByRecursion (λ byte. byte ≢ 32) (ds ++ b ∷ [])
    further [] b h l = (l, tt)
    further (x ∷ ds) b h l = (h.0, further ds b h.1 l)

-- a site's text has no space
pub site_no_space : (s : Site) → IsSite s → HasNoSpace (site_text s)
site_no_space (sites.R reg) h = let below = reg.in_range in
    All-cons (λ byte. byte ≢ 32) 114 (decimal reg.number) (λ is.
    absurd (omega arith)) (decimal_no_space reg.number (omega arith))
site_no_space sites.D h = All-from_recursion (λ byte. byte ≢ 32) (codes "d") (λ is. absurd (omega arith), tt)
site_no_space sites.PcG h = All-from_recursion (λ byte. byte ≢ 32) (codes "pcg") (
  λ is. absurd (omega arith),
  (λ is. absurd (omega arith), (λ is. absurd (omega arith), tt)),
)
site_no_space sites.PcB h = All-from_recursion (λ byte. byte ≢ 32) (codes "pcb") (
  λ is. absurd (omega arith),
  (λ is. absurd (omega arith), (λ is. absurd (omega arith), tt)),
)
site_no_space (sites.QAddr n) h =
    All-cons (λ byte. byte ≢ 32) 113 (97 ∷ decimal n) (λ is.
    absurd (omega arith)) (All-cons (λ byte. byte ≢ 32) 97 (decimal n) (λ is.
    absurd (omega arith)) (decimal_no_space n (omega arith)))
site_no_space (sites.QVal n) h =
    All-cons (λ byte. byte ≢ 32) 113 (118 ∷ decimal n) (λ is.
    absurd (omega arith)) (All-cons (λ byte. byte ≢ 32) 118 (decimal n) (λ is.
    absurd (omega arith)) (decimal_no_space n (omega arith)))

-- if no number was read, the text is not a number
pub no_number : (text : List ℕ) (r : Option ℕ) → r ≡ None → ((n : ℕ) → IsNumberText text n → r ≡ Some n) → (n : ℕ) →
    IsWord n → text ≢ decimal n
no_number text r is exact n word e = let none : None ≡ Some n = sym is ∙ exact n (word, e) in absurd (cc)
