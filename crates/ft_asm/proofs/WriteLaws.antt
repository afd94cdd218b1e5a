-- Writing lines one after the other.
use Rattle.std.proofs.Common.{◌≡◌, ℕ, suc, ◌+◌, ◌-◌, ◌<◌, ◌≤◌, List, ◌++◌, length, drop, Some, codes, ap, sym, ◌∙◌}
use Rattle.std.proofs.Common.{append_assoc, append-nil, slice_get, arith}
use Rattle.std.specs.List.{flat_map}
use Rattle.std.proofs.lemmas.List.{drop_all}
use Rattle.ft_isa.specs.declared.basic.Base.{Base}
use Rattle.ft_isa.proofs.Lists.{drop_there}
use Rattle.ft_asm.specs.Operands.{refs_word}

refs_step : (n m : ℕ) (base : Base) → n ≡ suc m → refs_word n base ≡ codes "ref:" ++ refs_word m base
refs_step n m base e = ap (λ k. refs_word k base) e

-- after one more `ref:` is written, the text so far and what is left still make up the whole
pub refs_goes : (refs n : ℕ) (base : Base) (old new all : List ℕ) → n < refs → new ≡ old ++ codes "ref:" → old
    ++ refs_word (refs - n) base ≡ all → new ++ refs_word (refs - (n + 1)) base ≡ all
refs_goes refs n base old new all lt e h =
    ap (λ l. l ++ refs_word (refs - (n + 1)) base) e ∙ append_assoc old (codes "ref:") (refs_word (refs - (n + 1)) base)
    ∙ ap (λ l. old ++ l) (sym (refs_step (refs - n) (refs - (n + 1)) base (omega arith))) ∙ h

-- after one more line is written, the text so far and the lines left still make up the whole
pub line_goes : {A : Type 0} (text : A → List ℕ) (xs : List A) (n : ℕ) (x : A) (old new all : List ℕ) → slice_get xs n
    ≡ Some x → new ≡ old ++ text x → old ++ flat_map text (drop n xs) ≡ all → new ++ flat_map text (drop (n + 1) xs)
    ≡ all
line_goes text xs n x old new all is e h =
    let next : n + 1 ≡ suc n = omega arith in
    ap (λ l. l ++ flat_map text (drop (n + 1) xs)) e ∙ append_assoc old (text x) (flat_map text (drop (n + 1) xs))
    ∙ ap (λ k. old ++ (text x ++ flat_map text (drop k xs))) next
    ∙ ap (λ l. old ++ flat_map text l) (sym (drop_there xs n x is)) ∙ h

-- after all lines are written, the text so far is the whole
pub line_ends : {A : Type 0} (text : A → List ℕ) (xs : List A) (n : ℕ) (old all : List ℕ) → length xs ≤ n → old
    ++ flat_map text (drop n xs) ≡ all → old ≡ all
line_ends text xs n old all le h = sym (append-nil old) ∙ ap (λ l. old ++ flat_map text l) (sym (drop_all n xs le)) ∙ h
