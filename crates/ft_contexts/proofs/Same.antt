-- Two `Form`s stand for the same normal form exactly when their polynomials or updates are equal.
use Rattle.std.proofs.Common.{◌≡◌, ◌↔◌, Bool, true, false, List, Some, refl, ap, sym, ◌∙◌, IsTrue}
use Rattle.ft_static.specs.Form.{Form as Normal, integer_form, memory_form, Polynomial, Updates, same_polynomial}
use Rattle.ft_static.specs.Form.{same_updates}
use Rattle.ft_static.proofs.Equal.{equal_polynomials, equal_updates}
use Rattle.ft_norm.specs.declared.form.Form.{Form}
use Rattle.ft_norm.specs.Held.{held, polynomial, updates_held, IsInteger, IsMemory}

-- two tests of the same fact agree
pub same_tests : (a b : Bool) (P : Type 0) → IsTrue a ↔ P → (b ≡ true) ↔ P → a ≡ b
same_tests true true P h k = refl
same_tests true false P h k = sym (k.1 (h.0 refl))
same_tests false true P h k = h.1 (k.0 refl)
same_tests false false P h k = refl

-- two integers' `Form`s stand for the same normal form exactly when their polynomials are equal
pub held_integers : (fs : List Normal) (a b : Form) → IsInteger fs a → IsInteger fs b →
    (same_polynomial (polynomial fs a) (polynomial fs b) ≡ true) ↔ (held fs a ≡ held fs b)
held_integers fs a b h k =
    let e = equal_polynomials (polynomial fs a) (polynomial fs b) in (
      λ t. h.found ∙ ap (λ (p : Polynomial). Some (integer_form p)) (e.0 t) ∙ sym k.found,
      λ s.
          e.1 (let q : Some (integer_form (polynomial fs a)) ≡ Some (integer_form (polynomial fs b)) = sym h.found ∙ s
          ∙ k.found in cc),
    )

-- two memories' `Form`s stand for the same normal form exactly when their updates are equal
pub held_memories : (fs : List Normal) (a b : Form) → IsMemory fs a → IsMemory fs b →
    (same_updates (updates_held fs a) (updates_held fs b) ≡ true) ↔ (held fs a ≡ held fs b)
held_memories fs a b h k =
    let e = equal_updates (updates_held fs a) (updates_held fs b) in (
      λ t. h.found ∙ ap (λ (p : Updates). Some (memory_form p)) (e.0 t) ∙ sym k.found,
      λ s.
          e.1 (let q : Some (memory_form (updates_held fs a)) ≡ Some (memory_form (updates_held fs b)) = sym h.found ∙ s
          ∙ k.found in cc),
    )
