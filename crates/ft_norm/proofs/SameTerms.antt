-- The code's tests of terms decide equality.
use Rattle.std.proofs.Common.{◌≡◌, Bool, List, refl, ap, ◌∙◌, Decides}
use Rattle.std.proofs.lemmas.Bool.Decides.{Decides-and, Decides-eqb, Decides-like}
use Rattle.std.proofs.lemmas.Slice.Eq.{slice_eq-Decides}
use lib.Pointwise.{pointwise}
use Rattle.ft_norm.specs.declared.entry.LinearTerm.{LinearTerm}
use Rattle.ft_norm.specs.declared.entry.Term.{Term}
use Rattle.ft_norm.specs.declared.packed.PackedTerm.{PackedTerm}
use Rattle.ft_norm.specs.contracts.entry.LinearTermPartialEq.TheImpl as linear
use Rattle.ft_norm.specs.contracts.entry.TermPartialEq.TheImpl as term
use Rattle.ft_norm.proofs.Packing.{rebuilt}
use Rattle.ft_norm.specs.contracts.packed.PackedTermPartialEq.TheImpl as packed

-- the test of two terms decides whether they are equal
term_decides : (a b : Term) → Decides ((term.ghosts).eq a b) (a ≡ b)
term_decides a b = Decides-like _ (λ h. ap (λ x. let t : Term = record { atoms = x; coefficient = a.coefficient } in
    t) h.0 ∙ ap (λ x. let t : Term = record { atoms = b.atoms; coefficient = x } in t) h.1)
    (λ e. (ap (λ (t : Term). t.atoms) e, ap (λ (t : Term). t.coefficient) e))
    (Decides-and _ _ (slice_eq-Decides Decides-eqb a.atoms b.atoms _ refl) (Decides-eqb a.coefficient b.coefficient))

-- the test of two linear terms decides whether they are equal
linear_decides : (a b : LinearTerm) → Decides ((linear.ghosts).eq a b) (a ≡ b)
linear_decides a b = Decides-like _ (λ h. ap (λ x. let t : LinearTerm = record {
  atom = x;
  coefficient = a.coefficient;
} in t) h.0 ∙ ap (λ x. let t : LinearTerm = record { atom = b.atom; coefficient = x } in
    t) h.1)
    (λ e. (ap (λ (t : LinearTerm). t.atom) e, ap (λ (t : LinearTerm). t.coefficient) e))
    (Decides-and _ _ (Decides-eqb a.atom b.atom) (Decides-eqb a.coefficient b.coefficient))

-- the test of two packed terms decides whether they are equal
packed_decides : (a b : PackedTerm) → Decides ((packed.ghosts).eq a b) (a ≡ b)
packed_decides a b = Decides-like _ (λ h. rebuilt a.first a.second a.third a.high a.low b.first b.second b.third b.high
    b.low h.0 h.1.0 h.1.1.0 h.1.1.1.0 h.1.1.1.1)
    (λ e. (
      ap (λ (p : PackedTerm). p.first) e,
      (
        ap (λ (p : PackedTerm). p.second) e,
        (ap (λ (p : PackedTerm). p.third) e, (ap (λ (p : PackedTerm). p.high) e, ap (λ (p : PackedTerm). p.low) e)),
      ),
    ))
    (Decides-and _ _ (Decides-eqb a.first b.first)
    (Decides-and _ _ (Decides-eqb a.second b.second)
    (Decides-and _ _ (Decides-eqb a.third b.third)
    (Decides-and _ _ (Decides-eqb a.high b.high) (Decides-eqb a.low b.low)))))

-- the tests of two lists of terms decide whether they are equal
pub terms_decide : (xs ys : List Term) (r : Bool) → r ≡ pointwise (term.ghosts).eq xs ys → Decides r (xs ≡ ys)
terms_decide = slice_eq-Decides term_decides

pub linears_decide : (xs ys : List LinearTerm) (r : Bool) → r ≡ pointwise (linear.ghosts).eq xs ys → Decides r (xs ≡ ys)
linears_decide = slice_eq-Decides linear_decides

pub packed_lists_decide : (xs ys : List PackedTerm) (r : Bool) → r ≡ pointwise (packed.ghosts).eq xs ys →
    Decides r (xs ≡ ys)
packed_lists_decide = slice_eq-Decides packed_decides
