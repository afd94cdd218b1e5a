-- The rows that substitutions take stay within the table.
use Rattle.std.proofs.Common.{◌≡◌, ℕ, ◌+◌, ◌≤◌, Bool, true, false, List, [], ◌∷◌, None, sym, subst, arith, inl, inr}
use Rattle.std.specs.Prelude.{◌==◌, nat_le, if◌then◌else◌}
use Rattle.std.proofs.lemmas.Bool.{cases_eq}
use Rattle.std.proofs.lemmas.Bool.Decides.{nat_tests}
use Rattle.ft_static.specs.declared.node.Node.{Node}
use Rattle.ft_format.specs.declared.object_error.ObjectError.TheVariants as errors
use Rattle.ft_format.specs.declared.header.Header.{Header}
use Rattle.ft_format.specs.Versions.{version_of, last_instr_kind}
use Rattle.ft_format.specs.Rules.{must, ◌next◌, register_broken, zero_broken, colour_broken}
use Rattle.ft_format.specs.InstrRecords.{substitution_broken, fields_broken, instr_broken, rows_past}
use Rattle.ft_format.proofs.Unbroken.{both, after_three}

-- the rows of a substitution end within the table
substitution_within : (h : Header) (nodes : List Node) (first at x past memory : ℕ) →
    substitution_broken h nodes first at x past memory ≡ None → past ≤ h.substs
substitution_within h nodes first at x past memory none = grind (arith, nat_tests)

-- likewise for a jump or branch, green or blue
transfer_within : (h : Header) (nodes : List Node) (first at colour x high low : ℕ) (green : Bool)
    → (if green then zero_broken at x next (zero_broken (at + 4) high next zero_broken (at + 4) low)
    else substitution_broken h nodes first at x high low) ≡ None
    → first ≤ h.substs → (if green then first else high) ≤ h.substs
transfer_within h nodes first at colour x high low true none few = few
transfer_within h nodes first at colour x high low false none few = substitution_within h nodes first at x high low none

-- likewise for a jump, and for a branch
jump_past : (h : Header) (nodes : List Node) (first at a b c x high low : ℕ) →
    fields_broken h nodes first at 5 a b c x high low ≡ None → first ≤ h.substs
    → rows_past first (5 ∷ a ∷ b ∷ c ∷ x ∷ high ∷ low ∷ []) ≤ h.substs
jump_past h nodes first at a b c x high low none few =
    transfer_within h nodes first (at + 4) c x high low (c == 0)
    (after_three (register_broken (at + 1) a) (zero_broken (at + 2) b) (colour_broken (at + 3) c) _ none) few

branch_past : (h : Header) (nodes : List Node) (first at a b c x high low : ℕ) →
    fields_broken h nodes first at 6 a b c x high low ≡ None → first ≤ h.substs
    → rows_past first (6 ∷ a ∷ b ∷ c ∷ x ∷ high ∷ low ∷ []) ≤ h.substs
branch_past h nodes first at a b c x high low none few =
    transfer_within h nodes first (at + 4) c x high low (c == 0)
    (after_three (register_broken (at + 1) a) (register_broken (at + 2) b) (colour_broken (at + 3) c) _ none) few

-- likewise for any instruction, given by its fields
past_of_fields : (h : Header) (nodes : List Node) (first at kind a b c x high low : ℕ) →
    fields_broken h nodes first at kind a b c x high low ≡ None → first ≤ h.substs
    → rows_past first (kind ∷ a ∷ b ∷ c ∷ x ∷ high ∷ low ∷ []) ≤ h.substs
past_of_fields h nodes first at kind a b c x high low none few =
    elim (cases_eq kind 5) [
      | inl five ↦ subst (λ k. fields_broken h nodes first at k a b c x high low ≡ None →
          rows_past first (k ∷ a ∷ b ∷ c ∷ x ∷ high ∷ low ∷ []) ≤ h.substs) (sym five)
          (λ n. jump_past h nodes first at a b c x high low n few) none
      | inr not_five ↦ elim (cases_eq kind 6) [
        | inl six ↦ subst (λ k. fields_broken h nodes first at k a b c x high low ≡ None →
            rows_past first (k ∷ a ∷ b ∷ c ∷ x ∷ high ∷ low ∷ []) ≤ h.substs) (sym six)
            (λ n. branch_past h nodes first at a b c x high low n few) none
        | inr not_six ↦
            let no_five : (kind == 5) ≡ false = grind (arith, nat_tests) in
            let no_six : (kind == 6) ≡ false = grind (arith, nat_tests) in
            rw (no_five, no_six) few
      ]
    ]

-- the rows up to and including an instruction's are within the table
pub past_within : (h : Header) (nodes : List Node) (first at : ℕ) (row : List ℕ) → instr_broken h nodes first at row
    ≡ None → first ≤ h.substs → rows_past first row ≤ h.substs
past_within h nodes first at (kind ∷ a ∷ b ∷ c ∷ x ∷ high ∷ low ∷ []) none few =
    past_of_fields h nodes first at kind a b c x high low
    (both (must (nat_le kind (last_instr_kind (version_of h))) (errors.Kind at)) _ none).1 few
past_within h nodes first at _ none few = few
