-- The register of a valid register row exists.
use Rattle.std.proofs.Common.{◌≡◌, ◌<◌, ℕ, zero, suc, ◌+◌, ◌-◌, ◌*◌, List, [], ◌∷◌, ◌++◌, drop, None, Some, ap, ◌∙◌}
use Rattle.std.proofs.Common.{subst, arith, inl, inr, ◌⊎◌}
use Rattle.std.specs.Prelude.{slice_get}
use Rattle.ft_static.specs.declared.node.Node.{Node}
use Rattle.ft_format.specs.declared.object_error.ObjectError.TheVariants as errors
use Rattle.ft_format.specs.declared.header.Header.{Header}
use Rattle.ft_format.specs.Layout.{rows, reg_layout}
use Rattle.ft_format.specs.Rules.{register_broken, reg_broken}
use Rattle.ft_format.specs.Values.{regs_end_of, type_ints_of}
use Rattle.ft_format.specs.Broken.{first_of_row, type_regs_broken, regs_broken}
use Rattle.ft_format.proofs.Layouts.{rows_plus, rows_none}
use Rattle.ft_format.proofs.Unbroken.{both}
use Rattle.ft_format.proofs.Codes.{lt_held, eq_held}
use Rattle.ft_view.specs.Ends.{AreEnds}

-- the register of one valid row exists
plain_reg : (types : ℕ) (nodes : List Node) (ints least at reg colour pad refs base code_type expr : ℕ) →
    reg_broken types nodes ints least at (reg ∷ colour ∷ pad ∷ refs ∷ base ∷ code_type ∷ expr ∷ []) ≡ None → reg < 64
plain_reg types nodes ints least at reg colour pad refs base code_type expr n =
    lt_held reg 64 (errors.Index at) (both (register_broken at reg) _ n).0

-- likewise for each row of one type
type_reg_at : (types : ℕ) (nodes : List Node) (ints least at : ℕ) (rs : List (List ℕ))
    (i reg colour pad refs base code_type expr : ℕ) → type_regs_broken types nodes ints least at rs ≡ None
    → slice_get rs i ≡ Some (reg ∷ colour ∷ pad ∷ refs ∷ base ∷ code_type ∷ expr ∷ []) → reg < 64
unfolding type_regs_broken
type_reg_at types nodes ints least at [] i reg colour pad refs base code_type expr n e = absurd (cc)
type_reg_at types nodes ints least at (r ∷ rs) zero reg colour pad refs base code_type expr n e =
    let same : r ≡ reg ∷ colour ∷ pad ∷ refs ∷ base ∷ code_type ∷ expr ∷ [] = cc in
    let p = both (reg_broken types nodes ints least at r)
    (type_regs_broken types nodes ints (first_of_row r + 1) (at + 12) rs) n in
    plain_reg types nodes ints least at reg colour pad refs base code_type expr
    (subst (λ l. reg_broken types nodes ints least at l ≡ None) same p.0)
type_reg_at types nodes ints least at (r ∷ rs) (suc i) reg colour pad refs base code_type expr n e =
    let p = both (reg_broken types nodes ints least at r)
    (type_regs_broken types nodes ints (first_of_row r + 1) (at + 12) rs) n in
    type_reg_at types nodes ints (first_of_row r + 1) (at + 12) rs i reg colour pad refs base code_type expr p.1 e

-- an element of a concatenation is in one of the two lists
in_either : {X : Type 0} (xs ys : List X) (k : ℕ) (x : X) → slice_get (xs ++ ys) k ≡ Some x →
    (slice_get xs k ≡ Some x) ⊎ ((j : ℕ) × (slice_get ys j ≡ Some x))
in_either [] ys k x h = inr (k, h)
in_either (y ∷ xs) ys zero x h = inl h
in_either (y ∷ xs) ys (suc k) x h = in_either xs ys k x h

-- there is no row among zero rows
nothing : (n k : ℕ) (bs : List ℕ) (row : List ℕ) (P : Type 0) → n ≡ 0 → slice_get (rows reg_layout n bs) k ≡ Some row →
    P
nothing n k bs row P e h =
    let none : slice_get [] k ≡ Some row = subst (λ l. slice_get l k ≡ Some row) (rows_none reg_layout n bs e) h in
    absurd (cc)

-- likewise for each row of all types
pub reg_at : (h : Header) (nodes : List Node) (start at : ℕ) (trs : List (List ℕ)) (bytes : List ℕ)
    (k reg colour pad refs base code_type expr : ℕ) → AreEnds regs_end_of h.regs start trs →
    regs_broken h nodes start at trs bytes ≡ None
    → slice_get (rows reg_layout (h.regs - start) bytes) k
    ≡ Some (reg ∷ colour ∷ pad ∷ refs ∷ base ∷ code_type ∷ expr ∷ []) → reg < 64
unfolding regs_broken AreEnds
reg_at h nodes start at [] bytes k reg colour pad refs base code_type expr ends n e =
    let all = eq_held start h.regs (errors.Order at) n in
    nothing (h.regs - start) k bytes _ (reg < 64) (omega (arith, all)) e
reg_at h nodes start at (r ∷ trs) bytes k reg colour pad refs base code_type expr ends n e =
    let count : ℕ = regs_end_of r - start in
    let own = rows reg_layout count bytes in
    let left : List ℕ = drop (12 * count) bytes in
    let p = both (type_regs_broken h.types nodes (type_ints_of r) 0 at own)
    (regs_broken h nodes (regs_end_of r) (at + 12 * count) trs left) n in
    let split : h.regs - start ≡ count + (h.regs - regs_end_of r) = omega (arith, ends.0, ends.1) in
    let both_parts : slice_get (own ++ rows reg_layout (h.regs - regs_end_of r) left) k
    ≡ Some (reg ∷ colour ∷ pad ∷ refs ∷ base ∷ code_type ∷ expr ∷ []) =
    subst (λ l. slice_get l k ≡ Some (reg ∷ colour ∷ pad ∷ refs ∷ base ∷ code_type ∷ expr ∷ []))
    (ap (λ m. rows reg_layout m bytes) split ∙ rows_plus reg_layout count (h.regs - regs_end_of r) bytes) e in
    elim (in_either own (rows reg_layout (h.regs - regs_end_of r) left) k _ both_parts) [
      | inl here ↦ type_reg_at h.types nodes (type_ints_of r) 0 at own k reg colour pad refs base code_type expr p.0
          here
      | inr there ↦ reg_at h nodes (regs_end_of r) (at + 12 * count) trs left there.0 reg colour pad refs base code_type
          expr ends.2 p.1 there.1
    ]
