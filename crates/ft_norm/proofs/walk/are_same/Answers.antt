use Rattle.std.proofs.Common.{◌≤◌, ap, map, sym, true≢false}
use Rattle.ft_norm.specs.Entries.{full, greatest}
use Rattle.ft_norm.specs.Packing.{ArePacked, HaveSmall, unpacked}
use Rattle.ft_norm.proofs.Linear.{linears_itself}
use Rattle.ft_norm.proofs.Packing.{packed_itself}
use Rattle.ft_norm.proofs.SameTerms.{linears_decide, packed_lists_decide, terms_decide}
use Rattle.ft_norm.proofs.Views.{atom_other, full_other, linear_other, packed_other}
use Rattle.ft_norm.proofs.walk.are_same.Goals as goal

pub returns-in-Linear-Linear : goal.returns-in-Linear-Linear
returns-in-Linear-Linear c =
    let d = linears_decide c.in-Linear-Linear.p.now c.in-Linear-Linear.q.now c.eq.result c.eq.ensures in
    rw (c.in-Linear-Linear.is-0, c.in-Linear-Linear.is-1) (
      λ t. ap (map full) (d.0 t),
      λ e.
          d.1 (linears_itself c.in-Linear-Linear.p.now c.in-Linear-Linear.q.now e),
    )

pub returns-in-Packed-Packed : goal.returns-in-Packed-Packed
returns-in-Packed-Packed c =
    let p = c.in-Packed-Packed.p.now in
    let q = c.in-Packed-Packed.q.now in
    let d = packed_lists_decide p q c.eq-in-Packed-Packed.result c.eq-in-Packed-Packed.ensures in
    let h : (2 ≤ greatest (map unpacked p)) × ArePacked p = rw c.in-Packed-Packed.is-0 at c.requires.first in
    let k : (2 ≤ greatest (map unpacked q)) × ArePacked q = rw c.in-Packed-Packed.is-1 at c.requires.second in
    rw (c.in-Packed-Packed.is-0, c.in-Packed-Packed.is-1) (
      λ t. ap (map unpacked) (d.0 t),
      λ e.
          d.1 (packed_itself p q h.1 k.1 e),
    )

pub returns-in-Full-Full : goal.returns-in-Full-Full
returns-in-Full-Full c = rw (c.in-Full-Full.is-0, c.in-Full-Full.is-1)
    (terms_decide c.in-Full-Full.p.now c.in-Full-Full.q.now c.eq-in-Full-Full.result c.eq-in-Full-Full.ensures)

pub returns-in_default : goal.returns-in_default
returns-in_default c = rw c.in_default.is-0 (
  λ t. absurd (true≢false (sym t)),
  λ e.
      absurd (atom_other c.in_default.field-0-0 c.args.q c.requires.second c.in_default.not-Atom-1
      c.in_default.not-Linear-1 e),
)

pub returns-in_default-2 : goal.returns-in_default-2
returns-in_default-2 c = rw c.in_default.is-0 (
  λ t. absurd (true≢false (sym t)),
  λ e.
      absurd (linear_other c.in_default.field-0-0.now c.args.q c.requires.second c.in_default.not-Atom-1
      c.in_default.not-Linear-1 e),
)

pub returns-in_default-3 : goal.returns-in_default-3
returns-in_default-3 c =
    let p = c.in_default.field-0-0.now in
    let h : (2 ≤ greatest (map unpacked p)) × ArePacked p = rw c.in_default.is-0 at c.requires.first in
    rw c.in_default.is-0 (
      λ t. absurd (true≢false (sym t)),
      λ e.
          absurd (packed_other p c.args.q h c.requires.second c.in_default.not-Packed-1 e),
    )

pub returns-in_default-4 : goal.returns-in_default-4
returns-in_default-4 c =
    let p = c.in_default.field-0-0.now in
    let h : (2 ≤ greatest p) × (HaveSmall p → ⊥) = rw c.in_default.is-0 at c.requires.first in
    rw c.in_default.is-0 (
      λ t. absurd (true≢false (sym t)),
      λ e.
          absurd (full_other p c.args.q h c.requires.second c.in_default.not-Full-1 e),
    )
