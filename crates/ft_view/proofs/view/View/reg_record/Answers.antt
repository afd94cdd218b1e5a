use Rattle.std.specs.Prelude.{slice_get}
use Rattle.std.proofs.Common.{◌≡◌, ◌-◌, None, Some, subst, sym, arith}
use Rattle.ft_format.specs.declared.header.Header.{Header}
use Rattle.ft_format.specs.Layout.{rows, reg_layout}
use Rattle.ft_format.specs.Broken.{regs_at}
use Rattle.ft_format.specs.Fields.{reg_numbers}
use Rattle.ft_format.specs.Broken.{header_at, broken, nodes_read, regs_part}
use Rattle.ft_view.specs.Viewed.{reg_records, type_records}
use Rattle.ft_view.proofs.Whole.{unbroken}
use Rattle.ft_view.proofs.CountedParts.{type_ends}
use Rattle.ft_view.proofs.RegPlain.{reg_at}
use Rattle.ft_view.proofs.Opened.{sections, below, row_there}
use Rattle.ft_view.proofs.view.View.reg_record.Goals as goal

pub stretch-requires : goal.stretch-requires
stretch-requires c =
    let u = sections c.self.inside.header c.self.inside.at c.self.inside.bytes.now c.self.invariant in
    omega (
      arith,
      u.whole.whole,
      c.self.invariant.places.regs,
      below c.self.inside.header c.self.inside.at c.self.inside.bytes.now c.args.self.now (λ (k : Header).
          k.regs) c.args.i c.self.invariant (sym c.self.view_is) c.requires,
    )

pub returns-clause-there : goal.returns-clause-there
returns-clause-there c = row_there reg_layout (λ (k : Header). k.regs) regs_at c.self.inside.header c.self.inside.at
    c.self.inside.bytes.now c.args.self.now c.stretch.result.now _ c.args.i _ c.self.invariant (sym c.self.view_is)
    c.requires (omega (arith, c.self.invariant.places.regs)) c.stretch.ensures.bytes c.read.ensures

pub returns-clause-register : goal.returns-clause-register
returns-clause-register c =
    let seen = c.args.self.now in
    let u = unbroken seen (subst (λ b. broken b ≡ None) c.self.view_is c.self.invariant.unbroken) in
    let h = header_at seen in
    let all : h.regs ≡ h.regs - 0 = omega arith in
    let ends = type_ends c.self.inside.header c.self.inside.at c.self.inside.bytes.now seen c.self.invariant
    c.self.view_is in
    let there : slice_get (reg_records seen) c.args.i ≡ Some (reg_numbers c.read.result) =
    row_there reg_layout (λ (k : Header). k.regs) regs_at c.self.inside.header c.self.inside.at
    c.self.inside.bytes.now c.args.self.now c.stretch.result.now _ c.args.i _ c.self.invariant (sym c.self.view_is)
    c.requires (omega (arith, c.self.invariant.places.regs)) c.stretch.ensures.bytes c.read.ensures in
    reg_at h (nodes_read h seen) 0 (regs_at h) (type_records seen) (regs_part h seen) c.args.i _ _ _ _ _ _ _ ends.0
    u.regs (subst (λ m. slice_get (rows reg_layout m (regs_part h seen)) c.args.i ≡ Some (reg_numbers c.read.result))
    all there)
