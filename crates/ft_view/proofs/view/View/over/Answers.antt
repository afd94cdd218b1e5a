use Rattle.std.proofs.Common.{arith}
use Rattle.ft_format.specs.Broken.{object_of, version_at}
use Rattle.ft_format.specs.Format.{AreBytes}
use Rattle.ft_format.proofs.ReadWhole.{read_spells}
use Rattle.ft_format.proofs.Write.{spells_unbroken, spells_read}
use Rattle.ft_view.proofs.view.View.over.Goals as goal

pub returns-in_err-header-clause-exact : goal.returns-in_err-header-clause-exact
returns-in_err-header-clause-exact c =
    let bytes : AreBytes c.args.bytes.now = λ i. omega (arith, c.type_inv.bytes i) in (
      λ none. (version_at c.args.bytes.now, object_of c.args.bytes.now, read_spells c.args.bytes.now bytes none),
      λ s.
          spells_unbroken c.args.bytes.now s.0 s.1 s.2,
    )

pub returns-clause-spelled : goal.returns-clause-spelled
returns-clause-spelled c =
    let bytes : AreBytes c.args.bytes.now = λ i. omega (arith, c.type_inv.bytes i) in
    read_spells c.args.bytes.now bytes c.in_ok-header.ensures.judged

pub returns-clause-one : goal.returns-clause-one
returns-clause-one c = λ v o h. spells_read c.args.bytes.now v o h

pub returns-clause-exact : goal.returns-clause-exact
returns-clause-exact c =
    let bytes : AreBytes c.args.bytes.now = λ i. omega (arith, c.type_inv.bytes i) in (
      λ none. (version_at c.args.bytes.now, object_of c.args.bytes.now, read_spells c.args.bytes.now bytes none),
      λ s.
          spells_unbroken c.args.bytes.now s.0 s.1 s.2,
    )
