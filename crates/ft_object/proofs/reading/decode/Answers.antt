use Rattle.std.proofs.Common.{sym, ◌∙◌, arith}
use Rattle.ft_format.specs.Broken.{object_of, version_at}
use Rattle.ft_format.specs.Format.{AreBytes}
use Rattle.ft_format.proofs.ReadWhole.{read_spells}
use Rattle.ft_format.proofs.Write.{spells_unbroken, spells_read}
use Rattle.ft_object.proofs.Answered.{spelled, given}
use Rattle.ft_object.proofs.reading.decode.Goals as goal

pub returns-clause-spelled : goal.returns-clause-spelled
returns-clause-spelled c =
    let bytes : AreBytes c.args.bytes.now = λ i. omega (arith, c.type_inv.bytes i) in
    spelled c.args.bytes.now c.read_object.result bytes c.read_object.ensures.judged c.read_object.ensures.read

pub returns-clause-exact : goal.returns-clause-exact
returns-clause-exact c =
    let bytes : AreBytes c.args.bytes.now = λ i. omega (arith, c.type_inv.bytes i) in (
      λ none. (version_at c.args.bytes.now, object_of c.args.bytes.now, read_spells c.args.bytes.now bytes none),
      λ s.
          spells_unbroken c.args.bytes.now s.0 s.1 s.2,
    )

pub returns-clause-one : goal.returns-clause-one
returns-clause-one c = λ v w o other p q. sym (spells_read c.args.bytes.now v o p)
    ∙ spells_read c.args.bytes.now w other q

pub returns-clause-given : goal.returns-clause-given
returns-clause-given c = λ v o h. given c.args.bytes.now c.read_object.result v o c.read_object.ensures.judged
    c.read_object.ensures.read h
