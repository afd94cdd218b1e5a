use Rattle.std.proofs.Common.{sym, ap, ◌∙◌, subst}
use Rattle.ft_types.specs.Spellable.{IsSpellable}
use Rattle.ft_format.specs.declared.version.Version.TheVariants.{Second}
use Rattle.ft_format.specs.Broken.{broken, object_of}
use Rattle.ft_encode.proofs.Fitting.{fitting_read}
use Rattle.ft_asm.proofs.Sizes.{reading_fits}
use Rattle.ft_asm.proofs.Judged.{passed_on}
use Rattle.ft_asm.proofs.assembly.assemble_whole.Goals as goal

pub spell-requires : goal.spell-requires
spell-requires c = (reading_fits c.args.text.now c.in_ok-object.object c.in_ok-object.ensures.few
    c.in_ok-object.ensures.reads).counts

pub returns-in-Ok-over-clause-reads : goal.returns-in-Ok-over-clause-reads
returns-in-Ok-over-clause-reads c = (
  c.in_ok-object.ensures.few,
  c.in_ok-object.ensures.reads,
  ap broken (sym (c.as_slice.ensures.value ∙ c.in-Ok.ensures)) ∙ c.in-Ok-over.ensures.judged,
)

pub returns-in-Ok-over-clause-lawful : goal.returns-in-Ok-over-clause-lawful
returns-in-Ok-over-clause-lawful c =
    let object = c.in_ok-object.object in
    let bytes = c.as_slice.ensures.value ∙ c.in-Ok.ensures in
    let is = ap object_of bytes ∙ fitting_read Second object
    (reading_fits c.args.text.now object c.in_ok-object.ensures.few c.in_ok-object.ensures.reads) in
    subst IsSpellable (ap object_of c.in-Ok-over.ensures.seen ∙ is) c.in-Ok-over.ensures.spelled.spellable

pub returns-in-Err-clause-refused : goal.returns-in-Err-clause-refused
returns-in-Err-clause-refused c = (
  c.in_ok-object.ensures.few,
  c.in_ok-object.object,
  c.in_ok-object.ensures.reads,
  ap broken (sym (c.as_slice.ensures.value ∙ c.in-Ok.ensures)) ∙ c.in-Err.ensures.judged,
)

pub returns-in_err-object-clause-refused : goal.returns-in_err-object-clause-refused
returns-in_err-object-clause-refused c = passed_on c.args.text.now c.from_residual.result _ c.from_residual.ensures.1
    c.in_err-object.ensures.refused
