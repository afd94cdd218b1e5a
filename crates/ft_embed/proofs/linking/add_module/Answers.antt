use Rattle.std.proofs.Common.{sym}
use Rattle.std.proofs.lemmas.Result.{IfErr-weaker}
use Rattle.ft_embed.proofs.LinkTurns.{bad_module, module_ends}
use Rattle.ft_embed.proofs.linking.add_module.Goals as goal

pub returns-in-Ok-clause-err : goal.returns-in-Ok-clause-err
returns-in-Ok-clause-err c =
    IfErr-weaker c.add_object.result _ _
    (λ u h other. module_ends c.args.given.now c.args.linker.now c.args.name.now c.in-Some.bytes.now c.in-Ok.view
    (sym c.in-Some.ensures) c.in-Ok.ensures.seen c.in-Ok.ensures.spelled u (h other)) c.add_object.ensures.err

pub returns-in-Err-clause-err : goal.returns-in-Err-clause-err
returns-in-Err-clause-err c = λ _.
    bad_module c.args.given.now c.args.linker.now c.args.name.now c.in-Some.bytes.now c.args.number c.in-Err.error
    c.told_error.result (sym c.in-Some.ensures) c.in-Err.ensures.judged c.requires c.told_error.ensures
