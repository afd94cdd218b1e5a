use Rattle.std.proofs.Common.{subst}
use Rattle.ft_typing.specs.Accepted.{refusal}
use Rattle.ft_linker.specs.LinkErrors.{IsRefusalOf}
use Rattle.ft_linker.specs.Linking.{added_refusal}
use Rattle.ft_embed.specs.Links.{IsUnaccepted}
use Rattle.ft_embed.proofs.LinkTurns.{ends_unadded, ends_unaccepted}
use Rattle.ft_embed.proofs.linking.add_object.Goals as goal

pub returns-in-Err-add-clause-err : goal.returns-in-Err-add-clause-err
returns-in-Err-add-clause-err g c = λ other.
    let modules = c.args.linker.now in
    let o = g.P.Program.object c.args.program.now in
    ends_unadded modules o c.refuse_modules.result c.in-Ok.ensures.judged
    (c.refuse_modules.ensures.told (added_refusal modules o)
    (subst (λ p. IsRefusalOf (added_refusal modules (g.P.Program.object p)) c.in-Err-add.error) c.in-Ok.ensures.program
    c.in-Err-add.ensures.refused) other)

pub returns-in-Err-clause-err : goal.returns-in-Err-clause-err
returns-in-Err-clause-err g c = λ other.
    let o = g.P.Program.object c.args.program.now in
    ends_unaccepted c.args.linker.now o c.refuse_module.result
    (subst (λ m. IsUnaccepted (refusal o) m c.refuse_module.result) c.requires.number
    (c.refuse_module.ensures.told (refusal o) c.in-Err.ensures.judged other))
