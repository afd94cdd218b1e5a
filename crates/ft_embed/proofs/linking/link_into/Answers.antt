use Rattle.std.proofs.Common.{ap, sym, subst, ◌∙◌}
use Rattle.ft_embed.specs.declared.handing.Written.{Written}
use Rattle.ft_embed.specs.Links.{IsUnlinked}
use Rattle.ft_embed.proofs.linking.link_into.Goals as goal

pub returns-in-Err-clause-unlinked : goal.returns-in-Err-clause-unlinked
returns-in-Err-clause-unlinked c = λ _ five _.
    let u = c.in-Err.unlinked in
    subst (λ (w : Written). IsUnlinked c.args.given.now c.args.text.now (record {
      status = w.status;
      «module» = u.module;
      why = w.why;
    })) (sym c.not_written.ensures)
    (c.in-Err.ensures.err (λ e. five (ap (λ (w : Written). w.status) c.not_written.ensures ∙ e)))
