use Rattle.ft_embed.proofs.Judged.{compiled}
use Rattle.ft_embed.proofs.compiling.compile_bytes.Goals as goal

pub returns-in-Ok-encode-clause-ok : goal.returns-in-Ok-encode-clause-ok
returns-in-Ok-encode-clause-ok c =
    compiled c.args.text.now c.in-Ok-encode.bytes.items c.in-Ok.object
    (c.one_text_has_one_outcome.ensures.one c.args.text.now) c.in-Ok.ensures.ok c.in-Ok.ensures.emitted
    c.in-Ok.ensures.object c.in-Ok.ensures.joins c.in-Ok-encode.ensures.back.0
