use Rattle.std.proofs.Common.{◌∙◌, ap, Some}
use Rattle.ft_norm.proofs.HeldForms.{entry_seen}
use Rattle.ft_norm.proofs.interner.Interner.is_word_at.Goals as goal

pub returns-then-place-entries : goal.returns-then-place-entries
returns-then-place-entries c = λ yes.
    entry_seen c.self.inside.entries.keys c.as_slice-entries.result.now c.args.self.now c.args.place
    c.index-entries-place.result c.self.invariant.entries c.self.view_is c.as_slice-entries.ensures.keys
    c.if-place-entries.true c.index-entries-place.is
    ∙ ap Some (c.is_word.ensures c.args.self.now yes)
