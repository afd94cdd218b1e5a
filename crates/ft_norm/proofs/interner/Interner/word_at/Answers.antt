use Rattle.ft_norm.proofs.Constants.{word_seen}
use Rattle.ft_norm.proofs.HeldForms.{entry_seen}
use Rattle.ft_norm.proofs.interner.Interner.word_at.Goals as goal

pub returns-then-place-entries : goal.returns-then-place-entries
returns-then-place-entries c =
    let fs = c.args.self.now in
    word_seen c.word_of.result fs c.args.form.0 _
    (entry_seen c.self.inside.entries.keys c.as_slice-entries.result.now fs c.args.form.0
    c.index-entries-place.result c.self.invariant.entries c.self.view_is c.as_slice-entries.ensures.keys
    c.if-place-entries.true c.index-entries-place.is) (c.word_of.ensures fs)
