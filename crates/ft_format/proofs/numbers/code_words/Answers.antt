use Rattle.std.proofs.Common.{ℕ, ◌++◌, ap, ◌∙◌}
use Rattle.std.specs.Int.{w64}
use Rattle.ft_format.specs.Layout.{bytes_of}
use Rattle.ft_format.proofs.Halves.{words_written}
use Rattle.ft_format.proofs.numbers.code_words.Goals as goal

pub returns : goal.returns
returns c =
    let r = c.ranges in
    ap (λ (w : ℕ × ℕ). bytes_of w64 w.0 ++ bytes_of w64 w.1) c.row_words.ensures
    ∙ words_written c.args.a c.args.b c.args.c c.args.d c.args.x c.args.y c.args.z r.a.fits r.b.fits r.c.fits r.d.fits
    r.x.fits r.z.fits
