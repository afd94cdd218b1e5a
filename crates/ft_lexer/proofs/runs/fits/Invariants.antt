use Rattle.std.proofs.Common.{◌≡◌, ◌<◌, ◌^◌, drop}
use Rattle.ft_lexer.specs.Numeral.{numeral}
use Rattle.ft_lexer.proofs.runs.fits.Given as goal

abbrev pub invariant-loop-d : goal.invariant-loop-d
invariant-loop-d l = record {
  fits : l.n < 2 ^ 64;
  same : numeral l.n (drop l.d-index l.text) ≡ numeral 0 l.text;
}
