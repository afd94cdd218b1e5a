use Rattle.std.proofs.Common.{ℕ, ◌≤◌, ◌^◌, ◌<◌, length, arith}
use Rattle.std.specs.Fmt.{decimal}
use Rattle.std.proofs.lemmas.Fmt.{length-decimal-le}
use Rattle.ft_isa.proofs.output.write_line.Goals as goal

short : (n : ℕ) → n < 2 ^ 64 → length (decimal n) ≤ 20
short n fits = length-decimal-le 20 n (omega arith) (omega (arith, fits)) fits

pub write_digits-digits-requires : goal.write_digits-digits-requires
write_digits-digits-requires c = (
  omega (arith, short c.args.value (omega arith), c.put_before-end.ensures.start, c.requires),
  omega (arith, c.put_before-end.ensures.start, c.put_before-end.ensures.same),
)

pub put_before-end-requires-2-clause-room : goal.put_before-end-requires-2-clause-room
put_before-end-requires-2-clause-room c = omega (
  arith,
  short c.args.value (omega arith),
  c.put_before-end.ensures.start,
  c.write_digits-digits.ensures.start,
  c.requires,
)

pub put_before-requires-clause-room : goal.put_before-requires-clause-room
put_before-requires-clause-room c = omega (
  arith,
  short c.args.value (omega arith),
  c.put_before-end.ensures.start,
  c.write_digits-digits.ensures.start,
  c.put_before-end-2.ensures.start,
  c.requires,
)
