use Rattle.std.proofs.Common.{◌≡◌, ℕ, ◌<◌, length, get_or}
use Rattle.ft_isa.specs.declared.colour.Colour.TheVariants.{Green}
use Rattle.ft_machine.specs.Plain.{colour_in}
use Rattle.ft_machine.proofs.registers.Registers.of_words.Given as goal

abbrev pub invariant-loop-r : goal.invariant-loop-r
invariant-loop-r l = record {
  long : length l.all ≡ 64;
  colours : (i : ℕ) → i < l.r → get_or l.all i Green ≡ colour_in (get_or l.colours i 0);
}
