use Rattle.std.proofs.Common.{◌≡◌, Some, take}
use Rattle.ft_isa.specs.Reading.{state_after, next_site}
use Rattle.ft_isa.specs.declared.site_text.SiteRead.TheVariants.{Empty}
use Rattle.ft_isa.proofs.site_text.read_site.Given as goal

abbrev pub invariant-loop-byte : goal.invariant-loop-byte
invariant-loop-byte l = state_after next_site Empty (take l.byte-index l.text) ≡ Some l.read
