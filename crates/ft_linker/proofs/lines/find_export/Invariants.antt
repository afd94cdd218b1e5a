use Rattle.std.proofs.Common.{◌≡◌, drop}
use Rattle.ft_modules.specs.Links.{export_of}
use Rattle.ft_linker.proofs.lines.find_export.Given as goal

abbrev pub invariant-loop-n : goal.invariant-loop-n
invariant-loop-n l = export_of l.exports l.name ≡ export_of (drop l.n l.exports) l.name
