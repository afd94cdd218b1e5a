use Rattle.std.proofs.Common.{◌≡◌, drop}
use Rattle.ft_modules.specs.LinkRefusals.{imports_refusal}
use Rattle.ft_linker.proofs.imports.check_imports.Given as goal

abbrev pub invariant-loop-n : goal.invariant-loop-n
invariant-loop-n l = imports_refusal l.objects l.exports l.imports
    ≡ imports_refusal l.objects l.exports (drop l.n l.imports)
