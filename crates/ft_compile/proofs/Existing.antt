-- The object to which a text's program is compiled stands for the program.
use Rattle.std.proofs.Common.{◌≤◌, length, refl, arith}
use Rattle.ft_scope.specs.Resolved.{program_need}
use Rattle.ft_scope.proofs.ProgramFacts.{program_is_proper}
use Rattle.ft_lower.specs.Lowered.{lowered}
use Rattle.ft_lower.proofs.Whole.{IsResolved, lowers}
use Rattle.ft_lower.proofs.Sizes.{lowered_size}
use Rattle.ft_lower.proofs.Pairs.{lowered_below}
use Rattle.ft_lower.proofs.WellFormed.{lowered_is_well}
use Rattle.ft_dup.proofs.WholeRuns.{runs_as}
use Rattle.ft_compile.specs.Emitted.{compiled_object}
use Rattle.ft_compile.specs.Laws.{ProgramsHaveObjects}
use Rattle.ft_compile.proofs.Names.{program_cells}
use Rattle.ft_compile.proofs.Stands.{stands}

-- the object to which a text's program is compiled stands for it
pub programs_have_objects : ProgramsHaveObjects
programs_have_objects text p h =
    let proper = program_is_proper text p h in
    let resolved : IsResolved p = record {
      names = proper.fits;
      need = proper.limits.need;
      weight = proper.limits.weight;
    } in
    let few : p.vars ≤ 32 = omega (arith, resolved.need) in
    let well = lowered_is_well p resolved in
    let runs = lowers p resolved in (
      stands p (compiled_object p) p.vars (length p.inits) (lowered p) (program_cells text p h) few well refl
          (lowered_size p) runs (runs_as p.vars (length p.inits) (lowered p) well) refl,
      record {
        flow = lowered p;
        few = few;
        well = well;
        runs = runs;
        light = lowered_size p;
        pairs = lowered_below p proper.fits (program_need p) (omega arith);
        object = refl;
      },
    )
