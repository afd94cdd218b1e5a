use Rattle.std.proofs.Common.{map, sym, subst}
use Rattle.ft_lower.specs.Cutting.{blocks_of}
use Rattle.ft_dup.proofs.WellFormedBlocks.{shape_of_well}
use Rattle.ft_types.specs.declared.object.Object.{Object}
use Rattle.ft_lower.specs.Well.{IsWell}
use Rattle.ft_modules.specs.Linkable.{IsModule}
use Rattle.ft_compile.proofs.BlockWalks.{module_of_blocks}
use Rattle.ft_compile.proofs.FlowRuns.{stands_for_flow}
use Rattle.ft_compile.proofs.flows.compile_flow.Goals as goal

pub duplicate-requires : goal.duplicate-requires
duplicate-requires c = shape_of_well c.args.flow.now.vars c.args.flow.now.cells (blocks_of c.args.flow.now)
    c.requires.well

pub returns-clause-stands : goal.returns-clause-stands
returns-clause-stands c =
    let f = c.args.flow.now in
    stands_for_flow (map (λ n. n.items) c.args.names.items) c.args.inits.now f.vars f.cells (blocks_of f)
    c.in_ok-object.object c.requires.cells c.requires.vars c.requires.many c.requires.well
    (c.in_ok-code.ensures.runs c.requires.well) c.in_ok-object.ensures

pub returns-clause-joins : goal.returns-clause-joins
returns-clause-joins c =
    let f = c.args.flow.now in
    subst (λ (x : Object). IsModule x.cells x) (sym c.in_ok-object.ensures)
    (module_of_blocks (map (λ n. n.items) c.args.names.items) c.args.inits.now f.vars (blocks_of f) c.requires.cells
    c.requires.vars (subst (λ n. IsWell f.vars n (blocks_of f)) c.requires.many c.requires.well))
