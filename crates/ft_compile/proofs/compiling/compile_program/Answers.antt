use Rattle.std.proofs.Common.{ℕ, ◌<◌, ◌≤◌, ap, ◌∙◌, arith}
use Rattle.ft_lower.specs.Cutting.{blocks_of}
use Rattle.ft_scope.specs.ProgramOf.{program_of}
use Rattle.ft_dup.proofs.WellFormedBlocks.{shape_of_well}
use Rattle.ft_compile.specs.Emitted.{emitted}
use Rattle.ft_compile.proofs.BlockWalks.{module_of_flow}
use Rattle.ft_compile.proofs.Stands.{emits, stands}
use Rattle.ft_compile.proofs.compiling.compile_program.Goals as goal

-- a number below 32 is at most 32
few_of : (n : ℕ) → n < 32 → n ≤ 32
few_of n lt = omega arith

pub duplicate-requires : goal.duplicate-requires
duplicate-requires c = shape_of_well c.in_ok-flow.flow.vars c.in_ok-flow.flow.cells (blocks_of c.in_ok-flow.flow)
    c.in_ok-flow.ensures.well

pub returns-clause-stands : goal.returns-clause-stands
returns-clause-stands c =
    let f = c.in_ok-flow.flow in
    let h = c.in_ok-flow.ensures in
    stands (program_of c.args.prog.now) c.in_ok-object.object f.vars f.cells (blocks_of f) c.requires
    (few_of c.in_ok-flow.flow.vars h.few) h.well h.cells h.light h.runs (c.in_ok-code.ensures.runs h.well)
    c.in_ok-object.ensures

pub returns-clause-emitted : goal.returns-clause-emitted
returns-clause-emitted c =
    let f = c.in_ok-flow.flow in
    let h = c.in_ok-flow.ensures in
    emits (program_of c.args.prog.now) c.in_ok-object.object f.vars f.cells (blocks_of f)
    (few_of c.in_ok-flow.flow.vars h.few) h.well h.vars h.cells h.runs h.light h.pairs c.in_ok-object.ensures

pub returns-clause-object : goal.returns-clause-object
returns-clause-object c =
    let p = program_of c.args.prog.now in
    let f = c.in_ok-flow.flow in
    let h = c.in_ok-flow.ensures in
    c.in_ok-object.ensures ∙ ap (λ v. emitted p.names p.inits v (blocks_of f)) h.vars
    ∙ ap (emitted p.names p.inits p.vars) h.blocks

pub returns-clause-joins : goal.returns-clause-joins
returns-clause-joins c =
    let p = program_of c.args.prog.now in
    let f = c.in_ok-flow.flow in
    let h = c.in_ok-flow.ensures in
    module_of_flow p c.in_ok-object.object c.requires
    (emits p c.in_ok-object.object f.vars f.cells (blocks_of f) (few_of c.in_ok-flow.flow.vars h.few) h.well h.vars
    h.cells h.runs h.light h.pairs c.in_ok-object.ensures)
