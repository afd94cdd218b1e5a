use Rattle.std.proofs.Common.{◌≡◌, ◌≤◌, [], length, sym, ap, ◌∙◌, subst, arith}
use Rattle.ft_scope.specs.declared.prog.Prog.{Prog}
use Rattle.ft_scope.specs.Resolved.{program_need, program_weight}
use Rattle.ft_scope.specs.ProgramOf.{program_of}
use Rattle.ft_lower.specs.Flow.{Blocks}
use Rattle.ft_lower.specs.Size.{PairsBelow, blocks_size}
use Rattle.ft_lower.specs.Well.{IsWell}
use Rattle.ft_lower.specs.Lowers.{Lowers}
use Rattle.ft_lower.specs.Lowered.{lowered}
use Rattle.ft_lower.specs.Cutting.{blocks_onto}
use Rattle.ft_lower.proofs.Whole.{IsResolved, lowers}
use Rattle.ft_lower.proofs.Sizes.{lowered_size}
use Rattle.ft_lower.proofs.Pairs.{lowered_below}
use Rattle.ft_lower.proofs.WellFormed.{lowered_is_well}
use Rattle.ft_lower.proofs.lowering.lower.Goals as goal

-- a program of the code has resolved names, and its need and its weight are within the limits
resolved : (p : Prog) → IsResolved (program_of p)
resolved p = record { names = p.fits; need = p.small_need; weight = p.light }

pub returns-clause-blocks : goal.returns-clause-blocks
returns-clause-blocks c = ap (blocks_onto []) c.in_ok-steps.ensures

pub returns-clause-few : goal.returns-clause-few
returns-clause-few c = omega (arith, c.args.prog.now.small_need)

pub returns-clause-well : goal.returns-clause-well
returns-clause-well c =
    let p = program_of c.args.prog.now in
    let is = ap (blocks_onto []) c.in_ok-steps.ensures in
    let many : c.len.result ≡ length p.inits = c.len.ensures ∙ c.args.prog.now.inits.ok.0 in
    subst (λ (bs : Blocks). IsWell p.vars c.len.result bs) (sym is)
    (subst (λ m. IsWell p.vars m (lowered p)) (sym many) (lowered_is_well p (resolved c.args.prog.now)))

pub returns-clause-light : goal.returns-clause-light
returns-clause-light c =
    let p = program_of c.args.prog.now in
    let is = ap (blocks_onto []) c.in_ok-steps.ensures in
    subst (λ (bs : Blocks). blocks_size bs ≤ program_weight p) (sym is) (lowered_size p)

pub returns-clause-pairs : goal.returns-clause-pairs
returns-clause-pairs c =
    let p = program_of c.args.prog.now in
    let is = ap (blocks_onto []) c.in_ok-steps.ensures in
    subst (λ (bs : Blocks). PairsBelow (program_need p) bs) (sym is)
    (lowered_below p (resolved c.args.prog.now).names (program_need p) (omega arith))

pub returns-clause-runs : goal.returns-clause-runs
returns-clause-runs c =
    let p = program_of c.args.prog.now in
    let is = ap (blocks_onto []) c.in_ok-steps.ensures in
    subst (λ (bs : Blocks). Lowers p bs) (sym is) (lowers p (resolved c.args.prog.now))
