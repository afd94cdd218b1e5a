use Rattle.std.proofs.Common.{◌+◌, take, drop, sym, ap, ◌∙◌, subst, arith, length-take, get_or}
use Rattle.std.proofs.Math.ListN.{drop_of_length-le}
use Rattle.ft_syntax.specs.Syntax.{declared, declared_list}
use Rattle.ft_syntax.proofs.DeclaredLists.{declared_empty, declared_length}
use Rattle.ft_scope.specs.Scope.{repeated, declared_name, find}
use Rattle.ft_scope.specs.Held.{Holds, TwiceFails, look}
use Rattle.ft_scope.proofs.Found.{counts_within, none_mapped, repeated_step, twice_fails}
use Rattle.ft_scope.proofs.DeclaredNames.{declared_drop, declared_take, outside}
use Rattle.ft_scope.proofs.names.declared_names.Goals as goal

pub loop-d-init : goal.loop-d-init
loop-d-init c = record {
  held = subst (λ v. Holds c.new-names.result v) (sym declared_empty) c.new-names.ensures;
  fresh = ap (λ v. repeated v (declared_list c.args.decls.now)) (sym declared_empty);
}

pub declare-requires : goal.declare-requires
declare-requires c =
    let front = take c.loop-d.d-index c.args.decls.now in
    omega (
      arith,
      c.loop-d.invariant.held.vars,
      counts_within (declared_list front),
      declared_length front,
      length-take c.loop-d.d-index c.args.decls.now,
      c.requires,
    )

pub returns-in-Err-clause-err : goal.returns-in-Err-clause-err
returns-in-Err-clause-err c =
    let l = c.loop-d in
    let all = c.args.decls.now in
    let d = get_or all l.d-index outside in
    let n = (declared_name (declared d)).text in
    let before = declared_list (take l.d-index all) in
    let after = declared_list (drop (l.d-index + 1) all) in
    subst (TwiceFails c.in-Err.e) (sym (l.invariant.fresh
    ∙ ap (repeated before) (declared_drop all l.d-index outside (omega arith))))
    (twice_fails c.in-Err.e before (declared d) after (look l.names n) (l.invariant.held.slots n) c.in-Err.ensures.err)

pub loop-d-preserved : goal.loop-d-preserved
loop-d-preserved c =
    let l = c.loop-d in
    let all = c.args.decls.now in
    let d = get_or all l.d-index outside in
    let n = (declared_name (declared d)).text in
    let before = declared_list (take l.d-index all) in
    let after = declared_list (drop (l.d-index + 1) all) in
    let grown = declared_take all l.d-index outside (omega arith) in
    let said = c.in_default.ensures in
    record {
      held = subst (λ v. Holds c.declare.new.self v) (sym grown) (said.ok before l.invariant.held);
      fresh = l.invariant.fresh ∙ ap (repeated before) (declared_drop all l.d-index outside (omega arith))
          ∙ repeated_step before (declared d) after (none_mapped (find before n) (sym (l.invariant.held.slots n)
          ∙ said.fresh)) ∙ ap (λ v. repeated v after) (sym grown);
    }

pub returns-clause-fresh : goal.returns-clause-fresh
returns-clause-fresh c =
    let l = c.loop-d in
    let all = c.args.decls.now in
    l.invariant.fresh ∙ ap (λ v. repeated (declared_list (take l.d-index all)) (declared_list v))
    (drop_of_length-le all (omega arith)) ∙ ap (repeated (declared_list (take l.d-index all))) declared_empty
