use Rattle.std.proofs.Common.{◌≡◌, ◌≤◌, None, arith, length, sym, ap, ◌∙◌, subst}
use Rattle.ft_syntax.specs.Plain.{plain_list}
use Rattle.ft_syntax.specs.Size.{statement_nodes}
use Rattle.ft_syntax.specs.TreeOf.{tree_from}
use Rattle.ft_syntax.proofs.DeclaredLists.{declared_length}
use Rattle.ft_scope.specs.Scope.{misused, wrong_length}
use Rattle.ft_scope.specs.Size.{same_slot, whole_need, whole_weight}
use Rattle.ft_scope.specs.Held.{look, BreaksLimit}
use Rattle.ft_scope.proofs.Resolves.{small_parts, few_variables, few_nodes, unknown, Renamed, misuses, wrong, breaks}
use Rattle.ft_scope.proofs.Resolves.{resolves, all_fit, as_many, as_many_places, few_cells}
use Rattle.ft_scope.proofs.resolving.resolve_parts.Goals as goal

pub declared_names-requires : goal.declared_names-requires
declared_names-requires c = omega (arith, small_parts c.args.decls.now c.args.body.items c.requires)

pub returns-in-Err-clause-err : goal.returns-in-Err-clause-err
returns-in-Err-clause-err c = unknown c.args.decls.now c.args.body.items c.in_ok-names.names c.in-Err.e
    c.in_ok-names.ensures.ok c.in_ok-names.ensures.fresh c.in-Err.ensures.err

pub returns-in-Some-clause-err : goal.returns-in-Some-clause-err
returns-in-Some-clause-err c = λ ne.
    let t = tree_from c.args.decls.now c.args.body.items in
    let n = c.in_ok-names.names in
    let b = plain_list same_slot c.in-Ok.body.items in
    let r : Renamed t n b = record {
      held = c.in_ok-names.ensures.ok;
      fresh = c.in_ok-names.ensures.fresh;
      given = c.in-Ok.ensures.ok;
    } in
    misuses t n b r c.in-Some.at (sym c.in-Ok.ensures.misuse ∙ c.in-Some.is)

pub returns-in-Some-first_wrong_length-clause-err : goal.returns-in-Some-first_wrong_length-clause-err
returns-in-Some-first_wrong_length-clause-err c = λ ne.
    let t = tree_from c.args.decls.now c.args.body.items in
    let n = c.in_ok-names.names in
    let b = plain_list same_slot c.in-Ok.body.items in
    let r : Renamed t n b = record {
      held = c.in_ok-names.ensures.ok;
      fresh = c.in_ok-names.ensures.fresh;
      given = c.in-Ok.ensures.ok;
    } in
    let used : misused (look n) t.body ≡ None = sym c.in-Ok.ensures.misuse ∙ c.in_default.is in
    wrong t n b r used c.in-Some-first_wrong_length.at (sym c.first_wrong_length.ensures
    ∙ c.in-Some-first_wrong_length.is)

pub within_limits-requires-clause-few : goal.within_limits-requires-clause-few
within_limits-requires-clause-few c = few_variables c.args.decls.now c.args.body.items c.in_ok-names.names c.requires
    c.in_ok-names.ensures.ok

pub within_limits-requires-clause-small : goal.within_limits-requires-clause-small
within_limits-requires-clause-small c =
    few_nodes c.args.decls.now c.args.body.items (plain_list same_slot c.deref.result.now) c.requires
    (ap (λ v. statement_nodes (plain_list same_slot v)) c.deref.ensures.value ∙ c.in-Ok.ensures.nodes)

pub returns-in-Err-within_limits-clause-err : goal.returns-in-Err-within_limits-clause-err
returns-in-Err-within_limits-clause-err c = λ ne.
    let t = tree_from c.args.decls.now c.args.body.items in
    let n = c.in_ok-names.names in
    let b = plain_list same_slot c.in-Ok.body.items in
    let r : Renamed t n b = record {
      held = c.in_ok-names.ensures.ok;
      fresh = c.in_ok-names.ensures.fresh;
      given = c.in-Ok.ensures.ok;
    } in
    let used : misused (look n) t.body ≡ None = sym c.in-Ok.ensures.misuse ∙ c.in_default.is in
    let lengths : wrong_length t.decls ≡ None = sym c.first_wrong_length.ensures ∙ c.in_default-first_wrong_length.is in
    let small : length t.decls ≤ 1048576 = omega (
      arith,
      declared_length c.args.decls.now,
      small_parts c.args.decls.now c.args.body.items c.requires,
    ) in
    let e = c.in-Err-within_limits.e in
    breaks t n b r used lengths small e (subst (λ v. BreaksLimit e n.cells n.vars (plain_list same_slot v))
    c.deref.ensures.value c.in-Err-within_limits.ensures.err)

pub returns-clause-ok : goal.returns-clause-ok
returns-clause-ok c =
    let t = tree_from c.args.decls.now c.args.body.items in
    let n = c.in_ok-names.names in
    let b = plain_list same_slot c.in-Ok.body.items in
    let r : Renamed t n b = record {
      held = c.in_ok-names.ensures.ok;
      fresh = c.in_ok-names.ensures.fresh;
      given = c.in-Ok.ensures.ok;
    } in
    let used : misused (look n) t.body ≡ None = sym c.in-Ok.ensures.misuse ∙ c.in_default.is in
    let lengths : wrong_length t.decls ≡ None = sym c.first_wrong_length.ensures ∙ c.in_default-first_wrong_length.is in
    let small : length t.decls ≤ 1048576 = omega (
      arith,
      declared_length c.args.decls.now,
      small_parts c.args.decls.now c.args.body.items c.requires,
    ) in
    let made = c.in-Ok-made_cells.cells in
    let is = c.in-Ok-made_cells.ensures.ok in
    let within = c.in_default-within_limits.ensures in
    let need : whole_need n.vars b ≤ 32 = subst (λ v. whole_need n.vars (plain_list same_slot v) ≤ 32)
    c.deref.ensures.value within.small_need in
    let weight : whole_weight n.vars b ≤ 65536 = subst (λ v. whole_weight n.vars (plain_list same_slot v) ≤ 65536)
    c.deref.ensures.value within.light in
    resolves t n b r used lengths small made is within.few_cells need weight

pub invariant_of-result : goal.invariant_of-result
invariant_of-result c =
    let t = tree_from c.args.decls.now c.args.body.items in
    let n = c.in_ok-names.names in
    let b = plain_list same_slot c.in-Ok.body.items in
    let r : Renamed t n b = record {
      held = c.in_ok-names.ensures.ok;
      fresh = c.in_ok-names.ensures.fresh;
      given = c.in-Ok.ensures.ok;
    } in
    let used : misused (look n) t.body ≡ None = sym c.in-Ok.ensures.misuse ∙ c.in_default.is in
    let lengths : wrong_length t.decls ≡ None = sym c.first_wrong_length.ensures ∙ c.in_default-first_wrong_length.is in
    let small : length t.decls ≤ 1048576 = omega (
      arith,
      declared_length c.args.decls.now,
      small_parts c.args.decls.now c.args.body.items c.requires,
    ) in
    let made = c.in-Ok-made_cells.cells in
    let is = c.in-Ok-made_cells.ensures.ok in
    let within = c.in_default-within_limits.ensures in
    let need : whole_need n.vars b ≤ 32 = subst (λ v. whole_need n.vars (plain_list same_slot v) ≤ 32)
    c.deref.ensures.value within.small_need in
    let weight : whole_weight n.vars b ≤ 65536 = subst (λ v. whole_weight n.vars (plain_list same_slot v) ≤ 65536)
    c.deref.ensures.value within.light in
    record {
      as_many = as_many t n b r used lengths small made is;
      as_many_places = as_many_places t n b r used lengths small made is;
      fits = c.in-Ok.ensures.fits (length made.inits.items) n.vars (all_fit t n b r used lengths small made is) used;
      few_cells = few_cells t n b r used lengths small made is within.few_cells;
      small_need = need;
      light = weight;
    }
