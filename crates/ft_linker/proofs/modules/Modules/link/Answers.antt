use Rattle.std.proofs.Common.{◌≡◌, ◌≤◌, List, length, None, sym, subst, ap, ◌∙◌, arith}
use Rattle.std.specs.Option.{option_map}
use Rattle.ft_static.specs.NodeRules.{AreNodes}
use Rattle.ft_static.specs.declared.node.Node.{Node}
use Rattle.ft_types.specs.declared.object.Object.{Object}
use Rattle.ft_modules.specs.LinkRefusals.{NoBlock, first_without, imports_refusal, lower_line}
use Rattle.ft_modules.proofs.Deciding.{or_none}
use Rattle.ft_linker.specs.Numbers.{AreNumbered}
use Rattle.ft_linker.specs.Linking.{AreAdded, IsLinked, refusal_of}
use Rattle.ft_linker.proofs.JoinedBlocks.{have_blocks, refusal_after, refusal_by, refusal_first}
use Rattle.ft_modules.proofs.Exact.{no_line}
use Rattle.ft_linker.proofs.Outcome.{is_linked, joins_there, refusal_is}
use Rattle.ft_linker.proofs.Ready.{all_are_nodes, are_ready, can_be_laid}
use Rattle.ft_linker.proofs.modules.Modules.link.Goals as goal

pub lay-requires : goal.lay-requires
lay-requires c = can_be_laid c.as_slice-objects.result.now
    (subst AreAdded (sym c.as_slice-objects.ensures.value) c.self.invariant.0)

pub number_trees-requires : goal.number_trees-requires
number_trees-requires c =
    let ms = c.as_slice-objects.result.now in
    let added = subst AreAdded (sym c.as_slice-objects.ensures.value) c.self.invariant.0 in
    subst AreNodes (sym (c.as_slice.ensures.value ∙ c.in-Ok-lay.ensures.nodes)) (all_are_nodes ms added)

pub check_imports-requires : goal.check_imports-requires
check_imports-requires c =
    let ms = c.as_slice-objects.result.now in
    let map = c.args.linkage.now in
    let added = subst AreAdded (sym c.as_slice-objects.ensures.value) c.self.invariant.0 in
    let lines = no_line (first_without ms map.exports) (first_without ms map.imports) c.in-Ok.ensures.unrefused in
    let numbered = subst (AreNumbered c.in-Ok-lay.laid.nodes.items) (sym c.as_slice-2.ensures.value)
    (subst (λ (z : List Node). AreNumbered z c.in-Ok-number_trees.numbers.items) c.as_slice.ensures.value
    c.in-Ok-number_trees.ensures) in
    record {
      ready = are_ready ms added c.in-Ok-lay.laid c.as_slice-2.result.now c.in-Ok-lay.ensures numbered;
      exports = have_blocks ms map.exports lines.0;
      imports = have_blocks ms map.imports lines.1;
    }

pub put_together-requires : goal.put_together-requires
put_together-requires c =
    let ms = c.as_slice-objects.result.now in
    let map = c.args.linkage.now in
    let added = subst AreAdded (sym c.as_slice-objects.ensures.value) c.self.invariant.0 in
    let long = ap length (c.as_slice-objects.ensures.value ∙ c.self.view_is) in
    let files = c.requires.sound.some_files in
    let as_many = c.requires.modules in
    let some : 1 ≤ length ms = omega (arith, long, files, as_many) in
    let refused : refusal_of map ms ≡ None = refusal_is map ms added some
    ∙ or_none (option_map NoBlock (lower_line (first_without ms map.exports) (first_without ms map.imports)))
    (imports_refusal ms map.exports map.imports) (ap (option_map NoBlock) c.in-Ok.ensures.unrefused)
    c.in-Ok-check_imports.ensures.unrefused in
    record {
      can = can_be_laid ms added;
      some = omega (arith, some);
      tables = c.in-Ok-lay.ensures;
      joins = λ js same. joins_there map ms js added some refused same;
    }

pub returns-in-Ok-put_together-clause-linked : goal.returns-in-Ok-put_together-clause-linked
returns-in-Ok-put_together-clause-linked c =
    let ms = c.as_slice-objects.result.now in
    let map = c.args.linkage.now in
    let added = subst AreAdded (sym c.as_slice-objects.ensures.value) c.self.invariant.0 in
    let same = c.as_slice-objects.ensures.value ∙ c.self.view_is in
    let long = ap length same in
    let files = c.requires.sound.some_files in
    let as_many = c.requires.modules in
    let some : 1 ≤ length ms = omega (arith, long, files, as_many) in
    let refused : refusal_of map ms ≡ None = refusal_is map ms added some
    ∙ or_none (option_map NoBlock (lower_line (first_without ms map.exports) (first_without ms map.imports)))
    (imports_refusal ms map.exports map.imports) (ap (option_map NoBlock) c.in-Ok.ensures.unrefused)
    c.in-Ok-check_imports.ensures.unrefused in
    subst (λ (z : List Object). IsLinked map z c.in-Ok-put_together.object) same
    (is_linked map ms c.in-Ok-put_together.object added some refused c.in-Ok-put_together.ensures)

pub returns-in-Ok-put_together-clause-unrefused : goal.returns-in-Ok-put_together-clause-unrefused
returns-in-Ok-put_together-clause-unrefused c =
    let ms = c.as_slice-objects.result.now in
    let map = c.args.linkage.now in
    let added = subst AreAdded (sym c.as_slice-objects.ensures.value) c.self.invariant.0 in
    let same = c.as_slice-objects.ensures.value ∙ c.self.view_is in
    let long = ap length same in
    let files = c.requires.sound.some_files in
    let as_many = c.requires.modules in
    let some : 1 ≤ length ms = omega (arith, long, files, as_many) in
    ap (refusal_of map) (sym same) ∙ refusal_is map ms added some
    ∙ or_none (option_map NoBlock (lower_line (first_without ms map.exports) (first_without ms map.imports)))
    (imports_refusal ms map.exports map.imports) (ap (option_map NoBlock) c.in-Ok.ensures.unrefused)
    c.in-Ok-check_imports.ensures.unrefused

pub returns-in-Err-clause-refused : goal.returns-in-Err-clause-refused
returns-in-Err-clause-refused c =
    let ms = c.as_slice-objects.result.now in
    let map = c.args.linkage.now in
    let added = subst AreAdded (sym c.as_slice-objects.ensures.value) c.self.invariant.0 in
    let same = c.as_slice-objects.ensures.value ∙ c.self.view_is in
    let long = ap length same in
    let files = c.requires.sound.some_files in
    let as_many = c.requires.modules in
    let some : 1 ≤ length ms = omega (arith, long, files, as_many) in
    let x = option_map NoBlock (lower_line (first_without ms map.exports) (first_without ms map.imports)) in
    let y = imports_refusal ms map.exports map.imports in
    refusal_by _ _ c.in-Err.error (ap (refusal_of map) (sym same) ∙ refusal_is map ms added some)
    (refusal_first x y c.in-Err.error c.in-Err.ensures.refused)

pub returns-in-Err-check_imports-clause-refused : goal.returns-in-Err-check_imports-clause-refused
returns-in-Err-check_imports-clause-refused c =
    let ms = c.as_slice-objects.result.now in
    let map = c.args.linkage.now in
    let added = subst AreAdded (sym c.as_slice-objects.ensures.value) c.self.invariant.0 in
    let same = c.as_slice-objects.ensures.value ∙ c.self.view_is in
    let long = ap length same in
    let files = c.requires.sound.some_files in
    let as_many = c.requires.modules in
    let some : 1 ≤ length ms = omega (arith, long, files, as_many) in
    let x = option_map NoBlock (lower_line (first_without ms map.exports) (first_without ms map.imports)) in
    let y = imports_refusal ms map.exports map.imports in
    refusal_by _ _ c.in-Err-check_imports.error (ap (refusal_of map) (sym same) ∙ refusal_is map ms added some)
    (refusal_after x y c.in-Err-check_imports.error (ap (option_map NoBlock) c.in-Ok.ensures.unrefused)
    c.in-Err-check_imports.ensures.refused)
