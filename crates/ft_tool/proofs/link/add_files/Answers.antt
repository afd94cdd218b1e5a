use Rattle.std.proofs.Common.{[], refl, ◌∙◌, subst}
use Rattle.ft_tool.specs.declared.ending.Ending.TheVariants.{LoadFailed}
use Rattle.ft_tool.specs.Endings.{Ends, ends_early}
use Rattle.ft_tool.specs.Links.{LinksFiles}
use Rattle.ft_tool.specs.LinkTurns.{EndsWithFile, FailsInTurn}
use Rattle.ft_edge.specs.Logs.{LoadFails}
use Rattle.ft_tool.proofs.Answered.{Ends-map, answered_or_early}
use Rattle.ft_tool.proofs.ModulesInTurn.{added_next, ends_next, fails_next, makes_next}
use Rattle.ft_tool.specs.Known.{revealing}
use Rattle.ft_tool.proofs.Held.{held_before, held_between}
use Rattle.ft_tool.proofs.Linking.{ok_no_err}
use Rattle.std.proofs.Common.{arith}
use Rattle.std.proofs.lemmas.List.{drop_all}
use Rattle.ft_tool.specs.LinkTurns.{HasAdded}
use Rattle.ft_tool.proofs.link.add_files.Goals as goal

pub returns-in-Err-clause-ends : goal.returns-in-Err-clause-ends
returns-in-Err-clause-ends g c = λ told may.
    let shelf = revealing told (g.F.Shelf.log c.args.shelf.now) in
    let between = revealing told (g.F.Shelf.log c.loop-file.shelf) in
    let new = revealing told (g.F.Shelf.log c.add_file.new.shelf) in
    let name = c.name_of.result.now in
    let modules = c.loop-file.linker in
    let inv = c.loop-file.invariant in
    let added = inv.added told (held_before c.add_file.ensures.earlier may) in
    let ended = c.in-Err.ensures.ends told (held_between inv.told may) in
    Ends-map c.in-Err.ending (EndsWithFile between.files modules name)
    (LinksFiles shelf.files c.args.linkage.now [] c.args.linkage.now.files)
    (g.K.Sink.log c.args.out.now) (g.K.Sink.log c.add_file.new.out) (LoadFails name between new)
    (FailsInTurn c.args.linkage.now shelf new)
    (λ a is. ends_next shelf.files between.files c.args.linkage.now modules c.as_slice-files.result.now
    c.loop-file.file-index c.file-item.result name shelf.asked between.asked refl c.name_of.ensures
    c.loop-file-test.true c.file-item.is added a is)
    (λ x. fails_next c.args.linkage.now modules c.as_slice-files.result.now c.loop-file.file-index c.file-item.result
    name shelf between new c.name_of.ensures c.loop-file-test.true c.file-item.is added inv.failures x)
    (subst (λ out. Ends c.in-Err.ending (EndsWithFile between.files modules name) (g.K.Sink.log out)
    (g.K.Sink.log c.add_file.new.out) (LoadFails name between new)) inv.out ended)

pub returns-in-Err-clause-made : goal.returns-in-Err-clause-made
returns-in-Err-clause-made g c = λ told may.
    let shelf = revealing told (g.F.Shelf.log c.args.shelf.now) in
    let between = revealing told (g.F.Shelf.log c.loop-file.shelf) in
    let new = revealing told (g.F.Shelf.log c.add_file.new.shelf) in
    let name = c.name_of.result.now in
    let modules = c.loop-file.linker in
    let inv = c.loop-file.invariant in
    let added = inv.added told (held_before c.add_file.ensures.earlier may) in
    let ended = c.in-Err.ensures.ends told (held_between inv.told may) in
    makes_next shelf.files between.files c.args.linkage.now modules c.as_slice-files.result.now c.loop-file.file-index
    c.file-item.result name
    shelf.asked between.asked new.asked (ends_early c.in-Err.ending) refl c.name_of.ensures c.loop-file-test.true
    c.file-item.is added
    (answered_or_early c.in-Err.ending (EndsWithFile between.files modules name) (g.K.Sink.log c.loop-file.out)
    (g.K.Sink.log c.add_file.new.out) (LoadFails name between new) ended)
    c.add_file.ensures.made

pub loop-file-preserved : goal.loop-file-preserved
loop-file-preserved g c =
    let inv = c.loop-file.invariant in
    let kept = c.in-Ok.ensures.load_failures (λ e. ok_no_err c.in-Ok.field-0 LoadFailed _ _ refl refl e) in
    record {
      files = inv.files;
      told = c.add_file.ensures.files ∙ inv.told;
      failures = kept.0 ∙ inv.failures;
      name = kept.1 ∙ inv.name;
      out = c.in-Ok.ensures.untouched ∙ inv.out;
      earlier = λ files h. inv.earlier files (c.add_file.ensures.earlier files h);
      added =
          λ told may. added_next told told c.args.linkage.now
          c.loop-file.linker c.add_file.new.linker c.as_slice-files.result.now c.loop-file.file-index
          c.file-item.result c.name_of.result.now
          (g.F.Shelf.log c.args.shelf.now).asked (g.F.Shelf.log c.loop-file.shelf).asked
          (g.F.Shelf.log c.add_file.new.shelf).asked
          refl c.name_of.ensures c.loop-file-test.true c.file-item.is
          (inv.added told (held_before c.add_file.ensures.earlier may))
          (c.in-Ok.ensures.ok told (held_between inv.told may))
          c.add_file.ensures.made;
    }

pub returns-in-Err-clause-earlier : goal.returns-in-Err-clause-earlier
returns-in-Err-clause-earlier g c = λ files h. c.loop-file.invariant.earlier files (c.add_file.ensures.earlier files h)

pub returns-clause-ok : goal.returns-clause-ok
returns-clause-ok g c = λ told may.
    let none = drop_all c.loop-file.file-index c.as_slice-files.result.now (omega (arith, c.loop-file-test.false)) in
    subst (λ names. HasAdded told c.args.linkage.now c.loop-file.linker names (g.F.Shelf.log c.args.shelf.now).asked
    (g.F.Shelf.log c.loop-file.shelf).asked) none (c.loop-file.invariant.added told may)
