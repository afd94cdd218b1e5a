use Rattle.std.proofs.Common.{◌+◌, ap, length, sym, ◌∙◌, arith}
use Rattle.ft_embed.proofs.LinkTurns.{added_none, longer, added_step, ends_step, added_all, added_long}
use Rattle.ft_embed.proofs.linking.add_modules.Goals as goal

pub loop-file-init : goal.loop-file-init
loop-file-init c = record {
  files = c.as_slice-files.ensures;
  number = sym (ap length c.requires.none);
  added = added_none c.args.given.now c.args.linkage.now c.args.linker.now c.as_slice-files.result.now c.requires.none
      c.as_slice-files.ensures;
}

pub add_module-requires : goal.add_module-requires
add_module-requires c = c.loop-file.invariant.number

pub returns-in-Err-clause-err : goal.returns-in-Err-clause-err
returns-in-Err-clause-err c = λ other.
    ends_step c.args.given.now c.args.linkage.now c.loop-file.linker c.as_slice-files.result.now c.loop-file.file-index
    c.file-item.result c.as_slice.result.now c.loop-file-test.true c.file-item.is c.as_slice.ensures
    c.loop-file.invariant.added
    c.in-Err.unlinked (c.in-Err.ensures.err other)

pub overflow_add-number : goal.overflow_add-number
overflow_add-number c =
    let n = c.loop-file.invariant.number in
    let k = c.loop-file.invariant.added.count in
    let f = c.requires.few in
    omega (arith, n, k, f)

pub loop-file-preserved : goal.loop-file-preserved
loop-file-preserved c = record {
  files = c.loop-file.invariant.files;
  number = ap (λ n. n + 1) c.loop-file.invariant.number
      ∙ sym (longer c.args.given.now c.loop-file.linker c.add_module.new.linker c.as_slice.result.now
      c.in-Ok.ensures.ok);
  added =
      added_step c.args.given.now c.args.linkage.now c.loop-file.linker c.as_slice-files.result.now
      c.loop-file.file-index c.file-item.result c.as_slice.result.now c.loop-file-test.true c.file-item.is
      c.as_slice.ensures c.loop-file.invariant.added
      c.add_module.new.linker c.in-Ok.ensures.ok;
}

pub returns-clause-ok : goal.returns-clause-ok
returns-clause-ok c = added_all c.args.given.now c.args.linkage.now c.loop-file.linker c.as_slice-files.result.now
    c.loop-file.file-index c.loop-file-test.false c.loop-file.invariant.added

pub returns-clause-long : goal.returns-clause-long
returns-clause-long c = added_long c.args.given.now c.args.linkage.now c.loop-file.linker c.as_slice-files.result.now
    c.loop-file.file-index c.loop-file-test.false c.loop-file.invariant.added
