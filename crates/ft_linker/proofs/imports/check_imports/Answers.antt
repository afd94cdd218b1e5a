use Rattle.std.proofs.Common.{◌≤◌, length, drop, ◌+◌, ◌∙◌, arith}
use Rattle.ft_isa.proofs.Lists.{all_there}
use Rattle.ft_link_map.specs.declared.link_map.Ask.{Ask}
use Rattle.ft_modules.specs.Linkable.{HasBlock}
use Rattle.ft_modules.specs.LinkRefusals.{import_refusal, imports_refusal}
use Rattle.ft_linker.proofs.JoinedBlocks.{imports_next, imports_later, imports_none, refusal_first, refusal_by}
use Rattle.ft_linker.proofs.imports.check_imports.Goals as goal

pub check_import-requires : goal.check_import-requires
check_import-requires c = record {
  ready = c.requires.ready;
  exports = c.requires.exports;
  import = all_there (λ (i : Ask). HasBlock c.args.objects.now i.module i.block) c.args.imports.now c.loop-n.n
      c.at.result.now c.requires.imports c.at.ensures;
}

pub loop-n-preserved : goal.loop-n-preserved
loop-n-preserved c = c.loop-n.invariant ∙ imports_later c.args.objects.now c.args.exports.now c.args.imports.now
    c.loop-n.n c.at.result.now c.at.ensures c.in-Ok.ensures.unrefused

pub returns-in-Err-clause-refused : goal.returns-in-Err-clause-refused
returns-in-Err-clause-refused c =
    refusal_by _ _ c.in-Err.error (c.loop-n.invariant
    ∙ imports_next c.args.objects.now c.args.exports.now c.args.imports.now c.loop-n.n c.at.result.now c.at.ensures)
    (refusal_first (import_refusal c.args.objects.now c.args.exports.now c.at.result.now)
    (imports_refusal c.args.objects.now c.args.exports.now (drop (c.loop-n.n + 1) c.args.imports.now)) c.in-Err.error
    c.in-Err.ensures.refused)

pub returns-clause-unrefused : goal.returns-clause-unrefused
returns-clause-unrefused c =
    let all : length c.args.imports.now ≤ c.loop-n.n = omega (arith, c.len-n-end.ensures, c.loop-n-test.false) in
    c.loop-n.invariant ∙ imports_none c.args.objects.now c.args.exports.now c.args.imports.now c.loop-n.n all
