use Rattle.std.proofs.Common.{Some, refl}
use Rattle.ft_tool.specs.Known.{heard}
use Rattle.ft_tool.proofs.AtTypes.{first_script}
use Rattle.ft_tool.proofs.at_system.program.Goals as goal

pub returns-clause-headline : goal.returns-clause-headline
returns-clause-headline g c = λ a b d files agree rest left.
    c.tool.ensures.headline a b d (Some files) (heard files refl agree) (Some _)
    (first_script _ c.args.script.now.reads c.tool.new.script.reads rest c.requires.script left)

pub returns-clause-write_failure : goal.returns-clause-write_failure
returns-clause-write_failure g c = λ a files agree rest left.
    c.tool.ensures.write_failure a (Some files) (heard files refl agree) (Some _)
    (first_script _ c.args.script.now.reads c.tool.new.script.reads rest c.requires.script left)

pub returns-clause-load_failure : goal.returns-clause-load_failure
returns-clause-load_failure g c = λ three files agree.
    c.tool.ensures.load_failure three (Some files) (heard files refl agree)
