use Rattle.std.proofs.Common.{Ok, Err}
use Rattle.ft_format.proofs.Versions.{has_all}
use Rattle.ft_asm.specs.Refusals.{IsAssembly}
use Rattle.ft_asm.proofs.Judged.{exact_bytes}
use Rattle.ft_asm.proofs.assembly.assemble_bytes.Goals as goal

pub returns-in-Ok : goal.returns-in-Ok
returns-in-Ok c =
    let whole = c.in-Ok.ensures in
    let reads : IsAssembly c.args.text.now c.in-Ok.whole.bytes.items = record {
      object = c.in-Ok.whole.object;
      reads = whole.reads;
      spelled = record {
        spellable = whole.lawful;
        has = has_all c.in-Ok.whole.object whole.lawful;
        spelled = whole.spelled;
      };
    } in
    record {
      reads = reads;
      refused = tt;
      exact = exact_bytes c.args.text.now (Ok c.in-Ok.whole.bytes) reads tt;
    }

pub returns-in-Err-clause-exact : goal.returns-in-Err-clause-exact
returns-in-Err-clause-exact c = exact_bytes c.args.text.now (Err c.in-Err.error) tt c.in-Err.ensures.refused
