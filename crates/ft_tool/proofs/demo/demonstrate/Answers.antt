use Rattle.std.proofs.Common.{refl}
use Rattle.ft_demo.specs.Sample.{sample_object}
use Rattle.ft_demo.specs.Demonstrations.{demo_lines}
use Rattle.ft_tool.proofs.Tried.{sample_undetected}
use Rattle.ft_tool.proofs.demo.demonstrate.Goals as goal

pub returns-in-Finished : goal.returns-in-Finished
returns-in-Finished g c =
    let h = c.in-Finished.ensures.ends in
    record {
      answer = record { pieces = demo_lines (sample_object c.args.turns) h.found; status = 0 };
      is = record {
        found = h.found;
        verdicts = h.verdicts;
        none_corrupt = h.uncorrupted;
        undetected = sample_undetected c.args.turns c.requires.some c.requires.few;
        answer = refl;
      };
      put = h.lines;
      status_is = refl;
    }

pub returns-in-WriteFault : goal.returns-in-WriteFault
returns-in-WriteFault g c =
    let h = c.in-WriteFault.ensures.ends in
    record {
      answer = record { pieces = demo_lines (sample_object c.args.turns) h.found; status = 0 };
      is = record {
        found = h.found;
        verdicts = h.verdicts;
        none_corrupt = h.uncorrupted;
        undetected = sample_undetected
            c.args.turns c.requires.some c.requires.few;
        answer = refl;
      };
      broken = h.lines;
    }
