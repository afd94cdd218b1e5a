use Rattle.std.proofs.Common.{arith}
use Rattle.ft_command.specs.Asked.{debugging_view}
use Rattle.ft_tool.proofs.Taken.{session_concludes, session_breaks_off}
use Rattle.ft_tool.proofs.debug.debug_text.Goals as goal

pub returns-in-Ended-clause-ends : goal.returns-in-Ended-clause-ends
returns-in-Ended-clause-ends g c =
    session_concludes (debugging_view c.args.asked.now) (g.P.Program.object c.args.program.now) c.as_slice.result.now
    c.args.text.now (g.K.Sink.log c.args.out.now) (g.K.Sink.log c.session.new.out)
    c.requires.short c.as_slice.ensures.value c.in-Ended.ensures.ends

pub returns-in-WriteFault-clause-ends : goal.returns-in-WriteFault-clause-ends
returns-in-WriteFault-clause-ends g c =
    session_breaks_off (debugging_view c.args.asked.now) (g.P.Program.object c.args.program.now) c.as_slice.result.now
    c.args.text.now (g.K.Sink.log c.args.out.now) (g.K.Sink.log c.session.new.out)
    c.requires.short c.as_slice.ensures.value c.in-WriteFault.ensures.ends

pub returns-in-Ended-clause-bytes : goal.returns-in-Ended-clause-bytes
returns-in-Ended-clause-bytes g c = λ i. omega (arith, c.type_inv.text i)

pub returns-in-WriteFault-clause-bytes : goal.returns-in-WriteFault-clause-bytes
returns-in-WriteFault-clause-bytes g c = λ i. omega (arith, c.type_inv.text i)

pub returns-in-NoMemory-clause-bytes : goal.returns-in-NoMemory-clause-bytes
returns-in-NoMemory-clause-bytes g c = λ i. omega (arith, c.type_inv.text i)
