use Rattle.std.proofs.Common.{◌<◌, ◌/◌, ap, ◌∙◌, sym, subst}
use Rattle.ft_format.specs.InstrRecords.{instr_of}
use Rattle.ft_view.proofs.Opened.{instr_count, instr_is, numbers_in}
use Rattle.ft_view.proofs.view.ViewProgram.fetch.Goals as goal

pub record_in-requires-clause-there : goal.record_in-requires-clause-there
record_in-requires-clause-there c = subst (λ n. c.args.at / 16 < n) (instr_count c.args.self.now) c.requires.there

pub instr_in-requires-clause-kind : goal.instr_in-requires-clause-kind
instr_in-requires-clause-kind c = c.record_in.ensures.known.kind

pub instr_in-requires-clause-op : goal.instr_in-requires-clause-op
instr_in-requires-clause-op c = c.record_in.ensures.known.op

pub instr_in-requires-clause-a : goal.instr_in-requires-clause-a
instr_in-requires-clause-a c = c.record_in.ensures.known.a

pub instr_in-requires-clause-b : goal.instr_in-requires-clause-b
instr_in-requires-clause-b c = c.record_in.ensures.known.b

pub instr_in-requires-clause-c : goal.instr_in-requires-clause-c
instr_in-requires-clause-c c = c.record_in.ensures.known.c

pub returns : goal.returns
returns c = instr_is c.args.self.now _ (c.args.at / 16) c.instr_in.result c.record_in.ensures.there (c.instr_in.ensures
    ∙ sym (ap instr_of (numbers_in c.record_in.result.now)))
