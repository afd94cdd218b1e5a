use Rattle.std.proofs.Common.{◌∙◌, ap, if◌then◌else◌, Some, None}
use Rattle.ft_isa.specs.Instructions.{first_read, second_read, is_register}
use Rattle.ft_access.specs.Kept.{step_of}
use Rattle.ft_access.proofs.KeptFates.{sets_hold}
use Rattle.ft_access.proofs.fates.Fates.before_execution.Goals as goal

pub returns : goal.returns
returns c = λ f h. let i = c.args.instr.now in let k = c.args.step in
    sets_hold i k c.args.self.now _ f (record {
      registers = λ r lt.
          c.set-3.ensures r lt
          ∙ (λ j. if is_register (c.first_read.ensures j) r then Some k else c.set-2.ensures r lt j)
          ∙ (λ j. if is_register (first_read i) r then Some k
          else if is_register (c.second_read.ensures j) r then Some k else c.set.ensures r lt j)
          ∙ (λ j. if is_register (first_read i) r then Some k
          else if is_register (second_read i) r then Some k
          else if is_register (c.written.ensures j) r then None else step_of c.args.self.now.registers r);
      d = c.read_or-self.ensures ∙ ap (λ b. if b then Some k else c.args.self.now.d) c.reads_d.ensures;
      pc_green = c.read_or-self-2.ensures
          ∙ (λ j. if c.reads_counters-reads.ensures j then Some k
          else if c.is_blue_jump-overwrites.ensures j then None else c.args.self.now.pc_green);
      pc_blue = c.read_or-self-3.ensures
          ∙ (λ j. if c.reads_counters-reads.ensures j then Some k
          else if c.is_blue_jump-overwrites.ensures j then None else c.args.self.now.pc_blue);
      entries = c.entries_before-self.ensures;
    }) h
