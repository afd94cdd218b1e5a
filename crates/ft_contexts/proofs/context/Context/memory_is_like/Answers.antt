use Rattle.std.proofs.Common.{refl, ◌∙◌}
use Rattle.ft_contexts.proofs.Kept.{memory_stays, updates_found}
use Rattle.ft_contexts.proofs.Turns.{head_says}
use Rattle.ft_contexts.proofs.context.Context.memory_is_like.Goals as goal

pub returns-clause-like : goal.returns-clause-like
returns-clause-like g c =
    let m = memory_stays c.args.forms.now c.memory.new.forms c.args.self.now.memory c.memory.ensures.kept
    c.requires.held.memory in
    let w = updates_found c.memory.new.forms c.in_ok-wanted.wanted _ c.in_ok-wanted.ensures.form in
    let h = (head_says (g.P.Program.object c.args.program.now) c.args.t c.code_type.result c.code_type.ensures).3 in
    c.same_memories.ensures ∙ rw (m, w, h) refl
