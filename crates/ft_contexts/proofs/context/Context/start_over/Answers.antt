use Rattle.std.proofs.Common.{◌≡◌, ◌*◌, map, length, arith, ap, ◌∙◌}
use Rattle.std.specs.FinMap as finite
use Rattle.std.proofs.lemmas.List.{length-map}
use Rattle.ft_static.specs.Form.{updates}
use Rattle.ft_norm.specs.Held.{updates_held}
use Rattle.ft_norm.proofs.HeldForms.{memory_from, keeps_both}
use Rattle.ft_types.specs.Objects.{memory_of, reg_rows, queue_rows}
use Rattle.ft_typing.specs.Context.{d_zero, registers_after, queue_pair, memory_form_of}
use Rattle.ft_contexts.specs.Contexts.{registers_in, pair_in}
use Rattle.ft_contexts.specs.Costs.{tree_cost}
use Rattle.ft_contexts.proofs.Costs.{few_queue_rows, few_reg_rows, some_trees}
use Rattle.ft_contexts.proofs.Kept.{registers_kept, registers_stay, updates_found, memory_kept, memory_stays}
use Rattle.ft_contexts.proofs.Spelled.{memory_spelled, most_scope}
use Rattle.ft_contexts.proofs.Turns.{head_says}
use Rattle.ft_contexts.proofs.context.Context.start_over.Goals as goal

pub returns-clause-held : goal.returns-clause-held
returns-clause-held g c =
    let late = keeps_both _ _ _ c.start_registers.ensures.kept c.start_queue.ensures.kept in
    record {
      registers = registers_kept c.start_registers.new.forms c.start_queue.new.forms c.in_ok-registers.registers
          c.start_queue.ensures.kept c.in_ok-registers.ensures.held;
      d = tt;
      queue = c.in_ok-queue.ensures.held;
      memory = memory_kept c.memory.new.forms c.start_queue.new.forms c.in_ok-memory.memory late
          (memory_from c.memory.new.forms c.in_ok-memory.memory _ c.in_ok-memory.ensures.form);
    }

pub returns-clause-types : goal.returns-clause-types
returns-clause-types g c = record { registers = c.in_ok-registers.ensures.types; d = tt }

pub returns-clause-context : goal.returns-clause-context
returns-clause-context g c =
    let o = g.P.Program.object c.args.program.now in
    let last = c.start_queue.new.forms in
    let head = head_says o c.args.t c.code_type-head.result c.code_type-head.ensures in
    let ints = head.0 in
    let registers : registers_in last 0 c.in_ok-registers.registers
    ≡ registers_after o finite.empty (reg_rows o c.args.t) =
    registers_stay c.start_registers.new.forms last 0 c.in_ok-registers.registers c.start_queue.ensures.kept
    c.in_ok-registers.ensures.held ∙ c.in_ok-registers.ensures.known in
    let queue : map (pair_in last) c.in_ok-queue.queue ≡ map (queue_pair o) (queue_rows o c.args.t) =
    c.in_ok-queue.ensures.pairs in
    let late = keeps_both _ _ _ c.start_registers.ensures.kept c.start_queue.ensures.kept in
    let first = updates_found c.memory.new.forms c.in_ok-memory.memory _ c.in_ok-memory.ensures.form in
    let memory : updates_held last c.in_ok-memory.memory ≡ memory_form_of o (memory_of o c.args.t) =
    memory_stays c.memory.new.forms last c.in_ok-memory.memory late
    (memory_from c.memory.new.forms c.in_ok-memory.memory _ c.in_ok-memory.ensures.form) ∙ (rw head.3 at first) in
    λ i. record { ints = ints i; registers = registers i; d = d_zero; queue = queue i; memory = memory i }

pub returns-clause-pending : goal.returns-clause-pending
returns-clause-pending g c =
    let o = g.P.Program.object c.args.program.now in
    let a = length-map c.in_ok-queue.queue (pair_in c.start_queue.new.forms) in
    let b = ap length c.in_ok-queue.ensures.pairs in
    let d = length-map (queue_rows o c.args.t) (queue_pair o) in
    let f = few_queue_rows o c.args.t c.requires.spellable c.requires.there in
    omega (arith, a, b, d, f)

pub returns-clause-count : goal.returns-clause-count
returns-clause-count g c =
    let late = keeps_both _ _ _ c.start_registers.ensures.kept c.start_queue.ensures.kept in
    let m = ap updates (memory_stays c.memory.new.forms c.start_queue.new.forms c.in_ok-memory.memory late
    (memory_from c.memory.new.forms c.in_ok-memory.memory _ c.in_ok-memory.ensures.form)) in
    omega (arith, m, c.in_ok-memory.ensures.count)

pub returns-in_err-registers-clause-steps : goal.returns-in_err-registers-clause-steps
returns-in_err-registers-clause-steps g c =
    let o = g.P.Program.object c.args.program.now in
    let cost = tree_cost o 0 in
    let head = head_says o c.args.t c.code_type-head.result c.code_type-head.ensures in
    let m = c.memory.ensures.steps in
    let a = few_reg_rows o c.args.t c.requires.spellable c.requires.there in
    let e = head.1 in
    let x = some_trees (g.M.Meter.counted c.start_registers.new.meter) (g.M.Meter.counted c.memory.new.meter)
    c.code_type-head.result.regs 64 cost
    c.start_registers.ensures.steps (omega (arith, e, a)) in
    omega (arith, m, x)

pub returns-in_err-queue-clause-steps : goal.returns-in_err-queue-clause-steps
returns-in_err-queue-clause-steps g c =
    let o = g.P.Program.object c.args.program.now in
    let cost = tree_cost o 0 in
    let head = head_says o c.args.t c.code_type-head.result c.code_type-head.ensures in
    let m = c.memory.ensures.steps in
    let a = few_reg_rows o c.args.t c.requires.spellable c.requires.there in
    let e = head.1 in
    let x = some_trees (g.M.Meter.counted c.start_registers.new.meter) (g.M.Meter.counted c.memory.new.meter)
    c.code_type-head.result.regs 64 cost
    c.start_registers.ensures.steps (omega (arith, e, a)) in
    let b = few_queue_rows o c.args.t c.requires.spellable c.requires.there in
    let f = head.2 in
    let y = some_trees (g.M.Meter.counted c.start_queue.new.meter) (g.M.Meter.counted c.start_registers.new.meter)
    c.code_type-head.result.queue 8 (2 * cost)
    c.start_queue.ensures.steps (omega (arith, f, b)) in
    omega (arith, m, x, y)

pub returns-clause-steps : goal.returns-clause-steps
returns-clause-steps g c =
    let o = g.P.Program.object c.args.program.now in
    let cost = tree_cost o 0 in
    let head = head_says o c.args.t c.code_type-head.result c.code_type-head.ensures in
    let m = c.memory.ensures.steps in
    let a = few_reg_rows o c.args.t c.requires.spellable c.requires.there in
    let e = head.1 in
    let x = some_trees (g.M.Meter.counted c.start_registers.new.meter) (g.M.Meter.counted c.memory.new.meter)
    c.code_type-head.result.regs 64 cost
    c.start_registers.ensures.steps (omega (arith, e, a)) in
    let b = few_queue_rows o c.args.t c.requires.spellable c.requires.there in
    let f = head.2 in
    let y = some_trees (g.M.Meter.counted c.start_queue.new.meter) (g.M.Meter.counted c.start_registers.new.meter)
    c.code_type-head.result.queue 8 (2 * cost)
    c.start_queue.ensures.steps (omega (arith, f, b)) in
    omega (arith, m, x, y)

pub memory-requires-clause-node : goal.memory-requires-clause-node
memory-requires-clause-node g c =
    let o = g.P.Program.object c.args.program.now in
    let head = head_says o c.args.t c.code_type-head.result c.code_type-head.ensures in
    rw head.3 (most_scope o c.args.t (memory_of o c.args.t) _ c.requires.spellable c.requires.there
    (memory_spelled o c.args.t c.requires.spellable c.requires.there))
