-- The lists of a spellable object are short enough to be counted.
use Rattle.std.proofs.Common.{length, arith}
use Rattle.std.proofs.lemmas.List.Sums.{get_or-le-sum_by}
use Rattle.ft_types.specs.declared.object.Object.{Object}
use Rattle.ft_types.specs.Objects.{IsCounted, regs_of, queue_of}
use Rattle.ft_types.specs.Spellable.{IsSpellable}

-- each list of a spellable object has fewer than 2^32 entries
pub spellable_counted : (o : Object) → IsSpellable o → IsCounted o
spellable_counted o h = record {
  cells = omega (arith, h.few_cells);
  nodes = omega (arith, h.nodes.few);
  types = omega (arith, h.few_types);
  blocks = omega (arith, h.few_blocks);
  instrs = omega (arith, h.few_instrs);
  substs = omega (arith, h.few_substs);
  rows = λ k d lt. record {
    regs = omega (arith, get_or-le-sum_by (λ t. length (regs_of t)) o.types k d lt, h.few_reg_rows);
    queue = omega (arith, get_or-le-sum_by (λ t. length (queue_of t)) o.types k d lt, h.few_queue_rows);
  };
}
