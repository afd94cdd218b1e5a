use Rattle.std.proofs.Common.{◌≡◌, ◌+◌, ◌-◌, ◌<◌, ◌≤◌, ℕ, length, slice_get, Some}
use Rattle.ft_types.specs.declared.object.Block.{Block}
use Rattle.ft_rules.proofs.typed_words.block_at.Given as goal

abbrev pub invariant-loop-low : goal.invariant-loop-low
invariant-loop-low g l = let o = g.P.Program.object l.program in record {
  within : l.high ≤ length o.blocks;
  below : (k : ℕ) (b : Block) → k < l.low → slice_get o.blocks k ≡ Some b → b.start + 1 < l.address;
  above : (k : ℕ) (b : Block) → l.high ≤ k → slice_get o.blocks k ≡ Some b → l.address < b.start + 1;
}

abbrev pub decreases-loop-low : goal.decreases-loop-low
decreases-loop-low g l = l.high - l.low
