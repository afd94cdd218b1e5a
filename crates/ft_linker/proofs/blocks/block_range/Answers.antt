use Rattle.std.proofs.Common.{◌≡◌, ℕ, ◌+◌, ◌≤◌, suc, length, slice_get, Some, ◌∙◌, subst, arith}
use Rattle.ft_types.proofs.BlockStarts.{below_end}
use Rattle.ft_linker.proofs.Ranges.{block_next, starts_at, ends_at, ends_last}
use Rattle.ft_linker.proofs.blocks.block_range.Goals as goal

pub returns-then-next-len : goal.returns-then-next-len
returns-then-next-len c =
    let o = c.args.object.now in
    let y = c.at-block.result.now in
    let z = c.at-after.result.now in
    let n : c.args.b + 1 ≡ suc c.args.b = omega arith in
    let there = subst (λ (k : ℕ). slice_get o.blocks k ≡ Some z) n c.at-after.ensures in
    let low = below_end (length o.instrs) 0 o.blocks (suc c.args.b) z c.requires.spellable.blocks there in
    record {
      first = starts_at o c.args.b y c.at-block.ensures;
      past = ends_at o c.args.b z there;
      some = block_next (length o.instrs) 0 o.blocks c.args.b y z c.requires.spellable.blocks c.at-block.ensures there;
      within = omega (arith, low);
    }

pub returns : goal.returns
returns c =
    let o = c.args.object.now in
    let y = c.at-block.result.now in
    let last : length o.blocks ≤ suc c.args.b = omega arith in
    let low = below_end (length o.instrs) 0 o.blocks c.args.b y c.requires.spellable.blocks c.at-block.ensures in
    record {
      first = starts_at o c.args.b y c.at-block.ensures;
      past = c.len-count.ensures ∙ ends_last o c.args.b last;
      some = omega (arith, low, c.len-count.ensures);
      within = omega (arith, c.len-count.ensures);
    }
