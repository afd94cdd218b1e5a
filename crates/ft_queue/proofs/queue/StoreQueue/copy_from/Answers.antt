use Rattle.std.proofs.Common.{◌≡◌, ◌++◌, ◌-◌, length, take, ap, ◌∙◌, arith}
use Rattle.std.specs.Prelude.{min}
use Rattle.circular_buffer.specs.Buffer.{Buffer}
use Rattle.ft_queue.proofs.PendingLemmas.{refilled}
use Rattle.ft_queue.proofs.queue.StoreQueue.copy_from.Goals as goal

pub returns : goal.returns
returns c =
    let xs = c.as_slices.result.0.now in
    let ys = c.as_slices.result.1.now in
    let emptied = c.clear.ensures in
    let first = c.fill_from_slice.ensures in
    let second = c.fill_from_slice-2.ensures in
    let begun : c.fill_from_slice.new.self.items ≡ take c.fill_from_slice.result xs =
    ap (λ (b : Buffer _). b.items) first.items ∙ ap (λ (b : Buffer _). b.items ++ take c.fill_from_slice.result xs)
    emptied in
    let full : c.clear.new.self.capacity ≡ 8 = ap (λ (b : Buffer _). b.capacity) emptied ∙ c.self.invariant.room in
    let still : c.fill_from_slice.new.self.capacity ≡ 8 = ap (λ (b : Buffer _). b.capacity) first.items ∙ full in
    let none : length c.clear.new.self.items ≡ 0 = ap (λ (b : Buffer _). length b.items) emptied in
    ap (λ (b : Buffer _). b.items) second.items
    ∙ ap (λ q. q ++ take c.fill_from_slice-2.result ys) begun
    ∙ refilled xs ys c.other.inside.pairs.items c.fill_from_slice.result c.fill_from_slice-2.result
    (omega (arith, c.len-len.ensures.len, c.len-len.ensures.within.0, c.other.invariant.room)) c.as_slices.ensures
    (first.count ∙ ap (λ k. min (length xs) (k - length c.clear.new.self.items)) full
    ∙ ap (λ k. min (length xs) (8 - k)) none)
    (second.count ∙ ap (λ k. min (length ys) (k - length c.fill_from_slice.new.self.items)) still
    ∙ ap (λ q. min (length ys) (8 - length q)) begun)
    ∙ c.other.view_is
