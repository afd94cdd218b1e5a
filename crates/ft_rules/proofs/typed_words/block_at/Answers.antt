use Rattle.std.proofs.Common.{◌≡◌, ◌≢◌, ◌+◌, ◌≤◌, ℕ, eqb, eqb-true, eq-eqb, true, false, slice_get, None, Some, arith}
use Rattle.std.proofs.Common.{refl, sym, ⊎_elim, subst}
use Rattle.std.proofs.lemmas.Bool.{cases_lt}
use Rattle.ft_isa.proofs.Lists.{none_pass}
use Rattle.ft_types.specs.declared.object.Object.{Object}
use Rattle.ft_types.specs.declared.object.Block.{Block}
use Rattle.ft_types.specs.Spellable.{IsSpellable}
use Rattle.ft_typing.specs.TypedWord.{block_at}
use Rattle.ft_contexts.proofs.Registers.{apart}
use Rattle.ft_rules.proofs.Blocks.{starts_rise, find_first}
use Rattle.ft_rules.proofs.typed_words.block_at.Goals as goal

-- a block that begins at the address is the result
block_found : (o : Object) (address n : ℕ) (b : Block) → IsSpellable o → slice_get o.blocks n ≡ Some b → b.start + 1
    ≡ address → Some b ≡ block_at o address
unfolding block_at
block_found o address n b h e s = sym (find_first _ o.blocks n b e (eq-eqb address (1 + b.start) (omega arith))
    (λ k y l f.
    let r = starts_rise _ 0 o.blocks k n y b h.blocks l f e in
    apart address (1 + y.start) (λ q. absurd (omega arith))))

-- if none begins there, none is found
block_lacks : (o : Object) (address : ℕ) → ((k : ℕ) (b : Block) → slice_get o.blocks k ≡ Some b →
    b.start + 1 ≢ address) → None ≡ block_at o address
unfolding block_at
block_lacks o address h = sym (none_pass _ o.blocks (λ k y f. let n = h k y f in
    apart address (1 + y.start) (λ q. absurd (n (omega arith)))))

-- a block begins no later than one with the same or a higher number
no_later : (o : Object) (k n : ℕ) (x y : Block) → IsSpellable o → k ≤ n → slice_get o.blocks k ≡ Some x →
    slice_get o.blocks n ≡ Some y → x.start ≤ y.start
no_later o k n x y h l e f = by_test (eqb k n) refl
  where
    by_test : (b : _) → eqb k n ≡ b → x.start ≤ y.start
    by_test true t = let s = eqb-true k n t in let g : slice_get o.blocks n
        ≡ Some x = subst (λ (z : ℕ). slice_get o.blocks z ≡ Some x) s e in let same : x ≡ y = cc in
        subst (λ (z : Block). x.start ≤ z.start) same (omega arith)
    by_test false t = let ne : k ≢ n = (λ s. let u : eqb k n ≡ true = eq-eqb k n s in cc) in
        let r = starts_rise _ 0 o.blocks k n x y h.blocks (omega arith) e f in omega arith

pub returns-then-start-address : goal.returns-then-start-address
returns-then-start-address g c = block_found (g.P.Program.object c.args.program.now) c.args.address _
    c.block-block.result c.requires c.block-block.ensures c.if-start-address.true

pub loop-low-preserved-then-start-address-2 : goal.loop-low-preserved-then-start-address-2
loop-low-preserved-then-start-address-2 g c = record {
  within = omega arith;
  below = λ k b l e. let m = no_later (g.P.Program.object c.args.program.now) k _ b c.block-block.result c.requires
      (omega arith) e c.block-block.ensures in omega arith;
  above = c.loop-low.invariant.above;
}

pub loop-low-preserved : goal.loop-low-preserved
loop-low-preserved g c = record {
  within = omega arith;
  below = c.loop-low.invariant.below;
  above = λ k b l e. let m = no_later (g.P.Program.object c.args.program.now) _ k c.block-block.result b c.requires
      (omega arith) c.block-block.ensures e in omega arith;
}

pub returns : goal.returns
returns g c = block_lacks (g.P.Program.object c.args.program.now) c.args.address (λ k b e s.
    ⊎_elim (λ l. let m = c.loop-low.invariant.below k b l e in
    absurd (omega arith)) (λ l. let m = c.loop-low.invariant.above k b (omega arith) e in
    absurd (omega arith)) (cases_lt k c.loop-low.low))
