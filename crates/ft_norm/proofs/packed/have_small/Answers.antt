use Rattle.std.proofs.Common.{◌≡◌, ◌∙◌, arith, inl, inr, refl, sym, true≢false}
use Rattle.std.proofs.lemmas.Bool.{cases_lt}
use Rattle.ft_norm.proofs.Packing.{blank, small_each, small_read}
use Rattle.ft_norm.proofs.packed.have_small.Goals as goal

pub loop-term-init : goal.loop-term-init
loop-term-init c = λ k l. absurd (omega (arith, l))

pub returns-then-not-are_small : goal.returns-then-not-are_small
returns-then-not-are_small c = (
  λ t. absurd (true≢false (sym t)),
  λ h. sym c.if-not-are_small.true
      ∙ c.are_small.ensures.1 (small_read c.args.terms.now c.loop-term.term-index blank h c.loop-term-test.true),
)

pub loop-term-preserved : goal.loop-term-preserved
loop-term-preserved c = λ k l. elim (cases_lt k c.loop-term.term-index) [
  | inl m ↦ c.loop-term.invariant k m
  | inr m ↦ let e : k ≡ c.loop-term.term-index = omega (arith, l, m) in
      rw e (c.are_small.ensures.0 c.if-not-are_small.false)
]

pub returns : goal.returns
returns c = (
  λ t. small_each c.args.terms.now blank (λ k l.
      c.loop-term.invariant k (omega (arith, l, c.loop-term-test.false))),
  λ h. refl,
)
