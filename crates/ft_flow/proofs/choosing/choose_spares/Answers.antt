use Rattle.std.proofs.Common.{◌≡◌, [], ◌∷◌, ◌++◌, None, refl, sym, ◌∙◌, subst, arith, drop, get_or, rules}
use Rattle.std.proofs.lemmas.List.{drop_all}
use Rattle.ft_lower.specs.declared.step3.Step3.TheVariants.{Put}
use Rattle.ft_lower.specs.Cutting.{blocks_onto}
use Rattle.ft_lower.specs.Well.{IsWell}
use Rattle.ft_flow.specs.Faults.{fault_of, spared, HaveWords}
use Rattle.ft_flow.proofs.Turns.{fault_turn, spared_turn, words_turn}
use Rattle.ft_flow.proofs.FineSteps.{fine_of}
use Rattle.ft_flow.proofs.FineBlocks.{well_of}
use Rattle.ft_flow.proofs.choosing.choose_spares.Goals as goal

pub loop-step-preserved : goal.loop-step-preserved
loop-step-preserved c =
    let f = c.args.frame in
    let L = c.loop-step in
    let I = c.loop-step.invariant in
    let is = c.args.steps.now in
    let k = c.loop-step.step-index in
    let i = get_or is k (Put 0 0) in
    let lt = c.loop-step-test.true in
    let none : c.step_broken.result ≡ None = search (rules, c.in_default.not-Some) in
    let broken = sym c.step_broken.ensures.broken ∙ none in
    let added : c.push.new.self.items ≡ c.loop-step.out.items ++ c.with_spare.result ∷ [] = search rules in
    let fine = (fine_of f c.loop-step.set c.loop-step.used i broken).few in
    record {
      fault = fault_turn f L.open L.set L.used L.at is k (Put 0 0) i c.ends_block-open.result c.next_set-set.result
          c.step_size-used.result lt refl broken c.ends_block-open.ensures c.next_set-set.ensures
          c.step_size-used.ensures.size ∙ I.fault;
      spares = spared_turn f.vars L.set L.out.items is c.push.new.self.items k c.spare_of.result (Put 0 0) i
          c.with_spare.result c.next_set-set.result lt refl c.spare_of.ensures c.with_spare.ensures
          c.next_set-set.ensures added ∙ I.spares;
      words = λ h. I.words (words_turn is k (Put 0 0) i lt refl c.step_broken.ensures.word h);
      few = omega (arith, fine, c.step_size-used.ensures.size);
      here = omega (arith, I.here);
      frame = refl;
      steps = refl;
    }

pub returns-clause-well : goal.returns-clause-well
returns-clause-well c = λ count.
    let f = c.args.frame in
    let I = c.loop-step.invariant in
    let is = c.args.steps.now in
    let k = c.loop-step.step-index in
    let nothing : drop k is ≡ [] = drop_all k is c.loop-step-test.false in
    let same : c.loop-step.out.items ≡ spared f.vars is = search rules in
    let none : fault_of f is ≡ None = search rules in
    subst (λ l. IsWell f.vars f.cells (blocks_onto [] l)) (sym same)
    (well_of f c.requires is (I.words (subst HaveWords (sym nothing) tt)) none count)
