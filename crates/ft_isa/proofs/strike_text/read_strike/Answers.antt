use Rattle.std.proofs.Common.{◌≡◌, ℕ, List, length, take, Option, Some, None, Ok, Result, IfOk, IfErr, refl, sym, ap}
use Rattle.std.proofs.Common.{◌∙◌, subst, arith}
use Rattle.std.specs.Option.{ok_or}
use Rattle.std.proofs.lemmas.List.{take_all}
use Rattle.ft_isa.specs.PlanText.{IsStrikeText, IsRefusedAt}
use Rattle.ft_isa.specs.Reading.{state_after, next_strike, whole_strike}
use Rattle.ft_isa.specs.declared.plan.Strike.{Strike}
use Rattle.ft_isa.specs.declared.strike_text.Form.{Form}
use Rattle.ft_isa.specs.declared.strike_text.StrikeRead.{StrikeRead}
use Rattle.ft_isa.specs.declared.strike_text.StrikeRead.TheVariants.{AtStep}
use Rattle.ft_isa.proofs.Readers.{state_after-more, reads_ok, reads_only, refused_at, refused_at_end}
use Rattle.ft_isa.proofs.StrikeRead.{strike_told, IsStrikeRead, strike_reader}
use Rattle.ft_isa.proofs.strike_text.read_strike.Goals as goal

-- the result is the strike that the text spells, or else the error for this text
record Means (text : List ℕ) (r : Result Strike Form) : Type 0 where
  ok : IfOk r (IsStrikeText text)
  exact : (strike : Strike) → IsStrikeText text strike → r ≡ Ok strike
  err : IfErr r (λ form. IsRefusedAt IsStrikeText text form.at)

-- at the end of the text, the result is the strike that was read completely, or else the error
at_end : (text : List ℕ) (read : StrikeRead) (o : Option Strike) → state_after next_strike (AtStep None) text
    ≡ Some read → whole_strike read ≡ o → Means text (ok_or o (record { at = length text }))
at_end text read None e f =
    let refused = refused_at_end next_strike whole_strike (AtStep None) strike_told IsStrikeRead IsStrikeText
    strike_reader read text e f in
    record { ok = tt; exact = λ strike h. absurd (refused.none strike h); err = refused }
at_end text read (Some strike) e f = record {
  ok = reads_ok next_strike whole_strike (AtStep None) strike_told IsStrikeRead IsStrikeText strike_reader read strike
      text e f;
  exact = λ other h. (let only = reads_only next_strike whole_strike (AtStep None) strike_told IsStrikeRead IsStrikeText
      strike_reader read other text e h in cc);
  err = tt;
}

pub loop-at-init : goal.loop-at-init
loop-at-init c = refl

pub loop-at-preserved : goal.loop-at-preserved
loop-at-preserved c =
    state_after-more next_strike (AtStep None) c.loop-at.read c.in-Some.next c.args.text.now c.loop-at.at
    c.loop-at-test.true c.loop-at.invariant (sym c.next.ensures ∙ c.in-Some.is)

pub returns-in_default-clause-exact : goal.returns-in_default-clause-exact
returns-in_default-clause-exact c =
    let refused = refused_at next_strike whole_strike (AtStep None) strike_told IsStrikeRead IsStrikeText strike_reader
    c.loop-at.read c.args.text.now c.loop-at.at c.loop-at-test.true c.loop-at.invariant (sym c.next.ensures
    ∙ c.in_default.is) in
    λ strike h. absurd (refused.none strike h)

pub returns-in_default-clause-err : goal.returns-in_default-clause-err
returns-in_default-clause-err c =
    refused_at next_strike whole_strike (AtStep None) strike_told IsStrikeRead IsStrikeText strike_reader c.loop-at.read
    c.args.text.now c.loop-at.at c.loop-at-test.true c.loop-at.invariant (sym c.next.ensures ∙ c.in_default.is)

pub returns : goal.returns
returns c =
    let text = c.args.text.now in
    let whole : take c.loop-at.at text ≡ text = take_all c.loop-at.at text (omega arith) in
    let read : state_after next_strike (AtStep None) text
    ≡ Some c.loop-at.read = ap (state_after next_strike (AtStep None)) (sym whole) ∙ c.loop-at.invariant in
    let means = subst (λ (r : Result Strike Form). Means text r) (sym c.ok_or.ensures.value)
    (at_end text c.loop-at.read c.whole.result read (sym c.whole.ensures)) in
    record { ok = means.ok; exact = means.exact; err = means.err }
