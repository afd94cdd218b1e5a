use Rattle.std.proofs.Common.{◌≡◌, ◌++◌, ◌∷◌, [], List, length, true, is_ok, inr, ap, sym, ◌∙◌, subst, arith}
use Rattle.std.proofs.lemmas.Bool.{cond-true}
use Rattle.std.proofs.lemmas.List.{length-append}
use Rattle.std.proofs.lemmas.Slice.Zip.{AllZip-long}
use Rattle.ft_isa.specs.PlanText.{IsStrikeText}
use Rattle.ft_isa.specs.declared.plan.Strike.{Strike}
use Rattle.ft_text.specs.Lines.{lines_of}
use Rattle.ft_campaign.specs.FaultList.{AreStrikeTexts}
use Rattle.ft_campaign.proofs.Faults.{read_more, goes_on}
use Rattle.ft_campaign.proofs.fault_list.read_lines.Goals as goal

pub returns-then-len-eq-LINE_LIMIT-clause-err : goal.returns-then-len-eq-LINE_LIMIT-clause-err
returns-then-len-eq-LINE_LIMIT-clause-err c =
    let done = c.loop-line.invariant.lines in
    inr (
      c.requires,
      record {
        before = done.0;
        line = c.in-Some.line.now;
        goes_on = goes_on _ done.0 _ c.loop-line.faults.items c.in-Some.line.now (lines_of c.in-Some.after.now) done.1
            c.in-Some.ensures.0 done.2;
        counted = (let long = AllZip-long IsStrikeText done.0 c.loop-line.faults.items done.2 in
            omega (arith, long, c.loop-line.faults.ok.0));
      },
    )

pub returns-in_default-read_strike-clause-err : goal.returns-in_default-read_strike-clause-err
returns-in_default-read_strike-clause-err c =
    let done = c.loop-line.invariant.lines in
    let long = AllZip-long IsStrikeText done.0 c.loop-line.faults.items done.2 in (
      c.requires,
      record {
        before = done.0;
        line = c.in-Some.line.now;
        goes_on = goes_on _ done.0 _ c.loop-line.faults.items c.in-Some.line.now (lines_of c.in-Some.after.now) done.1
            c.in-Some.ensures.0 done.2;
        bad = c.in_default-read_strike.ensures.err.none;
        counted = omega (arith, long, c.loop-line.faults.ok.0);
        early = omega (arith, long, c.loop-line.faults.ok.0, c.loop-line.invariant.few);
      },
    )

pub loop-line-preserved : goal.loop-line-preserved
loop-line-preserved c =
    let done = c.loop-line.invariant.lines in
    let ok : is_ok c.push.result ≡ true = sym c.map_err.ensures.variant ∙ ap is_ok c.in_ok-map_err.was in
    let pushed : c.push.new.self.items ≡ c.loop-line.faults.items ++ c.in-Ok.strike ∷ [] = c.push.ensures.items
    ∙ cond-true _ _ _ ok in
    let more = read_more (lines_of c.args.bytes.now) done.0 _ c.loop-line.faults.items c.in-Some.line.now
    (lines_of c.in-Some.after.now) c.in-Ok.strike done.1 c.in-Some.ensures.0 done.2 c.in-Ok.ensures.ok in
    record {
      lines = (more.0, more.1, subst (λ (xs : List Strike). AreStrikeTexts more.0 xs) (sym pushed) more.2);
      few = (let long = ap length pushed ∙ length-append c.loop-line.faults.items (c.in-Ok.strike ∷ []) in
          omega (arith, long, c.loop-line.faults.ok.0, c.loop-line.invariant.few));
    }
