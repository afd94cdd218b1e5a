use Rattle.std.proofs.Common.{◌++◌, ◌∷◌, [], suc, length, inl, inr, refl, ap, sym, ◌∙◌, subst, append_assoc, arith}
use Rattle.std.proofs.lemmas.List.{length-append}
use Rattle.ft_text.specs.Lines.{lines_of}
use Rattle.ft_asm.specs.Drafts.{Start}
use Rattle.ft_asm.specs.Turns.{Turns}
use Rattle.ft_asm.proofs.Faults.{Lead, lead_none}
use Rattle.ft_asm.proofs.Turned.{bad_line, stuck_line, lead_on, ends_reads, ends_lacks, all_read}
use Rattle.ft_asm.proofs.assembly.read_tables.Goals as goal

pub loop-line-init : goal.loop-line-init
loop-line-init c = let small = c.if-text-gt-LIMIT.false in record {
  read = ([], refl, refl, (Start [] [], c.new-draft.ensures, lead_none));
  room = omega arith;
  few = omega arith;
}

pub returns-in-Bad-clause-refused : goal.returns-in-Bad-clause-refused
returns-in-Bad-clause-refused c =
    let r = c.loop-line.invariant.read in
    let d = r.3.0 in
    let t = subst (λ k. Turns k c.take_line.new.draft d c.in-Some.line.now) c.in-Bad.is (c.in-Ok.ensures d r.3.1) in
    let split = r.1 ∙ ap (λ ls. r.0 ++ ls) c.in-Some.ensures.0 in (
      c.loop-line.invariant.few,
      bad_line c.args.text.now c.loop-line.number r.0 (lines_of c.in-Some.after.now)
          c.in-Some.line.now split r.2 d r.3.2 t.0 t.1,
    )

pub returns-in-Stuck-clause-refused : goal.returns-in-Stuck-clause-refused
returns-in-Stuck-clause-refused c =
    let r = c.loop-line.invariant.read in
    let d = r.3.0 in
    let t = subst (λ k. Turns k c.take_line.new.draft d c.in-Some.line.now) c.in-Stuck.is (c.in-Ok.ensures d r.3.1) in
    let split = r.1 ∙ ap (λ ls. r.0 ++ ls) c.in-Some.ensures.0 in (
      c.loop-line.invariant.few,
      inl (stuck_line c.args.text.now c.loop-line.number r.0 (lines_of c.in-Some.after.now)
          c.in-Some.line.now split r.2 d r.3.2 t.1 t.0 t.2 t.3),
    )

pub loop-line-preserved : goal.loop-line-preserved
loop-line-preserved c =
    let r = c.loop-line.invariant.read in
    let d = r.3.0 in
    let t = subst (λ k. Turns k c.take_line.new.draft d c.in-Some.line.now) c.in-On.is (c.in-Ok.ensures d r.3.1) in
    let line = c.in-Some.line.now in
    let split = r.1 ∙ ap (λ ls. r.0 ++ ls) c.in-Some.ensures.0 in
    let long = length-append r.0 (line ∷ []) in
    let shorter = c.in-Some.ensures.1 in
    let here = r.2 in
    let room = c.loop-line.invariant.room in
    record {
      read = (
        r.0 ++ line ∷ [],
        split ∙ sym (append_assoc r.0 (line ∷ []) (lines_of c.in-Some.after.now)),
        omega arith,
        (t.0, t.1, lead_on c.args.text.now r.0 (lines_of c.in-Some.after.now) line d t.0 split r.3.2 t.2),
      );
      room = omega arith;
      few = c.loop-line.invariant.few;
    }

pub returns-in-Some-finish-clause-reads : goal.returns-in-Some-finish-clause-reads
returns-in-Some-finish-clause-reads c =
    let r = c.loop-line.invariant.read in
    let d = r.3.0 in
    let all = all_read c.args.text.now c.loop-line.rest.now r.0 r.1 c.in_default.ensures in
    ends_reads c.args.text.now c.in-Some-finish.object d (subst (λ ls. Lead ls d) (sym all) r.3.2)
    (c.in-Some-finish.ensures d r.3.1)

pub returns-in-None-clause-refused : goal.returns-in-None-clause-refused
returns-in-None-clause-refused c =
    let r = c.loop-line.invariant.read in
    let d = r.3.0 in
    let all = all_read c.args.text.now c.loop-line.rest.now r.0 r.1 c.in_default.ensures in (
      c.loop-line.invariant.few,
      inr (ends_lacks c.args.text.now c.loop-line.number d (r.2
          ∙ ap (λ ls. suc (length ls)) (sym all)) (subst (λ ls. Lead ls d) (sym all) r.3.2)
          (c.in-None.ensures d r.3.1)),
    )
