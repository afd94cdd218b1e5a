use Rattle.std.proofs.Common.{◌-◌, ◌<◌, ◌++◌, [], ◌∷◌, length, map, Vec, Global, List, ℕ, refl, sym, ap, ◌∙◌, subst}
use Rattle.std.proofs.Common.{arith}
use Rattle.std.proofs.lemmas.List.{length-map}
use Rattle.ft_isa.specs.Words.{cell_address}
use Rattle.ft_isa.specs.declared.output.Output.{Output}
use Rattle.ft_edge.specs.Lines.{BreaksOff, with_lines}
use Rattle.ft_meaning.proofs.Sinks.{name_found, room_for, line_is, told_push, breaks_here}
use Rattle.ft_meaning.proofs.run.Run.assign_cell.Goals as goal

pub put_output-requires : goal.put_output-requires
put_output-requires g c =
    let names = c.args.names.now in
    let r = c.args.self.now in
    let d = c.index-names-k.result in
    let here : c.args.k < length names = omega (
      arith,
      c.requires.fits,
      c.requires.ready.as_many,
      length-map names (λ n. n.items),
    ) in
    let found = ap length (name_found names c.args.k d here) in
    let room = room_for (map (λ n. n.items) names) (length r.line.items - 22) c.args.k c.requires.ready.room in
    omega (
      arith,
      found,
      ap (λ (n : Vec ℕ Global). length n.items) c.index-names-k.is,
      room,
      c.requires.ready.line,
      ap length c.deref.ensures.value,
      ap length c.deref_mut.ensures.value,
    )

pub returns-in-Err-clause-runs : goal.returns-in-Err-clause-runs
returns-in-Err-clause-runs g c = λ first o w is.
    let ns = c.args.names.now in
    let names = map (λ n. n.items) ns in
    let d = c.index-names-k.result in
    let here : c.args.k < length ns = omega (
      arith,
      c.requires.fits,
      c.requires.ready.as_many,
      length-map ns (λ n. n.items),
    ) in
    let x : Output = record { addr = cell_address c.args.k; value = c.args.word } in
    let same = line_is names c.args.k c.args.word c.deref.result.now (name_found ns c.args.k d here
    ∙ ap (λ (n : Vec ℕ Global). n.items) (sym c.index-names-k.is) ∙ sym c.deref.ensures.value) in
    let before = g.K.Sink.log c.args.out.now in
    let after = g.K.Sink.log c.put_output.new.out in
    breaks_here names first before after o x is (subst (λ (l : List ℕ). BreaksOff (l ∷ []) before after) (sym same)
    c.in-Err.ensures.puts)

pub returns-clause-runs : goal.returns-clause-runs
returns-clause-runs g c = λ first o w is.
    let ns = c.args.names.now in
    let names = map (λ n. n.items) ns in
    let d = c.index-names-k.result in
    let here : c.args.k < length ns = omega (
      arith,
      c.requires.fits,
      c.requires.ready.as_many,
      length-map ns (λ n. n.items),
    ) in
    let x : Output = record { addr = cell_address c.args.k; value = c.args.word } in
    let same = line_is names c.args.k c.args.word c.deref.result.now
    (name_found ns c.args.k d here ∙ ap (λ (n : Vec ℕ Global). n.items) (sym c.index-names-k.is)
    ∙ sym c.deref.ensures.value) in
    let before = g.K.Sink.log c.args.out.now in
    let after = g.K.Sink.log c.put_output.new.out in (
      o ++ x ∷ [],
      w,
      refl,
      told_push names first before after o x is
          (c.in-Ok.ensures.puts ∙ ap (λ (l : List ℕ). with_lines (l ∷ []) before) (sym same)),
    )
