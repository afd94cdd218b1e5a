use Rattle.std.proofs.Common.{◌≡◌, ℕ, ◌+◌, ◌-◌, ◌≤◌, ◌++◌, length, take, drop, arith, length-drop, length-take, ap, sym}
use Rattle.std.proofs.Common.{subst, ◌∙◌, append_assoc}
use Rattle.std.proofs.lemmas.List.{take-take}
use Rattle.std.proofs.Math.Seq.{take-add}
use Rattle.std.specs.Io.KnownBytes.{Appends}
use Rattle.std.proofs.KnownBytes.{Appends-trans}
use Rattle.ft_edge.specs.Recording.{accepted}
use Rattle.ft_edge.proofs.writing.write_front.Goals as goal

pub loop-done-preserved : goal.loop-done-preserved
loop-done-preserved g c =
    let bytes = c.args.bytes.now in
    let done = c.loop-done.done in
    let count = c.in-Ok.count in
    let fits : count ≤ length bytes - done = omega (
      arith,
      c.in-Ok.ensures.bound,
      length-take {A = ℕ},
      length-drop {A = ℕ},
    ) in
    let front : take (done + count) bytes ≡ take done bytes
    ++ take count (take (length bytes - done) (drop done bytes)) =
    take-add done count bytes ∙ ap (λ ys. take done bytes
    ++ ys) (sym (take-take count (length bytes - done) (drop done bytes) fits)) in
    record {
      written =
          c.in-Ok.ensures.bytes ∙ ap (λ xs. xs ++ take count (take (length bytes - done) (drop done bytes)))
          c.loop-done.invariant.written ∙ append_assoc _ (take done bytes) _
          ∙ ap (λ xs. accepted c.args.out.now ++ xs) (sym front);
      told = subst (Appends _ _) (sym front) (Appends-trans _ _ _ _ _ c.loop-done.invariant.told c.in-Ok.ensures.told);
      within = omega arith;
    }
