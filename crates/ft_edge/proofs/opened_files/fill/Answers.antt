use Rattle.std.proofs.Common.{ℕ, ◌++◌, ◌<◌, false, length, take, drop, ap, sym, subst, ◌∙◌, arith, length-take}
use Rattle.std.proofs.Common.{length-drop}
use Rattle.std.proofs.Math.Seq.{take-add}
use Rattle.std.specs.Io.KnownBytes.{Consumes}
use Rattle.std.proofs.KnownBytes.{Consumes-trans}
use Rattle.ft_history.specs.Files.{gives}
use Rattle.ft_edge.proofs.HeardFiles.{gives_twice, gave_some}
use Rattle.ft_edge.proofs.opened_files.fill.Goals as goal

pub loop-filled-preserved : goal.loop-filled-preserved
loop-filled-preserved g c =
    let read = c.in_ok-count.ensures in
    let more = take c.in_ok-count.count (drop c.loop-filled.filled c.read_more.new.into.items) in
    let front = take-add c.loop-filled.filled c.in_ok-count.count c.read_more.new.into.items
    ∙ ap (λ l. l ++ more) read.front in
    let some : 0 < length more = omega (arith, length-take {A = ℕ}, length-drop {A = ℕ}) in
    record {
      heard =
          read.heard ∙ gave_some _ more some ∙ ap (λ fs. gives fs more false) c.loop-filled.invariant.heard
          ∙ gives_twice _ _ more false false
          ∙ ap (λ bytes. gives c.args.heard.now.files bytes false) (sym front);
      read = subst (Consumes _ _) (sym front) (Consumes-trans _ _ _ _ _ c.loop-filled.invariant.read read.bytes);
      filled = read.fits;
      within = read.within;
    }
