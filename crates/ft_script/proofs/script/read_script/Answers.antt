use Rattle.std.proofs.Common.{◌≡◌, ◌++◌, ◌∷◌, [], ℕ, List, length, map, true, is_ok, ap, sym, ◌∙◌, subst, append_assoc}
use Rattle.std.proofs.Common.{arith}
use Rattle.std.specs.List.{AllZip}
use Rattle.std.proofs.lemmas.Bool.{cond-true}
use Rattle.std.proofs.lemmas.List.{length-append, map-append}
use Rattle.std.proofs.lemmas.Slice.Zip.{all_zipped_more}
use Rattle.ft_text.specs.Lines.{lines_of}
use Rattle.ft_script.specs.declared.command.Command as read
use Rattle.ft_script.specs.Commands.{Command, Gives}
use Rattle.ft_script.specs.Reads.{command_of}
use Rattle.ft_script.proofs.script.read_script.Goals as goal

-- one more line gives its command
given_more : (all done rest : List (List ℕ)) (xs : List read.Command) (line : List ℕ) (more : List (List ℕ))
    (x : read.Command) → all ≡ done ++ rest → rest ≡ line ∷ more → AllZip Gives done (map command_of xs) →
    Gives line (command_of x)
    → (before : List (List ℕ)) × (all ≡ before ++ more) × AllZip Gives before (map command_of (xs ++ x ∷ []))
given_more all done rest xs line more x e f given h = (
  done ++ line ∷ [],
  e ∙ ap (λ l. done ++ l) f ∙ sym (append_assoc done (line ∷ []) more),
  subst (λ (l : List Command). AllZip Gives (done ++ line ∷ []) l) (sym (map-append command_of xs (x ∷ [])))
      (all_zipped_more Gives done (map command_of xs) line (command_of x) given h),
)

pub loop-line-preserved : goal.loop-line-preserved
loop-line-preserved c =
    let done = c.loop-line.invariant.lines in
    let ok : is_ok c.push.result ≡ true = sym c.map_err.ensures.variant ∙ ap is_ok c.in_ok-map_err.was in
    let pushed : c.push.new.self.items ≡ c.loop-line.commands.items ++ c.read_command.result ∷ [] = c.push.ensures.items
    ∙ cond-true _ _ _ ok in
    let more = given_more (lines_of c.args.script.now) done.0 (lines_of c.loop-line.rest.now) c.loop-line.commands.items
    c.in-Some.line.now (lines_of c.in-Some.after.now) c.read_command.result done.1 c.in-Some.ensures.0 done.2
    c.read_command.ensures in
    record {
      lines = (
        more.0,
        more.1,
        subst (λ (xs : List read.Command). AllZip Gives more.0 (map command_of xs)) (sym pushed)
            more.2,
      );
      few = (let long = ap length pushed ∙ length-append c.loop-line.commands.items (c.read_command.result ∷ []) in
          let few = c.loop-line.invariant.few in let shorter = c.in-Some.ensures.1 in omega arith);
    }
