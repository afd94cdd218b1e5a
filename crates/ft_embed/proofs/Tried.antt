-- Faults that were tried on an object.
use Rattle.std.proofs.Common.{◌≡◌, ℕ, ◌*◌, ◌<◌, ◌≤◌, List, length, take, map, refl, sym, subst, ap}
use Rattle.std.proofs.lemmas.Slice.Zip.{AllZip-long}
use Rattle.ft_isa.specs.declared.plan.Strike.{Strike}
use Rattle.ft_isa.specs.declared.plan.Wild.{Wild}
use Rattle.ft_types.specs.declared.object.Object.{Object}
use Rattle.ft_types.specs.Spellable.{IsSpellable}
use Rattle.ft_typing.specs.Accepted.{IsAccepted}
use Rattle.ft_format.specs.Format.{Spells}
use Rattle.ft_format.specs.Broken.{object_of, version_at}
use Rattle.ft_tolerance.proofs.Whole.{never_detected}
use Rattle.ft_campaign.specs.declared.fault_list.ListError.{ListError}
use Rattle.ft_campaign.specs.declared.fault_list.ListError.TheVariants as lists
use Rattle.ft_campaign.specs.declared.verdict.Verdict.{Verdict}
use Rattle.ft_campaign.specs.FaultList.{IsFaultList, IsListError}
use Rattle.ft_campaign.specs.Verdicts.{AreVerdicts}
use Rattle.ft_campaign.specs.Texts.{totals_of}
use Rattle.ft_campaign.proofs.Judged.{none_corrupt}
use Rattle.ft_embed.specs.declared.trial.FaultVerdict.{FaultVerdict}
use Rattle.ft_embed.specs.declared.trial.FaultTotals.{FaultTotals}
use Rattle.ft_embed.specs.Plans.{AreAnswers}
use Rattle.ft_embed.specs.Verdicts.{IsAcceptedFile}
use Rattle.ft_embed.specs.Trials.{fault_verdict, fault_totals, Tries, TriesFile, TriesList, IsListRefused, bad_line}
use Rattle.ft_embed.specs.Trials.{too_much, told_list}

-- a list with a line that is not a fault is refused, with the number of the line
pub list_line : (list : List ℕ) (steps : ℕ) (error : ListError) (line : ℕ) → error ≡ lists.Line line →
    IsListError list error → IsListRefused list steps (told_list 1 line)
list_line list steps error line is h = bad_line line (subst (IsListError list) is h) refl

-- a list is refused if its faults would take too many steps in all
pub list_much : (list : List ℕ) (faults : List Strike) (steps count : ℕ) → IsFaultList list faults → count
    ≡ length faults → 1000000000 < count * steps → IsListRefused list steps (told_list 3 (count * steps))
list_much list faults steps count h is above = too_much faults h (subst (λ n. 1000000000 < n * steps) is above)
    (ap (λ n. told_list 3 (n * steps)) is)

-- there are as many verdicts as faults
pub as_many : (o : Object) (faults : List Strike) (w : List Wild) (steps : ℕ) (found : List Verdict) →
    AreVerdicts o faults w steps found → length found ≡ length faults
as_many o faults w steps found h = AllZip-long _ faults found h

-- `Tries` holds if the verdicts on faults of an accepted object are in the array
pub tried : (o : Object) (faults : List Strike) (w : List Wild) (steps : ℕ) (found : List Verdict)
    (old new : List FaultVerdict) → IsSpellable o → IsAccepted o → AreVerdicts o faults w steps found
    → length faults ≤ length old → length new ≡ length old → take (length found) new ≡ map fault_verdict found →
    Tries o faults w steps (fault_totals (length faults) (totals_of found)) new
tried o faults w steps found old new spellable accepted verdicts room same stand = record {
  found = found;
  verdicts = verdicts;
  uncorrupted = none_corrupt o faults w steps found spellable accepted verdicts;
  within = subst (λ n. length faults ≤ n) (sym same) room;
  stand = subst (λ n. take n new ≡ map fault_verdict found) (as_many o faults w steps found verdicts) stand;
  totals_are = refl;
}

-- the bytes that a view borrows spell an accepted object if the view's object is accepted
pub accepted_file : (bytes view : List ℕ) → view ≡ bytes → Spells bytes (version_at bytes) (object_of view) →
    IsAccepted (object_of view) → IsAcceptedFile bytes
accepted_file bytes view same spelled accepted = record {
  spelled = subst (λ v. Spells bytes (version_at bytes) (object_of v)) same spelled;
  accepted = subst (λ v. IsAccepted (object_of v)) same accepted;
}

-- `TriesFile` holds if the faults in a text were tried on the object that bytes spell
pub tries_file : (bytes view list wild : List ℕ) (w : List Wild) (steps : ℕ) (totals : FaultTotals)
    (new : List FaultVerdict) → view ≡ bytes → Spells bytes (version_at bytes) (object_of view) →
    IsAccepted (object_of view)
    → steps ≤ 1000000 → AreAnswers wild w → TriesList (object_of view) list w steps totals new →
    TriesFile bytes list wild steps totals new
tries_file bytes view list wild w steps totals new same spelled accepted few are tries =
    let file = accepted_file bytes view same spelled accepted in
    record {
      file = file;
      answers = w;
      are_answers = are;
      faults = tries.faults;
      are_faults = tries.are_faults;
      few_steps = few;
      few_in_all = tries.few_in_all;
      tries = subst (λ v. Tries (object_of v) tries.faults w steps totals new) same tries.tries;
      sound = never_detected (object_of bytes) w file.spelled.spellable file.accepted;
    }
