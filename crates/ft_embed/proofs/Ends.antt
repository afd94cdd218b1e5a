-- How runs end.
use Rattle.std.proofs.Common.{◌≡◌, ◌≢◌, ◌⊎◌, inl, inr, ℕ, ◌<◌, ◌≤◌, List, length, Option, None, refl, ap, sym, subst}
use Rattle.std.proofs.Common.{arith}
use Rattle.ft_isa.specs.declared.plan.Strike.{Strike}
use Rattle.ft_types.specs.declared.object.Object.{Object}
use Rattle.ft_types.specs.Spellable.{IsSpellable}
use Rattle.ft_typing.specs.Accepted.{IsAccepted, refusal}
use Rattle.ft_typing.proofs.Acceptance.{accepted_is_unrefused}
use Rattle.ft_isa.specs.declared.plan.Wild.{Wild}
use Rattle.ft_format.specs.Format.{Spells}
use Rattle.ft_format.specs.Broken.{object_of, version_at}
use Rattle.ft_semantics.specs.declared.status.Status.{Status}
use Rattle.ft_semantics.specs.declared.status.Status.TheVariants.{Running, Done, Detected}
use Rattle.ft_semantics.specs.Run.{Ran, outputs_after, status_after}
use Rattle.ft_semantics.proofs.Runs.{HasStopped, run_stays}
use Rattle.ft_tolerance.proofs.Masking.{tolerant}
use Rattle.ft_tolerance.proofs.Whole.{never_detected}
use Rattle.ft_embed.specs.declared.filling.CellOutput.{CellOutput}
use Rattle.ft_embed.specs.Outputs.{Ends, done, detected, cut, full, Takes, SameAfter, RunsInto, RunsFile}
use Rattle.ft_embed.specs.Plans.{IsFault, AreAnswers}

pub done_at : (steps taken count room : ℕ) (s : Status) → s ≡ Done → Ends 0 steps taken count room s
done_at steps taken count room s is = done refl is

pub detected_at : (steps taken count room : ℕ) (s : Status) → s ≡ Detected → Ends 1 steps taken count room s
detected_at steps taken count room s is = detected refl is

pub cut_at : (steps taken count room : ℕ) (s : Status) → s ≡ Running → taken ≡ steps → Ends 9 steps taken count room s
cut_at steps taken count room s is all = cut refl is all

no_room : (count room : ℕ) → count ≤ room → (count < room → ⊥) → count ≡ room
no_room count room le none = omega (arith, le, none)

pub full_at : (steps taken count room : ℕ) (s : Status) → s ≡ Running → (taken ≡ steps → ⊥) → count ≤ room →
    taken ≤ steps → (s ≡ Running → count < room → taken ≡ steps) → Ends 14 steps taken count room s
full_at steps taken count room s is other le few all =
    full refl is (no_room count room le (λ less. other (all is less))) (omega (arith, other, few))

-- once a run has stopped, further steps change nothing
pub stopped_all : (o : Object) (strike : Option Strike) (w : List Wild) (n m : ℕ) → n ≤ m →
    HasStopped (status_after o strike w n) → SameAfter o strike w n m
stopped_all o strike w n m le h =
    let same = sym (run_stays o strike w n m le h) in
    record { outputs = ap (λ (r : Ran). r.outputs) same; status = ap (λ (r : Ran). r.state.status) same }

pub all_of : (o : Object) (strike : Option Strike) (w : List Wild) (steps status taken count room : ℕ) → taken ≤ steps →
    Ends status steps taken count room (status_after o strike w taken) → status ≢ 14 → SameAfter o strike w taken steps
all_of o strike w steps status taken count room le (done is s) other =
    stopped_all o strike w taken steps le (subst HasStopped (sym s) tt)
all_of o strike w steps status taken count room le (detected is s) other =
    stopped_all o strike w taken steps le (subst HasStopped (sym s) tt)
all_of o strike w steps status taken count room le (cut is s all) other =
    record { outputs = ap (outputs_after o strike w) all; status = ap (status_after o strike w) all }
all_of o strike w steps status taken count room le (full is s all left) other = absurd (other is)

-- `RunsInto` holds for a run of an accepted object that took these steps
pub runs_into : (o : Object) (strike : Option Strike) (w : List Wild) (steps status taken count : ℕ) (s : Status)
    (new : List CellOutput) → IsSpellable o → IsAccepted o → Takes o strike w steps taken s count new
    → ((count room : ℕ) → count ≤ room → taken ≤ steps → (s ≡ Running → count < room → taken ≡ steps) →
    Ends status steps taken count room s) → RunsInto o strike w steps status taken count new
runs_into o strike w steps status taken count s new spellable accepted a ends =
    let e = subst (Ends status steps taken count (length new)) a.status_is
    (ends count (length new) a.within a.few a.all) in
    record {
      few = a.few;
      within = a.within;
      outputs = a.outputs;
      ends = e;
      agrees = tolerant o strike w taken spellable accepted;
      all = all_of o strike w steps status taken count (length new) a.few e;
      before = a.before;
    }

-- `RunsFile` holds if the object that bytes spell was run under the plan that the texts spell
pub runs_file : (bytes view fault wild : List ℕ) (strike : Option Strike) (w : List Wild) (steps status taken count : ℕ)
    (new : List CellOutput) → view ≡ bytes → Spells bytes (version_at bytes) (object_of view) →
    IsAccepted (object_of view) → IsFault fault strike → AreAnswers wild w
    → RunsInto (object_of view) strike w steps status taken count new →
    RunsFile bytes fault wild steps status taken count new
runs_file bytes view fault wild strike w steps status taken count new same spelled accepted is are runs =
    let spelled' : Spells bytes (version_at bytes) (object_of bytes) =
    subst (λ v. Spells bytes (version_at bytes) (object_of v)) same spelled in
    let accepted' : IsAccepted (object_of bytes) = subst (λ v. IsAccepted (object_of v)) same accepted in
    record {
      file = record { spelled = spelled'; accepted = accepted' };
      strike = strike;
      is_fault = is;
      answers = w;
      are_answers = are;
      runs = subst (λ v. RunsInto (object_of v) strike w steps status taken count new) same runs;
      sound = never_detected (object_of bytes) w spelled'.spellable accepted';
    }

-- a status that is 5 or 8 cannot differ from both
pub only : (n : ℕ) → (n ≡ 5) ⊎ (n ≡ 8) → n ≢ 5 → n ≢ 8 → ⊥
only n (inl five) a b = a five
only n (inr eight) a b = b eight

pub unrefused_accepted : (o : Object) → refusal o ≡ None → IsAccepted o
unrefused_accepted o h = (accepted_is_unrefused o).1 h
