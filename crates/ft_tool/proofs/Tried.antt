-- How the parts of a campaign end.
use Rattle.std.proofs.Common.{◌≡◌, ◌≢◌, ℕ, suc, ◌*◌, ◌<◌, ◌≤◌, List, [], ◌∷◌, length, Option, Some, None, Ok, Err, inl}
use Rattle.std.proofs.Common.{inr, refl, sym, ap, ◌∙◌, subst, arith, if◌then◌else◌, eq-eqb, ne_eqb}
use Rattle.std.specs.Prelude.{◌⊎◌, count_by}
use Rattle.std.proofs.Math.Nat.{lt_of_not-le}
use Rattle.std.proofs.lemmas.Option.{same_Some}
use Rattle.ft_edge.specs.Causes.{Rose}
use Rattle.ft_edge.specs.Loads.{Files}
use Rattle.ft_edge.specs.Logs.{SinkLog, ShelfLog, LoadFails}
use Rattle.ft_isa.specs.declared.plan.Strike.{Strike}
use Rattle.ft_types.specs.declared.object.Object.{Object}
use Rattle.ft_typing.specs.Accepted.{Refusal, refusal}
use Rattle.ft_format.specs.Broken.{object_of, version_at}
use Rattle.ft_format.proofs.Write.{spells_read}
use Rattle.ft_tolerance.specs.Soundness.{IsNeverDetected}
use Rattle.ft_tolerance.proofs.Whole.{never_detected}
use Rattle.ft_demo.specs.Sample.{sample_object}
use Rattle.ft_demo.proofs.Spelled.{sample_is_spellable}
use Rattle.ft_demo.proofs.Applies.{sample_is_accepted}
use Rattle.ft_campaign.specs.declared.totals.Totals.{Totals}
use Rattle.ft_campaign.specs.declared.verdict.Verdict.{Verdict}
use Rattle.ft_campaign.specs.declared.fault_list.ListError.TheVariants as lists
use Rattle.ft_campaign.specs.Campaigns.{Finishes, Stops}
use Rattle.ft_campaign.specs.Texts.{is_corrupt, totals_of, campaign_lines}
use Rattle.ft_campaign.specs.Verdicts.{AreVerdicts}
use Rattle.ft_command.specs.Options.{Word}
use Rattle.ft_command.specs.Commands.{Campaign, Campaigns, Surveys}
use Rattle.ft_tool.specs.declared.load.ListFault.{ListFault}
use Rattle.ft_tool.specs.declared.load.ListFault.TheVariants as list_faults
use Rattle.ft_tool.specs.declared.load.ObjectFault.{ObjectFault}
use Rattle.ft_tool.specs.declared.load.ObjectFault.TheVariants.{Refused, Failed, NoMemory as no_memory}
use Rattle.ft_tool.specs.Replies.{Answer, IsFile, IsToldFile}
use Rattle.ft_tool.specs.Answers.{Concludes, BreaksOff, OverFile, OverListFile, SurveysObject, CampaignsAccepted}
use Rattle.ft_tool.specs.Answers.{CampaignsUnless, CampaignsObject, SpellsFile, SpellsAccepted, FailsIn}
use Rattle.ft_tool.specs.Calls.{LoadList, asked_after, HasMade, object_load, list_load, LoadsCampaign, LoadsFor}
use Rattle.ft_tool.specs.Lists.{status_of, AnyVerdicts, NoneCorrupt, OverFaults, tried, refused_list, listed}
use Rattle.ft_tool.specs.Told.{OfFiles, IsListOf, OverListOf, CampaignsListOf, LoadsOther}
use Rattle.ft_tool.specs.Files.{LoadsObject, GetsList, ListCause, IsRefusedBy, IsListRefusedBy}
use Rattle.ft_tool.proofs.Mapped.{files_with, files_with_both}

-- a number that is not above another is at most the other
pub at_most : (n m : ℕ) → (n < m → ⊥) → m ≤ n
at_most n m h = omega (arith, lt_of_not-le {n = suc n} {m = m} h)

-- if a campaign finished, its answer was written
pub tried_concludes : (Promised : List Verdict → Type 0) (c : Campaign) (o : Object) (faults : List Strike)
    (totals : Totals) (status : ℕ) (old new : SinkLog)
    → Finishes totals o faults c.wild c.steps old new → length faults * c.steps ≤ 1000000000
    → ((vs : List Verdict) → AreVerdicts o faults c.wild c.steps vs → Promised vs)
    → ((vs : List Verdict) → totals ≡ totals_of vs → status ≡ status_of vs)
    → Concludes (OverFaults Promised c o faults) status old new
tried_concludes Promised c o faults totals status old new h few keeps is = record {
  answer = record { pieces = campaign_lines faults h.found; status = status_of h.found };
  is = tried few h.found h.verdicts (keeps h.found h.verdicts) refl;
  put = h.lines;
  status_is = is h.found h.totals_are;
}

-- if a campaign stopped at a failed put, its answer was written up to that put
pub tried_breaks_off : (Promised : List Verdict → Type 0) (c : Campaign) (o : Object) (faults : List Strike)
    (old new : SinkLog)
    → Stops o faults c.wild c.steps old new → length faults * c.steps ≤ 1000000000
    → ((vs : List Verdict) → AreVerdicts o faults c.wild c.steps vs → Promised vs)
    → BreaksOff (OverFaults Promised c o faults) old new
tried_breaks_off Promised c o faults old new h few keeps = record {
  answer = record { pieces = campaign_lines faults h.found; status = status_of h.found };
  is = tried few h.found h.verdicts (keeps h.found h.verdicts) refl;
  broken = h.lines;
}

-- without a fault, the run of a demonstration's object is never detected
pub sample_undetected : (turns : ℕ) → 1 ≤ turns → turns ≤ 10921 → IsNeverDetected (sample_object turns) []
sample_undetected turns some few = never_detected (sample_object turns) []
    (sample_is_spellable (sample_object turns) turns refl some few)
    (sample_is_accepted (sample_object turns) turns refl)

-- the status is 0 if the totals count no corrupt verdict, and 10 otherwise
pub none_corrupt : (totals : Totals) (vs : List Verdict) → totals.corrupt ≡ 0 → totals ≡ totals_of vs → 0 ≡ status_of vs
none_corrupt totals vs none is = sym (ap (λ b. if b then 0
    else 10) (eq-eqb (count_by is_corrupt vs) 0 (sym (ap (λ (t : Totals). t.corrupt) is) ∙ none)))

pub some_corrupt : (totals : Totals) (vs : List Verdict) → (totals.corrupt ≡ 0 → ⊥) → totals ≡ totals_of vs → 10
    ≡ status_of vs
some_corrupt totals vs some is = sym (ap (λ b. if b then 0
    else 10) (ne_eqb (count_by is_corrupt vs) 0 (λ e. some (ap (λ (t : Totals). t.corrupt) is ∙ e))))

-- the answer for the faults of a list is an answer for the list
pub over_listed : {V : Type 0} (faults_of : V → List Strike) (Promised : List Verdict →
    Type 0) (c : Campaign) (told : Option Files) (bytes : List ℕ) (o : Object) (v : V)
    → GetsList faults_of (IsListOf c told bytes) (Ok v) → (a : Answer) → OverFaults Promised c o (faults_of v) a →
    OverListOf Promised c told bytes o a
over_listed faults_of Promised c told bytes o v h a is = (h.0, (h.1.0, listed (faults_of v) h.1.1 is))

-- the answer to a refused list is an answer for the list
pub over_refused_list : {V : Type 0} (faults_of : V → List Strike) (Promised : List Verdict →
    Type 0) (c : Campaign) (told : Option Files) (bytes : List ℕ) (o : Object) (e : ListFault)
    → GetsList faults_of (IsListOf c told bytes) (Err e) → (a : Answer) → IsListRefusedBy e a →
    OverListOf Promised c told bytes o a
over_refused_list faults_of Promised c told bytes o (list_faults.Line number) h a is =
    (h.0, (h.1.0, refused_list (record { error = lists.Line number; refused = h.1.1; answer = is })))
over_refused_list faults_of Promised c told bytes o list_faults.TooMany h a is =
    (h.0, (h.1.0, refused_list (record { error = lists.TooMany; refused = h.1.1; answer = is })))
over_refused_list faults_of Promised c told bytes o list_faults.Failed h a is = absurd is
over_refused_list faults_of Promised c told bytes o list_faults.NoMemory h a is = absurd is

-- the answer for the list is an answer for its file, if the object's file has these bytes
with_list : (Promised : List Verdict → Type 0) (c : Campaign) (told : Option Files) (bytes : List ℕ) (o : Object)
    (a : Answer) → IsToldFile told c.object bytes → OverListOf Promised c told bytes o a
    → OfFiles told (λ files. IsFile files c.object bytes × OverListFile Promised c files o a)
with_list Promised c told bytes o a file is =
    let m = files_with_both told c.object bytes c.faults is.0 file is.1.0.file is.1.0.own in
    (m.0, (m.1.0, (m.1.1.0, (is.0, (m.1.1.1, is.1.1)))))

-- likewise for the answer of a campaign, whether or not its object is refused
with_strikes : (x : Option Refusal) (c : Campaign) (told : Option Files) (bytes : List ℕ) (o : Object) (a : Answer) →
    IsToldFile told c.object bytes → CampaignsUnless x (CampaignsListOf c told bytes o) a
    → OfFiles told (λ files. IsFile files c.object bytes × CampaignsUnless x (CampaignsAccepted c files o) a)
with_strikes None c told bytes o a file is = let m = with_list NoneCorrupt c told bytes o a file is.0 in
    (m.0, (m.1.0, (m.1.1.0, (m.1.1.1, is.1))))
with_strikes (Some r) c told bytes o a file is = let m = files_with told c.object bytes file in
    (m.0, (m.1.0, (m.1.1, is)))

-- the answer of a survey, or of a campaign, for the object that a file's bytes spell is an answer for the file
pub over_surveyed : (c : Campaign) (told : Option Files) (bytes : List ℕ) → LoadsObject told c.object (Ok bytes) →
    (a : Answer) → OverListOf AnyVerdicts c told bytes (object_of bytes) a
    → OfFiles told (λ files. OverFile (SurveysObject c files) c.object files a)
over_surveyed c told bytes h a is =
    let m = with_list AnyVerdicts c told bytes (object_of bytes) a h.0 is in
    (m.0, (m.1.0, (bytes, (m.1.1.0, inl (object_of bytes, ((version_at bytes, h.1), m.1.1.1))))))

pub over_struck : (c : Campaign) (told : Option Files) (bytes : List ℕ) → LoadsObject told c.object (Ok bytes) →
    (a : Answer) → CampaignsUnless (refusal (object_of bytes)) (CampaignsListOf c told bytes (object_of bytes)) a
    → OfFiles told (λ files. OverFile (CampaignsObject c files) c.object files a)
over_struck c told bytes h a is =
    let m = with_strikes (refusal (object_of bytes)) c told bytes (object_of bytes) a h.0 is in
    (m.0, (m.1.0, (bytes, (m.1.1.0, inl (object_of bytes, ((version_at bytes, h.1), m.1.1.1))))))

-- likewise for an answer to the borrowed bytes, with the shelf as it is after the load
pub own_bytes : (told between : Option Files) (name : Word) (bytes lent : List ℕ) → between ≡ told → lent ≡ bytes →
    LoadsObject told name (Ok bytes) → IsToldFile between name lent
own_bytes told between name bytes lent e f h = subst (λ t. IsToldFile t name lent) (sym e)
    (subst (IsToldFile told name) (sym f) h.0)

pub over_surveyed_between : (c : Campaign) (told between : Option Files) (bytes lent : List ℕ) → between ≡ told → lent
    ≡ bytes → LoadsObject told c.object (Ok bytes)
    → (a : Answer) → OverListOf AnyVerdicts c between lent (object_of bytes) a →
    OfFiles told (λ files. OverFile (SurveysObject c files) c.object files a)
over_surveyed_between c told between bytes lent e f h a is =
    over_surveyed c told bytes h a (subst (λ t. OverListOf AnyVerdicts c t bytes (object_of bytes) a) e
    (subst (λ b. OverListOf AnyVerdicts c between b (object_of bytes) a) f is))

pub over_struck_between : (c : Campaign) (told between : Option Files) (bytes lent : List ℕ) → between ≡ told → lent
    ≡ bytes → LoadsObject told c.object (Ok bytes)
    → (a : Answer) → CampaignsUnless (refusal (object_of bytes)) (CampaignsListOf c between lent (object_of bytes)) a →
    OfFiles told (λ files. OverFile (CampaignsObject c files) c.object files a)
over_struck_between c told between bytes lent e f h a is =
    over_struck c told bytes h a
    (subst (λ t. CampaignsUnless (refusal (object_of bytes)) (CampaignsListOf c t bytes (object_of bytes)) a) e
    (subst (λ b. CampaignsUnless (refusal (object_of bytes)) (CampaignsListOf c between b (object_of bytes)) a) f is))

-- the answer to refused bytes is an answer for the file
pub over_unstruck : (Over : Files → Object → Answer → Type 0) (told : Option Files) (name : Word) (e : ObjectFault) →
    LoadsObject told name (Err e) → (a : Answer) → IsRefusedBy e a
    → OfFiles told (λ files. OverFile (Over files) name files a)
over_unstruck Over told name (Refused e) h a is = let m = files_with told name h.0 h.1.0 in
    (m.0, (m.1.0, (h.0, (m.1.1, inr (e, (h.1.1, is))))))
over_unstruck Over told name Failed h a is = absurd is
over_unstruck Over told name no_memory h a is = absurd is

-- the file of a loaded object spells an object, and an accepted one if the loaded one is accepted
pub spells_file : (told : Option Files) (name : Word) (bytes : List ℕ) → LoadsObject told name (Ok bytes) →
    OfFiles told (λ files. SpellsFile files name)
spells_file told name bytes h = let m = files_with told name bytes h.0 in
    (m.0, (m.1.0, (bytes, (m.1.1, (object_of bytes, (version_at bytes, h.1))))))

pub spells_accepted : (told : Option Files) (name : Word) (bytes : List ℕ) → LoadsObject told name (Ok bytes) →
    refusal (object_of bytes) ≡ None → OfFiles told (λ files. SpellsAccepted files name)
spells_accepted told name bytes h unrefused = let m = files_with told name bytes h.0 in
    (m.0, (m.1.0, (bytes, (m.1.1, (object_of bytes, ((version_at bytes, h.1), unrefused))))))

-- the file of a refused object spells no accepted one
unrefused : (files : Files) (name : Word) (bytes : List ℕ) → IsFile files name bytes →
    refusal (object_of bytes) ≢ None → SpellsAccepted files name → ⊥
unrefused files name bytes file refused s =
    refused (ap (λ bs. refusal (object_of bs)) (same_Some bytes s.0 (sym file ∙ s.1.0))
    ∙ ap refusal (spells_read s.0 s.1.1.1.0.0 s.1.1.0 s.1.1.1.0.1) ∙ s.1.1.1.1)

refused_by : (files : Files) (name : Word) (bytes : List ℕ) (Early : Type 0) → IsFile files name bytes →
    (refusal (object_of bytes) ≢ None) ⊎ Early → (SpellsAccepted files name → ⊥) ⊎ Early
refused_by files name bytes Early file (inl refused) = inl (unrefused files name bytes file refused)
refused_by files name bytes Early file (inr early) = inr early

refused_file : (told : Option Files) (name : Word) (bytes : List ℕ) (Early : Type 0) →
    LoadsObject told name (Ok bytes) → (refusal (object_of bytes) ≢ None) ⊎ Early →
    OfFiles told (λ files. (SpellsAccepted files name → ⊥) ⊎ Early)
refused_file told name bytes Early h refused = let m = files_with told name bytes h.0 in
    (m.0, (m.1.0, refused_by m.0 name bytes Early m.1.1 refused))

-- unless the call ends early, a fact that implies a false one is false, and a false fact implies any fact
unaccepted_file : (Spells Accepted Early : Type 0) → (Accepted → Spells) → (Spells → ⊥) ⊎ Early → (Accepted → ⊥) ⊎ Early
unaccepted_file Spells Accepted Early f (inl none) = inl (λ a. none (f a))
unaccepted_file Spells Accepted Early f (inr early) = inr early

alone : (Comes Own Early : Type 0) → (Comes → ⊥) ⊎ Early → (Comes → Own) ⊎ Early
alone Comes Own Early (inl none) = inl (λ comes. absurd (none comes))
alone Comes Own Early (inr early) = inr early

-- if the load of the fault list failed after the load of the object, a load of the request failed
fails_later : (name : Word) (shelf between shelf' : ShelfLog) → between.failures ≡ shelf.failures
    → LoadFails name between shelf' → LoadFails name shelf shelf'
fails_later name shelf between shelf' same h = (subst (λ n. Rose n shelf'.failures) same h.0, h.1)

pub survey_failed : (c : Campaign) (bytes : List ℕ) (shelf between shelf' : ShelfLog)
    → LoadsObject shelf.files c.object (Ok bytes) → between.failures ≡ shelf.failures
    → LoadFails c.faults between shelf'
    → OfFiles shelf.files (λ files. FailsIn (Surveys c) files shelf shelf')
survey_failed c bytes shelf between shelf' h same f =
    let m = spells_file shelf.files c.object bytes h in (
      m.0,
      (
        m.1.0,
        record {
          file = c.faults;
          comes = inr (refl, m.1.1);
          fails = fails_later c.faults shelf between shelf'
              same f;
        },
      ),
    )

pub campaign_failed : (c : Campaign) (bytes : List ℕ) (shelf between shelf' : ShelfLog)
    → LoadsObject shelf.files c.object (Ok bytes) → between.failures ≡ shelf.failures
    → LoadFails c.faults between shelf' × (refusal (object_of bytes) ≡ None)
    → OfFiles shelf.files (λ files. FailsIn (Campaigns c) files shelf shelf')
campaign_failed c bytes shelf between shelf' h same f =
    let m = spells_accepted shelf.files c.object bytes h f.1 in (
      m.0,
      (
        m.1.0,
        record {
          file = c.faults;
          comes = inr (refl, m.1.1);
          fails = fails_later c.faults shelf between shelf'
              same f.0;
        },
      ),
    )

-- a campaign that does not get to its list, or ends early, may load only its object
pub object_alone : (c : Campaign) (told : Option Files) (Comes : Files →
    Type 0) (Early : Type 0) (asked asked' : Option LoadList) → OfFiles told (λ files. (Comes files → ⊥) ⊎ Early)
    → HasMade (object_load c.object ∷ []) asked asked' →
    OfFiles told (λ files. LoadsCampaign c (Comes files) Early asked asked')
object_alone c told Comes Early asked asked' m h =
    (m.0, (m.1.0, inl (record { none = alone (Comes m.0) (c.faults ≡ c.object) Early m.1.1; made = h })))

-- a campaign that gets to its list loads it after the object, unless both have the same name
list_loaded : (c : Campaign) (told : Option Files) (Comes : Files →
    Type 0) (Early : Type 0) (asked between asked' : Option LoadList) → OfFiles told Comes →
    HasMade (object_load c.object ∷ []) asked between → LoadsOther c between asked'
    → OfFiles told (λ files. LoadsCampaign c (Comes files) Early asked asked')
list_loaded c told Comes Early asked between asked' m h (inl own) =
    (m.0, (m.1.0, inl (record { none = inl (λ comes. own.0); made = own.1 ∙ h })))
list_loaded c told Comes Early asked between asked' m h (inr more) = (
  m.0,
  (
    m.1.0,
    inr (record {
      comes = m.1.1;
      other = more.0;
      made = more.1 ∙ ap (asked_after (list_load c.faults ∷ [])) h;
    }),
  ),
)

-- likewise for a survey whose object was loaded
pub surveys_loaded : (c : Campaign) (told : Option Files) (bytes : List ℕ) (Early : Type 0)
    (asked between asked' : Option LoadList) → LoadsObject told c.object (Ok bytes) →
    HasMade (object_load c.object ∷ []) asked between
    → LoadsOther c between asked' → OfFiles told (λ files. LoadsFor (Surveys c) told files Early asked asked')
surveys_loaded c told bytes Early asked between asked' h first more =
    list_loaded c told (λ files. SpellsFile files c.object) Early asked between asked'
    (spells_file told c.object bytes h) first more

-- likewise for a campaign on an accepted object; otherwise, or if it ends early, it may load only the object
pub campaigns_loaded : (c : Campaign) (told : Option Files) (bytes : List ℕ) (Early : Type 0)
    (asked between asked' : Option LoadList) → LoadsObject told c.object (Ok bytes) →
    HasMade (object_load c.object ∷ []) asked between
    → (((refusal (object_of bytes) ≢ None) ⊎ Early) × HasMade [] between asked') ⊎ ((refusal (object_of bytes) ≡ None)
    × LoadsOther c between asked') → OfFiles told (λ files. LoadsFor (Campaigns c) told files Early asked asked')
campaigns_loaded c told bytes Early asked between asked' h first (inl none) =
    object_alone c told (λ files. SpellsAccepted files c.object) Early asked asked'
    (refused_file told c.object bytes Early h none.0) (none.1 ∙ first)
campaigns_loaded c told bytes Early asked between asked' h first (inr more) =
    list_loaded c told (λ files. SpellsAccepted files c.object) Early asked between asked'
    (spells_accepted told c.object bytes h more.0) first more.1

-- a survey or a campaign that ends early, or whose object file spells no object, may load only that file
pub survey_unloaded : (c : Campaign) (told : Option Files) (Early : Type 0) (asked asked' : Option LoadList) →
    OfFiles told (λ files. (SpellsFile files c.object → ⊥) ⊎ Early) → HasMade (object_load c.object ∷ []) asked asked'
    → OfFiles told (λ files. LoadsFor (Surveys c) told files Early asked asked')
survey_unloaded c told Early asked asked' m h = object_alone c told (λ files. SpellsFile files c.object) Early asked
    asked' m h

pub campaign_unloaded : (c : Campaign) (told : Option Files) (Early : Type 0) (asked asked' : Option LoadList) →
    OfFiles told (λ files. (SpellsFile files c.object → ⊥) ⊎ Early) → HasMade (object_load c.object ∷ []) asked asked'
    → OfFiles told (λ files. LoadsFor (Campaigns c) told files Early asked asked')
campaign_unloaded c told Early asked asked' m h =
    object_alone c told (λ files. SpellsAccepted files c.object) Early asked asked' (
      m.0,
      (
        m.1.0,
        unaccepted_file (SpellsFile m.0 c.object) (SpellsAccepted m.0 c.object) Early (λ s.
            (s.0, (s.1.0, (s.1.1.0, s.1.1.1.0)))) m.1.1,
      ),
    ) h

-- if the fault is `Failed`, the load of the list failed
pub list_failed : (V : Type 0) (name : Word) (e : ListFault) (old new : ShelfLog)
    → ListCause {V = V} name (Err e) old new → e ≡ list_faults.Failed → LoadFails name old new
list_failed V name e old new h is = subst (λ f. ListCause {V = V} name (Err f) old new) is h
