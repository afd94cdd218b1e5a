-- Only words that are not a command end with status 2.
use Rattle.std.proofs.Common.{◌≡◌, ◌∙◌, ℕ, Bool, true, false, List, [], ◌∷◌, ◌++◌, Option, Some, None, inl, inr, refl}
use Rattle.std.proofs.Common.{ap, arith, if◌then◌else◌}
use Rattle.std.specs.Prelude.{◌⊎◌}
use Rattle.ft_edge.specs.Loads.{Files}
use Rattle.ft_types.specs.declared.object.Object.{Object}
use Rattle.ft_semantics.specs.declared.status.Status.{Status}
use Rattle.ft_semantics.specs.declared.status.Status.TheVariants as machine
use Rattle.ft_typing.specs.Accepted.{Refusal, refusal}
use Rattle.ft_asm.specs.Reads.{Answer as Said, Is, TooLong, Text, Order, Broken}
use Rattle.ft_campaign.specs.declared.verdict.Verdict.{Verdict}
use Rattle.ft_campaign.specs.declared.fault_list.ListError.{ListError}
use Rattle.ft_campaign.specs.declared.fault_list.ListError.TheVariants as lists
use Rattle.ft_link_map.specs.declared.link_map.LinkMap.{LinkMap}
use Rattle.ft_modules.specs.LinkRefusals.{LinkRefusal, link_refusal}
use Rattle.ft_scope.specs.Resolved.{Program}
use Rattle.ft_meaning.specs.Meaning.{Outcome, Ended, Cut, meaning}
use Rattle.ft_command.specs.Options.{Word}
use Rattle.ft_command.specs.Commands.{Run, Campaign, Debugging, Request, Usage, Checks, Runs, Trials, Campaigns}
use Rattle.ft_command.specs.Commands.{Surveys, Compiles, Executes, Means, Debugs, Demonstrates, Upgrades, Assembles}
use Rattle.ft_command.specs.Commands.{Disassembles, Schedules, Recovers, Links}
use Rattle.ft_tool.specs.Texts.{object_line, check_line, unlinked_line}
use Rattle.ft_tool.specs.Replies.{Answer, one_piece, status_of_run}
use Rattle.ft_tool.specs.Lists.{IsListAnswer, OverFaults, too_much, tried, OverList, refused_list, listed}
use Rattle.ft_tool.specs.Sources.{OverText, CompilesProgram, ExecutesProgram, meant}
use Rattle.ft_tool.specs.Scripts.{DebugsObject, too_long, debugged}
use Rattle.ft_tool.specs.Objects.{judged, OverBytes, UpgradesObject}
use Rattle.ft_tool.specs.Links.{EndsAtMap, long_map, bad_line, line_twice, EndsAtObject, not_accepted, not_added}
use Rattle.ft_tool.specs.Links.{EndsAtBytes, no_object, no_module, IsAdded, LinksUnless, LinksAdded, LinksFiles}
use Rattle.ft_tool.specs.Links.{LinksText}
use Rattle.ft_tool.specs.Answers.{RunsUnless, RecoversUnless, AssemblesAs, SchedulesUnless, CampaignsUnless}
use Rattle.ft_tool.specs.Answers.{CampaignsAccepted, SurveysObject, TrialsObject, DisassemblesObject, Answers}

-- an answer of one piece has the status that it was made with
same_status : (n : ℕ) (piece : List ℕ) (a : Answer) → a ≡ one_piece piece n → 2 ≡ a.status → 2 ≡ n
same_status n piece a is e = e ∙ ap (λ (r : Answer). r.status) is

thirteen : (piece : List ℕ) (a : Answer) → a ≡ one_piece piece 13 → 2 ≡ a.status → ⊥
thirteen piece a is e = let s : 2 ≡ 13 = same_status 13 piece a is e in omega (arith, s)

-- OBJECTS

-- no answer for bytes has status 2 if no answer for an object does
over_bytes : (Over : Object → Answer → Type 0) → ((o : Object) (a : Answer) → Over o a → 2 ≡ a.status → ⊥) →
    (bytes : List ℕ) (a : Answer) → OverBytes Over bytes a → 2 ≡ a.status → ⊥
over_bytes Over none bytes a (inl x) e = none x.0 a x.1.1 e
over_bytes Over none bytes a (inr x) e = let s : 2 ≡ 7 = same_status 7 (object_line x.0) a x.1.1 e in omega (arith, s)

judged_status : (x : Option Refusal) (a : Answer) → a ≡ judged x → 2 ≡ a.status → ⊥
judged_status None a is e = let s : 2 ≡ 0 = e ∙ ap (λ (r : Answer). r.status) is in omega (arith, s)
judged_status (Some r) a is e = let s : 2 ≡ 8 = e ∙ ap (λ (r : Answer). r.status) is in omega (arith, s)

run_status : (s : Status) → 2 ≡ status_of_run s → ⊥
run_status machine.Done e = omega (arith, e)
run_status machine.Detected e = omega (arith, e)
run_status machine.Running e = omega (arith, e)

runs_status : (x : Option Refusal) (r : Run) (o : Object) (a : Answer) → RunsUnless x r o a → 2 ≡ a.status → ⊥
runs_status None r o a h e = run_status _ (e ∙ ap (λ (r : Answer). r.status) h.0)
runs_status (Some x) r o a h e = judged_status (Some x) a h e

recovers_status : (x : Option Refusal) (r : Run) (o : Object) (a : Answer) → RecoversUnless x r o a → 2 ≡ a.status → ⊥
recovers_status None r o a h e = run_status _ (e ∙ ap (λ (r : Answer). r.status) h.0)
recovers_status (Some x) r o a h e = judged_status (Some x) a h e

schedules_status : (x : Option Refusal) (o : Object) (a : Answer) → SchedulesUnless x o a → 2 ≡ a.status → ⊥
schedules_status None o a h e = let s : 2 ≡ 0 = same_status 0 h.written.bytes a h.written.answer e in omega (arith, s)
schedules_status (Some x) o a h e = judged_status (Some x) a h e

assembles_status : (said : Said) (a : Answer) → AssemblesAs said a → 2 ≡ a.status → ⊥
assembles_status (Is o) a h e = let s : 2 ≡ 0 = same_status 0 h.bytes a h.answer e in omega (arith, s)
assembles_status TooLong a h e = let s : 2 ≡ 12 = e ∙ ap (λ (r : Answer). r.status) h in omega (arith, s)
assembles_status (Text line) a h e = let s : 2 ≡ 12 = e ∙ ap (λ (r : Answer). r.status) h in omega (arith, s)
assembles_status (Order line) a h e = let s : 2 ≡ 12 = e ∙ ap (λ (r : Answer). r.status) h in omega (arith, s)
assembles_status (Broken x) a h e = let s : 2 ≡ 7 = same_status 7 (object_line x) a h e in omega (arith, s)

-- LISTS

refusal_status : (x : ListError) (a : Answer) → IsListAnswer x a → 2 ≡ a.status → ⊥
refusal_status (lists.Line number) a h e = let s : 2 ≡ 11 = e ∙ ap (λ (r : Answer). r.status) h in omega (arith, s)
refusal_status lists.TooMany a h e = let s : 2 ≡ 11 = e ∙ ap (λ (r : Answer). r.status) h in omega (arith, s)
refusal_status lists.NoMemory a h e = h

chosen_status : (b : Bool) → ◌≡◌ {A = ℕ} 2 (if b then 0 else 10) → ⊥
chosen_status true e = omega (arith, e)
chosen_status false e = omega (arith, e)

faults_status : (Promised : List Verdict → Type 0) (c : Campaign) (o : Object) (faults : List _) (a : Answer) →
    OverFaults Promised c o faults a → 2 ≡ a.status → ⊥
faults_status Promised c o faults a (too_much many is) e = let s : 2 ≡ 11 = e ∙ ap (λ (r : Answer). r.status) is in
    omega (arith, s)
faults_status Promised c o faults a (tried few vs are keeps is) e =
    chosen_status _ (e ∙ ap (λ (r : Answer). r.status) is)

list_status : (Promised : List Verdict → Type 0) (c : Campaign) (o : Object) (list : List ℕ) (a : Answer) →
    OverList Promised c o list a → 2 ≡ a.status → ⊥
list_status Promised c o list a (refused_list h) e = refusal_status h.error a h.answer e
list_status Promised c o list a (listed faults is h) e = faults_status Promised c o faults a h e

campaigns_status : (x : Option Refusal) (c : Campaign) (files : Files) (o : Object) (a : Answer) →
    CampaignsUnless x (CampaignsAccepted c files o) a → 2 ≡ a.status → ⊥
campaigns_status None c files o a h e = list_status _ c o h.0.0 a h.0.1.1 e
campaigns_status (Some x) c files o a h e = judged_status (Some x) a h e

-- SOURCES AND SCRIPTS

over_text : (Over : Program → Answer → Type 0) → ((p : Program) (a : Answer) → Over p a → 2 ≡ a.status → ⊥) →
    (text : List ℕ) (a : Answer) → OverText Over text a → 2 ≡ a.status → ⊥
over_text Over none text a (inl x) e = none x.0 a x.1.1 e
over_text Over none text a (inr x) e = let s : 2 ≡ 6 = e ∙ ap (λ (r : Answer). r.status) x.1.1.answer in
    omega (arith, s)

meant_status : (p : Program) (r : Outcome) (a : Answer) → a ≡ meant p r → 2 ≡ a.status → ⊥
meant_status p (Ended s) a is e = let x : 2 ≡ 0 = e ∙ ap (λ (r : Answer). r.status) is in omega (arith, x)
meant_status p (Cut s) a is e = let x : 2 ≡ 9 = e ∙ ap (λ (r : Answer). r.status) is in omega (arith, x)

session_status : (d : Debugging) (script : List ℕ) (o : Object) (a : Answer) → DebugsObject d script o a → 2
    ≡ a.status → ⊥
session_status d script o a (too_long long is) e = let s : 2 ≡ 11 = e ∙ ap (λ (r : Answer). r.status) is in
    omega (arith, s)
session_status d script o a (debugged short commands are is) e = let s : 2 ≡ 0 = e ∙ ap (λ (r : Answer). r.status) is in
    omega (arith, s)

-- LINKS

map_no_usage : (text : List ℕ) (a : Answer) → EndsAtMap text a → 2 ≡ a.status → ⊥
map_no_usage text a (long_map l is) e = thirteen _ a is e
map_no_usage text a (bad_line n h is) e = thirteen _ a is e
map_no_usage text a (line_twice n h is) e = thirteen _ a is e

object_no_usage : (modules : List Object) (o : Object) (a : Answer) → EndsAtObject modules o a → 2 ≡ a.status → ⊥
object_no_usage modules o a (not_accepted r h is) e = let s : 2 ≡ 8 = same_status 8 (check_line r) a is e in
    omega (arith, s)
object_no_usage modules o a (not_added accepted r h is) e = thirteen (unlinked_line r) a is e

bytes_no_usage : (modules : List Object) (bytes : List ℕ) (a : Answer) → EndsAtBytes modules bytes a → 2 ≡ a.status → ⊥
bytes_no_usage modules bytes a (no_object x h is) e = let s : 2 ≡ 7 = same_status 7 (object_line x) a is e in
    omega (arith, s)
bytes_no_usage modules bytes a (no_module o h x) e = object_no_usage modules o a x e

unless_no_usage : (x : Option LinkRefusal) (linkage : LinkMap) (first : Object) (others : List Object) (a : Answer) →
    LinksUnless x linkage first others a → 2 ≡ a.status → ⊥
unless_no_usage None linkage first others a h e = let s : 2 ≡ 0 = same_status 0 h.written.bytes a h.written.answer e in
    omega (arith, s)
unless_no_usage (Some r) linkage first others a h e = thirteen (unlinked_line r) a h e

added_no_usage : (linkage : LinkMap) (modules : List Object) (a : Answer) → LinksAdded linkage modules a → 2
    ≡ a.status → ⊥
added_no_usage linkage [] a h e = h
added_no_usage linkage (first ∷ others) a h e = unless_no_usage (link_refusal linkage first others) linkage first others
    a h e

next_no_usage : (told : Option Files) (linkage : LinkMap) (modules : List Object) (names : List Word) (bytes : List ℕ)
    (a : Answer) → ((o : Object) → LinksFiles told linkage (modules ++ o ∷ []) names a → 2 ≡ a.status → ⊥)
    → EndsAtBytes modules bytes a ⊎ ((o : Object) × (IsAdded modules bytes o
    × LinksFiles told linkage (modules ++ o ∷ []) names a)) → 2 ≡ a.status → ⊥
next_no_usage told linkage modules names bytes a on (inl x) e = bytes_no_usage modules bytes a x e
next_no_usage told linkage modules names bytes a on (inr x) e = on x.0 x.1.1 e

files_no_usage : (told : Option Files) (linkage : LinkMap) (modules : List Object) (names : List Word) (a : Answer) →
    LinksFiles told linkage modules names a → 2 ≡ a.status → ⊥
files_no_usage told linkage modules [] a h e = added_no_usage linkage modules a h e
files_no_usage told linkage modules (name ∷ names) a h e = next_no_usage told linkage modules names h.0 a (λ o x f.
    files_no_usage told linkage (modules ++ o ∷ []) names a x f) h.1.1 e

text_no_usage : (told : Option Files) (text : List ℕ) (a : Answer) → LinksText told text a → 2 ≡ a.status → ⊥
text_no_usage told text a (inl x) e = map_no_usage text a x e
text_no_usage told text a (inr x) e = files_no_usage told x.0 [] x.0.files a x.1.1 e

-- REQUESTS

pub usage_alone : (r : Request) (told : Option Files) (files : Files) (script : List ℕ) (a : Answer) →
    Answers r told files script a → 2 ≡ a.status → r ≡ Usage
usage_alone Usage told files script a h e = refl
usage_alone (Checks name) told files script a h e =
    absurd (over_bytes _ (λ o b is f. judged_status (refusal o) b is f) h.0 a h.1.1 e)
usage_alone (Runs r) told files script a h e = absurd (over_bytes _ (λ o b is f. runs_status (refusal o) r o b is f) h.0
    a h.1.1 e)
usage_alone (Trials r) told files script a h e = absurd (over_bytes (TrialsObject r) (λ o b is f.
    run_status _ (f ∙ ap (λ (r : Answer). r.status) is)) h.0 a h.1.1 e)
usage_alone (Recovers r) told files script a h e =
    absurd (over_bytes _ (λ o b is f. recovers_status (refusal o) r o b is f) h.0 a h.1.1 e)
usage_alone (Campaigns c) told files script a h e =
    absurd (over_bytes _ (λ o b is f. campaigns_status (refusal o) c files o b is f) h.0 a h.1.1 e)
usage_alone (Surveys c) told files script a h e = absurd (over_bytes (SurveysObject c files) (λ o b is f.
    list_status _ c o is.0 b is.1.1 f) h.0 a h.1.1 e)
usage_alone (Compiles name) told files script a h e =
    absurd (over_text CompilesProgram (λ p b is f. let s : 2 ≡ 0 = same_status 0 is.bytes b is.answer f in
    omega (arith, s)) h.0 a h.1.1 e)
usage_alone (Executes x) told files script a h e =
    absurd (over_text (ExecutesProgram x.steps) (λ p b is f. run_status _ (f ∙ ap (λ (r : Answer). r.status) is.is)) h.0
    a h.1.1 e)
usage_alone (Means m) told files script a h e = absurd
    (over_text _ (λ p b is f. meant_status p (meaning p m.turns) b is f) h.0 a h.1.1 e)
usage_alone (Debugs d) told files script a h e = absurd (over_bytes _ (λ o b is f. session_status d script o b is f) h.0
    a h.1.1 e)
usage_alone (Demonstrates turns) told files script a h e = let s : 2 ≡ 0 = e ∙ ap (λ (r : Answer). r.status) h.answer in
    absurd (omega (arith, s))
usage_alone (Upgrades name) told files script a h e =
    absurd (over_bytes UpgradesObject (λ o b is f. let s : 2 ≡ 0 = same_status 0 is.bytes b is.answer f in
    omega (arith, s)) h.0 a h.1.1 e)
usage_alone (Assembles name) told files script a h e = absurd (assembles_status h.1.1.0 a h.1.1.1.1 e)
usage_alone (Disassembles name) told files script a h e =
    absurd (over_bytes DisassemblesObject (λ o b is f. let s : 2 ≡ 0 = same_status 0 _ b is f in
    omega (arith, s)) h.0 a h.1.1 e)
usage_alone (Schedules name) told files script a h e =
    absurd (over_bytes _ (λ o b is f. schedules_status (refusal o) o b is f) h.0 a h.1.1 e)
usage_alone (Links name) told files script a h e = absurd (text_no_usage told h.0 a h.1.1 e)
