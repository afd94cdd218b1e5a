-- Two answers to the same words, for the same files and script, are equal.
use Rattle.std.proofs.Common.{◌≡◌, ◌≢◌, ℕ, List, Some, None, Result, sym, ◌∙◌, subst}
use Rattle.ft_edge.specs.Loads.{Files}
use Rattle.ft_isa.specs.declared.plan.Strike.{Strike}
use Rattle.ft_isa.specs.declared.plan.Wild.{Wild}
use Rattle.ft_types.specs.declared.object.Object.{Object}
use Rattle.ft_types.specs.Spellable.{IsSpellable}
use Rattle.ft_exchange.specs.Scheduled.{IsScheduled}
use Rattle.ft_typing.specs.Accepted.{refusal}
use Rattle.ft_format.specs.Broken.{broken, object_of}
use Rattle.ft_campaign.specs.declared.fault_list.ListError.{ListError}
use Rattle.ft_campaign.specs.declared.fault_list.ListError.TheVariants.{NoMemory}
use Rattle.ft_campaign.specs.declared.verdict.Verdict.{Verdict}
use Rattle.ft_campaign.specs.FaultList.{IsFaultList, IsListError}
use Rattle.ft_campaign.specs.Verdicts.{IsVerdict}
use Rattle.ft_script.specs.Commands.{Command, AreCommands}
use Rattle.ft_syntax.specs.declared.source_error.SourceError.{SourceError}
use Rattle.ft_scope.specs.Resolved.{Program}
use Rattle.ft_scope.specs.Outcome.{IsOutcome}
use Rattle.ft_command.specs.Options.{Word}
use Rattle.ft_command.specs.Commands.{Request, Usage, Checks, Runs, Trials, Campaigns, Surveys, Compiles, Executes}
use Rattle.ft_command.specs.Commands.{Means, Debugs, Demonstrates, Upgrades, Assembles, Disassembles, Asks, Schedules}
use Rattle.ft_command.specs.Commands.{Recovers, Links}
use Rattle.ft_link_map.specs.MapLines.{MapLine, AreSaid}
use Rattle.ft_tool.specs.Replies.{Answer, IsSpelling}
use Rattle.ft_tool.specs.Lists.{AnyVerdicts, NoneCorrupt}
use Rattle.ft_tool.specs.Sources.{CompilesProgram, ExecutesProgram, MeansProgram}
use Rattle.ft_tool.specs.Scripts.{DebugsObject}
use Rattle.ft_tool.specs.Objects.{UpgradesObject}
use Rattle.ft_tool.specs.Answers.{ChecksObject, TrialsObject, RunsObject, SurveysObject, CampaignsAccepted}
use Rattle.ft_tool.specs.Answers.{CampaignsObject, Answers, IsAnswer, DisassemblesObject, SchedulesObject}
use Rattle.ft_tool.specs.Answers.{RecoversObject}
use Rattle.ft_asm.specs.Reads.{Answer as Said, Applies}
use Rattle.ft_tool.proofs.OneObject.{over_file, upgraded_same, over_assembly, scheduled_same, run_same, recovery_same}
use Rattle.ft_tool.proofs.OneCampaign.{over_list_file, strikes_same, session_same, shown_same}
use Rattle.ft_tool.proofs.OneCompilation.{over_source, compiled_same, executed_same}
use Rattle.ft_tool.proofs.OneLink.{says_same, link_same}

-- ANSWERS

-- the laws that the proof rests on
pub record HasLaws : Type 0 where
  pub one_request : (words : List Word) (a b : Request) → Asks words a → Asks words b → a ≡ b
  pub one_object : (bytes : List ℕ) (o : Object) → IsSpelling bytes o → object_of bytes ≡ o
  pub one_said : (text : List ℕ) (x y : Said) → Applies text x → Applies text y → x ≡ y
  pub unbroken : (bytes : List ℕ) (o : Object) → IsSpelling bytes o → broken bytes ≡ None
  pub one_outcome : (text : List ℕ) (r s : Result Program SourceError) → IsOutcome text r → IsOutcome text s → r ≡ s
  pub one_list : (text : List ℕ) (xs ys : List Strike) → IsFaultList text xs → IsFaultList text ys → xs ≡ ys
  pub one_refusal : (text : List ℕ) (e f : ListError) → e ≢ NoMemory → f ≢ NoMemory → IsListError text e →
      IsListError text f → e ≡ f
  pub either : (text : List ℕ) (xs : List Strike) (e : ListError) → e ≢ NoMemory → IsFaultList text xs →
      ¬ (IsListError text e)
  pub one_verdict : (o : Object) (x : Strike) (w : List Wild) (n : ℕ) (u v : Verdict) → IsVerdict o x w n u →
      IsVerdict o x w n v → u ≡ v
  pub one_script : (script : List ℕ) (commands others : List Command) → AreCommands script commands →
      AreCommands script others → commands ≡ others
  pub one_map : (text : List ℕ) (said others : List MapLine) → AreSaid text said → AreSaid text others → said ≡ others
  pub one_schedule : (o s t : Object) → IsSpellable o → IsScheduled o s → IsScheduled o t → s ≡ t

-- two answers to one request are equal
same_answers : HasLaws → (r : Request) (files : Files) (script : List ℕ) (a b : Answer) →
    Answers r (Some files) files script a → Answers r (Some files) files script b → a ≡ b
same_answers l Usage files script a b h g = h ∙ sym g
same_answers l (Checks name) files script a b h g = over_file l.one_object l.unbroken ChecksObject (λ o x y e f. e
    ∙ sym f) name files a b h g
same_answers l (Runs r) files script a b h g = over_file l.one_object l.unbroken (RunsObject r) (λ o x y e f.
    run_same (refusal o) r o x y e f) r.object files a b h g
same_answers l (Trials r) files script a b h g = over_file l.one_object l.unbroken (TrialsObject r) (λ o x y e f. e
    ∙ sym f) r.object files a b h g
same_answers l (Recovers r) files script a b h g = over_file l.one_object l.unbroken (RecoversObject r) (λ o x y e f.
    recovery_same (refusal o) r o x y e f) r.object files a b h g
same_answers l (Campaigns c) files script a b h g =
    over_file l.one_object l.unbroken (CampaignsObject c files)
    (λ o x y e f. strikes_same (refusal o) (CampaignsAccepted c files o) (λ v w i j.
    over_list_file l.one_verdict l.one_list l.one_refusal l.either NoneCorrupt c files o v w i.0 j.0) x y e f)
    c.object files a b h g
same_answers l (Surveys c) files script a b h g =
    over_file l.one_object l.unbroken (SurveysObject c files) (λ o x y e f.
    over_list_file l.one_verdict l.one_list l.one_refusal l.either AnyVerdicts c files o x y e f) c.object files a b h
    g
same_answers l (Compiles name) files script a b h g =
    over_source l.one_outcome CompilesProgram compiled_same name files a b h g
same_answers l (Executes x) files script a b h g =
    over_source l.one_outcome (ExecutesProgram x.steps) (executed_same x.steps) x.source files a b h g
same_answers l (Means m) files script a b h g =
    over_source l.one_outcome (MeansProgram m.turns) (λ p x y e f. e ∙ sym f) m.source files a b h g
same_answers l (Debugs d) files script a b h g = over_file l.one_object l.unbroken (DebugsObject d script) (λ o x y e f.
    session_same l.one_script d script o x y e f) d.object files a b h g
same_answers l (Demonstrates turns) files script a b h g = shown_same l.one_verdict turns a b h g
same_answers l (Upgrades name) files script a b h g = over_file l.one_object l.unbroken UpgradesObject upgraded_same
    name files a b h g
same_answers l (Assembles name) files script a b h g = over_assembly l.one_said name files a b h g
same_answers l (Disassembles name) files script a b h g =
    over_file l.one_object l.unbroken DisassemblesObject (λ o x y e f. e ∙ sym f) name files a b h g
same_answers l (Schedules name) files script a b h g = over_file l.one_object l.unbroken SchedulesObject (λ o x y e f.
    scheduled_same l.one_schedule (refusal o) o x y e f) name files a b h g
same_answers l (Links name) files script a b h g = link_same l.one_object l.unbroken (says_same l.one_map) name files a
    b h g

-- if the files and the script are known, an answer to the words is an answer to their request
answers_told : HasLaws → (words : List Word) (r : Request) (files : Files) (script : List ℕ) (a : Answer) →
    Asks words r → IsAnswer words (Some files) (Some script) a → Answers r (Some files) files script a
answers_told l words r files script a asks h =
    subst (λ x. Answers x (Some files) files script a) (l.one_request words h.request r h.asks asks)
    (subst (λ s. Answers h.request (Some files) files s a) h.is_script
    (subst (λ fs. Answers h.request (Some files) fs h.script a) h.are_files h.answers))

pub one_answer : HasLaws → (words : List Word) (r : Request) (files : Files) (script : List ℕ) (a b : Answer) →
    Asks words r → IsAnswer words (Some files) (Some script) a → IsAnswer words (Some files) (Some script) b
    → a ≡ b
one_answer l words r files script a b asks h g = same_answers l r files script a b
    (answers_told l words r files script a asks h) (answers_told l words r files script b asks g)
