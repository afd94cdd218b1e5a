-- Two answers for the same fault list, script or sample are equal.
use Rattle.std.proofs.Common.{◌≡◌, ◌≢◌, ℕ, List, [], ◌∷◌, Option, Some, None, refl, sym, ap, ◌∙◌, subst}
use Rattle.std.specs.List.{AllZip}
use Rattle.std.proofs.lemmas.Option.{same_Some}
use Rattle.ft_edge.specs.Loads.{Files}
use Rattle.ft_isa.specs.declared.plan.Strike.{Strike}
use Rattle.ft_isa.specs.declared.plan.Wild.{Wild}
use Rattle.ft_types.specs.declared.object.Object.{Object}
use Rattle.ft_typing.specs.Accepted.{Refusal}
use Rattle.ft_campaign.specs.declared.fault_list.ListError.{ListError}
use Rattle.ft_campaign.specs.declared.fault_list.ListError.TheVariants.{Line, TooMany, NoMemory}
use Rattle.ft_campaign.specs.declared.verdict.Verdict.{Verdict}
use Rattle.ft_campaign.specs.FaultList.{IsFaultList, IsListError}
use Rattle.ft_campaign.specs.Verdicts.{IsVerdict}
use Rattle.ft_campaign.specs.Texts.{campaign_lines}
use Rattle.ft_script.specs.Commands.{Command, AreCommands}
use Rattle.ft_debug.specs.Sessions.{session_lines}
use Rattle.ft_demo.specs.Sample.{sample_object}
use Rattle.ft_demo.specs.Demonstrations.{first_faults, demo_lines}
use Rattle.ft_command.specs.Commands.{Campaign, Debugging}
use Rattle.ft_tool.specs.Replies.{Answer}
use Rattle.ft_tool.specs.Lists.{IsListAnswer, OverFaults, too_much, tried, OverList, refused_list, listed, status_of}
use Rattle.ft_tool.specs.Scripts.{DebugsObject, too_long, debugged}
use Rattle.ft_tool.specs.Demonstrations.{ShowsSample}
use Rattle.ft_tool.specs.Answers.{OverListFile, CampaignsUnless}
use Rattle.ft_tool.proofs.OneObject.{not_both}

-- two lists of verdicts on the same faults are equal, and so are two answers for the same faults
zipped_same : {A B : Type 0} (P : A → B → Type 0) → ((x : A) (u v : B) → P x u → P x v → u ≡ v) →
    (xs : List A) (us vs : List B) → AllZip P xs us → AllZip P xs vs → us ≡ vs
zipped_same P one [] [] [] h g = refl
zipped_same P one [] [] (v ∷ vs) h g = absurd g
zipped_same P one [] (u ∷ us) vs h g = absurd h
zipped_same P one (x ∷ xs) [] vs h g = absurd h
zipped_same P one (x ∷ xs) (u ∷ us) [] h g = absurd g
zipped_same P one (x ∷ xs) (u ∷ us) (v ∷ vs) h g = ap (λ w. w ∷ us) (one x u v h.0 g.0)
    ∙ ap (λ ws. v ∷ ws) (zipped_same P one xs us vs h.1 g.1)

over_faults : ((o : Object) (x : Strike) (w : List Wild) (n : ℕ) (u v : Verdict) → IsVerdict o x w n u →
    IsVerdict o x w n v → u ≡ v)
    → (Promised : List Verdict → Type 0) (c : Campaign) (o : Object) (faults : List Strike) (a b : Answer) →
    OverFaults Promised c o faults a → OverFaults Promised c o faults b → a ≡ b
over_faults one Promised c o faults a b (too_much above e) (too_much more f) = e ∙ sym f
over_faults one Promised c o faults a b (too_much above e) (tried few vs is keeps f) = absurd (not_both _ _ above few)
over_faults one Promised c o faults a b (tried few vs is keeps f) (too_much above e) = absurd (not_both _ _ above few)
over_faults one Promised c o faults a b (tried few us is keeps e) (tried fewer vs are kept f) =
    e ∙ ap (λ ws. record { pieces = campaign_lines faults ws; status = status_of ws })
    (zipped_same (λ x v. IsVerdict o x c.wild c.steps v) (λ x u v. one o x c.wild c.steps u v) faults us vs is are)
    ∙ sym f

-- a list error that has an answer is not `NoMemory`, and it has only one answer
named : (e : ListError) (a : Answer) → IsListAnswer e a → e ≢ NoMemory
named (Line number) a h e = cc
named TooMany a h e = cc
named NoMemory a h e = h

list_answer_same : (e : ListError) (a b : Answer) → IsListAnswer e a → IsListAnswer e b → a ≡ b
list_answer_same (Line number) a b h g = h ∙ sym g
list_answer_same TooMany a b h g = h ∙ sym g
list_answer_same NoMemory a b h g = absurd h

-- two answers for the text of a list are equal, and so are two answers for its file
over_list : ((o : Object) (x : Strike) (w : List Wild) (n : ℕ) (u v : Verdict) → IsVerdict o x w n u →
    IsVerdict o x w n v → u ≡ v)
    → ((text : List ℕ) (xs ys : List Strike) → IsFaultList text xs → IsFaultList text ys → xs ≡ ys)
    → ((text : List ℕ) (e f : ListError) → e ≢ NoMemory → f ≢ NoMemory → IsListError text e → IsListError text f → e
    ≡ f)
    → ((text : List ℕ) (xs : List Strike) (e : ListError) → e ≢ NoMemory → IsFaultList text xs → ¬ (IsListError text e))
    → (Promised : List Verdict → Type 0) (c : Campaign) (o : Object) (list : List ℕ) (a b : Answer) →
    OverList Promised c o list a → OverList Promised c o list b → a ≡ b
over_list one one_list one_refusal either Promised c o list a b (refused_list x) (refused_list y) =
    let same = one_refusal list y.error x.error (named y.error b y.answer) (named x.error a x.answer) y.refused
    x.refused in
    list_answer_same x.error a b x.answer (subst (λ e. IsListAnswer e b) same y.answer)
over_list one one_list one_refusal either Promised c o list a b (refused_list x) (listed ys are over) =
    absurd (either list ys x.error (named x.error a x.answer) are x.refused)
over_list one one_list one_refusal either Promised c o list a b (listed xs is over) (refused_list y) =
    absurd (either list xs y.error (named y.error b y.answer) is y.refused)
over_list one one_list one_refusal either Promised c o list a b (listed xs is over) (listed ys are other) =
    over_faults one Promised c o xs a b over (subst (λ fs. OverFaults Promised c o fs b) (one_list list ys xs are is)
    other)

pub over_list_file : ((o : Object) (x : Strike) (w : List Wild) (n : ℕ) (u v : Verdict) → IsVerdict o x w n u →
    IsVerdict o x w n v → u ≡ v)
    → ((text : List ℕ) (xs ys : List Strike) → IsFaultList text xs → IsFaultList text ys → xs ≡ ys)
    → ((text : List ℕ) (e f : ListError) → e ≢ NoMemory → f ≢ NoMemory → IsListError text e → IsListError text f → e
    ≡ f)
    → ((text : List ℕ) (xs : List Strike) (e : ListError) → e ≢ NoMemory → IsFaultList text xs → ¬ (IsListError text e))
    → (Promised : List Verdict → Type 0) (c : Campaign) (files : Files) (o : Object) (a b : Answer) →
    OverListFile Promised c files o a → OverListFile Promised c files o b → a ≡ b
over_list_file one one_list one_refusal either Promised c files o a b x y =
    over_list one one_list one_refusal either Promised c o x.0 a b x.1.1
    (subst (λ list. OverList Promised c o list b) (same_Some y.0 x.0 (sym y.1.0 ∙ x.1.0)) y.1.1)

-- two answers of `campaign` for the same refusal of the object, or for none, are equal
pub strikes_same : (x : Option Refusal) (Accepted : Answer → Type 0) →
    ((a b : Answer) → Accepted a → Accepted b → a ≡ b) →
    (a b : Answer) → CampaignsUnless x Accepted a → CampaignsUnless x Accepted b → a ≡ b
strikes_same None Accepted same a b h g = same a b h g
strikes_same (Some r) Accepted same a b h g = h ∙ sym g

-- two answers of `debug` are equal
pub session_same : ((script : List ℕ) (commands others : List Command) → AreCommands script commands →
    AreCommands script others → commands ≡ others)
    → (d : Debugging) (script : List ℕ) (o : Object) (a b : Answer) → DebugsObject d script o a →
    DebugsObject d script o b → a ≡ b
session_same one d script o a b (too_long above e) (too_long more f) = e ∙ sym f
session_same one d script o a b (too_long above e) (debugged within cs are f) = absurd (not_both _ _ above within)
session_same one d script o a b (debugged within cs are f) (too_long above e) = absurd (not_both _ _ above within)
session_same one d script o a b (debugged within cs are e) (debugged short ds is f) =
    e ∙ ap (λ xs. record { pieces = session_lines o d.wild xs; status = 0 }) (one script cs ds are is) ∙ sym f

-- two answers of `demo` are equal
pub shown_same : ((o : Object) (x : Strike) (w : List Wild) (n : ℕ) (u v : Verdict) → IsVerdict o x w n u →
    IsVerdict o x w n v → u ≡ v)
    → (turns : ℕ) (a b : Answer) → ShowsSample turns a → ShowsSample turns b → a ≡ b
shown_same one turns a b x y =
    let o = sample_object turns in
    x.answer ∙ ap (λ vs. record { pieces = demo_lines o vs; status = 0 })
    (zipped_same (λ s v. IsVerdict o s [] 131072 v) (λ s u v. one o s [] 131072 u v) (first_faults 64) x.found y.found
    x.verdicts y.verdicts) ∙ sym y.answer
