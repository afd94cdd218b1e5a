-- Two answers for the same object file, or the same assembly text, are equal.
use Rattle.std.proofs.Common.{◌≡◌, ℕ, ◌<◌, ◌≤◌, List, Option, Some, None, inl, inr, sym, ap, ◌∙◌, subst, arith}
use Rattle.std.proofs.lemmas.Option.{same_Some, none-some}
use Rattle.ft_edge.specs.Loads.{Files}
use Rattle.ft_types.specs.declared.object.Object.{Object}
use Rattle.ft_types.specs.Spellable.{IsSpellable}
use Rattle.ft_exchange.specs.Scheduled.{IsScheduled}
use Rattle.ft_typing.specs.Accepted.{Refusal}
use Rattle.ft_format.specs.Broken.{broken, object_of}
use Rattle.ft_command.specs.Options.{Word}
use Rattle.ft_command.specs.Commands.{Run}
use Rattle.ft_tool.specs.Replies.{Answer, one_piece, IsSpelling}
use Rattle.ft_tool.specs.Objects.{refused as object_refused, OverBytes, UpgradesObject}
use Rattle.ft_tool.specs.Answers.{RunsUnless, OverFile, AssemblesAs, OverAssemblyFile, SchedulesUnless, RecoversUnless}
use Rattle.ft_asm.specs.Reads.{Answer as Said, Is, TooLong, Text, Order, Broken, Applies}

-- a number is not both above a limit and within it
pub not_both : (n m : ℕ) → m < n → n ≤ m → ⊥
not_both n m above within = omega (arith, above, within)

-- the answer for the bytes of a file is unique if the answer for an object is
over_bytes : ((bytes : List ℕ) (o : Object) → IsSpelling bytes o → object_of bytes ≡ o) →
    ((bytes : List ℕ) (o : Object) → IsSpelling bytes o → broken bytes ≡ None)
    → (Over : Object → Answer → Type 0) → ((o : Object) (a b : Answer) → Over o a → Over o b → a ≡ b) →
    (bytes : List ℕ) (a b : Answer) → OverBytes Over bytes a → OverBytes Over bytes b → a ≡ b
over_bytes one_object unbroken Over same bytes a b (inl x) (inl y) =
    same x.0 a b x.1.1 (subst (λ o. Over o b) (sym (one_object bytes y.0 y.1.0) ∙ one_object bytes x.0 x.1.0) y.1.1)
over_bytes one_object unbroken Over same bytes a b (inl x) (inr y) =
    absurd (none-some y.0 (sym (unbroken bytes x.0 x.1.0) ∙ y.1.0))
over_bytes one_object unbroken Over same bytes a b (inr x) (inl y) =
    absurd (none-some x.0 (sym (unbroken bytes y.0 y.1.0) ∙ x.1.0))
over_bytes one_object unbroken Over same bytes a b (inr x) (inr y) = x.1.1
    ∙ ap object_refused (same_Some x.0 y.0 (sym x.1.0 ∙ y.1.0)) ∙ sym y.1.1

-- so is the answer for the file with this name
pub over_file : ((bytes : List ℕ) (o : Object) → IsSpelling bytes o → object_of bytes ≡ o) →
    ((bytes : List ℕ) (o : Object) → IsSpelling bytes o → broken bytes ≡ None)
    → (Over : Object → Answer → Type 0) → ((o : Object) (a b : Answer) → Over o a → Over o b → a ≡ b) →
    (name : Word) (files : Files) (a b : Answer) → OverFile Over name files a → OverFile Over name files b → a ≡ b
over_file one_object unbroken Over same name files a b x y =
    over_bytes one_object unbroken Over same x.0 a b x.1.1
    (subst (λ bytes. OverBytes Over bytes b) (same_Some y.0 x.0 (sym y.1.0 ∙ x.1.0)) y.1.1)

-- two answers of `upgrade` are equal
pub upgraded_same : (o : Object) (a b : Answer) → UpgradesObject o a → UpgradesObject o b → a ≡ b
upgraded_same o a b x y = x.answer ∙ ap (λ bytes. one_piece bytes 0) (x.spelled.spelled ∙ sym y.spelled.spelled)
    ∙ sym y.answer

-- two answers of `asm` are equal
assembled_same : (x : Said) (a b : Answer) → AssemblesAs x a → AssemblesAs x b → a ≡ b
assembled_same (Is o) a b h g = upgraded_same o a b h g
assembled_same TooLong a b h g = h ∙ sym g
assembled_same (Text line) a b h g = h ∙ sym g
assembled_same (Order line) a b h g = h ∙ sym g
assembled_same (Broken e) a b h g = h ∙ sym g

pub over_assembly : ((text : List ℕ) (x y : Said) → Applies text x → Applies text y → x ≡ y) →
    (name : Word) (files : Files) (a b : Answer) → OverAssemblyFile name files a → OverAssemblyFile name files b → a ≡ b
over_assembly one name files a b x y =
    let texts : y.0 ≡ x.0 = same_Some y.0 x.0 (sym y.1.0 ∙ x.1.0) in
    let saids : y.1.1.0 ≡ x.1.1.0 = one x.0 y.1.1.0 x.1.1.0 (subst (λ text. Applies text y.1.1.0) texts y.1.1.1.0)
    x.1.1.1.0 in
    assembled_same x.1.1.0 a b x.1.1.1.1 (subst (λ (s : Said). AssemblesAs s b) saids y.1.1.1.1)

-- two answers of `schedule` are equal
pub scheduled_same : ((o s t : Object) → IsSpellable o → IsScheduled o s → IsScheduled o t → s ≡ t) →
    (x : Option Refusal) (o : Object) (a b : Answer) → SchedulesUnless x o a → SchedulesUnless x o b → a ≡ b
scheduled_same one None o a b x y =
    let same = one o y.schedule x.schedule x.spellable y.scheduled x.scheduled in
    upgraded_same x.schedule a b x.written (subst (λ s. UpgradesObject s b) same y.written)
scheduled_same one (Some r) o a b x y = x ∙ sym y

-- two answers of `run` are equal, and so are two answers of `recover`
pub run_same : (x : Option Refusal) (r : Run) (o : Object) (a b : Answer) → RunsUnless x r o a → RunsUnless x r o b → a
    ≡ b
run_same None r o a b h g = h.0 ∙ sym g.0
run_same (Some x) r o a b h g = h ∙ sym g

pub recovery_same : (x : Option Refusal) (r : Run) (o : Object) (a b : Answer) → RecoversUnless x r o a →
    RecoversUnless x r o b → a ≡ b
recovery_same None r o a b h g = h.0 ∙ sym g.0
recovery_same (Some x) r o a b h g = h ∙ sym g
