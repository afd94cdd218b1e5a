-- What a refusal reports.
use Rattle.std.proofs.Common.{◌≢◌, ◌≡◌, Option, Some, None, Result, Ok, refl, sym, subst, ◌∙◌, arith}
use Rattle.ft_typing.specs.Accepted.{Refusal, refusal, IsAccepted}
use Rattle.ft_typing.proofs.Acceptance.{accepted_is_unrefused}
use Rattle.ft_types.specs.declared.object.Object.{Object}
use Rattle.ft_format.specs.Format.{Spells}
use Rattle.ft_format.specs.declared.version.Version.TheVariants.{Second}
use Rattle.ft_scope.specs.Resolved.{Program}
use Rattle.ft_scope.specs.Outcome.{IsOutcome, IsProgramOf, IsRefusalOf}
use Rattle.ft_compile.specs.StandsFor.{StandsFor}
use Rattle.ft_compile.specs.Emitted.{compiled_object, IsEmitted}
use Rattle.ft_modules.specs.Linkable.{IsModule}
use Rattle.ft_syntax.specs.declared.source_error.SourceError.{SourceError}
use Rattle.ft_syntax.specs.declared.source_error.SourceError.TheVariants as sources
use Rattle.std.specs.Prelude.{ℕ, List, ◌<◌, length, take}
use Rattle.ft_asm.specs.declared.asm_error.AsmError.{AsmError}
use Rattle.ft_asm.specs.declared.asm_error.AsmError.TheVariants as errors
use Rattle.ft_asm.specs.Refusals.{IsRefusal}
use Rattle.ft_format.specs.declared.object_error.ObjectError.{ObjectError}
use Rattle.ft_format.specs.Broken.{broken, object_of, version_at}
use Rattle.ft_format.proofs.Write.{spells_read}
use Rattle.ft_asm.specs.Reads.{Applies, TooLong, Broken}
use Rattle.ft_embed.specs.declared.refused.Refused.{Refused}
use Rattle.ft_embed.specs.Verdicts.{Tells, IsAcceptedFile, judged, told_refusal, told_error}
use Rattle.ft_embed.specs.Texts.{IsCompiled, IsSourceRefused, told_source, IsMalformed, IsAsmRefused, IsAsmBroken}
use Rattle.ft_embed.specs.Texts.{none_of_the_forms, out_of_order, too_long, told_asm, HandsOver, fits, too_many}

-- the verdict on an object that is refused is status 8 and its refusal
pub tells_refused : (x : Option Refusal) (r : Refusal) → x ≡ Some r → Tells 8 (told_refusal r) (judged x)
tells_refused x r is = subst (λ y. Tells 8 (told_refusal r) (judged y)) (sym is) (record {
  status_is = refl;
  why_is = refl;
})

-- bytes that break a rule are malformed, and the first rule that they break is reported
pub malformed : (bytes : List ℕ) (e : ObjectError) → broken bytes ≡ Some e → IsMalformed bytes (told_error e)
malformed bytes e is = record { error = e; is = is; told_is = refl }

-- an assembly text that is refused is reported with the number of its refusal
pub asm_text : (text : List ℕ) (error : AsmError) (line : ℕ) → error ≡ errors.Text line → IsRefusal text error →
    IsAsmRefused text (told_asm 1 line)
asm_text text error line is h = none_of_the_forms line (subst (IsRefusal text) is h) refl

pub asm_order : (text : List ℕ) (error : AsmError) (line : ℕ) → error ≡ errors.Order line → IsRefusal text error →
    IsAsmRefused text (told_asm 2 line)
asm_order text error line is h = out_of_order line (subst (IsRefusal text) is h) refl

pub asm_long : (text : List ℕ) → Applies text TooLong → IsAsmRefused text (told_asm 3 134217728)
asm_long text h = too_long h refl

pub asm_broken : (text : List ℕ) (e : ObjectError) → Applies text (Broken e) → IsAsmBroken text (told_error e)
asm_broken text e h = record { error = e; applies = h; told_is = refl }

-- `HandsOver` holds if the bytes fit and were written, and also if they do not fit and nothing was written
pub handed : (bytes old new : List ℕ) (made : ℕ) → made ≡ length bytes → take made new ≡ bytes → length new
    ≡ length old → HandsOver bytes old new made 0
handed bytes old new made is written same = fits refl is written same

pub not_handed : (bytes old : List ℕ) (made : ℕ) → made ≡ length bytes → length old < made →
    HandsOver bytes old old made 15
not_handed bytes old made is more = too_many refl is more refl

-- a status of 0 means that nothing is refused
unrefused : (x : Option Refusal) → 0 ≡ (judged x).status → x ≡ None
unrefused None h = refl
unrefused (Some r) h = absurd (omega (arith, h))

not_five : (status : ℕ) → status ≡ 0 → status ≡ 5 → ⊥
not_five status zero five = omega (arith, zero, five)

pub accepted_so : (o : Object) (status : ℕ) (told : Refused) → (status ≢ 5 → Tells status told (judged (refusal o))) →
    status ≡ 0 → IsAccepted o
accepted_so o status told h zero =
    let t = h (λ five. not_five status zero five) in
    (accepted_is_unrefused o).1 (unrefused (refusal o) (sym zero ∙ t.status_is))

-- if the object that bytes spell was checked with status 0, the bytes spell an accepted object
pub accepted_file : (bytes view : List ℕ) (status : ℕ) (told : Refused) → view ≡ bytes →
    Spells bytes (version_at bytes) (object_of view) →
    (status ≢ 5 → Tells status told (judged (refusal (object_of view)))) → status ≡ 0 → IsAcceptedFile bytes
accepted_file bytes view status told same spelled h zero = record {
  spelled = subst (λ v. Spells bytes (version_at bytes) (object_of v)) same spelled;
  accepted = subst (λ v. IsAccepted (object_of v)) same (accepted_so (object_of view) status told h zero);
}

-- a source that is refused is reported with its refusal
pub source_refused : (text : List ℕ) (e : SourceError) (told : Refused) → (e ≢ sources.NoMemory → IsRefusalOf text e) →
    e ≢ sources.NoMemory → told ≡ told_source e → IsSourceRefused text told
source_refused text e told h named is = record { error = e; refused = h named; named = named; told_is = is }

-- equal results hold equal programs
same_ok : (p q : Program) → ◌≡◌ {A = Result Program SourceError} (Ok p) (Ok q) → p ≡ q
same_ok p q e = cc

-- a text has only one program, so the program that the object stands for is the one that it was emitted for
pub compiled : (text bytes : List ℕ) (o : Object) →
    ((r s : Result Program SourceError) → IsOutcome text r → IsOutcome text s → r ≡ s)
    → (p : Program) × IsProgramOf text p × StandsFor p o → (p : Program) × IsProgramOf text p × IsEmitted p o →
    (p : Program) × IsProgramOf text p × (o ≡ compiled_object p) →
    IsModule o.cells o → Spells bytes Second o → IsCompiled text bytes
compiled text bytes o one h g k joins spelled = record {
  program = h.0;
  is = h.1;
  object = o;
  stands = h.2;
  emitted = subst (λ p. IsEmitted p o) (same_ok g.0 h.0 (one (Ok g.0) (Ok h.0) g.1 h.1)) g.2;
  one = subst (λ p. o ≡ compiled_object p) (same_ok k.0 h.0 (one (Ok k.0) (Ok h.0) k.1 h.1)) k.2;
  joins = joins;
  spelled = spelled;
  read = spells_read bytes Second o spelled;
}
