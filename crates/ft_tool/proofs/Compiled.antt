-- The answers of `compile`.
use Rattle.std.proofs.Common.{◌≡◌, ◌≢◌, ◌<◌, ℕ, List, [], length, None, inl, inr, ap, ◌∙◌, subst}
use Rattle.ft_types.specs.declared.object.Object.{Object}
use Rattle.ft_semantics.specs.Run.{run}
use Rattle.ft_format.specs.declared.version.Version.TheVariants.{Second}
use Rattle.ft_format.specs.Format.{Spells}
use Rattle.ft_syntax.specs.declared.source_error.SourceError.{SourceError}
use Rattle.ft_syntax.specs.declared.source_error.SourceError.TheVariants.{NoMemory, TooLong}
use Rattle.ft_scope.specs.Resolved.{Program}
use Rattle.ft_scope.specs.Outcome.{IsProgramOf, IsRefusalOf}
use Rattle.ft_compile.specs.Emitted.{compiled_object}
use Rattle.ft_compile.proofs.Existing.{programs_have_objects}
use Rattle.ft_tool.specs.Replies.{Answer, ran}
use Rattle.ft_tool.specs.Sources.{OverText, CompilesProgram, ExecutesProgram, IsSourceRefused}
use Rattle.ft_tool.specs.Objects.{UpgradesObject}

-- the answer to a refused source is an answer for its text
pub source_refused : (Over : Program → Answer → Type 0) (text : List ℕ) (e : SourceError) →
    (e ≢ NoMemory → IsRefusalOf text e) → (a : Answer) → IsSourceRefused e a → OverText Over text a
source_refused Over text e err a is = inr (e, (err is.named, is))

-- the bytes of the object of a text's program are an answer for the text
pub object_compiled : (text : List ℕ) (o : Object) → (p : Program) × IsProgramOf text p × (o ≡ compiled_object p) →
    (a : Answer) → UpgradesObject o a → OverText CompilesProgram text a
object_compiled text o h a is = inl (
  h.0,
  (
    h.1,
    record {
      stands = (programs_have_objects text h.0 h.1).0;
      bytes = is.bytes;
      spelled = subst (Spells is.bytes Second) h.2 is.spelled;
      answer = is.answer;
    },
  ),
)

-- the run of the object of a text's program is an answer for the text
pub object_executed : (steps : ℕ) (text : List ℕ) (o : Object) →
    (p : Program) × IsProgramOf text p × (o ≡ compiled_object p) → (a : Answer) → a ≡ ran o (run o None [] steps) →
    OverText (ExecutesProgram steps) text a
object_executed steps text o h a is = inl (
  h.0,
  (
    h.1,
    record {
      stands = (programs_have_objects text h.0 h.1).0;
      is = is ∙ ap (λ u. ran u (run u None [] steps)) h.2;
    },
  ),
)

-- the answer to a source that is too long is an answer for its text
pub long_source : (Over : Program → Answer → Type 0) (text : List ℕ) → 1048576 < length text → (a : Answer) →
    IsSourceRefused TooLong a → OverText Over text a
long_source Over text long a is = inr (TooLong, (inl long, is))
