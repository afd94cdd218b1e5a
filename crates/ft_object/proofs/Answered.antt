-- What decoding returns, given what was read.
use Rattle.std.proofs.Common.{◌≡◌, ℕ, List, Result, Ok, Err, sym, ◌∙◌, subst}
use Rattle.std.specs.Prelude.{IfOk}
use Rattle.ft_types.specs.declared.object.Object.{Object}
use Rattle.ft_object.specs.declared.decode_error.DecodeError.{DecodeError}
use Rattle.ft_object.specs.declared.decode_error.DecodeError.TheVariants as whys
use Rattle.ft_object.specs.Judged.{Judges, Gives}
use Rattle.ft_format.specs.Broken.{broken, object_of, version_at}
use Rattle.ft_format.specs.declared.version.Version.{Version}
use Rattle.ft_format.specs.Format.{AreBytes, Spells}
use Rattle.ft_format.proofs.ReadWhole.{read_spells}
use Rattle.ft_format.proofs.Write.{spells_unbroken, spells_read}

-- if an object is returned, the bytes spell it
pub spelled : (bytes : List ℕ) (r : Result Object DecodeError) → AreBytes bytes → Judges r (broken bytes) →
    IfOk r (λ o. o ≡ object_of bytes) → IfOk r (Spells bytes (version_at bytes))
spelled bytes (Ok o) b judged read = subst (Spells bytes (version_at bytes)) (sym read) (read_spells bytes b judged)
spelled bytes (Err e) b judged read = tt

-- the object that the bytes spell is returned, unless memory runs out
pub given : (bytes : List ℕ) (r : Result Object DecodeError) (v : Version) (o : Object) → Judges r (broken bytes) →
    IfOk r (λ x. x ≡ object_of bytes) → Spells bytes v o → Gives r o
given bytes (Ok x) v o judged read h = read ∙ spells_read bytes v o h
given bytes (Err (whys.Object e)) v o judged read h = let n = spells_unbroken bytes v o h in absurd (cc)
given bytes (Err whys.NoMemory) v o judged read h = tt
