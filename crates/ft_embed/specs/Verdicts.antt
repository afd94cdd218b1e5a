-- What is returned for the bytes of an object: a status, and why the bytes are refused.
use Rattle.std.specs.Prelude.{◌≡◌, ℕ, List, Option, Some, None}
use Rattle.ft_typing.specs.Accepted.{Refusal, EntryType, CellType, Refused as AtInstr, refusal, IsAccepted}
use Rattle.ft_typing.specs.Premise.{number_of}
use Rattle.ft_format.specs.declared.object_error.ObjectError.{ObjectError}
use Rattle.ft_format.specs.Errors.{error_number, error_place}
use Rattle.ft_format.specs.Format.{Spells}
use Rattle.ft_format.specs.Broken.{broken, object_of, version_at}
use Rattle.ft_embed.specs.declared.refused.Refused.{Refused}
use Rattle.ft_embed.specs.declared.verdict.Verdict.{Verdict}

-- nothing is refused
abbrev pub nothing : Refused
nothing = record { part = 0; number = 0; place = 0; index = 0 }

-- the first rule that bytes break: the number of the rule, and the place of the error
abbrev pub told_error : ObjectError → Refused
told_error e = record { part = 1; number = error_number e; place = error_place e; index = 0 }

-- why an object is not accepted: its entry; a cell; or a block, an index in it and the number of a premise
abbrev pub told_refusal : Refusal → Refused
told_refusal EntryType = record { part = 2; number = 0; place = 0; index = 0 }
told_refusal (CellType k) = record { part = 3; number = 0; place = k; index = 0 }
told_refusal (AtInstr b i p) = record { part = 4; number = number_of p; place = b; index = i }

-- the verdict on an object, given its refusal, if any
abbrev pub judged : Option Refusal → Verdict
judged None = record { status = 0; why = nothing }
judged (Some r) = record { status = 8; why = told_refusal r }

-- the verdict on bytes, given the first rule that they break, if any, and the refusal of their object, if any
abbrev pub verdict : Option ObjectError → Option Refusal → Verdict
verdict (Some e) r = record { status = 7; why = told_error e }
verdict None r = judged r

-- the verdict on bytes: the first rule of the format that they break; otherwise why their object is not accepted, or
-- that it is accepted
abbrev pub verdict_on : List ℕ → Verdict
verdict_on bytes = verdict (broken bytes) (refusal (object_of bytes))

-- a call returned this verdict
pub record Tells (status : ℕ) (why : Refused) (v : Verdict) : Type 0 where
  pub status_is : status ≡ v.status
  pub why_is : why ≡ v.why

-- the bytes spell an accepted object
pub record IsAcceptedFile (bytes : List ℕ) : Type 0 where
  pub spelled : Spells bytes (version_at bytes) (object_of bytes)
  pub accepted : IsAccepted (object_of bytes)
