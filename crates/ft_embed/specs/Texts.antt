-- What is returned for texts, upgrades, schedules and names.
use Rattle.std.specs.Prelude.{◌≡◌, ◌≢◌, ◌<◌, ℕ, List, length, take, slice_get, Option, Some}
use Rattle.std.specs.Option.{option_map}
use Rattle.ft_types.specs.Objects.{name_of}
use Rattle.ft_format.specs.Broken.{broken, object_of, version_at}
use Rattle.ft_format.specs.declared.object_error.ObjectError.{ObjectError}
use Rattle.ft_asm.specs.Reads.{Applies, TooLong, Text, Order, Broken, text_of}
use Rattle.ft_object.specs.declared.decode_error.DecodeError.{DecodeError}
use Rattle.ft_object.specs.declared.decode_error.DecodeError.TheVariants as decodes
use Rattle.ft_embed.specs.Verdicts.{told_error, IsAcceptedFile}
use Rattle.ft_types.specs.declared.object.Object.{Object}
use Rattle.ft_format.specs.declared.version.Version.TheVariants.{Second}
use Rattle.ft_format.specs.Format.{Spells}
use Rattle.ft_compile.specs.StandsFor.{StandsFor}
use Rattle.ft_compile.specs.Emitted.{compiled_object, IsEmitted}
use Rattle.ft_modules.specs.Linkable.{IsModule}
use Rattle.ft_scope.specs.Resolved.{Program}
use Rattle.ft_scope.specs.Outcome.{IsProgramOf, IsRefusalOf}
use Rattle.ft_syntax.specs.declared.source_error.SourceError.{SourceError}
use Rattle.ft_syntax.specs.declared.source_error.SourceError.TheVariants as source
use Rattle.ft_syntax.specs.Errors.{source_number, source_told}
use Rattle.ft_isa.specs.declared.plan.Wild.{Wild}
use Rattle.ft_typing.specs.Accepted.{IsAccepted}
use Rattle.ft_exchange.specs.Alike.{RunsAlike}
use Rattle.ft_exchange.specs.Scheduled.{IsScheduled}
use Rattle.ft_embed.specs.declared.refused.Refused.{Refused}

-- why a source is refused
abbrev pub told_source : SourceError → Refused
told_source e = record { part = 5; number = source_number e; place = source_told e; index = 0 }

-- these bytes are the object of the text's program in version 2 of the format. It stands for the program, whatever
-- initial words its cells are given. It is the object of a flow of the program, and a module that the linker accepts
pub record IsCompiled (text bytes : List ℕ) : Type 0 where
  pub program : Program
  pub is : IsProgramOf text program
  pub object : Object
  pub stands : StandsFor program object
  pub emitted : IsEmitted program object
  pub one : object ≡ compiled_object program
  pub joins : IsModule object.cells object
  pub spelled : Spells bytes Second object
  pub read : object_of bytes ≡ object

-- this is the refusal of the source
pub record IsSourceRefused (text : List ℕ) (told : Refused) : Type 0 where
  pub error : SourceError
  pub refused : IsRefusalOf text error
  pub named : error ≢ source.NoMemory
  pub told_is : told ≡ told_source error

-- bytes were written to the start of a buffer, or do not fit; their number is reported
pub data HandsOver (bytes old new : List ℕ) (made status : ℕ) : Type 0 where
  fits : status ≡ 0 → made ≡ length bytes → take made new ≡ bytes → length new ≡ length old → HandsOver bytes old new made status
  too_many : status ≡ 15 → made ≡ length bytes → length old < made → new ≡ old → HandsOver bytes old new made status

-- there are bytes with this property, which were written or do not fit
pub record Given (Holds : List ℕ → Type 0) (old new : List ℕ) (made status : ℕ) : Type 0 where
  pub bytes : List ℕ
  pub holds : Holds bytes
  pub handed : HandsOver bytes old new made status

-- why bytes were not decoded: the first rule that they break; nothing is claimed if memory ran out
abbrev pub IsWhy : Option ObjectError → DecodeError → Type 0
IsWhy rule (decodes.Object e) = rule ≡ Some e
IsWhy rule decodes.NoMemory = Unit {0}

-- the bytes break this rule of the format first
pub record IsMalformed (bytes : List ℕ) (told : Refused) : Type 0 where
  pub error : ObjectError
  pub is : broken bytes ≡ Some error
  pub told_is : told ≡ told_error error

-- these bytes spell, in version 2 of the format, the object that other bytes spell
pub record IsUpgraded (bytes new : List ℕ) : Type 0 where
  pub object : Object
  pub from : Spells bytes (version_at bytes) object
  pub to : Spells new Second object

-- these bytes spell, in version 2 of the format, the schedule of an object. The schedule is accepted and runs like the
-- object
pub record IsScheduleOf (o : Object) (new : List ℕ) : Type 0 where
  pub schedule : Object
  pub scheduled : IsScheduled o schedule
  pub accepted : IsAccepted schedule
  pub alike : (w : List Wild) (n : ℕ) → RunsAlike o schedule w n
  pub to : Spells new Second schedule

-- these bytes spell the schedule of the accepted object that other bytes spell
pub record IsScheduleOfFile (bytes new : List ℕ) : Type 0 where
  pub file : IsAcceptedFile bytes
  pub is : IsScheduleOf (object_of bytes) new

-- the bytes spell an object, and this is its assembly text
pub record IsText (bytes text : List ℕ) : Type 0 where
  pub spelled : Spells bytes (version_at bytes) (object_of bytes)
  pub is : text ≡ text_of (object_of bytes)

-- this is the name of cell k of an object
abbrev pub IsCellName : Object → ℕ → List ℕ → Type 0
IsCellName o k name = option_map name_of (slice_get o.cells k) ≡ Some name

-- the bytes spell an object, and this is the name of its cell k
pub record IsNameOf (bytes : List ℕ) (k : ℕ) (name : List ℕ) : Type 0 where
  pub spelled : Spells bytes (version_at bytes) (object_of bytes)
  pub is : IsCellName (object_of bytes) k name

-- why an assembly text is refused: the number of the refusal, and a line or the maximum number of bytes of a text
abbrev pub told_asm : ℕ → ℕ → Refused
told_asm n x = record { part = 6; number = n; place = x; index = 0 }

-- this is the refusal of the assembly text
pub data IsAsmRefused (text : List ℕ) (told : Refused) : Type 0 where
  none_of_the_forms : (line : ℕ) → Applies text (Text line) → told ≡ told_asm 1 line → IsAsmRefused text told
  out_of_order : (line : ℕ) → Applies text (Order line) → told ≡ told_asm 2 line → IsAsmRefused text told
  too_long : Applies text TooLong → told ≡ told_asm 3 134217728 → IsAsmRefused text told

-- the bytes of the tables that the assembly text describes break this rule of the format first
pub record IsAsmBroken (text : List ℕ) (told : Refused) : Type 0 where
  pub error : ObjectError
  pub applies : Applies text (Broken error)
  pub told_is : told ≡ told_error error
