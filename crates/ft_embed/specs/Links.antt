-- What a link returns for the text of a link map and the modules in the caller's array.
use Rattle.std.specs.Prelude.{◌≡◌, ◌⊎◌, ℕ, ◌+◌, ◌<◌, ◌≤◌, if◌then◌else◌, List, [], ◌∷◌, ◌++◌, length, Option, Some, None}
use Rattle.std.specs.Str.{bytes_eq}
use Rattle.ft_types.specs.declared.object.Object.{Object}
use Rattle.ft_typing.specs.Accepted.{Refusal, refusal}
use Rattle.ft_format.specs.declared.object_error.ObjectError.{ObjectError}
use Rattle.ft_format.specs.declared.version.Version.TheVariants.{Second}
use Rattle.ft_format.specs.Format.{Spells}
use Rattle.ft_format.specs.Broken.{broken, object_of, version_at}
use Rattle.ft_link_map.specs.declared.link_map.LinkMap.{LinkMap}
use Rattle.ft_link_map.specs.MapLines.{MapLine, AreSaid}
use Rattle.ft_link_map.specs.MapAnswers.{Answer, Is, Line, Twice, answer_of}
use Rattle.ft_modules.specs.LinkRefusals.{LinkRefusal, Cells, Rows, CodeOf, TooBig, NoBlock, Stub, Missing, Types}
use Rattle.ft_linker.specs.Linking.{added_refusal, refusal_of, IsLinked}
use Rattle.ft_embed.specs.declared.refused.Refused.{Refused}
use Rattle.ft_embed.specs.declared.unlinked.Unlinked.{Unlinked}
use Rattle.ft_embed.specs.declared.unlinked.Module.{Module}
use Rattle.ft_embed.specs.Verdicts.{nothing, told_error, told_refusal}

-- REFUSALS

-- a refusal of a link with one number: a line of the map, a module, or the maximum number of bytes of a map
abbrev pub told_link : ℕ → ℕ → Refused
told_link n x = record { part = 7; number = n; place = x; index = 0 }

-- the module that a refusal is about; 0 if it is about a line
abbrev pub module_of : LinkRefusal → ℕ
module_of (Cells m) = m
module_of (Rows m) = m
module_of (CodeOf m b i) = m
module_of (TooBig m) = m
module_of (NoBlock line) = 0
module_of (Stub line) = 0
module_of (Missing line) = 0
module_of (Types line) = 0

-- why modules cannot be linked: the number of the refusal, and a module, a block and an index in it, or a line
abbrev pub why_unlinked : LinkRefusal → Refused
why_unlinked (Cells m) = told_link 3 m
why_unlinked (Rows m) = told_link 4 m
why_unlinked (CodeOf m b i) = record { part = 7; number = 5; place = b; index = i }
why_unlinked (TooBig m) = told_link 6 m
why_unlinked (NoBlock line) = told_link 7 line
why_unlinked (Stub line) = told_link 8 line
why_unlinked (Missing line) = told_link 9 line
why_unlinked (Types line) = told_link 10 line

-- the result for modules that cannot be linked
abbrev pub unlinked : LinkRefusal → Unlinked
unlinked r = record { status = 13; «module» = module_of r; why = why_unlinked r }

-- THE MAP

-- the outcome of reading a text as a link map; the text has at most 65,536 bytes
pub record SaysOf (text : List ℕ) (said : Answer) : Type 0 where
  pub short : length text ≤ 65536
  pub lines : List MapLine
  pub are_said : AreSaid text lines
  pub is : answer_of lines ≡ said

-- the text is this map
abbrev pub IsMap : List ℕ → LinkMap → Type 0
IsMap text linkage = SaysOf text (Is linkage)

-- the result for a text that is not a map
abbrev pub bad_map : ℕ → ℕ → Unlinked
bad_map n x = record { status = 13; «module» = 0; why = told_link n x }

-- the link ends with this refusal of the text: it is too long, or a line of it is refused
pub data EndsAtMap (text : List ℕ) (u : Unlinked) : Type 0 where
  long_map : 65536 < length text → u ≡ bad_map 11 65536 → EndsAtMap text u
  bad_line : (line : ℕ) → SaysOf text (Line line) → u ≡ bad_map 1 line → EndsAtMap text u
  line_twice : (line : ℕ) → SaysOf text (Twice line) → u ≡ bad_map 2 line → EndsAtMap text u

-- MODULES

-- the bytes of the first module with this name
abbrev pub bytes_of : List Module → List ℕ → Option (List ℕ)
bytes_of [] name = None
bytes_of (m ∷ ms) name = if bytes_eq m.name.now name then Some m.bytes.now else bytes_of ms name

-- the link ends with this refusal of an object: it is not accepted, or cannot be added to the modules before it
pub data EndsAtObject (modules : List Object) (o : Object) (u : Unlinked) : Type 0 where
  not_accepted : (r : Refusal) → refusal o ≡ Some r → u ≡ record { status = 8; «module» = length modules; why = told_refusal r } → EndsAtObject modules o u
  not_added : refusal o ≡ None → (r : LinkRefusal) → added_refusal modules o ≡ Some r → u ≡ unlinked r → EndsAtObject modules o u

-- the link ends with this refusal of the next module's bytes: they spell no object, or one that ends the link
pub data EndsAtBytes (modules : List Object) (bytes : List ℕ) (u : Unlinked) : Type 0 where
  no_object : (e : ObjectError) → broken bytes ≡ Some e → u ≡ record { status = 7; «module» = length modules; why = told_error e } → EndsAtBytes modules bytes u
  no_module : Spells bytes (version_at bytes) (object_of bytes) → EndsAtObject modules (object_of bytes) u → EndsAtBytes modules bytes u

-- the link ends with this refusal of the next module's file: no module has its name, or the bytes of the first module
-- that has it end the link
pub data EndsAtModule (given : List Module) (modules : List Object) (name : List ℕ) (u : Unlinked) : Type 0 where
  not_given : bytes_of given name ≡ None → u ≡ record { status = 20; «module» = length modules; why = nothing } → EndsAtModule given modules name u
  ends_at_bytes : (bytes : List ℕ) → bytes_of given name ≡ Some bytes → EndsAtBytes modules bytes u → EndsAtModule given modules name u

-- an object is accepted and added to the modules before it
pub record AddsObject (modules : List Object) (o : Object) (modules' : List Object) : Type 0 where
  pub accepted : refusal o ≡ None
  pub unrefused : added_refusal modules o ≡ None
  pub added : modules' ≡ modules ++ o ∷ []

-- the object in the next module's file is accepted, and can be added to the modules before it
pub record IsAdded (given : List Module) (modules : List Object) (name : List ℕ) (o : Object) : Type 0 where
  pub bytes : List ℕ
  pub found : bytes_of given name ≡ Some bytes
  pub spelled : Spells bytes (version_at bytes) o
  pub accepted : refusal o ≡ None
  pub unrefused : added_refusal modules o ≡ None

-- the files of further modules are added in turn, and in the end these are all the modules
abbrev pub AddsAll : List Module → List Object → List (List ℕ) → List Object → Type 0
AddsAll given modules [] all = all ≡ modules
AddsAll given modules (name ∷ names) all = (o : Object) × (IsAdded given modules name o × AddsAll given (modules ++ o ∷ []) names all)

-- the link ends with this refusal of the file of some further module, and the files before it are added
abbrev pub EndsInTurn : List Module → List Object → List (List ℕ) → Unlinked → Type 0
EndsInTurn given modules [] u = ⊥
EndsInTurn given modules (name ∷ names) u = EndsAtModule given modules name u ⊎ ((o : Object) × (IsAdded given modules name o × EndsInTurn given (modules ++ o ∷ []) names u))

-- LINKS

-- the modules are not linked, and this is why
pub data IsUnlinked (given : List Module) (text : List ℕ) (u : Unlinked) : Type 0 where
  ends_at_map : EndsAtMap text u → IsUnlinked given text u
  ends_in_turn : (linkage : LinkMap) → IsMap text linkage → EndsInTurn given [] linkage.files u → IsUnlinked given text u
  ends_at_end : (linkage : LinkMap) → IsMap text linkage → (modules : List Object) → AddsAll given [] linkage.files modules
      → (r : LinkRefusal) → refusal_of linkage modules ≡ Some r → u ≡ unlinked r → IsUnlinked given text u

-- these bytes are the object that a map makes of the added modules, in version 2 of the format. It is accepted and runs
-- as the modules do; with a fault, it still does so or is detected
pub record IsLinkedAll (linkage : LinkMap) (modules : List Object) (bytes : List ℕ) : Type 0 where
  pub unrefused : refusal_of linkage modules ≡ None
  pub object : Object
  pub linked : IsLinked linkage modules object
  pub spelled : Spells bytes Second object

-- these bytes are the object that the map in the text makes of the modules that it names
pub record IsLinkedOf (given : List Module) (text bytes : List ℕ) : Type 0 where
  pub linkage : LinkMap
  pub is_map : IsMap text linkage
  pub modules : List Object
  pub added : AddsAll given [] linkage.files modules
  pub all : IsLinkedAll linkage modules bytes

-- FOR THE CODE

-- the result for a refusal, if there is one: private to the code
abbrev pub IsUnlinkedBy : Option LinkRefusal → Unlinked → Type 0
IsUnlinkedBy None u = ⊥
IsUnlinkedBy (Some r) u = u ≡ unlinked r

-- why module m is not accepted: private to the code
abbrev pub IsUnaccepted : Option Refusal → ℕ → Unlinked → Type 0
IsUnaccepted None m u = ⊥
IsUnaccepted (Some r) m u = u ≡ record { status = 8; «module» = m; why = told_refusal r }

-- the result for a refused map: private to the code
abbrev pub SaidUnlinked : Answer → Unlinked → Type 0
SaidUnlinked (Is linkage) u = ⊥
SaidUnlinked (Line line) u = u ≡ bad_map 1 line
SaidUnlinked (Twice line) u = u ≡ bad_map 2 line

-- the object in the next module's file was added: private to the code
pub record IsAddedTo (given : List Module) (modules : List Object) (name : List ℕ) (modules' : List Object) : Type 0 where
  pub object : Object
  pub is : IsAdded given modules name object
  pub added : modules' ≡ modules ++ object ∷ []

-- these modules of a map were added, and its link ends as the link of the remaining files does: private to the code
pub record HasAdded (given : List Module) (linkage : LinkMap) (modules : List Object) (rest : List (List ℕ)) : Type 0 where
  pub count : length modules + length rest ≡ length linkage.files
  pub adds : (all : List Object) → AddsAll given modules rest all → AddsAll given [] linkage.files all
  pub ends : (u : Unlinked) → EndsInTurn given modules rest u → EndsInTurn given [] linkage.files u
