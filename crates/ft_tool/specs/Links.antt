-- The answers of `link` for the text of a link map and the files of its modules.
use Rattle.std.specs.Prelude.{◌≡◌, ◌⊎◌, ℕ, ◌<◌, ◌≤◌, List, [], ◌∷◌, ◌++◌, length, Option, Some, None}
use Rattle.ft_edge.specs.Loads.{Files}
use Rattle.ft_isa.specs.declared.plan.Strike.{Strike}
use Rattle.ft_isa.specs.declared.plan.Wild.{Wild}
use Rattle.ft_types.specs.declared.object.Object.{Object}
use Rattle.ft_semantics.specs.Agrees.{Agrees}
use Rattle.ft_semantics.specs.Run.{outputs_after, status_after}
use Rattle.ft_typing.specs.Accepted.{Refusal, IsAccepted, refusal}
use Rattle.ft_format.specs.declared.object_error.ObjectError.{ObjectError}
use Rattle.ft_format.specs.Broken.{broken}
use Rattle.ft_link_map.specs.declared.link_map.LinkMap.{LinkMap}
use Rattle.ft_link_map.specs.MapLines.{MapLine, AreSaid}
use Rattle.ft_link_map.specs.MapAnswers.{Answer as Said, Is, Line, Twice, answer_of}
use Rattle.ft_modules.specs.Linked.{linked}
use Rattle.ft_modules.specs.LinkRefusals.{LinkRefusal, link_refusal}
use Rattle.ft_modules.specs.ModulesRun.{modules_outputs, modules_status}
use Rattle.ft_linker.specs.Linking.{added_refusal}
use Rattle.ft_command.specs.Options.{Word}
use Rattle.ft_tool.specs.Texts.{link_line, unlinked_line}
use Rattle.ft_tool.specs.Replies.{Answer, one_piece, IsToldFile, IsSpelling}
use Rattle.ft_tool.specs.Objects.{refused, judged, UpgradesObject}

-- THE MAP

-- the outcome of reading a text as a link map; the text has at most 65,536 bytes
pub record SaysOf (text : List ℕ) (said : Said) : Type 0 where
  pub short : length text ≤ 65536
  pub lines : List MapLine
  pub are_said : AreSaid text lines
  pub is : answer_of lines ≡ said

-- the text is this map
abbrev pub IsMap : List ℕ → LinkMap → Type 0
IsMap text linkage = SaysOf text (Is linkage)

-- the text ends the link with this answer: it is too long, or a line of it is refused
pub data EndsAtMap (text : List ℕ) (a : Answer) : Type 0 where
  long_map : 65536 < length text → a ≡ one_piece (link_line 11 65536) 13 → EndsAtMap text a
  bad_line : (line : ℕ) → SaysOf text (Line line) → a ≡ one_piece (link_line 1 line) 13 → EndsAtMap text a
  line_twice : (line : ℕ) → SaysOf text (Twice line) → a ≡ one_piece (link_line 2 line) 13 → EndsAtMap text a

-- MODULES

-- the answer if the modules cannot be linked
abbrev pub unlinked : LinkRefusal → Answer
unlinked r = one_piece (unlinked_line r) 13

-- an object ends the link with this answer: it is not accepted, or cannot be added to the modules before it
pub data EndsAtObject (modules : List Object) (o : Object) (a : Answer) : Type 0 where
  not_accepted : (r : Refusal) → refusal o ≡ Some r → a ≡ judged (Some r) → EndsAtObject modules o a
  not_added : refusal o ≡ None → (r : LinkRefusal) → added_refusal modules o ≡ Some r → a ≡ unlinked r → EndsAtObject modules o a

-- the bytes of a module's file end the link with this answer: they spell no object, or one that ends the link
pub data EndsAtBytes (modules : List Object) (bytes : List ℕ) (a : Answer) : Type 0 where
  no_object : (e : ObjectError) → broken bytes ≡ Some e → a ≡ refused e → EndsAtBytes modules bytes a
  no_module : (o : Object) → IsSpelling bytes o → EndsAtObject modules o a → EndsAtBytes modules bytes a

-- the bytes spell an accepted object, which can be added to the modules before it
pub record IsAdded (modules : List Object) (bytes : List ℕ) (o : Object) : Type 0 where
  pub spelled : IsSpelling bytes o
  pub accepted : refusal o ≡ None
  pub unrefused : added_refusal modules o ≡ None

-- THE LINKED OBJECT

-- the answer is the object that the map makes of the modules: its bytes in version 2 of the format, in one piece. It is
-- accepted. After any number of steps, its run has the outputs and the status of the modules' run; with a fault it
-- still has them, or it is detected and its outputs are a prefix of theirs
pub record LinksObject (linkage : LinkMap) (first : Object) (others : List Object) (a : Answer) : Type 0 where
  pub accepted : IsAccepted (linked linkage first others)
  pub outputs : (n : ℕ) → outputs_after (linked linkage first others) None [] n ≡ modules_outputs linkage first others n
  pub status : (n : ℕ) → status_after (linked linkage first others) None [] n ≡ modules_status linkage first others n
  pub tolerates : (strike : Option Strike) (w : List Wild) (n : ℕ) → Agrees (outputs_after (linked linkage first others) strike w n) (status_after (linked linkage first others) strike w n) (modules_outputs linkage first others n) (modules_status linkage first others n)
  pub written : UpgradesObject (linked linkage first others) a

-- the answer is that object, or the refusal if the modules cannot be linked
abbrev pub LinksUnless : Option LinkRefusal → LinkMap → Object → List Object → Answer → Type 0
LinksUnless None linkage first others a = LinksObject linkage first others a
LinksUnless (Some r) linkage first others a = a ≡ unlinked r

-- the answer after all modules were added; there must be at least one module
abbrev pub LinksAdded : LinkMap → List Object → Answer → Type 0
LinksAdded linkage [] a = ⊥
LinksAdded linkage (first ∷ others) a = LinksUnless (link_refusal linkage first others) linkage first others a

-- THE FILES

-- the answer for the files of further modules, in turn: the bytes of the first end the link, or spell an object that
-- is added to the modules so far
abbrev pub LinksFiles : Option Files → LinkMap → List Object → List Word → Answer → Type 0
LinksFiles told linkage modules [] a = LinksAdded linkage modules a
LinksFiles told linkage modules (name ∷ names) a =
    (bytes : List ℕ) × (IsToldFile told name bytes
    × (EndsAtBytes modules bytes a ⊎ ((o : Object) × (IsAdded modules bytes o × LinksFiles told linkage (modules ++ o ∷ []) names a))))

-- the answer for the text of a map: it ends the link, or the files of its modules are linked
abbrev pub LinksText : Option Files → List ℕ → Answer → Type 0
LinksText told text a = EndsAtMap text a ⊎ ((linkage : LinkMap) × (IsMap text linkage × LinksFiles told linkage [] linkage.files a))

-- the answer for the map in the file with this name. If the shelf does not reveal its files, each load may get any
-- bytes
abbrev pub LinksFile : Option Files → Word → Answer → Type 0
LinksFile told name a = (text : List ℕ) × (IsToldFile told name text × LinksText told text a)

-- LOADS

-- a link of further modules gets as far as loading this file: each module before it was added
abbrev pub ComesInTurn : Option Files → List Object → List Word → Word → Type 0
ComesInTurn told modules [] file = ⊥
ComesInTurn told modules (name ∷ names) file =
    (file ≡ name)
    ⊎ ((bytes : List ℕ) × (IsToldFile told name bytes × ((o : Object) × (IsAdded modules bytes o × ComesInTurn told (modules ++ o ∷ []) names file))))

-- a link gets as far as loading this module's file
pub record ComesToModule (told : Option Files) (name file : Word) : Type 0 where
  pub text : List ℕ
  pub is_file : IsToldFile told name text
  pub linkage : LinkMap
  pub is_map : IsMap text linkage
  pub in_turn : ComesInTurn told [] linkage.files file
