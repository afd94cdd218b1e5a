-- The answers of `link`: to a map, to a module or for the linked object.
use Rattle.std.proofs.Common.{◌≡◌, ℕ, ◌≤◌, Bool, List, [], ◌∷◌, ◌++◌, length, Option, Some, None, Ok, Err, inl, inr}
use Rattle.std.proofs.Common.{refl, sym, ap, ◌∙◌, subst}
use Rattle.std.specs.Prelude.{◌⊎◌, IsTrue, IfErr, Result}
use Rattle.std.proofs.lemmas.Option.{none-some}
use Rattle.ft_edge.specs.Causes.{Rose}
use Rattle.ft_edge.specs.Loads.{Files}
use Rattle.ft_edge.specs.Logs.{SinkLog, ShelfLog}
use Rattle.ft_types.specs.declared.object.Object.{Object}
use Rattle.ft_typing.specs.Accepted.{IsAccepted, refusal}
use Rattle.ft_typing.specs.Accepted as refusals
use Rattle.ft_semantics.specs.Agrees.{Agrees}
use Rattle.ft_semantics.specs.Run.{outputs_after, status_after}
use Rattle.ft_checker.specs.declared.error.CheckError.{CheckError}
use Rattle.ft_checker.specs.declared.error.CheckError.TheVariants as checks
use Rattle.ft_checker.specs.Judges as judges
use Rattle.ft_format.specs.Broken.{object_of, version_at}
use Rattle.ft_link_map.specs.declared.link_map.LinkMap.{LinkMap}
use Rattle.ft_link_map.specs.declared.map_error.MapError.{MapError}
use Rattle.ft_link_map.specs.declared.map_error.MapError.TheVariants as maps
use Rattle.ft_link_map.specs.MapLines.{MapLine, AreSaid}
use Rattle.ft_link_map.specs.MapAnswers.{answer_of, Is, IsRefusal}
use Rattle.ft_modules.specs.Linked.{linked}
use Rattle.ft_modules.specs.LinkRefusals.{LinkRefusal, link_refusal, Cells, Rows, CodeOf, TooBig, NoBlock, Stub}
use Rattle.ft_modules.specs.LinkRefusals.{Missing, Types}
use Rattle.ft_modules.specs.ModulesRun.{modules_outputs, modules_status}
use Rattle.ft_linker.specs.declared.link_error.LinkError.{LinkError}
use Rattle.ft_linker.specs.declared.link_error.LinkError.TheVariants as links
use Rattle.ft_linker.specs.LinkErrors.{IsRefusalOf}
use Rattle.ft_linker.specs.Linking.{added_refusal, refusal_of, IsLinked}
use Rattle.ft_command.specs.Options.{Word}
use Rattle.ft_command.specs.Commands.{Links}
use Rattle.ft_tool.specs.declared.load.ObjectFault.{ObjectFault}
use Rattle.ft_tool.specs.declared.load.ObjectFault.TheVariants.{Refused, Failed, NoMemory as no_memory}
use Rattle.ft_tool.specs.declared.ending.Ending.{Ending}
use Rattle.ft_tool.specs.Replies.{Answer, IsToldFile}
use Rattle.ft_tool.specs.Objects.{UpgradesObject}
use Rattle.ft_tool.specs.Links.{IsMap, EndsAtMap, bad_line, line_twice, unlinked, EndsAtObject, not_accepted, not_added}
use Rattle.ft_tool.specs.Links.{no_object, no_module, LinksObject, LinksUnless, LinksAdded, LinksText, LinksFile}
use Rattle.ft_tool.specs.Links.{ComesInTurn}
use Rattle.ft_tool.specs.LinkTurns.{EndsWithFile, AddsFile, AddsObject, FailsInTurn, MakesOfText}
use Rattle.ft_tool.specs.Calls.{HasMade, map_load, asked_after, LoadsLink}
use Rattle.ft_tool.specs.Calls.{LoadList}
use Rattle.ft_tool.specs.Answers.{FailsIn}
use Rattle.ft_tool.specs.Told.{OfFiles}
use Rattle.ft_tool.specs.Files.{LoadsObject, IsRefusedBy, IsNotAccepted, IsMapRefused, IsUnlinkedBy}
use Rattle.ft_tool.specs.Endings.{Ends}
use Rattle.ft_tool.proofs.Answered.{Ends-map}
use Rattle.ft_tool.proofs.Mapped.{some_files}

-- ENDINGS

-- if a call failed with an ending, what that ending says stays true if its claims are weakened
pub err_ends : {T : Type 0} (r : Result T Ending) (P Q : Answer → Type 0) (old new : SinkLog) (L M : Type 0) →
    ((a : Answer) → P a → Q a) → (L → M)
    → IfErr r (λ e. Ends e P old new L) → IfErr r (λ e. Ends e Q old new M)
err_ends (Ok v) P Q old new L M f g h = tt
err_ends (Err e) P Q old new L M f g h = Ends-map e P Q old new L M f g h

-- if a call failed, what its error says may be replaced by what follows from it
pub if_err_map : {T E : Type 0} (r : Result T E) {P Q : E → Type 0} → ((e : E) → P e → Q e) → IfErr r P → IfErr r Q
if_err_map (Ok v) f h = tt
if_err_map (Err e) f h = f e h

-- if a fact holds unless the call ends early, then so does a weaker fact
pub known_less : (P Q Early : Type 0) → (P → Q) → P ⊎ Early → Q ⊎ Early
known_less P Q Early f (inl p) = inl (f p)
known_less P Q Early f (inr early) = inr early

-- OBJECTS

-- an error that has an answer reports a refusal of the modules, and its answer is the line of that refusal
told_refusal : (x : Option LinkRefusal) (e : LinkError) → IsRefusalOf x e → (a : Answer) → IsUnlinkedBy e a →
    (r : LinkRefusal) × ((x ≡ Some r) × (a ≡ unlinked r))
told_refusal x (links.Cells m) h a is = (Cells m, (h, is))
told_refusal x (links.Rows m) h a is = (Rows m, (h, is))
told_refusal x (links.Code m b i) h a is = (CodeOf m b i, (h, is))
told_refusal x (links.TooBig m) h a is = (TooBig m, (h, is))
told_refusal x (links.Block line) h a is = (NoBlock line, (h, is))
told_refusal x (links.Stub line) h a is = (Stub line, (h, is))
told_refusal x (links.Missing line) h a is = (Missing line, (h, is))
told_refusal x (links.Types line) h a is = (Types line, (h, is))
told_refusal x links.NoMemory h a is = absurd is

-- an accepted object that the linker does not refuse is added
pub adds_object : (modules modules' : List Object) (o : Object) → refusal o ≡ None → added_refusal modules o ≡ None →
    modules' ≡ modules ++ o ∷ [] → AddsObject modules o modules'
adds_object modules modules' o accepted unrefused added = record {
  accepted = accepted;
  unrefused = unrefused;
  added = added;
}

-- an accepted object that the linker refuses ends the link with that refusal
pub ends_unadded : (modules : List Object) (o : Object) (e : LinkError) → refusal o ≡ None →
    IsRefusalOf (added_refusal modules o) e → (a : Answer) → IsUnlinkedBy e a → EndsAtObject modules o a
ends_unadded modules o e accepted h a is =
    let r = told_refusal (added_refusal modules o) e h a is in
    not_added accepted r.0 r.1.0 r.1.1

-- an object that is not accepted ends the link with its refusal
pub ends_unaccepted : (modules : List Object) (o : Object) (e : CheckError) → judges.IsRefusalOf (refusal o) e →
    (a : Answer) → IsNotAccepted e a → EndsAtObject modules o a
ends_unaccepted modules o checks.EntryType h a is = not_accepted refusals.EntryType h is
ends_unaccepted modules o (checks.CellType k) h a is = not_accepted (refusals.CellType k) h is
ends_unaccepted modules o (checks.Refused b i why) h a is = not_accepted (refusals.Refused b i why) h is
ends_unaccepted modules o checks.NoMemory h a is = absurd is

-- FILES

-- the file of a module ends the link if the object that its bytes spell does
pub ends_with_object : (told : Option Files) (modules : List Object) (name : Word) (bytes : List ℕ) →
    LoadsObject told name (Ok bytes) → (a : Answer) → EndsAtObject modules (object_of bytes) a →
    EndsWithFile told modules name a
ends_with_object told modules name bytes h a is = (bytes, (h.0, no_module (object_of bytes) (version_at bytes, h.1) is))

-- the file of a module ends the link if its bytes are refused
pub ends_with_fault : (told : Option Files) (modules : List Object) (name : Word) (e : ObjectFault) →
    LoadsObject told name (Err e) → (a : Answer) → IsRefusedBy e a → EndsWithFile told modules name a
ends_with_fault told modules name (Refused e) h a is = (h.0, (h.1.0, no_object e h.1.1 is))
ends_with_fault told modules name Failed h a is = absurd is
ends_with_fault told modules name no_memory h a is = absurd is

-- if the object that a file's bytes spell was added, then the object in the file was added
pub adds_file : (told : Option Files) (modules modules' : List Object) (name : Word) (bytes : List ℕ) →
    LoadsObject told name (Ok bytes) → AddsObject modules (object_of bytes) modules' →
    AddsFile told name modules modules'
adds_file told modules modules' name bytes h g = (
  bytes,
  (
    h.0,
    (
      object_of bytes,
      (
        record {
          spelled = (version_at bytes, h.1);
          accepted = g.accepted;
          unrefused = g.unrefused;
        },
        g.added,
      ),
    ),
  ),
)

-- a result is not both a success and an error
pub ok_no_err : {A B : Type 0} (x : A) (y : B) (r s : Result A B) → r ≡ Ok x → s ≡ Err y → r ≡ s → ⊥
ok_no_err x y r s a b e = cc

-- THE LINKED OBJECT

object_linked : (linkage : LinkMap) (first : Object) (others : List Object) (o : Object) → o
    ≡ linked linkage first others → IsAccepted o
    → ((n : ℕ) → outputs_after o None [] n ≡ modules_outputs linkage first others n) →
    ((n : ℕ) → status_after o None [] n ≡ modules_status linkage first others n)
    → ((strike : _) (w : _) (n : ℕ) → Agrees (outputs_after o strike w n) (status_after o strike w n)
    (modules_outputs linkage first others n) (modules_status linkage first others n))
    → (a : Answer) → UpgradesObject o a → LinksObject linkage first others a
object_linked linkage first others o e accepted outputs status tolerates a written = record {
  accepted = subst IsAccepted e accepted;
  outputs = λ n. subst (λ (x : Object). outputs_after x None [] n ≡ modules_outputs linkage first others n) e
      (outputs n);
  status = λ n. subst (λ (x : Object). status_after x None [] n ≡ modules_status linkage first others n) e (status n);
  tolerates = λ strike w n. subst (λ (x : Object).
      Agrees (outputs_after x strike w n) (status_after x strike w n) (modules_outputs linkage first others n)
      (modules_status linkage first others n)) e (tolerates strike w n);
  written = subst (λ x. UpgradesObject x a) e written;
}

-- if the linker refuses nothing, the bytes of the object that it makes are an answer for the added modules
pub links_object : (linkage : LinkMap) (modules : List Object) (o : Object) → IsLinked linkage modules o →
    refusal_of linkage modules ≡ None → (a : Answer) → UpgradesObject o a → LinksAdded linkage modules a
links_object linkage modules o h unrefused a written =
    let none : link_refusal linkage h.first h.others
    ≡ None = subst (λ ms. refusal_of linkage ms ≡ None) h.modules_are unrefused in
    subst (λ ms. LinksAdded linkage ms a) (sym h.modules_are)
    (subst (λ x. LinksUnless x linkage h.first h.others a) (sym none)
    (object_linked linkage h.first h.others o h.linked_is h.accepted h.outputs h.status h.tolerates a written))

-- if the linker refuses the added modules, the line of its refusal is an answer for them
refused_so : (linkage : LinkMap) (modules : List Object) (r : LinkRefusal) → refusal_of linkage modules ≡ Some r →
    (a : Answer) → a ≡ unlinked r → LinksAdded linkage modules a
refused_so linkage [] r e a is = absurd (none-some r e)
refused_so linkage (first ∷ others) r e a is = subst (λ x. LinksUnless x linkage first others a) (sym e) is

pub links_refused : (linkage : LinkMap) (modules : List Object) (e : LinkError) →
    IsRefusalOf (refusal_of linkage modules) e → (a : Answer) → IsUnlinkedBy e a → LinksAdded linkage modules a
links_refused linkage modules e h a is =
    let r = told_refusal (refusal_of linkage modules) e h a is in
    refused_so linkage modules r.0 r.1.0 a r.1.1

-- THE MAP

-- a text within the size limit is a map if its lines are read as that map
pub is_map : (text : List ℕ) (linkage : LinkMap) → length text ≤ 65536 → (said : List MapLine) → AreSaid text said →
    answer_of said ≡ Is linkage → IsMap text linkage
is_map text linkage short said lines is = record { short = short; lines = said; are_said = lines; is = is }

-- a text within the size limit ends the link if one of its lines is refused
pub map_refused : (text : List ℕ) → length text ≤ 65536 → (said : List MapLine) → AreSaid text said → (e : MapError) →
    IsRefusal e (answer_of said) → (a : Answer) → IsMapRefused e a → EndsAtMap text a
map_refused text short said lines (maps.Line line) h a is =
    bad_line line (record { short = short; lines = said; are_said = lines; is = h }) is
map_refused text short said lines (maps.Twice line) h a is =
    line_twice line (record { short = short; lines = said; are_said = lines; is = h }) is
map_refused text short said lines maps.NoMemory h a is = absurd is

-- no module need be loaded if the text ends the link or the call ends early
pub makes_no_module : (told : Option Files) (text : List ℕ) (early : Bool) (asked : Option LoadList) →
    ((a : Answer) × EndsAtMap text a) ⊎ IsTrue early → MakesOfText told text early asked asked
makes_no_module told text early asked h = inl (h, refl)

-- if a module could not be loaded, a load of the request failed
failed_module : (name : Word) (text : List ℕ) (shelf shelf' : ShelfLog) → IsToldFile shelf.files name text
    → (linkage : LinkMap) × (IsMap text linkage × FailsInTurn linkage shelf shelf')
    → OfFiles shelf.files (λ files. FailsIn (Links name) files shelf shelf')
failed_module name text shelf shelf' file x =
    let m = some_files shelf.files in
    let comes = inr (record { text = text; is_file = file; linkage = x.0; is_map = x.1.0; in_turn = x.1.1.1.0 }) in
    (m.0, (m.1.0, record { file = x.1.1.0; comes = comes; fails = x.1.1.1.1 }))

-- likewise for the shelf after the load of the map, and for the borrowed text
pub failed_between : (name : Word) (text lent : List ℕ) (shelf between shelf' : ShelfLog) → between.files ≡ shelf.files
    → lent ≡ text → between.failures ≡ shelf.failures → IsToldFile shelf.files name text
    → (linkage : LinkMap) × (IsMap lent linkage × FailsInTurn linkage between shelf')
    → OfFiles shelf.files (λ files. FailsIn (Links name) files shelf shelf')
failed_between name text lent shelf between shelf' e f b file x =
    let t = x.1.1 in
    failed_module name text shelf shelf' file (
      x.0,
      (
        subst (λ t. IsMap t x.0) f x.1.0,
        (
          t.0,
          (
            subst (λ told. ComesInTurn told [] x.0.files t.0) e t.1.0,
            (subst (λ n. Rose n shelf'.failures) b t.1.1.0, t.1.1.1),
          ),
        ),
      ),
    )

pub links_between : (told again : Option Files) (name : Word) (text lent : List ℕ) → again ≡ told → lent ≡ text →
    IsToldFile told name text → (a : Answer) → LinksText again lent a → LinksFile told name a
links_between told again name text lent e f file a h =
    (text, (file, subst (λ t. LinksText t text a) e (subst (λ b. LinksText again b a) f h)))

-- the loads that were made after the map's text was read are, with that of the map, the loads of the link
pub loads_of_text : (told : Option Files) (name : Word) (text lent : List ℕ) (early : Bool)
    (asked between asked' : Option LoadList) → lent ≡ text → IsToldFile told name text
    → HasMade (map_load name ∷ []) asked between → MakesOfText told lent early between asked'
    → LoadsLink told name (IsTrue early) asked asked'
loads_of_text told name text lent early asked between asked' same file first (inl h) =
    let own = subst (IsToldFile told name) (sym same) file in
    inl (record {
      none = known_less ((a : Answer) × EndsAtMap lent a) ((text : List ℕ)
          × (IsToldFile told name text × ((a : Answer) × EndsAtMap text a)))
          (IsTrue early) (λ x. (lent, (own, x))) h.0;
      made = h.1 ∙ first;
    })
loads_of_text told name text lent early asked between asked' same file first (inr h) =
    inr (record {
      text = lent;
      is_file = subst (IsToldFile told name) (sym same) file;
      linkage = h.0;
      is_map = h.1.0;
      loads = h.1.1.0;
      in_turn = h.1.1.1.0;
      made = h.1.1.1.1 ∙ ap (asked_after h.1.1.0) first;
    })
