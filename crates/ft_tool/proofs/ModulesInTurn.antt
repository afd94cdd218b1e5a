-- The modules of a link, added in turn: which loads are made, and what ends the link.
use Rattle.std.proofs.Common.{◌≡◌, ℕ, ◌+◌, ◌<◌, Bool, drop, get_or, true, List, [], ◌∷◌, ◌++◌, length, Option, Some}
use Rattle.std.proofs.Common.{inl, inr, refl, sym, ap, ◌∙◌, subst, arith}
use Rattle.std.specs.Prelude.{◌⊎◌, IsTrue}
use Rattle.std.proofs.lemmas.List.{append-nil, append_assoc, drop_more, length_push}
use Rattle.ft_edge.specs.Causes.{Rose}
use Rattle.ft_edge.specs.Loads.{Files}
use Rattle.ft_edge.specs.Told.{append_told}
use Rattle.ft_edge.specs.Logs.{ShelfLog, LoadFails}
use Rattle.ft_types.specs.declared.object.Object.{Object}
use Rattle.ft_link_map.specs.declared.link_map.LinkMap.{LinkMap}
use Rattle.ft_command.specs.Options.{Word}
use Rattle.ft_tool.specs.Replies.{Answer}
use Rattle.ft_tool.specs.Links.{LinksFiles}
use Rattle.ft_tool.specs.LinkTurns.{EndsWithFile, AddsFile, HasAdded, FailsInTurn, MakesInTurn}
use Rattle.ft_tool.specs.Calls.{LoadList, asked_after, HasMade, object_load, EndsAtFile, LoadsInTurn}
use Rattle.ft_tool.proofs.Linking.{known_less}

-- LOADS

asked_after-append : (loads more : LoadList) (asked : Option LoadList) → asked_after (loads ++ more) asked
    ≡ asked_after more (asked_after loads asked)
asked_after-append [] more asked = refl
asked_after-append (load ∷ loads) more asked = asked_after-append loads more (append_told asked (load ∷ []))

-- if some loads were made and then more, all of them were made, in this order
made_more : (loads more : LoadList) (asked between asked' : Option LoadList) → HasMade loads asked between →
    HasMade more between asked' → HasMade (loads ++ more) asked asked'
made_more loads more asked between asked' h g = g ∙ ap (asked_after more) h ∙ sym (asked_after-append loads more asked)

-- a call that ends early may make no loads at all
no_loads : (told : Option Files) (modules : List Object) (names : List Word) →
    LoadsInTurn told (IsTrue true) modules names []
no_loads told modules [] = refl
no_loads told modules (name ∷ names) = inl (refl, refl)

pub makes_none : (told : Option Files) (linkage : LinkMap) (asked : Option LoadList) →
    MakesInTurn told linkage true asked asked
makes_none told linkage asked = ([], (no_loads told [] linkage.files, refl))

-- MODULES IN TURN

-- after the file of the next module was added, `HasAdded` holds with one more module
added_object : (told : Option Files) (linkage : LinkMap) (modules : List Object) (name : Word) (names : List Word)
    (asked between asked' : Option LoadList) → HasAdded told linkage modules (name ∷ names) asked between
    → (modules' : List Object) → (g : AddsFile told name modules modules') →
    HasMade (object_load name ∷ []) between asked' →
    HasAdded told linkage (modules ++ g.1.1.0 ∷ []) names asked asked'
added_object told linkage modules name names asked between asked' h modules' g made = record {
  loads = h.loads ++ object_load name ∷ [];
  made = made_more h.loads (object_load name ∷ []) asked between asked' h.made made;
  count = omega (arith, length_push modules g.1.1.0, h.count);
  answers = λ a x. h.answers a (g.0, (g.1.0, inr (g.1.1.0, (g.1.1.1.0, x))));
  comes = λ file x. h.comes file (inr (g.0, (g.1.0, (g.1.1.0, (g.1.1.1.0, x)))));
  in_turn = λ early more x.
      subst (λ ls. LoadsInTurn told (IsTrue early) [] linkage.files ls)
      (sym (append_assoc h.loads (object_load name ∷ []) more))
      (h.in_turn early (object_load name ∷ more) (inr (more, (refl, inr (g.0, (g.1.0, (g.1.1.0, (g.1.1.1.0, x))))))));
}

pub added_more : (told : Option Files) (linkage : LinkMap) (modules modules' : List Object) (name : Word)
    (names : List Word) (asked between asked' : Option LoadList) →
    HasAdded told linkage modules (name ∷ names) asked between
    → AddsFile told name modules modules' → HasMade (object_load name ∷ []) between asked' →
    HasAdded told linkage modules' names asked asked'
added_more told linkage modules modules' name names asked between asked' h g made =
    subst (λ ms. HasAdded told linkage ms names asked asked') (sym g.1.1.1.1)
    (added_object told linkage modules name names asked between asked' h modules' g made)

-- if the file of the next module ends the link, its answer is the answer of the link
pub ends_in_turn : (told : Option Files) (linkage : LinkMap) (modules : List Object) (name : Word) (names : List Word)
    (asked between : Option LoadList) → HasAdded told linkage modules (name ∷ names) asked between
    → (a : Answer) → EndsWithFile told modules name a → LinksFiles told linkage [] linkage.files a
ends_in_turn told linkage modules name names asked between h a g = h.answers a (g.0, (g.1.0, inl g.1.1))

-- if the load of that file failed, a load of the link failed
fails_in_turn : (linkage : LinkMap) (modules : List Object) (name : Word) (names : List Word)
    (shelf between shelf' : ShelfLog)
    → HasAdded shelf.files linkage modules (name ∷ names) shelf.asked between.asked → LoadFails name shelf shelf'
    → FailsInTurn linkage shelf shelf'
fails_in_turn linkage modules name names shelf between shelf' h g = (name, (h.comes name (inl refl), g))

-- if the link ended at that file, or the call ended early, the loads of the link end with that file
pub makes_to_end : (told : Option Files) (linkage : LinkMap) (modules : List Object) (name : Word) (names : List Word)
    (asked between asked' : Option LoadList) (early : Bool) → HasAdded told linkage modules (name ∷ names) asked between
    → ((a : Answer) × EndsWithFile told modules name a) ⊎ IsTrue early →
    HasMade (object_load name ∷ []) between asked' → MakesInTurn told linkage early asked asked'
makes_to_end told linkage modules name names asked between asked' early h g made = (
  h.loads ++ object_load name ∷ [],
  (
    h.in_turn early (object_load name ∷ []) (inr (
      [],
      (
        refl,
        inl (
          refl,
          known_less ((a : Answer) × EndsWithFile told modules name a) (EndsAtFile told modules name)
              (IsTrue early) (λ x. (x.1.0, (x.1.1.0, (x.0, x.1.1.1)))) g,
        ),
      ),
    )),
    made_more h.loads (object_load name ∷ []) asked between asked' h.made made,
  ),
)

-- THE NEXT FILE OF A LOOP, under an equal name and on a shelf with the same files

-- the remaining files begin with the next one
at_file : (told : Option Files) (linkage : LinkMap) (modules : List Object) (files : List Word) (i : ℕ) (file : Word)
    (asked between : Option LoadList) → i < length files → file ≡ get_or files i file
    → HasAdded told linkage modules (drop i files) asked between →
    HasAdded told linkage modules (file ∷ drop (i + 1) files) asked between
at_file told linkage modules files i file asked between within is h =
    subst (λ rest. HasAdded told linkage modules rest asked between) (drop_more files i file within
    ∙ ap (λ f. f ∷ drop (i + 1) files) (sym is)) h

-- after the object in the next file was added, `HasAdded` holds with one more module
pub added_next : (told again : Option Files) (linkage : LinkMap) (modules modules' : List Object) (files : List Word)
    (i : ℕ) (file name : Word) (asked between asked' : Option LoadList) → again ≡ told → name ≡ file
    → i < length files → file ≡ get_or files i file → HasAdded told linkage modules (drop i files) asked between →
    AddsFile again name modules modules' → HasMade (object_load name ∷ []) between asked'
    → HasAdded told linkage modules' (drop (i + 1) files) asked asked'
added_next told again linkage modules modules' files i file name asked between asked' e f within is h adds made =
    added_more told linkage modules modules' file (drop (i + 1) files) asked between asked'
    (at_file told linkage modules files i file asked between within is h)
    (subst (λ t. AddsFile t file modules modules') e (subst (λ n. AddsFile again n modules modules') f adds))
    (subst (λ n. HasMade (object_load n ∷ []) between asked') f made)

-- if the next file ends the link, its answer is the answer of the link
same_end : (told again : Option Files) (modules : List Object) (file name : Word) → again ≡ told → name ≡ file →
    (a : Answer) → EndsWithFile again modules name a → EndsWithFile told modules file a
same_end told again modules file name e f a h = subst (λ t. EndsWithFile t modules file a) e
    (subst (λ n. EndsWithFile again modules n a) f h)

pub ends_next : (told again : Option Files) (linkage : LinkMap) (modules : List Object) (files : List Word) (i : ℕ)
    (file name : Word) (asked between : Option LoadList) → again ≡ told → name ≡ file
    → i < length files → file ≡ get_or files i file → HasAdded told linkage modules (drop i files) asked between →
    (a : Answer) → EndsWithFile again modules name a → LinksFiles told linkage [] linkage.files a
ends_next told again linkage modules files i file name asked between e f within is h a g =
    ends_in_turn told linkage modules file (drop (i + 1) files) asked between
    (at_file told linkage modules files i file asked between within is h) a
    (same_end told again modules file name e f a g)

-- if the load of the next file failed, a load of the link failed
pub fails_next : (linkage : LinkMap) (modules : List Object) (files : List Word) (i : ℕ) (file name : Word)
    (shelf between shelf' : ShelfLog) → name ≡ file
    → i < length files → file ≡ get_or files i file
    → HasAdded shelf.files linkage modules (drop i files) shelf.asked between.asked → between.failures ≡ shelf.failures
    → LoadFails name between shelf' → FailsInTurn linkage shelf shelf'
fails_next linkage modules files i file name shelf between shelf' f within is h e g =
    fails_in_turn linkage modules file (drop (i + 1) files) shelf between shelf'
    (at_file shelf.files linkage modules files i file shelf.asked between.asked within is h)
    (subst (λ b. Rose b shelf'.failures) e g.0, g.1 ∙ ap Some f)

-- if the link ended at the next file, or the call ended early, the loads of the link end with that file
pub makes_next : (told again : Option Files) (linkage : LinkMap) (modules : List Object) (files : List Word) (i : ℕ)
    (file name : Word) (asked between asked' : Option LoadList) (early : Bool) → again ≡ told → name ≡ file
    → i < length files → file ≡ get_or files i file → HasAdded told linkage modules (drop i files) asked between →
    ((a : Answer) × EndsWithFile again modules name a) ⊎ IsTrue early
    → HasMade (object_load name ∷ []) between asked' → MakesInTurn told linkage early asked asked'
makes_next told again linkage modules files i file name asked between asked' early e f within is h g made =
    makes_to_end told linkage modules file (drop (i + 1) files) asked between asked' early
    (at_file told linkage modules files i file asked between within is h)
    (known_less ((a : Answer) × EndsWithFile again modules name a) ((a : Answer) × EndsWithFile told modules file a)
    (IsTrue early) (λ x. (x.0, same_end told again modules file name e f x.0 x.1)) g)
    (subst (λ n. HasMade (object_load n ∷ []) between asked') f made)

-- if all modules were added, the loads made so far are all loads of the link
pub makes_all : (told : Option Files) (linkage : LinkMap) (modules : List Object) (asked asked' : Option LoadList)
    (early : Bool) → HasAdded told linkage modules [] asked asked' → MakesInTurn told linkage early asked asked'
makes_all told linkage modules asked asked' early h = (
  h.loads,
  (
    subst (λ ls. LoadsInTurn told (IsTrue early) [] linkage.files ls) (append-nil h.loads)
        (h.in_turn early [] refl),
    h.made,
  ),
)
