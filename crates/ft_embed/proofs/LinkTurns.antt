-- Modules that are added in turn, and why they cannot be linked.
use Rattle.std.proofs.Common.{◌≡◌, ◌≢◌, ◌⊎◌, inl, inr, ℕ, ◌+◌, ◌≤◌, List, [], ◌∷◌, length, drop, Option, Some, None}
use Rattle.std.proofs.Common.{refl, sym, ap, subst, ◌∙◌, arith}
use Rattle.std.specs.Prelude.{if◌then◌else◌}
use Rattle.std.proofs.Common.{zero, suc, ◌<◌, get_or, drop-cons, add-one}
use Rattle.std.proofs.lemmas.List.{length-append}
use Rattle.ft_types.specs.declared.object.Object.{Object}
use Rattle.ft_typing.specs.Accepted.{Refusal, refusal}
use Rattle.ft_format.specs.declared.object_error.ObjectError.{ObjectError}
use Rattle.ft_format.specs.Format.{Spells}
use Rattle.ft_format.specs.Broken.{broken, object_of, version_at}
use Rattle.ft_link_map.specs.declared.link_map.LinkMap.{LinkMap}
use Rattle.ft_link_map.specs.MapLines.{MapLine, AreSaid}
use Rattle.ft_link_map.specs.MapAnswers.{Answer, Is, Line, Twice, answer_of}
use Rattle.ft_modules.specs.LinkRefusals.{LinkRefusal}
use Rattle.ft_linker.specs.Linking.{added_refusal, refusal_of}
use Rattle.ft_embed.specs.declared.refused.Refused.{Refused}
use Rattle.ft_embed.specs.declared.unlinked.Unlinked.{Unlinked}
use Rattle.ft_embed.specs.declared.unlinked.Module.{Module}
use Rattle.ft_embed.specs.Verdicts.{Tells, judged, told_error}
use Rattle.ft_embed.specs.Links.{unlinked, SaysOf, IsMap, EndsAtMap, bad_line, line_twice, bytes_of, EndsAtObject}
use Rattle.ft_embed.specs.Links.{not_accepted, not_added, no_object, no_module, EndsAtModule, ends_at_bytes, AddsObject}
use Rattle.ft_embed.specs.Links.{AddsAll, EndsInTurn, IsUnlinked, ends_at_map, ends_at_end, IsUnlinkedBy}
use Rattle.ft_embed.specs.Links.{IsUnaccepted, SaidUnlinked, IsAddedTo, HasAdded}

-- REFUSALS

-- a status that is 5 or 8 is neither 0 nor 15
pub some_status : (n : ℕ) → (n ≡ 5) ⊎ (n ≡ 8) → (n ≢ 0) × (n ≢ 15)
some_status n (inl five) = (λ z. omega (arith, five, z), λ z. omega (arith, five, z))
some_status n (inr eight) = (λ z. omega (arith, eight, z), λ z. omega (arith, eight, z))

pub unaccepted : (x : Option Refusal) (m status : ℕ) (why : Refused) → (status ≡ 5) ⊎ (status ≡ 8) →
    (status ≢ 5 → Tells status why (judged x)) → status ≢ 5 →
    IsUnaccepted x m (record { status = status; «module» = m; why = why })
unaccepted None m status why (inl five) h other = absurd (other five)
unaccepted None m status why (inr eight) h other = let zero : status ≡ 0 = (h other).status_is in
    absurd (omega (arith, eight, zero))
unaccepted (Some r) m status why s h other = let t = h other in
    λ i. record { status = t.status_is i; «module» = m; why = t.why_is i }

reason_of : (x : Option LinkRefusal) (u : Unlinked) → IsUnlinkedBy x u → (r : LinkRefusal) × (x ≡ Some r)
    × (u ≡ unlinked r)
reason_of None u h = absurd h
reason_of (Some r) u h = (r, refl, h)

-- MODULES

pub ends_unadded : (modules : List Object) (o : Object) (u : Unlinked) → refusal o ≡ None →
    IsUnlinkedBy (added_refusal modules o) u → EndsAtObject modules o u
ends_unadded modules o u accepted h = let r = reason_of (added_refusal modules o) u h in not_added accepted r.0 r.1 r.2

unaccepted_by : (x : Option Refusal) (m : ℕ) (u : Unlinked) → IsUnaccepted x m u → (r : Refusal) × (x ≡ Some r)
    × IsUnaccepted (Some r) m u
unaccepted_by None m u h = absurd h
unaccepted_by (Some r) m u h = (r, refl, h)

pub ends_unaccepted : (modules : List Object) (o : Object) (u : Unlinked) →
    IsUnaccepted (refusal o) (length modules) u → EndsAtObject modules o u
ends_unaccepted modules o u h = let r = unaccepted_by (refusal o) (length modules) u h in not_accepted r.0 r.1 r.2

module _ (given : List Module) (modules : List Object) (name bytes view : List ℕ) (found : bytes_of given name
    ≡ Some bytes) (same : view ≡ bytes) (spelled : Spells bytes (version_at bytes) (object_of view)) where
  pub module_added : (modules' : List Object) → AddsObject modules (object_of view) modules' →
      IsAddedTo given modules name modules'
  module_added modules' h = record {
    object = object_of view;
    is = record { bytes = bytes; found = found; spelled = spelled; accepted = h.accepted; unrefused = h.unrefused };
    added = h.added;
  }

  pub module_ends : (u : Unlinked) → EndsAtObject modules (object_of view) u → EndsAtModule given modules name u
  module_ends u h = ends_at_bytes bytes found (no_module
      (subst (λ v. Spells bytes (version_at bytes) (object_of v)) same spelled)
      (subst (λ v. EndsAtObject modules (object_of v) u) same h))

-- a module whose bytes spell no object ends the link, with status 7
pub bad_module : (given : List Module) (modules : List Object) (name bytes : List ℕ) (number : ℕ) (e : ObjectError)
    (why : Refused) → bytes_of given name ≡ Some bytes → broken bytes ≡ Some e → number ≡ length modules → why
    ≡ told_error e
    → EndsAtModule given modules name (record { status = 7; «module» = number; why = why })
bad_module given modules name bytes number e why found broke n w =
    ends_at_bytes bytes found (no_object e broke (λ i. record { status = 7; «module» = n i; why = w i }))

-- IN TURN

pub added_none : (given : List Module) (linkage : LinkMap) (modules : List Object) (files : List (List ℕ)) → modules
    ≡ [] → files ≡ linkage.files → HasAdded given linkage modules files
added_none given linkage modules files none same =
    subst (λ ms. HasAdded given linkage ms files) (sym none)
    (subst (HasAdded given linkage []) (sym same) (record {
      count = omega arith;
      adds = λ all h. h;
      ends = λ u h. h;
    }))

pub longer : (given : List Module) (modules modules' : List Object) (name : List ℕ) →
    IsAddedTo given modules name modules' → length modules' ≡ length modules + 1
longer given modules modules' name a = ap length a.added ∙ length-append modules (a.object ∷ [])

-- the files from number i on are the one with that number and those after it
turn : (files : List (List ℕ)) (i : ℕ) (x : List ℕ) → i < length files → x ≡ get_or files i x → drop i files
    ≡ x ∷ drop (i + 1) files
turn files i x lt is = drop-cons files i x lt ∙ ap (λ y. y ∷ drop (suc i) files) (sym is)
    ∙ ap (λ n. x ∷ drop n files) (sym (add-one i))

module _ (given : List Module) (linkage : LinkMap) (modules : List Object) (files : List (List ℕ)) (i : ℕ)
    (x name : List ℕ) (lt : i < length files) (is : x ≡ get_or files i x) (same : name
    ≡ x) (h : HasAdded given linkage modules (drop i files)) where
  here : HasAdded given linkage modules (name ∷ drop (i + 1) files)
  here = subst (λ (y : List ℕ). HasAdded given linkage modules (y ∷ drop (i + 1) files)) (sym same)
      (subst (HasAdded given linkage modules) (turn files i x lt is) h)

  pub added_step : (modules' : List Object) → IsAddedTo given modules name modules' →
      HasAdded given linkage modules' (drop (i + 1) files)
  added_step modules' a =
      let l = length-append modules (a.object ∷ []) in
      let c = here.count in
      subst (λ ms. HasAdded given linkage ms (drop (i + 1) files)) (sym a.added) (record {
        count = omega (arith, l, c);
        adds = λ all rest. here.adds all (a.object, (a.is, rest));
        ends = λ u rest. here.ends u (inr (a.object, (a.is, rest)));
      })

  pub ends_step : (u : Unlinked) → EndsAtModule given modules name u → EndsInTurn given [] linkage.files u
  ends_step u e = here.ends u (inl e)

drop_past : (i : ℕ) (files : List (List ℕ)) → length files ≤ i → drop i files ≡ []
drop_past zero [] le = refl
drop_past zero (x ∷ xs) le = absurd (omega arith)
drop_past (suc i) [] le = refl
drop_past (suc i) (x ∷ xs) le = drop_past i xs (omega arith)

module _ (given : List Module) (linkage : LinkMap) (modules : List Object) (files : List (List ℕ)) (i : ℕ)
    (past : length files ≤ i) (h : HasAdded given linkage modules (drop i files)) where
  at_end : HasAdded given linkage modules []
  at_end = subst (HasAdded given linkage modules) (drop_past i files past) h

  pub added_all : AddsAll given [] linkage.files modules
  added_all = at_end.adds modules refl

  pub added_long : length modules ≡ length linkage.files
  added_long = let c = at_end.count in omega (arith, c)

-- WHOLE LINKS

pub is_map : (text : List ℕ) (linkage : LinkMap) → length text ≤ 65536 → (said : List MapLine) → AreSaid text said →
    answer_of said ≡ Is linkage → IsMap text linkage
is_map text linkage short said are is = record { short = short; lines = said; are_said = are; is = is }

said_ends : (text : List ℕ) (said : Answer) (u : Unlinked) → SaysOf text said → SaidUnlinked said u → EndsAtMap text u
said_ends text (Is linkage) u s h = absurd h
said_ends text (Line line) u s h = bad_line line s h
said_ends text (Twice line) u s h = line_twice line s h

pub map_ends : (given : List Module) (text : List ℕ) (said : List MapLine) (u : Unlinked) → length text ≤ 65536 →
    AreSaid text said → SaidUnlinked (answer_of said) u → IsUnlinked given text u
map_ends given text said u short are h = ends_at_map
    (said_ends text (answer_of said) u (record { short = short; lines = said; are_said = are; is = refl }) h)

pub all_unlinked : (given : List Module) (text : List ℕ) (u : Unlinked) (linkage : LinkMap) (modules : List Object) →
    IsMap text linkage → AddsAll given [] linkage.files modules → IsUnlinkedBy (refusal_of linkage modules) u →
    IsUnlinked given text u
all_unlinked given text u linkage modules is added h = let r = reason_of (refusal_of linkage modules) u h in
    ends_at_end linkage is modules added r.0 r.1 r.2
