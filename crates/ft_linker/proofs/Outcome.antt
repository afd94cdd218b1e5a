-- How linking ends: in one of the refusals, or with an object for which the promises hold.
use Rattle.std.proofs.Common.{◌≡◌, ℕ, zero, suc, ◌≤◌, List, [], ◌∷◌, length, map, slice_get, Option, Some, None, refl}
use Rattle.std.proofs.Common.{sym, ap, ◌∙◌, subst, arith}
use Rattle.std.specs.Prelude.{All}
use Rattle.std.specs.Option.{option_map, option_or}
use Rattle.ft_isa.proofs.Lists.{all_there}
use Rattle.ft_types.specs.declared.object.Object.{Object}
use Rattle.ft_types.specs.Spellable.{IsSpellable}
use Rattle.ft_typing.specs.Accepted.{IsAccepted}
use Rattle.ft_link_map.specs.declared.link_map.LinkMap.{LinkMap}
use Rattle.ft_modules.specs.Linkable.{AreLinkable, IsJoined}
use Rattle.ft_modules.specs.Linked.{linked}
use Rattle.ft_modules.specs.Links.{links}
use Rattle.ft_modules.specs.LinkRefusals.{LinkRefusal, NoBlock, first_without, imports_refusal, lower_line}
use Rattle.ft_modules.proofs.Elements.{all_of}
use Rattle.ft_modules.proofs.Exact.{linkable_exactly}
use Rattle.ft_modules.proofs.AcceptedLinked.{accepted_linked}
use Rattle.ft_modules.proofs.Linking.{linked_runs, linked_tolerant}
use Rattle.ft_modules.proofs.SpelledWhole.{spelled_linked}
use Rattle.ft_linker.specs.Joins.{HasBoth, link_as}
use Rattle.ft_linker.specs.Linking.{AreAdded, IsLinked, refusal_of}
use Rattle.ft_linker.specs.declared.joins.Join.{Join}

-- the refusals that are possible once all modules are added
abbrev pub later_refusal : LinkMap → List Object → Option LinkRefusal
later_refusal linkage ms = option_or (option_map NoBlock
    (lower_line (first_without ms linkage.exports) (first_without ms linkage.imports)))
    (imports_refusal ms linkage.exports linkage.imports)

-- modules that were added are refused only for one of these
pub refusal_is : (linkage : LinkMap) (ms : List Object) → AreAdded ms → 1 ≤ length ms → refusal_of linkage ms
    ≡ later_refusal linkage ms
refusal_is linkage [] h some = absurd (omega (arith, some))
refusal_is linkage (f ∷ fs) h some = ap (λ z. option_or z (later_refusal linkage (f ∷ fs))) h.unrefused

-- modules are linkable if nothing is refused
linkable_when : (linkage : LinkMap) (f : Object) (fs : List Object) → AreAdded (f ∷ fs) → refusal_of linkage (f ∷ fs)
    ≡ None → AreLinkable linkage f fs
linkable_when linkage f fs h e = (linkable_exactly linkage f fs (λ m o there.
    (all_there IsSpellable (f ∷ fs) m o h.spelled there, all_there IsAccepted (f ∷ fs) m o h.accepted there))).1 e

-- both blocks of a join exist
both_there : (ms : List Object) (j : Join) → IsJoined ms (link_as j) → HasBoth ms j
both_there ms j h = record { from = h.from; to = h.to }

join_at : (js : List Join) (n : ℕ) (j : Join) → slice_get js n ≡ Some j → slice_get (map link_as js) n
    ≡ Some (link_as j)
join_at [] n j e = cc
join_at (x ∷ js) zero j e = let same : x ≡ j = cc in ap (λ (z : Join). Some (link_as z)) same
join_at (x ∷ js) (suc n) j e = join_at js n j e

pub joins_there : (linkage : LinkMap) (ms : List Object) (js : List Join) → AreAdded ms → 1 ≤ length ms →
    refusal_of linkage ms ≡ None → map link_as js ≡ links linkage → All (HasBoth ms) js
joins_there linkage [] js h some e same = absurd (omega (arith, some))
joins_there linkage (f ∷ fs) js h some e same = all_of (HasBoth (f ∷ fs)) js (λ n j there.
    both_there (f ∷ fs) j (all_there (IsJoined (f ∷ fs)) (links linkage) n (link_as j)
    (linkable_when linkage f fs h e).joined (ap (λ z. slice_get z n) (sym same) ∙ join_at js n j there)))

pub is_linked : (linkage : LinkMap) (ms : List Object) (o : Object) → AreAdded ms → 1 ≤ length ms →
    refusal_of linkage ms ≡ None → ((f : Object) (fs : List Object) → ms ≡ f ∷ fs → o ≡ linked linkage f fs) →
    IsLinked linkage ms o
is_linked linkage [] o h some e is = absurd (omega (arith, some))
is_linked linkage (f ∷ fs) o h some e is =
    let k = linkable_when linkage f fs h e in
    let x = linked linkage f fs in
    subst (IsLinked linkage (f ∷ fs)) (sym (is f fs refl)) (record {
      first = f;
      others = fs;
      modules_are = refl;
      linked_is = refl;
      spellable = spelled_linked linkage f fs k;
      accepted = accepted_linked linkage f fs k;
      outputs = λ n. sym (linked_runs linkage f fs k n).outputs;
      status = λ n. sym (linked_runs linkage f fs k n).status;
      tolerates = λ strike w n. linked_tolerant linkage f fs strike w n k;
    })
