-- Joins, and the addresses that they change.
use Rattle.std.proofs.Common.{◌≡◌, ℕ, zero, suc, ◌+◌, ◌<◌, ◌≤◌, true, false, cond, List, [], ◌∷◌, ◌++◌, length, map}
use Rattle.std.proofs.Common.{take, drop, slice_get, Option, Some, None, refl, sym, ap, ◌∙◌, subst, arith}
use Rattle.std.specs.Prelude.{All, filter_map, find}
use Rattle.std.specs.List.{cons_option}
use Rattle.std.proofs.lemmas.List.{append-nil, map-append, drop_all, take_all}
use Rattle.std.proofs.lemmas.List.Elements.{filter_map-append}
use Rattle.std.proofs.lemmas.Option.{slice_get_within}
use Rattle.ft_isa.specs.Words.{code_address}
use Rattle.ft_isa.proofs.Lists.{drop_next, take_there, all_there}
use Rattle.ft_types.specs.declared.object.Object.{Object}
use Rattle.ft_types.specs.declared.object.Block.{Block}
use Rattle.ft_types.specs.Spellable.{HasCodeType, IsSpellable}
use Rattle.ft_types.proofs.BlockStarts.{below_end}
use Rattle.ft_link_map.specs.declared.link_map.Ask.{Ask}
use Rattle.ft_link_map.specs.declared.link_map.LinkMap.{LinkMap}
use Rattle.ft_tolerance.proofs.Lists.{found_there}
use Rattle.ft_modules.specs.declared.before.Before.{Before}
use Rattle.ft_modules.specs.Linkable.{HasBlock}
use Rattle.ft_modules.specs.Linked.{before_module, change_of, laid, nothing_before}
use Rattle.ft_modules.specs.Links.{Link, export_of, link_by, links}
use Rattle.ft_linker.specs.Tables.{CanBeLaid, Fits, start_part}
use Rattle.ft_linker.proofs.Stacking.{module_fits, start_of_module}
use Rattle.ft_linker.specs.declared.joins.Join.{Join}
use Rattle.ft_linker.specs.Changes.{Holds}
use Rattle.ft_linker.specs.declared.changes.Changes.{Changes}
use Rattle.ft_linker.specs.Joins.{HasBoth, address_in, code_type_in, is_from, link_as}
use Rattle.ft_modules.proofs.Landings.{start_there, type_there}

-- JOINS

-- `Some` is injective on links
some_link : (a b : Link) → Some a ≡ Some b → a ≡ b
some_link a b e = cc

module _ (linkage : LinkMap) where
  -- an import as a link to the export of its name
  abbrev pub link_of : Ask → Option Link
  link_of i = link_by i (export_of linkage.exports i.name)

  filter_next : (n : ℕ) (i : Ask) → slice_get linkage.imports n ≡ Some i →
      filter_map link_of (take (n + 1) linkage.imports) ≡ filter_map link_of (take n linkage.imports)
      ++ cons_option (link_of i) []
  filter_next n i e =
      (let next : n + 1 ≡ suc n = omega arith in ap (λ k. filter_map link_of (take k linkage.imports)) next)
      ∙ ap (filter_map link_of) (take_there linkage.imports n i e)
      ∙ filter_map-append link_of (take n linkage.imports) (i ∷ [])

  pub join_next : (js ks : List Join) (n : ℕ) (i : Ask) → slice_get linkage.imports n ≡ Some i → map link_as js
      ≡ filter_map link_of (take n linkage.imports) → map link_as ks ≡ map link_as js ++ cons_option (link_of i) [] →
      map link_as ks ≡ filter_map link_of (take (n + 1) linkage.imports)
  join_next js ks n i e h longer = longer ∙ ap (λ z. z ++ cons_option (link_of i) []) h ∙ sym (filter_next n i e)

  pub all_joined : (js : List Join) (n : ℕ) → map link_as js ≡ filter_map link_of (take n linkage.imports) →
      length linkage.imports ≤ n → map link_as js ≡ links linkage
  unfolding links
  all_joined js n h le = h ∙ ap (filter_map link_of) (take_all n linkage.imports le)

-- the joins after one more import
pub joined_none : (js : List Join) (i : Ask) (u : Option Ask) → u ≡ None → map link_as js ≡ map link_as js
    ++ cons_option (link_by i u) []
joined_none js i u e = sym (ap (λ z. map link_as js ++ cons_option (link_by i z) []) e ∙ append-nil (map link_as js))

pub joined_some : (js ks : List Join) (i a : Ask) (u : Option Ask) → u ≡ Some a → ks ≡ js
    ++ record { module_of = i.module; block = i.block; to_module = a.module; to_block = a.block } ∷ [] → map link_as ks
    ≡ map link_as js ++ cons_option (link_by i u) []
joined_some js ks i a u e longer =
    ap (map link_as) longer ∙ map-append link_as js (record {
      module_of = i.module;
      block = i.block;
      to_module = a.module;
      to_block = a.block;
    } ∷ [])
    ∙ sym (ap (λ z. map link_as js ++ cons_option (link_by i z) []) e)

-- PLACES IN THE LINKED OBJECT

module _ (modules : List Object) (starts : List Before) (can : CanBeLaid modules) (are : starts
    ≡ laid start_part nothing_before modules) where
  -- the table of starts has the totals before each module
  pub before_there : (m b : ℕ) → HasBlock modules m b → slice_get starts m
      ≡ Some (before_module nothing_before modules m)
  before_there m b h = ap (λ z. slice_get z m) are
      ∙ start_of_module nothing_before modules m (slice_get_within modules m h.object h.there)

  pub start_within : (m b : ℕ) → HasBlock modules m b → m < length starts
  start_within m b h = slice_get_within starts m _ (before_there m b h)

  pub start_is : (m b : ℕ) (k : Before) → HasBlock modules m b → slice_get starts m ≡ Some k → k
      ≡ before_module nothing_before modules m
  start_is m b k h e = let one : Some k ≡ Some (before_module nothing_before modules m) = sym e ∙ before_there m b h in
      cc

  pub block_fits : (m b : ℕ) (h : HasBlock modules m b) → Fits (before_module nothing_before modules m) h.object
  block_fits m b h = module_fits modules m h.object can.few h.there

  pub module_spelled : (m b : ℕ) (h : HasBlock modules m b) → IsSpellable h.object
  module_spelled m b h = all_there IsSpellable modules m h.object can.spelled h.there

  pub block_begins_low : (m b : ℕ) (h : HasBlock modules m b) (y : Block) → slice_get h.object.blocks b ≡ Some y →
      y.start < length h.object.instrs
  block_begins_low m b h y e = below_end (length h.object.instrs) 0 h.object.blocks b y (module_spelled m b h).blocks e

  pub block_typed_low : (m b : ℕ) (h : HasBlock modules m b) (y : Block) → slice_get h.object.blocks b ≡ Some y →
      y.code_type < length h.object.types
  block_typed_low m b h y e = all_there (HasCodeType (length h.object.types)) h.object.blocks b y
      (module_spelled m b h).block_types e

module _ (modules : List Object) (starts : List Before) (can : CanBeLaid modules) (are : starts
    ≡ laid start_part nothing_before modules) (m b : ℕ) (h : HasBlock modules m b) (k : Before) (y : Block)
    (at : slice_get starts m ≡ Some k) (there : (o : Object) → slice_get modules m ≡ Some o → slice_get o.blocks b
    ≡ Some y) where
  k_is : k ≡ before_module nothing_before modules m
  k_is = start_is modules starts can are m b k h at

  y_there : slice_get h.object.blocks b ≡ Some y
  y_there = there h.object h.there

  k_fits : Fits k h.object
  k_fits = subst (λ (z : Before). Fits z h.object) (sym k_is) (block_fits modules starts can are m b h)

  pub address_fits : k.instrs + y.start < 65536
  address_fits =
      let low = block_begins_low modules starts can are m b h y y_there in
      let fits = k_fits.instrs in
      omega (arith, low, fits)

  pub address_is : 1 + (k.instrs + y.start) ≡ address_in modules m b
  address_is = λ i. code_address ((k_is i).instrs + sym (start_there modules m b h.object y h.there y_there) i)

  pub type_fits : k.types + y.code_type < 4096
  type_fits =
      let low = block_typed_low modules starts can are m b h y y_there in
      let fits = k_fits.types in
      omega (arith, low, fits)

  pub type_is : k.types + y.code_type ≡ code_type_in modules m b
  type_is = λ i. (k_is i).types + sym (type_there modules m b h.object y h.there y_there) i

-- the number of a block in the linked object is within the limit
pub number_fits : (modules : List Object) (starts : List Before) (can : CanBeLaid modules) (are : starts
    ≡ laid start_part nothing_before modules) (m b : ℕ) (k : Before) → HasBlock modules m b → slice_get starts m
    ≡ Some k → k.blocks + b < 65536
number_fits modules starts can are m b k h e =
    let is = start_is modules starts can are m b k h e in
    let fits = (subst (λ (z : Before). Fits z h.object) (sym is) (block_fits modules starts can are m b h)).blocks in
    let below = h.below in
    omega (arith, fits, below)

-- the changes that a map holds, from join i on: one more change in front of the others, or none at the end
pub change_next : (modules : List Object) (js : List Join) (i : ℕ) (j : Join) (d : Changes) → slice_get js i ≡ Some j →
    Holds d (change_of modules (link_as j) ∷ map (change_of modules) (map link_as (drop (i + 1) js))) →
    Holds d (map (change_of modules) (map link_as (drop i js)))
change_next modules js i j d e h = subst (λ (z : List Join). Holds d (map (change_of modules) (map link_as z)))
    (sym (drop_next js i j e)) h

pub change_none : (modules : List Object) (js : List Join) (i : ℕ) (d : Changes) → length js ≤ i → Holds d [] →
    Holds d (map (change_of modules) (map link_as (drop i js)))
change_none modules js i d le h = subst (λ (z : List Join). Holds d (map (change_of modules) (map link_as z)))
    (sym (drop_all i js le)) h

-- the search for a join, one join at a time
pub join_here : (entry : ℕ) (js : List Join) (i : ℕ) (j : Join) → slice_get js i ≡ Some j → is_from entry (link_as j)
    ≡ true → find (is_from entry) (map link_as (drop i js)) ≡ Some (link_as j)
join_here entry js i j e t = ap (λ z. find (is_from entry) (map link_as z)) (drop_next js i j e)
    ∙ ap (λ b. cond b (Some (link_as j)) (find (is_from entry) (map link_as (drop (i + 1) js)))) t

pub join_later : (entry : ℕ) (js : List Join) (i : ℕ) (j : Join) → slice_get js i ≡ Some j → is_from entry (link_as j)
    ≡ false → find (is_from entry) (map link_as (drop i js)) ≡ find (is_from entry) (map link_as (drop (i + 1) js))
join_later entry js i j e t = ap (λ z. find (is_from entry) (map link_as z)) (drop_next js i j e)
    ∙ ap (λ b. cond b (Some (link_as j)) (find (is_from entry) (map link_as (drop (i + 1) js)))) t

pub join_never : (entry : ℕ) (js : List Join) (i : ℕ) → length js ≤ i → find (is_from entry) (map link_as (drop i js))
    ≡ None
join_never entry js i le = ap (λ z. find (is_from entry) (map link_as z)) (drop_all i js le)

-- a join that is found is one of the joins
pub found_join : (entry : ℕ) (js : List Join) (j : Join) → find (is_from entry) (map link_as js) ≡ Some (link_as j) →
    (n : ℕ) × (x : Join) × (slice_get js n ≡ Some x) × (link_as x ≡ link_as j)
found_join entry js j e =
    let f = found_there (is_from entry) (map link_as js) (link_as j) e in
    go js f.place f.there
  where
    go : (xs : List Join) (n : ℕ) → slice_get (map link_as xs) n ≡ Some (link_as j) → (k : ℕ) × (x : Join)
        × (slice_get xs k ≡ Some x) × (link_as x ≡ link_as j)
    go [] n h = cc
    go (x ∷ xs) zero h = (zero, x, refl, (let one : link_as x ≡ link_as j = some_link (link_as x) (link_as j) h in one))
    go (x ∷ xs) (suc n) h = let r = go xs n h in (suc r.0, r.1, r.2, r.3)

-- so its target block exists
pub to_there : (modules : List Object) (entry : ℕ) (js : List Join) (j : Join) → All (HasBoth modules) js →
    find (is_from entry) (map link_as js) ≡ Some (link_as j) → HasBlock modules j.to_module j.to_block
to_there modules entry js j h e =
    let f = found_join entry js j e in
    let both = all_there (HasBoth modules) js f.0 f.1 h f.2 in
    let at_module = ap (λ (l : Link). l.to_module) f.3 in
    let at_block = ap (λ (l : Link). l.to_block) f.3 in
    subst (λ m. HasBlock modules m j.to_block) at_module
    (subst (λ b. HasBlock modules f.1.to_module b) at_block both.to)
