-- No refusal applies to modules and a map exactly when the modules are linkable.
use Rattle.std.proofs.Common.{◌≡◌, ℕ, zero, suc, ◌+◌, ◌<◌, Bool, true, false, cond, not, nat_lt, List, [], ◌∷◌, ◌++◌}
use Rattle.std.proofs.Common.{length, slice_get, Option, Some, None, refl, sym, ap, ◌∙◌, subst, arith}
use Rattle.std.specs.Prelude.{All, find, filter_map, ◌↔◌}
use Rattle.std.specs.Option.{option_map, unwrap_or}
use Rattle.std.specs.List.{cons_option}
use Rattle.std.specs.FinMap as finite
use Rattle.std.proofs.lemmas.Bool.{and_parts, and_from, ltb-true, lt-ltb, not-false}
use Rattle.std.proofs.lemmas.List.{append_assoc}
use Rattle.std.proofs.lemmas.List.Sums.{sum_by-append}
use Rattle.ft_isa.proofs.Lists.{all_there, none_pass}
use Rattle.ft_types.specs.declared.object.Object.{Object}
use Rattle.ft_types.specs.declared.object.Cell.{Cell}
use Rattle.ft_typing.specs.Accepted.{IsAccepted}
use Rattle.ft_types.specs.Objects.{block_instrs}
use Rattle.ft_types.specs.Spellable.{reg_row_count, queue_row_count, IsSpellable}
use Rattle.ft_typing.proofs.Acceptance.{or_parts}
use Rattle.ft_tolerance.proofs.Lists.{found_there}
use Rattle.ft_link_map.specs.declared.link_map.Ask.{Ask}
use Rattle.ft_link_map.specs.declared.link_map.LinkMap.{LinkMap}
use Rattle.ft_modules.specs.CodeWalk.{code_walk}
use Rattle.ft_modules.specs.Linkable.{HasPlainCell, HasPlainRows, IsModule, AreFew, HasBlock, IsJoined, IsExported}
use Rattle.ft_modules.specs.Linkable.{AreLinkable}
use Rattle.ft_modules.specs.Links.{Link, same_name, export_of, link_by, links, type_in}
use Rattle.ft_modules.specs.LinkRefusals.{LinkRefusal, NoBlock, CodeOf, are_few, unless, module_refusal}
use Rattle.ft_modules.specs.LinkRefusals.{modules_refusal, has_block, line_of, first_without, lower_line, is_stub}
use Rattle.ft_modules.specs.LinkRefusals.{instrs_in, like_in, for_export, import_refusal, imports_refusal, link_refusal}
use Rattle.ft_modules.specs.SameTrees.{like_types}
use Rattle.ft_modules.proofs.Elements.{all_of}
use Rattle.ft_modules.proofs.Deciding.{like_is, is_like, cells_are, are_cells, plain_cells_are, are_plain_cells}
use Rattle.ft_modules.proofs.Deciding.{plain_rows_are, are_plain_rows, or_none, map_parts, no_walk_fault}
use Rattle.ft_modules.proofs.Deciding.{walk_without_fault, few_are, are_few_of, stub_is}

-- TESTS

-- without a refusal, the test passed
pub unless_true : (b : Bool) (r : LinkRefusal) → unless b r ≡ None → b ≡ true
unless_true true r e = refl
unless_true false r e = cc

-- if the test passes, there is no refusal
true_unless : (b : Bool) (r : LinkRefusal) → b ≡ true → unless b r ≡ None
true_unless b r e = ap (λ z. unless z r) e

-- if a search finds nothing, each element fails the test: by cases on the first one, given this for the rest
pub none_first : {X : Type 0} (b : Bool) (p : X → Bool) (y : X) (ys : List X) (n : ℕ) (x : X) → p y ≡ b →
    cond b (Some y) (find p ys) ≡ None → slice_get (y ∷ ys) n ≡ Some x →
    (find p ys ≡ None → (m : ℕ) (z : X) → slice_get ys m ≡ Some z → p z ≡ false) → p x ≡ false
none_first true p y ys n x g e f h = cc
none_first false p y ys zero x g e f h = let same : y ≡ x = cc in subst (λ z. p z ≡ false) same g
none_first false p y ys (suc n) x g e f h = h e n x f

-- if a search finds nothing, each element fails the test
pub none_found : {X : Type 0} (p : X → Bool) (xs : List X) → find p xs ≡ None → (n : ℕ) (x : X) → slice_get xs n
    ≡ Some x → p x ≡ false
none_found p [] e n x f = cc
none_found p (y ∷ ys) e n x f = none_first (p y) p y ys n x refl e f (none_found p ys)

-- MODULES

-- what a module needs for refusals 3, 4 and 5 not to apply
record Passes (cells : List Cell) (o : Object) : Type 0 where
  pub same : o.cells ≡ cells
  pub plain_cells : All HasPlainCell o.cells
  pub plain_rows : All HasPlainRows o.types
  pub walked : (b : ℕ) → b < length o.blocks → code_walk o finite.empty 0 (block_instrs o b) ≡ None

-- a module that is not refused has what it needs, and the totals are within their limits
module_passes : (earlier : List Object) (m : ℕ) (cells : List Cell) (o : Object) → module_refusal earlier m cells o
    ≡ None → Passes cells o × (are_few (earlier ++ o ∷ []) ≡ true)
module_passes earlier m cells o e =
    let a = or_parts _ _ e in
    let b = or_parts _ _ a.1 in
    let c = or_parts _ _ b.1 in
    let t = and_parts _ _ (unless_true _ _ a.0) in (
      record {
        same = cells_are o.cells cells t.0;
        plain_cells = plain_cells_are o.cells t.1;
        plain_rows = plain_rows_are o.types (unless_true _ _ b.0);
        walked = λ n lt. let here : 0 + n ≡ n = omega arith in
            subst (λ k. code_walk o finite.empty 0 (block_instrs o k)
            ≡ None) here (no_walk_fault o 0 o.blocks (map_parts (λ f. CodeOf m f.0 f.1) _ c.0) n lt);
      },
      unless_true _ _ c.1,
    )

-- conversely, such a module is not refused
passes_module : (earlier : List Object) (m : ℕ) (cells : List Cell) (o : Object) → Passes cells o →
    are_few (earlier ++ o ∷ []) ≡ true → module_refusal earlier m cells o ≡ None
passes_module earlier m cells o p few =
    or_none _ _ (true_unless _ _ (and_from _ _ (are_cells o.cells cells p.same)
    (are_plain_cells o.cells p.plain_cells)))
    (or_none _ _ (true_unless _ _ (are_plain_rows o.types p.plain_rows))
    (or_none _ _ (ap (option_map (λ f. CodeOf m f.0 f.1)) (walk_without_fault o 0 o.blocks (λ n lt. let here : n
    ≡ 0 + n = omega arith in subst (λ k. code_walk o finite.empty 0 (block_instrs o k) ≡ None) here (p.walked n lt))))
    (true_unless _ _ few)))

-- if no module is refused, each has what it needs
modules_pass : (earlier : List Object) (m : ℕ) (cells : List Cell) (os : List Object) →
    modules_refusal earlier m cells os ≡ None → (n : ℕ) (o : Object) → slice_get os n ≡ Some o → Passes cells o
unfolding modules_refusal
modules_pass earlier m cells [] e n o f = cc
modules_pass earlier m cells (y ∷ ys) e zero o f =
    let a = or_parts _ _ e in
    let same : y ≡ o = cc in
    subst (Passes cells) same (module_passes earlier m cells y a.0).0
modules_pass earlier m cells (y ∷ ys) e (suc n) o f = let a = or_parts _ _ e in
    modules_pass (earlier ++ y ∷ []) (suc m) cells ys a.1 n o f

-- likewise, the totals of all modules are within their limits
modules_few : (earlier : List Object) (m : ℕ) (cells : List Cell) (o : Object) (os : List Object) →
    modules_refusal earlier m cells (o ∷ os) ≡ None → AreFew (earlier ++ o ∷ os)
unfolding modules_refusal
modules_few earlier m cells o [] e = let a = or_parts _ _ e in
    few_are (earlier ++ o ∷ []) (module_passes earlier m cells o a.0).1
modules_few earlier m cells o (y ∷ ys) e = let a = or_parts _ _ e in
    subst AreFew (append_assoc earlier (o ∷ []) (y ∷ ys)) (modules_few (earlier ++ o ∷ []) (suc m) cells y ys a.1)

-- the totals of the first modules are within the limits if those of all are
front_few : (xs ys : List Object) → AreFew (xs ++ ys) → AreFew xs
front_few xs ys h = record {
  nodes = (let s = sum_by-append (λ (o : Object). length o.nodes) xs ys in let f = h.nodes in omega (arith, s, f));
  types = (let s = sum_by-append (λ (o : Object). length o.types) xs ys in let f = h.types in omega (arith, s, f));
  reg_rows = (let s = sum_by-append (λ (o : Object). reg_row_count o.types) xs ys in let f = h.reg_rows in
      omega (arith, s, f));
  queue_rows = (let s = sum_by-append (λ (o : Object). queue_row_count o.types) xs ys in let f = h.queue_rows in
      omega (arith, s, f));
  blocks = (let s = sum_by-append (λ (o : Object). length o.blocks) xs ys in let f = h.blocks in omega (arith, s, f));
  instrs = (let s = sum_by-append (λ (o : Object). length o.instrs) xs ys in let f = h.instrs in omega (arith, s, f));
  substs = (let s = sum_by-append (λ (o : Object). length o.substs) xs ys in let f = h.substs in omega (arith, s, f));
}

-- conversely, modules that have what they need, with totals within the limits, are not refused
pass_modules : (earlier : List Object) (m : ℕ) (cells : List Cell) (os : List Object) →
    ((n : ℕ) (o : Object) → slice_get os n ≡ Some o → Passes cells o) → AreFew (earlier ++ os) →
    modules_refusal earlier m cells os ≡ None
unfolding modules_refusal
pass_modules earlier m cells [] h few = refl
pass_modules earlier m cells (o ∷ os) h few =
    let all : AreFew ((earlier ++ o ∷ []) ++ os) = subst AreFew (sym (append_assoc earlier (o ∷ []) os)) few in
    or_none _ _ (passes_module earlier m cells o (h 0 o refl)
    (are_few_of (earlier ++ o ∷ []) (front_few (earlier ++ o ∷ []) os all)))
    (pass_modules (earlier ++ o ∷ []) (suc m) cells os (λ n z e. h (suc n) z e) all)

-- LINES

-- a block that the test finds exists: by cases on its module
pub has_block_by : (modules : List Object) (m b : ℕ) (u : Option Object) → slice_get modules m ≡ u →
    nat_lt b (unwrap_or (option_map (λ (o : Object). length o.blocks) u) 0) ≡ true → HasBlock modules m b
has_block_by modules m b None e t = absurd (omega (arith, ltb-true b 0 t))
has_block_by modules m b (Some o) e t = record { object = o; there = e; below = ltb-true b (length o.blocks) t }

-- a block that the test finds exists
has_block_is : (modules : List Object) (m b : ℕ) → has_block modules m b ≡ true → HasBlock modules m b
has_block_is modules m b t = has_block_by modules m b (slice_get modules m) refl t

-- conversely, the test finds a block that exists
is_has_block : (modules : List Object) (m b : ℕ) → HasBlock modules m b → has_block modules m b ≡ true
is_has_block modules m b h = ap (λ (u : Option Object).
    nat_lt b (unwrap_or (option_map (λ (o : Object). length o.blocks) u) 0)) h.there
    ∙ lt-ltb b (length h.object.blocks) h.below

-- if the lower of two lines is `None`, both are
pub no_line : (a b : Option ℕ) → lower_line a b ≡ None → (a ≡ None) × (b ≡ None)
no_line None b e = (refl, e)
no_line (Some x) None e = cc
no_line (Some x) (Some y) e = cc

-- if no line without its block is found, each line's block exists
all_have : (modules : List Object) (asks : List Ask) → first_without modules asks ≡ None → (n : ℕ) (a : Ask) →
    slice_get asks n ≡ Some a → HasBlock modules a.module a.block
all_have modules asks e n a f = has_block_is modules a.module a.block
    (not-false _ (none_found (λ (z : Ask). not (has_block modules z.module z.block)) asks (map_parts line_of _ e) n a
    f))

-- conversely, if each line's block exists, no line is found
have_all : (modules : List Object) (asks : List Ask) →
    ((n : ℕ) (a : Ask) → slice_get asks n ≡ Some a → HasBlock modules a.module a.block) → first_without modules asks
    ≡ None
have_all modules asks h = ap (option_map line_of) (none_pass (λ (z : Ask). not (has_block modules z.module z.block))
    asks (λ n a f. ap not (is_has_block modules a.module a.block (h n a f))))

-- if there is no refusal of the imports, no import is refused
each_import : (modules : List Object) (exports imports : List Ask) → imports_refusal modules exports imports ≡ None →
    (n : ℕ) (i : Ask) → slice_get imports n ≡ Some i → import_refusal modules exports i ≡ None
unfolding imports_refusal
each_import modules exports [] e n i f = cc
each_import modules exports (y ∷ ys) e zero i f = let a = or_parts _ _ e in let same : y ≡ i = cc in
    subst (λ (z : Ask). import_refusal modules exports z ≡ None) same a.0
each_import modules exports (y ∷ ys) e (suc n) i f = let a = or_parts _ _ e in each_import modules exports ys a.1 n i f

-- conversely, if no import is refused, there is no refusal of the imports
import_each : (modules : List Object) (exports imports : List Ask) →
    ((n : ℕ) (i : Ask) → slice_get imports n ≡ Some i → import_refusal modules exports i ≡ None) →
    imports_refusal modules exports imports ≡ None
unfolding imports_refusal
import_each modules exports [] h = refl
import_each modules exports (i ∷ is) h = or_none _ _ (h 0 i refl) (import_each modules exports is (λ n z e.
    h (suc n) z e))

-- the export of an import's name, where the code types of the two blocks agree
record Exported (modules : List Object) (exports : List Ask) (i : Ask) : Type 0 where
  pub ask : Ask
  pub found : export_of exports i.name ≡ Some ask
  pub like : like_in (slice_get modules i.module) (type_in modules i.module i.block) (slice_get modules ask.module)
      (type_in modules ask.module ask.block) ≡ true

-- it exists if the import is not refused: by cases on the result of the search for the export
exported_by : (modules : List Object) (exports : List Ask) (i : Ask) (u : Option Ask) → export_of exports i.name ≡ u →
    for_export modules i u ≡ None → Exported modules exports i
exported_by modules exports i None g e = cc
exported_by modules exports i (Some a) g e = record { ask = a; found = g; like = unless_true _ _ e }

-- an element of a filtered list is the image of an element: by cases on the image of the first, given this for the rest
filter_first : {X Y : Type 0} (f : X → Option Y) (x : X) (xs : List X) (n : ℕ) (y : Y) (u : Option Y) → f x ≡ u →
    slice_get (cons_option u (filter_map f xs)) n ≡ Some y →
    ((m : ℕ) (z : Y) → slice_get (filter_map f xs) m ≡ Some z → (k : ℕ) × (w : X) × (slice_get xs k ≡ Some w)
    × (f w ≡ Some z)) → (k : ℕ) × (w : X) × (slice_get (x ∷ xs) k ≡ Some w) × (f w ≡ Some y)
filter_first f x xs n y None g e h = let r = h n y e in (suc r.0, r.1, r.2, r.3)
filter_first f x xs zero y (Some z) g e h = (0, x, refl, g ∙ e)
filter_first f x xs (suc n) y (Some z) g e h = let r = h n y e in (suc r.0, r.1, r.2, r.3)

-- an element of a list is still in it when an optional element is put in front
filter_later : {Y : Type 0} (u : Option Y) (ys : List Y) (y : Y) → (n : ℕ) × (slice_get ys n ≡ Some y) → (n : ℕ)
    × (slice_get (cons_option u ys) n ≡ Some y)
filter_later None ys y h = h
filter_later (Some z) ys y h = (suc h.0, h.1)

-- an element of a filtered list is the image of an element
from_filter : {X Y : Type 0} (f : X → Option Y) (xs : List X) (n : ℕ) (y : Y) → slice_get (filter_map f xs) n ≡ Some y →
    (k : ℕ) × (x : X) × (slice_get xs k ≡ Some x) × (f x ≡ Some y)
from_filter f [] n y e = cc
from_filter f (x ∷ xs) n y e = filter_first f x xs n y (f x) refl e (from_filter f xs)

-- the image of an element is in the filtered list
to_filter : {X Y : Type 0} (f : X → Option Y) (xs : List X) (k : ℕ) (x : X) (y : Y) → slice_get xs k ≡ Some x → f x
    ≡ Some y → (n : ℕ) × (slice_get (filter_map f xs) n ≡ Some y)
to_filter f [] k x y e g = cc
to_filter f (z ∷ zs) zero x y e g = let same : z ≡ x = cc in
    (0, ap (λ (u : Option _). slice_get (cons_option u (filter_map f zs)) 0) (ap f same ∙ g))
to_filter f (z ∷ zs) (suc k) x y e g = filter_later (f z) (filter_map f zs) y (to_filter f zs k x y e g)

-- `like_in` compares the code types in the two modules' objects
like_there : (modules : List Object) (m n t u : ℕ) (o x : Object) → slice_get modules m ≡ Some o → slice_get modules n
    ≡ Some x → like_in (slice_get modules m) t (slice_get modules n) u ≡ like_types o t x u
like_there modules m n t u o x e f = λ i. like_in (e i) t (f i) u

-- the test for a stub looks at the module's object
stub_there : (modules : List Object) (m b : ℕ) (o : Object) → slice_get modules m ≡ Some o →
    is_stub (instrs_in modules m b) ≡ is_stub (block_instrs o b)
stub_there modules m b o e = ap (λ (u : Option Object).
    is_stub (unwrap_or (option_map (λ (z : Object). block_instrs z b) u) [])) e

-- ALL REFUSALS

-- if two links are equal and one is joined, so is the other
joined_as : {modules : List Object} (k l : Link) → Some k ≡ Some l → IsJoined modules k → IsJoined modules l
joined_as {modules} k l e h = let same : k ≡ l = cc in subst (IsJoined modules) same h

-- the link of an import that is not refused is joined
link_joined : (modules : List Object) (exports : List Ask) (i : Ask) (l : Link) (x : Exported modules exports i) →
    HasBlock modules i.module i.block → HasBlock modules x.ask.module x.ask.block →
    is_stub (instrs_in modules i.module i.block) ≡ true → link_by i (export_of exports i.name) ≡ Some l →
    IsJoined modules l
link_joined modules exports i l x from to stub e =
    joined_as (record { module_of = i.module; block = i.block; to_module = x.ask.module; to_block = x.ask.block }) l
    (ap (link_by i) (sym x.found) ∙ e) (record {
      from = from;
      to = to;
      stub = stub_is (block_instrs from.object i.block)
          (sym (stub_there modules i.module i.block from.object from.there) ∙ stub);
      types = like_is from.object _ to.object _ (sym (like_there modules i.module x.ask.module _ _ from.object to.object
          from.there to.there) ∙ x.like);
    })

-- there is an export of the import's name, and the link between them is joined
record Joined (modules : List Object) (exports : List Ask) (i : Ask) : Type 0 where
  pub ask : Ask
  pub found : export_of exports i.name ≡ Some ask
  pub joined : IsJoined modules (record {
    module_of = i.module;
    block = i.block;
    to_module = ask.module;
    to_block = ask.block;
  })

module _ (linkage : LinkMap) (first : Object) (others : List Object) where
  -- all modules
  abbrev modules : List Object
  modules = first ∷ others

  -- the export found for a name is one of the exports
  export_there : (name : List ℕ) (a : Ask) → export_of linkage.exports name ≡ Some a → (n : ℕ)
      × (slice_get linkage.exports n ≡ Some a)
  export_there name a e = let f = found_there (λ (z : Ask). same_name z.name name) linkage.exports a e in
      (f.place, f.there)

  -- if nothing is refused, the modules can be linked
  pub linkable : ((m : ℕ) (o : Object) → slice_get modules m ≡ Some o → IsSpellable o × IsAccepted o) →
      link_refusal linkage first others ≡ None → AreLinkable linkage first others
  unfolding links
  linkable checked e =
      let a = or_parts _ _ e in
      let b = or_parts _ _ a.1 in
      let lines = no_line _ _ (map_parts NoBlock _ b.0) in
      let exports = all_have modules linkage.exports lines.0 in
      let imports = all_have modules linkage.imports lines.1 in
      let each = each_import modules linkage.exports linkage.imports b.1 in
      record {
        modules = all_of (IsModule first.cells) modules (λ n o f.
            let p = modules_pass [] 0 first.cells modules a.0 n o f in
            let c = checked n o f in
            record {
              spelled = c.0;
              accepted = c.1;
              same_cells = p.same;
              plain_cells = p.plain_cells;
              plain_rows = p.plain_rows;
              walked = p.walked;
            });
        few = modules_few [] 0 first.cells first others a.0;
        exports = all_of (λ (z : Ask). HasBlock modules z.module z.block) linkage.exports exports;
        exported = all_of (IsExported linkage.exports) linkage.imports (λ n i f. let q = or_parts _ _ (each n i f) in
            let x = exported_by modules linkage.exports i _ refl q.1 in (x.ask, x.found));
        joined = all_of (IsJoined modules) (links linkage) (λ n l f.
            let w = from_filter (λ (i : Ask). link_by i (export_of linkage.exports i.name)) linkage.imports n l f in
            let q = or_parts _ _ (each w.0 w.1 w.2) in
            let x = exported_by modules linkage.exports w.1 _ refl q.1 in
            let at = export_there w.1.name x.ask x.found in
            link_joined modules linkage.exports w.1 l x (imports w.0 w.1 w.2) (exports at.0 x.ask at.1)
            (unless_true _ _ q.0) w.3);
      }

  -- if modules can be linked, nothing is refused
  pub unrefused : AreLinkable linkage first others → link_refusal linkage first others ≡ None
  unfolding links
  unrefused h =
      let join : (k : ℕ) (i : Ask) → slice_get linkage.imports k ≡ Some i → Joined modules linkage.exports i = λ k i f.
      let e = all_there (IsExported linkage.exports) linkage.imports k i h.exported f in
      let at = to_filter (λ (z : Ask). link_by z (export_of linkage.exports z.name)) linkage.imports k i
      (record { module_of = i.module; block = i.block; to_module = e.0.module; to_block = e.0.block }) f
      (ap (link_by i) e.1) in
      record { ask = e.0; found = e.1; joined = all_there (IsJoined modules) (links linkage) at.0 _ h.joined at.1 } in
      or_none _ _ (pass_modules [] 0 first.cells modules (λ n o f.
      let m = all_there (IsModule first.cells) modules n o h.modules f in
      record { same = m.same_cells; plain_cells = m.plain_cells; plain_rows = m.plain_rows; walked = m.walked })
      h.few)
      (or_none _ _
      (ap (option_map NoBlock) ((λ i. lower_line (have_all modules linkage.exports (λ n a f.
      all_there (λ (z : Ask). HasBlock modules z.module z.block) linkage.exports n a h.exports f) i)
      (have_all modules linkage.imports (λ n a f. (join n a f).joined.from) i))))
      (import_each modules linkage.exports linkage.imports (λ n i f.
      let j = join n i f in
      let from = j.joined.from in
      let to = j.joined.to in
      or_none _ _ (true_unless _ _ (stub_there modules i.module i.block from.object from.there
      ∙ ap is_stub j.joined.stub))
      (ap (for_export modules i) j.found ∙ true_unless _ _
      (like_there modules i.module j.ask.module _ _ from.object to.object from.there to.there
      ∙ is_like from.object _ to.object _ j.joined.types)))))

-- modules that are spellable and accepted are linkable exactly when no refusal applies
pub linkable_exactly : (linkage : LinkMap) (first : Object) (others : List Object) →
    ((m : ℕ) (o : Object) → slice_get (first ∷ others) m ≡ Some o → IsSpellable o × IsAccepted o) →
    AreLinkable linkage first others ↔ link_refusal linkage first others ≡ None
linkable_exactly linkage first others checked = (unrefused linkage first others, linkable linkage first others checked)
