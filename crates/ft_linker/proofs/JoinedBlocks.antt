-- The tests of a map's lines, one line at a time.
use Rattle.std.proofs.Common.{◌≡◌, ℕ, suc, ◌+◌, ◌-◌, ◌<◌, ◌≤◌, Bool, true, false, cond, not, nat_lt, List, [], ◌∷◌}
use Rattle.std.proofs.Common.{length, drop, slice_get, Option, Some, None, refl, sym, ap, ◌∙◌, subst, arith}
use Rattle.std.specs.Prelude.{All, find}
use Rattle.std.specs.Option.{option_map, option_or, unwrap_or}
use Rattle.std.proofs.lemmas.Bool.{ltb-true, not-false}
use Rattle.std.specs.Prelude.{slice_range}
use Rattle.std.proofs.lemmas.Option.{slice_get_past}
use Rattle.std.proofs.lemmas.List.{drop_all}
use Rattle.ft_isa.specs.declared.instr.Instr.{Instr}
use Rattle.ft_isa.proofs.Lists.{there_below, drop_next, range_past, all_there}
use Rattle.ft_types.specs.declared.object.Object.{Object}
use Rattle.ft_types.specs.Objects.{block_end, block_instrs, block_start}
use Rattle.ft_link_map.specs.declared.link_map.Ask.{Ask}
use Rattle.ft_modules.specs.Linkable.{HasBlock}
use Rattle.ft_modules.specs.Links.{export_of, same_name, type_in}
use Rattle.ft_modules.specs.LinkRefusals.{LinkRefusal, first_without, for_export, has_block, import_refusal}
use Rattle.ft_modules.specs.LinkRefusals.{imports_refusal, instrs_in, is_halt, is_stub, like_in, line_of, unless}
use Rattle.ft_modules.specs.LinkRefusals.{Stub as Stubbed, Missing as Lacking, Types as Unlike}
use Rattle.ft_modules.specs.LikeTypes.{LikeTypes}
use Rattle.ft_modules.specs.SameTrees.{like_types}
use Rattle.ft_modules.proofs.Deciding.{is_like, like_is, map_parts}
use Rattle.ft_tolerance.proofs.Lists.{found_there}
use Rattle.ft_types.specs.declared.object.Block.{Block as Placed}
use Rattle.ft_modules.proofs.Landings.{type_there}
use Rattle.ft_modules.proofs.Elements.{all_of}
use Rattle.ft_linker.proofs.Walks.{range_one}
use Rattle.ft_modules.proofs.Addresses.{same_tests}
use Rattle.ft_linker.specs.LinkErrors.{IsRefusalOf}
use Rattle.ft_linker.specs.declared.link_error.LinkError.{LinkError}
use Rattle.ft_linker.specs.declared.link_error.LinkError.TheVariants.{Cells, Rows, Code, TooBig, Block, Stub, Missing}
use Rattle.ft_linker.specs.declared.link_error.LinkError.TheVariants.{Types, NoMemory}
use Rattle.ft_modules.proofs.Exact.{none_found, has_block_by}

-- FINDING

-- the search in what is left of a list, advanced by one element
found_here : {X : Type 0} (p : X → Bool) (xs : List X) (n : ℕ) (x : X) → slice_get xs n ≡ Some x → p x ≡ true →
    find p (drop n xs) ≡ Some x
found_here p xs n x e t = ap (find p) (drop_next xs n x e) ∙ ap (λ b. cond b (Some x) (find p (drop (n + 1) xs))) t

found_later : {X : Type 0} (p : X → Bool) (xs : List X) (n : ℕ) (x : X) → slice_get xs n ≡ Some x → p x ≡ false →
    find p (drop n xs) ≡ find p (drop (n + 1) xs)
found_later p xs n x e t = ap (find p) (drop_next xs n x e) ∙ ap (λ b. cond b (Some x) (find p (drop (n + 1) xs))) t

found_never : {X : Type 0} (p : X → Bool) (xs : List X) (n : ℕ) → length xs ≤ n → find p (drop n xs) ≡ None
found_never p xs n le = ap (find p) (drop_all n xs le)

-- LINES WITHOUT A BLOCK

pub without_here : (modules : List Object) (asks : List Ask) (n : ℕ) (a : Ask) → slice_get asks n ≡ Some a →
    has_block modules a.module a.block ≡ false → first_without modules (drop n asks) ≡ Some a.line
without_here modules asks n a e t = ap (option_map line_of)
    (found_here (λ (z : Ask). not (has_block modules z.module z.block)) asks n a e (ap not t))

pub without_later : (modules : List Object) (asks : List Ask) (n : ℕ) (a : Ask) → slice_get asks n ≡ Some a →
    has_block modules a.module a.block ≡ true → first_without modules (drop n asks)
    ≡ first_without modules (drop (n + 1) asks)
without_later modules asks n a e t = ap (option_map line_of)
    (found_later (λ (z : Ask). not (has_block modules z.module z.block)) asks n a e (ap not t))

pub without_none : (modules : List Object) (asks : List Ask) (n : ℕ) → length asks ≤ n →
    first_without modules (drop n asks) ≡ None
without_none modules asks n le = ap (option_map line_of)
    (found_never (λ (z : Ask). not (has_block modules z.module z.block)) asks n le)

pub have_blocks : (modules : List Object) (asks : List Ask) → first_without modules asks ≡ None →
    All (λ (a : Ask). HasBlock modules a.module a.block) asks
have_blocks modules asks e = all_of (λ (a : Ask). HasBlock modules a.module a.block) asks (λ n a f.
    has_block_by modules a.module a.block (slice_get modules a.module) refl
    (not-false _ (none_found (λ (z : Ask). not (has_block modules z.module z.block)) asks (map_parts line_of _ e) n a
    f)))

-- whether a module has a block depends only on its object
pub has_block_there : (modules : List Object) (m b : ℕ) (o : Object) → slice_get modules m ≡ Some o →
    nat_lt b (length o.blocks) ≡ has_block modules m b
has_block_there modules m b o e = sym (ap (λ (u : Option Object).
    nat_lt b (unwrap_or (option_map (λ (x : Object). length x.blocks) u) 0)) e)

none_below : (b : ℕ) (t : Bool) → nat_lt b 0 ≡ t → false ≡ nat_lt b 0
none_below b true e = absurd (omega (arith, ltb-true b 0 e))
none_below b false e = sym e

pub has_no_block : (modules : List Object) (m b : ℕ) → length modules ≤ m → false ≡ has_block modules m b
has_no_block modules m b le =
    none_below b (nat_lt b 0) refl ∙ sym (ap (λ (u : Option Object).
    nat_lt b (unwrap_or (option_map (λ (x : Object). length x.blocks) u) 0)) (slice_get_past modules m le))

-- STUBS

pub stub_many : (o : Object) (b first past : ℕ) → first ≡ block_start o b → past ≡ block_end o b → first < past →
    past ≤ length o.instrs → (past - first ≡ 1 → ⊥) → false ≡ is_stub (block_instrs o b)
stub_many o b first past e f lt le more =
    let x = there_below o.instrs first (omega (arith, lt, le)) in
    let y = there_below o.instrs (suc first) (omega (arith, lt, le, more)) in
    ap is_stub (sym (range_one o.instrs first past x.0 x.1 lt
    ∙ ap (λ z. x.0 ∷ z) (range_one o.instrs (suc first) past y.0 y.1 (omega (arith, lt, more)))))
    ∙ (λ i. is_stub (slice_range o.instrs (e i) (f i)))

pub stub_one : (o : Object) (b first past : ℕ) (x : Instr) → first ≡ block_start o b → past ≡ block_end o b →
    past - first ≡ 1 → slice_get o.instrs first ≡ Some x → is_halt x ≡ is_stub (block_instrs o b)
stub_one o b first past x e f one there =
    ap is_stub (sym (range_one o.instrs first past x there (omega (arith, one))
    ∙ ap (λ z. x ∷ z) (range_past o.instrs (suc first) past (omega (arith, one)))))
    ∙ (λ i. is_stub (slice_range o.instrs (e i) (f i)))

-- a block that exists is one of its object's blocks
pub below_there : (modules : List Object) (m b : ℕ) (o : Object) → HasBlock modules m b → slice_get modules m ≡ Some o →
    b < length o.blocks
below_there modules m b o h e =
    let one : Some h.object ≡ Some o = sym h.there ∙ e in
    let same : h.object ≡ o = cc in
    subst (λ (x : Object). b < length x.blocks) same h.below

-- the block of a name's export exists
pub export_has : (modules : List Object) (exports : List Ask) (name : List ℕ) (a : Ask) →
    All (λ (e : Ask). HasBlock modules e.module e.block) exports → export_of exports name ≡ Some a →
    HasBlock modules a.module a.block
export_has modules exports name a h e =
    let f = found_there (λ (z : Ask). same_name z.name name) exports a e in
    all_there (λ (z : Ask). HasBlock modules z.module z.block) exports f.place a h f.there

-- comparing the code types of two blocks decides whether they agree
pub like_exactly : (modules : List Object) (m n b d : ℕ) (o x : Object) (y z : Placed) (r : Bool) → slice_get modules m
    ≡ Some o → slice_get modules n ≡ Some x → slice_get o.blocks b ≡ Some y → slice_get x.blocks d ≡ Some z →
    (r ≡ true → LikeTypes o y.code_type x z.code_type) → (LikeTypes o y.code_type x z.code_type → r ≡ true) → r
    ≡ like_in (slice_get modules m) (type_in modules m b) (slice_get modules n) (type_in modules n d)
like_exactly modules m n b d o x y z r e f g k says says_so =
    same_tests r (like_types o y.code_type x z.code_type) (λ t. is_like o y.code_type x z.code_type (says t)) (λ t.
    says_so (like_is o y.code_type x z.code_type t))
    ∙ sym (λ i. like_in (e i) (type_there modules m b o y e g i) (f i) (type_there modules n d x z f k i))

-- IMPORTS

module _ (modules : List Object) (exports : List Ask) (i : Ask) (o : Object) (there : slice_get modules i.module
    ≡ Some o) where
  instrs_there : instrs_in modules i.module i.block ≡ block_instrs o i.block
  instrs_there = ap (λ (u : Option Object). unwrap_or (option_map (λ (x : Object). block_instrs x i.block) u) []) there

  by_stub : (t : Bool) → is_stub (block_instrs o i.block) ≡ t → import_refusal modules exports i
      ≡ option_or (unless t (Stubbed i.line)) (for_export modules i (export_of exports i.name))
  by_stub t e = ap (λ z. option_or (unless z (Stubbed i.line)) (for_export modules i (export_of exports i.name)))
      (ap is_stub instrs_there ∙ e)

  pub import_unstubbed : is_stub (block_instrs o i.block) ≡ false → import_refusal modules exports i
      ≡ Some (Stubbed i.line)
  import_unstubbed e = by_stub false e

  pub import_missing : is_stub (block_instrs o i.block) ≡ true → export_of exports i.name ≡ None →
      import_refusal modules exports i ≡ Some (Lacking i.line)
  import_missing e f = by_stub true e ∙ ap (for_export modules i) f

  pub import_unlike : (a : Ask) → is_stub (block_instrs o i.block) ≡ true → export_of exports i.name ≡ Some a →
      like_in (slice_get modules i.module) (type_in modules i.module i.block) (slice_get modules a.module)
      (type_in modules a.module a.block) ≡ false → import_refusal modules exports i ≡ Some (Unlike i.line)
  import_unlike a e f g = by_stub true e ∙ ap (for_export modules i) f ∙ ap (λ t. unless t (Unlike i.line)) g

  pub import_passes : (a : Ask) → is_stub (block_instrs o i.block) ≡ true → export_of exports i.name ≡ Some a →
      like_in (slice_get modules i.module) (type_in modules i.module i.block) (slice_get modules a.module)
      (type_in modules a.module a.block) ≡ true → import_refusal modules exports i ≡ None
  import_passes a e f g = by_stub true e ∙ ap (for_export modules i) f ∙ ap (λ t. unless t (Unlike i.line)) g

-- EXPORTS

pub export_here : (exports : List Ask) (name : List ℕ) (n : ℕ) (a : Ask) → slice_get exports n ≡ Some a →
    same_name a.name name ≡ true → export_of (drop n exports) name ≡ Some a
export_here exports name n a e t = found_here (λ (z : Ask). same_name z.name name) exports n a e t

pub export_later : (exports : List Ask) (name : List ℕ) (n : ℕ) (a : Ask) → slice_get exports n ≡ Some a →
    same_name a.name name ≡ false → export_of (drop n exports) name ≡ export_of (drop (n + 1) exports) name
export_later exports name n a e t = found_later (λ (z : Ask). same_name z.name name) exports n a e t

pub export_never : (exports : List Ask) (name : List ℕ) (n : ℕ) → length exports ≤ n → export_of (drop n exports) name
    ≡ None
export_never exports name n le = found_never (λ (z : Ask). same_name z.name name) exports n le

-- THE ORDER OF REFUSALS

-- an error still means its refusal if later refusals are added
pub refusal_first : (x y : Option LinkRefusal) (e : LinkError) → IsRefusalOf x e → IsRefusalOf (option_or x y) e
refusal_first x y (Cells m) h = ap (λ z. option_or z y) h
refusal_first x y (Rows m) h = ap (λ z. option_or z y) h
refusal_first x y (Code m b i) h = ap (λ z. option_or z y) h
refusal_first x y (TooBig m) h = ap (λ z. option_or z y) h
refusal_first x y (Block l) h = ap (λ z. option_or z y) h
refusal_first x y (Stub l) h = ap (λ z. option_or z y) h
refusal_first x y (Missing l) h = ap (λ z. option_or z y) h
refusal_first x y (Types l) h = ap (λ z. option_or z y) h
refusal_first x y NoMemory h = tt

-- an error still means its refusal if there are none before it
pub refusal_after : (x y : Option LinkRefusal) (e : LinkError) → x ≡ None → IsRefusalOf y e →
    IsRefusalOf (option_or x y) e
refusal_after x y e n h = subst (λ z. IsRefusalOf (option_or z y) e) (sym n) h

pub refusal_by : (x y : Option LinkRefusal) (e : LinkError) → x ≡ y → IsRefusalOf y e → IsRefusalOf x e
refusal_by x y e s h = subst (λ z. IsRefusalOf z e) (sym s) h

-- the refusals of imports, one import at a time
pub imports_next : (modules : List Object) (exports imports : List Ask) (n : ℕ) (i : Ask) → slice_get imports n
    ≡ Some i → imports_refusal modules exports (drop n imports)
    ≡ option_or (import_refusal modules exports i) (imports_refusal modules exports (drop (n + 1) imports))
unfolding imports_refusal
imports_next modules exports imports n i e = ap (imports_refusal modules exports) (drop_next imports n i e)

pub imports_later : (modules : List Object) (exports imports : List Ask) (n : ℕ) (i : Ask) → slice_get imports n
    ≡ Some i → import_refusal modules exports i ≡ None → imports_refusal modules exports (drop n imports)
    ≡ imports_refusal modules exports (drop (n + 1) imports)
imports_later modules exports imports n i e h = imports_next modules exports imports n i e
    ∙ ap (λ z. option_or z (imports_refusal modules exports (drop (n + 1) imports))) h

pub imports_none : (modules : List Object) (exports imports : List Ask) (n : ℕ) → length imports ≤ n →
    imports_refusal modules exports (drop n imports) ≡ None
unfolding imports_refusal
imports_none modules exports imports n le = ap (imports_refusal modules exports) (drop_all n imports le)
