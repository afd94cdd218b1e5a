-- The tests for refusals decide the properties that they are named after.
use Rattle.std.proofs.Common.{◌≡◌, ℕ, zero, suc, ◌+◌, ◌<◌, Bool, true, List, [], ◌∷◌, length}
use Rattle.std.proofs.Common.{slice_get, Option, Some, None, refl, ap, subst, arith, eqb-true, eq-eqb}
use Rattle.std.specs.Prelude.{All}
use Rattle.std.specs.List.{AllZip, list_all}
use Rattle.std.specs.Option.{option_or, option_map}
use Rattle.std.specs.FinMap as finite
use Rattle.std.proofs.lemmas.Bool.{and_parts, and_from, leb-true, le-leb}
use Rattle.ft_isa.specs.declared.basic.Base.{Base}
use Rattle.ft_isa.specs.declared.basic.Base.TheVariants.{Int, Code}
use Rattle.ft_isa.specs.declared.colour.Colour.{Colour}
use Rattle.ft_isa.specs.declared.instr.Instr.{Instr}
use Rattle.ft_isa.specs.declared.instr.Instr.TheVariants.{Halt}
use Rattle.ft_isa.proofs.Lists.{all_there, all_pass}
use Rattle.ft_static.proofs.NodeTrees.{same_integer_is, same_memory_is, integer_same, memory_same}
use Rattle.ft_types.specs.declared.object.Object.{Object}
use Rattle.ft_types.specs.declared.object.Cell.{Cell}
use Rattle.ft_types.specs.declared.object.Block.{Block}
use Rattle.ft_types.specs.declared.object.CodeType.{CodeType}
use Rattle.ft_types.specs.declared.object.RegType.{RegType}
use Rattle.ft_types.specs.Objects.{block_instrs}
use Rattle.ft_typing.specs.RowWords.{same_colour}
use Rattle.ft_typing.proofs.TypedWords.{same_basic_is, is_same_basic, same_colours}
use Rattle.ft_typing.proofs.Acceptance.{or_parts}
use Rattle.ft_tolerance.proofs.Premises.{same_colour_is}
use Rattle.ft_modules.specs.CodeWalk.{code_walk}
use Rattle.ft_modules.specs.LikeTypes.{SameRow, SamePair, LikeTypes}
use Rattle.ft_modules.specs.Linkable.{HasPlainCell, HasPlainRow, HasPlainRows, AreFew}
use Rattle.ft_modules.specs.Links.{same_name}
use Rattle.ft_modules.specs.LinkRefusals.{is_int, same_cell, same_cells, is_plain_cell, is_plain_row, has_plain_rows}
use Rattle.ft_modules.specs.LinkRefusals.{first_walk_fault, are_few, is_halt, is_stub}
use Rattle.ft_modules.specs.SameTrees.{same_row, same_rows, same_pairs, like_types}
use Rattle.ft_modules.proofs.Elements.{all_of}

-- CODE TYPES

-- equal colours pass the test
pub colour_same : (c d : Colour) → c ≡ d → same_colour c d ≡ true
colour_same c d h = subst (λ (z : Colour). same_colour c z ≡ true) h (same_colours c)

-- register rows that pass the test agree
row_is : (o x : Object) (r q : RegType) → same_row o x r q ≡ true → SameRow o x r q
row_is o x r q e =
    let a = and_parts _ _ e in
    let b = and_parts _ _ a.0 in
    let c = and_parts _ _ b.0 in
    record {
      reg = eqb-true _ _ c.0;
      colour = same_colour_is r.colour q.colour c.1;
      basic = same_basic_is r.basic q.basic b.1;
      tree = same_integer_is _ _ a.1;
    }

-- conversely, register rows that agree pass the test
is_row : (o x : Object) (r q : RegType) → SameRow o x r q → same_row o x r q ≡ true
is_row o x r q h = and_from _ _ (and_from _ _ (and_from _ _ (eq-eqb _ _ h.reg) (colour_same r.colour q.colour h.colour))
    (is_same_basic r.basic q.basic h.basic)) (integer_same _ _ h.tree)

-- lists of register rows that pass the test agree
rows_are : (o x : Object) (rs qs : List RegType) → same_rows o x rs qs ≡ true → AllZip (SameRow o x) rs qs
rows_are o x [] [] e = tt
rows_are o x [] (q ∷ qs) e = cc
rows_are o x (r ∷ rs) [] e = cc
rows_are o x (r ∷ rs) (q ∷ qs) e = let a = and_parts _ _ e in (row_is o x r q a.0, rows_are o x rs qs a.1)

-- conversely, lists of register rows that agree pass the test
are_rows : (o x : Object) (rs qs : List RegType) → AllZip (SameRow o x) rs qs → same_rows o x rs qs ≡ true
are_rows o x [] [] h = refl
are_rows o x [] (q ∷ qs) h = absurd h
are_rows o x (r ∷ rs) [] h = absurd h
are_rows o x (r ∷ rs) (q ∷ qs) h = and_from _ _ (is_row o x r q h.0) (are_rows o x rs qs h.1)

-- lists of queue rows that pass the test agree
pairs_are : (o x : Object) (rs qs : List (ℕ × ℕ)) → same_pairs o x rs qs ≡ true → AllZip (SamePair o x) rs qs
pairs_are o x [] [] e = tt
pairs_are o x [] (q ∷ qs) e = cc
pairs_are o x (r ∷ rs) [] e = cc
pairs_are o x (r ∷ rs) (q ∷ qs) e = let a = and_parts _ _ e in let b = and_parts _ _ a.0 in
    (record { address = same_integer_is _ _ b.0; value = same_integer_is _ _ b.1 }, pairs_are o x rs qs a.1)

-- conversely, lists of queue rows that agree pass the test
are_pairs : (o x : Object) (rs qs : List (ℕ × ℕ)) → AllZip (SamePair o x) rs qs → same_pairs o x rs qs ≡ true
are_pairs o x [] [] h = refl
are_pairs o x [] (q ∷ qs) h = absurd h
are_pairs o x (r ∷ rs) [] h = absurd h
are_pairs o x (r ∷ rs) (q ∷ qs) h = let a = h.0 in
    and_from _ _ (and_from _ _ (integer_same _ _ a.address) (integer_same _ _ a.value)) (are_pairs o x rs qs h.1)

-- code types that pass the test agree
pub like_is : (o : Object) (t : ℕ) (x : Object) (u : ℕ) → like_types o t x u ≡ true → LikeTypes o t x u
unfolding like_types
like_is o t x u e =
    let a = and_parts _ _ e in
    let b = and_parts _ _ a.0 in
    let c = and_parts _ _ b.0 in
    record {
      ints = eqb-true _ _ c.0;
      regs = rows_are o x _ _ c.1;
      queue = pairs_are o x _ _ b.1;
      memory = same_memory_is _ _ a.1;
    }

-- conversely, code types that agree pass the test
pub is_like : (o : Object) (t : ℕ) (x : Object) (u : ℕ) → LikeTypes o t x u → like_types o t x u ≡ true
unfolding like_types
is_like o t x u h = and_from _ _ (and_from _ _ (and_from _ _ (eq-eqb _ _ h.ints) (are_rows o x _ _ h.regs))
    (are_pairs o x _ _ h.queue)) (memory_same _ _ h.memory)

-- CELLS AND ROWS

-- names that pass the test are equal
name_is : (a b : List ℕ) → same_name a b ≡ true → a ≡ b
name_is [] [] e = refl
name_is [] (y ∷ ys) e = cc
name_is (x ∷ xs) [] e = cc
name_is (x ∷ xs) (y ∷ ys) e = let p = and_parts _ _ e in λ i. eqb-true x y p.0 i ∷ name_is xs ys p.1 i

-- a name passes the test with itself
name_itself : (a : List ℕ) → same_name a a ≡ true
name_itself [] = refl
name_itself (x ∷ xs) = and_from _ _ (eq-eqb x x refl) (name_itself xs)

-- cells that pass the test are equal
cell_is : (a b : Cell) → same_cell a b ≡ true → a ≡ b
cell_is a b e =
    let p = and_parts _ _ e in
    let q = and_parts _ _ p.0 in
    λ i. record {
      name = name_is a.name b.name q.0 i;
      basic = same_basic_is a.basic b.basic q.1 i;
      init = eqb-true a.init b.init p.1 i;
    }

-- lists of cells that pass the test are equal
pub cells_are : (xs ys : List Cell) → same_cells xs ys ≡ true → xs ≡ ys
cells_are [] [] e = refl
cells_are [] (y ∷ ys) e = cc
cells_are (x ∷ xs) [] e = cc
cells_are (x ∷ xs) (y ∷ ys) e = let p = and_parts _ _ e in λ i. cell_is x y p.0 i ∷ cells_are xs ys p.1 i

-- a list of cells passes the test with itself
cells_itself : (xs : List Cell) → same_cells xs xs ≡ true
cells_itself [] = refl
cells_itself (x ∷ xs) = and_from _ _ (and_from _ _
    (and_from _ _ (name_itself x.name) (is_same_basic x.basic x.basic refl)) (eq-eqb x.init x.init refl))
    (cells_itself xs)

-- equal lists of cells pass the test
pub are_cells : (xs ys : List Cell) → xs ≡ ys → same_cells xs ys ≡ true
are_cells xs ys h = subst (λ (z : List Cell). same_cells xs z ≡ true) h (cells_itself xs)

-- if a list passes a test, so does each element
pub each_passes : {X : Type 0} (p : X → Bool) (xs : List X) → list_all p xs ≡ true → (n : ℕ) (x : X) → slice_get xs n
    ≡ Some x → p x ≡ true
each_passes p [] e n x f = cc
each_passes p (y ∷ ys) e zero x f = let q = and_parts _ _ e in let same : y ≡ x = cc in subst (λ z. p z ≡ true) same q.0
each_passes p (y ∷ ys) e (suc n) x f = let q = and_parts _ _ e in each_passes p ys q.1 n x f

-- a base that passes the test is `int`
int_is : (b : Base) → is_int b ≡ true → b ≡ Int
int_is Int e = refl
int_is (Code t) e = cc

-- conversely, `int` passes the test
is_int_of : (b : Base) → b ≡ Int → is_int b ≡ true
is_int_of b e = ap is_int e

-- cells that pass the test are plain
pub plain_cells_are : (cs : List Cell) → list_all is_plain_cell cs ≡ true → All HasPlainCell cs
plain_cells_are cs e = all_of HasPlainCell cs (λ n c f. int_is c.basic.base (each_passes is_plain_cell cs e n c f))

-- conversely, plain cells pass the test
pub are_plain_cells : (cs : List Cell) → All HasPlainCell cs → list_all is_plain_cell cs ≡ true
are_plain_cells cs h = all_pass is_plain_cell cs (λ n c f. is_int_of c.basic.base (all_there HasPlainCell cs n c h f))

-- code types that pass the test have plain rows
pub plain_rows_are : (ts : List CodeType) → list_all has_plain_rows ts ≡ true → All HasPlainRows ts
plain_rows_are ts e = all_of HasPlainRows ts (λ n t f.
    all_of HasPlainRow t.regs (λ m r g. int_is r.basic.base
    (each_passes is_plain_row t.regs (each_passes has_plain_rows ts e n t f) m r g)))

-- conversely, code types with plain rows pass the test
pub are_plain_rows : (ts : List CodeType) → All HasPlainRows ts → list_all has_plain_rows ts ≡ true
are_plain_rows ts h = all_pass has_plain_rows ts (λ n t f.
    all_pass is_plain_row t.regs (λ m r g. is_int_of r.basic.base
    (all_there HasPlainRow t.regs m r (all_there HasPlainRows ts n t h f) g)))

-- OPTIONS

-- `option_or` of `None` and `None` is `None`
pub or_none : {X : Type 0} (a b : Option X) → a ≡ None → b ≡ None → option_or a b ≡ None
or_none None b e f = f
or_none (Some x) b e f = cc

-- if the image of an option is `None`, so is the option
pub map_parts : {X Y : Type 0} (f : X → Y) (a : Option X) → option_map f a ≡ None → a ≡ None
map_parts f None e = refl
map_parts f (Some x) e = cc

-- WALKS

-- if no fault is found, no block's walk fails
pub no_walk_fault : (o : Object) (b : ℕ) (ys : List Block) → first_walk_fault o b ys ≡ None → (n : ℕ) → n < length ys →
    code_walk o finite.empty 0 (block_instrs o (b + n)) ≡ None
no_walk_fault o b [] e n lt = absurd (omega (arith, lt))
no_walk_fault o b (y ∷ ys) e zero lt =
    let p = or_parts _ _ e in
    let here : b ≡ b + 0 = omega arith in
    subst (λ k. code_walk o finite.empty 0 (block_instrs o k) ≡ None) here (map_parts (λ i. (b, i)) _ p.0)
no_walk_fault o b (y ∷ ys) e (suc n) lt =
    let p = or_parts _ _ e in
    let here : suc b + n ≡ b + suc n = omega arith in
    subst (λ k. code_walk o finite.empty 0 (block_instrs o k)
    ≡ None) here (no_walk_fault o (suc b) ys p.1 n (omega (arith, lt)))

-- conversely, if no block's walk fails, no fault is found
pub walk_without_fault : (o : Object) (b : ℕ) (ys : List Block) →
    ((n : ℕ) → n < length ys → code_walk o finite.empty 0 (block_instrs o (b + n)) ≡ None) → first_walk_fault o b ys
    ≡ None
walk_without_fault o b [] h = refl
walk_without_fault o b (y ∷ ys) h =
    let here : b + 0 ≡ b = omega arith in
    or_none _ _ (ap (option_map (λ i. (b, i))) (subst (λ k. code_walk o finite.empty 0 (block_instrs o k)
    ≡ None) here (h 0 (omega arith))))
    (walk_without_fault o (suc b) ys (λ n lt. let there : b + suc n ≡ suc b + n = omega arith in
    subst (λ k. code_walk o finite.empty 0 (block_instrs o k) ≡ None) there (h (suc n) (omega (arith, lt)))))

-- TOTALS

-- totals that pass the test are within their limits
pub few_are : (ms : List Object) → are_few ms ≡ true → AreFew ms
unfolding are_few
few_are ms e =
    let a = and_parts _ _ e in
    let b = and_parts _ _ a.0 in
    let c = and_parts _ _ b.0 in
    let d = and_parts _ _ c.0 in
    let f = and_parts _ _ d.0 in
    let g = and_parts _ _ f.0 in
    record {
      nodes = leb-true _ _ g.0;
      types = leb-true _ _ g.1;
      reg_rows = leb-true _ _ f.1;
      queue_rows = leb-true _ _ d.1;
      blocks = leb-true _ _ c.1;
      instrs = leb-true _ _ b.1;
      substs = leb-true _ _ a.1;
    }

-- conversely, totals within their limits pass the test
pub are_few_of : (ms : List Object) → AreFew ms → are_few ms ≡ true
unfolding are_few
are_few_of ms h =
    and_from _ _ (and_from _ _ (and_from _ _ (and_from _ _
    (and_from _ _ (and_from _ _ (le-leb _ _ h.nodes) (le-leb _ _ h.types)) (le-leb _ _ h.reg_rows))
    (le-leb _ _ h.queue_rows)) (le-leb _ _ h.blocks)) (le-leb _ _ h.instrs)) (le-leb _ _ h.substs)

-- STUBS

-- an instruction that passes the test is `halt`
halt_is : (i : Instr) → is_halt i ≡ true → i ≡ Halt
halt_is Halt e = refl
halt_is i e = cc

-- a block that passes the test is a single `halt`
pub stub_is : (is : List Instr) → is_stub is ≡ true → is ≡ Halt ∷ []
stub_is [] e = cc
stub_is (i ∷ []) e = ap (λ (z : Instr). z ∷ []) (halt_is i e)
stub_is (i ∷ j ∷ js) e = cc
