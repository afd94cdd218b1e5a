-- The cells, instructions and blocks of an emitted object, table by table.
use Rattle.std.proofs.Common.{◌≡◌, ℕ, zero, suc, ◌<◌, ◌==◌, List, [], ◌∷◌, length, Some, refl, sym, ap, ◌∙◌, arith}
use Rattle.std.proofs.Common.{slice_get, map}
use Rattle.std.specs.Prelude.{All}
use Rattle.std.specs.List.{find, zip}
use Rattle.std.specs.Option.{option_map, unwrap_or}
use Rattle.std.proofs.lemmas.List.Elements.{All-nil, All-cons, All-tail, All-head}
use Rattle.ft_isa.specs.Words.{IsWord, code_address}
use Rattle.ft_isa.specs.declared.instr.Instr.{Instr}
use Rattle.ft_isa.specs.declared.instr.Instr.TheVariants as instr
use Rattle.ft_isa.specs.declared.instr.Subst.{Subst}
use Rattle.ft_types.specs.declared.object.Object.{Object}
use Rattle.ft_types.specs.declared.object.Cell.{Cell}
use Rattle.ft_types.specs.declared.object.Block.{Block}
use Rattle.ft_types.specs.Objects.{name_of, basic_of, code_type_of}
use Rattle.ft_types.specs.Spellable.{IsCell}
use Rattle.ft_isa.specs.BasicTypes.{int}
use Rattle.ft_lower.specs.Flow.{Blocks}
use Rattle.ft_lower.specs.Size.{blocks_size}
use Rattle.ft_lower.specs.Well.{IsTarget}
use Rattle.ft_dup.specs.Doubles.{bare, init_of_cell, IsIntCell}
use Rattle.ft_dup.specs.Images.{starts, start_of}
use Rattle.ft_compile.specs.Cells.{IsCellName}
use Rattle.ft_compile.specs.Emitted.{with_subst, substs_left, placed, blocks_at, block_from, cell_from}
use Rattle.ft_compile.proofs.Counted.{HaveSome, find_block}
use Rattle.ft_compile.proofs.Beginnings.{type_of_block}
use Rattle.ft_compile.proofs.BlockTypes.{HasTypes}

-- CELLS

-- the cells have these names
pub names_of_cells : (names : List (List ℕ)) (inits : List ℕ) → length names ≡ length inits →
    map name_of (map cell_from (zip names inits)) ≡ names
names_of_cells [] inits e = refl
names_of_cells (n ∷ ns) [] e = absurd (omega (arith, e))
names_of_cells (n ∷ ns) (w ∷ ws) e = ap (λ l. n ∷ l) (names_of_cells ns ws (omega (arith, e)))

-- the cells have these initial words
pub words_of_cells : (names : List (List ℕ)) (inits : List ℕ) → length names ≡ length inits →
    map init_of_cell (map cell_from (zip names inits)) ≡ inits
words_of_cells [] [] e = refl
words_of_cells [] (w ∷ ws) e = absurd (omega (arith, e))
words_of_cells (n ∷ ns) [] e = absurd (omega (arith, e))
words_of_cells (n ∷ ns) (w ∷ ws) e = ap (λ l. w ∷ l) (words_of_cells ns ws (omega (arith, e)))

-- there are as many cells as initial words
pub many_cells : (names : List (List ℕ)) (inits : List ℕ) → length names ≡ length inits →
    length (map cell_from (zip names inits)) ≡ length inits
many_cells [] [] e = refl
many_cells [] (w ∷ ws) e = absurd (omega (arith, e))
many_cells (n ∷ ns) [] e = absurd (omega (arith, e))
many_cells (n ∷ ns) (w ∷ ws) e = ap suc (many_cells ns ws (omega (arith, e)))

-- each cell has type `int`
pub int_cells : (xs : List (List ℕ × ℕ)) → All IsIntCell (map cell_from xs)
int_cells [] = All-nil IsIntCell
int_cells (x ∷ xs) = All-cons IsIntCell (cell_from x) (map cell_from xs) refl (int_cells xs)

-- each cell obeys the rules
pub lawful_cells : (names : List (List ℕ)) (inits : List ℕ) → All IsCellName names → All IsWord inits →
    All (IsCell 2) (map cell_from (zip names inits))
lawful_cells [] inits h k = All-nil (IsCell 2)
lawful_cells (n ∷ ns) [] h k = All-nil (IsCell 2)
lawful_cells (n ∷ ns) (w ∷ ws) h k =
    let a = All-head IsCellName n ns h in
    All-cons (IsCell 2) (cell_from (n, w)) (map cell_from (zip ns ws))
    (record {
      name = a.bytes;
      name_length = a.short;
      basic = record { refs = omega arith; base = tt };
      init = All-head IsWord w ws k;
    })
    (lawful_cells ns ws (All-tail IsCellName n ns h) (All-tail IsWord w ws k))

-- the cell at any place has type `int`
pub cell_is_int : (xs : List (List ℕ × ℕ)) (k : ℕ) (c : Cell) → slice_get (map cell_from xs) k ≡ Some c → c.basic ≡ int
cell_is_int [] k c e = cc
cell_is_int (x ∷ xs) zero c e = let f : cell_from x ≡ c = cc in sym (ap basic_of f)
cell_is_int (x ∷ xs) (suc k) c e = cell_is_int xs k c e

-- each cell, by its number, has type `int`
pub cell_there : (names : List (List ℕ)) (inits : List ℕ) (k : ℕ) → length names ≡ length inits → k < length inits →
    option_map basic_of (slice_get (map cell_from (zip names inits)) k) ≡ Some int
cell_there [] [] k e lt = absurd (omega (arith, lt))
cell_there [] (w ∷ ws) k e lt = absurd (omega (arith, e))
cell_there (n ∷ ns) [] k e lt = absurd (omega (arith, e))
cell_there (n ∷ ns) (w ∷ ws) zero e lt = refl
cell_there (n ∷ ns) (w ∷ ws) (suc k) e lt = cell_there ns ws k (omega (arith, e)) (omega (arith, lt))

-- INSTRUCTIONS

-- placing a substitution changes nothing else
bare_subst : (i : Instr) (us : List Subst) → bare (with_subst i us) ≡ bare i
bare_subst (instr.JmpB rd t) [] = refl
bare_subst (instr.JmpB rd t) (u ∷ us) = refl
bare_subst (instr.BzB rz rd t) [] = refl
bare_subst (instr.BzB rz rd t) (u ∷ us) = refl
bare_subst i us = refl

-- placing all substitutions changes nothing else
pub bare_placed : (us : List Subst) (is : List Instr) → map bare (placed us is) ≡ map bare is
bare_placed us [] = refl
bare_placed us (i ∷ is) = ap (λ x. x ∷ map bare (placed (substs_left i us) is)) (bare_subst i us)
    ∙ ap (λ l. bare i ∷ l) (bare_placed (substs_left i us) is)

-- BLOCKS

-- a block has the code type that belongs to its place
pub code_type_is : (o : Object) (vars : ℕ) (T : HasTypes o vars) (ss : List ℕ) (b : ℕ) (x : Block) →
    slice_get (blocks_at ss) b ≡ Some x → x.code_type ≡ type_of_block o vars T b
code_type_is o vars T [] b x e = cc
code_type_is o vars T (s ∷ ss) zero x e = let f : Rattle.std.proofs.Common.◌≡◌ {A = Block} (record {
  start = s;
  code_type = 0;
}) x = cc in sym (ap code_type_of f)
code_type_is o vars T (s ∷ ss) (suc b) x e = others ss b x e
  where
    others : (ts : List ℕ) (k : ℕ) (y : Block) → slice_get (map block_from ts) k ≡ Some y → y.code_type ≡ 1
    others [] k y f = cc
    others (t ∷ ts) zero y f = let g : block_from t ≡ y = cc in sym (ap code_type_of g)
    others (t ∷ ts) (suc k) y f = others ts k y f

-- the first block has code type 0
pub first_type : (ss : List ℕ) → unwrap_or (option_map code_type_of (slice_get (blocks_at ss) 0)) 0 ≡ 0
first_type [] = refl
first_type (s ∷ ss) = refl

-- if there is a block, there is an instruction
pub first_there : (bs : Blocks) → HaveSome bs → 0 < length bs → 0 < blocks_size bs
first_there [] h lt = absurd (omega (arith, lt))
first_there (x ∷ xs) h lt = omega (arith, h.0)

-- the block at a target's code address has code type 1
pub target_found : (bs : Blocks) (to : ℕ) → HaveSome bs → IsTarget (length bs) to →
    option_map code_type_of (find (λ (c : Block). code_address (start_of bs to) == code_address c.start)
    (blocks_at (starts bs))) ≡ Some 1
target_found [] to h t = absurd (omega (arith, t.there))
target_found (x ∷ xs) zero h t = absurd (omega (arith, t.no_entry))
target_found (x ∷ xs) (suc b) h t = ap (option_map code_type_of) (find_block x xs b h.0 (omega (arith, t.there)))
