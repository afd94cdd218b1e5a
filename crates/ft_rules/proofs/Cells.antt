-- Cells and their heads, and the types of the cells of a run.
use Rattle.std.proofs.Common.{◌≡◌, ◌+◌, ◌<◌, ◌≤◌, ℕ, true, false, List, ◌∷◌, length, map, slice_get, slice_range}
use Rattle.std.proofs.Common.{Option, None, Some, arith, refl, ap, ◌∙◌, subst}
use Rattle.std.specs.List.{list_all}
use Rattle.std.proofs.lemmas.Bool.{le-ltb, lt-ltb}
use Rattle.std.specs.Option.{option_map}
use Rattle.ft_isa.specs.declared.basic.Basic.{Basic}
use Rattle.ft_isa.proofs.Lists.{all_there}
use Rattle.ft_types.specs.declared.object.Object.{Object}
use Rattle.ft_types.specs.declared.object.Cell.{Cell}
use Rattle.ft_types.specs.declared.object.CellHead.{CellHead}
use Rattle.ft_types.specs.Objects.{basic_of, cell_head_of}
use Rattle.ft_types.specs.Spellable.{IsBase, IsCell, IsSpellable}
use Rattle.ft_typing.specs.TypedWord.{common_type, run_type, same_basic}
use Rattle.ft_contexts.proofs.Lists.{range_there}

-- if the head of cell k was found, that cell exists and has this head
pub cell_found : (o : Object) (k : ℕ) (h : CellHead) → option_map cell_head_of (slice_get o.cells k) ≡ Some h →
    (x : Cell) × ((slice_get o.cells k ≡ Some x) × (cell_head_of x ≡ h))
cell_found o k h e = found (slice_get o.cells k) refl e
  where
    found : (y : Option Cell) → slice_get o.cells k ≡ y → option_map cell_head_of y ≡ Some h → (x : Cell)
        × ((slice_get o.cells k ≡ Some x) × (cell_head_of x ≡ h))
    found None f e = cc
    found (Some x) f e = (x, (f, (let same : cell_head_of x ≡ h = cc in same)))

-- the types of the cells from number k on are the type of cell k, then those of the cells after it
pub types_there : (o : Object) (k past : ℕ) (h : CellHead) → k < past → option_map cell_head_of (slice_get o.cells k)
    ≡ Some h → map basic_of (slice_range o.cells k past) ≡ h.basic ∷ map basic_of (slice_range o.cells (k + 1) past)
types_there o k past h l e =
    let x = cell_found o k h e in
    ap (map basic_of) (range_there o.cells k past x.0 l x.1.0)
    ∙ ap (λ (z : CellHead). z.basic ∷ map basic_of (slice_range o.cells (k + 1) past)) x.1.1

-- the base of a cell's type is one of the object's
pub base_there : (o : Object) (k : ℕ) (h : CellHead) → IsSpellable o → option_map cell_head_of (slice_get o.cells k)
    ≡ Some h → IsBase (length o.types) h.basic.base
base_there o k h s e =
    let x = cell_found o k h e in
    let c = all_there (IsCell (length o.types)) o.cells k x.0 s.cells x.1.0 in
    subst (λ (z : CellHead). IsBase (length o.types) z.basic.base) x.1.1 c.basic.base

-- the types of the other cells of a run
abbrev others_of : Object → ℕ → ℕ → List Basic
others_of o first m = map basic_of (slice_range o.cells (first + 1) (first + m))

-- a run in which some cell's type differs from the first one's has no type
pub run_differs : (o : Object) (first m : ℕ) (h : CellHead) → 1 ≤ m → option_map cell_head_of (slice_get o.cells first)
    ≡ Some h → list_all (same_basic h.basic) (others_of o first m) ≡ false → run_type o first m ≡ None
unfolding run_type common_type
run_differs o first m h l e f = rw (types_there o first (first + m) h (omega (arith, l)) e, f) refl

-- a run has no type if no `ref` can refer to the type of its cells
pub run_is_full : (o : Object) (first m : ℕ) (h : CellHead) → 1 ≤ m → option_map cell_head_of (slice_get o.cells first)
    ≡ Some h → list_all (same_basic h.basic) (others_of o first m) ≡ true → 8 ≤ h.basic.refs → run_type o first m ≡ None
unfolding run_type common_type
run_is_full o first m h l e f n = rw (
  types_there o first (first + m) h (omega (arith, l)) e,
  f,
  le-ltb h.basic.refs 8 n,
) refl

-- any other run has the type of its first cell
pub run_is_typed : (o : Object) (first m : ℕ) (h : CellHead) → 1 ≤ m → option_map cell_head_of (slice_get o.cells first)
    ≡ Some h → list_all (same_basic h.basic) (others_of o first m) ≡ true → h.basic.refs < 8 → run_type o first m
    ≡ Some h.basic
unfolding run_type common_type
run_is_typed o first m h l e f n = rw (
  types_there o first (first + m) h (omega (arith, l)) e,
  f,
  lt-ltb h.basic.refs 8 n,
) refl
