-- The header and the sections of an object's spelling.
use Rattle.std.proofs.Common.{◌≡◌, ℕ, suc, ◌+◌, ◌*◌, ◌<◌, ◌≤◌, true, List, [], ◌∷◌, ◌++◌, length, drop, None, refl, sym}
use Rattle.std.proofs.Common.{ap, ◌∙◌, arith}
use Rattle.std.specs.Int.{Width}
use Rattle.std.specs.List.{AllByRecursion}
use Rattle.std.proofs.lemmas.List.Concat.{length-flat_map}
use Rattle.ft_types.specs.declared.object.Object.{Object}
use Rattle.ft_types.specs.declared.object.Cell.{Cell}
use Rattle.ft_types.specs.declared.object.CodeType.{CodeType}
use Rattle.ft_types.specs.Objects.{name_of, regs_of, queue_of}
use Rattle.ft_types.specs.Spellable.{IsCell, is_name, IsSpellable}
use Rattle.ft_format.specs.declared.header.Header.{Header}
use Rattle.ft_format.specs.declared.version.Version.{Version}
use Rattle.ft_format.specs.Versions.{magic, most_name_bytes}
use Rattle.ft_format.specs.Format.{SupportsName, Supports}
use Rattle.ft_format.specs.Layout.{size, rows, spelled, header_layout}
use Rattle.ft_format.specs.Rules.{header_broken}
use Rattle.ft_format.specs.Rows.{cell_rows, type_rows, all_regs, all_queue, all_names, header_row}
use Rattle.ft_format.specs.Broken.{IsSmall}
use Rattle.std.proofs.lemmas.List.{drop-drop, drop_at}
use Rattle.ft_format.proofs.Layouts.{Fit, AllFit, rows_back, length_spelled}
use Rattle.ft_format.proofs.Codes.{le_true, lt_true}
use Rattle.ft_format.proofs.Cells.{IsCellBut, IsNamed}
use Rattle.ft_format.proofs.Versions.{few_names, few_name_bytes, magic_small, magic_is, names_magic}

-- the header of an object
abbrev pub header_for : Version → Object → Header
header_for v o = record {
  magic = magic v;
  cells = length o.cells;
  nodes = length o.nodes;
  types = length o.types;
  regs = length (all_regs o);
  queue = length (all_queue o);
  blocks = length o.blocks;
  instrs = length o.instrs;
  substs = length o.substs;
  names = length (all_names o);
  entry = o.entry;
}

-- a name has at least one byte
first_byte : (name : List ℕ) → is_name name ≡ true → 0 < length name
first_byte [] h = absurd (cc)
first_byte (b ∷ bs) h = omega arith

-- if cells obey all rules, they obey those that do not concern the bytes of names, and their names are valid
pub cells_but : (v : Version) (types : ℕ) (cs : List Cell) → AllByRecursion (IsCell types) cs →
    AllByRecursion (SupportsName v) cs → AllByRecursion (IsCellBut v types) cs
cells_but v types [] h has = tt
cells_but v types (c ∷ cs) h has = (
  record {
    some = first_byte c.name h.0.name;
    name_length = has.0.short;
    basic = h.0.basic;
    init = h.0.init;
  },
  cells_but v types cs h.1 has.1,
)

pub named : (v : Version) (types : ℕ) (cs : List Cell) → AllByRecursion (IsCell types) cs →
    AllByRecursion (SupportsName v) cs → AllByRecursion (IsNamed v) cs
named v types [] h has = tt
named v types (c ∷ cs) h has = (record { name = h.0.name; bytes = has.0.bytes }, named v types cs h.1 has.1)

-- there is one record for each cell and for each type
pub length_cell_rows : (start : ℕ) (cs : List Cell) → length (cell_rows start cs) ≡ length cs
length_cell_rows start [] = refl
length_cell_rows start (c ∷ cs) = ap suc (length_cell_rows (start + length c.name) cs)

pub length_type_rows : (start queue_start : ℕ) (ts : List CodeType) → length (type_rows start queue_start ts)
    ≡ length ts
length_type_rows start queue_start [] = refl
length_type_rows start queue_start (t ∷ ts) = ap suc
    (length_type_rows (start + length t.regs) (queue_start + length t.queue) ts)

-- the bytes after a section are those that follow its records, and reading the section gives the rows back
pub after_section : (ws : List Width) (rs : List (List ℕ)) (at n : ℕ) (bytes tail : List ℕ) → AllFit ws rs → length rs
    ≡ n → drop at bytes ≡ spelled ws rs ++ tail → drop (at + size ws * n) bytes ≡ tail
after_section ws rs at n bytes tail fit count e =
    sym (drop-drop (size ws * n) at bytes) ∙ ap (drop (size ws * n)) e
    ∙ drop_at (spelled ws rs) tail (size ws * n) (length_spelled ws rs fit ∙ ap (λ k. size ws * k) count)

pub section_rows : (ws : List Width) (rs : List (List ℕ)) (at n : ℕ) (bytes tail : List ℕ) → AllFit ws rs → length rs
    ≡ n → drop at bytes ≡ spelled ws rs ++ tail → rows ws n (drop at bytes) ≡ rs
section_rows ws rs at n bytes tail fit count e =
    ap (rows ws n) e ∙ ap (λ k. rows ws k (spelled ws rs ++ tail)) (sym count) ∙ rows_back ws rs tail fit

-- the names of the cells have at most as many bytes as the version allows
few_bytes : (v : Version) (o : Object) → IsSpellable o → Supports v o → length (all_names o) ≤ most_name_bytes v
few_bytes v o s has = omega (arith, length-flat_map name_of o.cells, few_names v o.cells s.few_cells has.names)

-- the counts of a spellable object are within the limits
pub small_for : (v : Version) (o : Object) → IsSpellable o → Supports v o → IsSmall (header_for v o)
small_for v o s has = record {
  cells = s.few_cells;
  nodes = s.nodes.few;
  types = s.few_types;
  regs = omega (arith, length-flat_map regs_of o.types, s.few_reg_rows);
  queue = omega (arith, length-flat_map queue_of o.types, s.few_queue_rows);
  blocks = s.few_blocks;
  instrs = s.few_instrs;
  substs = s.few_substs;
  names = omega (arith, few_bytes v o s has, few_name_bytes v);
}

-- the header of a spellable object breaks no rule, and its fields can hold the numbers
pub header_fine : (v : Version) (o : Object) → IsSpellable o → Supports v o → header_broken (header_for v o) ≡ None
header_fine v o s has =
    let m = small_for v o s has in
    rw (
      magic_is v,
      names_magic (header_for v o) v refl,
      le_true (length o.cells) 1024 m.cells,
      le_true (length o.nodes) 1048576 m.nodes,
      le_true 1 (length o.types) s.some_type,
      le_true (length o.types) 4096 m.types,
      le_true (length (all_regs o)) 262144 m.regs,
      le_true (length (all_queue o)) 32768 m.queue,
      le_true 1 (length o.blocks) (omega (arith, s.entry)),
      le_true (length o.blocks) 65536 m.blocks,
      le_true 1 (length o.instrs) s.some_instr,
      le_true (length o.instrs) 65536 m.instrs,
      le_true (length o.substs) 1048576 m.substs,
      le_true (length (all_names o)) (most_name_bytes v) (few_bytes v o s has),
      lt_true o.entry (length o.blocks) s.entry,
    ) refl

pub header_fit : (v : Version) (o : Object) → IsSpellable o → Supports v o → Fit header_layout (header_row v o)
header_fit v o s has =
    let m = small_for v o s has in (
      magic_small v,
      (
        omega (arith, m.cells),
        (
          omega (arith, m.nodes),
          (
            omega (arith, m.types),
            (
              omega (arith, m.regs),
              (
                omega (arith, m.queue),
                (
                  omega (arith, m.blocks),
                  (
                    omega (arith, m.instrs),
                    (
                      omega (arith, m.substs),
                      (omega (arith, m.names), (omega (arith, s.entry, m.blocks), tt)),
                    ),
                  ),
                ),
              ),
            ),
          ),
        ),
      ),
    )
