-- The parts of the object that a view's bytes spell, from the view's records.
use Rattle.std.proofs.Common.{◌≡◌, ℕ, ◌+◌, ◌-◌, ◌*◌, ◌<◌, ◌≤◌, List, [], ◌∷◌, length, take, drop, None, Some, refl, sym}
use Rattle.std.proofs.Common.{ap, ◌∙◌, subst, arith}
use Rattle.std.specs.Prelude.{slice_get, unwrap_or}
use Rattle.std.specs.Option.{option_map}
use Rattle.std.proofs.lemmas.List.{length-map}
use Rattle.ft_static.specs.declared.node.Node.{Node}
use Rattle.ft_types.specs.declared.object.Block.{Block}
use Rattle.ft_types.specs.declared.object.CellHead.{CellHead}
use Rattle.ft_types.specs.declared.object.TypeHead.{TypeHead}
use Rattle.ft_types.specs.declared.object.RegType.{RegType}
use Rattle.ft_types.specs.NodeRows.{node_row, row_words, node_words}
use Rattle.ft_types.specs.Objects.{cell_head_of, name_of, type_head_of, regs_of, queue_of, reg_rows, queue_rows}
use Rattle.ft_format.specs.declared.header.Header.{Header}
use Rattle.ft_format.specs.declared.places.Places.{Places}
use Rattle.ft_format.specs.Layout.{numbers, cell_layout, code_layout, type_layout, reg_layout, pair_layout}
use Rattle.ft_format.specs.Layout.{subst_layout}
use Rattle.ft_format.specs.Values.{past_of, block_of, reg_type_of, pair_of, subst_node_of}
use Rattle.ft_format.specs.NodeRecords.{node_of}
use Rattle.ft_format.specs.Codes.{basic_type_of}
use Rattle.ft_format.specs.Values.{regs_end_of, queue_end_of, type_ints_of, type_memory_of}
use Rattle.ft_format.specs.Broken.{names_part, nodes_part, types_part, regs_part, queue_part, blocks_part, substs_part}
use Rattle.ft_format.specs.Broken.{cells_part, nodes_read, regs_read, queue_read, header_at, object_of, tables_read}
use Rattle.ft_format.specs.Broken.{broken}
use Rattle.ft_format.proofs.Layouts.{length_rows}
use Rattle.ft_format.proofs.Read.{length_cells_of, length_types_of}
use Rattle.ft_view.proofs.Records.{row_at}
use Rattle.ft_view.specs.Ends.{AreEnds}
use Rattle.ft_view.specs.Viewed.{IsView, last_end, cell_records, node_records, type_records, reg_records, queue_records}
use Rattle.ft_view.specs.Viewed.{block_records, subst_records}
use Rattle.ft_view.proofs.At.{mapped, ends_at, cell_at, type_taken, type_at, taken_at, taken_count}
use Rattle.ft_view.proofs.EndsRise.{ends_of_cells, ends_of_types}
use Rattle.ft_view.proofs.Whole.{unbroken}

-- there are as many parts of each kind as the header says
pub cell_count : (bytes : List ℕ) → length (object_of bytes).cells ≡ (header_at bytes).cells
unfolding tables_read
cell_count bytes = length_cells_of (names_part (header_at bytes) bytes) 0 (cell_records bytes)
    ∙ length_rows cell_layout (header_at bytes).cells (cells_part bytes)

pub node_count : (bytes : List ℕ) → length (object_of bytes).nodes ≡ (header_at bytes).nodes
unfolding tables_read
node_count bytes = length-map (node_records bytes) node_of
    ∙ length_rows code_layout (header_at bytes).nodes (nodes_part (header_at bytes) bytes)

pub type_count : (bytes : List ℕ) → length (object_of bytes).types ≡ (header_at bytes).types
unfolding tables_read
type_count bytes = length_types_of 0 0 (type_records bytes) (regs_read (header_at bytes) bytes)
    (queue_read (header_at bytes) bytes) ∙ length_rows type_layout (header_at bytes).types
    (types_part (header_at bytes) bytes)

pub block_count : (bytes : List ℕ) → length (object_of bytes).blocks ≡ (header_at bytes).blocks
unfolding tables_read
block_count bytes = length-map (block_records bytes) block_of
    ∙ length_rows pair_layout (header_at bytes).blocks (blocks_part (header_at bytes) bytes)

pub subst_count : (bytes : List ℕ) → length (object_of bytes).substs ≡ (header_at bytes).substs
unfolding tables_read
subst_count bytes = length-map (subst_records bytes) subst_node_of
    ∙ length_rows subst_layout (header_at bytes).substs (substs_part (header_at bytes) bytes)

reg_count : (bytes : List ℕ) → length (regs_read (header_at bytes) bytes) ≡ (header_at bytes).regs
reg_count bytes = length-map (reg_records bytes) reg_type_of
    ∙ length_rows reg_layout (header_at bytes).regs (regs_part (header_at bytes) bytes)

queue_count : (bytes : List ℕ) → length (queue_read (header_at bytes) bytes) ≡ (header_at bytes).queue
queue_count bytes = length-map (queue_records bytes) pair_of
    ∙ length_rows pair_layout (header_at bytes).queue (queue_part (header_at bytes) bytes)

pub entry_is : (bytes : List ℕ) → (object_of bytes).entry ≡ (header_at bytes).entry
unfolding tables_read
entry_is bytes = refl

-- a part that its record alone determines is the one that this record encodes
pub node_is : (bytes row : List ℕ) (i : ℕ) (x : Node) → slice_get (node_records bytes) i ≡ Some row → x ≡ node_of row →
    slice_get (object_of bytes).nodes i ≡ Some x
unfolding tables_read
node_is bytes row i x there is = mapped node_of (node_records bytes) i row x there is

pub words_are : (bytes row : List ℕ) (i : ℕ) (x : ℕ × ℕ) → slice_get (node_records bytes) i ≡ Some row →
    node_row (node_of row) ≡ row → x ≡ row_words row → option_map node_words (slice_get (object_of bytes).nodes i)
    ≡ Some x
words_are bytes row i x there written is = ap (option_map node_words) (node_is bytes row i (node_of row) there refl)
    ∙ ap (λ r. Some (row_words r)) written ∙ ap Some (sym is)

pub block_is : (bytes row : List ℕ) (i : ℕ) (x : Block) → slice_get (block_records bytes) i ≡ Some row → x
    ≡ block_of row → slice_get (object_of bytes).blocks i ≡ Some x
unfolding tables_read
block_is bytes row i x there is = mapped block_of (block_records bytes) i row x there is

pub subst_is : (bytes row : List ℕ) (i x : ℕ) → slice_get (subst_records bytes) i ≡ Some row → x ≡ subst_node_of row →
    slice_get (object_of bytes).substs i ≡ Some x
unfolding tables_read
subst_is bytes row i x there is = mapped subst_node_of (subst_records bytes) i row x there is

-- a cell without its name is the one that its record encodes
pub cell_is : (bytes : List ℕ) (k past refs base code_type init : ℕ) (x : CellHead) → slice_get (cell_records bytes) k
    ≡ Some (past ∷ refs ∷ base ∷ code_type ∷ init ∷ []) → x.basic ≡ basic_type_of refs base code_type → x.init ≡ init
    → option_map cell_head_of (slice_get (object_of bytes).cells k) ≡ Some x
unfolding tables_read
cell_is bytes k past refs base code_type init x there basic word =
    ap (option_map cell_head_of) (cell_at (names_part (header_at bytes) bytes) 0 (cell_records bytes) k _ there)
    ∙ rw (sym basic, sym word) refl

-- the name of a cell is the slice of the name bytes between two ends
pub name_is : (bytes name : List ℕ) (k start past refs base code_type init : ℕ) → slice_get (cell_records bytes) k
    ≡ Some (past ∷ refs ∷ base ∷ code_type ∷ init ∷ []) → start ≡ last_end past_of 0 (take k (cell_records bytes))
    → name ≡ take (past - start) (drop start (names_part (header_at bytes) bytes)) →
    option_map name_of (slice_get (object_of bytes).cells k) ≡ Some name
unfolding tables_read
name_is bytes name k start past refs base code_type init there last is =
    ap (option_map name_of) (cell_at (names_part (header_at bytes) bytes) 0 (cell_records bytes) k _ there)
    ∙ sym (ap Some (is ∙ ap (λ s. take (past - s) (drop s (names_part (header_at bytes) bytes))) last))

-- if no rule is broken, the ends of names and of rows do not decrease
pub cell_ends : (h : Header) (p : Places) (bytes seen : List ℕ) → IsView h p bytes → bytes ≡ seen →
    AreEnds past_of (header_at seen).names 0 (cell_records seen)
cell_ends h p bytes seen v e =
    let u = unbroken seen (subst (λ b. broken b ≡ None) e v.unbroken) in
    ends_of_cells (header_at seen) (header_at seen).cells (cells_part seen) 0 48 u.cells

pub type_ends : (h : Header) (p : Places) (bytes seen : List ℕ) → IsView h p bytes → bytes ≡ seen →
    AreEnds regs_end_of (header_at seen).regs 0 (type_records seen)
    × AreEnds queue_end_of (header_at seen).queue 0 (type_records seen)
type_ends h p bytes seen v e =
    let u = unbroken seen (subst (λ b. broken b ≡ None) e v.unbroken) in
    ends_of_types (header_at seen) (nodes_read (header_at seen) seen) (header_at seen).types
    (types_part (header_at seen) seen) 0 0 _ u.types

-- a code type is the one that its record and the rows between two ends encode
pub type_is : (bytes row : List ℕ) (t from queue_from : ℕ) →
    AreEnds regs_end_of (header_at bytes).regs 0 (type_records bytes) →
    AreEnds queue_end_of (header_at bytes).queue 0 (type_records bytes) → slice_get (type_records bytes) t ≡ Some row
    → from ≡ last_end regs_end_of 0 (take t (type_records bytes)) → queue_from
    ≡ last_end queue_end_of 0 (take t (type_records bytes))
    → slice_get (object_of bytes).types t ≡ Some (type_taken from queue_from row (regs_read (header_at bytes) bytes)
    (queue_read (header_at bytes) bytes))
unfolding tables_read
type_is bytes row t from queue_from h q there e f =
    type_at 0 0 (header_at bytes).regs (header_at bytes).queue (type_records bytes) t row
    (regs_read (header_at bytes) bytes) (queue_read (header_at bytes) bytes) h q there
    ∙ ap (λ a. Some (type_taken a (last_end queue_end_of 0 (take t (type_records bytes))) row
    (regs_read (header_at bytes) bytes) (queue_read (header_at bytes) bytes))) (sym e)
    ∙ ap (λ a. Some (type_taken from a row (regs_read (header_at bytes) bytes) (queue_read (header_at bytes) bytes)))
    (sym f)

-- a code type without its rows is the one that its record encodes
pub head_is : (bytes row : List ℕ) (t from queue_from : ℕ) (x : TypeHead) →
    AreEnds regs_end_of (header_at bytes).regs 0 (type_records bytes) →
    AreEnds queue_end_of (header_at bytes).queue 0 (type_records bytes) → slice_get (type_records bytes) t ≡ Some row
    → from ≡ last_end regs_end_of 0 (take t (type_records bytes)) → queue_from
    ≡ last_end queue_end_of 0 (take t (type_records bytes))
    → x ≡ record {
      ints = type_ints_of row;
      regs = regs_end_of row - from;
      queue = queue_end_of row - queue_from;
      memory = type_memory_of row;
    }
    → option_map type_head_of (slice_get (object_of bytes).types t) ≡ Some x
head_is bytes row t from queue_from x h q there e f is =
    let a = ends_at regs_end_of (header_at bytes).regs 0 (type_records bytes) t row h there in
    let b = ends_at queue_end_of (header_at bytes).queue 0 (type_records bytes) t row q there in
    let regs : length (take (regs_end_of row - from) (drop from (regs_read (header_at bytes) bytes)))
    ≡ regs_end_of row - from = taken_count from (regs_end_of row) (regs_read (header_at bytes) bytes)
    (omega (arith, a.0, e)) (omega (arith, a.1, reg_count bytes)) in
    let queue : length (take (queue_end_of row - queue_from) (drop queue_from (queue_read (header_at bytes) bytes)))
    ≡ queue_end_of row - queue_from = taken_count queue_from (queue_end_of row) (queue_read (header_at bytes) bytes)
    (omega (arith, b.0, f)) (omega (arith, b.1, queue_count bytes)) in
    ap (option_map type_head_of) (type_is bytes row t from queue_from h q there e f) ∙ rw (is, regs, queue) refl

-- the rows of a code type are those between two ends
pub regs_are : (bytes row : List ℕ) (t from queue_from : ℕ) →
    AreEnds regs_end_of (header_at bytes).regs 0 (type_records bytes) →
    AreEnds queue_end_of (header_at bytes).queue 0 (type_records bytes) → slice_get (type_records bytes) t ≡ Some row
    → from ≡ last_end regs_end_of 0 (take t (type_records bytes)) → queue_from
    ≡ last_end queue_end_of 0 (take t (type_records bytes))
    → reg_rows (object_of bytes) t ≡ take (regs_end_of row - from) (drop from (regs_read (header_at bytes) bytes))
regs_are bytes row t from queue_from h q there e f =
    ap (λ o. unwrap_or (option_map regs_of o) []) (type_is bytes row t from queue_from h q there e f)

pub queue_are : (bytes row : List ℕ) (t from queue_from : ℕ) →
    AreEnds regs_end_of (header_at bytes).regs 0 (type_records bytes) →
    AreEnds queue_end_of (header_at bytes).queue 0 (type_records bytes) → slice_get (type_records bytes) t ≡ Some row
    → from ≡ last_end regs_end_of 0 (take t (type_records bytes)) → queue_from
    ≡ last_end queue_end_of 0 (take t (type_records bytes))
    → queue_rows (object_of bytes) t ≡ take (queue_end_of row - queue_from)
    (drop queue_from (queue_read (header_at bytes) bytes))
queue_are bytes row t from queue_from h q there e f =
    ap (λ o. unwrap_or (option_map queue_of o) []) (type_is bytes row t from queue_from h q there e f)

-- the record of an existing type
abbrev type_row : List ℕ → ℕ → List ℕ
type_row bytes t = numbers type_layout (take 16 (drop (16 * t) (types_part (header_at bytes) bytes)))

type_there : (bytes : List ℕ) (t : ℕ) → t < length (object_of bytes).types → slice_get (type_records bytes) t
    ≡ Some (type_row bytes t)
type_there bytes t lt = row_at type_layout (header_at bytes).types t (types_part (header_at bytes) bytes)
    (omega (arith, lt, type_count bytes))

-- a row of a type is one of all rows
pub reg_inside : (bytes : List ℕ) (t j from queue_from : ℕ) →
    AreEnds regs_end_of (header_at bytes).regs 0 (type_records bytes) →
    AreEnds queue_end_of (header_at bytes).queue 0 (type_records bytes) → t < length (object_of bytes).types
    → from ≡ last_end regs_end_of 0 (take t (type_records bytes)) → queue_from
    ≡ last_end queue_end_of 0 (take t (type_records bytes)) → j < length (reg_rows (object_of bytes) t)
    → (from + j < regs_end_of (type_row bytes t)) × (regs_end_of (type_row bytes t) ≤ (header_at bytes).regs)
reg_inside bytes t j from queue_from h q lt e f less =
    let there = type_there bytes t lt in
    let a = ends_at regs_end_of (header_at bytes).regs 0 (type_records bytes) t (type_row bytes t) h there in
    let count : length (reg_rows (object_of bytes) t) ≡ regs_end_of (type_row bytes t) - from =
    ap length (regs_are bytes (type_row bytes t) t from queue_from h q there e f)
    ∙ taken_count from (regs_end_of (type_row bytes t)) (regs_read (header_at bytes) bytes) (omega (arith, a.0, e))
    (omega (arith, a.1, reg_count bytes)) in
    (omega (arith, less, count, a.0, e), a.1)

pub queue_inside : (bytes : List ℕ) (t j from queue_from : ℕ) →
    AreEnds regs_end_of (header_at bytes).regs 0 (type_records bytes) →
    AreEnds queue_end_of (header_at bytes).queue 0 (type_records bytes) → t < length (object_of bytes).types
    → from ≡ last_end regs_end_of 0 (take t (type_records bytes)) → queue_from
    ≡ last_end queue_end_of 0 (take t (type_records bytes)) → j < length (queue_rows (object_of bytes) t)
    → (queue_from + j < queue_end_of (type_row bytes t)) × (queue_end_of (type_row bytes t) ≤ (header_at bytes).queue)
queue_inside bytes t j from queue_from h q lt e f less =
    let there = type_there bytes t lt in
    let a = ends_at queue_end_of (header_at bytes).queue 0 (type_records bytes) t (type_row bytes t) q there in
    let count : length (queue_rows (object_of bytes) t) ≡ queue_end_of (type_row bytes t) - queue_from =
    ap length (queue_are bytes (type_row bytes t) t from queue_from h q there e f)
    ∙ taken_count queue_from (queue_end_of (type_row bytes t)) (queue_read (header_at bytes) bytes)
    (omega (arith, a.0, f)) (omega (arith, a.1, queue_count bytes)) in
    (omega (arith, less, count, a.0, f), a.1)

pub reg_is : (bytes row : List ℕ) (t j from queue_from : ℕ) (x : RegType) →
    AreEnds regs_end_of (header_at bytes).regs 0 (type_records bytes) →
    AreEnds queue_end_of (header_at bytes).queue 0 (type_records bytes) → t < length (object_of bytes).types
    → from ≡ last_end regs_end_of 0 (take t (type_records bytes)) → queue_from
    ≡ last_end queue_end_of 0 (take t (type_records bytes)) → j < length (reg_rows (object_of bytes) t)
    → slice_get (reg_records bytes) (from + j) ≡ Some row → x ≡ reg_type_of row →
    slice_get (reg_rows (object_of bytes) t) j ≡ Some x
reg_is bytes row t j from queue_from x h q lt e f less there is =
    ap (λ l. slice_get l j) (regs_are bytes (type_row bytes t) t from queue_from h q (type_there bytes t lt) e f)
    ∙ taken_at from (regs_end_of (type_row bytes t)) j (regs_read (header_at bytes) bytes) x
    (reg_inside bytes t j from queue_from h q lt e f less).0
    (mapped reg_type_of (reg_records bytes) (from + j) row x there is)

pub pair_is : (bytes row : List ℕ) (t j from queue_from : ℕ) (x : ℕ × ℕ) →
    AreEnds regs_end_of (header_at bytes).regs 0 (type_records bytes) →
    AreEnds queue_end_of (header_at bytes).queue 0 (type_records bytes) → t < length (object_of bytes).types
    → from ≡ last_end regs_end_of 0 (take t (type_records bytes)) → queue_from
    ≡ last_end queue_end_of 0 (take t (type_records bytes)) → j < length (queue_rows (object_of bytes) t)
    → slice_get (queue_records bytes) (queue_from + j) ≡ Some row → x ≡ pair_of row →
    slice_get (queue_rows (object_of bytes) t) j ≡ Some x
pair_is bytes row t j from queue_from x h q lt e f less there is =
    ap (λ l. slice_get l j) (queue_are bytes (type_row bytes t) t from queue_from h q (type_there bytes t lt) e f)
    ∙ taken_at queue_from (queue_end_of (type_row bytes t)) j (queue_read (header_at bytes) bytes) x
    (queue_inside bytes t j from queue_from h q lt e f less).0
    (mapped pair_of (queue_records bytes) (queue_from + j) row x there is)
