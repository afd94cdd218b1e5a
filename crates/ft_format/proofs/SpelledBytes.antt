-- A spelling consists of bytes.
use Rattle.std.proofs.Common.{◌≡◌, ℕ, zero, suc, ◌<◌, true, List, [], ◌∷◌, ◌++◌, length, map, arith}
use Rattle.std.specs.Int.{Width, byte_len, byte_at, bytes_high_first}
use Rattle.std.specs.List.{AllByRecursion, flat_map, list_all}
use Rattle.std.proofs.lemmas.List.Elements.{recursion_from_All}
use Rattle.ft_types.specs.declared.object.Object.{Object}
use Rattle.ft_types.specs.declared.object.Cell.{Cell}
use Rattle.ft_types.specs.Objects.{name_of}
use Rattle.ft_types.specs.Spellable.{is_name_byte, is_name, IsCell, IsSpellable}
use Rattle.ft_types.specs.NodeRows.{node_row}
use Rattle.ft_format.specs.declared.version.Version.{Version}
use Rattle.ft_format.specs.Format.{AreBytes}
use Rattle.ft_format.specs.Layout.{bytes_of, written, spelled, header_layout, cell_layout, code_layout, type_layout}
use Rattle.ft_format.specs.Layout.{reg_layout, pair_layout, subst_layout}
use Rattle.ft_format.specs.Rows.{cell_rows, type_rows, reg_row, queue_row, block_row, subst_row, all_regs}
use Rattle.ft_format.specs.InstrRecords.{instr_row}
use Rattle.ft_format.specs.Rows.{all_queue, header_row, spelling}

-- the empty list consists of bytes, and adding a byte in front keeps this
none_are : AreBytes []
none_are i = omega arith

one_more : (b : ℕ) (bs : List ℕ) → b < 256 → AreBytes bs → AreBytes (b ∷ bs)
one_more b bs h rest zero = h
one_more b bs h rest (suc i) = rest i

-- the concatenation of two lists of bytes consists of bytes
then : (a b : List ℕ) → AreBytes a → AreBytes b → AreBytes (a ++ b)
then [] b p q = q
then (x ∷ xs) b p q = one_more x (xs ++ b) (p 0) (then xs b (λ i. p (suc i)) q)

-- a byte of a number is below 256
byte_small : (i n : ℕ) → byte_at i n < 256
byte_small zero n = omega arith
byte_small (suc i) n = omega arith

-- a written number consists of bytes
high_first : (k n : ℕ) → AreBytes (bytes_high_first k n)
high_first zero n = none_are
high_first (suc k) n = one_more (byte_at k n) (bytes_high_first k n) (byte_small k n) (high_first k n)

-- a written record consists of bytes
written_bytes : (ws : List Width) (ns : List ℕ) → AreBytes (written ws ns)
unfolding written bytes_of
written_bytes [] ns = none_are
written_bytes (w ∷ ws) [] = none_are
written_bytes (w ∷ ws) (n ∷ ns) = then (bytes_of w n) (written ws ns) (high_first (byte_len w) n) (written_bytes ws ns)

-- written records consist of bytes
spelled_bytes : (ws : List Width) (rs : List (List ℕ)) → AreBytes (spelled ws rs)
spelled_bytes ws [] = none_are
spelled_bytes ws (r ∷ rs) = then (written ws r) (spelled ws rs) (written_bytes ws r) (spelled_bytes ws rs)

-- a valid name consists of bytes, and so does the part after its first byte
rest_bytes : (bs : List ℕ) → list_all is_name_byte bs ≡ true → AreBytes bs
rest_bytes [] h = none_are
rest_bytes (b ∷ bs) h = one_more b bs (grind arith) (rest_bytes bs (grind arith))

name_bytes : (name : List ℕ) → is_name name ≡ true → AreBytes name
name_bytes [] h = none_are
name_bytes (b ∷ bs) h = one_more b bs (grind arith) (rest_bytes bs (grind arith))

-- the names of cells that obey the rules consist of bytes
names_bytes : (types : ℕ) (cs : List Cell) → AllByRecursion (IsCell types) cs → AreBytes (flat_map name_of cs)
names_bytes types [] h = none_are
names_bytes types (c ∷ cs) h = then c.name (flat_map name_of cs) (name_bytes c.name h.0.name) (names_bytes types cs h.1)

-- the spelling of an object that obeys the rules consists of bytes
pub spelling_bytes : (v : Version) (o : Object) → IsSpellable o → AreBytes (spelling v o)
unfolding spelling
spelling_bytes v o s =
    then _ _ (written_bytes header_layout (header_row v o))
    (then _ _ (spelled_bytes cell_layout (cell_rows 0 o.cells))
    (then _ _ (spelled_bytes code_layout (map node_row o.nodes))
    (then _ _ (spelled_bytes type_layout (type_rows 0 0 o.types))
    (then _ _ (spelled_bytes reg_layout (map reg_row (all_regs o)))
    (then _ _ (spelled_bytes pair_layout (map queue_row (all_queue o)))
    (then _ _ (spelled_bytes pair_layout (map block_row o.blocks))
    (then _ _ (spelled_bytes code_layout (map instr_row o.instrs))
    (then _ _ (spelled_bytes subst_layout (map subst_row o.substs))
    (names_bytes (length o.types) o.cells (recursion_from_All (IsCell (length o.types)) o.cells s.cells))))))))))
