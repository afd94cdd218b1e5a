-- The spelling of an object breaks no rule, and decodes to that object.
use Rattle.std.proofs.Common.{◌≡◌, ℕ, List, [], ◌∷◌, ◌++◌, length, map, None, refl, sym, ap, ◌∙◌, append_assoc, arith}
use Rattle.ft_types.specs.declared.object.Object.{Object}
use Rattle.ft_types.specs.Spellable.{IsSpellable}
use Rattle.ft_types.specs.NodeRows.{node_row}
use Rattle.ft_format.specs.declared.version.Version.{Version}
use Rattle.ft_format.specs.Versions.{version_of}
use Rattle.ft_format.specs.Format.{Supports, Spells}
use Rattle.ft_format.specs.Layout.{numbers, written, spelled, header_layout, cell_layout, code_layout, type_layout}
use Rattle.ft_format.specs.Layout.{reg_layout, pair_layout, subst_layout}
use Rattle.ft_format.specs.Rows.{cell_rows, type_rows, reg_row, queue_row, block_row, subst_row, all_regs}
use Rattle.ft_format.specs.InstrRecords.{instr_row}
use Rattle.ft_format.specs.Rows.{all_queue, all_names, header_row, spelling}
use Rattle.ft_format.specs.Broken.{total, tables_read, header_at, version_at, broken, object_of}
use Rattle.std.proofs.lemmas.List.{length-append}
use Rattle.ft_format.specs.Values.{header_of}
use Rattle.ft_format.proofs.Layouts.{numbers_back}
use Rattle.ft_format.proofs.Codes.{le_true, eq_true}
use Rattle.ft_format.proofs.Versions.{names_magic}
use Rattle.ft_format.proofs.SpelledSections.{header_for, small_for, header_fine, header_fit}
use Rattle.ft_format.proofs.SpelledAgain.{spelled_again}

-- the header is read from the first bytes, whatever follows
header_first : (v : Version) (o : Object) (rest : List ℕ) → IsSpellable o → Supports v o →
    header_at (spelling v o ++ rest) ≡ header_for v o
unfolding spelling
header_first v o rest s has =
    ap header_of (ap (numbers header_layout) (append_assoc (written header_layout (header_row v o))
    (spelled cell_layout (cell_rows 0 o.cells) ++ (spelled code_layout (map node_row o.nodes)
    ++ (spelled type_layout (type_rows 0 0 o.types)
    ++ (spelled reg_layout (map reg_row (all_regs o))
    ++ (spelled pair_layout (map queue_row (all_queue o))
    ++ (spelled pair_layout (map block_row o.blocks)
    ++ (spelled code_layout (map instr_row o.instrs)
    ++ (spelled subst_layout (map subst_row o.substs) ++ all_names o)))))))) rest)
    ∙ numbers_back header_layout (header_row v o) ((spelled cell_layout (cell_rows 0 o.cells)
    ++ (spelled code_layout (map node_row o.nodes)
    ++ (spelled type_layout (type_rows 0 0 o.types)
    ++ (spelled reg_layout (map reg_row (all_regs o))
    ++ (spelled pair_layout (map queue_row (all_queue o))
    ++ (spelled pair_layout (map block_row o.blocks)
    ++ (spelled code_layout (map instr_row o.instrs)
    ++ (spelled subst_layout (map subst_row o.substs) ++ all_names o)))))))) ++ rest) (header_fit v o s has))

-- a list that is extended to one of the same length is extended by nothing
no_more : (a b rest : List ℕ) → a ++ rest ≡ b → length a ≡ length b → rest ≡ []
no_more a b [] e l = refl
no_more a b (x ∷ xs) e l = absurd (omega (arith, ap length e, length-append a (x ∷ xs)))

-- no spelling is a proper prefix of another
spellings_apart : (v w : Version) (a b : Object) (rest : List ℕ) → IsSpellable a → Supports v a → IsSpellable b →
    Supports w b → spelling v a ++ rest ≡ spelling w b → rest ≡ []
spellings_apart v w a b rest s m t n e =
    let of_a = spelled_again (spelling v a) v a s m refl in
    let of_b = spelled_again (spelling w b) w b t n refl in
    let same : header_for v a ≡ header_for w b = sym (header_first v a rest s m) ∙ ap header_at e ∙ of_b.header in
    no_more (spelling v a) (spelling w b) rest e (of_a.total_is ∙ ap total same ∙ sym of_b.total_is)

-- bytes that spell an object break no rule
pub spells_unbroken : (bytes : List ℕ) (v : Version) (o : Object) → Spells bytes v o → broken bytes ≡ None
unfolding broken
spells_unbroken bytes v o i =
    let a = spelled_again bytes v o i.spellable i.has i.spelled in
    let h = header_for v o in
    let m = small_for v o i.spellable i.has in
    let long = a.total_is in
    rw (
      a.header,
      le_true (length bytes) 67108864 (omega (
        arith,
        m.cells,
        m.nodes,
        m.types,
        m.regs,
        m.queue,
        m.blocks,
        m.instrs,
        m.substs,
        m.names,
      )),
      le_true 48 (length bytes) (omega arith),
      header_fine v o i.spellable i.has,
      eq_true (length bytes) (total h) a.total_is,
      a.unbroken,
    ) refl

pub spells_read : (bytes : List ℕ) (v : Version) (o : Object) → Spells bytes v o → object_of bytes ≡ o
spells_read bytes v o i =
    let a = spelled_again bytes v o i.spellable i.has i.spelled in
    ap (λ k. tables_read k bytes) a.header ∙ a.back

pub spells_version : (bytes : List ℕ) (v : Version) (o : Object) → Spells bytes v o → version_at bytes ≡ v
spells_version bytes v o i =
    let a = spelled_again bytes v o i.spellable i.has i.spelled in
    ap version_of a.header ∙ names_magic (header_for v o) v refl

-- bytes that spell an object are not a proper prefix of other such bytes
pub spells_apart : (bytes rest : List ℕ) (v w : Version) (o other : Object) → Spells bytes v o →
    Spells (bytes ++ rest) w other → rest ≡ []
spells_apart bytes rest v w o other p q = spellings_apart v w o other rest p.spellable p.has q.spellable q.has
    (sym (ap (λ l. l ++ rest) p.spelled) ∙ q.spelled)
