-- Valid bytes are the spelling of the object read from them: the parts of the proof.
use Rattle.std.proofs.Common.{◌≡◌, ℕ, suc, ◌+◌, ◌-◌, ◌*◌, ◌<◌, ◌≤◌, List, [], ◌∷◌, ◌++◌, length, drop, map, None, refl}
use Rattle.std.proofs.Common.{sym, ap, ◌∙◌, subst, arith}
use Rattle.std.specs.Prelude.{nat_le, nat_lt}
use Rattle.std.specs.Int.{Width}
use Rattle.std.specs.List.{AllByRecursion}
use Rattle.std.proofs.lemmas.List.{append-nil, length-append, length-drop, take-append-drop, drop-drop}
use Rattle.ft_static.specs.declared.node.Node.{Node}
use Rattle.ft_types.specs.declared.object.Cell.{Cell}
use Rattle.ft_types.specs.declared.object.RegType.{RegType}
use Rattle.ft_types.specs.Spellable.{IsCell}
use Rattle.ft_format.specs.declared.object_error.ObjectError.TheVariants as errors
use Rattle.ft_format.specs.declared.header.Header.{Header}
use Rattle.ft_format.specs.declared.version.Version.{Version}
use Rattle.ft_format.specs.Versions.{magic, is_magic, version_of, most_name_bytes}
use Rattle.ft_format.specs.Format.{AreBytes, SupportsName}
use Rattle.ft_format.specs.Layout.{size, rows, spelled, type_layout, reg_layout, pair_layout}
use Rattle.ft_format.specs.Rules.{must, ◌next◌, count_broken, some_broken, header_broken}
use Rattle.ft_format.specs.Rows.{reg_row, queue_row}
use Rattle.ft_format.specs.Values.{past_of, cells_of, types_of, regs_end_of, queue_end_of, reg_type_of, pair_of}
use Rattle.ft_format.specs.Broken.{IsSmall, types_broken, regs_broken, queues_broken, types_at, regs_at, queue_at}
use Rattle.ft_format.specs.Broken.{types_part, regs_part, queue_part, type_rows_of, code_types_broken}
use Rattle.ft_format.proofs.Layouts.{AreNarrow, rows_again, rows_fit, bytes_after}
use Rattle.ft_format.proofs.Unbroken.{held, both}
use Rattle.ft_format.proofs.Codes.{le_held, lt_held}
use Rattle.ft_format.proofs.Versions.{magic_names, short_names, few_name_bytes}
use Rattle.ft_format.proofs.Cells.{IsCellBut, IsNamed}
use Rattle.ft_format.proofs.Types.{TypesAre, types_again}

-- what holds of a header that breaks no rule
pub record IsHeader (h : Header) : Type 0 where
  pub magic_is : h.magic ≡ magic (version_of h)
  pub small : IsSmall h
  pub some_type : 0 < h.types
  pub some_block : 0 < h.blocks
  pub some_instr : 0 < h.instrs
  pub entry : h.entry < h.blocks

pub header_again : (h : Header) → header_broken h ≡ None → IsHeader h
header_again h n =
    let p11 = must (nat_lt h.entry h.blocks) (errors.Entry 44) in
    let p10 = count_broken (most_name_bytes (version_of h)) 40 h.names in
    let p9 = count_broken 1048576 36 h.substs in
    let p8 = some_broken 65536 32 h.instrs in
    let p7 = some_broken 65536 28 h.blocks in
    let p6 = count_broken 32768 24 h.queue in
    let p5 = count_broken 262144 20 h.regs in
    let p4 = some_broken 4096 16 h.types in
    let p3 = count_broken 1048576 12 h.nodes in
    let p2 = count_broken 1024 8 h.cells in
    let r1 = both (must (is_magic h.magic) (errors.Magic 0))
    (p2 next (p3 next (p4 next (p5 next (p6 next (p7 next (p8 next (p9 next (p10 next p11))))))))) n in
    let r2 = both p2 (p3 next (p4 next (p5 next (p6 next (p7 next (p8 next (p9 next (p10 next p11)))))))) r1.1 in
    let r3 = both p3 (p4 next (p5 next (p6 next (p7 next (p8 next (p9 next (p10 next p11))))))) r2.1 in
    let r4 = both p4 (p5 next (p6 next (p7 next (p8 next (p9 next (p10 next p11)))))) r3.1 in
    let r5 = both p5 (p6 next (p7 next (p8 next (p9 next (p10 next p11))))) r4.1 in
    let r6 = both p6 (p7 next (p8 next (p9 next (p10 next p11)))) r5.1 in
    let r7 = both p7 (p8 next (p9 next (p10 next p11))) r6.1 in
    let r8 = both p8 (p9 next (p10 next p11)) r7.1 in
    let r9 = both p9 (p10 next p11) r8.1 in
    let r10 = both p10 p11 r9.1 in
    let types = both (must (nat_le 1 h.types) (errors.Count 16)) (count_broken 4096 16 h.types) r4.0 in
    let blocks = both (must (nat_le 1 h.blocks) (errors.Count 28)) (count_broken 65536 28 h.blocks) r7.0 in
    let instrs = both (must (nat_le 1 h.instrs) (errors.Count 32)) (count_broken 65536 32 h.instrs) r8.0 in
    record {
      magic_is = magic_names h (held (is_magic h.magic) (errors.Magic 0) r1.0);
      small = record {
        cells = le_held h.cells 1024 (errors.Count 8) r2.0;
        nodes = le_held h.nodes 1048576 (errors.Count 12) r3.0;
        types = le_held h.types 4096 (errors.Count 16) types.1;
        regs = le_held h.regs 262144 (errors.Count 20) r5.0;
        queue = le_held h.queue 32768 (errors.Count 24) r6.0;
        blocks = le_held h.blocks 65536 (errors.Count 28) blocks.1;
        instrs = le_held h.instrs 65536 (errors.Count 32) instrs.1;
        substs = le_held h.substs 1048576 (errors.Count 36) r9.0;
        names = omega (
          arith,
          le_held h.names (most_name_bytes (version_of h)) (errors.Count 40) r10.0,
          few_name_bytes (version_of h),
        );
      };
      some_type = le_held 1 h.types (errors.Count 16) types.0;
      some_block = le_held 1 h.blocks (errors.Count 28) blocks.0;
      some_instr = le_held 1 h.instrs (errors.Count 32) instrs.0;
      entry = lt_held h.entry h.blocks (errors.Entry 44) r10.1;
    }

-- a section's bytes are the spelling of its records, followed by the bytes from the next section on
pub section : (ws : List Width) (at n : ℕ) (bytes : List ℕ) → AreNarrow ws → AreBytes bytes →
    at + size ws * n ≤ length bytes
    → drop at bytes ≡ spelled ws (rows ws n (drop at bytes)) ++ drop (at + size ws * n) bytes
section ws at n bytes narrow b le =
    let part = drop at bytes in
    let long : size ws * n ≤ length part = omega (arith, length-drop at bytes) in
    sym (take-append-drop (size ws * n) part) ∙ ap (λ l. l
    ++ drop (size ws * n) part) (sym (rows_again ws n part narrow (bytes_after at bytes b) long))
    ∙ ap (λ l. spelled ws (rows ws n part) ++ l) (drop-drop (size ws * n) at bytes)

-- as many cells and types are read as there are records
pub length_cells_of : (names : List ℕ) (start : ℕ) (rs : List (List ℕ)) → length (cells_of names start rs) ≡ length rs
length_cells_of names start [] = refl
length_cells_of names start (r ∷ rs) = ap suc (length_cells_of names (past_of r) rs)

pub length_types_of : (start queue_start : ℕ) (trs : List (List ℕ)) (regs : List RegType) (queue : List (ℕ × ℕ)) →
    length (types_of start queue_start trs regs queue) ≡ length trs
length_types_of start queue_start [] regs queue = refl
length_types_of start queue_start (r ∷ rs) regs queue =
    ap suc (length_types_of (regs_end_of r) (queue_end_of r) rs (drop (regs_end_of r - start) regs)
    (drop (queue_end_of r - queue_start) queue))

-- a cell that obeys the other rules and has a valid name obeys all rules
pub whole_cells : (v : Version) (types : ℕ) (cs : List Cell) → AllByRecursion (IsCellBut v types) cs →
    AllByRecursion (IsNamed v) cs → AllByRecursion (IsCell types) cs
whole_cells v types [] p q = tt
whole_cells v types (c ∷ cs) p q = (
  record {
    name = q.0.name;
    name_length = omega (arith, p.0.name_length, short_names v);
    basic = p.0.basic;
    init = p.0.init;
  },
  whole_cells v types cs p.1 q.1,
)

pub named_cells : (v : Version) (types : ℕ) (cs : List Cell) → AllByRecursion (IsCellBut v types) cs →
    AllByRecursion (IsNamed v) cs → AllByRecursion (SupportsName v) cs
named_cells v types [] p q = tt
named_cells v types (c ∷ cs) p q = (
  record { short = p.0.name_length; bytes = q.0.bytes },
  named_cells v types cs p.1 q.1,
)

-- all types with their rows
pub record TypesRead (h : Header) (nodes : List Node) (trs : List (List ℕ)) (rb qb : List ℕ) (k l : ℕ) : Type 0 where
  pub are : TypesAre h nodes 0 0 trs (map reg_type_of (rows reg_layout k rb)) (map pair_of (rows pair_layout l qb))
      (types_of 0 0 trs (map reg_type_of (rows reg_layout k rb)) (map pair_of (rows pair_layout l qb)))
  pub regs_written : map reg_row (map reg_type_of (rows reg_layout k rb)) ≡ rows reg_layout k rb
  pub queue_written : map queue_row (map pair_of (rows pair_layout l qb)) ≡ rows pair_layout l qb

pub types_whole : (h : Header) (nodes : List Node) (bytes : List ℕ) → AreBytes bytes → code_types_broken h nodes bytes
    ≡ None → TypesRead h nodes (type_rows_of h bytes) (regs_part h bytes) (queue_part h bytes) h.regs h.queue
unfolding code_types_broken
types_whole h nodes bytes b n =
    let trs = type_rows_of h bytes in
    let rb = regs_part h bytes in
    let qb = queue_part h bytes in
    let r1 = both (types_broken h nodes 0 0 (types_at h) trs)
    (regs_broken h nodes 0 (regs_at h) trs rb next queues_broken h nodes 0 (queue_at h) trs qb) n in
    let r2 = both (regs_broken h nodes 0 (regs_at h) trs rb) (queues_broken h nodes 0 (queue_at h) trs qb) r1.1 in
    let t = types_again h nodes 0 0 (types_at h) (regs_at h) (queue_at h) trs rb qb (bytes_after (regs_at h) bytes b)
    (bytes_after (queue_at h) bytes b)
    (rows_fit type_layout h.types (types_part h bytes) (tt, (tt, (tt, (tt, (tt, (tt, (tt, tt)))))))
    (bytes_after (types_at h) bytes b)) r1.0 r2.0 r2.1 in
    let all_regs_are : h.regs - 0 ≡ h.regs = omega arith in
    let all_queue_are : h.queue - 0 ≡ h.queue = omega arith in
    subst (λ k. TypesRead h nodes trs rb qb k h.queue) all_regs_are
    (subst (λ l. TypesRead h nodes trs rb qb (h.regs - 0) l) all_queue_are (record {
      are = t.are;
      regs_written = t.regs_written;
      queue_written = t.queue_written;
    }))

-- a prefix of the same length is the whole list
pub nothing_left : (all front left : List ℕ) → all ≡ front ++ left → length front ≡ length all → all ≡ front
nothing_left all front [] e l = e ∙ append-nil front
nothing_left all front (x ∷ xs) e l = absurd (omega (arith, ap length e, length-append front (x ∷ xs)))
