-- What is known of each section if no rule is broken.
use Rattle.std.proofs.Common.{◌≡◌, ℕ, min, List, [], length, None}
use Rattle.std.specs.Prelude.{◌==◌, nat_le}
use Rattle.ft_format.specs.declared.object_error.ObjectError.TheVariants as errors
use Rattle.ft_format.specs.Layout.{rows, cell_layout, code_layout, pair_layout}
use Rattle.ft_format.specs.Versions.{version_of}
use Rattle.ft_format.specs.Rules.{must, ◌next◌, header_broken}
use Rattle.ft_format.specs.Broken.{cells_broken, nodes_broken, types_broken, regs_broken, queues_broken}
use Rattle.ft_format.specs.Broken.{code_types_broken, blocks_broken, instrs_broken, rows_taken, substs_broken}
use Rattle.ft_format.specs.Broken.{names_broken, nodes_at, types_at, regs_at, queue_at, blocks_at, instrs_at, substs_at}
use Rattle.ft_format.specs.Broken.{names_at, total, cells_part, nodes_part, regs_part, queue_part, blocks_part}
use Rattle.ft_format.specs.Broken.{substs_part, type_rows_of, instr_rows_of, cells_read, nodes_read, tables_broken}
use Rattle.ft_format.specs.Broken.{header_at, front_broken, broken}
use Rattle.ft_format.proofs.Unbroken.{both}
use Rattle.ft_format.proofs.Codes.{eq_held}
use Rattle.ft_format.proofs.Read.{header_again}
use Rattle.ft_format.specs.declared.header.Header.{Header}
use Rattle.ft_format.specs.Places.{IsWhole}

-- the header's counts are within their limits, there are as many bytes as they require, and no section breaks a rule
pub record AreUnbroken (h : Header) (bytes : List ℕ) : Type 0 where
  pub whole : IsWhole h bytes
  pub cells : cells_broken h 0 48 (rows cell_layout h.cells (cells_part bytes)) ≡ None
  pub nodes : nodes_broken (version_of h) [] (nodes_at h) (rows code_layout h.nodes (nodes_part h bytes)) ≡ None
  pub types : types_broken h (nodes_read h bytes) 0 0 (types_at h) (type_rows_of h bytes) ≡ None
  pub regs : regs_broken h (nodes_read h bytes) 0 (regs_at h) (type_rows_of h bytes) (regs_part h bytes) ≡ None
  pub queue : queues_broken h (nodes_read h bytes) 0 (queue_at h) (type_rows_of h bytes) (queue_part h bytes) ≡ None
  pub blocks : blocks_broken h None (blocks_at h) (rows pair_layout h.blocks (blocks_part h bytes)) ≡ None
  pub instrs : instrs_broken h (nodes_read h bytes) 0 (instrs_at h) (instr_rows_of h bytes) ≡ None

-- this holds of bytes that break no rule
pub unbroken : (bytes : List ℕ) → broken bytes ≡ None → AreUnbroken (header_at bytes) bytes
unfolding broken tables_broken code_types_broken
unbroken bytes n =
    let h = header_at bytes in
    let whole = must (length bytes == total h) (errors.Length (min (length bytes) (total h))) in
    let enough = must (nat_le 48 (length bytes)) (errors.Length (length bytes)) in
    let r0 = both (front_broken bytes) (tables_broken h bytes) n in
    let f1 = both (must (nat_le (length bytes) 67108864) (errors.Length 67108864))
    (enough next header_broken h next whole) r0.0 in
    let f2 = both enough (header_broken h next whole) f1.1 in
    let f3 = both (header_broken h) whole f2.1 in
    let nodes = nodes_read h bytes in
    let p1 = cells_broken h 0 48 (rows cell_layout h.cells (cells_part bytes)) in
    let p2 = nodes_broken (version_of h) [] (nodes_at h) (rows code_layout h.nodes (nodes_part h bytes)) in
    let t1 = types_broken h nodes 0 0 (types_at h) (type_rows_of h bytes) in
    let t2 = regs_broken h nodes 0 (regs_at h) (type_rows_of h bytes) (regs_part h bytes) in
    let t3 = queues_broken h nodes 0 (queue_at h) (type_rows_of h bytes) (queue_part h bytes) in
    let p4 = blocks_broken h None (blocks_at h) (rows pair_layout h.blocks (blocks_part h bytes)) in
    let p5 = instrs_broken h nodes 0 (instrs_at h) (instr_rows_of h bytes) in
    let p6 = substs_broken h nodes (rows_taken 0 (instr_rows_of h bytes)) (substs_at h) (substs_part h bytes) in
    let p7 = names_broken (version_of h) (total h) [] (names_at h) (cells_read h bytes) in
    let r1 = both p1 (p2 next ((t1 next (t2 next t3)) next (p4 next (p5 next (p6 next p7))))) r0.1 in
    let r2 = both p2 ((t1 next (t2 next t3)) next (p4 next (p5 next (p6 next p7)))) r1.1 in
    let r3 = both (t1 next (t2 next t3)) (p4 next (p5 next (p6 next p7))) r2.1 in
    let u1 = both t1 (t2 next t3) r3.0 in
    let u2 = both t2 t3 u1.1 in
    let r4 = both p4 (p5 next (p6 next p7)) r3.1 in
    let r5 = both p5 (p6 next p7) r4.1 in
    record {
      whole = record {
        small = (header_again h f3.0).small;
        whole = eq_held (length bytes) (total h) (errors.Length (min (length bytes) (total h))) f3.1;
      };
      cells = r1.0;
      nodes = r2.0;
      types = u1.0;
      regs = u2.0;
      queue = u2.1;
      blocks = r4.0;
      instrs = r5.0;
    }
