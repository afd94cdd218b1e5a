-- The bytes of a section.
use Rattle.std.specs.Prelude.{ℕ, ◌*◌, List, take, drop}
use Rattle.ft_format.specs.declared.header.Header.{Header}
use Rattle.ft_format.specs.Broken.{nodes_at, types_at, regs_at, queue_at, blocks_at, instrs_at, substs_at, names_at, header_at}
use Rattle.ft_view.specs.declared.section.Section.{Section}
use Rattle.ft_view.specs.declared.section.Section.TheVariants.{Cells, Nodes, Types, Regs, Queue, Blocks, Instrs, Substs, Names}

-- where a section begins, and how many bytes it has
abbrev pub section_at : Header → Section → ℕ
section_at h Cells = 48
section_at h Nodes = nodes_at h
section_at h Types = types_at h
section_at h Regs = regs_at h
section_at h Queue = queue_at h
section_at h Blocks = blocks_at h
section_at h Instrs = instrs_at h
section_at h Substs = substs_at h
section_at h Names = names_at h

abbrev pub section_size : Header → Section → ℕ
section_size h Cells = 16 * h.cells
section_size h Nodes = 16 * h.nodes
section_size h Types = 16 * h.types
section_size h Regs = 12 * h.regs
section_size h Queue = 8 * h.queue
section_size h Blocks = 8 * h.blocks
section_size h Instrs = 16 * h.instrs
section_size h Substs = 4 * h.substs
section_size h Names = h.names

-- the bytes of a section
abbrev pub section_of : Section → List ℕ → List ℕ
section_of s bytes = take (section_size (header_at bytes) s) (drop (section_at (header_at bytes) s) bytes)
