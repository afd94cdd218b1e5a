-- Where the code expects the sections to begin.
use Rattle.std.specs.Prelude.{◌≡◌, ℕ, List, length}
use Rattle.ft_format.specs.declared.header.Header.{Header}
use Rattle.ft_format.specs.declared.places.Places.{Places}
use Rattle.ft_format.specs.Broken.{IsSmall, nodes_at, types_at, regs_at, queue_at, blocks_at, instrs_at, substs_at, names_at, total}

-- these are the places computed from the counts of a header
pub record ArePlaces (h : Header) (p : Places) : Type 0 where
  pub nodes : p.nodes ≡ nodes_at h
  pub types : p.types ≡ types_at h
  pub regs : p.regs ≡ regs_at h
  pub queue : p.queue ≡ queue_at h
  pub blocks : p.blocks ≡ blocks_at h
  pub instrs : p.instrs ≡ instrs_at h
  pub substs : p.substs ≡ substs_at h
  pub names : p.names ≡ names_at h
  pub end : p.end ≡ total h

-- the counts are within their limits, and there are exactly as many bytes as they require
pub record IsWhole (h : Header) (bytes : List ℕ) : Type 0 where
  pub small : IsSmall h
  pub whole : length bytes ≡ total h
