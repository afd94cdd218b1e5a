-- What the lines so far say, and what one more line changes: private to the assembler.
use Rattle.std.specs.Prelude.{ℕ, List, [], ◌∷◌, ◌++◌, map, Option, Some, None}
use Rattle.std.specs.Option.{option_and_then}
use Rattle.std.specs.List.{flat_map}
use Rattle.ft_static.specs.declared.node.Node.{Node}
use Rattle.ft_types.specs.declared.object.Cell.{Cell}
use Rattle.ft_types.specs.declared.object.CodeType.{CodeType}
use Rattle.ft_types.specs.declared.object.RegType.{RegType}
use Rattle.ft_asm.specs.declared.line.Code.{Code}
use Rattle.ft_asm.specs.declared.line.Line.{Line}
use Rattle.ft_asm.specs.declared.line.Line.TheVariants as lines
use Rattle.ft_asm.specs.Listings.{Part, Listing, type_lines, part_lines, listing_lines}

-- what the lines so far say, by the part of the text in which they end
pub data Draft : Type 0 where
  -- before the first code type: cells and nodes
  Start : List Cell → List Node → Draft
  -- in a code type, which may follow others
  InType : List Cell → List Node → List CodeType → CodeType → Draft
  -- in a block, which may follow others
  InBlock : List Cell → List Node → List CodeType → List Part → Part → Draft
  -- after the entry block
  Done : Listing → Draft

-- a code type without rows
abbrev pub fresh_type : ℕ → ℕ → CodeType
fresh_type ints memory = record { ints = ints; regs = []; queue = []; memory = memory }

-- a code type with one more row
abbrev pub with_reg : CodeType → RegType → CodeType
with_reg t r = record { ints = t.ints; regs = t.regs ++ r ∷ []; queue = t.queue; memory = t.memory }

abbrev pub with_pend : CodeType → ℕ × ℕ → CodeType
with_pend t q = record { ints = t.ints; regs = t.regs; queue = t.queue ++ q ∷ []; memory = t.memory }

-- a block without instructions, and a block with one more instruction
abbrev pub fresh_part : ℕ → Part
fresh_part t = record { code_type = t; codes = [] }

abbrev pub with_code : Part → Code → Part
with_code p c = record { code_type = p.code_type; codes = p.codes ++ c ∷ [] }

-- adding a cell, which is allowed only before the first node
abbrev pub more_cells : List Cell → List Node → Cell → Option Draft
more_cells cs [] c = Some (Start (cs ++ c ∷ []) [])
more_cells cs (n ∷ ns) c = None

-- adding a register row, which is allowed only before the code type's first queue row
abbrev pub more_regs : List Cell → List Node → List CodeType → CodeType → List (ℕ × ℕ) → RegType → Option Draft
more_regs cs ns ts t [] r = Some (InType cs ns ts (with_reg t r))
more_regs cs ns ts t (q ∷ qs) r = None

-- adding a line
abbrev pub next : Draft → Line → Option Draft
next (Start cs ns) (lines.Cell c) = more_cells cs ns c
next (Start cs ns) (lines.Node n) = Some (Start cs (ns ++ n ∷ []))
next (Start cs ns) (lines.Type ints memory) = Some (InType cs ns [] (fresh_type ints memory))
next (Start cs ns) (lines.Reg r) = None
next (Start cs ns) (lines.Pend a v) = None
next (Start cs ns) (lines.Block t) = Some (InBlock cs ns [] [] (fresh_part t))
next (Start cs ns) (lines.Code c) = None
next (Start cs ns) (lines.Entry b) = Some (Done (record { cells = cs; nodes = ns; types = []; parts = []; entry = b }))
next (InType cs ns ts t) (lines.Cell c) = None
next (InType cs ns ts t) (lines.Node n) = None
next (InType cs ns ts t) (lines.Type ints memory) = Some (InType cs ns (ts ++ t ∷ []) (fresh_type ints memory))
next (InType cs ns ts t) (lines.Reg r) = more_regs cs ns ts t t.queue r
next (InType cs ns ts t) (lines.Pend a v) = Some (InType cs ns ts (with_pend t (a, v)))
next (InType cs ns ts t) (lines.Block b) = Some (InBlock cs ns (ts ++ t ∷ []) [] (fresh_part b))
next (InType cs ns ts t) (lines.Code c) = None
next (InType cs ns ts t) (lines.Entry b) = Some (Done (record { cells = cs; nodes = ns; types = ts ++ t ∷ []; parts = []; entry = b }))
next (InBlock cs ns ts ps p) (lines.Cell c) = None
next (InBlock cs ns ts ps p) (lines.Node n) = None
next (InBlock cs ns ts ps p) (lines.Type ints memory) = None
next (InBlock cs ns ts ps p) (lines.Reg r) = None
next (InBlock cs ns ts ps p) (lines.Pend a v) = None
next (InBlock cs ns ts ps p) (lines.Block t) = Some (InBlock cs ns ts (ps ++ p ∷ []) (fresh_part t))
next (InBlock cs ns ts ps p) (lines.Code c) = Some (InBlock cs ns ts ps (with_code p c))
next (InBlock cs ns ts ps p) (lines.Entry b) = Some (Done (record { cells = cs; nodes = ns; types = ts; parts = ps ++ p ∷ []; entry = b }))
next (Done l) line = None

-- adding several lines
abbrev pub walk : Draft → List Line → Option Draft
walk d [] = Some d
walk d (line ∷ ls) = option_and_then (λ e. walk e ls) (next d line)

-- the lines so far
abbrev pub lines_so_far : Draft → List Line
lines_so_far (Start cs ns) = map lines.Cell cs ++ map lines.Node ns
lines_so_far (InType cs ns ts t) = map lines.Cell cs ++ (map lines.Node ns ++ (flat_map type_lines ts ++ type_lines t))
lines_so_far (InBlock cs ns ts ps p) = map lines.Cell cs ++ (map lines.Node ns ++ (flat_map type_lines ts ++ (flat_map part_lines ps ++ part_lines p)))
lines_so_far (Done l) = listing_lines l
