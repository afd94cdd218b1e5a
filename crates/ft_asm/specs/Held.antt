-- Which tables hold what the lines so far say: private to the assembler.
use Rattle.std.specs.Prelude.{◌≡◌, Bool, true, false, List, [], ◌∷◌, ◌++◌, length, Option, Some, None}
use Rattle.std.specs.List.{flat_map}
use Rattle.ft_static.specs.declared.node.Node.{Node}
use Rattle.ft_isa.specs.declared.instr.Instr.{Instr}
use Rattle.ft_asm.specs.declared.line.Code.{Code}
use Rattle.ft_types.specs.declared.object.Object.{Object}
use Rattle.ft_types.specs.declared.object.Cell.{Cell}
use Rattle.ft_types.specs.declared.object.CodeType.{CodeType}
use Rattle.ft_asm.specs.declared.line.Line.{Line}
use Rattle.ft_asm.specs.declared.draft.Place.{Place}
use Rattle.ft_asm.specs.declared.draft.Place.TheVariants as places
use Rattle.ft_asm.specs.declared.draft.Draft as tables
use Rattle.ft_asm.specs.Listings.{Part, Listing, rows_of, codes_of, instrs_from, blocks_from, instr_at, object_of}
use Rattle.ft_asm.specs.Drafts.{Draft, Start, InType, InBlock, Done, next}

-- whether a place is in a block
abbrev pub is_block : Place → Bool
is_block places.Start = false
is_block (places.InType ints memory) = false
is_block places.InBlock = true
is_block (places.Done b) = false

-- the tables have these contents
pub record IsTables (t : tables.Draft) (cs : List Cell) (ns : List Node) (ts : List CodeType) (ps : List Part) : Type 0 where
  pub cells : t.cells.items ≡ cs
  pub nodes : t.nodes.items ≡ ns
  pub types : t.types.items ≡ ts
  pub blocks : t.blocks.items ≡ blocks_from 0 ps
  pub instrs : t.instrs.items ≡ instrs_from 0 (flat_map codes_of ps)
  pub substs : t.substs.items ≡ flat_map rows_of (flat_map codes_of ps)

-- these are the rows of the last code type
pub record AreRows (t : tables.Draft) (u : CodeType) : Type 0 where
  pub regs : t.regs.items ≡ u.regs
  pub queue : t.queue.items ≡ u.queue

-- no rows are waiting for their code type
pub record HasNoRows (t : tables.Draft) : Type 0 where
  pub regs : t.regs.items ≡ []
  pub queue : t.queue.items ≡ []

-- the tables hold what the lines so far say
abbrev pub Holds : tables.Draft → Draft → Type 0
Holds t (Start cs ns) = (t.place ≡ places.Start) × HasNoRows t × IsTables t cs ns [] []
Holds t (InType cs ns ts u) = (t.place ≡ places.InType u.ints u.memory) × AreRows t u × IsTables t cs ns ts []
Holds t (InBlock cs ns ts ps p) = (t.place ≡ places.InBlock) × HasNoRows t × IsTables t cs ns ts (ps ++ p ∷ [])
Holds t (Done l) = (t.place ≡ places.Done l.entry) × HasNoRows t × IsTables t l.cells l.nodes l.types l.parts

-- the tables hold what the lines so far and this one say, or this line is not allowed after them
abbrev pub Adds : Bool → tables.Draft → Draft → Line → Type 0
Adds true t d line = (e : Draft) × (next d line ≡ Some e) × Holds t e
Adds false t d line = next d line ≡ None

-- the listing of a draft that ends here, without an entry block; none if the draft is done
abbrev pub shut : Draft → Option Listing
shut (Start cs ns) = Some (record { cells = cs; nodes = ns; types = []; parts = []; entry = 0 })
shut (InType cs ns ts u) = Some (record { cells = cs; nodes = ns; types = ts ++ u ∷ []; parts = []; entry = 0 })
shut (InBlock cs ns ts ps p) = Some (record { cells = cs; nodes = ns; types = ts; parts = ps ++ p ∷ []; entry = 0 })
shut (Done l) = None

-- the tables are those of the listing that ends here, or the draft is done
abbrev pub Closes : Bool → tables.Draft → Draft → Type 0
Closes true t d = (l : Listing) × (shut d ≡ Some l) × HasNoRows t × IsTables t l.cells l.nodes l.types l.parts
Closes false t d = shut d ≡ None

-- the tables after the rows of an instruction are appended, and the instruction that refers to these rows
pub record PutsCode (t u : tables.Draft) (code : Code) (i : Instr) : Type 0 where
  pub place : u.place ≡ t.place
  pub rows_kept : HasNoRows t → HasNoRows u
  pub cells : u.cells.items ≡ t.cells.items
  pub nodes : u.nodes.items ≡ t.nodes.items
  pub types : u.types.items ≡ t.types.items
  pub blocks : u.blocks.items ≡ t.blocks.items
  pub instrs : u.instrs.items ≡ t.instrs.items
  pub substs : u.substs.items ≡ t.substs.items ++ rows_of code
  pub instr : i ≡ instr_at (length t.substs.items) code

-- the object of a draft that is done; none for any other draft
abbrev pub Ends : Option Object → Draft → Type 0
Ends (Some o) (Done l) = o ≡ object_of l
Ends (Some o) d = ⊥
Ends None (Done l) = ⊥
Ends None d = Unit {0}
