-- Modules and maps for the examples.
use Rattle.std.specs.Prelude.{ℕ, List, [], ◌∷◌, Option, codes}
use Rattle.ft_isa.specs.declared.colour.Colour.TheVariants.{Green, Blue}
use Rattle.ft_isa.specs.declared.instr.Instr.{Instr}
use Rattle.ft_isa.specs.declared.instr.Instr.TheVariants.{JmpG, JmpB, Mov, St, Halt, Idx}
use Rattle.ft_isa.specs.declared.instr.Subst.{Subst}
use Rattle.ft_static.specs.declared.node.Shape.TheVariants as shape
use Rattle.ft_types.specs.declared.object.Object.{Object}
use Rattle.ft_typing.specs.Examples.{blue, green, int_cell, nothing_known, one_block, out, r0, r1, r2, r32, r33, stores_five, takes_address}
use Rattle.ft_typing.specs.JumpExamples.{five, stores_variable, variable_held}
use Rattle.ft_isa.specs.BasicTypes.{code, int, ref}
use Rattle.ft_link_map.specs.declared.link_map.Ask.{Ask}
use Rattle.ft_link_map.specs.declared.link_map.LinkMap.{LinkMap}
use Rattle.ft_semantics.specs.State.{start}
use Rattle.ft_modules.specs.Links.{links}
use Rattle.ft_modules.specs.ModulesRun.{InModule, sent}

-- a substitution without rows, at the start of the table
abbrev pub no_rows : Subst
no_rows = record { first = 0; past = 0; memory = 0 }

-- the instructions of a module that jumps to its stub
abbrev pub jumps_to_stub : List Instr
jumps_to_stub = Mov r1 (code 0) (green 5) ∷ Mov r33 (code 0) (blue 5) ∷ JmpG r1 ∷ JmpB r33 no_rows ∷ Halt ∷ []

-- the object of this module: block 0 jumps, and block 1 is the stub
abbrev pub caller : Object
caller = record (one_block 0 jumps_to_stub) { blocks = record { start = 0; code_type = 0 } ∷ record { start = 4; code_type = 0 } ∷ [] }

-- a module that stores five
abbrev pub storer : Object
storer = one_block 0 stores_five

-- a module whose entry block is its stub
abbrev pub only_stub : Object
only_stub = one_block 0 (Halt ∷ [])

-- an import or an export of the name `go`, with this module, block and line
abbrev pub go : ℕ → ℕ → ℕ → Ask
go m b l = record { «module» = m; block = b; name = codes "go"; line = l }

-- a map of two modules that imports this block of the first and exports block 0 of the second
abbrev pub importing : ℕ → LinkMap
importing b = record { files = codes "m" ∷ codes "a" ∷ []; exports = go 1 0 4 ∷ []; imports = go 0 b 2 ∷ [] }

-- a module that passes its own code address on as a number: the address is substituted for the target's variable
abbrev pub hands_address_over : Object
hands_address_over = record {
  cells = int_cell (codes "out") 0 ∷ [];
  nodes = record { scope = 0; shape = shape.Memory } ∷ record { scope = 1; shape = shape.Var 0 } ∷ record { scope = 0; shape = shape.Word 1 } ∷ [];
  types = nothing_known ∷ variable_held ∷ [];
  blocks = record { start = 0; code_type = 0 } ∷ record { start = 6; code_type = 1 } ∷ [];
  instrs = Mov r0 (code 0) (green 1) ∷ Mov r32 (code 0) (blue 1) ∷ Mov r1 (code 1) (green 7) ∷ Mov r33 (code 1) (blue 7) ∷ JmpG r1 ∷ JmpB r33 five ∷ stores_variable;
  substs = 2 ∷ [];
  entry = 0;
}

-- the instructions of a module that stores its own code address
abbrev pub stores_address : List Instr
stores_address =
    Mov r0 (ref int) (green out) ∷ Mov r1 (code 0) (green 1) ∷ Mov r32 (ref int) (blue out) ∷ Mov r33 (code 0) (blue 1)
    ∷ St Green r0 r1 ∷ St Blue r32 r33 ∷ Halt ∷ []

-- a map without exports or imports
abbrev pub no_links : LinkMap
no_links = record { files = codes "m" ∷ codes "a" ∷ []; exports = []; imports = [] }

-- a module that takes the address of a cell of a run, with the remainder of a variable among its nodes
abbrev pub names_cell : Object
names_cell = record (one_block 0 (takes_address 0 1)) {
  nodes = record { scope = 0; shape = shape.Memory } ∷ record { scope = 1; shape = shape.Var 0 } ∷ record { scope = 1; shape = shape.Rem 1 1 } ∷ [];
}

-- instructions that use a code address as the index of a cell
abbrev pub indexes_by_address : List Instr
indexes_by_address = Mov r1 (code 0) (green 1) ∷ Idx r2 r1 0 1 ∷ Halt ∷ []

-- a module with a code type that states that a register holds a code address
abbrev pub knows_address : Object
knows_address = record storer { types = record nothing_known { regs = record { reg = r0; colour = Green; basic = code 0; expr = 0 } ∷ [] } ∷ [] }

-- a module with a cell that holds a code address
abbrev pub holds_address : Object
holds_address = record storer { cells = record { name = codes "out"; basic = code 0; init = 1 } ∷ [] }

-- the machine of a module, with the counters at these addresses and this fetched instruction
abbrev pub machine_at : ℕ → ℕ → ℕ → Option Instr → InModule
machine_at m g b f = record { number = m; state = record (start caller) { pc_green = g; pc_blue = b; fetched = f } }

-- where a machine is sent before a step, in the run of the modules `caller` and `storer`
abbrev pub sent_from : InModule → InModule
sent_from x = sent (caller ∷ storer ∷ []) (links (importing 1)) x
