-- The rules that an object's tables obey, which are those of version 2 of the format. Any object that obeys them can be
-- spelled in bytes.
use Rattle.std.specs.Prelude.{◌≡◌, ◌≢◌, ℕ, suc, ◌+◌, ◌<◌, ◌≤◌, Bool, true, false, ◌&&◌, ◌||◌, ◌==◌, nat_le, List, [], ◌∷◌, length, map, sum_by, Option, Some, None, All}
use Rattle.std.specs.List.{list_all, AllPairs}
use Rattle.ft_isa.specs.Words.{IsWord, IsLength}
use Rattle.ft_isa.specs.declared.basic.Base.{Base}
use Rattle.ft_isa.specs.declared.basic.Base.TheVariants.{Int, Code}
use Rattle.ft_isa.specs.declared.basic.Basic.{Basic}
use Rattle.ft_isa.specs.declared.instr.Subst.{Subst}
use Rattle.ft_isa.specs.declared.instr.Instr.{Instr}
use Rattle.ft_isa.specs.declared.instr.Instr.TheVariants.{OpWord, Mov, JmpB, BzB, Idx}
use Rattle.ft_static.specs.declared.node.Node.{Node}
use Rattle.ft_static.specs.NodeRules.{MayName, AreNodes}
use Rattle.ft_types.specs.declared.object.Object.{Object}
use Rattle.ft_types.specs.declared.object.Cell.{Cell}
use Rattle.ft_types.specs.declared.object.Block.{Block}
use Rattle.ft_types.specs.declared.object.CodeType.{CodeType}
use Rattle.ft_types.specs.declared.object.RegType.{RegType}
use Rattle.ft_types.specs.Objects.{name_of, regs_of, queue_of}

-- an ASCII letter or an underscore
abbrev pub is_letter : ℕ → Bool
is_letter b = (nat_le 65 b && nat_le b 90) || (nat_le 97 b && nat_le b 122) || (b == 95)

-- a digit
abbrev pub is_digit : ℕ → Bool
is_digit b = nat_le 48 b && nat_le b 57

-- a square bracket
abbrev pub is_bracket : ℕ → Bool
is_bracket b = (b == 91) || (b == 93)

-- a byte allowed in a name
abbrev pub is_name_byte : ℕ → Bool
is_name_byte b = is_letter b || is_digit b || is_bracket b

-- a letter or an underscore, and then letters, digits, underscores and square brackets
abbrev pub is_name : List ℕ → Bool
is_name [] = false
is_name (b ∷ bs) = is_letter b && list_all is_name_byte bs

-- a base is `int`, or one of this many code types
abbrev pub IsBase : ℕ → Base → Type 0
IsBase types Int = Unit {0}
IsBase types (Code t) = t < types

-- a basic type has at most 8 refs and a valid base, if there are `types` code types
pub record IsBasic (types : ℕ) (b : Basic) : Type 0 where
  pub refs : b.refs ≤ 8
  pub base : IsBase types b.base

-- a cell has a name of 1 to 40 bytes, a basic type and a word
pub record IsCell (types : ℕ) (c : Cell) : Type 0 where
  pub name : is_name c.name ≡ true
  pub name_length : length c.name ≤ 40
  pub basic : IsBasic types c.basic
  pub init : IsWord c.init

-- n is the number of a node of this sort, with at most this scope
abbrev pub IsNodeIn : List Node → ℕ → Bool → ℕ → Type 0
IsNodeIn nodes scope memory n = MayName nodes (length nodes) scope memory n

-- a register row has a basic type, and the node of an integer within the scope
pub record IsRegRow (types : ℕ) (nodes : List Node) (scope : ℕ) (r : RegType) : Type 0 where
  pub basic : IsBasic types r.basic
  pub expr : IsNodeIn nodes scope false r.expr

-- the register numbers of these rows increase, and none is below `least`
abbrev pub AreRising : ℕ → List RegType → Type 0
AreRising least [] = Unit {0}
AreRising least (r ∷ rs) = (least ≤ r.reg.number) × AreRising (suc r.reg.number) rs

-- a queue row has the nodes of two integers within the scope
pub record IsQueueRow (nodes : List Node) (scope : ℕ) (q : ℕ × ℕ) : Type 0 where
  pub address : IsNodeIn nodes scope false q.0
  pub value : IsNodeIn nodes scope false q.1

-- a code type has at most 128 integer variables and 8 queue rows, its register rows are in increasing order, and its
-- rows and its memory are within the scope of the variables
pub record IsCodeType (types : ℕ) (nodes : List Node) (t : CodeType) : Type 0 where
  pub ints : t.ints ≤ 128
  pub regs : All (IsRegRow types nodes t.ints) t.regs
  pub rising : AreRising 0 t.regs
  pub queue_length : length t.queue ≤ 8
  pub queue : All (IsQueueRow nodes t.ints) t.queue
  pub memory : IsNodeIn nodes t.ints true t.memory

-- a block has one of `types` code types
abbrev pub HasCodeType : ℕ → Block → Type 0
HasCodeType types b = b.code_type < types

-- these blocks begin in increasing order, none before `least`, and all before `end`
abbrev pub AreBlocks : ℕ → ℕ → List Block → Type 0
AreBlocks end least [] = Unit {0}
AreBlocks end least (b ∷ bs) = (least ≤ b.start) × (b.start < end) × AreBlocks end (suc b.start) bs

-- there is a first block, and it begins at instruction 0
abbrev pub BeginAtZero : List Block → Type 0
BeginAtZero [] = ⊥
BeginAtZero (b ∷ bs) = b.start ≡ 0

-- the m cells from number `first` on are a run of valid length, and exist if there are `cells` cells
pub record IsRun (cells first m : ℕ) : Type 0 where
  pub begins : first < cells
  pub length : IsLength m
  pub ends : first + m ≤ cells

-- the rules for a single instruction: its number is a word, its basic type is valid, and its cells exist
abbrev pub IsInstr : ℕ → ℕ → Instr → Type 0
IsInstr types cells (OpWord op rd rs value) = IsWord value.word
IsInstr types cells (Mov rd basic value) = IsWord value.word × IsBasic types basic
IsInstr types cells (Idx rd rs first m) = IsRun cells first m
IsInstr types cells i = Unit {0}

-- the substitution that an instruction carries
abbrev pub subst_of : Instr → Option Subst
subst_of (JmpB rd subst) = Some subst
subst_of (BzB rz rd subst) = Some subst
subst_of i = None

-- a substitution takes the rows from number `first` on, at most 128, all of which exist, and names a memory
pub record IsSubst (nodes : List Node) (rows first : ℕ) (s : Subst) : Type 0 where
  pub first_is : s.first ≡ first
  pub rising : s.first ≤ s.past
  pub there : s.past ≤ rows
  pub few : s.past ≤ s.first + 128
  pub memory : IsNodeIn nodes 128 true s.memory

-- adds an instruction's substitution, if it carries one, before those that follow
abbrev pub before : Option Subst → List Subst → List Subst
before None ss = ss
before (Some s) ss = s ∷ ss

-- the substitutions of these instructions, in order
abbrev pub substs_of : List Instr → List Subst
substs_of [] = []
substs_of (i ∷ is) = before (subst_of i) (substs_of is)

-- these substitutions, one after another, take exactly the rows from number `first` to the last
abbrev pub Cover : List Node → ℕ → ℕ → List Subst → Type 0
Cover nodes rows first [] = first ≡ rows
Cover nodes rows first (s ∷ ss) = IsSubst nodes rows first s × Cover nodes rows s.past ss

-- how many register rows and queue rows the code types have in all
abbrev pub reg_row_count : List CodeType → ℕ
reg_row_count ts = sum_by (λ t. length (regs_of t)) ts

abbrev pub queue_row_count : List CodeType → ℕ
queue_row_count ts = sum_by (λ t. length (queue_of t)) ts

-- an object that can be spelled in bytes: every table obeys its rules
pub record IsSpellable (o : Object) : Type 0 where
  pub few_cells : length o.cells ≤ 1024
  pub cells : All (IsCell (length o.types)) o.cells
  pub names_differ : AllPairs (λ x y. x ≢ y) (map name_of o.cells)
  pub nodes : AreNodes o.nodes
  pub some_type : 0 < length o.types
  pub few_types : length o.types ≤ 4096
  pub few_reg_rows : reg_row_count o.types ≤ 262144
  pub few_queue_rows : queue_row_count o.types ≤ 32768
  pub types : All (IsCodeType (length o.types) o.nodes) o.types
  pub few_blocks : length o.blocks ≤ 65536
  pub first_block : BeginAtZero o.blocks
  pub blocks : AreBlocks (length o.instrs) 0 o.blocks
  pub block_types : All (HasCodeType (length o.types)) o.blocks
  pub some_instr : 0 < length o.instrs
  pub few_instrs : length o.instrs ≤ 65536
  pub instrs : All (IsInstr (length o.types) (length o.cells)) o.instrs
  pub few_substs : length o.substs ≤ 1048576
  pub covered : Cover o.nodes (length o.substs) 0 (substs_of o.instrs)
  pub substs : All (IsNodeIn o.nodes 128 false) o.substs
  pub entry : o.entry < length o.blocks
