-- Typed states: the place of a run without a fault, and when a state fits a place.
use Rattle.std.specs.Prelude.{◌≡◌, ◌≢◌, ◌⊎◌, ℕ, zero, suc, ◌+◌, ◌==◌, if◌then◌else◌, List, [], map, Option, None, Some, slice_get}
use Rattle.std.proofs.Common.{refl, add-one}
use Rattle.std.specs.List.{AllZip}
use Rattle.ft_isa.specs.Words.{code_address}
use Rattle.ft_isa.specs.Pending.{Pending}
use Rattle.ft_isa.specs.declared.basic.Basic.{Basic}
use Rattle.ft_isa.specs.declared.colour.Coloured.{Coloured}
use Rattle.ft_isa.specs.declared.instr.Subst.{Subst}
use Rattle.ft_isa.specs.declared.instr.Instr.{Instr}
use Rattle.ft_isa.specs.declared.instr.Instr.TheVariants.{JmpB, BzB}
use Rattle.ft_isa.specs.declared.plan.Wild.{Wild}
use Rattle.ft_static.specs.Expression.{Valuation, IsLawful, word_at, valuation_after}
use Rattle.ft_static.specs.Form.{Polynomial, Updates, value_polynomial, value_updates}
use Rattle.ft_static.specs.NodeTree.{trees, integer_at, memory_at}
use Rattle.ft_types.specs.declared.object.Object.{Object}
use Rattle.ft_types.specs.declared.object.Block.{Block}
use Rattle.ft_types.specs.Objects.{block_start, block_type, block_instrs}
use Rattle.ft_semantics.specs.State.{State, Cells, start, held, word, cell_at}
use Rattle.ft_semantics.specs.Run.{state_after}
use Rattle.ft_isa.specs.BasicTypes.{code}
use Rattle.ft_typing.specs.TypedWord.{cell_type, block_at, HasType}
use Rattle.ft_typing.specs.Context.{Typed, StateOfD, d_zero, d_code, d_conditional, FormPair, Context, typed, rows_of, start_context}
use Rattle.ft_typing.specs.TypingRow.{row}
use Rattle.ft_typing.specs.RowWords.{Outcome, Goes, Ends, Fails}

-- PLACES

-- the place of a run: a block, the index of an instruction in it, the context there, and what the block's variables
-- denote
pub record Place : Type 0 where
  pub block : Block
  pub index : ℕ
  pub context : Context
  pub valuation : Valuation

-- the number of the instruction at a place
abbrev pub instr_number : Place → ℕ
instr_number p = p.block.start + p.index

-- the valuation after a transfer: each integer variable and the memory variable has the value that the node substituted
-- for it has before the transfer
unfoldable pub valuation_by : Object → Subst → Valuation → Valuation
valuation_by o u v = valuation_after (map (integer_at (trees o.nodes)) (rows_of o u)) (memory_at (trees o.nodes) u.memory) v

-- the entry block
abbrev pub entry_block : Object → Block
entry_block o = record { start = block_start o o.entry; code_type = block_type o o.entry }

-- the place at the start: the entry block's first instruction, its starting context, and the initial cells as the
-- value of the memory variable
abbrev pub start_place : Object → Place
start_place o = record {
  block = entry_block o;
  index = 0;
  context = start_context o (block_type o o.entry);
  valuation = record { integers = []; memory = (start o).cells };
}

-- the place after an instruction that stays in its block: the next index, and the row's context
abbrev pub further : Outcome → Place → Place
further (Goes c) p = record p { index = suc p.index; context = c }
further Ends p = p
further (Fails n) p = p

-- the place after a transfer: the target block with its starting context
abbrev pub arrived : Object → Option Block → Subst → Place → Place
arrived o None u p = p
arrived o (Some b) u p = record { block = b; index = 0; context = start_context o b.code_type; valuation = valuation_by o u p.valuation }

-- the place after an instruction that a state executes
abbrev pub place_after : Object → Instr → State → Place → Place
place_after o (JmpB rd u) s p = arrived o (block_at o (word s rd)) u p
place_after o (BzB rz rd u) s p = if word s rz == 0 then arrived o (block_at o (word s rd)) u p else further (row o p.context (BzB rz rd u)) p
place_after o i s p = further (row o p.context i) p

-- the place after a step from a state: a fetch does not change it
abbrev pub next_place : Object → Option Instr → State → Place → Place
next_place o None s p = p
next_place o (Some i) s p = place_after o i s p

-- the place after n steps of the run without a fault, as long as it is running
unfoldable pub place : Object → List Wild → ℕ → Place
place o w zero = start_place o
place o w (suc n) = let s = state_after o None w n in next_place o s.fetched s (place o w n)

pub place-zero : (o : Object) (w : List Wild) → place o w 0 ≡ start_place o
unfolding place
place-zero o w = refl

pub place-add_one : (o : Object) (w : List Wild) (n : ℕ) → place o w (n + 1) ≡ next_place o (state_after o None w n).fetched (state_after o None w n) (place o w n)
unfolding place
place-add_one o w n = rw add-one refl

-- WHAT FITS

-- a register has the colour and the basic type that are known of it, and the word that its form denotes
pub record FitsRegister (o : Object) (v : Valuation) (t : Typed) (x : Coloured) : Type 0 where
  pub colour : x.colour ≡ t.colour
  pub word : x.word ≡ value_polynomial t.form v
  pub basic : HasType o x.word t.basic

-- d is the word that a form denotes, and the code address of a block of this code type
pub record FitsTarget (o : Object) (v : Valuation) (t : ℕ) (f : Polynomial) (d : ℕ) : Type 0 where
  pub word : d ≡ value_polynomial f v
  pub basic : HasType o d (code t)

-- for Zero, d is 0; for Code, d is the target; for Conditional, d is the target if the test denotes 0, and otherwise 0
abbrev pub FitsD : Object → Valuation → StateOfD → ℕ → Type 0
FitsD o v d_zero d = d ≡ 0
FitsD o v (d_code t f) d = FitsTarget o v t f d
FitsD o v (d_conditional z t f) d = (value_polynomial z v ≡ 0 → FitsTarget o v t f d) × (value_polynomial z v ≢ 0 → d ≡ 0)

-- a pending pair is denoted by its pair of forms; its address is a cell's, and its value has that cell's basic type
pub record FitsPair (o : Object) (v : Valuation) (p : FormPair) (e : ℕ × ℕ) : Type 0 where
  pub address : e.0 ≡ value_polynomial p.0 v
  pub value : e.1 ≡ value_polynomial p.1 v
  pub basic : Basic
  pub cell : cell_type o e.0 ≡ Some basic
  pub typed : HasType o e.1 basic

-- the queue has the static queue's length, and each pair fits its pair of forms
abbrev pub FitsQueue : Object → Valuation → List FormPair → Pending → Type 0
FitsQueue o v ps q = AllZip (FitsPair o v) ps q

-- the word of the cell at an address is what the memory form denotes there, and has the cell's basic type
pub record FitsCell (o : Object) (v : Valuation) (m : Updates) (cells : Cells) (a : ℕ) (b : Basic) : Type 0 where
  pub word : cell_at cells a ≡ Some (word_at (value_updates m v) a)
  pub typed : HasType o (word_at (value_updates m v) a) b

-- each cell has such a word
unfoldable pub FitsCells : Object → Valuation → Updates → Cells → Type 0
FitsCells o v m cells = (a : ℕ) (b : Basic) → cell_type o a ≡ Some b → FitsCell o v m cells a b

-- what a context knows of a state holds under the valuation, which is lawful
pub record FitsContext (o : Object) (v : Valuation) (c : Context) (s : State) : Type 0 where
  pub lawful : IsLawful v
  pub registers : (r : ℕ) (t : Typed) → typed c r ≡ Some t → FitsRegister o v t (held s.registers r)
  pub d : FitsD o v c.d s.d
  pub queue : FitsQueue o v c.queue s.queue
  pub cells : FitsCells o v c.memory s.cells

-- a running state fits a place: both counters are the code address of its instruction, what is fetched is nothing or
-- that instruction, and what the context knows holds
pub record Fits (o : Object) (p : Place) (s : State) : Type 0 where
  pub pc_green : s.pc_green ≡ code_address (instr_number p)
  pub pc_blue : s.pc_blue ≡ code_address (instr_number p)
  pub fetched : (s.fetched ≡ None) ⊎ (s.fetched ≡ slice_get o.instrs (instr_number p))
  pub context : FitsContext o p.valuation p.context s

-- PLACES OF AN OBJECT

-- the context that a row leads to
abbrev pub context_of : Outcome → Option Context
context_of (Goes c) = Some c
context_of Ends = None
context_of (Fails n) = None

-- the context after an instruction
abbrev pub context_after : Object → Option Instr → Option Context → Option Context
context_after o (Some i) (Some c) = context_of (row o c i)
context_after o None c = None
context_after o (Some i) None = None

-- the context at index k of block b, if the rows before it go on
unfoldable pub context_at : Object → ℕ → ℕ → Option Context
context_at o b zero = Some (start_context o (block_type o b))
context_at o b (suc k) = context_after o (slice_get (block_instrs o b) k) (context_at o b k)

-- a place of an object: its block is one of the object's, and its context is the context there
pub record IsPlace (o : Object) (p : Place) : Type 0 where
  pub number : ℕ
  pub block : slice_get o.blocks number ≡ Some p.block
  pub context : context_at o number p.index ≡ Some p.context
