-- What the run requires of modules and their linked object, and when a state of a module corresponds to a state of the
-- linked object.
use Rattle.std.proofs.Common.{◌≡◌, inl, ℕ, zero, suc, ◌+◌, ◌-◌, Bool, true, false, cond, ◌==◌, List, [], ◌∷◌, drop}
use Rattle.std.proofs.Common.{slice_get, Option, Some, None, refl, sym, ap, ◌∙◌, subst, arith}
use Rattle.std.specs.Prelude.{All}
use Rattle.std.specs.List.{AllZip}
use Rattle.std.specs.Option.{option_map, unwrap_or}
use Rattle.std.specs.FinMap as finite
use Rattle.std.specs.Ordering.{nat_cmp}
use Rattle.ft_isa.specs.Words.{code_address}
use Rattle.ft_isa.specs.Pending.{Pending}
use Rattle.ft_isa.specs.declared.basic.Base.{Base}
use Rattle.ft_isa.specs.declared.basic.Base.TheVariants.{Int, Code}
use Rattle.ft_isa.specs.declared.basic.Basic.{Basic}
use Rattle.ft_isa.specs.declared.instr.Instr.{Instr}
use Rattle.ft_isa.proofs.Lists.{all_there}
use Rattle.ft_static.specs.Expression.{Valuation}
use Rattle.ft_static.specs.Form.{Updates}
use Rattle.ft_types.specs.declared.object.Object.{Object}
use Rattle.ft_types.specs.declared.object.Block.{Block}
use Rattle.ft_types.specs.declared.object.Cell.{Cell}
use Rattle.ft_types.specs.declared.object.CodeType.{CodeType}
use Rattle.ft_types.specs.declared.object.RegType.{RegType}
use Rattle.ft_semantics.specs.declared.status.Status.TheVariants.{Running, Done}
use Rattle.ft_typing.specs.Accepted.{IsAccepted}
use Rattle.ft_types.specs.Objects.{basic_of, code_type_of, regs_of, reg_rows, block_type, block_instrs}
use Rattle.ft_types.specs.Spellable.{IsSpellable}
use Rattle.ft_semantics.specs.State.{State, Cells}
use Rattle.ft_typing.specs.TypedWord.{block_at, cell_of, cell_type, HasTypeOver, HasType}
use Rattle.ft_typing.specs.Context.{Typed, TypedRegisters, FormPair, Context, typed_row, registers_after, start_context}
use Rattle.ft_tolerance.specs.TypedState.{Place, instr_number, FitsQueue, FitsCells, FitsContext, Fits, context_at}
use Rattle.ft_tolerance.specs.TypedState.{IsPlace}
use Rattle.ft_types.proofs.Maps.{get-insert}
use Rattle.ft_modules.specs.CodeWalk.{Entered, code_walk}
use Rattle.ft_modules.specs.LikeTypes.{LikeTypes}
use Rattle.ft_modules.specs.Linkable.{HasPlainCell, HasPlainRow, HasPlainRows}
use Rattle.ft_modules.specs.declared.before.Before.{Before}
use Rattle.ft_modules.specs.Linked.{nothing_before, before_module, raised_block}
use Rattle.ft_modules.specs.Links.{Link}
use Rattle.ft_modules.specs.ModulesRun.{InModule, sent}
use Rattle.ft_modules.proofs.LinkedContexts.{AreSent, IsInstrOf, Beside}
use Rattle.ft_modules.proofs.LinkedBlocks.{starts_same}

-- the totals before module m
abbrev pub before_of : List Object → ℕ → Before
before_of modules m = before_module nothing_before modules m

-- a state with both counters at a code address
abbrev pub at_address : ℕ → State → State
at_address a s = record s { pc_green = a; pc_blue = a }

-- where a machine that arrives at block y of module m continues: at a block of some module whose code type agrees with
-- that of y; in the linked object, this block is at address a
pub record Lands (modules : List Object) (joins : List Link) (x : Object) (m : ℕ) (o : Object) (a w : ℕ) (y : Block) :
    Type 0 where
  pub number : ℕ
  pub object : Object
  pub there : slice_get modules number ≡ Some object
  pub block_number : ℕ
  pub block : Block
  pub block_there : slice_get object.blocks block_number ≡ Some block
  pub like : LikeTypes o y.code_type object block.code_type
  pub found : block_at x a ≡ Some (raised_block (before_of modules number) block)
  pub is_sent : (s : State) → s.fetched ≡ None → s.pc_green ≡ w → s.pc_blue ≡ w →
      ◌≡◌ {A = InModule} (sent modules joins (record { number = m; state = s })) (record {
        number = number;
        state = at_address (code_address block.start) s;
      })

-- what holds in the linked object of block y, which is block n of a module
pub record BlockOf (o x : Object) (k : Before) (to : ℕ → ℕ × ℕ) (n : ℕ) (y : Block) : Type 0 where
  pub there : slice_get x.blocks (k.blocks + n) ≡ Some (raised_block k y)
  pub alike : LikeTypes o y.code_type x (k.types + y.code_type)
  pub code : AllZip (IsInstrOf o x to) (block_instrs o n) (block_instrs x (k.blocks + n))

-- what holds in the linked object of object o, which is module m
pub record InWorld (modules : List Object) (joins : List Link) (x : Object) (m : ℕ) (o : Object) : Type 0 where
  pub spelled : IsSpellable o
  pub accepted : IsAccepted o
  pub same_cells : x.cells ≡ o.cells
  pub plain_cells : All HasPlainCell o.cells
  pub plain_rows : All HasPlainRows o.types
  pub to : ℕ → ℕ × ℕ
  pub are_sent : AreSent o x to
  pub walked : (n : ℕ) (y : Block) → slice_get o.blocks n ≡ Some y → code_walk o finite.empty 0 (block_instrs o n)
      ≡ None
  pub blocks : (n : ℕ) (y : Block) → slice_get o.blocks n ≡ Some y → BlockOf o x (before_of modules m) to n y
  pub lands : (w : ℕ) (y : Block) → block_at o w ≡ Some y → Lands modules joins x m o (to w).0 w y
  pub inside : (p : Place) (j : ℕ) (s : State) → IsPlace o p → p.index ≡ suc j → s.fetched ≡ None → s.pc_green
      ≡ code_address (instr_number p) → s.pc_blue ≡ code_address (instr_number p) →
      ◌≡◌ {A = InModule} (sent modules joins (record { number = m; state = s })) (record { number = m; state = s })

-- each module satisfies `InWorld`
abbrev pub World : List Object → List Link → Object → Type 0
World modules joins x = (m : ℕ) (o : Object) → slice_get modules m ≡ Some o → InWorld modules joins x m o

-- both machines have fetched an instruction, or neither has
pub data SameFetched (f g : Option Instr) : Type 0 where
  none_fetched : f ≡ None → g ≡ None → SameFetched f g
  both_fetched : (i j : Instr) → f ≡ Some i → g ≡ Some j → SameFetched f g

-- the state of a running machine in a module corresponds to that of a running machine in the linked object
pub record Stands (modules : List Object) (joins : List Link) (x : Object) (world : World modules joins x)
    (a : InModule) (t : State) : Type 0 where
  pub object : Object
  pub there : slice_get modules a.number ≡ Some object
  pub place : Place
  pub at : IsPlace object place
  pub fits : Fits object place a.state
  pub going : a.state.status ≡ Running
  pub other : Place
  pub other_at : IsPlace x other
  pub other_fits : Fits x other t
  pub other_going : t.status ≡ Running
  pub number : other_at.number ≡ (before_of modules a.number).blocks + at.number
  pub index : other.index ≡ place.index
  pub entered : Entered
  pub contexts : Beside object (world a.number object there).to entered place.context other.context
  pub rest : code_walk object entered place.index (drop place.index (block_instrs object at.number)) ≡ None
  pub values : place.valuation ≡ other.valuation
  pub fetched : SameFetched a.state.fetched t.fetched

-- a state of the modules' run, before it is sent, and a state of the linked object's run correspond
pub data AreTogether (modules : List Object) (joins : List Link) (x : Object) (world : World modules joins x)
    (a : InModule) (t : State) : Type 0 where
  both_ended : a.state.status ≡ Done → t.status ≡ Done → AreTogether modules joins x world a t
  both_stand : Stands modules joins x world (sent modules joins a) t → AreTogether modules joins x world a t

-- PLAIN TYPES

-- a word with base `int` has its type in all objects with the same cells
plain_over : (o z : Object) (w n : ℕ) (base : Base) → z.cells ≡ o.cells → base ≡ Int → HasTypeOver o w n base →
    HasTypeOver z w n base
unfolding cell_of
plain_over o z w zero Int e p h = tt
plain_over o z w zero (Code t) e p h = cc
plain_over o z w (suc n) base e p h = rw e h

-- likewise for a basic type
pub plain_type : (o z : Object) (w : ℕ) (b : Basic) → z.cells ≡ o.cells → b.base ≡ Int → HasType o w b → HasType z w b
plain_type o z w b e p h = plain_over o z w b.refs b.base e p h

-- objects with the same cells have the same cell types
same_cell_type : (o z : Object) (a : ℕ) → z.cells ≡ o.cells → cell_type z a ≡ cell_type o a
unfolding cell_of
same_cell_type o z a e = rw e refl

-- the type of a plain cell is plain
plain_cell_by : (o : Object) (u : Option Cell) (b : Basic) → ((c : Cell) → u ≡ Some c → c.basic.base ≡ Int) →
    option_map basic_of u ≡ Some b → b.base ≡ Int
plain_cell_by o None b h e = cc
plain_cell_by o (Some c) b h e = let same : c.basic ≡ b = cc in subst (λ (z : Basic). z.base ≡ Int) same (h c refl)

-- the cell at an address is one of the cells
cell_among : (o : Object) (a : ℕ) (c : Cell) → cell_of o a ≡ Some c → (k : ℕ) × (slice_get o.cells k ≡ Some c)
unfolding cell_of
cell_among o a c e = by_test _ e
  where
    by_test : (t : Bool) → cond t (slice_get o.cells (a - 1048576)) None ≡ Some c → (k : ℕ)
        × (slice_get o.cells k ≡ Some c)
    by_test true e = (a - 1048576, e)
    by_test false e = cc

-- if all cells are plain, so is the type of the cell at an address
plain_cell : (o : Object) (a : ℕ) (b : Basic) → All HasPlainCell o.cells → cell_type o a ≡ Some b → b.base ≡ Int
plain_cell o a b plain e = plain_cell_by o (cell_of o a) b (λ c f. let g = cell_among o a c f in
    all_there HasPlainCell o.cells g.0 c plain g.1) e

-- the types of registers stay plain when one is set to a plain type
plain_known : (b : Bool) (t y : Typed) (u : Option Typed) → t.basic.base ≡ Int → (u ≡ Some y → y.basic.base ≡ Int) →
    cond b (Some t) u ≡ Some y → y.basic.base ≡ Int
plain_known true t y u h k e = let same : t ≡ y = cc in subst (λ (z : Typed). z.basic.base ≡ Int) same h
plain_known false t y u h k e = k e

-- if all rows are plain, so are those after the first
all_rest : (r : RegType) (rs : List RegType) → All HasPlainRow (r ∷ rs) → All HasPlainRow rs
all_rest r rs h = λ k d lt. h (suc k) d (omega (arith, lt))

-- if all rows are plain, so is the first
all_first : (r : RegType) (rs : List RegType) → All HasPlainRow (r ∷ rs) → HasPlainRow r
all_first r rs h = h 0 r (omega arith)

-- the types of registers stay plain after plain rows
plain_registers : (o : Object) (m : TypedRegisters) (rows : List RegType) →
    ((r : ℕ) (y : Typed) → finite.get m r ≡ Some y → y.basic.base ≡ Int) → All HasPlainRow rows → (r : ℕ) (y : Typed) →
    finite.get (registers_after o m rows) r ≡ Some y → y.basic.base ≡ Int
unfolding registers_after
plain_registers o m [] h p r y e = h r y e
plain_registers o m (row ∷ rows) h p r y e =
    plain_registers o (finite.insert m row.reg.number (typed_row o row)) rows
    (λ q z i. plain_known (q == row.reg.number) (typed_row o row) z (finite.get m q) (all_first row rows p) (h q z)
    (rw (get-insert m row.reg.number (typed_row o row) q) at i))
    (all_rest row rows p) r y e

-- the register rows of an optional code type are plain if the code type has plain rows
rows_plain_by : (u : Option CodeType) → ((t : CodeType) → u ≡ Some t → HasPlainRows t) →
    All HasPlainRow (unwrap_or (option_map regs_of u) [])
rows_plain_by None h = λ k d lt. absurd (omega (arith, lt))
rows_plain_by (Some t) h = h t refl

-- if all code types have plain rows, the register rows of each are plain
rows_plain : (o : Object) (t : ℕ) → All HasPlainRows o.types → All HasPlainRow (reg_rows o t)
rows_plain o t h = rows_plain_by (slice_get o.types t) (λ c e. all_there HasPlainRows o.types t c h e)

-- a queue that fits in an object with plain cells fits in another with the same cells
plain_queue : (o z : Object) (v : Valuation) (ps : List FormPair) (q : Pending) → z.cells ≡ o.cells →
    All HasPlainCell o.cells → FitsQueue o v ps q → FitsQueue z v ps q
plain_queue o z v [] [] e p f = tt
plain_queue o z v [] (y ∷ q) e p f = absurd f
plain_queue o z v (r ∷ ps) [] e p f = absurd f
plain_queue o z v (r ∷ ps) (y ∷ q) e p f =
    let g = f.0 in (
      record {
        address = g.address;
        value = g.value;
        basic = g.basic;
        cell = same_cell_type o z y.0 e ∙ g.cell;
        typed = plain_type o z y.1 g.basic e (plain_cell o y.0 g.basic p g.cell) g.typed;
      },
      plain_queue o z v ps q e p f.1,
    )

-- cells that fit in an object with plain cells fit in another with the same cells
plain_memory : (o z : Object) (v : Valuation) (m : Updates) (cells : Cells) → z.cells ≡ o.cells →
    All HasPlainCell o.cells → FitsCells o v m cells → FitsCells z v m cells
unfolding FitsCells
plain_memory o z v m cells e p h = λ a b at.
    let at' : cell_type o a ≡ Some b = sym (same_cell_type o z a e) ∙ at in
    let f = h a b at' in
    record { word = f.word; typed = plain_type o z _ b e (plain_cell o a b p at') f.typed }

-- if cells and rows are plain, a state that fits a starting context also fits that of a code type that agrees, in an
-- object with the same cells
pub start_fits_like : (o z : Object) (v : Valuation) (t u : ℕ) (s : State) (a : ℕ) → z.cells ≡ o.cells →
    All HasPlainCell o.cells → All HasPlainRows o.types → LikeTypes o t z u → FitsContext o v (start_context o t) s →
    FitsContext z v (start_context z u) (at_address a s)
start_fits_like o z v t u s a e p r l f = subst (λ (c : Context). FitsContext z v c (at_address a s))
    (starts_same o z t u l) (record {
      lawful = f.lawful;
      registers = λ n y k.
          let g = f.registers n y k in
          record {
            colour = g.colour;
            word = g.word;
            basic =
                plain_type o z _ y.basic e (plain_registers o finite.empty (reg_rows o t) (λ q w i.
                let none = finite.get-empty {X = Typed} nat_cmp q in cc) (rows_plain o t r) n y k) g.basic;
          };
      d = f.d;
      queue = plain_queue o z v _ s.queue e p f.queue;
      cells = plain_memory o z v _ s.cells e p f.cells;
    })

-- the place at the start of a block
abbrev pub block_place : Object → Block → Valuation → Place
block_place o y v = record { block = y; index = 0; context = start_context o y.code_type; valuation = v }

-- the context at the start of a block is the starting context
pub block_begins : (o : Object) (n : ℕ) (y : Block) → slice_get o.blocks n ≡ Some y → context_at o n 0
    ≡ Some (start_context o y.code_type)
unfolding context_at
block_begins o n y there =
    let kind : block_type o n ≡ y.code_type = ap (λ z. unwrap_or (option_map code_type_of z) 0) there in
    ap (λ t. Some (start_context o t)) kind

-- a state that fits the starting context fits the place
pub block_start_fits : (o : Object) (y : Block) (v : Valuation) (s : State) →
    FitsContext o v (start_context o y.code_type) s → s.pc_green ≡ code_address y.start → s.pc_blue
    ≡ code_address y.start → s.fetched ≡ None → Fits o (block_place o y v) s
block_start_fits o y v s f g b n =
    let number : y.start ≡ y.start + 0 = omega arith in
    record { pc_green = g ∙ ap code_address number; pc_blue = b ∙ ap code_address number; fetched = inl n; context = f }
