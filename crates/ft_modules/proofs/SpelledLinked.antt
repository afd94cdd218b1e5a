-- The linked object is spellable.
use Rattle.std.proofs.Common.{◌≡◌, ⊎_elim, ℕ, zero, suc, ◌+◌, ◌-◌, ◌<◌, ◌≤◌, Bool, true, false, List, [], ◌∷◌, ◌++◌}
use Rattle.std.proofs.Common.{length, map, take, drop, slice_get, Option, Some, None, refl, sym, ap, ◌∙◌, subst, arith}
use Rattle.std.specs.Prelude.{sum_by, slice_range}
use Rattle.std.specs.Option.{option_map, unwrap_or}
use Rattle.std.proofs.lemmas.Bool.{cases_lt}
use Rattle.std.proofs.lemmas.List.{length-map}
use Rattle.std.proofs.lemmas.List.Sums.{sum_by-cons, sum_by-append}
use Rattle.std.proofs.lemmas.Option.{slice_get_within, same_Some}
use Rattle.ft_isa.specs.declared.basic.Base.{Base}
use Rattle.ft_isa.specs.declared.basic.Base.TheVariants.{Int, Code}
use Rattle.ft_isa.specs.declared.basic.Basic.{Basic}
use Rattle.ft_isa.specs.declared.colour.Coloured.{Coloured}
use Rattle.ft_isa.specs.declared.reg.Reg.{Reg}
use Rattle.ft_isa.specs.declared.instr.Subst.{Subst}
use Rattle.ft_isa.specs.declared.instr.Instr.{Instr}
use Rattle.ft_isa.specs.declared.instr.Instr.TheVariants.{Mov}
use Rattle.ft_isa.proofs.Lists.{all_there}
use Rattle.ft_static.specs.NodeRules.{MayName, IsShape, IsNode}
use Rattle.ft_static.specs.NodeParts.{is_memory}
use Rattle.ft_static.specs.declared.node.Node.{Node}
use Rattle.ft_static.specs.declared.node.Shape.{Shape}
use Rattle.ft_static.specs.declared.node.Shape.TheVariants as shape
use Rattle.ft_static.proofs.NodeParts.{shape_renamed}
use Rattle.ft_static.proofs.NodeTrees.{each_part, parts_named}
use Rattle.ft_types.specs.declared.object.Object.{Object}
use Rattle.ft_types.specs.declared.object.Block.{Block}
use Rattle.ft_types.specs.declared.object.CodeType.{CodeType}
use Rattle.ft_types.specs.declared.object.RegType.{RegType}
use Rattle.ft_types.specs.Objects.{start_of, block_start, block_end, block_instrs}
use Rattle.ft_types.specs.Spellable.{IsBase, IsBasic, IsRegRow, AreRising, IsQueueRow, IsCodeType, AreBlocks}
use Rattle.ft_types.specs.Spellable.{BeginAtZero, subst_of, before, substs_of, IsSubst, Cover, IsSpellable}
use Rattle.ft_modules.specs.declared.before.Before.{Before}
use Rattle.ft_modules.specs.Linked.{after_module, before_module, raised_shape, raised_node, raised_row, raised_pair}
use Rattle.ft_modules.specs.Linked.{raised_type, raised_block, raised_subst, raised_mov, raised_instr, Change}
use Rattle.ft_modules.specs.Linked.{change_at, changed_by, changed_mov, changed_instr, laid, blocks_part, instrs_part}
use Rattle.ft_modules.specs.CodeWalk.{code_claimed}
use Rattle.ft_modules.proofs.Elements.{all_of}
use Rattle.ft_modules.proofs.ModuleParts.{first_block}
use Rattle.ft_modules.proofs.Trees.{StandIn, get-drop}

-- NODES

-- a raised node has the same sort
raised_sort : (k : ℕ) (y : Shape) → is_memory (raised_shape k y) ≡ is_memory y
raised_sort k (shape.Word w) = refl
raised_sort k y = refl

-- a node that may be named still may be when raised
pub raised_name : (ns ms : List Node) (k n j scope : ℕ) (b : Bool) (m : ℕ) → StandIn ns ms k → k + n ≤ j →
    MayName ns n scope b m → MayName ms j scope b (k + m)
raised_name ns ms k n j scope b m s le h = record {
  lower = (let l = h.lower in omega (arith, l, le));
  node = raised_node k h.node;
  found = s m h.node h.found;
  sort = raised_sort k h.node.shape ∙ h.sort;
  scope_within = h.scope_within;
}

-- the parts of a raised node may be named
raised_parts : (ns ms : List Node) (k n scope : ℕ) (y : Shape) → StandIn ns ms k → IsShape ns n scope y →
    IsShape ms (k + n) scope (raised_shape k y)
raised_parts ns ms k n scope y s h = shape_renamed ns ms n (k + n) scope (λ m. k + m) y h (each_part _ _
    (λ b m. raised_name ns ms k n (k + n) scope b m s (omega arith)) y (parts_named ns n scope y h))

-- a raised node obeys the rules of nodes
pub raised_is_node : (ns ms : List Node) (k n : ℕ) (y : Node) → StandIn ns ms k → IsNode ns n y →
    IsNode ms (k + n) (raised_node k y)
raised_is_node ns ms k n y s h = record { scope = h.scope; shape = raised_parts ns ms k n y.scope y.shape s h.shape }

-- TYPES

-- a base stays valid among more code types
base_more : (t u : ℕ) (b : Base) → t ≤ u → IsBase t b → IsBase u b
base_more t u Int le h = tt
base_more t u (Code n) le h = omega (arith, le, h)

-- a basic type stays valid among more code types
pub basic_more : (t u : ℕ) (b : Basic) → t ≤ u → IsBasic t b → IsBasic u b
basic_more t u b le h = record { refs = h.refs; base = base_more t u b.base le h.base }

-- raised register rows are still in increasing order
rows_rise : (k least : ℕ) (rs : List RegType) → AreRising least rs → AreRising least (map (raised_row k) rs)
rows_rise k least [] h = tt
rows_rise k least (r ∷ rs) h = (h.0, rows_rise k (suc r.reg.number) rs h.1)

-- an element of a mapped list is the image of an element
pub from_map : {X Y : Type 0} (f : X → Y) (xs : List X) (n : ℕ) (y : Y) → slice_get (map f xs) n ≡ Some y → (x : X)
    × (slice_get xs n ≡ Some x) × (y ≡ f x)
from_map f [] n y e = cc
from_map f (x ∷ xs) zero y e = (x, refl, same_Some y (f x) (sym e))
from_map f (x ∷ xs) (suc n) y e = from_map f xs n y e

-- a raised code type obeys the rules of code types
pub raised_code_type : (t u k : ℕ) (ns ms : List Node) (y : CodeType) → t ≤ u → k + length ns ≤ length ms →
    StandIn ns ms k → IsCodeType t ns y → IsCodeType u ms (raised_type k y)
raised_code_type t u k ns ms y le few s h = record {
  ints = h.ints;
  regs = all_of _ _ (λ n r e.
      let x = from_map (raised_row k) y.regs n r e in
      let is = all_there (IsRegRow t ns y.ints) y.regs n x.0 h.regs x.1 in
      subst (IsRegRow u ms y.ints) (sym x.2) (record {
        basic = basic_more t u x.0.basic le is.basic;
        expr = raised_name ns ms k (length ns) (length ms) y.ints false x.0.expr s few is.expr;
      }));
  rising = rows_rise k 0 y.regs h.rising;
  queue_length = (let l = length-map y.queue (raised_pair k) in let q = h.queue_length in omega (arith, l, q));
  queue = all_of _ _ (λ n r e.
      let x = from_map (raised_pair k) y.queue n r e in
      let is = all_there (IsQueueRow ns y.ints) y.queue n x.0 h.queue x.1 in
      subst (IsQueueRow ms y.ints) (sym x.2) (record {
        address =
            raised_name ns ms k (length ns) (length ms) y.ints false x.0.0 s few is.address;
        value = raised_name ns ms k (length ns) (length ms) y.ints false x.0.1 s few is.value;
      }));
  memory = raised_name ns ms k (length ns) (length ms) y.ints true y.memory s few h.memory;
}

-- if raising a code type keeps its count, raising all code types keeps the sum of their counts
pub raised_count : (f : CodeType → ℕ) (k : ℕ) (ts : List CodeType) → ((t : CodeType) → f (raised_type k t) ≡ f t) →
    sum_by f (map (raised_type k) ts) ≡ sum_by f ts
raised_count f k [] h = refl
raised_count f k (t ∷ ts) h = sum_by-cons f (raised_type k t) (map (raised_type k) ts)
    ∙ (λ i. h t i + raised_count f k ts h i) ∙ sym (sum_by-cons f t ts)

-- a sum over a table is the sum over the modules
pub laid_sum : {X : Type 0} (part : Before → Object → List X) (f : X → ℕ) (size : Object → ℕ) →
    ((k : Before) (o : Object) → sum_by f (part k o) ≡ size o) → (k : Before) (modules : List Object) →
    sum_by f (laid part k modules) ≡ sum_by size modules
unfolding laid
laid_sum part f size h k [] = refl
laid_sum part f size h k (o ∷ os) = sum_by-append f (part k o) (laid part (after_module k o) os)
    ∙ (λ i. h k o i + laid_sum part f size h (after_module k o) os i) ∙ sym (sum_by-cons size o os)

-- BLOCKS

-- blocks that are in order from a least place are also in order from a lower one
blocks_lower : (end least l : ℕ) (bs : List Block) → l ≤ least → AreBlocks end least bs → AreBlocks end l bs
blocks_lower end least l [] le h = tt
blocks_lower end least l (b ∷ bs) le h = (omega (arith, le, h.0), h.1, h.2)

-- a module's blocks, raised and followed by the blocks of later modules, are in order
blocks_join : (end least e l : ℕ) (k : Before) (bs cs : List Block) → AreBlocks e l bs → l ≤ e → least ≤ k.instrs + l →
    k.instrs + e ≤ end → AreBlocks end (k.instrs + e) cs → AreBlocks end least (map (raised_block k) bs ++ cs)
blocks_join end least e l k [] cs h few le fit rest = blocks_lower end (k.instrs + e) least cs (omega (arith, few, le))
    rest
blocks_join end least e l k (b ∷ bs) cs h few le fit rest = (
  omega (arith, h.0, le),
  omega (arith, h.1, fit),
  blocks_join end (suc (k.instrs + b.start)) e (suc b.start) k bs cs h.2 (omega (arith, h.1)) (omega arith) fit
      rest,
)

-- the blocks of all modules are in order
pub blocks_laid : (end : ℕ) (k : Before) (modules : List Object) →
    ((m : ℕ) (o : Object) → slice_get modules m ≡ Some o → IsSpellable o) →
    k.instrs + sum_by (λ (o : Object). length o.instrs) modules ≤ end →
    AreBlocks end k.instrs (laid blocks_part k modules)
unfolding laid
blocks_laid end k [] s fit = tt
blocks_laid end k (o ∷ os) s fit =
    let sum = sum_by-cons (λ (z : Object). length z.instrs) o os in
    blocks_join end k.instrs (length o.instrs) 0 k o.blocks (laid blocks_part (after_module k o) os) (s 0 o refl).blocks
    (omega arith) (omega arith) (omega (arith, sum, fit))
    (blocks_laid end (after_module k o) os (λ m z e. s (suc m) z e) (omega (arith, sum, fit)))

-- if the first block starts at 0, the blocks begin at 0
pub begin_at_zero : (bs : List Block) (y : Block) → slice_get bs 0 ≡ Some y → y.start ≡ 0 → BeginAtZero bs
begin_at_zero [] y e z = cc
begin_at_zero (b ∷ bs) y e z = let same : b ≡ y = cc in ap (λ (k : Block). k.start) same ∙ z

-- SUBSTITUTIONS

-- a changed `mov` carries no substitution
changed_subst_by : (rd : Reg) (v : Coloured) (b : Basic) (c : Option Change) → subst_of (changed_by rd v b c) ≡ None
changed_subst_by rd v b None = refl
changed_subst_by rd v b (Some c) = refl

-- nor does a `mov` that may be changed
changed_mov_subst : (cs : List Change) (rd : Reg) (v : Coloured) (b : Basic) (t : Option ℕ) →
    subst_of (changed_mov cs rd v b t) ≡ None
changed_mov_subst cs rd v b None = refl
changed_mov_subst cs rd v b (Some t) = changed_subst_by rd v b (change_at cs v.word)

-- changing an instruction keeps its substitution
changed_subst : (cs : List Change) (i : Instr) → subst_of (changed_instr cs i) ≡ subst_of i
changed_subst cs (Mov rd b v) = changed_mov_subst cs rd v b (code_claimed b)
changed_subst cs i = refl

-- changing instructions keeps their substitutions
pub changed_substs : (cs : List Change) (is : List Instr) → substs_of (map (changed_instr cs) is) ≡ substs_of is
changed_substs cs [] = refl
changed_substs cs (i ∷ is) = λ j. before (changed_subst cs i j) (changed_substs cs is j)

-- a raised `mov` carries no substitution
raised_mov_subst : (k : Before) (rd : Reg) (v : Coloured) (b : Basic) (t : Option ℕ) → subst_of (raised_mov k rd v b t)
    ≡ None
raised_mov_subst k rd v b None = refl
raised_mov_subst k rd v b (Some t) = refl

-- a raised instruction carries its substitution, raised
raised_subst_is : (k : Before) (i : Instr) → subst_of (raised_instr k i) ≡ option_map (raised_subst k) (subst_of i)
raised_subst_is k (Mov rd b v) = raised_mov_subst k rd v b (code_claimed b)
raised_subst_is k i = refl

-- a raised substitution obeys the rules
raised_is_subst : (ns ms : List Node) (k : Before) (rows all first : ℕ) (u : Subst) → StandIn ns ms k.nodes →
    k.nodes + length ns ≤ length ms → k.substs + rows ≤ all → IsSubst ns rows first u →
    IsSubst ms all (k.substs + first) (raised_subst k u)
raised_is_subst ns ms k rows all first u s few fit h = record {
  first_is = ap (λ n. k.substs + n) h.first_is;
  rising = (let r = h.rising in omega (arith, r));
  there = (let r = h.there in omega (arith, r, fit));
  few = (let r = h.few in omega (arith, r));
  memory = raised_name ns ms k.nodes (length ns) (length ms) 128 true u.memory s few h.memory;
}

-- an optional first substitution, raised, and those after it cover the rows if they did before
cover_by : (ns ms : List Node) (k : Before) (rows all first : ℕ) (us vs : List Subst) → StandIn ns ms k.nodes →
    k.nodes + length ns ≤ length ms → k.substs + rows ≤ all →
    ((f : ℕ) → Cover ns rows f us → Cover ms all (k.substs + f) vs) → (u : Option Subst) →
    Cover ns rows first (before u us) → Cover ms all (k.substs + first) (before (option_map (raised_subst k) u) vs)
cover_by ns ms k rows all first us vs s few fit h None c = h first c
cover_by ns ms k rows all first us vs s few fit h (Some u) c = (
  raised_is_subst ns ms k rows all first u s few fit c.0,
  h u.past c.1,
)

-- the substitutions of a module's instructions, raised and followed by those of later modules, cover the rows in order
cover_join : (ns ms : List Node) (k : Before) (rows all first : ℕ) (is : List Instr) (rest : List Instr) →
    StandIn ns ms k.nodes → k.nodes + length ns ≤ length ms → k.substs + rows ≤ all →
    Cover ns rows first (substs_of is) → Cover ms all (k.substs + rows) (substs_of rest) →
    Cover ms all (k.substs + first) (substs_of (map (raised_instr k) is ++ rest))
cover_join ns ms k rows all first [] rest s few fit h after =
    subst (λ n. Cover ms all (k.substs + n) (substs_of rest)) (sym h) after
cover_join ns ms k rows all first (i ∷ is) rest s few fit h after =
    subst (λ (u : Option Subst). Cover ms all (k.substs + first)
    (before u (substs_of (map (raised_instr k) is ++ rest)))) (sym (raised_subst_is k i))
    (cover_by ns ms k rows all first (substs_of is) (substs_of (map (raised_instr k) is ++ rest)) s few fit (λ f c.
    cover_join ns ms k rows all f is rest s few fit c after) (subst_of i) h)

-- the substitutions of all modules cover all rows in order
pub cover_laid : (ms : List Node) (all : ℕ) (k : Before) (modules : List Object) →
    ((m : ℕ) (o : Object) → slice_get modules m ≡ Some o → IsSpellable o) →
    ((m : ℕ) (o : Object) → slice_get modules m ≡ Some o → StandIn o.nodes ms (before_module k modules m).nodes
    × ((before_module k modules m).nodes + length o.nodes ≤ length ms)) →
    k.substs + sum_by (λ (o : Object). length o.substs) modules ≡ all →
    Cover ms all k.substs (substs_of (laid instrs_part k modules))
unfolding laid before_module
cover_laid ms all k [] s n fit = omega (arith, fit)
cover_laid ms all k (o ∷ os) s n fit =
    let sum = sum_by-cons (λ (z : Object). length z.substs) o os in
    let here = n 0 o refl in
    let start : k.substs + 0 ≡ k.substs = omega arith in
    subst (λ (j : ℕ). Cover ms all j (substs_of (map (raised_instr k) o.instrs
    ++ laid instrs_part (after_module k o) os))) start
    (cover_join o.nodes ms k (length o.substs) all 0 o.instrs (laid instrs_part (after_module k o) os) here.0 here.1
    (omega (arith, sum, fit)) (s 0 o refl).covered
    (cover_laid ms all (after_module k o) os (λ m z e. s (suc m) z e) (λ m z e.
    n (suc m) z e) (omega (arith, sum, fit))))

-- every instruction is in a block
block_of : (end least : ℕ) (bs : List Block) (n : ℕ) → AreBlocks end least bs → (b : Block) → slice_get bs 0 ≡ Some b →
    b.start ≤ n → n < end → (j : ℕ) × (y : Block) × (slice_get bs j ≡ Some y) × (y.start ≤ n)
    × (n < unwrap_or (option_map start_of (slice_get bs (suc j))) end)
block_of end least [] n h b e le lt = cc
block_of end least (c ∷ []) n h b e le lt = (
  0,
  c,
  refl,
  (let same : c ≡ b = cc in subst (λ (z : Block). z.start ≤ n) (sym same) le),
  lt,
)
block_of end least (c ∷ d ∷ ds) n h b e le lt =
    let same : c ≡ b = cc in
    ⊎_elim
    (λ (before : n < d.start). (0, c, refl, subst (λ (z : Block). z.start ≤ n) (sym same) le, before))
    (λ (after : d.start ≤ n). let r = block_of end (suc c.start) (d ∷ ds) n h.2 d refl after lt in
    (suc r.0, r.1, r.2, r.3, r.4))
    (cases_lt n d.start)

-- an element with an index below k is among the first k
take_get : {X : Type 0} (xs : List X) (k n : ℕ) (x : X) → slice_get xs n ≡ Some x → n < k → slice_get (take k xs) n
    ≡ Some x
take_get [] k n x e lt = cc
take_get (y ∷ xs) zero n x e lt = absurd (omega (arith, lt))
take_get (y ∷ xs) (suc k) zero x e lt = e
take_get (y ∷ xs) (suc k) (suc n) x e lt = take_get xs k n x e (omega (arith, lt))

in_range : (is : List Instr) (a b n : ℕ) (i : Instr) → slice_get is n ≡ Some i → a ≤ n → n < b →
    slice_get (slice_range is a b) (n - a) ≡ Some i
in_range is a b n i e le lt = take_get (drop a is) (b - a) (n - a) i (get-drop is a (n - a)
    ∙ ap (slice_get is) (omega (arith, le)) ∙ e) (omega (arith, le, lt))

-- so each instruction is an instruction of some block
pub instr_in_block : (o : Object) (n : ℕ) (i : Instr) → IsSpellable o → slice_get o.instrs n ≡ Some i → (j : ℕ)
    × (y : Block) × (m : ℕ) × (slice_get o.blocks j ≡ Some y) × (slice_get (block_instrs o j) m ≡ Some i)
instr_in_block o n i spelled e =
    let first = first_block o.blocks spelled.first_block in
    let zero_start = first.2 in
    let r = block_of (length o.instrs) 0 o.blocks n spelled.blocks first.0 first.1 (omega (arith, zero_start))
    (slice_get_within o.instrs n i e) in
    let start : block_start o r.0 ≡ r.1.start = ap (λ (u : Option Block). unwrap_or (option_map start_of u) 0) r.2 in (
      r.0,
      r.1,
      n - block_start o r.0,
      r.2,
      in_range o.instrs (block_start o r.0) (block_end o r.0) n i e
          (omega (arith, start, r.3)) r.4,
    )
