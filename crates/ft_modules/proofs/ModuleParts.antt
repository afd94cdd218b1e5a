-- A module's parts in the linked object, with their numbers raised.
use Rattle.std.proofs.Common.{◌≡◌, ℕ, zero, suc, ◌+◌, ◌-◌, ◌≤◌, List, [], ◌∷◌, length, map, take, drop, slice_get}
use Rattle.std.proofs.Common.{Option, Some, None, refl, sym, ap, ◌∙◌, arith}
use Rattle.std.specs.Prelude.{slice_range}
use Rattle.std.specs.Option.{option_map, unwrap_or}
use Rattle.std.proofs.lemmas.List.{length-map, take-map, drop-map}
use Rattle.std.proofs.lemmas.Option.{slice_get_within, slice_get_past}
use Rattle.ft_isa.specs.declared.instr.Instr.{Instr}
use Rattle.ft_isa.proofs.Lists.{there_mapped}
use Rattle.ft_static.specs.declared.node.Node.{Node}
use Rattle.ft_types.specs.declared.object.Object.{Object}
use Rattle.ft_types.specs.declared.object.Block.{Block}
use Rattle.ft_types.specs.declared.object.CodeType.{CodeType}
use Rattle.ft_types.specs.Objects.{start_of, block_end}
use Rattle.ft_types.specs.Spellable.{BeginAtZero, IsSpellable}
use Rattle.ft_link_map.specs.declared.link_map.LinkMap.{LinkMap}
use Rattle.ft_modules.specs.declared.before.Before.{Before}
use Rattle.ft_modules.specs.Linked.{nothing_before, after_module, raised_node, raised_type, raised_block, raised_instr}
use Rattle.ft_modules.specs.Linked.{Change, change_of, changed_instr, laid, nodes_part, types_part, blocks_part}
use Rattle.ft_modules.specs.Linked.{instrs_part, substs_part, linked}
use Rattle.ft_modules.specs.Links.{links}
use Rattle.ft_modules.proofs.World.{before_of}
use Rattle.ft_modules.proofs.Laying.{Among, get_among, range_among, placed, before_next, laid_to_end}

-- the offset of a module's nodes
abbrev pub of_nodes : Before → ℕ
of_nodes k = k.nodes

-- the offset of its code types
abbrev pub of_types : Before → ℕ
of_types k = k.types

-- the offset of its blocks
abbrev pub of_blocks : Before → ℕ
of_blocks k = k.blocks

-- the offset of its instructions
abbrev pub of_instrs : Before → ℕ
of_instrs k = k.instrs

-- the offset of its substitution rows
abbrev pub of_substs : Before → ℕ
of_substs k = k.substs

-- the offset of nodes grows by the length of the module's part
pub nodes_grow : (k : Before) (o : Object) → of_nodes (after_module k o) ≡ of_nodes k + length (nodes_part k o)
nodes_grow k o = ap (λ n. k.nodes + n) (sym (length-map o.nodes (raised_node k.nodes)))

-- likewise for code types
pub types_grow : (k : Before) (o : Object) → of_types (after_module k o) ≡ of_types k + length (types_part k o)
types_grow k o = ap (λ n. k.types + n) (sym (length-map o.types (raised_type k.nodes)))

-- likewise for blocks
pub blocks_grow : (k : Before) (o : Object) → of_blocks (after_module k o) ≡ of_blocks k + length (blocks_part k o)
blocks_grow k o = ap (λ n. k.blocks + n) (sym (length-map o.blocks (raised_block k)))

-- likewise for instructions
pub instrs_grow : (k : Before) (o : Object) → of_instrs (after_module k o) ≡ of_instrs k + length (instrs_part k o)
instrs_grow k o = ap (λ n. k.instrs + n) (sym (length-map o.instrs (raised_instr k)))

-- likewise for substitution rows
pub substs_grow : (k : Before) (o : Object) → of_substs (after_module k o) ≡ of_substs k + length (substs_part k o)
substs_grow k o = ap (λ n. k.substs + n) (sym (length-map o.substs (λ n. k.nodes + n)))

-- a module's part is in the table of all modules
pub among_all : {X : Type 0} (part : Before → Object → List X) (offset : Before → ℕ) → offset nothing_before ≡ 0 →
    ((k : Before) (o : Object) → offset (after_module k o) ≡ offset k + length (part k o)) →
    (modules : List Object) (m : ℕ) (o : Object) → slice_get modules m ≡ Some o →
    Among (laid part nothing_before modules) (part (before_of modules m) o) (offset (before_of modules m))
among_all part offset z grows modules m o e =
    let p = placed part offset grows nothing_before modules m o e in
    let long = p.long in
    record { front = p.front; back = p.back; is = p.is; long = omega arith }

-- a module's instruction, raised and changed
abbrev pub linked_instr : List Change → Before → Instr → Instr
linked_instr cs k i = changed_instr cs (raised_instr k i)

-- where a module's parts are in the linked object
pub record Sits (o x : Object) (k : Before) (cs : List Change) : Type 0 where
  pub nodes : (n : ℕ) (y : Node) → slice_get o.nodes n ≡ Some y → slice_get x.nodes (k.nodes + n)
      ≡ Some (raised_node k.nodes y)
  pub types : (n : ℕ) (y : CodeType) → slice_get o.types n ≡ Some y → slice_get x.types (k.types + n)
      ≡ Some (raised_type k.nodes y)
  pub blocks : (n : ℕ) (y : Block) → slice_get o.blocks n ≡ Some y → slice_get x.blocks (k.blocks + n)
      ≡ Some (raised_block k y)
  pub substs : (a b : ℕ) → a ≤ b → b ≤ length o.substs → slice_range x.substs (k.substs + a) (k.substs + b)
      ≡ map (λ n. k.nodes + n) (slice_range o.substs a b)
  pub code : (a b : ℕ) → a ≤ b → b ≤ length o.instrs → slice_range x.instrs (k.instrs + a) (k.instrs + b)
      ≡ map (linked_instr cs k) (slice_range o.instrs a b)
  pub ends : (n : ℕ) (y : Block) → slice_get o.blocks n ≡ Some y → block_end x (k.blocks + n) ≡ k.instrs + block_end o n

-- an index without an element is at or past the end
pub past_end : {X : Type 0} (xs : List X) (n : ℕ) → slice_get xs n ≡ None → length xs ≤ n
past_end [] n e = omega arith
past_end (y ∷ xs) zero e = cc
past_end (y ∷ xs) (suc n) e = omega (arith, past_end xs n e)

-- a slice of a mapped list is the mapped slice
pub mapped_range : {X Y : Type 0} (f : X → Y) (xs : List X) (a b : ℕ) → slice_range (map f xs) a b
    ≡ map f (slice_range xs a b)
mapped_range f xs a b = ap (take (b - a)) (drop-map f a xs) ∙ take-map f (b - a) (drop a xs)

-- raising all instructions and then changing them equals raising and changing each
map_twice : (cs : List Change) (k : Before) (is : List Instr) → map (changed_instr cs) (map (raised_instr k) is)
    ≡ map (linked_instr cs k) is
map_twice cs k [] = refl
map_twice cs k (i ∷ is) = ap (λ (z : List Instr). linked_instr cs k i ∷ z) (map_twice cs k is)

-- a list of blocks that begins at 0 has a first block, which starts at 0
pub first_block : (bs : List Block) → BeginAtZero bs → (y : Block) × (slice_get bs 0 ≡ Some y) × (y.start ≡ 0)
first_block [] h = absurd h
first_block (y ∷ ys) h = (y, refl, h)

module _ (linkage : LinkMap) (first : Object) (others : List Object) where
  -- the modules, the linked object and its changes
  abbrev modules : List Object
  modules = first ∷ others

  abbrev x : Object
  x = linked linkage first others

  abbrev cs : List Change
  cs = map (change_of (first ∷ others)) (links linkage)

  -- a module's block is in the linked object, raised
  block_sits : (m : ℕ) (o : Object) → slice_get modules m ≡ Some o → (n : ℕ) (y : Block) → slice_get o.blocks n
      ≡ Some y → slice_get x.blocks ((before_of modules m).blocks + n) ≡ Some (raised_block (before_of modules m) y)
  block_sits m o e n y f = get_among _ _ (before_of modules m).blocks n _
      (among_all blocks_part of_blocks refl blocks_grow modules m o e)
      (there_mapped (raised_block (before_of modules m)) o.blocks n y f)

  -- a module's last block ends, in the linked object, at the end of the module's instructions
  end_by : (m : ℕ) (o : Object) → slice_get modules m ≡ Some o → (n : ℕ) → suc n ≡ length o.blocks →
      ((j : ℕ) (z : Object) → slice_get modules j ≡ Some z → IsSpellable z) → (u : Option Object) →
      slice_get modules (suc m) ≡ u → block_end x ((before_of modules m).blocks + n)
      ≡ (before_of modules m).instrs + length o.instrs
  end_by m o e n last spelled (Some z) f =
      let k = before_of modules m in
      let step = before_next nothing_before modules m o e in
      let y = first_block z.blocks (spelled (suc m) z f).first_block in
      let blocks : (before_of modules (suc m)).blocks ≡ k.blocks + length o.blocks = ap of_blocks step in
      let at : suc (k.blocks + n) ≡ (before_of modules (suc m)).blocks + 0 = omega arith in
      let start = y.2 in
      let instrs : (before_of modules (suc m)).instrs ≡ k.instrs + length o.instrs = ap of_instrs step in
      ap (λ i. unwrap_or (option_map start_of (slice_get x.blocks i)) (length x.instrs)) at
      ∙ ap (λ (b : Option Block). unwrap_or (option_map start_of b) (length x.instrs))
      (block_sits (suc m) z f 0 y.0 y.1)
      ∙ (omega arith)
  end_by m o e n last spelled None f =
      let k = before_of modules m in
      let step = before_next nothing_before modules m o e in
      let blocks : (before_of modules (suc m)).blocks ≡ k.blocks + length o.blocks = ap of_blocks step in
      let all_blocks : 0 + length x.blocks ≡ (before_of modules (suc m)).blocks =
      laid_to_end blocks_part of_blocks blocks_grow nothing_before modules m o e f in
      let all_instrs : 0 + length (laid instrs_part nothing_before modules) ≡ (before_of modules (suc m)).instrs =
      laid_to_end instrs_part of_instrs instrs_grow nothing_before modules m o e f in
      let instrs : (before_of modules (suc m)).instrs ≡ k.instrs + length o.instrs = ap of_instrs step in
      let mapped : length x.instrs ≡ length (laid instrs_part nothing_before modules) =
      length-map (laid instrs_part nothing_before modules) (changed_instr cs) in
      ap (λ (b : Option Block). unwrap_or (option_map start_of b) (length x.instrs))
      (slice_get_past x.blocks (suc (k.blocks + n)) (omega arith))
      ∙ omega arith

  -- a module's block ends, in the linked object, at its raised end
  end_of : (m : ℕ) (o : Object) → slice_get modules m ≡ Some o → (n : ℕ) (y : Block) → slice_get o.blocks n ≡ Some y →
      ((j : ℕ) (z : Object) → slice_get modules j ≡ Some z → IsSpellable z) → (u : Option Block) →
      slice_get o.blocks (suc n) ≡ u → block_end x ((before_of modules m).blocks + n)
      ≡ (before_of modules m).instrs + unwrap_or (option_map start_of u) (length o.instrs)
  end_of m o e n y f spelled (Some z) g =
      let k = before_of modules m in
      let at : suc (k.blocks + n) ≡ k.blocks + suc n = omega arith in
      ap (λ i. unwrap_or (option_map start_of (slice_get x.blocks i)) (length x.instrs)) at
      ∙ ap (λ (b : Option Block). unwrap_or (option_map start_of b) (length x.instrs)) (block_sits m o e (suc n) z g)
  end_of m o e n y f spelled None g =
      let below = slice_get_within o.blocks n y f in
      let above = past_end o.blocks (suc n) g in
      end_by m o e n (omega arith) spelled (slice_get modules (suc m)) refl

  -- each module's parts are in the linked object
  pub sits : (m : ℕ) (o : Object) → slice_get modules m ≡ Some o →
      ((j : ℕ) (z : Object) → slice_get modules j ≡ Some z → IsSpellable z) → Sits o x (before_of modules m) cs
  sits m o e spelled =
      let k = before_of modules m in
      record {
        nodes = λ n y f. get_among _ _ k.nodes n _ (among_all nodes_part of_nodes refl nodes_grow modules m o e)
            (there_mapped (raised_node k.nodes) o.nodes n y f);
        types = λ n y f. get_among _ _ k.types n _ (among_all types_part of_types refl types_grow modules m o e)
            (there_mapped (raised_type k.nodes) o.types n y f);
        blocks = block_sits m o e;
        substs = λ a b le few.
            let long = length-map o.substs (λ n. k.nodes + n) in
            range_among _ _ k.substs a b (among_all substs_part of_substs refl substs_grow modules m o e) le
            (omega arith) ∙ mapped_range (λ n. k.nodes + n) o.substs a b;
        code = λ a b le few.
            let long = length-map o.instrs (raised_instr k) in
            mapped_range (changed_instr cs) (laid instrs_part nothing_before modules) (k.instrs + a) (k.instrs + b)
            ∙ ap (map (changed_instr cs)) (range_among _ _ k.instrs a b
            (among_all instrs_part of_instrs refl instrs_grow modules m o e) le (omega arith)
            ∙ mapped_range (raised_instr k) o.instrs a b)
            ∙ map_twice cs k (slice_range o.instrs a b);
        ends = λ n y f. end_of m o e n y f spelled (slice_get o.blocks (suc n)) refl;
      }
