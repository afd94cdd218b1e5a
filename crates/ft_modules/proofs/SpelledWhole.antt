-- The linked object is spellable: all its tables obey their rules.
use Rattle.std.proofs.Common.{◌≡◌, ℕ, zero, suc, ◌+◌, ◌<◌, ◌≤◌, false, ◌&&◌, ◌==◌, List, ◌∷◌, ◌++◌, length, map}
use Rattle.std.proofs.Common.{slice_get, Option, Some, None, refl, sym, ap, ◌∙◌, subst, arith}
use Rattle.std.specs.Prelude.{All, sum_by, find}
use Rattle.std.proofs.lemmas.List.{length-map, length-append}
use Rattle.ft_isa.specs.Words.{IsWord}
use Rattle.ft_isa.specs.declared.basic.Base.{Base}
use Rattle.ft_isa.specs.declared.basic.Base.TheVariants.{Int, Code}
use Rattle.ft_isa.specs.declared.basic.Basic.{Basic}
use Rattle.ft_isa.specs.declared.colour.Coloured.{Coloured}
use Rattle.ft_isa.specs.declared.reg.Reg.{Reg}
use Rattle.ft_isa.specs.declared.instr.Instr.{Instr}
use Rattle.ft_isa.specs.declared.instr.Instr.TheVariants.{OpWord, Mov, Idx}
use Rattle.ft_static.specs.NodeRules.{AreNodes}
use Rattle.ft_types.specs.declared.object.Object.{Object}
use Rattle.ft_types.specs.declared.object.Cell.{Cell}
use Rattle.ft_typing.specs.Context.{start_context}
use Rattle.ft_types.specs.Objects.{regs_of, queue_of, block_instrs}
use Rattle.ft_types.specs.Spellable.{IsBasic, IsBase, IsCell, IsNodeIn, IsCodeType, HasCodeType, IsRun, IsInstr, Cover}
use Rattle.ft_types.specs.Spellable.{substs_of, reg_row_count, queue_row_count, IsSpellable}
use Rattle.ft_isa.specs.BasicTypes.{code}
use Rattle.ft_isa.proofs.Lists.{there_below, all_there}
use Rattle.ft_typing.specs.TypedWord.{code_type_at, HasType}
use Rattle.ft_tolerance.proofs.Lists.{found_there}
use Rattle.ft_tolerance.proofs.Transfers.{block_of_type, block_there}
use Rattle.ft_link_map.specs.declared.link_map.LinkMap.{LinkMap}
use Rattle.ft_modules.specs.Linkable.{HasPlainCell, IsModule, IsJoined, AreLinkable}
use Rattle.ft_modules.specs.declared.before.Before.{Before}
use Rattle.ft_modules.specs.Linked.{nothing_before, after_module, before_module, raised_node, raised_row, raised_pair}
use Rattle.ft_modules.specs.Linked.{raised_type, raised_block, raised_instr, Change, change_of, change_at, changed_by}
use Rattle.ft_modules.specs.Linked.{changed_instr, laid, nodes_part, types_part, blocks_part, instrs_part, substs_part}
use Rattle.ft_modules.specs.Linked.{entry_by, linked}
use Rattle.ft_modules.specs.Links.{Link, links}
use Rattle.ft_modules.proofs.Elements.{all_of}
use Rattle.ft_tolerance.proofs.BlockPlaces.{within_blocks}
use Rattle.ft_modules.proofs.LaidNodes.{laid_nodes}
use Rattle.ft_modules.proofs.Laying.{whence, laid_length}
use Rattle.ft_modules.proofs.ModuleInstrs.{typed_moves}
use Rattle.ft_modules.proofs.Landings.{start_there, type_there}
use Rattle.ft_modules.proofs.ModuleParts.{of_nodes, of_types, of_blocks, of_instrs, of_substs, nodes_grow, types_grow}
use Rattle.ft_modules.proofs.ModuleParts.{blocks_grow, instrs_grow, substs_grow, among_all, linked_instr, Sits, sits}
use Rattle.ft_modules.proofs.ModuleParts.{first_block}
use Rattle.ft_modules.proofs.SpelledLinked.{raised_name, basic_more, from_map, raised_code_type, raised_count, laid_sum}
use Rattle.ft_modules.proofs.SpelledLinked.{blocks_laid, begin_at_zero, changed_substs, cover_laid, instr_in_block}
use Rattle.ft_modules.proofs.World.{before_of}

-- the base `int` is valid among any code types
plain_cell_base : (t : ℕ) (b : Base) → b ≡ Int → IsBase t b
plain_cell_base t Int e = tt
plain_cell_base t (Code n) e = cc

-- a module's part of a table ends within the table
table_within : {X : Type 0} (part : Before → Object → List X) (offset : Before → ℕ) → offset nothing_before ≡ 0 →
    ((k : Before) (o : Object) → offset (after_module k o) ≡ offset k + length (part k o)) →
    (modules : List Object) (m : ℕ) (o : Object) → slice_get modules m ≡ Some o → (n : ℕ) →
    length (part (before_of modules m) o) ≡ n → offset (before_of modules m) + n ≤ length
    (laid part nothing_before modules)
table_within part offset z grows modules m o e n f =
    let a = among_all part offset z grows modules m o e in
    let long = a.long in
    let whole = ap (λ (l : List _). length l) a.is in
    let l1 = length-append a.front (part (before_of modules m) o ++ a.back) in
    let l2 = length-append (part (before_of modules m) o) a.back in
    omega (arith, long, whole, l1, l2, f)

-- the totals before the first module are all 0
pub none_before_first : (first : Object) (others : List Object) → before_of (first ∷ others) 0 ≡ nothing_before
unfolding before_module
none_before_first first others = refl

module _ (linkage : LinkMap) (first : Object) (others : List Object) (h : AreLinkable linkage first others) where
  -- the modules, the linked object and its changes
  abbrev modules : List Object
  modules = first ∷ others

  abbrev x : Object
  x = linked linkage first others

  abbrev cs : List Change
  cs = map (change_of (first ∷ others)) (links linkage)

  -- each of the modules satisfies `IsModule`
  is_module : (m : ℕ) (o : Object) → slice_get modules m ≡ Some o → IsModule first.cells o
  is_module m o e = all_there (IsModule first.cells) modules m o h.modules e

  -- each module is spellable
  spelled_module : (m : ℕ) (o : Object) → slice_get modules m ≡ Some o → IsSpellable o
  spelled_module m o e = (is_module m o e).spelled

  -- each module's parts are in the linked object
  place_of : (m : ℕ) (o : Object) → slice_get modules m ≡ Some o → Sits o x (before_of modules m) cs
  place_of m o e = sits linkage first others m o e spelled_module

  -- the linked object has as many nodes as all modules together
  nodes_long : length x.nodes ≡ sum_by (λ (o : Object). length o.nodes) modules
  nodes_long = laid_length nodes_part _ (λ k o. length-map o.nodes (raised_node k.nodes)) nothing_before modules

  -- likewise for code types
  types_long : length x.types ≡ sum_by (λ (o : Object). length o.types) modules
  types_long = laid_length types_part _ (λ k o. length-map o.types (raised_type k.nodes)) nothing_before modules

  -- likewise for blocks
  blocks_long : length x.blocks ≡ sum_by (λ (o : Object). length o.blocks) modules
  blocks_long = laid_length blocks_part _ (λ k o. length-map o.blocks (raised_block k)) nothing_before modules

  -- likewise for instructions
  instrs_long : length x.instrs ≡ sum_by (λ (o : Object). length o.instrs) modules
  instrs_long = length-map (laid instrs_part nothing_before modules) (changed_instr cs)
      ∙ laid_length instrs_part _ (λ k o. length-map o.instrs (raised_instr k)) nothing_before modules

  -- likewise for substitution rows
  substs_long : length x.substs ≡ sum_by (λ (o : Object). length o.substs) modules
  substs_long = laid_length substs_part _ (λ k o. length-map o.substs (λ n. k.nodes + n)) nothing_before modules

  -- a module's nodes are within the table
  nodes_within : (m : ℕ) (o : Object) → slice_get modules m ≡ Some o →
      (before_of modules m).nodes + length o.nodes ≤ length x.nodes
  nodes_within m o e = table_within nodes_part of_nodes refl nodes_grow modules m o e (length o.nodes)
      (length-map o.nodes (raised_node (before_of modules m).nodes))

  -- so are its code types
  types_within : (m : ℕ) (o : Object) → slice_get modules m ≡ Some o →
      (before_of modules m).types + length o.types ≤ length x.types
  types_within m o e = table_within types_part of_types refl types_grow modules m o e (length o.types)
      (length-map o.types (raised_type (before_of modules m).nodes))

  -- so are its blocks
  blocks_within : (m : ℕ) (o : Object) → slice_get modules m ≡ Some o →
      (before_of modules m).blocks + length o.blocks ≤ length x.blocks
  blocks_within m o e = table_within blocks_part of_blocks refl blocks_grow modules m o e (length o.blocks)
      (length-map o.blocks (raised_block (before_of modules m)))

  -- so are its instructions
  instrs_within : (m : ℕ) (o : Object) → slice_get modules m ≡ Some o →
      (before_of modules m).instrs + length o.instrs ≤ length x.instrs
  instrs_within m o e =
      let l = table_within instrs_part of_instrs refl instrs_grow modules m o e (length o.instrs)
      (length-map o.instrs (raised_instr (before_of modules m))) in
      let n = length-map (laid instrs_part nothing_before modules) (changed_instr cs) in
      omega (arith, l, n)

  -- NODES

  -- all nodes obey the rules
  nodes_are : AreNodes x.nodes
  nodes_are = laid_nodes modules spelled_module h.few.nodes

  -- TYPES

  -- all code types obey the rules
  types_are : All (IsCodeType (length x.types) x.nodes) x.types
  types_are = all_of _ _ (λ n y e.
      let w = whence types_part of_types types_grow nothing_before modules n y e in
      let k = before_of modules w.number in
      let s = place_of w.number w.object w.there in
      let z = from_map (raised_type k.nodes) w.object.types w.place y w.found in
      let o = w.object in
      let is = all_there (IsCodeType (length o.types) o.nodes) o.types w.place z.0
      (spelled_module w.number o w.there).types z.1 in
      let many = types_within w.number o w.there in
      subst (IsCodeType (length x.types) x.nodes) (sym z.2)
      (raised_code_type (length o.types) (length x.types) k.nodes o.nodes x.nodes z.0 (omega (arith, many))
      (nodes_within w.number o w.there) s.nodes is))

  -- BLOCKS

  -- each block has a code type
  block_types_are : All (HasCodeType (length x.types)) x.blocks
  block_types_are = all_of _ _ (λ n y e.
      let w = whence blocks_part of_blocks blocks_grow nothing_before modules n y e in
      let k = before_of modules w.number in
      let o = w.object in
      let z = from_map (raised_block k) o.blocks w.place y w.found in
      let is : z.0.code_type < length o.types = all_there (HasCodeType (length o.types)) o.blocks w.place z.0
      (spelled_module w.number o w.there).block_types z.1 in
      let many = types_within w.number o w.there in
      subst (HasCodeType (length x.types)) (sym z.2) (omega (arith, is, many)))

  -- INSTRUCTIONS

  -- a link's change has a valid word and code type
  change_is_lawful : (l : Link) → IsJoined modules l → IsWord (change_of modules l).to
      × ((change_of modules l).code_type < length x.types)
  change_is_lawful l j =
      let z = j.to in
      let b = there_below z.object.blocks l.to_block z.below in
      let start = start_there modules l.to_module l.to_block z.object b.0 z.there b.1 in
      let kind = type_there modules l.to_module l.to_block z.object b.0 z.there b.1 in
      let spelled = spelled_module l.to_module z.object z.there in
      let inside = (within_blocks _ _ _ l.to_block b.0 spelled.blocks b.1).1 in
      let is : b.0.code_type < length z.object.types = all_there (HasCodeType (length z.object.types)) z.object.blocks
      l.to_block b.0 spelled.block_types b.1 in
      let many = types_within l.to_module z.object z.there in
      let room = instrs_within l.to_module z.object z.there in
      let few = h.few.instrs in
      (omega (arith, start, inside, room, instrs_long, few), omega (arith, kind, is, many))

  -- a `mov` of a code address, raised and perhaps changed, is valid
  moved_lawful : (m : ℕ) (o : Object) → slice_get modules m ≡ Some o → (rd : Reg) (v : Coloured) (t : ℕ) →
      t < length o.types → code_type_at o v.word ≡ Some t → (c : Option Change) →
      ((d : Change) → c ≡ Some d → IsWord d.to × (d.code_type < length x.types)) →
      IsInstr (length x.types) (length x.cells) (changed_by rd (record {
        colour = v.colour;
        word = (before_of modules m).instrs + v.word;
      }) (code ((before_of modules m).types + t)) c)
  moved_lawful m o e rd v t lt at (Some d) lawful = (let l = lawful d refl in
      (l.0, record { refs = omega arith; base = l.1 }))
  moved_lawful m o e rd v t lt at None lawful =
      let b = block_of_type o v.word t at in
      let there = block_there o v.word b.block b.found in
      let begins = there.begins in
      let spelled = spelled_module m o e in
      let inside = (within_blocks _ _ _ there.number b.block spelled.blocks there.there).1 in
      let room = instrs_within m o e in
      let few = h.few.instrs in
      let many = types_within m o e in (
        omega (arith, begins, inside, room, instrs_long, few),
        record { refs = omega arith; base = omega (arith, lt, many) },
      )

  -- a change that is found has a valid word and code type
  found_change : (w : ℕ) (d : Change) → change_at cs w ≡ Some d → IsWord d.to × (d.code_type < length x.types)
  found_change w d e =
      let f = found_there (λ (c : Change). w == c.from) cs d e in
      let l = from_map (change_of modules) (links linkage) f.place d f.there in
      subst (λ (c : Change). IsWord c.to × (c.code_type < length x.types)) (sym l.2)
      (change_is_lawful l.0 (all_there (IsJoined modules) (links linkage) f.place l.0 h.joined l.1))

  -- a `mov` of a module, raised and changed, is valid
  mov_lawful : (m : ℕ) (o : Object) → slice_get modules m ≡ Some o → (rd : Reg) (v : Coloured) (n : ℕ) (base : Base) →
      IsWord v.word → IsBasic (length o.types) (record { refs = n; base = base }) →
      HasType o v.word (record { refs = n; base = base }) →
      IsInstr (length x.types) (length x.cells) (linked_instr cs (before_of modules m)
      (Mov rd (record { refs = n; base = base }) v))
  mov_lawful m o e rd v zero Int w b t = (w, record { refs = omega arith; base = tt })
  mov_lawful m o e rd v zero (Code u) w b t = moved_lawful m o e rd v u b.base t
      (change_at cs ((before_of modules m).instrs + v.word)) (λ d f. found_change _ d f)
  mov_lawful m o e rd v (suc n) base w b t = (let many = types_within m o e in
      (w, basic_more (length o.types) (length x.types) (record { refs = suc n; base = base }) (omega (arith, many)) b))

  instr_lawful : (m : ℕ) (o : Object) → slice_get modules m ≡ Some o → (i : Instr) →
      IsInstr (length o.types) (length o.cells) i → ((rd : Reg) (v : Coloured) (b : Basic) → i ≡ Mov rd b v →
      HasType o v.word b) → IsInstr (length x.types) (length x.cells) (linked_instr cs (before_of modules m) i)
  instr_lawful m o e (OpWord op rd rs v) k t = k
  instr_lawful m o e (Mov rd b v) k t = mov_lawful m o e rd v b.refs b.base k.0 k.1 (t rd v b refl)
  instr_lawful m o e (Idx rd rs begin n) k t = subst (λ cells.
      IsRun cells begin n) (ap (λ (c : List Cell). length c) (is_module m o e).same_cells) k
  instr_lawful m o e i k t = tt

  instrs_are_lawful : All (IsInstr (length x.types) (length x.cells)) x.instrs
  instrs_are_lawful = all_of _ _ (λ n y e.
      let a = from_map (changed_instr cs) (laid instrs_part nothing_before modules) n y e in
      let w = whence instrs_part of_instrs instrs_grow nothing_before modules n a.0 a.1 in
      let k = before_of modules w.number in
      let o = w.object in
      let z = from_map (raised_instr k) o.instrs w.place a.0 w.found in
      let mine = is_module w.number o w.there in
      let b = instr_in_block o w.place z.0 mine.spelled z.1 in
      let is : IsInstr (length o.types) (length o.cells) z.0 =
      all_there (IsInstr (length o.types) (length o.cells)) o.instrs w.place z.0 mine.spelled.instrs z.1 in
      let same : y ≡ linked_instr cs k z.0 = a.2 ∙ ap (changed_instr cs) z.2 in
      subst (IsInstr (length x.types) (length x.cells)) (sym same)
      (instr_lawful w.number o w.there z.0 is (typed_moves o (start_context o b.1.code_type) (block_instrs o b.0) b.2
      z.0 (mine.accepted.blocks b.0 b.1 b.3) b.4)))

  -- SUBSTITUTIONS

  -- each substitution row is the node of an integer
  substs_are : All (IsNodeIn x.nodes 128 false) x.substs
  substs_are = all_of _ _ (λ n y e.
      let w = whence substs_part of_substs substs_grow nothing_before modules n y e in
      let k = before_of modules w.number in
      let o = w.object in
      let s = place_of w.number o w.there in
      let z = from_map (λ j. k.nodes + j) o.substs w.place y w.found in
      let is = all_there (IsNodeIn o.nodes 128 false) o.substs w.place z.0 (spelled_module w.number o w.there).substs
      z.1 in
      subst (IsNodeIn x.nodes 128 false) (sym z.2)
      (raised_name o.nodes x.nodes k.nodes (length o.nodes) (length x.nodes) 128 false z.0 s.nodes
      (nodes_within w.number o w.there) is))

  -- the substitutions cover all rows in order
  covered : Cover x.nodes (length x.substs) 0 (substs_of x.instrs)
  covered = subst (Cover x.nodes (length x.substs) 0)
      (sym (changed_substs cs (laid instrs_part nothing_before modules)))
      (cover_laid x.nodes (length x.substs) nothing_before modules spelled_module (λ m o e.
      ((place_of m o e).nodes, nodes_within m o e)) (let l = substs_long in omega (arith, l)))

  -- THE ENTRY

  -- the entry block exists
  entry_below : (u : Option Link) → find (λ (l : Link). (l.module_of == 0) && (l.block == first.entry)) (links linkage)
      ≡ u → entry_by modules first.entry u < length x.blocks
  entry_below None e = (let w = blocks_within 0 first refl in let b = (spelled_module 0 first refl).entry in
      omega (arith, w, b))
  entry_below (Some l) e =
      let f = found_there (λ (l : Link). (l.module_of == 0) && (l.block == first.entry)) (links linkage) l e in
      let j = all_there (IsJoined modules) (links linkage) f.place l h.joined f.there in
      let w = blocks_within l.to_module j.to.object j.to.there in
      let b = j.to.below in
      omega (arith, w, b)

  -- the linked object is spellable
  pub spelled_linked : IsSpellable x
  spelled_linked =
      let mine = is_module 0 first refl in
      let f = mine.spelled in
      let block = first_block first.blocks f.first_block in
      let begins = block.2 in
      record {
        few_cells = f.few_cells;
        cells = all_of (IsCell (length x.types)) first.cells (λ n c e.
            let is = all_there (IsCell (length first.types)) first.cells n c f.cells e in
            record {
              name = is.name;
              name_length = is.name_length;
              basic = record {
                refs = is.basic.refs;
                base = plain_cell_base (length x.types) c.basic.base
                    (all_there HasPlainCell first.cells n c mine.plain_cells e);
              };
              init = is.init;
            });
        names_differ = f.names_differ;
        nodes = nodes_are;
        some_type = (let w = types_within 0 first refl in let s = f.some_type in omega (arith, w, s));
        few_types = (let w = h.few.types in omega (arith, types_long, w));
        few_reg_rows = (let w = h.few.reg_rows in let s = laid_sum types_part (λ t. length (regs_of t)) (λ (o : Object).
            reg_row_count o.types) (λ k o. raised_count (λ t. length (regs_of t)) k.nodes o.types (λ t.
            length-map t.regs (raised_row k.nodes))) nothing_before modules in omega (arith, s, w));
        few_queue_rows = (let w = h.few.queue_rows in
            let s = laid_sum types_part (λ t. length (queue_of t)) (λ (o : Object). queue_row_count o.types) (λ k o.
            raised_count (λ t. length (queue_of t)) k.nodes o.types (λ t. length-map t.queue (raised_pair k.nodes)))
            nothing_before modules in omega (arith, s, w));
        types = types_are;
        few_blocks = (let w = h.few.blocks in omega (arith, blocks_long, w));
        first_block = (let z = none_before_first first others in
            let i : 0 ≡ (before_of modules 0).blocks + 0 = omega (arith, ap of_blocks z) in
            begin_at_zero x.blocks (raised_block (before_of modules 0) block.0) (ap (slice_get x.blocks) i
            ∙ (place_of 0 first refl).blocks 0 block.0 block.1) (omega (arith, begins, ap of_instrs z)));
        blocks = blocks_laid (length x.instrs) nothing_before modules spelled_module (omega (arith, instrs_long));
        block_types = block_types_are;
        some_instr = (let w = instrs_within 0 first refl in let s = f.some_instr in omega (arith, w, s));
        few_instrs = (let w = h.few.instrs in omega (arith, instrs_long, w));
        instrs = instrs_are_lawful;
        few_substs = (let w = h.few.substs in omega (arith, substs_long, w));
        covered = covered;
        substs = substs_are;
        entry = entry_below _ refl;
      }
