-- The linked object is accepted, and its run begins where the modules' run does.
use Rattle.std.proofs.Common.{◌≡◌, ℕ, ◌+◌, ◌<◌, Bool, true, ◌&&◌, ◌==◌, List, [], ◌∷◌, length, map, slice_get, Option}
use Rattle.std.proofs.Common.{Some, None, refl, sym, ap, ◌∙◌, subst, arith, eqb-true, eq-eqb}
use Rattle.std.specs.Prelude.{find}
use Rattle.std.specs.List.{AllZip}
use Rattle.std.specs.Option.{option_map, unwrap_or}
use Rattle.std.specs.FinMap as finite
use Rattle.std.proofs.lemmas.Bool.{and_parts, and_from}
use Rattle.std.proofs.lemmas.Option.{slice_get_within, same_Some}
use Rattle.ft_isa.specs.Words.{code_address}
use Rattle.ft_isa.proofs.Lists.{there_below, all_there}
use Rattle.ft_static.specs.Expression.{memory_variable}
use Rattle.ft_static.specs.NodeRules.{AreNodes}
use Rattle.ft_static.specs.NodeParts.{is_memory}
use Rattle.ft_static.specs.NodeTree.{memory_part, memory_at, tree_of, trees, HasShape}
use Rattle.ft_static.specs.declared.node.Shape.{Shape}
use Rattle.ft_static.specs.declared.node.Shape.TheVariants as shape
use Rattle.ft_static.proofs.NodeTrees.{tree_at-row}
use Rattle.ft_types.specs.declared.object.Object.{Object}
use Rattle.ft_types.specs.declared.object.Block.{Block}
use Rattle.ft_types.specs.declared.object.CodeType.{CodeType}
use Rattle.ft_types.specs.declared.object.RegType.{RegType}
use Rattle.ft_typing.specs.Accepted.{Applies, IsEntryType, IsAccepted}
use Rattle.ft_typing.specs.Context.{start_context}
use Rattle.ft_types.specs.Objects.{start_of, code_type_of, memory_of_type, block_type, block_instrs, memory_of}
use Rattle.ft_types.specs.Objects.{entry_address}
use Rattle.ft_types.specs.Spellable.{IsCodeType, HasCodeType, IsSpellable}
use Rattle.ft_typing.specs.TypedWord.{block_at}
use Rattle.ft_tolerance.specs.TypedState.{entry_block}
use Rattle.ft_tolerance.proofs.Lists.{found_there}
use Rattle.ft_link_map.specs.declared.link_map.LinkMap.{LinkMap}
use Rattle.ft_modules.specs.LikeTypes.{SameRow, SamePair, LikeTypes}
use Rattle.ft_modules.specs.Linkable.{HasPlainCell, IsModule, IsJoined, AreLinkable}
use Rattle.ft_modules.specs.Linked.{nothing_before, raised_block, Change, change_of, blocks_part, entry_by, linked}
use Rattle.ft_modules.specs.Links.{Link, links, type_in}
use Rattle.ft_modules.specs.ModulesRun.{link_at}
use Rattle.ft_tolerance.proofs.BlockPlaces.{one_number}
use Rattle.ft_modules.proofs.Addresses.{find_same, same_tests, block_at_own}
use Rattle.ft_modules.proofs.LinkedBlocks.{start_beside, applies_beside}
use Rattle.ft_modules.proofs.Laying.{whence}
use Rattle.ft_modules.proofs.ModuleInstrs.{sent_by_change, sent_to}
use Rattle.ft_modules.proofs.Landings.{is_module, sits_in, change_is, start_there, type_there}
use Rattle.ft_modules.proofs.Placing.{sent_in, block_in, block_alike, world, to_is}
use Rattle.ft_modules.proofs.ModuleParts.{of_blocks, blocks_grow}
use Rattle.ft_modules.proofs.SpelledLinked.{from_map}
use Rattle.ft_modules.proofs.SpelledWhole.{none_before_first, spelled_linked}
use Rattle.ft_modules.proofs.World.{before_of, World, plain_type}
use Rattle.ft_modules.proofs.SentOn.{like_through}

-- ENTRY TYPES

-- a list of register rows that agrees with an empty list is empty
no_rows : (o x : Object) (rs qs : List RegType) → rs ≡ [] → AllZip (SameRow o x) rs qs → qs ≡ []
no_rows o x [] [] e l = refl
no_rows o x [] (q ∷ qs) e l = absurd l
no_rows o x (r ∷ rs) qs e l = cc

-- a list of queue rows that agrees with an empty list is empty
no_pairs : (o x : Object) (rs qs : List (ℕ × ℕ)) → rs ≡ [] → AllZip (SamePair o x) rs qs → qs ≡ []
no_pairs o x [] [] e l = refl
no_pairs o x [] (q ∷ qs) e l = absurd l
no_pairs o x (r ∷ rs) qs e l = cc

-- a node whose shape is the memory variable stands for the memory variable
variable_memory : (o : Object) (n : ℕ) → AreNodes o.nodes → HasShape o.nodes n shape.Memory →
    memory_at (trees o.nodes) n ≡ memory_variable
variable_memory o n nodes s = ap memory_part (tree_at-row o.nodes n s.node nodes s.found)
    ∙ ap (λ (y : Shape). memory_part (tree_of (trees o.nodes) y)) s.shape

-- a memory shape that stands for the memory variable is the memory variable
variable_shape : (x : Object) (y : Shape) → is_memory y ≡ true → memory_part (tree_of (trees x.nodes) y)
    ≡ memory_variable → y ≡ shape.Memory
variable_shape x shape.Memory m e = refl
variable_shape x y m e = cc

-- a code type that agrees with an entry type is an entry type
entry_like : (o x : Object) (t u : ℕ) (y : CodeType) → IsSpellable o → IsSpellable x → LikeTypes o t x u →
    slice_get x.types u ≡ Some y → IsEntryType o t → IsEntryType x u
entry_like o x t u y so sx l there e =
    let is = all_there (IsCodeType (length x.types) x.nodes) x.types u y sx.types there in
    let named : memory_of x u ≡ y.memory = ap (λ (z : Option CodeType). unwrap_or (option_map memory_of_type z) 0) there
    in
    let n = is.memory in
    let variable : memory_at (trees x.nodes) y.memory ≡ memory_variable = ap (memory_at (trees x.nodes)) (sym named)
    ∙ sym l.memory ∙ variable_memory o (memory_of o t) so.nodes e.memory in
    let shaped = variable_shape x n.node.shape n.sort
    (ap memory_part (sym (tree_at-row x.nodes y.memory n.node sx.nodes n.found)) ∙ variable) in
    record {
      ints = sym l.ints ∙ e.ints;
      regs = no_rows o x _ _ e.regs l.regs;
      queue = no_pairs o x _ _ e.queue l.queue;
      memory = subst (λ j. HasShape x.nodes j shape.Memory) (sym named) (record {
        node = n.node;
        found = n.found;
        shape = shaped;
      });
    }

-- block n of the linked object, at address a, has a code type that agrees with the first module's entry type
record EntryIn (first x : Object) (n a : ℕ) : Type 0 where
  pub block : Block
  pub there : slice_get x.blocks n ≡ Some block
  pub found : block_at x a ≡ Some block
  pub like : LikeTypes first (block_type first first.entry) x block.code_type

module _ (linkage : LinkMap) (first : Object) (others : List Object) (h : AreLinkable linkage first others) where
  -- the modules, their links, the linked object and its changes
  abbrev modules : List Object
  modules = first ∷ others

  abbrev joins : List Link
  joins = links linkage

  abbrev x : Object
  x = linked linkage first others

  abbrev cs : List Change
  cs = map (change_of (first ∷ others)) (links linkage)

  -- the linked object is spellable
  spelled : IsSpellable x
  spelled = spelled_linked linkage first others h

  -- each of the modules satisfies `IsModule`
  mine : (m : ℕ) (o : Object) → slice_get modules m ≡ Some o → IsModule first.cells o
  mine m o e = is_module linkage first others h spelled m o e

  -- BLOCKS

  -- the typing rules of a module's block apply in the linked object
  applies_in : (m : ℕ) (o : Object) (e : slice_get modules m ≡ Some o) (n : ℕ) (y : Block) → slice_get o.blocks n
      ≡ Some y → Applies x (start_context x ((before_of modules m).types + y.code_type))
      (block_instrs x ((before_of modules m).blocks + n))
  applies_in m o e n y f =
      let b = block_in linkage first others h spelled m o e n y f in
      let to = sent_to cs (before_of modules m) o in
      applies_beside o x to (sent_in linkage first others h spelled m o e) finite.empty (start_context o y.code_type)
      (start_context x ((before_of modules m).types + y.code_type)) 0 (block_instrs o n)
      (block_instrs x ((before_of modules m).blocks + n))
      (start_beside o x to y.code_type ((before_of modules m).types + y.code_type) b.alike)
      ((mine m o e).walked n (slice_get_within o.blocks n y f)) b.code ((mine m o e).accepted.blocks n y f)

  -- the typing rules of each block of the linked object apply
  applies_all : (n : ℕ) (y : Block) → slice_get x.blocks n ≡ Some y →
      Applies x (start_context x y.code_type) (block_instrs x n)
  applies_all n y e =
      let w = whence blocks_part of_blocks blocks_grow nothing_before modules n y e in
      let k = before_of modules w.number in
      let z = from_map (raised_block k) w.object.blocks w.place y w.found in
      let counted = w.counted in
      let at : k.blocks + w.place ≡ n = omega (arith, counted) in
      let a = applies_in w.number w.object w.there w.place z.0 z.1 in
      subst (λ j. Applies x (start_context x y.code_type) (block_instrs x j)) at
      (subst (λ (q : Block). Applies x (start_context x q.code_type) (block_instrs x (k.blocks + w.place))) (sym z.2)
      a)

  -- THE ENTRY

  -- the first module's block at its entry index is its entry block
  at_entry : slice_get first.blocks first.entry ≡ Some (entry_block first)
  at_entry =
      let p = there_below first.blocks first.entry (mine 0 first refl).spelled.entry in
      let is : entry_block first ≡ p.0 = λ i. record {
        start = unwrap_or (option_map start_of (p.1 i)) 0;
        code_type = unwrap_or (option_map code_type_of (p.1 i)) 0;
      } in
      p.1 ∙ ap Some (sym is)

  -- whether a link is from the first module's entry block, by the block's number
  abbrev by_number : Link → Bool
  by_number l = (l.module_of == 0) && (l.block == first.entry)

  -- looking for the entry block's link by number or by address finds the same link
  entry_link : find by_number joins ≡ link_at modules joins 0 (entry_address first)
  entry_link = find_same _ _ joins (λ i l e.
      let j = all_there (IsJoined modules) joins i l h.joined e in
      let z = j.from in
      let b = there_below z.object.blocks l.block z.below in
      let start = start_there modules l.module_of l.block z.object b.0 z.there b.1 in
      same_tests _ _
      (λ t.
      let p = and_parts _ _ t in
      let from : z.object ≡ first = same_Some _ _ (sym z.there ∙ ap (slice_get modules) (eqb-true _ _ p.0)) in
      let block : b.0 ≡ entry_block first = same_Some _ _ (sym b.1
      ∙ (λ q. slice_get (from q).blocks (eqb-true l.block first.entry p.1 q)) ∙ at_entry) in
      and_from _ _ p.0 (eq-eqb _ _ (ap code_address (sym (start ∙ ap (λ (q : Block). q.start) block)))))
      (λ t.
      let p = and_parts _ _ t in
      let from : z.object ≡ first = same_Some _ _ (sym z.there ∙ ap (slice_get modules) (eqb-true _ _ p.0)) in
      let there : slice_get first.blocks l.block ≡ Some b.0 = (λ q. slice_get (sym from q).blocks l.block) ∙ b.1 in
      let same = eqb-true _ _ p.1 in
      and_from _ _ p.0 (eq-eqb _ _ (one_number _ _ _ l.block first.entry b.0 (entry_block first)
      (mine 0 first refl).spelled.blocks there at_entry (omega (arith, start, same))))))

  -- the linked object's entry block is where the first module's is sent: by cases on the link of the first module's
  -- entry block
  entry_by_link : (u : Option Link) → link_at modules joins 0 (entry_address first) ≡ u →
      EntryIn first x (entry_by modules first.entry u) (sent_by_change (before_of modules 0) first (entry_address first)
      (option_map (change_of modules) u)).0
  entry_by_link None g =
      let k = before_of modules 0 in
      let y = entry_block first in
      let z = ap of_blocks (none_before_first first others) in
      let number : first.entry ≡ k.blocks + first.entry = omega (arith, z) in
      let s = (sits_in linkage first others h spelled 0 first refl).blocks first.entry y at_entry in
      let address : k.instrs + entry_address first ≡ code_address (raised_block k y).start = omega arith in
      record {
        block = raised_block k y;
        there = ap (slice_get x.blocks) number ∙ s;
        found = ap (block_at x) address ∙ block_at_own x (k.blocks + first.entry) (raised_block k y) spelled s;
        like = block_alike linkage first others h spelled 0 first refl first.entry y at_entry;
      }
  entry_by_link (Some l) g =
      let found = found_there by_number joins l (entry_link ∙ g) in
      let j = all_there (IsJoined modules) joins found.place l h.joined found.there in
      let p = and_parts _ _ found.passes in
      let from : j.from.object ≡ first = same_Some _ _ (sym j.from.there
      ∙ ap (slice_get modules) (eqb-true l.module_of 0 p.0)) in
      let b = there_below j.from.object.blocks l.block j.from.below in
      let block : b.0 ≡ entry_block first = same_Some _ _ (sym b.1
      ∙ (λ q. slice_get (from q).blocks (eqb-true l.block first.entry p.1 q)) ∙ at_entry) in
      let b_type : type_in modules l.module_of l.block ≡ block_type first first.entry =
      type_there modules l.module_of l.block j.from.object b.0 j.from.there b.1
      ∙ ap (λ (z : Block). z.code_type) block in
      let d = there_below j.to.object.blocks l.to_block j.to.below in
      let d_start = start_there modules l.to_module l.to_block j.to.object d.0 j.to.there d.1 in
      let d_type = type_there modules l.to_module l.to_block j.to.object d.0 j.to.there d.1 in
      let k = before_of modules l.to_module in
      let s = (sits_in linkage first others h spelled l.to_module j.to.object j.to.there).blocks l.to_block d.0 d.1 in
      let like : LikeTypes first (block_type first first.entry) j.to.object d.0.code_type =
      subst (λ t. LikeTypes first (block_type first first.entry) j.to.object t) d_type
      (subst (λ t. LikeTypes first t j.to.object (type_in modules l.to_module l.to_block)) b_type
      (subst (λ (z : Object). LikeTypes z (type_in modules l.module_of l.block) j.to.object
      (type_in modules l.to_module l.to_block)) from j.types)) in
      record {
        block = raised_block k d.0;
        there = s;
        found = ap (λ n. block_at x (code_address (k.instrs + n))) d_start
            ∙ block_at_own x (k.blocks + l.to_block) (raised_block k d.0) spelled s;
        like = like_through first j.to.object x _ _ _ like
            (block_alike linkage first others h spelled l.to_module j.to.object j.to.there l.to_block d.0 d.1);
      }

  -- the linked object's entry block is where the first module's is sent
  entry_in : EntryIn first x x.entry (sent_to cs (before_of modules 0) first (entry_address first)).0
  entry_in =
      subst (λ (u : Option Link). EntryIn first x (entry_by modules first.entry u)
      (sent_to cs (before_of modules 0) first (entry_address first)).0) (sym entry_link)
      (subst (λ (c : Option Change). EntryIn first x
      (entry_by modules first.entry (link_at modules joins 0 (entry_address first)))
      (sent_by_change (before_of modules 0) first (entry_address first) c).0)
      (sym (change_is linkage first others h spelled 0 first refl first.entry (entry_block first) at_entry))
      (entry_by_link (link_at modules joins 0 (entry_address first)) refl))

  -- the linked object's block at its entry index is its entry block
  entry_is : (y : Block) → slice_get x.blocks x.entry ≡ Some y → y ≡ entry_block x
  entry_is y e = λ i. record {
    start = unwrap_or (option_map start_of (sym e i)) 0;
    code_type = unwrap_or (option_map code_type_of (sym e i)) 0;
  }

  -- the linked object is accepted
  pub accepted_linked : IsAccepted x
  accepted_linked =
      let e = entry_in in
      let is : e.block ≡ entry_block x = entry_is e.block e.there in
      let kind : e.block.code_type ≡ block_type x x.entry = ap (λ (b : Block). b.code_type) is in
      let below : e.block.code_type < length x.types = all_there (HasCodeType (length x.types)) x.blocks x.entry e.block
      spelled.block_types e.there in
      let t = there_below x.types e.block.code_type below in
      let f = mine 0 first refl in
      record {
        entry = subst (IsEntryType x) kind (entry_like first x (block_type first first.entry) e.block.code_type t.0
            f.spelled spelled e.like t.1 f.accepted.entry);
        cells = λ n c g. plain_type first x c.init c.basic refl (all_there HasPlainCell first.cells n c f.plain_cells g)
            (f.accepted.cells n c g);
        blocks = applies_all;
      }

  -- the modules and the linked object meet the requirements of the run
  pub linked_world : World modules joins x
  linked_world = world linkage first others h spelled

  -- the first module's entry block is the block at its address
  pub first_found : block_at first (entry_address first) ≡ Some (entry_block first)
  first_found = block_at_own first first.entry (entry_block first) (mine 0 first refl).spelled at_entry

  -- this block is sent to the linked object's entry block
  pub first_sent : block_at x ((linked_world 0 first refl).to (entry_address first)).0 ≡ Some (entry_block x)
  unfolding linked_world
  first_sent =
      let e = entry_in in
      ap (λ (to : ℕ → ℕ × ℕ). block_at x (to (entry_address first)).0)
      (to_is linkage first others h spelled 0 first refl) ∙ e.found ∙ ap Some (entry_is e.block e.there)
