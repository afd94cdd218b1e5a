-- Linkable modules meet the requirements of the run.
use Rattle.std.proofs.Common.{◌≡◌, ℕ, suc, ◌+◌, ◌≤◌, Bool, true, false, ◌&&◌, ◌==◌, List, ◌∷◌, length, map, slice_get}
use Rattle.std.proofs.Common.{Option, Some, None, refl, sym, ap, ◌∙◌, subst, arith, eqb-true}
use Rattle.std.specs.Prelude.{slice_range}
use Rattle.std.specs.List.{AllZip}
use Rattle.std.specs.Option.{option_map, unwrap_or}
use Rattle.std.proofs.lemmas.Option.{slice_get_within, same_Some}
use Rattle.ft_isa.specs.Words.{IsWord, code_address}
use Rattle.ft_types.specs.declared.object.Object.{Object}
use Rattle.ft_types.specs.declared.object.Block.{Block}
use Rattle.ft_types.specs.declared.object.CodeType.{CodeType}
use Rattle.ft_typing.specs.Context.{start_context}
use Rattle.ft_types.specs.Objects.{start_of, code_type_of, block_start, block_end, block_instrs}
use Rattle.ft_types.specs.Spellable.{HasCodeType, IsSpellable}
use Rattle.ft_semantics.specs.State.{State}
use Rattle.ft_isa.proofs.Lists.{there_below, all_there, none_pass}
use Rattle.ft_types.proofs.BlockStarts.{rises}
use Rattle.ft_typing.specs.TypedWord.{block_at}
use Rattle.ft_tolerance.specs.TypedState.{Place, instr_number, IsPlace}
use Rattle.ft_tolerance.proofs.Transfers.{block_there}
use Rattle.ft_link_map.specs.declared.link_map.LinkMap.{LinkMap}
use Rattle.ft_modules.specs.LikeTypes.{LikeTypes}
use Rattle.ft_modules.specs.Linkable.{IsJoined, AreLinkable}
use Rattle.ft_modules.specs.Linked.{raised_block, Change, change_of, linked}
use Rattle.ft_modules.specs.Links.{Link, links, start_in}
use Rattle.ft_modules.specs.ModulesRun.{InModule, link_at, sent_by, sent}
use Rattle.ft_tolerance.proofs.BlockPlaces.{within_blocks, no_block_inside}
use Rattle.ft_modules.proofs.LinkedContexts.{Sends, AreSent, IsInstrOf}
use Rattle.ft_modules.proofs.ModuleParts.{linked_instr}
use Rattle.ft_modules.proofs.Trees.{range_get, like_raised, subst_raised}
use Rattle.ft_modules.proofs.World.{before_of, BlockOf, World}
use Rattle.ft_modules.proofs.SentOn.{like_through, sent_at}
use Rattle.ft_modules.proofs.ModuleInstrs.{covered_subst, typed_moves, sent_to, instr_is, instrs_are}
use Rattle.ft_modules.proofs.Landings.{start_there, is_module, sits_in, landing}

-- if two tests cannot both pass, their conjunction is false
not_here : (a b : Bool) → (a ≡ true → b ≡ true → ⊥) → (a && b) ≡ false
not_here true true h = absurd (h refl refl)
not_here true false h = refl
not_here false b h = refl

module _ (linkage : LinkMap) (first : Object) (others : List Object) (h : AreLinkable linkage first others)
    (spelled : IsSpellable (linked linkage first others)) where
  -- the modules, their links, the linked object and its changes
  abbrev modules : List Object
  modules = first ∷ others

  abbrev joins : List Link
  joins = links linkage

  abbrev x : Object
  x = linked linkage first others

  abbrev cs : List Change
  cs = map (change_of (first ∷ others)) (links linkage)

  -- the address of a block is a word
  address_is_word : (o : Object) (w : ℕ) (y : Block) → IsSpellable o → block_at o w ≡ Some y → IsWord w
  address_is_word o w y s f =
      let b = block_there o w y f in
      let begins = b.begins in
      let inside = (within_blocks (length o.instrs) 0 o.blocks b.number y s.blocks b.there).1 in
      let few = s.few_instrs in
      omega (arith, begins, inside, few)

  -- the code type of a block exists
  type_of_block : (o : Object) (n : ℕ) (y : Block) → IsSpellable o → slice_get o.blocks n ≡ Some y → (t : CodeType)
      × (slice_get o.types y.code_type ≡ Some t)
  type_of_block o n y s f = there_below o.types y.code_type
      (all_there (HasCodeType (length o.types)) o.blocks n y s.block_types f)

  -- the code type of a module's block agrees with its raised code type
  pub block_alike : (m : ℕ) (o : Object) → slice_get modules m ≡ Some o → (n : ℕ) (y : Block) → slice_get o.blocks n
      ≡ Some y → LikeTypes o y.code_type x ((before_of modules m).types + y.code_type)
  block_alike m o e n y f =
      let mine = is_module linkage first others h spelled m o e in
      let t = type_of_block o n y mine.spelled f in
      like_raised o x (before_of modules m) cs mine.spelled spelled.nodes (sits_in linkage first others h spelled m o e)
      y.code_type t.0 t.1

  -- a code address is sent to a block whose code type agrees: by cases on the block at the address
  sends_by : (m : ℕ) (o : Object) (e : slice_get modules m ≡ Some o) (w t : ℕ) (u : Option Block) → block_at o w ≡ u →
      option_map code_type_of u ≡ Some t → Sends o x (sent_to cs (before_of modules m) o) w t
  sends_by m o e w t None f g = cc
  sends_by m o e w t (Some y) f g =
      let kind : y.code_type ≡ t = cc in
      let l = landing linkage first others h spelled m o e w y f in
      let a = l.lands in
      let to = sent_to cs (before_of modules m) o w in
      let alike = block_alike a.number a.object a.there a.block_number a.block a.block_there in
      record {
        is_word = address_is_word o w y (is_module linkage first others h spelled m o e).spelled f;
        sent_word = address_is_word x to.0 (raised_block (before_of modules a.number) a.block) spelled a.found;
        there = ap (option_map code_type_of) a.found ∙ ap Some (sym l.code_type);
        alike = subst (λ n. LikeTypes o t x n) (sym l.code_type)
            (subst (λ n. LikeTypes o n x ((before_of modules a.number).types + a.block.code_type)) kind
            (like_through o a.object x _ _ _ a.like alike));
      }

  -- all code addresses of a module are sent to blocks of the linked object
  pub sent_in : (m : ℕ) (o : Object) (e : slice_get modules m ≡ Some o) →
      AreSent o x (sent_to cs (before_of modules m) o)
  sent_in m o e = record {
    cells = sym (is_module linkage first others h spelled m o e).same_cells;
    sends = λ w t f. sends_by m o e w t (block_at o w) refl f;
  }

  -- a block ends at or after its start, and within the instructions
  block_bounds : (o : Object) (n : ℕ) (y : Block) → IsSpellable o → slice_get o.blocks n ≡ Some y →
      (block_start o n ≤ block_end o n) × (block_end o n ≤ length o.instrs)
  block_bounds o n y s f =
      let start : block_start o n ≡ y.start = ap (λ (u : Option Block). unwrap_or (option_map start_of u) 0) f in
      by_next start (slice_get o.blocks (suc n)) refl
    where
      by_next : block_start o n ≡ y.start → (u : Option Block) → slice_get o.blocks (suc n) ≡ u →
          (block_start o n ≤ unwrap_or (option_map start_of u) (length o.instrs))
          × (unwrap_or (option_map start_of u) (length o.instrs) ≤ length o.instrs)
      by_next start None g = (let w = (within_blocks (length o.instrs) 0 o.blocks n y s.blocks f).1 in
          (omega (arith, start, w), omega arith))
      by_next start (Some z) g =
          let w = (within_blocks (length o.instrs) 0 o.blocks (suc n) z s.blocks g).1 in
          let r = rises (length o.instrs) 0 o.blocks n (suc n) y z s.blocks f g (omega arith) in
          (omega (arith, start, r), omega (arith, w))

  -- each block of a module satisfies `BlockOf` in the linked object
  pub block_in : (m : ℕ) (o : Object) (e : slice_get modules m ≡ Some o) (n : ℕ) (y : Block) → slice_get o.blocks n
      ≡ Some y → BlockOf o x (before_of modules m) (sent_to cs (before_of modules m) o) n y
  block_in m o e n y f =
      let k = before_of modules m in
      let mine = is_module linkage first others h spelled m o e in
      let s = sits_in linkage first others h spelled m o e in
      let there = s.blocks n y f in
      let bounds = block_bounds o n y mine.spelled f in
      let start_o : block_start o n ≡ y.start = ap (λ (u : Option Block). unwrap_or (option_map start_of u) 0) f in
      let start_x : block_start x (k.blocks + n) ≡ k.instrs + block_start o n =
      ap (λ (u : Option Block). unwrap_or (option_map start_of u) 0) there ∙ ap (λ j. k.instrs + j) (sym start_o) in
      let code : block_instrs x (k.blocks + n) ≡ map (linked_instr cs k) (block_instrs o n) =
      (λ i. slice_range x.instrs (start_x i) (s.ends n y f i))
      ∙ s.code (block_start o n) (block_end o n) bounds.0 bounds.1 in
      record {
        there = there;
        alike = block_alike m o e n y f;
        code = subst (AllZip (IsInstrOf o x (sent_to cs k o)) (block_instrs o n)) (sym code)
            (instrs_are o x cs k (block_instrs o n) (λ j i g.
            instr_is o x cs k i
            (typed_moves o (start_context o y.code_type) (block_instrs o n) j i (mine.accepted.blocks n y f) g)
            (λ u is.
            let c = covered_subst o.nodes (length o.substs) 0 (block_start o n + j) o.instrs i u is mine.spelled.covered
            (range_get o.instrs (block_start o n) (block_end o n) j i g) in
            subst_raised o x k cs mine.spelled spelled.nodes s u c.rising c.there c.memory)));
      }

  -- a machine inside a block is not sent
  inside_in : (m : ℕ) (o : Object) (e : slice_get modules m ≡ Some o) (p : Place) (j : ℕ) (s : State) → IsPlace o p →
      p.index ≡ suc j → s.fetched ≡ None → s.pc_green ≡ code_address (instr_number p) → s.pc_blue
      ≡ code_address (instr_number p) → ◌≡◌ {A = InModule} (sent modules joins (record { number = m; state = s }))
      (record { number = m; state = s })
  inside_in m o e p j s at index f g b =
      let mine = is_module linkage first others h spelled m o e in
      let none : link_at modules joins m (code_address (instr_number p)) ≡ None = none_pass _ joins (λ i l there.
      let join = all_there (IsJoined modules) joins i l h.joined there in
      let z = join.from in
      let block = there_below z.object.blocks l.block z.below in
      let start = start_there modules l.module_of l.block z.object block.0 z.there block.1 in
      not_here (l.module_of == m) (code_address (instr_number p) == code_address (start_in modules l.module_of l.block))
      (λ t u.
      let from : z.object ≡ o = same_Some _ _ (sym z.there ∙ ap (slice_get modules) (eqb-true _ _ t) ∙ e) in
      no_block_inside o p j l.block block.0 mine.spelled mine.accepted at index
      ((λ q. slice_get (sym from q).blocks l.block) ∙ block.1) (eqb-true _ _ u ∙ ap code_address start))) in
      sent_at modules joins m (code_address (instr_number p)) s f g b
      ∙ ap (sent_by modules (record { number = m; state = s })) none

  -- all modules meet the requirements of the run
  pub world : World modules joins x
  world m o e =
      let mine = is_module linkage first others h spelled m o e in
      record {
        spelled = mine.spelled;
        accepted = mine.accepted;
        same_cells = sym mine.same_cells;
        plain_cells = mine.plain_cells;
        plain_rows = mine.plain_rows;
        to = sent_to cs (before_of modules m) o;
        are_sent = sent_in m o e;
        walked = λ n y f. mine.walked n (slice_get_within o.blocks n y f);
        blocks = block_in m o e;
        lands = λ w y f. (landing linkage first others h spelled m o e w y f).lands;
        inside = inside_in m o e;
      }

  -- the address map in `world` is `sent_to`
  pub to_is : (m : ℕ) (o : Object) (e : slice_get modules m ≡ Some o) → (world m o e).to
      ≡ sent_to cs (before_of modules m) o
  unfolding world
  to_is m o e = refl
