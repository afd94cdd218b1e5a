-- Where the blocks of linkable modules are sent.
use Rattle.std.proofs.Common.{◌≡◌, ⊎_elim, ℕ, ◌+◌, ◌<◌, ◌≤◌, ◌&&◌, ◌==◌, List, ◌∷◌, length, map, slice_get, Option}
use Rattle.std.proofs.Common.{Some, None, refl, sym, ap, ◌∙◌, subst, arith, eqb-true, eq-eqb}
use Rattle.std.specs.Option.{option_map, unwrap_or}
use Rattle.std.proofs.lemmas.Bool.{cases_lt, and_parts, and_from}
use Rattle.std.proofs.lemmas.Option.{same_Some}
use Rattle.ft_isa.specs.Words.{code_address}
use Rattle.ft_types.specs.declared.object.Object.{Object}
use Rattle.ft_types.specs.declared.object.Block.{Block}
use Rattle.ft_types.specs.Objects.{start_of, code_type_of, block_start, block_type}
use Rattle.ft_types.specs.Spellable.{IsSpellable}
use Rattle.ft_semantics.specs.State.{State}
use Rattle.ft_isa.proofs.Lists.{there_below, all_there}
use Rattle.ft_typing.specs.TypedWord.{block_at}
use Rattle.ft_tolerance.proofs.Lists.{found_there}
use Rattle.ft_tolerance.proofs.Transfers.{block_there}
use Rattle.ft_link_map.specs.declared.link_map.LinkMap.{LinkMap}
use Rattle.ft_modules.specs.LikeTypes.{LikeTypes}
use Rattle.ft_modules.specs.Linkable.{IsModule, IsJoined, AreLinkable}
use Rattle.ft_modules.specs.Linked.{nothing_before, raised_block, Change, change_of, change_at, linked}
use Rattle.ft_modules.specs.Links.{Link, links, start_in, type_in}
use Rattle.ft_modules.specs.ModulesRun.{InModule, link_at, sent_by}
use Rattle.ft_tolerance.proofs.BlockPlaces.{within_blocks, one_number}
use Rattle.ft_modules.proofs.Addresses.{find_same, find_mapped, same_tests, block_at_own}
use Rattle.ft_modules.proofs.ModuleParts.{Sits, sits}
use Rattle.ft_modules.proofs.World.{before_of, at_address, Lands}
use Rattle.ft_modules.proofs.SentOn.{like_itself, rises_before, sent_at, stay_at}
use Rattle.ft_modules.proofs.ModuleInstrs.{sent_by_change, sent_to}

-- `start_in` is the start of the block, if the block exists
pub start_there : (modules : List Object) (m b : ℕ) (o : Object) (y : Block) → slice_get modules m ≡ Some o →
    slice_get o.blocks b ≡ Some y → start_in modules m b ≡ y.start
start_there modules m b o y e f = ap (λ (u : Option Object). unwrap_or (option_map (λ z. block_start z b) u) 0) e
    ∙ ap (λ (u : Option Block). unwrap_or (option_map start_of u) 0) f

-- `type_in` is the code type of the block, if the block exists
pub type_there : (modules : List Object) (m b : ℕ) (o : Object) (y : Block) → slice_get modules m ≡ Some o →
    slice_get o.blocks b ≡ Some y → type_in modules m b ≡ y.code_type
type_there modules m b o y e f = ap (λ (u : Option Object). unwrap_or (option_map (λ z. block_type z b) u) 0) e
    ∙ ap (λ (u : Option Block). unwrap_or (option_map code_type_of u) 0) f

-- a module's state with both counters at an address
abbrev in_module : ℕ → ℕ → State → InModule
in_module m a s = record { number = m; state = at_address a s }

-- where block y of a module is sent: the block at which a machine lands, and its code type
pub record Landing (modules : List Object) (joins : List Link) (x : Object) (m : ℕ) (o : Object) (to : ℕ
    × ℕ) (w : ℕ) (y : Block) : Type 0 where
  pub lands : Lands modules joins x m o to.0 w y
  pub code_type : to.1 ≡ (before_of modules lands.number).types + lands.block.code_type

module _ (linkage : LinkMap) (first : Object) (others : List Object) (h : AreLinkable linkage first others)
    (spelled : IsSpellable (linked linkage first others)) where
  -- the modules, their links, the linked object and its changes
  abbrev modules : List Object
  modules = first ∷ others

  abbrev joins : List Link
  joins = links linkage

  abbrev x : Object
  x = linked linkage first others

  abbrev cs : List Change
  cs = map (change_of (first ∷ others)) (links linkage)

  -- each of the modules satisfies `IsModule`
  pub is_module : (m : ℕ) (o : Object) → slice_get modules m ≡ Some o → IsModule first.cells o
  is_module m o e = all_there (IsModule first.cells) modules m o h.modules e

  -- where a module's parts are in the linked object
  pub sits_in : (m : ℕ) (o : Object) → slice_get modules m ≡ Some o → Sits o x (before_of modules m) cs
  sits_in m o e = sits linkage first others m o e (λ j z f. (is_module j z f).spelled)

  -- if instructions of two modules have the same place in the linked object, the modules are the same
  from_here : (m : ℕ) (o : Object) → slice_get modules m ≡ Some o → (a : ℕ) → a < length o.instrs →
      (n : ℕ) (z : Object) → slice_get modules n ≡ Some z → (c : ℕ) → c < length z.instrs →
      (before_of modules m).instrs + a ≡ (before_of modules n).instrs + c → n ≡ m
  from_here m o e a la n z f c lc same =
      ⊎_elim
      (λ (lt : m < n). let r = rises_before nothing_before modules m n o e lt in absurd (omega (arith, r, same, la)))
      (λ (le : n ≤ m). ⊎_elim
      (λ (gt : n < m). let r = rises_before nothing_before modules n m z f gt in absurd (omega (arith, r, same, lc)))
      (λ (ge : m ≤ n). omega (arith, le, ge))
      (cases_lt n m))
      (cases_lt m n)

  -- a link changes a block's raised address exactly when it is a link from this block
  test_same : (m : ℕ) (o : Object) (e : slice_get modules m ≡ Some o) (n : ℕ) (y : Block) → slice_get o.blocks n
      ≡ Some y → (l : Link) → IsJoined modules l → ((before_of modules m).instrs + code_address y.start ==
      (change_of modules l).from) ≡ ((l.module_of == m)
      && (code_address y.start == code_address (start_in modules l.module_of l.block)))
  test_same m o e n y f l j =
      let z = j.from in
      let b = there_below z.object.blocks l.block z.below in
      let start = start_there modules l.module_of l.block z.object b.0 z.there b.1 in
      let inside = (within_blocks _ _ _ l.block b.0 (is_module l.module_of z.object z.there).spelled.blocks b.1).1 in
      let inside_y = (within_blocks _ _ _ n y (is_module m o e).spelled.blocks f).1 in
      same_tests _ _
      (λ t.
      let same = eqb-true _ _ t in
      let number : l.module_of ≡ m = from_here m o e y.start inside_y l.module_of z.object z.there
      (start_in modules l.module_of l.block) (subst (λ k. k < length z.object.instrs) (sym start) inside)
      (omega (arith, same)) in
      let offset : (before_of modules l.module_of).instrs ≡ (before_of modules m).instrs =
      ap (λ k. (before_of modules k).instrs) number in
      and_from _ _ (eq-eqb _ _ number) (eq-eqb _ _ (omega (arith, same, offset))))
      (λ t.
      let p = and_parts _ _ t in
      let number = eqb-true _ _ p.0 in
      let offset : (before_of modules l.module_of).instrs ≡ (before_of modules m).instrs =
      ap (λ k. (before_of modules k).instrs) number in
      let same = eqb-true _ _ p.1 in
      eq-eqb _ _ (omega (arith, same, offset)))

  -- the change of a block's raised address is made from the block's link, if it has one
  pub change_is : (m : ℕ) (o : Object) (e : slice_get modules m ≡ Some o) (n : ℕ) (y : Block) → slice_get o.blocks n
      ≡ Some y → change_at cs ((before_of modules m).instrs + code_address y.start)
      ≡ option_map (change_of modules) (link_at modules joins m (code_address y.start))
  change_is m o e n y f =
      find_mapped (λ (c : Change). (before_of modules m).instrs + code_address y.start == c.from) (change_of modules)
      joins
      ∙ ap (option_map (change_of modules)) (find_same _ _ joins (λ i l g.
      test_same m o e n y f l (all_there (IsJoined modules) joins i l h.joined g)))

  -- each block has a landing: by cases on its link
  landing_by : (m : ℕ) (o : Object) (e : slice_get modules m ≡ Some o) (n : ℕ) (y : Block) (f : slice_get o.blocks n
      ≡ Some y) (u : Option Link) → link_at modules joins m (code_address y.start) ≡ u →
      Landing modules joins x m o (sent_by_change (before_of modules m) o (code_address y.start)
      (option_map (change_of modules) u)) (code_address y.start) y
  landing_by m o e n y f None g =
      let k = before_of modules m in
      let mine = is_module m o e in
      let address : k.instrs + code_address y.start ≡ code_address (raised_block k y).start = omega arith in
      record {
        lands = record {
          number = m;
          object = o;
          there = e;
          block_number = n;
          block = y;
          block_there = f;
          like = like_itself o y.code_type;
          found = ap (block_at x) address ∙ block_at_own x (k.blocks + n) (raised_block k y) spelled
              ((sits_in m o e).blocks n y f);
          is_sent = λ s fs gs bs. sent_at modules joins m (code_address y.start) s fs gs bs
              ∙ ap (sent_by modules (record { number = m; state = s })) g ∙ stay_at m (code_address y.start) s gs bs;
        };
        code_type = ap (λ (u : Option ℕ). k.types + unwrap_or u 0)
            (ap (option_map code_type_of) (block_at_own o n y mine.spelled f));
      }
  landing_by m o e n y f (Some l) g =
      let mine = is_module m o e in
      let found = found_there (λ (l : Link). (l.module_of == m)
      && (code_address y.start == code_address (start_in modules l.module_of l.block))) joins l g in
      let j = all_there (IsJoined modules) joins found.place l h.joined found.there in
      let p = and_parts _ _ found.passes in
      let number : l.module_of ≡ m = eqb-true _ _ p.0 in
      let from : j.from.object ≡ o = same_Some _ _ (sym j.from.there ∙ ap (slice_get modules) number ∙ e) in
      let b = there_below j.from.object.blocks l.block j.from.below in
      let b_there : slice_get o.blocks l.block ≡ Some b.0 = (λ i. slice_get (sym from i).blocks l.block) ∙ b.1 in
      let b_start = start_there modules l.module_of l.block j.from.object b.0 j.from.there b.1 in
      let starts : b.0.start ≡ y.start = (let same = eqb-true _ _ p.1 in omega (arith, same, b_start)) in
      let number_b : l.block ≡ n = one_number _ _ _ l.block n b.0 y mine.spelled.blocks b_there f starts in
      let is : b.0 ≡ y = same_Some _ _ (sym b_there ∙ ap (slice_get o.blocks) number_b ∙ f) in
      let b_type : type_in modules l.module_of l.block
      ≡ y.code_type = type_there modules l.module_of l.block j.from.object b.0 j.from.there b.1
      ∙ ap (λ (z : Block). z.code_type) is in
      let d = there_below j.to.object.blocks l.to_block j.to.below in
      let d_start = start_there modules l.to_module l.to_block j.to.object d.0 j.to.there d.1 in
      let d_type = type_there modules l.to_module l.to_block j.to.object d.0 j.to.there d.1 in
      let k = before_of modules l.to_module in
      record {
        lands = record {
          number = l.to_module;
          object = j.to.object;
          there = j.to.there;
          block_number = l.to_block;
          block = d.0;
          block_there = d.1;
          like = subst (λ t. LikeTypes o y.code_type j.to.object t) d_type
              (subst (λ t. LikeTypes o t j.to.object (type_in modules l.to_module l.to_block)) b_type
              (subst (λ (z : Object). LikeTypes z (type_in modules l.module_of l.block) j.to.object
              (type_in modules l.to_module l.to_block)) from j.types));
          found = ap (λ n. block_at x (code_address (k.instrs + n))) d_start
              ∙ block_at_own x (k.blocks + l.to_block) (raised_block k d.0) spelled
              ((sits_in l.to_module j.to.object j.to.there).blocks l.to_block d.0 d.1);
          is_sent = λ s fs gs bs. sent_at modules joins m (code_address y.start) s fs gs bs
              ∙ ap (sent_by modules (record { number = m; state = s })) g
              ∙ ap (λ n. in_module l.to_module (code_address n) s) d_start;
        };
        code_type = ap (λ t. k.types + t) d_type;
      }

  -- the block at an address has a landing
  pub landing : (m : ℕ) (o : Object) (e : slice_get modules m ≡ Some o) (w : ℕ) (y : Block) → block_at o w ≡ Some y →
      Landing modules joins x m o (sent_to cs (before_of modules m) o w) w y
  landing m o e w y f =
      let b = block_there o w y f in
      let k = before_of modules m in
      subst (λ n. Landing modules joins x m o (sent_to cs k o n) n y) (sym b.begins)
      (subst (λ (u : Option Change). Landing modules joins x m o (sent_by_change k o (code_address y.start) u)
      (code_address y.start) y) (sym (change_is m o e b.number y b.there))
      (landing_by m o e b.number y b.there (link_at modules joins m (code_address y.start)) refl))
