-- An exchange keeps an object spellable and accepted.
use Rattle.std.proofs.Common.{◌≡◌, ℕ, zero, suc, ◌+◌, true, false, List, [], length, take, Some, None, slice_get, refl}
use Rattle.std.proofs.Common.{sym, ap, ◌∙◌, subst, arith, ⊎_elim}
use Rattle.std.specs.Option.{option_map, unwrap_or}
use Rattle.std.proofs.lemmas.Bool.{cases_eq}
use Rattle.std.proofs.lemmas.List.{length-map}
use Rattle.ft_isa.specs.declared.instr.Instr.{Instr}
use Rattle.ft_isa.specs.declared.instr.Instr.TheVariants.{JmpB, BzB}
use Rattle.ft_types.specs.declared.object.Object.{Object}
use Rattle.ft_types.specs.declared.object.Block.{Block}
use Rattle.ft_types.specs.Objects.{code_type_of, queue_rows, block_type, block_start, block_instrs}
use Rattle.ft_types.specs.Spellable.{IsInstr, AreBlocks, Cover, subst_of, IsSpellable}
use Rattle.ft_typing.specs.Context.{Context, queue_pair, start_context}
use Rattle.ft_typing.specs.Accepted.{Applies, last_row, next_row, IsAccepted}
use Rattle.ft_isa.specs.Instructions.{is_fixed}
use Rattle.ft_exchange.specs.Exchange.{queue_after, queue_before, may_exchange, IsPermitted, exchanged, after_exchange}
use Rattle.ft_typing.proofs.SameTables.{has_over, start_same, applies_same}
use Rattle.ft_exchange.proofs.Lists.{length-exchanged, all_exchanged, substs_exchanged}
use Rattle.ft_exchange.proofs.BlockRanges.{placed, same_block, other_block}
use Rattle.ft_exchange.proofs.Permits.{permits}
use Rattle.ft_exchange.proofs.Crossing.{crosses}
use Rattle.ft_exchange.proofs.QueueLengths.{counted, ends_fixed}

-- SPELLABLE

free_subst : (i : Instr) → is_fixed i ≡ false → subst_of i ≡ None
free_subst (JmpB rd u) h = cc
free_subst (BzB rz rd u) h = cc
free_subst i h = refl

pub spellable_exchanged : (o : Object) (b k : ℕ) → IsSpellable o → IsPermitted o b k →
    IsSpellable (after_exchange o b k)
spellable_exchanged o b k h p =
    let n = block_start o b + k in
    let l = length-exchanged o.instrs n in
    let at = placed o b k p in
    let free = permits (queue_before o b k) p.first p.second p.may in
    record {
      few_cells = h.few_cells;
      cells = h.cells;
      names_differ = h.names_differ;
      nodes = h.nodes;
      some_type = h.some_type;
      few_types = h.few_types;
      few_reg_rows = h.few_reg_rows;
      few_queue_rows = h.few_queue_rows;
      types = h.types;
      few_blocks = h.few_blocks;
      first_block = h.first_block;
      blocks = subst (λ m. AreBlocks m 0 o.blocks) (sym l) h.blocks;
      block_types = h.block_types;
      some_instr = (let g = h.some_instr in omega arith);
      few_instrs = (let g = h.few_instrs in omega arith);
      instrs = all_exchanged (IsInstr (length o.types) (length o.cells)) o.instrs n h.instrs;
      few_substs = h.few_substs;
      covered = subst (Cover o.nodes (length o.substs) 0)
          (sym (substs_exchanged o.instrs n p.first p.second at.first_there at.second_there
          (free_subst p.first free.first_free) (free_subst p.second free.second_free))) h.covered;
      substs = h.substs;
      entry = h.entry;
    }

-- ACCEPTED

applies_exchanged : (o : Object) (c : Context) (is : List Instr) (k : ℕ) (a b : Instr) → slice_get is k ≡ Some a →
    slice_get is (suc k) ≡ Some b → may_exchange (queue_after (length c.queue) (take k is)) a b ≡ true →
    Applies o c is → Applies o c (exchanged is k)
applies_exchanged o c _ zero a b ea eb m (last_row e) = cc
applies_exchanged o c _ (suc k) a b ea eb m (last_row e) = cc
applies_exchanged o c _ zero a b ea eb m (next_row d e (last_row {i = j} f)) =
    (let same : j ≡ b = cc in
    let free = (permits _ a b m).second_free in
    let fixed : is_fixed b ≡ true = ap is_fixed (sym same) ∙ ends_fixed o d j f in
    absurd (cc))
applies_exchanged o c _ zero a b ea eb m (next_row {i = i} d e (next_row {i = j} {is = is} x f h)) =
    (let ia : i ≡ a = cc in
    let jb : j ≡ b = cc in
    let n : queue_after (length c.queue) [] ≡ length c.queue = omega arith in
    let m1 = subst (λ z. may_exchange z a b ≡ true) n m in
    let m2 = subst (λ (z : Instr). may_exchange (length c.queue) z b ≡ true) (sym ia) m1 in
    let m3 : may_exchange (length c.queue) i j ≡ true = subst (λ (z : Instr). may_exchange (length c.queue) i z
    ≡ true) (sym jb) m2 in
    let z = crosses o c d x i j (permits (length c.queue) i j m3) e f in
    next_row z.between z.second_row (next_row x z.first_row h))
applies_exchanged o c _ (suc k) a b ea eb m (next_row {i = i} {is = is} d e h) =
    next_row d e (applies_exchanged o d is k a b ea eb (subst (λ n. may_exchange n a b
    ≡ true) (counted o c d i e (take k is)) m) h)

block_exchanged : (o : Object) (b k : ℕ) (x : Block) → IsAccepted o → (p : IsPermitted o b k) → slice_get o.blocks b
    ≡ Some x → Applies (after_exchange o b k) (start_context (after_exchange o b k) x.code_type)
    (block_instrs (after_exchange o b k) b)
block_exchanged o b k x acc p e =
    let s = after_exchange o b k in
    let t : block_type o b ≡ x.code_type = ap (λ u. unwrap_or (option_map code_type_of u) 0) e in
    let q : length (queue_rows o (block_type o b)) ≡ length (start_context o x.code_type).queue =
    ap (λ t. length (queue_rows o t)) t ∙ sym (length-map (queue_rows o x.code_type) (queue_pair o)) in
    let a = applies_exchanged o (start_context o x.code_type) (block_instrs o b) k p.first p.second p.first_there
    p.second_there (subst (λ n. may_exchange (queue_after n (take k (block_instrs o b))) p.first p.second
    ≡ true) q p.may) (acc.blocks b x e) in
    subst (λ (c : Context). Applies s c (block_instrs s b))
    (sym (start_same o o.cells (exchanged o.instrs (block_start o b + k)) refl x.code_type))
    (subst (Applies s (start_context o x.code_type)) (sym (same_block o b k p))
    (applies_same o o.cells (exchanged o.instrs (block_start o b + k)) refl _ _ a))

other_exchanged : (o : Object) (b k j : ℕ) (x : Block) → IsSpellable o → IsAccepted o → IsPermitted o b k →
    slice_get o.blocks j ≡ Some x → (j ≡ b → ⊥) → Applies (after_exchange o b k)
    (start_context (after_exchange o b k) x.code_type) (block_instrs (after_exchange o b k) j)
other_exchanged o b k j x spelled acc p e ne =
    let s = after_exchange o b k in
    subst (λ (c : Context). Applies s c (block_instrs s j))
    (sym (start_same o o.cells (exchanged o.instrs (block_start o b + k)) refl x.code_type))
    (subst (Applies s (start_context o x.code_type)) (sym (other_block o b k j x spelled p e ne))
    (applies_same o o.cells (exchanged o.instrs (block_start o b + k)) refl _ _ (acc.blocks j x e)))

pub accepted_exchanged : (o : Object) (b k : ℕ) → IsSpellable o → IsAccepted o → IsPermitted o b k →
    IsAccepted (after_exchange o b k)
accepted_exchanged o b k spelled acc p = record {
  entry = record { ints = acc.entry.ints; regs = acc.entry.regs; queue = acc.entry.queue; memory = acc.entry.memory };
  cells = λ n x e. has_over o o.cells (exchanged o.instrs (block_start o b + k)) refl x.init x.basic.refs x.basic.base
      (acc.cells n x e);
  blocks = λ j x e. ⊎_elim
      (λ (same : j ≡ b). subst (λ i. slice_get o.blocks i ≡ Some x →
      Applies (after_exchange o b k) (start_context (after_exchange o b k) x.code_type)
      (block_instrs (after_exchange o b k) i)) (sym same) (block_exchanged o b k x acc p) e)
      (λ (ne : j ≡ b → ⊥). other_exchanged o b k j x spelled acc p e ne)
      (cases_eq j b);
}
