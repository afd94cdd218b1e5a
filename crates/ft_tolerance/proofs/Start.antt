-- The state at the start of a run fits the start of an accepted object's entry block.
use Rattle.std.proofs.Common.{◌≡◌, inl, inr, ℕ, zero, suc, ◌+◌, ◌-◌, ◌<◌, ◌≤◌, Bool, true, false, cond, if◌then◌else◌}
use Rattle.std.proofs.Common.{List, [], length, map, nat_le, ◌==◌, slice_get, Option, Some, None, refl, sym, ap, ◌∙◌}
use Rattle.std.proofs.Common.{subst, arith, lit<}
use Rattle.std.specs.Option.{option_map, unwrap_or}
use Rattle.std.specs.Ordering.{nat_cmp}
use Rattle.std.specs.FinMap as finite
use Rattle.std.proofs.lemmas.Option.{slice_get_cases, slice_get_within}
use borrow.Author.Tests.{leb-true}
use Rattle.ft_isa.specs.Words.{IsWord, code_address, cell_address}
use Rattle.ft_isa.specs.declared.basic.Basic.{Basic}
use Rattle.ft_isa.proofs.Lists.{all_there}
use Rattle.ft_static.specs.Expression.{word_at}
use Rattle.ft_static.specs.Form.{Updates, unchanged, value_updates}
use Rattle.ft_static.specs.NodeRules.{AreNodes}
use Rattle.ft_static.specs.NodeTree.{trees, tree_of, memory_part, HasShape}
use Rattle.ft_static.specs.NormalForm.{norm_memory}
use Rattle.ft_static.specs.declared.node.Shape.TheVariants as shape
use Rattle.ft_static.proofs.NodeTrees.{tree_at-row}
use Rattle.ft_types.specs.declared.object.Object.{Object}
use Rattle.ft_types.specs.declared.object.Cell.{Cell}
use Rattle.ft_types.specs.declared.object.RegType.{RegType}
use Rattle.ft_types.specs.Objects.{basic_of, cell_head_of, start_of, code_type_of, block_start, block_type}
use Rattle.ft_types.specs.Objects.{init_or_zero, init_of, reg_rows, memory_of}
use Rattle.ft_types.specs.Spellable.{IsCell, IsSpellable}
use Rattle.ft_semantics.specs.State.{cell_at, tabulate, start}
use Rattle.ft_semantics.proofs.Tabulated.{cells_tell, tabulated}
use Rattle.ft_typing.specs.TypedWord.{cell_of, cell_type, HasType}
use Rattle.ft_typing.specs.Context.{memory_form_of, registers_after, queue_pair}
use Rattle.ft_typing.specs.Accepted.{IsAccepted}
use Rattle.ft_tolerance.specs.TypedState.{entry_block, start_place, FitsQueue, FitsCells, FitsContext, Fits, context_at}
use Rattle.ft_tolerance.specs.TypedState.{IsPlace}
use Rattle.ft_types.proofs.Maps.{get-insert}

-- THE CELLS

-- whichever of two values a test selects is a word if both are; a missing value counts as 0
word_by : (b : Bool) (x : ℕ) (u : Option ℕ) → IsWord x → IsWord (unwrap_or u 0) →
    IsWord (unwrap_or (cond b (Some x) u) 0)
word_by true x u h k = h
word_by false x u h k = k

words_tabulated : (value : ℕ → ℕ) (n a : ℕ) → ((k : ℕ) → k < n → IsWord (value k)) →
    IsWord (unwrap_or (finite.get (tabulate n cell_address value) a) 0)
unfolding tabulate
words_tabulated value zero a h = subst (λ (u : Option ℕ). IsWord (unwrap_or u 0)) (sym (finite.get-empty nat_cmp a))
    (lit< tt)
words_tabulated value (suc n) a h =
    subst (λ (u : Option ℕ). IsWord (unwrap_or u 0))
    (sym (get-insert (tabulate n cell_address value) (cell_address n) (value n) a))
    (word_by (a == cell_address n) (value n) (finite.get (tabulate n cell_address value) a) (h n (omega arith))
    (words_tabulated value n a (λ k l. h k (omega arith))))

-- `init_of` is the initial word of an existing cell
init_there : (o : Object) (k : ℕ) (x : Cell) → slice_get o.cells k ≡ Some x → init_of o k ≡ x.init
init_there o k x e = ap (λ u. init_or_zero (option_map cell_head_of u)) e

-- the initial words are words
init_is_word : (o : Object) (k : ℕ) → IsSpellable o → k < length o.cells → IsWord (init_of o k)
init_is_word o k spelled h = elim (slice_get_cases o.cells k).1 [
  | inl x ↦ subst IsWord (sym (init_there o k x.0 x.2)) (all_there (IsCell (length o.types)) o.cells k x.0 spelled.cells
      x.2).init
  | inr e ↦ absurd (omega (arith, e.0))
]

-- the cell of the object at an address
pub record CellThere (o : Object) (a : ℕ) (b : Basic) : Type 0 where
  pub number : ℕ
  pub cell : Cell
  pub there : slice_get o.cells number ≡ Some cell
  pub address : a ≡ cell_address number
  pub basic : cell.basic ≡ b

cell_there : (o : Object) (a : ℕ) (b : Basic) → cell_type o a ≡ Some b → CellThere o a b
unfolding cell_of
cell_there o a b h = by_test (nat_le 1048576 a) refl h
  where
    by_cell : (u : Option Cell) → slice_get o.cells (a - 1048576) ≡ u → 1048576 ≤ a → option_map basic_of u ≡ Some b →
        CellThere o a b
    by_cell None e l k = cc
    by_cell (Some x) e l k = record {
      number = a - 1048576;
      cell = x;
      there = e;
      address = omega arith;
      basic = (let same : x.basic ≡ b = cc in same);
    }

    by_test : (t : Bool) → nat_le 1048576 a ≡ t → option_map basic_of (if t then slice_get o.cells (a - 1048576)
        else None) ≡ Some b → CellThere o a b
    by_test true e k = by_cell (slice_get o.cells (a - 1048576)) refl (leb-true 1048576 a e) k
    by_test false e k = cc

-- the form of a node that is the memory variable is the unchanged memory
form_of_variable : (o : Object) (n : ℕ) → AreNodes o.nodes → HasShape o.nodes n shape.Memory → memory_form_of o n
    ≡ unchanged
unfolding memory_form_of
form_of_variable o n nodes h = (λ i. norm_memory (memory_part (tree_at-row o.nodes n h.node nodes h.found i)))
    ∙ (λ i. norm_memory (memory_part (tree_of (trees o.nodes) (h.shape i))))

-- the initial cells fit the form of the memory variable
start_cells : (o : Object) (m : Updates) → IsAccepted o → m ≡ unchanged →
    FitsCells o (start_place o).valuation m (start o).cells
unfolding FitsCells
start_cells o m acc e = λ a b at.
    let x = cell_there o a b at in
    let found : cell_at (start o).cells a ≡ Some x.cell.init = ap (cell_at (start o).cells) x.address
    ∙ tabulated (length o.cells) cell_address cells_tell (init_of o) x.number
    (slice_get_within o.cells x.number x.cell x.there) ∙ ap Some (init_there o x.number x.cell x.there) in
    let denoted : word_at (value_updates m (start_place o).valuation) a
    ≡ x.cell.init = ap (λ (u : Updates). word_at (value_updates u (start_place o).valuation) a) e
    ∙ ap (λ u. unwrap_or u 0) found in
    record {
      word = found ∙ ap Some (sym denoted);
      typed = subst (λ z. HasType o z b) (sym denoted)
          (subst (HasType o x.cell.init) x.basic (acc.cells x.number x.cell x.there));
    }

-- THE WHOLE STATE

-- without register rows, no register is known
no_registers : (o : Object) (rows : List RegType) (r : ℕ) → rows ≡ [] →
    finite.get (registers_after o finite.empty rows) r ≡ None
unfolding registers_after
no_registers o rows r e = ap (λ (z : List RegType). finite.get (registers_after o finite.empty z) r) e
    ∙ finite.get-empty nat_cmp r

start_context_fits : (o : Object) → IsSpellable o → IsAccepted o →
    FitsContext o (start_place o).valuation (start_place o).context (start o)
start_context_fits o spelled acc =
    let t = block_type o o.entry in
    let v = (start_place o).valuation in
    record {
      lawful = record {
        integers = λ i. lit< tt;
        memory = λ a.
            words_tabulated (init_of o) (length o.cells) a (λ k h. init_is_word o k spelled h);
      };
      registers = λ r y e. (let none = no_registers o (reg_rows o t) r acc.entry.regs in absurd (cc));
      d = refl;
      queue = subst (λ (z : List (ℕ × ℕ)). FitsQueue o v (map (queue_pair o) z) []) (sym acc.entry.queue) tt;
      cells = start_cells o (memory_form_of o (memory_of o t)) acc
          (form_of_variable o (memory_of o t) spelled.nodes acc.entry.memory);
    }

-- the entry block is one of the object's
entry_there : (o : Object) → IsSpellable o → slice_get o.blocks o.entry ≡ Some (entry_block o)
entry_there o spelled =
    let below = spelled.entry in
    elim (slice_get_cases o.blocks o.entry).1 [
      | inl x ↦ x.2 ∙ (λ i. Some (record {
        start = unwrap_or (option_map start_of (sym x.2 i)) 0;
        code_type = unwrap_or (option_map code_type_of (sym x.2 i)) 0;
      }))
      | inr e ↦ absurd (omega (arith, e.0))
    ]

pub start_is_place : (o : Object) → IsSpellable o → IsPlace o (start_place o)
unfolding context_at
start_is_place o spelled = record { number = o.entry; block = entry_there o spelled; context = refl }

pub start_fits : (o : Object) → IsSpellable o → IsAccepted o → Fits o (start_place o) (start o)
start_fits o spelled acc =
    let here : block_start o o.entry ≡ block_start o o.entry + 0 = omega arith in
    record {
      pc_green = ap code_address here;
      pc_blue = ap code_address here;
      fetched = inl refl;
      context = start_context_fits o spelled acc;
    }
