-- The sample object is spellable.
use Rattle.std.proofs.Common.{◌≡◌, ℕ, zero, suc, ◌+◌, ◌*◌, ◌≤◌, List, [], ◌∷◌, ◌++◌, length, refl, sym, subst, arith}
use Rattle.std.specs.Prelude.{All, Some, codes, false, slice_get}
use Rattle.std.specs.List.{AllByRecursion}
use Rattle.std.proofs.lemmas.List.Elements.{All-nil, All-cons}
use Rattle.std.proofs.lemmas.Option.{same_Some}
use Rattle.ft_isa.specs.Words.{IsWord}
use Rattle.ft_isa.specs.declared.instr.Instr.{Instr}
use Rattle.ft_static.specs.declared.node.Node.{Node}
use Rattle.ft_static.specs.declared.node.Shape.TheVariants as shape
use Rattle.ft_static.specs.NodeRules.{IsNode}
use Rattle.ft_types.specs.declared.object.Object.{Object}
use Rattle.ft_typing.specs.Examples.{int_cell, nothing_known}
use Rattle.ft_types.specs.Spellable.{IsSpellable, IsBasic, IsCell, IsCodeType, IsInstr, HasCodeType, Cover, IsRegRow}
use Rattle.ft_types.specs.Spellable.{IsQueueRow, IsNodeIn, substs_of}
use Rattle.ft_isa.specs.BasicTypes.{int, ref}
use Rattle.ft_isa.proofs.Lists.{all_of_one}
use Rattle.ft_demo.specs.Sample.{opening, turns_from, sample_object}

-- the only node
abbrev one_node : List Node
one_node = record { scope = 0; shape = shape.Memory } ∷ []

-- there are six instructions for each turn, and one for the end
turns_many : (n i : ℕ) → length (turns_from i n) ≡ 6 * n + 1
turns_many zero i = refl
turns_many (suc n) i = let h = turns_many n (suc i) in omega (arith, h)

-- no turn carries a substitution
turns_bare : (n i : ℕ) → substs_of (turns_from i n) ≡ []
turns_bare zero i = refl
turns_bare (suc n) i = turns_bare n (suc i)

-- a small number is a word
small : (w : ℕ) → w ≤ 2000000 → IsWord w
small w le = omega (arith, le)

-- `AllByRecursion` implies `All`
all_in_turn : {X : Type 0} (P : X → Type 0) (xs : List X) → AllByRecursion P xs → All P xs
all_in_turn P [] h = All-nil P
all_in_turn P (x ∷ xs) h = All-cons P x xs h.0 (all_in_turn P xs h.1)

-- the numbers in the turns are words
turns_fit : (n i : ℕ) → i + n ≤ 20000 → AllByRecursion (IsInstr 1 1) (turns_from i n)
turns_fit zero i h = (tt, tt)
turns_fit (suc n) i h =
    let three = small 3 (omega arith) in
    let turn_number = small i (omega (arith, h)) in
    (three, (turn_number, (three, (turn_number, (tt, (tt, turns_fit n (suc i) (omega (arith, h))))))))

-- the numbers in the opening are words
opening_fits : (is : List Instr) → AllByRecursion (IsInstr 1 1) is → All (IsInstr 1 1) (opening ++ is)
opening_fits is more =
    let out = small 1048576 (omega arith) in
    let none = small 0 (omega arith) in
    let ref_int : IsBasic 1 (ref int) = record { refs = omega arith; base = tt } in
    let plain : IsBasic 1 int = record { refs = omega arith; base = tt } in
    all_in_turn (IsInstr 1 1) (opening ++ is) ((out, ref_int), ((out, ref_int), ((none, plain), ((none, plain), more))))

-- the only node obeys its rules
node_is_lawful : (n : ℕ) (x : Node) → slice_get (one_node) n ≡ Some x → IsNode one_node n x
node_is_lawful zero x e = subst (IsNode one_node 0) (same_Some _ _ e) (record { scope = omega arith; shape = tt })
node_is_lawful (suc n) x e = absurd cc

-- the object obeys every rule of its tables
pub sample_is_spellable : (o : Object) (n : ℕ) → o ≡ sample_object n → 1 ≤ n → n ≤ 10921 → IsSpellable o
sample_is_spellable o n e some few = subst IsSpellable (sym e) (
    let many = turns_many n 1 in
    record {
      few_cells = omega arith;
      cells = all_of_one (IsCell 1) (int_cell (codes "out") 0) (record {
        name = refl;
        name_length = omega arith;
        basic = record { refs = omega arith; base = tt };
        init = small 0 (omega arith);
      });
      names_differ = λ i j d before within same. omega (arith, before, within);
      nodes = record { few = omega arith; each = node_is_lawful };
      some_type = omega arith;
      few_types = omega arith;
      few_reg_rows = omega arith;
      few_queue_rows = omega arith;
      types = all_of_one (IsCodeType 1 one_node) nothing_known (record {
        ints = omega arith;
        regs = All-nil (IsRegRow 1 one_node 0);
        rising = tt;
        queue_length = omega arith;
        queue = All-nil (IsQueueRow one_node 0);
        memory = record { lower = omega arith; node = _; found = refl; sort = refl; scope_within = omega arith };
      });
      few_blocks = omega arith;
      first_block = refl;
      blocks = (omega arith, omega arith, tt);
      block_types = all_of_one (HasCodeType 1) (record { start = 0; code_type = 0 }) (omega arith);
      some_instr = omega arith;
      few_instrs = omega (arith, many, few);
      instrs = opening_fits (turns_from 1 n) (turns_fit n 1 (omega (arith, few)));
      few_substs = omega arith;
      covered = subst (Cover one_node 0 0) (sym (turns_bare n 1)) refl;
      substs = All-nil (IsNodeIn one_node 128 false);
      entry = omega arith;
    })
