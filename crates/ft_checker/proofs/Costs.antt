-- Why a check stays within its bound on steps.
use Rattle.std.proofs.Common.{ℕ, suc, zero, ◌≡◌, ◌+◌, ◌*◌, ◌≤◌, List, [], ◌∷◌, ◌++◌, length, take, slice_get, Option}
use Rattle.std.proofs.Common.{Some, refl, sym, ap, ◌∙◌, subst, arith}
use Rattle.std.specs.Option.{option_map, unwrap_or}
use Rattle.std.proofs.Math.Nat.{mul-le-mul_left, mul-le-mul_right}
use Rattle.std.proofs.lemmas.List.{take_more}
use Rattle.std.proofs.lemmas.Option.{get_or_from_slice_get, slice_get_within}
use Rattle.ft_isa.specs.declared.instr.Instr.{Instr}
use Rattle.ft_isa.specs.declared.instr.Instr.TheVariants.{Ld, JmpB, BzB}
use Rattle.ft_static.specs.Form.{updates}
use Rattle.ft_types.specs.declared.object.Object.{Object}
use Rattle.ft_types.specs.declared.object.Block.{Block}
use Rattle.ft_typing.specs.Context.{Context}
use Rattle.ft_types.specs.Objects.{block_end, start_of}
use Rattle.ft_types.specs.Spellable.{IsSpellable, BeginAtZero}
use Rattle.ft_contexts.specs.Costs.{tree_cost}
use Rattle.ft_rules.specs.Answers.{rule_cost}
use Rattle.ft_checker.specs.Costs.{transfers, transfer_count, most_updates, check_cost, visit_cost, walk_cost}
use Rattle.ft_checker.specs.Costs.{instrs_cost}

-- up to 210 trees, over a memory with at most as many updates as there are nodes, cost no more than `visit_cost`
trees_within : (o : Object) (n u : ℕ) → n ≤ 210 → u ≤ length o.nodes → n * tree_cost o u ≤ visit_cost o
unfolding tree_cost visit_cost
trees_within o n u l m =
    let N = length o.nodes in
    let a : N * (u + N) ≤ N * (1 + most_updates o) = mul-le-mul_left N (omega arith) in
    let b : n * (N * (u + N)) ≤ 210 * (N * (u + N)) = mul-le-mul_right (N * (u + N)) l in
    let c : 210 * (N * (1 + most_updates o)) ≡ 210 * N * (1 + most_updates o) = omega arith in
    omega (arith, a, b, c)

-- the 81 trees of a block's start cost no more than `visit_cost`
pub start_within : (o : Object) (s t : ℕ) → t ≤ s + 81 * tree_cost o 0 → t ≤ s + visit_cost o
start_within o s t h = let a = trees_within o 81 0 (omega arith) (omega arith) in omega (arith, h, a)

-- a row costs no more than the bound for its instruction
pub rule_within : (o : Object) (k : Context) (i : Instr) → updates k.memory ≤ length o.nodes + length o.instrs →
    length k.queue ≤ 8 → rule_cost o k i ≤ transfers i * visit_cost o + walk_cost o
unfolding walk_cost
rule_within o k (Ld colour rd rs) m q = omega (arith, m, q)
rule_within o k (JmpB rd subst) m q = let a = trees_within o 210 (length o.nodes) (omega arith) (omega arith) in
    omega (arith, a)
rule_within o k (BzB rz rd subst) m q = let a = trees_within o 210 (length o.nodes) (omega arith) (omega arith) in
    omega (arith, a)
rule_within o k i m q = omega arith

-- one more instruction adds its own cost
cost_push : (o : Object) (is : List Instr) (i : Instr) → instrs_cost o (is ++ i ∷ [])
    ≡ instrs_cost o is + (transfers i * visit_cost o + walk_cost o)
unfolding instrs_cost
cost_push o [] i = omega arith
cost_push o (j ∷ is) i = let h = cost_push o is i in omega (arith, h)

-- likewise for the first k instructions and the next one
pub cost_more : (o : Object) (is : List Instr) (k : ℕ) (i : Instr) → slice_get is k ≡ Some i →
    instrs_cost o (take (k + 1) is) ≡ instrs_cost o (take k is) + (transfers i * visit_cost o + walk_cost o)
cost_more o is k i e =
    let t = take_more is k i (slice_get_within is k i e) in
    ap (instrs_cost o) (t ∙ ap (λ (j : Instr). take k is ++ j ∷ []) (get_or_from_slice_get is k i i e))
    ∙ cost_push o (take k is) i

-- the cost of an empty list of instructions is 0
pub none_cost : (o : Object) → instrs_cost o [] ≡ 0
unfolding instrs_cost
none_cost o = refl

-- more instructions cost at least as much
pub cost_rises : (o : Object) (is : List Instr) (k l : ℕ) → k ≤ l →
    instrs_cost o (take k is) ≤ instrs_cost o (take l is)
unfolding instrs_cost
cost_rises o [] zero zero h = omega arith
cost_rises o [] zero (suc l) h = omega arith
cost_rises o [] (suc k) zero h = omega arith
cost_rises o [] (suc k) (suc l) h = omega arith
cost_rises o (i ∷ is) zero zero h = omega arith
cost_rises o (i ∷ is) zero (suc l) h = omega arith
cost_rises o (i ∷ is) (suc k) zero h = absurd (omega arith)
cost_rises o (i ∷ is) (suc k) (suc l) h = let r = cost_rises o is k l (omega arith) in omega (arith, r)

-- the first instructions cost no more than all
pub cost_all : (o : Object) (is : List Instr) (k : ℕ) → instrs_cost o (take k is) ≤ instrs_cost o is
unfolding instrs_cost
cost_all o [] zero = omega arith
cost_all o [] (suc k) = omega arith
cost_all o (i ∷ is) zero = omega arith
cost_all o (i ∷ is) (suc k) = let r = cost_all o is k in omega (arith, r)

-- the cost of instructions, in terms of their number and of the number of blue jumps and branches
cost_counted : (o : Object) (is : List Instr) → instrs_cost o is
    ≡ transfer_count is * visit_cost o + length is * walk_cost o
unfolding instrs_cost
cost_counted o [] = omega arith
cost_counted o (i ∷ is) =
    let h = cost_counted o is in
    let a : (transfers i + transfer_count is) * visit_cost o
    ≡ transfers i * visit_cost o + transfer_count is * visit_cost o = omega arith in
    let b : suc (length is) * walk_cost o ≡ walk_cost o + length is * walk_cost o = omega arith in
    omega (arith, h, a, b)

-- the costs of all blocks and instructions add up to the bound
pub cost_whole : (o : Object) → length o.blocks * visit_cost o + instrs_cost o o.instrs ≡ check_cost o
unfolding visit_cost walk_cost
cost_whole o =
    let h = cost_counted o o.instrs in
    omega (arith, h)

-- where a block begins, and where the last one ends
abbrev pub begins : Object → ℕ → ℕ
begins o zero = 0
begins o (suc b) = block_end o b

-- an existing block begins there
pub begins_there : (o : Object) (b : ℕ) (x : Block) → IsSpellable o → slice_get o.blocks b ≡ Some x → begins o b
    ≡ x.start
begins_there o zero x h e = sym (first o.blocks h.first_block e)
  where
    first : (bs : List Block) → BeginAtZero bs → slice_get bs 0 ≡ Some x → x.start ≡ 0
    first [] z f = absurd z
    first (b ∷ bs) z f = let same : b ≡ x = cc in ap start_of (sym same) ∙ z
begins_there o (suc b) x h e = ap (λ (y : Option Block). unwrap_or (option_map start_of y) (length o.instrs)) e
