-- Why making forms stays within its bound on steps.
use Rattle.std.proofs.Common.{ℕ, suc, ◌≡◌, ◌+◌, ◌*◌, ◌<◌, ◌≤◌, List, [], ◌∷◌, length, Option, ap, arith}
use Rattle.std.specs.Option.{option_map, unwrap_or}
use Rattle.std.proofs.Math.Nat.{mul-le-mul_left, mul-le-mul_right}
use Rattle.ft_isa.proofs.Lists.{all_there}
use Rattle.ft_static.specs.Form.{Form as Normal, unchanged, updates}
use Rattle.ft_norm.specs.Held.{Keeps, updates_held}
use Rattle.ft_types.specs.declared.object.Object.{Object}
use Rattle.ft_types.specs.declared.object.CodeType.{CodeType}
use Rattle.ft_types.specs.declared.object.RegType.{RegType}
use Rattle.ft_types.specs.Objects.{reg_rows, queue_rows, regs_of, queue_of}
use Rattle.ft_types.specs.Spellable.{IsSpellable, IsCodeType, AreRising}
use Rattle.ft_contexts.specs.Costs.{tree_cost}
use Rattle.ft_contexts.specs.declared.variables.Variables.{Variables}
use Rattle.ft_contexts.specs.Contexts.{AreOwn, HoldsVariables}
use Rattle.ft_contexts.proofs.Kept.{memory_stays, updates_found}
use Rattle.ft_contexts.proofs.Spelled.{type_there}

-- the bound covers the tree of one node
pub tree_steps : (o : Object) (n u s t : ℕ) → n < length o.nodes → t ≤ s + (n + 1) * (1 + u + n) → t ≤ s + tree_cost o u
unfolding tree_cost
tree_steps o n u s t l h =
    let a : (n + 1) * (1 + u + n) ≤ length o.nodes * (1 + u + n) = mul-le-mul_right (1 + u + n) (omega arith) in
    let b : length o.nodes * (1 + u + n) ≤ length o.nodes * (u + length o.nodes) =
    mul-le-mul_left (length o.nodes) (omega arith) in
    omega (arith, h, a, b)

-- the bound rises with the number of updates
pub cost_rises : (o : Object) (u v : ℕ) → u ≤ v → tree_cost o u ≤ tree_cost o v
unfolding tree_cost
cost_rises o u v l = mul-le-mul_left (length o.nodes) (omega arith)

-- after the steps for one more tree, the total is within the bound for one more tree
pub one_tree : (s t r i j c : ℕ) → s ≤ i + j * c → t ≤ s + c → r ≡ j + 1 → t ≤ i + r * c
one_tree s t r i j c h k e = rw e (let m : (j + 1) * c ≡ j * c + c = omega arith in rw m (omega (arith, h, k)))

-- steps within the bound for j trees are within the bound for r trees, if j is at most r
pub some_trees : (s i j r c : ℕ) → s ≤ i + j * c → j ≤ r → s ≤ i + r * c
some_trees s i j r c h l = let m : j * c ≤ r * c = mul-le-mul_right c l in omega (arith, h, m)

-- there are at most 64 register rows whose numbers increase
rows_few : (least : ℕ) (rs : List RegType) → AreRising least rs → least ≤ 64 → length rs + least ≤ 64
rows_few least [] h l = omega arith
rows_few least (r ∷ rs) h l = let b = r.reg.in_range in let k = rows_few (suc r.reg.number) rs h.1 (omega arith) in
    let m = h.0 in omega arith

-- a code type has at most 64 register rows
pub few_reg_rows : (o : Object) (t : ℕ) → IsSpellable o → t < length o.types → length (reg_rows o t) ≤ 64
few_reg_rows o t h l =
    let x = type_there o t l in
    let k = all_there (IsCodeType (length o.types) o.nodes) o.types t x.0 h.types x.1 in
    let rows : reg_rows o t ≡ x.0.regs = ap (λ (y : Option CodeType). unwrap_or (option_map regs_of y) []) x.1 in
    rw rows (let w = rows_few 0 x.0.regs k.rising (omega arith) in omega (arith, w))

-- a code type has at most 8 queue rows
pub few_queue_rows : (o : Object) (t : ℕ) → IsSpellable o → t < length o.types → length (queue_rows o t) ≤ 8
few_queue_rows o t h l =
    let x = type_there o t l in
    let k = all_there (IsCodeType (length o.types) o.nodes) o.types t x.0 h.types x.1 in
    let rows : queue_rows o t ≡ x.0.queue = ap (λ (y : Option CodeType). unwrap_or (option_map queue_of y) []) x.1 in
    rw rows k.queue_length

-- with the variables unchanged, the steps for a tree are within the bound for a memory without updates
pub own_steps : (o : Object) (fs : List Normal) (n : ℕ) (v : Variables) (s t : ℕ) → AreOwn fs n v →
    t ≤ s + tree_cost o (updates (updates_held fs v.memory)) → t ≤ s + tree_cost o 0
own_steps o fs n v s t own h = let z = updates_found fs v.memory unchanged own.memory in rw z at h

-- under a substitution, the bound on the steps for a tree stays the same when the list of forms grows
pub put_steps : (o : Object) (fs gs : List Normal) (v : Variables) (s t : ℕ) → Keeps fs gs → HoldsVariables fs v →
    t ≤ s + tree_cost o (updates (updates_held gs v.memory)) → t ≤ s + tree_cost o (updates (updates_held fs v.memory))
put_steps o fs gs v s t k w h = let z = memory_stays fs gs v.memory k w.memory in rw z at h

-- after the steps for two more trees, the total is within the bound for one more pair of trees
pub two_trees : (s t r i j c : ℕ) → s ≤ i + j * (2 * c) → t ≤ s + c → r ≤ t + c → r ≤ i + (j + 1) * (2 * c)
two_trees s t r i j c h k l = let m : (j + 1) * (2 * c) ≡ j * (2 * c) + 2 * c = omega arith in
    rw m (omega (arith, h, k, l))
