-- What holds of the rows and the instructions of a spellable object.
use Rattle.std.proofs.Common.{◌≡◌, ℕ, zero, suc, Bool, true, ◌<◌, List, [], ◌∷◌, length, slice_get, Option, None, Some}
use Rattle.std.proofs.Common.{refl, sym, ap, ◌∙◌, subst, arith}
use Rattle.std.specs.Option.{option_map, unwrap_or}
use Rattle.ft_isa.specs.declared.instr.Subst.{Subst}
use Rattle.ft_isa.specs.declared.instr.Instr.{Instr}
use Rattle.ft_isa.proofs.Lists.{all_there}
use Rattle.ft_static.specs.declared.node.Node.{Node}
use Rattle.ft_types.specs.declared.object.Object.{Object}
use Rattle.ft_types.specs.declared.object.CodeType.{CodeType}
use Rattle.ft_types.specs.declared.object.RegType.{RegType}
use Rattle.ft_types.specs.Objects.{reg_rows, queue_rows, ints_of, memory_of, regs_of, queue_of, ints_of_type}
use Rattle.ft_types.specs.Objects.{memory_of_type}
use Rattle.ft_types.specs.Spellable.{IsSpellable, IsCodeType, IsRegRow, IsQueueRow, IsNodeIn, IsInstr, IsSubst, Cover}
use Rattle.ft_types.specs.Spellable.{before, subst_of, substs_of}

-- a code type with this number exists
pub type_there : (o : Object) (t : ℕ) → t < length o.types → (x : CodeType) × (slice_get o.types t ≡ Some x)
type_there o t h = there o.types t h
  where
    there : (ts : List CodeType) (t : ℕ) → t < length ts → (x : CodeType) × (slice_get ts t ≡ Some x)
    there [] t h = absurd (omega arith)
    there (x ∷ ts) zero h = (x, refl)
    there (x ∷ ts) (suc t) h = there ts t (omega arith)

-- the register rows of a code type obey the rules
pub reg_row_spelled : (o : Object) (t j : ℕ) (r : RegType) → IsSpellable o → t < length o.types →
    slice_get (reg_rows o t) j ≡ Some r → IsRegRow (length o.types) o.nodes (ints_of o t) r
reg_row_spelled o t j r h l e =
    let x = type_there o t l in
    let k = all_there (IsCodeType (length o.types) o.nodes) o.types t x.0 h.types x.1 in
    let rows : reg_rows o t ≡ x.0.regs = ap (λ (y : Option CodeType). unwrap_or (option_map regs_of y) []) x.1 in
    let ints : ints_of o t ≡ x.0.ints = ap (λ (y : Option CodeType). unwrap_or (option_map ints_of_type y) 0) x.1 in
    let found : slice_get x.0.regs j ≡ Some r = subst (λ rs. slice_get rs j ≡ Some r) rows e in
    rw ints (all_there (IsRegRow (length o.types) o.nodes x.0.ints) x.0.regs j r k.regs found)

-- the queue rows of a code type obey the rules
pub queue_row_spelled : (o : Object) (t j : ℕ) (q : ℕ × ℕ) → IsSpellable o → t < length o.types →
    slice_get (queue_rows o t) j ≡ Some q → IsQueueRow o.nodes (ints_of o t) q
queue_row_spelled o t j q h l e =
    let x = type_there o t l in
    let k = all_there (IsCodeType (length o.types) o.nodes) o.types t x.0 h.types x.1 in
    let rows : queue_rows o t ≡ x.0.queue = ap (λ (y : Option CodeType). unwrap_or (option_map queue_of y) []) x.1 in
    let ints : ints_of o t ≡ x.0.ints = ap (λ (y : Option CodeType). unwrap_or (option_map ints_of_type y) 0) x.1 in
    let found : slice_get x.0.queue j ≡ Some q = subst (λ rs. slice_get rs j ≡ Some q) rows e in
    rw ints (all_there (IsQueueRow o.nodes x.0.ints) x.0.queue j q k.queue found)

-- the memory of a code type obeys the rules
pub memory_spelled : (o : Object) (t : ℕ) → IsSpellable o → t < length o.types →
    IsNodeIn o.nodes (ints_of o t) true (memory_of o t)
memory_spelled o t h l =
    let x = type_there o t l in
    let k = all_there (IsCodeType (length o.types) o.nodes) o.types t x.0 h.types x.1 in
    let memory : memory_of o t ≡ x.0.memory = ap (λ (y : Option CodeType). unwrap_or (option_map memory_of_type y) 0)
    x.1 in
    let ints : ints_of o t ≡ x.0.ints = ap (λ (y : Option CodeType). unwrap_or (option_map ints_of_type y) 0) x.1 in
    rw (ints, memory) k.memory

-- an instruction obeys the rules
pub instr_spelled : (o : Object) (k : ℕ) (i : Instr) → IsSpellable o → slice_get o.instrs k ≡ Some i →
    IsInstr (length o.types) (length o.cells) i
instr_spelled o k i h e = all_there (IsInstr (length o.types) (length o.cells)) o.instrs k i h.instrs e

-- the substitutions that follow are covered
cover_rest : (nodes : List Node) (rows first : ℕ) (x : Option Subst) (ss : List Subst) →
    Cover nodes rows first (before x ss) → (f : ℕ) × Cover nodes rows f ss
cover_rest nodes rows first None ss h = (first, h)
cover_rest nodes rows first (Some s) ss h = (s.past, h.1)

-- a covered substitution obeys the rules
covered : (nodes : List Node) (rows first : ℕ) (is : List Instr) (k : ℕ) (i : Instr) (u : Subst) →
    Cover nodes rows first (substs_of is) → slice_get is k ≡ Some i → subst_of i ≡ Some u → IsSubst nodes rows u.first u
covered nodes rows first [] k i u h e s = cc
covered nodes rows first (j ∷ is) zero i u h e s =
    let same : j ≡ i = cc in
    let t : subst_of j ≡ Some u = ap subst_of same ∙ s in
    let c : Cover nodes rows first (u ∷ substs_of is) =
    subst (λ (x : Option Subst). Cover nodes rows first (before x (substs_of is))) t h in
    subst (λ (f : ℕ). IsSubst nodes rows f u) (sym c.0.first_is) c.0
covered nodes rows first (j ∷ is) (suc k) i u h e s =
    let r = cover_rest nodes rows first (subst_of j) (substs_of is) h in
    covered nodes rows r.0 is k i u r.1 e s

-- the substitution of an instruction obeys the rules
pub subst_spelled : (o : Object) (k : ℕ) (i : Instr) (u : Subst) → IsSpellable o → slice_get o.instrs k ≡ Some i →
    subst_of i ≡ Some u → IsSubst o.nodes (length o.substs) u.first u
subst_spelled o k i u h e s = covered o.nodes (length o.substs) 0 o.instrs k i u h.covered e s

-- a node within the scope of a code type's variables is within the maximum scope
pub most_scope : (o : Object) (t n : ℕ) (b : Bool) → IsSpellable o → t < length o.types →
    IsNodeIn o.nodes (ints_of o t) b n → IsNodeIn o.nodes 128 b n
most_scope o t n b h l k =
    let x = type_there o t l in
    let m = all_there (IsCodeType (length o.types) o.nodes) o.types t x.0 h.types x.1 in
    let ints : ints_of o t ≡ x.0.ints = ap (λ (y : Option CodeType). unwrap_or (option_map ints_of_type y) 0) x.1 in
    record {
      lower = k.lower;
      node = k.node;
      found = k.found;
      sort = k.sort;
      scope_within = omega (arith, k.scope_within, ints, m.ints);
    }
