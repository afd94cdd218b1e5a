-- Nodes of two objects agree exactly when their numbers do.
use Rattle.std.proofs.Common.{◌≡◌, ℕ, ◌+◌, true, false, List, [], length, slice_get, Option, Some, sym, ap, ◌∙◌, subst}
use Rattle.std.proofs.Common.{true≢false}
use Rattle.std.specs.Prelude.{◌↔◌, All, IsTrue}
use Rattle.std.specs.List.{AllZip}
use Rattle.std.specs.Option.{option_map, unwrap_or}
use Rattle.ft_isa.proofs.Lists.{all_there}
use Rattle.ft_static.specs.Expression.{integer, memory}
use Rattle.ft_static.specs.NodeRules.{AreNodes}
use Rattle.ft_static.specs.NodeTree.{integer_part, memory_part}
use Rattle.ft_types.specs.declared.object.Object.{Object}
use Rattle.ft_types.specs.declared.object.CodeType.{CodeType}
use Rattle.ft_types.specs.Objects.{regs_of, queue_of, ints_of_type, memory_of_type, memory_of, reg_rows, queue_rows}
use Rattle.ft_types.specs.Spellable.{IsNodeIn, IsRegRow, IsQueueRow, IsCodeType, IsSpellable}
use Rattle.ft_types.proofs.NodesIn.{integer_in, memory_in}
use Rattle.ft_modules.specs.LikeTypes.{LikeTypes, SameInteger, SameMemory, SameRow, SamePair}
use Rattle.ft_modules.proofs.Elements.{all_of}
use Rattle.ft_modules.specs.TreeKeys.{number_in}
use Rattle.ft_linker.specs.Numbers.{AreCompared, HasRow, HasPair}

module _ (cs : List ℕ) (o : Object) (k : ℕ) (x : Object) (l : ℕ) (one : AreNodes o.nodes) (other : AreNodes x.nodes)
    (h : AreCompared cs o k x l) where
  -- nodes of integers have the same number exactly when they stand for the same integer
  pub integers_compared : (sc sd n m : ℕ) → IsNodeIn o.nodes sc false n → IsNodeIn x.nodes sd false m →
      number_in cs (k + n) ≡ number_in cs (l + m) ↔ SameInteger o x n m
  integers_compared sc sd n m p q =
      let t = h.same n m p.lower q.lower in (
        λ e. ap integer_part (t.0 e),
        λ e. t.1 (integer_in o.nodes sc n one p ∙ ap integer e
            ∙ sym (integer_in x.nodes sd m other q)),
      )

  pub memories_compared : (sc sd n m : ℕ) → IsNodeIn o.nodes sc true n → IsNodeIn x.nodes sd true m →
      number_in cs (k + n) ≡ number_in cs (l + m) ↔ SameMemory o x n m
  memories_compared sc sd n m p q =
      let t = h.same n m p.lower q.lower in (
        λ e. ap memory_part (t.0 e),
        λ e. t.1 (memory_in o.nodes sc n one p ∙ ap memory e
            ∙ sym (memory_in x.nodes sd m other q)),
      )

-- `false` decides a fact that does not hold
pub refuted : {P : Type 0} → (P → ⊥) → IsTrue false ↔ P
refuted h = (λ e. absurd (true≢false (sym e)), λ p. absurd (h p))

-- `false` also decides a fact that implies one that `false` decides
pub without : {P Q : Type 0} → IsTrue false ↔ Q → (P → Q) → IsTrue false ↔ P
without t f = (λ e. absurd (true≢false (sym e)), λ p. t.1 (f p))

-- if an object obeys the rules of the format, so do its code types, and their rows name nodes of integers
pub is_code_type : (o : Object) (t : ℕ) (y : CodeType) → IsSpellable o → slice_get o.types t ≡ Some y →
    IsCodeType (length o.types) o.nodes y
is_code_type o t y s e = all_there (IsCodeType (length o.types) o.nodes) o.types t y s.types e

pub rows_named : (o : Object) (t : ℕ) (y : CodeType) → IsSpellable o → slice_get o.types t ≡ Some y →
    All (HasRow o) y.regs
rows_named o t y s e = all_of (HasRow o) y.regs (λ n r f.
    (y.ints, (all_there (IsRegRow (length o.types) o.nodes y.ints) y.regs n r (is_code_type o t y s e).regs f).expr))

pub pairs_named : (o : Object) (t : ℕ) (y : CodeType) → IsSpellable o → slice_get o.types t ≡ Some y →
    All (HasPair o) y.queue
pairs_named o t y s e = all_of (HasPair o) y.queue (λ n q f.
    let is = all_there (IsQueueRow o.nodes y.ints) y.queue n q (is_code_type o t y s e).queue f in
    record { scope = y.ints; address = is.address; value = is.value })

-- two code types agree exactly when their variables, rows and memories do
module _ (o : Object) (t : ℕ) (x : Object) (u : ℕ) (y z : CodeType) (e : slice_get o.types t
    ≡ Some y) (f : slice_get x.types u ≡ Some z) where
  pub ints_say : LikeTypes o t x u → y.ints ≡ z.ints
  ints_say h = sym (ap (λ (v : Option CodeType). unwrap_or (option_map ints_of_type v) 0) e) ∙ h.ints
      ∙ ap (λ (v : Option CodeType). unwrap_or (option_map ints_of_type v) 0) f

  pub rows_say : LikeTypes o t x u → AllZip (SameRow o x) y.regs z.regs
  rows_say h =
      subst (λ (v : Option CodeType). AllZip (SameRow o x) (unwrap_or (option_map regs_of v) []) z.regs) e
      (subst (λ (v : Option CodeType). AllZip (SameRow o x) (reg_rows o t) (unwrap_or (option_map regs_of v) [])) f
      h.regs)

  pub pairs_say : LikeTypes o t x u → AllZip (SamePair o x) y.queue z.queue
  pairs_say h =
      subst (λ (v : Option CodeType). AllZip (SamePair o x) (unwrap_or (option_map queue_of v) []) z.queue) e
      (subst (λ (v : Option CodeType). AllZip (SamePair o x) (queue_rows o t) (unwrap_or (option_map queue_of v) [])) f
      h.queue)

  pub memory_says : LikeTypes o t x u → SameMemory o x y.memory z.memory
  memory_says h =
      subst (λ (v : Option CodeType). SameMemory o x (unwrap_or (option_map memory_of_type v) 0) z.memory) e
      (subst (λ (v : Option CodeType). SameMemory o x (memory_of o t) (unwrap_or (option_map memory_of_type v) 0)) f
      h.memory)

  pub says : y.ints ≡ z.ints → AllZip (SameRow o x) y.regs z.regs → AllZip (SamePair o x) y.queue z.queue →
      SameMemory o x y.memory z.memory → LikeTypes o t x u
  says i r q m = record {
    ints = ap (λ (v : Option CodeType). unwrap_or (option_map ints_of_type v) 0) e ∙ i
        ∙ sym (ap (λ (v : Option CodeType). unwrap_or (option_map ints_of_type v) 0) f);
    regs = subst (λ (v : Option CodeType). AllZip (SameRow o x) (unwrap_or (option_map regs_of v) []) (reg_rows x u))
        (sym e)
        (subst (λ (v : Option CodeType). AllZip (SameRow o x) y.regs (unwrap_or (option_map regs_of v) [])) (sym f) r);
    queue = subst (λ (v : Option CodeType). AllZip (SamePair o x) (unwrap_or (option_map queue_of v) [])
        (queue_rows x u)) (sym e)
        (subst (λ (v : Option CodeType). AllZip (SamePair o x) y.queue (unwrap_or (option_map queue_of v) [])) (sym f)
        q);
    memory = subst (λ (v : Option CodeType). SameMemory o x (unwrap_or (option_map memory_of_type v) 0) (memory_of x u))
        (sym e)
        (subst (λ (v : Option CodeType). SameMemory o x y.memory (unwrap_or (option_map memory_of_type v) 0)) (sym f)
        m);
  }
