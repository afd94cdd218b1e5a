-- The tables of modules grow by one module at a time.
use Rattle.std.proofs.Common.{◌≡◌, ℕ, zero, suc, ◌+◌, ◌<◌, ◌≤◌, List, [], ◌∷◌, ◌++◌, length, take, Some, slice_get}
use Rattle.std.proofs.Common.{refl, sym, ap, ◌∙◌, subst, append_assoc, append-nil, arith}
use Rattle.std.specs.Prelude.{sum_by}
use Rattle.std.proofs.lemmas.List.Sums.{sum_by-cons}
use Rattle.std.proofs.lemmas.List.{take_all}
use Rattle.ft_types.specs.declared.object.Object.{Object}
use Rattle.ft_modules.specs.Linkable.{AreFew}
use Rattle.ft_modules.specs.declared.before.Before.{Before}
use Rattle.ft_modules.specs.Linked.{laid, nothing_before, after_module, before_module}
use Rattle.ft_linker.specs.Tables.{Fits, start_part, AreLaid, AddsModule}
use Rattle.ft_linker.specs.declared.laying.Laid.{Laid}

-- appending a module's part to a table makes the table of one more module
laid_more : {X : Type 0} (part : Before → Object → List X) (k : Before) (modules : List Object) (m : ℕ) (o : Object) →
    slice_get modules m ≡ Some o → laid part k (take m modules) ++ part (before_module k modules m) o
    ≡ laid part k (take (suc m) modules)
unfolding laid before_module
laid_more part k [] m o e = cc
laid_more part k (y ∷ ys) zero o e = let same : y ≡ o = cc in ap (part k) (sym same) ∙ sym (append-nil (part k y))
laid_more part k (y ∷ ys) (suc m) o e = append_assoc (part k y) (laid part (after_module k y) (take m ys)) _
    ∙ ap (λ z. part k y ++ z) (laid_more part (after_module k y) ys m o e)

pub laid_next : {X : Type 0} (part : Before → Object → List X) (modules : List Object) (m : ℕ) (o : Object) (k : Before)
    (old new : List X) → slice_get modules m ≡ Some o → k ≡ before_module nothing_before modules m → old
    ≡ laid part nothing_before (take m modules) → new ≡ old ++ part k o → new
    ≡ laid part nothing_before (take (m + 1) modules)
laid_next part modules m o k old new e f g h =
    h ∙ (λ i. g i ++ part (f i) o) ∙ laid_more part nothing_before modules m o e
    ∙ (let n : suc m ≡ m + 1 = omega arith in ap (λ j. laid part nothing_before (take j modules)) n)

-- likewise for all tables
pub all_next : (modules : List Object) (m : ℕ) (o : Object) (k : Before) (old new : Laid) → slice_get modules m
    ≡ Some o → k ≡ before_module nothing_before modules m → AreLaid (take m modules) old → AddsModule old new k o →
    AreLaid (take (m + 1) modules) new
all_next modules m o k old new e f g h = record {
  starts = laid_next start_part modules m o k old.starts.items new.starts.items e f g.starts h.starts;
  nodes = laid_next _ modules m o k old.nodes.items new.nodes.items e f g.nodes h.nodes;
  types = laid_next _ modules m o k old.types.items new.types.items e f g.types h.types;
  blocks = laid_next _ modules m o k old.blocks.items new.blocks.items e f g.blocks h.blocks;
  instrs = laid_next _ modules m o k old.instrs.items new.instrs.items e f g.instrs h.instrs;
  substs = laid_next _ modules m o k old.substs.items new.substs.items e f g.substs h.substs;
}

-- up to and including a module, there are at most as many rows of a kind as in all modules
pub before_low : (offset : Before → ℕ) (size : Object → ℕ) →
    ((k : Before) (o : Object) → offset (after_module k o) ≡ offset k + size o) →
    (k : Before) (modules : List Object) (m : ℕ) (o : Object) → slice_get modules m ≡ Some o →
    offset (before_module k modules m) + size o ≤ offset k + sum_by size modules
unfolding before_module
before_low offset size grows k [] m o e = cc
before_low offset size grows k (y ∷ ys) zero o e =
    let same : y ≡ o = cc in
    let s = sum_by-cons size y ys in
    let f = ap size same in
    omega (arith, s, f)
before_low offset size grows k (y ∷ ys) (suc m) o e =
    let h = before_low offset size grows (after_module k y) ys m o e in
    let s = sum_by-cons size y ys in
    let g = grows k y in
    omega (arith, h, s, g)

pub module_fits : (modules : List Object) (m : ℕ) (o : Object) → AreFew modules → slice_get modules m ≡ Some o →
    Fits (before_module nothing_before modules m) o
module_fits modules m o few e =
    let n = before_low (λ k. k.nodes) (λ (x : Object). length x.nodes) (λ k x. refl) nothing_before modules m o e in
    let t = before_low (λ k. k.types) (λ (x : Object). length x.types) (λ k x. refl) nothing_before modules m o e in
    let b = before_low (λ k. k.blocks) (λ (x : Object). length x.blocks) (λ k x. refl) nothing_before modules m o e in
    let i = before_low (λ k. k.instrs) (λ (x : Object). length x.instrs) (λ k x. refl) nothing_before modules m o e in
    let s = before_low (λ k. k.substs) (λ (x : Object). length x.substs) (λ k x. refl) nothing_before modules m o e in
    let fn = few.nodes in
    let ft = few.types in
    let fb = few.blocks in
    let fi = few.instrs in
    let fs = few.substs in
    record {
      nodes = omega (arith, n, fn);
      types = omega (arith, t, ft);
      blocks = omega (arith, b, fb);
      instrs = omega (arith, i, fi);
      substs = omega (arith, s, fs);
    }

-- before the first module, all totals are 0
pub before_first : (modules : List Object) → nothing_before ≡ before_module nothing_before modules 0
unfolding before_module
before_first [] = refl
before_first (o ∷ os) = refl

pub taken : (modules : List Object) (m : ℕ) (l : Laid) → length modules ≤ m → AreLaid (take m modules) l →
    AreLaid modules l
taken modules m l le h = subst (λ (z : List Object). AreLaid z l) (take_all m modules le) h

-- row m of the table of starts is the totals before module m
pub start_of_module : (k : Before) (modules : List Object) (m : ℕ) → m < length modules →
    slice_get (laid start_part k modules) m ≡ Some (before_module k modules m)
unfolding laid before_module
start_of_module k [] m lt = absurd (omega (arith, lt))
start_of_module k (o ∷ os) zero lt = refl
start_of_module k (o ∷ os) (suc m) lt = start_of_module (after_module k o) os m (omega (arith, lt))
