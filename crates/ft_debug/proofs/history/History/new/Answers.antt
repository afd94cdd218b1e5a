use Rattle.std.proofs.Common.{◌≡◌, ℕ, ◌+◌, ◌∷◌, [], ◌++◌, length, sym, ap, ◌∙◌, subst, arith, length-append}
use Rattle.std.specs.Prelude.{All}
use Rattle.std.proofs.lemmas.List.Elements.{All-push}
use Rattle.circular_buffer.specs.Buffer.{Buffer, buffer}
use Rattle.ft_debug.specs.Kept.{HasMomentCells}
use Rattle.ft_debug.proofs.history.History.new.Goals as goal

-- a push makes the ring longer by one
pushed_length : {X : Type 0} (a b : Buffer X) (x : X) (n : ℕ) → b ≡ buffer (a.items ++ x ∷ []) a.capacity →
    length a.items ≡ n → length b.items ≡ n + 1
pushed_length a b x n e is = ap (λ (r : Buffer _). length r.items) e ∙ omega (arith, length-append a.items (x ∷ []), is)

pushed_all : {X : Type 0} (P : X → Type 0) (a b : Buffer X) (x : X) → b ≡ buffer (a.items ++ x ∷ []) a.capacity →
    All P a.items → P x → All P b.items
pushed_all P a b x e h p = subst (λ (r : Buffer _). All P r.items) (sym e) (All-push P a.items x h p)

pub loop-preserved : goal.loop-preserved
loop-preserved g c = record {
  length_is = pushed_length _ _ _ _ c.in-Ok.ensures.ok c.loop.invariant.length_is;
  capacity_is = ap (λ (r : Buffer _). r.capacity) c.in-Ok.ensures.ok ∙ c.loop.invariant.capacity_is;
  cells = pushed_all (HasMomentCells (length (g.P.Program.object c.args.program.now).cells)) _ _ _ c.in-Ok.ensures.ok
      c.loop.invariant.cells c.in_ok-new.ensures.cells;
}
