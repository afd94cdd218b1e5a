-- Replacing the initial word of a cell of type `int` keeps an object accepted.
use Rattle.std.proofs.Common.{◌≡◌, ℕ, zero, suc, List, [], ◌∷◌, map, Some, slice_get, refl, sym, ap, subst, ◌∙◌, ⊎_elim}
use Rattle.std.proofs.lemmas.Bool.{cases_eq}
use Rattle.ft_isa.specs.BasicTypes.{int}
use Rattle.ft_types.specs.declared.object.Object.{Object}
use Rattle.ft_types.specs.declared.object.Cell.{Cell}
use Rattle.ft_types.specs.Objects.{basic_of, block_instrs}
use Rattle.ft_typing.specs.TypedWord.{HasType}
use Rattle.ft_typing.specs.Context.{Context}
use Rattle.ft_typing.specs.Accepted.{Applies, IsAccepted}
use Rattle.ft_typing.proofs.SameTables.{has_over, start_same, applies_same}
use Rattle.ft_types.specs.InitialWords.{begun_with}
use Rattle.ft_embed.specs.Cells.{with_word, object_with_word}

-- CELLS

types_kept : (cs : List Cell) (k w : ℕ) → map basic_of (with_word cs k w) ≡ map basic_of cs
types_kept [] k w = refl
types_kept (c ∷ cs) zero w = refl
types_kept (c ∷ cs) (suc k) w = ap (λ bs. c.basic ∷ bs) (types_kept cs k w)

-- cell k keeps its type, and the other cells are unchanged
pub word_at : (cs : List Cell) (k w : ℕ) (c x : Cell) → slice_get cs k ≡ Some c → slice_get (with_word cs k w) k
    ≡ Some x → x.basic ≡ c.basic
word_at [] k w c x e f = cc
word_at (y ∷ cs) zero w c x e f = cc
word_at (y ∷ cs) (suc k) w c x e f = word_at cs k w c x e f

word_elsewhere : (cs : List Cell) (k j w : ℕ) → (j ≡ k → ⊥) → slice_get (with_word cs k w) j ≡ slice_get cs j
word_elsewhere [] k j w ne = refl
word_elsewhere (c ∷ cs) zero zero w ne = absurd (ne refl)
word_elsewhere (c ∷ cs) zero (suc j) w ne = refl
word_elsewhere (c ∷ cs) (suc k) zero w ne = refl
word_elsewhere (c ∷ cs) (suc k) (suc j) w ne = word_elsewhere cs k j w (λ e. ne (ap suc e))

-- ACCEPTED

pub accepted_set : (o : Object) (k w : ℕ) (c : Cell) → slice_get o.cells k ≡ Some c → c.basic ≡ int → IsAccepted o →
    IsAccepted (object_with_word o k w)
accepted_set o k w c e is acc =
    let cs = with_word o.cells k w in
    let same = types_kept o.cells k w in
    record {
      entry = record {
        ints = acc.entry.ints;
        regs = acc.entry.regs;
        queue = acc.entry.queue;
        memory = acc.entry.memory;
      };
      cells = λ j x f. ⊎_elim
          (λ (at : j ≡ k). subst (HasType (object_with_word o k w) x.init)
          (sym (word_at o.cells k w c x e (subst (λ i. slice_get cs i ≡ Some x) at f) ∙ is)) tt)
          (λ (ne : j ≡ k → ⊥). has_over o cs o.instrs same x.init x.basic.refs x.basic.base
          (acc.cells j x (sym (word_elsewhere o.cells k j w ne) ∙ f)))
          (cases_eq j k);
      blocks = λ b x f. subst (λ (d : Context). Applies (record o { cells = cs }) d (block_instrs o b))
          (sym (start_same o cs o.instrs same x.code_type)) (applies_same o cs o.instrs same _ _ (acc.blocks b x f));
    }

-- putting the old word back restores the object
word_back : (cs : List Cell) (k w : ℕ) (c : Cell) → slice_get cs k ≡ Some c → with_word (with_word cs k w) k c.init ≡ cs
word_back [] k w c e = refl
word_back (x ∷ cs) zero w c e = let same : x ≡ c = cc in ap (λ (y : Cell). record x { init = y.init } ∷ cs) (sym same)
word_back (x ∷ cs) (suc k) w c e = ap (λ l. x ∷ l) (word_back cs k w c e)

word_there : (cs : List Cell) (k w : ℕ) (c : Cell) → slice_get cs k ≡ Some c → slice_get (with_word cs k w) k
    ≡ Some (begun_with c w)
word_there [] k w c e = cc
word_there (x ∷ cs) zero w c e = let same : x ≡ c = cc in ap (λ (y : Cell). Some (begun_with y w)) same
word_there (x ∷ cs) (suc k) w c e = word_there cs k w c e

pub accepted_before : (o : Object) (k w : ℕ) (c : Cell) → slice_get o.cells k ≡ Some c → c.basic ≡ int →
    IsAccepted (object_with_word o k w) → IsAccepted o
accepted_before o k w c e is acc =
    let s = object_with_word o k w in
    let again = accepted_set s k c.init (begun_with c w) (word_there o.cells k w c e) is acc in
    subst (λ cs. IsAccepted (record o { cells = cs })) (word_back o.cells k w c e) again
