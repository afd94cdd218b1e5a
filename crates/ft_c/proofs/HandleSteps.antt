-- The machine values of a handle. Assumes `Logic`.
use Rattle.std.proofs.Common.{◌≡◌, ℕ, w64, List, [], ◌∷◌, ◌++◌, refl, subst, ne_eqb, Option, Some, None, lit<, zero}
use Rattle.std.proofs.Common.{suc, ◌<◌, ◌^◌, arith}
use lib.Dec.{T, eqb}
use mathlib.Core.Bool.{Bool, true, false, ◌&&◌}
use seplogic.Ra.Ura.{Ura}
use mir.Syntax.{ty_ptr}
use mir.Raw.{raw as bare}
use mir.Val.{Val, vptr, vint, vstruct, vcons, vnil, of_list, has_ty, WT}
use base.Logic.{never, fst∗}
use base.Fml.{fex}
use denote.Memory.{lone}
use Rattle.ft_c.specs.Held.{held}
use types.Logic.{Logic, sem}
use types.Kit.{Item, Goal, Seq, Step, step, ‵, ◌$◌, drop, fsplit, fjoin, fpick, fpack, feq_i, feq_l}
use denote.RattleType.{Valss}
use denote.Builtin.{RawPtr, u64}
use denote.RawPtr.{Ptr, block_ptr, null_ptr, ptr_val, in_a_block}
use denote.Steps.{nothing, owned, peeks}
use denote.Laws.{Is, shows}
use denote.Plain.{uint_Makes}
use denote.Struct.Struct.{within}
use denote.Struct.Owning.{shape}
use Rattle.std.specs.declared.alloc.Global.{Global}
use Rattle.std.specs.contracts.impls.GlobalAllocator.TheImpl.{ghosts}
use Rattle.std_alloc.specs.Box.Ownership.{box_owns}
use Rattle.ft_embed.proofs.PlanTexts.{some_length}
use Rattle.ft_c.proofs.BoxValues.{both_tt}
use Rattle.ft_c.specs.contracts.handle.Handle as handle
use Rattle.ft_embed.specs.contracts.task.Task as task

abbrev pub word : ℕ → Val → Val
word n v = vstruct (vcons (vint w64 n) (vcons v vnil))

-- no run
abbrev pub no_task : Option task.the_row.Denot
no_task = None

ptr_good : (p : Ptr) → T (has_ty ty_ptr (ptr_val p)) × WT (ptr_val p)
ptr_good null_ptr = (tt, record { fits = lit< tt })
ptr_good (block_ptr b o) = (tt, tt)

at_word : (n k : ℕ) (w : Val) (xs ys vs : List Val) → vs ≡ vstruct (of_list (xs ++ (ys ++ []))) ∷ [] → xs
    ≡ vint w64 n ∷ [] → ys ≡ w ∷ [] → n ≡ k → vs ≡ word k w ∷ []
at_word n k w xs ys vs ev ex ey en =
    subst (λ (j : ℕ). vs ≡ word j w ∷ []) en
    (subst (λ (zs : List Val). vs ≡ vstruct (of_list (vint w64 n ∷ (zs ++ []))) ∷ []) ey
    (subst (λ (zs : List Val). vs ≡ vstruct (of_list (zs ++ (ys ++ []))) ∷ []) ex ev))

pub word_good : (n : ℕ) (w : Val) → n < 2 ^ 64 → T (has_ty ty_ptr w) × WT w → T (true && (has_ty ty_ptr w && true))
    × WT (word n w)
word_good n w small good = (both_tt true (has_ty ty_ptr w) tt good.0, (record { fits = small }, (good.1, tt)))

pub not_zero : (m : ℕ) → T (eqb (suc m) 0) → ⊥
not_zero m t = subst T (ne_eqb (suc m) 0 (some_length m)) t

one_is_not_zero : ◌≡◌ {A = ℕ} 0 1 → ⊥
one_is_not_zero e = omega (arith, e)

module _ {M : Type 1} {𝓤 : Ura M} {𝓛 : Logic 𝓤} {K : Type 0} {Γ : List (Item 𝓤)} {G : Goal 𝓤 𝓛.H} where
  pub handle_in : K → (b o : ℕ) (a : Global) (x : task.the_row.Denot)
      → Step K 𝓛 (‵ (handle.the_row.own_val (record { there = 1; at = block_ptr b o; task = Some x })
      (word 1 (vptr b o) ∷ [])) ∷ Γ) G (‵ (box_owns (ghosts.dealloc_token a) task.the_row (block_ptr b o) x) ∷ Γ) G
  handle_in t b o a x = step (λ s. let v : Val = word 1 (vptr b o) in
      fpack t Global (λ a'. box_owns (ghosts.dealloc_token a') task.the_row (block_ptr b o) x) a $
      nothing t $ feq_i t (List Val) (vptr b o ∷ []) (vptr b o ∷ []) refl $ fjoin t $ owned t u64 (Is u64)
      (uint_Makes 𝓛 w64) 1 (vint w64 1 ∷ []) (refl, lit< tt) $ fjoin t $ feq_i t (List Val) (v ∷ []) (v ∷ []) refl $
      fjoin t $
      fpack t (Valss (u64 ∷ RawPtr ∷ [])) (within (shape handle.the_type) (1, (block_ptr b o, tt)) (v ∷ []))
      (vint w64 1 ∷ [], (vptr b o ∷ [], tt)) $ fjoin t $ s)

  -- the machine value of an empty handle
  pub handle_none : K → Step K 𝓛 (‵ (handle.the_row.own_val (record { there = 0; at = null_ptr; task = None })
      (word 0 (vint w64 0) ∷ [])) ∷ Γ) G Γ G
  handle_none t = step (λ s. let v : Val = word 0 (vint w64 0) in
      nothing t $ nothing t $ feq_i t (List Val) (vint w64 0 ∷ []) (vint w64 0 ∷ []) refl $ fjoin t $ owned t u64
      (Is u64) (uint_Makes 𝓛 w64) 0 (vint w64 0 ∷ []) (refl, lit< tt) $ fjoin t $ feq_i t (List Val) (v ∷ []) (v ∷ [])
      refl $ fjoin t $
      fpack t (Valss (u64 ∷ RawPtr ∷ [])) (within (shape handle.the_type) (0, (null_ptr, tt)) (v ∷ []))
      (vint w64 0 ∷ [], (vint w64 0 ∷ [], tt)) $ fjoin t $ s)

  held_out : K → (n : ℕ) (p : Ptr) (u : Option task.the_row.Denot) → (n ≡ 0 → u ≡ None → Seq K 𝓛 Γ G)
      → ((m : ℕ) (x : task.the_row.Denot) → n ≡ suc m → u ≡ Some x →
      Seq K 𝓛 (‵ (fex Global (λ a. box_owns (ghosts.dealloc_token a) task.the_row p x)) ∷ Γ) G) →
      Seq K 𝓛 (‵ (held n p u) ∷ Γ) G
  held_out t zero p None f g = drop t $ f refl refl
  held_out t zero p (Some x) f g = feq_l t (λ e. absurd (one_is_not_zero e))
  held_out t (suc m) p None f g = feq_l t (λ e. absurd (one_is_not_zero e))
  held_out t (suc m) p (Some x) f g = g m x refl refl

  -- taking a handle apart: either it is empty, or it owns the box of its run
  pub handle_out : K → (d : handle.the_row.Denot) (vs : List Val)
      → ((w : Val) → T (has_ty ty_ptr w) × WT w → d.task ≡ None → vs ≡ word 0 w ∷ [] → Seq K 𝓛 Γ G)
      → ((b o m : ℕ) (a : Global) (x : task.the_row.Denot) → suc m < 2 ^ 64 → d.task ≡ Some x → vs
      ≡ word (suc m) (vptr b o) ∷ [] → Seq K 𝓛 (‵ (box_owns (ghosts.dealloc_token a) task.the_row (block_ptr b o) x) ∷
      Γ) G)
      → Seq K 𝓛 (‵ (handle.the_row.own_val d vs) ∷ Γ) G
  handle_out t d vs f g =
      fsplit t $ fpick t (λ vss. fsplit t $ feq_l t (λ ev.
      fsplit t $ peeks t u64 (Is u64) (shows 𝓛 u64) d.there vss.0 (λ i. drop t $ fsplit t $ feq_l t (λ ep. drop t $
      held_out t d.there d.at d.task
      (λ e0 en. f (ptr_val d.at) (ptr_good d.at) en (at_word d.there 0 (ptr_val d.at) vss.0 vss.1.0 vs ev i.0 ep e0))
      (λ m x em es. fpick t (λ a. in_a_block t d.at (λ p. box_owns (ghosts.dealloc_token a) task.the_row p x)
      (fst∗ 𝓤 (never 𝓤) (sem 𝓛 (ghosts.dealloc_token a (bare (lone task.the_row.mir)) null_ptr))) (λ b o e.
      g b o m a x (subst (λ n. n < 2 ^ 64) em i.1) es
      (subst (λ (p : Ptr). vs ≡ word (suc m) (ptr_val p) ∷ []) e
      (at_word d.there (suc m) (ptr_val d.at) vss.0 vss.1.0 vs ev i.0 ep em)))))))))
