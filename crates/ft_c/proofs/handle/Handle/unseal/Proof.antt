-- `unseal` returns the pointer that `seal` kept.
use Rattle.std.proofs.Common.{suc, Option, None, ◌≡◌, List, [], ◌∷◌, ◌++◌, refl, sym, subst, Some, lit<}
use mir.Val.{Val, vptr, vcons, vnil}
use base.Logic.{SProp, ent, emp, id⊢}
use base.Fml.{ftrue}
use prog.Wp.{WpFn}
use types.Kit.{use1, at_ret, ‵, raw, ◌⊛◌, ◌$◌, ◌∵◌, !, qed, by, move, keep, split, fsplit, fjoin, suffices, use0}
use types.Run.{stop, fld, lit, of_opd, bin, no_more, and_then, first, branches, exec, returns, enter}
use types.ByLocal.{alloc_all, pass_all, free_all, look_at, get, get_in, sets, sets_last, env}
use types.Match.{live}
use Rattle.core.proofs.alloc.Shapes.{after}
use Rattle.core.proofs.cell.Inside.{Good}
use Rattle.core.proofs.option.Made.{Some-of, none_of}
use Rattle.std_alloc.proofs.ResultValues.{and_tt}
use Rattle.std_alloc.specs.Box.Ownership.{box_owns}
use denote.Param.{layout}
use types.Part.{agg, sub, whole}
use contract.Monad.{fact, fact_i}
use contract.Running.{tables}
use denote.Exit.{yes}
use denote.RattleType.{RattleType, owns}
use denote.Signature.{types_at, type_at, plain}
use denote.RawPtr.{block_ptr}
use denote.Steps.{nothing}
use denote.Triple.Walked.{Stays, stay_dropped, Goes-dropped, walk_of}
use Rattle.std.specs.contracts.alloc.Global as heap
use Rattle.std.proofs.alloc.Global.TheLaws as heap_laws
use Rattle.std.specs.contracts.impls.GlobalAllocator.TheImpl.{ghosts}
use Rattle.std.proofs.raw_atomic.Walks.{proved_at, leaves}
use Rattle.ft_c.proofs.BoxValues.{both, Loose, al, loose_good, loose_in}
use Rattle.ft_c.proofs.HandleSteps.{no_task, word, word_good, not_zero, handle_out}
use Rattle.core.proofs.alloc.Calls.{handle_tells}
use Rattle.ft_c.specs.contracts.handle.Handle as handle
use Rattle.ft_embed.specs.contracts.task.Task as task
use Rattle.ft_c.specs.contracts.handle.Handle.unseal.{ended, clauses}
use Rattle.ft_c.specs.contracts.handle.Handle.unseal.Key.{name as #self}
use Rattle.ft_c.proofs.handle.Handle.unseal.Statement.{statement}
use Rattle.ft_c.proofs.handle.Handle.unseal.Code as code

pub unseal_spec : {M : Type 1} → statement M
unseal_spec 𝓤 𝓛 𝓜 𝓡 wired =
    let H = 𝓛.H in let 𝓣 = tables 𝓤 H 𝓜 𝓡 𝓡.env in let R : RattleType = task.the_row in
    let Z : RattleType = heap.the_row in let LZ = heap_laws.the_row_laws in
    let En = ended in let c = clauses 𝓛 𝓜.mem 𝓡.returns in let fn = code.function in
    let Lr : RattleType = Loose R Z LZ ghosts in let Out : RattleType = type_at En.signature.result tt in
    let hs : Stays En.signature.params En.kept = (
      stay_dropped (plain (λ _. handle.the_row)) yes,
      (stay_dropped (plain (λ _. Z)) yes, tt),
    ) in
    proved_at 𝓛 En hs c 𝓜 𝓡 (
      Goes-dropped 𝓛 0 (plain (λ _. handle.the_row)) yes (λ κs x f. refl),
      (Goes-dropped 𝓛 0 (plain (λ _. Z)) yes (λ κs x f. refl), tt),
    ) #self fn (code.unfolded 𝓤 H 𝓜 𝓡 wired) (λ z are.
    let d = z.0.3.0 in let alloc = z.0.3.1.0 in let Post : Val → SProp 𝓤 = (walk_of 𝓛 En hs c).post z in
    let Run : List Val → SProp 𝓤 = λ ws. WpFn 𝓤 H 𝓣.C 𝓣.Λ fn ws Post in
    qed 𝓛 ((‵ ftrue ⊛ ‵ (owns (types_at En.signature.params tt) z.0.3 z.0.4)) ∷ raw ((c tt z.0.3).requires z.1) ∷ []) ∵
    split ! $ move ! (1 ∷ []) $ fsplit ! $ move ! (1 ∷ []) $ fsplit ! $
    handle_tells (al R Z LZ ghosts) ! alloc z.0.4.1.0 (λ h eh fits. move ! (2 ∷ []) $
    handle_out ! d z.0.4.0
    (λ w good none ws. suffices ! (Run (word 0 w ∷ h ∷ []))
    (subst (λ (us : List Val). ent 𝓤 (Run (word 0 w ∷ h ∷ [])) (Run us)) (sym (λ i. ws i ++ (eh i ++ [])))
    (id⊢ 𝓤 (Run (word 0 w ∷ h ∷ [])))) $
    enter ! 𝓣.C 𝓣.Λ fn (word 0 w ∷ h ∷ []) Post $ alloc_all ! (λ l.
    pass_all ! refl (word_good 0 w (lit< tt) good, (fits, tt)) $ let Ev = env fn.locals l in
    sets ! (of_opd ! (get_in ! (fld ! refl (stop !)) (sub ! 0 refl (whole !)))) refl (
      tt,
      record { fits = lit< tt },
    ) $ sets ! (of_opd ! (get_in ! (fld ! refl (stop !)) (sub ! 1 refl (whole !)))) refl good
    $
    sets ! (bin ! (get ! refl) (lit ! tt) tt) refl (tt, tt) $ first ! $ branches ! (get ! refl)
    (λ _. sets_last ! (agg ! (and_then ! (lit ! tt) (no_more !))) refl (tt, (record { fits = lit< tt }, tt)) $ exec !
    𝓣.C 𝓣.Λ Ev (after 4 fn.body) (at_ret Ev Post) $ sets ! (of_opd ! (get ! refl)) refl (
      tt,
      (record { fits = lit< tt }, tt),
    ) $
    use0 𝓛 (‵ (Out.own_val None (live 0 vnil ∷ []))) (none_of 𝓛 Lr) $ use0 𝓛 (raw (fact 𝓤 (no_task ≡ d.task)))
    (fact_i 𝓤 (no_task ≡ d.task) (emp 𝓤) (sym none)) $ nothing ! $ nothing ! $ fjoin ! $ nothing ! $ fjoin ! $
    returns ! (look_at ! 0 refl) $ free_all ! refl $ keep ! (4 ∷ 0 ∷ 2 ∷ 1 ∷ []) $ by !
    (leaves 𝓛 En hs c z (live 0 vnil) None (tt, (tt, tt)) (tt, (tt, tt)))) (λ wrong. absurd wrong)))
    (λ b o m a x small is ws. let w : Val = word (suc m) (vptr b o) in let made : Val = both (vptr b o) h in
    let typed = loose_good R Z LZ ghosts b o h fits in let v₁ : Val = live 1 (vcons made vnil) in
    let d' : Lr.Denot = record { at = block_ptr b o; alloc = alloc; value = x } in
    let good : Good (layout Out) v₁ = (and_tt _ typed.0, (record { fits = lit< tt }, (typed.1, tt))) in
    suffices ! (Run (w ∷ h ∷ [])) (subst (λ (us : List Val). ent 𝓤 (Run (w ∷ h ∷ [])) (Run us))
    (sym (λ i. ws i ++ (eh i ++ []))) (id⊢ 𝓤 (Run (w ∷ h ∷ [])))) $
    enter ! 𝓣.C 𝓣.Λ fn (w ∷ h ∷ []) Post $ alloc_all ! (λ l.
    pass_all ! refl (word_good (suc m) (vptr b o) small (tt, tt), (fits, tt)) $ let Ev = env fn.locals l in
    sets ! (of_opd ! (get_in ! (fld ! refl (stop !)) (sub ! 0 refl (whole !)))) refl (
      tt,
      record { fits = small },
    ) $ sets ! (of_opd ! (get_in ! (fld ! refl (stop !)) (sub ! 1 refl (whole !)))) refl (
      tt,
      tt,
    ) $
    sets ! (bin ! (get ! refl) (lit ! tt) tt) refl (tt, tt) $ first ! $ branches ! (get ! refl) (λ wrong.
    absurd (not_zero m wrong))
    (λ _. sets ! (of_opd ! (get ! refl)) refl (
      tt,
      tt,
    ) $ sets ! (agg ! (and_then ! (get ! refl) (and_then ! (get ! refl) (no_more !)))) refl typed $ sets_last !
    (agg ! (and_then ! (lit ! tt) (and_then ! (get ! refl) (no_more !)))) refl good $
    exec ! 𝓣.C 𝓣.Λ Ev (after 4 fn.body) (at_ret Ev Post) $ sets ! (of_opd ! (get ! refl)) refl good $ use1 𝓛
    (‵ (box_owns (ghosts.dealloc_token alloc) R (block_ptr b o) x)) (id⊢ 𝓤 _) $ loose_in R Z LZ ghosts ! b o h alloc x
    $
    use1 𝓛 (‵ (Out.own_val (Some d') (v₁ ∷ []))) (Some-of 𝓛 Lr d' made) $ use0 𝓛 (raw (fact 𝓤 (Some x ≡ d.task)))
    (fact_i 𝓤 (Some x ≡ d.task) (emp 𝓤) (sym is)) $ nothing ! $ nothing ! $ fjoin ! $ nothing ! $ fjoin ! $
    returns ! (look_at ! 0 refl) $ free_all ! refl $ keep ! (3 ∷ 0 ∷ 2 ∷ 1 ∷ []) $ by !
    (leaves 𝓛 En hs c z v₁ (Some d') (tt, (tt, tt)) (tt, (tt, tt))))))))
