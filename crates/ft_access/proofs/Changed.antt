-- Words that last keep their value.
use Rattle.std.proofs.Common.{◌≡◌, ℕ, zero, suc, true, false, cond, ◌==◌, List, [], ◌∷◌, length}
use Rattle.std.proofs.Common.{drop, Option, None, refl, sym, ap, ◌∙◌, subst, arith}
use Rattle.std.proofs.lemmas.Bool.{ltb-true, and_parts}
use Rattle.std.proofs.lemmas.Bool.Decides.{nat_tests}
use Rattle.std.proofs.lemmas.List.{get_or_append_left}
use Rattle.ft_isa.specs.declared.colour.Coloured.{Coloured}
use Rattle.ft_isa.specs.declared.instr.Instr.{Instr}
use Rattle.ft_isa.specs.declared.plan.Site.{Site}
use Rattle.ft_isa.specs.declared.plan.Site.TheVariants.{R, D, PcG, PcB, QAddr, QVal}
use Rattle.ft_isa.specs.declared.plan.Wild.{Wild}
use Rattle.ft_isa.specs.Pending.{Pending}
use Rattle.ft_types.specs.declared.object.Object.{Object}
use Rattle.ft_semantics.specs.declared.status.Status.TheVariants.{Running}
use Rattle.ft_semantics.specs.State.{State, held}
use Rattle.ft_semantics.specs.Step.{Stepping}
use Rattle.ft_semantics.specs.Strike.{is_running, is_site, is_there}
use Rattle.ft_semantics.specs.Run.{run, state_after, wild_after}
use Rattle.ft_semantics.proofs.Held.{held-with_held}
use Rattle.ft_access.specs.Access.{overwrites, site_after}
use Rattle.ft_access.specs.Changed.{entry, word_at}
use Rattle.ft_access.specs.Lasting.{Lasts, at_once, further}
use Rattle.ft_access.proofs.Changes.{Change, fetches, detects, halts, puts, queues, commits_it, sets_d}
use Rattle.ft_access.proofs.Changes.{transfers_to, act, touches, covers, moves}
use Rattle.ft_access.proofs.Steps.{Suits, stops, ends, suits, DoSame, step_same}
use Rattle.ft_access.proofs.Waiting.{lasts_there}

entry-drop : (q : Pending) (e : ℕ) → entry (drop 1 q) e ≡ entry q (suc e)
entry-drop [] e = refl
entry-drop (y ∷ q) e = refl

-- a register that is not put keeps its word
put_other : (s : State) (r q : ℕ) (y : Coloured) → (r == q) ≡ false → (held (act (puts r y) s).registers q).word
    ≡ (held s.registers q).word
put_other s r q y e = ap (λ (z : Coloured). z.word) (held-with_held s.registers r y q
    ∙ ap (λ b. cond b y (held s.registers q)) turned)
  where
    turned : (q == r) ≡ false
    turned = grind (arith, nat_tests)

-- a change that neither depends on a word nor writes it keeps it
kept_by : (c : Change) (x : Site) (s : State) → is_site x (length s.queue) ≡ true → touches c x ≡ false → covers c x
    ≡ false → word_at (moves c x) (act c s) ≡ word_at x s
kept_by (puts r y) (R q) s h t e = put_other s r q.number y e
kept_by (queues a u) (QAddr k) s h t e = ap (λ (z : ℕ × ℕ). z.0) (get_or_append_left s.queue ((a, u) ∷ []) (0, 0) k
    (ltb-true k (length s.queue) h))
kept_by (queues a u) (QVal k) s h t e = ap (λ (z : ℕ × ℕ). z.1) (get_or_append_left s.queue ((a, u) ∷ []) (0, 0) k
    (ltb-true k (length s.queue) h))
kept_by (commits_it a u) (QAddr zero) s h t e = cc
kept_by (commits_it a u) (QAddr (suc k)) s h t e = ap (λ (z : ℕ × ℕ). z.0) (entry-drop s.queue k)
kept_by (commits_it a u) (QVal zero) s h t e = cc
kept_by (commits_it a u) (QVal (suc k)) s h t e = ap (λ (z : ℕ × ℕ). z.1) (entry-drop s.queue k)
kept_by (sets_d a) D s h t e = cc
kept_by (transfers_to a) D s h t e = cc
kept_by (transfers_to a) PcG s h t e = cc
kept_by (transfers_to a) PcB s h t e = cc
kept_by (fetches i) D s h t e = refl
kept_by (fetches i) x s h t e = refl
kept_by detects D s h t e = refl
kept_by detects x s h t e = refl
kept_by halts D s h t e = refl
kept_by halts x s h t e = refl
kept_by c PcG s h t e = cc
kept_by c PcB s h t e = cc
kept_by c x s h t e = refl

-- a change that suits the table keeps the word of a site
suited_keeps : (f : Option Instr) (x : Site) (s : State) (c : Change) → is_site x (length s.queue) ≡ true →
    Suits f x c →
    (act c s).status ≡ Running → overwrites f x ≡ false → word_at (site_after f x) (act c s) ≡ word_at x s
suited_keeps f x s c h stops go e = cc
suited_keeps f x s c h ends go e = cc
suited_keeps f x s c h (suits t p q) go e = subst (λ y. word_at y (act c s) ≡ word_at x s) q
    (kept_by c x s h t (p ∙ e))

-- so does a step that does the same from the struck state
keeps_by : (x : Site) (v : ℕ) (s : State) (t u : Stepping) → is_there s x ≡ true → DoSame s.fetched x v s t u →
    t.state.status ≡ Running → overwrites s.fetched x ≡ false → word_at (site_after s.fetched x) t.state ≡ word_at x s
keeps_by x v s t u there h go e =
    ap (λ (z : Stepping). word_at (site_after s.fetched x) z.state) h.here
    ∙ suited_keeps s.fetched x s h.does.change (and_parts (is_running s.status) (is_site x (length s.queue)) there).1
    h.suited (sym (ap (λ (z : Stepping). z.state.status) h.here) ∙ go) e

-- a word that lasts keeps its value
pub lasts_same : (o : Object) (w : List Wild) (k : ℕ) (x : Site) (l : ℕ) (y : Site) → Lasts o w k x l y →
    word_at y (state_after o None w l) ≡ word_at x (state_after o None w k)
unfolding run
lasts_same o w k x _ _ (at_once there) = refl
lasts_same o w k x _ _ (further l y h r e go) =
    let s = state_after o None w l in
    let there = lasts_there o w k x l y h in
    keeps_by y 0 s _ _ there (step_same o y 0 s (wild_after o None w l) there r) go e
    ∙ lasts_same o w k x l y h
