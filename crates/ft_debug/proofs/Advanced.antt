-- The debugger's steps, and what they write.
use Rattle.std.proofs.Common.{◌≡◌, ℕ, zero, suc, ◌+◌, ◌-◌, ◌<◌, ◌≤◌, Bool, true, false, not, ◌&&◌, min, List, [], ◌∷◌}
use Rattle.std.proofs.Common.{◌++◌, map, drop, Option, Some, None, Result, Ok, Err, refl, ap, sym, ◌∙◌, subst}
use Rattle.std.proofs.Common.{append_assoc, append-nil, arith}
use Rattle.std.specs.Option.{option_to_list}
use Rattle.std.specs.Prelude.{if◌then◌else◌, IsErr, OnOk}
use Rattle.ft_edge.specs.declared.failed.Failed.{Failed}
use Rattle.ft_isa.specs.declared.output.Output.{Output}
use Rattle.ft_isa.specs.declared.plan.Wild.{Wild}
use Rattle.ft_edge.specs.Lines.{BreaksOff, Puts, end_of_puts, with_lines}
use Rattle.ft_edge.specs.Logs.{SinkLog}
use Rattle.ft_edge.proofs.Lines.{lines_none, lines_then, breaks_then, breaks_before}
use Rattle.ft_types.specs.declared.object.Object.{Object}
use Rattle.ft_semantics.specs.declared.status.Status.{Status}
use Rattle.ft_semantics.specs.declared.status.Status.TheVariants as status
use Rattle.ft_semantics.specs.State.{State}
use Rattle.ft_semantics.specs.Step.{step}
use Rattle.ft_semantics.specs.Strike.{is_running}
use Rattle.ft_types.specs.Texts.{line_at}
use Rattle.ft_machine.specs.declared.stepped.Stepped.{Stepped}
use Rattle.ft_machine.specs.Answers.{told_output, Takes}
use Rattle.ft_debug.specs.declared.moment.Moment.{Moment}
use Rattle.ft_debug.specs.declared.debugger.Debugger.{Debugger}
use Rattle.ft_debug.specs.Kept.{IsFull}
use Rattle.ft_debug.specs.Sessions.{Session, Reply, present, stays, after_lines, further, step_lines, walks}
use Rattle.ft_debug.specs.Inside.{Holds, IsReplied, Does, committed_lines, advances}
use Rattle.ft_debug.proofs.Held.{holds_further}

-- WHEN A PUT FAILS

-- a fact that holds in any case also holds if the call succeeded
pub on_ok : {T E P : Type 0} (r : Result T E) → P → OnOk r P
on_ok (Ok x) p = p
on_ok (Err e) p = tt

-- a failed call has written its reply up to the put that failed
exit : (o : Object) (w : List Wild) (q : Reply) (e : Debugger) (r : Result (Unit {0}) Failed) (old new : SinkLog)
    → IsErr r → BreaksOff q.lines old new → IsReplied o w q e r old new
exit o w q e (Ok u) old new is h = absurd (cc)
exit o w q e (Err f) old new is h = (tt, h)

-- if the first part of a reply fails, so does the whole reply
pub does_err : (go whole : List Wild → Session → Reply) (o : Object) (d e : Debugger) (failed : Failed)
    (r : Result (Unit {0}) Failed) (old new : SinkLog)
    → ((w : List Wild) (s : Session) → Holds o w s d
    → (more : List (List ℕ)) × ((whole w s).lines ≡ (go w s).lines ++ more)) → IsErr r
    → Does go o d e (Err failed) old new → Does whole o d e r old new
does_err go whole o d e failed r old new longer is does = λ w s h.
    let x = longer w s h in
    exit o w (whole w s) e r old new is (subst (λ (ls : List (List ℕ)). BreaksOff ls old new) (sym x.1)
    (breaks_before (go w s).lines x.0 old new (does w s h).1))

-- ONE STEP

committed_by : (o : Object) (output : Option Output) (s : Status) → committed_lines o (told_output output s)
    ≡ map (line_at o) (option_to_list output)
committed_by o (Some output) s = refl
committed_by o None status.Running = refl
committed_by o None status.Done = refl
committed_by o None status.Detected = refl

-- the lines of what a step committed are those that the session defines for it
step_puts : (o : Object) (w : List Wild) (s : Session) (d e : Debugger) (stepped : Stepped) → Holds o w s d →
    Takes (step o d.present.machine d.present.wild) e.present.machine e.present.wild stepped → committed_lines o stepped
    ≡ step_lines o (present o w s)
step_puts o w s d e stepped h t =
    let u = step o d.present.machine d.present.wild in
    ap (committed_lines o) t.answer_is ∙ committed_by o u.output u.state.status
    ∙ ap (λ (m : Moment). map (line_at o) (option_to_list (step o m.machine m.wild).output)) h.present

-- what `advance` did to the debugger
pub record Advances (o : Object) (d e : Debugger) (stepped : Stepped) : Type 0 where
  pub full : IsFull d.history
  pub takes : Takes (step o d.present.machine d.present.wild) e.present.machine e.present.wild stepped
  pub position : e.present.position ≡ d.present.position + 1
  pub items : e.history.moments.items ≡ drop 1 d.history.moments.items ++ d.present ∷ []
  pub count : e.history.count ≡ min (d.history.count + 1) 4096
  pub breaks : e.breaks ≡ d.breaks

pub does_advance : (o : Object) (d e : Debugger) (stepped : Stepped) (r : Result (Unit {0}) Failed) (old new : SinkLog)
    → Advances o d e stepped → Puts (end_of_puts r) (committed_lines o stepped) old new
    → Does (advances o) o d e r old new
does_advance o d e stepped r old new a p = λ w s h. (
  on_ok r (holds_further o w s d e a.full h a.takes.state_is a.takes.wild_is a.position a.items a.count a.breaks),
  subst (λ (ls : List (List ℕ)). Puts (end_of_puts r) ls old new) (step_puts o w s d e stepped h a.takes) p,
)

-- MANY STEPS

none_walked : (o : Object) (w : List Wild) (halts : State → Bool) (s : Session) → walks o w halts 0 s ≡ stays s
unfolding walks
none_walked o w halts s = refl

stays_if : (a b : Bool) (x y : Reply) (s : Session) → (not a && b) ≡ false →
    (if a then stays s else (if b then x else stays s)) ≡ stays s
stays_if true b x y s e = refl
stays_if false true x y s e = absurd (cc)
stays_if false false x y s e = refl

takes_if : (a b : Bool) (x : Reply) (s : Session) → (not a && b) ≡ true →
    (if a then stays s else (if b then x else stays s)) ≡ x
takes_if true b x s e = absurd (cc)
takes_if false true x s e = refl
takes_if false false x s e = absurd (cc)

-- a machine that has stopped, or at which `halts` holds, takes no step
pub walk_stays : (o : Object) (w : List Wild) (halts : State → Bool) (n : ℕ) (s : Session) →
    (not (halts (present o w s).state) && is_running (present o w s).state.status) ≡ false → walks o w halts n s
    ≡ stays s
unfolding walks
walk_stays o w halts zero s e = refl
walk_stays o w halts (suc n) s e = stays_if (halts (present o w s).state) (is_running (present o w s).state.status)
    (after_lines (step_lines o (present o w s)) (walks o w halts n (further s))) (stays s) s e

-- any other machine takes a step, and the walk goes on
pub walk_takes : (o : Object) (w : List Wild) (halts : State → Bool) (n : ℕ) (s : Session) → 0 < n →
    (not (halts (present o w s).state) && is_running (present o w s).state.status) ≡ true
    → walks o w halts n s ≡ after_lines (step_lines o (present o w s)) (walks o w halts (n - 1) (further s))
unfolding walks
walk_takes o w halts zero s l e = absurd (omega arith)
walk_takes o w halts (suc n) s l e =
    let same : n ≡ suc n - 1 = omega arith in
    takes_if (halts (present o w s).state) (is_running (present o w s).state.status)
    (after_lines (step_lines o (present o w s)) (walks o w halts n (further s))) s e
    ∙ ap (λ m. after_lines (step_lines o (present o w s)) (walks o w halts m (further s))) same

-- after k of the n steps, the rest of the walk remains
abbrev pub Walked : Object → (State → Bool) → ℕ → ℕ → Debugger → Debugger → SinkLog → SinkLog → Type 0
Walked o halts n k d e old new =
    (w : List Wild) (s : Session) → Holds o w s d → (t : Session) × (ls : List (List ℕ)) × Holds o w t e ×
    (new ≡ with_lines ls old) × (walks o w halts n s ≡ after_lines ls (walks o w halts (n - k) t))

pub walked_none : (o : Object) (halts : State → Bool) (n : ℕ) (d : Debugger) (old : SinkLog)
    → Walked o halts n 0 d d old old
walked_none o halts n d old = λ w s h.
    let same : n ≡ n - 0 = omega arith in (s, [], h, lines_none old, ap (λ m. walks o w halts m s) same)

goes_on_there : (o : Object) (w : List Wild) (halts : State → Bool) (t : Session) (e : Debugger) (b : Bool) →
    Holds o w t e → (not (halts e.present.machine) && is_running e.present.machine.status) ≡ b →
    (not (halts (present o w t).state) && is_running (present o w t).state.status) ≡ b
goes_on_there o w halts t e b h g = sym (ap (λ (m : Moment). not (halts m.machine) && is_running m.machine.status)
    h.present) ∙ g

-- after one more step, `Walked` holds for k + 1
pub walked_more : (o : Object) (halts : State → Bool) (n k : ℕ) (d e f : Debugger) (old mid new : SinkLog) → k < n
    → (not (halts e.present.machine) && is_running e.present.machine.status) ≡ true
    → Walked o halts n k d e old mid → Does (advances o) o e f (Ok tt) mid new → Walked o halts n (k + 1) d f old new
walked_more o halts n k d e f old mid new l g walked does = λ w s h.
    let x = walked w s h in
    let t = x.0 in
    let y = does w t x.2 in
    let next : n - k - 1 ≡ n - (k + 1) = omega arith in (
      further t,
      x.1 ++ step_lines o (present o w t),
      y.0,
      lines_then x.1 (step_lines o (present o w t)) old mid new x.3 y.1,
      x.4 ∙ ap (after_lines x.1) (walk_takes o w halts (n - k) t (omega arith) (goes_on_there o w halts t e true x.2 g))
          ∙ ap (λ m. after_lines x.1 (after_lines (step_lines o (present o w t)) (walks o w halts m (further t)))) next
          ∙ ap (λ ls. record { session = (walks o w halts (n - (k + 1)) (further t)).session; lines = ls })
          (sym (append_assoc x.1 (step_lines o (present o w t)) (walks o w halts (n - (k + 1)) (further t)).lines)),
    )

ended : (o : Object) (w : List Wild) (e : Debugger) (t : Session) (ls : List (List ℕ)) (r : Reply) (old new : SinkLog)
    → Holds o w t e → new ≡ with_lines ls old → r ≡ after_lines ls (stays t) → IsReplied o w r e (Ok tt) old new
ended o w e t ls r old new h p eq =
    subst (λ (q : Reply). IsReplied o w q e (Ok tt) old new)
    (ap (λ l. record { session = t; lines = l }) (sym (append-nil ls)) ∙ sym eq) (h, p)

-- the walk has ended if the machine has stopped or `halts` holds
pub walk_halts : (o : Object) (halts : State → Bool) (n k : ℕ) (d e : Debugger) (old new : SinkLog)
    → (not (halts e.present.machine) && is_running e.present.machine.status) ≡ false → Walked o halts n k d e old new
    → Does (λ w. walks o w halts n) o d e (Ok tt) old new
walk_halts o halts n k d e old new g walked = λ w s h.
    let x = walked w s h in
    ended o w e x.0 x.1 (walks o w halts n s) old new x.2 x.3
    (x.4 ∙ ap (after_lines x.1) (walk_stays o w halts (n - k) x.0 (goes_on_there o w halts x.0 e false x.2 g)))

-- the walk ended after its last step
pub walk_ends : (o : Object) (halts : State → Bool) (n k : ℕ) (d e : Debugger) (old new : SinkLog) → n ≤ k
    → Walked o halts n k d e old new → Does (λ w. walks o w halts n) o d e (Ok tt) old new
walk_ends o halts n k d e old new l walked = λ w s h.
    let x = walked w s h in
    let none : n - k ≡ 0 = omega arith in
    ended o w e x.0 x.1 (walks o w halts n s) old new x.2 x.3
    (x.4 ∙ ap (λ m. after_lines x.1 (walks o w halts m x.0)) none ∙ ap (after_lines x.1) (none_walked o w halts x.0))

-- a put failed during the walk
pub walk_breaks : (o : Object) (halts : State → Bool) (n k : ℕ) (d e f : Debugger) (failed : Failed)
    (r : Result (Unit {0}) Failed) (old mid new : SinkLog) → IsErr r → k < n
    → (not (halts e.present.machine) && is_running e.present.machine.status) ≡ true
    → Walked o halts n k d e old mid → Does (advances o) o e f (Err failed) mid new
    → Does (λ w. walks o w halts n) o d f r old new
walk_breaks o halts n k d e f failed r old mid new is l g walked does = λ w s h.
    let x = walked w s h in
    let t = x.0 in
    let rest = walks o w halts (n - k - 1) (further t) in
    let whole = x.4 ∙ ap (after_lines x.1) (walk_takes o w halts (n - k) t (omega arith)
    (goes_on_there o w halts t e true x.2 g)) in
    exit o w (walks o w halts n s) f r old new is
    (subst (λ (r : Reply). BreaksOff r.lines old new) (sym whole)
    (breaks_then x.1 (step_lines o (present o w t) ++ rest.lines) old mid new x.3
    (breaks_before (step_lines o (present o w t)) rest.lines mid new (does w t x.2).1)))
