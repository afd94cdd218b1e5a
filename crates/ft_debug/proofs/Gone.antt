-- Walks that stop at breakpoints.
use Rattle.std.proofs.Common.{◌≡◌, ℕ, zero, suc, ◌-◌, Bool, true, false, List, Result, Ok, Err, refl, ap, sym, ◌∙◌}
use Rattle.std.proofs.Common.{subst, arith}
use Rattle.std.specs.Prelude.{if◌then◌else◌, IsErr}
use Rattle.ft_edge.specs.declared.failed.Failed.{Failed}
use Rattle.ft_isa.specs.declared.plan.Wild.{Wild}
use Rattle.ft_edge.specs.Lines.{end_of_puts}
use Rattle.ft_edge.specs.Logs.{SinkLog}
use Rattle.ft_edge.proofs.Lines.{lines_none, puts_then, made_by}
use Rattle.ft_types.specs.declared.object.Object.{Object}
use Rattle.ft_semantics.specs.Strike.{is_running}
use Rattle.ft_debug.specs.declared.moment.Moment.{Moment}
use Rattle.ft_debug.specs.declared.debugger.Debugger.{Debugger}
use Rattle.ft_debug.specs.Sessions.{Session, Reply, present, stays, after_lines, further, step_lines, walks, goes}
use Rattle.ft_debug.specs.Sessions.{is_at_break}
use Rattle.ft_debug.specs.Inside.{Holds, IsReplied, Does, advances}
use Rattle.ft_debug.proofs.Advanced.{does_err}

-- GO

none_gone : (o : Object) (w : List Wild) (n : ℕ) (s : Session) → n ≡ 0 → goes o w n s ≡ stays s
none_gone o w zero s e = refl
none_gone o w (suc n) s e = absurd (omega arith)

stopped_gone : (o : Object) (w : List Wild) (n : ℕ) (s : Session) → is_running (present o w s).state.status ≡ false →
    goes o w n s ≡ stays s
stopped_gone o w zero s e = refl
stopped_gone o w (suc n) s e = ap (λ b. if b then after_lines (step_lines o (present o w s))
    (walks o w (is_at_break s.breaks) n (further s)) else stays s) e

first_gone : (o : Object) (w : List Wild) (n : ℕ) (s : Session) → ¬ (n ≡ 0) → is_running (present o w s).state.status
    ≡ true → goes o w n s ≡ after_lines (step_lines o (present o w s))
    (walks o w (is_at_break s.breaks) (n - 1) (further s))
first_gone o w zero s ne e = absurd (ne refl)
first_gone o w (suc n) s ne e =
    let same : n ≡ suc n - 1 = omega arith in
    ap (λ b. if b then after_lines (step_lines o (present o w s)) (walks o w (is_at_break s.breaks) n (further s))
    else stays s) e
    ∙ ap (λ m. after_lines (step_lines o (present o w s)) (walks o w (is_at_break s.breaks) m (further s))) same

runs_there : (o : Object) (w : List Wild) (s : Session) (d : Debugger) (b : Bool) → Holds o w s d →
    is_running d.present.machine.status ≡ b → is_running (present o w s).state.status ≡ b
runs_there o w s d b h e = sym (ap (λ (m : Moment). is_running m.machine.status) h.present) ∙ e

-- a reply that changes nothing and writes nothing is complete at once
pub does_nothing : (go : List Wild → Session → Reply) (o : Object) (d : Debugger) (old : SinkLog)
    → ((w : List Wild) (s : Session) → Holds o w s d → go w s ≡ stays s) → Does go o d d (Ok tt) old old
does_nothing go o d old e = λ w s h.
    subst (λ (r : Reply). IsReplied o w r d (Ok tt) old old) (sym (e w s h)) (h, lines_none old)

pub go_none : (o : Object) (n : ℕ) (d : Debugger) (old : SinkLog) → n ≡ 0 → Does (λ w. goes o w n) o d d (Ok tt) old old
go_none o n d old e = does_nothing (λ w. goes o w n) o d old (λ w s h. none_gone o w n s e)

pub go_stopped : (o : Object) (n : ℕ) (d : Debugger) (old : SinkLog) → is_running d.present.machine.status ≡ false
    → Does (λ w. goes o w n) o d d (Ok tt) old old
go_stopped o n d old e =
    does_nothing (λ w. goes o w n) o d old (λ w s h. stopped_gone o w n s (runs_there o w s d false h e))

pub go_breaks : (o : Object) (n : ℕ) (d e : Debugger) (failed : Failed) (r : Result (Unit {0}) Failed)
    (old new : SinkLog) → IsErr r → ¬ (n ≡ 0) → is_running d.present.machine.status ≡ true
    → Does (advances o) o d e (Err failed) old new → Does (λ w. goes o w n) o d e r old new
go_breaks o n d e failed r old new is ne run does =
    does_err (advances o) (λ w. goes o w n) o d e failed r old new
    (λ w s h. (
      (walks o w (is_at_break s.breaks) (n - 1) (further s)).lines,
      ap (λ (q : Reply). q.lines)
          (first_gone o w n s ne (runs_there o w s d true h run)),
    )) is does

pub go_on : (o : Object) (n : ℕ) (d e f : Debugger) (r : Result (Unit {0}) Failed) (old mid new : SinkLog) → ¬ (n ≡ 0)
    → is_running d.present.machine.status ≡ true → e.breaks ≡ d.breaks
    → Does (advances o) o d e (Ok tt) old mid → Does (λ w. walks o w (is_at_break e.breaks) (n - 1)) o e f r mid new
    → Does (λ w. goes o w n) o d f r old new
go_on o n d e f r old mid new ne run eb first rest = λ w s h.
    let x = first w s h in
    let more = λ (l : List ℕ). walks o w (is_at_break l) (n - 1) (further s) in
    let y = subst (λ (l : List ℕ). IsReplied o w (more l) f r mid new) (eb ∙ h.breaks) (rest w (further s) x.0) in
    subst (λ (q : Reply). IsReplied o w q f r old new) (sym (first_gone o w n s ne (runs_there o w s d true h run))) (
      y.0,
      puts_then (end_of_puts r) (step_lines o (present o w s)) (more s.breaks).lines old mid new (made_by r) x.1
          y.1,
    )
