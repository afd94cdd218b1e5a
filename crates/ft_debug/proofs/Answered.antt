-- What each command replies, and that the reply is written.
use Rattle.std.proofs.Common.{not, length, Some, None, ◌≡◌, ℕ, ◌+◌, ◌-◌, ◌<◌, ◌≤◌, Bool, true, false, List, [], ◌∷◌}
use Rattle.std.proofs.Common.{◌++◌, Result, Ok, Err, refl, ap, sym, ◌∙◌, subst, arith}
use Rattle.std.specs.Prelude.{slice_get, if◌then◌else◌, nat_lt, codes, IsErr}
use Rattle.std.proofs.lemmas.Bool.{lt-ltb}
use Rattle.std.proofs.lemmas.Bool.Decides.{nat_tests}
use Rattle.ft_isa.specs.declared.plan.Site.{Site}
use Rattle.ft_edge.specs.declared.failed.Failed.{Failed}
use Rattle.ft_isa.specs.declared.plan.Wild.{Wild}
use Rattle.ft_edge.specs.Lines.{Puts, end_of_puts}
use Rattle.ft_edge.specs.Logs.{SinkLog}
use Rattle.ft_edge.proofs.Lines.{lines_none, puts_then, made_by}
use Rattle.ft_types.specs.declared.object.Object.{Object}
use Rattle.ft_semantics.specs.Strike.{is_there}
use Rattle.ft_script.specs.declared.command.Command as read
use Rattle.ft_script.specs.Commands.{Bad, Break}
use Rattle.ft_script.specs.Reads.{command_of}
use Rattle.ft_debug.specs.declared.moment.Moment.{Moment}
use Rattle.ft_debug.specs.declared.debugger.Debugger.{Debugger}
use Rattle.ft_debug.specs.declared.history.History.{History}
use Rattle.ft_debug.specs.Sessions.{is_set, sets_break, with_break, break_address, reply, Session, Reply, present}
use Rattle.ft_debug.specs.Sessions.{stays, says, reports, at_line, goes_back, earlier, zaps, with_strike}
use Rattle.ft_debug.specs.Inside.{Holds, IsReplied, Does}
use Rattle.ft_debug.proofs.Advanced.{on_ok, does_err}

-- REPORTS

at_there : (o : Object) (w : List Wild) (t : Session) (e : Debugger) → Holds o w t e →
    at_line e.present.position e.present.machine ≡ at_line t.position (present o w t).state
at_there o w t e h = ap (λ (m : Moment). at_line m.position m.machine) h.present

-- a reply that ends with the position is complete once the position is written
pub does_report : (go : List Wild → Session → Reply) (o : Object) (d e : Debugger) (r : Result (Unit {0}) Failed)
    (old mid new : SinkLog) → Does go o d e (Ok tt) old mid
    → Puts (end_of_puts r) (at_line e.present.position e.present.machine ∷ []) mid new
    → Does (λ w s. reports o w (go w s)) o d e r old new
does_report go o d e r old mid new does p = λ w s h.
    let x = does w s h in
    let t = (go w s).session in
    let line = subst (λ (l : List ℕ). Puts (end_of_puts r) (l ∷ []) mid new) (at_there o w t e x.0) p in (
      on_ok r x.0,
      puts_then (end_of_puts r) (go w s).lines (at_line t.position (present o w t).state ∷ []) old mid new
          (made_by r) x.1 line,
    )

-- a put failed before the position was written
pub report_breaks : (go : List Wild → Session → Reply) (o : Object) (d e : Debugger) (failed : Failed)
    (r : Result (Unit {0}) Failed) (old new : SinkLog) → IsErr r → Does go o d e (Err failed) old new
    → Does (λ w s. reports o w (go w s)) o d e r old new
report_breaks go o d e failed r old new is does =
    does_err go (λ w s. reports o w (go w s)) o d e failed r old new
    (λ w s h. (at_line (go w s).session.position (present o w (go w s).session).state ∷ [], refl)) is does

-- ONE LINE

-- writing one line completes a reply of one line, if the debugger holds the session after it
pub says_line : (go : List Wild → Session → Reply) (o : Object) (d e : Debugger) (line : List ℕ)
    (next : List Wild → Session → Session) (r : Result (Unit {0}) Failed) (old new : SinkLog)
    → ((w : List Wild) (s : Session) → Holds o w s d → (go w s ≡ says line (next w s)) × Holds o w (next w s) e)
    → Puts (end_of_puts r) (line ∷ []) old new → Does go o d e r old new
says_line go o d e line next r old new said p = λ w s h.
    let x = said w s h in
    subst (λ (q : Reply). IsReplied o w q e r old new) (sym x.0) (on_ok r x.1, p)

-- `Does` carries over to an equal reply
pub does_as : (go same : List Wild → Session → Reply) (o : Object) (d e : Debugger) (r : Result (Unit {0}) Failed)
    (old new : SinkLog) → ((w : List Wild) (s : Session) → Holds o w s d → same w s ≡ go w s) → Does go o d e r old new
    → Does same o d e r old new
does_as go same o d e r old new eq does = λ w s h.
    subst (λ (q : Reply). IsReplied o w q e r old new) (sym (eq w s h)) (does w s h)

there_is : (o : Object) (w : List Wild) (s : Session) (d : Debugger) (site : Site) (b : Bool) → Holds o w s d →
    is_there d.present.machine site ≡ b → is_there (present o w s).state site ≡ b
there_is o w s d site b h e = sym (ap (λ (m : Moment). is_there m.machine site) h.present) ∙ e

-- ZAP

zap_line : (b : Bool) (x y : Session) (l m : List ℕ) → (if b then says l x else says m y)
    ≡ says (if b then l else m) (if b then says l x else says m y).session
zap_line true x y l m = refl
zap_line false x y l m = refl

pub does_zap : (o : Object) (d e : Debugger) (site : Site) (value : ℕ) (b : Bool) (r : Result (Unit {0}) Failed)
    (old new : SinkLog) → is_there d.present.machine site ≡ b
    → ((w : List Wild) (s : Session) → Holds o w s d → Holds o w (zaps o w site value s).session e)
    → Puts (end_of_puts r) ((if b then codes "zapped\n" else codes "nothing there\n") ∷ []) old new
    → Does (λ w. zaps o w site value) o d e r old new
does_zap o d e site value b r old new there holds p =
    says_line (λ w. zaps o w site value) o d e (if b then codes "zapped\n" else codes "nothing there\n")
    (λ w s. (zaps o w site value s).session) r old new (λ w s h. (
      zap_line (is_there (present o w s).state site) (with_strike site value s) s (codes "zapped\n")
          (codes "nothing there\n")
          ∙ ap (λ t. says (if t then codes "zapped\n" else codes "nothing there\n") (zaps o w site value s).session)
          (there_is o w s d site b h there),
      holds w s h,
    )) p

-- BACK

kept_back : (o : Object) (w : List Wild) (s : Session) (d : Debugger) (n : ℕ) (b : Bool) → Holds o w s d →
    nat_lt d.history.count n ≡ b → nat_lt (s.position - s.low) n ≡ b
kept_back o w s d n b h e = let kept = h.kept in let same : s.position - s.low ≡ d.history.count = omega arith in
    ap (λ m. nat_lt m n) same ∙ e

pub back_refused : (o : Object) (d : Debugger) (n : ℕ) (r : Result (Unit {0}) Failed) (old new : SinkLog)
    → d.history.count < n → Puts (end_of_puts r) (codes "no history\n" ∷ []) old new
    → Does (λ w. goes_back o w n) o d d r old new
back_refused o d n r old new l p =
    says_line (λ w. goes_back o w n) o d d (codes "no history\n") (λ w s. s) r old new (λ w s h. (
      ap (λ t. if t then says (codes "no history\n") s else reports o w (stays (earlier n s)))
          (kept_back o w s d n true h (lt-ltb d.history.count n l)),
      h,
    )) p

pub back_taken : (o : Object) (d e : Debugger) (n : ℕ) (r : Result (Unit {0}) Failed) (old new : SinkLog)
    → n ≤ d.history.count → ((w : List Wild) (s : Session) → Holds o w s d → Holds o w (earlier n s) e)
    → Puts (end_of_puts r) (at_line e.present.position e.present.machine ∷ []) old new
    → Does (λ w. goes_back o w n) o d e r old new
back_taken o d e n r old new l holds p =
    does_as (λ w s. reports o w (stays (earlier n s))) (λ w. goes_back o w n) o d e r old new
    (λ w s h. ap (λ t. if t then says (codes "no history\n") s else reports o w (stays (earlier n s)))
    (kept_back o w s d n false h (not_more d.history.count n l)))
    (does_report (λ w s. stays (earlier n s)) o d e r old old new (λ w s h. (holds w s h, lines_none old)) p)
  where
    not_more : (m n : ℕ) → n ≤ m → nat_lt m n ≡ false
    not_more m n le = grind (arith, nat_tests)

-- equal commands have the same answer
pub answers : (o : Object) (d e : Debugger) (x y : read.Command) (r : Result (Unit {0}) Failed) (old new : SinkLog)
    → x ≡ y → Does (λ w. reply o w (command_of y)) o d e r old new
    → Does (λ w. reply o w (command_of x)) o d e r old new
answers o d e x y r old new e' does =
    subst (λ (c : read.Command). Does (λ w. reply o w (command_of c)) o d e r old new) (sym e') does

pub answers_bad : (o : Object) (d : Debugger) (r : Result (Unit {0}) Failed) (old new : SinkLog)
    → Puts (end_of_puts r) (codes "bad command\n" ∷ []) old new → Does (λ w. reply o w Bad) o d d r old new
answers_bad o d r old new p =
    says_line (λ w. reply o w Bad) o d d (codes "bad command\n") (λ w s. s) r old new (λ w s h. (refl, h)) p

-- BREAK

breaks_are : (o : Object) (w : List Wild) (s : Session) (d : Debugger) (a : ℕ) (t : Bool) → Holds o w s d →
    is_set d.breaks a ≡ t → is_set s.breaks a ≡ t
breaks_are o w s d a t h e = ap (λ l. is_set l a) (sym h.breaks) ∙ e

pub break_nowhere : (o : Object) (d : Debugger) (b i : ℕ) (r : Result (Unit {0}) Failed) (old new : SinkLog)
    → break_address o b i ≡ None → Puts (end_of_puts r) (codes "no place\n" ∷ []) old new
    → Does (λ w. reply o w (Break b i)) o d d r old new
break_nowhere o d b i r old new e p =
    says_line (λ w. reply o w (Break b i)) o d d (codes "no place\n") (λ w s. s) r old new
    (λ w s h. (ap (λ a. sets_break a s) e, h)) p

-- the reply to a breakpoint at an existing place
abbrev set_or : Bool → Bool → ℕ → Session → Reply
set_or known room a s = if known then says (codes "break set\n") s
    else (if room then says (codes "break set\n") (with_break a s) else says (codes "too many breaks\n") s)

pub break_again : (o : Object) (d : Debugger) (b i a : ℕ) (r : Result (Unit {0}) Failed) (old new : SinkLog)
    → break_address o b i ≡ Some a → is_set d.breaks a ≡ true → Puts (end_of_puts r) (codes "break set\n" ∷ []) old new
    → Does (λ w. reply o w (Break b i)) o d d r old new
break_again o d b i a r old new e known p =
    says_line (λ w. reply o w (Break b i)) o d d (codes "break set\n") (λ w s. s) r old new
    (λ w s h. (
      ap (λ c. sets_break c s) e ∙ ap (λ t. set_or t (nat_lt (length s.breaks) 64) a s) (breaks_are o w s d a
          true h known),
      h,
    )) p

pub break_refused : (o : Object) (d : Debugger) (b i a : ℕ) (r : Result (Unit {0}) Failed) (old new : SinkLog)
    → break_address o b i ≡ Some a → is_set d.breaks a ≡ false → nat_lt (length d.breaks) 64 ≡ false
    → Puts (end_of_puts r) (codes "too many breaks\n" ∷ []) old new
    → Does (λ w. reply o w (Break b i)) o d d r old new
break_refused o d b i a r old new e known full p =
    says_line (λ w. reply o w (Break b i)) o d d (codes "too many breaks\n") (λ w s. s) r old new (λ w s h. (
      ap (λ c. sets_break c s) e ∙ ap (λ t. set_or t (nat_lt (length s.breaks) 64) a s)
          (breaks_are o w s d a false h known)
          ∙ ap (λ t. set_or false t a s) (ap (λ l. nat_lt (length l) 64) (sym h.breaks) ∙ full),
      h,
    )) p

holds_break : (o : Object) (w : List Wild) (s : Session) (d e : Debugger) (a : ℕ) → Holds o w s d → e.present
    ≡ d.present → e.history ≡ d.history → e.breaks ≡ d.breaks ++ a ∷ [] → Holds o w (with_break a s) e
holds_break o w s d e a h ep eh eb = record {
  present = ep ∙ h.present;
  kept = ap (λ (r : History). s.low + r.count) eh ∙ h.kept;
  past = λ i l lt. let count = ap (λ (r : History). r.count) eh in ap (λ (r : History). slice_get r.moments.items i) eh
      ∙ h.past i (omega arith) lt;
  breaks = eb ∙ ap (λ l. l ++ a ∷ []) h.breaks;
  made = h.made;
}

pub break_added : (o : Object) (d e : Debugger) (b i a : ℕ) (r : Result (Unit {0}) Failed) (old new : SinkLog)
    → break_address o b i ≡ Some a → is_set d.breaks a ≡ false → nat_lt (length d.breaks) 64 ≡ true
    → e.present ≡ d.present → e.history ≡ d.history → e.breaks ≡ d.breaks ++ a ∷ []
    → Puts (end_of_puts r) (codes "break set\n" ∷ []) old new → Does (λ w. reply o w (Break b i)) o d e r old new
break_added o d e b i a r old new there known room ep eh eb p =
    says_line (λ w. reply o w (Break b i)) o d e (codes "break set\n") (λ w s. with_break a s) r old new (λ w s h. (
      ap (λ c. sets_break c s) there ∙ ap (λ t. set_or t (nat_lt (length s.breaks) 64) a s)
          (breaks_are o w s d a false h known)
          ∙ ap (λ t. set_or false t a s) (ap (λ l. nat_lt (length l) 64) (sym h.breaks) ∙ room),
      holds_break o w s d e a h ep eh eb,
    )) p

-- there is room unless the breakpoints are full
pub room_is : (full room b : Bool) → full ≡ not room → full ≡ b → room ≡ not b
room_is full true b e f = ap not (sym e ∙ f)
room_is full false b e f = ap not (sym e ∙ f)
