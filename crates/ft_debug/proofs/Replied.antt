-- Replies one after another, and how far they advance the position.
use Rattle.std.proofs.Common.{◌≡◌, ℕ, zero, suc, ◌+◌, ◌-◌, ◌*◌, ◌<◌, ◌≤◌, Bool, true, false, List, [], ◌∷◌, ◌++◌}
use Rattle.std.proofs.Common.{length, map, take, drop, get_or, Option, Some, None, Ok, Err, refl, ap, sym, ◌∙◌, subst}
use Rattle.std.proofs.Common.{append_assoc, append-nil, arith}
use Rattle.std.specs.Prelude.{if◌then◌else◌, nat_lt}
use Rattle.std.specs.List.{AllZip, AllByRecursion}
use Rattle.std.proofs.lemmas.List.{map-append, take_more, take_all}
use Rattle.std.proofs.Math.Seq.{split_at}
use Rattle.ft_edge.specs.declared.failed.Failed.{Failed}
use Rattle.ft_isa.specs.declared.plan.Wild.{Wild}
use Rattle.ft_edge.specs.Lines.{BreaksOff, with_lines}
use Rattle.ft_edge.specs.Logs.{SinkLog}
use Rattle.ft_edge.proofs.Lines.{lines_none, lines_then, breaks_then, breaks_before}
use Rattle.ft_types.specs.declared.object.Object.{Object}
use Rattle.ft_semantics.specs.State.{State}
use Rattle.ft_semantics.specs.Strike.{is_running, is_there}
use Rattle.ft_script.specs.declared.command.Command as read
use Rattle.ft_script.specs.Commands.{Command, Step, Go, Back, Zap, Reg, Queue, Cell, Where, Break, Bad, Gives}
use Rattle.ft_script.specs.Reads.{command_of}
use Rattle.ft_debug.specs.declared.debugger.Debugger.{Debugger}
use Rattle.ft_debug.specs.Sessions.{Session, Reply, first_session, present, stays, says, after_lines, further}
use Rattle.ft_debug.specs.Sessions.{step_lines, walks, goes, is_at_break, is_set, with_break, with_strike, earlier}
use Rattle.ft_debug.specs.Sessions.{reports, never, sets_break, break_address, reply, replies, session_lines}
use Rattle.ft_debug.specs.Inside.{Holds, Does, IsSmall}

-- HOW FAR

-- a reply advances the position by at most n
abbrev pub Within : ℕ → Session → Reply → Type 0
Within n s r = r.session.position ≤ s.position + n

halt_within : (b : Bool) (n : ℕ) (s : Session) (r : Reply) → Within n s r → Within n s (if b then stays s else r)
halt_within true n s r h = omega arith
halt_within false n s r h = h

run_within : (b : Bool) (n : ℕ) (s : Session) (r : Reply) → Within n s r → Within n s (if b then r else stays s)
run_within true n s r h = h
run_within false n s r h = omega arith

walk_within : (o : Object) (w : List Wild) (halts : State → Bool) (n : ℕ) (s : Session) →
    Within n s (walks o w halts n s)
unfolding walks
walk_within o w halts zero s = omega arith
walk_within o w halts (suc n) s =
    let rest = walk_within o w halts n (further s) in
    let r : Reply = after_lines (step_lines o (present o w s)) (walks o w halts n (further s)) in
    let one : Within (suc n) s r = omega (arith, rest) in
    halt_within (halts (present o w s).state) (suc n) s (if is_running (present o w s).state.status then r
    else stays s) (run_within (is_running (present o w s).state.status) (suc n) s r one)

go_within : (o : Object) (w : List Wild) (n : ℕ) (s : Session) → Within n s (goes o w n s)
go_within o w zero s = omega arith
go_within o w (suc n) s =
    let rest = walk_within o w (is_at_break s.breaks) n (further s) in
    let r : Reply = after_lines (step_lines o (present o w s)) (walks o w (is_at_break s.breaks) n (further s)) in
    let one : Within (suc n) s r = omega (arith, rest) in
    run_within (is_running (present o w s).state.status) (suc n) s r one

either_within : (b : Bool) (s : Session) (x y : Reply) → Within 1000000 s x → Within 1000000 s y →
    Within 1000000 s (if b then x else y)
either_within true s x y h i = h
either_within false s x y h i = i

break_within : (a : Option ℕ) (s : Session) → Within 1000000 s (sets_break a s)
break_within None s = omega arith
break_within (Some a) s =
    either_within (is_set s.breaks a) s _ _ (omega arith)
    (either_within (nat_lt (length s.breaks) 64) s (says _ (with_break a s)) (says _ s) (omega arith) (omega arith))

-- a command advances the position by at most 1,000,000
pub reply_within : (o : Object) (w : List Wild) (c : Command) (s : Session) → IsSmall c →
    Within 1000000 s (reply o w c s)
reply_within o w (Step n) s h = let far = walk_within o w never n s in omega arith
reply_within o w (Go n) s h = let far = go_within o w n s in omega arith
reply_within o w (Back n) s h = either_within (nat_lt (s.position - s.low) n) s (says _ s)
    (reports o w (stays (earlier n s))) (omega arith) (omega arith)
reply_within o w (Zap site value) s h = either_within (is_there (present o w s).state site) s
    (says _ (with_strike site value s)) (says _ s) (omega arith) (omega arith)
reply_within o w (Reg r) s h = omega arith
reply_within o w Queue s h = omega arith
reply_within o w (Cell name) s h = omega arith
reply_within o w Where s h = omega arith
reply_within o w (Break b i) s h = break_within (break_address o b i) s
reply_within o w Bad s h = omega arith

-- ONE AFTER ANOTHER

-- after the first i commands: the session held, the lines written, and what the remaining commands write
pub record Replied (o : Object) (w : List Wild) (xs : List read.Command) (i : ℕ) (d : Debugger)
    (old new : SinkLog) : Type 0 where
  pub session : Session
  pub holds : Holds o w session d
  pub lines : List (List ℕ)
  pub puts : new ≡ with_lines lines old
  pub rest : (cs : List Command) → replies o w (map command_of (take i xs) ++ cs) first_session ≡ lines
      ++ replies o w cs session
  pub within : session.position ≤ 1000000 * i

pub replied_none : (o : Object) (w : List Wild) (xs : List read.Command) (d : Debugger) (old : SinkLog)
    → Holds o w first_session d → Replied o w xs 0 d old old
replied_none o w xs d old h =
    record {
      session = first_session;
      holds = h;
      lines = [];
      puts = lines_none old;
      rest = λ cs. refl;
      within = omega
          arith;
    }

next_command : (xs : List read.Command) (i : ℕ) (x : read.Command) → i < length xs → x ≡ get_or xs i x →
    map command_of (take (i + 1) xs) ≡ map command_of (take i xs) ++ command_of x ∷ []
next_command xs i x l e = ap (map command_of) (take_more xs i x l ∙ ap (λ y. take i xs ++ y ∷ []) (sym e))
    ∙ map-append command_of (take i xs) (x ∷ [])

pub replied_more : (o : Object) (w : List Wild) (xs : List read.Command) (i : ℕ) (x : read.Command) (d e : Debugger)
    (old mid new : SinkLog) → i < length xs → x ≡ get_or xs i x → IsSmall (command_of x)
    → Replied o w xs i d old mid → Does (λ v. reply o v (command_of x)) o d e (Ok tt) mid new
    → Replied o w xs (i + 1) e old new
replied_more o w xs i x d e old mid new l at small h does =
    let s = h.session in
    let y = does w s h.holds in
    let r = reply o w (command_of x) s in
    let far = reply_within o w (command_of x) s small in
    let before = h.within in
    record {
      session = r.session;
      holds = y.0;
      lines = h.lines ++ r.lines;
      puts = lines_then h.lines r.lines old mid new h.puts y.1;
      rest = λ cs.
          ap (λ l. replies o w (l ++ cs) first_session) (next_command xs i x l at)
          ∙ ap (λ l. replies o w l first_session) (append_assoc (map command_of (take i xs)) (command_of x ∷ []) cs)
          ∙ h.rest (command_of x ∷ cs) ∙ sym (append_assoc h.lines r.lines (replies o w cs r.session));
      within = omega arith;
    }

all_lines : (o : Object) (w : List Wild) (xs : List read.Command) (i : ℕ) (s : Session) (lines : List (List ℕ)) →
    length xs ≤ i → ((cs : List Command) → replies o w (map command_of (take i xs) ++ cs) first_session ≡ lines
    ++ replies o w cs s) → session_lines o w (map command_of xs) ≡ lines
all_lines o w xs i s lines le rest =
    ap (λ l. replies o w (map command_of l) first_session) (sym (take_all i xs le))
    ∙ ap (λ l. replies o w l first_session) (sym (append-nil (map command_of (take i xs)))) ∙ rest []
    ∙ append-nil lines

-- once all commands are answered, the lines of the whole session are written
pub replied_all : (o : Object) (w : List Wild) (xs : List read.Command) (i : ℕ) (d : Debugger) (old new : SinkLog)
    → length xs ≤ i → Replied o w xs i d old new → new ≡ with_lines (session_lines o w (map command_of xs)) old
replied_all o w xs i d old new le h =
    h.puts ∙ ap (λ ls. with_lines ls old) (sym (all_lines o w xs i h.session h.lines le h.rest))

-- if a put fails while a command is answered, the lines of the session break off there
pub replied_breaks : (o : Object) (w : List Wild) (xs : List read.Command) (i : ℕ) (x : read.Command) (d e : Debugger)
    (failed : Failed) (old mid new : SinkLog) → i < length xs → x ≡ get_or xs i x
    → Replied o w xs i d old mid → Does (λ v. reply o v (command_of x)) o d e (Err failed) mid new
    → BreaksOff (session_lines o w (map command_of xs)) old new
replied_breaks o w xs i x d e failed old mid new l at h does =
    let s = h.session in
    let r = reply o w (command_of x) s in
    let cs = map command_of (drop (suc i) xs) in
    let whole : map command_of xs ≡ map command_of (take i xs) ++ command_of x ∷ cs =
    ap (map command_of) (split_at xs i x l ∙ ap (λ y. take i xs ++ y ∷ drop (suc i) xs) (sym at))
    ∙ map-append command_of (take i xs) (x ∷ drop (suc i) xs) in
    subst (λ (ls : List (List ℕ)). BreaksOff ls old new)
    (sym (ap (λ l. replies o w l first_session) whole ∙ h.rest (command_of x ∷ cs)))
    (breaks_then h.lines (r.lines ++ replies o w cs r.session) old mid new h.puts
    (breaks_before r.lines (replies o w cs r.session) mid new (does w s h.holds).1))

-- SCRIPTS

small_command : (c : Command) (line : List ℕ) → Gives line c → IsSmall c
small_command (Step n) line h = h.0
small_command (Go n) line h = h.0
small_command (Back n) line h = tt
small_command (Zap site value) line h = tt
small_command (Reg r) line h = tt
small_command Queue line h = tt
small_command (Cell name) line h = tt
small_command Where line h = tt
small_command (Break b i) line h = tt
small_command Bad line h = tt

-- commands read from lines take at most 1,000,000 steps each
pub small_commands : (lines : List (List ℕ)) (cs : List Command) → AllZip Gives lines cs → AllByRecursion IsSmall cs
small_commands [] [] h = tt
small_commands [] (c ∷ cs) h = absurd h
small_commands (l ∷ ls) [] h = absurd h
small_commands (l ∷ ls) (c ∷ cs) h = (small_command c l h.0, small_commands ls cs h.1)

pub small_at : (xs : List read.Command) (i : ℕ) (d : read.Command) → i < length xs →
    AllByRecursion IsSmall (map command_of xs) → IsSmall (command_of (get_or xs i d))
small_at [] i d l h = absurd (omega arith)
small_at (x ∷ xs) zero d l h = h.0
small_at (x ∷ xs) (suc i) d l h = small_at xs i d (omega arith) h.1
