-- Consecutive runs of the code, compared with the definition.
use Rattle.std.proofs.Common.{◌≡◌, ℕ, suc, ◌-◌, List, [], ◌∷◌, length, map, replicate, Option, Result, Ok, Err, Vec}
use Rattle.std.proofs.Common.{Global, refl, sym, ap, ◌∙◌, subst, arith}
use Rattle.std.proofs.lemmas.List.{length-map}
use Rattle.ft_edge.specs.Lines.{BreaksOff, Puts}
use Rattle.ft_edge.specs.Logs.{SinkLog}
use Rattle.ft_edge.proofs.Lines.{lines_none}
use Rattle.ft_isa.specs.declared.output.Output.{Output}
use Rattle.ft_syntax.specs.declared.stmt.Stmt.{Stmt}
use Rattle.ft_syntax.specs.Plain.{plain_list}
use Rattle.ft_scope.specs.declared.slot.Slot.{Slot}
use Rattle.ft_scope.specs.declared.prog.Prog.{Prog}
use Rattle.ft_scope.specs.CellNames.{joined_names}
use Rattle.ft_scope.specs.Size.{same_slot}
use Rattle.ft_scope.specs.Resolved.{Program}
use Rattle.ft_scope.specs.ProgramOf.{program_of}
use Rattle.ft_meaning.specs.declared.run.Run.{Run}
use Rattle.ft_meaning.specs.declared.run.Stop.{Stop}
use Rattle.ft_meaning.specs.declared.run.Stop.TheVariants as stops
use Rattle.ft_meaning.specs.declared.mean_end.MeanEnd.{MeanEnd}
use Rattle.ft_meaning.specs.declared.mean_end.MeanEnd.TheVariants as ends
use Rattle.ft_meaning.specs.Meaning.{State, Outcome, Ended, Cut, state_of, outputs, then_do, run, start, meaning}
use Rattle.ft_meaning.specs.Lines.{output_lines}
use Rattle.ft_meaning.specs.Begins.{Begins}
use Rattle.ft_meaning.specs.Ends.{EndsAs, put_end}
use Rattle.ft_meaning.specs.Room.{HasRoom}
use Rattle.ft_meaning.specs.Runs.{state, told, Keeps, Ready, RunsTo, end_of_run}
use Rattle.ft_simulation.proofs.Lists.{begins_itself}
use Rattle.ft_meaning.proofs.Longer.{Grows}
use Rattle.ft_meaning.proofs.Sinks.{breaks_longer}

-- if `whole` does what `go` does from a state that differs only in the work done, a run of `go` is a run of `whole`
pub runs_from : (go whole : State → Outcome) (f : ℕ → ℕ) (names : List (List ℕ)) (r q : Run) (before after : SinkLog)
    (res : Result (Unit {0}) Stop) →
    ((o : List Output) (w : ℕ) → whole (state r o w) ≡ go (state r o (f w))) → RunsTo go names r q before after res →
    RunsTo whole names r q before after res
runs_from go whole f names r q before after (Ok u) e h = λ first o w is. let x = h first o (f w) is in
    (x.0, x.1, e o w ∙ x.2, x.3)
runs_from go whole f names r q before after (Err stops.Cut) e h = λ first o w is. let x = h first o (f w) is in
    (x.0, x.1, e o w ∙ x.2, x.3)
runs_from go whole f names r q before after (Err stops.WriteFault) e h = λ first o w is.
    subst (λ x. BreaksOff (output_lines names (outputs x)) first after) (sym (e o w)) (h first o (f w) is)

-- what follows only adds outputs
then_begins : (r : Outcome) (rest : State → Outcome) → ((s : State) → Grows s (state_of (rest s))) →
    Begins (outputs r) (outputs (then_do r rest))
then_begins (Ended s) rest g = (g s).out
then_begins (Cut s) rest g = begins_itself s.out

-- the whole run reaches a part, and the rest follows
abbrev pub Reaches : (State → Outcome) → (State → Outcome) → List (List ℕ) → Run → Run → SinkLog → SinkLog → Type 0
Reaches whole go names r q start now = (first : SinkLog) (o : List Output) (w : ℕ) → start ≡ told names first o →
    (p : List Output) × (v : ℕ) × (rest : State → Outcome) × ((s : State) → Grows s (state_of (rest s)))
    × (whole (state r o w) ≡ then_do (go (state q p v)) rest) × (now ≡ told names first p)

-- if a part stops, so does the whole
pub stops_run : (whole go : State → Outcome) (names : List (List ℕ)) (r0 r q : Run) (before now after : SinkLog)
    (stop : Stop) → Reaches whole go names r0 r before now → RunsTo go names r q now after (Err stop)
    → RunsTo whole names r0 q before after (Err stop)
stops_run whole go names r0 r q before now after stops.Cut reach h = λ first o w is.
    let R = reach first o w is in
    let x = h first R.0 R.1 R.5 in
    (x.0, x.1, R.4 ∙ ap (λ y. then_do y R.2) x.2, x.3)
stops_run whole go names r0 r q before now after stops.WriteFault reach h = λ first o w is.
    let R = reach first o w is in
    let s = state r R.0 R.1 in
    subst (λ x. BreaksOff (output_lines names (outputs x)) first after) (sym R.4)
    (breaks_longer names first after (outputs (go s)) (outputs (then_do (go s) R.2)) (h first R.0 R.1 R.5)
    (then_begins (go s) R.2 R.3))

-- `Keeps` is transitive
pub keeps_trans : (r s q : Run) → Keeps r s → Keeps s q → Keeps r q
keeps_trans r s q a b = record {
  vars = b.vars ∙ a.vars;
  cells = b.cells ∙ a.cells;
  line = b.line ∙ a.line;
  left = omega (arith, a.left, b.left);
}

pub ready_kept : (names : List (List ℕ)) (r q : Run) → Keeps r q → Ready names r → Ready names q
ready_kept names r q k h = record {
  as_many = h.as_many ∙ sym k.cells;
  few = omega (arith, h.few, k.cells);
  line = omega (arith, h.line, k.line);
  room = subst (λ n. HasRoom names (n - 22)) (sym k.line) h.room;
}

-- a result and the lines written agree with a meaning
pub record Meant (e : MeanEnd) (names : List (List ℕ)) (m : Outcome) (old new : SinkLog) : Type 0 where
  pub ends : EndsAs e m
  pub lines : Puts (put_end e) (output_lines names (outputs m)) old new

meant_from : (go : State → Outcome) (names : List (List ℕ)) (r q : Run) (old new : SinkLog)
    (res : Result (Unit {0}) Stop) → RunsTo go names r q old new res
    → Meant (end_of_run res) names (go (state r [] 0)) old new
meant_from go names r q old new (Ok u) h =
    let x = h old [] 0 (lines_none old) in
    subst (λ m. Meant ends.Ended names m old new) (sym x.2) (record { ends = tt; lines = x.3 })
meant_from go names r q old new (Err stops.Cut) h =
    let x = h old [] 0 (lines_none old) in
    subst (λ m. Meant ends.Cut names m old new) (sym x.2) (record { ends = tt; lines = x.3 })
meant_from go names r q old new (Err stops.WriteFault) h = record { ends = tt; lines = h old [] 0 (lines_none old) }

start_is : (p : Program) (t : ℕ) (r : Run) → r.vars.items ≡ replicate p.vars 0 → r.cells.items ≡ p.inits → r.left ≡ t →
    state r [] 0 ≡ start p t
start_is p t r a b c = λ i. record { vars = a i; cells = b i; out = []; left = c i; work = 0 }

-- a run of the whole program from its start agrees with the program's meaning
pub meant : (prog : Prog) (t : ℕ) (r q : Run) (names : List (List ℕ)) (bs : List (Stmt Slot)) (old new : SinkLog)
    (res : Result (Unit {0}) Stop)
    → names ≡ (program_of prog).names → bs ≡ prog.body.items → r.vars.items ≡ replicate prog.vars 0
    → r.cells.items ≡ prog.inits.items → r.left ≡ t
    → RunsTo (run (plain_list same_slot bs)) names r q old new res
    → Meant (end_of_run res) (program_of prog).names (meaning (program_of prog) t) old new
meant prog t r q names bs old new res e f a b c h =
    let start = ap (λ v. run (plain_list same_slot v) (state r [] 0)) f
    ∙ ap (run (plain_list same_slot prog.body.items)) (start_is (program_of prog) t r a b c) in
    subst (λ v. Meant (end_of_run res) v (meaning (program_of prog) t) old new) e
    (subst (λ m. Meant (end_of_run res) names m old new) start
    (meant_from (run (plain_list same_slot bs)) names r q old new res h))

-- there are as many joined names as declared ones
joined_length : (ts : List (List ℕ)) (ps : List (Option ℕ)) → length ts ≡ length ps → length (joined_names ts ps)
    ≡ length ts
joined_length [] ps h = refl
joined_length (t ∷ ts) [] h = absurd (omega arith)
joined_length (t ∷ ts) (p ∷ ps) h = ap suc (joined_length ts ps (omega arith))

-- a program has as many names as cells
pub names_many : (p : Prog) (ns : List (Vec ℕ Global)) → map (λ n. n.items) ns ≡ (program_of p).names → length ns
    ≡ length p.inits.items
names_many p ns e =
    let texts = map (λ r. r.now) p.names.items in
    let many : length texts ≡ length p.names.items = length-map p.names.items (λ r. r.now) in
    let joined = joined_length texts p.places.items (omega (arith, many, p.as_many, p.as_many_places)) in
    omega (arith, length-map ns (λ n. n.items), ap length e, joined, many, p.as_many)
