-- A run that starts without answers to wild loads never has any.
use Rattle.std.proofs.Common.{◌≡◌, ℕ, zero, suc, ◌==◌, Bool, true, false, not, ◌&&◌, nat_lt, if◌then◌else◌, List, []}
use Rattle.std.proofs.Common.{◌∷◌, ◌++◌, length, Option, Some, None, refl, ap, sym, ◌∙◌, add-one}
use Rattle.ft_isa.specs.declared.plan.Wild.{Wild}
use Rattle.ft_isa.specs.declared.plan.Strike.{Strike}
use Rattle.ft_isa.specs.declared.colour.Colour.{Colour}
use Rattle.ft_isa.specs.declared.colour.Colour.TheVariants.{Green, Blue}
use Rattle.ft_isa.specs.declared.reg.Reg.{Reg}
use Rattle.ft_isa.specs.declared.instr.Instr.{Instr}
use Rattle.ft_isa.specs.declared.instr.Instr.TheVariants.{Ld, St, JmpG, JmpB, BzG, BzB}
use Rattle.ft_types.specs.declared.object.Object.{Object}
use Rattle.ft_types.specs.Objects.{instr_at}
use Rattle.ft_semantics.specs.declared.status.Status.{Status}
use Rattle.ft_semantics.specs.declared.status.Status.TheVariants as status
use Rattle.ft_semantics.specs.State.{State, word}
use Rattle.ft_semantics.specs.Step.{Stepping, step, step_at, advance, fetch, execute, quiet, detected, goes_on}
use Rattle.ft_semantics.specs.Step.{transfers, found, load, store, commit, commits, jump_green, jump_blue, pass}
use Rattle.ft_semantics.specs.Strike.{struck_before}
use Rattle.ft_semantics.specs.Run.{Ran, run, run-zero, run-add_one}

-- no answers
abbrev pub no_words : List Wild
no_words = []

abbrev LeavesNone : Stepping → Type 0
LeavesNone t = t.wild ≡ no_words

none_if : (b : Bool) (t u : Stepping) → LeavesNone t → LeavesNone u → LeavesNone (if b then t else u)
none_if true t u p q = p
none_if false t u p q = q

fetch_none : (i : Option Instr) (s : State) → LeavesNone (fetch i s no_words)
fetch_none None s = refl
fetch_none (Some i) s = refl

load_none : (c : Colour) (rd : Reg) (o : Option ℕ) (s : State) → LeavesNone (load c rd o s no_words)
load_none c rd (Some v) s = refl
load_none c rd None s = refl

store_none : (c : Colour) (a v : ℕ) (s : State) → LeavesNone (store c a v s no_words)
store_none Green a v s = none_if (nat_lt (length s.queue) 8)
    (quiet (goes_on (record s { queue = s.queue ++ (a, v) ∷ [] })) no_words) (detected s no_words) refl refl
store_none Blue a v s = none_if (commits a v s) (commit a v s no_words) (detected s no_words) refl refl

jump_green_none : (a : ℕ) (s : State) → LeavesNone (jump_green a s no_words)
jump_green_none a s = none_if (s.d == 0) (quiet (goes_on (record s { d = a })) no_words) (detected s no_words) refl refl

jump_blue_none : (a : ℕ) (s : State) → LeavesNone (jump_blue a s no_words)
jump_blue_none a s = none_if (not (s.d == 0) && (s.d == a)) (quiet (transfers a s) no_words) (detected s no_words) refl
    refl

pass_none : (s : State) → LeavesNone (pass s no_words)
pass_none s = none_if (s.d == 0) (quiet (goes_on s) no_words) (detected s no_words) refl refl

execute_none : (i : Instr) (s : State) → LeavesNone (execute i s no_words)
execute_none (Ld c rd rs) s = load_none c rd (found c s (word s rs)) s
execute_none (St c rd rs) s = store_none c (word s rd) (word s rs) s
execute_none (JmpG rd) s = jump_green_none (word s rd) s
execute_none (JmpB rd subst) s = jump_blue_none (word s rd) s
execute_none (BzG rz rd) s = none_if (word s rz == 0) (jump_green (word s rd) s no_words) (pass s no_words)
    (jump_green_none (word s rd) s) (pass_none s)
execute_none (BzB rz rd subst) s = none_if (word s rz == 0) (jump_blue (word s rd) s no_words) (pass s no_words)
    (jump_blue_none (word s rd) s) (pass_none s)
execute_none i s = refl

advance_none : (o : Object) (f : Option Instr) (s : State) → LeavesNone (advance o f s no_words)
advance_none o None s = none_if (s.pc_green == s.pc_blue) (fetch (instr_at o s.pc_green) s no_words)
    (detected s no_words) (fetch_none (instr_at o s.pc_green) s) refl
advance_none o (Some i) s = execute_none i s

step_at_none : (o : Object) (v : Status) (s : State) → LeavesNone (step_at o v s no_words)
step_at_none o status.Running s = advance_none o s.fetched s
step_at_none o status.Done s = refl
step_at_none o status.Detected s = refl

run_next : (o : Object) (strike : Option Strike) (w : List Wild) (n : ℕ) → (run o strike w (suc n)).wild
    ≡ (step o (struck_before strike n (run o strike w n).state) (run o strike w n).wild).wild
run_next o strike w n = ap (λ k. (run o strike w k).wild) (sym (add-one n))
    ∙ ap (λ (r : Ran). r.wild) (run-add_one o strike w n)

pub none_after : (o : Object) (strike : Option Strike) (n : ℕ) → (run o strike no_words n).wild ≡ no_words
none_after o strike zero = ap (λ (r : Ran). r.wild) (run-zero o strike no_words)
none_after o strike (suc n) =
    let s = struck_before strike n (run o strike no_words n).state in
    run_next o strike no_words n
    ∙ ap (λ w. (step o s w).wild) (none_after o strike n)
    ∙ step_at_none o s.status s
