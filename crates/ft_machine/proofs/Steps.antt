-- What each step and each strike leaves unchanged, and what an output implies.
use Rattle.std.proofs.Common.{◌≡◌, ℕ, Bool, true, false, List, [], ◌∷◌, Option, Some, None, refl, ap, sym, ◌∙◌, subst}
use Rattle.std.specs.Prelude.{◌||◌, ◌==◌, if◌then◌else◌}
use Rattle.std.proofs.lemmas.Bool.{eqb-true, and_parts}
use Rattle.ft_isa.specs.declared.colour.Colour.{Colour}
use Rattle.ft_isa.specs.declared.reg.Reg.{Reg}
use Rattle.ft_isa.specs.declared.plan.Wild.{Wild}
use Rattle.ft_isa.specs.declared.plan.Wild.TheVariants.{Word, Stop}
use Rattle.ft_isa.specs.declared.plan.Site.{Site}
use Rattle.ft_isa.specs.declared.plan.Site.TheVariants.{R, D, PcG, PcB, QAddr, QVal}
use Rattle.ft_isa.specs.declared.plan.Strike.{Strike}
use Rattle.ft_isa.specs.declared.output.Output.{Output}
use Rattle.ft_isa.specs.declared.instr.Instr.{Instr}
use Rattle.ft_isa.specs.Pending.{is_oldest}
use Rattle.ft_types.specs.declared.object.Object.{Object}
use Rattle.ft_semantics.specs.declared.status.Status.{Status}
use Rattle.ft_semantics.specs.State.{State, word, is_cell}
use Rattle.ft_semantics.specs.Step.{Stepping, step, step_at, execute, quiet, found, load, wild_load, commit, commits}
use Rattle.ft_semantics.proofs.StepKinds.{execute_is, step_at_is}
use Rattle.ft_semantics.specs.Strike.{with_word, is_there, struck_state, struck_before}
use Rattle.ft_machine.proofs.Tabulated.{contains_key-insert}

-- an output goes to a cell, its step keeps the status, and the cells keep their addresses
pub record IsProper (s : State) (t : Stepping) : Type 0 where
  pub output : (out : Output) → t.output ≡ Some out → (t.state.status ≡ s.status) × (is_cell s.cells out.addr ≡ true)
  pub cells : (a : ℕ) → is_cell t.state.cells a ≡ is_cell s.cells a

quiet_is_proper : (s s' : State) (w : List Wild) → s'.cells ≡ s.cells → IsProper s (quiet s' w)
quiet_is_proper s s' w e = record { output = λ out h. absurd (cc); cells = λ a. ap (λ m. is_cell m a) e }

or_there : (x b : Bool) → (x ≡ true → b ≡ true) → (x || b) ≡ b
or_there true b h = sym (h refl)
or_there false b h = refl

abbrev GoesToCell : State → Option Output → Type 0
GoesToCell s None = Unit {0}
GoesToCell s (Some out) = is_cell s.cells out.addr ≡ true

commit_is_proper : (s : State) (a v : ℕ) (w : List Wild) → commits a v s ≡ true → IsProper s (commit a v s w)
commit_is_proper s a v w h =
    let here : is_cell s.cells a ≡ true = (and_parts (is_oldest s.queue a v) _ h).1 in
    record {
      output = λ out e. (refl, subst (GoesToCell s) e here);
      cells = λ q. contains_key-insert s.cells a v q
          ∙ or_there (q == a) (is_cell s.cells q) (λ e.
          subst (λ n. is_cell s.cells n ≡ true) (sym (eqb-true q a e)) here);
    }

wild_load_is_proper : (c : Colour) (rd : Reg) (s : State) (w : List Wild) → IsProper s (wild_load c rd s w)
wild_load_is_proper c rd s [] = quiet_is_proper s _ [] refl
wild_load_is_proper c rd s (Stop ∷ w) = quiet_is_proper s _ w refl
wild_load_is_proper c rd s (Word v ∷ w) = quiet_is_proper s _ w refl

load_is_proper : (c : Colour) (rd : Reg) (o : Option ℕ) (s : State) (w : List Wild) → IsProper s (load c rd o s w)
load_is_proper c rd (Some v) s w = quiet_is_proper s _ w refl
load_is_proper c rd None s w = wild_load_is_proper c rd s w

pub execute_is_proper : (i : Instr) (s : State) (w : List Wild) → IsProper s (execute i s w)
execute_is_proper i s w =
    execute_is s (λ f. IsProper s (f w)) (λ t e. quiet_is_proper s t w e) (λ a v h. commit_is_proper s a v w h) i
    (λ c rd rs e. load_is_proper c rd (found c s (word s rs)) s w)

pub step_at_is_proper : (o : Object) (x : Status) (s : State) (w : List Wild) → IsProper s (step_at o x s w)
step_at_is_proper o x s w =
    step_at_is s (λ f. IsProper s (f w)) (λ t e. quiet_is_proper s t w e) (λ a v h. commit_is_proper s a v w h) o x
    (λ go c rd rs e. load_is_proper c rd (found c s (word s rs)) s w)

pub step_is_proper : (o : Object) (s : State) (w : List Wild) → IsProper s (step o s w)
step_is_proper o s w = step_at_is_proper o s.status s w

-- two states have the same cells and the same status
pub record Keeps (s t : State) : Type 0 where
  pub cells : t.cells ≡ s.cells
  pub status : t.status ≡ s.status

with_word_keeps : (site : Site) (v : ℕ) (s : State) → Keeps s (with_word site v s)
with_word_keeps (R r) v s = record { cells = refl; status = refl }
with_word_keeps D v s = record { cells = refl; status = refl }
with_word_keeps PcG v s = record { cells = refl; status = refl }
with_word_keeps PcB v s = record { cells = refl; status = refl }
with_word_keeps (QAddr i) v s = record { cells = refl; status = refl }
with_word_keeps (QVal i) v s = record { cells = refl; status = refl }

keeps_if : (b : Bool) (s t : State) → Keeps s t → Keeps s (if b then t else s)
keeps_if true s t h = h
keeps_if false s t h = record { cells = refl; status = refl }

-- a strike changes neither the cells nor the status
pub strike_keeps : (strike : Option Strike) (k : ℕ) (s : State) → Keeps s (struck_before strike k s)
strike_keeps None k s = record { cells = refl; status = refl }
strike_keeps (Some x) k s = keeps_if (x.step == k) s (struck_state s x.site x.value)
    (keeps_if (is_there s x.site) s (with_word x.site x.value s) (with_word_keeps x.site x.value s))
