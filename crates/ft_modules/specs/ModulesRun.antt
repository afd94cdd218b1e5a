-- The modules' run: a machine is in one module at a time, and moves on from an imported block's address to the exported
-- block.
use Rattle.std.specs.Prelude.{◌≡◌, ℕ, zero, suc, ◌+◌, ◌==◌, ◌&&◌, if◌then◌else◌, List, [], ◌∷◌, ◌++◌, find, slice_get, Option, Some, None}
use Rattle.std.proofs.Common.{refl, add-one}
use Rattle.std.specs.Option.{option_to_list}
use Rattle.ft_isa.specs.Words.{code_address}
use Rattle.ft_isa.specs.declared.instr.Instr.{Instr}
use Rattle.ft_isa.specs.declared.output.Output.{Output}
use Rattle.ft_types.specs.declared.object.Object.{Object}
use Rattle.ft_semantics.specs.declared.status.Status.{Status}
use Rattle.ft_semantics.specs.State.{State, start}
use Rattle.ft_semantics.specs.Step.{Stepping, quiet, step}
use Rattle.ft_link_map.specs.declared.link_map.LinkMap.{LinkMap}
use Rattle.ft_modules.specs.Links.{Link, links, start_in}

-- a module's number, and a state
pub record InModule : Type 0 where
  pub number : ℕ
  pub state : State

-- the link from the imported block of module m that has this address
abbrev pub link_at : List Object → List Link → ℕ → ℕ → Option Link
link_at modules joins m a = find (λ (l : Link). (l.module_of == m) && (a == code_address (start_in modules l.module_of l.block))) joins

-- where a machine is sent by its link, if it has one: both counters become the exported block's address
abbrev pub sent_by : List Object → InModule → Option Link → InModule
sent_by modules x None = x
sent_by modules x (Some l) =
    let a = code_address (start_in modules l.to_module l.to_block) in
    record { number = l.to_module; state = record x.state { pc_green = a; pc_blue = a } }

-- where a machine is sent, by whether something is fetched
abbrev pub sent_unfetched : List Object → List Link → InModule → Option Instr → InModule
sent_unfetched modules joins x (Some i) = x
sent_unfetched modules joins x None = if x.state.pc_green == x.state.pc_blue then sent_by modules x (link_at modules joins x.number x.state.pc_green) else x

-- before a step: if nothing is fetched and both counters are an imported block's address, the machine is sent to the
-- exported block
abbrev pub sent : List Object → List Link → InModule → InModule
sent modules joins x = sent_unfetched modules joins x x.state.fetched

-- one step in the module's object, with no answers to wild loads
abbrev pub step_in : Option Object → State → Stepping
step_in None s = quiet s []
step_in (Some o) s = step o s []

-- the run so far
pub record ModulesRan : Type 0 where
  pub at : InModule
  pub outputs : List Output

-- the run after a step in module m: the step's state, and its output if it has one
abbrev pub stepped : ℕ → List Output → Stepping → ModulesRan
stepped m outputs t = record { at = record { number = m; state = t.state }; outputs = outputs ++ option_to_list t.output }

-- the run after a step of a machine that was sent
abbrev pub after_sent : List Object → List Output → InModule → ModulesRan
after_sent modules outputs x = stepped x.number outputs (step_in (slice_get modules x.number) x.state)

-- the run after n steps
unfoldable pub modules_ran : LinkMap → Object → List Object → ℕ → ModulesRan
modules_ran linkage first others zero = record { at = record { number = 0; state = start first }; outputs = [] }
modules_ran linkage first others (suc n) =
    let r = modules_ran linkage first others n in
    after_sent (first ∷ others) r.outputs (sent (first ∷ others) (links linkage) r.at)

-- the run before any step
pub modules_ran-zero : (linkage : LinkMap) (first : Object) (others : List Object) → modules_ran linkage first others 0 ≡ record { at = record { number = 0; state = start first }; outputs = [] }
unfolding modules_ran
modules_ran-zero linkage first others = refl

-- the run after one more step
pub modules_ran-add_one : (linkage : LinkMap) (first : Object) (others : List Object) (n : ℕ) → modules_ran linkage first others (n + 1) ≡ (let r = modules_ran linkage first others n in after_sent (first ∷ others) r.outputs (sent (first ∷ others) (links linkage) r.at))
unfolding modules_ran
modules_ran-add_one linkage first others n = rw add-one refl

-- the outputs of the modules' run after n steps
abbrev pub modules_outputs : LinkMap → Object → List Object → ℕ → List Output
modules_outputs linkage first others n = (modules_ran linkage first others n).outputs

-- the status of the modules' run after n steps
abbrev pub modules_status : LinkMap → Object → List Object → ℕ → Status
modules_status linkage first others n = (modules_ran linkage first others n).at.state.status
