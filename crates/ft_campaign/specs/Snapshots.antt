-- What a campaign keeps of the run without a fault, and what one fault may cost: private to the crate, except for the
-- cost.
use Rattle.std.specs.Prelude.{◌≡◌, ℕ, ◌+◌, ◌-◌, ◌*◌, ◌/◌, ◌<◌, ◌≤◌, List, ◌++◌, length, slice_get, take, None, Some, false, true}
use Rattle.ft_isa.specs.declared.instr.Instr.{Instr}
use Rattle.ft_isa.specs.declared.plan.Strike.{Strike}
use Rattle.ft_isa.specs.declared.plan.Wild.{Wild}
use Rattle.ft_isa.specs.declared.output.Output.{Output}
use Rattle.ft_types.specs.declared.object.Object.{Object}
use Rattle.ft_semantics.specs.declared.status.Status.{Status}
use Rattle.ft_semantics.specs.declared.status.Status.TheVariants.{Running, Detected}
use Rattle.ft_campaign.specs.declared.clean.Snapshot.{Snapshot}
use Rattle.ft_campaign.specs.declared.clean.KeptRun.{KeptRun}
use Rattle.ft_semantics.specs.State.{State}
use Rattle.ft_semantics.specs.Step.{execute, next}
use Rattle.ft_semantics.specs.Strike.{struck_before}
use Rattle.ft_semantics.specs.Run.{state_after, wild_after, outputs_after, status_after, is_struck}

-- the two runs meet after m steps: a snapshot is kept there, after the strike, and the states and the remaining wild
-- answers are equal
pub record Meets (o : Object) (x : Strike) (w : List Wild) (m : ℕ) : Type 0 where
  pub kept : (j : ℕ) × (m ≡ 1024 * j)
  pub above : x.step < m
  pub state : state_after o (Some x) w m ≡ state_after o None w m
  pub wild : wild_after o (Some x) w m ≡ wild_after o None w m

-- the struck run need not be followed beyond its first e steps: either e is n, or the run has stopped by then, or it
-- meets the other run there
pub data IsEnd (o : Object) (x : Strike) (w : List Wild) (n e : ℕ) : Type 0 where
  last : e ≡ n → IsEnd o x w n e
  stopped : ¬ (status_after o (Some x) w e ≡ Running) → IsEnd o x w n e
  met : Meets o x w e → IsEnd o x w n e

-- the last snapshot at or before the strike
abbrev pub first : Strike → ℕ
first x = 1024 * (x.step / 1024)

-- a bound on what a fault costs in steps: any number if it strikes nothing; otherwise the steps from its snapshot to
-- any end, and therefore to the first
pub data IsCost (o : Object) (w : List Wild) (n : ℕ) (x : Strike) (c : ℕ) : Type 0 where
  idle : is_struck o (Some x) w n ≡ false → IsCost o w n x c
  upto : (e : ℕ) → IsEnd o x w n e → c ≡ e - first x → IsCost o w n x c

-- after n steps, two runs that met after m steps have equal states, and equal outputs since then
pub record HasMet (o : Object) (x : Strike) (w : List Wild) (m n : ℕ) : Type 0 where
  pub rest : List Output
  pub struck : outputs_after o (Some x) w n ≡ outputs_after o (Some x) w m ++ rest
  pub other : outputs_after o None w n ≡ outputs_after o None w m ++ rest
  pub state : state_after o (Some x) w n ≡ state_after o None w n

-- a snapshot of the run without a fault after m steps
pub record IsSnapshot (o : Object) (w : List Wild) (m : ℕ) (s : Snapshot) : Type 0 where
  pub state : s.machine ≡ state_after o None w m
  pub wild : s.wild ≡ wild_after o None w m
  pub count : s.count ≡ length (outputs_after o None w m)

-- what is kept of the first k steps: the length of the queue before each, and snapshots
pub record Kept (o : Object) (w : List Wild) (k : ℕ) (lengths : List ℕ) (snapshots : List Snapshot) : Type 0 where
  pub long : length lengths ≡ k
  pub queues : (i b : ℕ) → slice_get lengths i ≡ Some b → (status_after o None w i ≡ Running) × (b ≡ length (state_after o None w i).queue)
  pub row : k ≤ 1024 * length snapshots
  pub snapshots_are : (j : ℕ) (s : Snapshot) → slice_get snapshots j ≡ Some s → IsSnapshot o w (1024 * j) s

-- what is kept agrees with the run without a fault
pub record IsClean (o : Object) (w : List Wild) (n : ℕ) (c : KeptRun) : Type 0 where
  pub outputs : c.outputs.items ≡ outputs_after o None w n
  pub status : c.status ≡ status_after o None w n
  pub running : c.status ≡ Detected → status_after o None w c.last ≡ Running
  pub detected : c.status ≡ Detected → status_after o None w (c.last + 1) ≡ Detected
  pub upto : ℕ
  pub kept : Kept o w upto c.lengths.items c.snapshots.items
  pub within : upto ≤ n
  pub past : (i : ℕ) → upto ≤ i → i < n → ¬ (status_after o None w i ≡ Running)

-- the outputs so far are the first `at` of all outputs
pub record Begins (whole : List Output) (at : ℕ) (so_far : List Output) : Type 0 where
  pub front : so_far ≡ take at whole
  pub few : at ≤ length whole

-- a struck run that has reached its last step, with outputs that are a prefix of the other's
pub record HasEnded (o : Object) (x : Strike) (w : List Wild) (n at : ℕ) (status : Status) (last : ℕ) : Type 0 where
  pub struck : is_struck o (Some x) w n ≡ true
  pub begins : Begins (outputs_after o None w n) at (outputs_after o (Some x) w n)
  pub status_is : status ≡ status_after o (Some x) w n
  pub running : status ≡ Detected → status_after o (Some x) w last ≡ Running
  pub detected : status ≡ Detected → status_after o (Some x) w (last + 1) ≡ Detected

-- a struck run that meets the other after m steps, with outputs that are a prefix of the other's
pub record IsAtMeeting (o : Object) (x : Strike) (w : List Wild) (n at m count : ℕ) : Type 0 where
  pub struck : is_struck o (Some x) w n ≡ true
  pub begins : Begins (outputs_after o None w n) at (outputs_after o (Some x) w m)
  pub meets : Meets o x w m
  pub within : m ≤ n
  pub running : status_after o None w m ≡ Running
  pub count_is : count ≡ length (outputs_after o None w m)

-- a machine is in the struck run's state after s steps, past the strike; its outputs are a prefix of the other run's,
-- and the runs have not met so far
pub record IsRacing (o : Object) (x : Strike) (w : List Wild) (n s : ℕ) (machine : State) (left : List Wild) (at : ℕ) : Type 0 where
  pub state : machine ≡ struck_before (Some x) s (state_after o (Some x) w s)
  pub wild : left ≡ wild_after o (Some x) w s
  pub running : status_after o (Some x) w s ≡ Running
  pub begins : Begins (outputs_after o None w n) at (outputs_after o (Some x) w s)
  pub from : x.step ≤ s
  pub within : s ≤ n
  pub unmet : (e : ℕ) → Meets o x w e → e < n → s < e

-- the number of outputs of the run without a fault if the other run meets it after s steps
pub record IsMeeting (o : Object) (x : Strike) (w : List Wild) (s count : ℕ) : Type 0 where
  pub kept : (j : ℕ) × (s ≡ 1024 * j)
  pub state : state_after o (Some x) w s ≡ state_after o None w s
  pub wild : wild_after o (Some x) w s ≡ wild_after o None w s
  pub count_is : count ≡ length (outputs_after o None w s)

-- the snapshots of the first k steps
pub record AreSnapshots (o : Object) (w : List Wild) (k : ℕ) (snapshots : List Snapshot) : Type 0 where
  pub row : k ≤ 1024 * length snapshots
  pub snapshots_are : (j : ℕ) (s : Snapshot) → slice_get snapshots j ≡ Some s → IsSnapshot o w (1024 * j) s

-- before which step the next snapshot is due, if so many are kept: at most n
pub record IsDue (n kept due : ℕ) : Type 0 where
  pub within : due ≤ n
  pub covered : due ≤ 1024 * kept
  pub later : (j : ℕ) → j < n → j < 1024 * kept → j < due

-- the length of the queue before each of the first k steps that the machine takes
pub record AreLengths (o : Object) (w : List Wild) (k : ℕ) (lengths : List ℕ) : Type 0 where
  pub long : length lengths ≡ k
  pub queues : (i b : ℕ) → slice_get lengths i ≡ Some b → status_after o None w i ≡ Running → b ≡ length (state_after o None w i).queue

-- the machine is about to fetch the instruction at this code address, and the queue has b entries
pub record IsReady (pc b : ℕ) (s : State) : Type 0 where
  pub nothing : s.fetched ≡ None
  pub counter : s.pc_green ≡ pc
  pub entries : b ≡ length s.queue

-- in whatever state, with b entries in the queue, the instruction is executed: if the machine then still runs, it is
-- about to fetch the next instruction, and the queue has c entries
abbrev pub LeadsOn : Instr → ℕ → ℕ → Type 0
LeadsOn i b c = (s : State) (w : List Wild) → b ≡ length s.queue → (execute i s w).state.status ≡ Running →
    IsReady (next s.pc_green) c (execute i s w).state
