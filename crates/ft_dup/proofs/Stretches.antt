-- Stretches of a run without a strike, and the effect of two steps: a fetch and an instruction.
use Rattle.std.proofs.Common.{◌≡◌, ◌≢◌, ℕ, zero, suc, ◌+◌, ◌<◌, cond, List, [], ◌∷◌, ◌++◌, map, ◌==◌, ◌&&◌, not, Some}
use Rattle.std.proofs.Common.{None, is_some, refl, sym, ap, ◌∙◌, subst, arith, slice_get}
use Rattle.std.proofs.lemmas.Bool.{ne_eqb, eq-eqb}
use Rattle.std.proofs.lemmas.List.{append-nil}
use Rattle.ft_simulation.proofs.Steps as steps
use Rattle.ft_simulation.proofs.Steps.{iterate, iterate_last}
use Rattle.ft_isa.specs.BasicTypes.{int}
use Rattle.ft_isa.specs.Words.{apply, cell_in_run}
use Rattle.ft_isa.specs.Pending.{Pending, newest_at}
use Rattle.ft_isa.specs.declared.colour.Colour.{Colour}
use Rattle.ft_isa.specs.declared.colour.Colour.TheVariants.{Green, Blue}
use Rattle.ft_isa.specs.declared.colour.Coloured.{Coloured}
use Rattle.ft_isa.specs.declared.op.Op.{Op}
use Rattle.ft_isa.specs.declared.output.Output.{Output}
use Rattle.ft_isa.specs.declared.plan.Wild.{Wild}
use Rattle.ft_isa.specs.declared.reg.Reg.{Reg}
use Rattle.ft_isa.specs.declared.instr.Instr.{Instr}
use Rattle.ft_isa.specs.declared.instr.Instr.TheVariants as instr
use Rattle.ft_types.specs.declared.object.Object.{Object}
use Rattle.ft_semantics.specs.declared.status.Status.TheVariants.{Running}
use Rattle.ft_semantics.specs.State.{Registers, Cells, held, with_held, cell_at, with_cell, State}
use Rattle.ft_semantics.specs.Step.{Stepping, quiet, detected, next, fetch, execute, step}
use Rattle.ft_semantics.specs.Step as machine
use Rattle.ft_semantics.specs.Run.{Ran, extended, run}
use Rattle.ft_semantics.proofs.Held.{held-with_held}
use Rattle.ft_dup.specs.Images.{empty}
use Rattle.ft_dup.specs.Doubles.{bare}

-- STRETCHES

-- a step of a run with no strike
abbrev pub machine_step : Object → Ran → Ran
machine_step o r = extended r.outputs (step o r.state r.wild)

-- a run with no strike iterates this step from its start
pub run_is : (o : Object) (w : List Wild) (n : ℕ) → run o None w n ≡ iterate (machine_step o) n (run o None w 0)
unfolding run
run_is o w zero = refl
run_is o w (suc n) = ap (machine_step o) (run_is o w n) ∙ sym (iterate_last (machine_step o) n (run o None w 0))

-- j steps lead from one point of a run to another
abbrev pub Leads : Object → ℕ → Ran → Ran → Type 0
Leads o = steps.Leads (machine_step o)

-- two consecutive stretches join into one
pub lead_on : (o : Object) (i j : ℕ) (r q z : Ran) → Leads o i r q → Leads o j q z → Leads o (i + j) r z
lead_on o = steps.lead_on (machine_step o)

-- a state between two instructions, with both counters at x
abbrev pub stands : ℕ → Registers → ℕ → Pending → Cells → State
stands x m d q c = record {
  registers = m;
  d = d;
  pc_green = x;
  pc_blue = x;
  queue = q;
  cells = c;
  fetched = None;
  status = Running;
}

-- a point of a run
abbrev pub ran : State → List Wild → List Output → Ran
ran s w os = record { state = s; wild = w; outputs = os }

-- the point before instruction i
abbrev pub spot : ℕ → Registers → ℕ → Pending → Cells → List Wild → List Output → Ran
spot i m d q c w os = ran (stands (suc i) m d q c) w os

-- the state there with an instruction fetched
abbrev pub fetched_state : ℕ → Registers → ℕ → Pending → Cells → Instr → State
fetched_state i m d q c I = record (stands (suc i) m d q c) { fetched = Some I }

-- A FETCH AND AN INSTRUCTION

-- claims and substitutions have no effect
execute_bare : (I : Instr) (s : State) (w : List Wild) → execute I s w ≡ execute (bare I) s w
execute_bare (instr.Mov rd b v) s w = refl
execute_bare (instr.JmpB rd t) s w = refl
execute_bare (instr.BzB rz rd t) s w = refl
execute_bare I s w = refl

-- the code has an instruction with this bare form
get_bare : (xs : List Instr) (i : ℕ) (J : Instr) → slice_get (map bare xs) i ≡ Some J → (I : Instr)
    × (slice_get xs i ≡ Some I) × (bare I ≡ J)
get_bare [] i J h = absurd cc
get_bare (x ∷ xs) zero J h = (x, refl, cc)
get_bare (x ∷ xs) (suc i) J h = get_bare xs i J h

-- a step without an output leaves the outputs unchanged
quiet_ran : (os : List Output) (s : State) (w : List Wild) → extended os (quiet s w) ≡ ran s w os
quiet_ran os s w = ap (ran s w) (append-nil os)

-- two steps fetch an instruction and execute it, where only the bare form of the instruction is known
pub two_any : (o : Object) (J : Instr) (i : ℕ) (m : Registers) (d : ℕ) (q : Pending) (c : Cells) (w : List Wild)
    (os : List Output) → slice_get (map bare o.instrs) i ≡ Some J → (I : Instr)
    × Leads o 2 (spot i m d q c w os) (extended os (execute J (fetched_state i m d q c I) w))
two_any o J i m d q c w os at =
    let I = get_bare o.instrs i J at in
    let s = stands (suc i) m d q c in
    let f = fetched_state i m d q c I.0 in
    let a : machine_step o (ran s w os) ≡ ran f w os =
    ap (λ b. extended os (cond b (fetch (slice_get o.instrs i) s w) (detected s w))) (eq-eqb (suc i) (suc i) refl)
    ∙ ap (λ x. extended os (fetch x s w)) I.1
    ∙ quiet_ran os f w in
    let b : machine_step o (ran f w os) ≡ extended os (execute J f w) =
    ap (extended os) (execute_bare I.0 f w) ∙ ap (λ x. extended os (execute x f w)) I.2 in
    (I.0, record { is = ap (machine_step o) a ∙ b })

-- likewise for an instruction whose result is known
two : (o : Object) (J : Instr) (i : ℕ) (m : Registers) (d : ℕ) (q : Pending) (c : Cells) (w : List Wild)
    (os : List Output) (t : Stepping) → slice_get (map bare o.instrs) i ≡ Some J →
    ((I : Instr) → execute J (fetched_state i m d q c I) w ≡ t) → Leads o 2 (spot i m d q c w os) (extended os t)
two o J i m d q c w os t at does =
    let T = two_any o J i m d q c w os at in
    subst (λ x. Leads o 2 (spot i m d q c w os) (extended os x)) (does T.0) T.1

-- likewise for an instruction without an output
two_quiet : (o : Object) (J : Instr) (i : ℕ) (m : Registers) (d : ℕ) (q : Pending) (c : Cells) (w : List Wild)
    (os : List Output) (s : State) → slice_get (map bare o.instrs) i ≡ Some J →
    ((I : Instr) → execute J (fetched_state i m d q c I) w ≡ quiet s w) → Leads o 2 (spot i m d q c w os) (ran s w os)
two_quiet o J i m d q c w os s at does = subst (Leads o 2 (spot i m d q c w os)) (quiet_ran os s w)
    (two o J i m d q c w os (quiet s w) at does)

-- a counter in the code does not overflow
next_small : (i : ℕ) → i < 65537 → next (suc i) ≡ suc (suc i)
next_small i h = omega arith

-- REGISTERS

-- the register that was written holds the new word
pub held_same : (m : Registers) (r : ℕ) (x : Coloured) → held (with_held m r x) r ≡ x
held_same m r x = held-with_held m r x r ∙ ap (λ b. cond b x (held m r)) (eq-eqb r r refl)

-- any other register holds what it held before
pub held_other : (m : Registers) (r : ℕ) (x : Coloured) (q : ℕ) → q ≢ r → held (with_held m r x) q ≡ held m q
held_other m r x q ne = held-with_held m r x q ∙ ap (λ b. cond b x (held m q)) (ne_eqb q r ne)

-- a word in a colour
abbrev pub col : Colour → ℕ → Coloured
col c v = record { colour = c; word = v }

-- EACH INSTRUCTION

module _ (o : Object) (w : List Wild) (i : ℕ) (short : i < 65537) where
  -- advancing both counters adds 1 to them
  goes_by : (m : Registers) (d : ℕ) (q : Pending) (c : Cells) → quiet (stands (next (suc i)) m d q c) w
      ≡ quiet (stands (suc (suc i)) m d q c) w
  goes_by m d q c = ap (λ z. quiet (stands z m d q c) w) (next_small i short)

  -- a move puts its word into its register
  pub mov : (m : Registers) (c : Cells) (os : List Output) (r : Reg) (x : Coloured) → slice_get (map bare o.instrs) i
      ≡ Some (instr.Mov r int x) → Leads o 2 (spot i m 0 [] c w os) (spot (suc i) (with_held m r.number x) 0 [] c w os)
  mov m c os r x at = two_quiet o _ i m 0 [] c w os _ at (λ I. goes_by (with_held m r.number x) 0 [] c)

  -- an operation on registers of one colour puts its result into its register
  pub op_reg : (m : Registers) (c : Cells) (os : List Output) (op : Op) (rd rs rt : Reg) (x y : ℕ) (k : Colour) →
      slice_get (map bare o.instrs) i ≡ Some (instr.OpReg op rd rs rt) → held m rs.number ≡ col k x → held m rt.number
      ≡ col k y → Leads o 2 (spot i m 0 [] c w os) (spot (suc i) (with_held m rd.number (col k (apply op x y))) 0 [] c w
      os)
  op_reg m c os op rd rs rt x y k at es et = two_quiet o _ i m 0 [] c w os _ at (λ I.
      let s = fetched_state i m 0 [] c I in
      ap (λ (h : Coloured). machine.writes rd h.colour (apply op h.word (held m rt.number).word) s w) es
      ∙ ap (λ (h : Coloured). machine.writes rd k (apply op x h.word) s w) et
      ∙ goes_by (with_held m rd.number (col k (apply op x y))) 0 [] c)

  -- likewise for an operation on a register and a word of one colour
  pub op_word : (m : Registers) (c : Cells) (os : List Output) (op : Op) (rd rs : Reg) (x y : ℕ) (k : Colour) →
      slice_get (map bare o.instrs) i ≡ Some (instr.OpWord op rd rs (col k y)) → held m rs.number ≡ col k x →
      Leads o 2 (spot i m 0 [] c w os) (spot (suc i) (with_held m rd.number (col k (apply op x y))) 0 [] c w os)
  op_word m c os op rd rs x y k at es = two_quiet o _ i m 0 [] c w os _ at (λ I.
      ap (λ (h : Coloured). machine.writes rd h.colour (apply op h.word y) (fetched_state i m 0 [] c I) w) es
      ∙ goes_by (with_held m rd.number (col k (apply op x y))) 0 [] c)

  -- an `idx` puts the address of the array cell that its source register selects into its destination register
  pub index : (m : Registers) (c : Cells) (os : List Output) (rd rs : Reg) (first n x : ℕ) (k : Colour) →
      slice_get (map bare o.instrs) i ≡ Some (instr.Idx rd rs first n) → held m rs.number ≡ col k x →
      Leads o 2 (spot i m 0 [] c w os) (spot (suc i) (with_held m rd.number (col k (cell_in_run first n x))) 0 [] c w
      os)
  index m c os rd rs first n x k at es = two_quiet o _ i m 0 [] c w os _ at (λ I.
      ap (λ (h : Coloured). machine.writes rd h.colour (cell_in_run first n h.word) (fetched_state i m 0 [] c I) w) es
      ∙ goes_by (with_held m rd.number (col k (cell_in_run first n x))) 0 [] c)

  -- a read finds what the cell holds if nothing is pending
  finds : (k : Colour) (m : Registers) (c : Cells) (a : ℕ) (I : Instr) → machine.found k (fetched_state i m 0 [] c I) a
      ≡ cell_at c a
  unfolding newest_at
  finds Green m c a I = refl
  finds Blue m c a I = refl

  -- a load puts the cell's word into its register if nothing is pending
  pub load : (m : Registers) (c : Cells) (os : List Output) (rd rs : Reg) (a v : ℕ) (k : Colour) →
      slice_get (map bare o.instrs) i ≡ Some (instr.Ld k rd rs) → held m rs.number ≡ col k a → cell_at c a ≡ Some v →
      Leads o 2 (spot i m 0 [] c w os) (spot (suc i) (with_held m rd.number (col k v)) 0 [] c w os)
  load m c os rd rs a v k at es there = two_quiet o _ i m 0 [] c w os _ at (λ I.
      let s = fetched_state i m 0 [] c I in
      ap (λ (h : Coloured). machine.load k rd (machine.found k s h.word) s w) es
      ∙ ap (λ x. machine.load k rd x s w) (finds k m c a I ∙ there)
      ∙ goes_by (with_held m rd.number (col k v)) 0 [] c)

  -- a green store queues its address and word if nothing is pending
  pub store_green : (m : Registers) (c : Cells) (os : List Output) (rd rs : Reg) (a v : ℕ) →
      slice_get (map bare o.instrs) i ≡ Some (instr.St Green rd rs) → held m rd.number ≡ col Green a → held m rs.number
      ≡ col Green v → Leads o 2 (spot i m 0 [] c w os) (spot (suc i) m 0 ((a, v) ∷ []) c w os)
  store_green m c os rd rs a v at ed es = two_quiet o _ i m 0 [] c w os _ at (λ I.
      let s = fetched_state i m 0 [] c I in
      ap (λ (h : Coloured). machine.store_green h.word (held m rs.number).word s w) ed
      ∙ ap (λ (h : Coloured). machine.store_green a h.word s w) es
      ∙ goes_by m 0 ((a, v) ∷ []) c)

  -- a blue store with the same address and word commits the only pending store as an output
  pub store_blue : (m : Registers) (c : Cells) (os : List Output) (rd rs : Reg) (a v x : ℕ) →
      slice_get (map bare o.instrs) i ≡ Some (instr.St Blue rd rs) → held m rd.number ≡ col Blue a → held m rs.number
      ≡ col Blue v → cell_at c a ≡ Some x → Leads o 2 (spot i m 0 ((a, v) ∷ []) c w os)
      (spot (suc i) m 0 [] (with_cell c a v) w (os ++ record { addr = a; value = v } ∷ []))
  store_blue m c os rd rs a v x at ed es there = two o _ i m 0 ((a, v) ∷ []) c w os
      (record {
        state = stands (suc (suc i)) m 0 [] (with_cell c a v);
        wild = w;
        output = Some (record { addr = a; value = v });
      }) at (λ I.
      let s = fetched_state i m 0 ((a, v) ∷ []) c I in
      ap (λ (h : Coloured). machine.store_blue h.word (held m rs.number).word s w) ed
      ∙ ap (λ (h : Coloured). machine.store_blue a h.word s w) es
      ∙ ap (λ b. cond ((b && (v == v)) && is_some (cell_at c a)) (machine.commit a v s w) (detected s w))
      (eq-eqb a a refl)
      ∙ ap (λ b. cond (b && is_some (cell_at c a)) (machine.commit a v s w) (detected s w)) (eq-eqb v v refl)
      ∙ ap (λ z. cond (is_some z) (machine.commit a v s w) (detected s w)) there
      ∙ ap (λ z. let t : Stepping = record {
        state = stands z m 0 [] (with_cell c a v);
        wild = w;
        output = Some (record { addr = a; value = v });
      } in t) (next_small i short))

  -- a green jump puts its target into d if d is 0
  pub jump_green : (m : Registers) (c : Cells) (os : List Output) (rd : Reg) (a : ℕ) → slice_get (map bare o.instrs) i
      ≡ Some (instr.JmpG rd) → held m rd.number ≡ col Green a →
      Leads o 2 (spot i m 0 [] c w os) (spot (suc i) m a [] c w os)
  jump_green m c os rd a at ed = two_quiet o _ i m 0 [] c w os _ at (λ I.
      ap (λ (h : Coloured). machine.jump_green h.word (fetched_state i m 0 [] c I) w) ed
      ∙ goes_by m a [] c)

  -- a blue jump to the address in d sets the counters to it and d to 0
  jumps : (m : Registers) (c : Cells) (t : ℕ) (I : Instr) →
      machine.jump_blue (suc t) (fetched_state i m (suc t) [] c I) w ≡ quiet (stands (suc t) m 0 [] c) w
  jumps m c t I =
      let s = fetched_state i m (suc t) [] c I in
      ap (λ b. cond (not b && (suc t == suc t)) (quiet (machine.transfers (suc t) s) w) (detected s w))
      (ne_eqb (suc t) 0 (λ e. omega arith))
      ∙ ap (λ b. cond b (quiet (machine.transfers (suc t) s) w) (detected s w)) (eq-eqb (suc t) (suc t) refl)

  -- a blue jump goes to its target if d holds it
  pub jump_blue : (m : Registers) (c : Cells) (os : List Output) (rd : Reg) (t : ℕ) → slice_get (map bare o.instrs) i
      ≡ Some (instr.JmpB rd empty) → held m rd.number ≡ col Blue (suc t) →
      Leads o 2 (spot i m (suc t) [] c w os) (spot t m 0 [] c w os)
  jump_blue m c os rd t at ed = two_quiet o _ i m (suc t) [] c w os _ at (λ I.
      ap (λ (h : Coloured). machine.jump_blue h.word (fetched_state i m (suc t) [] c I) w) ed ∙ jumps m c t I)

  -- a green branch that is taken puts its target into d
  pub branch_green_zero : (m : Registers) (c : Cells) (os : List Output) (rz rd : Reg) (a : ℕ) →
      slice_get (map bare o.instrs) i ≡ Some (instr.BzG rz rd) → held m rz.number ≡ col Green 0 → held m rd.number
      ≡ col Green a → Leads o 2 (spot i m 0 [] c w os) (spot (suc i) m a [] c w os)
  branch_green_zero m c os rz rd a at ez ed = two_quiet o _ i m 0 [] c w os _ at (λ I.
      let s = fetched_state i m 0 [] c I in
      ap (λ (h : Coloured). cond (h.word == 0) (machine.jump_green (held m rd.number).word s w) (machine.pass s w)) ez
      ∙ ap (λ (h : Coloured). machine.jump_green h.word s w) ed
      ∙ goes_by m a [] c)

  -- a green branch that is not taken only advances the counters
  pub branch_green_other : (m : Registers) (c : Cells) (os : List Output) (rz rd : Reg) (x : ℕ) →
      slice_get (map bare o.instrs) i ≡ Some (instr.BzG rz rd) → held m rz.number ≡ col Green (suc x) →
      Leads o 2 (spot i m 0 [] c w os) (spot (suc i) m 0 [] c w os)
  branch_green_other m c os rz rd x at ez = two_quiet o _ i m 0 [] c w os _ at (λ I.
      let s = fetched_state i m 0 [] c I in
      ap (λ (h : Coloured). cond (h.word == 0) (machine.jump_green (held m rd.number).word s w) (machine.pass s w)) ez
      ∙ ap (λ b. cond b (machine.jump_green (held m rd.number).word s w) (machine.pass s w))
      (ne_eqb (suc x) 0 (λ e. omega arith))
      ∙ goes_by m 0 [] c)

  -- a blue branch that is taken goes to its target if d holds it
  pub branch_blue_zero : (m : Registers) (c : Cells) (os : List Output) (rz rd : Reg) (t : ℕ) →
      slice_get (map bare o.instrs) i ≡ Some (instr.BzB rz rd empty) → held m rz.number ≡ col Blue 0 → held m rd.number
      ≡ col Blue (suc t) → Leads o 2 (spot i m (suc t) [] c w os) (spot t m 0 [] c w os)
  branch_blue_zero m c os rz rd t at ez ed = two_quiet o _ i m (suc t) [] c w os _ at (λ I.
      let s = fetched_state i m (suc t) [] c I in
      ap (λ (h : Coloured). cond (h.word == 0) (machine.jump_blue (held m rd.number).word s w) (machine.pass s w)) ez
      ∙ ap (λ (h : Coloured). machine.jump_blue h.word s w) ed
      ∙ jumps m c t I)

  -- a blue branch that is not taken only advances the counters
  pub branch_blue_other : (m : Registers) (c : Cells) (os : List Output) (rz rd : Reg) (x : ℕ) →
      slice_get (map bare o.instrs) i ≡ Some (instr.BzB rz rd empty) → held m rz.number ≡ col Blue (suc x) →
      Leads o 2 (spot i m 0 [] c w os) (spot (suc i) m 0 [] c w os)
  branch_blue_other m c os rz rd x at ez = two_quiet o _ i m 0 [] c w os _ at (λ I.
      let s = fetched_state i m 0 [] c I in
      ap (λ (h : Coloured). cond (h.word == 0) (machine.jump_blue (held m rd.number).word s w) (machine.pass s w)) ez
      ∙ ap (λ b. cond b (machine.jump_blue (held m rd.number).word s w) (machine.pass s w))
      (ne_eqb (suc x) 0 (λ e. omega arith))
      ∙ goes_by m 0 [] c)
