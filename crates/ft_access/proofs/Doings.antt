-- What a step does, as a change that depends only on the words that the step reads.
use Rattle.std.proofs.Common.{◌≡◌, ℕ, zero, suc, Bool, true, false, cond, ◌&&◌, ◌||◌, ◌==◌, nat_lt, if◌then◌else◌, not}
use Rattle.std.proofs.Common.{List, []}
use Rattle.std.proofs.Common.{◌∷◌, length, Option, Some, None, refl, sym, ap, ◌∙◌, subst}
use Rattle.ft_isa.specs.Words.{apply, cell_in_run}
use Rattle.ft_isa.specs.Instructions.{reads}
use Rattle.ft_isa.specs.Pending.{Pending, is_oldest, with_address, with_value}
use Rattle.ft_isa.specs.declared.colour.Colour.{Colour}
use Rattle.ft_isa.specs.declared.colour.Colour.TheVariants.{Green, Blue}
use Rattle.ft_isa.specs.declared.colour.Coloured.{Coloured}
use Rattle.ft_isa.specs.declared.instr.Instr.{Instr}
use Rattle.ft_isa.specs.declared.instr.Instr.TheVariants.{OpReg, OpWord, Mov, Ld, St, JmpG, JmpB, BzG, BzB, Halt, Idx}
use Rattle.ft_isa.specs.declared.output.Output.{Output}
use Rattle.ft_isa.specs.declared.reg.Reg.{Reg}
use Rattle.ft_isa.specs.declared.plan.Site.{Site}
use Rattle.ft_isa.specs.declared.plan.Site.TheVariants.{R, D, QAddr, QVal}
use Rattle.ft_isa.specs.declared.plan.Wild.{Wild}
use Rattle.ft_isa.specs.declared.plan.Wild.TheVariants.{Word, Stop}
use Rattle.ft_semantics.specs.State.{State, Registers, held, with_held, word, colour, is_cell}
use Rattle.ft_semantics.specs.Step.{Stepping, execute, found, load, wild_load, commits, jump_green, jump_blue, pass}
use Rattle.ft_semantics.specs.Strike.{is_there, with_word, struck_state}
use Rattle.ft_semantics.proofs.Held.{held-with_held}
use Rattle.ft_tolerance.proofs.Alike.{strike_alike}
use Rattle.ft_access.specs.Access.{reads_site}
use Rattle.ft_access.proofs.Changes.{Change, detects, halts, passes, puts, queues, commits_it, sets_d, transfers_to}
use Rattle.ft_access.proofs.Changes.{act}

-- a change, with the answers left and the output
pub record Doing : Type 0 where
  pub change : Change
  pub wild : List Wild
  pub output : Option Output

-- a change without an output
abbrev pub silently : Change → List Wild → Doing
silently c w = record { change = c; wild = w; output = None }

-- the step that it gives
abbrev pub result : Doing → State → Stepping
result g s = record { state = act g.change s; wild = g.wild; output = g.output }

-- a wild load
abbrev pub wild_doing : Colour → ℕ → List Wild → Doing
wild_doing c r (Word v ∷ w) = silently (puts r (record { colour = c; word = v })) w
wild_doing c r (Stop ∷ w) = silently detects w
wild_doing c r [] = silently detects []

-- a load, from a cell or wild
abbrev pub load_doing : Colour → ℕ → Option ℕ → List Wild → Doing
load_doing c r (Some v) w = silently (puts r (record { colour = c; word = v })) w
load_doing c r None w = wild_doing c r w

-- a green jump
abbrev pub green_jump : ℕ → ℕ → List Wild → Doing
green_jump d a w = if d == 0 then silently (sets_d a) w else silently detects w

-- a blue jump
abbrev pub blue_jump : ℕ → ℕ → List Wild → Doing
blue_jump d a w = if not (d == 0) && (d == a) then silently (transfers_to a) w else silently detects w

-- a branch that is not taken
abbrev pub passing : ℕ → List Wild → Doing
passing d w = if d == 0 then silently passes w else silently detects w

-- what an instruction does
abbrev pub doing : Instr → State → List Wild → Doing
doing (OpReg op rd rs rt) s w = silently (puts rd.number (record {
  colour = colour s rs;
  word = apply op (word s rs) (word s rt);
})) w
doing (OpWord op rd rs value) s w = silently (puts rd.number (record {
  colour = colour s rs;
  word = apply op (word s rs) value.word;
})) w
doing (Mov rd basic value) s w = silently (puts rd.number (record { colour = value.colour; word = value.word })) w
doing (Ld c rd rs) s w = load_doing c rd.number (found c s (word s rs)) w
doing (St Green rd rs) s w = if nat_lt (length s.queue) 8 then silently (queues (word s rd) (word s rs)) w
    else silently detects w
doing (St Blue rd rs) s w = if commits (word s rd) (word s rs) s
    then record {
      change = commits_it (word s rd) (word s rs);
      wild = w;
      output = Some (record { addr = word s rd; value = word s rs });
    }
    else silently detects w
doing (JmpG rd) s w = green_jump s.d (word s rd) w
doing (JmpB rd rows) s w = blue_jump s.d (word s rd) w
doing (BzG rz rd) s w = if word s rz == 0 then green_jump s.d (word s rd) w else passing s.d w
doing (BzB rz rd rows) s w = if word s rz == 0 then blue_jump s.d (word s rd) w else passing s.d w
doing Halt s w = silently halts w
doing (Idx rd rs first m) s w = silently (puts rd.number (record {
  colour = colour s rs;
  word = cell_in_run first m (word s rs);
})) w

-- IT IS THE STEP

-- a step that depends on a test
by_if : (b : Bool) (g h : Doing) (t u : Stepping) (s : State) → t ≡ result g s → u ≡ result h s → (if b then t else u)
    ≡ result (if b then g else h) s
by_if true g h t u s p q = p
by_if false g h t u s p q = q

-- a wild load does this
wild_is : (c : Colour) (rd : Reg) (s : State) (w : List Wild) → wild_load c rd s w ≡ result (wild_doing c rd.number w) s
wild_is c rd s (Word v ∷ w) = refl
wild_is c rd s (Stop ∷ w) = refl
wild_is c rd s [] = refl

-- a load does this
load_is : (c : Colour) (rd : Reg) (u : Option ℕ) (s : State) (w : List Wild) → load c rd u s w
    ≡ result (load_doing c rd.number u w) s
load_is c rd (Some v) s w = refl
load_is c rd None s w = wild_is c rd s w

-- a green jump does this
green_is : (a : ℕ) (s : State) (w : List Wild) → jump_green a s w ≡ result (green_jump s.d a w) s
green_is a s w = by_if (s.d == 0) _ _ _ _ s refl refl

-- a blue jump does this
blue_is : (a : ℕ) (s : State) (w : List Wild) → jump_blue a s w ≡ result (blue_jump s.d a w) s
blue_is a s w = by_if (not (s.d == 0) && (s.d == a)) _ _ _ _ s refl refl

-- a branch that is not taken does this
pass_is : (s : State) (w : List Wild) → pass s w ≡ result (passing s.d w) s
pass_is s w = by_if (s.d == 0) _ _ _ _ s refl refl

-- each instruction does what it should
pub execute_is : (i : Instr) (s : State) (w : List Wild) → execute i s w ≡ result (doing i s w) s
execute_is (Ld c rd rs) s w = load_is c rd (found c s (word s rs)) s w
execute_is (St Green rd rs) s w = by_if (nat_lt (length s.queue) 8) _ _ _ _ s refl refl
execute_is (St Blue rd rs) s w = by_if (commits (word s rd) (word s rs) s) _ _ _ _ s refl refl
execute_is (JmpG rd) s w = green_is (word s rd) s w
execute_is (JmpB rd rows) s w = blue_is (word s rd) s w
execute_is (BzG rz rd) s w = by_if (word s rz == 0) _ _ _ _ s (green_is (word s rd) s w) (pass_is s w)
execute_is (BzB rz rd rows) s w = by_if (word s rz == 0) _ _ _ _ s (blue_is (word s rd) s w) (pass_is s w)
execute_is i s w = refl

-- IT DEPENDS ONLY ON WHAT IS READ

-- a strike of a site that is there writes its word
pub struck_is : (s : State) (x : Site) (v : ℕ) → is_there s x ≡ true → struck_state s x v ≡ with_word x v s
struck_is s x v h = ap (λ b. if b then with_word x v s else s) h

-- a strike keeps the length of the queue
same_length : (s : State) (x : Site) (v : ℕ) → is_there s x ≡ true → length (with_word x v s).queue ≡ length s.queue
same_length s x v h = sym (subst (λ (t : State). length s.queue ≡ length t.queue) (struck_is s x v h)
    (strike_alike s x v).queue_length)

-- if an "or" is false, both its parts are
neither : (a b : Bool) → (a || b) ≡ false → (a ≡ false) × (b ≡ false)
neither true b h = cc
neither false b h = (refl, h)

-- a register keeps what it holds if another is written
held_other : (m : Registers) (r q : ℕ) (x : Coloured) → (q == r) ≡ false → held (with_held m r x) q ≡ held m q
held_other m r q x e = held-with_held m r x q ∙ ap (λ b. cond b x (held m q)) e

oldest-address : (q : Pending) (e v a u : ℕ) → is_oldest (with_address q (suc e) v) a u ≡ is_oldest q a u
unfolding with_address
oldest-address [] e v a u = refl
oldest-address (y ∷ q) e v a u = refl

oldest-value : (q : Pending) (e v a u : ℕ) → is_oldest (with_value q (suc e) v) a u ≡ is_oldest q a u
unfolding with_value
oldest-value [] e v a u = refl
oldest-value (y ∷ q) e v a u = refl

-- a blue store, if it commits
abbrev blue_store : Bool → ℕ → ℕ → List Wild → Doing
blue_store b a u w = if b then record {
  change = commits_it a u;
  wild = w;
  output = Some (record { addr = a; value = u });
}
    else silently detects w

-- with a register struck
same_by_register : (i : Instr) (r : Reg) (v : ℕ) (s : State) (w : List Wild) → reads i r.number ≡ false →
    doing i (with_word (R r) v s) w ≡ doing i s w
same_by_register (OpReg op rd rs rt) r v s w h =
    let n = neither (rs.number == r.number) (rt.number == r.number) h in
    let p = held_other s.registers r.number rs.number (record { colour = colour s r; word = v }) n.0 in
    let q = held_other s.registers r.number rt.number (record { colour = colour s r; word = v }) n.1 in
    λ j. silently (puts rd.number (record { colour = (p j).colour; word = apply op (p j).word (q j).word })) w
same_by_register (OpWord op rd rs value) r v s w h =
    let p = held_other s.registers r.number rs.number (record { colour = colour s r; word = v }) h in
    λ j. silently (puts rd.number (record { colour = (p j).colour; word = apply op (p j).word value.word })) w
same_by_register (Ld Green rd rs) r v s w h =
    let p = held_other s.registers r.number rs.number (record { colour = colour s r; word = v }) h in
    λ j. load_doing Green rd.number (found Green s (p j).word) w
same_by_register (Ld Blue rd rs) r v s w h =
    let p = held_other s.registers r.number rs.number (record { colour = colour s r; word = v }) h in
    λ j. load_doing Blue rd.number (found Blue s (p j).word) w
same_by_register (St Green rd rs) r v s w h =
    let n = neither (rd.number == r.number) (rs.number == r.number) h in
    let p = held_other s.registers r.number rd.number (record { colour = colour s r; word = v }) n.0 in
    let q = held_other s.registers r.number rs.number (record { colour = colour s r; word = v }) n.1 in
    λ j. if nat_lt (length s.queue) 8 then silently (queues (p j).word (q j).word) w else silently detects w
same_by_register (St Blue rd rs) r v s w h =
    let n = neither (rd.number == r.number) (rs.number == r.number) h in
    let p = held_other s.registers r.number rd.number (record { colour = colour s r; word = v }) n.0 in
    let q = held_other s.registers r.number rs.number (record { colour = colour s r; word = v }) n.1 in
    λ j. if commits (p j).word (q j).word s
    then record {
      change = commits_it (p j).word (q j).word;
      wild = w;
      output = Some (record { addr = (p j).word; value = (q j).word });
    }
    else silently detects w
same_by_register (JmpG rd) r v s w h =
    let p = held_other s.registers r.number rd.number (record { colour = colour s r; word = v }) h in
    λ j. green_jump s.d (p j).word w
same_by_register (JmpB rd rows) r v s w h =
    let p = held_other s.registers r.number rd.number (record { colour = colour s r; word = v }) h in
    λ j. blue_jump s.d (p j).word w
same_by_register (BzG rz rd) r v s w h =
    let n = neither (rz.number == r.number) (rd.number == r.number) h in
    let p = held_other s.registers r.number rz.number (record { colour = colour s r; word = v }) n.0 in
    let q = held_other s.registers r.number rd.number (record { colour = colour s r; word = v }) n.1 in
    λ j. if (p j).word == 0 then green_jump s.d (q j).word w else passing s.d w
same_by_register (BzB rz rd rows) r v s w h =
    let n = neither (rz.number == r.number) (rd.number == r.number) h in
    let p = held_other s.registers r.number rz.number (record { colour = colour s r; word = v }) n.0 in
    let q = held_other s.registers r.number rd.number (record { colour = colour s r; word = v }) n.1 in
    λ j. if (p j).word == 0 then blue_jump s.d (q j).word w else passing s.d w
same_by_register (Idx rd rs first m) r v s w h =
    let p = held_other s.registers r.number rs.number (record { colour = colour s r; word = v }) h in
    λ j. silently (puts rd.number (record { colour = (p j).colour; word = cell_in_run first m (p j).word })) w
same_by_register (Mov rd basic value) r v s w h = refl
same_by_register Halt r v s w h = refl

-- with any site struck
pub same_doing : (i : Instr) (x : Site) (v : ℕ) (s : State) (w : List Wild) → is_there s x ≡ true →
    reads_site (Some i) x ≡ false → doing i (with_word x v s) w ≡ doing i s w
same_doing i (R r) v s w there h = same_by_register i r v s w h
same_doing (JmpG rd) D v s w there h = cc
same_doing (JmpB rd rows) D v s w there h = cc
same_doing (BzG rz rd) D v s w there h = cc
same_doing (BzB rz rd rows) D v s w there h = cc
same_doing (Ld Green rd rs) (QAddr e) v s w there h = cc
same_doing (Ld Green rd rs) (QVal e) v s w there h = cc
same_doing (St Green rd rs) (QAddr e) v s w there h =
    ap (λ n. if nat_lt n 8 then silently (queues (word s rd) (word s rs)) w
    else silently detects w) (same_length s (QAddr e) v there)
same_doing (St Green rd rs) (QVal e) v s w there h =
    ap (λ n. if nat_lt n 8 then silently (queues (word s rd) (word s rs)) w
    else silently detects w) (same_length s (QVal e) v there)
same_doing (St Blue rd rs) (QAddr zero) v s w there h = cc
same_doing (St Blue rd rs) (QAddr (suc e)) v s w there h =
    ap (λ b. blue_store (b && is_cell s.cells (word s rd)) (word s rd) (word s rs) w)
    (oldest-address s.queue e v (word s rd) (word s rs))
same_doing (St Blue rd rs) (QVal zero) v s w there h = cc
same_doing (St Blue rd rs) (QVal (suc e)) v s w there h =
    ap (λ b. blue_store (b && is_cell s.cells (word s rd)) (word s rd) (word s rs) w)
    (oldest-value s.queue e v (word s rd) (word s rs))
same_doing (Ld Green rd rs) x v s w there h = refl
same_doing (St Green rd rs) x v s w there h = refl
same_doing i x v s w there h = refl
