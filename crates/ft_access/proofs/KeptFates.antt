-- Fates kept in arrays, before a step that executes an instruction.
use Rattle.std.proofs.Common.{◌-◌, List, ◌≡◌, ℕ, zero, suc, ◌<◌, Bool, true, false, ◌||◌, if◌then◌else◌, Option, Some}
use Rattle.std.proofs.Common.{None}
use Rattle.std.proofs.Common.{refl, sym, ap, ◌∙◌, subst, arith, get_or, replicate}
use Rattle.std.proofs.lemmas.List.{get_or-replicate}
use Rattle.ft_isa.specs.Instructions.{first_read, second_read, written, is_register, is_one_of}
use Rattle.ft_isa.specs.declared.colour.Colour.TheVariants.{Green, Blue}
use Rattle.ft_isa.specs.declared.instr.Instr.{Instr}
use Rattle.ft_isa.specs.declared.instr.Instr.TheVariants.{St}
use Rattle.ft_isa.specs.declared.plan.Site.{Site}
use Rattle.ft_isa.specs.declared.plan.Site.TheVariants.{R, D, PcG, PcB, QAddr, QVal}
use Rattle.ft_access.specs.Access.{reads_d, reads_entry, reads_counters, is_blue_jump, entry_after}
use Rattle.ft_access.specs.Fates.{Fate, ReadAt, Unread, fate_before}
use Rattle.ft_access.specs.Kept.{fate_at, fate_of_half, step_of, Holds, fate_past}
use Rattle.ft_isa.specs.declared.plan.Wild.{Wild}
use Rattle.ft_types.specs.declared.object.Object.{Object}
use Rattle.ft_access.specs.Lasting.{strike_at}
use Rattle.ft_access.specs.Fates.{fate, fault_of, representative}
use Rattle.ft_access.specs.Kept.{AreFates, IsStep, fate_told, strike_told}
use Rattle.ft_access.specs.declared.fates.FirstRead.{FirstRead}
use Rattle.ft_access.specs.declared.fates.EntryRead.{EntryRead}
use Rattle.ft_access.specs.declared.fates.Fates.{Fates}

-- a register is one of two if it is the first or the second
either : (p q : Option ℕ) (r : ℕ) → is_one_of p q r ≡ (is_register p r || is_register q r)
either None q r = by_false (is_register q r)
  where
    by_false : (b : Bool) → b ≡ (false || b)
    by_false b = refl
either (Some p) None r = or_false (is_register (Some p) r)
  where
    or_false : (b : Bool) → b ≡ (b || false)
    or_false true = refl
    or_false false = refl
either (Some p) (Some q) r = refl

-- the fate of a register that is read first, read second, written, or none of these
register_by : (x : Site) (k : ℕ) (a b c : Bool) (z : Option ℕ) →
    fate_at x (if a then Some k else if b then Some k else if c then None else z)
    ≡ (if a || b then ReadAt k x else if c then Unread else fate_at x z)
register_by x k true b c z = refl
register_by x k false true c z = refl
register_by x k false false true z = refl
register_by x k false false false z = refl

-- the fate of a site that is read, overwritten, or neither
site_by : (x : Site) (k : ℕ) (a c : Bool) (z : Option ℕ) → fate_at x (if a then Some k else if c then None else z)
    ≡ (if a then ReadAt k x else if c then Unread else fate_at x z)
site_by x k true c z = refl
site_by x k false true z = refl
site_by x k false false z = refl

-- the fate of half a pending entry
half_by : (half : ℕ → Site) (k e : ℕ) (a : Bool) (z : Option EntryRead) →
    fate_of_half half (if a then Some (record { step = k; entry = e }) else z)
    ≡ (if a then ReadAt k (half e) else fate_of_half half z)
half_by half k e true z = refl
half_by half k e false z = refl

-- an entry that moves stays within the queue
entry_below : (i : Instr) (e : ℕ) → e < 8 → entry_after i e < 8
entry_below (St Blue rd rs) zero h = h
entry_below (St Blue rd rs) (suc e) h = omega arith
entry_below (St Green rd rs) e h = h
entry_below i e h = h

-- what the parts of the new fates are, from the old ones
pub record Sets (i : Instr) (k : ℕ) (old new : Fates) : Type 0 where
  pub registers : (r : ℕ) → r < 64 → step_of new.registers r ≡ (if is_register (first_read i) r then Some k
      else if is_register (second_read i) r then Some k
      else if is_register (written i) r then None else step_of old.registers r)
  pub d : new.d ≡ (if reads_d i then Some k else if false then None else old.d)
  pub pc_green : new.pc_green ≡ (if reads_counters i then Some k else if is_blue_jump i then None else old.pc_green)
  pub pc_blue : new.pc_blue ≡ (if reads_counters i then Some k else if is_blue_jump i then None else old.pc_blue)
  pub entries : (e : ℕ) → e < 8 → get_or new.entries e None
      ≡ (if reads_entry i e then Some (record { step = k; entry = e })
      else get_or old.entries (entry_after i e) None)

-- if the parts are set like this, the new fates are those before the step
pub sets_hold : (i : Instr) (k : ℕ) (old new : Fates) (f : Site → Fate) → Sets i k old new → Holds old f →
    Holds new (fate_past (Some i) k f)
sets_hold i k old new f h g = record {
  registers = λ r.
      ap (fate_at (R r)) (h.registers r.number r.in_range)
      ∙ register_by (R r) k (is_register (first_read i) r.number) (is_register (second_read i) r.number)
      (is_register (written i) r.number) (step_of old.registers r.number)
      ∙ (λ j. if sym (either (first_read i) (second_read i) r.number) j then ReadAt k (R r)
      else if is_register (written i) r.number then Unread else g.registers r j);
  d = ap (fate_at D) h.d ∙ site_by D k (reads_d i) false old.d
      ∙ ap (λ z. if reads_d i then ReadAt k D else z) g.d;
  pc_green = ap (fate_at PcG) h.pc_green ∙ site_by PcG k (reads_counters i) (is_blue_jump i) old.pc_green
      ∙ ap (λ z. if reads_counters i then ReadAt k PcG else if is_blue_jump i then Unread else z) g.pc_green;
  pc_blue = ap (fate_at PcB) h.pc_blue ∙ site_by PcB k (reads_counters i) (is_blue_jump i) old.pc_blue
      ∙ ap (λ z. if reads_counters i then ReadAt k PcB else if is_blue_jump i then Unread else z) g.pc_blue;
  addresses = λ e lt.
      ap (fate_of_half QAddr) (h.entries e lt)
      ∙ half_by QAddr k e (reads_entry i e) (get_or old.entries (entry_after i e) None)
      ∙ ap (λ z. if reads_entry i e then ReadAt k (QAddr e)
      else z) (g.addresses (entry_after i e) (entry_below i e lt));
  values = λ e lt.
      ap (fate_of_half QVal) (h.entries e lt)
      ∙ half_by QVal k e (reads_entry i e) (get_or old.entries (entry_after i e) None)
      ∙ ap (λ z. if reads_entry i e then ReadAt k (QVal e) else z) (g.values (entry_after i e) (entry_below i e lt));
}

-- with nothing kept, no word is read
pub new_holds : Holds (record {
  registers = record { steps = replicate 64 None };
  d = None;
  pc_green = None;
  pc_blue = None;
  entries = replicate 8 None;
}) (λ _. Unread)
new_holds = record {
  registers = λ r. ap (fate_at (R r)) (get_or-replicate 64 r.number None None r.in_range);
  d = refl;
  pc_green = refl;
  pc_blue = refl;
  addresses = λ e lt. ap (fate_of_half QAddr) (get_or-replicate 8 e None None lt);
  values = λ e lt. ap (fate_of_half QVal) (get_or-replicate 8 e None None lt);
}

-- before a step after which the machine runs, and before one that stops it
pub running_hold : (fetched : Option Instr) (k : ℕ) (runs_on : Bool) (new : Fates) (f : Site → Fate) → runs_on ≡ true →
    Holds new (fate_past fetched k f) → Holds new (fate_before fetched k runs_on f)
running_hold fetched k runs_on new f e h = subst (λ b. Holds new (fate_before fetched k b f)) (sym e) h

-- before a step that stops the machine
pub stopped_hold : (fetched : Option Instr) (k : ℕ) (runs_on : Bool) (new : Fates) (f : Site → Fate) → runs_on ≡ false →
    Holds new (fate_past fetched k (λ _. Unread)) → Holds new (fate_before fetched k runs_on f)
stopped_hold fetched k runs_on new f e h = subst (λ b. Holds new (fate_before fetched k b f)) (sym e) h

-- IN TERMS OF A RUN

-- after the last step
pub end_fates : (o : Object) (w : List Wild) (n : ℕ) (kept : Fates) → Holds kept (λ _. Unread) → AreFates o w n n kept
end_fates o w n kept h = record {
  holds = subst (λ left. Holds kept (fate o w left n)) (let e : 0 ≡ n - n = omega arith in e) h;
}

-- before a step
pub step_fates : (o : Object) (w : List Wild) (n k : ℕ) (fetched : Option Instr) (runs_on : Bool) (old new : Fates) →
    k < n → IsStep o w k fetched runs_on → ((f : Site → Fate) → Holds old f →
    Holds new (fate_before fetched k runs_on f)) → AreFates o w n (suc k) old → AreFates o w n k new
step_fates o w n k fetched runs_on old new lt is back h = record {
  holds = subst (λ left. Holds new (fate o w left k)) (let e : suc (n - suc k) ≡ n - k = omega arith in e)
      (subst (λ (p : Option Instr × Bool). Holds new (fate_before p.0 k p.1 (fate o w (n - suc k) (suc k))))
      (λ j. (sym is.fetched_is j, sym is.runs_is j)) (back (fate o w (n - suc k) (suc k)) h.holds));
}

-- what a first read tells is the representative
pub told_fates : (o : Object) (w : List Wild) (n k v : ℕ) (x : Site) (kept : Fates) (read : Option FirstRead) →
    ((f : Site → Fate) → Holds kept f → fate_told read ≡ f x) → AreFates o w n k kept → strike_told read v
    ≡ representative o w n (strike_at k x v)
told_fates o w n k v x kept read tells h = ap (λ f. fault_of f v) (tells (fate o w (n - k) k) h.holds)
