-- How a bank's methods choose between the rows of the table of steps.
use Rattle.std.proofs.Common.{◌≡◌, ℕ, Bool, true, false, ◌&&◌, List, [], ◌∷◌, length, drop, ◌++◌, Option, Some, None}
use Rattle.std.proofs.Common.{ap, sym, ◌∙◌, refl, nat_lt}
use Rattle.std.specs.Prelude.{if◌then◌else◌, ◌==◌}
use Rattle.std.proofs.lemmas.Bool.{eq-eqb}
use Rattle.ft_isa.specs.declared.colour.Colour.{Colour}
use Rattle.ft_isa.specs.declared.reg.Reg.{Reg}
use Rattle.ft_isa.specs.declared.instr.Instr.{Instr}
use Rattle.ft_isa.specs.declared.plan.Wild.{Wild}
use Rattle.ft_isa.specs.declared.plan.Wild.TheVariants.{Word, Stop}
use Rattle.ft_isa.specs.Pending.{Pending, is_oldest}
use Rattle.ft_semantics.specs.State.{State, Cells, held, with_cell, is_cell}
use Rattle.ft_semantics.specs.Step.{Stepping, next, detected, quiet, goes_on, writes, found, load, wild_load}
use Rattle.ft_semantics.specs.Step.{store_green, store_blue, commit, commits, pass}
use Rattle.ft_machine.specs.Banks.{Bank}
use Rattle.ft_machine.specs.declared.bank.Effect.{Effect}
use Rattle.ft_machine.specs.declared.bank.Effect.TheVariants.{On, Commit, Detected}
use Rattle.ft_machine.specs.Answers.{next_answer}
use Rattle.ft_machine.specs.Effects.{Does, DoesQuietly, doing, followed, put_out}

-- if the condition holds, the choice does what its first case does
pub first : (test : State → Bool) (t u : State → List Wild → Stepping) (old new : Bank) (e : Effect) →
    ((g b : ℕ) (f : Option Instr) → test (doing old g b f) ≡ true) → DoesQuietly t old new e
    → DoesQuietly (λ s w. if test s then t s w else u s w) old new e
first test t u old new e holds h = record {
  does = λ g b f w.
      ap (λ v. if v then t (doing old g b f) w else u (doing old g b f) w) (holds g b f) ∙ h.does g b f w;
}

-- if the condition fails, the choice does what its second case does
pub second : (test : State → Bool) (t u : State → List Wild → Stepping) (old new : Bank) (e : Effect) →
    ((g b : ℕ) (f : Option Instr) → test (doing old g b f) ≡ false) → DoesQuietly u old new e
    → DoesQuietly (λ s w. if test s then t s w else u s w) old new e
second test t u old new e fails h = record {
  does = λ g b f w.
      ap (λ v. if v then t (doing old g b f) w else u (doing old g b f) w) (fails g b f) ∙ h.does g b f w;
}

-- a load that finds a word writes it to its register
pub load_found : (c : Colour) (rd rs : Reg) (v : ℕ) (old new : Bank) (e : Effect) (w : List Wild) →
    ((g b : ℕ) (f : Option Instr) → Some v ≡ found c (doing old g b f) (held old.registers rs.number).word)
    → DoesQuietly (writes rd c v) old new e → Does (λ s w. load c rd (found c s (held s.registers rs.number).word) s w)
    old new e w w
load_found c rd rs v old new e w is h = record {
  does = λ g b f.
      ap (λ o. load c rd o (doing old g b f) w) (sym (is g b f)) ∙ h.does g b f w;
}

-- a wild load whose answer is a word writes that word to its register
pub wild_word : (c : Colour) (rd : Reg) (v : ℕ) (old new : Bank) (e : Effect) (all left : List Wild) → Word v
    ≡ next_answer all → left ≡ drop 1 all → DoesQuietly (writes rd c v) old new e
    → Does (wild_load c rd) old new e all left
wild_word c rd v old new e [] left is rest h = absurd (cc)
wild_word c rd v old new e (Stop ∷ more) left is rest h = absurd (cc)
wild_word c rd v old new e (Word u ∷ more) left is rest h =
    let same : v ≡ u = cc in
    record {
      does = λ g b f. ap (λ n. writes rd c n (doing old g b f) more) (sym same) ∙ h.does g b f more
          ∙ ap (λ (ws : List Wild). record { state = followed e new g b f; wild = ws; output = put_out e }) (sym rest);
    }

-- a green store with room queues its pair
pub pushed : (a v : ℕ) (old : Bank) (q : Pending) → nat_lt (length old.queue) 8 ≡ true → q ≡ old.queue ++ (a, v) ∷ [] →
    DoesQuietly (store_green a v) old (record old { queue = q }) On
pushed a v old q room is =
    first (λ s. nat_lt (length s.queue) 8) (λ s. quiet (goes_on (record s { queue = s.queue ++ (a, v) ∷ [] }))) detected
    old (record old { queue = q }) On (λ _ _ _. room)
    (record {
      does = λ g b f w. ap (λ (p : Pending). quiet (doing (record old { queue = p }) (next g) (next b) None) w)
          (sym is);
    })

-- a green store without room is detected
pub full : (a v : ℕ) (old : Bank) (q : Pending) → length old.queue ≡ 8 → q ≡ old.queue →
    DoesQuietly (store_green a v) old (record old { queue = q }) Detected
full a v old q no_room is =
    second (λ s. nat_lt (length s.queue) 8) (λ s. quiet (goes_on (record s { queue = s.queue ++ (a, v) ∷ [] })))
    detected old (record old { queue = q }) Detected (λ _ _ _. ap (λ n. nat_lt n 8) no_room)
    (record { does = λ g b f w. ap (λ (p : Pending). detected (doing (record old { queue = p }) g b f) w) (sym is) })

-- committing a pair removes the oldest entry and writes the cell
pub committed : (a v : ℕ) (old : Bank) (q : Pending) (m : Cells) → q ≡ drop 1 old.queue → m ≡ with_cell old.cells a v
    → DoesQuietly (commit a v) old (record old { queue = q; cells = m }) (Commit (record { addr = a; value = v }))
committed a v old q m queue_is cells_is = record {
  does = λ g b f w.
      ap (λ (p : Pending). record {
        state = doing (record old { queue = p; cells = with_cell old.cells a v }) (next g)
            (next b) None;
        wild = w;
        output = Some (record { addr = a; value = v });
      }) (sym queue_is)
      ∙ ap (λ (n : Cells). record {
        state = doing (record old { queue = q; cells = n }) (next g) (next b) None;
        wild = w;
        output = Some (record { addr = a; value = v });
      }) (sym cells_is);
}

-- a blue store commits if its pair is the oldest entry and its address is a cell's
pub store_commits : (a v : ℕ) (old new : Bank) (e : Effect) → (is_oldest old.queue a v && is_cell old.cells a) ≡ true →
    DoesQuietly (commit a v) old new e → DoesQuietly (store_blue a v) old new e
store_commits a v old new e holds h = first (commits a v) (commit a v) detected old new e (λ _ _ _. holds) h

-- a branch that is not taken goes on if d is 0
pub passes : (old : Bank) → old.d ≡ 0 → DoesQuietly pass old old On
passes old unset = first (λ s. s.d == 0) (λ s. quiet (goes_on s)) detected old old On (λ _ _ _.
    eq-eqb _ _ unset) (record { does = λ g b f w. refl })
