-- Blocks that are scheduled one after another.
use Rattle.std.proofs.Common.{◌≡◌, ℕ, suc, ◌+◌, ◌<◌, ◌≤◌, List, [], ◌∷◌, ◌++◌, length, drop, Some, Ok, Err, slice_get}
use Rattle.std.proofs.Common.{refl, sym, ap, ◌∙◌, subst, arith, append-nil}
use Rattle.std.specs.Prelude.{IfOk, Result}
use Rattle.std.specs.Option.{option_map, unwrap_or}
use Rattle.std.specs.List.{count_by}
use Rattle.std.proofs.lemmas.List.{length-append}
use Rattle.std.proofs.lemmas.Option.{slice_get_past}
use Rattle.std.proofs.Math.Seq.{drop-length}
use Rattle.ft_isa.specs.declared.instr.Instr.{Instr}
use Rattle.ft_isa.proofs.Lists.{drop_there}
use Rattle.ft_types.specs.declared.object.Object.{Object}
use Rattle.ft_types.specs.declared.object.Block.{Block}
use Rattle.ft_types.specs.Objects.{start_of}
use Rattle.ft_types.specs.Spellable.{BeginAtZero, IsSpellable}
use Rattle.ft_exchange.specs.Exchange.{is_green_store, is_blue_store, IsPermitted, with_instrs}
use Rattle.ft_exchange.specs.Scheduled.{ComesFrom, itself, IsScheduled}
use Rattle.ft_sched.specs.Inside.{Reaches, stays, HasNone}
use Rattle.ft_sched.specs.Arranged.{Arranges, IsArranged, LaysAll, GetsPlace}
use Rattle.ft_sched.specs.UpTo.{boundary, laid_before, IsUpTo}
use Rattle.ft_sched.proofs.Listed.{length_drop}
use Rattle.ft_sched.proofs.Reached.{length_reached, none_begins}
use Rattle.ft_sched.proofs.Whole.{OfBlock, turn_comes, turn_none}

pub drop_next : (xs : List Instr) (k : ℕ) (x : Instr) → slice_get xs k ≡ Some x → drop k xs ≡ x ∷ drop (k + 1) xs
drop_next xs k x e = drop_there xs k x e ∙ (let s : suc k ≡ k + 1 = omega arith in ap (λ n. x ∷ drop n xs) s)

-- the first block begins at 0
begins_at : (bs : List Block) (n : ℕ) → BeginAtZero bs → unwrap_or (option_map start_of (slice_get bs 0)) n ≡ 0
begins_at [] n h = absurd h
begins_at (b ∷ bs) n h = h

pub up_to_begins : (o : Object) → IsSpellable o → IsUpTo o 0 []
up_to_begins o spelled =
    let zero_is : boundary o 0 ≡ 0 = begins_at o.blocks (length o.instrs) spelled.first_block in
    record {
      laid_to = sym zero_is;
      comes = subst (λ n. ComesFrom o (with_instrs o (drop n o.instrs))) (sym zero_is) itself;
      none_left = λ j k l p. omega arith;
    }

pub up_to_ends : (o : Object) (b : ℕ) (laid : List Instr) → length o.blocks ≤ b → IsUpTo o b laid →
    IsScheduled o (with_instrs o laid)
up_to_ends o b laid l h =
    let end : boundary o b ≡ length o.instrs = ap (λ u. unwrap_or (option_map start_of u) (length o.instrs))
    (slice_get_past o.blocks b l) in
    let whole : laid_before o b laid ≡ laid = ap (λ n. laid ++ drop n o.instrs) end
    ∙ ap (λ z. laid ++ z) (drop-length o.instrs) ∙ append-nil laid in
    let comes : ComesFrom o (with_instrs o laid) = subst (λ z. ComesFrom o (with_instrs o z)) whole h.comes in
    record {
      comes = comes;
      none_left = λ j k p. h.none_left j k (let w = p.block in
          omega arith) (subst (λ z. IsPermitted (with_instrs o z) j k) (sym whole) p);
    }

-- a copy of the object with these instructions is its schedule
pub scheduled_copy : {E : Type 0} (o : Object) (is laid : List Instr) (r : Result Object E) → is ≡ laid →
    IsScheduled o (with_instrs o laid) → IfOk r (λ s. s ≡ with_instrs o is) → IfOk r (λ s. IsScheduled o s)
scheduled_copy o is laid (Ok s) same h e = subst (IsScheduled o) (sym (e ∙ ap (with_instrs o) same)) h
scheduled_copy o is laid (Err x) same h e = tt

-- the code has as many instructions as before
pub before_length : (o : Object) (b : ℕ) (laid : List Instr) → boundary o b ≤ length o.instrs → IsUpTo o b laid →
    length (laid_before o b laid) ≡ length o.instrs
before_length o b laid l h = (let m = length-append laid (drop (boundary o b) o.instrs) in
    let d = length_drop (boundary o b) o.instrs in let e = h.laid_to in omega arith)

pub arranged_length : (rows start past : ℕ) (base rest laid ws : List Instr) (q c : ℕ) →
    Arranges rows start past base rest laid ws q c → length laid + length ws + length rest ≡ length base
arranged_length rows start past base rest laid ws q c x =
    let r = length_reached rows start past base ((laid ++ ws) ++ rest) x.reached in
    let m = length-append (laid ++ ws) rest in
    let n = length-append laid ws in
    omega arith

module _ (o : Object) (spelled : IsSpellable o) (b start past rows : ℕ) (f : OfBlock o b start past rows)
    (laid : List Instr) (h : IsUpTo o b laid) where
  starts : start ≡ boundary o b
  starts = f.start_is ∙ ap (λ u. unwrap_or (option_map start_of u) 0) f.there
      ∙ sym (ap (λ u. unwrap_or (option_map start_of u) (length o.instrs)) f.there)

  all_of : length (laid_before o b laid) ≡ length o.instrs
  all_of = (let s = starts in let r = f.rises in let p = f.past_few in before_length o b laid (omega arith) h)

  pub block_begins : IsArranged rows start past (laid_before o b laid) (drop start o.instrs) laid [] rows 0
  block_begins =
      let long : length laid ≡ start = h.laid_to ∙ sym starts in
      let empty : drop start laid ≡ [] = ap (λ n. drop n laid) (sym long) ∙ drop-length laid in
      let same : (laid ++ []) ++ drop start o.instrs
      ≡ laid_before o b laid = ap (λ z. z ++ drop start o.instrs) (append-nil laid)
      ∙ ap (λ n. laid ++ drop n o.instrs) starts in
      let here : length (laid ++ []) ≡ start = ap length (append-nil laid) ∙ long in
      record {
        arranged = record {
          begins = omega arith;
          reached = subst (Reaches rows start past (laid_before o b laid)) (sym same) stays;
          none_left = subst (λ n. HasNone rows start n ((laid ++ []) ++ drop start o.instrs)) (sym here)
              (none_begins rows start ((laid ++ []) ++ drop start o.instrs));
          trails = refl;
          queued_is = (let z : rows ≡ rows + 0 = omega arith in z)
              ∙ ap (λ (z : List Instr). rows + count_by is_green_store z) (sym empty);
          committed_is = ap (λ (z : List Instr). count_by is_blue_store z) (sym empty);
        };
        settled = λ front i e low. (let m = ap length e in let n = length-append front (i ∷ []) in
            absurd (omega arith));
      }

  -- as long as an instruction of the block is left, those written and those waiting end before the block does
  pub block_within : (i : ℕ) (rest laid' ws : List Instr) (q c : ℕ) → i < past → rest ≡ drop i o.instrs →
      Arranges rows start past (laid_before o b laid) rest laid' ws q c → length laid' + length ws < past
  block_within i rest laid' ws q c l e x =
      let n = arranged_length rows start past (laid_before o b laid) rest laid' ws q c x in
      let d = length_drop i o.instrs in
      let r : length rest ≡ length (drop i o.instrs) = ap length e in
      let w = all_of in
      let p = f.past_few in
      omega arith

  pub block_ends : (laid' : List Instr) (q c : ℕ) →
      Arranges rows start past (laid_before o b laid) (drop past o.instrs) laid' [] q c → IsUpTo o (b + 1) laid'
  block_ends laid' q c x =
      let past_is : past ≡ boundary o (b + 1) = f.past_is ∙ (let s : suc b ≡ b + 1 = omega arith in
      ap (λ n. boundary o n) s) in
      let same : (laid' ++ []) ++ drop past o.instrs ≡ laid_before o (b + 1) laid' =
      ap (λ z. z ++ drop past o.instrs) (append-nil laid') ∙ ap (λ n. laid' ++ drop n o.instrs) past_is in
      let reached = subst (Reaches rows start past (laid_before o b laid)) same x.reached in
      let n = arranged_length rows start past (laid_before o b laid) (drop past o.instrs) laid' [] q c x in
      let d = length_drop past o.instrs in
      let w = all_of in
      let p = f.past_few in
      let zero_waits : length {A = Instr} [] ≡ 0 = refl in
      let long : length laid' ≡ past = omega arith in
      let here : length (laid' ++ []) ≡ past = ap length (append-nil laid') ∙ long in
      let none : HasNone rows start past (laid_before o (b + 1) laid') =
      subst (HasNone rows start past) same (subst (λ m. HasNone rows start m ((laid' ++ []) ++ drop past o.instrs))
      here x.none_left) in
      record {
        laid_to = long ∙ past_is;
        comes = turn_comes o spelled b start past rows (laid_before o b laid) (laid_before o (b + 1) laid') f all_of
            reached h.comes;
        none_left = turn_none o spelled b start past rows (laid_before o b laid) (laid_before o (b + 1) laid') f all_of
            reached none h.none_left;
      }

  -- the block is arranged when it begins, as the call's clauses say
  pub block_begun : (laid' ws : List Instr) (q c i : ℕ) → laid' ≡ laid → ws ≡ [] → q ≡ rows → c ≡ 0 → i ≡ start →
      IsArranged rows start past (laid_before o b laid) (drop i o.instrs) laid' ws q c
  block_begun laid' ws q c i el ew eq ec ei =
      subst (λ n. IsArranged rows start past (laid_before o b laid) (drop n o.instrs) laid' ws q c) (sym ei)
      (subst (λ z. IsArranged rows start past (laid_before o b laid) (drop start o.instrs) z ws q c) (sym el)
      (subst (λ z. IsArranged rows start past (laid_before o b laid) (drop start o.instrs) laid z q c) (sym ew)
      (subst (λ n. IsArranged rows start past (laid_before o b laid) (drop start o.instrs) laid [] n c) (sym eq)
      (subst (λ n. IsArranged rows start past (laid_before o b laid) (drop start o.instrs) laid [] rows n) (sym ec)
      block_begins))))

  -- the block is arranged after one more instruction gets its place
  pub block_on : (i : ℕ) (x : Instr) (laid1 ws1 laid2 ws2 : List Instr) (q1 c1 q2 c2 : ℕ) → i < past →
      slice_get o.instrs i ≡ Some x → GetsPlace x laid1 ws1 q1 c1 laid2 ws2 q2 c2
      → IsArranged rows start past (laid_before o b laid) (drop i o.instrs) laid1 ws1 q1 c1 →
      IsArranged rows start past (laid_before o b laid) (drop (i + 1) o.instrs) laid2 ws2 q2 c2
  block_on i x laid1 ws1 laid2 ws2 q1 c1 q2 c2 l there gets a =
      gets rows start past (laid_before o b laid) (drop (i + 1) o.instrs)
      (block_within i (drop i o.instrs) laid1 ws1 q1 c1 l refl a.arranged)
      (subst (λ z. IsArranged rows start past (laid_before o b laid) z laid1 ws1 q1 c1) (drop_next o.instrs i x there)
      a)

  -- when the block ends, the object is scheduled up to the next block
  pub block_done : (i : ℕ) (laid1 ws1 laid2 : List Instr) (q1 c1 q2 c2 : ℕ) → past ≤ i → (start ≤ past → i ≤ past) →
      LaysAll laid1 ws1 q1 c1 laid2 q2 c2 → IsArranged rows start past (laid_before o b laid) (drop i o.instrs) laid1
      ws1
      q1 c1 → IsUpTo o (b + 1) laid2
  block_done i laid1 ws1 laid2 q1 c1 q2 c2 low high all a =
      let up = high f.rises in
      let end : i ≡ past = omega arith in
      block_ends laid2 q2 c2 (all rows start past (laid_before o b laid) (drop past o.instrs)
      (subst (λ n. Arranges rows start past (laid_before o b laid) (drop n o.instrs) laid1 ws1 q1 c1) end a.arranged))
