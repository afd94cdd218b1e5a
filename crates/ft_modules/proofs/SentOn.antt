-- Code types that agree, the offsets of modules, and where machines are sent.
use Rattle.std.proofs.Common.{◌≡◌, ℕ, zero, suc, ◌+◌, ◌<◌, ◌≤◌, true, ◌==◌, if◌then◌else◌, List, [], ◌∷◌, length}
use Rattle.std.proofs.Common.{slice_get, Some, None, refl, sym, ap, ◌∙◌, subst, arith, eq-eqb}
use Rattle.std.specs.List.{AllZip}
use Rattle.ft_types.specs.declared.object.Object.{Object}
use Rattle.ft_types.specs.declared.object.RegType.{RegType}
use Rattle.ft_types.specs.Objects.{reg_rows, queue_rows}
use Rattle.ft_semantics.specs.State.{State}
use Rattle.ft_modules.specs.LikeTypes.{SameRow, SamePair, LikeTypes}
use Rattle.ft_modules.specs.declared.before.Before.{Before}
use Rattle.ft_modules.specs.Linked.{after_module, before_module}
use Rattle.ft_modules.specs.Links.{Link}
use Rattle.ft_modules.specs.ModulesRun.{InModule, link_at, sent_by, sent_unfetched, sent}
use Rattle.ft_modules.proofs.World.{at_address}

-- CODE TYPES THAT AGREE

-- register rows agree with themselves
rows_itself : (o : Object) (rs : List RegType) → AllZip (SameRow o o) rs rs
rows_itself o [] = tt
rows_itself o (r ∷ rs) = (record { reg = refl; colour = refl; basic = refl; tree = refl }, rows_itself o rs)

-- queue rows agree with themselves
pairs_itself : (o : Object) (rs : List (ℕ × ℕ)) → AllZip (SamePair o o) rs rs
pairs_itself o [] = tt
pairs_itself o (r ∷ rs) = (record { address = refl; value = refl }, pairs_itself o rs)

-- a code type agrees with itself
pub like_itself : (o : Object) (t : ℕ) → LikeTypes o t o t
like_itself o t = record {
  ints = refl;
  regs = rows_itself o (reg_rows o t);
  queue = pairs_itself o (queue_rows o t);
  memory = refl;
}

-- agreement of register rows is transitive
rows_through : (a b c : Object) (rs qs ps : List RegType) → AllZip (SameRow a b) rs qs → AllZip (SameRow b c) qs ps →
    AllZip (SameRow a c) rs ps
rows_through a b c [] [] [] h k = tt
rows_through a b c [] [] (p ∷ ps) h k = absurd k
rows_through a b c [] (q ∷ qs) ps h k = absurd h
rows_through a b c (r ∷ rs) [] ps h k = absurd h
rows_through a b c (r ∷ rs) (q ∷ qs) [] h k = absurd k
rows_through a b c (r ∷ rs) (q ∷ qs) (p ∷ ps) h k =
    let x = h.0 in
    let y = k.0 in (
      record { reg = x.reg ∙ y.reg; colour = x.colour ∙ y.colour; basic = x.basic ∙ y.basic; tree = x.tree ∙ y.tree },
      rows_through a b c rs qs ps h.1 k.1,
    )

-- so is agreement of queue rows
pairs_through : (a b c : Object) (rs qs ps : List (ℕ × ℕ)) → AllZip (SamePair a b) rs qs → AllZip (SamePair b c) qs ps →
    AllZip (SamePair a c) rs ps
pairs_through a b c [] [] [] h k = tt
pairs_through a b c [] [] (p ∷ ps) h k = absurd k
pairs_through a b c [] (q ∷ qs) ps h k = absurd h
pairs_through a b c (r ∷ rs) [] ps h k = absurd h
pairs_through a b c (r ∷ rs) (q ∷ qs) [] h k = absurd k
pairs_through a b c (r ∷ rs) (q ∷ qs) (p ∷ ps) h k =
    let x = h.0 in
    let y = k.0 in
    (record { address = x.address ∙ y.address; value = x.value ∙ y.value }, pairs_through a b c rs qs ps h.1 k.1)

-- so is agreement of code types
pub like_through : (a b c : Object) (t u v : ℕ) → LikeTypes a t b u → LikeTypes b u c v → LikeTypes a t c v
like_through a b c t u v h k = record {
  ints = h.ints ∙ k.ints;
  regs = rows_through a b c _ _ _ h.regs k.regs;
  queue = pairs_through a b c _ _ _ h.queue k.queue;
  memory = h.memory ∙ k.memory;
}

-- OFFSETS

-- no module's instructions begin before the initial offset
least_before : (k : Before) (modules : List Object) (m : ℕ) → k.instrs ≤ (before_module k modules m).instrs
unfolding before_module
least_before k [] m = omega arith
least_before k (y ∷ ys) zero = omega arith
least_before k (y ∷ ys) (suc m) = let h = least_before (after_module k y) ys m in omega (arith, h)

-- a later module's instructions come after those of an earlier one
pub rises_before : (k : Before) (modules : List Object) (m n : ℕ) (o : Object) → slice_get modules m ≡ Some o → m < n →
    (before_module k modules m).instrs + length o.instrs ≤ (before_module k modules n).instrs
unfolding before_module
rises_before k [] m n o e lt = cc
rises_before k (y ∷ ys) m zero o e lt = absurd (omega (arith, lt))
rises_before k (y ∷ ys) zero (suc n) o e lt = let same : y ≡ o = cc in
    subst (λ (z : Object). k.instrs + length z.instrs ≤ (before_module (after_module k y) ys n).instrs) same
    (least_before (after_module k y) ys n)
rises_before k (y ∷ ys) (suc m) (suc n) o e lt = rises_before (after_module k y) ys m n o e (omega (arith, lt))

-- SENDING

-- a machine with nothing fetched and both counters at an address is sent by the link at this address
pub sent_at : (modules : List Object) (joins : List Link) (m w : ℕ) (s : State) → s.fetched ≡ None → s.pc_green ≡ w →
    s.pc_blue ≡ w → sent modules joins (record { number = m; state = s })
    ≡ sent_by modules (record { number = m; state = s }) (link_at modules joins m w)
sent_at modules joins m w s f g b =
    let a : InModule = record { number = m; state = s } in
    let test : (s.pc_green == s.pc_blue) ≡ true = eq-eqb s.pc_green s.pc_blue (g ∙ sym b) in
    ap (sent_unfetched modules joins a) f
    ∙ ap (λ t. if t then sent_by modules a (link_at modules joins m s.pc_green) else a) test
    ∙ ap (λ n. sent_by modules a (link_at modules joins m n)) g

-- setting both counters to an address changes nothing if they are already there
pub stay_at : (m w : ℕ) (s : State) → s.pc_green ≡ w → s.pc_blue ≡ w →
    ◌≡◌ {A = InModule} (record { number = m; state = s }) (record { number = m; state = at_address w s })
stay_at m w s g b = λ i. record { number = m; state = record s { pc_green = g i; pc_blue = b i } }
