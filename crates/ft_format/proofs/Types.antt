-- Converting types with their register rows and queue rows to records, and back.
use Rattle.std.proofs.Common.{◌≡◌, ℕ, ◌+◌, ◌-◌, ◌*◌, ◌≤◌, true, List, [], ◌∷◌, ◌++◌, length, take, drop, map, None}
use Rattle.std.proofs.Common.{refl, sym, ap, ◌∙◌, subst, append_assoc, arith}
use Rattle.std.specs.Prelude.{nat_le}
use Rattle.std.specs.Int.{Width}
use Rattle.std.specs.List.{AllByRecursion, flat_map}
use Rattle.std.proofs.lemmas.List.{length-append, length-map, take_at, drop_at, map-append}
use Rattle.std.proofs.lemmas.List.Concat.{flat_map-append}
use Rattle.std.proofs.lemmas.List.Elements.{All-from_recursion, recursion_from_All}
use Rattle.ft_static.specs.declared.node.Node.{Node}
use Rattle.ft_types.specs.declared.object.CodeType.{CodeType}
use Rattle.ft_types.specs.declared.object.RegType.{RegType}
use Rattle.ft_types.specs.Objects.{regs_of, queue_of}
use Rattle.ft_types.specs.Spellable.{IsRegRow, IsQueueRow, IsCodeType, IsNodeIn}
use Rattle.ft_format.specs.declared.object_error.ObjectError.TheVariants as errors
use Rattle.ft_format.specs.declared.header.Header.{Header}
use Rattle.ft_format.specs.Format.{AreBytes}
use Rattle.ft_format.specs.Layout.{size, written, spelled, rows, type_layout, reg_layout, pair_layout}
use Rattle.ft_format.specs.Rules.{must, ◌next◌, zero_broken, count_broken, named_broken, type_broken}
use Rattle.ft_format.specs.Rows.{type_rows, reg_row, queue_row}
use Rattle.ft_format.specs.Values.{regs_end_of, queue_end_of, type_memory_of, type_ints_of, types_of, reg_type_of}
use Rattle.ft_format.specs.Values.{pair_of}
use Rattle.ft_format.specs.Broken.{types_broken, type_regs_broken, regs_broken, type_queue_broken, queues_broken}
use Rattle.ft_format.proofs.Layouts.{Fit, AllFit, rows_none, rows_back, rows_fit, length_rows, length_spelled}
use Rattle.ft_format.proofs.Layouts.{bytes_after, rows_plus}
use Rattle.ft_format.proofs.Unbroken.{both}
use Rattle.ft_format.proofs.Codes.{le_held, eq_held, le_true, eq_true}
use Rattle.ft_format.proofs.References.{named_again, named_fine}
use Rattle.ft_format.proofs.Nodes.{same_seven}
use Rattle.ft_format.proofs.SmallRows.{regs_again, regs_fine, queue_again, queue_fine}

-- what holds of a valid type record
pub record TypeAgain (h : Header) (nodes : List Node) (regs queue : ℕ) (row : List ℕ) : Type 0 where
  pub written : regs_end_of row ∷ queue_end_of row ∷ type_memory_of row ∷ type_ints_of row ∷ 0 ∷ 0 ∷ 0 ∷ [] ≡ row
  pub regs_from : regs ≤ regs_end_of row
  pub regs_to : regs_end_of row ≤ h.regs
  pub queue_from : queue ≤ queue_end_of row
  pub queue_to : queue_end_of row ≤ h.queue
  pub queue_few : queue_end_of row ≤ queue + 8
  pub memory : IsNodeIn nodes (type_ints_of row) true (type_memory_of row)
  pub ints : type_ints_of row ≤ 128

type_again : (h : Header) (nodes : List Node) (regs queue at : ℕ) (row : List ℕ) → Fit type_layout row →
    type_broken h nodes regs queue at row ≡ None → TypeAgain h nodes regs queue row
type_again h nodes regs queue at (a ∷ b ∷ memory ∷ ints ∷ p ∷ q ∷ r ∷ []) fit n =
    let pads = zero_broken (at + 13) p next (zero_broken (at + 13) q next zero_broken (at + 13) r) in
    let named = named_broken nodes ints true (at + 8) memory in
    let many = count_broken 128 (at + 12) ints in
    let few = must (nat_le b (queue + 8)) (errors.Count (at + 4)) in
    let to = must (nat_le b h.queue) (errors.Order (at + 4)) in
    let from = must (nat_le queue b) (errors.Order (at + 4)) in
    let regs_to = must (nat_le a h.regs) (errors.Order at) in
    let r1 = both (must (nat_le regs a) (errors.Order at))
    (regs_to next (from next (to next (few next (named next (many next pads)))))) n in
    let r2 = both regs_to (from next (to next (few next (named next (many next pads))))) r1.1 in
    let r3 = both from (to next (few next (named next (many next pads)))) r2.1 in
    let r4 = both to (few next (named next (many next pads))) r3.1 in
    let r5 = both few (named next (many next pads)) r4.1 in
    let r6 = both named (many next pads) r5.1 in
    let r7 = both many pads r6.1 in
    let r8 = both (zero_broken (at + 13) p) (zero_broken (at + 13) q next zero_broken (at + 13) r) r7.1 in
    let r9 = both (zero_broken (at + 13) q) (zero_broken (at + 13) r) r8.1 in
    record {
      written = same_seven refl refl refl refl (sym (eq_held p 0 (errors.Pad (at + 13)) r8.0))
          (sym (eq_held q 0 (errors.Pad (at + 13)) r9.0)) (sym (eq_held r 0 (errors.Pad (at + 13)) r9.1));
      regs_from = le_held regs a (errors.Order at) r1.0;
      regs_to = le_held a h.regs (errors.Order at) r2.0;
      queue_from = le_held queue b (errors.Order (at + 4)) r3.0;
      queue_to = le_held b h.queue (errors.Order (at + 4)) r4.0;
      queue_few = le_held b (queue + 8) (errors.Count (at + 4)) r5.0;
      memory = named_again nodes ints true (at + 8) memory r6.0;
      ints = le_held ints 128 (errors.Count (at + 12)) r7.0;
    }
type_again h nodes regs queue at [] fit n = absurd fit
type_again h nodes regs queue at (a ∷ []) fit n = absurd fit.1
type_again h nodes regs queue at (a ∷ b ∷ []) fit n = absurd fit.1.1
type_again h nodes regs queue at (a ∷ b ∷ c ∷ []) fit n = absurd fit.1.1.1
type_again h nodes regs queue at (a ∷ b ∷ c ∷ d ∷ []) fit n = absurd fit.1.1.1.1
type_again h nodes regs queue at (a ∷ b ∷ c ∷ d ∷ e ∷ []) fit n = absurd fit.1.1.1.1.1
type_again h nodes regs queue at (a ∷ b ∷ c ∷ d ∷ e ∷ f ∷ []) fit n = absurd fit.1.1.1.1.1.1
type_again h nodes regs queue at (a ∷ b ∷ c ∷ d ∷ e ∷ f ∷ g ∷ z ∷ zs) fit n = absurd fit.1.1.1.1.1.1.1

-- the values of n + k rows are those of the first n rows, followed by those of the other k
values_split : {A : Type 0} (f : List ℕ → A) (ws : List Width) (m n k : ℕ) (bs : List ℕ) → m ≡ n + k →
    map f (rows ws m bs) ≡ map f (rows ws n bs) ++ map f (rows ws k (drop (size ws * n) bs))
values_split f ws m n k bs e = ap (λ i. map f (rows ws i bs)) e ∙ ap (map f) (rows_plus ws n k bs)
    ∙ map-append f (rows ws n bs) (rows ws k (drop (size ws * n) bs))

-- splitting a list of two parts at the length of the first gives the two parts
first_part : {A : Type 0} (all a b : List A) (n : ℕ) → all ≡ a ++ b → length a ≡ n → take n all ≡ a
first_part all a b n e long = ap (take n) e ∙ take_at a b n long

second_part : {A : Type 0} (all a b : List A) (n : ℕ) → all ≡ a ++ b → length a ≡ n → drop n all ≡ b
second_part all a b n e long = ap (drop n) e ∙ drop_at a b n long

-- the code types that records and rows encode
pub record TypesAre (h : Header) (nodes : List Node) (start queue_start : ℕ) (trs : List (List ℕ)) (regs : List RegType)
    (queue : List (ℕ × ℕ)) (ts : List CodeType) : Type 0 where
  pub written : type_rows start queue_start ts ≡ trs
  pub types : AllByRecursion (IsCodeType h.types nodes) ts
  pub all_regs : flat_map regs_of ts ≡ regs
  pub all_queue : flat_map queue_of ts ≡ queue

-- the remaining register rows and queue rows
abbrev pub regs_left : Header → ℕ → List ℕ → List RegType
regs_left h start bytes = map reg_type_of (rows reg_layout (h.regs - start) bytes)

abbrev pub queue_left : Header → ℕ → List ℕ → List (ℕ × ℕ)
queue_left h start bytes = map pair_of (rows pair_layout (h.queue - start) bytes)

-- what holds of valid records and rows
pub record TypesAgain (h : Header) (nodes : List Node) (start queue_start : ℕ) (trs : List (List ℕ)) (rb qb : List ℕ) :
    Type 0 where
  pub are : TypesAre h nodes start queue_start trs (regs_left h start rb) (queue_left h queue_start qb)
      (types_of start queue_start trs (regs_left h start rb) (queue_left h queue_start qb))
  pub regs_written : map reg_row (regs_left h start rb) ≡ rows reg_layout (h.regs - start) rb
  pub queue_written : map queue_row (queue_left h queue_start qb) ≡ rows pair_layout (h.queue - queue_start) qb

pub types_again : (h : Header) (nodes : List Node) (start queue_start at regs_at queue_at : ℕ) (trs : List (List ℕ))
    (rb qb : List ℕ) → AreBytes rb → AreBytes qb → AllFit type_layout trs
    → types_broken h nodes start queue_start at trs ≡ None → regs_broken h nodes start regs_at trs rb ≡ None →
    queues_broken h nodes queue_start queue_at trs qb ≡ None
    → TypesAgain h nodes start queue_start trs rb qb
unfolding types_broken regs_broken queues_broken
types_again h nodes start queue_start at regs_at queue_at [] rb qb fr fq fit n nr nq =
    let no_regs : h.regs - start ≡ 0 = omega (arith, eq_held start h.regs (errors.Order regs_at) nr) in
    let no_queue : h.queue - queue_start ≡ 0 = omega (arith, eq_held queue_start h.queue (errors.Order queue_at) nq) in
    let a = rows_none reg_layout (h.regs - start) rb no_regs in
    let b = rows_none pair_layout (h.queue - queue_start) qb no_queue in
    record {
      are = record {
        written = refl;
        types = tt;
        all_regs = sym (ap (map reg_type_of) a);
        all_queue = sym (ap (map pair_of) b);
      };
      regs_written = rw a refl;
      queue_written = rw b refl;
    }
types_again h nodes start queue_start at regs_at queue_at (row ∷ trs) rb qb fr fq fit n nr nq =
    let end = regs_end_of row in
    let queue_end = queue_end_of row in
    let count = end - start in
    let queue_count = queue_end - queue_start in
    let r0 = both (type_broken h nodes start queue_start at row) (types_broken h nodes end queue_end (at + 16) trs) n in
    let r1 = both (type_regs_broken h.types nodes (type_ints_of row) 0 regs_at (rows reg_layout count rb))
    (regs_broken h nodes end (regs_at + 12 * count) trs (drop (12 * count) rb)) nr in
    let r2 = both (type_queue_broken nodes (type_ints_of row) queue_at (rows pair_layout queue_count qb))
    (queues_broken h nodes queue_end (queue_at + 8 * queue_count) trs (drop (8 * queue_count) qb)) nq in
    let own = type_again h nodes start queue_start at row fit.0 r0.0 in
    let own_regs = regs_again h.types nodes (type_ints_of row) 0 regs_at (rows reg_layout count rb)
    (rows_fit reg_layout count rb (tt, (tt, (tt, (tt, (tt, (tt, (tt, tt))))))) fr) r1.0 in
    let own_queue = queue_again nodes (type_ints_of row) queue_at (rows pair_layout queue_count qb)
    (rows_fit pair_layout queue_count qb (tt, (tt, tt)) fq) r2.0 in
    let after = types_again h nodes end queue_end (at + 16) (regs_at + 12 * count) (queue_at + 8 * queue_count) trs
    (drop (12 * count) rb) (drop (8 * queue_count) qb)
    (bytes_after (12 * count) rb fr) (bytes_after (8 * queue_count) qb fq) fit.1 r0.1 r1.1 r2.1 in
    let a = map reg_type_of (rows reg_layout count rb) in
    let b = map pair_of (rows pair_layout queue_count qb) in
    let more = regs_left h end (drop (12 * count) rb) in
    let queue_more = queue_left h queue_end (drop (8 * queue_count) qb) in
    let left : h.regs - start ≡ count + (h.regs - end) = omega (arith, own.regs_from, own.regs_to) in
    let queue_left_is : h.queue - queue_start ≡ queue_count + (h.queue - queue_end) =
    omega (arith, own.queue_from, own.queue_to) in
    let regs_split : regs_left h start rb ≡ a ++ more =
    values_split reg_type_of reg_layout (h.regs - start) count (h.regs - end) rb left in
    let queue_split : queue_left h queue_start qb ≡ b
    ++ queue_more = values_split pair_of pair_layout (h.queue - queue_start) queue_count (h.queue - queue_end) qb
    queue_left_is in
    let long : length a ≡ count = length-map (rows reg_layout count rb) reg_type_of ∙ length_rows reg_layout count rb in
    let queue_long : length b ≡ queue_count = length-map (rows pair_layout queue_count qb) pair_of
    ∙ length_rows pair_layout queue_count qb in
    let t : CodeType = record { ints = type_ints_of row; regs = a; queue = b; memory = type_memory_of row } in
    let ts = types_of end queue_end trs more queue_more in
    let whole : types_of start queue_start (row ∷ trs) (regs_left h start rb) (queue_left h queue_start qb) ≡ t ∷ ts =
    rw (
      first_part (regs_left h start rb) a more count regs_split long,
      second_part (regs_left h start rb) a more count regs_split long,
      first_part (queue_left h queue_start qb) b queue_more queue_count queue_split queue_long,
      second_part (queue_left h queue_start qb) b queue_more queue_count queue_split queue_long,
    ) refl in
    let place : start + length a ≡ end = omega (arith, long, own.regs_from) in
    let queue_place : queue_start + length b ≡ queue_end = omega (arith, queue_long, own.queue_from) in
    record {
      are = subst (TypesAre h nodes start queue_start (row ∷ trs) (regs_left h start rb) (queue_left h queue_start qb))
          (sym whole) (record {
            written = rw (place, queue_place, own.written, after.are.written) refl;
            types = (
              record {
                ints = own.ints;
                regs = All-from_recursion (IsRegRow h.types nodes (type_ints_of row)) a own_regs.regs;
                rising = own_regs.rising;
                queue_length = omega (arith, queue_long, own.queue_few);
                queue = All-from_recursion (IsQueueRow nodes (type_ints_of row)) b own_queue.1;
                memory = own.memory;
              },
              after.are.types,
            );
            all_regs = ap (λ l. a ++ l) after.are.all_regs ∙ sym regs_split;
            all_queue = ap (λ l. b ++ l) after.are.all_queue ∙ sym queue_split;
          });
      regs_written = ap (map reg_row) regs_split ∙ map-append reg_row a more
          ∙ ap (λ l. l ++ map reg_row more) own_regs.written
          ∙ ap (λ l. rows reg_layout count rb ++ l) after.regs_written
          ∙ sym (ap (λ i. rows reg_layout i rb) left ∙ rows_plus reg_layout count (h.regs - end) rb);
      queue_written = ap (map queue_row) queue_split ∙ map-append queue_row b queue_more
          ∙ ap (λ l. l ++ map queue_row queue_more) own_queue.0
          ∙ ap (λ l. rows pair_layout queue_count qb ++ l) after.queue_written
          ∙ sym (ap (λ i. rows pair_layout i qb) queue_left_is
          ∙ rows_plus pair_layout queue_count (h.queue - queue_end) qb);
    }

-- the records of code types break no rule
pub record TypeRowsFine (h : Header) (nodes : List Node) (start queue_start at : ℕ) (ts : List CodeType) : Type 0 where
  pub unbroken : types_broken h nodes start queue_start at (type_rows start queue_start ts) ≡ None
  pub fit : AllFit type_layout (type_rows start queue_start ts)

-- counts that are small enough for the fields of types
pub record AreFewRows (h : Header) (nodes : List Node) : Type 0 where
  pub types : h.types ≤ 4096
  pub regs : h.regs ≤ 262144
  pub queue : h.queue ≤ 32768
  pub node_count : length nodes ≤ 1048576

pub type_rows_fine : (h : Header) (nodes : List Node) (start queue_start at : ℕ) (ts : List CodeType) →
    AreFewRows h nodes → AllByRecursion (IsCodeType h.types nodes) ts
    → start + length (flat_map regs_of ts) ≤ h.regs → queue_start + length (flat_map queue_of ts) ≤ h.queue →
    TypeRowsFine h nodes start queue_start at ts
unfolding types_broken
type_rows_fine h nodes start queue_start at [] m i r q = record { unbroken = refl; fit = tt }
type_rows_fine h nodes start queue_start at (t ∷ ts) m i r q =
    let end = start + length t.regs in
    let queue_end = queue_start + length t.queue in
    let own = i.0 in
    let rs : end + length (flat_map regs_of ts) ≤ h.regs = omega (arith, length-append t.regs (flat_map regs_of ts)) in
    let qs : queue_end + length (flat_map queue_of ts) ≤ h.queue =
    omega (arith, length-append t.queue (flat_map queue_of ts)) in
    let after = type_rows_fine h nodes end queue_end (at + 16) ts m i.1 rs qs in
    record {
      unbroken = rw (
        le_true start end (omega arith),
        le_true end h.regs (omega arith),
        le_true queue_start queue_end (omega arith),
        le_true queue_end h.queue (omega arith),
        le_true queue_end (queue_start + 8) (omega (arith, own.queue_length)),
        named_fine nodes t.ints true (at + 8) t.memory own.memory,
        le_true t.ints 128 own.ints,
        after.unbroken,
      ) refl;
      fit = (
        (
          omega (arith, m.regs),
          (
            omega (arith, m.queue),
            (
              omega (arith, own.memory.lower, m.node_count),
              (omega (arith, own.ints), (omega arith, (omega arith, (omega arith, tt)))),
            ),
          ),
        ),
        after.fit,
      );
    }

-- the spelling of two lists of values is that of the first followed by that of the second
spelled_split : {A : Type 0} (ws : List Width) (row : A → List ℕ) (xs ys : List A) (rest : List ℕ) →
    spelled ws (map row (xs ++ ys)) ++ rest ≡ spelled ws (map row xs) ++ (spelled ws (map row ys) ++ rest)
spelled_split ws row xs ys rest =
    ap (λ l. spelled ws l ++ rest) (map-append row xs ys)
    ∙ ap (λ l. l ++ rest) (flat_map-append (written ws) (map row xs) (map row ys))
    ∙ append_assoc (spelled ws (map row xs)) (spelled ws (map row ys)) rest

own_rows : {A : Type 0} (ws : List Width) (row : A → List ℕ) (xs ys : List A) (rest : List ℕ) (n : ℕ) →
    AllFit ws (map row xs) → n ≡ length xs → rows ws n (spelled ws (map row (xs ++ ys)) ++ rest) ≡ map row xs
own_rows ws row xs ys rest n fit e =
    let count : n ≡ length (map row xs) = e ∙ sym (length-map xs row) in
    ap (rows ws n) (spelled_split ws row xs ys rest)
    ∙ ap (λ k. rows ws k (spelled ws (map row xs) ++ (spelled ws (map row ys) ++ rest))) count
    ∙ rows_back ws (map row xs) (spelled ws (map row ys) ++ rest) fit

own_left : {A : Type 0} (ws : List Width) (row : A → List ℕ) (xs ys : List A) (rest : List ℕ) (n : ℕ) →
    AllFit ws (map row xs) → n ≡ length xs → drop (size ws * n) (spelled ws (map row (xs ++ ys)) ++ rest)
    ≡ spelled ws (map row ys) ++ rest
own_left ws row xs ys rest n fit e =
    let count : n ≡ length (map row xs) = e ∙ sym (length-map xs row) in
    ap (drop (size ws * n)) (spelled_split ws row xs ys rest)
    ∙ drop_at (spelled ws (map row xs)) (spelled ws (map row ys)
    ++ rest) (size ws * n) (length_spelled ws (map row xs) fit ∙ ap (λ k. size ws * k) (sym count))

pub fit_append : (ws : List Width) (xs ys : List (List ℕ)) → AllFit ws xs → AllFit ws ys → AllFit ws (xs ++ ys)
fit_append ws [] ys p q = q
fit_append ws (x ∷ xs) ys p q = (p.0, fit_append ws xs ys p.1 q)

-- the records of all register rows break no rule, and decode to these rows
pub record AllRegsFine (h : Header) (nodes : List Node) (start queue_start at : ℕ) (ts : List CodeType) (rest : List ℕ)
    : Type 0 where
  pub unbroken : regs_broken h nodes start at (type_rows start queue_start ts)
      (spelled reg_layout (map reg_row (flat_map regs_of ts)) ++ rest) ≡ None
  pub back : map reg_type_of (map reg_row (flat_map regs_of ts)) ≡ flat_map regs_of ts
  pub fit : AllFit reg_layout (map reg_row (flat_map regs_of ts))

pub all_regs_fine : (h : Header) (nodes : List Node) (start queue_start at : ℕ) (ts : List CodeType) (rest : List ℕ) →
    AreFewRows h nodes → AllByRecursion (IsCodeType h.types nodes) ts
    → start + length (flat_map regs_of ts) ≡ h.regs → AllRegsFine h nodes start queue_start at ts rest
unfolding regs_broken
all_regs_fine h nodes start queue_start at [] rest m i e =
    record { unbroken = rw (eq_true start h.regs (omega (arith, e))) refl; back = refl; fit = tt }
all_regs_fine h nodes start queue_start at (t ∷ ts) rest m i e =
    let more = flat_map regs_of ts in
    let end = start + length t.regs in
    let count : end - start ≡ length t.regs = omega arith in
    let own = regs_fine h.types nodes t.ints 0 at t.regs m.types m.node_count
    (recursion_from_All (IsRegRow h.types nodes t.ints) t.regs i.0.regs) i.0.rising in
    let total : end + length more ≡ h.regs = omega (arith, e, length-append t.regs more) in
    let after = all_regs_fine h nodes end (queue_start + length t.queue) (at + 12 * (end - start)) ts rest m i.1 total
    in
    record {
      unbroken = rw (
        own_rows reg_layout reg_row t.regs more rest (end - start) own.fit count,
        own_left reg_layout reg_row t.regs more rest (end - start) own.fit count,
        own.unbroken,
        after.unbroken,
      ) refl;
      back = ap (map reg_type_of) (map-append reg_row t.regs more)
          ∙ map-append reg_type_of (map reg_row t.regs) (map reg_row more) ∙ rw (own.back, after.back) refl;
      fit = subst (AllFit reg_layout) (sym (map-append reg_row t.regs more))
          (fit_append reg_layout (map reg_row t.regs) (map reg_row more) own.fit after.fit);
    }

-- the records of all queue rows break no rule, and decode to these rows
pub record AllQueueFine (h : Header) (nodes : List Node) (start queue_start at : ℕ) (ts : List CodeType) (rest : List ℕ)
    : Type 0 where
  pub unbroken : queues_broken h nodes queue_start at (type_rows start queue_start ts)
      (spelled pair_layout (map queue_row (flat_map queue_of ts)) ++ rest) ≡ None
  pub back : map pair_of (map queue_row (flat_map queue_of ts)) ≡ flat_map queue_of ts
  pub fit : AllFit pair_layout (map queue_row (flat_map queue_of ts))

pub all_queue_fine : (h : Header) (nodes : List Node) (start queue_start at : ℕ) (ts : List CodeType) (rest : List ℕ) →
    AreFewRows h nodes → AllByRecursion (IsCodeType h.types nodes) ts
    → queue_start + length (flat_map queue_of ts) ≡ h.queue → AllQueueFine h nodes start queue_start at ts rest
unfolding queues_broken
all_queue_fine h nodes start queue_start at [] rest m i e =
    record { unbroken = rw (eq_true queue_start h.queue (omega (arith, e))) refl; back = refl; fit = tt }
all_queue_fine h nodes start queue_start at (t ∷ ts) rest m i e =
    let more = flat_map queue_of ts in
    let end = queue_start + length t.queue in
    let count : end - queue_start ≡ length t.queue = omega arith in
    let own = queue_fine nodes t.ints at t.queue m.node_count
    (recursion_from_All (IsQueueRow nodes t.ints) t.queue i.0.queue) in
    let total : end + length more ≡ h.queue = omega (arith, e, length-append t.queue more) in
    let after = all_queue_fine h nodes (start + length t.regs) end (at + 8 * (end - queue_start)) ts rest m i.1 total in
    record {
      unbroken = rw (
        own_rows pair_layout queue_row t.queue more rest (end - queue_start) own.fit count,
        own_left pair_layout queue_row t.queue more rest (end - queue_start) own.fit count,
        own.unbroken,
        after.unbroken,
      ) refl;
      back = ap (map pair_of) (map-append queue_row t.queue more)
          ∙ map-append pair_of (map queue_row t.queue) (map queue_row more) ∙ rw (own.back, after.back) refl;
      fit = subst (AllFit pair_layout) (sym (map-append queue_row t.queue more))
          (fit_append pair_layout (map queue_row t.queue) (map queue_row more) own.fit after.fit);
    }

-- decoding the records and rows of code types gives these code types back
pub types_back : (start queue_start : ℕ) (ts : List CodeType) →
    types_of start queue_start (type_rows start queue_start ts) (flat_map regs_of ts) (flat_map queue_of ts) ≡ ts
types_back start queue_start [] = refl
types_back start queue_start (t ∷ ts) =
    let a : start + length t.regs - start ≡ length t.regs = omega arith in
    let b : queue_start + length t.queue - queue_start ≡ length t.queue = omega arith in
    rw (
      a,
      b,
      take_at t.regs (flat_map regs_of ts) (length t.regs) refl,
      drop_at t.regs (flat_map regs_of ts) (length t.regs) refl,
      take_at t.queue (flat_map queue_of ts) (length t.queue) refl,
      drop_at t.queue (flat_map queue_of ts) (length t.queue) refl,
      types_back (start + length t.regs) (queue_start + length t.queue) ts,
    ) refl
