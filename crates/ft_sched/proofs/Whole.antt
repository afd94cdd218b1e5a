-- Exchanges in a list of instructions are exchanges in an object with these instructions.
use Rattle.std.proofs.Common.{◌≡◌, inl, inr, ⊎_elim, ℕ, zero, suc, ◌+◌, ◌-◌, ◌<◌, ◌≤◌, true, List, [], ◌∷◌, length}
use Rattle.std.proofs.Common.{take, drop, Option, Some, None, slice_get, refl, sym, ap, ◌∙◌, subst, arith}
use Rattle.std.specs.Option.{option_map, unwrap_or}
use Rattle.std.specs.List.{slice_range}
use Rattle.std.proofs.lemmas.Bool.{cases_lt}
use Rattle.std.proofs.lemmas.Option.{slice_get_cases, slice_get_within}
use Rattle.ft_isa.specs.declared.instr.Instr.{Instr}
use Rattle.ft_isa.proofs.Lists.{get_dropped, all_there}
use Rattle.ft_types.specs.declared.object.Object.{Object}
use Rattle.ft_types.specs.declared.object.Block.{Block}
use Rattle.ft_types.specs.declared.object.CodeType.{CodeType}
use Rattle.ft_types.specs.declared.object.TypeHead.{TypeHead}
use Rattle.ft_types.specs.Objects.{type_head_of, queue_of, queue_rows, code_type_of, start_of, block_type, block_start}
use Rattle.ft_types.specs.Objects.{block_end, block_instrs}
use Rattle.ft_types.specs.Spellable.{HasCodeType, IsCodeType, IsSpellable}
use Rattle.ft_types.proofs.BlockStarts.{below_end}
use Rattle.ft_exchange.specs.Exchange.{queue_after, may_exchange, IsPermitted, exchanged, with_instrs}
use Rattle.ft_sched.specs.Inside.{IsPermittedAt, Reaches, stays, exchanges, HasNone}
use Rattle.ft_exchange.specs.Scheduled.{ComesFrom, itself, exchange}
use Rattle.ft_exchange.proofs.Lists.{get-range, range_before}
use Rattle.ft_exchange.proofs.BlockRanges.{starts_rise, ends_before, start_is}
use Rattle.ft_sched.proofs.Reached.{length_reached}

-- LISTS

take_take : (k m : ℕ) (xs : List Instr) → k ≤ m → take k (take m xs) ≡ take k xs
take_take zero m xs h = refl
take_take (suc k) zero xs h = absurd (omega arith)
take_take (suc k) (suc m) [] h = refl
take_take (suc k) (suc m) (x ∷ xs) h = ap (λ z. x ∷ z) (take_take k m xs (omega arith))

get_take : (m : ℕ) (xs : List Instr) (k : ℕ) → k < m → slice_get (take m xs) k ≡ slice_get xs k
get_take zero xs k h = absurd (omega arith)
get_take (suc m) [] k h = refl
get_take (suc m) (x ∷ xs) zero h = refl
get_take (suc m) (x ∷ xs) (suc k) h = get_take m xs k (omega arith)

-- an element of a part is an element of the list
get_range : (xs : List Instr) (a e n : ℕ) → a ≤ n → n < e → slice_get (slice_range xs a e) (n - a) ≡ slice_get xs n
get_range xs a e n l h = get_take (e - a) (drop a xs) (n - a) (omega arith) ∙ get_dropped a xs (n - a)
    ∙ (let q : a + (n - a) ≡ n = omega arith in ap (slice_get xs) q)

-- the front of a part is a part of the list
front_range : (xs : List Instr) (a e n : ℕ) → a ≤ n → n ≤ e → take (n - a) (slice_range xs a e) ≡ slice_range xs a n
front_range xs a e n l h = take_take (n - a) (e - a) (drop a xs) (omega arith)

-- OBJECTS

pub comes_on : (o s t : Object) → ComesFrom o s → ComesFrom s t → ComesFrom o t
comes_on o s _ h itself = h
comes_on o s _ h (exchange {s = t} b k g p) = exchange b k (comes_on o s t h g) p

module _ (o : Object) (spelled : IsSpellable o) where
  -- blocks end at the same places if the number of instructions is the same
  end_is : (xs : List Instr) (b : ℕ) → length xs ≡ length o.instrs → block_end (with_instrs o xs) b ≡ block_end o b
  end_is xs b l = ap (unwrap_or (option_map start_of (slice_get o.blocks (suc b)))) l

  rows_at : ℕ → ℕ
  rows_at b = length (queue_rows o (block_type o b))

  permitted_of : (xs : List Instr) (b n : ℕ) → length xs ≡ length o.instrs → b < length o.blocks →
      IsPermittedAt (length (queue_rows o (block_type o b))) (block_start o b) (block_end o b) xs n →
      IsPermitted (with_instrs o xs) b (n - block_start o b)
  permitted_of xs b n l h p =
      let low = p.low in
      let high = p.high in
      let e = end_is xs b l in
      let a = block_start o b in
      let instrs : block_instrs (with_instrs o xs) b ≡ slice_range xs a (block_end o b) = ap (slice_range xs a) e in
      let next : suc n - a ≡ suc (n - a) = omega arith in
      record {
        first = p.first;
        second = p.second;
        block = h;
        first_there = ap (λ (z : List Instr). slice_get z (n - a)) instrs
            ∙ get_range xs a (block_end o b) n low (omega arith) ∙ p.first_there;
        second_there = ap (λ (z : List Instr). slice_get z (suc (n - a))) instrs
            ∙ ap (slice_get (slice_range xs a (block_end o b))) (sym next)
            ∙ get_range xs a (block_end o b) (suc n) (omega arith) high ∙ p.second_there;
        may = subst (λ (z : List Instr). may_exchange (queue_after (length (queue_rows o (block_type o b))) z) p.first
            p.second ≡ true) (sym (ap (take (n - a)) instrs ∙ front_range xs a (block_end o b) n low (omega arith)))
            p.may;
      }

  permitted_at : (xs : List Instr) (b k : ℕ) → length xs ≡ length o.instrs → IsPermitted (with_instrs o xs) b k →
      IsPermittedAt (length (queue_rows o (block_type o b))) (block_start o b) (block_end o b) xs (block_start o b + k)
  permitted_at xs b k l p =
      let a = block_start o b in
      let e = end_is xs b l in
      let f = get-range xs a (block_end (with_instrs o xs) b) k p.first p.first_there in
      let g = get-range xs a (block_end (with_instrs o xs) b) (suc k) p.second p.second_there in
      let next : a + suc k ≡ suc (a + k) = omega arith in
      let g_low = g.0 in
      let instrs : block_instrs (with_instrs o xs) b ≡ slice_range xs a (block_end o b) = ap (slice_range xs a) e in
      let back : a + k - a ≡ k = omega arith in
      let front : take k (block_instrs (with_instrs o xs) b) ≡ slice_range xs a (a + k) = ap (take k) instrs
      ∙ ap (λ j. take j (slice_range xs a (block_end o b))) (sym back)
      ∙ front_range xs a (block_end o b) (a + k) (omega arith) (omega arith) in
      record {
        first = p.first;
        second = p.second;
        low = omega arith;
        high = omega arith;
        first_there = f.1;
        second_there = ap (slice_get xs) (sym next) ∙ g.1;
        may = subst (λ (z : List Instr). may_exchange (queue_after (length (queue_rows o (block_type o b))) z) p.first
            p.second ≡ true) front p.may;
      }

  pub comes_of : (b : ℕ) (xs : List Instr) → length xs ≡ length o.instrs → b < length o.blocks → (ys : List Instr) →
      Reaches (length (queue_rows o (block_type o b))) (block_start o b) (block_end o b) xs ys →
      ComesFrom (with_instrs o xs) (with_instrs o ys)
  comes_of b xs l h _ stays = itself
  comes_of b xs l h _ (exchanges {js = js} n g p) =
      let a = block_start o b in
      let low = p.low in
      let q : a + (n - a) ≡ n = omega arith in
      let m : length js ≡ length o.instrs = length_reached (length (queue_rows o (block_type o b))) a (block_end o b) xs
      js g ∙ l in
      subst (λ z. ComesFrom (with_instrs o xs) (with_instrs o (exchanged js z))) q
      (exchange b (n - a) (comes_of b xs l h js g) (permitted_of js b n m h p))

  -- exchanges in a block leave every part before it unchanged
  range_reached : (rows start past a e : ℕ) (xs ys : List Instr) → a ≤ start → e ≤ start →
      Reaches rows start past xs ys → slice_range ys a e ≡ slice_range xs a e
  range_reached rows start past a e xs _ h l stays = refl
  range_reached rows start past a e xs _ h l (exchanges {js = js} n g p) = (let low = p.low in
      range_before js n a e (omega arith) (omega arith)) ∙ range_reached rows start past a e xs js h l g

  earlier : (xs ys : List Instr) (rows b j k : ℕ) (x : Block) → length xs ≡ length o.instrs → slice_get o.blocks b
      ≡ Some x → j < b → Reaches rows (block_start o b) (block_end o b) xs ys → IsPermitted (with_instrs o ys) j k →
      IsPermitted (with_instrs o xs) j k
  earlier xs ys rows b j k x l there lt r p =
      let m : length ys ≡ length o.instrs = length_reached rows (block_start o b) (block_end o b) xs ys r ∙ l in
      let start = start_is o b x there in
      let ends = ends_before o j b x spelled there lt in
      let begins : block_start o j ≤ block_start o b = elim (slice_get_cases o.blocks j).1 [
        | inl y ↦ (let s = start_is o j y.0 y.2 in let t = starts_rise o j b y.0 x spelled y.2 there (omega arith) in
            omega arith)
        | inr n ↦ (let w = slice_get_within o.blocks b x there in let v = n.0 in absurd (omega arith))
      ] in
      let same : block_instrs (with_instrs o ys) j ≡ block_instrs (with_instrs o xs) j =
      ap (slice_range ys (block_start o j)) (end_is ys j m)
      ∙ range_reached rows (block_start o b) (block_end o b) (block_start o j) (block_end o j) xs ys begins
      (omega arith) r ∙ sym (ap (slice_range xs (block_start o j)) (end_is xs j l)) in
      record {
        first = p.first;
        second = p.second;
        block = p.block;
        first_there = ap (λ (z : List Instr). slice_get z k) (sym same) ∙ p.first_there;
        second_there = ap (λ (z : List Instr). slice_get z (suc k)) (sym same) ∙ p.second_there;
        may = subst (λ (z : List Instr). may_exchange (queue_after (length (queue_rows o (block_type o j))) (take k z))
            p.first p.second ≡ true) same p.may;
      }

  -- if no permitted exchange is left in block b and in those before it, none is left in the blocks below b + 1
  pub none_on : (xs ys : List Instr) (b : ℕ) (x : Block) → length xs ≡ length o.instrs → slice_get o.blocks b ≡ Some x →
      Reaches (length (queue_rows o (block_type o b))) (block_start o b) (block_end o b) xs ys →
      HasNone (length (queue_rows o (block_type o b))) (block_start o b) (block_end o b) ys →
      ((j k : ℕ) → j < b → IsPermitted (with_instrs o xs) j k → ⊥) → (j k : ℕ) → j < b + 1 →
      IsPermitted (with_instrs o ys) j k → ⊥
  none_on xs ys b x l there r none before j k lt p =
      let m : length ys ≡ length o.instrs = length_reached (length (queue_rows o (block_type o b))) (block_start o b)
      (block_end o b) xs ys r ∙ l in
      ⊎_elim
      (λ (below : j < b). before j k below (earlier xs ys (length (queue_rows o (block_type o b))) b j k x l there below
      r p))
      (λ (ge : b ≤ j).
      let e : j ≡ b = omega arith in
      let p' = subst (λ i. IsPermitted (with_instrs o ys) i k) e p in
      none (block_start o b + k) (permitted_at ys b k m p'))
      (cases_lt j b)

  -- a block ends within the code
  pub end_few : (b : ℕ) (x : Block) → slice_get o.blocks b ≡ Some x → block_end o b ≤ length o.instrs
  end_few b x there = elim (slice_get_cases o.blocks (suc b)).1 [
    | inl y ↦ (let s : block_end o b ≡ y.0.start = ap (λ u. unwrap_or (option_map start_of u) (length o.instrs)) y.2 in
        let l = below_end (length o.instrs) 0 o.blocks (suc b) y.0 spelled.blocks y.2 in omega arith)
    | inr n ↦ (let s : block_end o b ≡ length o.instrs = ap (λ u. unwrap_or (option_map start_of u) (length o.instrs))
        n.1 in omega arith)
  ]

  -- a block doesn't end before it begins
  pub start_within : (b : ℕ) (x : Block) → slice_get o.blocks b ≡ Some x → x.start ≤ block_end o b
  start_within b x there = elim (slice_get_cases o.blocks (suc b)).1 [
    | inl y ↦ (let s : block_end o b ≡ y.0.start = ap (λ u. unwrap_or (option_map start_of u) (length o.instrs)) y.2 in
        let l = starts_rise o b (suc b) x y.0 spelled there y.2 (omega arith) in omega arith)
    | inr n ↦ (let s : block_end o b ≡ length o.instrs = ap (λ u. unwrap_or (option_map start_of u) (length o.instrs))
        n.1 in let l = below_end (length o.instrs) 0 o.blocks b x spelled.blocks there in omega arith)
  ]

  pub rows_few : (t : ℕ) (x : CodeType) → slice_get o.types t ≡ Some x → length (queue_rows o t) ≤ 8
  rows_few t x e =
      let s : length (queue_rows o t) ≡ length x.queue = ap (λ u. length (unwrap_or (option_map queue_of u) [])) e in
      let l = (all_there (IsCodeType (length o.types) o.nodes) o.types t x spelled.types e).queue_length in
      omega arith

  pub type_there : (b : ℕ) (x : Block) → slice_get o.blocks b ≡ Some x → x.code_type < length o.types
  type_there b x e = all_there (HasCodeType (length o.types)) o.blocks b x spelled.block_types e

  pub type_is : (b : ℕ) (x : Block) → slice_get o.blocks b ≡ Some x → block_type o b ≡ x.code_type
  type_is b x e = ap (λ u. unwrap_or (option_map code_type_of u) 0) e

-- a code type's head gives the number of its queue rows
rows_of_head : (u : Option CodeType) (h : TypeHead) → option_map type_head_of u ≡ Some h → h.queue
    ≡ length (unwrap_or (option_map queue_of u) [])
rows_of_head None h e = cc
rows_of_head (Some x) h e = (let same : type_head_of x ≡ h = cc in sym (ap (λ (z : TypeHead). z.queue) same))

-- what the loop over blocks knows of block b
pub record OfBlock (o : Object) (b start past rows : ℕ) : Type 0 where
  pub block : Block
  pub there : slice_get o.blocks b ≡ Some block
  pub start_is : start ≡ block_start o b
  pub past_is : past ≡ block_end o b
  pub rows_are : rows ≡ length (queue_rows o (block_type o b))
  pub rises : start ≤ past
  pub past_few : past ≤ length o.instrs
  pub rows_few : rows ≤ 8

pub of_block : (o : Object) (b : ℕ) (x : Block) (past : ℕ) (h : TypeHead) → IsSpellable o → slice_get o.blocks b
    ≡ Some x → past ≡ block_end o b → option_map type_head_of (slice_get o.types x.code_type) ≡ Some h →
    OfBlock o b (block_start o b) past h.queue
of_block o b x past h spelled there e t =
    let rows = rows_of_head (slice_get o.types x.code_type) h t in
    let kind = type_is o spelled b x there in
    let same : h.queue ≡ length (queue_rows o (block_type o b)) = rows ∙ sym (ap (λ k. length (queue_rows o k)) kind) in
    let ends = end_few o spelled b x there in
    let below = type_there o spelled b x there in
    let few : length (queue_rows o x.code_type) ≤ 8 = elim (slice_get_cases o.types x.code_type).1 [
      | inl y ↦ rows_few o spelled x.code_type y.0 y.2
      | inr n ↦ (let v = n.0 in absurd (omega arith))
    ] in
    record {
      block = x;
      there = there;
      start_is = refl;
      past_is = e;
      rows_are = same;
      rises = (let l = start_within o spelled b x there in let s = start_is o b x there in omega arith);
      past_few = omega arith;
      rows_few = omega (arith, rows);
    }

moved3 : (P : ℕ → ℕ → ℕ → Type 0) (a b c a' b' c' : ℕ) → a ≡ a' → b ≡ b' → c ≡ c' → P a b c → P a' b' c'
moved3 P a b c a' b' c' e f g h = subst (λ x. P x b' c') e (subst (λ y. P a y c') f (subst (λ z. P a b z) g h))

module _ (o : Object) (spelled : IsSpellable o) (b start past rows : ℕ) (xs ys : List Instr)
    (f : OfBlock o b start past rows) (l : length xs ≡ length o.instrs) where
  pub turn_comes : Reaches rows start past xs ys → ComesFrom o (with_instrs o xs) → ComesFrom o (with_instrs o ys)
  turn_comes r h =
      comes_on o (with_instrs o xs) (with_instrs o ys) h
      (comes_of o spelled b xs l (slice_get_within o.blocks b f.block f.there) ys
      (moved3 (λ x y z. Reaches x y z xs ys) rows start past _ _ _ f.rows_are f.start_is f.past_is r))

  pub turn_none : Reaches rows start past xs ys → HasNone rows start past ys →
      ((j k : ℕ) → j < b → IsPermitted (with_instrs o xs) j k → ⊥) → (j k : ℕ) → j < b + 1 →
      IsPermitted (with_instrs o ys) j k → ⊥
  turn_none r n before = none_on o spelled xs ys b f.block l f.there
      (moved3 (λ x y z. Reaches x y z xs ys) rows start past _ _ _ f.rows_are f.start_is f.past_is r)
      (moved3 (λ x y z. HasNone x y z ys) rows start past _ _ _ f.rows_are f.start_is f.past_is n) before
