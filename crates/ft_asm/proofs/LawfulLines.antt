-- Each line of an object that obeys the rules fits, and its instructions are read back from their lines.
use Rattle.std.proofs.Common.{◌≡◌, inl, inr, ℕ, zero, suc, ◌+◌, ◌-◌, ◌≤◌, ◌==◌, nat_le, true, false, ◌&&◌, ◌||◌, List}
use Rattle.std.proofs.Common.{[], ◌∷◌, ◌++◌, length, map, take, drop, Option, None, Some, refl, ap, sym, ◌∙◌, subst}
use Rattle.std.proofs.Common.{arith}
use Rattle.std.specs.Prelude.{slice_get, slice_range}
use Rattle.std.specs.List.{AllByRecursion, flat_map, list_all}
use Rattle.std.proofs.lemmas.Bool.{and_parts, leb-true, eqb-true, or_cases}
use Rattle.std.proofs.lemmas.List.{length-take-le, length-drop, take_rest, drop_all}
use Rattle.std.proofs.lemmas.List.Folds.{drop_split}
use Rattle.std.proofs.lemmas.List.Elements.{recursion_from_All}
use Rattle.std.proofs.lemmas.Option.{slice_get_within}
use Rattle.ft_isa.specs.declared.instr.Instr.{Instr}
use Rattle.ft_isa.specs.declared.instr.Instr.TheVariants as instrs
use Rattle.ft_isa.specs.declared.instr.Subst.{Subst}
use Rattle.ft_isa.proofs.Lists.{all_append}
use Rattle.ft_static.specs.declared.node.Node.{Node}
use Rattle.ft_static.specs.NodeRules.{AreNodes}
use Rattle.ft_types.specs.declared.object.Cell.{Cell}
use Rattle.ft_types.specs.declared.object.CodeType.{CodeType}
use Rattle.ft_types.specs.declared.object.RegType.{RegType}
use Rattle.ft_types.specs.Spellable.{is_letter, is_digit, is_bracket, is_name_byte, is_name, IsCell, IsRegRow}
use Rattle.ft_types.specs.Spellable.{IsQueueRow, IsCodeType, IsInstr, subst_of, IsSubst, before, substs_of, Cover}
use Rattle.ft_asm.specs.declared.line.Line.TheVariants as lines
use Rattle.ft_format.specs.Codes.{Is32}
use Rattle.ft_format.specs.InstrRecords.{FitsInstr}
use Rattle.ft_format.proofs.Codes.{basic_fits}
use Rattle.ft_format.proofs.Nodes.{named_fits, shape_fits}
use Rattle.ft_asm.specs.Lines.{placed, FitsRows, FitsCode, FitsLine}
use Rattle.ft_asm.specs.Words.{HasParts, IsAnyWord}
use Rattle.ft_asm.specs.Listings.{pend_line, type_lines, rows_of, instr_at, instrs_from, rows_in, code_of}
use Rattle.ft_asm.proofs.Texts.{part_from}

-- LISTS

pub all_map : {A B : Type 0} (P : B → Type 0) (f : A → B) (Q : A → Type 0) → ((x : A) → Q x → P (f x)) → (xs : List A) →
    AllByRecursion Q xs → AllByRecursion P (map f xs)
all_map P f Q g [] h = tt
all_map P f Q g (x ∷ xs) h = (g x h.0, all_map P f Q g xs h.1)

pub all_flat : {A B : Type 0} (P : B → Type 0) (f : A → List B) (Q : A → Type 0) →
    ((x : A) → Q x → AllByRecursion P (f x)) → (xs : List A) → AllByRecursion Q xs → AllByRecursion P (flat_map f xs)
all_flat P f Q g [] h = tt
all_flat P f Q g (x ∷ xs) h = all_append P (f x) (flat_map f xs) (g x h.0) (all_flat P f Q g xs h.1)

all_got : {A : Type 0} (P : A → Type 0) (xs : List A) → ((i : ℕ) (x : A) → slice_get xs i ≡ Some x → P x) →
    AllByRecursion P xs
all_got P [] h = tt
all_got P (x ∷ xs) h = (h 0 x refl, all_got P xs (λ i y e. h (suc i) y e))

pub all_taken : {A : Type 0} (P : A → Type 0) (n : ℕ) (xs : List A) → AllByRecursion P xs → AllByRecursion P (take n xs)
all_taken P zero xs h = tt
all_taken P (suc n) [] h = tt
all_taken P (suc n) (x ∷ xs) h = (h.0, all_taken P n xs h.1)

pub all_dropped : {A : Type 0} (P : A → Type 0) (n : ℕ) (xs : List A) → AllByRecursion P xs →
    AllByRecursion P (drop n xs)
all_dropped P zero xs h = h
all_dropped P (suc n) [] h = tt
all_dropped P (suc n) (x ∷ xs) h = all_dropped P n xs h.1

pub range_length : {A : Type 0} (xs : List A) (a b : ℕ) → a ≤ b → b ≤ length xs → length (slice_range xs a b) ≡ b - a
range_length xs a b le lt = length-take-le (b - a) (drop a xs) (let rest = length-drop a xs in omega arith)

pub range_rest : {A : Type 0} (xs : List A) (a : ℕ) → slice_range xs a (length xs) ≡ drop a xs
range_rest xs a = take_rest xs a

-- WHAT FITS

range_high : (low high b : ℕ) → 48 ≤ low → (nat_le low b && nat_le b high) ≡ true → 48 ≤ b
range_high low high b h e = let below = leb-true low b (and_parts (nat_le low b) (nat_le b high) e).0 in omega arith

letter_high : (b : ℕ) → is_letter b ≡ true → 48 ≤ b
letter_high b e = elim (or_cases ((nat_le 65 b && nat_le b 90) || (nat_le 97 b && nat_le b 122)) (b == 95) e) [
  | inl letter ↦ elim (or_cases (nat_le 65 b && nat_le b 90) (nat_le 97 b && nat_le b 122) letter) [
    | inl upper ↦ range_high 65 90 b (omega arith) upper
    | inr lower ↦ range_high 97 122 b (omega arith) lower
  ]
  | inr line ↦ let is = eqb-true b 95 line in omega arith
]

name_byte_high : (b : ℕ) → is_name_byte b ≡ true → 48 ≤ b
name_byte_high b e = elim (or_cases (is_letter b || is_digit b) (is_bracket b) e) [
  | inl plain ↦ elim (or_cases (is_letter b) (is_digit b) plain) [
    | inl letter ↦ letter_high b letter
    | inr digit ↦ range_high 48 57 b (omega arith) digit
  ]
  | inr bracket ↦ elim (or_cases (b == 91) (b == 93) bracket) [
    | inl begins ↦ let is = eqb-true b 91 begins in omega arith
    | inr ends ↦ let is = eqb-true b 93 ends in omega arith
  ]
]

name_parts : (bs : List ℕ) → list_all is_name_byte bs ≡ true → HasParts bs
name_parts [] e = tt
name_parts (b ∷ bs) e =
    let parts = and_parts (is_name_byte b) (list_all is_name_byte bs) e in
    let high = name_byte_high b parts.0 in
    (part_from b (omega arith), name_parts bs parts.1)

name_is_word : (name : List ℕ) → is_name name ≡ true → IsAnyWord name
name_is_word [] e = absurd cc
name_is_word (b ∷ bs) e =
    let parts = and_parts (is_letter b) (list_all is_name_byte bs) e in
    let high = letter_high b parts.0 in
    (omega arith, (part_from b (omega arith), name_parts bs parts.1))

pub nodes_fit : (nodes : List Node) → AreNodes nodes → AllByRecursion FitsLine (map lines.Node nodes)
nodes_fit nodes h =
    all_map FitsLine lines.Node (λ n. FitsLine (lines.Node n)) (λ n f. f) nodes
    (all_got (λ n. FitsLine (lines.Node n)) nodes
    (λ i n e.
    let is = h.each i n e in
    let few = h.few in
    let small = is.scope in
    let low = slice_get_within nodes i n e in
    (omega arith, shape_fits nodes i n.scope n.shape (omega arith) is.scope is.shape)))

module _ (types : ℕ) (nodes : List Node) (few_types : types ≤ 4096) (few_nodes : length nodes ≤ 1048576) where
  pub cell_fits : (c : Cell) → IsCell types c → FitsLine (lines.Cell c)
  cell_fits c h = (name_is_word c.name h.name, (basic_fits types c.basic few_types h.basic, h.init))

  reg_fits : (scope : ℕ) (r : RegType) → IsRegRow types nodes scope r → FitsLine (lines.Reg r)
  reg_fits scope r h = (
    basic_fits types r.basic few_types h.basic,
    named_fits nodes (length nodes) scope false r.expr few_nodes h.expr,
  )

  pend_fits : (scope : ℕ) (q : ℕ × ℕ) → IsQueueRow nodes scope q → FitsLine (pend_line q)
  pend_fits scope q h = (
    named_fits nodes (length nodes) scope false q.0 few_nodes h.address,
    named_fits nodes (length nodes) scope false q.1 few_nodes h.value,
  )

  pub type_fits : (t : CodeType) → IsCodeType types nodes t → AllByRecursion FitsLine (type_lines t)
  type_fits t h =
      let few = h.ints in (
        (omega arith, named_fits nodes (length nodes) t.ints true t.memory few_nodes h.memory),
        all_append FitsLine (map lines.Reg t.regs) (map pend_line t.queue)
            (all_map FitsLine lines.Reg (IsRegRow types nodes t.ints) (reg_fits t.ints) t.regs
            (recursion_from_All (IsRegRow types nodes t.ints) t.regs h.regs))
            (all_map FitsLine pend_line (IsQueueRow nodes t.ints) (pend_fits t.ints) t.queue
            (recursion_from_All (IsQueueRow nodes t.ints) t.queue h.queue)),
      )

  -- INSTRUCTIONS

  module _ (cells : ℕ) (few_cells : cells ≤ 1024) (substs : List ℕ) (rows_fit : AllByRecursion Is32 substs) where
    -- what is proved of one instruction: it fits, it is recovered, and its rows precede those of later instructions
    record OneShown (first : ℕ) (i : Instr) (rest : List Subst) : Type 0 where
      fits : FitsCode (code_of substs i)
      back : instr_at first (code_of substs i) ≡ i
      rows : rows_of (code_of substs i) ++ drop (first + length (rows_of (code_of substs i))) substs ≡ drop first substs
      covers : Cover nodes (length substs) (first + length (rows_of (code_of substs i))) rest

    some_length : (first : ℕ) (s : Subst) → IsSubst nodes (length substs) first s →
        first + length (slice_range substs s.first s.past) ≡ s.past
    some_length first s h =
        let long = range_length substs s.first s.past h.rising h.there in
        let at = h.first_is in
        let up = h.rising in
        omega arith

    -- what is proved of an instruction's rows and of those after them
    record RowsShown (first : ℕ) (s : Option Subst) (rest : List Subst) : Type 0 where
      fit : FitsRows (rows_in substs s) s
      rows : rows_in substs s ++ drop (first + length (rows_in substs s)) substs ≡ drop first substs
      covers : Cover nodes (length substs) (first + length (rows_in substs s)) rest

    rows_shown : (first : ℕ) (s : Option Subst) (rest : List Subst) →
        Cover nodes (length substs) first (before s rest) → RowsShown first s rest
    rows_shown first None rest c =
        let same : first ≡ first + 0 = omega arith in
        record {
          fit = refl;
          rows = ap (λ n. drop n substs) (sym same);
          covers = subst (λ n. Cover nodes (length substs) n rest) same c;
        }
    rows_shown first (Some s) rest c =
        let long = some_length first s c.0 in
        record {
          fit = all_taken Is32 (s.past - s.first) (drop s.first substs) (all_dropped Is32 s.first substs rows_fit);
          rows = ap (λ n. slice_range substs s.first s.past ++ drop n substs) long
              ∙ sym (drop_split substs s.first s.past c.0.rising) ∙ ap (λ n. drop n substs) c.0.first_is;
          covers = subst (λ n. Cover nodes (length substs) n rest) (sym long) c.1;
        }

    memory_fits : (first : ℕ) (s : Subst) → IsSubst nodes (length substs) first s → Is32 s.memory
    memory_fits first s h = named_fits nodes (length nodes) 128 true s.memory few_nodes h.memory

    numbers_fit : (first : ℕ) (i : Instr) (rest : List Subst) → IsInstr types cells i →
        Cover nodes (length substs) first (before (subst_of i) rest) → FitsInstr (placed 0 0 i)
    numbers_fit first (instrs.Mov rd basic value) rest h c = (h.0, basic_fits types basic few_types h.1)
    numbers_fit first (instrs.JmpB rd s) rest h c = (omega arith, omega arith, memory_fits first s c.0)
    numbers_fit first (instrs.BzB rz rd s) rest h c = (omega arith, omega arith, memory_fits first s c.0)
    numbers_fit first (instrs.Idx rd rs x m) rest h c = (
      let begins = h.begins in omega arith,
      let short = h.length.1 in omega arith,
    )
    numbers_fit first i rest h c = h

    subst_back : (first : ℕ) (s : Subst) → IsSubst nodes (length substs) first s →
        record {
          first = first;
          past = first + length (slice_range substs s.first s.past);
          memory = s.memory;
        } ≡ s
    subst_back first s h =
        ap (λ n. record { first = first; past = n; memory = s.memory }) (some_length first s h)
        ∙ ap (λ n. record { first = n; past = s.past; memory = s.memory }) (sym h.first_is)

    instr_back : (first : ℕ) (i : Instr) (rest : List Subst) →
        Cover nodes (length substs) first (before (subst_of i) rest) → instr_at first (code_of substs i) ≡ i
    instr_back first (instrs.JmpB rd s) rest c = ap (instrs.JmpB rd) (subst_back first s c.0)
    instr_back first (instrs.BzB rz rd s) rest c = ap (instrs.BzB rz rd) (subst_back first s c.0)
    instr_back first i rest c = refl

    placed_twice : (i : Instr) → placed 0 0 (placed 0 0 i) ≡ placed 0 0 i
    placed_twice (instrs.JmpB rd s) = refl
    placed_twice i = refl

    still_fit : (rows : List ℕ) (i : Instr) → FitsRows rows (subst_of i) → FitsRows rows (subst_of (placed 0 0 i))
    still_fit rows (instrs.JmpB rd s) h = h
    still_fit rows i h = h

    one_shown : (first : ℕ) (i : Instr) (rest : List Subst) → IsInstr types cells i →
        Cover nodes (length substs) first (before (subst_of i) rest) → OneShown first i rest
    one_shown first i rest h c =
        let rows = rows_shown first (subst_of i) rest c in
        record {
          fits = record {
            instr = numbers_fit first i rest h c;
            apart = placed_twice i;
            rows = still_fit (rows_in substs (subst_of i)) i rows.fit;
          };
          back = instr_back first i rest c;
          rows = rows.rows;
          covers = rows.covers;
        }

    -- what is proved of all instructions
    pub record AllShown (first : ℕ) (is : List Instr) : Type 0 where
      pub fits : AllByRecursion (λ i. FitsCode (code_of substs i)) is
      pub back : instrs_from first (map (code_of substs) is) ≡ is
      pub rows : flat_map rows_of (map (code_of substs) is) ≡ drop first substs

    pub all_shown : (first : ℕ) (is : List Instr) → AllByRecursion (IsInstr types cells) is →
        Cover nodes (length substs) first (substs_of is) → AllShown first is
    all_shown first [] h c = record {
      fits = tt;
      back = refl;
      rows = (let end = drop_all (length substs) substs (omega arith) in sym end ∙ ap (λ n. drop n substs) (sym c));
    }
    all_shown first (i ∷ is) h c =
        let one = one_shown first i (substs_of is) h.0 c in
        let rest = all_shown (first + length (rows_of (code_of substs i))) is h.1 one.covers in
        record {
          fits = (one.fits, rest.fits);
          back = ap (λ x. x ∷ instrs_from (first + length (rows_of (code_of substs i))) (map (code_of substs) is))
              one.back ∙ ap (λ xs. i ∷ xs) rest.back;
          rows = ap (λ l. rows_of (code_of substs i) ++ l) rest.rows ∙ one.rows;
        }
