-- Converting register rows, queue rows, blocks and substitution rows to records, and back.
use Rattle.std.proofs.Common.{◌≡◌, ℕ, suc, ◌+◌, ◌<◌, ◌≤◌, false, List, [], ◌∷◌, length, map, Option, None, Some, refl}
use Rattle.std.proofs.Common.{sym, ap, subst, arith}
use Rattle.std.specs.Prelude.{◌==◌, nat_le, nat_lt}
use Rattle.std.specs.List.{AllByRecursion}
use Rattle.ft_static.specs.declared.node.Node.{Node}
use Rattle.ft_types.specs.declared.object.Block.{Block}
use Rattle.ft_types.specs.declared.object.RegType.{RegType}
use Rattle.ft_types.specs.Spellable.{IsNodeIn, IsRegRow, AreRising, IsQueueRow, HasCodeType, AreBlocks, BeginAtZero}
use Rattle.ft_format.specs.declared.object_error.ObjectError.{ObjectError}
use Rattle.ft_format.specs.declared.object_error.ObjectError.TheVariants as errors
use Rattle.ft_format.specs.declared.header.Header.{Header}
use Rattle.ft_format.specs.Layout.{reg_layout, pair_layout, subst_layout}
use Rattle.ft_format.specs.Rules.{must, ◌next◌, zero_broken, register_broken, colour_broken, basic_broken}
use Rattle.ft_format.specs.Rules.{node_number_broken, named_broken, reg_broken, queue_broken, may_begin, block_broken}
use Rattle.ft_format.specs.Rows.{reg_row, queue_row, block_row, subst_row}
use Rattle.ft_format.specs.Values.{reg_type_of, pair_of, block_of, subst_node_of}
use Rattle.ft_format.specs.Broken.{first_of_row, type_regs_broken, type_queue_broken, blocks_broken, subst_rows_broken}
use Rattle.ft_format.proofs.Layouts.{Fit, AllFit}
use Rattle.ft_format.proofs.Unbroken.{both}
use Rattle.ft_format.proofs.Codes.{le_held, lt_held, eq_held, le_true, lt_true, eq_true, colour_again, colour_back}
use Rattle.ft_format.proofs.Codes.{colour_fine, register_again, register_back, register_fine, basic_again, basic_fine}
use Rattle.ft_format.proofs.Codes.{basic_back, colour_small, base_small, type_small}
use Rattle.ft_format.proofs.References.{AreNarrowNodes, number_again, number_fine, named_again, named_fine}
use Rattle.ft_format.proofs.Nodes.{same_seven}

-- what holds of a valid record and of the register row that it encodes
pub record RegAgain (types : ℕ) (nodes : List Node) (ints least : ℕ) (row : List ℕ) : Type 0 where
  pub written : reg_row (reg_type_of row) ≡ row
  pub reg : IsRegRow types nodes ints (reg_type_of row)
  pub rises : least ≤ (reg_type_of row).reg.number
  pub number : (reg_type_of row).reg.number ≡ first_of_row row

reg_again : (types : ℕ) (nodes : List Node) (ints least at : ℕ) (row : List ℕ) → Fit reg_layout row →
    reg_broken types nodes ints least at row ≡ None → RegAgain types nodes ints least row
reg_again types nodes ints least at (reg ∷ colour ∷ pad ∷ refs ∷ base ∷ code_type ∷ expr ∷ []) fit n =
    let expr_rule = named_broken nodes ints false (at + 8) expr in
    let basic_rule = basic_broken types (at + 4) refs base code_type in
    let r1 = both (register_broken at reg) (must (nat_le least reg) (errors.Order at) next
    (colour_broken (at + 1) colour next (zero_broken (at + 2) pad next (basic_rule next expr_rule)))) n in
    let r2 = both (must (nat_le least reg) (errors.Order at))
    (colour_broken (at + 1) colour next (zero_broken (at + 2) pad next (basic_rule next expr_rule))) r1.1 in
    let r3 = both (colour_broken (at + 1) colour) (zero_broken (at + 2) pad next (basic_rule next expr_rule)) r2.1 in
    let r4 = both (zero_broken (at + 2) pad) (basic_rule next expr_rule) r3.1 in
    let r5 = both basic_rule expr_rule r4.1 in
    let number = register_again at reg r1.0 in
    let basic = basic_again types (at + 4) refs base code_type r5.0 in
    record {
      written = same_seven number (colour_again (at + 1) colour r3.0) (sym (eq_held pad 0 (errors.Pad (at + 2)) r4.0))
          refl basic.code basic.own refl;
      reg = record { basic = basic.basic; expr = named_again nodes ints false (at + 8) expr r5.1 };
      rises = subst (λ k. least ≤ k) (sym number) (le_held least reg (errors.Order at) r2.0);
      number = number;
    }
reg_again types nodes ints least at [] fit none = absurd fit
reg_again types nodes ints least at (a ∷ []) fit none = absurd fit.1
reg_again types nodes ints least at (a ∷ b ∷ []) fit none = absurd fit.1.1
reg_again types nodes ints least at (a ∷ b ∷ c ∷ []) fit none = absurd fit.1.1.1
reg_again types nodes ints least at (a ∷ b ∷ c ∷ d ∷ []) fit none = absurd fit.1.1.1.1
reg_again types nodes ints least at (a ∷ b ∷ c ∷ d ∷ e ∷ []) fit none = absurd fit.1.1.1.1.1
reg_again types nodes ints least at (a ∷ b ∷ c ∷ d ∷ e ∷ f ∷ []) fit none = absurd fit.1.1.1.1.1.1
reg_again types nodes ints least at (a ∷ b ∷ c ∷ d ∷ e ∷ f ∷ g ∷ z ∷ zs) fit none = absurd fit.1.1.1.1.1.1.1

-- what holds of the valid register rows of one type
pub record RegsAgain (types : ℕ) (nodes : List Node) (ints least : ℕ) (rs : List (List ℕ)) : Type 0 where
  pub written : map reg_row (map reg_type_of rs) ≡ rs
  pub regs : AllByRecursion (IsRegRow types nodes ints) (map reg_type_of rs)
  pub rising : AreRising least (map reg_type_of rs)

pub regs_again : (types : ℕ) (nodes : List Node) (ints least at : ℕ) (rs : List (List ℕ)) → AllFit reg_layout rs →
    type_regs_broken types nodes ints least at rs ≡ None → RegsAgain types nodes ints least rs
unfolding type_regs_broken
regs_again types nodes ints least at [] fit n = record { written = refl; regs = tt; rising = tt }
regs_again types nodes ints least at (r ∷ rs) fit n =
    let parts = both (reg_broken types nodes ints least at r)
    (type_regs_broken types nodes ints (first_of_row r + 1) (at + 12) rs) n in
    let here = reg_again types nodes ints least at r fit.0 parts.0 in
    let after = regs_again types nodes ints (first_of_row r + 1) (at + 12) rs fit.1 parts.1 in
    let next_least : first_of_row r + 1 ≡ suc (reg_type_of r).reg.number = omega (arith, here.number) in
    record {
      written = rw (here.written, after.written) refl;
      regs = (here.reg, after.regs);
      rising = (here.rises, subst (λ k. AreRising k (map reg_type_of rs)) next_least after.rising);
    }

-- the records of register rows break no rule, and decode to these rows
pub record RegsFine (types : ℕ) (nodes : List Node) (ints least at : ℕ) (rs : List RegType) : Type 0 where
  pub unbroken : type_regs_broken types nodes ints least at (map reg_row rs) ≡ None
  pub back : map reg_type_of (map reg_row rs) ≡ rs
  pub fit : AllFit reg_layout (map reg_row rs)

pub reg_back : (r : RegType) → reg_type_of (reg_row r) ≡ r
reg_back r = rw (register_back r.reg, colour_back r.colour, basic_back r.basic) refl

reg_fine : (types : ℕ) (nodes : List Node) (ints least at : ℕ) (r : RegType) → IsRegRow types nodes ints r →
    least ≤ r.reg.number → reg_broken types nodes ints least at (reg_row r) ≡ None
reg_fine types nodes ints least at r h le =
    rw (
      register_fine at r.reg,
      le_true least r.reg.number le,
      colour_fine (at + 1) r.colour,
      basic_fine types (at + 4) r.basic h.basic,
      named_fine nodes ints false (at + 8) r.expr h.expr,
    ) refl

reg_fit : (types : ℕ) (nodes : List Node) (ints : ℕ) (r : RegType) → types ≤ 4096 → length nodes ≤ 1048576 →
    IsRegRow types nodes ints r → Fit reg_layout (reg_row r)
reg_fit types nodes ints r m k h = (
  omega (arith, r.reg.in_range),
  (
    omega (arith, colour_small r.colour),
    (
      omega arith,
      (
        omega (arith, h.basic.refs),
        (
          omega (arith, base_small r.basic.base),
          (type_small types r.basic.base m h.basic.base, (omega (arith, h.expr.lower), tt)),
        ),
      ),
    ),
  ),
)

pub regs_fine : (types : ℕ) (nodes : List Node) (ints least at : ℕ) (rs : List RegType) → types ≤ 4096 →
    length nodes ≤ 1048576 → AllByRecursion (IsRegRow types nodes ints) rs → AreRising least rs →
    RegsFine types nodes ints least at rs
unfolding type_regs_broken
regs_fine types nodes ints least at [] m k h up = record { unbroken = refl; back = refl; fit = tt }
regs_fine types nodes ints least at (r ∷ rs) m k h up =
    let next_least : suc r.reg.number ≡ r.reg.number + 1 = omega arith in
    let after = regs_fine types nodes ints (r.reg.number + 1) (at + 12) rs m k h.1
    (subst (λ l. AreRising l rs) next_least up.1) in
    record {
      unbroken = rw (reg_fine types nodes ints least at r h.0 up.0, after.unbroken) refl;
      back = rw (reg_back r, after.back) refl;
      fit = (reg_fit types nodes ints r m k h.0, after.fit);
    }

-- queue rows: a record is recovered from the pair that it encodes
pub pair_again : (row : List ℕ) → Fit pair_layout row → queue_row (pair_of row) ≡ row
pair_again (a ∷ b ∷ []) fit = refl
pair_again [] fit = absurd fit
pair_again (a ∷ []) fit = absurd fit.1
pair_again (a ∷ b ∷ z ∷ zs) fit = absurd fit.1.1

queue_ok : (nodes : List Node) (ints at : ℕ) (row : List ℕ) → Fit pair_layout row → queue_broken nodes ints at row
    ≡ None → IsQueueRow nodes ints (pair_of row)
queue_ok nodes ints at (a ∷ b ∷ []) fit n =
    let r = both (named_broken nodes ints false at a) (named_broken nodes ints false (at + 4) b) n in
    record { address = named_again nodes ints false at a r.0; value = named_again nodes ints false (at + 4) b r.1 }
queue_ok nodes ints at [] fit n = absurd fit
queue_ok nodes ints at (a ∷ []) fit n = absurd fit.1
queue_ok nodes ints at (a ∷ b ∷ z ∷ zs) fit n = absurd fit.1.1

pub queue_again : (nodes : List Node) (ints at : ℕ) (rs : List (List ℕ)) → AllFit pair_layout rs →
    type_queue_broken nodes ints at rs ≡ None → (map queue_row (map pair_of rs) ≡ rs)
    × AllByRecursion (IsQueueRow nodes ints) (map pair_of rs)
unfolding type_queue_broken
queue_again nodes ints at [] fit n = (refl, tt)
queue_again nodes ints at (r ∷ rs) fit n =
    let parts = both (queue_broken nodes ints at r) (type_queue_broken nodes ints (at + 8) rs) n in
    let after = queue_again nodes ints (at + 8) rs fit.1 parts.1 in
    (rw (pair_again r fit.0, after.0) refl, (queue_ok nodes ints at r fit.0 parts.0, after.1))

pub record QueueFine (nodes : List Node) (ints at : ℕ) (qs : List (ℕ × ℕ)) : Type 0 where
  pub unbroken : type_queue_broken nodes ints at (map queue_row qs) ≡ None
  pub back : map pair_of (map queue_row qs) ≡ qs
  pub fit : AllFit pair_layout (map queue_row qs)

pub queue_fine : (nodes : List Node) (ints at : ℕ) (qs : List (ℕ × ℕ)) → length nodes ≤ 1048576 →
    AllByRecursion (IsQueueRow nodes ints) qs → QueueFine nodes ints at qs
unfolding type_queue_broken
queue_fine nodes ints at [] k h = record { unbroken = refl; back = refl; fit = tt }
queue_fine nodes ints at (q ∷ qs) k h =
    let after = queue_fine nodes ints (at + 8) qs k h.1 in
    record {
      unbroken = rw (
        named_fine nodes ints false at q.0 h.0.address,
        named_fine nodes ints false (at + 4) q.1 h.0.value,
        after.unbroken,
      ) refl;
      back = ap (λ l. q ∷ l) after.back;
      fit = ((omega (arith, h.0.address.lower), (omega (arith, h.0.value.lower), tt)), after.fit);
    }

-- the earliest place where a block may begin
abbrev pub least_after : Option ℕ → ℕ
least_after None = 0
least_after (Some previous) = suc previous

begins_after : (previous : Option ℕ) (start : ℕ) (e : ObjectError) → must (may_begin previous start) e ≡ None →
    least_after previous ≤ start
begins_after None start e h = omega arith
begins_after (Some p) start e h = omega (arith, lt_held p start e h)

pub record BlocksAgain (h : Header) (previous : Option ℕ) (rs : List (List ℕ)) : Type 0 where
  pub written : map block_row (map block_of rs) ≡ rs
  pub blocks : AreBlocks h.instrs (least_after previous) (map block_of rs)
  pub types : AllByRecursion (HasCodeType h.types) (map block_of rs)

pub blocks_again : (h : Header) (previous : Option ℕ) (at : ℕ) (rs : List (List ℕ)) → AllFit pair_layout rs →
    blocks_broken h previous at rs ≡ None → BlocksAgain h previous rs
unfolding blocks_broken
blocks_again h previous at [] fit n = record { written = refl; blocks = tt; types = tt }
blocks_again h previous at ((start ∷ code_type ∷ []) ∷ rs) fit n =
    let rest = blocks_broken h (Some start) (at + 8) rs in
    let type_rule = must (nat_lt code_type h.types) (errors.Index (at + 4)) in
    let within_rule = must (nat_lt start h.instrs) (errors.Order at) in
    let r0 = both (block_broken h previous at (start ∷ code_type ∷ [])) rest n in
    let r1 = both (must (may_begin previous start) (errors.Order at)) (within_rule next type_rule) r0.0 in
    let r2 = both within_rule type_rule r1.1 in
    let after = blocks_again h (Some start) (at + 8) rs fit.1 r0.1 in
    record {
      written = ap (λ l. (start ∷ code_type ∷ []) ∷ l) after.written;
      blocks = (
        begins_after previous start (errors.Order at) r1.0,
        lt_held start h.instrs (errors.Order at) r2.0,
        after.blocks,
      );
      types = (lt_held code_type h.types (errors.Index (at + 4)) r2.1, after.types);
    }
blocks_again h previous at ([] ∷ rs) fit n = absurd fit.0
blocks_again h previous at ((a ∷ []) ∷ rs) fit n = absurd fit.0.1
blocks_again h previous at ((a ∷ b ∷ z ∷ zs) ∷ rs) fit n = absurd fit.0.1.1

-- the first block begins at 0
pub begins_at_zero : (h : Header) (at : ℕ) (rs : List (List ℕ)) → AllFit pair_layout rs → 0 < length rs →
    blocks_broken h None at rs ≡ None → BeginAtZero (map block_of rs)
unfolding blocks_broken
begins_at_zero h at [] fit some n = absurd (omega arith)
begins_at_zero h at ((start ∷ code_type ∷ []) ∷ rs) fit some n =
    let rest = blocks_broken h (Some start) (at + 8) rs in
    let r0 = both (block_broken h None at (start ∷ code_type ∷ [])) rest n in
    let r1 = both (must (start == 0) (errors.Order at))
    (must (nat_lt start h.instrs) (errors.Order at) next must (nat_lt code_type h.types) (errors.Index (at + 4))) r0.0
    in
    eq_held start 0 (errors.Order at) r1.0
begins_at_zero h at ([] ∷ rs) fit some n = absurd fit.0
begins_at_zero h at ((a ∷ []) ∷ rs) fit some n = absurd fit.0.1
begins_at_zero h at ((a ∷ b ∷ z ∷ zs) ∷ rs) fit some n = absurd fit.0.1.1

pub record BlocksFine (h : Header) (previous : Option ℕ) (at : ℕ) (bs : List Block) : Type 0 where
  pub unbroken : blocks_broken h previous at (map block_row bs) ≡ None
  pub back : map block_of (map block_row bs) ≡ bs
  pub fit : AllFit pair_layout (map block_row bs)

pub blocks_fine : (h : Header) (at : ℕ) (bs : List Block) (p : ℕ) → h.types ≤ 4096 → h.instrs ≤ 65536 →
    AreBlocks h.instrs (suc p) bs → AllByRecursion (HasCodeType h.types) bs → BlocksFine h (Some p) at bs
unfolding blocks_broken
blocks_fine h at [] p m k a t = record { unbroken = refl; back = refl; fit = tt }
blocks_fine h at (b ∷ bs) p m k a t =
    let after = blocks_fine h (at + 8) bs b.start m k a.2 t.1 in
    record {
      unbroken = rw (
        lt_true p b.start a.0,
        lt_true b.start h.instrs a.1,
        lt_true b.code_type h.types t.0,
        after.unbroken,
      ) refl;
      back = ap (λ l. b ∷ l) after.back;
      fit = ((omega (arith, a.1), (omega (arith, t.0), tt)), after.fit);
    }

-- the records of all blocks break no rule and decode to the blocks, if the first block begins at 0
pub all_blocks_fine : (h : Header) (at : ℕ) (bs : List Block) → h.types ≤ 4096 → h.instrs ≤ 65536 → BeginAtZero bs →
    AreBlocks h.instrs 0 bs → AllByRecursion (HasCodeType h.types) bs → BlocksFine h None at bs
unfolding blocks_broken
all_blocks_fine h at [] m k z a t = absurd z
all_blocks_fine h at (b ∷ bs) m k z a t =
    let after = blocks_fine h (at + 8) bs b.start m k a.2 t.1 in
    record {
      unbroken = rw (
        eq_true b.start 0 z,
        lt_true b.start h.instrs a.1,
        lt_true b.code_type h.types t.0,
        after.unbroken,
      ) refl;
      back = ap (λ l. b ∷ l) after.back;
      fit = ((omega (arith, a.1), (omega (arith, t.0), tt)), after.fit);
    }

-- substitution rows: valid records are recovered from the nodes that they encode, which are nodes of integers
pub substs_again : (nodes : List Node) (at : ℕ) (rs : List (List ℕ)) → AreNarrowNodes nodes → AllFit subst_layout rs →
    subst_rows_broken nodes at rs ≡ None
    → (map subst_row (map subst_node_of rs) ≡ rs) × AllByRecursion (IsNodeIn nodes 128 false) (map subst_node_of rs)
unfolding subst_rows_broken
substs_again nodes at [] narrow fit n = (refl, tt)
substs_again nodes at ((a ∷ []) ∷ rs) narrow fit n =
    let parts = both (node_number_broken nodes false at a) (subst_rows_broken nodes (at + 4) rs) n in
    let after = substs_again nodes (at + 4) rs narrow fit.1 parts.1 in
    (ap (λ l. (a ∷ []) ∷ l) after.0, (number_again nodes false at a narrow parts.0, after.1))
substs_again nodes at ([] ∷ rs) narrow fit n = absurd fit.0
substs_again nodes at ((a ∷ z ∷ zs) ∷ rs) narrow fit n = absurd fit.0.1

pub record SubstsFine (nodes : List Node) (at : ℕ) (ns : List ℕ) : Type 0 where
  pub unbroken : subst_rows_broken nodes at (map subst_row ns) ≡ None
  pub back : map subst_node_of (map subst_row ns) ≡ ns
  pub fit : AllFit subst_layout (map subst_row ns)

pub substs_fine : (nodes : List Node) (at : ℕ) (ns : List ℕ) → length nodes ≤ 1048576 →
    AllByRecursion (IsNodeIn nodes 128 false) ns → SubstsFine nodes at ns
unfolding subst_rows_broken
substs_fine nodes at [] k h = record { unbroken = refl; back = refl; fit = tt }
substs_fine nodes at (n ∷ ns) k h =
    let after = substs_fine nodes (at + 4) ns k h.1 in
    record {
      unbroken = rw (number_fine nodes 128 false at n h.0, after.unbroken) refl;
      back = ap (λ l. n ∷ l) after.back;
      fit = ((omega (arith, h.0.lower), tt), after.fit);
    }
