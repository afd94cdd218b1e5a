-- After a line that closes the part before it, the tables still hold what the lines so far say.
use Rattle.std.proofs.Common.{◌≡◌, ℕ, ◌+◌, true, false, [], ◌∷◌, ◌++◌, length, Some, refl, ap, sym, ◌∙◌, arith}
use Rattle.std.specs.List.{flat_map}
use Rattle.ft_types.specs.declared.object.Block.{Block}
use Rattle.ft_types.specs.declared.object.CodeType.{CodeType}
use Rattle.ft_asm.specs.declared.line.Line.TheVariants as lines
use Rattle.ft_asm.specs.declared.draft.Place.TheVariants as places
use Rattle.ft_asm.specs.declared.draft.Draft as tables
use Rattle.ft_asm.specs.Listings.{Listing, rows_of, codes_of, instrs_from, blocks_from}
use Rattle.ft_asm.specs.Drafts.{Draft, Start, InType, InBlock, Done, fresh_type, fresh_part, next}
use Rattle.ft_asm.specs.Held.{is_block, Holds, Adds, shut, Closes}
use Rattle.ft_asm.proofs.HeldLaws.{instrs_length, blocks_more, codes_fresh, start_type, start_block, start_done}
use Rattle.ft_asm.proofs.HeldLaws.{type_block, type_done, block_done}

-- WHAT ENDS

block_next : (d : Draft) (l : Listing) (n : ℕ) → shut d ≡ Some l → next d (lines.Block n)
    ≡ Some (InBlock l.cells l.nodes l.types l.parts (fresh_part n))
block_next (Start cs ns) l n e = let same : record { cells = cs; nodes = ns; types = []; parts = []; entry = 0 }
    ≡ l = cc in ap (λ (m : Listing). Some (InBlock m.cells m.nodes m.types m.parts (fresh_part n))) same
block_next (InType cs ns ts v) l n e = let same : record {
  cells = cs;
  nodes = ns;
  types = ts ++ v ∷ [];
  parts = [];
  entry = 0;
} ≡ l = cc in ap (λ (m : Listing). Some (InBlock m.cells m.nodes m.types m.parts (fresh_part n))) same
block_next (InBlock cs ns ts ps p) l n e = let same : record {
  cells = cs;
  nodes = ns;
  types = ts;
  parts = ps ++ p ∷ [];
  entry = 0;
} ≡ l = cc in ap (λ (m : Listing). Some (InBlock m.cells m.nodes m.types m.parts (fresh_part n))) same
block_next (Done k) l n e = absurd cc

abbrev entered : Listing → ℕ → Listing
entered l n = record { cells = l.cells; nodes = l.nodes; types = l.types; parts = l.parts; entry = n }

entry_next : (d : Draft) (l : Listing) (n : ℕ) → shut d ≡ Some l → next d (lines.Entry n) ≡ Some (Done (entered l n))
entry_next (Start cs ns) l n e = let same : record { cells = cs; nodes = ns; types = []; parts = []; entry = 0 }
    ≡ l = cc in ap (λ (m : Listing). Some (Done (entered m n))) same
entry_next (InType cs ns ts v) l n e = let same : record {
  cells = cs;
  nodes = ns;
  types = ts ++ v ∷ [];
  parts = [];
  entry = 0;
} ≡ l = cc in ap (λ (m : Listing). Some (Done (entered m n))) same
entry_next (InBlock cs ns ts ps p) l n e = let same : record {
  cells = cs;
  nodes = ns;
  types = ts;
  parts = ps ++ p ∷ [];
  entry = 0;
} ≡ l = cc in ap (λ (m : Listing). Some (Done (entered m n))) same
entry_next (Done k) l n e = absurd cc

-- outside a block, the line of a code type is allowed: it ends the draft so far and begins a new code type
type_next : (t : tables.Draft) (d : Draft) (l : Listing) (i m : ℕ) → is_block t.place ≡ false → Holds t d → shut d
    ≡ Some l → (next d (lines.Type i m) ≡ Some (InType l.cells l.nodes l.types (fresh_type i m))) × (l.parts ≡ [])
type_next t (Start cs ns) l i m b h e = let same : record { cells = cs; nodes = ns; types = []; parts = []; entry = 0 }
    ≡ l = cc in (
      ap (λ (k : Listing). Some (InType k.cells k.nodes k.types (fresh_type i m))) same,
      ap (λ (k : Listing). k.parts) (sym same),
    )
type_next t (InType cs ns ts v) l i m b h e = let same : record {
  cells = cs;
  nodes = ns;
  types = ts ++ v ∷ [];
  parts = [];
  entry = 0;
} ≡ l = cc in (
  ap (λ (k : Listing). Some (InType k.cells k.nodes k.types (fresh_type i m)))
      same,
  ap (λ (k : Listing). k.parts) (sym same),
)
type_next t (InBlock cs ns ts ps p) l i m b h e = absurd (let both : true ≡ false = ap is_block (sym h.0) ∙ b in cc)
type_next t (Done k) l i m b h e = absurd cc

pub block_held : (t v : tables.Draft) (n : ℕ) (b : Block) (d : Draft) → Closes true t d → b
    ≡ record { start = length t.instrs.items; code_type = n } → v.blocks.items ≡ t.blocks.items ++ b ∷ [] →
    Adds true (record t { place = places.InBlock; blocks = v.blocks }) d (lines.Block n)
block_held t v n b d h is e =
    let l = h.0 in
    let tables_are = h.3 in
    let long : length t.instrs.items ≡ 0 + length (flat_map codes_of l.parts) = (let n1 = ap length tables_are.instrs
    ∙ instrs_length 0 (flat_map codes_of l.parts) in omega arith) in
    let same = codes_fresh l.parts n in (
      InBlock l.cells l.nodes l.types l.parts (fresh_part n),
      block_next d l n h.1,
      (
        refl,
        record { regs = h.2.regs; queue = h.2.queue },
        record {
          cells = tables_are.cells;
          nodes = tables_are.nodes;
          types = tables_are.types;
          blocks = e ∙ ap (λ k. k ++ b ∷ []) tables_are.blocks
              ∙ ap (λ k. blocks_from 0 l.parts ++ k ∷ []) (is ∙ ap (λ m. record { start = m; code_type = n }) long)
              ∙ sym (blocks_more 0 l.parts n);
          instrs = tables_are.instrs ∙ ap (instrs_from 0) (sym same);
          substs = tables_are.substs ∙ ap (flat_map rows_of) (sym same);
        },
      ),
    )

pub entry_held : (t : tables.Draft) (n : ℕ) (d : Draft) → Closes true t d →
    Adds true (record t { place = places.Done n }) d (lines.Entry n)
entry_held t n d h = (
  Done (entered h.0 n),
  entry_next d h.0 n h.1,
  (
    refl,
    record { regs = h.2.regs; queue = h.2.queue },
    record {
      cells = h.3.cells;
      nodes = h.3.nodes;
      types = h.3.types;
      blocks = h.3.blocks;
      instrs = h.3.instrs;
      substs = h.3.substs;
    },
  ),
)

pub type_held : (o t : tables.Draft) (i m : ℕ) (d : Draft) → is_block o.place ≡ false → Holds o d → Closes true t d →
    Adds true (record t { place = places.InType i m }) d (lines.Type i m)
type_held o t i m d b held h =
    let more = type_next o d h.0 i m b held h.1 in (
      InType h.0.cells h.0.nodes h.0.types (fresh_type i m),
      more.0,
      (
        refl,
        record { regs = h.2.regs; queue = h.2.queue },
        record {
          cells = h.3.cells;
          nodes = h.3.nodes;
          types = h.3.types;
          blocks = h.3.blocks ∙ ap (blocks_from 0) more.1;
          instrs = h.3.instrs ∙ ap (λ ps. instrs_from 0 (flat_map codes_of ps)) more.1;
          substs = h.3.substs ∙ ap (λ ps. flat_map rows_of (flat_map codes_of ps)) more.1;
        },
      ),
    )

-- ENDS

pub closes_start : (t : tables.Draft) → t.place ≡ places.Start → (d : Draft) → Holds t d → Closes true t d
closes_start t s (Start cs ns) h = (
  record { cells = cs; nodes = ns; types = []; parts = []; entry = 0 },
  refl,
  h.1,
  h.2,
)
closes_start t s (InType cs ns ts v) h = absurd (start_type t.place v.ints v.memory s h.0)
closes_start t s (InBlock cs ns ts ps p) h = absurd (start_block t.place s h.0)
closes_start t s (Done l) h = absurd (start_done t.place l.entry s h.0)

pub closes_block : (t : tables.Draft) → t.place ≡ places.InBlock → (d : Draft) → Holds t d → Closes true t d
closes_block t s (Start cs ns) h = absurd (start_block t.place h.0 s)
closes_block t s (InType cs ns ts v) h = absurd (type_block t.place v.ints v.memory h.0 s)
closes_block t s (InBlock cs ns ts ps p) h = (
  record {
    cells = cs;
    nodes = ns;
    types = ts;
    parts = ps ++ p ∷ [];
    entry = 0;
  },
  refl,
  h.1,
  h.2,
)
closes_block t s (Done l) h = absurd (block_done t.place l.entry s h.0)

-- code types with equal parts are equal
type_is : (w v : CodeType) → places.InType w.ints w.memory ≡ places.InType v.ints v.memory → w.regs ≡ v.regs → w.queue
    ≡ v.queue → w ≡ v
type_is w v e r q =
    let i : w.ints ≡ v.ints = cc in
    let m : w.memory ≡ v.memory = cc in
    ap (λ n. record { ints = n; regs = w.regs; queue = w.queue; memory = w.memory }) i
    ∙ ap (λ n. record { ints = v.ints; regs = w.regs; queue = w.queue; memory = n }) m
    ∙ ap (λ rs. record { ints = v.ints; regs = rs; queue = w.queue; memory = v.memory }) r
    ∙ ap (λ qs. record { ints = v.ints; regs = v.regs; queue = qs; memory = v.memory }) q

pub closes_type : (t u : tables.Draft) (w : CodeType) → t.place ≡ places.InType w.ints w.memory → w.regs
    ≡ t.regs.items → w.queue ≡ t.queue.items → u.types.items ≡ t.types.items ++ w ∷ [] → u.regs.items ≡ [] →
    u.queue.items ≡ []
    → (d : Draft) → Holds t d → Closes true (record t { types = u.types; regs = u.regs; queue = u.queue }) d
closes_type t u w s r q e f g (Start cs ns) h = absurd (start_type t.place w.ints w.memory h.0 s)
closes_type t u w s r q e f g (InType cs ns ts v) h =
    let same = type_is w v (sym s ∙ h.0) (r ∙ h.1.regs) (q ∙ h.1.queue) in (
      record { cells = cs; nodes = ns; types = ts ++ v ∷ []; parts = []; entry = 0 },
      refl,
      record { regs = f; queue = g },
      record {
        cells = h.2.cells;
        nodes = h.2.nodes;
        types = e ∙ ap (λ l. l ++ w ∷ []) h.2.types
            ∙ ap (λ k. ts ++ k ∷ []) same;
        blocks = h.2.blocks;
        instrs = h.2.instrs;
        substs = h.2.substs;
      },
    )
closes_type t u w s r q e f g (InBlock cs ns ts ps p) h = absurd (type_block t.place w.ints w.memory s h.0)
closes_type t u w s r q e f g (Done l) h = absurd (type_done t.place w.ints w.memory l.entry s h.0)
