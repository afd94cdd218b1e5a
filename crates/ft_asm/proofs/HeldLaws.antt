-- After one more line, the tables still hold what the lines so far say.
use Rattle.std.proofs.Common.{◌≡◌, ℕ, suc, ◌+◌, true, List, [], ◌∷◌, ◌++◌, length, Some, refl, ap, sym, ◌∙◌}
use Rattle.std.proofs.Common.{append_assoc, append-nil, arith}
use Rattle.std.specs.List.{flat_map}
use Rattle.std.proofs.lemmas.List.{length-append}
use Rattle.ft_static.specs.declared.node.Node.{Node}
use Rattle.ft_isa.specs.declared.instr.Instr.{Instr}
use Rattle.ft_types.specs.declared.object.Cell.{Cell}
use Rattle.ft_types.specs.declared.object.CodeType.{CodeType}
use Rattle.ft_types.specs.declared.object.RegType.{RegType}
use Rattle.ft_asm.specs.declared.line.Code.{Code}
use Rattle.ft_asm.specs.declared.line.Line.TheVariants as lines
use Rattle.ft_asm.specs.declared.draft.Place.{Place}
use Rattle.ft_asm.specs.declared.draft.Place.TheVariants as places
use Rattle.ft_asm.specs.declared.draft.Draft as tables
use Rattle.ft_asm.specs.Listings.{Part, rows_of, codes_of, instr_at, instrs_from, blocks_from}
use Rattle.ft_asm.specs.Drafts.{Draft, Start, InType, InBlock, Done, with_reg, with_pend, fresh_part, with_code}
use Rattle.ft_asm.specs.Drafts.{more_cells, more_regs}
use Rattle.ft_asm.specs.Held.{Holds, Adds, PutsCode}

flat_on : {A B : Type 0} (f : A → List B) (xs : List A) (x : A) → flat_map f (xs ++ x ∷ []) ≡ flat_map f xs ++ f x
flat_on f [] x = append-nil (f x)
flat_on f (y ∷ ys) x = ap (λ l. f y ++ l) (flat_on f ys x) ∙ sym (append_assoc (f y) (flat_map f ys) (f x))

instrs_more : (first : ℕ) (xs : List Code) (c : Code) → instrs_from first (xs ++ c ∷ []) ≡ instrs_from first xs
    ++ instr_at (first + length (flat_map rows_of xs)) c ∷ []
instrs_more first [] c = let same : first ≡ first + 0 = omega arith in ap (λ n. instr_at n c ∷ []) same
instrs_more first (x ∷ xs) c =
    let long = length-append (rows_of x) (flat_map rows_of xs) in
    let same : first + length (rows_of x) + length (flat_map rows_of xs)
    ≡ first + length (rows_of x ++ flat_map rows_of xs) = omega arith in
    ap (λ l. instr_at first x ∷ l) (instrs_more (first + length (rows_of x)) xs c
    ∙ ap (λ n. instrs_from (first + length (rows_of x)) xs ++ instr_at n c ∷ []) same)

pub instrs_length : (first : ℕ) (xs : List Code) → length (instrs_from first xs) ≡ length xs
instrs_length first [] = refl
instrs_length first (x ∷ xs) = ap suc (instrs_length (first + length (rows_of x)) xs)

blocks_last : (start : ℕ) (ps : List Part) (p : Part) (c : Code) → blocks_from start (ps ++ p ∷ [])
    ≡ blocks_from start (ps ++ with_code p c ∷ [])
blocks_last start [] p c = refl
blocks_last start (q ∷ qs) p c = ap (λ l. record { start = start; code_type = q.code_type } ∷ l)
    (blocks_last (start + length q.codes) qs p c)

pub blocks_more : (start : ℕ) (ps : List Part) (n : ℕ) → blocks_from start (ps ++ fresh_part n ∷ [])
    ≡ blocks_from start ps
    ++ record { start = start + length (flat_map codes_of ps); code_type = n } ∷ []
blocks_more start [] n = let same : start ≡ start + 0 = omega arith in
    ap (λ m. record { start = m; code_type = n } ∷ []) same
blocks_more start (q ∷ qs) n =
    let long = length-append q.codes (flat_map codes_of qs) in
    let same : start + length q.codes + length (flat_map codes_of qs)
    ≡ start + length (q.codes ++ flat_map codes_of qs) = omega arith in
    ap (λ l. record { start = start; code_type = q.code_type } ∷ l) (blocks_more (start + length q.codes) qs n
    ∙ ap (λ m. blocks_from (start + length q.codes) qs ++ record { start = m; code_type = n } ∷ []) same)

codes_more : (ps : List Part) (p : Part) (c : Code) → flat_map codes_of (ps ++ with_code p c ∷ [])
    ≡ flat_map codes_of (ps ++ p ∷ []) ++ c ∷ []
codes_more ps p c = flat_on codes_of ps (with_code p c) ∙ sym (append_assoc (flat_map codes_of ps) p.codes (c ∷ []))
    ∙ ap (λ l. l ++ c ∷ []) (sym (flat_on codes_of ps p))

pub codes_fresh : (ps : List Part) (n : ℕ) → flat_map codes_of (ps ++ fresh_part n ∷ []) ≡ flat_map codes_of ps
codes_fresh ps n = flat_on codes_of ps (fresh_part n) ∙ append-nil (flat_map codes_of ps)

-- PLACES

pub start_type : (p : Place) (i m : ℕ) → p ≡ places.Start → p ≡ places.InType i m → ⊥
start_type p i m e f = let both : places.Start ≡ places.InType i m = sym e ∙ f in absurd cc

pub start_block : (p : Place) → p ≡ places.Start → p ≡ places.InBlock → ⊥
start_block p e f = let both : places.Start ≡ places.InBlock = sym e ∙ f in absurd cc

pub start_done : (p : Place) (b : ℕ) → p ≡ places.Start → p ≡ places.Done b → ⊥
start_done p b e f = let both : places.Start ≡ places.Done b = sym e ∙ f in absurd cc

pub type_block : (p : Place) (i m : ℕ) → p ≡ places.InType i m → p ≡ places.InBlock → ⊥
type_block p i m e f = let both : places.InType i m ≡ places.InBlock = sym e ∙ f in absurd cc

pub type_done : (p : Place) (i m b : ℕ) → p ≡ places.InType i m → p ≡ places.Done b → ⊥
type_done p i m b e f = let both : places.InType i m ≡ places.Done b = sym e ∙ f in absurd cc

pub block_done : (p : Place) (b : ℕ) → p ≡ places.InBlock → p ≡ places.Done b → ⊥
block_done p b e f = let both : places.InBlock ≡ places.Done b = sym e ∙ f in absurd cc

-- ONE MORE LINE

pub node_held : (t u : tables.Draft) (n : Node) → t.place ≡ places.Start → u.nodes.items ≡ t.nodes.items ++ n ∷ [] →
    (d : Draft) → Holds t d → Adds true (record t { nodes = u.nodes }) d (lines.Node n)
node_held t u n s e (Start cs ns) h = (
  Start cs (ns ++ n ∷ []),
  refl,
  (
    h.0,
    record { regs = h.1.regs; queue = h.1.queue },
    record {
      cells = h.2.cells;
      nodes = e ∙ ap (λ l. l ++ n ∷ []) h.2.nodes;
      types = h.2.types;
      blocks = h.2.blocks;
      instrs = h.2.instrs;
      substs = h.2.substs;
    },
  ),
)
node_held t u n s e (InType cs ns ts v) h = absurd (start_type t.place v.ints v.memory s h.0)
node_held t u n s e (InBlock cs ns ts ps p) h = absurd (start_block t.place s h.0)
node_held t u n s e (Done l) h = absurd (start_done t.place l.entry s h.0)

cells_step : (cs : List Cell) (ns : List Node) (c : Cell) → ns ≡ [] → more_cells cs ns c
    ≡ Some (Start (cs ++ c ∷ []) [])
cells_step cs [] c e = refl
cells_step cs (n ∷ ns) c e = absurd cc

pub cell_held : (t u : tables.Draft) (c : Cell) → t.place ≡ places.Start → t.nodes.items ≡ [] → u.cells.items
    ≡ t.cells.items ++ c ∷ [] → (d : Draft) → Holds t d → Adds true (record t { cells = u.cells }) d (lines.Cell c)
cell_held t u c s none e (Start cs ns) h = (
  Start (cs ++ c ∷ []) [],
  cells_step cs ns c (sym h.2.nodes ∙ none),
  (
    h.0,
    record { regs = h.1.regs; queue = h.1.queue },
    record {
      cells = e ∙ ap (λ l. l ++ c ∷ []) h.2.cells;
      nodes = none;
      types = h.2.types;
      blocks = h.2.blocks;
      instrs = h.2.instrs;
      substs = h.2.substs;
    },
  ),
)
cell_held t u c s none e (InType cs ns ts v) h = absurd (start_type t.place v.ints v.memory s h.0)
cell_held t u c s none e (InBlock cs ns ts ps p) h = absurd (start_block t.place s h.0)
cell_held t u c s none e (Done l) h = absurd (start_done t.place l.entry s h.0)

regs_step : (cs : List Cell) (ns : List Node) (ts : List CodeType) (v : CodeType) (qs : List (ℕ × ℕ)) (r : RegType) → qs
    ≡ [] → more_regs cs ns ts v qs r ≡ Some (InType cs ns ts (with_reg v r))
regs_step cs ns ts v [] r e = refl
regs_step cs ns ts v (q ∷ qs) r e = absurd cc

pub reg_held : (t u : tables.Draft) (r : RegType) (i m : ℕ) → t.place ≡ places.InType i m → t.queue.items ≡ [] →
    u.regs.items ≡ t.regs.items ++ r ∷ [] → (d : Draft) → Holds t d →
    Adds true (record t { regs = u.regs }) d (lines.Reg r)
reg_held t u r i m s none e (Start cs ns) h = absurd (start_type t.place i m h.0 s)
reg_held t u r i m s none e (InType cs ns ts v) h = (
  InType cs ns ts (with_reg v r),
  regs_step cs ns ts v v.queue r (sym h.1.queue ∙ none),
  (
    h.0,
    record { regs = e ∙ ap (λ l. l ++ r ∷ []) h.1.regs; queue = h.1.queue },
    record {
      cells = h.2.cells;
      nodes = h.2.nodes;
      types = h.2.types;
      blocks = h.2.blocks;
      instrs = h.2.instrs;
      substs = h.2.substs;
    },
  ),
)
reg_held t u r i m s none e (InBlock cs ns ts ps p) h = absurd (type_block t.place i m s h.0)
reg_held t u r i m s none e (Done l) h = absurd (type_done t.place i m l.entry s h.0)

pub pend_held : (t u : tables.Draft) (a v i m : ℕ) → t.place ≡ places.InType i m → u.queue.items ≡ t.queue.items
    ++ (a, v) ∷ [] → (d : Draft) → Holds t d → Adds true (record t { queue = u.queue }) d (lines.Pend a v)
pend_held t u a v i m s e (Start cs ns) h = absurd (start_type t.place i m h.0 s)
pend_held t u a v i m s e (InType cs ns ts w) h = (
  InType cs ns ts (with_pend w (a, v)),
  refl,
  (
    h.0,
    record { regs = h.1.regs; queue = e ∙ ap (λ l. l ++ (a, v) ∷ []) h.1.queue },
    record {
      cells = h.2.cells;
      nodes = h.2.nodes;
      types = h.2.types;
      blocks = h.2.blocks;
      instrs = h.2.instrs;
      substs = h.2.substs;
    },
  ),
)
pend_held t u a v i m s e (InBlock cs ns ts ps p) h = absurd (type_block t.place i m s h.0)
pend_held t u a v i m s e (Done l) h = absurd (type_done t.place i m l.entry s h.0)

pub code_held : (t u v : tables.Draft) (c : Code) (i : Instr) → t.place ≡ places.InBlock → PutsCode t u c i →
    v.instrs.items ≡ u.instrs.items ++ i ∷ [] → (d : Draft) → Holds t d →
    Adds true (record u { instrs = v.instrs }) d (lines.Code c)
code_held t u v c i s put e (Start cs ns) h = absurd (start_block t.place h.0 s)
code_held t u v c i s put e (InType cs ns ts w) h = absurd (type_block t.place w.ints w.memory h.0 s)
code_held t u v c i s put e (InBlock cs ns ts ps p) h =
    let rows = put.rows_kept h.1 in
    let xs = flat_map codes_of (ps ++ p ∷ []) in
    let more = codes_more ps p c in
    let here : i ≡ instr_at (0 + length (flat_map rows_of xs)) c = (let none : length (flat_map rows_of xs)
    ≡ 0 + length (flat_map rows_of xs) = omega arith in put.instr ∙ ap (λ l. instr_at (length l) c) h.2.substs
    ∙ ap (λ n. instr_at n c) none) in (
      InBlock cs ns ts ps (with_code p c),
      refl,
      (
        put.place ∙ h.0,
        record { regs = rows.regs; queue = rows.queue },
        record {
          cells = put.cells ∙ h.2.cells;
          nodes = put.nodes ∙ h.2.nodes;
          types = put.types ∙ h.2.types;
          blocks = put.blocks ∙ h.2.blocks ∙ blocks_last 0 ps p c;
          instrs = e ∙ ap (λ l. l ++ i ∷ []) (put.instrs ∙ h.2.instrs) ∙ ap (λ j. instrs_from 0 xs ++ j ∷ []) here
              ∙ sym (instrs_more 0 xs c) ∙ ap (instrs_from 0) (sym more);
          substs = put.substs ∙ ap (λ l. l ++ rows_of c) h.2.substs ∙ sym (flat_on rows_of xs c)
              ∙ ap (flat_map rows_of) (sym more);
        },
      ),
    )
code_held t u v c i s put e (Done l) h = absurd (block_done t.place l.entry s h.0)
