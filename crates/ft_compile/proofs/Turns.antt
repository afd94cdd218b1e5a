-- The iterations of loops, over plain values.
use Rattle.std.proofs.Common.{◌≡◌, ℕ, suc, ◌+◌, ◌<◌, ◌≤◌, List, [], ◌∷◌, ◌++◌, length, refl, sym, ap, ◌∙◌, subst, arith}
use Rattle.std.proofs.Common.{map, drop, get_or, append_assoc}
use Rattle.std.specs.List.{All, range_with_len}
use Rattle.std.proofs.lemmas.List.Elements.{All-tail}
use Rattle.std.proofs.lemmas.List.{append-nil, drop_all, drop_more, length-set}
use Rattle.std.proofs.lemmas.List.FromFn.{map-range_with_len_more, length-map-range_with_len}
use Rattle.ft_isa.specs.declared.colour.Colour.TheVariants.{Green, Blue}
use Rattle.ft_isa.specs.declared.reg.Reg.{Reg}
use Rattle.ft_static.specs.declared.node.Node.{Node}
use Rattle.ft_types.specs.declared.object.Block.{Block}
use Rattle.ft_types.specs.declared.object.RegType.{RegType}
use Rattle.ft_isa.specs.BasicTypes.{int}
use Rattle.ft_dup.specs.Images.{green, blue}
use Rattle.ft_lower.specs.declared.step3.Step3.{Step3}
use Rattle.ft_lower.specs.declared.step3.Step3.TheVariants.{Put, Copy, Op, Load, Store, LoadAt, StoreAt, Exit, Go, Stop}
use Rattle.ft_lower.specs.Flow.{Blocks}
use Rattle.ft_lower.specs.Size.{PairsBelow, pairs_of, row_size, blocks_size}
use Rattle.ft_compile.specs.Emitted.{block_from, blocks_at}
use Rattle.ft_compile.specs.Noted.{Noted, step_noted, row_noted, begun, scope_of_block, blocks_noted}
use Rattle.ft_compile.specs.Emitted.{at_first, green_row, blue_row, variable_node}
use Rattle.ft_compile.specs.Viewed.{HasRoom}
use Rattle.ft_compile.proofs.Counted.{nodes_step, rows_step, nodes_row, rows_row}

-- the blocks that start at these places: the first has this code type, the others code type 1
abbrev pub blocks_with : ℕ → List ℕ → List Block
blocks_with t [] = []
blocks_with t (s ∷ ss) = record { start = s; code_type = t } ∷ blocks_with 1 ss

-- with code type 0, these are the blocks of the object
pub blocks_with_zero : (ss : List ℕ) → blocks_with 0 ss ≡ blocks_at ss
blocks_with_zero [] = refl
blocks_with_zero (s ∷ ss) = ap (λ l. record { start = s; code_type = 0 } ∷ l) (others ss)
  where
    others : (ts : List ℕ) → blocks_with 1 ts ≡ map block_from ts
    others [] = refl
    others (t ∷ ts) = ap (λ l. block_from t ∷ l) (others ts)

-- a step keeps the number of pairs
pairs_step : (vars scope : ℕ) (w : Noted) (i : Step3) → length (step_noted vars scope w i).pairs ≡ length w.pairs
pairs_step vars scope w (Put p v) = length-set w.pairs p _
pairs_step vars scope w (Copy p q) = length-set w.pairs p _
pairs_step vars scope w (Op o p q r) = length-set w.pairs p _
pairs_step vars scope w (Load p c) = length-set w.pairs p _
pairs_step vars scope w (Store c q spare) = refl
pairs_step vars scope w (LoadAt p q begin many) = length-set w.pairs p _
pairs_step vars scope w (StoreAt begin many i q spare) = refl
pairs_step vars scope w (Exit q spare to) = refl
pairs_step vars scope w (Go spare to) = refl
pairs_step vars scope w Stop = refl

-- a row keeps the number of pairs
pairs_row : (vars scope : ℕ) (w : Noted) (is : List Step3) → length (row_noted vars scope w is).pairs ≡ length w.pairs
pairs_row vars scope w [] = refl
pairs_row vars scope w (i ∷ is) = pairs_row vars scope (step_noted vars scope w i) is ∙ pairs_step vars scope w i

-- if there is room for a row, there is room for the later steps after the first is noted
pub room_next : (vars scope : ℕ) (w : Noted) (i : Step3) (is : List Step3) → vars ≤ 32 → HasRoom w (row_size (i ∷ is)) →
    HasRoom (step_noted vars scope w i) (row_size is)
room_next vars scope w i is few h = record {
  nodes = omega (arith, h.nodes, nodes_step vars scope w i);
  rows = omega (arith, h.rows, rows_step vars scope w i few);
  pairs = pairs_step vars scope w i ∙ h.pairs;
}

-- if there is room for blocks, there is room for the later ones after the first is noted
pub room_blocks : (vars scope : ℕ) (w : Noted) (x : List Step3) (xs : Blocks) → vars ≤ 32 →
    HasRoom w (blocks_size (x ∷ xs)) → HasRoom (row_noted vars scope (begun w) x) (blocks_size xs)
room_blocks vars scope w x xs few h = record {
  nodes = omega (arith, h.nodes, nodes_row vars scope (begun w) x);
  rows = omega (arith, h.rows, rows_row vars scope (begun w) x few);
  pairs = pairs_row vars scope (begun w) x;
}

-- appending one more green row gives the green rows of one more variable
pub green_more : (new regs old : List RegType) (i : ℕ) (reg : Reg) (expr : ℕ) → new ≡ regs
    ++ record { reg = reg; colour = Green; basic = int; expr = expr } ∷ [] → regs ≡ old
    ++ map green_row (range_with_len 0 i) → reg ≡ green i → expr ≡ 1 + i → new ≡ old
    ++ map green_row (range_with_len 0 (i + 1))
green_more new regs old i reg expr e f g h =
    let row : record { reg = reg; colour = Green; basic = int; expr = expr } ≡ green_row i = λ j.
    record { reg = g j; colour = Green; basic = int; expr = h j } in
    let z : 0 + i ≡ i = omega arith in
    e ∙ ap (λ l. l ++ record { reg = reg; colour = Green; basic = int; expr = expr } ∷ []) f
    ∙ append_assoc old (map green_row (range_with_len 0 i)) (record {
      reg = reg;
      colour = Green;
      basic = int;
      expr = expr;
    } ∷ [])
    ∙ ap (λ x. old ++ (map green_row (range_with_len 0 i) ++ x ∷ [])) row
    ∙ ap (λ l. old ++ l) (sym (map-range_with_len_more green_row 0 i i z))

-- appending one more blue row gives the blue rows of one more variable
pub blue_more : (new regs old : List RegType) (i : ℕ) (reg : Reg) (expr : ℕ) → new ≡ regs
    ++ record { reg = reg; colour = Blue; basic = int; expr = expr } ∷ [] → regs ≡ old
    ++ map blue_row (range_with_len 0 i) → reg ≡ blue i → expr ≡ 1 + i → new ≡ old
    ++ map blue_row (range_with_len 0 (i + 1))
blue_more new regs old i reg expr e f g h =
    let row : record { reg = reg; colour = Blue; basic = int; expr = expr } ≡ blue_row i = λ j.
    record { reg = g j; colour = Blue; basic = int; expr = h j } in
    let z : 0 + i ≡ i = omega arith in
    e ∙ ap (λ l. l ++ record { reg = reg; colour = Blue; basic = int; expr = expr } ∷ []) f
    ∙ append_assoc old (map blue_row (range_with_len 0 i)) (record {
      reg = reg;
      colour = Blue;
      basic = int;
      expr = expr;
    } ∷ [])
    ∙ ap (λ x. old ++ (map blue_row (range_with_len 0 i) ++ x ∷ [])) row
    ∙ ap (λ l. old ++ l) (sym (map-range_with_len_more blue_row 0 i i z))

-- appending one more node gives the nodes of one more variable
pub nodes_more : (new nodes : List Node) (first : Node) (vars i : ℕ) → new ≡ nodes ++ variable_node vars i ∷ [] → nodes
    ≡ first ∷ map (variable_node vars) (range_with_len 0 i) → new
    ≡ first ∷ map (variable_node vars) (range_with_len 0 (i + 1))
nodes_more new nodes first vars i e f =
    let z : 0 + i ≡ i = omega arith in
    e ∙ ap (λ l. l ++ variable_node vars i ∷ []) f
    ∙ ap (λ l. first ∷ l) (sym (map-range_with_len_more (variable_node vars) 0 i i z))

-- after the last place, the blocks are complete
pub blocks_end : (blocks : List Block) (ss : List ℕ) (t k : ℕ) → length ss ≤ k → blocks ++ blocks_with t (drop k ss)
    ≡ blocks_with 0 ss → blocks ≡ blocks_at ss
blocks_end blocks ss t k le e = sym (append-nil blocks) ∙ ap (λ l. blocks ++ blocks_with t l) (sym (drop_all k ss le))
    ∙ e ∙ blocks_with_zero ss

-- an iteration over the steps of a row keeps the final notes the same and leaves room for the rest
pub row_turn : (vars scope : ℕ) (w v whole : Noted) (is : List Step3) (j : ℕ) (d : Step3) → vars ≤ 32 → j < length is →
    v ≡ step_noted vars scope w (get_or is j d) → row_noted vars scope w (drop j is) ≡ whole →
    HasRoom w (row_size (drop j is)) → (row_noted vars scope v (drop (j + 1) is) ≡ whole)
    × HasRoom v (row_size (drop (j + 1) is))
row_turn vars scope w v whole is j d few lt e left room =
    let x = get_or is j d in
    let rest = drop (j + 1) is in
    let f : drop j is ≡ x ∷ rest = drop_more is j d lt in
    let r = room_next vars scope w x rest few (subst (λ l. HasRoom w (row_size l)) f room) in (
      ap (λ z. row_noted vars scope z rest) e ∙ ap (row_noted vars scope w) (sym f) ∙ left,
      subst (λ z. HasRoom z (row_size rest)) (sym e) r,
    )

-- these blocks are left to note: the first of them has this scope, and after them the notes are complete
pub record AreLeft (vars scope : ℕ) (w whole : Noted) (bs : Blocks) : Type 0 where
  pub block : ℕ
  pub same : blocks_noted vars block w bs ≡ whole
  pub scoped : scope ≡ scope_of_block vars block
  pub pairs : PairsBelow 32 bs
  pub room : HasRoom w (blocks_size bs)

-- an iteration over the blocks notes the first of those that are left
pub block_turn : (vars scope : ℕ) (w v whole : Noted) (bs : Blocks) (x : List Step3) (xs : Blocks) → vars ≤ 32 → bs
    ≡ x ∷ xs → v ≡ row_noted vars scope (begun w) x → AreLeft vars scope w whole bs → AreLeft vars vars v whole xs
block_turn vars scope w v whole bs x xs few f e h = record {
  block = suc h.block;
  same = ap (λ z. blocks_noted vars (suc h.block) z xs) (e ∙ ap (λ s. row_noted vars s (begun w) x) h.scoped)
      ∙ ap (blocks_noted vars h.block w) (sym f) ∙ h.same;
  scoped = refl;
  pairs = All-tail (All (λ i. All (λ p. p < 32) (pairs_of i))) x xs (subst (PairsBelow 32) f h.pairs);
  room = subst (λ z. HasRoom z (blocks_size xs)) (sym e)
      (room_blocks vars scope w x xs few (subst (λ l. HasRoom w (blocks_size l)) f h.room));
}

-- at the start there is room for all blocks
pub room_at_first : (w : Noted) (vars : ℕ) (xs : Blocks) → w ≡ at_first vars → vars ≤ 32 → blocks_size xs ≤ 65536 →
    HasRoom w (blocks_size xs)
room_at_first w vars xs e few short =
    let l : length (at_first vars).nodes ≡ suc vars = ap suc (length-map-range_with_len (variable_node vars) 0 vars) in
    subst (λ z. HasRoom z (blocks_size xs)) (sym e) (record { nodes = omega arith; rows = omega arith; pairs = refl })
