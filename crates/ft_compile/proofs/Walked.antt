-- The notes of all blocks: the nodes obey the rules, and the substitutions cover the rows in order.
use Rattle.std.proofs.Common.{◌≡◌, ℕ, zero, suc, ◌+◌, ◌<◌, ◌≤◌, Bool, true, false, List, [], ◌∷◌, ◌++◌, length, Some}
use Rattle.std.proofs.Common.{refl, sym, ap, ◌∙◌, subst, arith, slice_get, take, map}
use Rattle.std.specs.Prelude.{All, slice_index}
use Rattle.std.specs.Option.{option_map}
use Rattle.std.specs.List.{range_with_len}
use Rattle.std.proofs.lemmas.Bool.{ltb-true}
use Rattle.std.proofs.lemmas.List.{length-take-le, get_or-take, get_or_default}
use Rattle.std.proofs.lemmas.List.Elements.{All-append, All-nil}
use Rattle.std.proofs.lemmas.List.FromFn.{length-range_with_len, get_or-range_with_len}
use Rattle.std.proofs.lemmas.Option.{slice_get-get_or, slice_get-map}
use Rattle.std.proofs.Common.{length-append}
use Rattle.std.proofs.lemmas.List.{length-map}
use Rattle.ft_isa.specs.Words.{cell_address}
use Rattle.ft_isa.specs.declared.instr.Subst.{Subst}
use Rattle.ft_static.specs.declared.node.Node.{Node}
use Rattle.ft_static.specs.declared.node.Shape.TheVariants as shape
use Rattle.ft_static.specs.NodeRules.{MayName, IsNode}
use Rattle.ft_types.specs.Spellable.{IsNodeIn, IsSubst, Cover}
use Rattle.ft_lower.specs.declared.step3.Step3.{Step3}
use Rattle.ft_lower.specs.declared.step3.Step3.TheVariants.{Put, Copy, Op, Load, Store, LoadAt, StoreAt, Exit, Go, Stop}
use Rattle.ft_lower.specs.Flow.{Blocks, block_of}
use Rattle.ft_lower.specs.Size.{pairs_of, PairsBelow}
use Rattle.ft_lower.specs.Well.{Known, known_after, known_first, KeepsVariables, ReadsKnown, IsBlock, RowIsWell, IsWell}
use Rattle.ft_compile.specs.Noted.{Noted, node, pair_node, with_node, with_address_nodes, with_jump, jump_subst}
use Rattle.ft_compile.specs.Noted.{step_noted, row_noted, first_pairs, begun, scope_of_block, blocks_noted}
use Rattle.ft_compile.specs.Emitted.{variable_node, at_first}
use Rattle.ft_compile.proofs.Lists.{Starts, starts_refl, starts_trans, starts_more, starts_length, get_starts}
use Rattle.ft_compile.proofs.Named.{AreFine, IsNamed, IsLawful, step_lawful}

-- THE NOTES ONLY GROW

-- the nodes and rows of the first notes are prefixes of those of the second
pub record Grows (w v : Noted) : Type 0 where
  pub nodes : Starts w.nodes v.nodes
  pub rows : Starts w.rows v.rows

-- growth is reflexive
pub grows_refl : (w : Noted) → Grows w w
grows_refl w = record { nodes = starts_refl w.nodes; rows = starts_refl w.rows }

-- growth is transitive
pub grows_trans : (u v w : Noted) → Grows u v → Grows v w → Grows u w
grows_trans u v w p q = record {
  nodes = starts_trans u.nodes v.nodes w.nodes p.nodes q.nodes;
  rows = starts_trans u.rows v.rows w.rows p.rows q.rows;
}

-- the nodes of an address are appended to those before
address_grows : (scope begin many q : ℕ) (w : Noted) → Starts w.nodes (with_address_nodes scope begin many q w).nodes
address_grows scope begin many q w =
    let w1 = with_node scope (shape.Word (cell_address begin)) w in
    let w2 = with_node scope (shape.Rem (pair_node w q) many) w1 in
    starts_more w.nodes w2.nodes _ (starts_more w.nodes w1.nodes _ (_, refl))

-- a step appends nodes and rows
pub step_grows : (vars scope : ℕ) (w : Noted) (i : Step3) → Grows w (step_noted vars scope w i)
step_grows vars scope w (Put p v) = record { nodes = (node scope (shape.Word v) ∷ [], refl); rows = starts_refl w.rows }
step_grows vars scope w (Copy p q) = record {
  nodes = starts_more w.nodes (w.nodes ++ node scope (shape.Word 0) ∷ []) _
      (_, refl);
  rows = starts_refl w.rows;
}
step_grows vars scope w (Op o p q r) = record { nodes = (_, refl); rows = starts_refl w.rows }
step_grows vars scope w (Load p c) = let a = shape.Word (1048576 + c) in
    record { nodes = starts_more w.nodes (w.nodes ++ node scope a ∷ []) _ (_, refl); rows = starts_refl w.rows }
step_grows vars scope w (Store c q spare) = let a = shape.Word (1048576 + c) in
    record { nodes = starts_more w.nodes (w.nodes ++ node scope a ∷ []) _ (_, refl); rows = starts_refl w.rows }
step_grows vars scope w (LoadAt p q begin many) = record {
  nodes =
      starts_more w.nodes (with_address_nodes scope begin many q w).nodes _ (address_grows scope begin many q w);
  rows = starts_refl w.rows;
}
step_grows vars scope w (StoreAt begin many i q spare) =
    record {
      nodes = starts_more w.nodes (with_address_nodes scope begin many i w).nodes _
          (address_grows scope begin many i w);
      rows = starts_refl w.rows;
    }
step_grows vars scope w (Exit q spare to) = record { nodes = starts_refl w.nodes; rows = (take vars w.pairs, refl) }
step_grows vars scope w (Go spare to) = record { nodes = starts_refl w.nodes; rows = (take vars w.pairs, refl) }
step_grows vars scope w Stop = grows_refl w

-- a row appends nodes and rows
pub row_grows : (vars scope : ℕ) (w : Noted) (is : List Step3) → Grows w (row_noted vars scope w is)
row_grows vars scope w [] = grows_refl w
row_grows vars scope w (i ∷ is) = grows_trans w (step_noted vars scope w i) _ (step_grows vars scope w i)
    (row_grows vars scope (step_noted vars scope w i) is)

-- the notes after one block
abbrev pub block_noted : ℕ → ℕ → Noted → List Step3 → Noted
block_noted vars b w x = row_noted vars (scope_of_block vars b) (begun w) x

-- a block appends nodes and rows
pub block_grows : (vars b : ℕ) (w : Noted) (x : List Step3) → Grows w (block_noted vars b w x)
block_grows vars b w x = let g = row_grows vars (scope_of_block vars b) (begun w) x in
    record { nodes = g.nodes; rows = g.rows }

-- blocks append nodes and rows
pub blocks_grow : (vars b : ℕ) (w : Noted) (xs : Blocks) → Grows w (blocks_noted vars b w xs)
blocks_grow vars b w [] = grows_refl w
blocks_grow vars b w (x ∷ xs) = grows_trans w (block_noted vars b w x) _ (block_grows vars b w x)
    (blocks_grow vars (suc b) (block_noted vars b w x) xs)

-- WELL-FORMED BLOCKS, ONE AFTER ANOTHER

-- the steps of block b are well formed, in a flow of this many blocks
pub record RowIsFine (vars cells blocks b : ℕ) (x : List Step3) : Type 0 where
  pub ended : IsBlock x
  pub well : RowIsWell vars cells blocks (known_first vars b) x
  pub pairs : All (λ i. All (λ p. p < 32) (pairs_of i)) x

-- these blocks, the first of which is block b, are well formed
abbrev pub RowsAreFine : ℕ → ℕ → ℕ → ℕ → Blocks → Type 0
RowsAreFine vars cells blocks b [] = Unit {0}
RowsAreFine vars cells blocks b (x ∷ xs) = RowIsFine vars cells blocks b x × RowsAreFine vars cells blocks (suc b) xs

-- such blocks are well formed if each of them is
rows_from : (vars cells blocks b : ℕ) (xs : Blocks) → ((j : ℕ) → j < length xs → IsBlock (block_of xs j)) →
    ((j : ℕ) → j < length xs → RowIsWell vars cells blocks (known_first vars (b + j)) (block_of xs j)) →
    PairsBelow 32 xs → RowsAreFine vars cells blocks b xs
rows_from vars cells blocks b [] e w p = tt
rows_from vars cells blocks b (x ∷ xs) e w p =
    let z : b + 0 ≡ b = omega arith in (
      record {
        ended = e 0 (omega arith);
        well = subst (λ n. RowIsWell vars cells blocks (known_first vars n) x) z
            (w 0 (omega arith));
        pairs = p 0 x (omega arith);
      },
      rows_from vars cells blocks (suc b) xs (λ j h. e (suc j) (omega arith)) (λ j h. let s : b + suc j
          ≡ suc b + j = omega arith in subst (λ n. RowIsWell vars cells blocks (known_first vars n) (block_of xs j)) s
          (w (suc j) (omega arith))) (λ k d h. p (suc k) d (omega arith)),
    )

-- the blocks of a well-formed flow are well formed in this sense
pub well_rows : (vars cells : ℕ) (bs : Blocks) → IsWell vars cells bs → RowsAreFine vars cells (length bs) 0 bs
well_rows vars cells bs h = rows_from vars cells (length bs) 0 bs h.ended (λ j lt. let z : j ≡ 0 + j = omega arith in
    subst (λ n. RowIsWell vars cells (length bs) (known_first vars n) (block_of bs j)) z (h.rows j lt)) h.pairs

-- NODES, ROWS AND SUBSTITUTIONS

module _ (F : List Node) (R : List ℕ) where
  -- these substitutions cover the rows in order, from row `first` up to row `last`
  abbrev pub Chain : ℕ → List Subst → ℕ → Type 0
  Chain first [] last = first ≡ last
  Chain first (s ∷ ss) last = IsSubst F (length R) first s × Chain s.past ss last

  -- a chain with one more substitution at the end is a chain
  chain_push : (first : ℕ) (ss : List Subst) (last : ℕ) (s : Subst) → Chain first ss last →
      IsSubst F (length R) last s → Chain first (ss ++ s ∷ []) s.past
  chain_push first [] last s e h = (subst (λ n. IsSubst F (length R) n s) (sym e) h, refl)
  chain_push first (t ∷ ss) last s e h = (e.0, chain_push t.past ss last s e.1 h)

  -- a chain up to the last row covers all rows
  pub chain_covers : (first : ℕ) (ss : List Subst) → Chain first ss (length R) → Cover F (length R) first ss
  chain_covers first [] e = e
  chain_covers first (s ∷ ss) e = (e.0, chain_covers s.past ss e.1)

  -- the rows so far are nodes of integers, and the substitutions so far cover them in order
  pub record IsCovered (w : Noted) : Type 0 where
    pub rows : All (IsNodeIn F 128 false) w.rows
    pub chain : Chain 0 w.substs (length w.rows)

  -- a node that may be named within a scope may be named within a wider scope
  widened : (ns : List Node) (scope : ℕ) (memory : Bool) (k : ℕ) → scope ≤ 128 → Starts ns F →
      MayName F (length ns) scope memory k → IsNodeIn F 128 memory k
  widened ns scope memory k le s h = record {
    lower = let l = starts_length ns F s in omega (arith, h.lower);
    node = h.node;
    found = h.found;
    sort = h.sort;
    scope_within = omega (arith, h.scope_within);
  }

  -- the notes stay covered after a jump at which the variables are known
  jump_covered : (vars scope spare : ℕ) (k : Known) (w : Noted) → vars ≤ 32 → scope ≤ 128 → Starts w.nodes F →
      Starts (with_jump vars w).rows R → IsNamed F scope k (length w.nodes) w.pairs w.memory →
      KeepsVariables vars k spare → IsCovered w → IsCovered (with_jump vars w)
  jump_covered vars scope spare k w few le sn sr h keeps c =
      let many : vars ≤ length w.pairs = let e = h.many in omega arith in
      let taken : length (take vars w.pairs) ≡ vars = length-take-le vars w.pairs many in
      let whole : length (w.rows ++ take vars w.pairs) ≡ length w.rows + vars = length-append w.rows (take vars w.pairs)
      ∙ ap (λ n. length w.rows + n) taken in
      record {
        rows = All-append (IsNodeIn F 128 false) w.rows (take vars w.pairs) c.rows
            (λ j d lt. let jv : j < vars = omega arith in
            subst (IsNodeIn F 128 false) (sym (get_or-take vars w.pairs j d jv
            ∙ get_or_default w.pairs j d 0 (omega arith)))
            (widened w.nodes scope false (slice_index w.pairs j) le sn (h.pair j (keeps.known j jv))));
        chain = subst (Chain 0 (w.substs ++ jump_subst vars w ∷ [])) (sym whole)
            (chain_push 0 w.substs (length w.rows) (jump_subst vars w) c.chain (record {
              first_is = refl;
              rising = omega arith;
              there = let l = starts_length _ R sr in omega arith;
              few = omega arith;
              memory = widened w.nodes scope true w.memory le sn h.memory_node;
            }));
      }

  -- the notes stay covered after each step
  step_covered : (vars scope : ℕ) (k : Known) (w : Noted) (i : Step3) → vars ≤ 32 → scope ≤ 128 → ReadsKnown vars k i →
      Starts w.nodes F → Starts (step_noted vars scope w i).rows R →
      IsNamed F scope k (length w.nodes) w.pairs w.memory →
      IsCovered w → IsCovered (step_noted vars scope w i)
  step_covered vars scope k w (Put p v) few le reads sn sr h c = record { rows = c.rows; chain = c.chain }
  step_covered vars scope k w (Copy p q) few le reads sn sr h c = record { rows = c.rows; chain = c.chain }
  step_covered vars scope k w (Op o p q r) few le reads sn sr h c = record { rows = c.rows; chain = c.chain }
  step_covered vars scope k w (Load p a) few le reads sn sr h c = record { rows = c.rows; chain = c.chain }
  step_covered vars scope k w (Store a q spare) few le reads sn sr h c = record { rows = c.rows; chain = c.chain }
  step_covered vars scope k w (LoadAt p q begin many) few le reads sn sr h c = record { rows = c.rows; chain = c.chain }
  step_covered vars scope k w (StoreAt begin many i q spare) few le reads sn sr h c = record {
    rows = c.rows;
    chain = c.chain;
  }
  step_covered vars scope k w (Exit q spare to) few le reads sn sr h c =
      jump_covered vars scope spare k w few le sn sr h reads.2 c
  step_covered vars scope k w (Go spare to) few le reads sn sr h c =
      jump_covered vars scope spare k w few le sn sr h reads c
  step_covered vars scope k w Stop few le reads sn sr h c = c

  -- the invariant of the walk between blocks
  pub record IsSound (w : Noted) : Type 0 where
    pub fine : AreFine F w.nodes
    pub covered : IsCovered w

  -- the notes are sound after the steps of a row
  pub row_sound : (vars scope cells blocks : ℕ) (k : Known) (w : Noted) (is : List Step3) → vars ≤ 32 → scope ≤ 128 →
      cells ≤ 1024 → RowIsWell vars cells blocks k is → All (λ i. All (λ p. p < 32) (pairs_of i)) is →
      Starts (row_noted vars scope w is).nodes F → Starts (row_noted vars scope w is).rows R → IsLawful F scope k w →
      IsCovered w → IsSound (row_noted vars scope w is)
  row_sound vars scope cells blocks k w [] few le small well ps sn sr h c = record { fine = h.fine; covered = c }
  row_sound vars scope cells blocks k w (i ∷ is) few le small well ps sn sr h c =
      let v = step_noted vars scope w i in
      let g = row_grows vars scope v is in
      let hn : Starts v.nodes F = starts_trans v.nodes _ F g.nodes sn in
      let hr : Starts v.rows R = starts_trans v.rows _ R g.rows sr in
      let wn : Starts w.nodes F = starts_trans w.nodes v.nodes F (step_grows vars scope w i).nodes hn in
      row_sound vars scope cells blocks (known_after i k) v is few le small well.2 (λ j d lt.
      ps (suc j) d (omega arith)) sn sr
      (step_lawful F vars scope cells blocks k w i le small well.0 (ps 0 i (omega arith)) well.1 hn h)
      (step_covered vars scope k w i few le well.1 wn hr h.named c)

-- BEGINNINGS

-- node 1 + q is the node of variable q
pub variable_there : (vars q : ℕ) → q < vars → slice_get (at_first vars).nodes (suc q) ≡ Some (variable_node vars q)
variable_there vars q lt =
    let e = slice_get-get_or (range_with_len 0 vars) q 0 (let l = length-range_with_len 0 vars in omega arith) in
    let z : 0 + q ≡ q = omega arith in
    slice_get-map (variable_node vars) (range_with_len 0 vars) q
    ∙ ap (option_map (variable_node vars)) (e ∙ ap Some (get_or-range_with_len 0 vars q 0 lt ∙ z))

-- where a block begins, pair q has node 1 + q
pub first_pair : (q : ℕ) → q < 32 → slice_index first_pairs q ≡ suc q
first_pair q lt = get_or-range_with_len 1 32 q 0 lt ∙ omega arith

-- each node in the list of variables' nodes is the node of a variable
variable_is : (vars a n k : ℕ) (x : Node) → slice_get (map (variable_node vars) (range_with_len a n)) k ≡ Some x →
    (i : ℕ) × (i < a + n) × (variable_node vars i ≡ x)
variable_is vars a zero k x e = cc
variable_is vars a (suc n) zero x e = (a, omega arith, (let f : variable_node vars a ≡ x = cc in f))
variable_is vars a (suc n) (suc k) x e = let r = variable_is vars (a + 1) n k x e in (r.0, omega (arith, r.1), r.2)

module _ (F : List Node) where
  -- the first nodes obey the rules
  pub first_fine : (vars : ℕ) → vars ≤ 32 → AreFine F (at_first vars).nodes
  first_fine vars few zero x e = let f : node 0 shape.Memory ≡ x = cc in
      subst (IsNode F 0) f (record { scope = omega arith; shape = tt })
  first_fine vars few (suc k) x e = let r = variable_is vars 0 vars k x e in
      subst (IsNode F (suc k)) r.2 (record { scope = omega arith; shape = omega (arith, r.1) })

  -- the memory's node may be named
  memory_named : (vars scope n : ℕ) → 0 < n → Starts (at_first vars).nodes F → MayName F n scope true 0
  memory_named vars scope n lt s = record {
    lower = lt;
    node = node 0 shape.Memory;
    found = get_starts (at_first vars).nodes F 0 (node 0 shape.Memory) s refl;
    sort = refl;
    scope_within = omega arith;
  }

  -- the invariant within a block holds where the block begins
  pub begun_lawful : (vars b : ℕ) (w : Noted) → vars ≤ 32 → Starts (at_first vars).nodes w.nodes → Starts w.nodes F →
      AreFine F w.nodes → IsLawful F (scope_of_block vars b) (known_first vars b) (begun w)
  begun_lawful vars zero w few s t fine = record {
    named = record {
      pair = λ q known. absurd (no known);
      memory_node = memory_named vars 0 (length w.nodes) (let l = starts_length (at_first vars).nodes w.nodes s in
          omega arith) (starts_trans (at_first vars).nodes w.nodes F s t);
      many = length-range_with_len 1 32;
      small = λ q known. absurd (no known);
    };
    fine = fine;
  }
    where
      no : false ≡ true → ⊥
      no e = cc
  begun_lawful vars (suc b) w few s t fine =
      let l = starts_length (at_first vars).nodes w.nodes s in
      let many : length (at_first vars).nodes ≡ suc vars = ap suc (length_variables vars) in
      record {
        named = record {
          pair = λ q known.
              let lt : q < vars = ltb-true q vars known in
              subst (MayName F (length w.nodes) vars false) (sym (first_pair q (omega arith))) (record {
                lower = omega arith;
                node = variable_node vars q;
                found = get_starts (at_first vars).nodes F (suc q) (variable_node vars q)
                    (starts_trans (at_first vars).nodes w.nodes F s t) (variable_there vars q lt);
                sort = refl;
                scope_within = omega arith;
              });
          memory_node = memory_named vars vars (length w.nodes) (omega arith)
              (starts_trans (at_first vars).nodes w.nodes F s t);
          many = length-range_with_len 1 32;
          small = λ q known. let lt : q < vars = ltb-true q vars known in omega arith;
        };
        fine = fine;
      }
    where
      length_variables : (n : ℕ) → length (map (variable_node n) (range_with_len 0 n)) ≡ n
      length_variables n = length-map (range_with_len 0 n) (variable_node n) ∙ length-range_with_len 0 n

-- ALL BLOCKS

-- the scope of a block is a valid scope of a node
pub scope_within : (vars b : ℕ) → vars ≤ 32 → scope_of_block vars b ≤ 128
scope_within vars zero few = omega arith
scope_within vars (suc b) few = omega arith

module _ (F : List Node) (R : List ℕ) where
  -- the invariant between blocks still holds after well-formed blocks
  blocks_sound : (vars cells blocks b : ℕ) (w : Noted) (xs : Blocks) → vars ≤ 32 → cells ≤ 1024 →
      RowsAreFine vars cells blocks b xs → Starts (at_first vars).nodes w.nodes →
      Starts (blocks_noted vars b w xs).nodes F → Starts (blocks_noted vars b w xs).rows R → IsSound F R w →
      IsSound F R (blocks_noted vars b w xs)
  blocks_sound vars cells blocks b w [] few small rows s sn sr h = h
  blocks_sound vars cells blocks b w (x ∷ xs) few small rows s sn sr h =
      let v = block_noted vars b w x in
      let g = blocks_grow vars (suc b) v xs in
      let hn : Starts v.nodes F = starts_trans v.nodes _ F g.nodes sn in
      let hr : Starts v.rows R = starts_trans v.rows _ R g.rows sr in
      let wg = block_grows vars b w x in
      blocks_sound vars cells blocks (suc b) v xs few small rows.1
      (starts_trans (at_first vars).nodes w.nodes v.nodes s wg.nodes) sn sr
      (row_sound F R vars (scope_of_block vars b) cells blocks (known_first vars b) (begun w) x few
      (scope_within vars b few) small rows.0.well rows.0.pairs hn hr
      (begun_lawful F vars b w few s (starts_trans w.nodes v.nodes F wg.nodes hn) h.fine)
      (record { rows = h.covered.rows; chain = h.covered.chain }))

-- the notes of well-formed blocks are sound
pub noted_sound : (vars cells : ℕ) (bs : Blocks) → cells ≤ 1024 → vars ≤ 32 → IsWell vars cells bs →
    let v = blocks_noted vars 0 (at_first vars) bs in IsSound v.nodes v.rows v
noted_sound vars cells bs small few h =
    let v = blocks_noted vars 0 (at_first vars) bs in
    blocks_sound v.nodes v.rows vars cells (length bs) 0 (at_first vars) bs few small (well_rows vars cells bs h)
    (starts_refl (at_first vars).nodes) (starts_refl v.nodes) (starts_refl v.rows)
    (record {
      fine = first_fine v.nodes vars few;
      covered = record {
        rows = All-nil (IsNodeIn v.nodes 128 false);
        chain = refl;
      };
    })
