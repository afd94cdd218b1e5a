-- The typing rules of a step's instructions apply, if the known pairs have the forms of their nodes.
use Rattle.std.proofs.Common.{◌≡◌, ◌≢◌, ℕ, ◌+◌, ◌<◌, true, List, [], ◌∷◌, ◌++◌, length, Some, refl, sym, ap, ◌∙◌, arith}
use Rattle.std.specs.Prelude.{All}
use Rattle.ft_isa.specs.Words.{cell_address}
use Rattle.ft_isa.specs.declared.colour.Colour.TheVariants.{Green, Blue}
use Rattle.ft_isa.specs.declared.instr.Subst.{Subst}
use Rattle.ft_isa.specs.declared.instr.Instr.{Instr}
use Rattle.ft_isa.specs.declared.instr.Instr.TheVariants as instr
use Rattle.ft_isa.specs.declared.op.Op.TheVariants.{Add}
use Rattle.ft_static.specs.declared.node.Shape.{Shape}
use Rattle.ft_static.specs.declared.node.Shape.TheVariants as shape
use Rattle.ft_static.specs.Form.{Polynomial}
use Rattle.ft_static.specs.NormalForm.{constant, norm_op, norm_sel, norm_upd}
use Rattle.ft_static.specs.NodeRules.{AreNodes}
use Rattle.ft_types.specs.declared.object.Object.{Object}
use Rattle.ft_typing.specs.Context.{Context, with_type, integer_form_of, memory_form_of}
use Rattle.ft_isa.specs.BasicTypes.{int, ref}
use Rattle.ft_isa.proofs.Lists.{length_pushed}
use Rattle.ft_typing.specs.TypedWord.{has_type, run_type}
use Rattle.ft_typing.specs.TypingRow.{row}
use Rattle.ft_typing.specs.RowWords.{Goes, run_form}
use Rattle.ft_scope.specs.declared.slot.Slot.TheVariants.{Run}
use Rattle.ft_scope.specs.Size.{RunFits}
use Rattle.ft_lower.specs.declared.step3.Step3.{Step3}
use Rattle.ft_lower.specs.declared.step3.Step3.TheVariants.{Put, Copy, Op, Load, Store, LoadAt, StoreAt, Exit, Go, Stop}
use Rattle.ft_lower.specs.Size.{pairs_of}
use Rattle.ft_lower.specs.Well.{Known, learn, forget, known_after, StepFits, ReadsKnown}
use Rattle.ft_dup.specs.Images.{green, blue, loads, stores}
use Rattle.ft_compile.specs.Noted.{Noted, node, pair_node, with_node, with_pair_node, with_memory_node}
use Rattle.ft_compile.specs.Noted.{with_address_nodes, step_noted}
use Rattle.ft_compile.proofs.Lists.{Starts, starts_less, get_newest}
use Rattle.ft_compile.proofs.Coded.{coded_step}
use Rattle.ft_compile.proofs.Forms.{word_form, operation_form, rem_form, sel_form, upd_form}
use Rattle.ft_compile.proofs.PremiseRows.{ty, typed_other, has_int, mov_row, op_row, op_word_row, load_green_row}
use Rattle.ft_compile.proofs.PremiseRows.{load_blue_row, store_green_row, store_blue_row, index_row}
use Rattle.ft_compile.proofs.KnownPairs.{both, blue_is_not_green, both_green, both_blue, other_green, other_blue}
use Rattle.ft_compile.proofs.KnownPairs.{IsGood, Others, others_of, good_learn, good_forget}

-- SEQUENCES OF INSTRUCTIONS

-- the typing rules of these instructions apply and lead from one context to the other
abbrev pub Passes : Object → Context → List Instr → Context → Type 0
Passes o c [] d = c ≡ d
Passes o c (i ∷ is) d = (e : Context) × (row o c i ≡ Goes e) × Passes o e is d

-- a step that always leads to the next one
abbrev pub IsStraight : Step3 → Type 0
IsStraight (Put p v) = Unit {0}
IsStraight (Copy p q) = Unit {0}
IsStraight (Op o p q r) = Unit {0}
IsStraight (Load p c) = Unit {0}
IsStraight (Store c q spare) = Unit {0}
IsStraight (LoadAt p q begin many) = Unit {0}
IsStraight (StoreAt begin many i q spare) = Unit {0}
IsStraight (Exit q spare to) = ⊥
IsStraight (Go spare to) = ⊥
IsStraight Stop = ⊥

-- the instructions lead to a context that fits what is known and noted after the step
pub record Leads (o : Object) (c : Context) (is : List Instr) (scope : ℕ) (k : Known) (w : Noted) : Type 0 where
  pub after : Context
  pub passes : Passes o c is after
  pub good : IsGood o scope k w.pairs w.memory after

module _ (o : Object) (N : AreNodes o.nodes) (cells : ℕ)
    (refs : (c : ℕ) → c < cells → has_type o (cell_address c) (ref int) ≡ true)
    (arrays : (begin many : ℕ) → RunFits cells (Run begin many) → run_type o begin many ≡ Some int) where
  -- the form of the address of the array cell that a pair selects
  address_form : (w : Noted) (scope begin many q : ℕ) → Starts (with_address_nodes scope begin many q w).nodes o.nodes →
      integer_form_of o (length w.nodes + 2) ≡ run_form begin many (integer_form_of o (pair_node w q))
  address_form w scope begin many q s =
      let v = cell_address begin in
      let a = shape.Word v in
      let r = shape.Rem (pair_node w q) many in
      let t = shape.Op Add (length w.nodes) (length w.nodes + 1) in
      let w1 = with_node scope a w in
      let w2 = with_node scope r w1 in
      let s2 : Starts w2.nodes o.nodes = starts_less w2.nodes o.nodes (node scope t) s in
      let s1 : Starts w1.nodes o.nodes = starts_less w1.nodes o.nodes (node scope r) s2 in
      let l1 = length_pushed w.nodes (node scope a) in
      let l2 = length_pushed w1.nodes (node scope r) in
      let n1 : length w.nodes + 1 ≡ length w1.nodes = omega arith in
      let n2 : length w.nodes + 2 ≡ length w2.nodes = omega arith in
      ap (integer_form_of o) n2
      ∙ operation_form o N (length w2.nodes) scope Add (length w.nodes) (length w.nodes + 1)
      (get_newest w2.nodes o.nodes (node scope t) s)
      ∙ ap (λ y. norm_op Add y (integer_form_of o (length w.nodes + 1)))
      (word_form o N (length w.nodes) scope v (get_newest w.nodes o.nodes (node scope a) s1))
      ∙ ap (λ n. norm_op Add (constant v) (integer_form_of o n)) n1
      ∙ ap (norm_op Add (constant v)) (rem_form o N (length w1.nodes) scope (pair_node w q) many
      (get_newest w1.nodes o.nodes (node scope r) s2))

  -- two instructions that put an address into both registers of a pair, followed by loads from it, lead to the next
  -- step
  load_leads : (scope : ℕ) (k : Known) (w : Noted) (c : Context) (p : ℕ) (a : Polynomial) (x : Shape) (i j : Instr) →
      p < 32 → integer_form_of o (length w.nodes) ≡ norm_sel c.memory a → IsGood o scope k w.pairs w.memory c →
      row o c i
      ≡ Goes (with_type (green p).number (ty Green (ref int) a) c) →
      row o (with_type (green p).number (ty Green (ref int) a) c) j ≡ Goes (both p (ref int) a c) →
      Leads o c (i ∷ j ∷ loads p) scope (learn p k) (with_pair_node scope p x w)
  load_leads scope k w c p a x i j lt f G first second =
      let y = norm_sel c.memory a in
      let c2 = both p (ref int) a c in
      let c3 = with_type (green p).number (ty Green int y) c2 in
      let old : Others o k w.pairs p c2 = λ q ne known. (
        other_green p q (ref int) a c lt (G.small q known) ne ∙ G.green_pair q known,
        other_blue p q (ref int) a c lt (G.small q known) ne ∙ G.blue_pair q known,
        G.small q known,
      ) in
      record {
        after = both p int y c2;
        passes = (
          _,
          first,
          (
            _,
            second,
            (
              _,
              load_green_row o c2 (green p) (green p) a G.queue (both_green p (ref int) a c lt),
              (
                _,
                load_blue_row o c3 (blue p) (blue p) a
                    (typed_other c2 (green p).number (ty Green int y) (blue p).number (blue_is_not_green p p lt lt)
                    ∙ both_blue p (ref int) a c),
                refl,
              ),
            ),
          ),
        );
        good = good_learn o scope k w.pairs w.memory c2 p (length w.nodes) y lt G.many f old G.zero G.queue G.memory_is
            G.ints;
      }

  -- two instructions that put an address into both registers of the spare pair, followed by stores to it, lead to the
  -- next step
  store_leads : (scope : ℕ) (k : Known) (w : Noted) (c : Context) (q spare : ℕ) (a : Polynomial) (x : Shape)
      (i j : Instr) → spare < 32 → k q ≡ true → q ≢ spare → memory_form_of o (length w.nodes)
      ≡ norm_upd c.memory a (integer_form_of o (pair_node w q)) → IsGood o scope k w.pairs w.memory c → row o c i
      ≡ Goes (with_type (green spare).number (ty Green (ref int) a) c) →
      row o (with_type (green spare).number (ty Green (ref int) a) c) j ≡ Goes (both spare (ref int) a c) →
      Leads o c (i ∷ j ∷ stores spare q) scope (forget spare k) (with_memory_node scope x w)
  store_leads scope k w c q spare a x i j lt known ne f G first second =
      let y = integer_form_of o (pair_node w q) in
      let lq = G.small q known in
      let c2 = both spare (ref int) a c in
      let c3 = record c2 { queue = (a, y) ∷ [] } in
      let g2 = good_forget o scope k w.pairs w.memory c spare (ref int) a lt G in
      record {
        after = record c3 { queue = []; memory = norm_upd c.memory a y };
        passes = (
          _,
          first,
          (
            _,
            second,
            (
              _,
              store_green_row o c2 (green spare) (green q) a y G.queue (both_green spare (ref int) a c lt)
                  (other_green spare q (ref int) a c lt lq ne ∙ G.green_pair q known),
              (
                _,
                store_blue_row o c3 (blue spare) (blue q) a y refl (both_blue spare (ref int) a c)
                    (other_blue spare q (ref int) a c lt lq ne ∙ G.blue_pair q known),
                refl,
              ),
            ),
          ),
        );
        good = record {
          green_pair = g2.green_pair;
          blue_pair = g2.blue_pair;
          small = g2.small;
          many = g2.many;
          zero = g2.zero;
          queue = refl;
          memory_is = sym f;
          ints = g2.ints;
        };
      }

  -- the rule of a blue `idx` continues after the green one: both registers of a pair then have the address of the
  -- selected array cell
  blue_index : (scope : ℕ) (k : Known) (w : Noted) (c : Context) (p q begin many : ℕ) → p < 32 →
      RunFits cells (Run begin many) → k q ≡ true → IsGood o scope k w.pairs w.memory c →
      let a = run_form begin many (integer_form_of o (pair_node w q)) in
      row o (with_type (green p).number (ty Green (ref int) a) c) (instr.Idx (blue p) (blue q) begin many)
      ≡ Goes (both p (ref int) a c)
  blue_index scope k w c p q begin many lt fits known G =
      let y = integer_form_of o (pair_node w q) in
      let a = run_form begin many y in
      index_row o (with_type (green p).number (ty Green (ref int) a) c) (blue p) (blue q) Blue int begin many y
      (arrays begin many fits)
      (typed_other c (green p).number (ty Green (ref int) a) (blue q).number
      (blue_is_not_green p q lt (G.small q known)) ∙ G.blue_pair q known)

  -- the instructions of a straight step lead to the next step
  pub straight_leads : (start : ℕ → ℕ) (u : Subst) (vars scope blocks : ℕ) (k : Known) (w : Noted) (c : Context)
      (i : Step3) → IsStraight i → StepFits cells blocks i → All (λ p. p < 32) (pairs_of i) → ReadsKnown vars k i →
      Starts (step_noted vars scope w i).nodes o.nodes → IsGood o scope k w.pairs w.memory c →
      Leads o c (coded_step start u i) scope (known_after i k) (step_noted vars scope w i)
  straight_leads start u vars scope blocks k w c (Put p v) st fits ps reads s G =
      let x = constant v in
      let lt = ps 0 0 (omega arith) in
      let f = word_form o N (length w.nodes) scope v (get_newest w.nodes o.nodes (node scope (shape.Word v)) s) in
      record {
        after = both p int x c;
        passes = (
          _,
          mov_row o c (green p) v Green int (has_int o v),
          (_, mov_row o (with_type (green p).number (ty Green int x) c) (blue p) v Blue int (has_int o v), refl),
        );
        good = good_learn o scope k w.pairs w.memory c p (length w.nodes) x lt G.many f
            (others_of o scope k w.pairs w.memory p c G) G.zero G.queue G.memory_is G.ints;
      }
  straight_leads start u vars scope blocks k w c (Copy p q) st fits ps reads s G =
      let m = length (w.nodes ++ node scope (shape.Word 0) ∷ []) in
      let y = integer_form_of o (pair_node w q) in
      let x = norm_op Add y (constant 0) in
      let lt = ps 0 0 (omega arith) in
      let lq = G.small q reads in
      let zeroed = with_node scope (shape.Word 0) w in
      let sh = shape.Op Add (pair_node w q) (length w.nodes) in
      let f : integer_form_of o m ≡ x =
      operation_form o N m scope Add (pair_node w q) (length w.nodes)
      (get_newest zeroed.nodes o.nodes (node scope sh) s)
      ∙ ap (norm_op Add y) (word_form o N (length w.nodes) scope 0
      (get_newest w.nodes o.nodes (node scope (shape.Word 0)) (starts_less zeroed.nodes o.nodes (node scope sh) s)))
      in
      record {
        after = both p int x c;
        passes = (
          _,
          op_word_row o c Add (green p) (green q) 0 Green int y (G.green_pair q reads),
          (
            _,
            op_word_row o (with_type (green p).number (ty Green int x) c) Add (blue p) (blue q) 0 Blue int y
                (typed_other c (green p).number (ty Green int x) (blue q).number (blue_is_not_green p q lt lq)
                ∙ G.blue_pair q reads),
            refl,
          ),
        );
        good = good_learn o scope k w.pairs w.memory c p m x lt G.many f (others_of o scope k w.pairs w.memory p c G)
            G.zero G.queue G.memory_is G.ints;
      }
  straight_leads start u vars scope blocks k w c (Op op p q r) st fits ps reads s G =
      let y = integer_form_of o (pair_node w q) in
      let z = integer_form_of o (pair_node w r) in
      let x = norm_op op y z in
      let lt = ps 0 0 (omega arith) in
      let sh = shape.Op op (pair_node w q) (pair_node w r) in
      let f = operation_form o N (length w.nodes) scope op (pair_node w q) (pair_node w r)
      (get_newest w.nodes o.nodes (node scope sh) s) in
      let c1 = with_type (green p).number (ty Green int x) c in
      record {
        after = both p int x c;
        passes = (
          _,
          op_row o c op (green p) (green q) (green r) Green int int y z (G.green_pair q reads.0)
              (G.green_pair r reads.1),
          (
            _,
            op_row o c1 op (blue p) (blue q) (blue r) Blue int int y z
                (typed_other c (green p).number (ty Green int x) (blue q).number
                (blue_is_not_green p q lt (G.small q reads.0)) ∙ G.blue_pair q reads.0)
                (typed_other c (green p).number (ty Green int x) (blue r).number
                (blue_is_not_green p r lt (G.small r reads.1)) ∙ G.blue_pair r reads.1),
            refl,
          ),
        );
        good = good_learn o scope k w.pairs w.memory c p (length w.nodes) x lt G.many f
            (others_of o scope k w.pairs w.memory p c G) G.zero G.queue G.memory_is G.ints;
      }
  straight_leads start u vars scope blocks k w c (Load p cl) st fits ps reads s G =
      let v = cell_address cl in
      let a = constant v in
      let at = with_node scope (shape.Word v) w in
      let m = length at.nodes in
      let x = shape.Sel w.memory (length w.nodes) in
      let h = refs cl fits in
      let f : integer_form_of o m ≡ norm_sel c.memory a =
      sel_form o N m scope w.memory (length w.nodes) (get_newest at.nodes o.nodes (node scope x) s)
      ∙ ap (norm_sel (memory_form_of o w.memory)) (word_form o N (length w.nodes) scope v
      (get_newest w.nodes o.nodes (node scope (shape.Word v)) (starts_less at.nodes o.nodes (node scope x) s)))
      ∙ ap (λ y. norm_sel y a) (sym G.memory_is) in
      load_leads scope k at c p a x _ _ (ps 0 0 (omega arith)) f G (mov_row o c (green p) v Green (ref int) h)
      (mov_row o (with_type (green p).number (ty Green (ref int) a) c) (blue p) v Blue (ref int) h)
  straight_leads start u vars scope blocks k w c (Store cl q spare) st fits ps reads s G =
      let v = cell_address cl in
      let a = constant v in
      let at = with_node scope (shape.Word v) w in
      let m = length at.nodes in
      let x = shape.Upd w.memory (length w.nodes) (pair_node w q) in
      let y = integer_form_of o (pair_node w q) in
      let h = refs cl fits in
      let f : memory_form_of o m ≡ norm_upd c.memory a y =
      upd_form o N m scope w.memory (length w.nodes) (pair_node w q) (get_newest at.nodes o.nodes (node scope x) s)
      ∙ ap (λ b. norm_upd (memory_form_of o w.memory) b y)
      (word_form o N (length w.nodes) scope v (get_newest w.nodes o.nodes (node scope (shape.Word v))
      (starts_less at.nodes o.nodes (node scope x) s)))
      ∙ ap (λ z. norm_upd z a y) (sym G.memory_is) in
      store_leads scope k at c q spare a x _ _ (ps 1 0 (omega arith)) reads.0 reads.1 f G
      (mov_row o c (green spare) v Green (ref int) h)
      (mov_row o (with_type (green spare).number (ty Green (ref int) a) c) (blue spare) v Blue (ref int) h)
  straight_leads start u vars scope blocks k w c (LoadAt p q begin many) st fits ps reads s G =
      let y = integer_form_of o (pair_node w q) in
      let a = run_form begin many y in
      let at = with_address_nodes scope begin many q w in
      let m = length at.nodes in
      let x = shape.Sel w.memory (length w.nodes + 2) in
      let lt = ps 0 0 (omega arith) in
      let f : integer_form_of o m ≡ norm_sel c.memory a =
      sel_form o N m scope w.memory (length w.nodes + 2) (get_newest at.nodes o.nodes (node scope x) s)
      ∙ ap (norm_sel (memory_form_of o w.memory)) (address_form w scope begin many q
      (starts_less at.nodes o.nodes (node scope x) s))
      ∙ ap (λ z. norm_sel z a) (sym G.memory_is) in
      load_leads scope k at c p a x _ _ lt f G (index_row o c (green p) (green q) Green int begin many y
      (arrays begin many fits) (G.green_pair q reads)) (blue_index scope k w c p q begin many lt fits reads G)
  straight_leads start u vars scope blocks k w c (StoreAt begin many e q spare) st fits ps reads s G =
      let y = integer_form_of o (pair_node w q) in
      let z = integer_form_of o (pair_node w e) in
      let a = run_form begin many z in
      let at = with_address_nodes scope begin many e w in
      let m = length at.nodes in
      let x = shape.Upd w.memory (length w.nodes + 2) (pair_node w q) in
      let lt = ps 2 0 (omega arith) in
      let f : memory_form_of o m ≡ norm_upd c.memory a y =
      upd_form o N m scope w.memory (length w.nodes + 2) (pair_node w q) (get_newest at.nodes o.nodes (node scope x) s)
      ∙ ap (λ b. norm_upd (memory_form_of o w.memory) b y)
      (address_form w scope begin many e (starts_less at.nodes o.nodes (node scope x) s))
      ∙ ap (λ b. norm_upd b a y) (sym G.memory_is) in
      store_leads scope k at c q spare a x _ _ lt reads.1 reads.3 f G
      (index_row o c (green spare) (green e) Green int begin many z (arrays begin many fits) (G.green_pair e reads.0))
      (blue_index scope k w c spare e begin many lt fits reads.0 G)
  straight_leads start u vars scope blocks k w c (Exit q spare to) st fits ps reads s G = absurd st
  straight_leads start u vars scope blocks k w c (Go spare to) st fits ps reads s G = absurd st
  straight_leads start u vars scope blocks k w c Stop st fits ps reads s G = absurd st
