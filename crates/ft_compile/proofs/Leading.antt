-- The typing rules of jumps apply and lead to code type 1, so those of each block apply.
use Rattle.std.proofs.Common.{◌≡◌, ◌≢◌, ℕ, suc, ◌+◌, ◌-◌, ◌<◌, ◌≤◌, Bool, true, false, List, [], ◌∷◌, ◌++◌, length, ◌⊎◌}
use Rattle.std.proofs.Common.{inl, inr, Some, refl, sym, ap, ◌∙◌, subst, arith, take, drop, append_assoc}
use Rattle.std.specs.Prelude.{All, slice_index, slice_range}
use Rattle.std.proofs.lemmas.List.{append-nil, length-take-le}
use Rattle.std.proofs.Math.Seq.{drop-append_seam, take-append_seam}
use Rattle.ft_isa.specs.Words.{code_address, cell_address}
use Rattle.ft_isa.specs.declared.colour.Colour.TheVariants.{Green, Blue}
use Rattle.ft_isa.specs.declared.instr.Subst.{Subst}
use Rattle.ft_isa.specs.declared.instr.Instr.{Instr}
use Rattle.ft_isa.specs.declared.instr.Instr.TheVariants as instr
use Rattle.ft_isa.specs.declared.reg.Reg.{Reg}
use Rattle.ft_static.specs.Form.{Polynomial}
use Rattle.ft_static.specs.NormalForm.{constant}
use Rattle.ft_static.proofs.Equal.{same_itself}
use Rattle.ft_types.specs.declared.object.Object.{Object}
use Rattle.ft_typing.specs.Accepted.{Applies, last_row, next_row}
use Rattle.ft_typing.specs.Context.{d_zero, d_code, d_conditional, Context, typed, with_type, integer_form_of}
use Rattle.ft_isa.specs.BasicTypes.{code, int, ref}
use Rattle.ft_typing.specs.TypedWord.{has_type, run_type}
use Rattle.ft_typing.specs.RowWords.{Goes, Ends, same_colour, need, for_typed, for_code_over, for_zero, for_target}
use Rattle.ft_typing.specs.RowWords.{for_conditional, is_empty, leads}
use Rattle.ft_typing.specs.TypingRow.{row}
use Rattle.ft_scope.specs.declared.slot.Slot.TheVariants.{Run}
use Rattle.ft_scope.specs.Size.{RunFits}
use Rattle.ft_lower.specs.declared.step3.Step3.{Step3}
use Rattle.ft_lower.specs.declared.step3.Step3.TheVariants.{Put, Copy, Op, Load, Store, LoadAt, StoreAt, Exit, Go, Stop}
use Rattle.ft_lower.specs.Size.{pairs_of}
use Rattle.ft_lower.specs.Well.{Known, forget, known_after, is_last, IsBlock, KeepsVariables, IsTarget, StepFits}
use Rattle.ft_lower.specs.Well.{ReadsKnown, RowIsWell}
use Rattle.ft_dup.specs.Images.{green, blue}
use Rattle.ft_compile.specs.Noted.{Noted, with_jump, jump_subst, step_noted, row_noted}
use Rattle.ft_compile.proofs.Lists.{Starts, starts_trans}
use Rattle.ft_compile.proofs.Named.{IsNamed, IsLawful, step_lawful}
use Rattle.ft_compile.proofs.Walked.{row_grows}
use Rattle.ft_compile.proofs.Coded.{coded_step, row_coded}
use Rattle.ft_compile.proofs.KnownPairs.{both, both_green, both_blue, other_green, other_blue, IsGood, good_forget}
use Rattle.ft_compile.proofs.Typing.{Passes, Leads, straight_leads}
use Rattle.ft_compile.proofs.BlockTypes.{HasTypes, PutsThese, leads_on}
use Rattle.ft_compile.proofs.PremiseRows.{ty, mov_row}

-- JUMPS

-- the rule of a green branch continues, with the branch's target in d, if d was 0
branch_green_row : (o : Object) (c : Context) (rz rd : Reg) (z a : Polynomial) → typed c rz.number
    ≡ Some (ty Green int z) → typed c rd.number ≡ Some (ty Green (code 1) a) → c.d ≡ d_zero → row o c (instr.BzG rz rd)
    ≡ Goes (record c { d = d_conditional z 1 a })
unfolding need for_typed for_code_over for_zero same_colour
branch_green_row o c rz rd z a hz hd d = rw (hz, hd, d) refl

-- the rule of the blue branch after it transfers to code type 1 and continues with d back at 0
branch_blue_row : (o : Object) (c : Context) (rz rd : Reg) (u : Subst) (z a : Polynomial) → typed c rz.number
    ≡ Some (ty Blue int z) → typed c rd.number ≡ Some (ty Blue (code 1) a) →
    leads o u 1 (record c { d = d_conditional z 1 a }) (Goes (record c { d = d_zero }))
    ≡ Goes (record c { d = d_zero }) → row o (record c { d = d_conditional z 1 a }) (instr.BzB rz rd u)
    ≡ Goes (record c { d = d_zero })
unfolding need for_typed for_code_over for_conditional same_colour
branch_blue_row o c rz rd u z a hz hd l = rw (hz, hd) (rw (same_itself z) (rw (same_itself a) l))

-- the rule of a green jump continues, with the jump's target in d, if d was 0
jump_green_row : (o : Object) (c : Context) (rd : Reg) (a : Polynomial) → typed c rd.number
    ≡ Some (ty Green (code 1) a) → c.d ≡ d_zero → row o c (instr.JmpG rd) ≡ Goes (record c { d = d_code 1 a })
unfolding need for_typed for_code_over for_zero same_colour
jump_green_row o c rd a hd d = rw (hd, d) refl

-- the rule of the blue jump after it transfers to code type 1 and ends the block
jump_blue_row : (o : Object) (c : Context) (rd : Reg) (u : Subst) (a : Polynomial) → typed c rd.number
    ≡ Some (ty Blue (code 1) a) → leads o u 1 (record c { d = d_code 1 a }) Ends ≡ Ends →
    row o (record c { d = d_code 1 a }) (instr.JmpB rd u) ≡ Ends
unfolding need for_typed for_code_over for_target same_colour
jump_blue_row o c rd u a hd l = rw hd (rw (same_itself a) l)

-- the rule of a halt ends the block if d is 0 and the queue is empty
halt_row : (o : Object) (c : Context) → c.d ≡ d_zero → c.queue ≡ [] → row o c instr.Halt ≡ Ends
unfolding need for_zero is_empty
halt_row o c d q = rw (d, q) refl

-- if the rules of some instructions continue and those of the next ones apply, the rules of all of them apply
passes_applies : (o : Object) (c d : Context) (is js : List Instr) → Passes o c is d → Applies o d js →
    Applies o c (is ++ js)
passes_applies o c d [] js p a = subst (λ e. Applies o e js) (sym p) a
passes_applies o c d (i ∷ is) js p a = next_row p.0 p.1 (passes_applies o p.0 d is js p.2 a)

module _ (o : Object) (vars : ℕ) (T : HasTypes o vars) (cells blocks : ℕ) (start : ℕ → ℕ) (small : cells ≤ 1024)
    (refs : (c : ℕ) → c < cells → has_type o (cell_address c) (ref int) ≡ true)
    (arrays : (begin many : ℕ) → RunFits cells (Run begin many) → run_type o begin many ≡ Some int)
    (targets : (b : ℕ) → IsTarget blocks b → has_type o (code_address (start b)) (code 1) ≡ true) where
  -- a jump's substitution has the nodes of the variables and of the memory, if its rows are in the object
  puts_these : (scope : ℕ) (w : Noted) → length w.pairs ≡ 32 → Starts (with_jump vars w).rows o.substs →
      PutsThese o vars T scope w.pairs w.memory (jump_subst vars w)
  puts_these scope w many s =
      let few = T.few in
      let n = length w.rows in
      let t = take vars w.pairs in
      let l : length t ≡ vars = length-take-le vars w.pairs (omega arith) in
      let z : n + vars - n ≡ length t = omega arith in
      record {
        rows =
            ap (λ xs. slice_range xs n (n + vars)) (sym s.1)
            ∙ ap (λ k. take k (drop n ((w.rows ++ t) ++ s.0))) z
            ∙ ap (λ xs. take (length t) (drop n xs)) (append_assoc w.rows t s.0)
            ∙ ap (take (length t)) (drop-append_seam w.rows (t ++ s.0))
            ∙ take-append_seam t s.0;
        memory_is = refl;
        many = many;
      }

  -- a branch leads to the next step
  exit_leads : (scope : ℕ) (k : Known) (w : Noted) (c : Context) (q spare to : ℕ) → IsTarget blocks to → q < 32 →
      spare < 32 → ReadsKnown vars k (Exit q spare to) → Starts (with_jump vars w).rows o.substs →
      IsNamed o.nodes scope k (length w.nodes) w.pairs w.memory → IsGood o scope k w.pairs w.memory c →
      Leads o c (coded_step start (jump_subst vars w) (Exit q spare to)) scope (forget spare k) (with_jump vars w)
  exit_leads scope k w c q spare to fits lq ls reads s h G =
      let v = code_address (start to) in
      let a = constant v in
      let y = integer_form_of o (slice_index w.pairs q) in
      let u = jump_subst vars w in
      let keeps = reads.2 in
      let t = targets to fits in
      let c2 = both spare (code 1) a c in
      let c3 = record c2 { d = d_conditional y 1 a } in
      let c4 = record c3 { d = d_zero } in
      let g2 = good_forget o scope k w.pairs w.memory c spare (code 1) a ls G in
      let free : (x : ℕ) → x < vars → x ≢ spare = λ x lt e. let f = keeps.free in omega arith in
      let holds : (x : ℕ) → x < vars → (typed c3 (green x).number
      ≡ Some (ty Green int (integer_form_of o (slice_index w.pairs x))))
      × (typed c3 (blue x).number ≡ Some (ty Blue int (integer_form_of o (slice_index w.pairs x)))) = λ x lt. (
        other_green spare x (code 1) a c ls (G.small x (keeps.known x lt)) (free x lt)
            ∙ G.green_pair x (keeps.known x lt),
        other_blue spare x (code 1) a c ls (G.small x (keeps.known x lt))
            (free x lt) ∙ G.blue_pair x (keeps.known x lt),
      ) in
      record {
        after = c4;
        passes = (
          _,
          mov_row o c (green spare) v Green (code 1) t,
          (
            _,
            mov_row o (with_type (green spare).number (ty Green (code 1) a) c) (blue spare) v Blue (code 1) t,
            (
              c3,
              branch_green_row o c2 (green q) (green spare) y a (other_green spare q (code 1) a c ls lq reads.1
                  ∙ G.green_pair q reads.0) (both_green spare (code 1) a c ls) G.zero,
              (
                c4,
                branch_blue_row o c2 (blue q) (blue spare) u y a (other_blue spare q (code 1) a c ls lq reads.1
                    ∙ G.blue_pair q reads.0) (both_blue spare (code 1) a c)
                    (leads_on o vars T scope w.pairs w.memory u (puts_these scope w G.many s) k (length w.nodes) spare
                    c3 (Goes c4) h keeps holds G.ints G.queue G.memory_is),
                refl,
              ),
            ),
          ),
        );
        good = record {
          green_pair = g2.green_pair;
          blue_pair = g2.blue_pair;
          small = g2.small;
          many = g2.many;
          zero = refl;
          queue = g2.queue;
          memory_is = g2.memory_is;
          ints = g2.ints;
        };
      }

  -- a jump's rules apply and end its block
  go_applies : (scope : ℕ) (k : Known) (w : Noted) (c : Context) (spare to : ℕ) → IsTarget blocks to → spare < 32 →
      KeepsVariables vars k spare → Starts (with_jump vars w).rows o.substs →
      IsNamed o.nodes scope k (length w.nodes) w.pairs w.memory → IsGood o scope k w.pairs w.memory c →
      Applies o c (coded_step start (jump_subst vars w) (Go spare to))
  go_applies scope k w c spare to fits ls keeps s h G =
      let v = code_address (start to) in
      let a = constant v in
      let u = jump_subst vars w in
      let t = targets to fits in
      let c1 = with_type (green spare).number (ty Green (code 1) a) c in
      let c2 = both spare (code 1) a c in
      let c3 = record c2 { d = d_code 1 a } in
      let free : (x : ℕ) → x < vars → x ≢ spare = λ x lt e. let f = keeps.free in omega arith in
      let holds : (x : ℕ) → x < vars → (typed c3 (green x).number
      ≡ Some (ty Green int (integer_form_of o (slice_index w.pairs x))))
      × (typed c3 (blue x).number ≡ Some (ty Blue int (integer_form_of o (slice_index w.pairs x)))) = λ x lt. (
        other_green spare x (code 1) a c ls (G.small x (keeps.known x lt)) (free x lt)
            ∙ G.green_pair x (keeps.known x lt),
        other_blue spare x (code 1) a c ls (G.small x (keeps.known x lt))
            (free x lt) ∙ G.blue_pair x (keeps.known x lt),
      ) in
      next_row c1 (mov_row o c (green spare) v Green (code 1) t)
      (next_row c2 (mov_row o c1 (blue spare) v Blue (code 1) t)
      (next_row c3 (jump_green_row o c2 (green spare) a (both_green spare (code 1) a c ls) G.zero)
      (last_row (jump_blue_row o c2 (blue spare) u a (both_blue spare (code 1) a c)
      (leads_on o vars T scope w.pairs w.memory u (puts_these scope w G.many s) k (length w.nodes) spare c3 Ends h keeps
      holds G.ints G.queue G.memory_is)))))

  -- STEPS AND ROWS

  -- a step that does not end its block leads to the next step
  step_leads : (scope : ℕ) (k : Known) (w : Noted) (c : Context) (i : Step3) → is_last i ≡ false →
      StepFits cells blocks i → All (λ p. p < 32) (pairs_of i) → ReadsKnown vars k i →
      Starts (step_noted vars scope w i).nodes o.nodes → Starts (step_noted vars scope w i).rows o.substs →
      IsNamed o.nodes scope k (length w.nodes) w.pairs w.memory → IsGood o scope k w.pairs w.memory c →
      Leads o c (coded_step start (jump_subst vars w) i) scope (known_after i k) (step_noted vars scope w i)
  step_leads scope k w c (Put p v) e fits ps reads sn sr h G =
      straight_leads o T.nodes cells refs arrays start (jump_subst vars w) vars scope blocks k w c (Put p v) tt fits ps
      reads sn G
  step_leads scope k w c (Copy p q) e fits ps reads sn sr h G =
      straight_leads o T.nodes cells refs arrays start (jump_subst vars w) vars scope blocks k w c (Copy p q) tt fits ps
      reads sn G
  step_leads scope k w c (Op op p q r) e fits ps reads sn sr h G =
      straight_leads o T.nodes cells refs arrays start (jump_subst vars w) vars scope blocks k w c (Op op p q r) tt fits
      ps reads sn G
  step_leads scope k w c (Load p cl) e fits ps reads sn sr h G =
      straight_leads o T.nodes cells refs arrays start (jump_subst vars w) vars scope blocks k w c (Load p cl) tt fits
      ps
      reads sn G
  step_leads scope k w c (Store cl q spare) e fits ps reads sn sr h G =
      straight_leads o T.nodes cells refs arrays start (jump_subst vars w) vars scope blocks k w c (Store cl q spare) tt
      fits ps reads sn G
  step_leads scope k w c (LoadAt p q begin many) e fits ps reads sn sr h G =
      straight_leads o T.nodes cells refs arrays start (jump_subst vars w) vars scope blocks k w c
      (LoadAt p q begin many)
      tt fits ps reads sn G
  step_leads scope k w c (StoreAt begin many i q spare) e fits ps reads sn sr h G =
      straight_leads o T.nodes cells refs arrays start (jump_subst vars w) vars scope blocks k w c
      (StoreAt begin many i q spare) tt fits ps reads sn G
  step_leads scope k w c (Exit q spare to) e fits ps reads sn sr h G =
      exit_leads scope k w c q spare to fits (ps 0 0 (omega arith)) (ps 1 0 (omega arith)) reads sr h G
  step_leads scope k w c (Go spare to) e fits ps reads sn sr h G = cc
  step_leads scope k w c Stop e fits ps reads sn sr h G = cc

  -- the rules of a step that ends its block apply
  last_applies : (scope : ℕ) (k : Known) (w : Noted) (c : Context) (i : Step3) → is_last i ≡ true →
      StepFits cells blocks i → All (λ p. p < 32) (pairs_of i) → ReadsKnown vars k i →
      Starts (step_noted vars scope w i).rows o.substs → IsNamed o.nodes scope k (length w.nodes) w.pairs w.memory →
      IsGood o scope k w.pairs w.memory c → Applies o c (coded_step start (jump_subst vars w) i)
  last_applies scope k w c (Put p v) e fits ps reads sr h G = cc
  last_applies scope k w c (Copy p q) e fits ps reads sr h G = cc
  last_applies scope k w c (Op op p q r) e fits ps reads sr h G = cc
  last_applies scope k w c (Load p cl) e fits ps reads sr h G = cc
  last_applies scope k w c (Store cl q spare) e fits ps reads sr h G = cc
  last_applies scope k w c (LoadAt p q begin many) e fits ps reads sr h G = cc
  last_applies scope k w c (StoreAt begin many i q spare) e fits ps reads sr h G = cc
  last_applies scope k w c (Exit q spare to) e fits ps reads sr h G = cc
  last_applies scope k w c (Go spare to) e fits ps reads sr h G =
      go_applies scope k w c spare to fits (ps 0 0 (omega arith)) reads sr h G
  last_applies scope k w c Stop e fits ps reads sr h G = last_row (halt_row o c G.zero G.queue)

  -- a step ends its block, or it does not
  last_or_not : (b : Bool) → (b ≡ true) ⊎ (b ≡ false)
  last_or_not true = inl refl
  last_or_not false = inr refl

  -- a step that ends its block is followed by nothing
  block_ends : (i : Step3) (is : List Step3) → is_last i ≡ true → IsBlock (i ∷ is) → is ≡ []
  block_ends i is e h = subst (λ b. elim b as (λ x. Type 0) [ true ↦ is ≡ [] | false ↦ IsBlock is ]) e h

  -- any other step is followed by the rest of its block
  block_goes_on : (i : Step3) (is : List Step3) → is_last i ≡ false → IsBlock (i ∷ is) → IsBlock is
  block_goes_on i is e h = subst (λ b. elim b as (λ x. Type 0) [ true ↦ is ≡ [] | false ↦ IsBlock is ]) e h

  -- the typing rules of a block's steps apply
  pub row_applies : (scope : ℕ) (k : Known) (w : Noted) (c : Context) (is : List Step3) → scope ≤ 128 → IsBlock is →
      RowIsWell vars cells blocks k is → All (λ i. All (λ p. p < 32) (pairs_of i)) is →
      Starts (row_noted vars scope w is).nodes o.nodes → Starts (row_noted vars scope w is).rows o.substs →
      IsLawful o.nodes scope k w → IsGood o scope k w.pairs w.memory c → Applies o c (row_coded vars start scope w is)
  row_applies scope k w c [] le B W ps sn sr L G = absurd B
  row_applies scope k w c (i ∷ is) le B W ps sn sr L G =
      let v = step_noted vars scope w i in
      let g = row_grows vars scope v is in
      let hn : Starts v.nodes o.nodes = starts_trans v.nodes _ o.nodes g.nodes sn in
      let hr : Starts v.rows o.substs = starts_trans v.rows _ o.substs g.rows sr in
      let here = coded_step start (jump_subst vars w) i in
      let p = ps 0 i (omega arith) in
      elim (last_or_not (is_last i)) [
        | inl e ↦ let f = block_ends i is e B in
            subst (λ l. Applies o c (here ++ row_coded vars start scope v l)) (sym f)
            (subst (Applies o c) (sym (append-nil here)) (last_applies scope k w c i e W.0 p W.1 hr L.named G))
        | inr e ↦ let S = step_leads scope k w c i e W.0 p W.1 hn hr L.named G in
            passes_applies o c S.after here (row_coded vars start scope v is) S.passes
            (row_applies scope (known_after i k) v S.after is le (block_goes_on i is e B) W.2 (λ j d lt.
            ps (suc j) d (omega arith)) sn sr (step_lawful o.nodes vars scope cells blocks k w i le small W.0 p W.1 hn
            L) S.good)
      ]
