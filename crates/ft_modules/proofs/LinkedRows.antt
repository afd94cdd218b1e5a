-- The typing rules of a module's instructions, compared with the rules of the linked object's instructions.
use Rattle.std.proofs.Common.{◌≡◌, ℕ, zero, suc, Bool, true, false, not, ◌&&◌, ◌||◌, ◌+◌, List, [], ◌∷◌, ◌++◌, length}
use Rattle.std.proofs.Common.{map, nat_le, nat_lt, ◌==◌, Option, Some, None, is_some, eqb-true, refl, sym, ap, ◌∙◌}
use Rattle.std.proofs.Common.{subst, eq-eqb}
use Rattle.std.specs.Prelude.{slice_range}
use Rattle.std.specs.List.{AllZip}
use Rattle.std.specs.FinMap as finite
use Rattle.std.proofs.lemmas.Bool.{and_parts, and_from}
use Rattle.std.proofs.Math.Nat.{mod-eq_of_lt}
use Rattle.ft_isa.specs.Words.{IsWord}
use Rattle.ft_isa.specs.declared.basic.Base.{Base}
use Rattle.ft_isa.specs.declared.basic.Base.TheVariants.{Int, Code}
use Rattle.ft_isa.specs.declared.basic.Basic.{Basic}
use Rattle.ft_isa.specs.declared.colour.Colour.{Colour}
use Rattle.ft_isa.specs.declared.colour.Colour.TheVariants.{Green, Blue}
use Rattle.ft_isa.specs.declared.colour.Coloured.{Coloured}
use Rattle.ft_isa.specs.declared.reg.Reg.{Reg}
use Rattle.ft_isa.specs.declared.instr.Subst.{Subst}
use Rattle.ft_isa.specs.declared.instr.Instr.{Instr}
use Rattle.ft_isa.specs.declared.instr.Instr.TheVariants.{Mov, St, JmpG, JmpB, BzG, BzB, Halt}
use Rattle.ft_isa.specs.Instructions.{first_read, second_read, is_one_of, written as writes}
use Rattle.ft_static.specs.Expression.{Valuation, Integer, Memory}
use Rattle.ft_static.specs.Form.{Polynomial, Updates, same_polynomial, same_updates, value_polynomial}
use Rattle.ft_static.specs.NormalForm.{constant, norm_upd, norm_under, norm_memory_under}
use Rattle.ft_static.proofs.Equal.{equal_polynomials}
use Rattle.ft_static.proofs.FormsDenote.{value_constant}
use Rattle.ft_types.specs.declared.object.Object.{Object}
use Rattle.ft_types.specs.declared.object.RegType.{RegType}
use Rattle.ft_types.specs.Objects.{basic_of, reg_rows, queue_rows, ints_of, memory_of}
use Rattle.ft_isa.specs.BasicTypes.{code}
use Rattle.ft_typing.specs.TypedWord.{cell_of, code_type_at, has_type_over, has_type, is_seen_as, only_referable}
use Rattle.ft_typing.specs.TypedWord.{common_type, run_type}
use Rattle.ft_typing.specs.declared.why.Why.TheVariants as premise
use Rattle.ft_typing.specs.Premise.{Premise}
use Rattle.ft_typing.specs.Context.{Typed, FormPair, Context, typed, with_type, replacement, Replacement}
use Rattle.ft_typing.specs.Context.{integer_form_after, memory_form_after}
use Rattle.ft_typing.specs.RowWords.{Outcome, same_colour, pending_memory, seen_memory, is_empty, is_like, are_like}
use Rattle.ft_typing.specs.RowWords.{is_queue_like, is_annotated, leads}
use Rattle.ft_typing.specs.TypingRow.{row}
use Rattle.ft_typing.proofs.TypedWords.{has_type_decides}
use Rattle.ft_modules.specs.CodeWalk.{Entered, code_over, code_claimed, claimed, entered_with, entered_past}
use Rattle.ft_modules.specs.CodeWalk.{entered_after, is_free, both_free, is_entered, are_free, is_traced}
use Rattle.ft_exchange.proofs.WriteRows.{gives, write_row, gave, gives_same, gives_there}
use Rattle.ft_modules.specs.LikeTypes.{SameInteger, SameMemory, SameRow, SamePair, LikeTypes}
use Rattle.ft_modules.proofs.Both.{Both, both_goes, both_end, both_need, both_typed, both_known, both_ref, both_code}
use Rattle.ft_modules.proofs.Both.{both_oldest}
use Rattle.ft_modules.proofs.LinkedContexts.{AreSent, SameSubst, IsMovOf, IsInstrOf, Beside, free_at, free_same}
use Rattle.ft_modules.proofs.LinkedContexts.{target_there, free_target_there, written, both_zero, both_target}
use Rattle.ft_modules.proofs.LinkedContexts.{both_conditional}

-- TRANSFERS TO A CODE TYPE

-- nodes with the same tree have the same form after a substitution
after_same : (o x : Object) (p : Replacement) (n m : ℕ) → SameInteger o x n m → integer_form_after o p n
    ≡ integer_form_after x p m
unfolding integer_form_after
after_same o x p n m h = ap (λ (e : Integer). norm_under e p.integers p.memory) h

-- nodes of memories with the same tree have the same form after a substitution
memory_after_same : (o x : Object) (p : Replacement) (n m : ℕ) → SameMemory o x n m → memory_form_after o p n
    ≡ memory_form_after x p m
unfolding memory_form_after
memory_after_same o x p n m h = ap (λ (e : Memory). norm_memory_under e p.integers p.memory) h

-- a register meets the requirements of a row exactly when it meets those of a row that agrees with it
like_row : (o x : Object) (p : Replacement) (y : Option Typed) (r q : RegType) → SameRow o x r q → is_like o p y r
    ≡ is_like x p y q
unfolding is_like
like_row o x p None r q h = refl
like_row o x p (Some t) r q h = λ i. same_colour t.colour (h.colour i) && is_seen_as t.basic (h.basic i)
    && same_polynomial t.form (after_same o x p r.expr q.expr h.tree i)

-- likewise for registers of the same type
like_same : (o x : Object) (p : Replacement) (y z : Option Typed) (r q : RegType) → y ≡ z → SameRow o x r q →
    is_like o p y r ≡ is_like x p z q
like_same o x p y z r q e h = ap (λ (u : Option Typed). is_like o p u r) e ∙ like_row o x p z r q h

-- likewise for all rows of code types that agree and have no row for an entered register
rows_same : (o x : Object) (to : ℕ → ℕ × ℕ) (e : Entered) (c b : Context) (p : Replacement) (rs qs : List RegType) →
    Beside o to e c b → are_free e rs ≡ true → AllZip (SameRow o x) rs qs → are_like o p c rs ≡ are_like x p b qs
rows_same o x to e c b p [] [] h f l = refl
rows_same o x to e c b p [] (q ∷ qs) h f l = absurd l
rows_same o x to e c b p (r ∷ rs) [] h f l = absurd l
rows_same o x to e c b p (r ∷ rs) (q ∷ qs) h f l =
    let a = and_parts _ _ f in
    let row = l.0 in
    let known : typed c r.reg.number ≡ typed b q.reg.number = free_same o to e c b r.reg h a.0 ∙ ap (typed b) row.reg in
    λ i. like_same o x p (typed c r.reg.number) (typed b q.reg.number) r q known row i
    && rows_same o x to e c b p rs qs h a.1 l.1 i

-- likewise for the static queue and queue rows that agree
queue_same : (o x : Object) (p : Replacement) (es : List FormPair) (rs qs : List (ℕ × ℕ)) →
    AllZip (SamePair o x) rs qs → is_queue_like o p es rs ≡ is_queue_like x p es qs
unfolding is_queue_like
queue_same o x p [] [] [] l = refl
queue_same o x p [] [] (q ∷ qs) l = absurd l
queue_same o x p [] (r ∷ rs) [] l = absurd l
queue_same o x p [] (r ∷ rs) (q ∷ qs) l = refl
queue_same o x p (e ∷ es) [] [] l = refl
queue_same o x p (e ∷ es) [] (q ∷ qs) l = absurd l
queue_same o x p (e ∷ es) (r ∷ rs) [] l = absurd l
queue_same o x p (e ∷ es) (r ∷ rs) (q ∷ qs) l =
    let a = l.0 in
    λ i. same_polynomial e.0 (after_same o x p r.0 q.0 a.address i)
    && same_polynomial e.1 (after_same o x p r.1 q.1 a.value i) && queue_same o x p es rs qs l.1 i

-- if two substitutions have the same effect, both or neither fit code types that agree
annotated_same : (o x : Object) (n : ℕ) (u q : Subst) (t k : ℕ) → SameSubst o x u q → ints_of o t ≡ ints_of x k →
    is_annotated o n u t ≡ is_annotated x n q k
unfolding is_annotated
annotated_same o x n u q t k s e = λ i. (s.count i == e i) && s.scopes n i && nat_le (s.memory_scope i) n

-- the outcomes of transfers to code types that agree correspond
pub both_leads : (R : Context → Context → Type 0) (o x : Object) (to : ℕ → ℕ × ℕ) (e : Entered) (c b : Context)
    (u q : Subst) (t k : ℕ) (y z : Outcome) → Beside o to e c b → SameSubst o x u q → LikeTypes o t x k →
    are_free e (reg_rows o t) ≡ true → Both R y z → Both R (leads o u t c y) (leads x q k b z)
unfolding leads
both_leads R o x to e c b u q t k y z h s l f both =
    let annotated : is_annotated o c.ints u t ≡ is_annotated x b.ints q k = ap (λ n. is_annotated o n u t) h.ints
    ∙ annotated_same o x b.ints u q t k s l.ints in
    let rows : are_like o (replacement o u) c (reg_rows o t) ≡ are_like x (replacement x q) b (reg_rows x k) =
    ap (λ (p : Replacement). are_like o p c (reg_rows o t)) s.forms
    ∙ rows_same o x to e c b (replacement x q) (reg_rows o t) (reg_rows x k) h f l.regs in
    let queue : is_queue_like o (replacement o u) c.queue (queue_rows o t)
    ≡ is_queue_like x (replacement x q) b.queue (queue_rows x k) =
    (λ i. is_queue_like o (s.forms i) (h.queue i) (queue_rows o t))
    ∙ queue_same o x (replacement x q) b.queue (queue_rows o t) (queue_rows x k) l.queue in
    let memory : same_updates c.memory (memory_form_after o (replacement o u) (memory_of o t))
    ≡ same_updates b.memory (memory_form_after x (replacement x q) (memory_of x k)) =
    (λ i. same_updates (h.memory i) (memory_form_after o (s.forms i) (memory_of o t)))
    ∙ ap (same_updates b.memory) (memory_after_same o x (replacement x q) (memory_of o t) (memory_of x k) l.memory) in
    both_need R _ _ _ _ _ (λ i. (
      sym annotated ∙ i,
      both_need R _ _ _ _ _ (λ j. (
        sym rows ∙ j,
        both_need R _ _ _ _ _ (λ m. (
          sym queue ∙ m,
          both_need R _ _ _ _ _ (λ n. (
            sym memory ∙ n,
            both,
          )),
        )),
      )),
    ))

-- MOVES AND TARGETS

-- a word that has a type other than a code type in one object has it in the other too
has_same : (o x : Object) (w n : ℕ) (base : Base) → x.cells ≡ o.cells → code_over n base ≡ None →
    has_type_over o w n base ≡ true → has_type_over x w n base ≡ true
unfolding cell_of
has_same o x w zero Int e k h = refl
has_same o x w zero (Code t) e k h = cc
has_same o x w (suc n) base e k h = rw e h

-- the cells of a run have the same type in both objects
run_same : (o x : Object) (first n : ℕ) → x.cells ≡ o.cells → run_type o first n ≡ run_type x first n
unfolding run_type
run_same o x first n e = λ i. only_referable (common_type (map basic_of (slice_range (sym e i) first (first + n))))

-- words with the same constant form are equal
constant_word : (w v : ℕ) → IsWord w → IsWord v → constant w ≡ constant v → w ≡ v
constant_word w v a b e =
    let s : Valuation = record { integers = []; memory = finite.empty } in
    sym (mod-eq_of_lt a) ∙ sym (value_constant w s) ∙ ap (λ (p : Polynomial). value_polynomial p s) e
    ∙ value_constant v s ∙ mod-eq_of_lt b

-- equal targets are sent to the same target
targets_same : (o x : Object) (to : ℕ → ℕ × ℕ) (w t v u : ℕ) → AreSent o x to → code_type_at o w ≡ Some t →
    code_type_at o v ≡ Some u → ((t == u) && same_polynomial (constant w) (constant v)) ≡ true →
    (((to w).1 == (to v).1) && same_polynomial (constant (to w).0) (constant (to v).0)) ≡ true
targets_same o x to w t v u a iw iv h =
    let p = and_parts (t == u) (same_polynomial (constant w) (constant v)) h in
    let same : w ≡ v = constant_word w v (a.sends w t iw).is_word (a.sends v u iv).is_word
    ((equal_polynomials _ _).0 p.1) in
    and_from _ _ (eq-eqb (to w).1 (to v).1 (ap (λ z. (to z).1) same))
    ((equal_polynomials _ _).1 (ap (λ z. constant (to z).0) same))

module _ (o x : Object) (to : ℕ → ℕ × ℕ) (a : AreSent o x to) (e : Entered) (c b : Context) (h : Beside o to e c b)
  where
    -- the relation "the contexts correspond after an instruction"
    abbrev R : Instr → Context → Context → Type 0
    R i = Beside o to (entered_after i e)

    -- the outcomes of the rules for two instructions correspond
    abbrev B : Instr → Instr → Type 0
    B i j = Both (R i) (row o c i) (row x b j)

    -- the outcomes for a `mov` correspond: by cases on the code type that it claims
    mov_by : (rd : Reg) (v : Coloured) (n : ℕ) (base : Base) (j : Instr) (k : Option ℕ) → code_over n base ≡ k →
        IsMovOf to rd v (record { refs = n; base = base }) j k →
        Both (R (Mov rd (record { refs = n; base = base }) v)) (row o c (Mov rd (record { refs = n; base = base }) v))
        (row x b j)
    unfolding has_type
    mov_by rd v n base j None g is =
        let basic : Basic = record { refs = n; base = base } in
        subst (B (Mov rd basic v)) (sym is) (both_need (R (Mov rd basic v)) premise.BasicType _ _ _ _ (λ t. (
          has_same o x v.word n base a.cells g t,
          both_goes _ _ _
              (subst (λ (u : Option ℕ). Beside o to (entered_with rd.number u e)
              (with_type rd.number (record { colour = v.colour; basic = basic; form = constant v.word }) c)
              (with_type rd.number (record { colour = v.colour; basic = basic; form = constant v.word }) b)) (sym g)
              (written o to e c b rd.number None _ _ h refl)),
        )))
    mov_by rd v zero Int j (Some t) g is = cc
    mov_by rd v (suc n) base j (Some t) g is = cc
    mov_by rd v zero (Code u) j (Some t) g is =
        let same : u ≡ t = cc in
        subst (B (Mov rd (code u) v)) (sym is) (both_need (R (Mov rd (code u) v)) premise.BasicType
        (has_type o v.word (code u))
        (has_type x (to v.word).0 (code (to v.word).1)) _ _ (λ k.
        let there : code_type_at o v.word ≡ Some u = (has_type_decides o v.word (code u)).0 k in
        let s = a.sends v.word u there in (
          (has_type_decides x (to v.word).0 (code (to v.word).1)).1 s.there,
          both_goes _ _ _
              (written o to e c b rd.number (Some u) _ _ h (record {
                colour = v.colour;
                word = v.word;
                address = there;
                known = refl;
                beside = refl;
              })),
        )))

    -- the outcomes for a green jump correspond
    jump_green_row : (rd : Reg) → is_entered e rd ≡ true → Both (R (JmpG rd)) (row o c (JmpG rd)) (row x b (JmpG rd))
    jump_green_row rd f =
        let g = target_there o to e c b rd h f in
        let i = g.is in
        both_known _ _ _ _ _ _ _ i.known i.beside (both_need _ premise.Colour _ _ _ _ (λ k. (
          k,
          both_code _ _ _ _ _ (both_zero _ o to c.d b.d _ _ h.d (λ z z'. both_goes _ _ _ (record {
            ints = h.ints;
            registers = h.registers;
            d = record { word = i.word; address = i.address; form = refl; beside = refl };
            queue = h.queue;
            memory = h.memory;
          }))),
        )))

    -- the outcomes for a green branch correspond
    branch_green_row : (rz rd : Reg) → is_free e rz ≡ true → is_entered e rd ≡ true →
        Both (R (BzG rz rd)) (row o c (BzG rz rd)) (row x b (BzG rz rd))
    branch_green_row rz rd fz f =
        let g = target_there o to e c b rd h f in
        let i = g.is in
        both_typed _ _ _ _ _ (free_same o to e c b rz h fz) (λ z iz.
        both_known _ _ _ _ _ _ _ i.known i.beside (both_need _ premise.Colour _ _ _ _ (λ k. (
          k,
          both_code _ _ _ _ _ (both_zero _ o to c.d b.d _ _ h.d (λ _ _. both_goes _ _ _ (record {
            ints = h.ints;
            registers = h.registers;
            d = record { word = i.word; address = i.address; form = refl; beside = refl };
            queue = h.queue;
            memory = h.memory;
          }))),
        ))))

    -- the outcomes for a blue jump correspond
    jump_blue_row : (rd : Reg) (u q : Subst) → SameSubst o x u q → is_traced o e (JmpB rd u) ≡ true →
        Both (R (JmpB rd u)) (row o c (JmpB rd u)) (row x b (JmpB rd q))
    jump_blue_row rd u q s f =
        let g = free_target_there o to e c b rd h f in
        let i = g.is in
        both_known _ _ _ _ _ _ _ i.known i.beside (both_need _ premise.Colour _ _ _ _ (λ k. (
          k,
          both_code _ _ _ _ _ (both_target _ o to c.d b.d _ _ h.d (λ w t iw.
              both_need _ premise.Targets _ _ _ _ (λ both. (
                targets_same o x to i.word g.code_type w t a i.address iw both,
                both_leads _ o x to e c b u q g.code_type (to i.word).1 _ _ h s
                    (a.sends i.word g.code_type i.address).alike g.free (both_end _),
              )))),
        )))

    -- the outcomes for a blue branch correspond
    branch_blue_row : (rz rd : Reg) (u q : Subst) → SameSubst o x u q → is_traced o e (BzB rz rd u) ≡ true →
        Both (R (BzB rz rd u)) (row o c (BzB rz rd u)) (row x b (BzB rz rd q))
    branch_blue_row rz rd u q s f =
        let p = and_parts _ _ f in
        let g = free_target_there o to e c b rd h p.1 in
        let i = g.is in
        both_typed _ _ _ _ _ (free_same o to e c b rz h p.0) (λ z iz.
        both_known _ _ _ _ _ _ _ i.known i.beside (both_need _ premise.Colour _ _ _ _ (λ k. (
          k,
          both_code _ _ _ _ _ (both_conditional _ o to c.d b.d _ _ h.d (λ y w t iw.
              both_need _ premise.Conditions _ _ _ _ (λ m. (
                m,
                both_need _ premise.Targets _ _ _ _ (λ both. (
                  targets_same o x to i.word g.code_type w t a i.address iw both,
                  both_leads _ o x to e c b u q g.code_type (to i.word).1 _ _ h s
                      (a.sends i.word g.code_type i.address).alike g.free (both_goes _ _ _ (record {
                        ints = h.ints;
                        registers = h.registers;
                        d = refl;
                        queue = h.queue;
                        memory = h.memory;
                      })),
                )),
              )))),
        ))))

    -- a load sees the same memory in both contexts
    seen_same : (k : Colour) → seen_memory k c ≡ seen_memory k b
    seen_same Green = λ i. pending_memory (h.memory i) (h.queue i)
    seen_same Blue = h.memory

    -- a register that is read and not entered has the same type in both contexts
    read_same : (p r : ℕ) → not (is_some (finite.get e p)) ≡ true → (p == r) ≡ true → typed b r ≡ typed c r
    read_same p r f k = subst (λ n. typed b n ≡ typed c n) (eqb-true p r k) (sym (free_at o to e c b p h f))

    -- all registers that an instruction reads have the same types in both contexts
    reads_same : (p q : Option ℕ) → both_free e p q ≡ true → (r : ℕ) → is_one_of p q r ≡ true → typed b r ≡ typed c r
    reads_same (Some p) (Some q) f r k = by_test (p == r) refl
      where
        by_test : (t : Bool) → (p == r) ≡ t → typed b r ≡ typed c r
        by_test true g = read_same p r (and_parts _ _ f).0 g
        by_test false g = read_same q r (and_parts _ _ f).1 (ap (λ t. t || (q == r)) (sym g) ∙ k)
    reads_same (Some p) None f r k = read_same p r f k
    reads_same None (Some q) f r k = read_same q r f k
    reads_same None None f r k = cc

    -- the outcomes of writes of the same type in both contexts correspond
    wrote_beside : (i : Instr) (r : ℕ) → writes i ≡ Some r → claimed i ≡ None → (u v : Option Typed) (p q : Premise) → v
        ≡ u → Both (R i) (write_row r c u p) (write_row r b v q)
    unfolding write_row Both
    wrote_beside i r w n (Some t) v p q s = subst (λ y. Both (R i) (write_row r c (Some t) p) (write_row r b y q))
        (sym s) (subst (λ (y : Entered). Beside o to y (with_type r t c) (with_type r t b))
        (λ k. entered_past (sym w k) (sym n k) e) (written o to e c b r None t t h refl))
    wrote_beside i r w n None v p q s = tt

    -- the outcomes for an instruction that writes a register and is not a `mov` correspond
    write_beside : (i : Instr) (r : ℕ) → writes i ≡ Some r → claimed i ≡ None →
        ((rd : Reg) (v : Coloured) (y : Basic) → i ≡ Mov rd y v → ⊥) →
        both_free e (first_read i) (second_read i) ≡ true → Both (R i) (row o c i) (row x b i)
    write_beside i r w n m f =
        let same : gives x b i ≡ gives o c i = gives_there o x b i (λ k l. sym (run_same o x k l a.cells))
        (λ rd v y g. absurd (m rd v y g))
        ∙ gives_same o c b i (reads_same (first_read i) (second_read i) f) (λ k rd rs g. sym (seen_same k)) in
        let y = gave o c i r w in
        let z = gave x b i r w in
        subst (λ k. Both (R i) k (row x b i)) (sym y.row_is)
        (subst (λ k. Both (R i) (write_row r c (gives o c i) y.failing) k) (sym z.row_is)
        (wrote_beside i r w n (gives o c i) (gives x b i) y.failing z.failing same))

    -- the outcomes of the rules correspond, if the walk passes the module's instruction
    pub row_beside : (i j : Instr) → is_traced o e i ≡ true → IsInstrOf o x to i j →
        Both (Beside o to (entered_after i e)) (row o c i) (row x b j)
    row_beside (Mov rd basic v) j f is = mov_by rd v basic.refs basic.base j (code_claimed basic) refl is
    row_beside (St Green rd rs) j f is = (let p = and_parts _ _ f in
        subst (B (St Green rd rs)) (sym is) (both_typed _ _ _ _ _ (free_same o to e c b rd h p.0) (λ s _.
        both_typed _ _ _ _ _ (free_same o to e c b rs h p.1) (λ t _. both_need _ premise.Colour _ _ _ _ (λ col. (
          col,
          both_ref _ s.basic.refs s.basic.base _ _ (λ y.
              both_need _ premise.BasicType _ _ _ _ (λ k. (
                k,
                both_need _ premise.QueueFull _ _ _ _ (λ m. (
                  ap (λ (z : List FormPair). nat_lt (length z) 8) (sym h.queue) ∙ m,
                  both_goes _ _ _ (record {
                    ints = h.ints;
                    registers = h.registers;
                    d = h.d;
                    queue = ap (λ (z : List FormPair). z ++ (s.form, t.form) ∷ []) h.queue;
                    memory = h.memory;
                  }),
                )),
              ))),
        ))))))
    row_beside (St Blue rd rs) j f is = (let p = and_parts _ _ f in
        subst (B (St Blue rd rs)) (sym is) (both_typed _ _ _ _ _ (free_same o to e c b rd h p.0) (λ s _.
        both_typed _ _ _ _ _ (free_same o to e c b rs h p.1) (λ t _. both_need _ premise.Colour _ _ _ _ (λ col. (
          col,
          both_ref _ s.basic.refs s.basic.base _ _ (λ y.
              both_need _ premise.BasicType _ _ _ _ (λ k. (
                k,
                both_oldest _ _ _ _ _ h.queue (λ old q is_oldest. both_need _ premise.Addresses _ _ _ _ (λ m. (
                  m,
                  both_need _ premise.Values _ _ _ _ (λ n. (
                    n,
                    both_goes _ _ _ (record {
                      ints = h.ints;
                      registers = h.registers;
                      d = h.d;
                      queue = refl;
                      memory = ap (λ (z : Updates). norm_upd z s.form t.form) h.memory;
                    }),
                  )),
                ))),
              ))),
        ))))))
    row_beside (JmpG rd) j f is = subst (B (JmpG rd)) (sym is) (jump_green_row rd f)
    row_beside (JmpB rd u) j f is = subst (B (JmpB rd u)) (sym is.1) (jump_blue_row rd u is.0 is.2 f)
    row_beside (BzG rz rd) j f is = (let p = and_parts _ _ f in
        subst (B (BzG rz rd)) (sym is) (branch_green_row rz rd p.0 p.1))
    row_beside (BzB rz rd u) j f is = subst (B (BzB rz rd u)) (sym is.1) (branch_blue_row rz rd u is.0 is.2 f)
    row_beside Halt j f is = subst (B Halt) (sym is) (both_zero _ o to c.d b.d _ _ h.d (λ _ _.
        both_need _ premise.QueueUnlike _ _ _ _ (λ k. (ap is_empty (sym h.queue) ∙ k, both_end _))))
    row_beside i j f is = subst (B i) (sym is) (write_beside i _ refl refl (λ rd v y g. cc) f)
