-- One iteration of each loop, and its end.
use Rattle.std.proofs.Common.{◌≡◌, ◌≢◌, ◌+◌, ◌<◌, ◌≤◌, ℕ, zero, suc, Bool, true, false, ◌&&◌, List, [], ◌∷◌, length}
use Rattle.std.proofs.Common.{map, drop, slice_get, Option, None, Some, refl, ap, ◌∙◌, arith}
use Rattle.std.specs.Option.{option_map, unwrap_or}
use Rattle.std.specs.FinMap as finite
use Rattle.std.proofs.Math.ListN.{set, replicate}
use Rattle.std.proofs.lemmas.List.{length-map, drop_all}
use Rattle.ft_isa.proofs.Lists.{drop_next, there_mapped}
use Rattle.ft_static.specs.Form.{Form as Normal, integer_form, Updates, same_polynomial}
use Rattle.ft_static.specs.NormalForm.{norm_upd}
use Rattle.ft_norm.specs.declared.form.Form.{Form}
use Rattle.ft_norm.specs.Held.{held, polynomial, Keeps}
use Rattle.ft_types.specs.declared.object.Object.{Object}
use Rattle.ft_types.specs.declared.object.CodeType.{CodeType}
use Rattle.ft_types.specs.declared.object.TypeHead.{TypeHead}
use Rattle.ft_types.specs.declared.object.RegType.{RegType}
use Rattle.ft_types.specs.Objects.{reg_rows, queue_rows, ints_of, memory_of, regs_of, queue_of, ints_of_type}
use Rattle.ft_types.specs.Objects.{memory_of_type, type_head_of}
use Rattle.ft_typing.specs.Context.{Typed, TypedRegisters, FormPair, Replacement, typed_row, registers_after}
use Rattle.ft_typing.specs.Context.{integer_form_of, integer_form_after}
use Rattle.ft_typing.specs.RowWords.{pending_memory, same_colour, is_like, is_queue_like}
use Rattle.ft_typing.specs.TypedWord.{is_seen_as}
use Rattle.ft_contexts.specs.declared.register.RegForm.{RegForm}
use Rattle.ft_contexts.specs.Contexts.{typed_in, pair_in, registers_in, HoldsRegisters}
use Rattle.ft_contexts.proofs.Kept.{polynomial_found, registers_stay}
use Rattle.ft_contexts.proofs.Registers.{registers_set}

-- THE PENDING MEMORY

pub pending_turn : (fs : List Normal) (m : Updates) (q : List (Form × Form)) (j : ℕ) (p : Form × Form) → slice_get q j
    ≡ Some p → pending_memory m (drop j (map (pair_in fs) q))
    ≡ pending_memory (norm_upd m (polynomial fs p.0) (polynomial fs p.1)) (drop (j + 1) (map (pair_in fs) q))
unfolding pending_memory
pending_turn fs m q j p e = rw (drop_next (map (pair_in fs) q) j (pair_in fs p) (there_mapped (pair_in fs) q j p e))
    refl

pub pending_end : (fs : List Normal) (m : Updates) (q : List (Form × Form)) (j : ℕ) → length q ≤ j →
    pending_memory m (drop j (map (pair_in fs) q)) ≡ m
unfolding pending_memory
pending_end fs m q j l =
    let n = length-map q (pair_in fs) in
    rw (drop_all j (map (pair_in fs) q) (omega arith)) refl

-- THE START OF A BLOCK

-- in an array without entries, nothing is known
pub registers_none : (fs : List Normal) (n k : ℕ) → registers_in fs n (replicate k None) ≡ finite.empty
unfolding registers_in
registers_none fs n zero = refl
registers_none fs n (suc k) = registers_none fs (suc n) k

-- no register is known in such an array
pub none_there : (k r : ℕ) (x : RegForm) (P : Type 0) → slice_get (replicate k None) r ≡ Some (Some x) → P
none_there zero r x P e = cc
none_there (suc k) zero x P e = cc
none_there (suc k) (suc r) x P e = none_there k r x P e

-- noting the remaining register rows begins with the next one
pub registers_turn : (o : Object) (m : TypedRegisters) (rows : List RegType) (j : ℕ) (r : RegType) → slice_get rows j
    ≡ Some r → registers_after o m (drop j rows) ≡ registers_after o (finite.insert m r.reg.number (typed_row o r))
    (drop (j + 1) rows)
unfolding registers_after
registers_turn o m rows j r e = rw (drop_next rows j r e) refl

-- if no row is left, nothing more is noted
pub registers_end : (o : Object) (m : TypedRegisters) (rows : List RegType) (j : ℕ) → length rows ≤ j →
    registers_after o m (drop j rows) ≡ m
unfolding registers_after
registers_end o m rows j l = rw (drop_all j rows l) refl

-- setting a register's entry in the array notes its row
pub registers_noted : (o : Object) (fs gs : List Normal) (xs : List (Option RegForm)) (n : ℕ) (row : RegType) (f : Form)
    → Keeps fs gs → HoldsRegisters fs xs → n < length xs → n ≡ row.reg.number → held gs f
    ≡ Some (integer_form (integer_form_of o row.expr))
    → registers_in gs 0 (set xs n (Some (record { colour = row.colour; basic = row.basic; form = f })))
    ≡ finite.insert (registers_in fs 0 xs) row.reg.number (typed_row o row)
registers_noted o fs gs xs n row f k h l same made =
    let x : RegForm = record { colour = row.colour; basic = row.basic; form = f } in
    let t : typed_in gs x ≡ typed_row o row = (let e = polynomial_found gs f (integer_form_of o row.expr) made in
    λ i. record { colour = row.colour; basic = row.basic; form = e i }) in
    registers_set gs xs n x l ∙ ap (λ m. finite.insert m n (typed_in gs x)) (registers_stay fs gs 0 xs k h)
    ∙ ap (finite.insert (registers_in fs 0 xs) n) t
    ∙ ap (λ y. finite.insert (registers_in fs 0 xs) y (typed_row o row)) same

-- CODE TYPES

-- the head of a code type gives its number of integer variables, its numbers of rows and its memory
pub head_says : (o : Object) (t : ℕ) (x : TypeHead) → option_map type_head_of (slice_get o.types t) ≡ Some x →
    (x.ints ≡ ints_of o t) × (x.regs ≡ length (reg_rows o t)) × (x.queue ≡ length (queue_rows o t))
    × (x.memory ≡ memory_of o t)
head_says o t x e = says (slice_get o.types t) e
  where
    says : (y : Option CodeType) → option_map type_head_of y ≡ Some x →
        (x.ints ≡ unwrap_or (option_map ints_of_type y) 0) × (x.regs ≡ length (unwrap_or (option_map regs_of y) []))
        × (x.queue ≡ length (unwrap_or (option_map queue_of y) []))
        × (x.memory ≡ unwrap_or (option_map memory_of_type y) 0)
    says None e = cc
    says (Some y) e =
        let same : x ≡ type_head_of y = cc in (
          ap (λ (z : TypeHead). z.ints) same,
          ap (λ (z : TypeHead). z.regs) same,
          ap (λ (z : TypeHead). z.queue) same,
          ap (λ (z : TypeHead). z.memory) same,
        )

-- LIKENESS

-- if a register has the colour and type that its row requires, only the forms are left to compare
pub like_typed : (o : Object) (x : Replacement) (k : Option Typed) (t : Typed) (r : RegType) → k ≡ Some t →
    (same_colour t.colour r.colour && is_seen_as t.basic r.basic) ≡ true → is_like o x k r
    ≡ same_polynomial t.form (integer_form_after o x r.expr)
unfolding is_like
like_typed o x k t r e h = rw (e, h) refl

-- queues of different lengths are not alike
pub unlike_lengths : (o : Object) (x : Replacement) (q : List FormPair) (rows : List (ℕ × ℕ)) → length q ≢ length rows →
    is_queue_like o x q rows ≡ false
unfolding is_queue_like
unlike_lengths o x [] [] h = absurd (h refl)
unlike_lengths o x [] (r ∷ rs) h = refl
unlike_lengths o x (e ∷ q) [] h = refl
unlike_lengths o x (e ∷ q) (r ∷ rs) h = rw (unlike_lengths o x q rs (λ s. h (ap suc s))) (and_false _)
  where
    and_false : (b : Bool) → (b && false) ≡ false
    and_false true = refl
    and_false false = refl

-- comparing the queues from index j on compares pair j with its row, then the pairs after it
pub queue_turn : (o : Object) (x : Replacement) (q : List FormPair) (rows : List (ℕ × ℕ)) (j : ℕ) (e : FormPair) (r : ℕ
    × ℕ) (b : Bool) → slice_get q j ≡ Some e → slice_get rows j ≡ Some r → b
    ≡ (same_polynomial e.0 (integer_form_after o x r.0) && same_polynomial e.1 (integer_form_after o x r.1))
    → is_queue_like o x (drop j q) (drop j rows) ≡ (b && is_queue_like o x (drop (j + 1) q) (drop (j + 1) rows))
unfolding is_queue_like
queue_turn o x q rows j e r b f g h = rw (drop_next q j e f, drop_next rows j r g, h) refl

-- if no pair is left, the comparison succeeds
pub queue_end : (o : Object) (x : Replacement) (q : List FormPair) (rows : List (ℕ × ℕ)) (j : ℕ) → length q ≤ j →
    length rows ≤ j → is_queue_like o x (drop j q) (drop j rows) ≡ true
unfolding is_queue_like
queue_end o x q rows j l m = rw (drop_all j q l, drop_all j rows m) refl

-- SCOPES
