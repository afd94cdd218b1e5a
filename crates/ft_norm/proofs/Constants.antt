-- Operations on the forms of two words.
use Rattle.std.proofs.Common.{ℕ, ◌≡◌, ◌+◌, ◌*◌, ◌-◌, ◌%◌, ◌^◌, ◌<◌, ◌≤◌, ◌==◌, Some, refl, sym, ap, ◌∙◌, arith, lit<}
use Rattle.std.proofs.Common.{inl, inr, nat_le, true, List, [], ◌∷◌, length, map, get_or, None, Option, slice_get}
use Rattle.std.specs.Prelude.{IfSome}
use Rattle.std.proofs.Math.Nat.{add-mod-mod, mod-lt, mod-eq_of_lt}
use Rattle.std.proofs.lemmas.Bool.{cases_lt, eqb-true}
use Rattle.ft_isa.specs.Words.{apply}
use Rattle.ft_isa.specs.declared.op.Op.{Op}
use Rattle.ft_isa.specs.declared.op.Op.TheVariants.{Add, Sub, Mul}
use Rattle.ft_static.specs.Form.{Form as Normal, Polynomial, integer_form, nought, one, plus, terms}
use Rattle.ft_static.specs.NormalForm.{constant, constant_of, led_by, negation, norm_add, norm_mul, norm_op, total}
use Rattle.ft_static.proofs.Cases.{if_cases}
use Rattle.ft_norm.specs.declared.entry.Entry.{Entry}
use Rattle.ft_norm.specs.declared.entry.LinearTerm.{LinearTerm}
use Rattle.ft_norm.specs.declared.form.Form.{Form}
use Rattle.ft_norm.specs.Entries.{entry_form, full, polynomial_form}
use Rattle.ft_norm.specs.Held.{held, polynomial}
use Rattle.ft_norm.proofs.HeldForms.{polynomial_found}

-- a coefficient other than 0 is a term
led_some : (c : ℕ) → 0 < c → led_by one c nought ≡ plus one c nought
led_some c l = if_cases (λ q. q ≡ plus one c nought) (c == 0) nought (plus one c nought) (λ e.
    absurd (let z = eqb-true c 0 e in omega (arith, z, l))) (λ e. refl)

-- the form of a word has no term if the word is 0, and otherwise one
pub data IsWordForm (c : ℕ) (p : Polynomial) : Type 0 where
  no_term : c ≡ 0 → p ≡ nought → IsWordForm c p
  one_term : 0 < c → p ≡ plus one c nought → IsWordForm c p

word_form : (c : ℕ) → c < 2 ^ 64 → IsWordForm c (constant c)
word_form c w =
    let e : constant c ≡ led_by one c nought = ap (λ n. led_by one n nought) (mod-eq_of_lt w) in
    elim (cases_lt 0 c) [
      | inl l ↦ one_term l (e ∙ led_some c l)
      | inr l ↦ let z : c ≡ 0 = omega (arith, l) in no_term z (e ∙ ap (λ n. led_by one n nought) z)
    ]

-- the form of a word is determined by the word
from_word : (c : ℕ) (p : Polynomial) → IsWordForm c p → p ≡ led_by one c nought
from_word c p (no_term z e) = e ∙ ap (λ n. led_by one n nought) (sym z)
from_word c p (one_term l e) = e ∙ sym (led_some c l)

-- its value is the word
known : (c : ℕ) (p : Polynomial) → c < 2 ^ 64 → IsWordForm c p → constant_of p ≡ Some c
known c p w (no_term z e) = ap constant_of e ∙ ap Some (sym z)
known c p w (one_term l e) = ap constant_of e ∙ ap Some (mod-eq_of_lt w)

-- a sum of two words
total_words : (c d : ℕ) (p q : Polynomial) → c < 2 ^ 64 → d < 2 ^ 64 → IsWordForm c p → IsWordForm d q → total p q
    ≡ led_by one ((c + d) % 2 ^ 64) nought
total_words c d p q v w (no_term z e) h =
    let s : c + d ≡ d = omega (arith, z) in
    ap (λ r. total r q) e ∙ (from_word d q h ∙ ap (λ n. led_by one n nought) (sym (ap (λ n. n % 2 ^ 64) s
    ∙ mod-eq_of_lt w)))
total_words c d p q v w (one_term l e) (no_term z f) =
    let s : c + d ≡ c = omega (arith, z) in
    ap (λ r. total r q) e ∙ (ap (total (plus one c nought)) f ∙ ap (λ n. led_by one n nought)
    (sym (ap (λ n. n % 2 ^ 64) s ∙ mod-eq_of_lt v)))
total_words c d p q v w (one_term l e) (one_term m f) = ap (λ r. total r q) e ∙ ap (total (plus one c nought)) f

-- the form of a word has at most 64 terms
few_terms : (c : ℕ) → nat_le (terms (led_by one c nought)) 64 ≡ true
few_terms c = if_cases (λ q. nat_le (terms q) 64 ≡ true) (c == 0) nought (plus one c nought) (λ e. refl) (λ e. refl)

add_words : (c d : ℕ) (p q : Polynomial) → c < 2 ^ 64 → d < 2 ^ 64 → IsWordForm c p → IsWordForm d q → norm_add p q
    ≡ led_by one ((c + d) % 2 ^ 64) nought
add_words c d p q v w h k = rw (total_words c d p q v w h k, few_terms ((c + d) % 2 ^ 64)) refl

-- the negation of a word
negated : (d : ℕ) (q : Polynomial) → d < 2 ^ 64 → IsWordForm d q → IsWordForm ((2 ^ 64 - d) % 2 ^ 64) (negation q)
negated d q w (no_term z e) = no_term (ap (λ n. (2 ^ 64 - n) % 2 ^ 64) z) (ap negation e)
negated d q w (one_term l e) =
    let n : (2 ^ 64 - d) % 2 ^ 64 ≡ 2 ^ 64 - d = mod-eq_of_lt (omega (arith, l)) in
    one_term (omega (arith, n, w)) (ap negation e ∙ ap (λ n. plus one ((2 ^ 64 - n) % 2 ^ 64) nought) (mod-eq_of_lt w))

-- if a product is 0, its form is the zero polynomial
no_product : (n : ℕ) → n ≡ 0 → nought ≡ led_by one (n % 2 ^ 64) nought
no_product n e = rw e refl

-- 0 times a word is 0
none_times : (q : Polynomial) (d : ℕ) → q ≡ led_by one d nought → (p : Polynomial) → p ≡ nought → norm_mul p q ≡ nought
none_times q d f p e = ap (λ r. norm_mul r q) e ∙ (ap (norm_mul nought) f
    ∙ if_cases (λ r. norm_mul nought r ≡ nought) (d == 0) nought (plus one d nought) (λ z. refl) (λ z. refl))

-- a product of two words
mul_words : (c d : ℕ) (p q : Polynomial) → IsWordForm c p → IsWordForm d q → norm_mul p q
    ≡ led_by one (c * d % 2 ^ 64) nought
mul_words c d p q (no_term z e) h =
    let s : 0 * d ≡ 0 = omega arith in
    none_times q d (from_word d q h) p e ∙ no_product (c * d) (ap (λ n. n * d) z ∙ s)
mul_words c d p q (one_term l e) (no_term z f) =
    let s : c * 0 ≡ 0 = omega arith in
    let n : norm_mul p q ≡ nought = rw (e, f) refl in
    n ∙ no_product (c * d) (ap (λ n. c * n) z ∙ s)
mul_words c d p q (one_term l e) (one_term m f) = rw (e, f) refl

-- the form of a word that is a remainder
remains : (n : ℕ) → constant (n % 2 ^ 64) ≡ led_by one (n % 2 ^ 64) nought
remains n = ap (λ m. led_by one m nought) (mod-eq_of_lt (mod-lt n (lit< tt)))

-- an operation on two words gives the form of its result
pub op_words : (o : Op) (c d : ℕ) → c < 2 ^ 64 → d < 2 ^ 64 → norm_op o (constant c) (constant d)
    ≡ constant (apply o c d)
unfolding apply
op_words Add c d v w = add_words c d (constant c) (constant d) v w (word_form c v) (word_form d w)
    ∙ sym (remains (c + d))
op_words Sub c d v w =
    let m = 2 ^ 64 - d in
    let e : (c + m % 2 ^ 64) % 2 ^ 64 ≡ (c + m) % 2 ^ 64 = add-mod-mod c m (2 ^ 64) in
    add_words c (m % 2 ^ 64) (constant c) (negation (constant d)) v (mod-lt m (lit< tt)) (word_form c v)
    (negated d (constant d) w (word_form d w)) ∙ (ap (λ n. led_by one n nought) e ∙ sym (remains (c + m)))
op_words Mul c d v w = mul_words c d (constant c) (constant d) (word_form c v) (word_form d w) ∙ sym (remains (c * d))
op_words o c d v w = rw (known c (constant c) v (word_form c v), known d (constant d) w (word_form d w)) refl

-- the polynomial of a form that is known to be that of a word
word_found : (o : Option ℕ) (w : ℕ) (fs : List Normal) (f : Form) → o ≡ Some w →
    IfSome o (λ n. held fs f ≡ Some (integer_form (constant n))) → polynomial fs f ≡ constant w
word_found None w fs f e h = cc
word_found (Some v) w fs f e h =
    let s : v ≡ w = cc in
    polynomial_found fs f.0 (constant w) (h ∙ ap (λ n. Some (integer_form (constant n))) s)

-- so an operation on two such forms gives the form of its result
pub op_known : (op : Op) (c d : ℕ) (fs : List Normal) (a b : Form) (o r : Option ℕ) → c < 2 ^ 64 → d < 2 ^ 64 → o
    ≡ Some c → r ≡ Some d → IfSome o (λ n. held fs a ≡ Some (integer_form (constant n)))
    → IfSome r (λ n. held fs b ≡ Some (integer_form (constant n))) → constant (apply op c d)
    ≡ norm_op op (polynomial fs a) (polynomial fs b)
op_known op c d fs a b o r v w i j h k = sym (ap (λ p. norm_op op p (polynomial fs b)) (word_found o c fs a i h)
    ∙ (ap (norm_op op (constant c)) (word_found r d fs b j k) ∙ op_words op c d v w))

-- the form of an entry of one term, if that term is a constant
pub word_entry : (fs : List Normal) (e : Entry) (ys xs : List LinearTerm) (d : LinearTerm) (o : Option ℕ) →
    entry_form fs e ≡ integer_form (polynomial_form fs (map full ys)) → xs ≡ ys → 1 ≤ length xs → length xs < 2
    → IfSome o (λ w. polynomial_form fs (full (get_or xs 0 d) ∷ []) ≡ constant w)
    → IfSome o (λ w. entry_form fs e ≡ integer_form (constant w))
word_entry fs e ys [] d o h i l m k = absurd (omega (arith, l))
word_entry fs e ys (x ∷ y ∷ xs) d o h i l m k = absurd (omega (arith, m))
word_entry fs e ys (x ∷ []) d None h i l m k = tt
word_entry fs e ys (x ∷ []) d (Some w) h i l m k = h
    ∙ ap integer_form (ap (λ zs. polynomial_form fs (map full zs)) (sym i) ∙ k)

-- if the form x is at index i and is known to be that of a word, that word's form is at index i
pub word_seen : (o : Option ℕ) (fs : List Normal) (i : ℕ) (x : Normal) → slice_get fs i ≡ Some x →
    IfSome o (λ w. x ≡ integer_form (constant w)) → IfSome o (λ w. slice_get fs i ≡ Some (integer_form (constant w)))
word_seen (Some w) fs i x e h = e ∙ ap Some h
word_seen None fs i x e h = tt
