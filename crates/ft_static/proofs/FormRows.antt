-- The form built for each kind of expression denotes the value of the expression, and is normal.
use Rattle.std.proofs.Common.{ℕ, ◌≡◌, ◌+◌, ◌-◌, ◌%◌, ◌^◌, ◌==◌, true, false, refl, sym, ◌∙◌, subst, arith, Option, Some}
use Rattle.std.proofs.Common.{None, if◌then◌else◌, List, slice_index_or}
use Rattle.std.proofs.Math.Nat.{mod-le, mod-eq_of_lt}
use Rattle.std.proofs.lemmas.Bool.{eq-eqb, ne_eqb}
use Rattle.ft_isa.specs.declared.op.Op.{Op}
use Rattle.ft_isa.specs.declared.op.Op.TheVariants.{Add, Sub, Mul}
use Rattle.ft_isa.specs.Words.{apply, IsWord}
use Rattle.ft_isa.proofs.Operations.{apply_is_word}
use Rattle.ft_static.specs.Expression.{Integer, Memory, word, variable, operation, sel, rem, memory_variable, upd}
use Rattle.ft_static.specs.Expression.{word_at, with_word, Valuation, value, memory_value, IsLawful, AreWords}
use Rattle.ft_static.specs.Expression.{AreWordsOfMemory}
use Rattle.ft_static.specs.Form.{Polynomial, Updates, variable_atom, operation_atom, sel_atom, rem_atom, nought}
use Rattle.ft_static.specs.Form.{unchanged, update, same_polynomial, value_polynomial, value_updates, Atom}
use Rattle.ft_static.specs.Form.{IsProperAtom, AreProperUpdates, IsNormal, valuation_under}
use Rattle.ft_static.specs.NormalForm.{norm_sub, constant_of, folded, norm_folded, remainder, norm_rem, norm_sel}
use Rattle.ft_static.specs.NormalForm.{norm_upd, norm_op, norm_integer, norm_memory, is_not_zero, alone, norm_under}
use Rattle.ft_static.specs.NormalForm.{norm_memory_under}
use Rattle.ft_static.proofs.FormsDenote.{value_sub, value_constant, value_constant_of}
use Rattle.ft_static.proofs.Proper.{proper_norm_add, proper_norm_mul, normal_sub, normal_constant, normal_alone}
use Rattle.ft_static.proofs.Under.{get_or-map}
use Rattle.ft_static.proofs.Cases.{if_cases}
use Rattle.ft_static.proofs.Equal.{equal_polynomials}
use Rattle.ft_static.proofs.Words.{word_at-with_word, with_word-with_word}
use Rattle.ft_static.proofs.Sums.{value_polynomial_is_word, value_updates_are_words, value_alone, value_add, value_mul}
use Rattle.ft_static.proofs.NodeTrees.{OfAll, OfMemoryParts, OfParts, by_parts_where}

-- WHAT THE FORMS OF EACH KIND DENOTE

-- the form of a folded operation denotes the operation's result
value_folded : (o : Op) (p q : Polynomial) (s : Valuation) → IsLawful s → value_polynomial (norm_folded o p q) s
    ≡ apply o (value_polynomial p s) (value_polynomial q s)
value_folded o p q s lawful = go (constant_of p) (constant_of q) refl refl
  where
    word_given : IsWord (apply o (value_polynomial p s) (value_polynomial q s))
    word_given = apply_is_word o _ _ (value_polynomial_is_word p s) (value_polynomial_is_word q s)

    go : (x y : Option ℕ) → constant_of p ≡ x → constant_of q ≡ y →
        value_polynomial (folded o x y (operation_atom o p q)) s ≡ apply o (value_polynomial p s) (value_polynomial q s)
    go (Some c) (Some d) e g =
        let x = value_constant_of p c s e in
        let y = value_constant_of q d s g in
        rw (x, y) (value_constant (apply o c d) s ∙ mod-eq_of_lt (rw (x, y) at word_given))
    go None y e g = value_alone (operation_atom o p q) s word_given
    go (Some c) None e g = value_alone (operation_atom o p q) s word_given

-- the form of each operation denotes the operation's result
pub value_op : (o : Op) (p q : Polynomial) (s : Valuation) (lawful : IsLawful s) → value_polynomial (norm_op o p q) s
    ≡ apply o (value_polynomial p s) (value_polynomial q s)
value_op Add p q s lawful = value_add p q s lawful
value_op Sub p q s lawful = value_sub p q s lawful
value_op Mul p q s lawful = value_mul p q s lawful
value_op o p q s lawful = value_folded o p q s lawful

-- the form of rem denotes the remainder
pub value_rem : (p : Polynomial) (m : ℕ) (s : Valuation) → IsLawful s → value_polynomial (norm_rem p m) s
    ≡ value_polynomial p s % m
value_rem p m s lawful = go (constant_of p) refl
  where
    go : (x : Option ℕ) → constant_of p ≡ x → value_polynomial (remainder x m (rem_atom p m)) s
        ≡ value_polynomial p s % m
    go (Some c) e =
        let x = value_constant_of p c s e in
        let w : IsWord c = subst IsWord x (value_polynomial_is_word p s) in
        let l = mod-le c m in
        rw x (value_constant (c % m) s ∙ mod-eq_of_lt (omega (arith, w, l)))
    go None e = value_alone (rem_atom p m) s (let h = value_polynomial_is_word p s in
        let k = mod-le (value_polynomial p s) m in omega (arith, h, k))

-- the form of an upd denotes the memory with the word written at the address
pub value_upd : (u : Updates) (p v : Polynomial) (s : Valuation) → value_updates (norm_upd u p v) s
    ≡ with_word (value_updates u s) (value_polynomial p s) (value_polynomial v s)
value_upd unchanged p v s = refl
value_upd (update a w u) p v s = if_cases (λ t. value_updates t s
    ≡ with_word (value_updates (update a w u) s) (value_polynomial p s) (value_polynomial v s)) (same_polynomial a p) _
    _
    (λ e. rw ((equal_polynomials a p).0 e) (sym (with_word-with_word (value_updates u s) (value_polynomial p s)
    (value_polynomial w s) (value_polynomial v s))))
    (λ e. refl)

-- a word minus itself is 0
itself : (x : ℕ) → IsWord x → apply Sub x x ≡ 0
unfolding apply
itself x w = let g : x + (2 ^ 64 - x) ≡ 2 ^ 64 = omega arith in rw g refl

-- if the difference is a nonzero constant, the two polynomials denote different words
apart : (p q : Polynomial) (s : Valuation) (lawful : IsLawful s) → is_not_zero (constant_of (norm_sub p q)) ≡ true →
    (value_polynomial p s == value_polynomial q s) ≡ false
apart p q s lawful = go (constant_of (norm_sub p q)) refl
  where
    go : (o : Option ℕ) → constant_of (norm_sub p q) ≡ o → is_not_zero o ≡ true →
        (value_polynomial p s == value_polynomial q s) ≡ false
    go None e h = cc
    go (Some c) e h = ne_eqb _ _ (λ e_pq.
        let k : value_polynomial q s ≡ value_polynomial p s = sym e_pq in
        let d : c ≡ apply Sub (value_polynomial p s) (value_polynomial q s) =
        sym (value_constant_of (norm_sub p q) c s e) ∙ value_sub p q s lawful in
        let w = value_polynomial_is_word p s in
        let z : apply Sub (value_polynomial p s) (value_polynomial q s) ≡ 0 = rw k (itself (value_polynomial p s) w) in
        let n : (c == 0) ≡ true = eq-eqb c 0 (d ∙ z) in
        cc)

-- the form of a sel denotes the word that the memory has at the address
pub value_sel : (u : Updates) (p : Polynomial) (s : Valuation) (lawful : IsLawful s) → value_polynomial (norm_sel u p) s
    ≡ word_at (value_updates u s) (value_polynomial p s)
value_sel unchanged p s lawful = value_alone (sel_atom unchanged p) s (lawful.memory _)
value_sel (update a v u) p s lawful = if_cases (λ t. value_polynomial t s
    ≡ word_at (value_updates (update a v u) s) (value_polynomial p s)) (same_polynomial a p) _ _
    (λ e. rw (
      word_at-with_word (value_updates u s) (value_polynomial a s) (value_polynomial v s)
          (value_polynomial p s),
      (equal_polynomials a p).0 e,
      eq-eqb (value_polynomial p s) (value_polynomial p s) refl,
    )
    refl)
    (λ e. if_cases (λ t. value_polynomial t s ≡ word_at (value_updates (update a v u) s) (value_polynomial p s))
    (is_not_zero (constant_of (norm_sub p a))) _ _
    (λ h. rw (
      word_at-with_word (value_updates u s) (value_polynomial a s) (value_polynomial v s)
          (value_polynomial p s),
      apart p a s lawful h,
    ) (value_sel u p s lawful))
    (λ h. value_alone (sel_atom (update a v u) p) s (value_updates_are_words (update a v u) s lawful _)))

mutual
  -- the form of an integer whose numbers are words denotes the same value as the integer
  pub norm_value : (e : Integer) (s : Valuation) → IsLawful s → AreWords e → value_polynomial (norm_integer e) s
      ≡ value e s
  norm_value (word w) s lawful h = value_constant w s ∙ mod-eq_of_lt h
  norm_value (variable i) s lawful h = value_alone (variable_atom i) s (lawful.integers i)
  norm_value (operation o a b) s lawful h = value_op o (norm_integer a) (norm_integer b) s lawful
      ∙ rw (norm_value a s lawful h.0, norm_value b s lawful h.1) refl
  norm_value (sel m a) s lawful h = value_sel (norm_memory m) (norm_integer a) s lawful
      ∙ rw (norm_value a s lawful h.1, value_norm_memory m s lawful h.0) refl
  norm_value (rem a m) s lawful h = value_rem (norm_integer a) m s lawful ∙ rw (norm_value a s lawful h.0) refl

  -- likewise for a memory
  pub value_norm_memory : (m : Memory) (s : Valuation) → IsLawful s → AreWordsOfMemory m →
      value_updates (norm_memory m) s ≡ memory_value m s
  value_norm_memory memory_variable s lawful h = refl
  value_norm_memory (upd m a b) s lawful h = value_upd (norm_memory m) (norm_integer a) (norm_integer b) s
      ∙ rw (norm_value a s lawful h.1, norm_value b s lawful h.2, value_norm_memory m s lawful h.0) refl

-- if the numbers in an expression are words, so are those in its parts
words_of_parts : (e : Integer) → AreWords e → OfParts AreWords AreWordsOfMemory e
words_of_parts (word w) h = tt
words_of_parts (rem a n) h = h.0
words_of_parts e h = h

module _ (ps : List Polynomial) (u : Updates) (s : Valuation) (lawful : IsLawful s) where
  abbrev pub Denotes : Integer → Type 0
  Denotes e = value_polynomial (norm_under e ps u) s ≡ value e (valuation_under ps u s)

  abbrev pub MemoryDenotes : Memory → Type 0
  MemoryDenotes m = value_updates (norm_memory_under m ps u) s ≡ memory_value m (valuation_under ps u s)

  -- the form of an expression under substituted forms denotes the expression's value in the valuation that these forms
  -- give
  pub value_under : OfAll (λ e. AreWords e → Denotes e) (λ m. AreWordsOfMemory m → MemoryDenotes m)
  value_under = by_parts_where AreWords Denotes AreWordsOfMemory MemoryDenotes words_of_parts split whole stored
    where
      split : (m : Memory) → AreWordsOfMemory m → OfMemoryParts AreWords AreWordsOfMemory m
      split memory_variable h = h
      split m h = h

      whole : (e : Integer) → AreWords e → OfParts Denotes MemoryDenotes e → Denotes e
      whole (word w) k h = value_constant w s ∙ mod-eq_of_lt k
      whole (variable i) k h = sym (get_or-map (λ (p : Polynomial). value_polynomial p s) ps i nought)
      whole e k h = simp (value_op, value_sel, value_rem) (cc)

      stored : (m : Memory) → AreWordsOfMemory m → OfMemoryParts Denotes MemoryDenotes m → MemoryDenotes m
      stored memory_variable k h = refl
      stored m k h = simp value_upd (cc)

-- THE FORMS OF EACH KIND ARE IN ORDER

-- a folded constant is normal, and so is the atom
normal_choice : (o : Op) (x y : Option ℕ) (a : Atom) → IsProperAtom a → IsNormal (folded o x y a)
normal_choice o (Some c) (Some d) a h = normal_constant (apply o c d)
normal_choice o None y a h = normal_alone a h
normal_choice o (Some c) None a h = normal_alone a h

-- the form of a folded operation is normal
normal_folded : (o : Op) (p q : Polynomial) → IsNormal p → IsNormal q → IsNormal (norm_folded o p q)
normal_folded o p q h k = normal_choice o (constant_of p) (constant_of q) (operation_atom o p q) (h.0, k.0, h.1, k.1)

-- the form of an operation is normal
pub normal_op : (o : Op) (p q : Polynomial) → IsNormal p → IsNormal q → IsNormal (norm_op o p q)
normal_op Add p q h k = proper_norm_add p q h.0 k.0 h.1 k.1
normal_op Sub p q h k = normal_sub p q h k
normal_op Mul p q h k = proper_norm_mul p q h.0 k.0 h.1 k.1
normal_op o p q h k = normal_folded o p q h k

-- the form of rem is normal
pub normal_rem : (p : Polynomial) (m : ℕ) → IsNormal p → IsNormal (norm_rem p m)
normal_rem p m h = go (constant_of p)
  where
    go : (x : Option ℕ) → IsNormal (remainder x m (rem_atom p m))
    go (Some c) = normal_constant (c % m)
    go None = normal_alone (rem_atom p m) h

-- the form of a sel is normal
pub normal_sel : (u : Updates) (p : Polynomial) → AreProperUpdates u → IsNormal p → IsNormal (norm_sel u p)
normal_sel unchanged p h k = normal_alone (sel_atom unchanged p) (tt, k.0, k.1)
normal_sel (update a v u) p h k = if_cases (λ t. IsNormal t) (same_polynomial a p) v
    (if is_not_zero (constant_of (norm_sub p a)) then norm_sel u p else alone (sel_atom (update a v u) p))
    (λ e. (h.2, h.3))
    (λ e. if_cases (λ t. IsNormal t) (is_not_zero (constant_of (norm_sub p a))) (norm_sel u p)
    (alone (sel_atom (update a v u) p)) (λ g. normal_sel u p h.4 k) (λ g.
    normal_alone (sel_atom (update a v u) p) (h, k.0, k.1)))

-- the form of an upd is in order
pub proper_upd : (u : Updates) (p v : Polynomial) → AreProperUpdates u → IsNormal p → IsNormal v →
    AreProperUpdates (norm_upd u p v)
proper_upd unchanged p v h k l = (k.0, k.1, l.0, l.1, tt)
proper_upd (update a w u) p v h k l = if_cases (λ t. AreProperUpdates t) (same_polynomial a p) (update a v u)
    (update p v (update a w u))
    (λ e. (h.0, h.1, l.0, l.1, h.4))
    (λ e. (k.0, k.1, l.0, l.1, h))

-- normal forms are in order
mutual
  -- the form of an integer is normal
  pub norm_is_normal : (e : Integer) → IsNormal (norm_integer e)
  norm_is_normal (word w) = normal_constant w
  norm_is_normal (variable i) = normal_alone (variable_atom i) tt
  norm_is_normal (operation o a b) = normal_op o (norm_integer a) (norm_integer b) (norm_is_normal a) (norm_is_normal b)
  norm_is_normal (sel m a) = normal_sel (norm_memory m) (norm_integer a) (norm_memory_is_proper m) (norm_is_normal a)
  norm_is_normal (rem a m) = normal_rem (norm_integer a) m (norm_is_normal a)

  -- the form of a memory is in order
  pub norm_memory_is_proper : (m : Memory) → AreProperUpdates (norm_memory m)
  norm_memory_is_proper memory_variable = tt
  norm_memory_is_proper (upd m a b) = proper_upd (norm_memory m) (norm_integer a) (norm_integer b)
      (norm_memory_is_proper m) (norm_is_normal a) (norm_is_normal b)

mutual
  -- the form of an integer under normal forms is normal
  pub under_is_normal : (e : Integer) (ps : List Polynomial) (u : Updates) →
      ((i : ℕ) → IsNormal (slice_index_or ps i nought)) → AreProperUpdates u → IsNormal (norm_under e ps u)
  under_is_normal (word w) ps u h k = normal_constant w
  under_is_normal (variable i) ps u h k = h i
  under_is_normal (operation o a b) ps u h k = normal_op o (norm_under a ps u) (norm_under b ps u)
      (under_is_normal a ps u h k) (under_is_normal b ps u h k)
  under_is_normal (sel m a) ps u h k = normal_sel (norm_memory_under m ps u) (norm_under a ps u)
      (memory_under_is_proper m ps u h k) (under_is_normal a ps u h k)
  under_is_normal (rem a m) ps u h k = normal_rem (norm_under a ps u) m (under_is_normal a ps u h k)

  -- the form of a memory under normal forms is in order
  pub memory_under_is_proper : (m : Memory) (ps : List Polynomial) (u : Updates) →
      ((i : ℕ) → IsNormal (slice_index_or ps i nought)) → AreProperUpdates u →
      AreProperUpdates (norm_memory_under m ps u)
  memory_under_is_proper memory_variable ps u h k = k
  memory_under_is_proper (upd m a b) ps u h k = proper_upd (norm_memory_under m ps u) (norm_under a ps u)
      (norm_under b ps u) (memory_under_is_proper m ps u h k) (under_is_normal a ps u h k) (under_is_normal b ps u h k)
