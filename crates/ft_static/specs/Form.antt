-- Normal forms: polynomials for integers, and lists of updates for memories. Defines them, their order, which of them
-- are in order, and what they denote.
use Rattle.std.specs.Prelude.{◌≡◌, ◌≢◌, ℕ, suc, ◌+◌, ◌*◌, ◌%◌, ◌^◌, ◌<◌, ◌≤◌, Bool, false, not, List, [], ◌∷◌, length, map}
use Rattle.std.specs.Ordering.{nat_cmp, ordering_then, is_eq}
use Rattle.std.specs.Cmp.Lexicographic.{slice_cmp}
use Rattle.std.specs.declared.cmp.Ordering.{Ordering}
use Rattle.std.specs.declared.cmp.Ordering.TheVariants.{Less, Equal, Greater}
use Rattle.ft_isa.specs.declared.op.Op.{Op}
use Rattle.ft_isa.specs.declared.op.Op.TheVariants.{Add, Sub, Mul, Ltu, Eq, And, Or, Xor, Shl, Shr}
use Rattle.ft_isa.specs.Words.{apply, IsWord}
use Rattle.ft_static.specs.Expression.{WordMap, Denotation, denoted_word, denoted_memory, Valuation, integer_of, word_at, with_word}
use Rattle.ft_static.specs.NodeParts.{is_memory}
use Rattle.ft_static.specs.declared.node.Shape.{Shape}
use Rattle.ft_static.specs.declared.node.Shape.TheVariants as shape

mutual
  -- what polynomials are built from
  pub data Atom : Type 0 where
    variable_atom : ℕ → Atom
    operation_atom : Op → Polynomial → Polynomial → Atom
    sel_atom : Updates → Polynomial → Atom
    rem_atom : Polynomial → ℕ → Atom

  -- a product of atoms, as a list in increasing order
  pub data Monomial : Type 0 where
    one : Monomial
    times : Atom → Monomial → Monomial

  -- a sum of monomials with coefficients, as a list of pairs in increasing order of the monomials
  pub data Polynomial : Type 0 where
    nought : Polynomial
    plus : Monomial → ℕ → Polynomial → Polynomial

  -- the updates (address, value) of the memory variable, newest first
  pub data Updates : Type 0 where
    unchanged : Updates
    update : Polynomial → Polynomial → Updates → Updates

-- a form of either sort
pub data Form : Type 0 where
  integer_form : Polynomial → Form
  memory_form : Updates → Form

-- the atom of a node of this shape, given the forms of its parts; a word and a memory have none
abbrev pub atom_over : (ℕ → Polynomial) → (ℕ → Updates) → Shape → Atom
atom_over p u (shape.Var i) = variable_atom i
atom_over p u (shape.Op o a b) = operation_atom o (p a) (p b)
atom_over p u (shape.Sel m a) = sel_atom (u m) (p a)
atom_over p u (shape.Rem a n) = rem_atom (p a) n
atom_over p u x = variable_atom 0

-- whether a node of this shape has an atom
abbrev pub has_atom : Shape → Bool
has_atom (shape.Word w) = false
has_atom x = not (is_memory x)

-- the polynomial of a form
abbrev pub polynomial_of : Form → Polynomial
polynomial_of (integer_form p) = p
polynomial_of (memory_form u) = nought

-- the updates of a form
abbrev pub updates_of : Form → Updates
updates_of (integer_form p) = unchanged
updates_of (memory_form u) = u

-- a monomial as a list of atoms
abbrev pub atoms : Monomial → List Atom
atoms one = []
atoms (times a m) = a ∷ atoms m

-- a polynomial as a list of monomials and coefficients
abbrev pub monomials : Polynomial → List (Monomial × ℕ)
monomials nought = []
monomials (plus m c p) = (m, c) ∷ monomials p

-- a memory form as a list of addresses and values
abbrev pub stores : Updates → List (Polynomial × Polynomial)
stores unchanged = []
stores (update p v u) = (p, v) ∷ stores u

-- the number of atoms of a monomial
abbrev pub factors : Monomial → ℕ
factors one = 0
factors (times a m) = suc (factors m)

-- the number of monomials of a polynomial
abbrev pub terms : Polynomial → ℕ
terms nought = 0
terms (plus m c p) = suc (terms p)

-- the number of updates
abbrev pub updates : Updates → ℕ
updates unchanged = 0
updates (update p v u) = suc (updates u)

-- THE ORDER: atoms by kind and then by their parts from left to right, lists by length and then by the first elements
-- that differ, pairs by the first part and then the second, numbers by size

-- the place of an operation's atoms among the kinds; no normal form has a sub atom
abbrev pub operation_kind : Op → ℕ
operation_kind Ltu = 1
operation_kind Eq = 2
operation_kind Mul = 4
operation_kind Add = 5
operation_kind And = 6
operation_kind Or = 7
operation_kind Xor = 8
operation_kind Shl = 9
operation_kind Shr = 10
operation_kind Sub = 12

-- the place of an atom's kind among the kinds
abbrev pub kind : Atom → ℕ
kind (variable_atom i) = 0
kind (operation_atom o p q) = operation_kind o
kind (sel_atom u p) = 3
kind (rem_atom p m) = 11

-- Lengths are compared again at each element; after the first element they are equal.
abbrev mutual
  -- compares atoms: those of different kinds by kind, and others by their parts
  pub cmp_atom : Atom → Atom → Ordering
  cmp_atom (variable_atom i) (variable_atom j) = nat_cmp i j
  cmp_atom (operation_atom o p q) (operation_atom k r s) = ordering_then (nat_cmp (operation_kind o) (operation_kind k)) (ordering_then (cmp_polynomial p r) (cmp_polynomial q s))
  cmp_atom (sel_atom u q) (sel_atom w s) = ordering_then (cmp_updates u w) (cmp_polynomial q s)
  cmp_atom (rem_atom p m) (rem_atom r n) = ordering_then (cmp_polynomial p r) (nat_cmp m n)
  cmp_atom a b = nat_cmp (kind a) (kind b)

  -- compares monomials as lists of atoms
  pub cmp_monomial : Monomial → Monomial → Ordering
  cmp_monomial one one = Equal
  cmp_monomial one (times b n) = Less
  cmp_monomial (times a m) one = Greater
  cmp_monomial (times a m) (times b n) = ordering_then (nat_cmp (factors m) (factors n)) (ordering_then (cmp_atom a b) (cmp_monomial m n))

  -- compares polynomials as lists of pairs of monomial and coefficient
  pub cmp_polynomial : Polynomial → Polynomial → Ordering
  cmp_polynomial nought nought = Equal
  cmp_polynomial nought (plus n d q) = Less
  cmp_polynomial (plus m c p) nought = Greater
  cmp_polynomial (plus m c p) (plus n d q) = ordering_then (nat_cmp (terms p) (terms q)) (ordering_then (cmp_monomial m n) (ordering_then (nat_cmp c d) (cmp_polynomial p q)))

  -- compares memory forms as lists of pairs of address and value
  pub cmp_updates : Updates → Updates → Ordering
  cmp_updates unchanged unchanged = Equal
  cmp_updates unchanged (update r w x) = Less
  cmp_updates (update p v u) unchanged = Greater
  cmp_updates (update p v u) (update r w x) = ordering_then (nat_cmp (updates u) (updates x)) (ordering_then (cmp_polynomial p r) (ordering_then (cmp_polynomial v w) (cmp_updates u x)))

-- whether two polynomials are the same list
abbrev pub same_polynomial : Polynomial → Polynomial → Bool
same_polynomial p q = is_eq (cmp_polynomial p q)

-- whether two memory forms are the same list
abbrev pub same_updates : Updates → Updates → Bool
same_updates u w = is_eq (cmp_updates u w)

-- compares lists by length and then by the first elements that differ
abbrev pub cmp_lists : {A : Type 0} → (A → A → Ordering) → List A → List A → Ordering
cmp_lists cmp xs ys = ordering_then (nat_cmp (length xs) (length ys)) (slice_cmp cmp xs ys)

-- compares pairs by the first part and then by the second
abbrev pub cmp_pairs : {A B : Type 0} → (A → A → Ordering) → (B → B → Ordering) → A × B → A × B → Ordering
cmp_pairs cmp_first cmp_second p q = ordering_then (cmp_first p.0 q.0) (cmp_second p.1 q.1)

-- FORMS IN ORDER: atoms increase, monomials increase strictly, coefficients are nonzero words, and there are at most 4
-- atoms in a monomial and 64 monomials in a part of an atom or of an update

-- the atom is not greater than the monomial's first atom
abbrev pub Leads : Atom → Monomial → Type 0
Leads a one = Unit {0}
Leads a (times b m) = cmp_atom a b ≢ Greater

-- the monomial is less than the polynomial's first monomial
abbrev pub Below : Monomial → Polynomial → Type 0
Below m nought = Unit {0}
Below m (plus n d p) = cmp_monomial m n ≡ Less

abbrev mutual
  -- an atom's parts are proper and have at most 64 monomials
  pub IsProperAtom : Atom → Type 0
  IsProperAtom (variable_atom i) = Unit {0}
  IsProperAtom (operation_atom o p q) = IsProper p × IsProper q × (terms p ≤ 64) × (terms q ≤ 64)
  IsProperAtom (sel_atom u p) = AreProperUpdates u × IsProper p × (terms p ≤ 64)
  IsProperAtom (rem_atom p m) = IsProper p × (terms p ≤ 64)

  -- a monomial's atoms are proper and in increasing order
  pub IsProperMonomial : Monomial → Type 0
  IsProperMonomial one = Unit {0}
  IsProperMonomial (times a m) = IsProperAtom a × Leads a m × IsProperMonomial m

  -- a polynomial's monomials are proper, have at most 4 atoms and increase strictly; its coefficients are nonzero words
  pub IsProper : Polynomial → Type 0
  IsProper nought = Unit {0}
  IsProper (plus m c p) = IsProperMonomial m × (factors m ≤ 4) × (0 < c) × IsWord c × Below m p × IsProper p

  -- the addresses and values of updates are proper and have at most 64 monomials
  pub AreProperUpdates : Updates → Type 0
  AreProperUpdates unchanged = Unit {0}
  AreProperUpdates (update p v u) = IsProper p × (terms p ≤ 64) × IsProper v × (terms v ≤ 64) × AreProperUpdates u

-- a polynomial is proper, and has at most 64 monomials
abbrev pub IsNormal : Polynomial → Type 0
IsNormal p = IsProper p × (terms p ≤ 64)

-- WHAT FORMS DENOTE

abbrev mutual
  -- an atom denotes the result of its operation
  pub value_atom : Atom → Valuation → ℕ
  value_atom (variable_atom i) s = integer_of s i
  value_atom (operation_atom o p q) s = apply o (value_polynomial p s) (value_polynomial q s)
  value_atom (sel_atom u p) s = word_at (value_updates u s) (value_polynomial p s)
  value_atom (rem_atom p m) s = value_polynomial p s % m

  -- the product of the atoms
  pub value_monomial : Monomial → Valuation → ℕ
  value_monomial one s = 1
  value_monomial (times a m) s = (value_atom a s * value_monomial m s) % 2 ^ 64

  -- the sum of the monomials, each times its coefficient
  pub value_polynomial : Polynomial → Valuation → ℕ
  value_polynomial nought s = 0
  value_polynomial (plus m c p) s = (c * value_monomial m s + value_polynomial p s) % 2 ^ 64

  -- the memory variable's words after the updates, applied oldest first
  pub value_updates : Updates → Valuation → WordMap
  value_updates unchanged s = s.memory
  value_updates (update p v u) s = with_word (value_updates u s) (value_polynomial p s) (value_polynomial v s)

-- what a form of either sort denotes
abbrev pub form_denotation : Form → Valuation → Denotation
form_denotation (integer_form p) s = denoted_word (value_polynomial p s)
form_denotation (memory_form u) s = denoted_memory (value_updates u s)

-- the valuation that gives the variables the values of these forms
abbrev pub valuation_under : List Polynomial → Updates → Valuation → Valuation
valuation_under ps u s = record { integers = map (λ (p : Polynomial). value_polynomial p s) ps; memory = value_updates u s }
