-- The normal form of an expression, built from the normal forms of its parts; and, after forms are substituted for the
-- variables, the form of an expression and of a numbered node.
use Rattle.std.specs.Prelude.{ℕ, ◌+◌, ◌*◌, ◌-◌, ◌%◌, ◌^◌, ◌==◌, Bool, true, false, if◌then◌else◌, ◌&&◌, Option, Some, None, nat_le, max, List, [], ◌∷◌, ◌++◌, slice_index_or}
use Rattle.std.specs.declared.cmp.Ordering.{Ordering}
use Rattle.std.specs.declared.cmp.Ordering.TheVariants.{Less, Equal, Greater}
use Rattle.ft_isa.specs.declared.op.Op.{Op}
use Rattle.ft_isa.specs.declared.op.Op.TheVariants.{Add, Sub, Mul}
use Rattle.ft_isa.specs.Words.{apply}
use Rattle.ft_static.specs.Expression.{Integer, Memory, Expression, word, variable, operation, sel, rem, memory_variable, upd, integer, memory}
use Rattle.ft_static.specs.Form.{Form, integer_form, memory_form, polynomial_of, factors, terms, Atom, Monomial, Polynomial, Updates, variable_atom, operation_atom, sel_atom, rem_atom, one, times, nought, plus, unchanged, update, cmp_atom, cmp_monomial, same_polynomial, same_updates}
use Rattle.ft_static.specs.declared.node.Node.{Node}
use Rattle.ft_static.specs.declared.node.Shape.{Shape}
use Rattle.ft_static.specs.declared.node.Shape.TheVariants as shape

-- the first, second or third value, depending on the result of a comparison
abbrev pub by_order : {A : Type 0} → Ordering → A → A → A → A
by_order Less x y z = x
by_order Equal x y z = y
by_order Greater x y z = z

-- a monomial with one more atom, inserted in order
abbrev pub with_factor : Atom → Monomial → Monomial
with_factor a one = times a one
with_factor a (times b m) = by_order (cmp_atom a b) (times a (times b m)) (times a (times b m)) (times b (with_factor a m))

-- the product of two monomials
abbrev pub join : Monomial → Monomial → Monomial
join one n = n
join (times a m) n = join m (with_factor a n)

-- a polynomial with a term before it, or unchanged if the term's coefficient is 0
abbrev pub led_by : Monomial → ℕ → Polynomial → Polynomial
led_by m c p = if c == 0 then p else plus m c p

-- a polynomial plus a term: inserted in order, or added to the existing coefficient; a zero coefficient is dropped
abbrev pub add_term : Monomial → ℕ → Polynomial → Polynomial
add_term m c nought = led_by m c nought
add_term m c (plus n d p) = by_order (cmp_monomial m n) (led_by m c (plus n d p)) (led_by n ((c + d) % 2 ^ 64) p) (plus n d (add_term m c p))

-- the sum, monomial by monomial
abbrev pub total : Polynomial → Polynomial → Polynomial
total nought q = q
total (plus m c p) q = total p (add_term m c q)

-- q plus the products of each term of p with one term, m with coefficient c
abbrev pub add_multiple : Monomial → ℕ → Polynomial → Polynomial → Polynomial
add_multiple m c nought q = q
add_multiple m c (plus n d p) q = add_multiple m c p (add_term (join m n) ((c * d) % 2 ^ 64) q)

-- r plus the products of each term of p with each term of q
abbrev pub add_products : Polynomial → Polynomial → Polynomial → Polynomial
add_products nought q r = r
add_products (plus m c p) q r = add_products p q (add_multiple m c q r)

-- the largest number of atoms in a monomial
abbrev pub degree : Polynomial → ℕ
degree nought = 0
degree (plus m c p) = max (factors m) (degree p)

-- each coefficient negated modulo 2^64
abbrev pub negation : Polynomial → Polynomial
negation nought = nought
negation (plus m c p) = plus m ((2 ^ 64 - c % 2 ^ 64) % 2 ^ 64) (negation p)

-- the value of a polynomial, if it is a constant
abbrev pub constant_of : Polynomial → Option ℕ
constant_of nought = Some 0
constant_of (plus one c nought) = Some (c % 2 ^ 64)
constant_of p = None

-- whether there is a number other than 0
abbrev pub is_not_zero : Option ℕ → Bool
is_not_zero None = false
is_not_zero (Some c) = if c == 0 then false else true

-- the constant c
abbrev pub constant : ℕ → Polynomial
constant c = led_by one (c % 2 ^ 64) nought

-- an atom with the coefficient 1
abbrev pub alone : Atom → Polynomial
alone a = plus (times a one) 1 nought

-- add of p and q: their sum, or an atom if that has more than 64 monomials
abbrev pub norm_add : Polynomial → Polynomial → Polynomial
norm_add p q = let s = total p q in if nat_le (terms s) 64 then s else alone (operation_atom Add p q)

-- sub of p and q
abbrev pub norm_sub : Polynomial → Polynomial → Polynomial
norm_sub p q = norm_add p (negation q)

-- mul of p and q: their product, or an atom if the numbers of monomials or the degrees are too large
abbrev pub norm_mul : Polynomial → Polynomial → Polynomial
norm_mul p q = if nat_le (terms p * terms q) 64 && nat_le (degree p + degree q) 4 then add_products p q nought else alone (operation_atom Mul p q)

-- the result of an operation, as a constant, if both operands are known; else the atom
abbrev pub folded : Op → Option ℕ → Option ℕ → Atom → Polynomial
folded o (Some c) (Some d) a = constant (apply o c d)
folded o c d a = alone a

-- a folded operation on p and q: a constant if both are constants, else an atom
abbrev pub norm_folded : Op → Polynomial → Polynomial → Polynomial
norm_folded o p q = folded o (constant_of p) (constant_of q) (operation_atom o p q)

-- sel of a memory form at p: walks the updates from the newest on. It returns the value at an equal address, skips an
-- address that differs from p by a nonzero constant, and stops at any other update and at the end.
abbrev pub norm_sel : Updates → Polynomial → Polynomial
norm_sel unchanged p = alone (sel_atom unchanged p)
norm_sel (update a v u) p =
    if same_polynomial a p then v
    else (if is_not_zero (constant_of (norm_sub p a)) then norm_sel u p
    else alone (sel_atom (update a v u) p))

-- upd of a memory form at p with v: the newest update is replaced if its address is p
abbrev pub norm_upd : Updates → Polynomial → Polynomial → Updates
norm_upd unchanged p v = update p v unchanged
norm_upd (update a w u) p v = if same_polynomial a p then update a v u else update p v (update a w u)

-- an operation on p and q: add, sub and mul are computed monomial by monomial; any other operation is folded
abbrev pub norm_op : Op → Polynomial → Polynomial → Polynomial
norm_op Add p q = norm_add p q
norm_op Sub p q = norm_sub p q
norm_op Mul p q = norm_mul p q
norm_op o p q = norm_folded o p q

-- the remainder if the number is known, else the atom
abbrev pub remainder : Option ℕ → ℕ → Atom → Polynomial
remainder (Some c) m a = constant (c % m)
remainder None m a = alone a

-- the remainder of p divided by m: a constant if p is one, else an atom
abbrev pub norm_rem : Polynomial → ℕ → Polynomial
norm_rem p m = remainder (constant_of p) m (rem_atom p m)

abbrev mutual
  -- the normal form of an integer
  pub norm_integer : Integer → Polynomial
  norm_integer (word w) = constant w
  norm_integer (variable i) = alone (variable_atom i)
  norm_integer (operation o a b) = norm_op o (norm_integer a) (norm_integer b)
  norm_integer (sel m a) = norm_sel (norm_memory m) (norm_integer a)
  norm_integer (rem a m) = norm_rem (norm_integer a) m

  -- the normal form of a memory
  pub norm_memory : Memory → Updates
  norm_memory memory_variable = unchanged
  norm_memory (upd m a b) = norm_upd (norm_memory m) (norm_integer a) (norm_integer b)

-- the normal form of an expression
abbrev pub norm : Expression → Form
norm (integer e) = integer_form (norm_integer e)
norm (memory m) = memory_form (norm_memory m)

-- whether two expressions have the same normal form
abbrev pub same : Expression → Expression → Bool
same (integer a) (integer b) = same_polynomial (norm_integer a) (norm_integer b)
same (memory k) (memory m) = same_updates (norm_memory k) (norm_memory m)
same a b = false

-- AFTER A SUBSTITUTION

abbrev mutual
  -- the form of an integer after these polynomials are substituted for the integer variables and u for the memory
  -- variable
  pub norm_under : Integer → List Polynomial → Updates → Polynomial
  norm_under (word w) ps u = constant w
  norm_under (variable i) ps u = slice_index_or ps i nought
  norm_under (operation o a b) ps u = norm_op o (norm_under a ps u) (norm_under b ps u)
  norm_under (sel m a) ps u = norm_sel (norm_memory_under m ps u) (norm_under a ps u)
  norm_under (rem a m) ps u = norm_rem (norm_under a ps u) m

  -- the form of a memory after the same substitution
  pub norm_memory_under : Memory → List Polynomial → Updates → Updates
  norm_memory_under memory_variable ps u = u
  norm_memory_under (upd m a v) ps u = norm_upd (norm_memory_under m ps u) (norm_under a ps u) (norm_under v ps u)

-- the form of an expression after the same substitution
abbrev pub form_under : List Polynomial → Updates → Expression → Form
form_under ps u (integer e) = integer_form (norm_under e ps u)
form_under ps u (memory m) = memory_form (norm_memory_under m ps u)

-- the updates of a memory's form; for an integer's form, the given ones
abbrev pub updates_or : Updates → Form → Updates
updates_or u (integer_form p) = u
updates_or u (memory_form w) = w

-- the polynomial of node n, given the forms of the nodes
abbrev pub integer_in : List Form → ℕ → Polynomial
integer_in fs n = polynomial_of (slice_index_or fs n (integer_form nought))

-- the updates of node n
abbrev pub memory_in : Updates → List Form → ℕ → Updates
memory_in u fs n = updates_or u (slice_index_or fs n (integer_form nought))

-- the form of a node of this shape, given the forms of its parts
abbrev pub form_over : List Polynomial → Updates → (ℕ → Polynomial) → (ℕ → Updates) → Shape → Form
form_over ps u p m (shape.Word w) = integer_form (constant w)
form_over ps u p m (shape.Var i) = integer_form (slice_index_or ps i nought)
form_over ps u p m (shape.Op o a b) = integer_form (norm_op o (p a) (p b))
form_over ps u p m (shape.Sel k a) = integer_form (norm_sel (m k) (p a))
form_over ps u p m shape.Memory = memory_form u
form_over ps u p m (shape.Upd k a v) = memory_form (norm_upd (m k) (p a) (p v))
form_over ps u p m (shape.Rem a n) = integer_form (norm_rem (p a) n)

-- likewise, given forms that include those of its parts
abbrev pub form_of : List Polynomial → Updates → List Form → Shape → Form
form_of ps u fs x = form_over ps u (integer_in fs) (memory_in u fs) x

-- the forms so far, followed by those of these nodes in order
abbrev pub forms_of_nodes : List Polynomial → Updates → List Form → List Node → List Form
forms_of_nodes ps u fs [] = fs
forms_of_nodes ps u fs (n ∷ ns) = forms_of_nodes ps u (fs ++ form_of ps u fs n.shape ∷ []) ns
