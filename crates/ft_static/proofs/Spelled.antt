-- Forms are ordered as their spellings are, so their order is total.
use Rattle.std.proofs.Common.{ℕ, ◌≡◌, ◌≢◌, List, [], ◌∷◌, ◌++◌, refl, sym, ap, ◌∙◌, append_assoc, arith}
use Rattle.std.specs.Cmp.{IsTotalOrder}
use Rattle.std.specs.Cmp.Lexicographic.{slice_cmp, on_texts}
use Rattle.std.specs.Ordering.{nat_cmp, on, ordering_then}
use Rattle.std.specs.declared.cmp.Ordering.{Ordering}
use Rattle.std.specs.declared.cmp.Ordering.TheVariants.{Less, Equal, Greater}
use Rattle.std.proofs.lemmas.Bool.Decides.{nat_tests}
use base.Stored.{Coded, coded_ℕ, coded_list, coded_via}
use Rattle.std.proofs.lemmas.Cmp.{tied_itself, nat_list_cmp_total}
use Rattle.std.proofs.lemmas.List.{append-nil}
use Rattle.ft_isa.specs.declared.op.Op.{Op}
use Rattle.ft_isa.specs.declared.op.Op.TheVariants.{Add}
use Rattle.ft_static.specs.Form.{Form, integer_form, memory_form, factors, terms, updates, Atom, Monomial, Polynomial}
use Rattle.ft_static.specs.Form.{Updates, variable_atom, operation_atom, sel_atom, rem_atom, one, times, nought, plus}
use Rattle.ft_static.specs.Form.{unchanged, update, operation_kind, cmp_atom, cmp_monomial, cmp_polynomial, cmp_updates}

abbrev mutual
  -- an atom as a list of numbers
  pub spell_atom : Atom → List ℕ
  spell_atom (variable_atom i) = 0 ∷ (i ∷ [])
  spell_atom (operation_atom o p q) = operation_kind o ∷ (spell_polynomial p ++ spell_polynomial q)
  spell_atom (sel_atom u p) = 3 ∷ (spell_updates u ++ spell_polynomial p)
  spell_atom (rem_atom p m) = 11 ∷ (spell_polynomial p ++ (m ∷ []))

  -- a monomial as a list of numbers
  pub spell_monomial : Monomial → List ℕ
  spell_monomial one = 0 ∷ []
  spell_monomial (times a m) = 1 ∷ (factors m ∷ (spell_atom a ++ spell_monomial m))

  -- a polynomial as a list of numbers
  pub spell_polynomial : Polynomial → List ℕ
  spell_polynomial nought = 0 ∷ []
  spell_polynomial (plus m c p) = 1 ∷ (terms p ∷ (spell_monomial m ++ (c ∷ spell_polynomial p)))

  -- a memory form as a list of numbers
  pub spell_updates : Updates → List ℕ
  spell_updates unchanged = 0 ∷ []
  spell_updates (update p v u) = 1 ∷ (updates u ∷ (spell_polynomial p ++ (spell_polynomial v ++ spell_updates u)))

-- three comparisons in a row may be grouped either way
pub then_assoc : (a b c : Ordering) → ordering_then (ordering_then a b) c ≡ ordering_then a (ordering_then b c)
then_assoc Less b c = refl
then_assoc Equal b c = refl
then_assoc Greater b c = refl

-- numbers that compare as `Equal` are equal
nat_cmp_equal : (i j : ℕ) → nat_cmp i j ≡ Equal → i ≡ j
nat_cmp_equal i j e = grind (arith, nat_tests)

-- a comparison of different numbers decides the result
unlike : (i j : ℕ) (x y : Ordering) → i ≢ j → ordering_then (nat_cmp i j) x ≡ ordering_then (nat_cmp i j) y
unlike i j x y h = go (nat_cmp i j) refl
  where
    go : (o : Ordering) → nat_cmp i j ≡ o → ordering_then o x ≡ ordering_then o y
    go Less e = refl
    go Equal e = absurd (h (nat_cmp_equal i j e))
    go Greater e = refl

-- no operation has the kind of the variables, of sel or of rem
other_kind : (o : Op) → (0 ≢ operation_kind o) × (3 ≢ operation_kind o) × (11 ≢ operation_kind o)
other_kind Add = (λ e. cc, λ e. cc, λ e. cc)
other_kind o = (λ e. cc, λ e. cc, λ e. cc)

-- no two operations have the same kind
same_kind : (o k : Op) → operation_kind o ≡ operation_kind k → o ≡ k
same_kind Add Add e = refl
same_kind o Add e = cc
same_kind o k e = cc

-- lists of numbers, ordered by the first elements that differ
abbrev lex : List ℕ → List ℕ → Ordering
lex = slice_cmp nat_cmp

mutual
  -- spellings of atoms, each followed by a list, compare as the atoms and then the lists
  pub lex_atom : (a b : Atom) (xs ys : List ℕ) → lex (spell_atom a ++ xs) (spell_atom b ++ ys)
      ≡ ordering_then (cmp_atom a b) (lex xs ys)
  lex_atom (variable_atom i) (variable_atom j) xs ys = refl
  lex_atom (operation_atom o p q) (operation_atom k r s) xs ys = simp (
    append_assoc,
    lex_polynomial p r,
    lex_polynomial q s,
    then_assoc,
  )
  lex_atom (sel_atom u q) (sel_atom w s) xs ys = simp (append_assoc, lex_updates u w, lex_polynomial q s, then_assoc)
  lex_atom (rem_atom p m) (rem_atom r n) xs ys = simp (append_assoc, lex_polynomial p r, then_assoc)
  lex_atom (variable_atom i) (operation_atom o p q) xs ys = unlike _ _ _ _ (other_kind o).0
  lex_atom (operation_atom o p q) (variable_atom i) xs ys = unlike _ _ _ _ (λ e. (other_kind o).0 (sym e))
  lex_atom (sel_atom u r) (operation_atom o p q) xs ys = unlike _ _ _ _ (other_kind o).1
  lex_atom (operation_atom o p q) (sel_atom u r) xs ys = unlike _ _ _ _ (λ e. (other_kind o).1 (sym e))
  lex_atom (rem_atom r m) (operation_atom o p q) xs ys = unlike _ _ _ _ (other_kind o).2
  lex_atom (operation_atom o p q) (rem_atom r m) xs ys = unlike _ _ _ _ (λ e. (other_kind o).2 (sym e))
  lex_atom a b xs ys = refl

  -- likewise for monomials
  pub lex_monomial : (a b : Monomial) (xs ys : List ℕ) → lex (spell_monomial a ++ xs) (spell_monomial b ++ ys)
      ≡ ordering_then (cmp_monomial a b) (lex xs ys)
  lex_monomial (times a m) (times b n) xs ys = simp (append_assoc, lex_atom a b, lex_monomial m n, then_assoc)
  lex_monomial one one xs ys = refl
  lex_monomial one (times b n) xs ys = refl
  lex_monomial (times a m) one xs ys = refl

  -- likewise for polynomials
  pub lex_polynomial : (a b : Polynomial) (xs ys : List ℕ) → lex (spell_polynomial a ++ xs) (spell_polynomial b ++ ys)
      ≡ ordering_then (cmp_polynomial a b) (lex xs ys)
  lex_polynomial (plus m c p) (plus n d q) xs ys = simp (append_assoc, lex_monomial m n, lex_polynomial p q, then_assoc)
  lex_polynomial nought nought xs ys = refl
  lex_polynomial nought (plus n d q) xs ys = refl
  lex_polynomial (plus m c p) nought xs ys = refl

  -- likewise for memory forms
  pub lex_updates : (a b : Updates) (xs ys : List ℕ) → lex (spell_updates a ++ xs) (spell_updates b ++ ys)
      ≡ ordering_then (cmp_updates a b) (lex xs ys)
  lex_updates (update p v u) (update r w x) xs ys = simp (
    append_assoc,
    lex_polynomial p r,
    lex_polynomial v w,
    lex_updates u x,
    then_assoc,
  )
  lex_updates unchanged unchanged xs ys = refl
  lex_updates unchanged (update r w x) xs ys = refl
  lex_updates (update p v u) unchanged xs ys = refl

-- a tie after a comparison does not change the result
then_equal : (o : Ordering) → ordering_then o Equal ≡ o
then_equal Less = refl
then_equal Equal = refl
then_equal Greater = refl

-- polynomials compare as their spellings
pub polynomial_spelled : (a b : Polynomial) → cmp_polynomial a b ≡ lex (spell_polynomial a) (spell_polynomial b)
polynomial_spelled a b = simp (append-nil, then_equal) at (sym (lex_polynomial a b [] []))

-- monomials compare as their spellings
pub monomial_spelled : (a b : Monomial) → cmp_monomial a b ≡ lex (spell_monomial a) (spell_monomial b)
monomial_spelled a b = simp (append-nil, then_equal) at (sym (lex_monomial a b [] []))

-- atoms compare as their spellings
pub atom_spelled : (a b : Atom) → cmp_atom a b ≡ lex (spell_atom a) (spell_atom b)
atom_spelled a b = simp (append-nil, then_equal) at (sym (lex_atom a b [] []))

-- memory forms compare as their spellings
pub updates_spelled : (a b : Updates) → cmp_updates a b ≡ lex (spell_updates a) (spell_updates b)
updates_spelled a b = simp (append-nil, then_equal) at (sym (lex_updates a b [] []))

-- an order that agrees with a total order is total
agreeing : {K : Type 0} (R S : K → K → Ordering) → ((x y : K) → R x y ≡ S x y) → IsTotalOrder S → IsTotalOrder R
agreeing R S e t = record {
  antisymm = λ x y. rw (e x y, e y x) (t.antisymm x y);
  trans = λ x y z h k. rw (e x z) (t.trans x y z (sym (e x y) ∙ h) (sym (e y z) ∙ k));
  congr = λ x y z h. rw (e x z, e y z) (t.congr x y z (sym (e x y) ∙ h));
}

-- the order of atoms is total
pub cmp_atom_total : IsTotalOrder cmp_atom
cmp_atom_total = agreeing cmp_atom (on spell_atom lex) atom_spelled (on_texts spell_atom)

-- the order of monomials is total
pub cmp_monomial_total : IsTotalOrder cmp_monomial
cmp_monomial_total = agreeing cmp_monomial (on spell_monomial lex) monomial_spelled (on_texts spell_monomial)

-- the order of polynomials is total
pub cmp_polynomial_total : IsTotalOrder cmp_polynomial
cmp_polynomial_total = agreeing cmp_polynomial (on spell_polynomial lex) polynomial_spelled (on_texts spell_polynomial)

-- the order of memory forms is total
pub cmp_updates_total : IsTotalOrder cmp_updates
cmp_updates_total = agreeing cmp_updates (on spell_updates lex) updates_spelled (on_texts spell_updates)

-- if two comparisons in a row tie, each of them ties
pub then_both : (a b : Ordering) → ordering_then a b ≡ Equal → (a ≡ Equal) × (b ≡ Equal)
then_both Less b e = cc
then_both Equal b e = (refl, e)
then_both Greater b e = cc

mutual
  -- tied atoms are the same
  pub atom_equal : (a b : Atom) → cmp_atom a b ≡ Equal → a ≡ b
  atom_equal (variable_atom i) (variable_atom j) e = ap variable_atom (nat_cmp_equal i j e)
  atom_equal (operation_atom o p q) (operation_atom k r s) e = let h = then_both _ _ e in let i = then_both _ _ h.1 in
      let j = same_kind o k (nat_cmp_equal _ _ h.0) in let x = polynomial_equal p r i.0 in
      let y = polynomial_equal q s i.1 in cc
  atom_equal (sel_atom u q) (sel_atom w s) e = let h = then_both _ _ e in let x = updates_equal u w h.0 in
      let y = polynomial_equal q s h.1 in cc
  atom_equal (rem_atom p m) (rem_atom r n) e = let h = then_both _ _ e in let x = polynomial_equal p r h.0 in
      let y = nat_cmp_equal m n h.1 in cc
  atom_equal (variable_atom i) (operation_atom o p q) e = absurd ((other_kind o).0 (nat_cmp_equal _ _ e))
  atom_equal (operation_atom o p q) (variable_atom i) e = absurd ((other_kind o).0 (sym (nat_cmp_equal _ _ e)))
  atom_equal (sel_atom u r) (operation_atom o p q) e = absurd ((other_kind o).1 (nat_cmp_equal _ _ e))
  atom_equal (operation_atom o p q) (sel_atom u r) e = absurd ((other_kind o).1 (sym (nat_cmp_equal _ _ e)))
  atom_equal (rem_atom r m) (operation_atom o p q) e = absurd ((other_kind o).2 (nat_cmp_equal _ _ e))
  atom_equal (operation_atom o p q) (rem_atom r m) e = absurd ((other_kind o).2 (sym (nat_cmp_equal _ _ e)))
  atom_equal a b e = cc

  -- tied monomials are the same
  pub monomial_equal : (a b : Monomial) → cmp_monomial a b ≡ Equal → a ≡ b
  monomial_equal one one e = refl
  monomial_equal one (times b n) e = cc
  monomial_equal (times a m) one e = cc
  monomial_equal (times a m) (times b n) e = let h = then_both _ _ e in let k = then_both _ _ h.1 in
      let x = atom_equal a b k.0 in let y = monomial_equal m n k.1 in cc

  -- tied polynomials are the same
  pub polynomial_equal : (a b : Polynomial) → cmp_polynomial a b ≡ Equal → a ≡ b
  polynomial_equal nought nought e = refl
  polynomial_equal nought (plus n d q) e = cc
  polynomial_equal (plus m c p) nought e = cc
  polynomial_equal (plus m c p) (plus n d q) e = let h = then_both _ _ e in let k = then_both _ _ h.1 in
      let l = then_both _ _ k.1 in let x = monomial_equal m n k.0 in let z = nat_cmp_equal c d l.0 in
      let y = polynomial_equal p q l.1 in cc

  -- tied memory forms are the same
  pub updates_equal : (a b : Updates) → cmp_updates a b ≡ Equal → a ≡ b
  updates_equal unchanged unchanged e = refl
  updates_equal unchanged (update r w x) e = cc
  updates_equal (update p v u) unchanged e = cc
  updates_equal (update p v u) (update r w x) e = let h = then_both _ _ e in let k = then_both _ _ h.1 in
      let l = then_both _ _ k.1 in let i = polynomial_equal p r k.0 in let j = polynomial_equal v w l.0 in
      let y = updates_equal u x l.1 in cc

-- equal spellings tie
spelled_alike : (xs ys : List ℕ) → xs ≡ ys → lex xs ys ≡ Equal
spelled_alike xs ys e = rw e (tied_itself nat_list_cmp_total ys)

-- a form of either sort as a list of numbers
pub spell_form : Form → List ℕ
spell_form (integer_form p) = 0 ∷ spell_polynomial p
spell_form (memory_form u) = 1 ∷ spell_updates u

-- no two forms have the same spelling
spell_form-injective : (f g : Form) → spell_form f ≡ spell_form g → f ≡ g
unfolding spell_form
spell_form-injective (integer_form p) (integer_form q) e =
    let h : spell_polynomial p ≡ spell_polynomial q = cc in
    ap integer_form (polynomial_equal p q (polynomial_spelled p q
    ∙ spelled_alike (spell_polynomial p) (spell_polynomial q) h))
spell_form-injective (integer_form p) (memory_form u) e = cc
spell_form-injective (memory_form u) (integer_form p) e = cc
spell_form-injective (memory_form u) (memory_form v) e =
    let h : spell_updates u ≡ spell_updates v = cc in
    ap memory_form (updates_equal u v (updates_spelled u v ∙ spelled_alike (spell_updates u) (spell_updates v) h))

-- the encoding of forms by their spellings
pub form_code : Coded Form
form_code = coded_via (coded_list coded_ℕ) spell_form spell_form-injective
