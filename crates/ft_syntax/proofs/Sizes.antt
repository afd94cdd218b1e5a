-- Each node of a tree has a token of its own, and each token has a byte.
use Rattle.std.proofs.Common.{◌≡◌, Some, None, ℕ, ◌+◌, ◌<◌, ◌≤◌, List, [], ◌∷◌, length, take, drop, Result, Ok, Err}
use Rattle.std.proofs.Common.{refl, ap, arith, length-append, length-drop, length-take}
use Rattle.ft_lexer.specs.declared.lex_error.LexError.{LexError}
use Rattle.ft_lexer.specs.declared.kind.Kind.TheVariants as kinds
use Rattle.ft_lexer.specs.Scan.{Lexeme, Scan, over, wrong, token, all_of, with_token, scan}
use Rattle.ft_lexer.specs.Placed.{Placed}
use Rattle.ft_lexer.proofs.TokenPlaces.{placed}
use Rattle.ft_syntax.specs.declared.decl.Decl.{Decl}
use Rattle.ft_syntax.specs.declared.spot.Spot.{Spot}
use Rattle.ft_syntax.specs.declared.stmt.Stmt.{Stmt}
use Rattle.ft_syntax.specs.Plain.{StatementList, none}
use Rattle.ft_syntax.specs.Syntax.{Named, SyntaxTree}
use Rattle.ft_syntax.specs.Size.{expression_nodes, statement_nodes, node_count}
use Rattle.ft_syntax.specs.TreeOf.{tree_from}
use Rattle.ft_syntax.proofs.DeclaredLists.{declared_length}
use Rattle.ft_syntax.specs.Grammar.{of_kind, bit_kind, shift_kind, Equality, Comparison, Bits, Shift, Sum, Product}
use Rattle.ft_syntax.specs.Grammar.{Atom, comparison, equals, some_bits, less, a_shift, mask, a_sum, shift, product}
use Rattle.ft_syntax.specs.Grammar.{plus, minus, atom, times, a_name, an_indexed, a_number, brackets, equality_then}
use Rattle.ft_syntax.specs.Grammar.{comparison_then, bits_then, shift_then, sum_then, product_then, atom_then}
use Rattle.ft_syntax.specs.Grammar.{equality_tree, comparison_tree, bits_tree, shift_tree, sum_tree, product_tree}
use Rattle.ft_syntax.specs.Grammar.{atom_tree, Statement, Statements, assignment, looping, choosing, choosing_else}
use Rattle.ft_syntax.specs.Grammar.{nothing, more, statement_then, statements_then, statement_tree, statements_tree}
use Rattle.ft_syntax.specs.Grammar.{Declarations, a_cell, a_var, undeclared, declared_then, declaration_then}
use Rattle.ft_syntax.specs.Grammar.{declarations_then, declaration_tree, declarations_tree, Derives}

mutual
  equality_size : (c : Equality) (rest : List Lexeme) →
      expression_nodes (equality_tree c) + length rest ≤ length (equality_then c rest)
  equality_size (comparison c) rest = comparison_size c rest
  equality_size (equals a l b) rest = omega (
    arith,
    equality_size a (of_kind kinds.EqEq l ∷ comparison_then b rest),
    comparison_size b rest,
  )

  comparison_size : (c : Comparison) (rest : List Lexeme) →
      expression_nodes (comparison_tree c) + length rest ≤ length (comparison_then c rest)
  comparison_size (some_bits c) rest = bits_size c rest
  comparison_size (less a l b) rest = omega (
    arith,
    comparison_size a (of_kind kinds.Less l ∷ bits_then b rest),
    bits_size b rest,
  )

  bits_size : (c : Bits) (rest : List Lexeme) → expression_nodes (bits_tree c) + length rest ≤ length (bits_then c rest)
  bits_size (a_shift c) rest = shift_size c rest
  bits_size (mask a g l b) rest = omega (
    arith,
    bits_size a (of_kind (bit_kind g) l ∷ shift_then b rest),
    shift_size b rest,
  )

  shift_size : (c : Shift) (rest : List Lexeme) → expression_nodes (shift_tree c) + length rest ≤ length
      (shift_then c rest)
  shift_size (a_sum c) rest = sum_size c rest
  shift_size (shift a g l b) rest = omega (
    arith,
    shift_size a (of_kind (shift_kind g) l ∷ sum_then b rest),
    sum_size b rest,
  )

  sum_size : (c : Sum) (rest : List Lexeme) → expression_nodes (sum_tree c) + length rest ≤ length (sum_then c rest)
  sum_size (product c) rest = product_size c rest
  sum_size (plus a l b) rest = omega (
    arith,
    sum_size a (of_kind kinds.Plus l ∷ product_then b rest),
    product_size b rest,
  )
  sum_size (minus a l b) rest = omega (
    arith,
    sum_size a (of_kind kinds.Minus l ∷ product_then b rest),
    product_size b rest,
  )

  product_size : (c : Product) (rest : List Lexeme) →
      expression_nodes (product_tree c) + length rest ≤ length (product_then c rest)
  product_size (atom c) rest = atom_size c rest
  product_size (times a l b) rest = omega (
    arith,
    product_size a (of_kind kinds.Star l ∷ atom_then b rest),
    atom_size b rest,
  )

  atom_size : (c : Atom) (rest : List Lexeme) → expression_nodes (atom_tree c) + length rest ≤ length (atom_then c rest)
  atom_size (a_name l) rest = omega arith
  atom_size (an_indexed n l i r) rest = omega (arith, equality_size i (of_kind kinds.RBracket r ∷ rest))
  atom_size (a_number l) rest = omega arith
  atom_size (brackets l e r) rest = omega (arith, equality_size e (of_kind kinds.RParen r ∷ rest))

mutual
  statement_size : (c : Statement) (after : StatementList Named) (rest : List Lexeme) →
      statement_nodes (statement_tree c after) + length rest ≤ length (statement_then c rest) + statement_nodes after
  statement_size (assignment n None l e r) after rest = omega (arith, equality_size e (of_kind kinds.Semi r ∷ rest))
  statement_size (assignment n (Some i) l e r) after rest =
      let value = equality_then e (of_kind kinds.Semi r ∷ rest) in
      omega (
        arith,
        equality_size e (of_kind kinds.Semi r ∷ rest),
        equality_size i.index (of_kind kinds.RBracket i.right ∷ of_kind kinds.Assign l ∷ value),
      )
  statement_size (looping h body r) after rest =
      let inside = statements_then body (of_kind kinds.RBrace r ∷ rest) in
      omega (
        arith,
        equality_size h.test (of_kind kinds.RParen h.right ∷ of_kind kinds.LBrace h.brace ∷ inside),
        statements_size body none (of_kind kinds.RBrace r ∷ rest),
      )
  statement_size (choosing h if_so r) after rest =
      let inside = statements_then if_so (of_kind kinds.RBrace r ∷ rest) in
      omega (
        arith,
        equality_size h.test (of_kind kinds.RParen h.right ∷ of_kind kinds.LBrace h.brace ∷ inside),
        statements_size if_so none (of_kind kinds.RBrace r ∷ rest),
      )
  statement_size (choosing_else h if_so r w l if_not q) after rest =
      let other = statements_then if_not (of_kind kinds.RBrace q ∷ rest) in
      let inside = statements_then if_so (of_kind kinds.RBrace r ∷ of_kind kinds.Else w ∷ of_kind kinds.LBrace l ∷
      other) in
      omega (
        arith,
        equality_size h.test (of_kind kinds.RParen h.right ∷ of_kind kinds.LBrace h.brace ∷ inside),
        statements_size if_so none (of_kind kinds.RBrace r ∷ of_kind kinds.Else w ∷ of_kind kinds.LBrace l ∷ other),
        statements_size if_not none (of_kind kinds.RBrace q ∷ rest),
      )

  statements_size : (c : Statements) (after : StatementList Named) (rest : List Lexeme) →
      statement_nodes (statements_tree c after) + length rest ≤ length (statements_then c rest) + statement_nodes after
  statements_size nothing after rest = omega arith
  statements_size (more before s) after rest = omega (
    arith,
    statements_size before (statement_tree s after) (statement_then s rest),
    statement_size s after rest,
  )

declarations_size : (ds : Declarations) (rest : List Lexeme) →
    length (declarations_tree ds) + length rest ≤ length (declarations_then ds rest)
declarations_size undeclared rest = omega arith
declarations_size (declared_then before (a_cell w n None l v r)) rest =
    let d = a_cell w n None l v r in
    omega (
      arith,
      declarations_size before (declaration_then d rest),
      length-append (declarations_tree before) (declaration_tree d ∷ []),
    )
declarations_size (declared_then before (a_cell w n (Some x) l v r)) rest =
    let d = a_cell w n (Some x) l v r in
    omega (
      arith,
      declarations_size before (declaration_then d rest),
      length-append (declarations_tree before) (declaration_tree d ∷ []),
    )
declarations_size (declared_then before (a_var w n r)) rest =
    let d = a_var w n r in
    omega (
      arith,
      declarations_size before (declaration_then d rest),
      length-append (declarations_tree before) (declaration_tree d ∷ []),
    )

derived_size : (ts : List Lexeme) (p : SyntaxTree) → Derives ts p → length p.decls + statement_nodes p.body ≤ length ts
derived_size ts p (ds, ss, shown, tree) =
    let all = declarations_size ds (statements_then ss []) in
    let body = statements_size ss none [] in
    omega (
      arith,
      all,
      body,
      ap length shown,
      ap (λ (q : SyntaxTree). length q.decls) tree,
      ap (λ (q : SyntaxTree). statement_nodes q.body) tree,
    )

within : (text t : List ℕ) (at : ℕ) → 0 < length t → t ≡ take (length t) (drop at text) → at + length t ≤ length text
within text t at some part = omega (arith, ap length part, length-take (length t) (drop at text), length-drop at text)

counted_one : (text : List ℕ) (t : Lexeme) (rest : Scan) (low : ℕ) (ts : List Lexeme) → Placed text low (token t rest) →
    (r : Result (List Lexeme) LexError) → ((us : List Lexeme) → r ≡ Ok us →
    t.at + length t.text + length us ≤ length text) → with_token t r ≡ Ok ts → low + length ts ≤ length text
counted_one text t rest low ts p (Err x) g e = absurd (cc)
counted_one text t rest low ts p (Ok us) g e =
    let inner = g us refl in
    let whole : t ∷ us ≡ ts = cc in
    omega (arith, inner, p.0, p.1, ap length whole)

counted : (text : List ℕ) (s : Scan) (low : ℕ) (ts : List Lexeme) → Placed text low s → low ≤ length text → all_of s
    ≡ Ok ts → low + length ts ≤ length text
counted text over low ts p h e = let none : [] ≡ ts = cc in omega (arith, ap length none)
counted text (wrong x) low ts p h e = absurd (cc)
counted text (token t rest) low ts p h e =
    counted_one text t rest low ts p (all_of rest) (λ us g.
    counted text rest (t.at + length t.text) us p.3 (within text t.text t.at p.1 p.2) g) e

-- each node of the tree of a text has a byte of its own
pub byte_each : (text : List ℕ) (ts : List Lexeme) (ds : List Decl) (ss : List (Stmt Spot)) → all_of (scan text)
    ≡ Ok ts → Derives ts (tree_from ds ss) → node_count ds ss ≤ length text
unfolding node_count
byte_each text ts ds ss scanned d =
    omega (
      arith,
      derived_size ts (tree_from ds ss) d,
      counted text (scan text) 0 ts (placed text) (omega arith) scanned,
      declared_length ds,
    )
