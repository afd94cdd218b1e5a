-- The tree of a source fits: the name of a declared cell or array has at most 32 bytes, and initial words and literals
-- are below 2^64.
use Rattle.std.proofs.Common.{◌≡◌, ℕ, ◌^◌, ◌<◌, List, [], ◌∷◌, ◌++◌, Option, Some, None, refl, sym, ap, subst}
use Rattle.std.specs.List.{AllByRecursion}
use Rattle.ft_lexer.specs.declared.kind.Kind.TheVariants.{Else, Assign, Semi, LParen, RParen, LBrace, RBrace, RBracket}
use Rattle.ft_lexer.specs.declared.kind.Kind.TheVariants.{Plus, Minus, Star, Less, EqEq}
use Rattle.ft_lexer.specs.Scan.{Lexeme}
use Rattle.ft_lexer.proofs.FitLexemes.{IsNameText, AllFit, scanned_fit}
use Rattle.ft_syntax.specs.Grammar.{of_kind, bit_kind, shift_kind, Equality, comparison, equals, Comparison, some_bits}
use Rattle.ft_syntax.specs.Grammar.{less, Bits, a_shift, mask, Shift, a_sum, shift, Sum, product, plus, minus, Product}
use Rattle.ft_syntax.specs.Grammar.{atom, times, Atom, a_name, an_indexed, a_number, brackets, equality_then}
use Rattle.ft_syntax.specs.Grammar.{comparison_then, bits_then, shift_then, sum_then, product_then, atom_then}
use Rattle.ft_syntax.specs.Grammar.{equality_tree, comparison_tree, bits_tree, shift_tree, sum_tree, product_tree}
use Rattle.ft_syntax.specs.Grammar.{atom_tree, Statement, assignment, looping, choosing, choosing_else, Statements}
use Rattle.ft_syntax.specs.Grammar.{nothing, more, statement_then, statements_then, statement_tree, statements_tree}
use Rattle.ft_syntax.specs.Grammar.{Declaration, a_cell, a_var, Declarations, undeclared, declared_then}
use Rattle.ft_syntax.specs.Grammar.{declaration_then, declarations_then, declaration_tree, declarations_tree}
use Rattle.ft_syntax.specs.Plain.{Expression, literal, name, indexed, operation, StatementList, none, assign, assign_at}
use Rattle.ft_syntax.specs.Plain.{loop, choose}
use Rattle.ft_syntax.specs.Syntax.{Named, Declared, cell, var, array, SyntaxTree}
use Rattle.ft_syntax.specs.Refusal.{IsSource}

-- DECLARATIONS

-- the name of a declared cell or array has at most 32 bytes, and the initial word is below 2^64
abbrev pub IsFitDeclaration : Declared → Type 0
IsFitDeclaration (cell n w) = IsNameText n.text × (w < 2 ^ 64)
IsFitDeclaration (var n) = Unit {0}
IsFitDeclaration (array n l at w) = IsNameText n.text × (w < 2 ^ 64)

-- a declaration fits if its lexemes do
declaration_fits : (d : Declaration) (rest : List Lexeme) → AllFit (declaration_then d rest) →
    IsFitDeclaration (declaration_tree d) × AllFit rest
declaration_fits (a_cell w n None l v r) rest h = ((h.1.0.name_fits refl, h.1.1.1.0.number_fits refl), h.1.1.1.1.1)
declaration_fits (a_cell w n (Some x) l v r) rest h = (
  (h.1.0.name_fits refl, h.1.1.1.1.1.1.0.number_fits refl),
  h.1.1.1.1.1.1.1.1,
)
declaration_fits (a_var w n r) rest h = (tt, h.1.1.1)

-- declarations fit if their lexemes do
declarations_fit : (ds : Declarations) (rest : List Lexeme) → AllFit (declarations_then ds rest) →
    AllByRecursion IsFitDeclaration (declarations_tree ds) × AllFit rest
declarations_fit undeclared rest h = (tt, h)
declarations_fit (declared_then before d) rest h =
    let p = declarations_fit before (declaration_then d rest) h in
    let q = declaration_fits d rest p.1 in
    (push (declarations_tree before) (declaration_tree d) p.0 q.0, q.1)
  where
    push : (xs : List Declared) (x : Declared) → AllByRecursion IsFitDeclaration xs → IsFitDeclaration x →
        AllByRecursion IsFitDeclaration (xs ++ x ∷ [])
    push [] x a b = (b, tt)
    push (y ∷ ys) x a b = (a.0, push ys x a.1 b)

-- EXPRESSIONS AND STATEMENTS

-- each literal is below 2^64
abbrev pub HasWords : Expression Named → Type 0
HasWords (literal w) = w < 2 ^ 64
HasWords (name n) = Unit {0}
HasWords (indexed n i) = HasWords i
HasWords (operation o a b) = HasWords a × HasWords b

abbrev pub HaveWords : StatementList Named → Type 0
HaveWords none = Unit {0}
HaveWords (assign to e rest) = HasWords e × HaveWords rest
HaveWords (assign_at to i e rest) = HasWords i × HasWords e × HaveWords rest
HaveWords (loop e body rest) = HasWords e × HaveWords body × HaveWords rest
HaveWords (choose e if_so if_not rest) = HasWords e × HaveWords if_so × HaveWords if_not × HaveWords rest

-- an expression fits if its lexemes do
mutual
  equality_fits : (e : Equality) (rest : List Lexeme) → AllFit (equality_then e rest) → HasWords (equality_tree e)
      × AllFit rest
  equality_fits (comparison c) rest h = comparison_fits c rest h
  equality_fits (equals a l b) rest h =
      let p = equality_fits a (of_kind EqEq l ∷ comparison_then b rest) h in
      let q = comparison_fits b rest p.1.1 in
      ((p.0, q.0), q.1)

  comparison_fits : (e : Comparison) (rest : List Lexeme) → AllFit (comparison_then e rest) →
      HasWords (comparison_tree e) × AllFit rest
  comparison_fits (some_bits c) rest h = bits_fit c rest h
  comparison_fits (less a l b) rest h =
      let p = comparison_fits a (of_kind Less l ∷ bits_then b rest) h in
      let q = bits_fit b rest p.1.1 in
      ((p.0, q.0), q.1)

  bits_fit : (e : Bits) (rest : List Lexeme) → AllFit (bits_then e rest) → HasWords (bits_tree e) × AllFit rest
  bits_fit (a_shift c) rest h = shift_fits c rest h
  bits_fit (mask a g l b) rest h =
      let p = bits_fit a (of_kind (bit_kind g) l ∷ shift_then b rest) h in
      let q = shift_fits b rest p.1.1 in
      ((p.0, q.0), q.1)

  shift_fits : (e : Shift) (rest : List Lexeme) → AllFit (shift_then e rest) → HasWords (shift_tree e) × AllFit rest
  shift_fits (a_sum c) rest h = sum_fits c rest h
  shift_fits (shift a g l b) rest h =
      let p = shift_fits a (of_kind (shift_kind g) l ∷ sum_then b rest) h in
      let q = sum_fits b rest p.1.1 in
      ((p.0, q.0), q.1)

  sum_fits : (e : Sum) (rest : List Lexeme) → AllFit (sum_then e rest) → HasWords (sum_tree e) × AllFit rest
  sum_fits (product c) rest h = product_fits c rest h
  sum_fits (plus a l b) rest h =
      let p = sum_fits a (of_kind Plus l ∷ product_then b rest) h in
      let q = product_fits b rest p.1.1 in
      ((p.0, q.0), q.1)
  sum_fits (minus a l b) rest h =
      let p = sum_fits a (of_kind Minus l ∷ product_then b rest) h in
      let q = product_fits b rest p.1.1 in
      ((p.0, q.0), q.1)

  product_fits : (e : Product) (rest : List Lexeme) → AllFit (product_then e rest) → HasWords (product_tree e)
      × AllFit rest
  product_fits (atom c) rest h = atom_fits c rest h
  product_fits (times a l b) rest h =
      let p = product_fits a (of_kind Star l ∷ atom_then b rest) h in
      let q = atom_fits b rest p.1.1 in
      ((p.0, q.0), q.1)

  atom_fits : (e : Atom) (rest : List Lexeme) → AllFit (atom_then e rest) → HasWords (atom_tree e) × AllFit rest
  atom_fits (a_name l) rest h = (tt, h.1)
  atom_fits (an_indexed n l i r) rest h = let p = equality_fits i (of_kind RBracket r ∷ rest) h.1.1 in (p.0, p.1.1)
  atom_fits (a_number l) rest h = (h.0.number_fits refl, h.1)
  atom_fits (brackets l e r) rest h = let p = equality_fits e (of_kind RParen r ∷ rest) h.1 in (p.0, p.1.1)

-- statements fit if their lexemes do, whatever comes after them
mutual
  statement_fits : (s : Statement) (rest : List Lexeme) → AllFit (statement_then s rest) →
      ((after : StatementList Named) → HaveWords after → HaveWords (statement_tree s after)) × AllFit rest
  statement_fits (assignment n None l e r) rest h = let p = equality_fits e (of_kind Semi r ∷ rest) h.1.1 in
      (λ after k. (p.0, k), p.1.1)
  statement_fits (assignment n (Some i) l e r) rest h =
      let value = equality_then e (of_kind Semi r ∷ rest) in
      let p = equality_fits i.index (of_kind RBracket i.right ∷ of_kind Assign l ∷ value) h.1.1 in
      let q = equality_fits e (of_kind Semi r ∷ rest) p.1.1.1 in
      (λ after k. (p.0, q.0, k), q.1.1)
  statement_fits (looping h body r) rest a =
      let p = equality_fits h.test (of_kind RParen h.right ∷ of_kind LBrace h.brace ∷ statements_then body
      (of_kind RBrace r ∷ rest)) a.1.1 in
      let x = statements_fit body (of_kind RBrace r ∷ rest) p.1.1.1 in
      (λ after k. (p.0, x.0 none tt, k), x.1.1)
  statement_fits (choosing h first r) rest a =
      let p = equality_fits h.test (of_kind RParen h.right ∷ of_kind LBrace h.brace ∷ statements_then first
      (of_kind RBrace r ∷ rest)) a.1.1 in
      let x = statements_fit first (of_kind RBrace r ∷ rest) p.1.1.1 in
      (λ after k. (p.0, x.0 none tt, tt, k), x.1.1)
  statement_fits (choosing_else h first r w l second q) rest a =
      let others = of_kind RBrace r ∷ of_kind Else w ∷ of_kind LBrace l ∷ statements_then second
      (of_kind RBrace q ∷ rest) in
      let p = equality_fits h.test (of_kind RParen h.right ∷ of_kind LBrace h.brace ∷ statements_then first others)
      a.1.1 in
      let x = statements_fit first others p.1.1.1 in
      let y = statements_fit second (of_kind RBrace q ∷ rest) x.1.1.1.1 in
      (λ after k. (p.0, x.0 none tt, y.0 none tt, k), y.1.1)

  statements_fit : (ss : Statements) (rest : List Lexeme) → AllFit (statements_then ss rest) →
      ((after : StatementList Named) → HaveWords after → HaveWords (statements_tree ss after)) × AllFit rest
  statements_fit nothing rest h = (λ after k. k, h)
  statements_fit (more before s) rest h =
      let x = statements_fit before (statement_then s rest) h in
      let y = statement_fits s rest x.1 in
      (λ after k. x.0 (statement_tree s after) (y.0 after k), y.1)

-- what holds of a source's tree
pub record IsFitTree (t : SyntaxTree) : Type 0 where
  pub declarations : AllByRecursion IsFitDeclaration t.decls
  pub literals : HaveWords t.body

-- the tree of a source fits
pub source_fits : (text : List ℕ) (t : SyntaxTree) → IsSource text t → IsFitTree t
source_fits text t source =
    let derived = source.2 in
    let first = declarations_fit derived.0 (statements_then derived.1 [])
    (subst AllFit derived.2 (scanned_fit text source.0 source.1.scanned)) in
    let body = (statements_fit derived.1 [] first.1).0 none tt in
    subst IsFitTree (sym derived.3) (record { declarations = first.0; literals = body })
