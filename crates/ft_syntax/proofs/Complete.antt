-- Each derivation is a run of the machine.
use Rattle.std.proofs.Common.{◌≡◌, List, [], ◌∷◌, Option, Some, None, refl, sym, ap, ◌∙◌}
use Rattle.std.specs.Prelude.{option_and_then}
use Rattle.ft_lexer.specs.declared.kind.Kind.{Kind}
use Rattle.ft_lexer.specs.declared.kind.Kind.TheVariants.{Else, Assign, Semi, RParen, LBrace, RBrace, Plus, Minus, Star}
use Rattle.ft_lexer.specs.declared.kind.Kind.TheVariants.{Less, EqEq, LBracket, RBracket}
use Rattle.ft_lexer.specs.Scan.{Lexeme}
use Rattle.ft_isa.specs.declared.op.Op.{Op}
use Rattle.ft_isa.specs.declared.op.Op.TheVariants.{Add, Sub, Mul, Ltu, Eq}
use Rattle.ft_syntax.specs.Plain.{operation, name, indexed, none, assigning, choose, follow}
use Rattle.ft_syntax.specs.Syntax.{Named, Declared, SyntaxTree}
use Rattle.ft_syntax.specs.Machine.{NamedExpression, NamedStatements, Waiting, Context, State, Block, top, in_loop}
use Rattle.ft_syntax.specs.Machine.{in_yes, in_no, paren, index_of, target_of, value_of, loop_test, choice_test, decls}
use Rattle.ft_syntax.specs.Machine.{stmts, want, had, had_name, may_else, step, stmts_by, may_else_by, had_by}
use Rattle.ft_syntax.specs.Machine.{had_name_by, push, final, join, join_signed, empty, after_shift, after_bits}
use Rattle.ft_syntax.specs.View.{IsNotBracket, NoBracket}
use Rattle.ft_syntax.proofs.Followed.{more_followed}
use Rattle.ft_syntax.specs.Grammar.{of_kind, BitSign, and_sign, or_sign, xor_sign, bit_kind, bit_op, ShiftSign, up_sign}
use Rattle.ft_syntax.specs.Grammar.{down_sign, shift_kind, shift_op, Equality, Comparison, Bits, Shift, Sum, Product}
use Rattle.ft_syntax.specs.Grammar.{Atom, comparison, equals, some_bits, less, a_shift, mask, a_sum, shift, product}
use Rattle.ft_syntax.specs.Grammar.{plus, minus, atom, times, a_name, an_indexed, a_number, brackets, equality_then}
use Rattle.ft_syntax.specs.Grammar.{comparison_then, bits_then, shift_then, sum_then, product_then, atom_then}
use Rattle.ft_syntax.specs.Grammar.{equality_tree, comparison_tree, bits_tree, shift_tree, sum_tree, product_tree}
use Rattle.ft_syntax.specs.Grammar.{atom_tree, Statement, Statements, assignment, looping, choosing, choosing_else}
use Rattle.ft_syntax.specs.Grammar.{nothing, more, statement_then, statements_then, statement_tree, statements_tree}
use Rattle.ft_syntax.specs.Grammar.{Declarations, a_cell, a_var, undeclared, declared_then, declaration_then}
use Rattle.ft_syntax.specs.Grammar.{declarations_then, declarations_tree, Derives}

-- the tree that the machine reads, if it accepts
abbrev pub accepts : State → List Lexeme → Option SyntaxTree
accepts s [] = final s
accepts s (t ∷ ts) = option_and_then (λ s'. accepts s' ts) (step s t)

-- what waits at the level of products and at the looser levels
abbrev at_product : Option NamedExpression → Option NamedExpression → Option (Op × NamedExpression) →
    Option (Op × NamedExpression) → Option (Op × NamedExpression) → Option NamedExpression → Waiting
at_product e l b h s m = record { equal = e; less = l; bits = b; shift = h; sum = s; product = m }

-- an expression of one level was read: what waits at that level, and the last operand
pub record Reads (e l : Option NamedExpression) (b h s : Option (Op × NamedExpression)) (x : Context)
    (ts rest : List Lexeme) (value : NamedExpression) : Type 0 where
  pub product : Option NamedExpression
  pub last : NamedExpression
  pub run : accepts (want (at_product e l b h s None) x) ts ≡ accepts (had (at_product e l b h s product) last x) rest
  pub is : join Mul product last ≡ value

pub record ReadsSum (e l : Option NamedExpression) (b h : Option (Op × NamedExpression)) (x : Context)
    (ts rest : List Lexeme) (value : NamedExpression) : Type 0 where
  pub sum : Option (Op × NamedExpression)
  pub product : Option NamedExpression
  pub last : NamedExpression
  pub run : accepts (want (at_product e l b h None None) x) ts
      ≡ accepts (had (at_product e l b h sum product) last x) rest
  pub is : join_signed sum (join Mul product last) ≡ value

pub record ReadsShift (e l : Option NamedExpression) (b : Option (Op × NamedExpression)) (x : Context)
    (ts rest : List Lexeme) (value : NamedExpression) : Type 0 where
  pub shift : Option (Op × NamedExpression)
  pub sum : Option (Op × NamedExpression)
  pub product : Option NamedExpression
  pub last : NamedExpression
  pub run : accepts (want (at_product e l b None None None) x) ts
      ≡ accepts (had (at_product e l b shift sum product) last x) rest
  pub is : join_signed shift (join_signed sum (join Mul product last)) ≡ value

pub record ReadsBits (e l : Option NamedExpression) (x : Context) (ts rest : List Lexeme) (value : NamedExpression) :
    Type 0 where
  pub bits : Option (Op × NamedExpression)
  pub shift : Option (Op × NamedExpression)
  pub sum : Option (Op × NamedExpression)
  pub product : Option NamedExpression
  pub last : NamedExpression
  pub run : accepts (want (at_product e l None None None None) x) ts
      ≡ accepts (had (at_product e l bits shift sum product) last x) rest
  pub is : join_signed bits (join_signed shift (join_signed sum (join Mul product last))) ≡ value

pub record ReadsLess (e : Option NamedExpression) (x : Context) (ts rest : List Lexeme) (value : NamedExpression) : Type
    0 where
  pub less : Option NamedExpression
  pub bits : Option (Op × NamedExpression)
  pub shift : Option (Op × NamedExpression)
  pub sum : Option (Op × NamedExpression)
  pub product : Option NamedExpression
  pub last : NamedExpression
  pub run : accepts (want (at_product e None None None None None) x) ts
      ≡ accepts (had (at_product e less bits shift sum product) last x) rest
  pub is : join Ltu less (join_signed bits (join_signed shift (join_signed sum (join Mul product last)))) ≡ value

pub record ReadsEqual (x : Context) (ts rest : List Lexeme) (value : NamedExpression) : Type 0 where
  pub equal : Option NamedExpression
  pub less : Option NamedExpression
  pub bits : Option (Op × NamedExpression)
  pub shift : Option (Op × NamedExpression)
  pub sum : Option (Op × NamedExpression)
  pub product : Option NamedExpression
  pub last : NamedExpression
  pub run : accepts (want empty x) ts ≡ accepts (had (at_product equal less bits shift sum product) last x) rest
  pub is : join Eq equal (join Ltu less (join_signed bits
      (join_signed shift (join_signed sum (join Mul product last))))) ≡ value

-- the signs are not brackets, and each is read as an operator
pub bit_goes : (g : BitSign) → IsNotBracket (bit_kind g)
bit_goes and_sign = tt
bit_goes or_sign = tt
bit_goes xor_sign = tt

pub shift_goes : (g : ShiftSign) → IsNotBracket (shift_kind g)
shift_goes up_sign = tt
shift_goes down_sign = tt

pub bit_step : (g : BitSign) (l : Named) (p : Waiting) (a : NamedExpression) (x : Context) →
    step (had p a x) (of_kind (bit_kind g) l) ≡ Some (want (after_bits (bit_op g) p a) x)
bit_step and_sign l p a x = refl
bit_step or_sign l p a x = refl
bit_step xor_sign l p a x = refl

pub shift_step : (g : ShiftSign) (l : Named) (p : Waiting) (a : NamedExpression) (x : Context) →
    step (had p a x) (of_kind (shift_kind g) l) ≡ Some (want (after_shift (shift_op g) p a) x)
shift_step up_sign l p a x = refl
shift_step down_sign l p a x = refl

bit_run : (g : BitSign) (l : Named) (p : Waiting) (a : NamedExpression) (x : Context) (ts : List Lexeme) →
    accepts (had p a x) (of_kind (bit_kind g) l ∷ ts) ≡ accepts (want (after_bits (bit_op g) p a) x) ts
bit_run g l p a x ts = ap (option_and_then (λ s'. accepts s' ts)) (bit_step g l p a x)

shift_run : (g : ShiftSign) (l : Named) (p : Waiting) (a : NamedExpression) (x : Context) (ts : List Lexeme) →
    accepts (had p a x) (of_kind (shift_kind g) l ∷ ts) ≡ accepts (want (after_shift (shift_op g) p a) x) ts
shift_run g l p a x ts = ap (option_and_then (λ s'. accepts s' ts)) (shift_step g l p a x)

pub bare_by : (k : Kind) (p : Waiting) (n : Named) (x : Context) → IsNotBracket k → had_name_by k p n x
    ≡ had_by k (push k p (name n)) p (name n) x
bare_by LBracket p n x h = absurd h
bare_by _ p n x h = refl

-- if no bracket follows, a name has no index
pub bare : (p : Waiting) (n : Named) (x : Context) (rest : List Lexeme) → NoBracket rest → accepts (had_name p n x) rest
    ≡ accepts (had p (name n) x) rest
bare p n x [] h = refl
bare p n x (t ∷ ts) h = ap (option_and_then (λ s'. accepts s' ts)) (bare_by t.kind p n x h)

mutual
  pub run_equality : (c : Equality) (x : Context) (rest : List Lexeme) → NoBracket rest →
      ReadsEqual x (equality_then c rest) rest (equality_tree c)
  run_equality (comparison c) x rest h = let r = run_comparison c None x rest h in
      record {
        equal = None;
        less = r.less;
        bits = r.bits;
        shift = r.shift;
        sum = r.sum;
        product = r.product;
        last = r.last;
        run = r.run;
        is = r.is;
      }
  run_equality (equals a l b) x rest h =
      let q = run_equality a x (of_kind EqEq l ∷ comparison_then b rest) tt in
      let r = run_comparison b (Some (equality_tree a)) x rest h in
      record {
        equal = Some (equality_tree a);
        less = r.less;
        bits = r.bits;
        shift = r.shift;
        sum = r.sum;
        product = r.product;
        last = r.last;
        run = q.run ∙ ap (λ v. accepts (want (at_product (Some v) None None None None None) x) (comparison_then b rest))
            q.is ∙ r.run;
        is = ap (operation Eq (equality_tree a)) r.is;
      }

  pub run_comparison : (c : Comparison) (e : Option NamedExpression) (x : Context) (rest : List Lexeme) →
      NoBracket rest → ReadsLess e x (comparison_then c rest) rest (comparison_tree c)
  run_comparison (some_bits c) e x rest h = let r = run_bits c e None x rest h in
      record {
        less = None;
        bits = r.bits;
        shift = r.shift;
        sum = r.sum;
        product = r.product;
        last = r.last;
        run = r.run;
        is = r.is;
      }
  run_comparison (less a l b) e x rest h =
      let q = run_comparison a e x (of_kind Less l ∷ bits_then b rest) tt in
      let r = run_bits b e (Some (comparison_tree a)) x rest h in
      record {
        less = Some (comparison_tree a);
        bits = r.bits;
        shift = r.shift;
        sum = r.sum;
        product = r.product;
        last = r.last;
        run = q.run ∙ ap (λ v. accepts (want (at_product e (Some v) None None None None) x) (bits_then b rest)) q.is
            ∙ r.run;
        is = ap (operation Ltu (comparison_tree a)) r.is;
      }

  pub run_bits : (c : Bits) (e l : Option NamedExpression) (x : Context) (rest : List Lexeme) → NoBracket rest →
      ReadsBits e l x (bits_then c rest) rest (bits_tree c)
  run_bits (a_shift c) e l x rest h = let r = run_shift c e l None x rest h in
      record { bits = None; shift = r.shift; sum = r.sum; product = r.product; last = r.last; run = r.run; is = r.is }
  run_bits (mask a g k b) e l x rest h =
      let q = run_bits a e l x (of_kind (bit_kind g) k ∷ shift_then b rest) (bit_goes g) in
      let r = run_shift b e l (Some (bit_op g, bits_tree a)) x rest h in
      record {
        bits = Some (bit_op g, bits_tree a);
        shift = r.shift;
        sum = r.sum;
        product = r.product;
        last = r.last;
        run = q.run ∙ bit_run g k (at_product e l q.bits q.shift q.sum q.product) q.last x (shift_then b rest)
            ∙ ap (λ v. accepts (want (at_product e l (Some (bit_op g, v)) None None None) x) (shift_then b rest)) q.is
            ∙ r.run;
        is = ap (operation (bit_op g) (bits_tree a)) r.is;
      }

  pub run_shift : (c : Shift) (e l : Option NamedExpression) (b : Option (Op × NamedExpression)) (x : Context)
      (rest : List Lexeme) → NoBracket rest → ReadsShift e l b x (shift_then c rest) rest (shift_tree c)
  run_shift (a_sum c) e l b x rest h = let r = run_sum c e l b None x rest h in
      record { shift = None; sum = r.sum; product = r.product; last = r.last; run = r.run; is = r.is }
  run_shift (shift a g k c) e l b x rest h =
      let q = run_shift a e l b x (of_kind (shift_kind g) k ∷ sum_then c rest) (shift_goes g) in
      let r = run_sum c e l b (Some (shift_op g, shift_tree a)) x rest h in
      record {
        shift = Some (shift_op g, shift_tree a);
        sum = r.sum;
        product = r.product;
        last = r.last;
        run = q.run ∙ shift_run g k (at_product e l b q.shift q.sum q.product) q.last x (sum_then c rest)
            ∙ ap (λ v. accepts (want (at_product e l b (Some (shift_op g, v)) None None) x) (sum_then c rest)) q.is
            ∙ r.run;
        is = ap (operation (shift_op g) (shift_tree a)) r.is;
      }

  pub run_sum : (c : Sum) (e l : Option NamedExpression) (b h : Option (Op × NamedExpression)) (x : Context)
      (rest : List Lexeme) → NoBracket rest → ReadsSum e l b h x (sum_then c rest) rest (sum_tree c)
  run_sum (product c) e l b h x rest free = let r = run_product c e l b h None x rest free in
      record { sum = None; product = r.product; last = r.last; run = r.run; is = r.is }
  run_sum (plus a k c) e l b h x rest free =
      let q = run_sum a e l b h x (of_kind Plus k ∷ product_then c rest) tt in
      let r = run_product c e l b h (Some (Add, sum_tree a)) x rest free in
      record {
        sum = Some (Add, sum_tree a);
        product = r.product;
        last = r.last;
        run = q.run ∙ ap (λ v. accepts (want (at_product e l b h (Some (Add, v)) None) x) (product_then c rest)) q.is
            ∙ r.run;
        is = ap (operation Add (sum_tree a)) r.is;
      }
  run_sum (minus a k c) e l b h x rest free =
      let q = run_sum a e l b h x (of_kind Minus k ∷ product_then c rest) tt in
      let r = run_product c e l b h (Some (Sub, sum_tree a)) x rest free in
      record {
        sum = Some (Sub, sum_tree a);
        product = r.product;
        last = r.last;
        run = q.run ∙ ap (λ v. accepts (want (at_product e l b h (Some (Sub, v)) None) x) (product_then c rest)) q.is
            ∙ r.run;
        is = ap (operation Sub (sum_tree a)) r.is;
      }

  pub run_product : (c : Product) (e l : Option NamedExpression) (b h s : Option (Op × NamedExpression)) (x : Context)
      (rest : List Lexeme) → NoBracket rest → Reads e l b h s x (product_then c rest) rest (product_tree c)
  run_product (atom c) e l b h s x rest free =
      record { product = None; last = atom_tree c; run = run_atom c (at_product e l b h s None) x rest free; is = refl }
  run_product (times a k c) e l b h s x rest free =
      let q = run_product a e l b h s x (of_kind Star k ∷ atom_then c rest) tt in
      record {
        product = Some (product_tree a);
        last = atom_tree c;
        run = q.run ∙ ap (λ v. accepts (want (at_product e l b h s (Some v)) x) (atom_then c rest)) q.is
            ∙ run_atom c (at_product e l b h s (Some (product_tree a))) x rest free;
        is = refl;
      }

  pub run_atom : (c : Atom) (p : Waiting) (x : Context) (rest : List Lexeme) → NoBracket rest →
      accepts (want p x) (atom_then c rest) ≡ accepts (had p (atom_tree c) x) rest
  run_atom (a_name l) p x rest free = bare p l x rest free
  run_atom (an_indexed n l c r) p x rest free =
      let q = run_equality c (index_of p n x) (of_kind RBracket r ∷ rest) tt in
      q.run ∙ ap (λ v. accepts (had p (indexed n v) x) rest) q.is
  run_atom (a_number l) p x rest free = refl
  run_atom (brackets l c r) p x rest free =
      let q = run_equality c (paren p x) (of_kind RParen r ∷ rest) tt in
      q.run ∙ ap (λ v. accepts (had p v x) rest) q.is

abbrev pub IsNotElse : Kind → Type 0
IsNotElse Else = ⊥
IsNotElse _ = Unit {0}

-- the next lexeme, if any, is not `else`
abbrev pub NoElse : List Lexeme → Type 0
NoElse [] = Unit {0}
NoElse (t ∷ ts) = IsNotElse t.kind

pub settled_by : (k : Kind) (t : Lexeme) (e : NamedExpression) (first ss : NamedStatements) (b : Block) → IsNotElse k →
    may_else_by k t e first ss b ≡ stmts_by k t (follow ss (choose e first none none)) b
settled_by Else t e first ss b h = absurd h
settled_by _ t e first ss b h = refl

-- if no `else` follows, an `if` has ended
pub settled : (e : NamedExpression) (first ss : NamedStatements) (b : Block) (rest : List Lexeme) → NoElse rest →
    accepts (may_else e first ss b) rest ≡ accepts (stmts (follow ss (choose e first none none)) b) rest
settled e first ss b [] h = refl
settled e first ss b (t ∷ ts) h = ap (option_and_then (λ s'. accepts s' ts)) (settled_by t.kind t e first ss b h)

begins : (c : Statement) (rest : List Lexeme) → NoElse (statement_then c rest)
begins (assignment n o l e r) rest = tt
begins (looping h body r) rest = tt
begins (choosing h first r) rest = tt
begins (choosing_else h first r w l second q) rest = tt

run_value : (n : Named) (o : Option NamedExpression) (e : Equality) (r : Named) (ss : NamedStatements) (b : Block)
    (rest : List Lexeme) →
    accepts (want empty (value_of n o ss b)) (equality_then e (of_kind Semi r ∷ rest))
    ≡ accepts (stmts (follow ss (assigning n o (equality_tree e) none)) b) rest
run_value n o e r ss b rest =
    let q = run_equality e (value_of n o ss b) (of_kind Semi r ∷ rest) tt in
    q.run ∙ ap (λ v. accepts (stmts (follow ss (assigning n o v none)) b) rest) q.is

mutual
  pub run_statement : (c : Statement) (ss : NamedStatements) (b : Block) (rest : List Lexeme) → NoElse rest →
      accepts (stmts ss b) (statement_then c rest) ≡ accepts (stmts (follow ss (statement_tree c none)) b) rest
  run_statement (assignment n None l e r) ss b rest h = run_value n None e r ss b rest
  run_statement (assignment n (Some i) l e r) ss b rest h =
      let after = equality_then e (of_kind Semi r ∷ rest) in
      let q = run_equality i.index (target_of n ss b) (of_kind RBracket i.right ∷ of_kind Assign l ∷ after) tt in
      q.run ∙ ap (λ v. accepts (want empty (value_of n (Some v) ss b)) after) q.is
      ∙ run_value n (Some (equality_tree i.index)) e r ss b rest
  run_statement (looping d body r) ss b rest h =
      let inside = statements_then body (of_kind RBrace r ∷ rest) in
      let q = run_equality d.test (loop_test ss b) (of_kind RParen d.right ∷ of_kind LBrace d.brace ∷ inside) tt in
      q.run ∙ ap (λ v. accepts (stmts none (in_loop v ss b)) inside) q.is
      ∙ run_statements body (in_loop (equality_tree d.test) ss b) (of_kind RBrace r ∷ rest) tt
  run_statement (choosing d first r) ss b rest h =
      let inside = statements_then first (of_kind RBrace r ∷ rest) in
      let q = run_equality d.test (choice_test ss b) (of_kind RParen d.right ∷ of_kind LBrace d.brace ∷ inside) tt in
      q.run ∙ ap (λ v. accepts (stmts none (in_yes v ss b)) inside) q.is
      ∙ run_statements first (in_yes (equality_tree d.test) ss b) (of_kind RBrace r ∷ rest) tt
      ∙ settled (equality_tree d.test) (statements_tree first none) ss b rest h
  run_statement (choosing_else d first r w l second z) ss b rest h =
      let other = statements_then second (of_kind RBrace z ∷ rest) in
      let inside = statements_then first (of_kind RBrace r ∷ of_kind Else w ∷ of_kind LBrace l ∷ other) in
      let q = run_equality d.test (choice_test ss b) (of_kind RParen d.right ∷ of_kind LBrace d.brace ∷ inside) tt in
      q.run ∙ ap (λ v. accepts (stmts none (in_yes v ss b)) inside) q.is
      ∙ run_statements first (in_yes (equality_tree d.test) ss b)
      (of_kind RBrace r ∷ of_kind Else w ∷ of_kind LBrace l ∷ other) tt
      ∙ run_statements second (in_no (equality_tree d.test) (statements_tree first none) ss b) (of_kind RBrace z ∷ rest)
      tt

  pub run_statements : (c : Statements) (b : Block) (rest : List Lexeme) → NoElse rest →
      accepts (stmts none b) (statements_then c rest) ≡ accepts (stmts (statements_tree c none) b) rest
  run_statements nothing b rest h = refl
  run_statements (more before s) b rest h = run_statements before b (statement_then s rest) (begins s rest)
      ∙ run_statement s (statements_tree before none) b rest h
      ∙ ap (λ v. accepts (stmts v b) rest) (sym (more_followed before s))

run_declarations : (ds : Declarations) (rest : List Lexeme) → accepts (decls []) (declarations_then ds rest)
    ≡ accepts (decls (declarations_tree ds)) rest
run_declarations undeclared rest = refl
run_declarations (declared_then before (a_cell w n None l v r)) rest =
    run_declarations before (declaration_then (a_cell w n None l v r) rest)
run_declarations (declared_then before (a_cell w n (Some x) l v r)) rest =
    run_declarations before (declaration_then (a_cell w n (Some x) l v r) rest)
run_declarations (declared_then before (a_var w n r)) rest =
    run_declarations before (declaration_then (a_var w n r) rest)

-- a list that begins with a statement is read the same way after declarations as among statements
abbrev Begins : List Lexeme → Type 0
Begins ts = (ds : List Declared) → accepts (decls ds) ts ≡ accepts (stmts none (top ds)) ts

begins_one : (c : Statement) (rest : List Lexeme) → Begins (statement_then c rest)
begins_one (assignment n o l e r) rest ds = refl
begins_one (looping h body r) rest ds = refl
begins_one (choosing h first r) rest ds = refl
begins_one (choosing_else h first r w l second q) rest ds = refl

begins_all : (c : Statements) (rest : List Lexeme) → Begins rest → Begins (statements_then c rest)
begins_all nothing rest h = h
begins_all (more before s) rest h = begins_all before (statement_then s rest) (begins_one s rest)

-- a list that derives a tree is accepted with that tree
pub complete : (ts : List Lexeme) (p : SyntaxTree) → Derives ts p → accepts (decls []) ts ≡ Some p
complete ts p (ds, ss, shown, tree) =
    ap (accepts (decls [])) shown ∙ run_declarations ds (statements_then ss [])
    ∙ begins_all ss [] (λ ds. refl) (declarations_tree ds)
    ∙ run_statements ss (top (declarations_tree ds)) [] tt ∙ ap Some (sym tree)
