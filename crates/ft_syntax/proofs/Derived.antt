-- The machine's states with derivations in place of trees, and the lexemes that have been read in each.
use Rattle.std.proofs.Common.{◌≡◌, List, ◌∷◌, Option, Some, None, refl, ap, ◌∙◌}
use Rattle.ft_lexer.specs.declared.kind.Kind.TheVariants.{Name, Number, Cell, Var, While, If, Else, Assign, LParen}
use Rattle.ft_lexer.specs.declared.kind.Kind.TheVariants.{RParen, LBrace, RBrace, Plus, Minus, Star, Less, EqEq}
use Rattle.ft_lexer.specs.declared.kind.Kind.TheVariants.{LBracket}
use Rattle.ft_lexer.specs.Numeral.{numeral}
use Rattle.ft_lexer.specs.Scan.{Lexeme}
use Rattle.ft_isa.specs.declared.op.Op.{Op}
use Rattle.ft_isa.specs.declared.op.Op.TheVariants.{Add, Sub, Mul, Ltu, Eq}
use Rattle.ft_syntax.specs.Plain.{none}
use Rattle.ft_syntax.specs.Syntax.{Named}
use Rattle.ft_syntax.specs.Machine.{NamedExpression, Waiting, Context, State, Block, top, in_loop, in_yes, in_no, paren}
use Rattle.ft_syntax.specs.Machine.{index_of, target_of, value_of, loop_test, choice_test, decls, cell_name, cell_is}
use Rattle.ft_syntax.specs.Machine.{cell_length, cell_close, cell_sized, cell_number, cell_end, var_name, var_end}
use Rattle.ft_syntax.specs.Machine.{stmts, target_is, assign_is, loop_open, choice_open, want, had_name, had}
use Rattle.ft_syntax.specs.Machine.{loop_brace, choice_brace, may_else, else_brace, close, join, join_signed}
use Rattle.ft_syntax.specs.Machine.{product_of, sum_of, shift_of, bits_of, less_of}
use Rattle.ft_syntax.specs.Grammar.{of_kind, BitSign, bit_kind, bit_op, ShiftSign, shift_kind, shift_op, Equality}
use Rattle.ft_syntax.specs.Grammar.{Comparison, Bits, Shift, Sum, Product, Atom, comparison, equals, some_bits, less}
use Rattle.ft_syntax.specs.Grammar.{a_shift, mask, a_sum, shift, product, plus, minus, atom, times, equality_then}
use Rattle.ft_syntax.specs.Grammar.{comparison_then, bits_then, shift_then, sum_then, product_then, atom_then}
use Rattle.ft_syntax.specs.Grammar.{equality_tree, comparison_tree, bits_tree, shift_tree, sum_tree, product_tree}
use Rattle.ft_syntax.specs.Grammar.{atom_tree, Index, index_then, index_tree, Head, head_then, Statements}
use Rattle.ft_syntax.specs.Grammar.{statements_then, statements_tree, Extent, extent_then, extent_of, Declarations}
use Rattle.ft_syntax.specs.Grammar.{declarations_then, declarations_tree}

-- the states again, with derivations in place of trees

pub data SignC : Type 0 where
  added : Sum → Named → SignC
  taken : Sum → Named → SignC

pub record WaitingC : Type 0 where
  pub equal : Option (Equality × Named)
  pub less : Option (Comparison × Named)
  pub bits : Option (Bits × BitSign × Named)
  pub shift : Option (Shift × ShiftSign × Named)
  pub sum : Option SignC
  pub product : Option (Product × Named)

abbrev pub emptyC : WaitingC
emptyC = record { equal = None; less = None; bits = None; shift = None; sum = None; product = None }

abbrev pub kept_equal : Option (Equality × Named) → Option NamedExpression
kept_equal None = None
kept_equal (Some p) = Some (equality_tree p.0)

abbrev pub kept_less : Option (Comparison × Named) → Option NamedExpression
kept_less None = None
kept_less (Some p) = Some (comparison_tree p.0)

abbrev pub kept_bits : Option (Bits × BitSign × Named) → Option (Op × NamedExpression)
kept_bits None = None
kept_bits (Some p) = Some (bit_op p.1, bits_tree p.0)

abbrev pub kept_shift : Option (Shift × ShiftSign × Named) → Option (Op × NamedExpression)
kept_shift None = None
kept_shift (Some p) = Some (shift_op p.1, shift_tree p.0)

abbrev pub kept_sum : Option SignC → Option (Op × NamedExpression)
kept_sum None = None
kept_sum (Some (added s l)) = Some (Add, sum_tree s)
kept_sum (Some (taken s l)) = Some (Sub, sum_tree s)

abbrev kept_product : Option (Product × Named) → Option NamedExpression
kept_product None = None
kept_product (Some p) = Some (product_tree p.0)

abbrev pub kept_waiting : WaitingC → Waiting
kept_waiting p = record {
  equal = kept_equal p.equal;
  less = kept_less p.less;
  bits = kept_bits p.bits;
  shift = kept_shift p.shift;
  sum = kept_sum p.sum;
  product = kept_product p.product;
}

abbrev pub show_equal : Option (Equality × Named) → List Lexeme → List Lexeme
show_equal None rest = rest
show_equal (Some p) rest = equality_then p.0 (of_kind EqEq p.1 ∷ rest)

abbrev pub show_less : Option (Comparison × Named) → List Lexeme → List Lexeme
show_less None rest = rest
show_less (Some p) rest = comparison_then p.0 (of_kind Less p.1 ∷ rest)

abbrev pub show_bits : Option (Bits × BitSign × Named) → List Lexeme → List Lexeme
show_bits None rest = rest
show_bits (Some p) rest = bits_then p.0 (of_kind (bit_kind p.1) p.2 ∷ rest)

abbrev pub show_shift : Option (Shift × ShiftSign × Named) → List Lexeme → List Lexeme
show_shift None rest = rest
show_shift (Some p) rest = shift_then p.0 (of_kind (shift_kind p.1) p.2 ∷ rest)

abbrev pub show_sum : Option SignC → List Lexeme → List Lexeme
show_sum None rest = rest
show_sum (Some (added s l)) rest = sum_then s (of_kind Plus l ∷ rest)
show_sum (Some (taken s l)) rest = sum_then s (of_kind Minus l ∷ rest)

abbrev show_product : Option (Product × Named) → List Lexeme → List Lexeme
show_product None rest = rest
show_product (Some p) rest = product_then p.0 (of_kind Star p.1 ∷ rest)

abbrev pub show_waiting : WaitingC → List Lexeme → List Lexeme
show_waiting p rest = show_equal p.equal (show_less p.less
    (show_bits p.bits (show_shift p.shift (show_sum p.sum (show_product p.product rest)))))

abbrev made_product : Option (Product × Named) → Atom → Product
made_product None a = atom a
made_product (Some p) a = times p.0 p.1 a

abbrev made_sum : Option SignC → Product → Sum
made_sum None a = product a
made_sum (Some (added s l)) a = plus s l a
made_sum (Some (taken s l)) a = minus s l a

abbrev made_shift : Option (Shift × ShiftSign × Named) → Sum → Shift
made_shift None a = a_sum a
made_shift (Some p) a = shift p.0 p.1 p.2 a

abbrev made_bits : Option (Bits × BitSign × Named) → Shift → Bits
made_bits None a = a_shift a
made_bits (Some p) a = mask p.0 p.1 p.2 a

abbrev made_less : Option (Comparison × Named) → Bits → Comparison
made_less None a = some_bits a
made_less (Some p) a = less p.0 p.1 a

abbrev made_equal : Option (Equality × Named) → Comparison → Equality
made_equal None a = comparison a
made_equal (Some p) a = equals p.0 p.1 a

abbrev pub productC : WaitingC → Atom → Product
productC p a = made_product p.product a

abbrev pub sumC : WaitingC → Atom → Sum
sumC p a = made_sum p.sum (productC p a)

abbrev pub shiftC : WaitingC → Atom → Shift
shiftC p a = made_shift p.shift (sumC p a)

abbrev pub bitsC : WaitingC → Atom → Bits
bitsC p a = made_bits p.bits (shiftC p a)

abbrev pub lessC : WaitingC → Atom → Comparison
lessC p a = made_less p.less (bitsC p a)

abbrev pub closeC : WaitingC → Atom → Equality
closeC p a = made_equal p.equal (lessC p a)

product_one : (o : Option (Product × Named)) (a : Atom) → product_tree (made_product o a)
    ≡ join Mul (kept_product o) (atom_tree a)
product_one None a = refl
product_one (Some p) a = refl

sum_one : (o : Option SignC) (a : Product) → sum_tree (made_sum o a) ≡ join_signed (kept_sum o) (product_tree a)
sum_one None a = refl
sum_one (Some (added s l)) a = refl
sum_one (Some (taken s l)) a = refl

shift_one : (o : Option (Shift × ShiftSign × Named)) (a : Sum) → shift_tree (made_shift o a)
    ≡ join_signed (kept_shift o) (sum_tree a)
shift_one None a = refl
shift_one (Some p) a = refl

bits_one : (o : Option (Bits × BitSign × Named)) (a : Shift) → bits_tree (made_bits o a)
    ≡ join_signed (kept_bits o) (shift_tree a)
bits_one None a = refl
bits_one (Some p) a = refl

less_one : (o : Option (Comparison × Named)) (a : Bits) → comparison_tree (made_less o a)
    ≡ join Ltu (kept_less o) (bits_tree a)
less_one None a = refl
less_one (Some p) a = refl

equal_one : (o : Option (Equality × Named)) (a : Comparison) → equality_tree (made_equal o a)
    ≡ join Eq (kept_equal o) (comparison_tree a)
equal_one None a = refl
equal_one (Some p) a = refl

pub product_is : (p : WaitingC) (a : Atom) → product_tree (productC p a) ≡ product_of (kept_waiting p) (atom_tree a)
product_is p a = product_one p.product a

pub sum_is : (p : WaitingC) (a : Atom) → sum_tree (sumC p a) ≡ sum_of (kept_waiting p) (atom_tree a)
sum_is p a = sum_one p.sum (productC p a) ∙ ap (join_signed (kept_sum p.sum)) (product_is p a)

pub shift_is : (p : WaitingC) (a : Atom) → shift_tree (shiftC p a) ≡ shift_of (kept_waiting p) (atom_tree a)
shift_is p a = shift_one p.shift (sumC p a) ∙ ap (join_signed (kept_shift p.shift)) (sum_is p a)

pub bits_is : (p : WaitingC) (a : Atom) → bits_tree (bitsC p a) ≡ bits_of (kept_waiting p) (atom_tree a)
bits_is p a = bits_one p.bits (shiftC p a) ∙ ap (join_signed (kept_bits p.bits)) (shift_is p a)

pub less_is : (p : WaitingC) (a : Atom) → comparison_tree (lessC p a) ≡ less_of (kept_waiting p) (atom_tree a)
less_is p a = less_one p.less (bitsC p a) ∙ ap (join Ltu (kept_less p.less)) (bits_is p a)

pub close_is : (p : WaitingC) (a : Atom) → equality_tree (closeC p a) ≡ close (kept_waiting p) (atom_tree a)
close_is p a = equal_one p.equal (lessC p a) ∙ ap (join Eq (kept_equal p.equal)) (less_is p a)

product_show : (o : Option (Product × Named)) (a : Atom) (rest : List Lexeme) → show_product o (atom_then a rest)
    ≡ product_then (made_product o a) rest
product_show None a rest = refl
product_show (Some p) a rest = refl

sum_show : (o : Option SignC) (a : Product) (rest : List Lexeme) → show_sum o (product_then a rest)
    ≡ sum_then (made_sum o a) rest
sum_show None a rest = refl
sum_show (Some (added s l)) a rest = refl
sum_show (Some (taken s l)) a rest = refl

shift_show : (o : Option (Shift × ShiftSign × Named)) (a : Sum) (rest : List Lexeme) → show_shift o (sum_then a rest)
    ≡ shift_then (made_shift o a) rest
shift_show None a rest = refl
shift_show (Some p) a rest = refl

bits_show : (o : Option (Bits × BitSign × Named)) (a : Shift) (rest : List Lexeme) → show_bits o (shift_then a rest)
    ≡ bits_then (made_bits o a) rest
bits_show None a rest = refl
bits_show (Some p) a rest = refl

less_show : (o : Option (Comparison × Named)) (a : Bits) (rest : List Lexeme) → show_less o (bits_then a rest)
    ≡ comparison_then (made_less o a) rest
less_show None a rest = refl
less_show (Some p) a rest = refl

equal_show : (o : Option (Equality × Named)) (a : Comparison) (rest : List Lexeme) →
    show_equal o (comparison_then a rest) ≡ equality_then (made_equal o a) rest
equal_show None a rest = refl
equal_show (Some p) a rest = refl

pub product_shows : (p : WaitingC) (a : Atom) (rest : List Lexeme) → show_product p.product (atom_then a rest)
    ≡ product_then (productC p a) rest
product_shows p a rest = product_show p.product a rest

pub sum_shows : (p : WaitingC) (a : Atom) (rest : List Lexeme) →
    show_sum p.sum (show_product p.product (atom_then a rest)) ≡ sum_then (sumC p a) rest
sum_shows p a rest = ap (show_sum p.sum) (product_shows p a rest) ∙ sum_show p.sum (productC p a) rest

pub shift_shows : (p : WaitingC) (a : Atom) (rest : List Lexeme) →
    show_shift p.shift (show_sum p.sum (show_product p.product (atom_then a rest))) ≡ shift_then (shiftC p a) rest
shift_shows p a rest = ap (show_shift p.shift) (sum_shows p a rest) ∙ shift_show p.shift (sumC p a) rest

pub bits_shows : (p : WaitingC) (a : Atom) (rest : List Lexeme) →
    show_bits p.bits (show_shift p.shift (show_sum p.sum (show_product p.product (atom_then a rest))))
    ≡ bits_then (bitsC p a) rest
bits_shows p a rest = ap (show_bits p.bits) (shift_shows p a rest) ∙ bits_show p.bits (shiftC p a) rest

pub less_shows : (p : WaitingC) (a : Atom) (rest : List Lexeme) →
    show_less p.less (show_bits p.bits (show_shift p.shift
    (show_sum p.sum (show_product p.product (atom_then a rest))))) ≡ comparison_then (lessC p a) rest
less_shows p a rest = ap (show_less p.less) (bits_shows p a rest) ∙ less_show p.less (bitsC p a) rest

pub close_shows : (p : WaitingC) (a : Atom) (rest : List Lexeme) → show_waiting p (atom_then a rest)
    ≡ equality_then (closeC p a) rest
close_shows p a rest = ap (show_equal p.equal) (less_shows p a rest) ∙ equal_show p.equal (lessC p a) rest

pub data BlockC : Type 0 where
  topC : Declarations → BlockC
  in_loopC : Head → Statements → BlockC → BlockC
  in_yesC : Head → Statements → BlockC → BlockC
  in_noC : Head → Statements → Named → Named → Named → Statements → BlockC → BlockC

pub data ContextC : Type 0 where
  parenC : WaitingC → Named → ContextC → ContextC
  index_ofC : WaitingC → Named → Named → ContextC → ContextC
  target_ofC : Named → Named → Statements → BlockC → ContextC
  value_ofC : Named → Option Index → Named → Statements → BlockC → ContextC
  loop_testC : Named → Named → Statements → BlockC → ContextC
  choice_testC : Named → Named → Statements → BlockC → ContextC

pub data StateC : Type 0 where
  declsC : Declarations → StateC
  cell_nameC : Declarations → Named → StateC
  cell_isC : Declarations → Named → Named → StateC
  cell_lengthC : Declarations → Named → Named → Named → StateC
  cell_closeC : Declarations → Named → Named → Named → Named → StateC
  cell_sizedC : Declarations → Named → Named → Extent → StateC
  cell_numberC : Declarations → Named → Named → Option Extent → Named → StateC
  cell_endC : Declarations → Named → Named → Option Extent → Named → Named → StateC
  var_nameC : Declarations → Named → StateC
  var_endC : Declarations → Named → Named → StateC
  stmtsC : Statements → BlockC → StateC
  target_isC : Named → Statements → BlockC → StateC
  assign_isC : Named → Index → Statements → BlockC → StateC
  loop_openC : Named → Statements → BlockC → StateC
  choice_openC : Named → Statements → BlockC → StateC
  wantC : WaitingC → ContextC → StateC
  had_nameC : WaitingC → Named → ContextC → StateC
  hadC : WaitingC → Atom → ContextC → StateC
  loop_braceC : Named → Named → Equality → Named → Statements → BlockC → StateC
  choice_braceC : Named → Named → Equality → Named → Statements → BlockC → StateC
  may_elseC : Head → Statements → Named → Statements → BlockC → StateC
  else_braceC : Head → Statements → Named → Named → Statements → BlockC → StateC

abbrev pub kept_block : BlockC → Block
kept_block (topC ds) = top (declarations_tree ds)
kept_block (in_loopC h ss b) = in_loop (equality_tree h.test) (statements_tree ss none) (kept_block b)
kept_block (in_yesC h ss b) = in_yes (equality_tree h.test) (statements_tree ss none) (kept_block b)
kept_block (in_noC h first r w l ss b) = in_no (equality_tree h.test) (statements_tree first none)
    (statements_tree ss none) (kept_block b)

abbrev pub kept_context : ContextC → Context
kept_context (parenC p l x) = paren (kept_waiting p) (kept_context x)
kept_context (index_ofC p n l x) = index_of (kept_waiting p) n (kept_context x)
kept_context (target_ofC n l ss b) = target_of n (statements_tree ss none) (kept_block b)
kept_context (value_ofC n o l ss b) = value_of n (index_tree o) (statements_tree ss none) (kept_block b)
kept_context (loop_testC w l ss b) = loop_test (statements_tree ss none) (kept_block b)
kept_context (choice_testC w l ss b) = choice_test (statements_tree ss none) (kept_block b)

abbrev pub kept : StateC → State
kept (declsC ds) = decls (declarations_tree ds)
kept (cell_nameC ds w) = cell_name (declarations_tree ds)
kept (cell_isC ds w n) = cell_is (declarations_tree ds) n
kept (cell_lengthC ds w n l) = cell_length (declarations_tree ds) n
kept (cell_closeC ds w n l m) = cell_close (declarations_tree ds) n (numeral 0 m.text, m.at)
kept (cell_sizedC ds w n x) = cell_sized (declarations_tree ds) n (extent_of (Some x))
kept (cell_numberC ds w n o l) = cell_number (declarations_tree ds) n (extent_of o)
kept (cell_endC ds w n o l v) = cell_end (declarations_tree ds) n (extent_of o) (numeral 0 v.text)
kept (var_nameC ds w) = var_name (declarations_tree ds)
kept (var_endC ds w n) = var_end (declarations_tree ds) n
kept (stmtsC ss b) = stmts (statements_tree ss none) (kept_block b)
kept (target_isC n ss b) = target_is n (statements_tree ss none) (kept_block b)
kept (assign_isC n i ss b) = assign_is n (index_tree (Some i)) (statements_tree ss none) (kept_block b)
kept (loop_openC w ss b) = loop_open (statements_tree ss none) (kept_block b)
kept (choice_openC w ss b) = choice_open (statements_tree ss none) (kept_block b)
kept (wantC p x) = want (kept_waiting p) (kept_context x)
kept (had_nameC p n x) = had_name (kept_waiting p) n (kept_context x)
kept (hadC p a x) = had (kept_waiting p) (atom_tree a) (kept_context x)
kept (loop_braceC w l e r ss b) = loop_brace (equality_tree e) (statements_tree ss none) (kept_block b)
kept (choice_braceC w l e r ss b) = choice_brace (equality_tree e) (statements_tree ss none) (kept_block b)
kept (may_elseC h first r ss b) = may_else (equality_tree h.test) (statements_tree first none) (statements_tree ss none)
    (kept_block b)
kept (else_braceC h first r w ss b) = else_brace (equality_tree h.test) (statements_tree first none)
    (statements_tree ss none) (kept_block b)

abbrev pub show_block : BlockC → List Lexeme → List Lexeme
show_block (topC ds) rest = declarations_then ds rest
show_block (in_loopC h ss b) rest = show_block b (statements_then ss (head_then While h rest))
show_block (in_yesC h ss b) rest = show_block b (statements_then ss (head_then If h rest))
show_block (in_noC h first r w l ss b) rest = show_block b
    (statements_then ss (head_then If h (statements_then first
    (of_kind RBrace r ∷ of_kind Else w ∷ of_kind LBrace l ∷ rest))))

abbrev pub show_context : ContextC → List Lexeme → List Lexeme
show_context (parenC p l x) rest = show_context x (show_waiting p (of_kind LParen l ∷ rest))
show_context (index_ofC p n l x) rest = show_context x (show_waiting p (of_kind Name n ∷ of_kind LBracket l ∷ rest))
show_context (target_ofC n l ss b) rest = show_block b (statements_then ss (of_kind Name n ∷ of_kind LBracket l ∷ rest))
show_context (value_ofC n o l ss b) rest = show_block b
    (statements_then ss (of_kind Name n ∷ index_then o (of_kind Assign l ∷ rest)))
show_context (loop_testC w l ss b) rest = show_block b (statements_then ss (of_kind While w ∷ of_kind LParen l ∷ rest))
show_context (choice_testC w l ss b) rest = show_block b (statements_then ss (of_kind If w ∷ of_kind LParen l ∷ rest))

-- the lexemes read so far, followed by `rest`
abbrev pub show : StateC → List Lexeme → List Lexeme
show (declsC ds) rest = declarations_then ds rest
show (cell_nameC ds w) rest = declarations_then ds (of_kind Cell w ∷ rest)
show (cell_isC ds w n) rest = declarations_then ds (of_kind Cell w ∷ of_kind Name n ∷ rest)
show (cell_lengthC ds w n l) rest = declarations_then ds (of_kind Cell w ∷ of_kind Name n ∷ of_kind LBracket l ∷ rest)
show (cell_closeC ds w n l m) rest = declarations_then ds
    (of_kind Cell w ∷ of_kind Name n ∷ of_kind LBracket l ∷ of_kind Number m ∷ rest)
show (cell_sizedC ds w n x) rest = declarations_then ds (of_kind Cell w ∷ of_kind Name n ∷ extent_then (Some x) rest)
show (cell_numberC ds w n o l) rest = declarations_then ds
    (of_kind Cell w ∷ of_kind Name n ∷ extent_then o (of_kind Assign l ∷ rest))
show (cell_endC ds w n o l v) rest = declarations_then ds
    (of_kind Cell w ∷ of_kind Name n ∷ extent_then o (of_kind Assign l ∷ of_kind Number v ∷ rest))
show (var_nameC ds w) rest = declarations_then ds (of_kind Var w ∷ rest)
show (var_endC ds w n) rest = declarations_then ds (of_kind Var w ∷ of_kind Name n ∷ rest)
show (stmtsC ss b) rest = show_block b (statements_then ss rest)
show (target_isC n ss b) rest = show_block b (statements_then ss (of_kind Name n ∷ rest))
show (assign_isC n i ss b) rest = show_block b (statements_then ss (of_kind Name n ∷ index_then (Some i) rest))
show (loop_openC w ss b) rest = show_block b (statements_then ss (of_kind While w ∷ rest))
show (choice_openC w ss b) rest = show_block b (statements_then ss (of_kind If w ∷ rest))
show (wantC p x) rest = show_context x (show_waiting p rest)
show (had_nameC p n x) rest = show_context x (show_waiting p (of_kind Name n ∷ rest))
show (hadC p a x) rest = show_context x (show_waiting p (atom_then a rest))
show (loop_braceC w l e r ss b) rest = show_block b
    (statements_then ss (of_kind While w ∷ of_kind LParen l ∷ equality_then e (of_kind RParen r ∷ rest)))
show (choice_braceC w l e r ss b) rest = show_block b
    (statements_then ss (of_kind If w ∷ of_kind LParen l ∷ equality_then e (of_kind RParen r ∷ rest)))
show (may_elseC h first r ss b) rest = show_block b
    (statements_then ss (head_then If h (statements_then first (of_kind RBrace r ∷ rest))))
show (else_braceC h first r w ss b) rest = show_block b
    (statements_then ss (head_then If h (statements_then first (of_kind RBrace r ∷ of_kind Else w ∷ rest))))
