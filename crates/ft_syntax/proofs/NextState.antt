-- One step of the machine from a state with derivations leads to one with derivations.
use Rattle.std.proofs.Common.{◌≡◌, List, ◌∷◌, Some, None, refl, sym, ap, ◌∙◌}
use Rattle.ft_lexer.specs.declared.kind.Kind.{Kind}
use Rattle.ft_lexer.specs.declared.kind.Kind.TheVariants.{Name, Number, Cell, Var, While, If, Else, Assign, Semi}
use Rattle.ft_lexer.specs.declared.kind.Kind.TheVariants.{LParen, RParen, LBrace, RBrace, Plus, Minus, Star, Less, EqEq}
use Rattle.ft_lexer.specs.declared.kind.Kind.TheVariants.{LBracket, RBracket, And, Or, Xor, Shl, Shr}
use Rattle.ft_lexer.specs.Scan.{Lexeme}
use Rattle.ft_isa.specs.declared.op.Op.TheVariants.{Add, Sub}
use Rattle.ft_syntax.specs.Plain.{indexed, none, assigning, follow}
use Rattle.ft_syntax.specs.Syntax.{Named}
use Rattle.ft_syntax.specs.Machine.{State, stmts, assign_is, want, had, loop_brace, choice_brace, step, stmts_by}
use Rattle.ft_syntax.specs.View.{IsNotBracket}
use Rattle.ft_syntax.proofs.Followed.{more_followed}
use Rattle.ft_syntax.proofs.Complete.{IsNotElse, settled_by, bit_step, shift_step, bare_by}
use Rattle.ft_syntax.specs.Grammar.{of_kind, BitSign, and_sign, or_sign, xor_sign, bit_kind, bit_op, ShiftSign, up_sign}
use Rattle.ft_syntax.specs.Grammar.{down_sign, shift_kind, shift_op, Atom, less, shift, product, a_name, an_indexed}
use Rattle.ft_syntax.specs.Grammar.{a_number, brackets, equality_tree, atom_tree, index_then, index_tree, Head}
use Rattle.ft_syntax.specs.Grammar.{Statements, assignment, looping, choosing, choosing_else, nothing, more}
use Rattle.ft_syntax.specs.Grammar.{statements_then, statements_tree, Declarations, a_cell, a_var, declared_then}
use Rattle.ft_syntax.proofs.Derived.{added, taken, WaitingC, emptyC, kept_equal, kept_less, kept_bits, kept_shift}
use Rattle.ft_syntax.proofs.Derived.{kept_sum, kept_waiting, show_equal, show_less, show_bits, show_shift, show_sum}
use Rattle.ft_syntax.proofs.Derived.{show_waiting, productC, sumC, shiftC, bitsC, lessC, closeC, product_is, sum_is}
use Rattle.ft_syntax.proofs.Derived.{shift_is, bits_is, less_is, close_is, product_shows, sum_shows, shift_shows}
use Rattle.ft_syntax.proofs.Derived.{bits_shows, less_shows, close_shows, BlockC, topC, in_loopC, in_yesC, in_noC}
use Rattle.ft_syntax.proofs.Derived.{ContextC, parenC, index_ofC, target_ofC, value_ofC, loop_testC, choice_testC}
use Rattle.ft_syntax.proofs.Derived.{StateC, declsC, cell_nameC, cell_isC, cell_lengthC, cell_closeC, cell_sizedC}
use Rattle.ft_syntax.proofs.Derived.{cell_numberC, cell_endC, var_nameC, var_endC, stmtsC, target_isC, assign_isC}
use Rattle.ft_syntax.proofs.Derived.{loop_openC, choice_openC, wantC, had_nameC, hadC, loop_braceC, choice_braceC}
use Rattle.ft_syntax.proofs.Derived.{may_elseC, else_braceC, kept_block, kept_context, kept, show_block, show_context}
use Rattle.ft_syntax.proofs.Derived.{show}

-- one step from a state with derivations leads to one with derivations
pub record Next (c : StateC) (t : Lexeme) (s : State) : Type 0 where
  pub state : StateC
  pub is : kept state ≡ s
  pub shows : (rest : List Lexeme) → show c (t ∷ rest) ≡ show state rest

pub unsome : {a b : State} → Some a ≡ Some b → a ≡ b
unsome h = cc

next_want : (p : WaitingC) (x : ContextC) (k : Kind) (l : Named) (s : State) → step (kept (wantC p x)) (of_kind k l)
    ≡ Some s → Next (wantC p x) (of_kind k l) s
next_want p x Name l s h = record { state = had_nameC p l x; is = unsome h; shows = λ rest. refl }
next_want p x Number l s h = record { state = hadC p (a_number l) x; is = unsome h; shows = λ rest. refl }
next_want p x LParen l s h = record { state = wantC emptyC (parenC p l x); is = unsome h; shows = λ rest. refl }
next_want p x _ l s h = cc

next_bits : (g : BitSign) (p : WaitingC) (a : Atom) (x : ContextC) (l : Named) (s : State) →
    step (kept (hadC p a x)) (of_kind (bit_kind g) l) ≡ Some s → Next (hadC p a x) (of_kind (bit_kind g) l) s
next_bits g p a x l s h = record {
  state = wantC (record {
    equal = p.equal;
    less = p.less;
    bits = Some (bitsC p a, g, l);
    shift = None;
    sum = None;
    product = None;
  }) x;
  is = ap (λ v. want (record {
    equal = kept_equal p.equal;
    less = kept_less p.less;
    bits = Some (bit_op g, v);
    shift = None;
    sum = None;
    product = None;
  }) (kept_context x)) (bits_is p a)
      ∙ unsome (sym (bit_step g l (kept_waiting p) (atom_tree a) (kept_context x)) ∙ h);
  shows = λ rest. ap (λ ts. show_context x (show_equal p.equal (show_less p.less ts)))
      (bits_shows p a (of_kind (bit_kind g) l ∷ rest));
}

next_shift : (g : ShiftSign) (p : WaitingC) (a : Atom) (x : ContextC) (l : Named) (s : State) →
    step (kept (hadC p a x)) (of_kind (shift_kind g) l) ≡ Some s → Next (hadC p a x) (of_kind (shift_kind g) l) s
next_shift g p a x l s h = record {
  state = wantC (record {
    equal = p.equal;
    less = p.less;
    bits = p.bits;
    shift = Some (shiftC p a, g, l);
    sum = None;
    product = None;
  }) x;
  is = ap (λ v. want (record {
    equal = kept_equal p.equal;
    less = kept_less p.less;
    bits = kept_bits p.bits;
    shift = Some (shift_op g, v);
    sum = None;
    product = None;
  }) (kept_context x)) (shift_is p a)
      ∙ unsome (sym (shift_step g l (kept_waiting p) (atom_tree a) (kept_context x)) ∙ h);
  shows = λ rest. ap (λ ts. show_context x (show_equal p.equal (show_less p.less (show_bits p.bits ts))))
      (shift_shows p a (of_kind (shift_kind g) l ∷ rest));
}

next_had : (p : WaitingC) (a : Atom) (x : ContextC) (k : Kind) (l : Named) (s : State) →
    step (kept (hadC p a x)) (of_kind k l) ≡ Some s → Next (hadC p a x) (of_kind k l) s
next_had p a x Star l s h = record {
  state = wantC (record {
    equal = p.equal;
    less = p.less;
    bits = p.bits;
    shift = p.shift;
    sum = p.sum;
    product = Some (productC p a, l);
  }) x;
  is = ap (λ v. want (record {
    equal = kept_equal p.equal;
    less = kept_less p.less;
    bits = kept_bits p.bits;
    shift = kept_shift p.shift;
    sum = kept_sum p.sum;
    product = Some v;
  }) (kept_context x)) (product_is p a) ∙ unsome h;
  shows = λ rest. ap (λ ts. show_context x (show_equal p.equal
      (show_less p.less (show_bits p.bits (show_shift p.shift (show_sum p.sum ts))))))
      (product_shows p a (of_kind Star l ∷ rest));
}
next_had p a x Plus l s h = record {
  state = wantC (record {
    equal = p.equal;
    less = p.less;
    bits = p.bits;
    shift = p.shift;
    sum = Some (added (sumC p a) l);
    product = None;
  }) x;
  is = ap (λ v. want (record {
    equal = kept_equal p.equal;
    less = kept_less p.less;
    bits = kept_bits p.bits;
    shift = kept_shift p.shift;
    sum = Some (Add, v);
    product = None;
  }) (kept_context x)) (sum_is p a) ∙ unsome h;
  shows = λ rest. ap (λ ts. show_context x (show_equal p.equal
      (show_less p.less (show_bits p.bits (show_shift p.shift ts))))) (sum_shows p a (of_kind Plus l ∷ rest));
}
next_had p a x Minus l s h = record {
  state = wantC (record {
    equal = p.equal;
    less = p.less;
    bits = p.bits;
    shift = p.shift;
    sum = Some (taken (sumC p a) l);
    product = None;
  }) x;
  is = ap (λ v. want (record {
    equal = kept_equal p.equal;
    less = kept_less p.less;
    bits = kept_bits p.bits;
    shift = kept_shift p.shift;
    sum = Some (Sub, v);
    product = None;
  }) (kept_context x)) (sum_is p a) ∙ unsome h;
  shows = λ rest. ap (λ ts. show_context x (show_equal p.equal
      (show_less p.less (show_bits p.bits (show_shift p.shift ts))))) (sum_shows p a (of_kind Minus l ∷ rest));
}
next_had p a x And l s h = next_bits and_sign p a x l s h
next_had p a x Or l s h = next_bits or_sign p a x l s h
next_had p a x Xor l s h = next_bits xor_sign p a x l s h
next_had p a x Shl l s h = next_shift up_sign p a x l s h
next_had p a x Shr l s h = next_shift down_sign p a x l s h
next_had p a x Less l s h = record {
  state = wantC (record {
    equal = p.equal;
    less = Some (lessC p a, l);
    bits = None;
    shift = None;
    sum = None;
    product = None;
  }) x;
  is = ap (λ v. want (record {
    equal = kept_equal p.equal;
    less = Some v;
    bits = None;
    shift = None;
    sum = None;
    product = None;
  }) (kept_context x)) (less_is p a) ∙ unsome h;
  shows = λ rest. ap (λ ts. show_context x (show_equal p.equal ts)) (less_shows p a (of_kind Less l ∷ rest));
}
next_had p a x EqEq l s h = record {
  state = wantC (record {
    equal = Some (closeC p a, l);
    less = None;
    bits = None;
    shift = None;
    sum = None;
    product = None;
  }) x;
  is = ap (λ v. want (record { equal = Some v; less = None; bits = None; shift = None; sum = None; product = None })
      (kept_context x)) (close_is p a) ∙ unsome h;
  shows = λ rest. ap (show_context x) (close_shows p a (of_kind EqEq l ∷ rest));
}
next_had p a (parenC q m x) RParen l s h = record {
  state = hadC q (brackets m (closeC p a) l) x;
  is = ap (λ v. had (kept_waiting q) v (kept_context x)) (close_is p a) ∙ unsome h;
  shows = λ rest. ap (λ ts. show_context x (show_waiting q (of_kind LParen m ∷ ts)))
      (close_shows p a (of_kind RParen l ∷ rest));
}
next_had p a (loop_testC w m ss b) RParen l s h = record {
  state = loop_braceC w m (closeC p a) l ss b;
  is = ap (λ v. loop_brace v (statements_tree ss none) (kept_block b)) (close_is p a) ∙ unsome h;
  shows = λ rest. ap (λ ts. show_block b (statements_then ss (of_kind While w ∷ of_kind LParen m ∷ ts)))
      (close_shows p a (of_kind RParen l ∷ rest));
}
next_had p a (choice_testC w m ss b) RParen l s h = record {
  state = choice_braceC w m (closeC p a) l ss b;
  is = ap (λ v. choice_brace v (statements_tree ss none) (kept_block b)) (close_is p a) ∙ unsome h;
  shows = λ rest. ap (λ ts. show_block b (statements_then ss (of_kind If w ∷ of_kind LParen m ∷ ts)))
      (close_shows p a (of_kind RParen l ∷ rest));
}
next_had p a (index_ofC q n m x) RBracket l s h = record {
  state = hadC q (an_indexed n m (closeC p a) l) x;
  is = ap (λ v. had (kept_waiting q) (indexed n v) (kept_context x)) (close_is p a) ∙ unsome h;
  shows = λ rest. ap (λ ts. show_context x (show_waiting q (of_kind Name n ∷ of_kind LBracket m ∷ ts)))
      (close_shows p a (of_kind RBracket l ∷ rest));
}
next_had p a (target_ofC n m ss b) RBracket l s h = record {
  state = assign_isC n (record { left = m; index = closeC p a; right = l }) ss b;
  is = ap (λ v. assign_is n (Some v) (statements_tree ss none) (kept_block b)) (close_is p a) ∙ unsome h;
  shows = λ rest. ap (λ ts. show_block b (statements_then ss (of_kind Name n ∷ of_kind LBracket m ∷ ts)))
      (close_shows p a (of_kind RBracket l ∷ rest));
}
next_had p a (value_ofC n o m ss b) Semi l s h = record {
  state = stmtsC (more ss (assignment n o m (closeC p a) l)) b;
  is = ap (λ v. stmts v (kept_block b)) (more_followed ss (assignment n o m (closeC p a) l))
      ∙ ap (λ v. stmts (follow (statements_tree ss none) (assigning n (index_tree o) v none)) (kept_block b))
      (close_is p a) ∙ unsome h;
  shows = λ rest. ap (λ ts. show_block b (statements_then ss (of_kind Name n ∷ index_then o (of_kind Assign m ∷ ts))))
      (close_shows p a (of_kind Semi l ∷ rest));
}
next_had p a _ _ l s h = cc

-- if no bracket follows, a name has no index, and the next lexeme is read right after the name
next_after_name : (p : WaitingC) (n : Named) (x : ContextC) (k : Kind) (l : Named) (s : State) → IsNotBracket k →
    step (kept (had_nameC p n x)) (of_kind k l) ≡ Some s → Next (had_nameC p n x) (of_kind k l) s
next_after_name p n x k l s other h =
    let r = next_had p (a_name n) x k l s (sym (bare_by k (kept_waiting p) n (kept_context x) other) ∙ h) in
    record { state = r.state; is = r.is; shows = r.shows }

next_name : (p : WaitingC) (n : Named) (x : ContextC) (k : Kind) (l : Named) (s : State) →
    step (kept (had_nameC p n x)) (of_kind k l) ≡ Some s → Next (had_nameC p n x) (of_kind k l) s
next_name p n x LBracket l s h = record {
  state = wantC emptyC (index_ofC p n l x);
  is = unsome h;
  shows = λ rest. refl;
}
next_name p n x _ l s h = next_after_name p n x _ l s tt h

next_stmts : (ss : Statements) (b : BlockC) (k : Kind) (l : Named) (s : State) → step (kept (stmtsC ss b)) (of_kind k l)
    ≡ Some s → Next (stmtsC ss b) (of_kind k l) s
next_stmts ss b Name l s h = record { state = target_isC l ss b; is = unsome h; shows = λ rest. refl }
next_stmts ss b While l s h = record { state = loop_openC l ss b; is = unsome h; shows = λ rest. refl }
next_stmts ss b If l s h = record { state = choice_openC l ss b; is = unsome h; shows = λ rest. refl }
next_stmts ss (in_loopC d before b) RBrace l s h = record {
  state = stmtsC (more before (looping d ss l)) b;
  is = ap (λ v. stmts v (kept_block b)) (more_followed before (looping d ss l)) ∙ unsome h;
  shows = λ rest. refl;
}
next_stmts ss (in_yesC d before b) RBrace l s h = record {
  state = may_elseC d ss l before b;
  is = unsome h;
  shows = λ rest. refl;
}
next_stmts ss (in_noC d first r w m before b) RBrace l s h =
    record {
      state = stmtsC (more before (choosing_else d first r w m ss l)) b;
      is = ap (λ v. stmts v (kept_block b)) (more_followed before (choosing_else d first r w m ss l)) ∙ unsome h;
      shows = λ rest. refl;
    }
next_stmts ss _ _ l s h = cc

next_decls : (ds : Declarations) (k : Kind) (l : Named) (s : State) → step (kept (declsC ds)) (of_kind k l) ≡ Some s →
    Next (declsC ds) (of_kind k l) s
next_decls ds Cell l s h = record { state = cell_nameC ds l; is = unsome h; shows = λ rest. refl }
next_decls ds Var l s h = record { state = var_nameC ds l; is = unsome h; shows = λ rest. refl }
next_decls ds Name l s h = record { state = target_isC l nothing (topC ds); is = unsome h; shows = λ rest. refl }
next_decls ds While l s h = record { state = loop_openC l nothing (topC ds); is = unsome h; shows = λ rest. refl }
next_decls ds If l s h = record { state = choice_openC l nothing (topC ds); is = unsome h; shows = λ rest. refl }
next_decls ds _ l s h = cc

-- if no `else` follows, an `if` has ended, and the next lexeme is read right after it
next_after_choice : (d : Head) (first : Statements) (r : Named) (ss : Statements) (b : BlockC) (k : Kind) (l : Named)
    (s : State) → IsNotElse k → step (kept (may_elseC d first r ss b)) (of_kind k l) ≡ Some s →
    Next (may_elseC d first r ss b) (of_kind k l) s
next_after_choice d first r ss b k l s other h =
    let whole = more ss (choosing d first r) in
    let moved : stmts_by k (of_kind k l) (statements_tree whole none) (kept_block b) ≡ Some s =
    ap (λ v. stmts_by k (of_kind k l) v (kept_block b)) (more_followed ss (choosing d first r))
    ∙ sym (settled_by k (of_kind k l) (equality_tree d.test) (statements_tree first none) (statements_tree ss none)
    (kept_block b) other) ∙ h in
    let n = next_stmts whole b k l s moved in
    record { state = n.state; is = n.is; shows = n.shows }

next_may_else : (d : Head) (first : Statements) (r : Named) (ss : Statements) (b : BlockC) (k : Kind) (l : Named)
    (s : State) → step (kept (may_elseC d first r ss b)) (of_kind k l) ≡ Some s →
    Next (may_elseC d first r ss b) (of_kind k l) s
next_may_else d first r ss b Else l s h = record {
  state = else_braceC d first r l ss b;
  is = unsome h;
  shows = λ rest. refl;
}
next_may_else d first r ss b _ l s h = next_after_choice d first r ss b _ l s tt h

next_k : (c : StateC) (k : Kind) (l : Named) (s : State) → step (kept c) (of_kind k l) ≡ Some s → Next c (of_kind k l) s
next_k (declsC ds) k l s h = next_decls ds k l s h
next_k (cell_nameC ds w) Name l s h = record { state = cell_isC ds w l; is = unsome h; shows = λ rest. refl }
next_k (cell_isC ds w n) Assign l s h = record {
  state = cell_numberC ds w n None l;
  is = unsome h;
  shows = λ rest. refl;
}
next_k (cell_isC ds w n) LBracket l s h = record { state = cell_lengthC ds w n l; is = unsome h; shows = λ rest. refl }
next_k (cell_lengthC ds w n m) Number l s h = record {
  state = cell_closeC ds w n m l;
  is = unsome h;
  shows = λ rest. refl;
}
next_k (cell_closeC ds w n m v) RBracket l s h = record {
  state =
      cell_sizedC ds w n (record { left = m; number = v; right = l });
  is = unsome h;
  shows = λ rest. refl;
}
next_k (cell_sizedC ds w n x) Assign l s h = record {
  state = cell_numberC ds w n (Some x) l;
  is = unsome h;
  shows = λ rest. refl;
}
next_k (cell_numberC ds w n o m) Number l s h = record {
  state = cell_endC ds w n o m l;
  is = unsome h;
  shows = λ rest. refl;
}
next_k (cell_endC ds w n o m v) Semi l s h = record {
  state = declsC (declared_then ds (a_cell w n o m v l));
  is = unsome h;
  shows = λ rest. refl;
}
next_k (var_nameC ds w) Name l s h = record { state = var_endC ds w l; is = unsome h; shows = λ rest. refl }
next_k (var_endC ds w n) Semi l s h = record {
  state = declsC (declared_then ds (a_var w n l));
  is = unsome h;
  shows = λ rest. refl;
}
next_k (stmtsC ss b) k l s h = next_stmts ss b k l s h
next_k (target_isC n ss b) Assign l s h = record {
  state = wantC emptyC (value_ofC n None l ss b);
  is = unsome h;
  shows = λ rest. refl;
}
next_k (target_isC n ss b) LBracket l s h = record {
  state = wantC emptyC (target_ofC n l ss b);
  is = unsome h;
  shows = λ rest. refl;
}
next_k (assign_isC n i ss b) Assign l s h = record {
  state = wantC emptyC (value_ofC n (Some i) l ss b);
  is = unsome h;
  shows = λ rest. refl;
}
next_k (loop_openC w ss b) LParen l s h = record {
  state = wantC emptyC (loop_testC w l ss b);
  is = unsome h;
  shows = λ rest. refl;
}
next_k (choice_openC w ss b) LParen l s h = record {
  state = wantC emptyC (choice_testC w l ss b);
  is = unsome h;
  shows = λ rest. refl;
}
next_k (wantC p x) k l s h = next_want p x k l s h
next_k (had_nameC p n x) k l s h = next_name p n x k l s h
next_k (hadC p a x) k l s h = next_had p a x k l s h
next_k (loop_braceC w m e r ss b) LBrace l s h = record {
  state = stmtsC nothing (in_loopC (record { word = w; left = m; test = e; right = r; brace = l }) ss b);
  is = unsome h;
  shows = λ rest. refl;
}
next_k (choice_braceC w m e r ss b) LBrace l s h = record {
  state = stmtsC nothing (in_yesC (record { word = w; left = m; test = e; right = r; brace = l }) ss b);
  is = unsome h;
  shows = λ rest. refl;
}
next_k (may_elseC d first r ss b) k l s h = next_may_else d first r ss b k l s h
next_k (else_braceC d first r w ss b) LBrace l s h = record {
  state = stmtsC nothing (in_noC d first r w l ss b);
  is = unsome h;
  shows = λ rest. refl;
}
next_k _ _ l s h = cc

pub next : (c : StateC) (t : Lexeme) (s : State) → step (kept c) t ≡ Some s → Next c t s
next c t s h = next_k c t.kind (record { text = t.text; at = t.at }) s h
