-- Each state that the machine reaches has a derivation of what was read, and can be completed.
use Rattle.std.proofs.Common.{◌≡◌, ℕ, List, [], ◌∷◌, ◌++◌, Option, Some, None, refl, sym, ap, subst, ◌∙◌, append_assoc}
use Rattle.std.proofs.Common.{append-nil, ◌⊎◌, inl, inr, ⊎_elim}
use Rattle.std.specs.Prelude.{option_and_then, codes}
use Rattle.ft_lexer.specs.declared.kind.Kind.{Kind}
use Rattle.ft_lexer.specs.declared.kind.Kind.TheVariants.{Name, Number, Assign, Semi, LParen, RParen, LBrace, RBrace}
use Rattle.ft_lexer.specs.declared.kind.Kind.TheVariants.{LBracket, RBracket}
use Rattle.ft_lexer.specs.Scan.{Lexeme}
use Rattle.ft_syntax.specs.Plain.{literal, indexed, none, assigning, loop, choose, follow}
use Rattle.ft_syntax.specs.Syntax.{SyntaxTree}
use Rattle.ft_syntax.specs.Machine.{NamedExpression, NamedStatements, Waiting, Context, State, Block, top, in_loop}
use Rattle.ft_syntax.specs.Machine.{in_yes, in_no, paren, index_of, target_of, value_of, loop_test, choice_test, decls}
use Rattle.ft_syntax.specs.Machine.{cell_name, cell_is, cell_length, cell_close, cell_sized, cell_number, cell_end}
use Rattle.ft_syntax.specs.Machine.{var_name, var_end, stmts, target_is, assign_is, loop_open, choice_open, want}
use Rattle.ft_syntax.specs.Machine.{had_name, had, loop_brace, choice_brace, may_else, else_brace, step, final, tree_at}
use Rattle.ft_syntax.specs.Machine.{close, empty}
use Rattle.ft_syntax.proofs.Followed.{more_followed}
use Rattle.ft_syntax.proofs.Complete.{accepts, NoElse, settled, complete}
use Rattle.ft_syntax.specs.Grammar.{Statements, choosing, nothing, more, statements_then, statements_tree, Declarations}
use Rattle.ft_syntax.specs.Grammar.{undeclared, declarations_then, declarations_tree, Derives, IsViable}
use Rattle.ft_syntax.proofs.Derived.{topC, StateC, declsC, stmtsC, may_elseC, kept, show}
use Rattle.ft_syntax.proofs.NextState.{unsome, next}

-- the state after these tokens, if the machine gets through them
abbrev pub steps : State → List Lexeme → Option State
steps s [] = Some s
steps s (t ∷ ts) = option_and_then (λ s'. steps s' ts) (step s t)

pub record Reached (c : StateC) (ts : List Lexeme) (s : State) : Type 0 where
  pub state : StateC
  pub is : kept state ≡ s
  pub shows : (rest : List Lexeme) → show c (ts ++ rest) ≡ show state rest

pub option_case : {A : Type 0} (o : Option A) → (o ≡ None) ⊎ ((a : A) × (o ≡ Some a))
option_case None = inl refl
option_case (Some a) = inr (a, refl)

reached : (c : StateC) (ts : List Lexeme) (s : State) → steps (kept c) ts ≡ Some s → Reached c ts s
reached c [] s h = record { state = c; is = unsome h; shows = λ rest. refl }
reached c (t ∷ ts) s h = ⊎_elim
    (λ none. let e = ap (option_and_then (λ s'. steps s' ts)) none in absurd (cc))
    (λ (s1, some).
    let n = next c t s1 some in
    let go : steps s1 ts ≡ Some s = sym (ap (option_and_then (λ s'. steps s' ts)) some) ∙ h in
    let r = reached n.state ts s (ap (λ v. steps v ts) n.is ∙ go) in
    record { state = r.state; is = r.is; shows = λ rest. n.shows (ts ++ rest) ∙ r.shows rest })
    (option_case (step (kept c) t))

-- a state where the program may end has a derivation of what was read
ended_block : (ds : Declarations) (ss : Statements) (p : SyntaxTree) →
    tree_at (statements_tree ss none) (top (declarations_tree ds)) ≡ Some p →
    Derives (declarations_then ds (statements_then ss [])) p
ended_block ds ss p h = (ds, ss, refl, cc)

derived : (c : StateC) (p : SyntaxTree) → final (kept c) ≡ Some p → Derives (show c []) p
derived (declsC ds) p h = (ds, nothing, refl, cc)
derived (stmtsC ss (topC ds)) p h = ended_block ds ss p h
derived (may_elseC d first r ss (topC ds)) p h = ended_block ds (more ss (choosing d first r)) p
    (ap (λ v. tree_at v (top (declarations_tree ds))) (more_followed ss (choosing d first r)) ∙ h)
derived _ p h = absurd cc

-- tokens that the machine accepts from this state, and the program that it then reads
pub record Completes (s : State) : Type 0 where
  pub tokens : List Lexeme
  pub program : SyntaxTree
  pub accepted : accepts s tokens ≡ Some program
  pub no_else : NoElse tokens

-- a text for the required lexeme: `x` for a name, `0` for a number or an expression
abbrev wanted_text : Kind → List ℕ
wanted_text Name = codes "x"
wanted_text Number = codes "0"
wanted_text Assign = codes "="
wanted_text Semi = codes ";"
wanted_text LParen = codes "("
wanted_text RParen = codes ")"
wanted_text LBrace = codes "{"
wanted_text RBrace = codes "}"
wanted_text LBracket = codes "["
wanted_text RBracket = codes "]"
wanted_text _ = []

abbrev wanted : Kind → Lexeme
wanted k = record { kind = k; text = wanted_text k; at = 0 }

complete_block : (b : Block) (ss : NamedStatements) → Completes (stmts ss b)
complete_block (top ds) ss = record {
  tokens = [];
  program = record { decls = ds; body = ss };
  accepted = refl;
  no_else = tt;
}
complete_block (in_loop e before b) ss =
    let r = complete_block b (follow before (loop e ss none)) in
    record { tokens = wanted RBrace ∷ r.tokens; program = r.program; accepted = r.accepted; no_else = tt }
complete_block (in_yes e before b) ss =
    let r = complete_block b (follow before (choose e ss none none)) in
    record {
      tokens = wanted RBrace ∷ r.tokens;
      program = r.program;
      accepted = settled e ss before b r.tokens r.no_else
          ∙ r.accepted;
      no_else = tt;
    }
complete_block (in_no e first before b) ss =
    let r = complete_block b (follow before (choose e first ss none)) in
    record { tokens = wanted RBrace ∷ r.tokens; program = r.program; accepted = r.accepted; no_else = tt }

complete_context : (x : Context) (p : Waiting) (a : NamedExpression) → Completes (had p a x)
complete_context (paren q x) p a =
    let r = complete_context x q (close p a) in
    record { tokens = wanted RParen ∷ r.tokens; program = r.program; accepted = r.accepted; no_else = tt }
complete_context (index_of q n x) p a =
    let r = complete_context x q (indexed n (close p a)) in
    record { tokens = wanted RBracket ∷ r.tokens; program = r.program; accepted = r.accepted; no_else = tt }
complete_context (target_of n ss b) p a =
    let r = complete_block b (follow ss (assigning n (Some (close p a)) (literal 0) none)) in
    record {
      tokens = wanted RBracket ∷ wanted Assign ∷ wanted Number ∷ wanted Semi ∷ r.tokens;
      program = r.program;
      accepted = r.accepted;
      no_else = tt;
    }
complete_context (value_of n o ss b) p a =
    let r = complete_block b (follow ss (assigning n o (close p a) none)) in
    record { tokens = wanted Semi ∷ r.tokens; program = r.program; accepted = r.accepted; no_else = tt }
complete_context (loop_test ss b) p a =
    let r = complete_block (in_loop (close p a) ss b) none in
    record {
      tokens = wanted RParen ∷ wanted LBrace ∷ r.tokens;
      program = r.program;
      accepted = r.accepted;
      no_else = tt;
    }
complete_context (choice_test ss b) p a =
    let r = complete_block (in_yes (close p a) ss b) none in
    record {
      tokens = wanted RParen ∷ wanted LBrace ∷ r.tokens;
      program = r.program;
      accepted = r.accepted;
      no_else = tt;
    }

complete_want : (x : Context) (p : Waiting) → Completes (want p x)
complete_want x p =
    let r = complete_context x p (literal 0) in
    record { tokens = wanted Number ∷ r.tokens; program = r.program; accepted = r.accepted; no_else = tt }

completed : (s : State) → Completes s
completed (decls ds) = record {
  tokens = [];
  program = record { decls = ds; body = none };
  accepted = refl;
  no_else = tt;
}
completed (cell_name ds) = record {
  tokens = wanted Name ∷ wanted Assign ∷ wanted Number ∷ wanted Semi ∷ [];
  program = _;
  accepted = refl;
  no_else = tt;
}
completed (cell_is ds n) = record {
  tokens = wanted Assign ∷ wanted Number ∷ wanted Semi ∷ [];
  program = _;
  accepted = refl;
  no_else = tt;
}
completed (cell_length ds n) = record {
  tokens = wanted Number ∷ wanted RBracket ∷ wanted Assign ∷ wanted Number ∷
      wanted Semi ∷ [];
  program = _;
  accepted = refl;
  no_else = tt;
}
completed (cell_close ds n l) = record {
  tokens = wanted RBracket ∷ wanted Assign ∷ wanted Number ∷ wanted Semi ∷ [];
  program = _;
  accepted = refl;
  no_else = tt;
}
completed (cell_sized ds n o) = record {
  tokens = wanted Assign ∷ wanted Number ∷ wanted Semi ∷ [];
  program = _;
  accepted = refl;
  no_else = tt;
}
completed (cell_number ds n o) = record {
  tokens = wanted Number ∷ wanted Semi ∷ [];
  program = _;
  accepted = refl;
  no_else = tt;
}
completed (cell_end ds n o v) = record { tokens = wanted Semi ∷ []; program = _; accepted = refl; no_else = tt }
completed (var_name ds) = record { tokens = wanted Name ∷ wanted Semi ∷ []; program = _; accepted = refl; no_else = tt }
completed (var_end ds n) = record { tokens = wanted Semi ∷ []; program = _; accepted = refl; no_else = tt }
completed (stmts ss b) = complete_block b ss
completed (target_is n ss b) =
    let r = complete_want (value_of n None ss b) empty in
    record { tokens = wanted Assign ∷ r.tokens; program = r.program; accepted = r.accepted; no_else = tt }
completed (assign_is n o ss b) =
    let r = complete_want (value_of n o ss b) empty in
    record { tokens = wanted Assign ∷ r.tokens; program = r.program; accepted = r.accepted; no_else = tt }
completed (loop_open ss b) =
    let r = complete_want (loop_test ss b) empty in
    record { tokens = wanted LParen ∷ r.tokens; program = r.program; accepted = r.accepted; no_else = tt }
completed (choice_open ss b) =
    let r = complete_want (choice_test ss b) empty in
    record { tokens = wanted LParen ∷ r.tokens; program = r.program; accepted = r.accepted; no_else = tt }
completed (want p x) = complete_want x p
completed (had_name p n x) =
    let r = complete_context x p (indexed n (literal 0)) in
    record {
      tokens = wanted LBracket ∷ wanted Number ∷ wanted RBracket ∷ r.tokens;
      program = r.program;
      accepted = r.accepted;
      no_else = tt;
    }
completed (had p a x) = complete_context x p a
completed (loop_brace e ss b) =
    let r = complete_block (in_loop e ss b) none in
    record { tokens = wanted LBrace ∷ r.tokens; program = r.program; accepted = r.accepted; no_else = tt }
completed (choice_brace e ss b) =
    let r = complete_block (in_yes e ss b) none in
    record { tokens = wanted LBrace ∷ r.tokens; program = r.program; accepted = r.accepted; no_else = tt }
completed (may_else e first ss b) =
    let r = complete_block b (follow ss (choose e first none none)) in
    record {
      tokens = r.tokens;
      program = r.program;
      accepted = settled e first ss b r.tokens r.no_else ∙ r.accepted;
      no_else = r.no_else;
    }
completed (else_brace e first ss b) =
    let r = complete_block (in_no e first ss b) none in
    record { tokens = wanted LBrace ∷ r.tokens; program = r.program; accepted = r.accepted; no_else = tt }

-- the machine gets through a list that it accepts, to a state where the program may end
pub accepted_steps : (s : State) (ts : List Lexeme) (p : SyntaxTree) → accepts s ts ≡ Some p → (s' : State)
    × (steps s ts ≡ Some s') × (final s' ≡ Some p)
accepted_steps s [] p h = (s, refl, h)
accepted_steps s (t ∷ ts) p h = ⊎_elim
    (λ none. let e = ap (option_and_then (λ s'. accepts s' ts)) none in absurd (cc))
    (λ (s1, some).
    let go : accepts s1 ts ≡ Some p = sym (ap (option_and_then (λ s'. accepts s' ts)) some) ∙ h in
    let r = accepted_steps s1 ts p go in
    (r.0, ap (option_and_then (λ s'. steps s' ts)) some ∙ r.1, r.2))
    (option_case (step s t))

-- a list that is accepted derives the tree that is read
pub sound : (ts : List Lexeme) (p : SyntaxTree) → accepts (decls []) ts ≡ Some p → Derives ts p
sound ts p h =
    let r = accepted_steps (decls []) ts p h in
    let q = reached (declsC undeclared) ts r.0 r.1 in
    let shows = q.shows [] in
    let whole : ts ≡ show q.state [] = sym (append-nil ts) ∙ shows in
    subst (λ v. Derives v p) (sym whole) (derived q.state p (ap final q.is ∙ r.2))

steps_then : (s s' : State) (ts us : List Lexeme) → steps s ts ≡ Some s' → accepts s (ts ++ us) ≡ accepts s' us
steps_then s s' [] us h = ap (λ v. accepts v us) (unsome h)
steps_then s s' (t ∷ ts) us h = ⊎_elim
    (λ none. let e = ap (option_and_then (λ s'. steps s' ts)) none in absurd (cc))
    (λ (s1, some).
    let go : steps s1 ts ≡ Some s' = sym (ap (option_and_then (λ s'. steps s' ts)) some) ∙ h in
    ap (option_and_then (λ s'. accepts s' (ts ++ us))) some ∙ steps_then s1 s' ts us go)
    (option_case (step s t))

-- a list that the machine gets through is viable
pub viable : (ts : List Lexeme) (s : State) → steps (decls []) ts ≡ Some s → IsViable ts
viable ts s h =
    let r = completed s in
    (r.tokens, r.program, sound (ts ++ r.tokens) r.program (steps_then (decls []) s ts r.tokens h ∙ r.accepted))

stuck_then : (s s' : State) (ts us : List Lexeme) (t : Lexeme) → steps s ts ≡ Some s' → step s' t ≡ None →
    accepts s ((ts ++ t ∷ []) ++ us) ≡ None
stuck_then s s' ts us t h stuck =
    ap (accepts s) (append_assoc ts (t ∷ []) us) ∙ steps_then s s' ts (t ∷ us) h
    ∙ ap (option_and_then (λ s'. accepts s' us)) stuck

-- if the machine stops, the list is not viable
pub not_viable : (ts : List Lexeme) (s : State) (t : Lexeme) → steps (decls []) ts ≡ Some s → step s t ≡ None →
    IsViable (ts ++ t ∷ []) → ⊥
not_viable ts s t h stuck (us, p, d) =
    let a = complete ((ts ++ t ∷ []) ++ us) p d in
    let b = stuck_then (decls []) s ts us t h stuck in
    cc

-- a list derives at most one tree
pub one_tree : (ts : List Lexeme) (p q : SyntaxTree) → Derives ts p → Derives ts q → p ≡ q
one_tree ts p q d e =
    let a = complete ts p d in
    let b = complete ts q e in
    cc

-- the machine gets through a list if it accepts a longer list that begins with it
pub gone_through : (s : State) (ts us : List Lexeme) (p : SyntaxTree) → accepts s (ts ++ us) ≡ Some p → (s' : State)
    × (steps s ts ≡ Some s')
gone_through s [] us p h = (s, refl)
gone_through s (t ∷ ts) us p h = ⊎_elim
    (λ none. let e = ap (option_and_then (λ s'. accepts s' (ts ++ us))) none in absurd (cc))
    (λ (s1, some).
    let go : accepts s1 (ts ++ us) ≡ Some p = sym (ap (option_and_then (λ s'. accepts s' (ts ++ us))) some) ∙ h in
    let r = gone_through s1 ts us p go in
    (r.0, ap (option_and_then (λ s'. steps s' ts)) some ∙ r.1))
    (option_case (step s t))

pub viable_steps : (ts : List Lexeme) → IsViable ts → (s : State) × (steps (decls []) ts ≡ Some s)
viable_steps ts (us, p, d) = gone_through (decls []) ts us p (complete (ts ++ us) p d)

pub steps_append : (s s' : State) (ts us : List Lexeme) → steps s ts ≡ Some s' → steps s (ts ++ us) ≡ steps s' us
steps_append s s' [] us h = ap (λ v. steps v us) (unsome h)
steps_append s s' (t ∷ ts) us h = ⊎_elim
    (λ none. let e = ap (option_and_then (λ s'. steps s' ts)) none in absurd (cc))
    (λ (s1, some).
    let go : steps s1 ts ≡ Some s' = sym (ap (option_and_then (λ s'. steps s' ts)) some) ∙ h in
    ap (option_and_then (λ s'. steps s' (ts ++ us))) some ∙ steps_append s1 s' ts us go)
    (option_case (step s t))
