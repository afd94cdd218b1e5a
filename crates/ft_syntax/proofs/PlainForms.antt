-- The plain forms of expressions and statements, level by level, and how lists of statements grow and shrink.
use Rattle.std.proofs.Common.{◌≡◌, ℕ, suc, ◌+◌, ◌<◌, List, [], ◌∷◌, ◌++◌, length, take, drop, get_or, refl, sym, ap}
use Rattle.std.proofs.Common.{◌∙◌, Vec, Global, drop-cons, add-one}
use Rattle.std.proofs.Math.Seq.{take-suc}
use mathlib.Core.Former.{Count}
use Rattle.ft_syntax.specs.declared.expr.Expr.{Expr}
use Rattle.ft_syntax.specs.declared.stmt.Stmt.{Stmt, Assign, AssignAt, While, If, While', If', Row_of-Stmt, end_of-Stmt}
use Rattle.ft_syntax.specs.declared.stmt.Stmt.{more_of-Stmt, items-the_row-Stmt, items_hidden-the_row-Stmt-0}
use Rattle.ft_syntax.specs.Plain.{StatementList, none, assign, assign_at, loop, choose, follow, plain_expression}
use Rattle.ft_syntax.specs.Plain.{plain_statement, plain_row, plain_list}

-- `follow` is associative
pub follow_follow : {M : Type 0} → (a b c : StatementList M) → follow (follow a b) c ≡ follow a (follow b c)
follow_follow none b c = refl
follow_follow (assign to e rest) b c = ap (assign to e) (follow_follow rest b c)
follow_follow (assign_at to i e rest) b c = ap (assign_at to i e) (follow_follow rest b c)
follow_follow (loop e body rest) b c = ap (loop e body) (follow_follow rest b c)
follow_follow (choose e if_so if_not rest) b c = ap (choose e if_so if_not) (follow_follow rest b c)

-- the plain form of a body is that of the list of its statements
row_list : {N M : Type 0} → (f : N → M) (n : _) (row : Row_of-Stmt N n) → plain_row f row
    ≡ plain_list f (items-the_row-Stmt N n row)
unfolding plain_row plain_list
row_list f n end_of-Stmt = refl
row_list f n (more_of-Stmt s rest) = ap (plain_statement f s) (row_list f _ rest)

-- the body of a loop or the first side of a choice, as a row; `other_row_of` gives the second side of a choice
abbrev row_of : {N : Type 0} → Stmt N → (n : Count) × Row_of-Stmt N n
row_of (Assign to e) = (_, end_of-Stmt)
row_of (AssignAt to i e) = (_, end_of-Stmt)
row_of (While' e shape body) = (_, body)
row_of (If' e shape if_so shape2 if_not) = (_, if_so)

abbrev other_row_of : {N : Type 0} → Stmt N → (n : Count) × Row_of-Stmt N n
other_row_of (Assign to e) = (_, end_of-Stmt)
other_row_of (AssignAt to i e) = (_, end_of-Stmt)
other_row_of (While' e shape body) = (_, body)
other_row_of (If' e shape if_so shape2 if_not) = (_, if_not)

-- the plain form of an assignment is made from those of its name and its expression
pub assign_form : {N M : Type 0} → (f : N → M) (to : N) (e : Expr N) (after : StatementList M) →
    plain_statement f (Assign to e) after ≡ assign (f to) (plain_expression f e) after
unfolding plain_statement
assign_form f to e after = refl

-- likewise for an assignment to a name with an index
pub assign_at_form : {N M : Type 0} → (f : N → M) (to : N) (i e : Expr N) (after : StatementList M) →
    plain_statement f (AssignAt to i e) after ≡ assign_at (f to) (plain_expression f i) (plain_expression f e) after
unfolding plain_statement
assign_at_form f to i e after = refl

-- the plain form of a loop is made from those of its test and its body
pub while_form : {N M : Type 0} → (f : N → M) (e : Expr N) (body : Vec (Stmt N) Global) (after : StatementList M) →
    plain_statement f (While e body) after ≡ loop (plain_expression f e) (plain_list f body.items) after
unfolding plain_statement
while_form {N} {M} f e body after =
    let r = row_of (While e body) in
    ap (λ b. loop (plain_expression f e) b after) (row_list f r.0 r.1
    ∙ ap (plain_list f) (items_hidden-the_row-Stmt-0 N body))

-- the plain form of a choice is made from those of its test and its sides
pub if_form : {N M : Type 0} → (f : N → M) (e : Expr N) (if_so if_not : Vec (Stmt N) Global) (after : StatementList M) →
    plain_statement f (If e if_so if_not) after ≡ choose (plain_expression f e) (plain_list f if_so.items)
    (plain_list f if_not.items) after
unfolding plain_statement
if_form {N} {M} f e if_so if_not after =
    let r = row_of (If e if_so if_not) in
    let q = other_row_of (If e if_so if_not) in
    ap (λ x. choose (plain_expression f e) x (plain_row f q.1) after) (row_list f r.0 r.1
    ∙ ap (plain_list f) (items_hidden-the_row-Stmt-0 N if_so))
    ∙ ap (λ x. choose (plain_expression f e) (plain_list f if_so.items) x after) (row_list f q.0 q.1
    ∙ ap (plain_list f) (items_hidden-the_row-Stmt-0 N if_not))

-- the plain form of an empty list is empty
pub list_empty : {N M : Type 0} → (f : N → M) → plain_list f [] ≡ none
unfolding plain_list
list_empty f = refl

-- the plain form of a list is that of the first statement, followed by that of the rest
pub list_first : {N M : Type 0} → (f : N → M) (s : Stmt N) (ss : List (Stmt N)) → plain_list f (s ∷ ss)
    ≡ plain_statement f s (plain_list f ss)
unfolding plain_list
list_first f s ss = refl

-- a statement in front of others is the statement by itself, followed by them
pub statement_first : {N M : Type 0} → (f : N → M) (s : Stmt N) (after : StatementList M) → plain_statement f s after
    ≡ follow (plain_statement f s none) after
unfolding plain_statement
statement_first f (Assign to e) after = refl
statement_first f (AssignAt to i e) after = refl
statement_first f (While' e shape body) after = refl
statement_first f (If' e shape if_so shape2 if_not) after = refl

-- the plain form of a list with a last statement is that of the others, followed by that of the last statement
pub list_push : {N M : Type 0} → (f : N → M) (ss : List (Stmt N)) (s : Stmt N) → plain_list f (ss ++ s ∷ [])
    ≡ follow (plain_list f ss) (plain_statement f s none)
list_push f [] s = list_first f s [] ∙ ap (plain_statement f s) (list_empty f)
    ∙ ap (λ v. follow v (plain_statement f s none)) (sym (list_empty f))
list_push f (x ∷ ss) s =
    list_first f x (ss ++ s ∷ [])
    ∙ ap (plain_statement f x) (list_push f ss s)
    ∙ statement_first f x (follow (plain_list f ss) (plain_statement f s none))
    ∙ sym (follow_follow (plain_statement f x none) (plain_list f ss) (plain_statement f s none))
    ∙ ap (λ v. follow v (plain_statement f s none)) (sym (statement_first f x (plain_list f ss))
    ∙ sym (list_first f x ss))

-- the statements from i on are statement i and those after it
pub list_drop : {N M : Type 0} → (f : N → M) (ss : List (Stmt N)) (i : ℕ) (d : Stmt N) → i < length ss →
    plain_list f (drop i ss) ≡ plain_statement f (get_or ss i d) (plain_list f (drop (i + 1) ss))
list_drop f ss i d h = rw add-one (ap (plain_list f) (drop-cons ss i d h)
    ∙ list_first f (get_or ss i d) (drop (suc i) ss))

-- the first i + 1 statements are the first i and statement i
pub list_take : {N M : Type 0} → (f : N → M) (ss : List (Stmt N)) (i : ℕ) (d : Stmt N) → i < length ss →
    plain_list f (take (i + 1) ss) ≡ follow (plain_list f (take i ss)) (plain_statement f (get_or ss i d) none)
list_take f ss i d h = rw add-one (ap (plain_list f) (take-suc ss i d h) ∙ list_push f (take i ss) (get_or ss i d))

-- likewise for a statement that is known to be a loop, with its body as a list
pub matched_while : {N M : Type 0} → (f : N → M) (s : Stmt N) (e : Expr N) (body : Vec (Stmt N) Global)
    (xs : List (Stmt N)) (after : StatementList M) → s ≡ While e body → xs ≡ body.items → plain_statement f s after
    ≡ loop (plain_expression f e) (plain_list f xs) after
matched_while f s e body xs after is items =
    ap (λ x. plain_statement f x after) is ∙ while_form f e body after
    ∙ ap (λ l. loop (plain_expression f e) (plain_list f l) after) (sym items)

-- likewise for a statement that is known to be a choice, with its sides as lists
pub matched_if : {N M : Type 0} → (f : N → M) (s : Stmt N) (e : Expr N) (if_so if_not : Vec (Stmt N) Global)
    (xs ys : List (Stmt N)) (after : StatementList M) → s ≡ If e if_so if_not → xs ≡ if_so.items → ys ≡ if_not.items →
    plain_statement f s after ≡ choose (plain_expression f e) (plain_list f xs) (plain_list f ys) after
matched_if f s e if_so if_not xs ys after is items others =
    ap (λ x. plain_statement f x after) is ∙ if_form f e if_so if_not after
    ∙ ap (λ l. choose (plain_expression f e) (plain_list f l) (plain_list f if_not.items) after) (sym items)
    ∙ ap (λ l. choose (plain_expression f e) (plain_list f xs) (plain_list f l) after) (sym others)
