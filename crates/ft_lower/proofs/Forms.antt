-- The steps and blocks of statements in sequence, and of the statements of the code.
use Rattle.std.proofs.Common.{◌≡◌, ℕ, zero, suc, ◌+◌, ◌<◌, ◌≤◌, List, [], ◌∷◌, ◌++◌, max, length, drop, get_or, sym, ap}
use Rattle.std.proofs.Common.{◌∙◌, arith, append_assoc}
use Rattle.std.proofs.lemmas.List.{append-nil, drop_all}
use Rattle.ft_syntax.specs.Plain.{Expression, StatementList, none, assign, assign_at, loop, choose, follow}
use Rattle.ft_syntax.specs.Plain.{plain_statement, plain_list}
use Rattle.ft_syntax.specs.declared.stmt.Stmt.{Stmt}
use Rattle.ft_syntax.proofs.PlainForms.{assign_form, assign_at_form, while_form, if_form, statement_first, list_empty}
use Rattle.ft_syntax.proofs.PlainForms.{list_first, list_drop}
use Rattle.ft_scope.specs.declared.slot.Slot.{Slot}
use Rattle.ft_scope.specs.Size.{same_slot, most_need}
use Rattle.ft_scope.proofs.Measures.{need_follow}
use Rattle.ft_lower.specs.declared.step3.Step3.{Step3}
use Rattle.ft_lower.specs.declared.step3.Step3.TheVariants.{Exit, Go}
use Rattle.ft_lower.specs.Lowered.{block_count, body_counts, expression_steps, write, statement_steps}

pub ruleset forms = (assign_form, assign_at_form, while_form, if_form)

-- no statement is left after the last
pub none_left : (xs : List (Stmt Slot)) (i : ℕ) → length xs ≤ i → plain_list same_slot (drop i xs) ≡ none
none_left xs i h = ap (plain_list same_slot) (drop_all i xs h) ∙ list_empty same_slot

-- statements in sequence begin as many blocks as both parts together
pub count_follow : (a b : StatementList Slot) → block_count (follow a b) ≡ block_count a + block_count b
count_follow none b = omega arith
count_follow (assign to e rest) b = count_follow rest b
count_follow (assign_at to i e rest) b = count_follow rest b
count_follow (loop e body rest) b = omega (arith, count_follow rest b)
count_follow (choose e if_so if_not rest) b = omega (arith, count_follow rest b)

-- the second of two lists of statements pushes its counts onto the stack first
pub counts_follow : (a b : StatementList Slot) → body_counts (follow a b) ≡ body_counts b ++ body_counts a
counts_follow none b = sym (append-nil (body_counts b))
counts_follow (assign to e rest) b = counts_follow rest b
counts_follow (assign_at to i e rest) b = counts_follow rest b
counts_follow (loop e body rest) b =
    let own = body_counts body ++ block_count body ∷ [] in
    ap (λ z. z ++ own) (counts_follow rest b) ∙ append_assoc (body_counts b) (body_counts rest) own
counts_follow (choose e x y rest) b =
    let own = body_counts y ++ (body_counts x ++ block_count y ∷ block_count x ∷ []) in
    ap (λ z. z ++ own) (counts_follow rest b) ∙ append_assoc (body_counts b) (body_counts rest) own

-- the last statements of a list begin at most as many blocks as the list
pub count_drop : (xs : List (Stmt Slot)) (i : ℕ) →
    block_count (plain_list same_slot (drop i xs)) ≤ block_count (plain_list same_slot xs)
count_drop xs zero = omega arith
count_drop [] (suc i) = omega arith
count_drop (x ∷ xs) (suc i) =
    let all = plain_list same_slot xs in
    let is = ap block_count (list_first same_slot x xs ∙ statement_first same_slot x all)
    ∙ count_follow (plain_statement same_slot x none) all in
    omega (arith, count_drop xs i, is)

-- the steps of statements in sequence are those of the first part and then those of the second
pub steps_follow : (n b c : ℕ) (x y : StatementList Slot) → c ≡ b + block_count x → statement_steps n b (follow x y)
    ≡ statement_steps n b x ++ statement_steps n c y
steps_follow n b c none y h = let k : b ≡ c = omega arith in ap (λ z. statement_steps n z y) k
steps_follow n b c (assign to e rest) y h =
    let ce = expression_steps (n + 1) e in
    ap (λ z. ce ++ (write n to ∷ z)) (steps_follow n b c rest y h)
    ∙ sym (append_assoc ce (write n to ∷ statement_steps n b rest) (statement_steps n c y))
steps_follow n b c (assign_at to i e rest) y h =
    let ci = expression_steps (n + 1) i in
    let ce = expression_steps (n + 2) e in
    ap (λ z. ci ++ (ce ++ (write n to ∷ z))) (steps_follow n b c rest y h) ∙ simp append_assoc
steps_follow n b c (loop e body rest) y h =
    let ce = expression_steps (n + 1) e in
    let out = b + 2 + block_count body in
    let cb = statement_steps n (b + 1) body in
    let go = Go n (b + 1) in
    ap (λ z. go ∷ (ce ++ (Exit (n + 1) n out ∷ (cb ++ (go ∷ z))))) (steps_follow n out c rest y (omega arith))
    ∙ simp append_assoc
steps_follow n b c (choose e if_so if_not rest) y h =
    let ce = expression_steps (n + 1) e in
    let other = b + 1 + block_count if_so in
    let out = b + 2 + block_count if_so + block_count if_not in
    let ca = statement_steps n b if_so in
    let cb = statement_steps n other if_not in
    ap (λ z. ce ++ (Exit (n + 1) n other ∷ (ca ++ (Go n out ∷ (cb ++ (Go n out ∷ z))))))
    (steps_follow n out c rest y (omega arith)) ∙ simp append_assoc

-- the statements that are left are the next one and those after it
module _ (xs : List (Stmt Slot)) (i : ℕ) (s : Stmt Slot) (lt : i < length xs) (is : s ≡ get_or xs i s) where
  left : plain_list same_slot (drop i xs) ≡ follow (plain_statement same_slot s none)
      (plain_list same_slot (drop (i + 1) xs))
  left =
      list_drop same_slot xs i s lt
      ∙ ap (λ z. plain_statement same_slot z (plain_list same_slot (drop (i + 1) xs))) (sym is)
      ∙ statement_first same_slot s (plain_list same_slot (drop (i + 1) xs))

  pub count_left : block_count (plain_list same_slot (drop i xs))
      ≡ block_count (plain_statement same_slot s none) + block_count (plain_list same_slot (drop (i + 1) xs))
  count_left = ap block_count left ∙ count_follow (plain_statement same_slot s none)
      (plain_list same_slot (drop (i + 1) xs))

  pub counts_left : body_counts (plain_list same_slot (drop i xs))
      ≡ body_counts (plain_list same_slot (drop (i + 1) xs)) ++ body_counts (plain_statement same_slot s none)
  counts_left = ap body_counts left ∙ counts_follow (plain_statement same_slot s none)
      (plain_list same_slot (drop (i + 1) xs))

  pub need_left : most_need (plain_list same_slot (drop i xs))
      ≡ max (most_need (plain_statement same_slot s none)) (most_need (plain_list same_slot (drop (i + 1) xs)))
  need_left = ap most_need left ∙ need_follow (plain_statement same_slot s none)
      (plain_list same_slot (drop (i + 1) xs))

  pub steps_left : (n b c : ℕ) → c ≡ b + block_count (plain_statement same_slot s none) →
      statement_steps n b (plain_list same_slot (drop i xs)) ≡ statement_steps n b (plain_statement same_slot s none)
      ++ statement_steps n c (plain_list same_slot (drop (i + 1) xs))
  steps_left n b c e = ap (statement_steps n b) left
      ∙ steps_follow n b c (plain_statement same_slot s none) (plain_list same_slot (drop (i + 1) xs)) e

-- the steps that are appended for a loop, one after another, are the loop's steps
pub loop_steps : (s0 s1 s2 s3 s4 s5 : List Step3) (n b r : ℕ) (e : Expression Slot) (body : StatementList Slot) → r
    ≡ b + 2 + block_count body → s1 ≡ s0 ++ Go n (b + 1) ∷ [] → s2 ≡ s1 ++ expression_steps (n + 1) e → s3 ≡ s2
    ++ Exit (n + 1) n r ∷ [] → s4 ≡ s3 ++ statement_steps n (b + 1) body → s5 ≡ s4 ++ Go n (b + 1) ∷ [] → s5 ≡ s0
    ++ statement_steps n b (loop e body none)
loop_steps s0 s1 s2 s3 s4 s5 n b r e body k e1 e2 e3 e4 e5 =
    let ce = expression_steps (n + 1) e in
    let cb = statement_steps n (b + 1) body in
    let go = Go n (b + 1) in
    let all : s5 ≡ ((((s0 ++ go ∷ []) ++ ce) ++ Exit (n + 1) n r ∷ []) ++ cb) ++ go ∷ [] = cc in
    let flat : ((((s0 ++ go ∷ []) ++ ce) ++ Exit (n + 1) n r ∷ []) ++ cb) ++ go ∷ [] ≡ s0
    ++ go ∷ (ce ++ (Exit (n + 1) n r ∷ (cb ++ go ∷ []))) = simp append_assoc in
    all ∙ flat ∙ ap (λ z. s0 ++ go ∷ (ce ++ (Exit (n + 1) n z ∷ (cb ++ go ∷ [])))) k

-- the steps that are appended for a choice, one after another, are the choice's steps
pub choice_steps : (s0 s1 s2 s3 s4 s5 s6 : List Step3) (n b p q : ℕ) (e : Expression Slot) (x y : StatementList Slot) →
    p ≡ b + 1 + block_count x → q ≡ b + 2 + block_count x + block_count y → s1 ≡ s0 ++ expression_steps (n + 1) e → s2
    ≡ s1 ++ Exit (n + 1) n p ∷ [] → s3 ≡ s2 ++ statement_steps n b x → s4 ≡ s3 ++ Go n q ∷ [] → s5 ≡ s4
    ++ statement_steps n p y → s6 ≡ s5 ++ Go n q ∷ [] → s6 ≡ s0 ++ statement_steps n b (choose e x y none)
choice_steps s0 s1 s2 s3 s4 s5 s6 n b p q e x y k l e1 e2 e3 e4 e5 e6 =
    let ce = expression_steps (n + 1) e in
    let ca = statement_steps n b x in
    let cb = statement_steps n p y in
    let all : s6 ≡ (((((s0 ++ ce) ++ Exit (n + 1) n p ∷ []) ++ ca) ++ Go n q ∷ []) ++ cb) ++ Go n q ∷ [] = cc in
    let flat : (((((s0 ++ ce) ++ Exit (n + 1) n p ∷ []) ++ ca) ++ Go n q ∷ []) ++ cb) ++ Go n q ∷ [] ≡ s0
    ++ (ce ++ (Exit (n + 1) n p ∷ (ca ++ (Go n q ∷ (cb ++ Go n q ∷ []))))) = simp append_assoc in
    let other = b + 1 + block_count x in
    all ∙ flat
    ∙ ap (λ z. s0 ++ (ce ++ (Exit (n + 1) n z ∷ (ca ++ (Go n q ∷ (statement_steps n z y ++ Go n q ∷ [])))))) k
    ∙ ap (λ z. s0 ++ (ce ++ (Exit (n + 1) n other ∷ (ca ++ (Go n z ∷ (statement_steps n other y ++ Go n z ∷ [])))))) l
