-- Statements in sequence are renamed one by one, and the first failure is the failure of all.
use Rattle.std.proofs.Common.{◌≡◌, ℕ, List, [], ◌∷◌, ◌++◌, Option, Result, Ok, Err, refl, sym, ap, ◌∙◌}
use Rattle.ft_syntax.specs.declared.spot.Spot.{Spot}
use Rattle.ft_syntax.specs.declared.stmt.Stmt.{Stmt}
use Rattle.ft_syntax.specs.declared.source_error.SourceError.{SourceError}
use Rattle.ft_syntax.specs.declared.source_error.SourceError.TheVariants.{Unknown, NoMemory}
use Rattle.ft_syntax.specs.Plain.{StatementList, none, assign, assign_at, loop, choose, follow, plain_statement}
use Rattle.ft_syntax.specs.Plain.{plain_list}
use Rattle.ft_syntax.specs.Syntax.{Named, named}
use Rattle.ft_syntax.proofs.PlainForms.{list_first, list_push, list_empty, statement_first, follow_follow}
use Rattle.ft_scope.specs.declared.slot.Slot.{Slot}
use Rattle.ft_scope.specs.Scope.{◌>>=◌, found, renamed_expression, renamed}
use Rattle.ft_scope.specs.Size.{same_slot}
use Rattle.ft_scope.specs.Renames.{Fails}

-- if f equals g followed by k on values, it does so on results too
through : {A B C : Type 0} → (r : Result A ℕ) (f : A → Result B ℕ) (g : A → Result C ℕ) (k : C → Result B ℕ) →
    ((x : A) → f x ≡ g x >>= k) → r >>= f ≡ (r >>= g) >>= k
through (Ok x) f g k h = h x
through (Err at) f g k h = refl

module _ (look : List ℕ → Option Slot) (b : StatementList Named) where
  abbrev then_b : StatementList Slot → Result (StatementList Slot) ℕ
  then_b x = renamed look b >>= λ y. Ok (follow x y)

  -- if f commutes with `follow`, it also commutes with `then_b` on results
  rest_step : (whole rest : Result (StatementList Slot) ℕ) (f : StatementList Slot → StatementList Slot) → whole
      ≡ rest >>= then_b → ((r y : StatementList Slot) → f (follow r y) ≡ follow (f r) y) → whole >>= (λ r. Ok (f r))
      ≡ (rest >>= λ r. Ok (f r)) >>= then_b
  rest_step whole rest f e h = ap (λ v. v >>= λ r. Ok (f r)) e ∙ by rest (renamed look b)
    where
      by : (r q : Result (StatementList Slot) ℕ) → (r >>= λ x. q >>= λ y. Ok (follow x y)) >>= (λ z. Ok (f z))
          ≡ (r >>= λ z. Ok (f z)) >>= λ x. q >>= λ y. Ok (follow x y)
      by (Ok x) (Ok y) = ap Ok (h x y)
      by (Ok x) (Err at) = refl
      by (Err at) q = refl

  -- renaming statements followed by b renames both in turn
  pub renamed_follow : (a : StatementList Named) → renamed look (follow a b) ≡ renamed look a >>= λ x.
      renamed look b >>= λ y. Ok (follow x y)
  renamed_follow none = by (renamed look b)
    where
      by : (q : Result (StatementList Slot) ℕ) → q ≡ q >>= λ y. Ok y
      by (Ok y) = refl
      by (Err at) = refl
  renamed_follow (assign to e rest) =
      through (found to.at (look to.text)) (λ s. renamed_expression look e >>= λ x. renamed look (follow rest b) >>=
      λ r. Ok (assign s x r)) (λ s. renamed_expression look e >>= λ x. renamed look rest >>= λ r.
      Ok (assign s x r)) then_b
      (λ s. through (renamed_expression look e) (λ x. renamed look (follow rest b) >>= λ r. Ok (assign s x r)) (λ x.
      renamed look rest >>= λ r. Ok (assign s x r)) then_b
      (λ x. rest_step (renamed look (follow rest b)) (renamed look rest) (assign s x) (renamed_follow rest) (λ r y.
      refl)))
  renamed_follow (assign_at to i e rest) =
      through (found to.at (look to.text)) (λ s. renamed_expression look i >>= λ x. renamed_expression look e >>= λ y.
      renamed look (follow rest b) >>= λ r. Ok (assign_at s x y r)) (λ s. renamed_expression look i >>= λ x.
      renamed_expression look e >>= λ y. renamed look rest >>= λ r. Ok (assign_at s x y r)) then_b
      (λ s. through (renamed_expression look i) (λ x. renamed_expression look e >>= λ y.
      renamed look (follow rest b) >>= λ r. Ok (assign_at s x y r)) (λ x. renamed_expression look e >>= λ y.
      renamed look rest >>= λ r. Ok (assign_at s x y r)) then_b
      (λ x. through (renamed_expression look e) (λ y. renamed look (follow rest b) >>= λ r.
      Ok (assign_at s x y r)) (λ y. renamed look rest >>= λ r. Ok (assign_at s x y r)) then_b
      (λ y. rest_step (renamed look (follow rest b)) (renamed look rest) (assign_at s x y) (renamed_follow rest) (λ r z.
      refl))))
  renamed_follow (loop e body rest) =
      through (renamed_expression look e) (λ x. renamed look body >>= λ y. renamed look (follow rest b) >>= λ r.
      Ok (loop x y r)) (λ x. renamed look body >>= λ y. renamed look rest >>= λ r. Ok (loop x y r)) then_b
      (λ x. through (renamed look body) (λ y. renamed look (follow rest b) >>= λ r. Ok (loop x y r)) (λ y.
      renamed look rest >>= λ r. Ok (loop x y r)) then_b
      (λ y. rest_step (renamed look (follow rest b)) (renamed look rest) (loop x y) (renamed_follow rest) (λ r z.
      refl)))
  renamed_follow (choose e if_so if_not rest) =
      through (renamed_expression look e) (λ x. renamed look if_so >>= λ y. renamed look if_not >>= λ z.
      renamed look (follow rest b) >>= λ r. Ok (choose x y z r)) (λ x. renamed look if_so >>= λ y.
      renamed look if_not >>= λ z. renamed look rest >>= λ r. Ok (choose x y z r)) then_b
      (λ x. through (renamed look if_so) (λ y. renamed look if_not >>= λ z. renamed look (follow rest b) >>= λ r.
      Ok (choose x y z r)) (λ y. renamed look if_not >>= λ z. renamed look rest >>= λ r. Ok (choose x y z r)) then_b
      (λ y. through (renamed look if_not) (λ z. renamed look (follow rest b) >>= λ r. Ok (choose x y z r)) (λ z.
      renamed look rest >>= λ r. Ok (choose x y z r)) then_b
      (λ z. rest_step (renamed look (follow rest b)) (renamed look rest) (choose x y z) (renamed_follow rest) (λ r q.
      refl))))

-- renaming one more statement appends its result
pub renamed_push : (look : List ℕ → Option Slot) (xs : List (Stmt Spot)) (s : Stmt Spot) (out : List (Stmt Slot))
    (r : Stmt Slot) (new : List (Stmt Slot)) →
    renamed look (plain_list named xs) ≡ Ok (plain_list same_slot out) → renamed look (plain_statement named s none)
    ≡ Ok (plain_statement same_slot r none) → new ≡ out ++ r ∷ [] →
    renamed look (plain_list named (xs ++ s ∷ [])) ≡ Ok (plain_list same_slot new)
renamed_push look xs s out r new h g e =
    ap (renamed look) (list_push named xs s)
    ∙ renamed_follow look (plain_statement named s none) (plain_list named xs)
    ∙ ap (λ v. v >>= λ x. renamed look (plain_statement named s none) >>= λ y. Ok (follow x y)) h
    ∙ ap (λ v. v >>= λ y. Ok (follow (plain_list same_slot out) y)) g
    ∙ ap Ok (sym (list_push same_slot out r)) ∙ ap (λ v. Ok (plain_list same_slot v)) (sym e)

-- a list is its first statements, followed by the next one, followed by the others
parts : (xs ys : List (Stmt Spot)) (s : Stmt Spot) → plain_list named (xs ++ s ∷ ys)
    ≡ follow (plain_list named xs) (follow (plain_statement named s none) (plain_list named ys))
parts [] ys s = list_first named s ys ∙ statement_first named s (plain_list named ys)
    ∙ ap (λ v. follow v (follow (plain_statement named s none) (plain_list named ys))) (sym (list_empty named))
parts (x ∷ xs) ys s =
    let back = follow (plain_statement named s none) (plain_list named ys) in
    list_first named x (xs ++ s ∷ ys) ∙ ap (plain_statement named x) (parts xs ys s)
    ∙ statement_first named x (follow (plain_list named xs) back)
    ∙ sym (follow_follow (plain_statement named x none) (plain_list named xs) back)
    ∙ ap (λ v. follow v back) (sym (statement_first named x (plain_list named xs)) ∙ sym (list_first named x xs))

fails_at : (look : List ℕ → Option Slot) (xs ys : List (Stmt Spot)) (s : Stmt Spot) (out : StatementList Slot) (at : ℕ)
    → renamed look (plain_list named xs) ≡ Ok out → renamed look (plain_statement named s none) ≡ Err at →
    renamed look (plain_list named (xs ++ s ∷ ys)) ≡ Err at
fails_at look xs ys s out at h g =
    let S = plain_statement named s none in
    let Y = plain_list named ys in
    ap (renamed look) (parts xs ys s)
    ∙ renamed_follow look (follow S Y) (plain_list named xs)
    ∙ ap (λ v. v >>= λ x. renamed look (follow S Y) >>= λ y. Ok (follow x y)) h
    ∙ ap (λ v. v >>= λ y. Ok (follow out y)) (renamed_follow look Y S
    ∙ ap (λ v. v >>= λ x. renamed look Y >>= λ y. Ok (follow x y)) g)

-- the first statement that fails makes the whole list fail
pub fails_front : (look : List ℕ → Option Slot) (all xs ys : List (Stmt Spot)) (s : Stmt Spot)
    (out : StatementList Slot) (e : SourceError) → xs ++ s ∷ ys ≡ all → renamed look (plain_list named xs) ≡ Ok out →
    Fails e (renamed look (plain_statement named s none)) → Fails e (renamed look (plain_list named all))
fails_front look all xs ys s out (Unknown at) w h g = ap (λ v. renamed look (plain_list named v)) (sym w)
    ∙ fails_at look xs ys s out at h g
fails_front look all xs ys s out NoMemory w h g = tt
fails_front look all xs ys s out _ w h g = absurd g
