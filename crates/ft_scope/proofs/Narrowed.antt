-- The table's slots are those of the definition if there are at most 1,024 cells and 255 variables. Capping their
-- numbers never changes a need, a weight or a place.
use Rattle.std.proofs.Common.{◌≡◌, ℕ, ◌+◌, ◌-◌, ◌^◌, ◌≤◌, List, Option, Some, None, Result, Ok, Err, min, refl, sym, ap}
use Rattle.std.proofs.Common.{◌∙◌, arith, subst}
use Rattle.std.specs.Option.{option_map}
use Rattle.ft_syntax.specs.Plain.{Expression, literal, name, indexed, operation, StatementList, none, assign, assign_at}
use Rattle.ft_syntax.specs.Plain.{loop, choose}
use Rattle.ft_syntax.specs.Syntax.{Named, Declared}
use Rattle.ft_scope.specs.declared.slot.Slot.{Slot}
use Rattle.ft_scope.specs.declared.slot.Slot.TheVariants.{Cell, Var, Run}
use Rattle.ft_scope.specs.Scope.{◌>>=◌, found, renamed_expression, renamed, find, cell_count, variable_count}
use Rattle.ft_scope.specs.Scope.{wrong_length, first_of, bare_misuse, index_misuse, misused_expression, misused}
use Rattle.ft_scope.specs.Size.{need, most_need, slot_weight, expression_weight, statements_weight}
use Rattle.ft_scope.specs.Renames.{AnyFits}
use Rattle.ft_scope.specs.Held.{narrow}
use Rattle.ft_scope.proofs.Found.{found_fits}

-- expressions and statements with each slot as the table holds it
abbrev narrowed_expression : Expression Slot → Expression Slot
narrowed_expression (literal w) = literal w
narrowed_expression (name s) = name (narrow s)
narrowed_expression (indexed s i) = indexed (narrow s) (narrowed_expression i)
narrowed_expression (operation o a b) = operation o (narrowed_expression a) (narrowed_expression b)

abbrev narrowed : StatementList Slot → StatementList Slot
narrowed none = none
narrowed (assign to e rest) = assign (narrow to) (narrowed_expression e) (narrowed rest)
narrowed (assign_at to i e rest) = assign_at (narrow to) (narrowed_expression i) (narrowed_expression e) (narrowed rest)
narrowed (loop e body rest) = loop (narrowed_expression e) (narrowed body) (narrowed rest)
narrowed (choose e if_so if_not rest) = choose (narrowed_expression e) (narrowed if_so) (narrowed if_not)
    (narrowed rest)

-- if m followed by f equals g followed by k on values, it does so on results too
moved : {A C B D : Type 0} → (r : Result A ℕ) (q : Result C ℕ) (m : C → A) (f : A → Result B ℕ) (g : C →
    Result D ℕ) (k : D → B) → r ≡ q >>= (λ x. Ok (m x)) → ((x : C) → f (m x) ≡ g x >>= λ y. Ok (k y)) → r >>= f
    ≡ (q >>= g) >>= λ y. Ok (k y)
moved r (Ok x) m f g k e h = ap (λ v. v >>= f) e ∙ h x
moved r (Err at) m f g k e h = ap (λ v. v >>= f) e

module _ (look : List ℕ → Option Slot) where
  abbrev table : List ℕ → Option Slot
  table t = option_map narrow (look t)

  slot_moved : (at : ℕ) (o : Option Slot) → found at (option_map narrow o) ≡ found at o >>= λ s. Ok (narrow s)
  slot_moved at None = refl
  slot_moved at (Some s) = refl

  expression_moved : (e : Expression Named) → renamed_expression table e ≡ renamed_expression look e >>= λ x.
      Ok (narrowed_expression x)
  expression_moved (literal w) = refl
  expression_moved (name n) = moved (found n.at (table n.text)) (found n.at (look n.text)) narrow (λ s.
      Ok (name s)) (λ s. Ok (name s)) narrowed_expression (slot_moved n.at (look n.text)) (λ s. refl)
  expression_moved (indexed n i) =
      moved (found n.at (table n.text)) (found n.at (look n.text)) narrow (λ s. renamed_expression table i >>= λ x.
      Ok (indexed s x)) (λ s. renamed_expression look i >>= λ x. Ok (indexed s x)) narrowed_expression
      (slot_moved n.at (look n.text))
      (λ s. moved (renamed_expression table i) (renamed_expression look i) narrowed_expression (λ x.
      Ok (indexed (narrow s) x)) (λ x. Ok (indexed s x)) narrowed_expression (expression_moved i) (λ x. refl))
  expression_moved (operation o a b) =
      moved (renamed_expression table a) (renamed_expression look a) narrowed_expression (λ x.
      renamed_expression table b >>= λ y. Ok (operation o x y)) (λ x. renamed_expression look b >>= λ y.
      Ok (operation o x y)) narrowed_expression (expression_moved a)
      (λ x. moved (renamed_expression table b) (renamed_expression look b) narrowed_expression (λ y.
      Ok (operation o (narrowed_expression x) y)) (λ y. Ok (operation o x y)) narrowed_expression (expression_moved b)
      (λ y. refl))

  statements_moved : (b : StatementList Named) → renamed table b ≡ renamed look b >>= λ x. Ok (narrowed x)
  statements_moved none = refl
  statements_moved (assign to e rest) =
      moved (found to.at (table to.text)) (found to.at (look to.text)) narrow (λ s. renamed_expression table e >>= λ x.
      renamed table rest >>= λ r. Ok (assign s x r)) (λ s. renamed_expression look e >>= λ x.
      renamed look rest >>= λ r. Ok (assign s x r)) narrowed (slot_moved to.at (look to.text))
      (λ s. moved (renamed_expression table e) (renamed_expression look e) narrowed_expression (λ x.
      renamed table rest >>= λ r. Ok (assign (narrow s) x r)) (λ x. renamed look rest >>= λ r.
      Ok (assign s x r)) narrowed (expression_moved e)
      (λ x. moved (renamed table rest) (renamed look rest) narrowed (λ r.
      Ok (assign (narrow s) (narrowed_expression x) r)) (λ r. Ok (assign s x r)) narrowed (statements_moved rest)
      (λ r. refl)))
  statements_moved (assign_at to i e rest) =
      moved (found to.at (table to.text)) (found to.at (look to.text)) narrow (λ s. renamed_expression table i >>= λ x.
      renamed_expression table e >>= λ y. renamed table rest >>= λ r. Ok (assign_at s x y r)) (λ s.
      renamed_expression look i >>= λ x. renamed_expression look e >>= λ y. renamed look rest >>= λ r.
      Ok (assign_at s x y r)) narrowed (slot_moved to.at (look to.text))
      (λ s. moved (renamed_expression table i) (renamed_expression look i) narrowed_expression (λ x.
      renamed_expression table e >>= λ y. renamed table rest >>= λ r. Ok (assign_at (narrow s) x y r)) (λ x.
      renamed_expression look e >>= λ y. renamed look rest >>= λ r. Ok (assign_at s x y r)) narrowed
      (expression_moved i)
      (λ x. moved (renamed_expression table e) (renamed_expression look e) narrowed_expression (λ y.
      renamed table rest >>= λ r. Ok (assign_at (narrow s) (narrowed_expression x) y r)) (λ y.
      renamed look rest >>= λ r. Ok (assign_at s x y r)) narrowed (expression_moved e)
      (λ y. moved (renamed table rest) (renamed look rest) narrowed (λ r.
      Ok (assign_at (narrow s) (narrowed_expression x) (narrowed_expression y) r)) (λ r.
      Ok (assign_at s x y r)) narrowed (statements_moved rest) (λ r. refl))))
  statements_moved (loop e body rest) =
      moved (renamed_expression table e) (renamed_expression look e) narrowed_expression (λ x.
      renamed table body >>= λ y. renamed table rest >>= λ r. Ok (loop x y r)) (λ x. renamed look body >>= λ y.
      renamed look rest >>= λ r. Ok (loop x y r)) narrowed (expression_moved e)
      (λ x. moved (renamed table body) (renamed look body) narrowed (λ y. renamed table rest >>= λ r.
      Ok (loop (narrowed_expression x) y r)) (λ y. renamed look rest >>= λ r.
      Ok (loop x y r)) narrowed (statements_moved body)
      (λ y. moved (renamed table rest) (renamed look rest) narrowed (λ r.
      Ok (loop (narrowed_expression x) (narrowed y) r)) (λ r. Ok (loop x y r)) narrowed (statements_moved rest) (λ r.
      refl)))
  statements_moved (choose e if_so if_not rest) =
      moved (renamed_expression table e) (renamed_expression look e) narrowed_expression (λ x.
      renamed table if_so >>= λ y. renamed table if_not >>= λ z. renamed table rest >>= λ r.
      Ok (choose x y z r)) (λ x. renamed look if_so >>= λ y. renamed look if_not >>= λ z. renamed look rest >>= λ r.
      Ok (choose x y z r)) narrowed (expression_moved e)
      (λ x. moved (renamed table if_so) (renamed look if_so) narrowed (λ y. renamed table if_not >>= λ z.
      renamed table rest >>= λ r. Ok (choose (narrowed_expression x) y z r)) (λ y. renamed look if_not >>= λ z.
      renamed look rest >>= λ r. Ok (choose x y z r)) narrowed (statements_moved if_so)
      (λ y. moved (renamed table if_not) (renamed look if_not) narrowed (λ z. renamed table rest >>= λ r.
      Ok (choose (narrowed_expression x) (narrowed y) z r)) (λ z. renamed look rest >>= λ r.
      Ok (choose x y z r)) narrowed (statements_moved if_not)
      (λ z. moved (renamed table rest) (renamed look rest) narrowed (λ r.
      Ok (choose (narrowed_expression x) (narrowed y) (narrowed z) r)) (λ r.
      Ok (choose x y z r)) narrowed (statements_moved rest) (λ r. refl))))

  bare_moved : (at : ℕ) (o : Option Slot) → bare_misuse at (option_map narrow o) ≡ bare_misuse at o
  bare_moved at None = refl
  bare_moved at (Some (Cell k)) = refl
  bare_moved at (Some (Var x)) = refl
  bare_moved at (Some (Run f l)) = refl

  index_moved : (at : ℕ) (o : Option Slot) → index_misuse at (option_map narrow o) ≡ index_misuse at o
  index_moved at None = refl
  index_moved at (Some (Cell k)) = refl
  index_moved at (Some (Var x)) = refl
  index_moved at (Some (Run f l)) = refl

  both_moved : {a b x y : Option ℕ} → a ≡ x → b ≡ y → first_of a b ≡ first_of x y
  both_moved e f = cc

  misuse_moved : (e : Expression Named) → misused_expression table e ≡ misused_expression look e
  misuse_moved (literal w) = refl
  misuse_moved (name n) = bare_moved n.at (look n.text)
  misuse_moved (indexed n i) = both_moved (index_moved n.at (look n.text)) (misuse_moved i)
  misuse_moved (operation o a b) = both_moved (misuse_moved a) (misuse_moved b)

  misuses_moved : (b : StatementList Named) → misused table b ≡ misused look b
  misuses_moved none = refl
  misuses_moved (assign to e rest) = both_moved (both_moved (bare_moved to.at (look to.text)) (misuse_moved e))
      (misuses_moved rest)
  misuses_moved (assign_at to i e rest) = both_moved
      (both_moved (index_moved to.at (look to.text)) (both_moved (misuse_moved i) (misuse_moved e)))
      (misuses_moved rest)
  misuses_moved (loop e body rest) = both_moved (both_moved (misuse_moved e) (misuses_moved body)) (misuses_moved rest)
  misuses_moved (choose e if_so if_not rest) = both_moved
      (both_moved (misuse_moved e) (both_moved (misuses_moved if_so) (misuses_moved if_not))) (misuses_moved rest)

need_narrowed : (e : Expression Slot) → need (narrowed_expression e) ≡ need e
need_narrowed (literal w) = refl
need_narrowed (name s) = refl
need_narrowed (indexed s i) = need_narrowed i
need_narrowed (operation o a b) = omega (arith, need_narrowed a, need_narrowed b)

most_need_narrowed : (b : StatementList Slot) → most_need (narrowed b) ≡ most_need b
most_need_narrowed none = refl
most_need_narrowed (assign to e rest) = omega (arith, need_narrowed e, most_need_narrowed rest)
most_need_narrowed (assign_at to i e rest) = omega (arith, need_narrowed i, need_narrowed e, most_need_narrowed rest)
most_need_narrowed (loop e body rest) = omega (arith, need_narrowed e, most_need_narrowed body, most_need_narrowed rest)
most_need_narrowed (choose e if_so if_not rest) = omega (
  arith,
  need_narrowed e,
  most_need_narrowed if_so,
  most_need_narrowed if_not,
  most_need_narrowed rest,
)

slot_narrowed : (s : Slot) → slot_weight (narrow s) ≡ slot_weight s
slot_narrowed (Cell k) = refl
slot_narrowed (Var x) = refl
slot_narrowed (Run f l) = refl

weight_narrowed : (e : Expression Slot) → expression_weight (narrowed_expression e) ≡ expression_weight e
weight_narrowed (literal w) = refl
weight_narrowed (name s) = slot_narrowed s
weight_narrowed (indexed s i) = omega (arith, weight_narrowed i)
weight_narrowed (operation o a b) = omega (arith, weight_narrowed a, weight_narrowed b)

statements_narrowed : (b : StatementList Slot) → statements_weight (narrowed b) ≡ statements_weight b
statements_narrowed none = refl
statements_narrowed (assign to e rest) = omega (arith, slot_narrowed to, weight_narrowed e, statements_narrowed rest)
statements_narrowed (assign_at to i e rest) = omega (
  arith,
  weight_narrowed i,
  weight_narrowed e,
  statements_narrowed rest,
)
statements_narrowed (loop e body rest) = omega (
  arith,
  weight_narrowed e,
  statements_narrowed body,
  statements_narrowed rest,
)
statements_narrowed (choose e if_so if_not rest) = omega (
  arith,
  weight_narrowed e,
  statements_narrowed if_so,
  statements_narrowed if_not,
  statements_narrowed rest,
)

-- the table is determined by the slot that it returns for each text
same_table : (ds : List Declared) (table : List ℕ → Option Slot) →
    ((t : List ℕ) → table t ≡ option_map narrow (find ds t)) → table ≡ (λ t. option_map narrow (find ds t))
same_table ds table h = λ i t. h t i

-- if renaming by the table fails, renaming by the definition fails at the same place
pub fails_exactly : (ds : List Declared) (table : List ℕ → Option Slot) (b : StatementList Named) (at : ℕ) →
    ((t : List ℕ) → table t ≡ option_map narrow (find ds t)) → renamed table b ≡ Err at → renamed (find ds) b ≡ Err at
fails_exactly ds table b at h e = by (renamed (find ds) b) (sym (ap (λ f. renamed f b) (same_table ds table h)
    ∙ statements_moved (find ds) b) ∙ e)
  where
    by : (r : Result (StatementList Slot) ℕ) → (r >>= λ x. Ok (narrowed x)) ≡ Err at → r ≡ Err at
    by (Ok x) g = cc
    by (Err p) g = g

-- if renaming by the table succeeds, so does renaming by the definition, with statements of the same need and weight
pub record Exact (ds : List Declared) (b : StatementList Named) (by_table : StatementList Slot) : Type 0 where
  pub body : StatementList Slot
  pub is : renamed (find ds) b ≡ Ok body
  pub need : most_need by_table ≡ most_need body
  pub weight : statements_weight by_table ≡ statements_weight body

pub gives_exactly : (ds : List Declared) (table : List ℕ → Option Slot) (b : StatementList Named)
    (out : StatementList Slot) → ((t : List ℕ) → table t ≡ option_map narrow (find ds t)) → renamed table b ≡ Ok out →
    Exact ds b out
gives_exactly ds table b out h e = by (renamed (find ds) b) refl (sym (ap (λ f. renamed f b) (same_table ds table h)
    ∙ statements_moved (find ds) b) ∙ e)
  where
    by : (r : Result (StatementList Slot) ℕ) → renamed (find ds) b ≡ r → (r >>= λ x. Ok (narrowed x)) ≡ Ok out →
        Exact ds b out
    by (Ok x) w g =
        let same : narrowed x ≡ out = cc in
        record {
          body = x;
          is = w;
          need = ap most_need (sym same) ∙ most_need_narrowed x;
          weight = ap statements_weight (sym same) ∙ statements_narrowed x;
        }
    by (Err p) w g = cc

-- the first misused name by the table is the first by the definition
pub misuse_exactly : (ds : List Declared) (table : List ℕ → Option Slot) (b : StatementList Named) →
    ((t : List ℕ) → table t ≡ option_map narrow (find ds t)) → misused table b ≡ misused (find ds) b
misuse_exactly ds table b h = ap (λ f. misused f b) (same_table ds table h) ∙ misuses_moved (find ds) b

narrow_within : (c v : ℕ) (s : Slot) → c ≤ 1024 → v ≤ 255 → AnyFits c v s → narrow s ≡ s
narrow_within c v (Cell k) g h f = let e : min k (2 ^ 32 - 1) ≡ k = omega arith in ap Cell e
narrow_within c v (Run k l) g h f =
    let e : min k (2 ^ 32 - 1) ≡ k = omega (arith, f.2) in
    let d : min l (2 ^ 32 - 1) ≡ l = omega (arith, f.1) in
    ap (λ x. Run x (min l (2 ^ 32 - 1))) e ∙ ap (Run k) d
narrow_within c v (Var x) g h f = let e : min x 255 ≡ x = omega arith in ap Var e

slots_within : (ds : List Declared) (t : List ℕ) → wrong_length ds ≡ None → cell_count ds ≤ 1024 →
    variable_count ds ≤ 255 → option_map narrow (find ds t) ≡ find ds t
slots_within ds t ok few h = by (find ds t) refl
  where
    by : (o : Option Slot) → find ds t ≡ o → option_map narrow o ≡ o
    by None w = refl
    by (Some s) w = ap Some (narrow_within (0 + cell_count ds) (0 + variable_count ds) s (omega arith) (omega arith)
        (found_fits 0 0 ds t s ok w))

-- if there are few cells and variables, renaming by the table and by the definition has the same result
pub gives_the_same : (ds : List Declared) (table : List ℕ → Option Slot) (b : StatementList Named)
    (out : StatementList Slot) → ((t : List ℕ) → table t ≡ option_map narrow (find ds t)) → wrong_length ds ≡ None →
    cell_count ds ≤ 1024 → variable_count ds ≤ 255 → renamed table b ≡ Ok out → renamed (find ds) b ≡ Ok out
gives_the_same ds table b out h ok little few e = sym (ap (λ f. renamed f b) (same_table ds table h)
    ∙ ap (λ f. renamed f b) (λ i t. slots_within ds t ok little few i)) ∙ e

fits_narrow : (c v : ℕ) (s : Slot) → AnyFits c v s → AnyFits c v (narrow s)
fits_narrow c v (Cell k) h = omega arith
fits_narrow c v (Run f l) h = (omega (arith, h.0), omega (arith, h.1), omega (arith, h.2))
fits_narrow c v (Var x) h = omega arith

-- a slot that the table returns exists
pub table_fits : (ds : List Declared) (table : List ℕ → Option Slot) (t : List ℕ) (s : Slot) → wrong_length ds ≡ None →
    ((t : List ℕ) → table t ≡ option_map narrow (find ds t)) → table t ≡ Some s →
    AnyFits (cell_count ds) (variable_count ds) s
table_fits ds table t s ok h e = by (find ds t) refl (sym (h t) ∙ e)
  where
    by : (o : Option Slot) → find ds t ≡ o → option_map narrow o ≡ Some s →
        AnyFits (cell_count ds) (variable_count ds) s
    by None w g = absurd (nothing g)
      where
        nothing : None ≡ Some s → ⊥
        nothing g = cc
    by (Some x) w g =
        let same : narrow x ≡ s = cc in
        let c : 0 + cell_count ds ≡ cell_count ds = omega arith in
        let v : 0 + variable_count ds ≡ variable_count ds = omega arith in
        subst (AnyFits (cell_count ds) (variable_count ds)) same
        (fits_narrow (cell_count ds) (variable_count ds) x
        (subst (λ k. AnyFits k (variable_count ds) x) c
        (subst (λ k. AnyFits (0 + cell_count ds) k x) v (found_fits 0 0 ds t x ok w))))
