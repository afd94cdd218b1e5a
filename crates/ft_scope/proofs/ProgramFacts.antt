-- Properties of a text's program: its cells, its statements and its size.
use Rattle.std.proofs.Common.{◌≡◌, ℕ, ◌+◌, ◌≤◌, Bool, true, false, List, [], ◌∷◌, length, replicate, Option, Some, None}
use Rattle.std.proofs.Common.{refl, sym, ◌∙◌, subst, arith}
use Rattle.std.specs.Prelude.{All, Result, Ok, Err, if◌then◌else◌, nat_lt}
use Rattle.std.specs.List.{AllByRecursion}
use Rattle.std.proofs.lemmas.Bool.{ltb-false}
use Rattle.std.proofs.lemmas.List.Elements.{All-nil, All-cons, All-append, All-replicate}
use Rattle.ft_isa.specs.Words.{IsWord}
use Rattle.ft_syntax.specs.Syntax.{Named, Declared, cell, var, array, SyntaxTree}
use Rattle.ft_syntax.specs.Plain.{Expression, literal, name, indexed, operation, StatementList, none, assign, assign_at}
use Rattle.ft_syntax.specs.Plain.{loop, choose}
use Rattle.ft_syntax.specs.declared.source_error.SourceError.{SourceError}
use Rattle.ft_syntax.specs.declared.source_error.SourceError.TheVariants as errors
use Rattle.ft_syntax.proofs.FitTrees.{IsFitDeclaration, HasWords, HaveWords, source_fits}
use Rattle.ft_scope.specs.declared.slot.Slot.{Slot}
use Rattle.ft_scope.specs.CellNames.{cell_names}
use Rattle.ft_scope.specs.Outcome.{IsProgramOf}
use Rattle.ft_scope.specs.Proper.{IsWithinLimits, IsProper}
use Rattle.ft_scope.specs.Renames.{AnyFits}
use Rattle.ft_scope.specs.Resolved.{Program, program_need, program_weight, refused_above, limited, program_with}
use Rattle.ft_scope.specs.Resolved.{refused_at, resolved}
use Rattle.ft_scope.specs.Scope.{cell_words, cell_count, variable_count, wrong_length, find, repeated, ◌>>=◌, found}
use Rattle.ft_scope.specs.Scope.{renamed_expression, renamed, first_of, bare_misuse, index_misuse, misused_expression}
use Rattle.ft_scope.specs.Scope.{misused}
use Rattle.ft_scope.specs.Size.{ExpressionFits, StatementsFit}
use Rattle.ft_scope.proofs.Found.{found_fits}
use Rattle.ft_scope.proofs.LawfulNames.{names_lawful, names_differ}
use Rattle.ft_scope.proofs.MadeCells.{count_names, count_words}
use Rattle.ft_scope.proofs.MisusedNames.{first_left, first_right, bare_fits, index_fits}

-- the initial words of fit declarations are words
words_fit : (ds : List Declared) → AllByRecursion IsFitDeclaration ds → All IsWord (cell_words ds)
words_fit [] h = All-nil IsWord
words_fit (cell n w ∷ ds) h = All-cons IsWord w (cell_words ds) h.0.1 (words_fit ds h.1)
words_fit (var n ∷ ds) h = words_fit ds h.1
words_fit (array n l at w ∷ ds) h = All-append IsWord (replicate l w) (cell_words ds) (All-replicate IsWord l w h.0.1)
    (words_fit ds h.1)

-- SLOTS

-- if two steps in turn succeed, each of them does
ok_parts : {A B : Type 0} (r : Result A ℕ) (f : A → Result B ℕ) (y : B) → r >>= f ≡ Ok y → (x : A)
    × ((r ≡ Ok x) × (f x ≡ Ok y))
ok_parts (Ok x) f y e = (x, (refl, e))
ok_parts (Err at) f y e = cc

-- equal successes have equal values
ok_same : {A : Type 0} (x y : A) → ◌≡◌ {A = Result A ℕ} (Ok x) (Ok y) → x ≡ y
ok_same x y e = cc

-- if each name that is found refers to an existing cell or variable and no name is misused, the renamed statements fit
module _ (look : List ℕ → Option Slot) (c v : ℕ) (there : (t : List ℕ) (s : Slot) → look t ≡ Some s →
    AnyFits c v s) where
  slot_fits : (at : ℕ) (t : List ℕ) (s : Slot) → found at (look t) ≡ Ok s → AnyFits c v s
  slot_fits at t s e = by (look t) refl e
    where
      by : (o : Option Slot) → look t ≡ o → found at o ≡ Ok s → AnyFits c v s
      by (Some x) f g = subst (AnyFits c v) (ok_same x s g) (there t x f)
      by None f g = cc

  expression_fits : (e : Expression Named) (x : Expression Slot) → HasWords e → misused_expression look e ≡ None →
      renamed_expression look e ≡ Ok x → ExpressionFits c v x
  expression_fits (literal w) x h m e = subst (ExpressionFits c v) (ok_same (literal w) x e) h
  expression_fits (name n) x h m e =
      let p = ok_parts (found n.at (look n.text)) (λ s. Ok (name s)) x e in
      subst (ExpressionFits c v) (ok_same (name p.0) x p.1.1)
      (bare_fits c v n.at (look n.text) p.0 p.1.0 (slot_fits n.at n.text p.0 p.1.0) m)
  expression_fits (indexed n i) x h m e =
      let p = ok_parts (found n.at (look n.text)) (λ s. renamed_expression look i >>= λ y. Ok (indexed s y)) x e in
      let q = ok_parts (renamed_expression look i) (λ y. Ok (indexed p.0 y)) x p.1.1 in
      let one = index_misuse n.at (look n.text) in
      let other = misused_expression look i in
      subst (ExpressionFits c v) (ok_same (indexed p.0 q.0) x q.1.1) (
        index_fits c v n.at (look n.text) p.0 p.1.0 (slot_fits n.at n.text p.0 p.1.0) (first_left one other m),
        expression_fits i q.0 h (first_right one other m) q.1.0,
      )
  expression_fits (operation o a b) x h m e =
      let p = ok_parts (renamed_expression look a) (λ y. renamed_expression look b >>= λ z. Ok (operation o y z)) x e in
      let q = ok_parts (renamed_expression look b) (λ z. Ok (operation o p.0 z)) x p.1.1 in
      let one = misused_expression look a in
      let other = misused_expression look b in
      subst (ExpressionFits c v) (ok_same (operation o p.0 q.0) x q.1.1) (
        expression_fits a p.0 h.0 (first_left one other m) p.1.0,
        expression_fits b q.0 h.1 (first_right one other m) q.1.0,
      )

  statements_fit : (s : StatementList Named) (x : StatementList Slot) → HaveWords s → misused look s ≡ None →
      renamed look s ≡ Ok x → StatementsFit c v x
  statements_fit none x h m e = subst (StatementsFit c v) (ok_same none x e) tt
  statements_fit (assign to e rest) x h m f =
      let p = ok_parts (found to.at (look to.text)) (λ s. renamed_expression look e >>= λ y. renamed look rest >>= λ r.
      Ok (assign s y r)) x f in
      let q = ok_parts (renamed_expression look e) (λ y. renamed look rest >>= λ r. Ok (assign p.0 y r)) x p.1.1 in
      let r = ok_parts (renamed look rest) (λ z. Ok (assign p.0 q.0 z)) x q.1.1 in
      let one = bare_misuse to.at (look to.text) in
      let other = misused_expression look e in
      let here = first_left (first_of one other) (misused look rest) m in
      subst (StatementsFit c v) (ok_same (assign p.0 q.0 r.0) x r.1.1) (
        bare_fits c v to.at (look to.text) p.0 p.1.0 (slot_fits to.at to.text p.0 p.1.0) (first_left one other here),
        expression_fits e q.0 h.0 (first_right one other here) q.1.0,
        statements_fit rest r.0 h.1 (first_right (first_of one other) (misused look rest) m) r.1.0,
      )
  statements_fit (assign_at to i e rest) x h m f =
      let p = ok_parts (found to.at (look to.text)) (λ s. renamed_expression look i >>= λ y.
      renamed_expression look e >>= λ z. renamed look rest >>= λ r. Ok (assign_at s y z r)) x f in
      let q = ok_parts (renamed_expression look i) (λ y. renamed_expression look e >>= λ z. renamed look rest >>= λ r.
      Ok (assign_at p.0 y z r)) x p.1.1 in
      let u = ok_parts (renamed_expression look e) (λ z. renamed look rest >>= λ r. Ok (assign_at p.0 q.0 z r)) x q.1.1
      in
      let r = ok_parts (renamed look rest) (λ z. Ok (assign_at p.0 q.0 u.0 z)) x u.1.1 in
      let one = index_misuse to.at (look to.text) in
      let index = misused_expression look i in
      let value = misused_expression look e in
      let here = first_left (first_of one (first_of index value)) (misused look rest) m in
      let inside = first_right one (first_of index value) here in
      subst (StatementsFit c v) (ok_same (assign_at p.0 q.0 u.0 r.0) x r.1.1) (
        index_fits c v to.at (look to.text) p.0 p.1.0 (slot_fits to.at to.text p.0 p.1.0)
            (first_left one (first_of index value) here),
        expression_fits i q.0 h.0 (first_left index value inside) q.1.0,
        expression_fits e u.0 h.1 (first_right index value inside) u.1.0,
        statements_fit rest r.0 h.2 (first_right (first_of one (first_of index value)) (misused look rest) m) r.1.0,
      )
  statements_fit (loop e body rest) x h m f =
      let p = ok_parts (renamed_expression look e) (λ y. renamed look body >>= λ z. renamed look rest >>= λ r.
      Ok (loop y z r)) x f in
      let q = ok_parts (renamed look body) (λ z. renamed look rest >>= λ r. Ok (loop p.0 z r)) x p.1.1 in
      let r = ok_parts (renamed look rest) (λ z. Ok (loop p.0 q.0 z)) x q.1.1 in
      let one = misused_expression look e in
      let other = misused look body in
      let here = first_left (first_of one other) (misused look rest) m in
      subst (StatementsFit c v) (ok_same (loop p.0 q.0 r.0) x r.1.1) (
        expression_fits e p.0 h.0 (first_left one other here) p.1.0,
        statements_fit body q.0 h.1 (first_right one other here) q.1.0,
        statements_fit rest r.0 h.2 (first_right (first_of one other) (misused look rest) m) r.1.0,
      )
  statements_fit (choose e if_so if_not rest) x h m f =
      let p = ok_parts (renamed_expression look e) (λ y. renamed look if_so >>= λ z. renamed look if_not >>= λ u.
      renamed look rest >>= λ r. Ok (choose y z u r)) x f in
      let q = ok_parts (renamed look if_so) (λ z. renamed look if_not >>= λ u. renamed look rest >>= λ r.
      Ok (choose p.0 z u r)) x p.1.1 in
      let u = ok_parts (renamed look if_not) (λ y. renamed look rest >>= λ r. Ok (choose p.0 q.0 y r)) x q.1.1 in
      let r = ok_parts (renamed look rest) (λ z. Ok (choose p.0 q.0 u.0 z)) x u.1.1 in
      let one = misused_expression look e in
      let first = misused look if_so in
      let second = misused look if_not in
      let here = first_left (first_of one (first_of first second)) (misused look rest) m in
      let inside = first_right one (first_of first second) here in
      subst (StatementsFit c v) (ok_same (choose p.0 q.0 u.0 r.0) x r.1.1) (
        expression_fits e p.0 h.0 (first_left one (first_of first second) here) p.1.0,
        statements_fit if_so q.0 h.1 (first_left first second inside) q.1.0,
        statements_fit if_not u.0 h.2 (first_right first second inside) u.1.0,
        statements_fit rest r.0 h.3 (first_right (first_of one (first_of first second)) (misused look rest) m) r.1.0,
      )

-- PROGRAMS

-- a program that `limited` does not refuse is returned unchanged and is within the limits
limited_program : (q p : Program) → limited q ≡ Ok p → (q ≡ p) × IsWithinLimits q
limited_program q p e =
    let a = below 1024 (length q.inits) (errors.Cells (length q.inits)) _ p e in
    let b = below 32 (program_need q) (errors.Registers (program_need q)) _ p a.1 in
    let c = below 65536 (program_weight q) (errors.Weight (program_weight q)) (Ok q) p b.1 in
    (same c.1, record { few = a.0; need = b.0; weight = c.0 })
  where
    below : (limit n : ℕ) (x : SourceError) (other : Result Program SourceError) (p : Program) →
        refused_above limit n x other ≡ Ok p → (n ≤ limit) × (other ≡ Ok p)
    below limit n x other p f = by (nat_lt limit n) refl f
      where
        by : (b : Bool) → nat_lt limit n ≡ b → (if b then Err x else other) ≡ Ok p → (n ≤ limit) × (other ≡ Ok p)
        by true g h = cc
        by false g h = (ltb-false limit n g, h)

    same : ◌≡◌ {A = Result Program SourceError} (Ok q) (Ok p) → q ≡ p
    same f = cc

-- the program of a tree: no name is declared twice or misused, no length is wrong, its statements are the tree's after
-- renaming, and it is within the limits
record IsResolved (t : SyntaxTree) (p : Program) : Type 0 where
  body : StatementList Slot
  fresh : repeated [] t.decls ≡ None
  renames : renamed (find t.decls) t.body ≡ Ok body
  used : misused (find t.decls) t.body ≡ None
  lengths : wrong_length t.decls ≡ None
  is : record { names = cell_names t.decls; inits = cell_words t.decls; vars = variable_count t.decls; body = body } ≡ p
  limits : IsWithinLimits p

-- if the result is a program, this test refused nothing
unrefused : (e : ℕ → SourceError) (o : Option ℕ) (other : Result Program SourceError) (p : Program) →
    refused_at e o other ≡ Ok p → (o ≡ None) × (other ≡ Ok p)
unrefused e (Some at) other p h = cc
unrefused e None other p h = (refl, h)

-- if a tree resolves to a program, it is the program of the tree
resolved_program : (t : SyntaxTree) (p : Program) → resolved t ≡ Ok p → IsResolved t p
resolved_program t p e =
    let first = unrefused errors.Twice (repeated [] t.decls)
    (program_with t.decls (misused (find t.decls) t.body) (renamed (find t.decls) t.body)) p e in
    by (renamed (find t.decls) t.body) refl first.0 first.1
  where
    by : (r : Result (StatementList Slot) ℕ) → renamed (find t.decls) t.body ≡ r → repeated [] t.decls ≡ None →
        program_with t.decls (misused (find t.decls) t.body) r ≡ Ok p → IsResolved t p
    by (Err at) h f g = cc
    by (Ok body) h f g =
        let q : Program = record {
          names = cell_names t.decls;
          inits = cell_words t.decls;
          vars = variable_count t.decls;
          body = body;
        } in
        let well_used = unrefused errors.Array (misused (find t.decls) t.body)
        (refused_at errors.Length (wrong_length t.decls) (limited q)) p g in
        let size = unrefused errors.Length (wrong_length t.decls) (limited q) p well_used.1 in
        let l = limited_program q p size.1 in
        record {
          body = body;
          fresh = f;
          renames = h;
          used = well_used.0;
          lengths = size.0;
          is = l.0;
          limits = subst IsWithinLimits l.0 l.1;
        }

-- what a name refers to exists, counting one cell for each initial word
found_there : (ds : List Declared) → wrong_length ds ≡ None → (t : List ℕ) (s : Slot) → find ds t ≡ Some s →
    AnyFits (length (cell_words ds)) (variable_count ds) s
found_there ds ok t s e =
    let c : 0 + cell_count ds ≡ length (cell_words ds) = omega (arith, count_words ds) in
    let v : 0 + variable_count ds ≡ variable_count ds = omega arith in
    subst (λ k. AnyFits k (variable_count ds) s) c
    (subst (λ k. AnyFits (0 + cell_count ds) k s) v (found_fits 0 0 ds t s ok e))

-- each program of a text is proper
pub program_is_proper : (text : List ℕ) (p : Program) → IsProgramOf text p → IsProper p
program_is_proper text p h =
    let t = h.0 in
    let r = resolved_program t p h.2 in
    let fit = source_fits text t h.1 in
    subst IsProper r.is (record {
      names = names_lawful t.decls fit.declarations r.lengths;
      differ = names_differ t.decls fit.declarations r.lengths r.fresh;
      as_many = count_names t.decls ∙ sym (count_words t.decls);
      words = words_fit t.decls fit.declarations;
      fits = statements_fit (find t.decls) (length (cell_words t.decls)) (variable_count t.decls)
          (found_there t.decls r.lengths) t.body r.body fit.literals r.used r.renames;
      limits = subst IsWithinLimits (sym r.is) r.limits;
    })
