-- What a tree resolves to, given what the code knows about it.
use Rattle.std.proofs.Common.{◌≡◌, ◌≢◌, ℕ, ◌+◌, ◌<◌, ◌≤◌, Bool, true, false, List, [], length, map, Some, None, Result}
use Rattle.std.proofs.Common.{Ok, Err, nat_lt, if◌then◌else◌, refl, sym, ap, ◌∙◌, subst, arith}
use Rattle.std.proofs.lemmas.Bool.{lt-ltb, ltb-true}
use Rattle.std.proofs.lemmas.List.{length-map}
use Rattle.ft_syntax.specs.declared.decl.Decl.{Decl}
use Rattle.ft_syntax.specs.declared.spot.Spot.{Spot}
use Rattle.ft_syntax.specs.declared.stmt.Stmt.{Stmt}
use Rattle.ft_syntax.specs.declared.source_error.SourceError.{SourceError}
use Rattle.ft_syntax.specs.declared.source_error.SourceError.TheVariants.{Twice, Unknown, Array, Length, Cells}
use Rattle.ft_syntax.specs.declared.source_error.SourceError.TheVariants.{Registers, Weight, NoMemory}
use Rattle.ft_syntax.specs.Plain.{StatementList, plain_list}
use Rattle.ft_syntax.specs.Size.{statement_nodes, node_count}
use Rattle.ft_syntax.specs.Syntax.{SyntaxTree, declared_list, named}
use Rattle.ft_syntax.specs.TreeOf.{tree_from}
use Rattle.ft_syntax.proofs.DeclaredLists.{declared_length}
use Rattle.ft_scope.specs.declared.slot.Slot.{Slot}
use Rattle.ft_scope.specs.declared.names.Names.{Names}
use Rattle.ft_scope.specs.CellNames.{cell_names, joined_names}
use Rattle.ft_scope.specs.Scope.{find, repeated, renamed, misused, wrong_length, cell_words, cell_count, variable_count}
use Rattle.ft_scope.specs.Size.{whole_need, whole_weight}
use Rattle.ft_scope.specs.Resolved.{Program, program_need, program_weight, refused_above, limited, program_with}
use Rattle.ft_scope.specs.Resolved.{refused_at, resolved}
use Rattle.ft_scope.specs.Held.{Holds, look, BreaksLimit}
use Rattle.ft_scope.specs.Renames.{Fails, AllFit, AnyFits}
use Rattle.ft_scope.specs.Made.{Made}
use Rattle.ft_scope.specs.declared.making.Cells.{Cells as MadeOf}
use Rattle.ft_scope.proofs.MadeCells.{count_texts, count_places, count_words, made_names}
use Rattle.ft_scope.proofs.Found.{counts_within, count_within}
use Rattle.ft_scope.proofs.Narrowed.{Exact, fails_exactly, gives_exactly, gives_the_same, table_fits, misuse_exactly}

above : (limit n : ℕ) (e : SourceError) (other : Result Program SourceError) → limit < n → refused_above limit n e other
    ≡ Err e
above limit n e other h = ap (λ b. if b then Err e else other) (lt-ltb limit n h)

within : (limit n : ℕ) (e : SourceError) (other : Result Program SourceError) → n ≤ limit →
    refused_above limit n e other ≡ other
within limit n e other h = by (nat_lt limit n) refl
  where
    by : (b : Bool) → nat_lt limit n ≡ b → (if b then Err e else other) ≡ other
    by true g = absurd (omega (arith, ltb-true limit n g))
    by false g = refl

-- a tree of at most 1,048,576 nodes has at most that many declarations and statement nodes together
pub small_parts : (ds : List Decl) (ss : List (Stmt Spot)) → node_count ds ss ≤ 1048576 →
    length ds + statement_nodes (plain_list named ss) ≤ 1048576
unfolding node_count
small_parts ds ss h = h

-- a tree of at most 1,048,576 nodes has at most that many variables
pub few_variables : (ds : List Decl) (ss : List (Stmt Spot)) (n : Names) → node_count ds ss ≤ 1048576 →
    Holds n (declared_list ds) → n.vars ≤ 1048576
few_variables ds ss n tiny held = omega (
  arith,
  held.vars,
  counts_within (declared_list ds),
  declared_length ds,
  small_parts ds ss tiny,
)

-- the renamed statements of a tree of at most 1,048,576 nodes have at most that many nodes
pub few_nodes : (ds : List Decl) (ss : List (Stmt Spot)) (b : StatementList Slot) → node_count ds ss ≤ 1048576 →
    statement_nodes b ≡ statement_nodes (plain_list named ss) → statement_nodes b ≤ 1048576
few_nodes ds ss b tiny same = omega (arith, same, small_parts ds ss tiny)

-- a tree with an unknown name is refused for it
pub unknown : (ds : List Decl) (ss : List (Stmt Spot)) (n : Names) (e : SourceError) → Holds n (declared_list ds) →
    repeated [] (declared_list ds) ≡ None → Fails e (renamed (look n) (plain_list named ss)) → e ≢ NoMemory →
    resolved (tree_from ds ss) ≡ Err e
unknown ds ss n (Unknown at) held fresh h ne =
    let t = tree_from ds ss in
    ap (λ o. refused_at Twice o (program_with t.decls (misused (find t.decls) t.body) (renamed (find t.decls) t.body)))
    fresh
    ∙ ap (program_with t.decls (misused (find t.decls) t.body))
    (fails_exactly (declared_list ds) (look n) (plain_list named ss) at held.slots h)
unknown ds ss n NoMemory held fresh h ne = absurd (ne refl)
unknown ds ss n _ held fresh h ne = absurd h

-- what the code knows about a tree once its names are replaced
pub record Renamed (t : SyntaxTree) (n : Names) (b : StatementList Slot) : Type 0 where
  pub held : Holds n t.decls
  pub fresh : repeated [] t.decls ≡ None
  pub given : renamed (look n) t.body ≡ Ok b

module _ (t : SyntaxTree) (n : Names) (b : StatementList Slot) (r : Renamed t n b) where
  Y : Exact t.decls t.body b
  Y = gives_exactly t.decls (look n) t.body b r.held.slots r.given

  after_names : (x : StatementList Slot) → renamed (find t.decls) t.body ≡ Ok x → resolved t
      ≡ program_with t.decls (misused (look n) t.body) (Ok x)
  after_names x h =
      ap (λ o. refused_at Twice o (program_with t.decls (misused (find t.decls) t.body)
      (renamed (find t.decls) t.body))) r.fresh
      ∙ ap (program_with t.decls (misused (find t.decls) t.body)) h
      ∙ ap (λ o. program_with t.decls o (Ok x)) (sym (misuse_exactly t.decls (look n) t.body r.held.slots))

  -- a tree with a misused name is refused for it
  pub misuses : (at : ℕ) → misused (look n) t.body ≡ Some at → resolved t ≡ Err (Array at)
  misuses at h = after_names Y.body Y.is ∙ ap (λ o. program_with t.decls o (Ok Y.body)) h

  program : StatementList Slot → Program
  program x = record { names = cell_names t.decls; inits = cell_words t.decls; vars = variable_count t.decls; body = x }

  module _ (used : misused (look n) t.body ≡ None) where
    after_use : (x : StatementList Slot) → renamed (find t.decls) t.body ≡ Ok x → resolved t
        ≡ refused_at Length (wrong_length t.decls) (limited (program x))
    unfolding program
    after_use x h = after_names x h ∙ ap (λ o. program_with t.decls o (Ok x)) used

    -- a tree with a wrong length is refused for it
    pub wrong : (at : ℕ) → wrong_length t.decls ≡ Some at → resolved t ≡ Err (Length at)
    wrong at h = after_use Y.body Y.is ∙ ap (λ o. refused_at Length o (limited (program Y.body))) h

    module _ (lengths : wrong_length t.decls ≡ None) (small : length t.decls ≤ 1048576) where
      whole : (x : StatementList Slot) → renamed (find t.decls) t.body ≡ Ok x → resolved t ≡ limited (program x)
      whole x h = after_use x h ∙ ap (λ o. refused_at Length o (limited (program x))) lengths

      need_of : whole_need n.vars b ≡ program_need (program Y.body)
      unfolding program
      need_of = omega (arith, Y.need, r.held.vars)

      weight_of : whole_weight n.vars b ≡ program_weight (program Y.body)
      unfolding program
      weight_of = omega (arith, Y.weight, r.held.vars)

      cells_of : n.cells ≡ length (cell_words t.decls)
      cells_of = omega (arith, r.held.cells, count_words t.decls, count_within t.decls lengths, small)

      -- a tree that breaks a limit is refused for it
      pub breaks : (e : SourceError) → BreaksLimit e n.cells n.vars b → resolved t ≡ Err e
      unfolding program
      breaks (Cells m) h =
          let same : length (cell_words t.decls) ≡ m = omega (arith, h.0, cells_of) in
          whole Y.body Y.is ∙ above 1024 (length (cell_words t.decls)) _ _ (omega (arith, h.1, cells_of))
          ∙ ap (λ c. Err (Cells c)) same
      breaks (Registers m) h =
          let same : program_need (program Y.body) ≡ m = omega (arith, h.1, need_of) in
          whole Y.body Y.is ∙ within 1024 (length (cell_words t.decls)) _ _ (omega (arith, h.0, cells_of))
          ∙ above 32 (program_need (program Y.body)) _ _ (omega (arith, h.2, same)) ∙ ap (λ c. Err (Registers c)) same
      breaks (Weight m) h =
          let same : program_weight (program Y.body) ≡ m = omega (arith, h.2, weight_of) in
          whole Y.body Y.is ∙ within 1024 (length (cell_words t.decls)) _ _ (omega (arith, h.0, cells_of))
          ∙ within 32 (program_need (program Y.body)) _ _ (omega (arith, h.1, need_of))
          ∙ above 65536 (program_weight (program Y.body)) _ _ (omega (arith, h.3, same)) ∙ ap (λ c. Err (Weight c)) same
      breaks _ h = absurd h

      module _ (made : MadeOf) (is : Made made t.decls) where
        -- a tree within the limits resolves to the program that was made
        pub resolves : n.cells ≤ 1024 → whole_need n.vars b ≤ 32 → whole_weight n.vars b ≤ 65536 →
            resolved t ≡ Ok (record {
              names = joined_names (map (λ r. r.now) made.names.items) made.places.items;
              inits = made.inits.items;
              vars = n.vars;
              body = b;
            })
        unfolding program
        resolves c m w =
            let v = r.held.vars in
            let little : cell_count t.decls ≤ 1024 = omega (arith, c, cells_of, count_words t.decls) in
            let few : variable_count t.decls ≤ 255 = omega (arith, m, v) in
            let f : program_need (program b) ≤ 32 = omega (arith, m, v) in
            let g : program_weight (program b) ≤ 65536 = omega (arith, w, v) in
            whole b (gives_the_same t.decls (look n) t.body b r.held.slots lengths little few r.given)
            ∙ within 1024 (length (cell_words t.decls)) _ _ (omega (arith, c, cells_of))
            ∙ within 32 (program_need (program b)) _ _ f
            ∙ within 65536 (program_weight (program b)) _ _ g
            ∙ ap (λ ns. Ok (record { names = ns; inits = cell_words t.decls; vars = variable_count t.decls; body = b }))
            (sym (made_names made t.decls is))
            ∙ ap (λ is. Ok (record {
              names = joined_names (map (λ r. r.now) made.names.items) made.places.items;
              inits = is;
              vars = variable_count t.decls;
              body = b;
            })) (sym is.inits)
            ∙ ap (λ vs. Ok (record {
              names = joined_names (map (λ r. r.now) made.names.items) made.places.items;
              inits = made.inits.items;
              vars = vs;
              body = b;
            })) (sym r.held.vars)

        -- a slot that the table returns exists
        pub all_fit : AllFit (look n) (length made.inits.items) n.vars
        all_fit text s h =
            let c : length made.inits.items ≡ cell_count t.decls = ap length is.inits ∙ count_words t.decls in
            subst (λ x. AnyFits x n.vars s) (sym c) (subst (λ y. AnyFits (cell_count t.decls) y s) (sym r.held.vars)
            (table_fits t.decls (look n) text s lengths r.held.slots h))

        -- there are as many names and places as initial words
        pub as_many : length made.names.items ≡ length made.inits.items
        as_many = sym (length-map made.names.items (λ r. r.now)) ∙ ap length is.names ∙ count_texts t.decls
            ∙ sym (ap length is.inits ∙ count_words t.decls)

        pub as_many_places : length made.places.items ≡ length made.inits.items
        as_many_places = ap length is.places ∙ count_places t.decls ∙ sym (ap length is.inits ∙ count_words t.decls)

        pub few_cells : n.cells ≤ 1024 → length made.inits.items ≤ 1024
        few_cells c = omega (arith, c, cells_of, ap length is.inits)
