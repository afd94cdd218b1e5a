-- The machine's outcome is what the grammar and the limits say.
use Rattle.std.proofs.Common.{◌≡◌, ℕ, Bool, true, false, List, [], ◌∷◌, ◌++◌, Option, Some, None, Result, Ok, Err, refl}
use Rattle.std.proofs.Common.{ap, ◌∙◌, subst, ◌⊎◌, inl, inr, ⊎_elim}
use Rattle.std.specs.Prelude.{option_and_then}
use Rattle.ft_lexer.specs.Scan.{Lexeme}
use Rattle.std.specs.Prelude.{IfOk, IfErr}
use Rattle.std.proofs.Common.{Vec, Global}
use Rattle.ft_syntax.specs.declared.decl.Decl.{Decl}
use Rattle.ft_syntax.specs.declared.stmt.Stmt.{Stmt}
use Rattle.ft_syntax.specs.declared.spot.Spot.{Spot}
use Rattle.ft_syntax.specs.declared.source_error.SourceError.{SourceError}
use Rattle.ft_syntax.specs.declared.source_error.SourceError.TheVariants.{TooLong, Byte, Number, Syntax, Deep, Twice}
use Rattle.ft_syntax.specs.declared.source_error.SourceError.TheVariants.{Unknown, Array, Length, Cells, Registers}
use Rattle.ft_syntax.specs.declared.source_error.SourceError.TheVariants.{Weight, NoMemory}
use Rattle.ft_syntax.specs.Syntax.{SyntaxTree}
use Rattle.ft_syntax.specs.TreeOf.{tree_from}
use Rattle.ft_syntax.specs.View.{Refuses, RefusedBy}
use Rattle.ft_syntax.specs.Machine.{State, decls, step, final, go_on, at_end, walk}
use Rattle.ft_syntax.specs.Limits.{Tally, tally, deep}
use Rattle.ft_syntax.specs.Refusal.{syntax_at, deep_at, Answer}
use Rattle.ft_syntax.specs.Limits.{nothing_open, tallied, IsShallow}
use Rattle.ft_syntax.specs.Refusal.{Judged}
use Rattle.ft_syntax.proofs.Complete.{accepts, complete}
use Rattle.ft_syntax.proofs.Reached.{steps, sound, viable, not_viable}

pub record Stuck (c : Tally) (s : State) (ts : List Lexeme) (at : ℕ) : Type 0 where
  pub before : List Lexeme
  pub token : Lexeme
  pub after : List Lexeme
  pub state : State
  pub whole : ts ≡ before ++ token ∷ after
  pub place : at ≡ token.at
  pub run : steps s before ≡ Some state
  pub stuck : step state token ≡ None
  pub shallow : IsShallow c before

pub record Open (c : Tally) (s : State) (ts : List Lexeme) (end at : ℕ) : Type 0 where
  pub state : State
  pub run : steps s ts ≡ Some state
  pub no_end : final state ≡ None
  pub place : at ≡ end
  pub shallow : IsShallow c ts

pub record Deepens (c : Tally) (s : State) (ts : List Lexeme) (at : ℕ) : Type 0 where
  pub before : List Lexeme
  pub token : Lexeme
  pub after : List Lexeme
  pub state : State
  pub whole : ts ≡ before ++ token ∷ after
  pub place : at ≡ token.at
  pub run : steps s (before ++ token ∷ []) ≡ Some state
  pub shallow : IsShallow c before
  pub deep : deep token.kind (tallied c before) ≡ true

pub record Ended (c : Tally) (s : State) (ts : List Lexeme) (p : SyntaxTree) : Type 0 where
  pub state : State
  pub run : steps s ts ≡ Some state
  pub ended : final state ≡ Some p
  pub shallow : IsShallow c ts

abbrev Outcome : Tally → State → List Lexeme → ℕ → Answer → Type 0
Outcome c s ts end (Ok p) = Ended c s ts p
Outcome c s ts end (Err (syntax_at at)) = Stuck c s ts at ⊎ Open c s ts end at
Outcome c s ts end (Err (deep_at at)) = Deepens c s ts at

along : (s s' : State) (t : Lexeme) (ts : List Lexeme) (r : Option State) → step s t ≡ Some s' → steps s' ts ≡ r →
    steps s (t ∷ ts) ≡ r
along s s' t ts r h g = ap (option_and_then (λ v. steps v ts)) h ∙ g

one_more : (c : Tally) (s s' : State) (t : Lexeme) (ts : List Lexeme) (end : ℕ) (r : Answer) → step s t ≡ Some s' →
    deep t.kind c ≡ false → Outcome (tally t.kind c) s' ts end r → Outcome c s (t ∷ ts) end r
one_more c s s' t ts end (Ok p) h d o = record {
  state = o.state;
  run = along s s' t ts _ h o.run;
  ended = o.ended;
  shallow = (d, o.shallow);
}
one_more c s s' t ts end (Err (syntax_at at)) h d o = ⊎_elim
    (λ q. inl (record {
      before = t ∷ q.before;
      token = q.token;
      after = q.after;
      state = q.state;
      whole = ap (λ v. t ∷ v) q.whole;
      place = q.place;
      run = along s s' t q.before _ h q.run;
      stuck = q.stuck;
      shallow = (d, q.shallow);
    }))
    (λ q. inr (record {
      state = q.state;
      run = along s s' t ts _ h q.run;
      no_end = q.no_end;
      place = q.place;
      shallow = (d, q.shallow);
    })) o
one_more c s s' t ts end (Err (deep_at at)) h d q =
    record {
      before = t ∷ q.before;
      token = q.token;
      after = q.after;
      state = q.state;
      whole = ap (λ v. t ∷ v) q.whole;
      place = q.place;
      run = along s s' t (q.before ++ q.token ∷ []) _ h q.run;
      shallow = (d, q.shallow);
      deep = q.deep;
    }

at_the_end : (c : Tally) (s : State) (end : ℕ) (o : Option SyntaxTree) → final s ≡ o → Outcome c s [] end (at_end end o)
at_the_end c s end None h = inr (record { state = s; run = refl; no_end = h; place = refl; shallow = tt })
at_the_end c s end (Some p) h = record { state = s; run = refl; ended = h; shallow = tt }

at_one : (ts : List Lexeme) (t : Lexeme) (c : Tally) (s : State) (end : ℕ) (o : Option State) (d : Bool) → step s t
    ≡ o → deep t.kind c ≡ d → ((c : Tally) (s : State) → Outcome c s ts end (walk end c s ts)) →
    Outcome c s (t ∷ ts) end (go_on t d o (λ s'. walk end (tally t.kind c) s' ts))
at_one ts t c s end None d h g rest = inl (record {
  before = [];
  token = t;
  after = ts;
  state = s;
  whole = refl;
  place = refl;
  run = refl;
  stuck = h;
  shallow = tt;
})
at_one ts t c s end (Some s') true h g rest = record {
  before = [];
  token = t;
  after = ts;
  state = s';
  whole = refl;
  place = refl;
  run = along s s' t [] _ h refl;
  shallow = tt;
  deep = g;
}
at_one ts t c s end (Some s') false h g rest = one_more c s s' t ts end (walk end (tally t.kind c) s' ts) h g
    (rest (tally t.kind c) s')

outcome : (ts : List Lexeme) (c : Tally) (s : State) (end : ℕ) → Outcome c s ts end (walk end c s ts)
outcome [] c s end = at_the_end c s end (final s) refl
outcome (t ∷ ts) c s end = at_one ts t c s end (step s t) (deep t.kind c) refl refl (λ c s. outcome ts c s end)

accepted_one : (s' : State) (ts : List Lexeme) (r : Option SyntaxTree) (o : Option State) →
    option_and_then (λ v. steps v ts) o ≡ Some s' → ((s : State) → steps s ts ≡ Some s' → accepts s ts ≡ r) →
    option_and_then (λ v. accepts v ts) o ≡ r
accepted_one s' ts r None h rest = cc
accepted_one s' ts r (Some s1) h rest = rest s1 h

pub accepted : (s s' : State) (ts : List Lexeme) (r : Option SyntaxTree) → steps s ts ≡ Some s' → final s' ≡ r →
    accepts s ts ≡ r
accepted s s' [] r h g = let e : s ≡ s' = cc in ap final e ∙ g
accepted s s' (t ∷ ts) r h g = accepted_one s' ts r (step s t) h (λ s1 h1. accepted s1 s' ts r h1 g)

judge : (ts : List Lexeme) (end : ℕ) (r : Answer) → Outcome nothing_open (decls []) ts end r → Judged ts end r
judge ts end (Ok p) o = (sound ts p (accepted (decls []) o.state ts (Some p) o.run o.ended), o.shallow)
judge ts end (Err (syntax_at at)) o = ⊎_elim
    (λ q. inl (record {
      before = q.before;
      lexeme = q.token;
      after = q.after;
      whole = q.whole;
      place = q.place;
      viable = viable q.before q.state q.run;
      stops = not_viable q.before q.state q.token q.run q.stuck;
      shallow = q.shallow;
    }))
    (λ q. inr (record {
      place = q.place;
      viable = viable ts q.state q.run;
      no_tree = λ p d.
          let a = complete ts p d in
          let b = accepted (decls []) q.state ts None q.run q.no_end in cc;
      shallow = q.shallow;
    })) o
judge ts end (Err (deep_at at)) q = record {
  before = q.before;
  lexeme = q.token;
  after = q.after;
  whole = q.whole;
  place = q.place;
  viable = viable (q.before ++ q.token ∷ []) q.state q.run;
  shallow = q.shallow;
  deep = q.deep;
}

-- the machine's outcome is what the grammar and the limits say
pub judged : (ts : List Lexeme) (end : ℕ) → Judged ts end (walk end nothing_open (decls []) ts)
judged ts end = judge ts end (walk end nothing_open (decls []) ts) (outcome ts nothing_open (decls []) end)

pub judged_as : (ts : List Lexeme) (end : ℕ) (r : Answer) → walk end nothing_open (decls []) ts ≡ r → Judged ts end r
judged_as ts end r h = subst (Judged ts end) h (judged ts end)

abbrev pub Parts : Type 0
Parts = Vec Decl Global × Vec (Stmt Spot) Global

pub all_ok : (ts : List Lexeme) (end : ℕ) (r : Result Parts SourceError) →
    IfOk r (λ t. walk end nothing_open (decls []) ts ≡ Ok (tree_from t.0.items t.1.items)) →
    IfOk r (λ t. Judged ts end (Ok (tree_from t.0.items t.1.items)))
all_ok ts end (Ok t) h = judged_as ts end (Ok (tree_from t.0.items t.1.items)) h
all_ok ts end (Err e) h = tt

all_refused : (ts : List Lexeme) (end : ℕ) (e : SourceError) → Refuses e (walk end nothing_open (decls []) ts) →
    RefusedBy ts end e
all_refused ts end (Syntax at) h = judged_as ts end (Err (syntax_at at)) h
all_refused ts end (Deep at) h = judged_as ts end (Err (deep_at at)) h
all_refused ts end NoMemory h = tt
all_refused ts end TooLong h = h
all_refused ts end (Byte at) h = h
all_refused ts end (Number at) h = h
all_refused ts end (Twice at) h = h
all_refused ts end (Unknown at) h = h
all_refused ts end (Array at) h = h
all_refused ts end (Length at) h = h
all_refused ts end (Cells count) h = h
all_refused ts end (Registers need) h = h
all_refused ts end (Weight weight) h = h

pub all_err : (ts : List Lexeme) (end : ℕ) (r : Result Parts SourceError) →
    IfErr r (λ e. Refuses e (walk end nothing_open (decls []) ts)) → IfErr r (λ e. RefusedBy ts end e)
all_err ts end (Ok t) h = tt
all_err ts end (Err e) h = all_refused ts end e h
