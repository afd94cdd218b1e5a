-- A list of tokens has at most one outcome.
use Rattle.std.proofs.Common.{◌≡◌, ℕ, false, List, [], ◌∷◌, ◌++◌, Some, Ok, Err, refl, sym, ap, ◌∙◌, append-nil, ⊎_elim}
use Rattle.std.specs.Prelude.{option_and_then}
use Rattle.ft_lexer.specs.Scan.{Lexeme}
use Rattle.ft_syntax.specs.Machine.{State, decls, step, final, go_on, at_end, walk}
use Rattle.ft_syntax.specs.Limits.{Tally, tally, deep}
use Rattle.ft_syntax.specs.Refusal.{syntax_at, deep_at, Answer}
use Rattle.ft_syntax.specs.Limits.{nothing_open, tallied, IsShallow}
use Rattle.ft_syntax.specs.Refusal.{StopsAt, Lacks, DeepAt, Judged}
use Rattle.ft_syntax.proofs.Complete.{complete}
use Rattle.ft_syntax.proofs.Reached.{steps, sound, viable, viable_steps, accepted_steps, steps_append, option_case}
use Rattle.ft_syntax.proofs.Judged.{accepted}

through : (s s' : State) (ts us : List Lexeme) (c : Tally) (end : ℕ) → steps s ts ≡ Some s' → IsShallow c ts →
    walk end c s (ts ++ us) ≡ walk end (tallied c ts) s' us
through s s' [] us c end h k = let e : s ≡ s' = cc in ap (λ v. walk end c v us) e
through s s' (t ∷ ts) us c end h k = ⊎_elim
    (λ none. let e = ap (option_and_then (λ v. steps v ts)) none in absurd (cc))
    (λ (s1, some).
    let go : steps s1 ts ≡ Some s' = sym (ap (option_and_then (λ v. steps v ts)) some) ∙ h in
    let rest : State → Answer = λ v. walk end (tally t.kind c) v (ts ++ us) in
    ap (λ d. go_on t d (step s t) rest) k.0 ∙ ap (λ o. go_on t false o rest) some
    ∙ through s1 s' ts us (tally t.kind c) end go k.1)
    (option_case (step s t))

through_all : (s : State) (ts : List Lexeme) (end : ℕ) → steps (decls []) ts ≡ Some s → IsShallow nothing_open ts →
    walk end nothing_open (decls []) ts ≡ at_end end (final s)
through_all s ts end h k = ap (walk end nothing_open (decls [])) (sym (append-nil ts))
    ∙ through (decls []) s ts [] nothing_open end h k

stops_at : (ts : List Lexeme) (end at : ℕ) → StopsAt ts at → walk end nothing_open (decls []) ts ≡ Err (syntax_at at)
stops_at ts end at q =
    let r = viable_steps q.before q.viable in
    let c = tallied nothing_open q.before in
    let rest : State → Answer = λ v. walk end (tally q.lexeme.kind c) v q.after in
    ap (walk end nothing_open (decls [])) q.whole
    ∙ through (decls []) r.0 q.before (q.lexeme ∷ q.after) nothing_open end r.1 q.shallow
    ∙ ⊎_elim
    (λ none. ap (λ o. go_on q.lexeme (deep q.lexeme.kind c) o rest) none ∙ ap (λ v. Err (syntax_at v)) (sym q.place))
    (λ (s1, some). absurd (q.stops (viable (q.before ++ q.lexeme ∷ []) s1
    (steps_append (decls []) r.0 q.before (q.lexeme ∷ []) r.1 ∙ ap (option_and_then (λ v. Some v)) some))))
    (option_case (step r.0 q.lexeme))

lacks : (ts : List Lexeme) (end at : ℕ) → Lacks ts end at → walk end nothing_open (decls []) ts ≡ Err (syntax_at at)
lacks ts end at q =
    let r = viable_steps ts q.viable in
    through_all r.0 ts end r.1 q.shallow
    ∙ ⊎_elim
    (λ none. ap (at_end end) none ∙ ap (λ v. Err (syntax_at v)) (sym q.place))
    (λ (p, some). absurd (q.no_tree p (sound ts p (accepted (decls []) r.0 ts (Some p) r.1 some))))
    (option_case (final r.0))

last_two : (s : State) (t : Lexeme) (s2 : State) → steps s (t ∷ []) ≡ Some s2 → step s t ≡ Some s2
last_two s t s2 h = ⊎_elim
    (λ none. let e = ap (option_and_then (λ (v : State). Some v)) none in absurd (cc))
    (λ (s1, some). let e = ap (option_and_then (λ (v : State). Some v)) some in cc)
    (option_case (step s t))

-- if the machine gets through some tokens, it has a state before the last one
before_one : (s : State) (ts : List Lexeme) (t : Lexeme) (s2 : State) → steps s (ts ++ t ∷ []) ≡ Some s2 → (s1 : State)
    × (steps s ts ≡ Some s1) × (step s1 t ≡ Some s2)
before_one s [] t s2 h = (s, refl, last_two s t s2 h)
before_one s (x ∷ ts) t s2 h = ⊎_elim
    (λ none. let e = ap (option_and_then (λ v. steps v (ts ++ t ∷ []))) none in absurd (cc))
    (λ (s1, some).
    let go : steps s1 (ts ++ t ∷ []) ≡ Some s2 = sym (ap (option_and_then (λ v. steps v (ts ++ t ∷ []))) some) ∙ h in
    let r = before_one s1 ts t s2 go in
    (r.0, ap (option_and_then (λ v. steps v ts)) some ∙ r.1, r.2))
    (option_case (step s x))

deep_one : (ts : List Lexeme) (end at : ℕ) → DeepAt ts at → walk end nothing_open (decls []) ts ≡ Err (deep_at at)
deep_one ts end at q =
    let all = viable_steps (q.before ++ q.lexeme ∷ []) q.viable in
    let c = tallied nothing_open q.before in
    let rest : State → Answer = λ v. walk end (tally q.lexeme.kind c) v q.after in
    let r = before_one (decls []) q.before q.lexeme all.0 all.1 in
    ap (walk end nothing_open (decls [])) q.whole
    ∙ through (decls []) r.0 q.before (q.lexeme ∷ q.after) nothing_open end r.1 q.shallow
    ∙ ap (λ o. go_on q.lexeme (deep q.lexeme.kind c) o rest) r.2
    ∙ ap (λ d. go_on q.lexeme d (Some all.0) rest) q.deep ∙ ap (λ v. Err (deep_at v)) (sym q.place)

-- a list of tokens has the machine's outcome and no other
pub judged_only : (ts : List Lexeme) (end : ℕ) (r : Answer) → Judged ts end r → walk end nothing_open (decls []) ts ≡ r
judged_only ts end (Ok p) (d, k) =
    let a = accepted_steps (decls []) ts p (complete ts p d) in
    through_all a.0 ts end a.1 k ∙ ap (at_end end) a.2
judged_only ts end (Err (syntax_at at)) h = ⊎_elim (stops_at ts end at) (lacks ts end at) h
judged_only ts end (Err (deep_at at)) h = deep_one ts end at h
