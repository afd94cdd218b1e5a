-- Puts of several groups of lines, as one change of a sink's record.
use Rattle.std.proofs.Common.{subst, ◌≡◌, ◌≢◌, ℕ, ◌≤◌, List, [], ◌∷◌, ◌++◌, Option, Result, Ok, Err, OnOk, OnErr, refl}
use Rattle.std.proofs.Common.{ap, sym, ◌∙◌, append_assoc, append-nil}
use Rattle.std.specs.Prelude.{IsErr}
use Rattle.std.specs.List.{concat}
use Rattle.std.proofs.lemmas.List.Folds.{concat-append}
use Rattle.std.specs.Io.KnownBytes.{append_known}
use Rattle.ft_edge.specs.Causes.{Rose, AddsPrefix}
use Rattle.ft_edge.specs.declared.failed.Failed.{Failed}
use Rattle.ft_edge.specs.Told.{append_told}
use Rattle.ft_edge.specs.Logs.{SinkLog}
use Rattle.ft_edge.specs.Lines.{with_lines, FailsPut, BreaksOff, PutEnd, AllPut, PutFailed, NothingPut, Puts}
use Rattle.ft_edge.specs.Lines.{end_of_puts}
use Rattle.ft_edge.proofs.Appended.{known_more, known_none, told_more, told_none}

-- two records with equal parts are equal
pub same_log : {w w' : Option (List ℕ)} {p p' : Option (List (List ℕ))} {n n' : ℕ} → w ≡ w' → p ≡ p' → n ≡ n'
    → ◌≡◌ {A = SinkLog} (record { written = w; pieces = p; failures = n }) (record {
      written = w';
      pieces = p';
      failures = n';
    })
same_log a b c = λ i. record { written = a i; pieces = b i; failures = c i }

-- putting no lines leaves the record unchanged
pub lines_none : (log : SinkLog) → log ≡ with_lines [] log
lines_none log = same_log (known_none log.written) (told_none log.pieces) refl

-- putting some lines and then others has the same effect as putting all of them
pub lines_more : (xs ys : List (List ℕ)) (log : SinkLog) → with_lines ys (with_lines xs log) ≡ with_lines (xs ++ ys) log
lines_more xs ys log =
    same_log (known_more log.written (concat xs) (concat ys)
    ∙ ap (append_known log.written) (sym (concat-append xs ys)))
    (told_more log.pieces xs ys) refl

pub lines_then : (xs ys : List (List ℕ)) (old mid new : SinkLog) → mid ≡ with_lines xs old → new ≡ with_lines ys mid →
    new ≡ with_lines (xs ++ ys) old
lines_then xs ys old mid new h i = i ∙ ap (with_lines ys) h ∙ lines_more xs ys old

-- if one line was put, the new record is the old one with that line
pub line_put : (line : List ℕ) (old new : SinkLog) → new.written ≡ append_known old.written line → new.pieces
    ≡ append_told old.pieces (line ∷ []) → new.failures ≡ old.failures → new ≡ with_lines (line ∷ []) old
line_put line old new w p n = same_log (w ∙ ap (append_known old.written) (sym (append-nil line))) p n

-- if the put of the only line fails, the puts break off
pub line_breaks : (line : List ℕ) (old new : SinkLog) → FailsPut line old new → BreaksOff (line ∷ []) old new
line_breaks line old new h = record {
  done = [];
  line = line;
  rest = [];
  whole = refl;
  fails = subst (λ log. FailsPut line log new) (lines_none old) h;
}

-- the put of a single line ends like a call that writes one line
pub line_puts : (r : Result (Unit {0}) Failed) (line : List ℕ) (old new : SinkLog) → new.pieces
    ≡ append_told old.pieces (line ∷ []) → old.failures ≤ new.failures
    → OnOk r (new.failures ≡ old.failures) → OnOk r (new.written ≡ append_known old.written line) →
    OnErr r (AddsPrefix old.written new.written line) → OnErr r (Rose old.failures new.failures)
    → Puts (end_of_puts r) (line ∷ []) old new
line_puts (Ok done) line old new pieces count same written front rose = line_put line old new written pieces same
line_puts (Err failed) line old new pieces count same written front rose =
    line_breaks line old new (record { written = front; pieces = pieces; count = count; rose = rose })

-- if some lines were put, and the puts of the others broke off, the puts of all of them broke off
pub breaks_then : (xs ys : List (List ℕ)) (old mid new : SinkLog) → mid ≡ with_lines xs old → BreaksOff ys mid new →
    BreaksOff (xs ++ ys) old new
breaks_then xs ys old mid new h i = record {
  done = xs ++ i.done;
  line = i.line;
  rest = i.rest;
  whole = ap (λ l. xs ++ l) i.whole ∙ sym (append_assoc xs i.done (i.line ∷ i.rest));
  fails = subst (λ log. FailsPut i.line log new) (ap (with_lines i.done) h ∙ lines_more xs i.done old) i.fails;
}

-- if the puts of some lines broke off, so did the puts of these lines followed by more
pub breaks_before : (xs more : List (List ℕ)) (old new : SinkLog) → BreaksOff xs old new →
    BreaksOff (xs ++ more) old new
breaks_before xs more old new h = record {
  done = h.done;
  line = h.line;
  rest = h.rest ++ more;
  whole = ap (λ l. l ++ more) h.whole ∙ append_assoc h.done (h.line ∷ h.rest) more;
  fails = h.fails;
}

-- if some lines were put, and the put of the next one failed, the puts of all lines broke off
pub breaks_at : (all done : List (List ℕ)) (line : List ℕ) (rest : List (List ℕ)) (old mid new : SinkLog) → all ≡ done
    ++ line ∷ rest → mid ≡ with_lines done old → BreaksOff (line ∷ []) mid new → BreaksOff all old new
breaks_at all done line rest old mid new e h i =
    subst (λ lines. BreaksOff lines old new) (sym e)
    (breaks_then done (line ∷ rest) old mid new h (breaks_before (line ∷ []) rest mid new i))

-- if some lines were put, the puts of all lines end in the same way as the puts of the remaining lines
pub puts_then : (e : PutEnd) (xs ys : List (List ℕ)) (old mid new : SinkLog) → e ≢ NothingPut → mid
    ≡ with_lines xs old → Puts e ys mid new → Puts e (xs ++ ys) old new
puts_then AllPut xs ys old mid new made h i = lines_then xs ys old mid new h i
puts_then PutFailed xs ys old mid new made h i = breaks_then xs ys old mid new h i
puts_then NothingPut xs ys old mid new made h i = absurd (made refl)

-- a call that returns an error only if a put failed does not give up before its first put
pub made_by : {A E : Type 0} (r : Result A E) → end_of_puts r ≢ NothingPut
made_by (Ok done) e = cc
made_by (Err failed) e = cc

-- if a put failed, what was written is a prefix of the whole text
pub broken_text : (lines : List (List ℕ)) (old new : SinkLog) → BreaksOff lines old new →
    AddsPrefix old.written new.written (concat lines)
broken_text lines old new h =
    let text = ap concat h.whole ∙ concat-append h.done (h.line ∷ h.rest) in
    let w = h.fails.written in
    record {
      front = concat h.done ++ w.front;
      rest = w.rest ++ concat h.rest;
      whole =
          text ∙ ap (λ l. concat h.done ++ (l ++ concat h.rest)) w.whole
          ∙ ap (λ l. concat h.done ++ l) (append_assoc w.front w.rest (concat h.rest))
          ∙ sym (append_assoc (concat h.done) w.front (w.rest ++ concat h.rest));
      added = w.added ∙ known_more old.written (concat h.done) w.front;
    }

-- if a call returns an error and its puts broke off, they end as the result says
pub puts_failed : {A E : Type 0} (r : Result A E) (lines : List (List ℕ)) (old new : SinkLog) → IsErr r →
    BreaksOff lines old new → Puts (end_of_puts r) lines old new
puts_failed (Ok done) lines old new is h = absurd (cc)
puts_failed (Err failed) lines old new is h = h
