-- What may be told of the program's own files and script, and what its sink took.
use Rattle.std.proofs.Common.{◌≡◌, ℕ, List, [], ◌∷◌, ◌++◌, Option, Some, None, refl, ap, sym, subst, ◌∙◌, append_assoc}
use Rattle.std.proofs.Common.{inl, inr, ◌⊎◌, ◌≢◌, Bool, true, false, nat_eq, rules}
use Rattle.std.specs.List.{concat}
use Rattle.std.specs.Io.KnownBytes.{append_known}
use Rattle.ft_edge.specs.Gathered.{IsFront}
use Rattle.ft_edge.specs.Logs.{SinkLog}
use Rattle.ft_edge.specs.Takes.{MayBeLeft}
use Rattle.ft_edge.proofs.Lines.{broken_text}
use Rattle.ft_tool.specs.Replies.{Answer}
use Rattle.ft_tool.specs.Answers.{Concludes, BreaksOff}
use Rattle.ft_tool.specs.Programs.{WritesFront}
use Rattle.ft_tool.specs.Known.{MayBegin, was_taken, joined}

-- the script of a call that is the first to read: what its reads returned, and what may be left
pub first_script : (known : Option (List ℕ)) (before after : List (List ℕ)) (rest : List ℕ) → before ≡ []
    → MayBeLeft after rest
    → MayBegin known (Some before) (Some after) (λ more. MayBeLeft after more) (Some (joined after ++ rest))
first_script known before after rest none may =
    was_taken before after rest (joined after ++ rest) refl refl may
    (ap (λ rs. joined rs ++ (joined after ++ rest)) none) refl

abbrev the_bytes : Option (List ℕ) → List ℕ
the_bytes None = []
the_bytes (Some bytes) = bytes

-- known bytes that were put into a sink without any are those that were added
added_bytes : (old new : Option (List ℕ)) (text text' bytes : List ℕ) → old ≡ Some text → new ≡ Some text' → text ≡ []
    → new ≡ append_known old bytes → text' ≡ bytes
added_bytes old new text text' bytes before after none added =
    ap the_bytes (sym after ∙ added ∙ ap (λ w. append_known w bytes) before) ∙ ap (λ xs. xs ++ bytes) none

-- a prefix of a prefix
front_twice : (front between rest whole : List ℕ) → IsFront front between → whole ≡ between ++ rest →
    IsFront front whole
front_twice front between rest whole h e =
    (h.0 ++ rest, e ∙ ap (λ xs. xs ++ rest) h.1 ∙ append_assoc front h.0 rest)

-- if a put failed, a prefix of what was put is a prefix of an answer's text
pub front_broken : (Is : Answer → Type 0) (old new : SinkLog) (text text' bytes : List ℕ) → BreaksOff Is old new
    → old.written ≡ Some text → new.written ≡ Some text' → text ≡ [] → IsFront bytes text' → WritesFront Is bytes
front_broken Is old new text text' bytes b before after none front =
    let p = broken_text b.answer.pieces old new b.broken in
    let same = added_bytes old.written new.written text text' p.front before after none p.added in
    record {
      answer = b.answer;
      is = b.is;
      front = front_twice bytes text' p.rest (concat b.answer.pieces) front (p.whole
          ∙ ap (λ xs. xs ++ p.rest) (sym same));
    }

-- if all was put, likewise
front_put : (Is : Answer → Type 0) (status : ℕ) (old new : SinkLog) (text text' bytes : List ℕ) →
    Concludes Is status old new
    → old.written ≡ Some text → new.written ≡ Some text' → text ≡ [] → IsFront bytes text' → WritesFront Is bytes
front_put Is status old new text text' bytes c before after none front =
    let same = added_bytes old.written new.written text text' (concat c.answer.pieces) before after none
    (ap (λ (log : SinkLog). log.written) c.put) in
    record { answer = c.answer; is = c.is; front = subst (λ whole. IsFront bytes whole) same front }

no_part : (xs ys : List ℕ) → xs ++ ys ≡ [] → ys ≡ []
no_part [] ys e = e
no_part (x ∷ xs) ys e = absurd (cc)

-- a sink with bytes in its buffer does not have the record of a sink without any
holds_some : (old new : SinkLog) (text text' done rest : List ℕ) → old.written ≡ Some text → new.written ≡ Some text'
    → text ≡ [] → text' ≡ done ++ rest → rest ≢ [] → new ≡ old → ⊥
holds_some old new text text' done rest before after none parts some same =
    some (no_part done rest (sym parts ∙ ap the_bytes (sym after ∙ ap (λ (log : SinkLog). log.written) same ∙ before)
    ∙ none))

same_or_not : (n k : ℕ) (b : Bool) → nat_eq n k ≡ b → (n ≡ k) ⊎ (n ≢ k)
same_or_not n k true e = inl (search rules)
same_or_not n k false e = inr (search rules)

-- if the flush failed, a prefix of what was put is a prefix of the answer's text
front_by : (Is : Answer → Type 0) (status : ℕ) (old new : SinkLog) (text text' bytes : List ℕ)
    → (status ≢ 3 → status ≢ 5 → Concludes Is status old new) → (new ≡ old → ⊥) → (status ≡ 3 → new ≡ old)
    → (status ≡ 5 → new ≡ old) → old.written ≡ Some text → new.written ≡ Some text' → text ≡ [] → IsFront bytes text'
    → (status ≡ 3) ⊎ (status ≢ 3) → (status ≡ 5) ⊎ (status ≢ 5) → WritesFront Is bytes
front_by Is status old new text text' bytes put differs three five before after none front (inl is) b =
    absurd (differs (three is))
front_by Is status old new text text' bytes put differs three five before after none front (inr a) (inl is) =
    absurd (differs (five is))
front_by Is status old new text text' bytes put differs three five before after none front (inr a) (inr b) =
    front_put Is status old new text text' bytes (put a b) before after none front

-- if the flush of bytes in the buffer failed, a prefix of what was put is a prefix of the answer's text
pub front_flushed : (Is : Answer → Type 0) (status : ℕ) (old new : SinkLog) (text text' done rest bytes : List ℕ)
    → (status ≢ 3 → status ≢ 4 → status ≢ 5 → Concludes Is status old new) → status ≢ 4 → (status ≡ 3 → new ≡ old)
    → (status ≡ 5 → new ≡ old) → old.written ≡ Some text → new.written ≡ Some text' → text ≡ [] → text' ≡ done ++ rest
    → rest ≢ [] → IsFront bytes text' → WritesFront Is bytes
front_flushed Is status old new text text' done rest bytes put other three five before after none parts some front =
    front_by Is status old new text text' bytes (λ a b. put a other b)
    (holds_some old new text text' done rest before after none parts some) three five before after none front
    (same_or_not status 3 (nat_eq status 3) refl) (same_or_not status 5 (nat_eq status 5) refl)
