-- Wild answers are read byte by byte.
use Rattle.std.proofs.Common.{◌≡◌, ℕ, ◌+◌, ◌<◌, ◌≤◌, false, List, [], ◌∷◌, ◌++◌, length, Option, Some, None, decimal}
use Rattle.std.proofs.Common.{codes, eqb, nat_lt, refl, sym, ap, ◌∙◌, subst, inl, inr, arith, append_assoc}
use Rattle.std.proofs.Common.{if◌then◌else◌}
use Rattle.std.specs.Option.{option_map, option_and_then}
use Rattle.std.specs.List.{AllByRecursion}
use Rattle.std.proofs.lemmas.Bool.{eqb-true, eq-eqb, ne_eqb, ltb-true, lt-ltb, le-ltb}
use Rattle.std.proofs.lemmas.List.{append-nil, length_push}
use Rattle.ft_isa.specs.PlanText.{IsAnswer, answer_text, more_answers_text, wild_text, AreAnswers, IsWildText, IsViable}
use Rattle.ft_isa.specs.Words.{IsWord}
use Rattle.ft_isa.specs.Reading.{state_after, with_digit, next_answer, whole_answer, WildRead, next_wild, whole_wild}
use Rattle.ft_isa.specs.declared.plan.Wild.{Wild}
use Rattle.ft_isa.specs.declared.plan.Wild.TheVariants as wilds
use Rattle.ft_isa.specs.declared.wild_text.AnswerRead.{AnswerRead}
use Rattle.ft_isa.specs.declared.wild_text.AnswerRead.TheVariants as answers
use Rattle.ft_isa.proofs.Readers.{state_after-on, state_after-byte, state_after-inside, IsReader}
use Rattle.ft_isa.proofs.Branches.{of_branch, of_map, of_letter}
use Rattle.ft_isa.proofs.NumberRead.{next_number, taken_digit, more_digits, reads_decimal}

-- the text of what has been read of a wild answer
abbrev pub answer_told : AnswerRead → List ℕ
answer_told answers.Empty = []
answer_told (answers.Number word) = decimal word
answer_told answers.S = codes "s"
answer_told answers.St = codes "st"
answer_told answers.Sto = codes "sto"
answer_told answers.Stop = codes "stop"

-- a number that was read is a word
abbrev pub IsAnswerRead : AnswerRead → Type 0
IsAnswerRead (answers.Number word) = IsWord word
IsAnswerRead _ = Unit {0}

-- a state records these bytes followed by this one
abbrev GoesOn : List ℕ → ℕ → AnswerRead → Type 0
GoesOn told b after = (answer_told after ≡ told ++ b ∷ []) × IsAnswerRead after

-- if a byte continues a wild answer, the new state records it
answer_step : (s t : AnswerRead) (b : ℕ) → IsAnswerRead s → next_answer s b ≡ Some t → GoesOn (answer_told s) b t
answer_step answers.Empty t b g e =
    of_letter (GoesOn []) b 115 answers.S t _ (refl, tt) (λ f.
    (let made = of_map answers.Number (with_digit None b) t f in
    subst (λ (s : AnswerRead). GoesOn [] b s) made.1.1 (more_digits None b made.0 tt made.1.0))) e
answer_step (answers.Number word) t b g e =
    let made = of_map answers.Number (with_digit (Some word) b) t e in
    subst (λ (s : AnswerRead). GoesOn (decimal word) b s) made.1.1 (more_digits (Some word) b made.0 g made.1.0)
answer_step answers.S t b g e = of_letter (GoesOn (codes "s")) b 116 answers.St t None (refl, tt) (λ f. absurd cc) e
answer_step answers.St t b g e = of_letter (GoesOn (codes "st")) b 111 answers.Sto t None (refl, tt) (λ f. absurd cc) e
answer_step answers.Sto t b g e = of_letter (GoesOn (codes "sto")) b 112 answers.Stop t None (refl, tt) (λ f.
    absurd cc) e
answer_step answers.Stop t b g e = absurd cc

-- a comma does not continue a wild answer
no_comma : (s : AnswerRead) → next_answer s 44 ≡ None
no_comma answers.Empty = refl
no_comma (answers.Number word) = refl
no_comma answers.S = refl
no_comma answers.St = refl
no_comma answers.Sto = refl
no_comma answers.Stop = refl

-- the state of a completely read wild answer records the text of that answer
answer_ends : (s : AnswerRead) (answer : Wild) → IsAnswerRead s → whole_answer s ≡ Some answer →
    (answer_told s ≡ answer_text answer) × IsAnswer answer
answer_ends answers.Empty answer g e = absurd cc
answer_ends (answers.Number word) answer g e =
    let same : wilds.Word word ≡ answer = cc in
    subst (λ (w : Wild). (decimal word ≡ answer_text w) × IsAnswer w) same (refl, g)
answer_ends answers.S answer g e = absurd cc
answer_ends answers.St answer g e = absurd cc
answer_ends answers.Sto answer g e = absurd cc
answer_ends answers.Stop answer g e =
    let same : wilds.Stop ≡ answer = cc in
    subst (λ (w : Wild). (codes "stop" ≡ answer_text w) × IsAnswer w) same (refl, tt)

-- what was read of a wild answer can be continued to the text of some answer
answer_goes_on : (s : AnswerRead) → IsAnswerRead s → (answer : Wild)
    × ((rest : List ℕ) × (IsAnswer answer × (answer_told s ++ rest ≡ answer_text answer)))
answer_goes_on answers.Empty g = (wilds.Stop, (codes "stop", (tt, refl)))
answer_goes_on (answers.Number word) g = (wilds.Word word, ([], (g, append-nil (decimal word))))
answer_goes_on answers.S g = (wilds.Stop, (codes "top", (tt, refl)))
answer_goes_on answers.St g = (wilds.Stop, (codes "op", (tt, refl)))
answer_goes_on answers.Sto g = (wilds.Stop, (codes "p", (tt, refl)))
answer_goes_on answers.Stop g = (wilds.Stop, ([], (tt, refl)))

-- the state of a number that was read
abbrev number_state : Option ℕ → AnswerRead
number_state None = answers.Empty
number_state (Some word) = answers.Number word

-- a number in a wild answer is read like a number on its own
number_inside : (m n : Option ℕ) (b : ℕ) → next_number m b ≡ Some n → next_answer (number_state m) b
    ≡ Some (number_state n)
number_inside None n b e =
    let made = of_map {A = ℕ} Some (with_digit None b) n e in
    let digit = taken_digit None b made.0 made.1.0 in
    let no_s : eqb b 115 ≡ false = ne_eqb b 115 (λ f. omega (arith, digit.1)) in
    ap (λ t. if t then Some answers.S else option_map answers.Number (with_digit None b)) no_s
    ∙ ap (option_map answers.Number) made.1.0 ∙ ap (λ x. Some (number_state x)) made.1.1
number_inside (Some word) n b e =
    let made = of_map {A = ℕ} Some (with_digit (Some word) b) n e in
    ap (option_map answers.Number) made.1.0 ∙ ap (λ x. Some (number_state x)) made.1.1

-- the state of a wild answer that was read completely
abbrev answer_state : Wild → AnswerRead
answer_state (wilds.Word word) = answers.Number word
answer_state wilds.Stop = answers.Stop

-- the text of a wild answer is read as that answer
reads_answer : (answer : Wild) → IsAnswer answer → state_after next_answer answers.Empty (answer_text answer)
    ≡ Some (answer_state answer)
reads_answer (wilds.Word word) g = state_after-inside next_number next_answer number_state number_inside None
    (Some word) (decimal word) (reads_decimal word g)
reads_answer wilds.Stop g = refl

-- the state of a completely read answer contains that answer
whole_state : (answer : Wild) → whole_answer (answer_state answer) ≡ Some answer
whole_state (wilds.Word word) = refl
whole_state wilds.Stop = refl

-- the text of wild answers that were read, each followed by a comma
abbrev pub passed_text : List Wild → List ℕ
passed_text [] = []
passed_text (answer ∷ done) = answer_text answer ++ codes "," ++ passed_text done

-- the text of what has been read of wild answers
abbrev pub wild_told : WildRead → List ℕ
wild_told read = passed_text read.done ++ answer_told read.part

-- the answers before the last comma leave room for one more, and each has a text; a number read after it is a word
abbrev pub IsWildRead : WildRead → Type 0
IsWildRead read = (length read.done < 4096) × AllByRecursion IsAnswer read.done × IsAnswerRead read.part

-- the state with these answers before the last comma, and this part after it
abbrev pub wild_at : List Wild → AnswerRead → WildRead
wild_at done part = record { done = done; part = part }

-- one more answer adds its text and a comma
passed_text_push : (done : List Wild) (answer : Wild) → passed_text (done ++ answer ∷ []) ≡ passed_text done
    ++ (answer_text answer ++ codes ",")
passed_text_push [] answer = append-nil (answer_text answer ++ codes ",")
passed_text_push (first ∷ done) answer =
    ap (λ ds. answer_text first ++ codes "," ++ ds) (passed_text_push done answer)
    ∙ sym (append_assoc (answer_text first ++ codes ",") (passed_text done) (answer_text answer ++ codes ","))

-- a comma before each answer is the same as one in front and one after each answer but the last
more_answers_push : (done : List Wild) (answer : Wild) → more_answers_text (done ++ answer ∷ []) ≡ codes ","
    ++ (passed_text done ++ answer_text answer)
more_answers_push [] answer = append-nil (codes "," ++ answer_text answer)
more_answers_push (first ∷ done) answer =
    ap (λ ds. codes "," ++ answer_text first ++ ds) (more_answers_push done answer) ∙ simp append_assoc

-- the text of wild answers is that of all but the last, each followed by a comma, and then that of the last
wild_text_push : (done : List Wild) (answer : Wild) → wild_text (done ++ answer ∷ []) ≡ passed_text done
    ++ answer_text answer
wild_text_push [] answer = append-nil (answer_text answer)
wild_text_push (first ∷ done) answer = ap (λ ds. answer_text first ++ ds) (more_answers_push done answer)
    ∙ simp append_assoc

-- if each answer has a text, this still holds after one with a text is appended
all_push : (done : List Wild) (answer : Wild) → AllByRecursion IsAnswer done → IsAnswer answer →
    AllByRecursion IsAnswer (done ++ answer ∷ [])
all_push [] answer all here = (here, tt)
all_push (first ∷ done) answer all here = (all.0, all_push done answer all.1 here)

-- if each of fewer than 4,096 answers has a text, and so does one more, together they have one
are_answers : (done : List Wild) (answer : Wild) → length done < 4096 → AllByRecursion IsAnswer done → IsAnswer answer →
    AreAnswers (done ++ answer ∷ [])
are_answers done answer room all here =
    let longer = length_push done answer in
    (omega arith, omega arith, all_push done answer all here)

-- if a byte continues wild answers, the new state records it
wild_step : (s t : WildRead) (b : ℕ) → IsWildRead s → next_wild s b ≡ Some t → (wild_told t ≡ wild_told s ++ b ∷ [])
    × IsWildRead t
wild_step s t b g e =
    let Told : ℕ → WildRead → Type 0 = λ x u. (wild_told u ≡ wild_told s ++ x ∷ []) × IsWildRead u in
    elim (of_branch (eqb b 44) (if nat_lt (length s.done + 1) 4096
    then option_map (λ answer. wild_at (s.done ++ answer ∷ []) answers.Empty) (whole_answer s.part)
    else None) (option_map (λ part. wild_at s.done part) (next_answer s.part b)) t e) [
      | inl comma ↦
          elim (of_branch (nat_lt (length s.done + 1) 4096)
          (option_map (λ answer. wild_at (s.done ++ answer ∷ []) answers.Empty) (whole_answer s.part)) None t comma.1) [
            | inl room ↦
                let made = of_map (λ answer. wild_at (s.done ++ answer ∷ []) answers.Empty) (whole_answer s.part) t
                room.1 in
                let ended = answer_ends s.part made.0 g.2 made.1.0 in
                let below = ltb-true (length s.done + 1) 4096 room.0 in
                let longer = length_push s.done made.0 in
                let told : passed_text (s.done ++ made.0 ∷ []) ++ [] ≡ passed_text s.done ++ answer_told s.part
                ++ codes "," =
                append-nil (passed_text (s.done ++ made.0 ∷ [])) ∙ passed_text_push s.done made.0
                ∙ ap (λ ds. passed_text s.done ++ (ds ++ codes ",")) (sym ended.0)
                ∙ sym (append_assoc (passed_text s.done) (answer_told s.part) (codes ",")) in
                subst (λ (x : ℕ). Told x t) (sym (eqb-true b 44 comma.0))
                (subst (Told 44) made.1.1 (told, (omega arith, all_push s.done made.0 g.1 ended.1, tt)))
            | inr none ↦ absurd cc
          ]
      | inr byte ↦
          let made = of_map (λ part. wild_at s.done part) (next_answer s.part b) t byte in
          let more = answer_step s.part made.0 b g.2 made.1.0 in
          subst (Told b) made.1.1 (
            ap (λ ds. passed_text s.done ++ ds) more.0
                ∙ sym (append_assoc (passed_text s.done) (answer_told s.part) (b ∷ [])),
            (g.0, g.1, more.1),
          )
    ]

-- the state of completely read wild answers records the text of these answers
wild_ends : (s : WildRead) (list : List Wild) → IsWildRead s → whole_wild s ≡ Some list → IsWildText (wild_told s) list
wild_ends s list g e =
    let made = of_map (λ answer. s.done ++ answer ∷ []) (whole_answer s.part) list e in
    let ended = answer_ends s.part made.0 g.2 made.1.0 in
    subst (λ (ws : List Wild). IsWildText (wild_told s) ws) made.1.1 (
      are_answers s.done made.0 g.0 g.1 ended.1,
      ap (λ ds. passed_text s.done ++ ds) ended.0
          ∙ sym (wild_text_push s.done made.0),
    )

-- what was read of wild answers can be continued to the text of some answers
wild_goes_on : (s : WildRead) → IsWildRead s → IsViable IsWildText (wild_told s)
wild_goes_on s g =
    let last = answer_goes_on s.part g.2 in (
      s.done ++ last.0 ∷ [],
      (
        last.1.0,
        (
          are_answers s.done last.0 g.0 g.1 last.1.1.0,
          append_assoc (passed_text s.done) (answer_told s.part) last.1.0
              ∙ ap (λ ds. passed_text s.done ++ ds) last.1.1.1 ∙ sym (wild_text_push s.done last.0),
        ),
      ),
    )

-- a comma is refused if there is no room for another answer
pub no_room : (done : List Wild) (part : AnswerRead) (b : ℕ) → b ≡ 44 → 4096 ≤ length done + 1 →
    next_wild (wild_at done part) b ≡ None
no_room done part b comma full =
    ap (λ c. if c then (if nat_lt (length done + 1) 4096
    then option_map (λ answer. wild_at (done ++ answer ∷ []) answers.Empty) (whole_answer part) else None)
    else option_map (λ s. wild_at done s) (next_answer part b)) (eq-eqb b 44 comma)
    ∙ ap (λ c. if c then option_map (λ answer. wild_at (done ++ answer ∷ []) answers.Empty) (whole_answer part)
    else None) (le-ltb (length done + 1) 4096 full)

-- if there is room for one more answer, a comma ends the answer before it
pub next_at_comma : (done : List Wild) (part : AnswerRead) (b : ℕ) → b ≡ 44 → length done + 1 < 4096 →
    next_wild (wild_at done part) b ≡ option_map (λ answer. wild_at (done ++ answer ∷ []) answers.Empty)
    (whole_answer part)
next_at_comma done part b comma room =
    ap (λ c. if c then (if nat_lt (length done + 1) 4096
    then option_map (λ answer. wild_at (done ++ answer ∷ []) answers.Empty) (whole_answer part) else None)
    else option_map (λ s. wild_at done s) (next_answer part b)) (eq-eqb b 44 comma)
    ∙ ap (λ c. if c then option_map (λ answer. wild_at (done ++ answer ∷ []) answers.Empty) (whole_answer part)
    else None) (lt-ltb (length done + 1) 4096 room)

-- a byte that is not a comma is read as part of the current answer
pub next_in_part : (done : List Wild) (part : AnswerRead) (b : ℕ) → (b ≡ 44 → ⊥) → next_wild (wild_at done part) b
    ≡ option_map (λ s. wild_at done s) (next_answer part b)
next_in_part done part b other =
    ap (λ c. if c then (if nat_lt (length done + 1) 4096
    then option_map (λ answer. wild_at (done ++ answer ∷ []) answers.Empty) (whole_answer part) else None)
    else option_map (λ s. wild_at done s) (next_answer part b)) (ne_eqb b 44 other)

-- an answer after others is read like an answer on its own
answer_inside : (done : List Wild) (s t : AnswerRead) (b : ℕ) → next_answer s b ≡ Some t → next_wild (wild_at done s) b
    ≡ Some (wild_at done t)
answer_inside done s t b e =
    next_in_part done s b (λ f. let none = no_comma s in let some = subst (λ (x : ℕ). next_answer s x ≡ Some t) f e in
    cc)
    ∙ ap (option_map (λ part. wild_at done part)) e

-- after other answers, the text of an answer is read like that of an answer on its own
reads_part : (done : List Wild) (answer : Wild) → IsAnswer answer →
    state_after next_wild (wild_at done answers.Empty) (answer_text answer) ≡ Some (wild_at done (answer_state answer))
reads_part done answer here = state_after-inside next_answer next_wild (wild_at done) (answer_inside done) answers.Empty
    (answer_state answer) (answer_text answer) (reads_answer answer here)

-- after other answers, the text of more answers is read, and the result is all of them
reads_rest : (done : List Wild) (answer : Wild) (rest : List Wild) → IsAnswer answer → AllByRecursion IsAnswer rest →
    length done + length (answer ∷ rest) ≤ 4096 → option_and_then whole_wild
    (state_after next_wild (wild_at done answers.Empty) (answer_text answer ++ more_answers_text rest))
    ≡ Some (done ++ answer ∷ rest)
reads_rest done answer [] here all room =
    ap (λ ds. option_and_then whole_wild (state_after next_wild (wild_at done answers.Empty) ds))
    (append-nil (answer_text answer))
    ∙ ap (option_and_then whole_wild) (reads_part done answer here)
    ∙ ap (option_map (λ w. done ++ w ∷ [])) (whole_state answer)
reads_rest done answer (second ∷ rest) here all room =
    let longer = length_push done answer in
    let after = answer_text second ++ more_answers_text rest in
    ap (option_and_then whole_wild)
    (state_after-on next_wild (wild_at done answers.Empty) (wild_at done (answer_state answer)) (answer_text answer)
    (44 ∷ (answer_text second ++ more_answers_text rest)) (reads_part done answer here)
    ∙ state_after-byte next_wild (wild_at done (answer_state answer)) (wild_at (done ++ answer ∷ []) answers.Empty) 44
    (answer_text second ++ more_answers_text rest) (next_at_comma done (answer_state answer) 44 refl (omega arith)
    ∙ ap (option_map (λ w. wild_at (done ++ w ∷ []) answers.Empty)) (whole_state answer)))
    ∙ reads_rest (done ++ answer ∷ []) second rest all.0 all.1 (omega arith)
    ∙ ap Some (append_assoc done (answer ∷ []) (second ∷ rest))

-- the text of wild answers is read as those answers
wild_complete : (text : List ℕ) (list : List Wild) → IsWildText text list →
    option_and_then whole_wild (state_after next_wild (wild_at [] answers.Empty) text) ≡ Some list
wild_complete text [] h = absurd (omega (arith, h.0.0))
wild_complete text (answer ∷ rest) h =
    ap (λ ds. option_and_then whole_wild (state_after next_wild (wild_at [] answers.Empty) ds)) h.1
    ∙ reads_rest [] answer rest h.0.2.0 h.0.2.1 (omega (arith, h.0.1))

-- the reader of wild answers records what it read
pub wild_reader : IsReader next_wild whole_wild (wild_at [] answers.Empty) wild_told IsWildRead IsWildText
wild_reader = record {
  begins = refl;
  good = (omega arith, tt, tt);
  step = wild_step;
  ends = wild_ends;
  goes_on = wild_goes_on;
  complete = wild_complete;
}
