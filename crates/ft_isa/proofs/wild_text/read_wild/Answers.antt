use Rattle.std.proofs.Common.{◌≡◌, ℕ, ◌<◌, ◌≤◌, List, [], ◌∷◌, ◌++◌, length, take, get_or, Some, None, Vec, Global}
use Rattle.std.proofs.Common.{true, is_ok, sym, ap, ◌∙◌, subst, arith}
use Rattle.std.specs.Option.{option_map}
use Rattle.std.proofs.lemmas.Bool.{cond-true}
use Rattle.std.proofs.lemmas.List.{take_all}
use Rattle.ft_isa.specs.PlanText.{IsWildText, IsRefusedAt}
use Rattle.ft_isa.specs.Reading.{state_after, next_wild, whole_wild, whole_answer, WildRead}
use Rattle.ft_isa.specs.declared.plan.Wild.{Wild}
use Rattle.ft_isa.specs.declared.wild_text.AnswerRead.{AnswerRead}
use Rattle.ft_isa.specs.declared.wild_text.AnswerRead.TheVariants.{Empty}
use Rattle.ft_isa.proofs.Readers.{state_after-more, reads_ok, reads_only, refused_at, refused_at_end}
use Rattle.ft_isa.proofs.WildRead.{wild_at, wild_told, IsWildRead, wild_reader, no_room, next_at_comma, next_in_part}
use Rattle.ft_isa.proofs.wild_text.read_wild.Goals as goal
use Rattle.ft_isa.proofs.wild_text.read_wild.Goals.{then-byte-eq44+else-len-ge-WILD_LIMIT+in-Some+in_ok-map_err}
use Rattle.ft_isa.proofs.wild_text.read_wild.Goals.{else-byte-eq44+in-Some-next}

-- the state before anything is read
abbrev start : WildRead
start = wild_at [] Empty

-- a text is refused at a byte that can't continue it
refused : (text : List ℕ) (at : ℕ) (read : WildRead) → at < length text → state_after next_wild start (take at text)
    ≡ Some read → next_wild read (get_or text at 0) ≡ None → IsRefusedAt IsWildText text at
refused text at read below e f = refused_at next_wild whole_wild start wild_told IsWildRead IsWildText wild_reader read
    text at below e f

-- an incomplete text is refused at its end
refused_end : (text : List ℕ) (done : List Wild) (part : AnswerRead) → state_after next_wild start text
    ≡ Some (wild_at done part) → whole_answer part ≡ None → IsRefusedAt IsWildText text (length text)
refused_end text done part e f =
    refused_at_end next_wild whole_wild start wild_told IsWildRead IsWildText wild_reader (wild_at done part) text e
    (ap (option_map (λ answer. done ++ answer ∷ [])) f)

pub loop-at-init : goal.loop-at-init
loop-at-init c = ap (λ ds. Some (wild_at ds Empty)) (sym c.new-answers.ensures.items)

-- the text is refused at a comma if there is no room for one more answer
full : (c : goal.After-drop-answers) → IsRefusedAt IsWildText c.args.text.now c.loop-at.at
full c =
    refused c.args.text.now c.loop-at.at (wild_at c.loop-at.answers.items c.loop-at.read) c.loop-at-test.true
    c.loop-at.invariant
    (no_room c.loop-at.answers.items c.loop-at.read _ c.if-byte-eq44.true (omega (arith, c.loop-at.answers.ok.0)))

pub returns-then-len-ge-WILD_LIMIT-clause-exact : goal.returns-then-len-ge-WILD_LIMIT-clause-exact
returns-then-len-ge-WILD_LIMIT-clause-exact c = let none = full c in λ answers h. absurd (none.none answers h)

pub returns-then-len-ge-WILD_LIMIT-clause-err : goal.returns-then-len-ge-WILD_LIMIT-clause-err
returns-then-len-ge-WILD_LIMIT-clause-err c = full c

-- the text is refused at a comma after a part that is not an answer
early : (c : goal.After-drop-answers-in_default) → IsRefusedAt IsWildText c.args.text.now c.loop-at.at
early c =
    refused c.args.text.now c.loop-at.at (wild_at c.loop-at.answers.items c.loop-at.read) c.loop-at-test.true
    c.loop-at.invariant
    (next_at_comma c.loop-at.answers.items c.loop-at.read _ c.if-byte-eq44.true (omega (arith, c.loop-at.answers.ok.0))
    ∙ ap (option_map (λ answer. wild_at (c.loop-at.answers.items ++ answer ∷ []) Empty)) (sym c.whole.ensures
    ∙ c.in_default.is))

pub returns-in_default-clause-exact : goal.returns-in_default-clause-exact
returns-in_default-clause-exact c = let none = early c in λ answers h. absurd (none.none answers h)

pub returns-in_default-clause-err : goal.returns-in_default-clause-err
returns-in_default-clause-err c = early c

-- the text is refused at a byte that is not a comma and does not continue the part
stuck : (c : goal.After-drop-answers-in_default-next) → IsRefusedAt IsWildText c.args.text.now c.loop-at.at
stuck c =
    refused c.args.text.now c.loop-at.at (wild_at c.loop-at.answers.items c.loop-at.read) c.loop-at-test.true
    c.loop-at.invariant
    (next_in_part c.loop-at.answers.items c.loop-at.read _ c.if-byte-eq44.false
    ∙ ap (option_map (λ part. wild_at c.loop-at.answers.items part)) (sym c.next.ensures ∙ c.in_default-next.is))

pub returns-in_default-next-clause-exact : goal.returns-in_default-next-clause-exact
returns-in_default-next-clause-exact c = let none = stuck c in λ answers h. absurd (none.none answers h)

pub returns-in_default-next-clause-err : goal.returns-in_default-next-clause-err
returns-in_default-next-clause-err c = stuck c

pub loop-at-preserved : goal.loop-at-preserved
loop-at-preserved c =
    let done = c.loop-at.answers.items in
    let part = c.loop-at.read in
    let text = c.args.text.now in
    elim c.if-byte-eq44.branch [
      | then-byte-eq44+else-len-ge-WILD_LIMIT+in-Some+in_ok-map_err w ↦
          let ok : is_ok w.push.result ≡ true = sym w.map_err.ensures.variant ∙ ap is_ok w.in_ok-map_err.was in
          let pushed : c.if-byte-eq44.answers.items ≡ c.loop-at.answers.items
          ++ w.in-Some.answer ∷ [] = ap (λ (v : Vec Wild Global). v.items) w.answers-is ∙ w.push.ensures.items
          ∙ cond-true _ _ _ ok in
          let step : next_wild (wild_at done part) (get_or text c.loop-at.at 0)
          ≡ Some (wild_at (done ++ w.in-Some.answer ∷ []) Empty) =
          next_at_comma done part _ w.if-byte-eq44.true (omega (arith, c.loop-at.answers.ok.0))
          ∙ ap (option_map (λ answer. wild_at (done ++ answer ∷ []) Empty)) (sym w.whole.ensures ∙ w.in-Some.is) in
          let same : wild_at (done ++ w.in-Some.answer ∷ []) Empty
          ≡ wild_at c.if-byte-eq44.answers.items c.if-byte-eq44.read = cc in
          state_after-more next_wild start (wild_at done part)
          (wild_at c.if-byte-eq44.answers.items c.if-byte-eq44.read) text c.loop-at.at c.loop-at-test.true
          c.loop-at.invariant (step ∙ ap Some same)
      | else-byte-eq44+in-Some-next w ↦
          let step : next_wild (wild_at done part) (get_or text c.loop-at.at 0)
          ≡ Some (wild_at done w.in-Some-next.next) =
          next_in_part done part _ w.if-byte-eq44.false ∙ ap (option_map (λ s. wild_at done s)) (sym w.next.ensures
          ∙ w.in-Some-next.is) in
          let items : done ≡ c.if-byte-eq44.answers.items = sym (ap (λ (v : Vec Wild Global). v.items) w.answers-is) in
          let same : wild_at done w.in-Some-next.next ≡ wild_at c.if-byte-eq44.answers.items c.if-byte-eq44.read = cc in
          state_after-more next_wild start (wild_at done part)
          (wild_at c.if-byte-eq44.answers.items c.if-byte-eq44.read) text c.loop-at.at c.loop-at-test.true
          c.loop-at.invariant (step ∙ ap Some same)
    ]

-- once all bytes of a text are read, the state is the one after the whole text
read_all : (text : List ℕ) (at : ℕ) (read : WildRead) → length text ≤ at → state_after next_wild start (take at text)
    ≡ Some read → state_after next_wild start text ≡ Some read
read_all text at read past e = ap (state_after next_wild start) (sym (take_all at text past)) ∙ e

-- a text that ends within a part is refused at its end
short : (c : goal.After-drop-answers-in_default-whole) → IsRefusedAt IsWildText c.args.text.now (length c.args.text.now)
short c =
    refused_end c.args.text.now c.loop-at.answers.items c.loop-at.read
    (read_all c.args.text.now c.loop-at.at (wild_at c.loop-at.answers.items c.loop-at.read) (omega arith)
    c.loop-at.invariant)
    (sym c.whole-2.ensures ∙ c.in_default-whole.is)

pub returns-in_default-whole-clause-exact : goal.returns-in_default-whole-clause-exact
returns-in_default-whole-clause-exact c = let none = short c in λ answers h. absurd (none.none answers h)

pub returns-in_default-whole-clause-err : goal.returns-in_default-whole-clause-err
returns-in_default-whole-clause-err c = short c

-- a push that succeeds adds the last answer
pushed_last : (c : goal.In_ok-map_err-2) → c.loop-at.answers.items ++ c.in-Some-whole.answer ∷ []
    ≡ c.push-2.new.self.items
pushed_last c =
    let ok : is_ok c.push-2.result ≡ true = sym c.map_err-2.ensures.variant ∙ ap is_ok c.in_ok-map_err-2.was in
    sym (c.push-2.ensures.items ∙ cond-true _ _ _ ok)

pub returns-clause-ok : goal.returns-clause-ok
returns-clause-ok c =
    let read = read_all c.args.text.now c.loop-at.at (wild_at c.loop-at.answers.items c.loop-at.read) (omega arith)
    c.loop-at.invariant in
    let pushed = pushed_last c in
    subst (λ (answers : List Wild). IsWildText c.args.text.now answers) pushed
    (reads_ok next_wild whole_wild start wild_told IsWildRead IsWildText wild_reader
    (wild_at c.loop-at.answers.items c.loop-at.read) _ c.args.text.now read
    (ap (option_map (λ answer. c.loop-at.answers.items ++ answer ∷ [])) (sym c.whole-2.ensures ∙ c.in-Some-whole.is)))

pub returns-clause-exact : goal.returns-clause-exact
returns-clause-exact c = λ answers h.
    (let read = read_all c.args.text.now c.loop-at.at (wild_at c.loop-at.answers.items c.loop-at.read) (omega arith)
    c.loop-at.invariant in
    let pushed = pushed_last c in
    let only = reads_only next_wild whole_wild start wild_told IsWildRead IsWildText wild_reader
    (wild_at c.loop-at.answers.items c.loop-at.read) answers c.args.text.now read h in
    let whole : Some (c.loop-at.answers.items ++ c.in-Some-whole.answer ∷ [])
    ≡ Some answers = sym (ap (option_map (λ answer. c.loop-at.answers.items ++ answer ∷ [])) (sym c.whole-2.ensures
    ∙ c.in-Some-whole.is)) ∙ only in
    cc)
