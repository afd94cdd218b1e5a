use Rattle.std.proofs.Common.{◌-◌, length, take, drop, sym, ◌∙◌, ap}
use Rattle.std.proofs.lemmas.List.{take_rest}
use Rattle.ft_text.specs.LineWords.{words_of}
use Rattle.ft_text.proofs.LineWordLaws.{no_word, from_word, begins_word, word_ends, word_only}
use Rattle.ft_text.proofs.line_words.next_word.Goals as goal

pub returns-in_default-clause-words : goal.returns-in_default-clause-words
returns-in_default-clause-words c = no_word c.args.text.now (sym c.first_part.ensures ∙ c.in_default.is)

pub returns-in-Some-first_blank-clause-words : goal.returns-in-Some-first_blank-clause-words
returns-in-Some-first_blank-clause-words c =
    let text = c.args.text.now in
    let start = c.in-Some.start in
    let at = sym c.first_part.ensures ∙ c.in-Some.is in
    let rest = take_rest text start in
    let w = begins_word text start at in
    from_word text start at ∙ ap words_of (sym rest)
    ∙ word_ends (take (length text - start) (drop start text)) w.0 w.1 c.in-Some-first_blank.end (rest
    ∙ w.2) w.3 (sym c.first_blank.ensures ∙ c.in-Some-first_blank.is)

pub returns-in-None-clause-words : goal.returns-in-None-clause-words
returns-in-None-clause-words c =
    let text = c.args.text.now in
    let start = c.in-Some.start in
    let at = sym c.first_part.ensures ∙ c.in-Some.is in
    let rest = take_rest text start in
    let w = begins_word text start at in
    from_word text start at ∙ ap words_of (sym rest)
    ∙ word_only (take (length text - start) (drop start text)) w.0 w.1 (rest ∙ w.2) (sym c.first_blank.ensures
    ∙ c.in-None.is)
