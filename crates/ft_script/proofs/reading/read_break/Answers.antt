use Rattle.std.proofs.Common.{◌++◌, decimal, codes, sym, ◌∙◌}
use Rattle.std.proofs.lemmas.List.{append_cancel_left}
use Rattle.ft_script.proofs.Spaces.{decimal_no_space, no_number}
use Rattle.ft_script.proofs.reading.read_break.Goals as goal

pub returns-in_default-split_word-clause-none : goal.returns-in_default-split_word-clause-none
returns-in_default-split_word-clause-none c = λ block index b i e.
    c.in_default-split_word.ensures.only (decimal block) (decimal index) (decimal_no_space block b)
    (append_cancel_left (codes "break ") c.in-Some.words.now (decimal block ++ codes " "
    ++ decimal index) (sym c.in-Some.ensures ∙ e))

pub returns-in_default-read_number-clause-none : goal.returns-in_default-read_number-clause-none
returns-in_default-read_number-clause-none c = λ block index b i e.
    let parts = c.in-Some-split_word.ensures.only (decimal block) (decimal index) (decimal_no_space block b)
    (append_cancel_left (codes "break ") c.in-Some.words.now (decimal block ++ codes " "
    ++ decimal index) (sym c.in-Some.ensures ∙ e)) in
    no_number c.in-Some-split_word.block.now c.read_number.result c.in_default-read_number.is
    c.read_number.ensures.exact block b parts.0

pub returns-in_default-read_number-2-clause-none : goal.returns-in_default-read_number-2-clause-none
returns-in_default-read_number-2-clause-none c = λ block index b i e.
    let parts = c.in-Some-split_word.ensures.only (decimal block) (decimal index) (decimal_no_space block b)
    (append_cancel_left (codes "break ") c.in-Some.words.now (decimal block ++ codes " "
    ++ decimal index) (sym c.in-Some.ensures ∙ e)) in
    no_number c.in-Some-split_word.index.now c.read_number-2.result c.in_default-read_number-2.is
    c.read_number-2.ensures.exact index i parts.1
