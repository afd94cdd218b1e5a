use Rattle.std.proofs.Common.{◌++◌, decimal, codes, sym, ◌∙◌}
use Rattle.std.proofs.lemmas.List.{append_cancel_left}
use Rattle.ft_isa.specs.PlanText.{site_text}
use Rattle.ft_script.proofs.Spaces.{site_no_space, no_number}
use Rattle.ft_script.proofs.reading.read_zap.Goals as goal

pub returns-in_default-split_word-clause-none : goal.returns-in_default-split_word-clause-none
returns-in_default-split_word-clause-none c = λ s value h word e.
    c.in_default-split_word.ensures.only (site_text s) (decimal value) (site_no_space s h)
    (append_cancel_left (codes "zap ") c.in-Some.words.now (site_text s ++ codes " "
    ++ decimal value) (sym c.in-Some.ensures ∙ e))

pub returns-in_default-read_site-clause-none : goal.returns-in_default-read_site-clause-none
returns-in_default-read_site-clause-none c = λ s value h word e.
    let parts = c.in-Some-split_word.ensures.only (site_text s) (decimal value) (site_no_space s h)
    (append_cancel_left (codes "zap ") c.in-Some.words.now (site_text s ++ codes " "
    ++ decimal value) (sym c.in-Some.ensures ∙ e)) in
    let found = c.in_default-read_site.ensures.exact s (h, parts.0) in absurd cc

pub returns-in_default-read_number-clause-none : goal.returns-in_default-read_number-clause-none
returns-in_default-read_number-clause-none c = λ s value h word e.
    let parts = c.in-Some-split_word.ensures.only (site_text s) (decimal value) (site_no_space s h)
    (append_cancel_left (codes "zap ") c.in-Some.words.now (site_text s ++ codes " "
    ++ decimal value) (sym c.in-Some.ensures ∙ e)) in
    no_number c.in-Some-split_word.value.now c.read_number.result c.in_default-read_number.is
    c.read_number.ensures.exact value word parts.1
