use Rattle.std.proofs.Common.{◌<◌, length, sym, ◌∙◌, arith}
use Rattle.ft_text.proofs.Texts.{first_line, last_line}
use Rattle.ft_text.proofs.first_line.read_line.Goals as goal

pub returns-in-Some : goal.returns-in-Some
returns-in-Some c = first_line c.args.text.now c.in-Some.at (sym c.first_feed.ensures ∙ c.in-Some.is)

pub returns-in-None : goal.returns-in-None
returns-in-None c =
    let some : 0 < length c.args.text.now = grind (arith, c.is_empty.ensures, c.if-is_empty.false) in
    (last_line c.args.text.now some (sym c.first_feed.ensures ∙ c.in-None.is), some)
