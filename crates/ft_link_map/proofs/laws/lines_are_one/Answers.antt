use Rattle.ft_text.specs.Lines.{lines_of}
use Rattle.ft_link_map.proofs.OneLine.{one_list}
use Rattle.ft_link_map.proofs.FoundLines.{some_list}
use Rattle.ft_link_map.proofs.laws.lines_are_one.Goals as goal

pub returns : goal.returns
returns c = record {
  some = λ text. some_list (lines_of text);
  one = λ text said others h i. one_list (lines_of text) said others h i;
}
