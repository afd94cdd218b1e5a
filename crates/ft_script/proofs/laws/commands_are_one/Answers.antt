use Rattle.ft_text.specs.Lines.{lines_of}
use Rattle.ft_script.proofs.One.{one_list}
use Rattle.ft_script.proofs.Found.{some_list}
use Rattle.ft_script.proofs.laws.commands_are_one.Goals as goal

pub returns : goal.returns
returns c = record {
  some = λ script. some_list (lines_of script);
  one = λ script cs ds h i. one_list (lines_of script) cs ds h i;
}
