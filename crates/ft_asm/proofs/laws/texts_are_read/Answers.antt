use Rattle.ft_asm.specs.Reads.{text_of}
use Rattle.ft_asm.proofs.Order.{one_reading}
use Rattle.ft_asm.proofs.Lawful.{text_reads}
use Rattle.ft_asm.proofs.laws.texts_are_read.Goals as goal

pub returns : goal.returns
returns c = record {
  reads = text_reads;
  only = λ object other h r. one_reading (text_of object) other object r (text_reads object h);
}
