-- What the code returns and writes for a meaning.
use Rattle.ft_edge.specs.Lines.{PutEnd, AllPut, PutFailed, NothingPut}
use Rattle.ft_meaning.specs.declared.mean_end.MeanEnd.{MeanEnd}
use Rattle.ft_meaning.specs.declared.mean_end.MeanEnd.TheVariants as ends
use Rattle.ft_meaning.specs.Meaning.{Outcome, Ended, Cut}

-- the defined run ended or was cut, as the result says; a failed write and running out of memory say nothing about it
abbrev pub EndsAs : MeanEnd → Outcome → Type 0
EndsAs ends.Ended (Ended s) = Unit {0}
EndsAs ends.Ended (Cut s) = ⊥
EndsAs ends.Cut (Ended s) = ⊥
EndsAs ends.Cut (Cut s) = Unit {0}
EndsAs ends.WriteFault r = Unit {0}
EndsAs ends.NoMemory r = Unit {0}

-- all lines were written, or a put failed, or nothing was written
abbrev pub put_end : MeanEnd → PutEnd
put_end ends.Ended = AllPut
put_end ends.Cut = AllPut
put_end ends.WriteFault = PutFailed
put_end ends.NoMemory = NothingPut
