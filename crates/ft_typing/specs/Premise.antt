-- The premises of the typing rules, numbered from 1.
use Rattle.std.specs.Prelude.{ℕ}
use Rattle.ft_typing.specs.declared.why.Why.{Why}
use Rattle.ft_typing.specs.declared.why.Why.TheVariants.{Untyped, Colour, BasicType, NotRef, NotCode, StateOfD, QueueFull, QueueEmpty, Addresses, Values, Conditions, Targets, RegisterUnlike, QueueUnlike, MemoryUnlike, Annotation, BlockEnd, Array}

-- a premise; the first one that fails is the reason why a rule does not apply
abbrev pub Premise : Type 0
Premise = Why

-- the number of a premise
abbrev pub number_of : Premise → ℕ
number_of Untyped = 1
number_of Colour = 2
number_of BasicType = 3
number_of NotRef = 4
number_of NotCode = 5
number_of StateOfD = 6
number_of QueueFull = 7
number_of QueueEmpty = 8
number_of Addresses = 9
number_of Values = 10
number_of Conditions = 11
number_of Targets = 12
number_of RegisterUnlike = 13
number_of QueueUnlike = 14
number_of MemoryUnlike = 15
number_of Annotation = 16
number_of BlockEnd = 17
number_of Array = 18
