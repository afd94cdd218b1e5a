use Rattle.std.proofs.Common.{map, take}
use Rattle.ft_meaning.specs.Room.{HasRoom}
use Rattle.ft_meaning.proofs.output_line.longest.Given as goal

abbrev pub invariant-loop-name : goal.invariant-loop-name
invariant-loop-name l = HasRoom (map (λ n. n.items) (take l.name-index l.names)) l.most
