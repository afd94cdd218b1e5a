use Rattle.std.proofs.Common.{◌≡◌, map}
use Rattle.std.specs.Ordering.{nat_cmp}
use Rattle.std.specs.Cmp.Lexicographic.{slice_cmp}
use Rattle.std.specs.FinMap.{find, get, from_entries}
use Rattle.std.specs.VecDeque.Iter.{deque_iter_rest}
use Rattle.ft_edge.specs.Stored.{entry_of}
use Rattle.ft_edge.proofs.mem_shelf.find_bytes.Given as goal

abbrev pub invariant-loop-stored : goal.invariant-loop-stored
invariant-loop-stored l =
    get (from_entries {R = slice_cmp nat_cmp} (map entry_of l.files.items)) l.name
    ≡ find (slice_cmp nat_cmp) l.name (map entry_of (deque_iter_rest l.stored-iterator))
