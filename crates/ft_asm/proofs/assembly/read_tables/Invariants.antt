use Rattle.std.proofs.Common.{◌≡◌, ◌+◌, ◌≤◌, ◌++◌, List, ℕ, suc, length}
use Rattle.ft_text.specs.Lines.{lines_of}
use Rattle.ft_asm.specs.Drafts as drafts
use Rattle.ft_asm.specs.Held.{Holds}
use Rattle.ft_asm.proofs.Faults.{Lead}
use Rattle.ft_asm.proofs.assembly.read_tables.Given as goal

abbrev pub invariant-loop-line : goal.invariant-loop-line
invariant-loop-line l = record {
  read : (before : List (List ℕ)) × (lines_of l.fn.text ≡ before ++ lines_of l.rest) × (l.number ≡ suc (length before))
      × ((d : drafts.Draft) × Holds l.draft d × Lead before d);
  room : l.number + length l.rest ≤ 134217729;
  few : length l.fn.text ≤ 134217728;
}

abbrev pub decreases-loop-line : goal.decreases-loop-line
decreases-loop-line l = length l.rest
