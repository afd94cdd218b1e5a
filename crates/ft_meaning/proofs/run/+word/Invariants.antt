use Rattle.std.proofs.Common.{◌+◌, ◌*◌}
use Rattle.ft_syntax.specs.Size.{expression_nodes}
use Rattle.ft_syntax.specs.Plain.{plain_expression}
use Rattle.ft_scope.specs.Size.{same_slot}
use Rattle.ft_meaning.proofs.run.+word.Given as goal

-- twice the number of an expression's nodes; in the functions that take an expression's parts, twice the number of
-- their nodes, plus one
abbrev pub decreases-word_of : goal.decreases-word_of
decreases-word_of l = 2 * expression_nodes (plain_expression same_slot l.e.now)

abbrev pub decreases-indexed_word : goal.decreases-indexed_word
decreases-indexed_word l = 2 * expression_nodes (plain_expression same_slot l.index.now) + 1

abbrev pub decreases-operation_word : goal.decreases-operation_word
decreases-operation_word l = 2 * expression_nodes (plain_expression same_slot l.a.now) + 2 * expression_nodes
    (plain_expression same_slot l.b.now) + 1
