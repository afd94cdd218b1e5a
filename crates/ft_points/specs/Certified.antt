-- Certified states: each typed word stands in registers of both colours, and the two agree.
use Rattle.std.specs.Prelude.{ℕ, Bool, false, ◌&&◌, not, ◌==◌, List, Option, None, Some, is_none}
use Rattle.std.specs.List.{list_all, list_any}
use Rattle.ft_types.specs.declared.object.Object.{Object}
use Rattle.ft_types.specs.declared.object.Block.{Block}
use Rattle.ft_types.specs.declared.object.RegType.{RegType}
use Rattle.ft_types.specs.Objects.{reg_rows, queue_rows}
use Rattle.ft_semantics.specs.State.{State, word}
use Rattle.ft_semantics.specs.Strike.{is_running}
use Rattle.ft_typing.specs.TypedWord.{block_at}
use Rattle.ft_typing.specs.RowWords.{same_colour}
use Rattle.ft_typing.specs.Accepted.{has_none}

-- whether two register rows are partners: they state the same expression, for different colours
abbrev pub are_partners : RegType → RegType → Bool
are_partners r q = not (same_colour r.colour q.colour) && (r.expr == q.expr)

-- whether a row has a partner among these rows
abbrev pub has_partner : List RegType → RegType → Bool
has_partner rows r = list_any (are_partners r) rows

-- whether a block of code type t can be a point: it has no queue rows, and each register row has a partner
abbrev pub is_paired : Object → ℕ → Bool
is_paired o t = has_none (queue_rows o t) && list_all (has_partner (reg_rows o t)) (reg_rows o t)

-- whether a state has one word in the registers of a row and of a partner of it
abbrev pub is_confirmed : State → List RegType → RegType → Bool
is_confirmed s rows r = list_any (λ q. are_partners r q && (word s r.reg == word s q.reg)) rows

-- whether d is 0, the code type has no queue rows, and the register of each row is confirmed
abbrev pub is_certified_for : Object → State → Option Block → Bool
is_certified_for o s None = false
is_certified_for o s (Some b) =
    (s.d == 0) && has_none (queue_rows o b.code_type) && list_all (is_confirmed s (reg_rows o b.code_type)) (reg_rows o b.code_type)

-- whether a state is certified: it is running, nothing is fetched, both counters are at the first instruction of a
-- block, and the state is certified for the block's code type
abbrev pub is_certified : Object → State → Bool
is_certified o s = is_running s.status && is_none s.fetched && (s.pc_green == s.pc_blue) && is_certified_for o s (block_at o s.pc_green)
