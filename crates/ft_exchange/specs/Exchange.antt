-- The exchange of two neighbouring instructions, and when it is permitted.
use Rattle.std.specs.Prelude.{◌≡◌, ℕ, zero, suc, ◌+◌, ◌-◌, ◌<◌, Bool, true, not, ◌&&◌, ◌||◌, nat_lt, List, [], ◌∷◌, length, take, Option, Some, None, slice_get}
use Rattle.std.specs.List.{count_by}
use Rattle.ft_isa.specs.declared.instr.Instr.{Instr}
pub use Rattle.ft_isa.specs.Instructions.{is_fixed, is_green, is_leading, written, is_register, reads, is_green_store, is_blue_store}
use Rattle.ft_types.specs.declared.object.Object.{Object}
use Rattle.ft_types.specs.Objects.{queue_rows, block_type, block_start, block_instrs}

-- WHAT LEADS AND WHAT TRAILS

-- whether an instruction is trailing: neither fixed nor leading
abbrev pub is_trailing : Instr → Bool
is_trailing i = not (is_fixed i) && not (is_leading i)

-- REGISTERS

-- whether an instruction reads or writes register r
abbrev pub touches : Instr → ℕ → Bool
touches i r = reads i r || is_register (written i) r

-- whether an instruction neither reads nor writes this register, if one is given
abbrev pub leaves_alone : Instr → Option ℕ → Bool
leaves_alone i None = true
leaves_alone i (Some r) = not (touches i r)

-- THE STATIC QUEUE

-- the length of the static queue after these instructions, if it was n before them
abbrev pub queue_after : ℕ → List Instr → ℕ
queue_after n is = n + count_by is_green_store is - count_by is_blue_store is

-- the length of the static queue before index k of block b: the number of the code type's queue rows, plus the number
-- of `st_G` and minus the number of `st_B` before that index in the block
abbrev pub queue_before : Object → ℕ → ℕ → ℕ
queue_before o b k = queue_after (length (queue_rows o (block_type o b))) (take k (block_instrs o b))

-- whether the static queue, with n pairs before the two, has room for the exchange: at most 7 pairs, if the first is
-- `st_B` and the second `st_G`
abbrev pub has_room : Instr → Instr → ℕ → Bool
has_room first second n = not (is_blue_store first && is_green_store second) || nat_lt n 8

-- EXCHANGES

-- whether two neighbours in a block may be exchanged, if the static queue has n pairs before the first: the first is
-- trailing and the second leading (so neither is a jump, a branch or `halt`), neither writes a register that the other
-- reads or writes, and there is room in the static queue
abbrev pub may_exchange : ℕ → Instr → Instr → Bool
may_exchange n first second = is_trailing first && is_leading second && leaves_alone second (written first) && leaves_alone first (written second) && has_room first second n

-- the exchange of the instructions at indices k and k + 1 of block b is permitted
pub record IsPermitted (o : Object) (b k : ℕ) : Type 0 where
  pub first : Instr
  pub second : Instr
  pub block : b < length o.blocks
  pub first_there : slice_get (block_instrs o b) k ≡ Some first
  pub second_there : slice_get (block_instrs o b) (suc k) ≡ Some second
  pub may : may_exchange (queue_before o b k) first second ≡ true

-- a list with its elements at places n and n + 1 swapped
abbrev pub exchanged : List Instr → ℕ → List Instr
exchanged [] n = []
exchanged (i ∷ is) (suc n) = i ∷ exchanged is n
exchanged (i ∷ []) zero = i ∷ []
exchanged (i ∷ j ∷ is) zero = j ∷ i ∷ is

-- an object with other instructions
abbrev pub with_instrs : Object → List Instr → Object
with_instrs o is = record o { instrs = is }

-- the object after the exchange of the instructions at indices k and k + 1 of block b
abbrev pub after_exchange : Object → ℕ → ℕ → Object
after_exchange o b k = with_instrs o (exchanged o.instrs (block_start o b + k))
