-- The sample object is accepted.
use Rattle.std.proofs.Common.{◌≡◌, ℕ, zero, suc, List, [], ◌∷◌, ◌++◌, length, Some, refl, sym, subst, arith, slice_get}
use Rattle.std.proofs.lemmas.Grind.{common_steps}
use Rattle.std.specs.Prelude.{slice_range}
use Rattle.std.proofs.lemmas.Option.{same_Some}
use Rattle.ft_isa.specs.declared.colour.Colour.{Colour}
use Rattle.ft_isa.specs.declared.colour.Colour.TheVariants.{Green, Blue}
use Rattle.ft_isa.specs.declared.basic.Basic.{Basic}
use Rattle.ft_isa.specs.declared.instr.Instr.{Instr}
use Rattle.ft_isa.specs.declared.op.Op.TheVariants.{Add, Mul}
use Rattle.ft_static.specs.Form.{Polynomial}
use Rattle.ft_static.specs.NormalForm.{constant, norm_op, norm_upd}
use Rattle.ft_static.proofs.Equal.{same_itself}
use Rattle.ft_types.specs.declared.object.Object.{Object}
use Rattle.ft_types.specs.declared.object.Block.{Block}
use Rattle.ft_types.specs.declared.object.Cell.{Cell}
use Rattle.ft_types.specs.Objects.{block_instrs}
use Rattle.ft_isa.specs.BasicTypes.{int, ref}
use Rattle.ft_typing.specs.TypedWord.{HasType, has_type, is_seen_as, same_basic, cell_of}
use Rattle.ft_typing.specs.Context.{Typed, Context, typed, with_type, d_zero, start_context, registers_after}
use Rattle.ft_typing.specs.Context.{memory_form_of}
use Rattle.ft_typing.specs.RowWords.{same_colour, need, for_typed, for_ref_over, for_zero, for_oldest, is_empty}
use Rattle.ft_typing.specs.Accepted.{Applies, IsAccepted, last_row, next_row}
use Rattle.ft_types.proofs.Maps.{get-insert}
use Rattle.ft_demo.specs.Sample.{opening, turn, turns_from, sample_object}

-- what is known of a register
abbrev known : Colour → Basic → Polynomial → Typed
known k b f = record { colour = k; basic = b; form = f }

-- the form of the address of `out`
abbrev place : Polynomial
place = constant 1048576

-- what is known between two turns: both colours hold the address of `out` and the same value, and nothing is pending
record Holds (c : Context) (f : Polynomial) : Type 0 where
  green_address : typed c 0 ≡ Some (known Green (ref int) place)
  blue_address : typed c 32 ≡ Some (known Blue (ref int) place)
  green_value : typed c 1 ≡ Some (known Green int f)
  blue_value : typed c 33 ≡ Some (known Blue int f)
  d : c.d ≡ d_zero
  queue : c.queue ≡ []

-- the form of three times a value
abbrev tripled : Polynomial → Polynomial
tripled f = norm_op Mul f (constant 3)

-- the form of the value after turn i
abbrev raised : ℕ → Polynomial → Polynomial
raised i f = norm_op Add (tripled f) (constant i)

-- the context after both values were raised
abbrev with_values : ℕ → Polynomial → Context → Context
with_values i f c =
    with_type 33 (known Blue int (raised i f)) (with_type 33 (known Blue int (tripled f))
    (with_type 1 (known Green int (raised i f)) (with_type 1 (known Green int (tripled f)) c)))

-- the addresses and the new values are then known
values_known : (i : ℕ) (f : Polynomial) (c : Context) → Holds c f → Holds (with_values i f c) (raised i f)
values_known i f c h = record {
  green_address = simp (get-insert, h.green_address);
  blue_address = simp (get-insert, h.blue_address);
  green_value = simp get-insert;
  blue_value = simp get-insert;
  d = h.d;
  queue = h.queue;
}

-- the context after a green store of the value
abbrev with_pending : Polynomial → Context → Context
with_pending f c = record c { queue = c.queue ++ (place, f) ∷ [] }

-- the context after the blue store that commits it
abbrev with_stored : Polynomial → Context → Context
with_stored f c = record c { queue = []; memory = norm_upd c.memory place f }

-- if the rules apply to what follows a turn, they apply to the turn and what follows
turn_applies : (o : Object) (c : Context) (f : Polynomial) (i : ℕ) (is : List Instr) → Holds c f
    → Applies o (with_stored (raised i f) (with_values i f c)) is → Applies o c (turn i ++ is)
unfolding for_typed need same_colour for_ref_over for_oldest is_seen_as same_basic
turn_applies o c f i is h rest =
    let k = values_known i f c h in
    next_row (with_type 1 (known Green int (tripled f)) c) (simp h.green_value)
    (next_row (with_type 1 (known Green int (raised i f)) (with_type 1 (known Green int (tripled f)) c))
    (simp get-insert)
    (next_row (with_type 33 (known Blue int (tripled f))
    (with_type 1 (known Green int (raised i f)) (with_type 1 (known Green int (tripled f)) c)))
    (simp (get-insert, h.blue_value))
    (next_row (with_values i f c) (simp get-insert)
    (next_row (with_pending (raised i f) (with_values i f c)) (simp (k.green_address, k.green_value, k.queue))
    (next_row (with_stored (raised i f) (with_values i f c)) (simp (k.blue_address, k.blue_value, k.queue, same_itself))
    rest)))))

-- the rules apply to n turns, whatever the value
turns_apply : (o : Object) (n i : ℕ) (c : Context) (f : Polynomial) → Holds c f → Applies o c (turns_from i n)
unfolding for_zero need is_empty
turns_apply o zero i c f h = last_row (rw (h.d, h.queue) refl)
turns_apply o (suc n) i c f h =
    let k = values_known i f c h in
    turn_applies o c f i (turns_from (suc i) n) h
    (turns_apply o n (suc i) _ (raised i f) (record {
      green_address = k.green_address;
      blue_address = k.blue_address;
      green_value = k.green_value;
      blue_value = k.blue_value;
      d = k.d;
      queue = refl;
    }))

-- what is known after the opening
abbrev opened : Context → Context
opened c =
    with_type 33 (known Blue int (constant 0)) (with_type 1 (known Green int (constant 0))
    (with_type 32 (known Blue (ref int) place) (with_type 0 (known Green (ref int) place) c)))

-- the rules apply to the opening, at the start of a block whose registers are unknown
opening_applies : (n : ℕ) (c : Context) (is : List Instr) → Applies (sample_object n) (opened c) is →
    Applies (sample_object n) c (opening ++ is)
unfolding need has_type cell_of same_basic
opening_applies n c is rest =
    next_row (with_type 0 (known Green (ref int) place) c) refl
    (next_row (with_type 32 (known Blue (ref int) place) (with_type 0 (known Green (ref int) place) c)) refl
    (next_row (with_type 1 (known Green int (constant 0))
    (with_type 32 (known Blue (ref int) place) (with_type 0 (known Green (ref int) place) c))) refl
    (next_row (opened c) refl rest)))

-- the slice from a list's first value to its last is the list
whole_range : (is : List Instr) → slice_range is 0 (length is) ≡ is
whole_range is = grind (arith, common_steps)

-- the rules apply to the only block
block_applies : (n : ℕ) (b : ℕ) (x : Block) → slice_get (sample_object n).blocks b ≡ Some x →
    Applies (sample_object n) (start_context (sample_object n) x.code_type) (block_instrs (sample_object n) b)
unfolding registers_after memory_form_of
block_applies n zero x e =
    let c = start_context (sample_object n) 0 in
    subst (λ y. Applies (sample_object n) (start_context (sample_object n) y.code_type)
    (block_instrs (sample_object n) 0)) (same_Some _ _ e)
    (subst (Applies (sample_object n) c) (sym (whole_range (sample_object n).instrs))
    (opening_applies n c (turns_from 1 n)
    (turns_apply (sample_object n) n 1 (opened c) (constant 0) (record {
      green_address = simp get-insert;
      blue_address = simp get-insert;
      green_value = simp get-insert;
      blue_value = simp get-insert;
      d = refl;
      queue = refl;
    }))))
block_applies n (suc b) x e = absurd cc

-- the word of the only cell has the cell's type
cell_is_typed : (n : ℕ) (k : ℕ) (x : Cell) → slice_get (sample_object n).cells k ≡ Some x →
    HasType (sample_object n) x.init x.basic
cell_is_typed n zero x e = subst (λ y. HasType (sample_object n) y.init y.basic) (same_Some _ _ e) tt
cell_is_typed n (suc k) x e = absurd cc

-- the whole object is accepted
pub sample_is_accepted : (o : Object) (n : ℕ) → o ≡ sample_object n → IsAccepted o
sample_is_accepted o n e = subst IsAccepted (sym e) (record {
  entry = record { ints = refl; regs = refl; queue = refl; memory = record { node = _; found = refl; shape = refl } };
  cells = cell_is_typed n;
  blocks = block_applies n;
})
