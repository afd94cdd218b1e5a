-- The typing rows: what each instruction requires of the context before it, in this order, and the context after it.
-- The same rows follow as data: the tests that an instruction makes, and its effect.
use Rattle.std.specs.Prelude.{◌&&◌, ◌==◌, nat_lt, if◌then◌else◌, List, [], ◌∷◌, ◌++◌, length, Option, Some, None, ◌≡◌}
use Rattle.ft_isa.specs.declared.colour.Colour.{Colour}
use Rattle.ft_isa.specs.declared.colour.Colour.TheVariants.{Green, Blue}
use Rattle.ft_isa.specs.declared.instr.Instr.{Instr}
use Rattle.ft_isa.specs.declared.instr.Instr.TheVariants.{OpReg, OpWord, Mov, Ld, St, JmpG, JmpB, BzG, BzB, Halt, Idx}
use Rattle.ft_isa.specs.BasicTypes.{int, ref}
use Rattle.ft_typing.specs.RowWords.{Outcome, same_colour, need, for_typed, for_ref, for_code, for_zero, for_target, for_conditional, for_oldest, for_run, run_form, is_empty, seen_memory, leads, Goes, Ends, Fails}
use Rattle.ft_typing.specs.RowTests.{Test, premise_of, known, type_referred, code_of, array_type, others, holds, is_typed, is_coloured, is_coloured_as, is_colour_of, is_claimed, is_stored_as, is_reference, is_target, is_d_zero, is_d_code, is_d_conditional, has_room, has_oldest, is_oldest_address, is_oldest_value, is_tested, is_announced, is_substitution, has_registers, has_queue, has_memory, has_empty_queue, is_array}
use Rattle.ft_static.specs.Form.{same_polynomial}
use Rattle.ft_static.specs.NormalForm.{constant, norm_op, norm_sel, norm_upd}
use Rattle.ft_types.specs.declared.object.Object.{Object}
use Rattle.ft_typing.specs.TypedWord.{has_type, is_seen_as, run_type}
use Rattle.ft_typing.specs.declared.why.Why.TheVariants as premise
use Rattle.ft_typing.specs.Premise.{Premise}
use Rattle.ft_typing.specs.Context.{d_zero, d_code, d_conditional, Context, typed, with_type}

-- op rd, rs, rt | 1 (rs, rt), 2 (rt has the colour of rs) | rd: colour of rs, `int`, op of the forms
-- op rd, rs, c v | 1 (rs), 2 (c is the colour of rs) | rd: colour of rs, `int`, op of the form and v
-- mov rd, c v : b | 3 | rd: c, b, the word v
-- ld_G rd, rs | 1, 2 (green), 4 | rd: green, the type referred to, sel of the pending memory
-- ld_B rd, rs | 1, 2 (blue), 4 | rd: blue, the type referred to, sel of the memory
-- st_G rd, rs | 1 (both), 2 (green), 4 (rd), 3, 7 | the pair of forms becomes the newest of the queue
-- st_B rd, rs | 1 (both), 2 (blue), 4 (rd), 3, 8, 9, 10 | the oldest pair leaves; memory: upd with the forms of rd
-- and rs
-- jmp_G rd | 1, 2 (green), 5, 6 (Zero) | d: Code with T and rd's form
-- jmp_B rd | 1, 2 (blue), 5, 6 (Code), 12, 16, 13, 14, 15 | the block ends
-- bz_G rz, rd | 1 (both), 2 (green), 5 (rd), 6 (Zero) | d: Conditional with rz's form, T and rd's form
-- bz_B rz, rd | 1 (both), 2 (blue), 5 (rd), 6 (Conditional), 11, 12, 16, 13, 14, 15 | d: Zero
-- halt | 6 (Zero), 14 | the block ends
-- idx rd, rs, first, length | 1 (rs), 18 | rd: colour of rs, `ref b` for the cells' type b, add of the word
-- 1048576 + first and rem of rs's form by length
-- Whatever a row does not name is unchanged. BlockEnd, 17, is tested after these, since it needs the instruction's
-- place in its block.
abbrev pub row : Object → Context → Instr → Outcome
row o c (OpReg op rd rs rt) =
    for_typed (typed c rs.number) (λ s.
    for_typed (typed c rt.number) (λ t.
    need premise.Colour (same_colour t.colour s.colour) (
    Goes (with_type rd.number (record { colour = s.colour; basic = int; form = norm_op op s.form t.form }) c))))
row o c (OpWord op rd rs value) =
    for_typed (typed c rs.number) (λ s.
    need premise.Colour (same_colour value.colour s.colour) (
    Goes (with_type rd.number (record { colour = s.colour; basic = int; form = norm_op op s.form (constant value.word) }) c)))
row o c (Mov rd basic value) =
    need premise.BasicType (has_type o value.word basic) (
    Goes (with_type rd.number (record { colour = value.colour; basic = basic; form = constant value.word }) c))
row o c (Ld colour rd rs) =
    for_typed (typed c rs.number) (λ s.
    need premise.Colour (same_colour s.colour colour) (
    for_ref s.basic (λ b.
    Goes (with_type rd.number (record { colour = colour; basic = b; form = norm_sel (seen_memory colour c) s.form }) c))))
row o c (St Green rd rs) =
    for_typed (typed c rd.number) (λ a.
    for_typed (typed c rs.number) (λ v.
    need premise.Colour (same_colour a.colour Green && same_colour v.colour Green) (
    for_ref a.basic (λ b.
    need premise.BasicType (is_seen_as v.basic b) (
    need premise.QueueFull (nat_lt (length c.queue) 8) (
    Goes (record c { queue = c.queue ++ (a.form, v.form) ∷ [] })))))))
row o c (St Blue rd rs) =
    for_typed (typed c rd.number) (λ a.
    for_typed (typed c rs.number) (λ v.
    need premise.Colour (same_colour a.colour Blue && same_colour v.colour Blue) (
    for_ref a.basic (λ b.
    need premise.BasicType (is_seen_as v.basic b) (
    for_oldest c.queue (λ e q.
    need premise.Addresses (same_polynomial a.form e.0) (
    need premise.Values (same_polynomial v.form e.1) (
    Goes (record c { queue = q; memory = norm_upd c.memory a.form v.form })))))))))
row o c (JmpG rd) =
    for_typed (typed c rd.number) (λ a.
    need premise.Colour (same_colour a.colour Green) (
    for_code a.basic (λ t.
    for_zero c.d (
    Goes (record c { d = d_code t a.form })))))
row o c (JmpB rd u) =
    for_typed (typed c rd.number) (λ a.
    need premise.Colour (same_colour a.colour Blue) (
    for_code a.basic (λ t.
    for_target c.d (λ t' f.
    need premise.Targets ((t == t') && same_polynomial a.form f) (
    leads o u t c Ends)))))
row o c (BzG rz rd) =
    for_typed (typed c rz.number) (λ z.
    for_typed (typed c rd.number) (λ a.
    need premise.Colour (same_colour z.colour Green && same_colour a.colour Green) (
    for_code a.basic (λ t.
    for_zero c.d (
    Goes (record c { d = d_conditional z.form t a.form }))))))
row o c (BzB rz rd u) =
    for_typed (typed c rz.number) (λ z.
    for_typed (typed c rd.number) (λ a.
    need premise.Colour (same_colour z.colour Blue && same_colour a.colour Blue) (
    for_code a.basic (λ t.
    for_conditional c.d (λ y t' f.
    need premise.Conditions (same_polynomial z.form y) (
    need premise.Targets ((t == t') && same_polynomial a.form f) (
    leads o u t c (
    Goes (record c { d = d_zero })))))))))
row o c Halt =
    for_zero c.d (
    need premise.QueueUnlike (is_empty c.queue) (
    Ends))
row o c (Idx rd rs first m) =
    for_typed (typed c rs.number) (λ s.
    for_run (run_type o first m) (λ b.
    Goes (with_type rd.number (record { colour = s.colour; basic = ref b; form = run_form first m s.form }) c)))

-- THE ROWS AS DATA

-- the tests of an instruction's row, in their order
abbrev pub tests : Instr → List Test
tests (OpReg op rd rs rt) = is_typed rs ∷ is_typed rt ∷ is_coloured_as rt rs ∷ []
tests (OpWord op rd rs value) = is_typed rs ∷ is_colour_of value.colour rs ∷ []
tests (Mov rd basic value) = is_claimed value.word basic ∷ []
tests (Ld colour rd rs) = is_typed rs ∷ is_coloured rs colour ∷ is_reference rs ∷ []
tests (St Green rd rs) =
    is_typed rd ∷ is_typed rs ∷ is_coloured rd Green ∷ is_coloured rs Green ∷ is_reference rd ∷ is_stored_as rs rd ∷ has_room ∷ []
tests (St Blue rd rs) =
    is_typed rd ∷ is_typed rs ∷ is_coloured rd Blue ∷ is_coloured rs Blue ∷ is_reference rd ∷ is_stored_as rs rd
    ∷ has_oldest ∷ is_oldest_address rd ∷ is_oldest_value rs ∷ []
tests (JmpG rd) = is_typed rd ∷ is_coloured rd Green ∷ is_target rd ∷ is_d_zero ∷ []
tests (JmpB rd u) =
    is_typed rd ∷ is_coloured rd Blue ∷ is_target rd ∷ is_d_code ∷ is_announced rd
    ∷ is_substitution rd u ∷ has_registers rd u ∷ has_queue rd u ∷ has_memory rd u ∷ []
tests (BzG rz rd) =
    is_typed rz ∷ is_typed rd ∷ is_coloured rz Green ∷ is_coloured rd Green ∷ is_target rd ∷ is_d_zero ∷ []
tests (BzB rz rd u) =
    is_typed rz ∷ is_typed rd ∷ is_coloured rz Blue ∷ is_coloured rd Blue ∷ is_target rd ∷ is_d_conditional ∷ is_tested rz ∷ is_announced rd
    ∷ is_substitution rd u ∷ has_registers rd u ∷ has_queue rd u ∷ has_memory rd u ∷ []
tests Halt = is_d_zero ∷ has_empty_queue ∷ []
tests (Idx rd rs first m) = is_typed rs ∷ is_array first m ∷ []

-- the result of an instruction's row if all its tests hold
abbrev pub effect : Object → Context → Instr → Outcome
effect o c (OpReg op rd rs rt) =
    Goes (with_type rd.number (record { colour = (known c rs).colour; basic = int; form = norm_op op (known c rs).form (known c rt).form }) c)
effect o c (OpWord op rd rs value) =
    Goes (with_type rd.number (record { colour = (known c rs).colour; basic = int; form = norm_op op (known c rs).form (constant value.word) }) c)
effect o c (Mov rd basic value) = Goes (with_type rd.number (record { colour = value.colour; basic = basic; form = constant value.word }) c)
effect o c (Ld colour rd rs) =
    Goes (with_type rd.number (record { colour = colour; basic = type_referred c rs; form = norm_sel (seen_memory colour c) (known c rs).form }) c)
effect o c (St Green rd rs) = Goes (record c { queue = c.queue ++ ((known c rd).form, (known c rs).form) ∷ [] })
effect o c (St Blue rd rs) = Goes (record c { queue = others c.queue; memory = norm_upd c.memory (known c rd).form (known c rs).form })
effect o c (JmpG rd) = Goes (record c { d = d_code (code_of c rd) (known c rd).form })
effect o c (JmpB rd u) = Ends
effect o c (BzG rz rd) = Goes (record c { d = d_conditional (known c rz).form (code_of c rd) (known c rd).form })
effect o c (BzB rz rd u) = Goes (record c { d = d_zero })
effect o c Halt = Ends
effect o c (Idx rd rs first m) = Goes (with_type rd.number (record { colour = (known c rs).colour; basic = ref (array_type o first m); form = run_form first m (known c rs).form }) c)

-- the premise of the first test that does not hold
abbrev pub first_failing : Object → Context → List Test → Option Premise
first_failing o c [] = None
first_failing o c (t ∷ ts) = if holds o c t then first_failing o c ts else Some (premise_of t)

-- the refusal if a premise fails, otherwise the effect
abbrev pub refused_or : Option Premise → Outcome → Outcome
refused_or None e = e
refused_or (Some p) e = Fails p

-- the row of an instruction gives the premise of the first of its tests that fails, or its effect if none fails
abbrev pub IsTheRow : Object → Context → Instr → Type 0
IsTheRow o c i = row o c i ≡ refused_or (first_failing o c (tests i)) (effect o c i)
