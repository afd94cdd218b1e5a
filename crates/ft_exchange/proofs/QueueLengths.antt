-- How rows change the length of the static queue, and why only fixed instructions end a block.
use Rattle.std.proofs.Common.{◌≡◌, suc, ◌+◌, Bool, true, cond, not, List, [], ◌∷◌, ◌++◌, length, refl, ap, arith}
use Rattle.std.specs.List.{count_by}
use Rattle.std.proofs.lemmas.List.Sums.{sum_by-cons}
use Rattle.ft_isa.specs.declared.colour.Colour.TheVariants.{Green, Blue}
use Rattle.ft_isa.specs.declared.instr.Instr.{Instr}
use Rattle.ft_isa.specs.declared.instr.Instr.TheVariants.{St, JmpB, Halt}
use Rattle.ft_isa.specs.Instructions.{is_fixed, is_green_store, is_blue_store}
use Rattle.ft_isa.proofs.Lists.{length_pushed}
use Rattle.ft_types.specs.declared.object.Object.{Object}
use Rattle.ft_typing.specs.Context.{FormPair, Context}
use Rattle.ft_typing.specs.TypingRow.{row, effect}
use Rattle.ft_typing.specs.RowWords.{Outcome, Goes, Ends, Fails, is_empty}
use Rattle.ft_typing.specs.RowTests.{known, others}
use Rattle.ft_typing.proofs.TypingRows.{Holds, row_holds}
use Rattle.ft_exchange.specs.Exchange.{queue_after}

-- the length of the static queue after an instruction and any that follow it is the same whether it is computed from
-- the queue before the instruction or from the queue after it
abbrev pub Counts : Context → Instr → Context → Type 0
Counts c i d = (is : List Instr) → queue_after (length c.queue) (i ∷ is) ≡ queue_after (length d.queue) is

pub count_cons : (t : Instr → Bool) (i : Instr) (is : List Instr) → count_by t (i ∷ is) ≡ cond (t i) 1 0 + count_by t is
count_cons t i is = sum_by-cons (λ x. cond (t x) 1 0) i is

-- the static queue with which a row continues
abbrev queue_after_row : List FormPair → Outcome → List FormPair
queue_after_row q (Goes c) = c.queue
queue_after_row q Ends = q
queue_after_row q (Fails p) = q

-- a static queue that is not empty is shorter by one without its oldest pair
length-others : (q : List FormPair) → not (is_empty q) ≡ true → length q ≡ suc (length (others q))
unfolding is_empty
length-others [] h = cc
length-others (e ∷ q) h = refl

counts : (o : Object) (c d : Context) (i : Instr) → Holds o c i (Goes d) → Counts c i d
counts o c d (St Green rd rs) h = λ is.
    let green : count_by is_green_store (St Green rd rs ∷ is) ≡ 1 + count_by is_green_store is =
    count_cons is_green_store (St Green rd rs) is in
    let blue : count_by is_blue_store (St Green rd rs ∷ is) ≡ 0 + count_by is_blue_store is =
    count_cons is_blue_store (St Green rd rs) is in
    let pair : FormPair = ((known c rd).form, (known c rs).form) in
    let queue : c.queue ++ pair ∷ [] ≡ d.queue = ap (queue_after_row c.queue) h.gives in
    omega (arith, length_pushed c.queue pair, ap length queue, green, blue)
counts o c d (St Blue rd rs) h = λ is.
    let green : count_by is_green_store (St Blue rd rs ∷ is) ≡ 0 + count_by is_green_store is =
    count_cons is_green_store (St Blue rd rs) is in
    let blue : count_by is_blue_store (St Blue rd rs ∷ is) ≡ 1 + count_by is_blue_store is =
    count_cons is_blue_store (St Blue rd rs) is in
    let queue : others c.queue ≡ d.queue = ap (queue_after_row c.queue) h.gives in
    omega (arith, length-others c.queue h.tested.1.1.1.1.1.1.0, ap length queue, green, blue)
counts o c d i h = λ is. let queue : c.queue ≡ d.queue = ap (queue_after_row c.queue) h.gives in
    omega (arith, ap length queue)

pub counted : (o : Object) (c d : Context) (i : Instr) → row o c i ≡ Goes d → Counts c i d
counted o c d i e = counts o c d i (row_holds o c i (Goes d) e (λ p f. cc))

-- an instruction whose effect ends the block is fixed
fixed_end : (o : Object) (c : Context) (i : Instr) → effect o c i ≡ Ends → is_fixed i ≡ true
fixed_end o c (JmpB rd u) e = refl
fixed_end o c Halt e = refl
fixed_end o c (St Green rd rs) e = cc
fixed_end o c (St Blue rd rs) e = cc
fixed_end o c i e = cc

pub ends_fixed : (o : Object) (c : Context) (i : Instr) → row o c i ≡ Ends → is_fixed i ≡ true
ends_fixed o c i e = fixed_end o c i (row_holds o c i Ends e (λ p f. cc)).gives
