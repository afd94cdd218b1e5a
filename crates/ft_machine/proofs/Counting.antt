-- Counting outputs.
use Rattle.std.proofs.Common.{◌≡◌, ℕ, zero, suc, ◌+◌, ◌%◌, ◌^◌, ◌<◌, ◌≤◌, List, [], ◌∷◌, ◌++◌, length, Option, Some}
use Rattle.std.proofs.Common.{None, arith, length-append}
use Rattle.std.specs.Option.{option_to_list}
use Rattle.ft_isa.specs.declared.output.Output.{Output}
use Rattle.ft_isa.specs.declared.plan.Strike.{Strike}
use Rattle.ft_isa.specs.declared.plan.Wild.{Wild}
use Rattle.ft_types.specs.declared.object.Object.{Object}
use Rattle.ft_semantics.specs.State.{State}
use Rattle.ft_semantics.specs.Step.{step}
use Rattle.ft_semantics.specs.Strike.{struck_before}
use Rattle.ft_semantics.specs.Run.{run, outputs_after}
use Rattle.ft_machine.specs.Spans.{span}

next_count : (a n m b c : ℕ) → m ≡ n + 1 → a + m < 2 ^ 64 → (a + n < 2 ^ 64 → b ≡ a + n) → c ≡ (b + 1) % 2 ^ 64 → c
    ≡ a + m
next_count a n m b c is few before next = let e = before (omega (arith, is, few)) in omega (arith, e, next, is, few)

-- adding 1 counts one more output, if the new count fits in a word
pub count_next : (first old new : ℕ) (before : List Output) (x : Output) →
    (first + length before < 2 ^ 64 → old ≡ first + length before) → new ≡ (old + 1) % 2 ^ 64
    → first + length (before ++ x ∷ []) < 2 ^ 64 → new ≡ first + length (before ++ x ∷ [])
count_next first old new before x h next few = next_count first (length before) (length (before ++ x ∷ [])) old new
    (length-append before (x ∷ [])) few h next

few_of : (x : Option Output) → length (option_to_list x) ≤ 1
few_of None = omega arith
few_of (Some x) = omega arith

few_more : (n : ℕ) (xs : List Output) (x : Option Output) → length xs ≤ n → length (xs ++ option_to_list x) ≤ suc n
few_more n xs x before =
    let long = length-append xs (option_to_list x) in
    let few = few_of x in
    omega (arith, before, long, few)

-- each step has at most one output
pub span_few : (o : Object) (n : ℕ) (s : State) (w : List Wild) → length (span o n s w).outputs ≤ n
unfolding span
span_few o zero s w = omega arith
span_few o (suc n) s w =
    let r = span o n s w in few_more n r.outputs (step o r.state r.wild).output (span_few o n s w)

pub run_few : (o : Object) (strike : Option Strike) (w : List Wild) (n : ℕ) → length (outputs_after o strike w n) ≤ n
unfolding run
run_few o strike w zero = omega arith
run_few o strike w (suc n) =
    let r = run o strike w n in
    few_more n r.outputs (step o (struck_before strike n r.state) r.wild).output (run_few o strike w n)

-- so a count of outputs fits in a word if the number of steps does
pub few_fit : (long n most : ℕ) → long ≤ n → n ≤ most → most < 2 ^ 64 → 0 + long < 2 ^ 64
few_fit long n most a b c = omega (arith, a, b, c)
