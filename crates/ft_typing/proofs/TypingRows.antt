-- The typing rows agree with the table: each step of a row is a test of the table, followed by the rest of the row.
use Rattle.std.proofs.Common.{◌≡◌, ℕ, zero, suc, Bool, true, false, ◌&&◌, not, List, [], ◌∷◌, Option, Some, None}
use Rattle.std.proofs.Common.{is_some, refl, sym, ap, ◌∙◌, if◌then◌else◌, ◌≢◌}
use Rattle.std.specs.Option.{unwrap_or}
use Rattle.ft_isa.specs.declared.basic.Base.{Base}
use Rattle.ft_isa.specs.declared.basic.Base.TheVariants.{Int, Code}
use Rattle.ft_isa.specs.declared.basic.Basic.{Basic}
use Rattle.ft_isa.specs.declared.colour.Colour.TheVariants.{Green}
use Rattle.ft_isa.specs.declared.instr.Instr.{Instr}
use Rattle.ft_isa.specs.declared.instr.Instr.TheVariants.{St, Halt}
use Rattle.ft_isa.specs.BasicTypes.{int}
use Rattle.ft_static.specs.Form.{Polynomial, nought}
use Rattle.ft_types.specs.declared.object.Object.{Object}
use Rattle.ft_typing.specs.declared.why.Why.TheVariants as premise
use Rattle.ft_typing.specs.Premise.{Premise}
use Rattle.ft_typing.specs.Context.{Typed, StateOfD, d_zero, d_code, d_conditional, FormPair, Context}
use Rattle.ft_typing.specs.RowWords.{Outcome, Fails, need, for_typed, for_ref_over, for_code_over, for_zero, for_target}
use Rattle.ft_typing.specs.RowWords.{for_conditional, for_oldest, for_run, is_empty, leads}
use Rattle.ft_typing.specs.TypingRow.{row, tests, effect, first_failing, refused_or, IsTheRow}
use Rattle.ft_typing.specs.RowTests.{Test, premise_of, refers, referred, leads_to_code, code_led_to, is_zero, is_code}
use Rattle.ft_typing.specs.RowTests.{is_conditional, code_of_d, form_of_d, test_of_d, oldest, others, holds}

-- the default for a register of which nothing is known
abbrev unknown : Typed
unknown = record { colour = Green; basic = int; form = nought }

-- a chain of tests: the refusal of the first test that fails, or the given outcome if all hold
judged : Object → Context → List Test → Outcome → Outcome
judged o c [] e = e
judged o c (t ∷ ts) e = need (premise_of t) (holds o c t) (judged o c ts e)

-- a premise tested before others: its own refusal if it fails, otherwise their result
need_or : (p : Premise) (b : Bool) (x e : Outcome) (f : Option Premise) → x ≡ refused_or f e → need p b x
    ≡ refused_or (if b then f else Some p) e
unfolding need
need_or p true x e f h = h
need_or p false x e f h = refl

-- the chain gives the premise of the first test that fails, or the effect if none fails
judged_is : (o : Object) (c : Context) (ts : List Test) (e : Outcome) → judged o c ts e
    ≡ refused_or (first_failing o c ts) e
unfolding judged
judged_is o c [] e = refl
judged_is o c (t ∷ ts) e = need_or (premise_of t) (holds o c t) (judged o c ts e) e (first_failing o c ts)
    (judged_is o c ts e)

-- a test followed by equal results gives equal results
need_next : (p : Premise) (b : Bool) {x y : Outcome} → x ≡ y → need p b x ≡ need p b y
need_next p b e = ap (need p b) e

-- testing two conditions of one premise at once is the same as testing them in turn
need_both : (p : Premise) (a b : Bool) {x y : Outcome} → x ≡ y → need p (a && b) x ≡ need p a (need p b y)
unfolding need
need_both p true b e = ap (need p b) e
need_both p false b e = refl

-- the step that tests Untyped
typed_next : (x : Option Typed) (f : Typed → Outcome) {y : Outcome} → f (unwrap_or x unknown) ≡ y → for_typed x f
    ≡ need premise.Untyped (is_some x) y
unfolding need for_typed
typed_next None f e = refl
typed_next (Some t) f e = e

-- the step that tests NotRef
ref_next : (n : ℕ) (base : Base) (f : Basic → Outcome) {y : Outcome} → f (referred n base) ≡ y → for_ref_over n base f
    ≡ need premise.NotRef (refers n) y
unfolding need for_ref_over
ref_next zero base f e = refl
ref_next (suc k) base f e = e

-- the step that tests NotCode
code_next : (n : ℕ) (base : Base) (f : ℕ → Outcome) {y : Outcome} → f (code_led_to n base) ≡ y → for_code_over n base f
    ≡ need premise.NotCode (leads_to_code n base) y
unfolding need for_code_over
code_next zero Int f e = refl
code_next zero (Code t) f e = e
code_next (suc k) base f e = refl

-- the step that tests StateOfD, where d must be Zero
zero_next : (d : StateOfD) {x y : Outcome} → x ≡ y → for_zero d x ≡ need premise.StateOfD (is_zero d) y
unfolding need for_zero
zero_next d_zero e = e
zero_next (d_code t f) e = refl
zero_next (d_conditional z t f) e = refl

-- the step that tests StateOfD, where d must be Code
target_next : (d : StateOfD) (f : ℕ → Polynomial → Outcome) {y : Outcome} → f (code_of_d d) (form_of_d d) ≡ y →
    for_target d f ≡ need premise.StateOfD (is_code d) y
unfolding need for_target
target_next d_zero f e = refl
target_next (d_code t p) f e = e
target_next (d_conditional z t p) f e = refl

-- the step that tests StateOfD, where d must be Conditional
conditional_next : (d : StateOfD) (f : Polynomial → ℕ → Polynomial → Outcome) {y : Outcome} →
    f (test_of_d d) (code_of_d d) (form_of_d d) ≡ y → for_conditional d f ≡ need premise.StateOfD (is_conditional d) y
unfolding need for_conditional
conditional_next d_zero f e = refl
conditional_next (d_code t p) f e = refl
conditional_next (d_conditional z t p) f e = e

-- the step that tests QueueEmpty
oldest_next : (q : List FormPair) (f : FormPair → List FormPair → Outcome) {y : Outcome} → f (oldest q) (others q) ≡ y →
    for_oldest q f ≡ need premise.QueueEmpty (not (is_empty q)) y
unfolding need for_oldest is_empty
oldest_next [] f e = refl
oldest_next (p ∷ r) f e = e

-- the step that tests Array
run_next : (x : Option Basic) (f : Basic → Outcome) {y : Outcome} → f (unwrap_or x int) ≡ y → for_run x f
    ≡ need premise.Array (is_some x) y
unfolding need for_run
run_next None f e = refl
run_next (Some b) f e = e

-- the row is the chain of its tests; the clause for `Halt` splits the proof by instruction, and the one for `Green` by
-- colour
row_is_judged : (o : Object) (c : Context) (i : Instr) → row o c i ≡ judged o c (tests i) (effect o c i)
unfolding leads judged
row_is_judged o c Halt = zero_next _ refl
row_is_judged o c (St Green rd rs) = search (typed_next, need_both, ref_next)
row_is_judged o c i = search (
  typed_next,
  need_next,
  need_both,
  ref_next,
  code_next,
  zero_next,
  target_next,
  conditional_next,
  oldest_next,
  run_next,
) depth 9

-- the row gives the premise of the first of its tests that fails, or its effect if none fails
pub row_is : (o : Object) (c : Context) (i : Instr) → IsTheRow o c i
row_is o c i = row_is_judged o c i ∙ judged_is o c (tests i) (effect o c i)

-- each of these tests holds
abbrev pub HoldAll : Object → Context → List Test → Type 0
HoldAll o c [] = Unit {0}
HoldAll o c (t ∷ ts) = (holds o c t ≡ true) × HoldAll o c ts

-- a row that refuses nothing: all its tests hold, and it gives its effect
pub record Holds (o : Object) (c : Context) (i : Instr) (x : Outcome) : Type 0 where
  pub tested : HoldAll o c (tests i)
  pub gives : effect o c i ≡ x

-- if no test fails, all hold
hold_next : (o : Object) (c : Context) (t : Test) (ts : List Test) (b : Bool) → holds o c t ≡ b →
    (if b then first_failing o c ts else Some (premise_of t)) ≡ None → (first_failing o c ts ≡ None → HoldAll o c ts) →
    HoldAll o c (t ∷ ts)
hold_next o c t ts true h e rest = (h, rest e)
hold_next o c t ts false h e rest = cc

all_hold : (o : Object) (c : Context) (ts : List Test) → first_failing o c ts ≡ None → HoldAll o c ts
all_hold o c [] e = tt
all_hold o c (t ∷ ts) e = hold_next o c t ts (holds o c t) refl e (λ f. all_hold o c ts f)

pub row_holds : (o : Object) (c : Context) (i : Instr) (x : Outcome) → row o c i ≡ x → ((p : Premise) → x ≢ Fails p) →
    Holds o c i x
row_holds o c i x e passes = by_premise (first_failing o c (tests i)) refl (sym (row_is o c i) ∙ e)
  where
    by_premise : (f : Option Premise) → first_failing o c (tests i) ≡ f → refused_or f (effect o c i) ≡ x →
        Holds o c i x
    by_premise None h e = record { tested = all_hold o c (tests i) h; gives = e }
    by_premise (Some p) h e = absurd (passes p (sym e))
