-- What is returned for a text is its outcome.
use Rattle.std.proofs.Common.{◌≡◌, List, ℕ, Result, Ok, Err, Vec, Global, sym, subst}
use Rattle.std.specs.Prelude.{IfOk, IfErr}
use Rattle.std.specs.Result.{IsErrAnd}
use Rattle.ft_types.specs.declared.object.Object as objects
use Rattle.ft_asm.specs.declared.asm_error.AsmError.{AsmError}
use Rattle.ft_asm.specs.declared.asm_error.AsmError.TheVariants as errors
use Rattle.ft_asm.specs.Reads.{Answer, Is, TooLong, Text, Order, Broken, Applies}
use Rattle.ft_asm.specs.Refusals.{IsRefusal, IsAssembly, IsError, Gives, GivesBytes}
use Rattle.ft_asm.proofs.Single.{one_answer}

-- a refusal that applies is the outcome
refusal_is : (text : List ℕ) (e : AsmError) (x : Answer) → IsRefusal text e → Applies text x → IsError e x
refusal_is text (errors.Text line) x h a = one_answer text (Text line) x h a
refusal_is text (errors.Order line) x h a = one_answer text (Order line) x h a
refusal_is text errors.TooLong x h a = one_answer text TooLong x h a
refusal_is text (errors.Object e) x h a = one_answer text (Broken e) x h a
refusal_is text errors.NoMemory x h a = tt

-- a returned object is the outcome, and so is a returned refusal
pub exact : (text : List ℕ) (r : Result objects.Object AsmError) → IfOk r (λ o. Applies text (Is o)) →
    IfErr r (IsRefusal text)
    → (x : Answer) → Applies text x → Gives r x
exact text (Ok o) h i x a = one_answer text (Is o) x h a
exact text (Err e) h i x a = refusal_is text e x i a

-- returned bytes are those of the outcome, and a returned refusal is the outcome
pub exact_bytes : (text : List ℕ) (r : Result (Vec ℕ Global) AsmError) → IfOk r (λ bytes. IsAssembly text bytes.items)
    → IfErr r (IsRefusal text) → (x : Answer) → Applies text x → GivesBytes r x
exact_bytes text (Ok bytes) h i x a = record {
  object = h.object;
  is = one_answer text (Is h.object) x h.reads a;
  spelled = h.spelled;
}
exact_bytes text (Err e) h i x a = refusal_is text e x i a

-- a refusal that is passed on still applies to the text
pub passed_on : {X : Type 0} (text : List ℕ) (r : Result X AsmError) (e : AsmError) → IsErrAnd r (λ f. f ≡ e) →
    IsRefusal text e → IfErr r (IsRefusal text)
passed_on text (Ok o) e is h = absurd is
passed_on text (Err f) e is h = subst (IsRefusal text) (sym is) h
