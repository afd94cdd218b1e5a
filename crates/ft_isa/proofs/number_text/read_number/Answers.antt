use Rattle.std.proofs.Common.{◌≡◌, ℕ, List, Option, Some, None, refl, sym, ap, ◌∙◌, take, arith, IfSome}
use Rattle.std.specs.Option.{option_map}
use Rattle.std.proofs.lemmas.List.{take_all}
use Rattle.ft_isa.specs.PlanText.{IsNumberText}
use Rattle.ft_isa.specs.Reading.{state_after}
use Rattle.ft_isa.proofs.NumberRead.{next_number, number_told, IsNumberRead}
use Rattle.ft_isa.proofs.Readers.{state_after-more, reads_ok, reads_only, refused_at}
use Rattle.ft_isa.proofs.NumberText.{whole_number, number_reader}
use Rattle.ft_isa.proofs.number_text.read_number.Goals as goal

pub loop-byte-init : goal.loop-byte-init
loop-byte-init c = refl

pub loop-byte-preserved : goal.loop-byte-preserved
loop-byte-preserved c =
    state_after-more next_number None c.loop-byte.number (Some c.in-Some.next) c.args.text.now c.loop-byte.byte-index
    c.loop-byte-test.true c.loop-byte.invariant
    (ap (option_map Some) (sym c.with_digit.ensures ∙ c.in-Some.is))

pub returns-in_default-clause-exact : goal.returns-in_default-clause-exact
returns-in_default-clause-exact c =
    let refused = refused_at next_number whole_number None number_told IsNumberRead IsNumberText number_reader
    c.loop-byte.number c.args.text.now c.loop-byte.byte-index c.loop-byte-test.true c.loop-byte.invariant
    (ap (option_map Some) (sym c.with_digit.ensures ∙ c.in_default.is)) in
    λ n h. absurd (refused.none n h)

number_is : (text : List ℕ) (o : Option ℕ) → state_after next_number None text ≡ Some o → IfSome o (IsNumberText text)
number_is text None read = tt
number_is text (Some n) read = reads_ok next_number whole_number None number_told IsNumberRead IsNumberText
    number_reader (Some n) n text read refl

pub returns : goal.returns
returns c =
    let text = c.args.text.now in
    let whole : take c.loop-byte.byte-index text ≡ text = take_all c.loop-byte.byte-index text (omega arith) in
    let read : state_after next_number None text ≡ Some c.loop-byte.number =
    ap (state_after next_number None) (sym whole) ∙ c.loop-byte.invariant in
    record {
      some = number_is text c.loop-byte.number read;
      exact = λ n h. reads_only next_number whole_number None number_told IsNumberRead IsNumberText number_reader
          c.loop-byte.number n text read h;
    }
