-- Each text has an outcome.
use Rattle.std.proofs.Common.{◌≡◌, inl, inr, ℕ, suc, ◌≤◌, nat_le, Bool, true, false, List, [], ◌∷◌, ◌++◌, length}
use Rattle.std.proofs.Common.{Option, Some, None, refl, sym, ◌∙◌, subst, append_assoc, append-nil}
use Rattle.std.proofs.lemmas.Bool.{leb-true, leb-false}
use Rattle.ft_types.specs.declared.object.Object.{Object}
use Rattle.ft_text.specs.Lines.{lines_of}
use Rattle.ft_asm.specs.declared.line.Line.{Line}
use Rattle.ft_text.specs.LineWords.{words_of}
use Rattle.ft_asm.specs.Words.{is_said}
use Rattle.ft_asm.specs.Listings.{object_of}
use Rattle.ft_asm.specs.LineForms.{line_in}
use Rattle.ft_asm.specs.Drafts.{Draft, Start, InType, InBlock, Done, next}
use Rattle.ft_format.specs.declared.object_error.ObjectError.{ObjectError}
use Rattle.ft_asm.specs.Reads.{Reads, Answer, Is, TooLong, Text, Order, Broken, rule_broken, Applies}
use Rattle.ft_asm.proofs.Faults.{Lead, lead_none, done_reads}
use Rattle.ft_asm.proofs.Turned.{bad_line, stuck_line, lead_on, ends_lacks}

module _ (text : List ℕ) (few : length text ≤ 134217728) where
  abbrev Some_answer : Type 0
  Some_answer = (x : Answer) × Applies text x

  by_rules : (o : Object) (b : Option ObjectError) → Reads text o → rule_broken o ≡ b → Some_answer
  by_rules o None r e = (Is o, (few, r, e))
  by_rules o (Some error) r e = (Broken error, (few, o, r, e))

  at_end : (d : Draft) → Lead (lines_of text) d → Some_answer
  at_end (Start cs ns) h = (
    Order (suc (length (lines_of text))),
    (few, inr (ends_lacks text (suc (length (lines_of text))) (Start cs ns) refl h tt)),
  )
  at_end (InType cs ns ts t) h = (
    Order (suc (length (lines_of text))),
    (few, inr (ends_lacks text (suc (length (lines_of text))) (InType cs ns ts t) refl h tt)),
  )
  at_end (InBlock cs ns ts ps p) h = (
    Order (suc (length (lines_of text))),
    (few, inr (ends_lacks text (suc (length (lines_of text))) (InBlock cs ns ts ps p) refl h tt)),
  )
  at_end (Done l) h = by_rules (object_of l) (rule_broken (object_of l)) (done_reads text l h) refl

  module _ (before after : List (List ℕ)) (line : List ℕ) (split : lines_of text ≡ before
      ++ line ∷ after) (d : Draft) (h : Lead before d) (going : (e : Draft) → Lead (before ++ line ∷ []) e →
      Some_answer) where
    by_next : (l : Line) (o : Option Draft) → is_said (words_of line) ≡ true → line_in (words_of line) ≡ Some l →
        next d l ≡ o → Some_answer
    by_next l None t e n = (
      Order (suc (length before)),
      (few, inl (stuck_line text (suc (length before)) before after line split refl d h t l e n)),
    )
    by_next l (Some e') t e n = going e' (lead_on text before after line d e' split h (inr (l, t, e, n)))

    by_form : (o : Option Line) → is_said (words_of line) ≡ true → line_in (words_of line) ≡ o → Some_answer
    by_form None t e = (
      Text (suc (length before)),
      (few, bad_line text (suc (length before)) before after line split refl d h t e),
    )
    by_form (Some l) t e = by_next l (next d l) t e refl

    by_said : (t : Bool) → is_said (words_of line) ≡ t → Some_answer
    by_said true t = by_form (line_in (words_of line)) t refl
    by_said false t = going d (lead_on text before after line d d split h (inl (t, refl)))

  from_here : (rest before : List (List ℕ)) (d : Draft) → lines_of text ≡ before ++ rest → Lead before d → Some_answer
  from_here [] before d e h = at_end d (subst (λ ls. Lead ls d) (sym (e ∙ append-nil before)) h)
  from_here (line ∷ rest) before d e h = by_said before rest line e d h (λ f more.
      from_here rest (before ++ line ∷ []) f (e ∙ sym (append_assoc before (line ∷ []) rest)) more)
      (is_said (words_of line)) refl

by_length : (text : List ℕ) (t : Bool) → nat_le (length text) 134217728 ≡ t → (x : Answer) × Applies text x
by_length text true e = from_here text (leb-true (length text) 134217728 e) (lines_of text) [] (Start [] []) refl
    lead_none
by_length text false e = (TooLong, leb-false (length text) 134217728 e)

pub some_answer : (text : List ℕ) → (x : Answer) × Applies text x
some_answer text = by_length text (nat_le (length text) 134217728) refl
