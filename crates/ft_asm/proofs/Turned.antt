-- How each line changes the draft, and what the final draft says about the text.
use Rattle.std.proofs.Common.{◌≡◌, inl, inr, ℕ, suc, ◌==◌, Bool, true, false, not, List, [], ◌∷◌, ◌++◌, length, Some}
use Rattle.std.proofs.Common.{None, refl, ap, sym, ◌∙◌, subst, append-nil, arith}
use Rattle.std.specs.Prelude.{if◌then◌else◌}
use Rattle.std.specs.List.{AllByRecursion}
use Rattle.std.proofs.lemmas.Bool.{and_from}
use Rattle.ft_types.specs.declared.object.Object.{Object}
use Rattle.ft_text.specs.Lines.{with_byte, lines_of}
use Rattle.ft_asm.specs.declared.line.Line.{Line}
use Rattle.ft_text.specs.LineWords.{is_blank, pieces_of, with_bytes, words_of}
use Rattle.ft_asm.specs.Words.{is_said, is_part, HasParts, IsAnyWord}
use Rattle.ft_asm.specs.Listings.{Listing}
use Rattle.ft_asm.specs.LineForms.{line_in}
use Rattle.ft_asm.specs.Drafts.{Draft, Start, InType, InBlock, Done, next}
use Rattle.ft_asm.specs.Held.{Ends}
use Rattle.ft_asm.specs.Reads.{Reads, Stops, IsTextFault, IsOrderFault, Lacks}
use Rattle.ft_asm.specs.Turns.{Leads}
use Rattle.ft_asm.proofs.FormLaws.{line_sound, no_line}
use Rattle.ft_asm.proofs.Faults.{HasNoFeed, HaveNoFeed, lines_free, Lead, lead_silent, lead_more, lead_begins}
use Rattle.ft_asm.proofs.Faults.{done_reads, open_reads, stuck}

-- WORDS

with_byte_parts : (b : ℕ) (ps : List (List ℕ)) → is_part b ≡ true → AllByRecursion HasParts ps →
    AllByRecursion HasParts (with_byte b ps)
with_byte_parts b [] e h = ((e, tt), tt)
with_byte_parts b (p ∷ ps) e h = ((e, h.0), h.1)

pieces_step : (t : Bool) (b : ℕ) (ps : List (List ℕ)) → is_blank b ≡ t → (b == 10) ≡ false →
    AllByRecursion HasParts ps → AllByRecursion HasParts (if t then [] ∷ ps else with_byte b ps)
pieces_step true b ps e f h = (tt, h)
pieces_step false b ps e f h = with_byte_parts b ps (and_from (not (is_blank b)) (not (b == 10)) (ap not e) (ap not f))
    h

pieces_parts : (line : List ℕ) → HasNoFeed line → AllByRecursion HasParts (pieces_of line)
pieces_parts [] h = (tt, tt)
pieces_parts (b ∷ bs) h = pieces_step (is_blank b) b (pieces_of bs) refl h.0 (pieces_parts bs h.1)

kept_words : (ps : List (List ℕ)) → AllByRecursion HasParts ps → AllByRecursion IsAnyWord (with_bytes ps)
kept_words [] h = tt
kept_words ([] ∷ ps) h = kept_words ps h.1
kept_words ((b ∷ bs) ∷ ps) h = ((omega arith, h.0), kept_words ps h.1)

words_are : (line : List ℕ) → HasNoFeed line → AllByRecursion IsAnyWord (words_of line)
words_are line h = kept_words (pieces_of line) (pieces_parts line h)

-- LINES

free_parts : (xs ys : List (List ℕ)) → HaveNoFeed (xs ++ ys) → HaveNoFeed xs × HaveNoFeed ys
free_parts [] ys h = (tt, h)
free_parts (x ∷ xs) ys h = let rest = free_parts xs ys h.1 in ((h.0, rest.0), rest.1)

free_line : (text : List ℕ) (before after : List (List ℕ)) (line : List ℕ) → lines_of text ≡ before ++ line ∷ after →
    HaveNoFeed before × HasNoFeed line
free_line text before after line e = let parts = free_parts before (line ∷ after) (subst HaveNoFeed e (lines_free text))
    in (parts.0, parts.1.0)

module _ (text : List ℕ) (number : ℕ) (before after : List (List ℕ)) (line : List ℕ) (split : lines_of text ≡ before
    ++ line ∷ after) (here : number ≡ suc (length before)) (d : Draft) (lead : Lead before d)
    (said : is_said (words_of line) ≡ true) where
  stops : Stops text number
  stops = record {
    before = before;
    line = line;
    after = after;
    split = split;
    here = here;
    begin = lead_begins before d (free_line text before after line split).0 lead;
    said = said;
  }

  pub bad_line : line_in (words_of line) ≡ None → IsTextFault text number
  unfolding stops
  bad_line e = record { stop = stops; none = no_line (words_of line) e }

  pub stuck_line : (l : Line) → line_in (words_of line) ≡ Some l → next d l ≡ None → IsOrderFault text number
  unfolding stops
  stuck_line l e n =
      let form = line_sound (words_of line) (words_are line (free_line text before after line split).1) l e in
      record { stop = stops; form = l; is_form = form; none = stuck before d line l lead said form n }

-- if the lines before a line lead to d, and the line leads from d to e, then all of them lead to e
pub lead_on : (text : List ℕ) (before after : List (List ℕ)) (line : List ℕ) (d e : Draft) → lines_of text ≡ before
    ++ line ∷ after → Lead before d → Leads d line e → Lead (before ++ line ∷ []) e
lead_on text before after line d e split lead (inl silent) =
    subst (Lead (before ++ line ∷ [])) silent.1 (lead_silent before d line lead silent.0)
lead_on text before after line d e split lead (inr more) =
    lead_more before d e line more.0 lead more.1 (line_sound (words_of line)
    (words_are line (free_line text before after line split).1) more.0 more.2) more.3

-- if the draft after the last line gives an object, the text reads as that object
pub ends_reads : (text : List ℕ) (o : Object) (d : Draft) → Lead (lines_of text) d → Ends (Some o) d → Reads text o
ends_reads text o (Start cs ns) h e = absurd e
ends_reads text o (InType cs ns ts t) h e = absurd e
ends_reads text o (InBlock cs ns ts ps p) h e = absurd e
ends_reads text o (Done l) h e = subst (Reads text) (sym e) (done_reads text l h)

not_done : (d : Draft) → Ends None d → (l : Listing) → ¬ (d ≡ Done l)
not_done (Start cs ns) e l f = absurd cc
not_done (InType cs ns ts t) e l f = absurd cc
not_done (InBlock cs ns ts ps p) e l f = absurd cc
not_done (Done k) e l f = absurd e

pub ends_lacks : (text : List ℕ) (number : ℕ) (d : Draft) → number ≡ suc (length (lines_of text)) →
    Lead (lines_of text) d → Ends None d → Lacks text number
ends_lacks text number d here h e = record {
  here = here;
  begin = lead_begins (lines_of text) d (lines_free text) h;
  none = open_reads text d h (not_done d e);
}

-- if nothing is left of the text, the lines read so far are all its lines
pub all_read : (text rest : List ℕ) (before : List (List ℕ)) → lines_of text ≡ before ++ lines_of rest → rest ≡ [] →
    lines_of text ≡ before
all_read text rest before e f = e ∙ ap (λ r. before ++ lines_of r) f ∙ append-nil before
