-- Arrays that represent the same map are equal.
use Rattle.std.proofs.Common.{◌≡◌, ℕ, ◌+◌, ◌-◌, ◌<◌, List, length, Some, Bool, true, false, slice_get, get_or, refl, ap}
use Rattle.std.proofs.Common.{sym, ◌∙◌, arith, Decides, eqb}
use Rattle.std.proofs.lemmas.Option.{slice_get-get_or}
use Rattle.std.proofs.lemmas.Bool.Decides.{Decides-eqb, Decides-like}
use Rattle.std.proofs.lemmas.Slice.Eq.{slice_eq-Decides}
use lib.Pointwise.{pointwise}
use Rattle.ft_isa.specs.declared.colour.Colour.{Colour}
use Rattle.ft_isa.specs.declared.colour.Colour.TheVariants.{Green}
use Rattle.ft_isa.specs.contracts.colour.Colour as colour
use denote.Enum.Bare.{sameb}
use Rattle.std.specs.Prelude.{not}
use Rattle.ft_isa.specs.declared.colour.Coloured.{Coloured}
use Rattle.ft_isa.proofs.Decided.{colour_decides}
use Rattle.ft_queue.proofs.SameLists.{same_lists}
use Rattle.ft_semantics.specs.State.{cell_at, is_cell, held}
use Rattle.ft_machine.specs.Arrays.{cells_of, registers_of, held_in}
use Rattle.ft_machine.proofs.Arrayed.{cell_read, as_many_words, register_read}

at_place : (j : ℕ) → 1048576 + j - 1048576 ≡ j
at_place j = omega arith

word_read : (xs : List ℕ) (j : ℕ) → cell_at (cells_of xs) (1048576 + j) ≡ slice_get xs j
word_read xs j = cell_read xs (1048576 + j) (omega arith) ∙ ap (slice_get xs) (at_place j)

pub same_words : (xs ys : List ℕ) → cells_of xs ≡ cells_of ys → xs ≡ ys
same_words xs ys e = same_lists xs ys (as_many_words xs ys (λ a. ap (λ m. is_cell m a) e)) (λ j lt. sym (word_read xs j)
    ∙ ap (λ m. cell_at m (1048576 + j)) e ∙ word_read ys j)

-- arrays of words are equal exactly when their cells are
pub cells_decide : (xs ys : List ℕ) (r : Bool) → r ≡ pointwise eqb xs ys → Decides r (cells_of xs ≡ cells_of ys)
cells_decide xs ys r e = Decides-like r (ap cells_of) (same_words xs ys) (slice_eq-Decides Decides-eqb xs ys r e)

same_places : {X : Type 0} (xs ys : List X) (d : X) → length xs ≡ 64 → length ys ≡ 64 →
    ((i : ℕ) → i < 64 → get_or xs i d ≡ get_or ys i d) → xs ≡ ys
same_places xs ys d ex ey h = same_lists xs ys (ex ∙ sym ey) (λ j lt. slice_get-get_or xs j d lt
    ∙ ap Some (h j (omega (arith, lt, ex))) ∙ sym (slice_get-get_or ys j d (omega (arith, lt, ex, ey))))

same_held : (xs ys : List ℕ) (cs ds : List Colour) → registers_of xs cs ≡ registers_of ys ds → (i : ℕ) → i < 64 →
    held_in xs cs i ≡ held_in ys ds i
same_held xs ys cs ds e i lt = sym (register_read xs cs i lt) ∙ ap (λ m. held m i) e ∙ register_read ys ds i lt

pub same_register_words : (xs ys : List ℕ) (cs ds : List Colour) → length xs ≡ 64 → length ys ≡ 64 → registers_of xs cs
    ≡ registers_of ys ds → xs ≡ ys
same_register_words xs ys cs ds ex ey e = same_places xs ys 0 ex ey (λ i lt.
    ap (λ (x : Coloured). x.word) (same_held xs ys cs ds e i lt))

pub same_register_colours : (xs ys : List ℕ) (cs ds : List Colour) → length cs ≡ 64 → length ds ≡ 64 →
    registers_of xs cs ≡ registers_of ys ds → cs ≡ ds
same_register_colours xs ys cs ds ec ed e = same_places cs ds Green ec ed (λ i lt.
    ap (λ (x : Coloured). x.colour) (same_held xs ys cs ds e i lt))

pub colours_decide : (xs ys : List Colour) (r : Bool) → r ≡ pointwise (λ a b. sameb colour.the_type a b) xs ys →
    Decides r (xs ≡ ys)
colours_decide xs ys r e = slice_eq-Decides colour_decides xs ys r e

pub words_decide : (xs ys : List ℕ) (r : Bool) → r ≡ pointwise eqb xs ys → Decides r (xs ≡ ys)
words_decide xs ys r e = slice_eq-Decides Decides-eqb xs ys r e

pub not_true : (r p : Bool) → r ≡ not p → r ≡ true → p ≡ false
not_true r true e t = absurd (cc)
not_true r false e t = refl

pub not_false : (r p : Bool) → r ≡ not p → r ≡ false → p ≡ true
not_false r true e t = refl
not_false r false e t = absurd (cc)
