-- Every line has a reading: it has one of the forms, or it is bad.
use Rattle.std.proofs.Common.{◌≡◌, inl, inr, ℕ, ◌^◌, Bool, true, false, List, [], ◌∷◌, ◌++◌, decimal, codes, refl, ap}
use Rattle.std.proofs.Common.{sym, ◌∙◌, arith}
use Rattle.std.specs.List.{AllZip}
use Rattle.std.proofs.lemmas.Bool.{true≢false}
use Rattle.ft_text.proofs.Decided.{IsDecided, IsOf, after_piece, BothGood, with_space, two_words, IsBelow, below_found}
use Rattle.ft_text.proofs.Decided.{itself}
use Rattle.ft_link_map.specs.MapLines.{MapLine, Module, Export, Import, Bad, is_file, is_block_name, IsWritten, Says}
use Rattle.ft_link_map.proofs.Spaces.{name_no_space}

-- it is decidable whether a text is a block number
block_found : (text : List ℕ) → IsDecided (IsOf (IsBelow (2 ^ 32)) decimal text)
block_found text = below_found (2 ^ 32) (omega arith) text

-- FILES AND NAMES

-- the text passes the test
abbrev Passes : (List ℕ → Bool) → List ℕ → Type 0
Passes test text = test text ≡ true

-- it is decidable whether a text passes a test: by cases on the result of the test
tested : (test : List ℕ → Bool) (text : List ℕ) (b : Bool) → test text ≡ b → IsDecided (IsOf (Passes test) itself text)
tested test text true e = inl (text, (e, refl))
tested test text false e = inr (λ other h. true≢false (sym h.0 ∙ ap test (sym h.1) ∙ e))

-- it is decidable whether a text passes a test
test_found : (test : List ℕ → Bool) (text : List ℕ) → IsDecided (IsOf (Passes test) itself text)
test_found test text = tested test text (test text) refl

-- it is decidable whether a text is a name and a block
ask_found : (text : List ℕ) → IsDecided (IsOf (BothGood (Passes is_block_name) (IsBelow (2 ^ 32)))
    (with_space itself decimal) text)
ask_found text = two_words (Passes is_block_name) itself (IsBelow (2 ^ 32)) decimal name_no_space
    (test_found is_block_name) block_found text

-- LINES

-- the line is this piece followed by a file
abbrev IsFileAfter : List ℕ → List ℕ → List ℕ → Type 0
IsFileAfter piece line = IsOf (Passes is_file) (λ file. piece ++ itself file) line

-- the line is this piece followed by a name and a block
abbrev IsAskAfter : List ℕ → List ℕ → List ℕ × ℕ → Type 0
IsAskAfter piece line = IsOf (BothGood (Passes is_block_name) (IsBelow (2 ^ 32))) (λ p. piece
    ++ with_space itself decimal p) line

-- a line that has none of the three forms is bad
no_form : (line : List ℕ) → ((file : List ℕ) → ¬ (IsFileAfter (codes "module ") line file)) →
    ((p : List ℕ × ℕ) → ¬ (IsAskAfter (codes "export ") line p)) →
    ((p : List ℕ × ℕ) → ¬ (IsAskAfter (codes "import ") line p))
    → (l : MapLine) → ¬ (IsWritten l line)
no_form line m e i (Module file) h = m file h
no_form line m e i (Export name block) h = e (name, block) ((h.0, h.1), h.2)
no_form line m e i (Import name block) h = i (name, block) ((h.0, h.1), h.2)
no_form line m e i Bad h = h

-- a line has a reading: by cases on which of the three forms it has
by_forms : (line : List ℕ) → IsDecided (IsFileAfter (codes "module ") line) →
    IsDecided (IsAskAfter (codes "export ") line) → IsDecided (IsAskAfter (codes "import ") line) → (l : MapLine)
    × Says line l
by_forms line (inl x) e i = (Module x.0, x.1)
by_forms line (inr m) (inl x) i = (Export x.0.0 x.0.1, (x.1.0.0, x.1.0.1, x.1.1))
by_forms line (inr m) (inr e) (inl x) = (Import x.0.0 x.0.1, (x.1.0.0, x.1.0.1, x.1.1))
by_forms line (inr m) (inr e) (inr i) = (Bad, no_form line m e i)

-- every line has a reading
some_line : (line : List ℕ) → (l : MapLine) × Says line l
some_line line =
    by_forms line (after_piece (Passes is_file) itself (test_found is_file) (codes "module ") line)
    (after_piece (BothGood (Passes is_block_name) (IsBelow (2 ^ 32))) (with_space itself decimal) ask_found
    (codes "export ") line)
    (after_piece (BothGood (Passes is_block_name) (IsBelow (2 ^ 32))) (with_space itself decimal) ask_found
    (codes "import ") line)

-- every list of lines has a reading
pub some_list : (lines : List (List ℕ)) → (ls : List MapLine) × AllZip Says lines ls
some_list [] = ([], tt)
some_list (t ∷ ts) = (let l = some_line t in let ls = some_list ts in (l.0 ∷ ls.0, (l.1, ls.1)))
