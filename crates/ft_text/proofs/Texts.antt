-- Lines of a text.
use Rattle.std.proofs.Common.{◌≡◌, ℕ, suc, ◌+◌, ◌-◌, ◌<◌, ◌≤◌, ◌==◌, if◌then◌else◌, Bool, true, false, cond, List, []}
use Rattle.std.proofs.Common.{◌∷◌, length, take, drop, Some, None, refl, ap, sym, ◌∙◌, subst, arith}
use Rattle.std.specs.Prelude.{not, nat_lt, position}
use Rattle.std.specs.List.{position_or_len}
use Rattle.std.proofs.lemmas.Bool.{ltb-true, ltb-false}
use Rattle.std.proofs.lemmas.List.{take_rest, length-drop}
use Rattle.std.proofs.lemmas.Option.{cond_some}
use Rattle.ft_text.specs.Lines.{with_byte, lines_of}

-- where the first line feed is
abbrev feed : List ℕ → ℕ
feed text = position_or_len (λ byte. byte == 10) text

-- if a text's first line ends at its first line feed, this still holds with one more byte before the text
ends_step : (t : Bool) (b : ℕ) (bs : List ℕ) (p : ℕ) →
    (p < length bs → lines_of bs ≡ take p bs ∷ lines_of (drop (p + 1) bs)) → cond (not t) (1 + p) 0 < length (b ∷ bs)
    → (if t then [] ∷ lines_of bs else with_byte b (lines_of bs))
    ≡ take (cond (not t) (1 + p) 0) (b ∷ bs) ∷ lines_of (drop (cond (not t) (1 + p) 0 + 1) (b ∷ bs))
ends_step true b bs p h lt = refl
ends_step false b bs p h lt =
    let first : suc p ≡ 1 + p = omega arith in
    let next : suc (p + 1) ≡ 1 + p + 1 = omega arith in
    ap (with_byte b) (h (omega arith)) ∙ ap (λ m. take m (b ∷ bs) ∷ lines_of (drop (suc (p + 1)) (b ∷ bs))) first
    ∙ ap (λ m. take (1 + p) (b ∷ bs) ∷ lines_of (drop m (b ∷ bs))) next

-- the first line ends at the first line feed
first_ends : (text : List ℕ) → feed text < length text → lines_of text
    ≡ take (feed text) text ∷ lines_of (drop (feed text + 1) text)
first_ends [] lt = absurd (omega arith)
first_ends (b ∷ bs) lt = ends_step (b == 10) b bs (feed bs) (first_ends bs) lt

only_step : (t : Bool) (b : ℕ) (bs : List ℕ) (p : ℕ) → (length bs ≤ p → with_byte b (lines_of bs) ≡ (b ∷ bs) ∷ []) →
    length (b ∷ bs) ≤ cond (not t) (1 + p) 0 → (if t then [] ∷ lines_of bs else with_byte b (lines_of bs))
    ≡ (b ∷ bs) ∷ []
only_step true b bs p h le = absurd (omega arith)
only_step false b bs p h le = h (omega arith)

-- a text without a line feed is one line
only_line : (b : ℕ) (bs : List ℕ) → length (b ∷ bs) ≤ feed (b ∷ bs) → lines_of (b ∷ bs) ≡ (b ∷ bs) ∷ []
only_line b [] le = only_step (b == 10) b [] (feed []) (λ _. refl) le
only_line b (d ∷ ds) le = only_step (b == 10) b (d ∷ ds) (feed (d ∷ ds)) (λ h. ap (with_byte b) (only_line d ds h)) le

-- a test that chooses `None` is false
pub missing : (t : Bool) (p : ℕ) → cond t (Some p) None ≡ None → t ≡ false
missing true p e = cc
missing false p e = refl

-- the lines of a text with a line feed are what comes before the first one, then the lines of the rest
pub first_line : (text : List ℕ) (at : ℕ) → position (λ byte. byte == 10) text ≡ Some at →
    (lines_of text ≡ take at text ∷ lines_of (take (length text - (at + 1)) (drop (at + 1) text)))
    × (length (take (length text - (at + 1)) (drop (at + 1) text)) < length text)
first_line text at e =
    let h = cond_some (nat_lt (feed text) (length text)) (feed text) at e in
    let below : feed text < length text = ltb-true (feed text) (length text) h.0 in
    let rest = take_rest text (at + 1) in (
      subst (λ (n : ℕ). lines_of text ≡ take n text ∷ lines_of (drop (n + 1) text)) h.1 (first_ends text below)
          ∙ ap (λ l. take at text ∷ lines_of l) (sym rest),
      (let long = ap length rest ∙ length-drop (at + 1) text in let here = h.1 in omega arith),
    )

-- a nonempty text without a line feed is one line
pub last_line : (text : List ℕ) → 0 < length text → position (λ byte. byte == 10) text ≡ None → lines_of text
    ≡ text ∷ []
last_line [] lt e = absurd (omega arith)
last_line (b ∷ bs) lt e = only_line b bs (ltb-false (feed (b ∷ bs)) (length (b ∷ bs))
    (missing (nat_lt (feed (b ∷ bs)) (length (b ∷ bs))) (feed (b ∷ bs)) e))
