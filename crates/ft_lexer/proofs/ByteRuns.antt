-- A run of bytes of one kind, byte by byte.
use Rattle.std.proofs.Common.{◌≡◌, ℕ, ◌+◌, ◌-◌, ◌*◌, ◌<◌, ◌≤◌, true, false, List, [], ◌∷◌, ◌++◌, length, get_or, take}
use Rattle.std.proofs.Common.{drop, refl, sym, ap, ◌∙◌, subst, arith, drop-cons, length-take-le, add-one}
use Rattle.std.specs.Prelude.{nat_le, ◌&&◌}
use Rattle.std.proofs.Math.Seq.{take-suc}
use Rattle.std.proofs.lemmas.Bool.{and_parts}
use Rattle.ft_lexer.specs.Numeral.{numeral}
use Rattle.ft_lexer.specs.Bytes.{is_name_byte, is_digit}
use Rattle.ft_lexer.specs.Ends.{EndsName, EndsNumber}
use Rattle.ft_lexer.specs.Scan.{scan_from, name, number, in_name, ends, begins, wrong}
use Rattle.ft_lexer.specs.declared.lex_error.LexError.TheVariants.{Byte}

-- taking one more element appends it; dropping one fewer puts it in front
next_take : (text : List ℕ) (n : ℕ) → n < length text → take n text ++ get_or text n 0 ∷ [] ≡ take (n + 1) text
next_take text n h = rw add-one (sym (take-suc text n 0 h))

next_drop : (text : List ℕ) (n : ℕ) → n < length text → drop n text ≡ get_or text n 0 ∷ drop (n + 1) text
next_drop text n h = rw add-one (drop-cons text n 0 h)

short : (n : ℕ) → n < 32 → nat_le 32 n ≡ false
short n h = grind arith

-- a name of fewer than 32 bytes continues with the next byte if names may have this byte
one_name : (start at : ℕ) (t : List ℕ) (b : ℕ) (bs : List ℕ) → length t < 32 → is_name_byte b ≡ true →
    scan_from (name start t) at (b ∷ bs) ≡ scan_from (name start (t ++ b ∷ [])) (at + 1) bs
one_name start at t b bs h g =
    let more = scan_from (name start (t ++ b ∷ [])) (at + 1) bs in
    let end = ends (name start t) (begins at b (λ n. scan_from n (at + 1) bs)) in
    ap (λ v. in_name v (nat_le 32 (length t)) at more end) g ∙ ap (λ v. in_name true v at more end) (short (length t) h)

pub name_step : (text : List ℕ) (n start at : ℕ) → n < length text → n < 32 → is_name_byte (get_or text n 0) ≡ true →
    scan_from (name start (take n text)) (at + n) (drop n text)
    ≡ scan_from (name start (take (n + 1) text)) (at + (n + 1)) (drop (n + 1) text)
name_step text n start at h small is =
    let len : length (take n text) ≡ n = length-take-le n text (omega arith) in
    let place : at + n + 1 ≡ at + (n + 1) = omega arith in
    ap (scan_from (name start (take n text)) (at + n)) (next_drop text n h)
    ∙ one_name start (at + n) (take n text) (get_or text n 0) (drop (n + 1) text) (omega arith) is
    ∙ ap (λ v. scan_from (name start v) (at + n + 1) (drop (n + 1) text)) (next_take text n h)
    ∙ ap (λ v. scan_from (name start (take (n + 1) text)) v (drop (n + 1) text)) place

pub name_stop : (text : List ℕ) (n : ℕ) → n < length text → is_name_byte (get_or text n 0) ≡ false →
    EndsName (drop n text)
name_stop text n h is = subst EndsName (sym (next_drop text n h)) is

-- the first n bytes lie within one number
pub record IsNumberRun (text : List ℕ) (n : ℕ) : Type 0 where
  pub low : 0 < n
  pub high : n ≤ length text
  pub run : (start at : ℕ) → scan_from (number start (take 1 text)) (at + 1) (drop 1 text)
      ≡ scan_from (number start (take n text)) (at + n) (drop n text)

one_number : (start at : ℕ) (t : List ℕ) (b : ℕ) (bs : List ℕ) → is_digit b ≡ true →
    scan_from (number start t) at (b ∷ bs) ≡ scan_from (number start (t ++ b ∷ [])) (at + 1) bs
one_number start at t b bs g = rw g refl

pub number_step : (text : List ℕ) (n start at : ℕ) → n < length text → is_digit (get_or text n 0) ≡ true →
    scan_from (number start (take n text)) (at + n) (drop n text)
    ≡ scan_from (number start (take (n + 1) text)) (at + (n + 1)) (drop (n + 1) text)
number_step text n start at h is =
    let place : at + n + 1 ≡ at + (n + 1) = omega arith in
    ap (scan_from (number start (take n text)) (at + n)) (next_drop text n h)
    ∙ one_number start (at + n) (take n text) (get_or text n 0) (drop (n + 1) text) is
    ∙ ap (λ v. scan_from (number start v) (at + n + 1) (drop (n + 1) text)) (next_take text n h)
    ∙ ap (λ v. scan_from (number start (take (n + 1) text)) v (drop (n + 1) text)) place

-- the same with a given name for the next place
number_next : (text : List ℕ) (n m start at : ℕ) → n + 1 ≡ m → n < length text →
    is_digit (get_or text n 0) ≡ true → scan_from (number start (take n text)) (at + n) (drop n text)
    ≡ scan_from (number start (take m text)) (at + m) (drop m text)
number_next text n m start at next h is =
    subst (λ k. scan_from (number start (take n text)) (at + n) (drop n text)
    ≡ scan_from (number start (take k text)) (at + k) (drop k text)) next (number_step text n start at h is)

-- a number continues with the next four bytes if all four are digits
pub number_four : (text : List ℕ) (n start at : ℕ) → n + 4 ≤ length text →
    (is_digit (get_or text n 0) && (is_digit (get_or text (n + 1) 0) && (is_digit (get_or text (n + 2) 0)
    && is_digit (get_or text (n + 3) 0)))) ≡ true →
    scan_from (number start (take n text)) (at + n) (drop n text)
    ≡ scan_from (number start (take (n + 4) text)) (at + (n + 4)) (drop (n + 4) text)
number_four text n start at h are =
    let a = and_parts _ _ are in
    let b = and_parts _ _ a.1 in
    let c = and_parts _ _ b.1 in
    number_next text n (n + 1) start at refl (omega (arith, h)) a.0
    ∙ number_next text (n + 1) (n + 2) start at (omega arith) (omega (arith, h)) b.0
    ∙ number_next text (n + 2) (n + 3) start at (omega arith) (omega (arith, h)) c.0
    ∙ number_next text (n + 3) (n + 4) start at (omega arith) (omega (arith, h)) c.1

pub number_stop : (text : List ℕ) (n : ℕ) → n < length text → is_digit (get_or text n 0) ≡ false →
    EndsNumber (drop n text)
number_stop text n h is = subst EndsNumber (sym (next_drop text n h)) is

-- more digits never make the number smaller
pub numeral_grows : (n : ℕ) (ds : List ℕ) → n ≤ numeral n ds
numeral_grows n [] = omega arith
numeral_grows n (d ∷ ds) = omega (arith, numeral_grows (n * 10 + (d - 48)) ds)

pub numeral_step : (text : List ℕ) (i n : ℕ) → i < length text → numeral n (drop i text)
    ≡ numeral (n * 10 + (get_or text i 0 - 48)) (drop (i + 1) text)
numeral_step text i n h = ap (numeral n) (next_drop text i h)

one_long : (start at : ℕ) (t : List ℕ) (b : ℕ) (bs : List ℕ) → length t ≡ 32 → is_name_byte b ≡ true →
    scan_from (name start t) at (b ∷ bs) ≡ wrong (Byte at)
one_long start at t b bs h g =
    let more = scan_from (name start (t ++ b ∷ [])) (at + 1) bs in
    let end = ends (name start t) (begins at b (λ n. scan_from n (at + 1) bs)) in
    ap (λ v. in_name v (nat_le 32 (length t)) at more end) g ∙ ap (λ v. in_name true (nat_le 32 v) at more end) h

pub name_long : (text : List ℕ) (n start at : ℕ) → n ≡ 32 → n < length text → is_name_byte (get_or text n 0) ≡ true →
    scan_from (name start (take n text)) (at + n) (drop n text) ≡ wrong (Byte (at + 32))
name_long text n start at e h is =
    ap (scan_from (name start (take n text)) (at + n)) (next_drop text n h)
    ∙ one_long start (at + n) (take n text) (get_or text n 0) (drop (n + 1) text) (length-take-le n text (omega arith)
    ∙ e) is
    ∙ ap (λ v. wrong (Byte (at + v))) e
