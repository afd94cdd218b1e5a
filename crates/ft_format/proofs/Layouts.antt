-- Converting between the bytes of records and their numbers.
use Rattle.std.proofs.Common.{◌≡◌, ℕ, zero, suc, ◌+◌, ◌*◌, ◌^◌, ◌<◌, ◌≤◌, List, [], ◌∷◌, ◌++◌, length, take, drop, refl}
use Rattle.std.proofs.Common.{sym, ap, ◌∙◌, append_assoc, arith}
use Rattle.std.specs.Int.{Width, w8, w16, w32, w64, w128, byte_len, from_be_bytes, to_be_bytes}
use Rattle.std.proofs.lemmas.List.{length-append, length-drop, length-take-le, take-take, take_at, drop_at, drop-drop}
use Rattle.std.proofs.lemmas.List.{append-nil, get_or-drop}
use Rattle.std.proofs.lemmas.Nat.{be_bytes_2, be_bytes_4, be_bytes_8, from_be_bytes-to_be_bytes_2}
use Rattle.std.proofs.lemmas.Nat.{from_be_bytes-to_be_bytes_4, from_be_bytes-to_be_bytes_8}
use Rattle.ft_format.specs.Format.{AreBytes}
use Rattle.ft_format.specs.Layout.{number_of, bytes_of, size, numbers, written, rows, spelled}

-- a number that the width can hold
abbrev pub FitsIn : Width → ℕ → Type 0
FitsIn w8 n = n < 2 ^ 8
FitsIn w16 n = n < 2 ^ 16
FitsIn w32 n = n < 2 ^ 32
FitsIn w64 n = n < 2 ^ 64
FitsIn w128 n = ⊥

-- numbers that the fields of a record can hold
abbrev pub Fit : List Width → List ℕ → Type 0
Fit [] [] = Unit {0}
Fit [] (n ∷ ns) = ⊥
Fit (w ∷ ws) [] = ⊥
Fit (w ∷ ws) (n ∷ ns) = FitsIn w n × Fit ws ns

-- a width of at most 8 bytes
abbrev pub IsNarrow : Width → Type 0
IsNarrow w8 = Unit {0}
IsNarrow w16 = Unit {0}
IsNarrow w32 = Unit {0}
IsNarrow w64 = Unit {0}
IsNarrow w128 = ⊥

abbrev pub AreNarrow : List Width → Type 0
AreNarrow [] = Unit {0}
AreNarrow (w ∷ ws) = IsNarrow w × AreNarrow ws

-- all elements of a prefix or suffix of bytes are bytes
pub bytes_before : (k : ℕ) (bs : List ℕ) → AreBytes bs → AreBytes (take k bs)
bytes_before zero bs h i = omega arith
bytes_before (suc k) [] h i = omega arith
bytes_before (suc k) (b ∷ bs) h zero = h 0
bytes_before (suc k) (b ∷ bs) h (suc i) = bytes_before k bs (λ j. h (suc j)) i

pub bytes_after : (k : ℕ) (bs : List ℕ) → AreBytes bs → AreBytes (drop k bs)
bytes_after k bs h i = rw get_or-drop (h (k + i))

-- reading back a written number gives that number, whatever follows it
number_back : (w : Width) (n : ℕ) (rest : List ℕ) → FitsIn w n → number_of w (bytes_of w n ++ rest) ≡ n
unfolding number_of bytes_of
number_back w8 n rest h = omega arith
number_back w16 n rest h = from_be_bytes-to_be_bytes_2 n h
number_back w32 n rest h = from_be_bytes-to_be_bytes_4 n h
number_back w64 n rest h = from_be_bytes-to_be_bytes_8 n h
number_back w128 n rest h = absurd h

-- dropping a written number leaves what follows it
after_number : (w : Width) (n : ℕ) (rest : List ℕ) → FitsIn w n → drop (byte_len w) (bytes_of w n ++ rest) ≡ rest
unfolding bytes_of
after_number w8 n rest h = refl
after_number w16 n rest h = refl
after_number w32 n rest h = refl
after_number w64 n rest h = refl
after_number w128 n rest h = absurd h

-- a number is written in exactly as many bytes as its width requires
length_number : (w : Width) (n : ℕ) → FitsIn w n → length (bytes_of w n) ≡ byte_len w
unfolding bytes_of
length_number w8 n h = refl
length_number w16 n h = refl
length_number w32 n h = refl
length_number w64 n h = refl
length_number w128 n h = absurd h

-- writing the number of one byte gives that byte
one_byte : (bs : List ℕ) → AreBytes bs → 1 ≤ length bs → to_be_bytes w8 (from_be_bytes w8 (take 1 bs)) ≡ take 1 bs
one_byte [] h le = absurd (omega arith)
one_byte (b ∷ bs) h le =
    ap (λ n. n ∷ []) (omega (arith, h 0))

-- writing the number of some bytes gives these bytes
number_again : (w : Width) (bs : List ℕ) → IsNarrow w → AreBytes bs → byte_len w ≤ length bs →
    bytes_of w (number_of w bs) ≡ take (byte_len w) bs
unfolding number_of bytes_of
number_again w8 bs s h le = one_byte bs h le
number_again w16 bs s h le = be_bytes_2 (take 2 bs) _ (length-take-le 2 bs le) (bytes_before 2 bs h) refl
number_again w32 bs s h le = be_bytes_4 (take 4 bs) _ (length-take-le 4 bs le) (bytes_before 4 bs h) refl
number_again w64 bs s h le = be_bytes_8 (take 8 bs) _ (length-take-le 8 bs le) (bytes_before 8 bs h) refl
number_again w128 bs s h le = absurd s

-- a number read from bytes fits its width
number_fits : (w : Width) (bs : List ℕ) → IsNarrow w → AreBytes bs → FitsIn w (number_of w bs)
unfolding number_of
number_fits w8 bs s h = let b = bytes_before 1 bs h in omega (arith, b 0)
number_fits w16 bs s h = let b = bytes_before 2 bs h in omega (arith, b 0, b 1)
number_fits w32 bs s h = let b = bytes_before 4 bs h in omega (arith, b 0, b 1, b 2, b 3)
number_fits w64 bs s h = let b = bytes_before 8 bs h in omega (arith, b 0, b 1, b 2, b 3, b 4, b 5, b 6, b 7)
number_fits w128 bs s h = absurd s

pub numbers_fit : (ws : List Width) (bs : List ℕ) → AreNarrow ws → AreBytes bs → Fit ws (numbers ws bs)
unfolding numbers
numbers_fit [] bs s h = tt
numbers_fit (w ∷ ws) bs s h = (
  number_fits w bs s.0 h,
  numbers_fit ws (drop (byte_len w) bs) s.1 (bytes_after (byte_len w) bs h),
)

-- reading back the numbers of a written record gives these numbers, whatever follows them
pub numbers_back : (ws : List Width) (ns rest : List ℕ) → Fit ws ns → numbers ws (written ws ns ++ rest) ≡ ns
unfolding numbers written
numbers_back [] [] rest h = refl
numbers_back [] (n ∷ ns) rest h = absurd h
numbers_back (w ∷ ws) [] rest h = absurd h
numbers_back (w ∷ ws) (n ∷ ns) rest h =
    rw (
      append_assoc (bytes_of w n) (written ws ns) rest,
      number_back w n (written ws ns ++ rest) h.0,
      after_number w n (written ws ns ++ rest) h.0,
      numbers_back ws ns rest h.1,
    ) refl

pub length_written : (ws : List Width) (ns : List ℕ) → Fit ws ns → length (written ws ns) ≡ size ws
unfolding written
length_written [] [] h = refl
length_written [] (n ∷ ns) h = absurd h
length_written (w ∷ ws) [] h = absurd h
length_written (w ∷ ws) (n ∷ ns) h = rw (length-append, length_number w n h.0, length_written ws ns h.1) refl

-- taking from an empty list gives an empty list
take_none : (n : ℕ) → ◌≡◌ {A = List ℕ} (take n []) []
take_none zero = refl
take_none (suc n) = refl

-- taking m elements, and then n more, takes m + n
take_plus : (m n : ℕ) (xs : List ℕ) → take m xs ++ take n (drop m xs) ≡ take (m + n) xs
take_plus zero n xs = let e : 0 + n ≡ n = omega arith in rw e refl
take_plus (suc m) n [] = let e : suc m + n ≡ suc (m + n) = omega arith in rw e (take_none n)
take_plus (suc m) n (x ∷ xs) = let e : suc m + n ≡ suc (m + n) = omega arith in
    rw e (ap (λ l. x ∷ l) (take_plus m n xs))

-- writing the numbers read from a record gives its bytes
pub numbers_again : (ws : List Width) (bs : List ℕ) → AreNarrow ws → AreBytes bs → size ws ≤ length bs →
    written ws (numbers ws bs) ≡ take (size ws) bs
unfolding numbers written
numbers_again [] bs s h le = refl
numbers_again (w ∷ ws) bs s h le =
    let rest = drop (byte_len w) bs in
    let first : byte_len w ≤ length bs = omega arith in
    let left : size ws ≤ length rest = omega (arith, length-drop (byte_len w) bs) in
    rw (number_again w bs s.0 h first, numbers_again ws rest s.1 (bytes_after (byte_len w) bs h) left)
    (take_plus (byte_len w) (size ws) bs)

-- reading n + 1 records reads the first, and then n more
pub rows_more : (ws : List Width) (m n : ℕ) (bs : List ℕ) → m ≡ suc n → rows ws m bs
    ≡ numbers ws (take (size ws) bs) ∷ rows ws n (drop (size ws) bs)
unfolding rows
rows_more ws m n bs e = rw e refl

pub rows_none : (ws : List Width) (m : ℕ) (bs : List ℕ) → m ≡ 0 → rows ws m bs ≡ []
unfolding rows
rows_none ws m bs e = rw e refl

pub length_rows : (ws : List Width) (n : ℕ) (bs : List ℕ) → length (rows ws n bs) ≡ n
unfolding rows
length_rows ws zero bs = refl
length_rows ws (suc n) bs = ap suc (length_rows ws n (drop (size ws) bs))

-- records whose fields can hold the numbers
abbrev pub AllFit : List Width → List (List ℕ) → Type 0
AllFit ws [] = Unit {0}
AllFit ws (r ∷ rs) = Fit ws r × AllFit ws rs

pub rows_fit : (ws : List Width) (n : ℕ) (bs : List ℕ) → AreNarrow ws → AreBytes bs → AllFit ws (rows ws n bs)
unfolding rows
rows_fit ws zero bs s h = tt
rows_fit ws (suc n) bs s h = (
  numbers_fit ws (take (size ws) bs) s (bytes_before (size ws) bs h),
  rows_fit ws n (drop (size ws) bs) s (bytes_after (size ws) bs h),
)

-- reading back written records gives their numbers, whatever follows them
pub rows_back : (ws : List Width) (rs : List (List ℕ)) (rest : List ℕ) → AllFit ws rs →
    rows ws (length rs) (spelled ws rs ++ rest) ≡ rs
unfolding rows
rows_back ws [] rest h = refl
rows_back ws (r ∷ rs) rest h =
    let long = length_written ws r h.0 in
    let first : take (size ws) (written ws r ++ (spelled ws rs ++ rest)) ≡ written ws r
    ++ [] = take_at (written ws r) (spelled ws rs ++ rest) (size ws) long ∙ sym (append-nil (written ws r)) in
    let left : drop (size ws) (written ws r ++ (spelled ws rs ++ rest)) ≡ spelled ws rs
    ++ rest = drop_at (written ws r) (spelled ws rs ++ rest) (size ws) long in
    rw (
      append_assoc (written ws r) (spelled ws rs) rest,
      first,
      left,
      numbers_back ws r [] h.0,
      rows_back ws rs rest h.1,
    ) refl

pub length_spelled : (ws : List Width) (rs : List (List ℕ)) → AllFit ws rs → length (spelled ws rs)
    ≡ size ws * length rs
length_spelled ws [] h = omega arith
length_spelled ws (r ∷ rs) h = omega (
  arith,
  length-append (written ws r) (spelled ws rs),
  length_written ws r h.0,
  length_spelled ws rs h.1,
)

-- writing the numbers read from records gives their bytes
pub rows_again : (ws : List Width) (n : ℕ) (bs : List ℕ) → AreNarrow ws → AreBytes bs → size ws * n ≤ length bs →
    spelled ws (rows ws n bs) ≡ take (size ws * n) bs
unfolding rows
rows_again ws zero bs s h le = let e : size ws * 0 ≡ 0 = omega arith in rw e refl
rows_again ws (suc n) bs s h le =
    let rest = drop (size ws) bs in
    let first : size ws ≤ length bs = omega arith in
    let left : size ws * n ≤ length rest = omega (arith, length-drop (size ws) bs) in
    let all : size ws * suc n ≡ size ws + size ws * n = omega arith in
    let row : written ws (numbers ws (take (size ws) bs)) ≡ take (size ws) bs =
    numbers_again ws (take (size ws) bs) s (bytes_before (size ws) bs h)
    (omega (arith, length-take-le (size ws) bs first)) ∙ take-take (size ws) (size ws) bs (omega arith) in
    rw (row, rows_again ws n rest s (bytes_after (size ws) bs h) left, all) (take_plus (size ws) (size ws * n) bs)

-- reading a + b records reads `a` records, and then `b` more
pub rows_plus : (ws : List Width) (a b : ℕ) (bs : List ℕ) → rows ws (a + b) bs ≡ rows ws a bs
    ++ rows ws b (drop (size ws * a) bs)
unfolding rows
rows_plus ws zero b bs =
    let e : 0 + b ≡ b = omega arith in
    let k : size ws * 0 ≡ 0 = omega arith in
    rw (e, k) refl
rows_plus ws (suc a) b bs =
    let e : suc a + b ≡ suc (a + b) = omega arith in
    let k : size ws * suc a ≡ size ws + size ws * a = omega arith in
    rw (e, k, ← drop-drop (size ws * a) (size ws) bs)
    (ap (λ l. numbers ws (take (size ws) bs) ∷ l) (rows_plus ws a b (drop (size ws) bs)))
