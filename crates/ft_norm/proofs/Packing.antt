-- Packed terms, and the terms that they represent.
use Rattle.std.proofs.Common.{ℕ, suc, zero, ◌≡◌, ◌<◌, ◌+◌, ◌*◌, ◌/◌, ◌%◌, ◌^◌, List, [], ◌∷◌, ◌++◌, get_or, length}
use Rattle.std.proofs.Common.{refl, ap, arith, map}
use Rattle.ft_norm.specs.declared.entry.Term.{Term}
use Rattle.ft_norm.specs.declared.packed.PackedTerm.{PackedTerm}
use Rattle.ft_norm.specs.Entries.{size}
use Rattle.ft_norm.specs.Packing.{ArePacked, AreSmall, HaveSmall, IsPacked, unpacked}

-- a number is determined by its lower 24 bits and what is above them
parts_known : (x y : ℕ) → x % 2 ^ 24 ≡ y % 2 ^ 24 → x / 2 ^ 24 ≡ y / 2 ^ 24 → x ≡ y
parts_known x y e f = omega (arith, e, f)

-- three bytes are determined by the number that they form
bytes_known : (a b c x y z : ℕ) → a < 256 → b < 256 → x < 256 → y < 256 → a + 256 * b + 65536 * c
    ≡ x + 256 * y + 65536 * z → (a ≡ x) × (b ≡ y) × (c ≡ z)
bytes_known a b c x y z h i j k e = (omega (arith, e), omega (arith, e), omega (arith, e))

-- the upper byte of a number of four bytes is below 256
upper_byte : (x : ℕ) → x < 2 ^ 32 → x / 2 ^ 24 < 256
upper_byte x h = omega (arith, h)

-- two halves are determined by the number that they form
halves_known : (a b x y : ℕ) → b < 2 ^ 32 → y < 2 ^ 32 → a * 2 ^ 32 + b ≡ x * 2 ^ 32 + y → (a ≡ x) × (b ≡ y)
halves_known a b x y h k e = (omega (arith, e), omega (arith, e))

-- the packed term of these parts
abbrev pub made : ℕ → ℕ → ℕ → ℕ → ℕ → PackedTerm
made a b c h l = record { first = a; second = b; third = c; high = h; low = l }

-- equal parts make equal packed terms
pub rebuilt : (a b c h l x y z v w : ℕ) → a ≡ x → b ≡ y → c ≡ z → h ≡ v → l ≡ w → made a b c h l ≡ made x y z v w
rebuilt a b c h l x y z v w e f g j k = rw (e, f, g, j, k) refl

-- a packed term is determined by the term that it represents
packed_known : (p q : PackedTerm) → IsPacked p → IsPacked q → unpacked p ≡ unpacked q → p ≡ q
packed_known p q h k e =
    let whole : (unpacked p).atoms ≡ (unpacked q).atoms = ap (λ (t : Term). t.atoms) e in
    let a : p.first % 2 ^ 24 ≡ q.first % 2 ^ 24 = cc in
    let b : p.second % 2 ^ 24 ≡ q.second % 2 ^ 24 = cc in
    let c : p.third % 2 ^ 24 ≡ q.third % 2 ^ 24 = cc in
    let d : p.first / 2 ^ 24 + 256 * (p.second / 2 ^ 24) + 65536 * (p.third / 2 ^ 24)
    ≡ q.first / 2 ^ 24 + 256 * (q.second / 2 ^ 24) + 65536 * (q.third / 2 ^ 24) = cc in
    let u = bytes_known _ _ _ _ _ _ (upper_byte p.first h.first) (upper_byte p.second h.second)
    (upper_byte q.first k.first) (upper_byte q.second k.second) d in
    let w = halves_known p.high p.low q.high q.low h.low k.low (ap (λ (t : Term). t.coefficient) e) in
    rebuilt p.first p.second p.third p.high p.low q.first q.second q.third q.high q.low
    (parts_known p.first q.first a u.0) (parts_known p.second q.second b u.1) (parts_known p.third q.third c u.2) w.0
    w.1

-- packed terms are determined by the terms that they represent
pub packed_itself : (ps qs : List PackedTerm) → ArePacked ps → ArePacked qs → map unpacked ps ≡ map unpacked qs → ps
    ≡ qs
packed_itself [] [] h k e = refl
packed_itself [] (q ∷ qs) h k e = cc
packed_itself (p ∷ ps) [] h k e = cc
packed_itself (p ∷ ps) (q ∷ qs) h k e =
    let a : unpacked p ≡ unpacked q = cc in
    let b : map unpacked ps ≡ map unpacked qs = cc in
    rw (packed_known p q h.0 k.0 a, packed_itself ps qs h.1 k.1 b) refl

-- the atoms of a packed term have small numbers
small_unpacked : (p : PackedTerm) → IsPacked p → AreSmall (unpacked p).atoms
small_unpacked p h = (omega arith, (omega arith, (omega arith, (omega (arith, h.first, h.second, h.third), tt))))

-- the atoms of packed terms have small numbers
pub have_small_unpacked : (ps : List PackedTerm) → ArePacked ps → HaveSmall (map unpacked ps)
have_small_unpacked [] h = tt
have_small_unpacked (p ∷ ps) h = (small_unpacked p h.0, have_small_unpacked ps h.1)

-- a monomial without atoms has small numbers
pub none_small : (xs : List ℕ) → size xs ≡ 0 → AreSmall xs
none_small [] e = tt
none_small (zero ∷ xs) e = (omega arith, none_small xs (omega (arith, e)))
none_small (suc x ∷ xs) e = absurd (omega (arith, e))

-- the default beyond the terms
abbrev pub blank : Term
blank = record { atoms = []; coefficient = 0 }

-- terms have small numbers if each of them does
pub small_each : (ts : List Term) (d : Term) → ((k : ℕ) → k < length ts → AreSmall (get_or ts k d).atoms) → HaveSmall ts
small_each [] d h = tt
small_each (t ∷ ts) d h = (h 0 (omega arith), small_each ts d (λ k l. h (suc k) (omega (arith, l))))

-- if terms have small numbers, each of them does
pub small_read : (ts : List Term) (k : ℕ) (d : Term) → HaveSmall ts → k < length ts → AreSmall (get_or ts k d).atoms
small_read [] k d h l = absurd (omega (arith, l))
small_read (t ∷ ts) zero d h l = h.0
small_read (t ∷ ts) (suc k) d h l = small_read ts k d h.1 (omega (arith, l))

-- appending a packed term to packed terms gives packed terms
pub packed_push : (ps : List PackedTerm) (p : PackedTerm) → ArePacked ps → IsPacked p → ArePacked (ps ++ p ∷ [])
packed_push [] p h k = (k, tt)
packed_push (q ∷ ps) p h k = (h.0, packed_push ps p h.1 k)
