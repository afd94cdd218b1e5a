-- Words by address: what is read after a word is written.
use Rattle.std.proofs.Common.{◌≡◌, ℕ, ◌==◌, Bool, true, false, cond, if◌then◌else◌, Option, Some, refl, ap, ◌∙◌}
use Rattle.std.specs.Option.{unwrap_or}
use Rattle.std.specs.Cmp.{nat_cmp_total, unsigned_tied}
use Rattle.std.specs.FinMap as map
use Rattle.std.specs.FinMap.{nat_cmp-IsAntisymmetric, same_map}
use Rattle.ft_isa.specs.Words.{IsWord}
use Rattle.ft_static.specs.Expression.{WordMap, word_at, with_word}
use Rattle.ft_static.proofs.Cases.{if_cases}

-- after a word is written, its address holds this word, and every other address holds what it held before
get-with_word : (m : WordMap) (k v q : ℕ) → map.get (with_word m k v) q ≡ cond (q == k) (Some v) (map.get m q)
get-with_word m k v q = rw (map.get-insert nat_cmp_total m k v q, unsigned_tied q k) refl

-- choosing an option and then reading its word is the same as reading both words and then choosing
cond_read : (b : Bool) (v : ℕ) (o : Option ℕ) → unwrap_or (cond b (Some v) o) 0 ≡ (if b then v else unwrap_or o 0)
cond_read true v o = refl
cond_read false v o = refl

-- the written word is read at its address, and other addresses keep their words
pub word_at-with_word : (m : WordMap) (k v q : ℕ) → word_at (with_word m k v) q ≡ (if q == k then v else word_at m q)
word_at-with_word m k v q = ap (λ o. unwrap_or o 0) (get-with_word m k v q) ∙ cond_read (q == k) v (map.get m q)

-- after a word is written, an address that held a word still holds one
pub with_word_is_word : (m : WordMap) (k v q : ℕ) → IsWord v → IsWord (word_at m q) →
    IsWord (word_at (with_word m k v) q)
with_word_is_word m k v q h w = rw (word_at-with_word m k v q) (if_cases IsWord (q == k) v (word_at m q) (λ e. h) (λ e.
    w))

-- in the second branch of a choice, a choice by the same test takes its second branch
shadowed : {X : Type 0} (b : Bool) (x y z : X) → cond b y (cond b x z) ≡ cond b y z
shadowed true x y z = refl
shadowed false x y z = refl

-- of two words written at the same address, the later one stays
pub with_word-with_word : (m : WordMap) (k v w : ℕ) → with_word (with_word m k v) k w ≡ with_word m k w
with_word-with_word m k v w = same_map nat_cmp_total nat_cmp-IsAntisymmetric _ _ (λ q.
    rw (
      get-with_word (with_word m k v) k w q,
      get-with_word m k w q,
      get-with_word m k v q,
    ) (shadowed (q == k) (Some v) (Some w) (map.get m q)))
