-- Operations: the result on two words is a word, and no two operations share a code or a word.
use Rattle.std.proofs.Common.{◌≡◌, ℕ, zero, suc, ◌*◌, ◌/◌, ◌%◌, ◌^◌, ◌≤◌, ◌==◌, Bool, true, false, List, Some, codes}
use Rattle.std.proofs.Common.{nat_lt, lit<, refl, arith}
use Rattle.std.specs.Prelude.{if◌then◌else◌}
use Rattle.std.proofs.Math.Nat.{mod-lt, div-le_self}
use Rattle.std.proofs.lemmas.Nat.{or_lt, xor_lt}
use Rattle.std.specs.Int.Bits.{and_lt}
use Rattle.ft_isa.specs.declared.op.Op.{Op}
use Rattle.ft_isa.specs.declared.op.Op.TheVariants.{Add, Sub, Mul, Ltu, Eq, And, Or, Xor, Shl, Shr}
use Rattle.ft_isa.specs.Operations.{op_code, last_op_code, op_of, op_word, op_in}
use Rattle.ft_isa.specs.Words.{IsWord, word_of_test, apply}
use Rattle.ft_isa.proofs.Branches.{chosen, known, none_is}

-- RESULTS

test_is_word : (b : Bool) → IsWord (word_of_test b)
test_is_word true = lit< tt
test_is_word false = lit< tt

-- a word that is replaced by 0 if a test fails is still a word
word_or_nothing : (b : Bool) (x : ℕ) → IsWord x → IsWord (if b then x else 0)
word_or_nothing true x h = h
word_or_nothing false x h = lit< tt

-- the result of an operation on two words is a word
pub apply_is_word : (o : Op) (a b : ℕ) → IsWord a → IsWord b → IsWord (apply o a b)
unfolding apply
apply_is_word Add a b h k = mod-lt _ (lit< tt)
apply_is_word Sub a b h k = mod-lt _ (lit< tt)
apply_is_word Mul a b h k = mod-lt _ (lit< tt)
apply_is_word Ltu a b h k = test_is_word (nat_lt a b)
apply_is_word Eq a b h k = test_is_word (a == b)
apply_is_word And a b h k = and_lt 64 a b h k
apply_is_word Or a b h k = or_lt 64 a b h k
apply_is_word Xor a b h k = xor_lt 64 a b h k
apply_is_word Shl a b h k = word_or_nothing (nat_lt b 64) (a * 2 ^ b % 2 ^ 64) (mod-lt _ (lit< tt))
apply_is_word Shr a b h k = word_or_nothing (nat_lt b 64) (a / 2 ^ b) (let e = div-le_self a (2 ^ b) in
    omega (arith, e, h))

-- CODES

-- an operation's code is read back as that operation
pub op_back : (o : Op) → op_of (op_code o) ≡ o
op_back Add = refl
op_back o = refl

-- the code of an operation is at most the largest one
pub op_small : (o : Op) → op_code o ≤ last_op_code
op_small Add = omega arith
op_small o = omega arith

-- a code up to the largest one is the code of its operation
pub code_again : (n : ℕ) → n ≤ last_op_code → op_code (op_of n) ≡ n
code_again zero h = refl
code_again (suc zero) h = refl
code_again (suc (suc zero)) h = refl
code_again (suc (suc (suc zero))) h = refl
code_again (suc (suc (suc (suc zero)))) h = refl
code_again (suc (suc (suc (suc (suc zero))))) h = refl
code_again (suc (suc (suc (suc (suc (suc zero)))))) h = refl
code_again (suc (suc (suc (suc (suc (suc (suc zero))))))) h = refl
code_again (suc (suc (suc (suc (suc (suc (suc (suc zero)))))))) h = refl
code_again (suc (suc (suc (suc (suc (suc (suc (suc (suc zero))))))))) h = refl
code_again (suc (suc (suc (suc (suc (suc (suc (suc (suc (suc n)))))))))) h = absurd (omega (arith, h))

-- WORDS

abbrev IsItsWord : List ℕ → Op → Type 0
IsItsWord w o = w ≡ op_word o

-- a word that is read as an operation is the word of that operation
pub op_sound : (w : List ℕ) (o : Op) → op_in w ≡ Some o → w ≡ op_word o
unfolding op_in
op_sound w =
    chosen IsItsWord (codes "add") w _ _ (known IsItsWord (codes "add") Add refl)
    (chosen IsItsWord (codes "sub") w _ _ (known IsItsWord (codes "sub") Sub refl)
    (chosen IsItsWord (codes "mul") w _ _ (known IsItsWord (codes "mul") Mul refl)
    (chosen IsItsWord (codes "ltu") w _ _ (known IsItsWord (codes "ltu") Ltu refl)
    (chosen IsItsWord (codes "eq") w _ _ (known IsItsWord (codes "eq") Eq refl)
    (chosen IsItsWord (codes "and") w _ _ (known IsItsWord (codes "and") And refl)
    (chosen IsItsWord (codes "or") w _ _ (known IsItsWord (codes "or") Or refl)
    (chosen IsItsWord (codes "xor") w _ _ (known IsItsWord (codes "xor") Xor refl)
    (chosen IsItsWord (codes "shl") w _ _ (known IsItsWord (codes "shl") Shl refl)
    (chosen IsItsWord (codes "shr") w _ _ (known IsItsWord (codes "shr") Shr refl)
    (none_is (IsItsWord w)))))))))))

-- the word of an operation is read as that operation
pub op_complete : (o : Op) → op_in (op_word o) ≡ Some o
unfolding op_in
op_complete Add = refl
op_complete o = refl
