-- Expressions as trees, what they denote, and substitution.
use Rattle.std.specs.Prelude.{ℕ, ◌%◌, ◌<◌, ◌==◌, ◌&&◌, Bool, true, false, List, map, slice_index_or}
use Rattle.std.specs.Option.{unwrap_or}
use Rattle.std.specs.Ordering.{nat_cmp}
use Rattle.std.specs.FinMap as words
use Rattle.std.specs.FinMap.{FinMap}
use Rattle.ft_isa.specs.declared.op.Op.{Op}
use Rattle.ft_isa.specs.Operations.{op_code}
use Rattle.ft_isa.specs.Words.{apply, IsWord, IsLength}

mutual
  -- an integer: a word, a variable, an operation on two integers, the word of a memory at an address, or the remainder
  -- of an integer divided by a length
  pub data Integer : Type 0 where
    word : ℕ → Integer
    variable : ℕ → Integer
    operation : Op → Integer → Integer → Integer
    sel : Memory → Integer → Integer
    rem : Integer → ℕ → Integer

  -- a memory: the memory variable, or a memory with another word (the last part) at one address
  pub data Memory : Type 0 where
    memory_variable : Memory
    upd : Memory → Integer → Integer → Memory

-- an expression of either sort
pub data Expression : Type 0 where
  integer : Integer → Expression
  memory : Memory → Expression

-- words by address
abbrev pub WordMap : Type 0
WordMap = FinMap nat_cmp ℕ

-- the word at an address; 0 if there is none
abbrev pub word_at : WordMap → ℕ → ℕ
word_at m a = unwrap_or (words.get m a) 0

-- the map with another word at one address
abbrev pub with_word : WordMap → ℕ → ℕ → WordMap
with_word m a w = words.insert m a w

-- a word for each integer variable, and words by address for the memory variable
pub record Valuation : Type 0 where
  pub integers : List ℕ
  pub memory : WordMap

-- the word of an integer variable
abbrev pub integer_of : Valuation → ℕ → ℕ
integer_of s i = slice_index_or s.integers i 0

abbrev mutual
  -- what an integer denotes
  pub value : Integer → Valuation → ℕ
  value (word w) s = w
  value (variable i) s = integer_of s i
  value (operation o a b) s = apply o (value a s) (value b s)
  value (sel m a) s = word_at (memory_value m s) (value a s)
  value (rem a m) s = value a s % m

  -- what a memory denotes
  pub memory_value : Memory → Valuation → WordMap
  memory_value memory_variable s = s.memory
  memory_value (upd m a b) s = with_word (memory_value m s) (value a s) (value b s)

-- everything in the valuation is a word
pub record IsLawful (s : Valuation) : Type 0 where
  pub integers : (i : ℕ) → IsWord (integer_of s i)
  pub memory : (a : ℕ) → IsWord (word_at s.memory a)

abbrev mutual
  -- the numbers in an integer are words, or valid lengths
  pub AreWords : Integer → Type 0
  AreWords (word w) = IsWord w
  AreWords (variable i) = Unit {0}
  AreWords (operation o a b) = AreWords a × AreWords b
  AreWords (sel m a) = AreWordsOfMemory m × AreWords a
  AreWords (rem a m) = AreWords a × IsLength m

  -- the numbers in a memory are words
  pub AreWordsOfMemory : Memory → Type 0
  AreWordsOfMemory memory_variable = Unit {0}
  AreWordsOfMemory (upd m a b) = AreWordsOfMemory m × AreWords a × AreWords b

abbrev mutual
  -- the integer variables of an integer have numbers below n
  pub IsWithin : ℕ → Integer → Type 0
  IsWithin n (word w) = Unit {0}
  IsWithin n (variable i) = i < n
  IsWithin n (operation o a b) = IsWithin n a × IsWithin n b
  IsWithin n (sel m a) = IsMemoryWithin n m × IsWithin n a
  IsWithin n (rem a m) = IsWithin n a

  -- the integer variables of a memory have numbers below n
  pub IsMemoryWithin : ℕ → Memory → Type 0
  IsMemoryWithin n memory_variable = Unit {0}
  IsMemoryWithin n (upd m a b) = IsMemoryWithin n m × IsWithin n a × IsWithin n b

abbrev mutual
  -- an integer with integers in place of the integer variables and a memory in place of the memory variable
  pub substitute : Integer → List Integer → Memory → Integer
  substitute (word w) es k = word w
  substitute (variable i) es k = slice_index_or es i (word 0)
  substitute (operation o a b) es k = operation o (substitute a es k) (substitute b es k)
  substitute (sel m a) es k = sel (substitute_memory m es k) (substitute a es k)
  substitute (rem a m) es k = rem (substitute a es k) m

  -- a memory after the same substitution
  pub substitute_memory : Memory → List Integer → Memory → Memory
  substitute_memory memory_variable es k = k
  substitute_memory (upd m a b) es k = upd (substitute_memory m es k) (substitute a es k) (substitute b es k)

-- the valuation that gives each variable the value of its substitute
abbrev pub valuation_after : List Integer → Memory → Valuation → Valuation
valuation_after es k s = record { integers = map (λ (e : Integer). value e s) es; memory = memory_value k s }

-- the numbers in an expression are words
abbrev pub HasWords : Expression → Type 0
HasWords (integer e) = AreWords e
HasWords (memory m) = AreWordsOfMemory m

-- the integer variables of an expression have numbers below n
abbrev pub HasVariablesBelow : ℕ → Expression → Type 0
HasVariablesBelow n (integer e) = IsWithin n e
HasVariablesBelow n (memory m) = IsMemoryWithin n m

-- what an expression of either sort denotes
pub data Denotation : Type 0 where
  denoted_word : ℕ → Denotation
  denoted_memory : WordMap → Denotation

-- an integer denotes a word, a memory a finite map
abbrev pub denotation : Expression → Valuation → Denotation
denotation (integer e) s = denoted_word (value e s)
denotation (memory m) s = denoted_memory (memory_value m s)

abbrev mutual
  -- whether two integers are the same tree
  pub same_integer : Integer → Integer → Bool
  same_integer (word v) (word w) = v == w
  same_integer (variable i) (variable j) = i == j
  same_integer (operation o a b) (operation p c d) = (op_code o == op_code p) && same_integer a c && same_integer b d
  same_integer (sel m a) (sel n c) = same_memory m n && same_integer a c
  same_integer (rem a l) (rem c k) = (l == k) && same_integer a c
  same_integer e f = false

  -- whether two memories are the same tree
  pub same_memory : Memory → Memory → Bool
  same_memory memory_variable memory_variable = true
  same_memory (upd m a b) (upd n c d) = same_memory m n && same_integer a c && same_integer b d
  same_memory m n = false
