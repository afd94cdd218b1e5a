-- Short ways through the updates of a memory. Private to the code.
use Rattle.std.specs.Prelude.{ℕ, ◌+◌, ◌<◌, ◌≤◌, ◌≡◌, ◌≢◌, nat_eq, List, [], ◌∷◌, ◌++◌, Some, length, map, slice_get, slice_index_or}
use Rattle.std.specs.Int.{bit_at}
use Rattle.indexmap.specs.IndexMap.{IndexMap, get}
use Rattle.ft_static.specs.Form.{updates}
use Rattle.ft_static.specs.NormalForm.{norm_sel}
use Rattle.ft_norm.specs.declared.entry.Term.{Term}
use Rattle.ft_norm.specs.declared.entry.Entry.{Entry}
use Rattle.ft_norm.specs.declared.entry.Entry.TheVariants as entry
use Rattle.ft_norm.specs.declared.turns.Path.{Path}
use Rattle.ft_norm.specs.Held.{polynomial_at, updates_at}
use Rattle.ft_norm.specs.Entries.{AreEntries, IsIntegerAt, IsMemoryAt, alone_term, forms_of, full}
use Rattle.ft_norm.specs.Packing.{unpacked}
use Rattle.ft_norm.specs.Terms.{others}

-- the terms of the n-th entry; a memory's entry has none
abbrev pub entry_terms : Entry → ℕ → List Term
entry_terms (entry.Atom a) n = alone_term (n + 1) ∷ []
entry_terms (entry.Linear ts) n = map full ts.items
entry_terms (entry.Packed ts) n = map unpacked ts.items
entry_terms (entry.Full ts) n = ts.items
entry_terms entry.Unchanged n = []
entry_terms (entry.Update at value older) n = []

-- the terms of the form at index n
abbrev pub terms_in : List Entry → ℕ → List Term
terms_in es n = entry_terms (slice_index_or es n entry.Unchanged) n

-- both forms are integers, and they differ in their constants at most
pub record AreAlike (es : List Entry) (a b : ℕ) : Type 0 where
  pub first : IsIntegerAt (forms_of es) a
  pub second : IsIntegerAt (forms_of es) b
  pub same : others (terms_in es a) ≡ others (terms_in es b)

-- the entry at index m is this update
abbrev pub IsUpdate : List Entry → ℕ → ℕ → ℕ → ℕ → Type 0
IsUpdate es m a v k = slice_get es m ≡ Some (entry.Update a v k)

-- two numbers differ in bit l, and in none below
pub record IsLevel (a b l : ℕ) : Type 0 where
  pub agree : (k : ℕ) → k < l → bit_at a k ≡ bit_at b k
  pub differ : bit_at a l ≢ bit_at b l

-- whatever is interned later, the walk over memory m for an address that is alike a, and whose number differs from a
-- first in a bit of which P holds, finds the same as the walk over memory t, which has fewer updates
pub record IsWay (es : List Entry) (m a : ℕ) (P : ℕ → Type 0) (t : ℕ) : Type 0 where
  pub whole : IsMemoryAt (forms_of es) m
  pub sort : IsMemoryAt (forms_of es) t
  pub below : t < m
  pub fewer : updates (updates_at (forms_of es) t) + 1 ≤ updates (updates_at (forms_of es) m)
  pub same : (more : List Entry) (n l : ℕ) → AreEntries (es ++ more) → AreAlike (es ++ more) n a → IsLevel a n l → P l →
      norm_sel (updates_at (forms_of (es ++ more)) m) (polynomial_at (forms_of (es ++ more)) n)
      ≡ norm_sel (updates_at (forms_of (es ++ more)) t) (polynomial_at (forms_of (es ++ more)) n)

-- memory t is the way for addresses that differ first in bit i
abbrev pub IsTurn : List Entry → ℕ → ℕ → ℕ → ℕ → Type 0
IsTurn es m a i t = IsWay es m a (λ l. l ≡ i) t

-- memory t is a way for addresses that differ first in bit i or above
abbrev pub Leads : List Entry → ℕ → ℕ → ℕ → ℕ → Type 0
Leads es m a i t = IsWay es m a (λ l. i ≤ l) t

-- the path of update m
pub record IsPath (es : List Entry) (m : ℕ) (p : Path) : Type 0 where
  pub value : ℕ
  pub older : ℕ
  pub update : IsUpdate es m p.at value older
  pub base : AreAlike es p.at p.base
  pub size : length p.turns ≡ 32
  pub turns : (i t : ℕ) → slice_get p.turns i ≡ Some t → IsTurn es m p.at i t

-- each path is that of an update
abbrev pub ArePaths : {S : Type 0} → List Entry → IndexMap ℕ Path S → Type 0
ArePaths es ps = (m : ℕ) (p : Path) → get nat_eq ps m ≡ Some p → IsPath es m p

-- the walk over memory m for address p finds the same as that over memory t, which is m or has fewer updates
pub record Skips (es : List Entry) (m p t : ℕ) : Type 0 where
  pub sort : IsMemoryAt (forms_of es) t
  pub below : t ≤ m
  pub most : updates (updates_at (forms_of es) t) ≤ updates (updates_at (forms_of es) m)
  pub fewer : t < m → updates (updates_at (forms_of es) t) + 1 ≤ updates (updates_at (forms_of es) m)
  pub same : norm_sel (updates_at (forms_of es) m) (polynomial_at (forms_of es) p)
      ≡ norm_sel (updates_at (forms_of es) t) (polynomial_at (forms_of es) p)

-- likewise if t has fewer updates
pub record Passes (es : List Entry) (m p t : ℕ) : Type 0 where
  pub sort : IsMemoryAt (forms_of es) t
  pub below : t < m
  pub fewer : updates (updates_at (forms_of es) t) + 1 ≤ updates (updates_at (forms_of es) m)
  pub same : norm_sel (updates_at (forms_of es) m) (polynomial_at (forms_of es) p)
      ≡ norm_sel (updates_at (forms_of es) t) (polynomial_at (forms_of es) p)

-- the invariant of an interner: of its entries, and of the paths through them
pub record AreSound {S : Type 0} (es : List Entry) (ps : IndexMap ℕ Path S) : Type 0 where
  pub entries : AreEntries es
  pub paths : ArePaths es ps
