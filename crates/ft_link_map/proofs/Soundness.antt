-- A map is sound if no line is refused.
use Rattle.std.proofs.Common.{◌≡◌, ℕ, suc, ◌<◌, ◌≤◌, ◌==◌, ◌&&◌, Bool, true, false, List, [], ◌∷◌, ◌++◌, length, get_or}
use Rattle.std.proofs.Common.{Option, Some, None, nat_lt, refl, sym, ◌∙◌, subst, arith}
use Rattle.std.specs.Prelude.{All, if◌then◌else◌}
use Rattle.std.specs.List.{AllPairs, AllByRecursion, list_any}
use Rattle.std.specs.Str.{bytes_eq}
use Rattle.std.proofs.lemmas.Bool.{true≢false, ltb-true, and_from, or_parts, eq-eqb}
use Rattle.std.proofs.lemmas.List.{length-append}
use Rattle.std.proofs.lemmas.List.Elements.{All-from_recursion, All-push}
use Rattle.std.proofs.lemmas.List.Quantifiers.{all_pairs_push}
use Rattle.std.proofs.lemmas.Slice.Eq.{bytes_eq-Decides}
use Rattle.ft_link_map.specs.declared.link_map.Ask.{Ask}
use Rattle.ft_link_map.specs.declared.link_map.LinkMap.{LinkMap}
use Rattle.ft_link_map.specs.MapLines.{MapLine, Module, Export, Import, Bad}
use Rattle.ft_link_map.specs.MapAnswers.{no_lines, asked, with_line, with_lines, may_stand, first_bad, has_name}
use Rattle.ft_link_map.specs.MapAnswers.{has_block, repeats, first_twice, Is, answered, answer_of}
use Rattle.ft_link_map.specs.Sound.{IsOfModules, IsAbove, HaveTwoNames, HaveTwoLines, NameTwoBlocks, IsSound}

-- TESTS

-- if no element passes a test, each fails it
none_by : {X : Type 0} (p : X → Bool) (xs : List X) → list_any p xs ≡ false → AllByRecursion (λ x. p x ≡ false) xs
none_by p [] h = tt
none_by p (x ∷ xs) h = ((or_parts _ _ h).0, none_by p xs (or_parts _ _ h).1)

none_passes : {X : Type 0} (p : X → Bool) (xs : List X) → list_any p xs ≡ false → All (λ x. p x ≡ false) xs
none_passes p xs h = All-from_recursion (λ x. p x ≡ false) xs (none_by p xs h)

-- if no export has this name, the name of each export differs from it
other_names : (asks : List Ask) (a : Ask) → has_name asks a.name ≡ false → All (λ (x : Ask). HaveTwoNames x a) asks
other_names asks a h = λ k d lt e. true≢false (sym ((bytes_eq-Decides _ _).1 e)
    ∙ none_passes (λ (x : Ask). bytes_eq x.name a.name) asks h k d lt)

-- if no export or import names this block, each names a different one
other_blocks : (asks : List Ask) (a : Ask) → has_block asks a.module a.block ≡ false →
    All (λ (x : Ask). NameTwoBlocks x a) asks
other_blocks asks a h = λ k d lt e. true≢false (sym (and_from _ _ (eq-eqb _ _ e.same_module) (eq-eqb _ _ e.same_block))
    ∙ none_passes (λ (x : Ask). (x.module == a.module) && (x.block == a.block)) asks h k d lt)

-- `NameTwoBlocks` is symmetric
back : (a b : Ask) → NameTwoBlocks a b → NameTwoBlocks b a
back a b h e = h (record { same_module = sym e.same_module; same_block = sym e.same_block })

-- THE MAP SO FAR

-- the line is among the first `count`
abbrev IsBy : ℕ → Ask → Type 0
IsBy count a = a.line ≤ count

-- the invariant of the map of the first `count` lines
record IsFair (m : LinkMap) (count : ℕ) : Type 0 where
  few_files : length m.files ≤ 64
  export_modules : All (IsOfModules (length m.files)) m.exports
  import_modules : All (IsOfModules (length m.files)) m.imports
  export_lines : AllPairs IsAbove m.exports
  import_lines : AllPairs IsAbove m.imports
  exports_by : All (IsBy count) m.exports
  imports_by : All (IsBy count) m.imports
  lines_apart : All (λ (e : Ask). All (HaveTwoLines e) m.imports) m.exports
  names_apart : AllPairs HaveTwoNames m.exports
  imports_apart : AllPairs NameTwoBlocks m.imports
  sides_apart : All (λ (e : Ask). All (NameTwoBlocks e) m.imports) m.exports

-- exports and imports of the first n modules are of the first k modules, if n is at most k
of_more : (n k : ℕ) → n ≤ k → (asks : List Ask) → All (IsOfModules n) asks → All (IsOfModules k) asks
of_more n k le asks h = λ i d lt. omega (arith, le, h i d lt)

-- lines among the first n are among the first k, if n is at most k
by_more : (n k : ℕ) → n ≤ k → (asks : List Ask) → All (IsBy n) asks → All (IsBy k) asks
by_more n k le asks h = λ i d lt. omega (arith, le, h i d lt)

-- the first n lines are above line n + 1
above : (n : ℕ) (asks : List Ask) (a : Ask) → All (IsBy n) asks → a.line ≡ suc n → All (λ (x : Ask). IsAbove x a) asks
above n asks a h e = λ i d lt. omega (arith, e, h i d lt)

-- line n + 1 is not among the first n
apart : (n : ℕ) (asks : List Ask) (a : Ask) → All (IsBy n) asks → a.line ≡ suc n → All (HaveTwoLines a) asks
apart n asks a h e = λ i d lt same. absurd (omega (arith, e, same, h i d lt))

-- likewise, with the sides exchanged
apart_back : (n : ℕ) (asks : List Ask) (a : Ask) → All (IsBy n) asks → a.line ≡ suc n →
    All (λ (x : Ask). HaveTwoLines x a) asks
apart_back n asks a h e = λ i d lt same. absurd (omega (arith, e, same, h i d lt))

-- the invariant holds after one more module
fair_module : (m : LinkMap) (count : ℕ) (file : List ℕ) → IsFair m count → nat_lt (length m.files) 64 ≡ true →
    IsFair (with_line m (suc count) (Module file)) (suc count)
fair_module m count file h few =
    let below : length m.files < 64 = ltb-true _ _ few in
    let grown = length-append m.files (file ∷ []) in
    record {
      few_files = omega (arith, below, grown);
      export_modules = of_more (length m.files) (length (m.files ++ file ∷ [])) (omega (arith, grown)) m.exports
          h.export_modules;
      import_modules = of_more (length m.files) (length (m.files ++ file ∷ [])) (omega (arith, grown)) m.imports
          h.import_modules;
      export_lines = h.export_lines;
      import_lines = h.import_lines;
      exports_by = by_more count (suc count) (omega arith) m.exports h.exports_by;
      imports_by = by_more count (suc count) (omega arith) m.imports h.imports_by;
      lines_apart = h.lines_apart;
      names_apart = h.names_apart;
      imports_apart = h.imports_apart;
      sides_apart = h.sides_apart;
    }

-- the invariant holds after one more export
fair_export : (m : LinkMap) (count : ℕ) (name : List ℕ) (block : ℕ) → IsFair m count → nat_lt 0 (length m.files)
    ≡ true → repeats m (Export name block) ≡ false → IsFair (with_line m (suc count) (Export name block)) (suc count)
fair_export m count name block h some new =
    let a : Ask = asked m (suc count) name block in
    let there : 0 < length m.files = ltb-true _ _ some in
    let fresh = or_parts _ _ new in
    record {
      few_files = h.few_files;
      export_modules = All-push (IsOfModules (length m.files)) m.exports a h.export_modules (omega (arith, there));
      import_modules = h.import_modules;
      export_lines = all_pairs_push IsAbove m.exports a h.export_lines (above count m.exports a h.exports_by refl);
      import_lines = h.import_lines;
      exports_by = All-push (IsBy (suc count)) m.exports a
          (by_more count (suc count) (omega arith) m.exports h.exports_by) (omega arith);
      imports_by = by_more count (suc count) (omega arith) m.imports h.imports_by;
      lines_apart = All-push (λ (e : Ask). All (HaveTwoLines e) m.imports) m.exports a h.lines_apart
          (apart count m.imports a h.imports_by refl);
      names_apart = all_pairs_push HaveTwoNames m.exports a h.names_apart (other_names m.exports a fresh.0);
      imports_apart = h.imports_apart;
      sides_apart = All-push (λ (e : Ask). All (NameTwoBlocks e) m.imports) m.exports a h.sides_apart (λ i d lt.
          back (get_or m.imports i d) a (other_blocks m.imports a fresh.1 i d lt));
    }

-- the invariant holds after one more import
fair_import : (m : LinkMap) (count : ℕ) (name : List ℕ) (block : ℕ) → IsFair m count → nat_lt 0 (length m.files)
    ≡ true → repeats m (Import name block) ≡ false → IsFair (with_line m (suc count) (Import name block)) (suc count)
fair_import m count name block h some new =
    let a : Ask = asked m (suc count) name block in
    let there : 0 < length m.files = ltb-true _ _ some in
    let fresh = or_parts _ _ new in
    record {
      few_files = h.few_files;
      export_modules = h.export_modules;
      import_modules = All-push (IsOfModules (length m.files)) m.imports a h.import_modules (omega (arith, there));
      export_lines = h.export_lines;
      import_lines = all_pairs_push IsAbove m.imports a h.import_lines (above count m.imports a h.imports_by refl);
      exports_by = by_more count (suc count) (omega arith) m.exports h.exports_by;
      imports_by = All-push (IsBy (suc count)) m.imports a
          (by_more count (suc count) (omega arith) m.imports h.imports_by) (omega arith);
      lines_apart = λ i d lt. All-push (HaveTwoLines (get_or m.exports i d)) m.imports a (h.lines_apart i d lt)
          (apart_back count m.exports a h.exports_by refl i d lt);
      names_apart = h.names_apart;
      imports_apart = all_pairs_push NameTwoBlocks m.imports a h.imports_apart (other_blocks m.imports a fresh.1);
      sides_apart = λ i d lt. All-push (NameTwoBlocks (get_or m.exports i d)) m.imports a (h.sides_apart i d lt)
          (other_blocks m.exports a fresh.0 i d lt);
    }

-- the invariant holds after one more line
fair_next : (m : LinkMap) (count : ℕ) (l : MapLine) → IsFair m count → may_stand m l ≡ true → repeats m l ≡ false →
    IsFair (with_line m (suc count) l) (suc count)
fair_next m count (Module file) h may new = fair_module m count file h may
fair_next m count (Export name block) h may new = fair_export m count name block h may new
fair_next m count (Import name block) h may new = fair_import m count name block h may new
fair_next m count Bad h may new = absurd (true≢false (sym may))

-- THE WHOLE MAP

-- if no misplaced line was found, this one is not misplaced, and no later one was found
passed : (b : Bool) (o : Option ℕ) (n : ℕ) → (if b then o else Some n) ≡ None → (b ≡ true) × (o ≡ None)
passed true o n h = (refl, h)
passed false o n h = absurd cc

-- if no repeated line was found, this one does not repeat, and no later one was found
not_passed : (b : Bool) (o : Option ℕ) (n : ℕ) → (if b then Some n else o) ≡ None → (b ≡ false) × (o ≡ None)
not_passed true o n h = absurd cc
not_passed false o n h = (refl, h)

-- if nothing is refused at the end, there is a module
ended : (b : Bool) (n : ℕ) → (if b then None else Some n) ≡ None → b ≡ true
ended true n h = refl
ended false n h = absurd cc

-- the map of all lines is sound if none of them is refused
sound_after : (ls : List MapLine) (m : LinkMap) (count : ℕ) → IsFair m count → first_bad m count ls ≡ None →
    first_twice m count ls ≡ None → IsSound (with_lines m count ls)
sound_after [] m count h good new =
    let there : 0 < length m.files = ltb-true _ _ (ended (nat_lt 0 (length m.files)) (suc count) good) in
    record {
      some_files = there;
      few_files = h.few_files;
      export_modules = h.export_modules;
      import_modules = h.import_modules;
      export_lines = h.export_lines;
      import_lines = h.import_lines;
      lines_apart = h.lines_apart;
      names_apart = h.names_apart;
      imports_apart = h.imports_apart;
      sides_apart = h.sides_apart;
    }
sound_after (l ∷ ls) m count h good new =
    let may = passed (may_stand m l) (first_bad (with_line m (suc count) l) (suc count) ls) (suc count) good in
    let fresh = not_passed (repeats m l) (first_twice (with_line m (suc count) l) (suc count) ls) (suc count) new in
    sound_after ls (with_line m (suc count) l) (suc count) (fair_next m count l h may.0 fresh.0) may.1 fresh.1

-- the invariant holds for the map of no lines
fair_none : IsFair no_lines 0
fair_none = record {
  few_files = omega arith;
  export_modules = λ k d lt. absurd (omega (arith, lt));
  import_modules = λ k d lt. absurd (omega (arith, lt));
  export_lines = λ i j d lt le. absurd (omega (arith, le));
  import_lines = λ i j d lt le. absurd (omega (arith, le));
  exports_by = λ k d lt. absurd (omega (arith, lt));
  imports_by = λ k d lt. absurd (omega (arith, lt));
  lines_apart = λ k d lt. absurd (omega (arith, lt));
  names_apart = λ i j d lt le. absurd (omega (arith, le));
  imports_apart = λ i j d lt le. absurd (omega (arith, le));
  sides_apart = λ k d lt. absurd (omega (arith, lt));
}

-- if the answer is a map, no line is refused
by_answers : (bad twice : Option ℕ) (m n : LinkMap) → answered bad twice m ≡ Is n → (bad ≡ None) × (twice ≡ None)
    × (m ≡ n)
by_answers (Some k) twice m n e = absurd cc
by_answers None (Some k) m n e = absurd cc
by_answers None None m n e = (refl, refl, (cc))

-- a map that is the answer is sound
pub sound : (said : List MapLine) (m : LinkMap) → answer_of said ≡ Is m → IsSound m
sound said m e =
    let parts = by_answers (first_bad no_lines 0 said) (first_twice no_lines 0 said) (with_lines no_lines 0 said) m e in
    subst (λ (x : LinkMap). IsSound x) parts.2 (sound_after said no_lines 0 fair_none parts.0 parts.1)
