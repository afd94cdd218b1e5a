-- Objects with other initial words in their cells.
use Rattle.std.proofs.Common.{◌≡◌, ℕ, suc, List, [], ◌∷◌, length, map, refl, sym, ap, ◌∙◌, subst, arith}
use Rattle.std.specs.Prelude.{All}
use Rattle.std.proofs.lemmas.List.Elements.{All-cons, All-head, All-tail, All-map}
use Rattle.ft_isa.specs.Words.{IsWord}
use Rattle.ft_types.specs.declared.object.Object.{Object}
use Rattle.ft_types.specs.declared.object.Cell.{Cell}
use Rattle.ft_types.specs.Objects.{name_of, basic_of}
use Rattle.ft_scope.specs.Resolved.{Program}
use Rattle.ft_scope.specs.InitialWords.{AreInitialWords}
use Rattle.ft_lower.specs.Flow.{Blocks}
use Rattle.ft_dup.specs.Doubles.{init_of_cell, words_of, IsIntCell, Carries}
use Rattle.ft_types.specs.InitialWords.{begun_with, cells_with_words, object_with_words}
use Rattle.ft_compile.specs.StandsFor.{RunsAsMeant, StandsFor}

-- CELLS

-- there are as many cells as before
pub many_with : (cs : List Cell) (ws : List ℕ) → length (cells_with_words cs ws) ≡ length cs
many_with [] ws = refl
many_with (c ∷ cs) [] = refl
many_with (c ∷ cs) (w ∷ ws) = ap suc (many_with cs ws)

-- they have the same names
pub names_with : (cs : List Cell) (ws : List ℕ) → map name_of (cells_with_words cs ws) ≡ map name_of cs
names_with [] ws = refl
names_with (c ∷ cs) [] = refl
names_with (c ∷ cs) (w ∷ ws) = ap (λ l. c.name ∷ l) (names_with cs ws)

-- they have the same types
pub types_with : (cs : List Cell) (ws : List ℕ) → map basic_of (cells_with_words cs ws) ≡ map basic_of cs
types_with [] ws = refl
types_with (c ∷ cs) [] = refl
types_with (c ∷ cs) (w ∷ ws) = ap (λ l. c.basic ∷ l) (types_with cs ws)

-- they have these initial words, if there is one for each
pub words_with : (cs : List Cell) (ws : List ℕ) → length ws ≡ length cs → map init_of_cell (cells_with_words cs ws) ≡ ws
words_with [] [] e = refl
words_with [] (w ∷ ws) e = absurd (omega (arith, e))
words_with (c ∷ cs) [] e = absurd (omega (arith, e))
words_with (c ∷ cs) (w ∷ ws) e = ap (λ l. w ∷ l) (words_with cs ws (omega (arith, e)))

-- with their own initial words they are unchanged
pub own_words : (cs : List Cell) → cells_with_words cs (map init_of_cell cs) ≡ cs
own_words [] = refl
own_words (c ∷ cs) = ap (λ l. c ∷ l) (own_words cs)

-- the words given last count, if there is one for each cell
pub words_again : (cs : List Cell) (ws xs : List ℕ) → length xs ≡ length cs →
    cells_with_words (cells_with_words cs ws) xs ≡ cells_with_words cs xs
words_again [] ws xs e = refl
words_again (c ∷ cs) [] xs e = refl
words_again (c ∷ cs) (w ∷ ws) [] e = absurd (omega (arith, e))
words_again (c ∷ cs) (w ∷ ws) (x ∷ xs) e = ap (λ l. begun_with c x ∷ l) (words_again cs ws xs (omega (arith, e)))

-- what holds of the cells still does if no word refutes it
pub all_with : (P : Cell → Type 0) (cs : List Cell) (ws : List ℕ) → ((c : Cell) (w : ℕ) → IsWord w → P c →
    P (begun_with c w)) → All IsWord ws → All P cs → All P (cells_with_words cs ws)
all_with P [] ws keeps fit h = h
all_with P (c ∷ cs) [] keeps fit h = h
all_with P (c ∷ cs) (w ∷ ws) keeps fit h =
    All-cons P (begun_with c w) (cells_with_words cs ws)
    (keeps c w (All-head IsWord w ws fit) (All-head P c cs h))
    (all_with P cs ws keeps (All-tail IsWord w ws fit) (All-tail P c cs h))

-- OBJECTS

-- an object still carries the same blocks
pub carries_with : (o : Object) (cells : ℕ) (bs : Blocks) (ws : List ℕ) → length ws ≡ cells → All IsWord ws →
    Carries o cells bs → Carries (object_with_words o ws) cells bs
carries_with o cells bs ws many fit C = record {
  instrs = C.instrs;
  blocks = C.blocks;
  entry = C.entry;
  many = many_with o.cells ws ∙ C.many;
  ints = all_with IsIntCell o.cells ws (λ c w word is. is) fit C.ints;
  words = subst (All IsWord) (sym (words_with o.cells ws (many ∙ sym C.many))) fit;
}

-- an object with its own initial words is unchanged
pub own_object : (o : Object) → object_with_words o (words_of o) ≡ o
own_object o = ap (λ cs. record o { cells = cs }) (own_words o.cells)

-- the initial words of an object that stands for a program are words
pub own_initial : (p : Program) (o : Object) → StandsFor p o → AreInitialWords p p.inits
own_initial p o h = record {
  as_many = refl;
  are_words = subst (All IsWord) h.inits
      (All-map IsWord init_of_cell o.cells (λ k d lt. (h.spellable.cells k d lt).init));
}

-- the run of an object that stands for a program does what the program means
pub own_run : (p : Program) (o : Object) → StandsFor p o → RunsAsMeant p o
own_run p o h =
    subst (RunsAsMeant p) (ap (object_with_words o) (sym h.inits) ∙ own_object o) (h.run p.inits (own_initial p o h))
