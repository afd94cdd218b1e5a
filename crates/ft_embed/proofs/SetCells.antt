-- Replacing the initial word of a cell in the bytes of an object.
use Rattle.std.proofs.Common.{◌≡◌, ℕ, zero, suc, ◌+◌, ◌*◌, ◌≤◌, List, [], ◌∷◌, ◌++◌, length, take, drop, map, refl, sym}
use Rattle.std.proofs.Common.{ap, ◌∙◌, subst, slice_set}
use Rattle.std.proofs.lemmas.List.{length-set}
use Rattle.std.proofs.lemmas.List.Elements.{All-set}
use Rattle.std.specs.Int.{w64}
use Rattle.ft_isa.specs.Words.{IsWord}
use Rattle.ft_types.specs.declared.object.Object.{Object}
use Rattle.ft_types.specs.declared.object.Cell.{Cell}
use Rattle.ft_typing.specs.Accepted.{IsAccepted}
use Rattle.ft_scope.specs.Resolved.{Program}
use Rattle.ft_scope.specs.InitialWords.{program_with_words, AreInitialWords}
use Rattle.ft_types.specs.InitialWords.{begun_with, cells_with_words, object_with_words}
use Rattle.ft_compile.specs.StandsFor.{initial_word, StandsFor}
use Rattle.ft_compile.proofs.OtherWords.{own_words, own_initial}
use Rattle.ft_compile.proofs.Standing.{stands_with}
use Rattle.ft_format.specs.Layout.{bytes_of}
use Rattle.ft_format.specs.Broken.{object_of, version_at}
use Rattle.ft_format.proofs.Write.{spells_read, spells_version}
use Rattle.ft_embed.specs.Cells.{with_word, object_with_word, program_with_word, HasIntCell, IsSet}
use Rattle.ft_embed.proofs.CellBytes.{word_there, spells_set}
use Rattle.ft_embed.proofs.OtherWords.{accepted_set, accepted_before}

-- a cell's initial word is replaced in the list of all initial words
one_word : (cs : List Cell) (k w : ℕ) → with_word cs k w ≡ cells_with_words cs (slice_set (map initial_word cs) k w)
one_word [] k w = refl
one_word (c ∷ cs) zero w = ap (λ l. begun_with c w ∷ l) (sym (own_words cs))
one_word (c ∷ cs) (suc k) w = ap (λ l. c ∷ l) (one_word cs k w)

-- if an object stands for a program, the object with another initial word stands for the program with this word
pub stands_set : (p : Program) (o : Object) (k w : ℕ) → IsWord w → StandsFor p o →
    StandsFor (program_with_word p k w) (object_with_word o k w)
stands_set p o k w word h =
    let ws = slice_set p.inits k w in
    let own = own_initial p o h in
    let A : AreInitialWords p ws = record {
      as_many = length-set p.inits k w;
      are_words = All-set IsWord p.inits k w word own.are_words;
    } in
    let same : with_word o.cells k w ≡ cells_with_words o.cells ws =
    one_word o.cells k w ∙ ap (λ xs. cells_with_words o.cells (slice_set xs k w)) h.inits in
    subst (λ cs. StandsFor (program_with_words p ws) (record o { cells = cs })) (sym same) (stands_with p o ws h A)

-- `IsSet` holds if the initial word of a cell of type `int` was replaced in the bytes
pub is_set : (old new : List ℕ) (k w : ℕ) → IsWord w → HasIntCell old k → new ≡ take (56 + 16 * k) old
    ++ (bytes_of w64 w ++ drop (56 + 16 * k + 8) old) → IsSet old new k w
is_set old new k w word h is =
    let o = object_of old in
    let v = version_at old in
    let s = spells_set old new v o k w h.cell word h.has.spelled h.has.there is in
    let object = spells_read new v (object_with_word o k w) s in
    record {
      cell = h;
      spelled = s;
      version = spells_version new v (object_with_word o k w) s;
      object = object;
      accepted = λ acc. subst IsAccepted (sym object) (accepted_set o k w h.cell h.has.there h.is_int acc);
      only = λ acc. accepted_before o k w h.cell h.has.there h.is_int (subst IsAccepted object acc);
      stands = λ p S. subst (StandsFor (program_with_word p k w)) (sym object) (stands_set p o k w word S);
    }

-- the initial word lies within the bytes
pub word_within : (old : List ℕ) (k : ℕ) → HasIntCell old k → 56 + 16 * k + 8 ≤ length old
word_within old k h = word_there old (version_at old) (object_of old) k h.cell h.has.spelled h.has.there
