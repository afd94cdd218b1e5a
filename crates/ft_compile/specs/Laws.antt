-- The laws of compiled objects.
use Rattle.std.specs.Prelude.{◌≡◌, ℕ, ◌+◌, ◌*◌, ◌≤◌, List, [], ◌++◌, length, map, None, All}
use Rattle.ft_isa.specs.declared.output.Output.{Output}
use Rattle.ft_semantics.specs.declared.status.Status.TheVariants.{Running, Done}
use Rattle.ft_types.specs.declared.object.Object.{Object}
use Rattle.ft_typing.specs.Accepted.{IsAccepted}
use Rattle.ft_types.specs.Objects.{name_of}
use Rattle.ft_semantics.specs.Run.{outputs_after, status_after}
use Rattle.ft_types.specs.Spellable.{IsSpellable}
use Rattle.ft_types.specs.Texts.{line_at}
use Rattle.ft_scope.specs.Outcome.{IsProgramOf}
use Rattle.ft_scope.specs.Resolved.{Program}
use Rattle.ft_scope.specs.InitialWords.{program_with_words, AreInitialWords}
use Rattle.ft_meaning.specs.Lines.{output_lines}
use Rattle.ft_meaning.specs.Meaning.{State, Ended, Cut, outputs, meaning}
use Rattle.ft_lower.specs.Flow.{Blocks}
use Rattle.ft_lower.specs.Lowers.{Lowers}
use Rattle.ft_lower.specs.Size.{blocks_size}
use Rattle.ft_lower.specs.Well.{IsWell}
use Rattle.ft_dup.specs.Doubles.{IsIntCell, words_of, Carries, RunsAs}
use Rattle.ft_types.specs.InitialWords.{object_with_words}
use Rattle.ft_compile.specs.StandsFor.{RunsAsMeant, StandsFor}
use Rattle.ft_compile.specs.Cells.{AreCells}
use Rattle.ft_compile.specs.Emitted.{emitted, compiled_object, IsEmitted}
use Rattle.ft_exchange.specs.Scheduled.{ComesFrom}
use Rattle.ft_modules.specs.Linkable.{IsModule}

-- an object that carries the blocks to which a program is lowered, with as many cells, runs as the program with the
-- object's initial words means
abbrev pub CarriedBlocksRunAsMeant : Type 0
CarriedBlocksRunAsMeant = (p : Program) (vars cells : ℕ) (bs : Blocks) (o : Object) → Lowers p bs → RunsAs vars cells bs → Carries o cells bs → length (words_of o) ≡ length p.inits → RunsAsMeant (program_with_words p (words_of o)) o

-- so does such an object with the program's initial words, as the program means
abbrev pub OwnBlocksRunAsMeant : Type 0
OwnBlocksRunAsMeant = (p : Program) (vars cells : ℕ) (bs : Blocks) (o : Object) → Lowers p bs → RunsAs vars cells bs → Carries o cells bs → words_of o ≡ p.inits → RunsAsMeant p o

-- the run of an object that stands for a program does what the program means
abbrev pub OwnWordsRunAsMeant : Type 0
OwnWordsRunAsMeant = (p : Program) (o : Object) → StandsFor p o → RunsAsMeant p o

-- an object that stands for a program does so with any initial words, for the program with these words
abbrev pub AllWordsStand : Type 0
AllWordsStand = (p : Program) (o : Object) (words : List ℕ) → StandsFor p o → AreInitialWords p words → StandsFor (program_with_words p words) (object_with_words o words)

-- an object that carries these blocks over cells of type `int` with these names and initial words, and is spellable and
-- accepted
pub record IsEmission (names : List (List ℕ)) (inits : List ℕ) (bs : Blocks) (o : Object) : Type 0 where
  pub names_are : map name_of o.cells ≡ names
  pub words_are : words_of o ≡ inits
  pub ints : All IsIntCell o.cells
  pub spellable : IsSpellable o
  pub accepted : IsAccepted o
  pub carries : Carries o (length inits) bs
  pub instrs : length o.instrs ≡ blocks_size bs

-- the object of well-formed blocks over at most 32 variables satisfies `IsEmission`
abbrev pub EmittedObjectsAreAccepted : Type 0
EmittedObjectsAreAccepted = (names : List (List ℕ)) (inits : List ℕ) (vars : ℕ) (bs : Blocks) → AreCells names inits → vars ≤ 32 → IsWell vars (length inits) bs → IsEmission names inits bs (emitted names inits vars bs)

-- the cells of a text's program have different, valid names
abbrev pub ProgramsHaveCells : Type 0
ProgramsHaveCells = (text : List ℕ) (p : Program) → IsProgramOf text p → AreCells p.names p.inits

-- the object to which a text's program is compiled stands for the program and is the object of a flow of the program
abbrev pub ProgramsHaveObjects : Type 0
ProgramsHaveObjects = (text : List ℕ) (p : Program) → IsProgramOf text p → StandsFor p (compiled_object p) × IsEmitted p (compiled_object p)

-- the object of a flow of a text's program is a module: the linker's refusals 3, 4 and 5 do not apply to it
abbrev pub CompiledObjectsAreModules : Type 0
CompiledObjectsAreModules = (text : List ℕ) (p : Program) (o : Object) → IsProgramOf text p → IsEmitted p o → IsModule o.cells o

-- an object that comes from such an object by permitted exchanges, such as its schedule, is a module too
abbrev pub SchedulesOfCompiledObjectsAreModules : Type 0
SchedulesOfCompiledObjectsAreModules = (text : List ℕ) (p : Program) (o s : Object) → IsProgramOf text p → IsEmitted p o → ComesFrom o s → IsModule s.cells s

-- the lines of these outputs, one for each, with the names of an object's cells
abbrev pub object_lines : Object → List Output → List (List ℕ)
object_lines o xs = map (line_at o) xs

-- the first list of lines is a prefix of the second
abbrev pub LinesBegin : List (List ℕ) → List (List ℕ) → Type 0
LinesBegin front all = (rest : List (List ℕ)) × (front ++ rest ≡ all)

-- if an object stands for a program, outputs have the same lines with the object's cell names as with the program's
abbrev pub LinesAreByTheProgramsNames : Type 0
LinesAreByTheProgramsNames = (p : Program) (o : Object) → StandsFor p o → (xs : List Output) → object_lines o xs ≡ output_lines p.names xs

-- if the run of such an object is done after n steps, its lines are those of the meaning with n turns, which has ended
abbrev pub DoneRunsWriteTheMeaning : Type 0
DoneRunsWriteTheMeaning = (p : Program) (o : Object) → StandsFor p o → (n : ℕ) → status_after o None [] n ≡ Done → (s : State) × (meaning p n ≡ Ended s) × (object_lines o (outputs_after o None [] n) ≡ output_lines p.names s.out)

-- if the run of such an object is running after n steps, its lines are a prefix of those of the meaning with n turns
abbrev pub RunningRunsBeginTheMeaning : Type 0
RunningRunsBeginTheMeaning = (p : Program) (o : Object) → StandsFor p o → (n : ℕ) → status_after o None [] n ≡ Running → LinesBegin (object_lines o (outputs_after o None [] n)) (output_lines p.names (outputs (meaning p n)))

-- if the meaning has ended, the run of such an object is done, with the meaning's lines, after 16 times the work plus
-- 320 steps, or more
abbrev pub EndedMeaningsAreWritten : Type 0
EndedMeaningsAreWritten = (p : Program) (o : Object) → StandsFor p o → (n t : ℕ) (s : State) → meaning p t ≡ Ended s → 16 * s.work + 320 ≤ n → (status_after o None [] n ≡ Done) × (object_lines o (outputs_after o None [] n) ≡ output_lines p.names s.out)

-- if the meaning is cut, its lines are a prefix of the run's lines after 16 times its work plus 320 steps, or more
abbrev pub CutMeaningsBeginTheRun : Type 0
CutMeaningsBeginTheRun = (p : Program) (o : Object) → StandsFor p o → (n t : ℕ) (s : State) → meaning p t ≡ Cut s → 16 * s.work + 320 ≤ n → LinesBegin (output_lines p.names s.out) (object_lines o (outputs_after o None [] n))
