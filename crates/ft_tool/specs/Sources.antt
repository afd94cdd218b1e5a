-- The answers of a command for the text of a source.
use Rattle.std.specs.Prelude.{◌≡◌, ◌≢◌, ◌⊎◌, ℕ, List, [], None}
use Rattle.ft_semantics.specs.Run.{run}
use Rattle.ft_format.specs.declared.version.Version.TheVariants.{Second}
use Rattle.ft_format.specs.Format.{Spells}
use Rattle.ft_compile.specs.StandsFor.{StandsFor}
use Rattle.ft_compile.specs.Emitted.{compiled_object}
use Rattle.ft_syntax.specs.declared.source_error.SourceError.{SourceError}
use Rattle.ft_syntax.specs.declared.source_error.SourceError.TheVariants.{NoMemory}
use Rattle.ft_scope.specs.Resolved.{Program}
use Rattle.ft_scope.specs.Outcome.{IsProgramOf, IsRefusalOf}
use Rattle.ft_meaning.specs.Meaning.{Outcome, Ended, Cut, meaning}
use Rattle.ft_meaning.specs.Lines.{output_lines}
use Rattle.ft_tool.specs.Texts.{source_line}
use Rattle.ft_tool.specs.Replies.{Answer, one_piece, ran}

-- the answer to a source that is refused
pub record IsSourceRefused (e : SourceError) (a : Answer) : Type 0 where
  pub named : e ≢ NoMemory
  pub answer : a ≡ one_piece (source_line e) 6

-- the answer for a meaning that ended or was cut: a line for each output
abbrev pub meant : Program → Outcome → Answer
meant p (Ended s) = record { pieces = output_lines p.names s.out; status = 0 }
meant p (Cut s) = record { pieces = output_lines p.names s.out; status = 9 }

-- the answer for the text of a source: the answer for its program, or its refusal
abbrev pub OverText : (Program → Answer → Type 0) → List ℕ → Answer → Type 0
OverText Over text a =
    ((p : Program) × (IsProgramOf text p × Over p a))
    ⊎ ((e : SourceError) × (IsRefusalOf text e × IsSourceRefused e a))

-- the answer of `compile`: the bytes of the program's object, which stands for the program, in version 2 of the format and
-- in one piece
pub record CompilesProgram (p : Program) (a : Answer) : Type 0 where
  pub stands : StandsFor p (compiled_object p)
  pub bytes : List ℕ
  pub spelled : Spells bytes Second (compiled_object p)
  pub answer : a ≡ one_piece bytes 0

-- the answer of `exec`: the run of the object that `compile` writes, for this many steps and without a strike
pub record ExecutesProgram (steps : ℕ) (p : Program) (a : Answer) : Type 0 where
  pub stands : StandsFor p (compiled_object p)
  pub is : a ≡ ran (compiled_object p) (run (compiled_object p) None [] steps)

-- the answer of `mean` for this many turns
abbrev pub MeansProgram : ℕ → Program → Answer → Type 0
MeansProgram turns p a = a ≡ meant p (meaning p turns)
