-- What a command answers, and the contents of files.
use Rattle.std.specs.Prelude.{◌≡◌, ℕ, List, [], ◌∷◌, Option, Some, None}
use Rattle.std.specs.FinMap.{get}
use Rattle.ft_edge.specs.Loads.{Files}
use Rattle.ft_format.specs.Format.{AreBytes, Spells}
use Rattle.ft_format.specs.declared.version.Version.{Version}
use Rattle.ft_types.specs.declared.object.Object.{Object}
use Rattle.ft_semantics.specs.declared.status.Status.{Status}
use Rattle.ft_semantics.specs.declared.status.Status.TheVariants as machine
use Rattle.ft_semantics.specs.Run.{Ran}
use Rattle.ft_machine.specs.Drives.{output_lines}
use Rattle.ft_command.specs.Options.{Word}

-- the pieces of the output, each written with one put, and the status
pub record Answer : Type 0 where
  pub pieces : List (List ℕ)
  pub status : ℕ

-- an answer of one piece: a line, a text or an object
abbrev pub one_piece : List ℕ → ℕ → Answer
one_piece piece status = record { pieces = piece ∷ []; status = status }

-- the status of a call that runs an object, given the machine's status after the run
abbrev pub status_of_run : Status → ℕ
status_of_run machine.Done = 0
status_of_run machine.Detected = 1
status_of_run machine.Running = 9

-- the answer for a run: a line for each output
abbrev pub ran : Object → Ran → Answer
ran o r = record { pieces = output_lines o r.outputs; status = status_of_run r.state.status }

-- the files of a call: those that the shelf reveals; if it reveals none, any whose contents are bytes
abbrev pub AreFiles : Option Files → Files → Type 0
AreFiles (Some told) files = files ≡ told
AreFiles None files = (name bytes : List ℕ) → get files name ≡ Some bytes → AreBytes bytes

-- the script of a call: the bytes that the source reveals; if it reveals none, any bytes
abbrev pub IsScript : Option (List ℕ) → List ℕ → Type 0
IsScript (Some told) script = script ≡ told
IsScript None script = AreBytes script

-- the file with this name has this content
abbrev pub IsFile : Files → Word → List ℕ → Type 0
IsFile files name bytes = get files name ≡ Some bytes

-- the file with this name has this content, if the shelf reveals its files; otherwise the content may be any bytes
abbrev pub IsToldFile : Option Files → Word → List ℕ → Type 0
IsToldFile (Some told) name bytes = get told name ≡ Some bytes
IsToldFile None name bytes = AreBytes bytes

-- bytes that spell an object, in either version of the format
abbrev pub IsSpelling : List ℕ → Object → Type 0
IsSpelling bytes o = (v : Version) × Spells bytes v o
