-- The answers of `debug` for an object and a script.
use Rattle.std.specs.Prelude.{◌≡◌, ℕ, ◌<◌, ◌≤◌, List, length, Option, Result, Ok, Err, IfSome}
use Rattle.ft_edge.specs.Causes.{Rose}
use Rattle.ft_types.specs.declared.object.Object.{Object}
use Rattle.ft_script.specs.Commands.{Command, AreCommands}
use Rattle.ft_debug.specs.Sessions.{session_lines}
use Rattle.ft_command.specs.Commands.{Debugging}
use Rattle.ft_tool.specs.declared.script.ScriptFault.{ScriptFault}
use Rattle.ft_tool.specs.declared.script.ScriptFault.TheVariants as faults
use Rattle.ft_tool.specs.Texts.{list_line}
use Rattle.ft_tool.specs.Replies.{Answer, one_piece, IsScript}

-- the answer to a script that is too long
abbrev pub too_long_script : Answer
too_long_script = one_piece (list_line 4 1048576) 11

-- the answer of `debug` for an object and a script: the lines of the session, unless the script is too long
pub data DebugsObject (d : Debugging) (script : List ℕ) (o : Object) (a : Answer) : Type 0 where
  too_long : 1048576 < length script → a ≡ too_long_script → DebugsObject d script o a
  debugged : length script ≤ 1048576 → (commands : List Command) → AreCommands script commands
      → a ≡ record { pieces = session_lines o d.wild commands; status = 0 } → DebugsObject d script o a

-- the script that was read, or why it was not
abbrev pub TakesScript : {V : Type 0} → (V → List ℕ) → Option (List ℕ) → Result V ScriptFault → Type 0
TakesScript bytes_of script (Ok v) = (length (bytes_of v) ≤ 1048576) × IfSome script (λ told. bytes_of v ≡ told)
TakesScript bytes_of script (Err faults.TooLong) = (text : List ℕ) × (IsScript script text × (1048576 < length text))
TakesScript bytes_of script (Err faults.Failed) = Unit {0}
TakesScript bytes_of script (Err faults.NoMemory) = Unit {0}

-- after a failed take, the count of failures has risen or is 2^64 - 1; any other result leaves it unchanged
abbrev pub TakeCause : {V : Type 0} → ℕ → ℕ → Result V ScriptFault → Type 0
TakeCause before now (Ok v) = now ≡ before
TakeCause before now (Err faults.TooLong) = now ≡ before
TakeCause before now (Err faults.Failed) = Rose before now
TakeCause before now (Err faults.NoMemory) = now ≡ before

-- the answer of a command whose script is refused
abbrev pub IsScriptRefusedBy : ScriptFault → Answer → Type 0
IsScriptRefusedBy faults.TooLong a = a ≡ too_long_script
IsScriptRefusedBy faults.Failed a = ⊥
IsScriptRefusedBy faults.NoMemory a = ⊥
