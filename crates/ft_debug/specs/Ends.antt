-- What a session returns and writes.
use Rattle.std.specs.Prelude.{◌≡◌, ℕ, List}
use Rattle.ft_edge.specs.Lines.{PutEnd, AllPut, PutFailed, Puts}
use Rattle.ft_edge.specs.Logs.{SinkLog}
use Rattle.ft_isa.specs.declared.plan.Wild.{Wild}
use Rattle.ft_types.specs.declared.object.Object.{Object}
use Rattle.ft_script.specs.Commands.{Command, AreCommands}
use Rattle.ft_debug.specs.declared.debug_end.DebugEnd.{DebugEnd}
use Rattle.ft_debug.specs.declared.debug_end.DebugEnd.TheVariants.{Ended, WriteFault, NoMemory}
use Rattle.ft_debug.specs.Sessions.{session_lines}

-- the session's lines were written, up to this end
pub record PutsSession (e : PutEnd) (o : Object) (w : List Wild) (script : List ℕ) (old new : SinkLog) : Type 0 where
  pub commands : List Command
  pub given : AreCommands script commands
  pub lines : Puts e (session_lines o w commands) old new

-- how a session ended: all its lines were written, or a put failed, or nothing was written
abbrev pub EndsAs : DebugEnd → Object → List Wild → List ℕ → SinkLog → SinkLog → Type 0
EndsAs Ended o w script old new = PutsSession AllPut o w script old new
EndsAs WriteFault o w script old new = PutsSession PutFailed o w script old new
EndsAs NoMemory o w script old new = new ≡ old
