-- What the code has read.
use Rattle.ft_script.specs.declared.command.Command as read
use Rattle.ft_script.specs.declared.command.Command.TheVariants as reads
use Rattle.ft_script.specs.Commands.{Command, Step, Go, Back, Zap, Reg, Queue, Cell, Where, Break, Bad}

-- the command that was read
abbrev pub command_of : read.Command → Command
command_of (reads.Step n) = Step n
command_of (reads.Go n) = Go n
command_of (reads.Back n) = Back n
command_of (reads.Zap site value) = Zap site value
command_of (reads.Reg register) = Reg register
command_of reads.Queue = Queue
command_of (reads.Cell name) = Cell name.now
command_of reads.Where = Where
command_of (reads.Break block index) = Break block index
command_of reads.Bad = Bad
