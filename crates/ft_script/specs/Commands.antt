-- The commands of a debugger session, each with the line that spells it.
use Rattle.std.specs.Prelude.{◌≡◌, ◌≢◌, ℕ, ◌<◌, ◌≤◌, List, ◌++◌, length, decimal, codes, All}
use Rattle.std.specs.List.{AllZip}
use Rattle.ft_isa.specs.Words.{IsWord}
use Rattle.ft_isa.specs.PlanText.{IsSite, site_text}
use Rattle.ft_isa.specs.declared.plan.Site.{Site}
use Rattle.ft_isa.specs.declared.plan.Site.TheVariants as sites
use Rattle.ft_text.specs.Lines.{lines_of}
use Rattle.ft_script.specs.declared.register.Register.{Register}
use Rattle.ft_script.specs.declared.register.Register.TheVariants as registers

-- the command of a line
pub data Command : Type 0 where
  -- n steps, or fewer if the machine stops
  Step : ℕ → Command
  -- n steps, or fewer if the machine stops or reaches a breakpoint
  Go : ℕ → Command
  -- n steps back
  Back : ℕ → Command
  -- a strike
  Zap : Site → ℕ → Command
  -- what a register holds
  Reg : Register → Command
  -- the pending stores
  Queue : Command
  -- the word of the cell with this name
  Cell : List ℕ → Command
  -- where the machine is
  Where : Command
  -- a breakpoint: a block, and an instruction in it
  Break : ℕ → ℕ → Command
  -- any other line
  Bad : Command

-- the site of a register
abbrev pub site_of : Register → Site
site_of (registers.R reg) = sites.R reg
site_of registers.D = sites.D
site_of registers.PcG = sites.PcG
site_of registers.PcB = sites.PcB

-- the text of a register is that of its site
abbrev pub register_text : Register → List ℕ
register_text register = site_text (site_of register)

-- a number of steps is at most 1,000,000
abbrev pub IsCount : ℕ → Type 0
IsCount n = n ≤ 1000000

-- a word of a line has at least one byte, and no space
pub record IsLineWord (word : List ℕ) : Type 0 where
  pub some : 0 < length word
  pub no_space : All (λ byte. byte ≢ 32) word

-- the line spells the command: its words, with one space between them
abbrev pub IsText : Command → List ℕ → Type 0
IsText (Step n) line = IsCount n × (line ≡ codes "step " ++ decimal n)
IsText (Go n) line = IsCount n × (line ≡ codes "go " ++ decimal n)
IsText (Back n) line = IsCount n × (line ≡ codes "back " ++ decimal n)
IsText (Zap site value) line = IsSite site × IsWord value × (line ≡ codes "zap " ++ site_text site ++ codes " " ++ decimal value)
IsText (Reg register) line = line ≡ codes "reg " ++ register_text register
IsText Queue line = line ≡ codes "queue"
IsText (Cell name) line = IsLineWord name × (line ≡ codes "cell " ++ name)
IsText Where line = line ≡ codes "where"
IsText (Break block index) line = IsWord block × IsWord index × (line ≡ codes "break " ++ decimal block ++ codes " " ++ decimal index)
IsText Bad line = ⊥

-- how a line is read: as the command that it spells, or as a bad command if it spells none
abbrev pub Gives : List ℕ → Command → Type 0
Gives line Bad = (command : Command) → ¬ (IsText command line)
Gives line command = IsText command line

-- the lines of a script give these commands, one for each line
abbrev pub AreCommands : List ℕ → List Command → Type 0
AreCommands script commands = AllZip Gives (lines_of script) commands
