-- What differs between the two versions of the format: each is a function of the version.
use Rattle.std.specs.Prelude.{ℕ, ◌+◌, ◌≤◌, Bool, ◌||◌, ◌==◌, if◌then◌else◌}
use Rattle.ft_isa.specs.declared.op.Op.{Op}
use Rattle.ft_isa.specs.Operations.{op_code}
use Rattle.ft_types.specs.Spellable.{is_letter, is_digit, is_name_byte}
use Rattle.ft_format.specs.declared.version.Version.{Version}
use Rattle.ft_format.specs.declared.version.Version.TheVariants.{First, Second}
use Rattle.ft_format.specs.declared.header.Header.{Header}

-- the number of a version
abbrev pub number : Version → ℕ
number First = 1
number Second = 2

-- the magic number and the version: `TALFT`, then the version number in three bytes
abbrev pub magic : Version → ℕ
magic v = 0x54414c4654000000 + number v

-- whether a magic number belongs to a version
abbrev pub is_magic : ℕ → Bool
is_magic n = (n == magic First) || (n == magic Second)

-- the version of a header, which its magic number names
abbrev pub version_of : Header → Version
version_of h = if h.magic == magic First then First else Second

-- the largest operation code
abbrev pub last_op : Version → ℕ
last_op First = 4
last_op Second = 9

-- the version supports this operation
abbrev pub SupportsOp : Version → Op → Type 0
SupportsOp v op = op_code op ≤ last_op v

-- the largest code of a node kind
abbrev pub last_node_kind : Version → ℕ
last_node_kind First = 5
last_node_kind Second = 6

-- the largest code of an instruction kind
abbrev pub last_instr_kind : Version → ℕ
last_instr_kind First = 7
last_instr_kind Second = 8

-- the maximum size of a name in bytes
abbrev pub longest_name : Version → ℕ
longest_name First = 32
longest_name Second = 40

-- the maximum size of all names in bytes
abbrev pub most_name_bytes : Version → ℕ
most_name_bytes First = 32768
most_name_bytes Second = 40960

-- whether a byte is allowed in a name after its first
abbrev pub may_follow : Version → ℕ → Bool
may_follow First b = is_letter b || is_digit b
may_follow Second b = is_name_byte b
