-- What the two versions have in common, case by case.
use Rattle.std.proofs.Common.{◌≡◌, ℕ, ◌^◌, ◌<◌, ◌≤◌, Bool, true, false, List, [], ◌∷◌, length, refl, arith}
use Rattle.std.specs.Prelude.{◌==◌, ◌||◌, nat_le, if◌then◌else◌}
use Rattle.std.specs.List.{All, list_all, sum_by}
use Rattle.std.proofs.lemmas.Bool.Decides.{nat_tests}
use Rattle.std.proofs.lemmas.List.Sums.{sum_by-le}
use Rattle.std.proofs.lemmas.Bool.{and_parts}
use Rattle.ft_isa.specs.Operations.{last_op_code}
use Rattle.ft_isa.specs.declared.op.Op.{Op}
use Rattle.ft_isa.specs.declared.op.Op.TheVariants.{Add}
use Rattle.ft_isa.specs.declared.instr.Instr.{Instr}
use Rattle.ft_isa.specs.declared.instr.Instr.TheVariants.{Halt}
use Rattle.ft_static.specs.declared.node.Shape.{Shape}
use Rattle.ft_static.specs.declared.node.Shape.TheVariants.{Word}
use Rattle.ft_types.specs.declared.object.Object.{Object}
use Rattle.ft_types.specs.declared.object.Cell.{Cell}
use Rattle.ft_types.specs.Objects.{name_of}
use Rattle.ft_types.specs.Spellable.{is_letter, is_digit, is_bracket, is_name_byte, is_name, IsCell, IsSpellable}
use Rattle.ft_format.specs.declared.header.Header.{Header}
use Rattle.ft_format.specs.declared.version.Version.{Version}
use Rattle.ft_format.specs.declared.version.Version.TheVariants.{First, Second}
use Rattle.ft_format.specs.Versions.{magic, is_magic, version_of, last_op, last_node_kind, last_instr_kind, SupportsOp}
use Rattle.ft_format.specs.Versions.{longest_name, most_name_bytes, may_follow}
use Rattle.ft_format.specs.Format.{SupportsName, Supports}
use Rattle.ft_format.specs.NodeRecords.{SupportsShape}
use Rattle.ft_format.specs.InstrRecords.{SupportsInstr}

-- bounds that hold in both versions
pub few_ops : (v : Version) → last_op v ≤ last_op_code
few_ops First = omega arith
few_ops Second = omega arith

-- the largest kinds in any version
abbrev pub node_kinds : ℕ
node_kinds = last_node_kind Second

abbrev pub instr_kinds : ℕ
instr_kinds = last_instr_kind Second

pub few_node_kinds : (v : Version) → last_node_kind v ≤ node_kinds
few_node_kinds First = omega arith
few_node_kinds Second = omega arith

pub few_instr_kinds : (v : Version) → last_instr_kind v ≤ instr_kinds
few_instr_kinds First = omega arith
few_instr_kinds Second = omega arith

pub short_names : (v : Version) → longest_name v ≤ 40
short_names First = omega arith
short_names Second = omega arith

pub few_name_bytes : (v : Version) → most_name_bytes v ≤ 40960
few_name_bytes First = omega arith
few_name_bytes Second = omega arith

-- both versions have the node kinds up to 5 and the instruction kinds up to 7
pub has_node_kind : (v : Version) (kind : ℕ) → kind ≤ 5 → nat_le kind (last_node_kind v) ≡ true
has_node_kind First kind h = grind (arith, nat_tests)
has_node_kind Second kind h = grind (arith, nat_tests)

pub has_instr_kind : (v : Version) (kind : ℕ) → kind ≤ 7 → nat_le kind (last_instr_kind v) ≡ true
has_instr_kind First kind h = grind (arith, nat_tests)
has_instr_kind Second kind h = grind (arith, nat_tests)

-- the magic number of a version is below 2^64, and passes the test for magic numbers
pub magic_small : (v : Version) → magic v < 2 ^ 64
magic_small First = omega arith
magic_small Second = omega arith

pub magic_is : (v : Version) → is_magic (magic v) ≡ true
magic_is First = refl
magic_is Second = refl

-- a magic number is that of the version that it names, and the magic number of a version names this version
named_by : (n : ℕ) (first second : Bool) → (n == magic First) ≡ first → (n == magic Second) ≡ second → (first || second)
    ≡ true → n ≡ magic (if first then First else Second)
named_by n true second p q h = grind (arith, nat_tests)
named_by n false true p q h = grind (arith, nat_tests)
named_by n false false p q h = absurd (cc)

pub magic_names : (h : Header) → is_magic h.magic ≡ true → h.magic ≡ magic (version_of h)
magic_names h e = named_by h.magic (h.magic == magic First) (h.magic == magic Second) refl refl e

pub names_magic : (h : Header) (v : Version) → h.magic ≡ magic v → version_of h ≡ v
names_magic h First e = rw e refl
names_magic h Second e = rw e refl

-- a letter is allowed after a name's first byte, and each byte that is allowed there is a byte of names
pub letter_follows : (v : Version) (b : ℕ) → is_letter b ≡ true → may_follow v b ≡ true
letter_follows First b h = rw h refl
letter_follows Second b h = rw h refl

left_of : (a b c : Bool) → (a || b) ≡ true → (a || b || c) ≡ true
left_of true b c h = refl
left_of false true c h = refl
left_of false false c h = absurd (cc)

is_byte_of_name : (v : Version) (b : ℕ) → may_follow v b ≡ true → is_name_byte b ≡ true
is_byte_of_name First b h = left_of (is_letter b) (is_digit b) (is_bracket b) h
is_byte_of_name Second b h = h

pub are_bytes_of_name : (v : Version) (bs : List ℕ) → list_all (may_follow v) bs ≡ true → list_all is_name_byte bs
    ≡ true
are_bytes_of_name v [] h = refl
are_bytes_of_name v (b ∷ bs) h = let two = and_parts (may_follow v b) (list_all (may_follow v) bs) h in
    rw (is_byte_of_name v b two.0, are_bytes_of_name v bs two.1) refl

-- the names of at most 1,024 cells are within the maximum size of all names
pub few_names : (v : Version) (cs : List Cell) → length cs ≤ 1024 → All (SupportsName v) cs →
    sum_by (λ c. length (name_of c)) cs ≤ most_name_bytes v
few_names First cs few h = omega (
  arith,
  sum_by-le (λ (x : Cell). length (name_of x)) 32 cs (λ k d lt.
      (h k d lt).short),
)
few_names Second cs few h = omega (
  arith,
  sum_by-le (λ (x : Cell). length (name_of x)) 40 cs (λ k d lt.
      (h k d lt).short),
)

-- version 2 supports everything that an object may contain
pub has_op : (op : Op) → SupportsOp Second op
has_op Add = omega arith
has_op op = omega arith

has_shape : (s : Shape) → SupportsShape Second s
has_shape (Word w) = tt
has_shape _ = search (arith, has_op)

has_instr : (i : Instr) → SupportsInstr Second i
has_instr Halt = tt
has_instr _ = search (arith, has_op)

bytes_of_name : (name : List ℕ) → is_name name ≡ true → list_all (may_follow Second) name ≡ true
bytes_of_name [] h = refl
bytes_of_name (b ∷ bs) h = let two = and_parts (is_letter b) (list_all is_name_byte bs) h in
    rw (letter_follows Second b two.0, two.1) refl

has_name : (types : ℕ) (c : Cell) → IsCell types c → SupportsName Second c
has_name types c h = record { short = h.name_length; bytes = bytes_of_name c.name h.name }

pub has_all : (o : Object) → IsSpellable o → Supports Second o
has_all o s = record {
  names = λ k d lt. has_name (length o.types) _ (s.cells k d lt);
  nodes = λ k d lt. has_shape _;
  instrs = λ k d lt. has_instr _;
}
