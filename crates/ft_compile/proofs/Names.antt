-- The names of a program's cells are valid in objects.
use Rattle.std.proofs.Common.{◌≡◌, ℕ, ◌&&◌, ◌||◌, ◌==◌, List, [], ◌∷◌, refl, sym, ap, ◌∙◌, get_or, arith}
use Rattle.std.specs.Prelude.{nat_le}
use Rattle.std.specs.List.{list_all}
use Rattle.std.proofs.Math.Bool.{or_comm}
use Rattle.ft_lexer.specs.Bytes.{is_digit, is_letter}
use Rattle.ft_types.specs.Spellable as spell
use Rattle.ft_scope.specs.Outcome.{IsProgramOf}
use Rattle.ft_scope.specs.Proper.{is_cell_byte, is_cell_text, IsProper}
use Rattle.ft_scope.specs.Resolved.{Program}
use Rattle.ft_scope.proofs.ProgramFacts.{program_is_proper}
use Rattle.ft_compile.specs.Cells.{AreCells}

-- the letters are the same in sources and objects
letters_same : (b : ℕ) → is_letter b ≡ spell.is_letter b
letters_same b = ap (λ x. x || (b == 95)) (or_comm (nat_le 97 b && nat_le b 122) (nat_le 65 b && nat_le b 90))

-- the bytes of names are the same in sources and objects
bytes_same : (b : ℕ) → is_cell_byte b ≡ spell.is_name_byte b
bytes_same b = ap (λ x. x || is_digit b || spell.is_bracket b) (letters_same b)

-- so are lists of these bytes
all_same : (bs : List ℕ) → list_all is_cell_byte bs ≡ list_all spell.is_name_byte bs
all_same [] = refl
all_same (b ∷ bs) = ap (λ x. x && list_all is_cell_byte bs) (bytes_same b)
    ∙ ap (λ x. spell.is_name_byte b && x) (all_same bs)

-- so are names
pub names_same : (t : List ℕ) → is_cell_text t ≡ spell.is_name t
names_same [] = refl
names_same (b ∷ bs) = ap (λ x. x && list_all is_cell_byte bs) (letters_same b)
    ∙ ap (λ x. spell.is_letter b && x) (all_same bs)

-- the cells of a proper program are valid in objects
proper_cells : (p : Program) → IsProper p → AreCells p.names p.inits
proper_cells p proper = record {
  lawful = λ k d lt. let name = proper.names k d lt in
      record { bytes = sym (names_same (get_or p.names k d)) ∙ name.bytes; short = omega (arith, name.short) };
  differ = proper.differ;
  as_many = proper.as_many;
  few = proper.limits.few;
  words = proper.words;
}

-- the cells of a text's program are valid in objects
pub program_cells : (text : List ℕ) (p : Program) → IsProgramOf text p → AreCells p.names p.inits
program_cells text p h = proper_cells p (program_is_proper text p h)
