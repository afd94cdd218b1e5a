-- The names of a link map's files are ASCII.
use Rattle.std.proofs.Common.{◌≡◌, ℕ, zero, suc, ◌&&◌, true, nat_lt, nat_le, List, [], ◌∷◌, length, Option, Some, None}
use Rattle.std.proofs.Common.{subst, arith}
use Rattle.std.specs.Prelude.{All, IsAscii}
use Rattle.std.specs.List.{list_all, AllZip}
use Rattle.std.proofs.lemmas.Bool.{and_parts, leb-true}
use Rattle.std.proofs.lemmas.List.Elements.{All-push}
use Rattle.ft_text.specs.Lines.{lines_of}
use Rattle.ft_link_map.specs.declared.link_map.LinkMap.{LinkMap}
use Rattle.ft_link_map.specs.MapLines.{MapLine, Module, Export, Import, Bad, is_file_byte, is_file, Says}
use Rattle.ft_link_map.specs.MapAnswers.{no_lines, with_line, with_lines, first_bad, first_twice, answered, Is}
use Rattle.ft_tool.specs.Links.{IsMap}

-- bytes from 33 to 126 are ASCII
ascii_bytes : (bytes : List ℕ) → list_all is_file_byte bytes ≡ true → IsAscii bytes
ascii_bytes [] h i = omega arith
ascii_bytes (b ∷ bs) h zero =
    let within = and_parts (nat_le 33 b) (nat_le b 126) (and_parts (is_file_byte b) (list_all is_file_byte bs) h).0 in
    omega (arith, leb-true b 126 within.1)
ascii_bytes (b ∷ bs) h (suc i) = ascii_bytes bs (and_parts (is_file_byte b) (list_all is_file_byte bs) h).1 i

ascii_file : (file : List ℕ) → is_file file ≡ true → IsAscii file
ascii_file file h = ascii_bytes file (and_parts (nat_lt 0 (length file)
    && nat_le (length file) 255) (list_all is_file_byte file) h).1

-- if the file names in a map are ASCII, they still are after one or more lines are added
ascii_line : (m : LinkMap) (number : ℕ) (line : List ℕ) (l : MapLine) → Says line l → All IsAscii m.files →
    All IsAscii (with_line m number l).files
ascii_line m number line (Module file) h all = All-push IsAscii m.files file all (ascii_file file h.0)
ascii_line m number line (Export name block) h all = all
ascii_line m number line (Import name block) h all = all
ascii_line m number line Bad h all = all

ascii_lines : (lines : List (List ℕ)) (said : List MapLine) (m : LinkMap) (count : ℕ) → AllZip Says lines said →
    All IsAscii m.files → All IsAscii (with_lines m count said).files
ascii_lines [] [] m count h all = all
ascii_lines [] (l ∷ ls) m count h all = absurd h
ascii_lines (x ∷ xs) [] m count h all = absurd h
ascii_lines (x ∷ xs) (l ∷ ls) m count h all = ascii_lines xs ls (with_line m (suc count) l) (suc count) h.1
    (ascii_line m (suc count) x l h.0 all)

-- if reading ends with a map, it is the map that the lines made
answered_map : (bad twice : Option ℕ) (m linkage : LinkMap) → answered bad twice m ≡ Is linkage → m ≡ linkage
answered_map (Some n) twice m linkage e = absurd (cc)
answered_map None (Some n) m linkage e = absurd (cc)
answered_map None None m linkage e = cc

no_files : All IsAscii []
no_files = λ k d lt. absurd (omega (arith, lt))

-- each file name in a map is ASCII
pub ascii_names : (text : List ℕ) (linkage : LinkMap) → IsMap text linkage → All IsAscii linkage.files
ascii_names text linkage h =
    subst (λ (m : LinkMap). All IsAscii m.files)
    (answered_map (first_bad no_lines 0 h.lines) (first_twice no_lines 0 h.lines) (with_lines no_lines 0 h.lines)
    linkage h.is)
    (ascii_lines (lines_of text) h.lines no_lines 0 h.are_said no_files)
