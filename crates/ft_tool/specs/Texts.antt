-- The lines that report refusals, acceptance and restarts.
use Rattle.std.specs.Prelude.{ℕ, List, ◌++◌, codes, decimal}
use Rattle.ft_typing.specs.Premise.{number_of}
use Rattle.ft_typing.specs.Accepted.{Refusal, EntryType, CellType, Refused}
use Rattle.ft_syntax.specs.declared.source_error.SourceError.{SourceError}
use Rattle.ft_syntax.specs.Errors.{source_number, source_told}
use Rattle.ft_modules.specs.LinkRefusals.{LinkRefusal, Cells, Rows, CodeOf, TooBig, NoBlock, Stub, Missing, Types}
use Rattle.ft_format.specs.declared.object_error.ObjectError.{ObjectError}
use Rattle.ft_format.specs.Errors.{error_number, error_place}

-- `object`, the number of the broken rule, and the place of the error
abbrev pub object_line : ObjectError → List ℕ
object_line e = codes "object " ++ decimal (error_number e) ++ codes " " ++ decimal (error_place e) ++ codes "\n"

-- the line for an accepted object
abbrev pub accepted_line : List ℕ
accepted_line = codes "accepted\n"

-- the line for an object that is not accepted: the entry block's code type; a cell; or a block, an index in it and a
-- premise
abbrev pub check_line : Refusal → List ℕ
check_line EntryType = codes "check entry\n"
check_line (CellType k) = codes "check cell " ++ decimal k ++ codes "\n"
check_line (Refused b i p) = codes "check block " ++ decimal b ++ codes " index " ++ decimal i ++ codes " premise " ++ decimal (number_of p) ++ codes "\n"

-- `list`, the number of the refusal, and its argument: the number of a line, a limit, or a product
abbrev pub list_line : ℕ → ℕ → List ℕ
list_line n x = codes "list " ++ decimal n ++ codes " " ++ decimal x ++ codes "\n"

-- `again` and the number of outputs that were committed before a recovery ran the object again
abbrev pub again_line : ℕ → List ℕ
again_line n = codes "again " ++ decimal n ++ codes "\n"

-- `source`, the number of the refusal, and its argument
abbrev pub source_line : SourceError → List ℕ
source_line e = codes "source " ++ decimal (source_number e) ++ codes " " ++ decimal (source_told e) ++ codes "\n"

-- `asm`, the number of the refusal, and its argument: the number of a line, or the maximum number of bytes of a text
abbrev pub asm_line : ℕ → ℕ → List ℕ
asm_line n x = codes "asm " ++ decimal n ++ codes " " ++ decimal x ++ codes "\n"

-- `link`, the number of the refusal, and its argument: the number of a line or of a module, or the maximum number of
-- bytes of a map
abbrev pub link_line : ℕ → ℕ → List ℕ
link_line n x = codes "link " ++ decimal n ++ codes " " ++ decimal x ++ codes "\n"

-- the line for an instruction of a module that uses a code address other than as a target: the module, the block and
-- the index in it
abbrev pub link_code_line : ℕ → ℕ → ℕ → List ℕ
link_code_line m b i = codes "link 5 " ++ decimal m ++ codes " " ++ decimal b ++ codes " " ++ decimal i ++ codes "\n"

-- the line for modules that cannot be linked
abbrev pub unlinked_line : LinkRefusal → List ℕ
unlinked_line (Cells m) = link_line 3 m
unlinked_line (Rows m) = link_line 4 m
unlinked_line (CodeOf m b i) = link_code_line m b i
unlinked_line (TooBig m) = link_line 6 m
unlinked_line (NoBlock line) = link_line 7 line
unlinked_line (Stub line) = link_line 8 line
unlinked_line (Missing line) = link_line 9 line
unlinked_line (Types line) = link_line 10 line
