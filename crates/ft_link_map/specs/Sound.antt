-- Sound maps: those by which modules can be linked.
use Rattle.std.specs.Prelude.{◌≡◌, ◌≢◌, ℕ, ◌<◌, ◌≤◌, length, All}
use Rattle.std.specs.List.{AllPairs}
use Rattle.ft_link_map.specs.declared.link_map.Ask.{Ask}
use Rattle.ft_link_map.specs.declared.link_map.LinkMap.{LinkMap}

-- the module of an export or import is one of this many modules
abbrev pub IsOfModules : ℕ → Ask → Type 0
IsOfModules modules a = a.module < modules

-- the first is on an earlier line than the second
abbrev pub IsAbove : Ask → Ask → Type 0
IsAbove a b = a.line < b.line

-- their names differ
abbrev pub HaveTwoNames : Ask → Ask → Type 0
HaveTwoNames a b = a.name ≢ b.name

-- their lines differ
abbrev pub HaveTwoLines : Ask → Ask → Type 0
HaveTwoLines a b = a.line ≢ b.line

-- both name the same block of the same module
pub record NameOneBlock (a b : Ask) : Type 0 where
  pub same_module : a.module ≡ b.module
  pub same_block : a.block ≡ b.block

-- the blocks that they name differ
abbrev pub NameTwoBlocks : Ask → Ask → Type 0
NameTwoBlocks a b = ¬ (NameOneBlock a b)

-- a map by which modules can be linked: 1 to 64 files, and each export and import refers to one of them; the line
-- numbers of exports are strictly increasing, and so are those of imports; no line is both an export and an import; no
-- name is exported twice; no block is named by two imports or by an import and an export
pub record IsSound (linkage : LinkMap) : Type 0 where
  pub some_files : 1 ≤ length linkage.files
  pub few_files : length linkage.files ≤ 64
  pub export_modules : All (IsOfModules (length linkage.files)) linkage.exports
  pub import_modules : All (IsOfModules (length linkage.files)) linkage.imports
  pub export_lines : AllPairs IsAbove linkage.exports
  pub import_lines : AllPairs IsAbove linkage.imports
  pub lines_apart : All (λ (e : Ask). All (HaveTwoLines e) linkage.imports) linkage.exports
  pub names_apart : AllPairs HaveTwoNames linkage.exports
  pub imports_apart : AllPairs NameTwoBlocks linkage.imports
  pub sides_apart : All (λ (e : Ask). All (NameTwoBlocks e) linkage.imports) linkage.exports
