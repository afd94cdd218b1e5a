-- Which block replaces an imported block: the exports and the imports of a map, joined by their names.
use Rattle.std.specs.Prelude.{ℕ, Bool, true, false, ◌&&◌, ◌==◌, List, [], ◌∷◌, Option, Some, None, find, filter_map, slice_get}
use Rattle.std.specs.Option.{option_map, unwrap_or}
use Rattle.ft_types.specs.declared.object.Object.{Object}
use Rattle.ft_types.specs.Objects.{block_start, block_type}
use Rattle.ft_link_map.specs.declared.link_map.Ask.{Ask}
use Rattle.ft_link_map.specs.declared.link_map.LinkMap.{LinkMap}

-- an imported block, given by its module and its number in that module, and the exported block that replaces it
pub record Link : Type 0 where
  pub module_of : ℕ
  pub block : ℕ
  pub to_module : ℕ
  pub to_block : ℕ

-- whether two names are equal
abbrev pub same_name : List ℕ → List ℕ → Bool
same_name [] [] = true
same_name [] (b ∷ bs) = false
same_name (a ∷ xs) [] = false
same_name (a ∷ xs) (b ∷ bs) = (a == b) && same_name xs bs

-- the export of a name
abbrev pub export_of : List Ask → List ℕ → Option Ask
export_of exports name = find (λ (e : Ask). same_name e.name name) exports

-- an import, linked to the export of its name if there is one
abbrev pub link_by : Ask → Option Ask → Option Link
link_by i None = None
link_by i (Some e) = Some (record { module_of = i.module; block = i.block; to_module = e.module; to_block = e.block })

-- the imports of a map that have an export of their name, each linked to it
unfoldable pub links : LinkMap → List Link
links map = filter_map (λ (i : Ask). link_by i (export_of map.exports i.name)) map.imports

-- the index of the first instruction of block b of module m, or 0 if there is no such block
abbrev pub start_in : List Object → ℕ → ℕ → ℕ
start_in modules m b = unwrap_or (option_map (λ o. block_start o b) (slice_get modules m)) 0

-- the code type of block b of module m, or 0 if there is no such block
abbrev pub type_in : List Object → ℕ → ℕ → ℕ
type_in modules m b = unwrap_or (option_map (λ o. block_type o b) (slice_get modules m)) 0
