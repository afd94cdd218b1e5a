-- The reader's state after the lines so far. Private to the reader.
use Rattle.std.specs.Prelude.{◌≡◌, ℕ, ◌≤◌, Bool, true, false, if◌then◌else◌, nat_lt, List, length, Option, Some, None}
use Rattle.std.specs.Ordering.{nat_cmp, ordering_then}
use Rattle.std.specs.Cmp.Lexicographic.{slice_cmp}
use Rattle.std.specs.BTreeSet.{contains_by}
use Rattle.ft_link_map.specs.declared.link_map.LinkMap as maps
use Rattle.ft_link_map.specs.declared.names.Names.{Names}
use Rattle.ft_link_map.specs.declared.blocks.Blocks.{Blocks}
use Rattle.ft_link_map.specs.declared.draft.Draft.{Draft}
use Rattle.ft_link_map.specs.declared.draft.Turn.{Turn}
use Rattle.ft_link_map.specs.declared.draft.Turn.TheVariants.{On, Again, Stuck}
use Rattle.ft_link_map.specs.MapAnswers.{last_module, with_line, may_stand, has_name, has_block, repeats}
use Rattle.ft_link_map.specs.MapLines.{MapLine}

-- whether the set has this name
unfoldable pub knows_name : Names → List ℕ → Bool
knows_name names text = contains_by (λ k. slice_cmp nat_cmp text k.now) names.texts

-- whether the set has this block
unfoldable pub knows_block : Blocks → ℕ → ℕ → Bool
knows_block blocks m b = contains_by (λ k. ordering_then (nat_cmp m k.0) (nat_cmp b k.1)) blocks.places

-- the draft holds the map, which has at most 64 modules
pub record Holds (d : Draft) (m : maps.LinkMap) : Type 0 where
  pub few : length m.files ≤ 64
  pub files : d.files.items ≡ m.files
  pub exports : d.exports.items ≡ m.exports
  pub imports : d.imports.items ≡ m.imports
  pub names : (text : List ℕ) → knows_name d.names text ≡ has_name m.exports text
  pub exported : (a b : ℕ) → knows_block d.exported a b ≡ has_block m.exports a b
  pub imported : (a b : ℕ) → knows_block d.imported a b ≡ has_block m.imports a b

-- this is the number of the last module, or `None` if there is none
abbrev pub TellsModule : Option ℕ → maps.LinkMap → Type 0
TellsModule None m = nat_lt 0 (length m.files) ≡ false
TellsModule (Some number) m = (nat_lt 0 (length m.files) ≡ true) × (number ≡ last_module m)

-- the effect of a correctly placed line, by whether it repeats an earlier one
abbrev pub turn_of : Bool → Turn
turn_of again = if again then Again else On

-- the draft accepted the line, or the line is misplaced
abbrev pub Takes : Turn → Draft → maps.LinkMap → ℕ → MapLine → Type 0
Takes On d m number line = (may_stand m line ≡ true) × (repeats m line ≡ false) × Holds d (with_line m number line)
Takes Again d m number line = (may_stand m line ≡ true) × (repeats m line ≡ true) × Holds d (with_line m number line)
Takes Stuck d m number line = may_stand m line ≡ false

-- this is the map at the end, or `None` if it has no module
abbrev pub Ends : Option maps.LinkMap → maps.LinkMap → Type 0
Ends None m = nat_lt 0 (length m.files) ≡ false
Ends (Some map) m = (nat_lt 0 (length m.files) ≡ true) × (map ≡ m)

-- the first repeated line, updated with the effect of the line with this number
abbrev pub first_of : Option ℕ → Turn → ℕ → Option ℕ
first_of (Some first) turn number = Some first
first_of None On number = None
first_of None Again number = Some number
first_of None Stuck number = None
