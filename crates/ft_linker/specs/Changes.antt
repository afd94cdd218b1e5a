-- Redirected code addresses, kept in a map from old to new.
use Rattle.std.specs.Prelude.{◌≡◌, ℕ, List}
use Rattle.std.specs.Option.{option_map}
use Rattle.std.specs.Ordering.{nat_cmp}
use Rattle.std.specs.BTreeMap.{get}
use Rattle.ft_modules.specs.Linked.{Change, change_at}
use Rattle.ft_linker.specs.declared.changes.Target.{Target}
use Rattle.ft_linker.specs.declared.changes.Changes.{Changes}

-- where a change redirects an address
abbrev pub target_of : Change → Target
target_of c = record { address = c.to; code_type = c.code_type }

-- the map holds these changes; of several for one address, the first counts
pub record Holds (m : Changes) (cs : List Change) : Type 0 where
  pub each : (w : ℕ) → get nat_cmp m.targets w ≡ option_map target_of (change_at cs w)
