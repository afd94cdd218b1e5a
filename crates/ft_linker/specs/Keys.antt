-- Keys: shapes in which tree numbers replace the parts, kept in an ordered map.
use Rattle.std.specs.Prelude.{ℕ, Option}
use Rattle.std.specs.BTreeMap.{BTreeMap, get}
use Rattle.ft_static.specs.declared.node.Shape.{Shape}
use Rattle.ft_static.specs.contracts.node.ShapeOrd.TheImpl as key_order

-- the number that the map has for a key
unfoldable pub look : BTreeMap Shape ℕ → Shape → Option ℕ
look m k = get (key_order.ghosts).cmp m k
