-- The order of keys treats two keys as equal exactly when they are the same.
use Rattle.std.proofs.Common.{◌≡◌, true, refl, sym, ◌∙◌}
use Rattle.std.specs.BTreeMap.{is_at}
use Rattle.ft_static.specs.declared.node.Shape.{Shape}
use Rattle.ft_static.proofs.SameTrees.{shape_decides}
use Rattle.ft_static.specs.contracts.node.ShapeOrd.TheImpl as key_order
use Rattle.ft_static.specs.contracts.node.ShapeOrd.TheImpl.Laws as laws

pub only_key : (k q : Shape) → is_at ((key_order.ghosts).cmp k) q ≡ true → q ≡ k
only_key k q e = sym ((shape_decides k q).0 (laws.matches_eq-law k q ∙ e))

pub own_key : (k : Shape) → is_at ((key_order.ghosts).cmp k) k ≡ true
own_key k = sym (laws.matches_eq-law k k) ∙ (shape_decides k k).1 refl
