-- What is known of a valid node record: the number of a variable is below 256.
use Rattle.std.proofs.Common.{◌≡◌, ◌<◌, ℕ, zero, suc, ◌+◌, List, [], ◌∷◌, ◌++◌, None, Some, subst, arith}
use Rattle.std.specs.Prelude.{nat_le, nat_lt, slice_get}
use Rattle.ft_static.specs.declared.node.Node.{Node}
use Rattle.ft_format.specs.declared.object_error.ObjectError.TheVariants as errors
use Rattle.ft_format.specs.declared.version.Version.{Version}
use Rattle.ft_format.specs.Versions.{last_node_kind}
use Rattle.ft_format.specs.Rules.{must, ◌next◌, zero_broken, count_broken}
use Rattle.ft_format.specs.NodeRecords.{node_op_broken, parts_broken, variable_broken, node_broken, node_of}
use Rattle.ft_format.specs.Broken.{nodes_broken}
use Rattle.ft_format.proofs.Unbroken.{both}
use Rattle.ft_format.proofs.Codes.{le_held, lt_held}

-- the record breaks no rule, in some version, at some place and after some nodes
pub record IsPlain (row : List ℕ) : Type 0 where
  pub version : Version
  pub earlier : List Node
  pub at : ℕ
  pub unbroken : node_broken version earlier at row ≡ None

-- if a list of node records breaks no rule, neither does any record in it
pub node_at : (v : Version) (earlier : List Node) (at : ℕ) (rs : List (List ℕ)) (i : ℕ) (row : List ℕ) →
    nodes_broken v earlier at rs ≡ None → slice_get rs i ≡ Some row → IsPlain row
unfolding nodes_broken
node_at v earlier at [] i row n e = absurd (cc)
node_at v earlier at (r ∷ rs) zero row n e =
    let same : r ≡ row = cc in
    let p = both (node_broken v earlier at r) (nodes_broken v (earlier ++ node_of r ∷ []) (at + 16) rs) n in
    record {
      version = v;
      earlier = earlier;
      at = at;
      unbroken = subst (λ l. node_broken v earlier at l ≡ None) same p.0;
    }
node_at v earlier at (r ∷ rs) (suc i) row n e =
    let p = both (node_broken v earlier at r) (nodes_broken v (earlier ++ node_of r ∷ []) (at + 16) rs) n in
    node_at v (earlier ++ node_of r ∷ []) (at + 16) rs i row p.1 e

-- the number of a variable is below 256
pub plain_variable : (kind op scope pad a b c : ℕ) → IsPlain (kind ∷ op ∷ scope ∷ pad ∷ a ∷ b ∷ c ∷ []) → kind ≡ 1 →
    a < 256
plain_variable kind op scope pad a b c p =
    let r1 = both (must (nat_le kind (last_node_kind p.version)) (errors.Kind p.at)) _ p.unbroken in
    let r2 = both (node_op_broken p.version (p.at + 1) kind op)
    (count_broken 128 (p.at + 2) scope next (zero_broken (p.at + 3) pad next parts_broken p.earlier p.at kind scope a
    b c)) r1.1 in
    let r3 = both (count_broken 128 (p.at + 2) scope) (zero_broken (p.at + 3) pad next parts_broken p.earlier p.at kind
    scope a b c) r2.1 in
    let r4 = both (zero_broken (p.at + 3) pad) (parts_broken p.earlier p.at kind scope a b c) r3.1 in
    let few = le_held scope 128 (errors.Count (p.at + 2)) r3.0 in
    λ is.
    let v : variable_broken p.at scope a b c ≡ None = subst (λ k. parts_broken p.earlier p.at k scope a b c
    ≡ None) is r4.1 in
    let lt = lt_held a scope (errors.Index (p.at + 4)) (both (must (nat_lt a scope) (errors.Index (p.at + 4))) _ v).0 in
    omega (arith, lt, few)
