-- Converting nodes to records, and back.
use Rattle.std.proofs.Common.{◌≡◌, ℕ, zero, suc, ◌+◌, ◌^◌, ◌<◌, ◌≤◌, Bool, List, [], ◌∷◌, ◌++◌, length, map, None, Some}
use Rattle.std.proofs.Common.{refl, sym, subst, append_assoc, arith}
use Rattle.std.specs.Prelude.{nat_le, slice_get}
use Rattle.std.specs.List.{AllByRecursion}
use Rattle.std.proofs.lemmas.List.{length-append}
use Rattle.ft_static.specs.declared.node.Node.{Node}
use Rattle.ft_static.specs.declared.node.Shape.{Shape}
use Rattle.ft_static.specs.declared.node.Shape.TheVariants.{Word, Op as OpNode, Memory}
use Rattle.ft_static.specs.NodeRules.{MayName, IsShape, IsNode}
use Rattle.ft_isa.specs.Words.{IsLength}
use Rattle.ft_isa.proofs.Operations.{op_back}
use Rattle.ft_types.specs.NodeRows.{shape_row, node_row}
use Rattle.ft_format.specs.declared.object_error.ObjectError.TheVariants as errors
use Rattle.ft_format.specs.Layout.{code_layout}
use Rattle.ft_format.specs.declared.version.Version.{Version}
use Rattle.ft_format.specs.Versions.{last_node_kind}
use Rattle.ft_format.specs.NodeRecords.{SupportsShape, SupportsNode}
use Rattle.ft_format.specs.Rules.{must, zero_broken, count_broken, some_broken}
use Rattle.ft_format.specs.NodeRecords.{node_op_broken, parts_broken, node_broken, node_of, FitsShape}
use Rattle.ft_format.specs.Codes.{Is8, Is32}
use Rattle.ft_format.specs.Broken.{nodes_broken}
use Rattle.ft_format.proofs.Layouts.{Fit, AllFit}
use Rattle.ft_format.proofs.Unbroken.{both, each, first_none, rest_none}
use Rattle.ft_format.proofs.Codes.{le_held, lt_held, zero_again, le_true, lt_true, op_fine, high_back, low_back}
use Rattle.ft_format.proofs.Codes.{word_back, op_code_again, op_has_again, Each, of_each}
use Rattle.ft_format.proofs.Versions.{node_kinds, few_node_kinds, has_node_kind, has_op}
use Rattle.ft_format.proofs.References.{named_again, named_fine, named_after, named_before}

-- what holds of a valid record and of the node that it encodes
pub record NodeAgain (v : Version) (earlier : List Node) (row : List ℕ) : Type 0 where
  pub written : node_row (node_of row) ≡ row
  pub node : IsNode earlier (length earlier) (node_of row)
  pub has : SupportsNode v (node_of row)

-- two lists of seven numbers are equal if their numbers are, one by one
pub same_seven : {a b c d e f g a' b' c' d' e' f' g' : ℕ} → a ≡ a' → b ≡ b' → c ≡ c' → d ≡ d' → e ≡ e' → f ≡ f' → g ≡ g'
    → ◌≡◌ {A = List ℕ} (a ∷ b ∷ c ∷ d ∷ e ∷ f ∷ g ∷ []) (a' ∷ b' ∷ c' ∷ d' ∷ e' ∷ f' ∷ g' ∷ [])
same_seven p q r s t u v = rw (p, q, r, s, t, u, v) refl

-- a length that breaks no rule is the length of a run
pub length_again : (at n : ℕ) → some_broken 1024 at n ≡ None → IsLength n
length_again at n h = let r = both (must (nat_le 1 n) (errors.Count at)) (count_broken 1024 at n) h in
    (le_held 1 n (errors.Count at) r.0, le_held n 1024 (errors.Count at) r.1)

-- the facts about valid fields
ruleset fields_again = (
  arith,
  same_seven,
  first_none,
  rest_none,
  zero_again,
  lt_held,
  high_back,
  low_back,
  op_code_again,
  op_has_again,
  named_again,
  length_again,
)

-- nodes, kind by kind
module _ (v : Version) (earlier : List Node) (at op scope pad a b c : ℕ) (few : scope ≤ 128) (no_pad : 0 ≡ pad)
    (fit_b : b < 2 ^ 32) (fit_c : c < 2 ^ 32) where
  abbrev Again : ℕ → Type 0
  Again kind = kind ≤ last_node_kind v → node_op_broken v (at + 1) kind op ≡ None →
      parts_broken earlier at kind scope a b c ≡ None → NodeAgain v earlier (kind ∷ op ∷ scope ∷ pad ∷ a ∷ b ∷ c ∷ [])

  -- `Again` holds for each kind; the proof search reads the rules, so it covers new kinds too
  each_again : Each Again node_kinds
  each_again = search fields_again parts 12

-- a valid record encodes a node that obeys the rules, and is the record of that node
pub node_again : (v : Version) (earlier : List Node) (at : ℕ) (row : List ℕ) → Fit code_layout row →
    node_broken v earlier at row ≡ None → NodeAgain v earlier row
node_again v earlier at (kind ∷ op ∷ scope ∷ pad ∷ a ∷ b ∷ c ∷ []) fit h =
    let r = each (
    must (nat_le kind (last_node_kind v)) (errors.Kind at) ∷ node_op_broken v (at + 1) kind op ∷ count_broken 128
    (at + 2) scope
    ∷ zero_broken (at + 3) pad ∷ parts_broken earlier at kind scope a b c ∷ []) h in
    let few = le_held scope 128 (errors.Count (at + 2)) r.1.1.0 in
    let no_pad = zero_again (at + 3) pad r.1.1.1.0 in
    let has : kind ≤ last_node_kind v = le_held kind (last_node_kind v) (errors.Kind at) r.0 in
    of_each (Again v earlier at op scope pad a b c few no_pad fit.1.1.1.1.1.0 fit.1.1.1.1.1.1.0) node_kinds
    (each_again v earlier at op scope pad a b c few no_pad fit.1.1.1.1.1.0 fit.1.1.1.1.1.1.0)
    kind (omega (arith, has, few_node_kinds v)) has r.1.0 r.1.1.1.1.0
node_again v earlier at [] fit h = absurd fit
node_again v earlier at (a ∷ []) fit h = absurd fit.1
node_again v earlier at (a ∷ b ∷ []) fit h = absurd fit.1.1
node_again v earlier at (a ∷ b ∷ c ∷ []) fit h = absurd fit.1.1.1
node_again v earlier at (a ∷ b ∷ c ∷ d ∷ []) fit h = absurd fit.1.1.1.1
node_again v earlier at (a ∷ b ∷ c ∷ d ∷ e ∷ []) fit h = absurd fit.1.1.1.1.1
node_again v earlier at (a ∷ b ∷ c ∷ d ∷ e ∷ f ∷ []) fit h = absurd fit.1.1.1.1.1.1
node_again v earlier at (a ∷ b ∷ c ∷ d ∷ e ∷ f ∷ g ∷ x ∷ xs) fit h = absurd fit.1.1.1.1.1.1.1

-- each node obeys the rules, given the nodes before it
abbrev pub Follow : List Node → List Node → Type 0
Follow earlier [] = Unit {0}
Follow earlier (n ∷ ns) = IsNode earlier (length earlier) n × Follow (earlier ++ n ∷ []) ns

-- valid records encode nodes that obey the rules, and are the records of those nodes
pub record NodesAgain (v : Version) (earlier : List Node) (rs : List (List ℕ)) : Type 0 where
  pub written : map node_row (map node_of rs) ≡ rs
  pub follow : Follow earlier (map node_of rs)
  pub has : AllByRecursion (SupportsNode v) (map node_of rs)

pub nodes_again : (v : Version) (earlier : List Node) (at : ℕ) (rs : List (List ℕ)) → AllFit code_layout rs →
    nodes_broken v earlier at rs ≡ None → NodesAgain v earlier rs
unfolding nodes_broken
nodes_again v earlier at [] fit h = record { written = refl; follow = tt; has = tt }
nodes_again v earlier at (r ∷ rs) fit h =
    let parts = both (node_broken v earlier at r) (nodes_broken v (earlier ++ node_of r ∷ []) (at + 16) rs) h in
    let here = node_again v earlier at r fit.0 parts.0 in
    let after = nodes_again v (earlier ++ node_of r ∷ []) (at + 16) rs fit.1 parts.1 in
    record {
      written = rw (here.written, after.written) refl;
      follow = (here.node, after.follow);
      has = (here.has, after.has);
    }

-- a shape obeys the rules among the earlier nodes exactly when it obeys them among all nodes
shape_after : (earlier rest : List Node) (scope : ℕ) (s : Shape) → IsShape earlier (length earlier) scope s →
    IsShape (earlier ++ rest) (length earlier) scope s
shape_after earlier rest scope Memory h = tt
shape_after earlier rest scope _ h = search named_after

shape_before : (earlier rest : List Node) (scope : ℕ) (s : Shape) → IsShape (earlier ++ rest) (length earlier) scope s →
    IsShape earlier (length earlier) scope s
shape_before earlier rest scope Memory h = tt
shape_before earlier rest scope _ h = search named_before

-- if each node obeys the rules given those before it, each does among all nodes
pub each_node : (earlier ns : List Node) → Follow earlier ns → (k : ℕ) (node : Node) → slice_get ns k ≡ Some node →
    IsNode (earlier ++ ns) (length earlier + k) node
each_node earlier [] h k node e = absurd (cc)
each_node earlier (n ∷ ns) h zero node e =
    let same : n ≡ node = cc in
    let place : length earlier + 0 ≡ length earlier = omega arith in
    subst (λ x. IsNode (earlier ++ n ∷ ns) (length earlier + 0) x) same
    (rw place (record { scope = h.0.scope; shape = shape_after earlier (n ∷ ns) n.scope n.shape h.0.shape }))
each_node earlier (n ∷ ns) h (suc k) node e =
    let after = each_node (earlier ++ n ∷ []) ns h.1 k node e in
    let place : length (earlier ++ n ∷ []) + k ≡ length earlier + suc k =
    omega (arith, length-append earlier (n ∷ [])) in
    subst (λ i. IsNode (earlier ++ n ∷ ns) i node) place
    (subst (λ all. IsNode all (length (earlier ++ n ∷ []) + k) node) (append_assoc earlier (n ∷ []) ns) after)

-- conversely, if each node obeys the rules among all nodes, each does given those before it
pub nodes_follow : (earlier ns : List Node) → ((k : ℕ) (node : Node) → slice_get ns k ≡ Some node →
    IsNode (earlier ++ ns) (length earlier + k) node) → Follow earlier ns
nodes_follow earlier [] h = tt
nodes_follow earlier (n ∷ ns) h =
    let place : length earlier + 0 ≡ length earlier = omega arith in
    let first : IsNode (earlier ++ n ∷ ns) (length earlier) n =
    subst (λ i. IsNode (earlier ++ n ∷ ns) i n) place (h 0 n refl) in (
      record { scope = first.scope; shape = shape_before earlier (n ∷ ns) n.scope n.shape first.shape },
      nodes_follow (earlier ++ n ∷ []) ns (λ k node e.
          let next_place : length earlier + suc k ≡ length (earlier ++ n ∷ []) + k =
          omega (arith, length-append earlier (n ∷ [])) in
          subst (λ all. IsNode all (length (earlier ++ n ∷ []) + k) node) (sym (append_assoc earlier (n ∷ []) ns))
          (subst (λ i. IsNode (earlier ++ n ∷ ns) i node) next_place (h (suc k) node e))),
    )

-- if a node fits, its record's fields can hold its numbers
pub shape_fit : (scope : ℕ) (s : Shape) → Is8 scope → FitsShape s → Fit code_layout (shape_row scope s)
shape_fit scope Memory k h = search arith
shape_fit scope _ k h = search (arith, has_op)

-- a node is recovered from its numbers
pub shape_back : (scope : ℕ) (s : Shape) → node_of (shape_row scope s) ≡ record { scope = scope; shape = s }
shape_back scope (Word w) = rw (word_back w) refl
shape_back scope (OpNode op a b) = rw (op_back op) refl
shape_back scope _ = refl

-- a node that obeys the rules fits
pub named_fits : (nodes : List Node) (n scope : ℕ) (memory : Bool) (m : ℕ) → n ≤ 1048576 →
    MayName nodes n scope memory m → Is32 m
named_fits nodes n scope memory m le h = let low = h.lower in omega arith

pub shape_fits : (nodes : List Node) (n scope : ℕ) (s : Shape) → n ≤ 1048576 → scope ≤ 128 → IsShape nodes n scope s →
    FitsShape s
shape_fits nodes n scope Memory le few h = tt
shape_fits nodes n scope _ le few h = search (named_fits, arith)

-- the record of a node that obeys the rules breaks no rule
ruleset rules_hold = (arith, has_node_kind, le_true, lt_true, named_fine, op_fine)

shape_unbroken : (v : Version) (earlier : List Node) (at scope : ℕ) (s : Shape) → scope ≤ 128 →
    IsShape earlier (length earlier) scope s
    → SupportsShape v s → node_broken v earlier at (shape_row scope s) ≡ None
shape_unbroken v earlier at scope Memory few h has = search rules_hold
shape_unbroken v earlier at scope _ few h has = search rules_hold

-- the record of a node breaks no rule, and decodes to that node
pub record NodeFine (v : Version) (earlier : List Node) (at : ℕ) (n : Node) : Type 0 where
  pub unbroken : node_broken v earlier at (node_row n) ≡ None
  pub back : node_of (node_row n) ≡ n
  pub fit : Fit code_layout (node_row n)

shape_fine : (v : Version) (earlier : List Node) (at scope : ℕ) (s : Shape) → length earlier ≤ 1048576 → scope ≤ 128 →
    IsShape earlier (length earlier) scope s → SupportsShape v s →
    NodeFine v earlier at (record { scope = scope; shape = s })
shape_fine v earlier at scope s m few h has = record {
  unbroken = shape_unbroken v earlier at scope s few h has;
  back = shape_back scope s;
  fit = shape_fit scope s (omega arith) (shape_fits earlier (length earlier) scope s m few h);
}

-- the records of nodes break no rule, and decode to these nodes
pub nodes_fine : (v : Version) (earlier : List Node) (at : ℕ) (ns : List Node) → length (earlier ++ ns) ≤ 1048576 →
    Follow earlier ns → AllByRecursion (SupportsNode v) ns
    → (nodes_broken v earlier at (map node_row ns) ≡ None) × (map node_of (map node_row ns) ≡ ns)
    × AllFit code_layout (map node_row ns)
unfolding nodes_broken
nodes_fine v earlier at [] m h has = (refl, refl, tt)
nodes_fine v earlier at (n ∷ ns) m h has =
    let few : length earlier ≤ 1048576 = omega (arith, length-append earlier (n ∷ ns)) in
    let here : NodeFine v earlier at n = shape_fine v earlier at n.scope n.shape few h.0.scope h.0.shape has.0 in
    let more : length ((earlier ++ n ∷ []) ++ ns) ≤ 1048576 = rw (append_assoc earlier (n ∷ []) ns) m in
    let after = nodes_fine v (earlier ++ n ∷ []) (at + 16) ns more h.1 has.1 in
    (rw (here.unbroken, here.back, after.0) refl, rw (here.back, after.1) refl, (here.fit, after.2))
