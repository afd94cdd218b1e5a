-- References to nodes: the rules hold exactly when the node may be named.
use Rattle.std.proofs.Common.{◌≡◌, ℕ, ◌<◌, ◌≤◌, Bool, true, false, List, ◌++◌, length, Option, None, Some, refl, sym}
use Rattle.std.proofs.Common.{ap, ◌∙◌, arith}
use Rattle.std.specs.Prelude.{nat_lt, not, if◌then◌else◌, slice_get}
use Rattle.std.proofs.lemmas.Bool.Decides.{nat_tests}
use Rattle.ft_isa.proofs.Lists.{get_front}
use Rattle.ft_static.specs.declared.node.Node.{Node}
use Rattle.ft_static.specs.NodeRules.{MayName}
use Rattle.ft_static.specs.NodeParts.{is_memory}
use Rattle.ft_format.specs.declared.object_error.ObjectError.TheVariants as errors
use Rattle.ft_format.specs.Rules.{must, is_of_sort, is_within, node_number_broken, named_broken}
use Rattle.ft_format.proofs.Unbroken.{held, both}
use Rattle.ft_format.proofs.Codes.{lt_held, lt_true, le_true}

-- the test of a node's sort holds exactly when the node is of that sort
sort_of : (memory b : Bool) → (if memory then b else not b) ≡ true → b ≡ memory
sort_of true true h = refl
sort_of true false h = absurd (cc)
sort_of false true h = absurd (cc)
sort_of false false h = refl

of_sort : (memory b : Bool) → b ≡ memory → (if memory then b else not b) ≡ true
of_sort true true h = refl
of_sort true false h = absurd (cc)
of_sort false true h = absurd (cc)
of_sort false false h = refl

-- a node that exists and passes the tests may be named
named_found : (nodes : List Node) (scope : ℕ) (memory : Bool) (n : ℕ) (o : Option Node) → slice_get nodes n ≡ o →
    n < length nodes → is_of_sort memory o ≡ true → is_within scope o ≡ true
    → MayName nodes (length nodes) scope memory n
named_found nodes scope memory n None e lt sort within = absurd (cc)
named_found nodes scope memory n (Some node) e lt sort within = record {
  lower = lt;
  node = node;
  found = e;
  sort = sort_of memory (is_memory node.shape) sort;
  scope_within = grind (arith, nat_tests);
}

pub named_again : (nodes : List Node) (scope : ℕ) (memory : Bool) (at n : ℕ) → named_broken nodes scope memory at n
    ≡ None → MayName nodes (length nodes) scope memory n
named_again nodes scope memory at n none =
    let a = both (node_number_broken nodes memory at n) (must (is_within scope (slice_get nodes n)) (errors.Index at))
    none in
    let b = both (must (nat_lt n (length nodes)) (errors.Index at))
    (must (is_of_sort memory (slice_get nodes n)) (errors.Kind at)) a.0 in
    named_found nodes scope memory n (slice_get nodes n) refl (lt_held n (length nodes) (errors.Index at) b.0)
    (held _ (errors.Kind at) b.1) (held _ (errors.Index at) a.1)

-- each node has a scope of at most 128
abbrev pub AreNarrowNodes : List Node → Type 0
AreNarrowNodes nodes = (k : ℕ) (node : Node) → slice_get nodes k ≡ Some node → node.scope ≤ 128

within_there : (nodes : List Node) (n : ℕ) (memory : Bool) (o : Option Node) → slice_get nodes n ≡ o →
    AreNarrowNodes nodes → is_of_sort memory o ≡ true → is_within 128 o ≡ true
within_there nodes n memory None e narrow sort = absurd (cc)
within_there nodes n memory (Some node) e narrow sort = le_true node.scope 128 (narrow n node e)

pub number_again : (nodes : List Node) (memory : Bool) (at n : ℕ) → AreNarrowNodes nodes →
    node_number_broken nodes memory at n ≡ None → MayName nodes (length nodes) 128 memory n
number_again nodes memory at n narrow none =
    let b = both (must (nat_lt n (length nodes)) (errors.Index at))
    (must (is_of_sort memory (slice_get nodes n)) (errors.Kind at)) none in
    let sort = held (is_of_sort memory (slice_get nodes n)) (errors.Kind at) b.1 in
    named_found nodes 128 memory n (slice_get nodes n) refl (lt_held n (length nodes) (errors.Index at) b.0) sort
    (within_there nodes n memory (slice_get nodes n) refl narrow sort)

-- a reference to a node that may be named breaks no rule
pub number_fine : (nodes : List Node) (scope : ℕ) (memory : Bool) (at n : ℕ) →
    MayName nodes (length nodes) scope memory n → node_number_broken nodes memory at n ≡ None
number_fine nodes scope memory at n h =
    let lt : nat_lt n (length nodes) ≡ true = lt_true n (length nodes) h.lower in
    let sort : is_of_sort memory (slice_get nodes n) ≡ true = ap (is_of_sort memory) h.found
    ∙ of_sort memory (is_memory h.node.shape) h.sort in
    rw (lt, sort) refl

pub named_fine : (nodes : List Node) (scope : ℕ) (memory : Bool) (at n : ℕ) →
    MayName nodes (length nodes) scope memory n → named_broken nodes scope memory at n ≡ None
named_fine nodes scope memory at n h =
    let within : is_within scope (slice_get nodes n) ≡ true = ap (is_within scope) h.found
    ∙ le_true h.node.scope scope h.scope_within in
    rw (number_fine nodes scope memory at n h, within) refl

-- a reference to an earlier node is valid among the earlier nodes exactly when it is valid among all nodes
pub named_after : (earlier rest : List Node) (scope : ℕ) (memory : Bool) (n : ℕ) →
    MayName earlier (length earlier) scope memory n → MayName (earlier ++ rest) (length earlier) scope memory n
named_after earlier rest scope memory n h = record {
  lower = h.lower;
  node = h.node;
  found = get_front earlier rest n h.lower ∙ h.found;
  sort = h.sort;
  scope_within = h.scope_within;
}

pub named_before : (earlier rest : List Node) (scope : ℕ) (memory : Bool) (n : ℕ) →
    MayName (earlier ++ rest) (length earlier) scope memory n → MayName earlier (length earlier) scope memory n
named_before earlier rest scope memory n h = record {
  lower = h.lower;
  node = h.node;
  found = sym (get_front earlier rest n h.lower) ∙ h.found;
  sort = h.sort;
  scope_within = h.scope_within;
}
