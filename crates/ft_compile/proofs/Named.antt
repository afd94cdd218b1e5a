-- The nodes in the notes obey the rules, and each known pair has a node.
use Rattle.std.proofs.Common.{◌≡◌, ℕ, ◌+◌, ◌<◌, ◌≤◌, Bool, true, false, List, [], ◌∷◌, ◌++◌, length, inl, inr, Some}
use Rattle.std.proofs.Common.{refl, sym, ap, ◌∙◌, subst, arith, slice_get}
use Rattle.std.specs.Prelude.{All, slice_index, slice_set}
use Rattle.std.proofs.lemmas.Bool.{cases_eq}
use Rattle.std.proofs.lemmas.List.{get_or-set_same, get_or-set_other, length-set}
use Rattle.ft_static.specs.declared.node.Node.{Node}
use Rattle.ft_static.specs.declared.node.Shape.{Shape}
use Rattle.ft_static.specs.declared.node.Shape.TheVariants as shape
use Rattle.ft_static.specs.NodeRules.{MayName, IsShape, IsNode}
use Rattle.ft_static.specs.NodeParts.{is_memory}
use Rattle.ft_isa.specs.Words.{IsLength, IsWord, cell_address}
use Rattle.ft_isa.specs.declared.op.Op.TheVariants.{Add}
use Rattle.ft_isa.proofs.Lists.{there_pushed, length_pushed}
use Rattle.ft_lower.specs.declared.step3.Step3.{Step3}
use Rattle.ft_lower.specs.declared.step3.Step3.TheVariants.{Put, Copy, Op, Load, Store, LoadAt, StoreAt, Exit, Go, Stop}
use Rattle.ft_lower.specs.Size.{pairs_of}
use Rattle.ft_lower.specs.Well.{Known, learn, forget, known_after, StepFits, ReadsKnown}
use Rattle.ft_dup.proofs.Pairs.{learned, forgotten}
use Rattle.ft_compile.specs.Noted.{Noted, node, pair_node, with_node, with_pair_node, with_memory_node}
use Rattle.ft_compile.specs.Noted.{with_address_nodes, step_noted}
use Rattle.ft_compile.proofs.Lists.{Starts, starts_less, get_newest}

module _ (F : List Node) where
  -- each of these first nodes obeys the rules among all nodes
  abbrev pub AreFine : List Node → Type 0
  AreFine ns = (n : ℕ) (x : Node) → slice_get ns n ≡ Some x → IsNode F n x

  -- they still do if another node that obeys the rules is appended
  pub fine_push : (ns : List Node) (x : Node) → AreFine ns → IsNode F (length ns) x → AreFine (ns ++ x ∷ [])
  fine_push ns x h new n y e = elim (there_pushed ns x n y e) [
    | inl f ↦ h n y f
    | inr f ↦ subst (λ z. IsNode F n z) f.1 (subst (λ m. IsNode F m x) (sym f.0) new)
  ]

  -- a node that may be named here may be named later
  pub named_later : (n m scope : ℕ) (memory : Bool) (k : ℕ) → n ≤ m → MayName F n scope memory k →
      MayName F m scope memory k
  named_later n m scope memory k le h = record {
    lower = omega (arith, le, h.lower);
    node = h.node;
    found = h.found;
    sort = h.sort;
    scope_within = h.scope_within;
  }

  -- the newest node may be named
  pub new_named : (ns : List Node) (scope : ℕ) (x : Shape) (memory : Bool) → Starts (ns ++ node scope x ∷ []) F →
      is_memory x ≡ memory → MayName F (length (ns ++ node scope x ∷ [])) scope memory (length ns)
  new_named ns scope x memory s e = record {
    lower = let l = length_pushed ns (node scope x) in omega arith;
    node = node scope x;
    found = get_newest ns F (node scope x) s;
    sort = e;
    scope_within = omega arith;
  }

  -- each known pair and the memory have nodes below n, and there are 32 pairs
  pub record IsNamed (scope : ℕ) (k : Known) (n : ℕ) (pairs : List ℕ) (memory : ℕ) : Type 0 where
    pub pair : (q : ℕ) → k q ≡ true → MayName F n scope false (slice_index pairs q)
    pub memory_node : MayName F n scope true memory
    pub many : length pairs ≡ 32
    pub small : (q : ℕ) → k q ≡ true → q < 32

  -- the known pairs still have nodes once one more pair gets a node and becomes known
  named_pair : (scope : ℕ) (k : Known) (n m : ℕ) (pairs : List ℕ) (memory p new : ℕ) → n ≤ m → p < 32 →
      IsNamed scope k n pairs memory → MayName F m scope false new →
      IsNamed scope (learn p k) m (slice_set pairs p new) memory
  named_pair scope k n m pairs memory p new le lt h x = record {
    pair = λ q known. elim (cases_eq q p) [
      | inl e ↦ subst (MayName F m scope false) (sym (ap (λ r. slice_index (slice_set pairs p new) r) e
          ∙ get_or-set_same pairs p new 0 (let l = h.many in omega arith))) x
      | inr ne ↦ subst (MayName F m scope false) (sym (get_or-set_other pairs p q new 0 ne))
          (named_later n m scope false (slice_index pairs q) le (h.pair q (learned k p q ne known)))
    ];
    memory_node = named_later n m scope true memory le h.memory_node;
    many = length-set pairs p new ∙ h.many;
    small = λ q known. elim (cases_eq q p) [
      | inl e ↦ subst (λ r. r < 32) (sym e) lt
      | inr ne ↦ h.small q (learned k p q ne known)
    ];
  }

  -- the known pairs still have nodes once the spare pair is no longer known and the memory gets a new node
  named_spare : (scope : ℕ) (k : Known) (n m : ℕ) (pairs : List ℕ) (memory spare new : ℕ) → n ≤ m →
      IsNamed scope k n pairs memory → MayName F m scope true new → IsNamed scope (forget spare k) m pairs new
  named_spare scope k n m pairs memory spare new le h x = record {
    pair = λ q known. named_later n m scope false (slice_index pairs q) le (h.pair q (forgotten k spare q known).1);
    memory_node = x;
    many = h.many;
    small = λ q known. h.small q (forgotten k spare q known).1;
  }

  -- the invariant of the walk within a block
  pub record IsLawful (scope : ℕ) (k : Known) (w : Noted) : Type 0 where
    pub named : IsNamed scope k (length w.nodes) w.pairs w.memory
    pub fine : AreFine w.nodes

  -- the invariant holds after one more node, which becomes the node of a pair
  one_node : (scope : ℕ) (k : Known) (w : Noted) (p : ℕ) (x : Shape) → scope ≤ 128 → p < 32 →
      Starts (with_pair_node scope p x w).nodes F → is_memory x ≡ false → IsShape F (length w.nodes) scope x →
      IsLawful scope k w → IsLawful scope (learn p k) (with_pair_node scope p x w)
  one_node scope k w p x le lt s e ok h =
      let l = length_pushed w.nodes (node scope x) in
      record {
        named = named_pair scope k (length w.nodes) (length (w.nodes ++ node scope x ∷ [])) w.pairs w.memory p
            (length w.nodes) (omega arith) lt h.named (new_named w.nodes scope x false s e);
        fine = fine_push w.nodes (node scope x) h.fine (record { scope = le; shape = ok });
      }

  -- the invariant holds after one more node that belongs to no pair
  part_node : (scope : ℕ) (k : Known) (w : Noted) (x : Shape) → scope ≤ 128 → IsShape F (length w.nodes) scope x →
      IsLawful scope k w → IsLawful scope k (with_node scope x w)
  part_node scope k w x le ok h =
      let l = length_pushed w.nodes (node scope x) in
      record {
        named = record {
          pair = λ q known. named_later _ _ scope false (slice_index w.pairs q) (omega arith) (h.named.pair q known);
          memory_node = named_later _ _ scope true w.memory (omega arith) h.named.memory_node;
          many = h.named.many;
          small = h.named.small;
        };
        fine = fine_push w.nodes (node scope x) h.fine (record { scope = le; shape = ok });
      }

  -- the invariant holds after one more node, which becomes the memory, once the spare pair is no longer known
  memory_node : (scope : ℕ) (k : Known) (w : Noted) (spare : ℕ) (x : Shape) → scope ≤ 128 →
      Starts (with_memory_node scope x w).nodes F → is_memory x ≡ true → IsShape F (length w.nodes) scope x →
      IsLawful scope k w → IsLawful scope (forget spare k) (with_memory_node scope x w)
  memory_node scope k w spare x le s e ok h =
      let l = length_pushed w.nodes (node scope x) in
      record {
        named = named_spare scope k (length w.nodes) (length (w.nodes ++ node scope x ∷ [])) w.pairs w.memory spare
            (length w.nodes) (omega arith) h.named (new_named w.nodes scope x true s e);
        fine = fine_push w.nodes (node scope x) h.fine (record { scope = le; shape = ok });
      }

  -- a cell's address is a word
  pub address_is_word : (cells c : ℕ) → cells ≤ 1024 → c < cells → IsWord (cell_address c)
  address_is_word cells c few lt = omega arith

  -- the invariant holds after the nodes of an array cell's address, and the node of the address may be named
  record IsAddressed (scope : ℕ) (k : Known) (before w : Noted) : Type 0 where
    lawful : IsLawful scope k w
    named : MayName F (length w.nodes) scope false (length before.nodes + 2)

  -- this is so after the nodes of the address of the array cell that a known pair selects
  address_lawful : (scope : ℕ) (k : Known) (w : Noted) (begin many q : ℕ) → scope ≤ 128 → IsWord (cell_address begin) →
      IsLength many → k q ≡ true → Starts (with_address_nodes scope begin many q w).nodes F → IsLawful scope k w →
      IsAddressed scope k w (with_address_nodes scope begin many q w)
  address_lawful scope k w begin many q le word fits known s h =
      let a = shape.Word (cell_address begin) in
      let r = shape.Rem (pair_node w q) many in
      let t = shape.Op Add (length w.nodes) (length w.nodes + 1) in
      let w1 = with_node scope a w in
      let w2 = with_node scope r w1 in
      let s2 : Starts w2.nodes F = starts_less w2.nodes F (node scope t) s in
      let s1 : Starts w1.nodes F = starts_less w1.nodes F (node scope r) s2 in
      let l1 = length_pushed w.nodes (node scope a) in
      let l2 = length_pushed w1.nodes (node scope r) in
      let n1 : length w1.nodes ≡ length w.nodes + 1 = omega arith in
      let n2 : length w2.nodes ≡ length w.nodes + 2 = omega arith in
      let h1 = part_node scope k w a le word h in
      let h2 = part_node scope k w1 r le (h1.named.pair q known, fits) h1 in
      let first = named_later (length w1.nodes) (length w2.nodes) scope false (length w.nodes) (omega arith)
      (new_named w.nodes scope a false s1 refl) in
      let second = subst (MayName F (length w2.nodes) scope false) n1 (new_named w1.nodes scope r false s2 refl) in
      record {
        lawful = part_node scope k w2 t le (first, second) h2;
        named = subst (MayName F (length (with_address_nodes scope begin many q w).nodes) scope false) n2
            (new_named w2.nodes scope t false s refl);
      }

  -- a well-formed step keeps the invariant
  pub step_lawful : (vars scope cells blocks : ℕ) (k : Known) (w : Noted) (i : Step3) → scope ≤ 128 → cells ≤ 1024 →
      StepFits cells blocks i → All (λ p. p < 32) (pairs_of i) → ReadsKnown vars k i →
      Starts (step_noted vars scope w i).nodes F → IsLawful scope k w →
      IsLawful scope (known_after i k) (step_noted vars scope w i)
  step_lawful vars scope cells blocks k w (Put p v) le few fits ps reads s h =
      one_node scope k w p (shape.Word v) le (ps 0 0 (omega arith)) s refl fits h
  step_lawful vars scope cells blocks k w (Copy p q) le few fits ps reads s h =
      let zeroed = with_node scope (shape.Word 0) w in
      let g = part_node scope k w (shape.Word 0) le (let z : IsWord 0 = omega arith in z) h in
      one_node scope k zeroed p (shape.Op Add (pair_node w q) (length w.nodes)) le (ps 0 0 (omega arith)) s refl
      (g.named.pair q reads, new_named w.nodes scope (shape.Word 0) false (starts_less zeroed.nodes F _ s) refl) g
  step_lawful vars scope cells blocks k w (Op o p q r) le few fits ps reads s h =
      one_node scope k w p (shape.Op o (pair_node w q) (pair_node w r)) le (ps 0 0 (omega arith)) s refl
      (h.named.pair q reads.0, h.named.pair r reads.1) h
  step_lawful vars scope cells blocks k w (Load p c) le few fits ps reads s h =
      let a = shape.Word (cell_address c) in
      let at = with_node scope a w in
      let g = part_node scope k w a le (address_is_word cells c few fits) h in
      one_node scope k at p (shape.Sel w.memory (length w.nodes)) le (ps 0 0 (omega arith)) s refl
      (g.named.memory_node, new_named w.nodes scope a false (starts_less at.nodes F _ s) refl) g
  step_lawful vars scope cells blocks k w (Store c q spare) le few fits ps reads s h =
      let a = shape.Word (cell_address c) in
      let at = with_node scope a w in
      let g = part_node scope k w a le (address_is_word cells c few fits) h in
      memory_node scope k at spare (shape.Upd w.memory (length w.nodes) (pair_node w q)) le s refl
      (g.named.memory_node, new_named w.nodes scope a false (starts_less at.nodes F _ s) refl, g.named.pair q reads.0) g
  step_lawful vars scope cells blocks k w (LoadAt p q begin many) le few fits ps reads s h =
      let at = with_address_nodes scope begin many q w in
      let x = shape.Sel w.memory (length w.nodes + 2) in
      let word = address_is_word cells begin few (omega (arith, fits.0, fits.2)) in
      let g = address_lawful scope k w begin many q le word (
        fits.0,
        fits.1,
      ) reads (starts_less at.nodes F (node scope x) s) h in
      one_node scope k at p x le (ps 0 0 (omega arith)) s refl (g.lawful.named.memory_node, g.named) g.lawful
  step_lawful vars scope cells blocks k w (StoreAt begin many e q spare) le few fits ps reads s h =
      let at = with_address_nodes scope begin many e w in
      let x = shape.Upd w.memory (length w.nodes + 2) (pair_node w q) in
      let word = address_is_word cells begin few (omega (arith, fits.0, fits.2)) in
      let g = address_lawful scope k w begin many e le word (
        fits.0,
        fits.1,
      ) reads.0 (starts_less at.nodes F (node scope x) s) h in
      memory_node scope k at spare x le s refl (g.lawful.named.memory_node, g.named, g.lawful.named.pair q reads.1)
      g.lawful
  step_lawful vars scope cells blocks k w (Exit q spare to) le few fits ps reads s h = record {
    named = named_spare scope k (length w.nodes) (length w.nodes) w.pairs w.memory spare w.memory (omega arith) h.named
        h.named.memory_node;
    fine = h.fine;
  }
  step_lawful vars scope cells blocks k w (Go spare to) le few fits ps reads s h = record {
    named = named_spare scope k (length w.nodes) (length w.nodes) w.pairs w.memory spare w.memory (omega arith) h.named
        h.named.memory_node;
    fine = h.fine;
  }
  step_lawful vars scope cells blocks k w Stop le few fits ps reads s h = h
