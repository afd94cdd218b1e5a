-- Steps with no fault are a well-formed flow with their spares.
use Rattle.std.proofs.Common.{◌≡◌, ℕ, zero, suc, ◌+◌, ◌<◌, ◌≤◌, Bool, true, false, not, List, [], ◌∷◌, ◌++◌}
use Rattle.std.proofs.Common.{length, Option, Some, None, refl, sym, ap, ◌∙◌, subst, arith, rules}
use Rattle.std.specs.Prelude.{if◌then◌else◌}
use Rattle.std.specs.List.{All}
use Rattle.std.proofs.lemmas.List.Elements.{All-nil, All-cons, All-push}
use Rattle.ft_lower.specs.declared.step3.Step3.{Step3}
use Rattle.ft_lower.specs.Flow.{Blocks, block_of}
use Rattle.ft_lower.specs.Size.{size, row_size, blocks_size, pairs_of, PairsBelow}
use Rattle.ft_lower.specs.Well.{is_last, IsBlock, StepFits, ReadsKnown, Known, no_pair, pairs_below, known_after}
use Rattle.ft_lower.specs.Well.{RowIsWell, known_first, row_known, IsWell}
use Rattle.ft_lower.specs.Cutting.{blocks_onto}
use Rattle.ft_lower.proofs.Sizes.{row_size-append}
use Rattle.ft_flow.specs.declared.fault.Frame.{Frame}
use Rattle.ft_flow.specs.declared.fault.Fault.{Fault}
use Rattle.ft_flow.specs.declared.fault.Rule.{Rule}
use Rattle.ft_flow.specs.Spares.{sets, with_spare, Set, spare_of}
use Rattle.ft_flow.specs.Faults.{step_broken, HaveWords, with_set, none_set, pairs_set, next_set, at_step, fault_from}
use Rattle.ft_flow.specs.Faults.{fault_of, spared_from, spared, ends}
use Rattle.ft_flow.proofs.SetPairs.{Agrees, none_agrees, variables_agree}
use Rattle.ft_flow.proofs.FineSteps.{fine_of, good_of, IsGood, last_same, size_same}

-- no fault at a step and after it
no_fault : (at : ℕ) (o : Option Rule) (next : Option Fault) → at_step at o next ≡ None → (o ≡ None) × (next ≡ None)
no_fault at None next e = (refl, e)
no_fault at (Some r) next e = absurd (search (rules, e))

-- an unended block is a fault at the end
ended_last : (b : Bool) (x : Fault) → (if b then Some x else None) ≡ None → b ≡ false
ended_last true x e = absurd (search (rules, e))
ended_last false x e = refl

-- `true` is not `false`
not_false : {A : Type 0} → true ≡ false → A
not_false e = absurd (search (rules, e))

-- what all steps of a block name
abbrev Below : Step3 → Type 0
Below i = All (λ p. p < 32) (pairs_of i)

module _ (f : Frame) (few : f.vars ≤ 32) where
  -- a step is well formed, given what is known
  abbrev StepIsWell : Known → Step3 → Type 0
  StepIsWell k i = StepFits f.cells f.blocks i × ReadsKnown f.vars k i

  -- none of these steps ends a block
  abbrev IsOpen : List Step3 → Type 0
  IsOpen [] = Unit {0}
  IsOpen (i ∷ is) = (is_last i ≡ false) × IsOpen is

  -- an open block stays open when a step that ends no block is appended
  open-append : (o : List Step3) (i : Step3) → IsOpen o → is_last i ≡ false → IsOpen (o ++ i ∷ [])
  open-append [] i h e = (e, tt)
  open-append (x ∷ o) i h e = (h.0, open-append o i h.1 e)

  -- what must follow a step, given whether it ends a block
  abbrev EndIs : Bool → List Step3 → Type 0
  EndIs b is = elim b as (λ b. Type 0) [ true ↦ is ≡ [] | false ↦ IsBlock is ]

  -- a step that ends a block closes an open one
  closed : (o : List Step3) (i : Step3) → IsOpen o → is_last i ≡ true → IsBlock (o ++ i ∷ [])
  closed [] i h e = subst (λ b. EndIs b []) (sym e) refl
  closed (x ∷ o) i h e = subst (λ b. EndIs b (o ++ i ∷ [])) (sym h.0) (closed o i h.1 e)

  -- a row stays well formed when a well-formed step is appended
  row-append : (k : Known) (o : List Step3) (i : Step3) → RowIsWell f.vars f.cells f.blocks k o →
      StepIsWell (row_known k o) i → RowIsWell f.vars f.cells f.blocks k (o ++ i ∷ [])
  row-append k [] i h w = (w.0, w.1, tt)
  row-append k (x ∷ o) i h w = (h.0, h.1, row-append (known_after x k) o i h.2 w)

  -- what is known after one more step is what this step leaves known
  row_known-append : (k : Known) (o : List Step3) (i : Step3) → row_known k (o ++ i ∷ [])
      ≡ known_after i (row_known k o)
  row_known-append k [] i = refl
  row_known-append k (x ∷ o) i = row_known-append (known_after x k) o i

  -- a block ends properly, its steps are well formed, and they name existing pairs
  record BlockIsWell (k : Known) (is : List Step3) : Type 0 where
    ended : IsBlock is
    well : RowIsWell f.vars f.cells f.blocks k is
    pairs : All Below is

  -- so do all blocks
  abbrev AllAreWell : Known → Blocks → Type 0
  AllAreWell k [] = Unit {0}
  AllAreWell k (x ∷ bs) = BlockIsWell k x × AllAreWell (pairs_below f.vars) bs

  -- these blocks are well formed, as many as the steps end, and with the steps before become few instructions
  record AreFine (k : Known) (open_size used count : ℕ) (bs : Blocks) : Type 0 where
    all : AllAreWell k bs
    many : length bs ≡ count
    short : used + blocks_size bs ≤ 65536 + open_size

  -- an open block of well-formed steps that are already counted
  record IsStarted (k : Known) (s : Set) (unended : Bool) (o : List Step3) : Type 0 where
    still : IsOpen o
    well : RowIsWell f.vars f.cells f.blocks k o
    pairs : All Below o
    agrees : Agrees s (row_known k o)
    whole : unended ≡ false → o ≡ []

  -- a fresh block is started
  fresh : IsStarted (pairs_below f.vars) (pairs_set f.vars) false []
  fresh = record { still = tt; well = tt; pairs = All-nil Below; agrees = variables_agree f.vars; whole = λ e. refl }

  -- the blocks whether or not the next step ends one
  fine_by : (b : Bool) (i j : Step3) (is rest o : List Step3) (k : Known) (s : Set) (unended : Bool) (used : ℕ) →
      is_last j ≡ b → size j ≡ size i → used + size i ≤ 65536 → IsStarted k s unended o →
      IsGood f.vars f.cells f.blocks (row_known k o) s i j →
      ((o1 : List Step3) (k1 : Known) → IsStarted k1 (if b then pairs_set f.vars else with_set (sets i) s) (not b) o1 →
      AreFine k1 (row_size o1) (used + size i) (ends is) (blocks_onto o1 rest)) →
      AreFine k (row_size o) used ((if b then 1 else 0) + ends is) (elim b as (λ b. Blocks) [
        | true ↦ (o ++ j ∷ []) ∷ blocks_onto [] rest
        | false ↦ blocks_onto (o ++ j ∷ []) rest
      ])
  fine_by true i j is rest o k s unended used e same lt S G next =
      let N = next [] (pairs_below f.vars) fresh in
      record {
        all = (
          record {
            ended = closed o j S.still e;
            well = row-append k o j S.well (G.fits, G.known);
            pairs = All-push Below o j S.pairs G.pairs;
          },
          N.all,
        );
        many = ap suc N.many ∙ omega arith;
        short = omega (arith, N.short, row_size-append o (j ∷ []), same);
      }
  fine_by false i j is rest o k s unended used e same lt S G next =
      let N = next (o ++ j ∷ []) k (record {
        still = open-append o j S.still e;
        well = row-append k o j S.well (G.fits, G.known);
        pairs = All-push Below o j S.pairs G.pairs;
        agrees = subst (λ (x : Known). Agrees (with_set (sets i) s) x) (sym (row_known-append k o j)) G.after;
        whole = λ c. not_false c;
      }) in
      record {
        all = N.all;
        many = N.many ∙ omega arith;
        short = omega (arith, N.short, row_size-append o (j ∷ []), same);
      }

  -- steps with no fault are cut into well-formed blocks
  fine_onto : (is o : List Step3) (k : Known) (s : Set) (unended : Bool) (used at : ℕ) → used ≤ 65536 → HaveWords is →
      fault_from f unended s used at is ≡ None → IsStarted k s unended o →
      AreFine k (row_size o) used (ends is) (blocks_onto o (spared_from f.vars s is))
  fine_onto [] o k s unended used at le words none S =
      let e : o ≡ [] = S.whole (ended_last unended _ none) in
      subst (λ (x : List Step3). AreFine k (row_size x) used 0 (blocks_onto x [])) (sym e)
      (record { all = tt; many = refl; short = omega (arith, le) })
  fine_onto (i ∷ is) o k s unended used at le words none S =
      let N = no_fault at (step_broken f s used i) _ none in
      let F = fine_of f s used i N.0 in
      let j = with_spare (spare_of s) i in
      let same : is_last j ≡ is_last i = last_same (spare_of s) i in
      let G = good_of f s (row_known k o) S.agrees few used i words.0 F in
      subst (λ b. AreFine k (row_size o) used ((if b then 1 else 0) + ends is)
      (blocks_onto o (j ∷ spared_from f.vars (next_set f.vars i s) is))) same
      (fine_by (is_last j) i j is (spared_from f.vars (next_set f.vars i s) is) o k s unended used refl
      (size_same (spare_of s) i) F.few S G
      (λ o1 k1 S1. fine_onto is o1 k1 (next_set f.vars i s) (not (is_last i)) (used + size i) (at + 1) F.few words.1 N.1
      (subst (λ b. IsStarted k1 (if b then pairs_set f.vars else with_set (sets i) s) (not b) o1) same S1)))

  -- a block after the first is well formed
  other_at : (bs : Blocks) (b : ℕ) → AllAreWell (pairs_below f.vars) bs → b < length bs →
      BlockIsWell (pairs_below f.vars) (block_of bs b)
  other_at [] b h lt = absurd (omega arith)
  other_at (x ∷ bs) zero h lt = h.0
  other_at (x ∷ bs) (suc b) h lt = other_at bs b h.1 (omega arith)

  -- each block is well formed
  all_at : (bs : Blocks) (b : ℕ) → AllAreWell no_pair bs → b < length bs →
      BlockIsWell (known_first f.vars b) (block_of bs b)
  all_at [] b h lt = absurd (omega arith)
  all_at (x ∷ bs) zero h lt = h.0
  all_at (x ∷ bs) (suc b) h lt = other_at bs b h.1 (omega arith)

  -- all blocks name existing pairs
  all_below : (k : Known) (bs : Blocks) → AllAreWell k bs → PairsBelow 32 bs
  all_below k [] h = All-nil (All Below)
  all_below k (x ∷ bs) h = All-cons (All Below) x bs h.0.pairs (all_below (pairs_below f.vars) bs h.1)

  -- steps with no fault end a block
  ends_some : (is : List Step3) (s : Set) (unended : Bool) (used at : ℕ) → unended ≡ true →
      fault_from f unended s used at is ≡ None → 0 < ends is
  ends_some [] s unended used at e none = not_false (sym e ∙ ended_last unended _ none)
  ends_some (i ∷ is) s unended used at e none =
      by (is_last i) (λ e. ends_some is (next_set f.vars i s) (not (is_last i)) (used + size i) (at + 1) e
      (no_fault at (step_broken f s used i) _ none).1)
    where
      by : (b : Bool) → (not b ≡ true → 0 < ends is) → 0 < (if b then 1 else 0) + ends is
      by true next = omega arith
      by false next = (let n = next refl in omega (arith, n))

  -- steps with no fault are a well-formed flow with their spares, if the frame counts the blocks that they end
  pub well_of : (is : List Step3) → HaveWords is → fault_of f is ≡ None → f.blocks ≡ ends is →
      IsWell f.vars f.cells (blocks_onto [] (spared f.vars is))
  well_of is words none count =
      let bs = blocks_onto [] (spared f.vars is) in
      let R = fine_onto is [] no_pair none_set true 0 0 (omega arith) words none (record {
        still = tt;
        well = tt;
        pairs = All-nil Below;
        agrees = none_agrees no_pair;
        whole = λ c. not_false c;
      }) in
      let e : f.blocks ≡ length bs = count ∙ sym R.many in
      record {
        some = omega (arith, R.many, ends_some is none_set true 0 0 refl none);
        pairs = all_below no_pair bs R.all;
        ended = λ b lt. (all_at bs b R.all lt).ended;
        rows = λ b lt. subst (λ n. RowIsWell f.vars f.cells n (known_first f.vars b) (block_of bs b)) e
            (all_at bs b R.all lt).well;
        short = omega (arith, R.short);
      }
