-- The stack of block counts.
use Rattle.std.proofs.Common.{◌≡◌, ◌≢◌, ℕ, List, [], ◌∷◌, ◌++◌, length, sym, ap, ◌∙◌, arith, append_assoc}
use Rattle.std.proofs.Common.{length-append}
use Rattle.std.proofs.lemmas.List.{same_from_push}
use Rattle.ft_syntax.specs.Plain.{Expression, StatementList, none, loop, choose}
use Rattle.ft_scope.specs.declared.slot.Slot.{Slot}
use Rattle.ft_lower.specs.Lowered.{block_count, body_counts}

-- a stack onto which a number was pushed is not empty
pub not_empty : (s xs : List ℕ) (k : ℕ) → s ≡ xs ++ k ∷ [] → s ≢ []
not_empty s xs k h e = let l = ap length (sym h ∙ e) in absurd (omega (arith, l, length-append xs (k ∷ [])))

-- the count on top is that of a loop's body, and below it are those of the bodies in that body
pub loop_stack : (below s0 s1 : List ℕ) (r : ℕ) (e : Expression Slot) (body : StatementList Slot) → s0 ≡ below
    ++ body_counts (loop e body none) → s0 ≡ s1 ++ r ∷ [] → (s1 ≡ below ++ body_counts body) × (r ≡ block_count body)
loop_stack below s0 s1 r e body h g =
    same_from_push s1 (below ++ body_counts body) r (block_count body) (sym g ∙ h
    ∙ sym (append_assoc below (body_counts body) (block_count body ∷ [])))

-- the counts that are popped for a loop, one after another, are the loop's counts
pub loop_taken : (s0 s1 s2 : List ℕ) (r : ℕ) (e : Expression Slot) (body : StatementList Slot) → r ≡ block_count body →
    s0 ≡ s1 ++ r ∷ [] → s1 ≡ s2 ++ body_counts body → s0 ≡ s2 ++ body_counts (loop e body none)
loop_taken s0 s1 s2 r e body k g f =
    g ∙ ap (λ z. z ++ r ∷ []) f ∙ ap (λ n. (s2 ++ body_counts body) ++ n ∷ []) k
    ∙ append_assoc s2 (body_counts body) (block_count body ∷ [])

-- on top is the count of the first side, then that of the second, and below them are those of the bodies in both
pub choice_stack : (below s0 s1 : List ℕ) (p : ℕ) (e : Expression Slot) (x y : StatementList Slot) → s0 ≡ below
    ++ body_counts (choose e x y none) → s0 ≡ s1 ++ p ∷ [] →
    (s1 ≡ ((below ++ body_counts y) ++ body_counts x) ++ block_count y ∷ []) × (p ≡ block_count x)
choice_stack below s0 s1 p e x y h g =
    let cx = body_counts x in
    let cy = body_counts y in
    let flat : below ++ (cy ++ (cx ++ block_count y ∷ block_count x ∷ []))
    ≡ (((below ++ cy) ++ cx) ++ block_count y ∷ []) ++ block_count x ∷ [] = simp append_assoc in
    same_from_push s1 (((below ++ cy) ++ cx) ++ block_count y ∷ []) p (block_count x) (sym g ∙ h ∙ flat)

-- the counts that are pushed for a choice, one after another, are the choice's counts
pub choice_put : (s0 s1 s2 s3 s4 : List ℕ) (p q : ℕ) (e : Expression Slot) (x y : StatementList Slot) → s1 ≡ s0
    ++ body_counts y → s2 ≡ s1 ++ body_counts x → s3 ≡ s2 ++ q ∷ [] → s4 ≡ s3 ++ p ∷ [] → p ≡ block_count x → q
    ≡ block_count y → s4 ≡ s0 ++ body_counts (choose e x y none)
choice_put s0 s1 s2 s3 s4 p q e x y e1 e2 e3 e4 k l =
    let cx = body_counts x in
    let cy = body_counts y in
    let all : s4 ≡ (((s0 ++ cy) ++ cx) ++ q ∷ []) ++ p ∷ [] = cc in
    let flat : (((s0 ++ cy) ++ cx) ++ q ∷ []) ++ p ∷ [] ≡ s0 ++ (cy ++ (cx ++ q ∷ p ∷ [])) = simp append_assoc in
    all ∙ flat ∙ ap (λ z. s0 ++ (cy ++ (cx ++ z ∷ p ∷ []))) l ∙ ap (λ z. s0 ++ (cy ++ (cx ++ block_count y ∷ z ∷ []))) k

-- the counts that are popped for a choice, one after another, are the choice's counts
pub choice_taken : (s0 s1 s2 s3 s4 : List ℕ) (p q : ℕ) (e : Expression Slot) (x y : StatementList Slot) → p
    ≡ block_count x → q ≡ block_count y → s0 ≡ s1 ++ p ∷ [] → s1 ≡ s2 ++ q ∷ [] → s2 ≡ s3 ++ body_counts x → s3 ≡ s4
    ++ body_counts y → s0 ≡ s4 ++ body_counts (choose e x y none)
choice_taken s0 s1 s2 s3 s4 p q e x y k l e1 e2 e3 e4 = choice_put s4 s3 s2 s1 s0 p q e x y e4 e3 e2 e1 k l
