-- A module's moves, substitutions and instructions in the linked object.
use Rattle.std.proofs.Common.{◌≡◌, ℕ, zero, suc, ◌+◌, Bool, true, false, List, [], ◌∷◌, map, slice_get, Option, Some}
use Rattle.std.proofs.Common.{None, refl, sym, ap, ◌∙◌, subst}
use Rattle.std.specs.List.{AllZip}
use Rattle.std.specs.Option.{unwrap_or}
use Rattle.ft_isa.specs.declared.basic.Base.{Base}
use Rattle.ft_isa.specs.declared.basic.Base.TheVariants.{Int, Code}
use Rattle.ft_isa.specs.declared.basic.Basic.{Basic}
use Rattle.ft_isa.specs.declared.colour.Coloured.{Coloured}
use Rattle.ft_isa.specs.declared.reg.Reg.{Reg}
use Rattle.ft_isa.specs.declared.instr.Subst.{Subst}
use Rattle.ft_isa.specs.declared.instr.Instr.{Instr}
use Rattle.ft_isa.specs.declared.instr.Instr.TheVariants.{Mov, JmpB, BzB}
use Rattle.ft_static.specs.declared.node.Node.{Node}
use Rattle.ft_types.specs.declared.object.Object.{Object}
use Rattle.ft_typing.specs.Accepted.{Applies, last_row, next_row}
use Rattle.ft_typing.specs.Context.{Context}
use Rattle.ft_typing.specs.Premise.{Premise}
use Rattle.ft_types.specs.Spellable.{subst_of, before, substs_of, IsSubst, Cover}
use Rattle.ft_isa.specs.BasicTypes.{code}
use Rattle.ft_typing.specs.TypedWord.{code_type_at, HasType, has_type}
use Rattle.ft_typing.specs.RowWords.{Outcome, Goes, Ends, Fails, need}
use Rattle.ft_typing.proofs.TypedWords.{has_type_decides}
use Rattle.ft_modules.specs.CodeWalk.{code_over}
use Rattle.ft_modules.specs.declared.before.Before.{Before}
use Rattle.ft_modules.specs.Linked.{raised_subst, moves_to, Change, change_at, changed_by}
use Rattle.ft_modules.proofs.LinkedContexts.{SameSubst, IsMovOf, IsInstrOf}
use Rattle.ft_modules.proofs.ModuleParts.{linked_instr}

-- MOVES AND SUBSTITUTIONS OF A MODULE

-- if a rule does not fail, the test of its premise passes
need_passes : (p : Premise) (b : Bool) (x y : Outcome) → need p b x ≡ y → ((n : Premise) → y ≡ Fails n → ⊥) → b ≡ true
unfolding need
need_passes p true x y e f = refl
need_passes p false x y e f = absurd (f p (sym e))

-- if the first instruction is a `mov`, its word has the type that it claims
first_passes : (o : Object) (c : Context) (rd : Reg) (v : Coloured) (b : Basic) (is : List Instr) →
    Applies o c (Mov rd b v ∷ is) → has_type o v.word b ≡ true
first_passes o c rd v b _ (last_row f) = need_passes _ _ _ Ends f (λ n z. cc)
first_passes o c rd v b is (next_row d f a) = need_passes _ _ _ (Goes d) f (λ n z. cc)

-- the word of each `mov` has the type that the `mov` claims
moves_typed : (o : Object) (c : Context) (is : List Instr) (n : ℕ) (rd : Reg) (v : Coloured) (b : Basic) →
    Applies o c is → slice_get is n ≡ Some (Mov rd b v) → HasType o v.word b
moves_typed o c [] n rd v b a e = cc
moves_typed o c (i ∷ is) zero rd v b a e = let same : i ≡ Mov rd b v = cc in
    (has_type_decides o v.word b).0 (first_passes o c rd v b is (subst (λ (z : Instr). Applies o c (z ∷ is)) same a))
moves_typed o c (i ∷ is) (suc n) rd v b (last_row f) e = cc
moves_typed o c (i ∷ is) (suc n) rd v b (next_row d f a) e = moves_typed o d is n rd v b a e

-- likewise for an instruction that is a `mov`
pub typed_moves : (o : Object) (c : Context) (is : List Instr) (n : ℕ) (i : Instr) → Applies o c is → slice_get is n
    ≡ Some i → (rd : Reg) (v : Coloured) (b : Basic) → i ≡ Mov rd b v → HasType o v.word b
typed_moves o c is n i a e rd v b f = moves_typed o c is n rd v b a (e ∙ ap Some f)

-- the substitution of a later instruction obeys the rules, whether or not the first instruction carries one
covered_by : (nodes : List Node) (rows first n : ℕ) (i j : Instr) (is : List Instr) (u : Subst) →
    ((f : ℕ) → Cover nodes rows f (substs_of is) → slice_get is n ≡ Some i → IsSubst nodes rows u.first u) →
    (s : Option Subst) → Cover nodes rows first (before s (substs_of is)) → slice_get is n ≡ Some i →
    IsSubst nodes rows u.first u
covered_by nodes rows first n i j is u h None c e = h first c e
covered_by nodes rows first n i j is u h (Some s) c e = h s.past c.1 e

-- the substitution of the first instruction obeys the rules
covered_first : (nodes : List Node) (rows first : ℕ) (i : Instr) (is : List Instr) (u : Subst) → subst_of i ≡ Some u →
    Cover nodes rows first (before (subst_of i) (substs_of is)) → IsSubst nodes rows u.first u
covered_first nodes rows first i is u e c =
    let d : Cover nodes rows first (u ∷ substs_of is) =
    subst (λ (s : Option Subst). Cover nodes rows first (before s (substs_of is))) e c in
    subst (λ n. IsSubst nodes rows n u) (sym d.0.first_is) d.0

-- the substitution of each instruction obeys the rules
pub covered_subst : (nodes : List Node) (rows first n : ℕ) (is : List Instr) (i : Instr) (u : Subst) → subst_of i
    ≡ Some u →
    Cover nodes rows first (substs_of is) → slice_get is n ≡ Some i → IsSubst nodes rows u.first u
covered_subst nodes rows first n [] i u s c e = cc
covered_subst nodes rows first zero (j ∷ is) i u s c e = let same : j ≡ i = cc in
    covered_first nodes rows first i is u s (subst (λ (z : Instr).
    Cover nodes rows first (before (subst_of z) (substs_of is))) same c)
covered_subst nodes rows first (suc n) (j ∷ is) i u s c e = covered_by nodes rows first n i j is u (λ f d g.
    covered_subst nodes rows f n is i u s d g) (subst_of j) c e

-- INSTRUCTIONS

-- where a module's code address is sent, given the change of the raised address
abbrev pub sent_by_change : Before → Object → ℕ → Option Change → ℕ × ℕ
sent_by_change k o w None = (k.instrs + w, k.types + unwrap_or (code_type_at o w) 0)
sent_by_change k o w (Some c) = (c.to, c.code_type)

-- where a module's code address is sent, given all changes
abbrev pub sent_to : List Change → Before → Object → ℕ → ℕ × ℕ
sent_to cs k o w = sent_by_change k o w (change_at cs (k.instrs + w))

-- a `mov` of a code address, raised and changed, moves the address to which that code address is sent
changed_is : (k : Before) (o : Object) (rd : Reg) (v : Coloured) (t : ℕ) (c : Option Change) → code_type_at o v.word
    ≡ Some t → changed_by rd (record { colour = v.colour; word = k.instrs + v.word }) (code (k.types + t)) c
    ≡ moves_to rd v (sent_by_change k o v.word c).0 (sent_by_change k o v.word c).1
changed_is k o rd v t None e = ap (λ n. moves_to rd v (k.instrs + v.word) (k.types + n))
    (ap (λ (u : Option ℕ). unwrap_or u 0) (sym e))
changed_is k o rd v t (Some c) e = refl

-- a `mov`, raised and changed, is the linked object's version of it
mov_is : (cs : List Change) (k : Before) (o : Object) (rd : Reg) (v : Coloured) (n : ℕ) (base : Base) →
    HasType o v.word (record { refs = n; base = base }) →
    IsMovOf (sent_to cs k o) rd v (record { refs = n; base = base })
    (linked_instr cs k (Mov rd (record { refs = n; base = base }) v)) (code_over n base)
mov_is cs k o rd v zero Int h = refl
mov_is cs k o rd v zero (Code t) h = changed_is k o rd v t (change_at cs (k.instrs + v.word)) h
mov_is cs k o rd v (suc n) base h = refl

-- a module's instruction, raised and changed, is the linked object's version of it
pub instr_is : (o x : Object) (cs : List Change) (k : Before) (i : Instr) →
    ((rd : Reg) (v : Coloured) (b : Basic) → i ≡ Mov rd b v → HasType o v.word b) →
    ((u : Subst) → subst_of i ≡ Some u → SameSubst o x u (raised_subst k u)) →
    IsInstrOf o x (sent_to cs k o) i (linked_instr cs k i)
instr_is o x cs k (Mov rd b v) h s = mov_is cs k o rd v b.refs b.base (h rd v b refl)
instr_is o x cs k (JmpB rd u) h s = (raised_subst k u, refl, s u refl)
instr_is o x cs k (BzB rz rd u) h s = (raised_subst k u, refl, s u refl)
instr_is o x cs k i h s = refl

pub instrs_are : (o x : Object) (cs : List Change) (k : Before) (is : List Instr) →
    ((n : ℕ) (i : Instr) → slice_get is n ≡ Some i → IsInstrOf o x (sent_to cs k o) i (linked_instr cs k i)) →
    AllZip (IsInstrOf o x (sent_to cs k o)) is (map (linked_instr cs k) is)
instrs_are o x cs k [] h = tt
instrs_are o x cs k (i ∷ is) h = (h 0 i refl, instrs_are o x cs k is (λ n j e. h (suc n) j e))
