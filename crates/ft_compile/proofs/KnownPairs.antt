-- The registers of known pairs have the forms of the pairs' nodes, even after a pair is set.
use Rattle.std.proofs.Common.{◌≡◌, ◌≢◌, ℕ, ◌+◌, ◌<◌, true, List, [], length, inl, inr, Some, sym, ap, ◌∙◌, subst, arith}
use Rattle.std.specs.Prelude.{slice_index, slice_set}
use Rattle.std.proofs.lemmas.Bool.{cases_eq}
use Rattle.std.proofs.lemmas.List.{get_or-set_same, get_or-set_other, length-set}
use Rattle.ft_isa.specs.declared.colour.Colour.TheVariants.{Green, Blue}
use Rattle.ft_isa.specs.declared.basic.Basic.{Basic}
use Rattle.ft_static.specs.Form.{Polynomial}
use Rattle.ft_types.specs.declared.object.Object.{Object}
use Rattle.ft_typing.specs.Context.{d_zero, Context, typed, with_type, integer_form_of, memory_form_of}
use Rattle.ft_isa.specs.BasicTypes.{int}
use Rattle.ft_lower.specs.Well.{Known, learn, forget}
use Rattle.ft_dup.specs.Images.{green, blue}
use Rattle.ft_dup.proofs.Pairs.{blue_number, learned, forgotten, greens_differ, blues_differ}
use Rattle.ft_compile.proofs.Forms.{green_number}
use Rattle.ft_compile.proofs.PremiseRows.{ty, typed_same, typed_other}

-- PAIRS

-- sets the types of both registers of a pair
abbrev pub both : ℕ → Basic → Polynomial → Context → Context
both p b x c = with_type (blue p).number (ty Blue b x) (with_type (green p).number (ty Green b x) c)

-- a green register is not a blue one
pub green_is_not_blue : (p q : ℕ) → p < 32 → q < 32 → (green q).number ≢ (blue p).number
green_is_not_blue p q lp lq e = let f = sym (green_number q (omega arith)) ∙ e ∙ blue_number p lp in
    (let g : q ≡ 32 + p = f in omega arith)

-- a blue register is not a green one
pub blue_is_not_green : (p q : ℕ) → p < 32 → q < 32 → (blue q).number ≢ (green p).number
blue_is_not_green p q lp lq e = green_is_not_blue q p lq lp (sym e)

-- after a pair is set, its green register has the new type
pub both_green : (p : ℕ) (b : Basic) (x : Polynomial) (c : Context) → p < 32 → typed (both p b x c) (green p).number
    ≡ Some (ty Green b x)
both_green p b x c lt = typed_other (with_type (green p).number (ty Green b x) c) (blue p).number (ty Blue b x)
    (green p).number (green_is_not_blue p p lt lt) ∙ typed_same c (green p).number (ty Green b x)

-- after a pair is set, its blue register has the new type
pub both_blue : (p : ℕ) (b : Basic) (x : Polynomial) (c : Context) → typed (both p b x c) (blue p).number
    ≡ Some (ty Blue b x)
both_blue p b x c = typed_same (with_type (green p).number (ty Green b x) c) (blue p).number (ty Blue b x)

-- after a pair is set, the green register of another pair has its old type
pub other_green : (p q : ℕ) (b : Basic) (x : Polynomial) (c : Context) → p < 32 → q < 32 → q ≢ p →
    typed (both p b x c) (green q).number ≡ typed c (green q).number
other_green p q b x c lp lq ne = typed_other (with_type (green p).number (ty Green b x) c) (blue p).number (ty Blue b x)
    (green q).number (green_is_not_blue p q lp lq)
    ∙ typed_other c (green p).number (ty Green b x) (green q).number (greens_differ p q lp lq ne)

-- after a pair is set, the blue register of another pair has its old type
pub other_blue : (p q : ℕ) (b : Basic) (x : Polynomial) (c : Context) → p < 32 → q < 32 → q ≢ p →
    typed (both p b x c) (blue q).number ≡ typed c (blue q).number
other_blue p q b x c lp lq ne = typed_other (with_type (green p).number (ty Green b x) c) (blue p).number (ty Blue b x)
    (blue q).number (blues_differ p q lp lq ne) ∙ typed_other c (green p).number (ty Green b x) (blue q).number
    (blue_is_not_green p q lp lq)

-- WHAT A CONTEXT KNOWS

-- both registers of each known pair have the form of the pair's node, the memory has that of its own node, d is 0, and
-- the queue is empty
pub record IsGood (o : Object) (scope : ℕ) (k : Known) (pairs : List ℕ) (memory : ℕ) (c : Context) : Type 0 where
  pub green_pair : (q : ℕ) → k q ≡ true → typed c (green q).number
      ≡ Some (ty Green int (integer_form_of o (slice_index pairs q)))
  pub blue_pair : (q : ℕ) → k q ≡ true → typed c (blue q).number
      ≡ Some (ty Blue int (integer_form_of o (slice_index pairs q)))
  pub small : (q : ℕ) → k q ≡ true → q < 32
  pub many : length pairs ≡ 32
  pub zero : c.d ≡ d_zero
  pub queue : c.queue ≡ []
  pub memory_is : c.memory ≡ memory_form_of o memory
  pub ints : c.ints ≡ scope

-- what holds of the known pairs other than p
abbrev pub Others : Object → Known → List ℕ → ℕ → Context → Type 0
Others o k pairs p c = (q : ℕ) → q ≢ p → k q ≡ true →
    (typed c (green q).number ≡ Some (ty Green int (integer_form_of o (slice_index pairs q))))
    × (typed c (blue q).number ≡ Some (ty Blue int (integer_form_of o (slice_index pairs q)))) × (q < 32)

-- a context that fits all known pairs fits those other than p
pub others_of : (o : Object) (scope : ℕ) (k : Known) (pairs : List ℕ) (memory p : ℕ) (c : Context) →
    IsGood o scope k pairs memory c → Others o k pairs p c
others_of o scope k pairs memory p c G q ne h = (G.green_pair q h, G.blue_pair q h, G.small q h)

-- the context fits what is known once pair p has the form of its new node and becomes known
pub good_learn : (o : Object) (scope : ℕ) (k : Known) (pairs : List ℕ) (memory : ℕ) (c : Context) (p new : ℕ)
    (x : Polynomial) → p < 32 → length pairs ≡ 32 → integer_form_of o new ≡ x → Others o k pairs p c → c.d ≡ d_zero →
    c.queue ≡ [] → c.memory ≡ memory_form_of o memory → c.ints ≡ scope →
    IsGood o scope (learn p k) (slice_set pairs p new) memory (both p int x c)
good_learn o scope k pairs memory c p new x lt many f old z qu mem ints = record {
  green_pair = λ q h. elim (cases_eq q p) [
    | inl e ↦ subst (λ r. typed (both p int x c) (green r).number
        ≡ Some (ty Green int (integer_form_of o (slice_index (slice_set pairs p new) r)))) (sym e)
        (both_green p int x c lt ∙ ap (λ y. Some (ty Green int y)) here)
    | inr ne ↦ let r = old q ne (learned k p q ne h) in other_green p q int x c lt r.2 ne ∙ r.0
        ∙ ap (λ n. Some (ty Green int (integer_form_of o n))) (there q ne)
  ];
  blue_pair = λ q h. elim (cases_eq q p) [
    | inl e ↦ subst (λ r. typed (both p int x c) (blue r).number
        ≡ Some (ty Blue int (integer_form_of o (slice_index (slice_set pairs p new) r)))) (sym e) (both_blue p int x c
        ∙ ap (λ y. Some (ty Blue int y)) here)
    | inr ne ↦ let r = old q ne (learned k p q ne h) in other_blue p q int x c lt r.2 ne ∙ r.1
        ∙ ap (λ n. Some (ty Blue int (integer_form_of o n))) (there q ne)
  ];
  small = λ q h. elim (cases_eq q p) [
    | inl e ↦ subst (λ r. r < 32) (sym e) lt
    | inr ne ↦ (old q ne (learned k p q ne h)).2
  ];
  many = length-set pairs p new ∙ many;
  zero = z;
  queue = qu;
  memory_is = mem;
  ints = ints;
}
  where
    here : x ≡ integer_form_of o (slice_index (slice_set pairs p new) p)
    here = sym f ∙ ap (integer_form_of o) (sym (get_or-set_same pairs p new 0 (omega (arith, many))))

    there : (q : ℕ) → q ≢ p → slice_index pairs q ≡ slice_index (slice_set pairs p new) q
    there q ne = sym (get_or-set_other pairs p q new 0 ne)

-- the context still fits once pair p is set and is no longer known
pub good_forget : (o : Object) (scope : ℕ) (k : Known) (pairs : List ℕ) (memory : ℕ) (c : Context) (p : ℕ) (b : Basic)
    (x : Polynomial) → p < 32 → IsGood o scope k pairs memory c →
    IsGood o scope (forget p k) pairs memory (both p b x c)
good_forget o scope k pairs memory c p b x lt G = record {
  green_pair = λ q h. let u = forgotten k p q h in other_green p q b x c lt (G.small q u.1) u.0 ∙ G.green_pair q u.1;
  blue_pair = λ q h. let u = forgotten k p q h in other_blue p q b x c lt (G.small q u.1) u.0 ∙ G.blue_pair q u.1;
  small = λ q h. G.small q (forgotten k p q h).1;
  many = G.many;
  zero = G.zero;
  queue = G.queue;
  memory_is = G.memory_is;
  ints = G.ints;
}
