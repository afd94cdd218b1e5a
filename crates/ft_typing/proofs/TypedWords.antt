-- The tests of basic types and of typed words decide what their names say.
use Rattle.std.proofs.Common.{◌≡◌, inl, inr, ⊎_elim, ℕ, zero, suc, true, Option, Some, None, refl, ap, eqb-true, eq-eqb}
use Rattle.std.specs.Prelude.{Decides}
use Rattle.std.proofs.lemmas.Bool.{and_parts, and_from, or_cases, or_left, or_right}
use Rattle.ft_isa.specs.declared.basic.Base.{Base}
use Rattle.ft_isa.specs.declared.basic.Base.TheVariants.{Int, Code}
use Rattle.ft_isa.specs.declared.basic.Basic.{Basic}
use Rattle.ft_types.specs.declared.object.Object.{Object}
use Rattle.ft_isa.specs.BasicTypes.{int}
use Rattle.ft_isa.specs.declared.colour.Colour.{Colour}
use Rattle.ft_isa.specs.declared.colour.Colour.TheVariants.{Green, Blue}
use Rattle.ft_typing.specs.TypedWord.{cell_type, code_type_at, HasTypeOver, HasType, IsSeenAs, same_base, same_basic}
use Rattle.ft_typing.specs.TypedWord.{is_seen_as, is_code_type, is_cell_type, has_type_over, has_type}
use Rattle.ft_typing.specs.RowWords.{same_colour}

-- two bases are equal if the test says so
same_base_is : (a b : Base) → same_base a b ≡ true → a ≡ b
same_base_is Int Int e = refl
same_base_is Int (Code t) e = cc
same_base_is (Code t) Int e = cc
same_base_is (Code t) (Code u) e = ap Code (eqb-true t u e)

-- the test finds a base equal to itself
same_base_itself : (a : Base) → same_base a a ≡ true
same_base_itself Int = refl
same_base_itself (Code t) = eq-eqb t t refl

-- two basic types are equal if the test says so
pub same_basic_is : (a b : Basic) → same_basic a b ≡ true → a ≡ b
unfolding same_basic
same_basic_is a b e =
    let p = and_parts _ _ e in
    let r = eqb-true a.refs b.refs p.0 in
    let s = same_base_is a.base b.base p.1 in
    λ i. record { refs = r i; base = s i }

-- if two basic types are equal, the test says so
pub is_same_basic : (a b : Basic) → a ≡ b → same_basic a b ≡ true
unfolding same_basic
is_same_basic a b e = rw e (and_from _ _ (eq-eqb b.refs b.refs refl) (same_base_itself b.base))

-- `is_seen_as` decides whether a basic type is accepted as another
pub is_seen_as_decides : (a b : Basic) → Decides (is_seen_as a b) (IsSeenAs a b)
unfolding is_seen_as
is_seen_as_decides a b = (
  λ e. ⊎_elim (λ s. inl (same_basic_is a b s)) (λ s.
      inr (same_basic_is b int s)) (or_cases (same_basic a b) (same_basic b int) e),
  λ h. ⊎_elim (λ s. or_left (same_basic a b) (same_basic b int) (is_same_basic a b s)) (λ s.
      or_right (same_basic a b) (same_basic b int) (is_same_basic b int s)) h,
)

-- the tests of a look-up's result decide whether it found the expected type
is_code_type_is : (u : Option ℕ) (t : ℕ) → Decides (is_code_type u t) (u ≡ Some t)
is_code_type_is None t = (λ e. cc, λ e. cc)
is_code_type_is (Some u) t = (λ e. ap Some (eqb-true u t e), λ e. let same : u ≡ t = cc in eq-eqb u t same)

is_cell_type_is : (a : Option Basic) (b : Basic) → Decides (is_cell_type a b) (a ≡ Some b)
is_cell_type_is None b = (λ e. cc, λ e. cc)
is_cell_type_is (Some a) b = (λ e. ap Some (same_basic_is a b e), λ e. let same : a ≡ b = cc in is_same_basic a b same)

-- the test of a word against n refs over a base decides whether the word has that type
has_type_over_decides : (o : Object) (w n : ℕ) (b : Base) → Decides (has_type_over o w n b) (HasTypeOver o w n b)
has_type_over_decides o w zero Int = (λ e. tt, λ h. refl)
has_type_over_decides o w zero (Code t) = is_code_type_is (code_type_at o w) t
has_type_over_decides o w (suc k) b = is_cell_type_is (cell_type o w) (record { refs = k; base = b })

-- the test of a word against a basic type decides whether the word has that type
pub has_type_decides : (o : Object) (w : ℕ) (b : Basic) → Decides (has_type o w b) (HasType o w b)
unfolding has_type
has_type_decides o w b = has_type_over_decides o w b.refs b.base

-- the test finds a colour equal to itself
pub same_colours : (k : Colour) → same_colour k k ≡ true
unfolding same_colour
same_colours Green = refl
same_colours Blue = refl
