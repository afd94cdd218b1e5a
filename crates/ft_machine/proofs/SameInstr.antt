-- The code's test for equal instructions is exact.
use Rattle.std.proofs.Common.{◌≡◌, Bool, true, false, ◌&&◌, Option, Some, None, refl, ap, sym, ◌∙◌, Decides, eqb, arith}
use Rattle.std.specs.Option.{option_eq}
use Rattle.std.proofs.lemmas.Bool.Decides.{nat_tests, Decides-eqb, Decides-like}
use denote.Enum.Bare.{sameb}
use Rattle.ft_isa.specs.contracts.colour.Colour as the_colour
use Rattle.ft_isa.specs.declared.colour.Coloured.{Coloured}
use Rattle.ft_isa.specs.declared.basic.Basic.{Basic}
use Rattle.ft_isa.specs.declared.basic.Base.{Base}
use Rattle.ft_isa.specs.declared.basic.Base.TheVariants.{Int, Code}
use Rattle.ft_isa.specs.contracts.basic.BasePartialEq.TheImpl as base
use Rattle.ft_isa.specs.declared.instr.Subst.{Subst}
use Rattle.ft_isa.specs.declared.reg.Reg.{Reg}
use Rattle.ft_isa.specs.declared.instr.Instr.{Instr}
use Rattle.ft_isa.specs.declared.instr.Instr.TheVariants.{Halt}
use Rattle.ft_isa.specs.contracts.instr.InstrPartialEq.TheImpl as same
use Rattle.ft_isa.specs.Registers.{reg_of}
use Rattle.ft_isa.proofs.Registers.{reg_of-number}
use Rattle.ft_isa.proofs.Decided.{colour_decides, op_decides}

pub same_reg : (a b : Reg) → a.number ≡ b.number → a ≡ b
same_reg a b e = (let h : Some a ≡ Some b = sym (reg_of-number a) ∙ ap reg_of e ∙ reg_of-number b in cc)

reg_decides : (a b : Reg) → Decides (eqb a.number b.number) (a ≡ b)
reg_decides a b = Decides-like _ (same_reg a b) (λ e. ap (λ (r : Reg). r.number) e) (Decides-eqb a.number b.number)

and2 : {A B R : Type 0} (a b : Bool) → Decides a A → Decides b B → (A → B → R) → (R → A) → (R → B) → Decides (a && b) R
and2 true true da db mk pa pb = (λ t. mk (da.0 refl) (db.0 refl), λ r. refl)
and2 true false da db mk pa pb = (λ t. absurd (cc), λ r. db.1 (pb r))
and2 false b da db mk pa pb = (λ t. absurd (cc), λ r. da.1 (pa r))

and3 : {A B C R : Type 0} (a b c : Bool) → Decides a A → Decides b B → Decides c C → (A → B → C → R) → (R → A) →
    (R → B) → (R → C) → Decides (a && (b && c)) R
and3 true b c da db dc mk pa pb pc = and2 b c db dc (mk (da.0 refl)) pb pc
and3 false b c da db dc mk pa pb pc = (λ t. absurd (cc), λ r. da.1 (pa r))

coloured_decides : (a b : Coloured) → Decides (sameb the_colour.the_type a.colour b.colour && eqb a.word b.word) (a ≡ b)
coloured_decides a b = and2 _ _ (colour_decides a.colour b.colour) (Decides-eqb a.word b.word)
    (λ e f. ap (λ x. let y : Coloured = record { colour = x; word = a.word } in y) e
    ∙ ap (λ x. let y : Coloured = record { colour = b.colour; word = x } in y) f)
    (λ r. ap (λ (y : Coloured). y.colour) r) (λ r. ap (λ (y : Coloured). y.word) r)

base_decides : (a b : Base) → Decides (base.eq-value.it a b) (a ≡ b)
base_decides Int Int = (λ t. refl, λ e. refl)
base_decides Int (Code m) = (λ t. absurd (cc), λ e. absurd (cc))
base_decides (Code n) Int = (λ t. absurd (cc), λ e. absurd (cc))
base_decides (Code n) (Code m) = Decides-like _ (λ e. ap Code e) (λ e. cc) (Decides-eqb n m)

basic_decides : (a b : Basic) → Decides (eqb a.refs b.refs && base.eq-value.it a.base b.base) (a ≡ b)
basic_decides a b = and2 _ _ (Decides-eqb a.refs b.refs) (base_decides a.base b.base)
    (λ e f. ap (λ x. let y : Basic = record { refs = x; base = a.base } in y) e
    ∙ ap (λ x. let y : Basic = record { refs = b.refs; base = x } in y) f)
    (λ r. ap (λ (y : Basic). y.refs) r) (λ r. ap (λ (y : Basic). y.base) r)

subst_decides : (a b : Subst) → Decides (eqb a.first b.first && (eqb a.past b.past && eqb a.memory b.memory)) (a ≡ b)
subst_decides a b = and3 _ _ _ (Decides-eqb a.first b.first) (Decides-eqb a.past b.past) (Decides-eqb a.memory b.memory)
    (λ e f g. ap (λ x. let y : Subst = record { first = x; past = a.past; memory = a.memory } in y) e
    ∙ ap (λ x. let y : Subst = record { first = b.first; past = x; memory = a.memory } in y) f
    ∙ ap (λ x. let y : Subst = record { first = b.first; past = b.past; memory = x } in y) g)
    (λ r. ap (λ (y : Subst). y.first) r) (λ r. ap (λ (y : Subst). y.past) r) (λ r. ap (λ (y : Subst). y.memory) r)

pub instr_decides : (a b : Instr) → Decides (same.eq-value.it a b) (a ≡ b)
instr_decides Halt Halt = (λ t. refl, λ e. refl)
instr_decides a Halt = (λ t. absurd (cc), λ e. absurd (cc))
instr_decides a b = (
  λ t. grind (
    arith,
    nat_tests,
    op_decides,
    colour_decides,
    reg_decides,
    coloured_decides,
    basic_decides,
    subst_decides,
  ),
  λ e. grind (
    arith,
    nat_tests,
    op_decides,
    colour_decides,
    reg_decides,
    coloured_decides,
    basic_decides,
    subst_decides,
  ),
)

pub fetched_decides : (a b : Option Instr) → Decides (option_eq same.eq-value.it a b) (a ≡ b)
fetched_decides None None = (λ t. refl, λ e. refl)
fetched_decides None (Some y) = (λ t. absurd (cc), λ e. absurd (cc))
fetched_decides (Some x) None = (λ t. absurd (cc), λ e. absurd (cc))
fetched_decides (Some x) (Some y) = Decides-like _ (λ e. ap Some e) (λ e. cc) (instr_decides x y)
