-- The walk that traces code addresses: which registers hold a code address from a `mov`, and whether each is used only
-- as a target.
use Rattle.std.specs.Prelude.{ℕ, zero, suc, Bool, true, false, ◌&&◌, not, if◌then◌else◌, List, [], ◌∷◌, Option, None, Some, is_some}
use Rattle.std.specs.List.{list_all}
use Rattle.std.specs.Ordering.{nat_cmp}
use Rattle.std.specs.FinMap as finite
use Rattle.std.specs.FinMap.{FinMap}
use Rattle.ft_isa.specs.declared.basic.Base.{Base}
use Rattle.ft_isa.specs.declared.basic.Base.TheVariants.{Int, Code}
use Rattle.ft_isa.specs.declared.basic.Basic.{Basic}
use Rattle.ft_isa.specs.declared.reg.Reg.{Reg}
use Rattle.ft_isa.specs.declared.instr.Instr.{Instr}
use Rattle.ft_isa.specs.declared.instr.Instr.TheVariants.{Mov, JmpG, JmpB, BzG, BzB}
use Rattle.ft_isa.specs.Instructions.{written, first_read, second_read}
use Rattle.ft_types.specs.declared.object.Object.{Object}
use Rattle.ft_types.specs.declared.object.RegType.{RegType}
use Rattle.ft_types.specs.Objects.{reg_rows}

-- the registers that were last written by a `mov` that claims a code type, each with that code type
abbrev pub Entered : Type 0
Entered = FinMap nat_cmp ℕ

-- the code type T of a basic type with this many `ref`s and this base, if that is `code T`
abbrev pub code_over : ℕ → Base → Option ℕ
code_over zero Int = None
code_over zero (Code t) = Some t
code_over (suc k) base = None

-- the code type that a basic type claims, if it is `code T`
abbrev pub code_claimed : Basic → Option ℕ
code_claimed b = code_over b.refs b.base

-- enters a register with a code type, or removes it
abbrev pub entered_with : ℕ → Option ℕ → Entered → Entered
entered_with r None e = finite.remove e r
entered_with r (Some t) e = finite.insert e r t

-- the code type that an instruction claims for the word that it writes
abbrev pub claimed : Instr → Option ℕ
claimed (Mov rd basic value) = code_claimed basic
claimed i = None

-- enters a register with a code type, or removes it, if a register is given
abbrev pub entered_past : Option ℕ → Option ℕ → Entered → Entered
entered_past None t e = e
entered_past (Some r) t e = entered_with r t e

-- the entered registers after an instruction: the one that it writes is entered or removed
abbrev pub entered_after : Instr → Entered → Entered
entered_after i e = entered_past (written i) (claimed i) e

-- whether a register is not entered
abbrev pub is_free : Entered → Reg → Bool
is_free e r = not (is_some (finite.get e r.number))

-- whether neither of two registers, if given, is entered
abbrev pub both_free : Entered → Option ℕ → Option ℕ → Bool
both_free e (Some p) (Some q) = not (is_some (finite.get e p)) && not (is_some (finite.get e q))
both_free e (Some p) None = not (is_some (finite.get e p))
both_free e None (Some q) = not (is_some (finite.get e q))
both_free e None None = true

-- whether a target register is entered
abbrev pub is_entered : Entered → Reg → Bool
is_entered e r = is_some (finite.get e r.number)

-- whether no row is for an entered register
abbrev pub are_free : Entered → List RegType → Bool
are_free e rows = list_all (λ (r : RegType). is_free e r.reg) rows

-- whether a target is entered, and its code type has no row for an entered register
abbrev pub is_free_target : Object → Entered → Option ℕ → Bool
is_free_target o e None = false
is_free_target o e (Some t) = are_free e (reg_rows o t)

-- whether the walk passes an instruction: it reads entered registers only as targets, its target is entered, and if it
-- may go to its target, the target's code type has no row for an entered register
abbrev pub is_traced : Object → Entered → Instr → Bool
is_traced o e (JmpG rd) = is_entered e rd
is_traced o e (JmpB rd subst) = is_free_target o e (finite.get e rd.number)
is_traced o e (BzG rz rd) = is_free e rz && is_entered e rd
is_traced o e (BzB rz rd subst) = is_free e rz && is_free_target o e (finite.get e rd.number)
is_traced o e i = both_free e (first_read i) (second_read i)

-- the index, counted from k, of the first of these instructions at which the walk fails
unfoldable pub code_walk : Object → Entered → ℕ → List Instr → Option ℕ
code_walk o e k [] = None
code_walk o e k (i ∷ is) = if is_traced o e i then code_walk o (entered_after i e) (suc k) is else Some k
