-- In an object that obeys the rules, no instruction has an empty run of cells.
use Rattle.std.proofs.Common.{◌≡◌, ℕ, length, Some, arith, subst, slice_get}
use Rattle.std.proofs.lemmas.Option.{slice_get_within, get_or_from_slice_get}
use Rattle.std.proofs.lemmas.List.Elements.{All-get_or}
use Rattle.ft_isa.specs.declared.instr.Instr.{Instr}
use Rattle.ft_isa.specs.declared.instr.Instr.TheVariants.{Idx}
use Rattle.ft_types.specs.declared.object.Object.{Object}
use Rattle.ft_types.specs.Spellable.{IsSpellable, IsInstr}
use Rattle.ft_machine.specs.Lengths.{HasNoEmptyRun}

instr_has_length : (types cells : ℕ) (i : Instr) → IsInstr types cells i → HasNoEmptyRun i
instr_has_length types cells (Idx rd rs first m) h = omega (arith, h.length.0)
instr_has_length types cells other h = tt

pub has_length : (o : Object) (n : ℕ) (i : Instr) → IsSpellable o → slice_get o.instrs n ≡ Some i → HasNoEmptyRun i
has_length o n i h at =
    let rule = All-get_or (IsInstr (length o.types) (length o.cells)) o.instrs n i (slice_get_within o.instrs n i at)
    h.instrs in
    instr_has_length _ _ i (subst (IsInstr (length o.types) (length o.cells)) (get_or_from_slice_get o.instrs n i i at)
    rule)
