use Rattle.std.proofs.Common.{◌≡◌, ℕ, length, slice_get, Some}
use Rattle.ft_static.specs.Form.{integer_form, variable_atom}
use Rattle.ft_static.specs.NormalForm.{alone}
use Rattle.ft_norm.specs.declared.form.Form.{Form}
use Rattle.ft_norm.specs.Held.{held, Keeps}
use Rattle.ft_contexts.proofs.variables.OwnVariables.new.Given as goal

abbrev pub invariant-loop-i : goal.invariant-loop-i
invariant-loop-i l = record {
  kept : Keeps l.fn.forms l.forms;
  count : length l.integers ≡ l.i;
  made : (i : ℕ) (f : Form) → slice_get l.integers i ≡ Some f → held l.forms f
      ≡ Some (integer_form (alone (variable_atom i)));
}
