-- The code's parts of a text as plain data: private to the code.
use Rattle.std.specs.Prelude.{map}
use Rattle.ft_flow.specs.Texts.{FlowText}
use Rattle.ft_flow.specs.declared.texts.Parts.{Parts}

abbrev pub parts_at : Parts → FlowText
parts_at p = record {
  vars = p.vars;
  names = map (λ n. n.items) p.names.items;
  inits = p.inits.items;
  steps = p.steps.items;
  lines = p.lines.items;
}
