-- The cells that declarations make.
use Rattle.std.specs.Prelude.{◌≡◌, List, map}
use Rattle.ft_syntax.specs.Syntax.{Declared}
use Rattle.ft_scope.specs.declared.making.Cells.{Cells}
use Rattle.ft_scope.specs.Scope.{cell_texts, cell_places, cell_words}

-- these are the cells of these declarations
pub record Made (c : Cells) (ds : List Declared) : Type 0 where
  pub names : map (λ r. r.now) c.names.items ≡ cell_texts ds
  pub places : c.places.items ≡ cell_places ds
  pub inits : c.inits.items ≡ cell_words ds
