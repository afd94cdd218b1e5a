-- Statements in sequence fit if each part does.
use Rattle.std.proofs.Common.{ℕ}
use Rattle.ft_syntax.specs.Plain.{StatementList, none, assign, assign_at, loop, choose, follow}
use Rattle.ft_scope.specs.declared.slot.Slot.{Slot}
use Rattle.ft_scope.specs.Size.{StatementsFit}

-- statements followed by others fit if both do
pub fits_follow : (c v : ℕ) (a b : StatementList Slot) → StatementsFit c v a → StatementsFit c v b →
    StatementsFit c v (follow a b)
fits_follow c v none b h g = g
fits_follow c v (assign to e rest) b h g = (h.0, h.1, fits_follow c v rest b h.2 g)
fits_follow c v (assign_at to i e rest) b h g = (h.0, h.1, h.2, fits_follow c v rest b h.3 g)
fits_follow c v (loop e body rest) b h g = (h.0, h.1, fits_follow c v rest b h.2 g)
fits_follow c v (choose e if_so if_not rest) b h g = (h.0, h.1, h.2, fits_follow c v rest b h.3 g)
