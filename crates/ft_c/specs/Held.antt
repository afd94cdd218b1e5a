-- What a handle owns.
use Rattle.std.specs.Prelude.{ℕ, zero, suc, Option, None, Some}
use base.Fml.{Fml, ftrue, feq, fex}
use denote.RawPtr.{Ptr}
use Rattle.std.specs.contracts.impls.GlobalAllocator.TheImpl.{ghosts}
use Rattle.std_alloc.specs.Box.Ownership.{box_owns}
use Rattle.std.specs.declared.alloc.Global.{Global}
use Rattle.ft_embed.specs.contracts.task.Task.{the_row}

abbrev pub held : ℕ → Ptr → Option the_row.Denot → Fml
held zero p None = ftrue
held zero p (Some x) = feq ℕ 0 1
held (suc n) p None = feq ℕ 0 1
held (suc n) p (Some x) = fex Global (λ a. box_owns (ghosts.dealloc_token a) the_row p x)
