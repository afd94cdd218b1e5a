use Rattle.std.proofs.Common.{◌≡◌, ◌≤◌, ◌∙◌, get_or, length, sym}
use Rattle.ft_norm.specs.Entries.{greatest, size}
use Rattle.ft_norm.specs.Packing.{HaveSmall}
use Rattle.ft_norm.proofs.Packing.{blank}
use Rattle.ft_norm.proofs.Views.{rest_view}
use Rattle.ft_norm.proofs.walk.others.Goals as goal

pub returns-in-Full-len1-up-clause-view : goal.returns-in-Full-len1-up-clause-view
returns-in-Full-len1-up-clause-view c =
    let ts = c.in-Full-len1-up.field-0.now in
    let h : (2 ≤ greatest ts) × (HaveSmall ts → ⊥) = rw c.in-Full-len1-up.is at c.requires in
    let l : 1 ≤ length ts = rw c.in-Full-len1-up.is at c.in-Full-len1-up.len_at_least in
    let e : size (get_or ts 0 blank).atoms ≡ 0 = rw c.in-Full-len1-up.is at (sym c.degree-in-Full-1.ensures
    ∙ c.if-degree-eq0-2.true) in
    rw c.in-Full-len1-up.is (rest_view ts h l e)
