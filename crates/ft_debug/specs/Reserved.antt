-- The room reserved for breakpoints: private to the code.
use Rattle.std.specs.Prelude.{◌≤◌, vec_capacity}
use Rattle.ft_debug.specs.declared.break_places.BreakPlaces.TheInside.{Inside}

-- there is room for 64 places
pub record IsReserved (b : Inside) : Type 0 where
  pub room : 64 ≤ vec_capacity b.addresses
