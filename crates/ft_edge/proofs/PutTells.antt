-- The clauses of `Sink` from those of a sink that reveals its bytes.
use Rattle.std.proofs.Common.{◌≡◌, ℕ, List, ◌++◌, take, drop, Some, Result, Ok, Err, OnOk, OnErr, rules, ap, sym}
use Rattle.std.proofs.lemmas.List.{take-append-drop}
use Rattle.std.specs.Io.KnownBytes.{append_known}
use Rattle.ft_edge.specs.Calls.{next_count}
use Rattle.ft_edge.specs.Causes.{Rose, AddsPrefix}
use Rattle.ft_edge.specs.Prefixes.{AddsFront}

pub ok_known : {A E : Type 0} (r : Result A E) (old new bs : List ℕ) → OnOk r (new ≡ old ++ bs) →
    OnOk r (Some new ≡ append_known (Some old) bs)
ok_known (Ok x) old new bs h = ap Some h
ok_known (Err e) old new bs h = h

front_known : (old new bs : List ℕ) → AddsFront old new bs → AddsPrefix (Some old) (Some new) bs
front_known old new bs h = record {
  front = take h.0 bs;
  rest = drop h.0 bs;
  whole = sym (take-append-drop h.0 bs);
  added = ap Some h.1;
}

pub err_known : {A E : Type 0} (r : Result A E) (old new bs : List ℕ) → OnErr r (AddsFront old new bs) →
    OnErr r (AddsPrefix (Some old) (Some new) bs)
err_known (Ok x) old new bs h = h
err_known (Err e) old new bs h = front_known old new bs h

pub err_rose : {A E : Type 0} (r : Result A E) (old new : ℕ) → OnErr r (new ≡ next_count old) → OnErr r (Rose old new)
err_rose (Ok x) old new h = h
err_rose (Err e) old new h = search rules
