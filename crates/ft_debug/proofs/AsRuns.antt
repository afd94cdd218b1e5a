-- A session shows the states of the machine's runs.
use Rattle.std.proofs.Common.{◌≡◌, ℕ, zero, suc, List, [], ◌∷◌, Option, Some, None, refl, ap}
use Rattle.ft_isa.specs.declared.plan.Wild.{Wild}
use Rattle.ft_isa.specs.declared.plan.Strike.{Strike}
use Rattle.ft_types.specs.declared.object.Object.{Object}
use Rattle.ft_semantics.specs.Step.{step}
use Rattle.ft_semantics.specs.Strike.{struck_before}
use Rattle.ft_semantics.specs.Run.{Ran, run}
use Rattle.ft_debug.specs.Sessions.{Shown, shown, led_to}

-- what a session shows of a run at a position
abbrev of_run : ℕ → Option Strike → Ran → Shown
of_run n strike r = record { state = struck_before strike n r.state; wild = r.wild }

-- without strikes, a session shows the run without a fault
pub shown_plain : (o : Object) (w : List Wild) (n : ℕ) → shown o w [] n ≡ of_run n None (run o None w n)
unfolding shown run
shown_plain o w zero = refl
shown_plain o w (suc n) = ap (λ (m : Shown). led_to (suc n) [] (step o m.state m.wild)) (shown_plain o w n)

-- with one strike, it shows the run under the plan with that strike
pub shown_one : (o : Object) (w : List Wild) (s : Strike) (n : ℕ) → shown o w (s ∷ []) n
    ≡ of_run n (Some s) (run o (Some s) w n)
unfolding shown run
shown_one o w s zero = refl
shown_one o w s (suc n) = ap (λ (m : Shown). led_to (suc n) (s ∷ []) (step o m.state m.wild)) (shown_one o w s n)
