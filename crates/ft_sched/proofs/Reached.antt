-- Lists that come from others by permitted exchanges within a part.
use Rattle.std.proofs.Common.{◌≡◌, ℕ, List, length, refl, ◌∙◌, arith}
use Rattle.ft_isa.specs.declared.instr.Instr.{Instr}
use Rattle.ft_exchange.proofs.Lists.{length-exchanged}
use Rattle.ft_sched.specs.Inside.{Reaches, stays, exchanges, HasNone}

pub length_reached : (rows start past : ℕ) (is js : List Instr) → Reaches rows start past is js → length js ≡ length is
length_reached rows start past is _ stays = refl
length_reached rows start past is _ (exchanges {js = js} k h p) = length-exchanged js k
    ∙ length_reached rows start past is js h

pub none_begins : (rows start : ℕ) (is : List Instr) → HasNone rows start start is
none_begins rows start is k h = (let low = h.low in let high = h.high in omega arith)
