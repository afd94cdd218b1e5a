-- What the tests of two outputs, statuses or lists of outputs mean.
use Rattle.std.proofs.Common.{◌≡◌, ℕ, Bool, false, ◌&&◌, List, length, take, drop, Decides, refl, ap, sym, ◌∙◌, eqb}
use Rattle.std.specs.Prelude.{not}
use Rattle.std.proofs.lemmas.Bool.Decides.{Decides-eqb, Decides-and, Decides-like}
use Rattle.std.proofs.lemmas.Slice.Eq.{starts_is}
use denote.Enum.Bare.{sameb}
use lib.Pointwise.{pointwise}
use Rattle.ft_isa.specs.declared.output.Output.{Output}
use Rattle.ft_semantics.specs.contracts.status.Status as status
use Rattle.ft_semantics.specs.declared.status.Status.{Status}
use Rattle.ft_semantics.specs.declared.status.Status.TheVariants.{Running, Done, Detected}
use Rattle.ft_semantics.specs.Agrees.{IsPrefix}

-- whether two outputs are equal
abbrev pub same_output : Output → Output → Bool
same_output a b = eqb a.addr b.addr && eqb a.value b.value

both : (a b : Output) → (a.addr ≡ b.addr) × (a.value ≡ b.value) → a ≡ b
both a b h = ap (λ (n : ℕ). let x : Output = record { addr = n; value = a.value } in x) h.0
    ∙ ap (λ (n : ℕ). let x : Output = record { addr = b.addr; value = n } in x) h.1

output_decides : (a b : Output) → Decides (same_output a b) (a ≡ b)
output_decides a b = Decides-like _ (both a b) (λ e. (ap (λ (x : Output). x.addr) e, ap (λ (x : Output). x.value) e))
    (Decides-and (eqb a.addr b.addr) (eqb a.value b.value) (Decides-eqb a.addr b.addr) (Decides-eqb a.value b.value))

pub same_status : (a b : Status) → not (sameb status.the_type a b) ≡ false → a ≡ b
same_status Running Running h = refl
same_status Running Done h = cc
same_status Running Detected h = cc
same_status Done Running h = cc
same_status Done Done h = refl
same_status Done Detected h = cc
same_status Detected Running h = cc
same_status Detected Done h = cc
same_status Detected Detected h = refl

-- the test for a prefix decides whether outputs are a prefix of others
pub prefix_decides : (all front : List Output) (r : Bool) → r ≡ pointwise same_output front (take (length front) all) →
    Decides r (IsPrefix front all)
prefix_decides all front r e =
    let h = starts_is output_decides all front r e in
    (λ t. (drop (length front) all, sym (h.0 t)), λ p. h.1 p.0 (sym p.1))
