-- The answers of `upgrade` to bytes that spell no object.
use Rattle.std.proofs.Common.{◌≡◌, ◌∙◌, List, ℕ, inr, subst, sym}
use Rattle.ft_format.specs.Broken.{broken}
use Rattle.ft_object.specs.declared.decode_error.DecodeError.{DecodeError}
use Rattle.ft_object.specs.declared.decode_error.DecodeError.TheVariants as decodes
use Rattle.ft_object.specs.Judged.{IsError}
use Rattle.ft_tool.specs.declared.load.ObjectFault.{ObjectFault}
use Rattle.ft_tool.specs.declared.load.ObjectFault.TheVariants.{Refused, Failed, NoMemory}
use Rattle.ft_tool.specs.Replies.{Answer}
use Rattle.ft_tool.specs.Objects.{UpgradesObject, OverBytes}
use Rattle.ft_tool.specs.Files.{IsRefusedBy, fault_of}

-- the answer to refused bytes is an answer for them
pub decode_refused : (e : DecodeError) (f : ObjectFault) (bytes : List ℕ) → f ≡ fault_of e → IsError e (broken bytes) →
    (a : Answer) → IsRefusedBy f a → OverBytes UpgradesObject bytes a
decode_refused (decodes.Object e) f bytes p h a is = inr (e, (h, subst (λ g. IsRefusedBy g a) p is))
decode_refused decodes.NoMemory f bytes p h a is = absurd (subst (λ g. IsRefusedBy g a) p is)

-- a decoding error is not a failed load
pub decode_has_loaded : (e : DecodeError) (f : ObjectFault) → f ≡ fault_of e → f ≡ Failed → ⊥
decode_has_loaded (decodes.Object e) f p q = let x : Refused e ≡ Failed = sym p ∙ q in cc
decode_has_loaded decodes.NoMemory f p q = let x : NoMemory ≡ Failed = sym p ∙ q in cc
