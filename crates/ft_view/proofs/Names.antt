-- A loop over the bytes of a name.
use Rattle.std.proofs.Common.{◌≡◌, ℕ, ◌+◌, ◌<◌, ◌≤◌, List, length, drop, get_or, Option, None, Some, sym, ap, ◌∙◌}
use Rattle.std.proofs.lemmas.List.{at_drop_more, at_drop_all}
use Rattle.ft_format.specs.declared.object_error.ObjectError.{ObjectError}
use Rattle.ft_format.specs.declared.object_error.ObjectError.TheVariants as errors
use Rattle.ft_format.specs.declared.version.Version.{Version}
use Rattle.ft_format.specs.Versions.{may_follow}
use Rattle.ft_format.specs.Rules.{must, ◌next◌}
use Rattle.ft_format.specs.Broken.{name_rest_broken}

-- after a byte that is allowed, the result is that of the remaining bytes
pub byte_goes : (v : Version) (bytes : List ℕ) (i at : ℕ) (broken : Option ObjectError) → i < length bytes →
    must (may_follow v (get_or bytes i 0)) (errors.Name at) ≡ None
    → name_rest_broken v at (drop i bytes) ≡ broken → name_rest_broken v (at + 1) (drop (i + 1) bytes) ≡ broken
unfolding name_rest_broken
byte_goes v bytes i at broken lt none h =
    sym (at_drop_more (name_rest_broken v at) bytes i 0 lt
    ∙ ap (λ r. r next name_rest_broken v (at + 1) (drop (i + 1) bytes)) none) ∙ h

-- a byte that is not allowed determines the result
pub byte_halts : (v : Version) (bytes : List ℕ) (i at : ℕ) (broken : Option ObjectError) (why : ObjectError) →
    i < length bytes → must (may_follow v (get_or bytes i 0)) (errors.Name at) ≡ Some why
    → name_rest_broken v at (drop i bytes) ≡ broken → broken ≡ Some why
unfolding name_rest_broken
byte_halts v bytes i at broken why lt some h =
    sym h ∙ at_drop_more (name_rest_broken v at) bytes i 0 lt
    ∙ ap (λ r. r next name_rest_broken v (at + 1) (drop (i + 1) bytes)) some

-- if no byte is left, no rule is broken
pub bytes_end : (v : Version) (bytes : List ℕ) (i at : ℕ) (broken : Option ObjectError) → length bytes ≤ i →
    name_rest_broken v at (drop i bytes) ≡ broken → broken ≡ None
unfolding name_rest_broken
bytes_end v bytes i at broken le h = sym h ∙ at_drop_all (name_rest_broken v at) bytes i le
