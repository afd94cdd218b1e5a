-- The answers for the bytes of an object.
use Rattle.std.specs.Prelude.{◌≡◌, ◌⊎◌, ℕ, List, Option, Some, None}
use Rattle.ft_types.specs.declared.object.Object.{Object}
use Rattle.ft_typing.specs.Accepted.{Refusal}
use Rattle.ft_format.specs.declared.object_error.ObjectError.{ObjectError}
use Rattle.ft_format.specs.declared.version.Version.TheVariants.{Second}
use Rattle.ft_format.specs.Format.{Spells}
use Rattle.ft_format.specs.Broken.{broken}
use Rattle.ft_tool.specs.Texts.{object_line, accepted_line, check_line}
use Rattle.ft_tool.specs.Replies.{Answer, one_piece, IsSpelling}

-- the answer to bytes that spell no object, given the first rule that they break
abbrev pub refused : ObjectError → Answer
refused e = one_piece (object_line e) 7

-- the answer of `check`, given the refusal of the object, if any
abbrev pub judged : Option Refusal → Answer
judged None = one_piece accepted_line 0
judged (Some r) = one_piece (check_line r) 8

-- the answer for a file's bytes: the answer for the object that they spell, or the refusal for the first rule that they
-- break
abbrev pub OverBytes : (Object → Answer → Type 0) → List ℕ → Answer → Type 0
OverBytes Over bytes a =
    ((o : Object) × (IsSpelling bytes o × Over o a))
    ⊎ ((e : ObjectError) × ((broken bytes ≡ Some e) × (a ≡ refused e)))

-- the answer of `upgrade` for an object: its bytes in version 2 of the format, in one piece
pub record UpgradesObject (o : Object) (a : Answer) : Type 0 where
  pub bytes : List ℕ
  pub spelled : Spells bytes Second o
  pub answer : a ≡ one_piece bytes 0
