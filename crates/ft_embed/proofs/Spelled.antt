-- What is returned for bytes that spell an object.
use Rattle.std.proofs.Common.{◌≡◌, ℕ, ◌≤◌, List, length, ap, subst, ◌∙◌}
use Rattle.ft_typing.specs.Accepted.{IsAccepted}
use Rattle.ft_format.specs.Format.{Spells}
use Rattle.ft_format.specs.Broken.{object_of, version_at}
use Rattle.ft_asm.specs.Reads.{text_of}
use Rattle.ft_embed.specs.Cells.{HasNoCell}
use Rattle.ft_embed.specs.Texts.{Given, IsCellName, IsNameOf, IsScheduleOf, IsScheduleOfFile, IsText}
use Rattle.ft_embed.proofs.Tried.{accepted_file}

module _ (bytes view : List ℕ) (same : view ≡ bytes) (spells : Spells bytes (version_at bytes) (object_of view)) where
  spelled : Spells bytes (version_at bytes) (object_of bytes)
  spelled = subst (λ v. Spells bytes (version_at bytes) (object_of v)) same spells

  pub no_cell : (k : ℕ) → length (object_of view).cells ≤ k → HasNoCell bytes k
  no_cell k none = record { spelled = spelled; none = subst (λ v. length (object_of v).cells ≤ k) same none }

  module _ (old new : List ℕ) (made status : ℕ) where
    pub given_text : Given (λ text. text ≡ text_of (object_of view)) old new made status →
        Given (IsText bytes) old new made status
    given_text h = record {
      bytes = h.bytes;
      holds = record { spelled = spelled; is = h.holds ∙ ap (λ v. text_of (object_of v)) same };
      handed = h.handed;
    }

    pub given_name : (k : ℕ) → Given (IsCellName (object_of view) k) old new made status →
        Given (IsNameOf bytes k) old new made status
    given_name k h = record {
      bytes = h.bytes;
      holds = record { spelled = spelled; is = subst (λ v. IsCellName (object_of v) k h.bytes) same h.holds };
      handed = h.handed;
    }

    pub given_schedule : IsAccepted (object_of view) → Given (IsScheduleOf (object_of view)) old new made status →
        Given (IsScheduleOfFile bytes) old new made status
    given_schedule accepted h = record {
      bytes = h.bytes;
      holds = record {
        file = accepted_file bytes view same spells accepted;
        is = subst (λ v. IsScheduleOf (object_of v) h.bytes) same h.holds;
      };
      handed = h.handed;
    }
