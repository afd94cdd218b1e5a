-- Names have no spaces.
use Rattle.std.proofs.Common.{◌≡◌, ◌≢◌, ℕ, true, List, [], ◌∷◌, ap, sym, ◌∙◌}
use Rattle.std.specs.List.{AllByRecursion, list_all}
use Rattle.std.proofs.lemmas.Bool.{true≢false, and_parts}
use Rattle.std.proofs.lemmas.List.Elements.{All-from_recursion}
use Rattle.ft_text.proofs.FirstWords.{HasNoSpace}
use Rattle.ft_types.specs.Spellable.{is_letter}
use Rattle.ft_link_map.specs.MapLines.{is_word_byte, begins_name, is_block_name}

-- letters, underscores and digits are not spaces
word_bytes_free : (bytes : List ℕ) → list_all is_word_byte bytes ≡ true → AllByRecursion (λ byte. byte ≢ 32) bytes
word_bytes_free [] h = tt
word_bytes_free (x ∷ xs) h = (
  λ e. true≢false (sym (and_parts _ _ h).0 ∙ ap is_word_byte e),
  word_bytes_free xs (and_parts _ _ h).1,
)

-- the bytes of a name are not spaces
begun_free : (name : List ℕ) → begins_name name ≡ true → AllByRecursion (λ byte. byte ≢ 32) name
begun_free [] h = absurd (true≢false (sym h))
begun_free (x ∷ xs) h = (
  λ e. true≢false (sym (and_parts _ _ h).0 ∙ ap is_letter e),
  word_bytes_free xs (and_parts _ _ h).1,
)

-- a name has no spaces
pub name_no_space : (name : List ℕ) → is_block_name name ≡ true → HasNoSpace name
name_no_space name h = All-from_recursion (λ byte. byte ≢ 32) name (begun_free name (and_parts _ _ h).0)
