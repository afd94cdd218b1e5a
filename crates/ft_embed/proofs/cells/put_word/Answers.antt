use Rattle.std.proofs.Common.{◌≡◌, ℕ, ◌+◌, ◌-◌, List, ◌++◌, take, drop, ap, ◌∙◌, arith}
use Rattle.std.specs.Int.{w64, to_be_bytes}
use Rattle.std.proofs.lemmas.List.{drop-drop}
use Rattle.ft_format.specs.Layout.{bytes_of}
use Rattle.ft_embed.proofs.cells.put_word.Goals as goal

-- the eight bytes at a place are replaced by the bytes of a word
put : (at w : ℕ) (xs new : List ℕ) → new ≡ to_be_bytes w64 w → take at xs ++ (new ++ drop (at + 8 - at) (drop at xs))
    ≡ take at xs ++ (bytes_of w64 w ++ drop (at + 8) xs)
unfolding bytes_of
put at w xs new e =
    let eight : at + (at + 8 - at) ≡ at + 8 = omega arith in
    let rest : drop (at + 8 - at) (drop at xs) ≡ drop (at + 8) xs = drop-drop (at + 8 - at) at xs
    ∙ ap (λ n. drop n xs) eight in
    ap (λ l. take at xs ++ (l ++ drop (at + 8 - at) (drop at xs))) e
    ∙ ap (λ l. take at xs ++ (to_be_bytes w64 w ++ l)) rest

pub returns : goal.returns
returns c = put c.args.at c.args.word c.args.bytes.now c.copy_from_slice.new.self (c.copy_from_slice.ensures.after
    ∙ c.to_be_bytes.ensures)
