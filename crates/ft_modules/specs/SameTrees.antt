-- Tests whether two code types agree.
use Rattle.std.specs.Prelude.{ℕ, Bool, true, false, ◌&&◌, ◌==◌, List, [], ◌∷◌}
use Rattle.ft_static.specs.Expression.{same_integer, same_memory}
use Rattle.ft_static.specs.NodeTree.{trees, integer_at, memory_at}
use Rattle.ft_types.specs.declared.object.Object.{Object}
use Rattle.ft_types.specs.declared.object.RegType.{RegType}
use Rattle.ft_types.specs.Objects.{reg_rows, queue_rows, ints_of, memory_of}
use Rattle.ft_typing.specs.TypedWord.{same_basic}
use Rattle.ft_typing.specs.RowWords.{same_colour}

-- whether two nodes stand for the same integer
abbrev pub same_integers : Object → Object → ℕ → ℕ → Bool
same_integers o x n m = same_integer (integer_at (trees o.nodes) n) (integer_at (trees x.nodes) m)

-- whether two register rows agree
abbrev pub same_row : Object → Object → RegType → RegType → Bool
same_row o x r q = (r.reg.number == q.reg.number) && same_colour r.colour q.colour && same_basic r.basic q.basic && same_integers o x r.expr q.expr

-- whether two lists of register rows agree
abbrev pub same_rows : Object → Object → List RegType → List RegType → Bool
same_rows o x [] [] = true
same_rows o x [] (q ∷ qs) = false
same_rows o x (r ∷ rs) [] = false
same_rows o x (r ∷ rs) (q ∷ qs) = same_row o x r q && same_rows o x rs qs

-- whether two lists of queue rows agree
abbrev pub same_pairs : Object → Object → List (ℕ × ℕ) → List (ℕ × ℕ) → Bool
same_pairs o x [] [] = true
same_pairs o x [] (q ∷ qs) = false
same_pairs o x (r ∷ rs) [] = false
same_pairs o x (r ∷ rs) (q ∷ qs) = same_integers o x r.0 q.0 && same_integers o x r.1 q.1 && same_pairs o x rs qs

-- whether code type t of o and code type u of x agree
unfoldable pub like_types : Object → ℕ → Object → ℕ → Bool
like_types o t x u =
    (ints_of o t == ints_of x u)
    && same_rows o x (reg_rows o t) (reg_rows x u)
    && same_pairs o x (queue_rows o t) (queue_rows x u)
    && same_memory (memory_at (trees o.nodes) (memory_of o t)) (memory_at (trees x.nodes) (memory_of x u))
