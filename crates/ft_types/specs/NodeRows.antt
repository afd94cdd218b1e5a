-- The numbers that encode a node, and the two words that they make up.
use Rattle.std.specs.Prelude.{ℕ, ◌+◌, ◌*◌, ◌/◌, ◌%◌, ◌^◌, List, [], ◌∷◌}
use Rattle.ft_isa.specs.Operations.{op_code}
use Rattle.ft_static.specs.declared.node.Node.{Node}
use Rattle.ft_static.specs.declared.node.Shape.{Shape}
use Rattle.ft_static.specs.declared.node.Shape.TheVariants.{Word, Var, Op as OpNode, Sel, Memory, Upd, Rem}

-- the upper four bytes of a word
abbrev pub high_half : ℕ → ℕ
high_half w = w / 2 ^ 32

-- the lower four bytes of a word
abbrev pub low_half : ℕ → ℕ
low_half w = w % 2 ^ 32

-- a word, from its two halves
abbrev pub joined : ℕ → ℕ → ℕ
joined high low = high * 2 ^ 32 + low

-- the numbers of a node with this scope and shape
abbrev pub shape_row : ℕ → Shape → List ℕ
shape_row scope (Word w) = 0 ∷ 0 ∷ scope ∷ 0 ∷ 0 ∷ high_half w ∷ low_half w ∷ []
shape_row scope (Var i) = 1 ∷ 0 ∷ scope ∷ 0 ∷ i ∷ 0 ∷ 0 ∷ []
shape_row scope (OpNode op a b) = 2 ∷ op_code op ∷ scope ∷ 0 ∷ a ∷ b ∷ 0 ∷ []
shape_row scope (Sel memory at) = 3 ∷ 0 ∷ scope ∷ 0 ∷ memory ∷ at ∷ 0 ∷ []
shape_row scope Memory = 4 ∷ 0 ∷ scope ∷ 0 ∷ 0 ∷ 0 ∷ 0 ∷ []
shape_row scope (Upd memory at value) = 5 ∷ 0 ∷ scope ∷ 0 ∷ memory ∷ at ∷ value ∷ []
shape_row scope (Rem a m) = 6 ∷ 0 ∷ scope ∷ 0 ∷ a ∷ m ∷ 0 ∷ []

-- the numbers of a node
abbrev pub node_row : Node → List ℕ
node_row n = shape_row n.scope n.shape

-- the two words of a record with these numbers: kind, operation, scope, padding and a; then b and c
abbrev pub row_words : List ℕ → ℕ × ℕ
row_words (kind ∷ op ∷ scope ∷ pad ∷ a ∷ b ∷ c ∷ []) = (joined (kind * 2 ^ 24 + op * 2 ^ 16 + scope * 2 ^ 8 + pad) a, joined b c)
row_words _ = (0, 0)

-- a node as two words
abbrev pub node_words : Node → ℕ × ℕ
node_words n = row_words (node_row n)
