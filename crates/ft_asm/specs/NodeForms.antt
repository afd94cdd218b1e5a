-- The forms of nodes: how each is written, and by which row it is read. Rows are private to the line reader.
use Rattle.std.specs.Prelude.{ℕ, List, [], ◌∷◌, codes, Option, option_and_then}
use Rattle.ft_isa.specs.Operations.{op_word, op_in}
use Rattle.ft_isa.specs.declared.op.Op.{Op}
use Rattle.ft_static.specs.declared.node.Shape.{Shape}
use Rattle.ft_static.specs.declared.node.Shape.TheVariants as shapes
use Rattle.ft_asm.specs.Operands.{AByte, AnIndex, AWord, Form, form}
use Rattle.ft_text.specs.LineWords.{ended}
use Rattle.ft_asm.specs.Forms.{OneByte, OneIndex, OneWord, OneName, Row, row, row_in, among}
use Rattle.ft_asm.specs.declared.line.Line.{Line}
use Rattle.ft_asm.specs.declared.line.Line.TheVariants as lines

-- HOW EACH IS WRITTEN

-- the form of a node after its scope
abbrev pub shape_form : Shape → Form
shape_form (shapes.Word w) = form (codes "word") (AWord w ∷ [])
shape_form (shapes.Var i) = form (codes "var") (AByte i ∷ [])
shape_form (shapes.Op op a b) = form (op_word op) (AnIndex a ∷ AnIndex b ∷ [])
shape_form (shapes.Sel memory at) = form (codes "sel") (AnIndex memory ∷ AnIndex at ∷ [])
shape_form shapes.Memory = form (codes "memory") []
shape_form (shapes.Upd memory at value) = form (codes "upd") (AnIndex memory ∷ AnIndex at ∷ AnIndex value ∷ [])
shape_form (shapes.Rem a m) = form (codes "rem") (AnIndex a ∷ AnIndex m ∷ [])

-- THE READER'S ROWS

abbrev pub word_row : Row Shape
word_row = row (codes "word") (OneWord ∷ []) (λ w. shapes.Word w)

abbrev pub var_row : Row Shape
var_row = row (codes "var") (OneByte ∷ []) (λ i. shapes.Var i)

abbrev pub op_shape_row : Op → Row Shape
op_shape_row op = row (op_word op) (OneIndex ∷ OneIndex ∷ []) (λ a b. shapes.Op op a b)

abbrev pub sel_row : Row Shape
sel_row = row (codes "sel") (OneIndex ∷ OneIndex ∷ []) (λ memory at. shapes.Sel memory at)

abbrev pub memory_row : Row Shape
memory_row = row (codes "memory") [] shapes.Memory

abbrev pub upd_row : Row Shape
upd_row = row (codes "upd") (OneIndex ∷ OneIndex ∷ OneIndex ∷ []) (λ memory at value. shapes.Upd memory at value)

abbrev pub rem_row : Row Shape
rem_row = row (codes "rem") (OneIndex ∷ OneIndex ∷ []) (λ a m. shapes.Rem a m)

-- the rows of all nodes except operations
abbrev pub shape_rows : List (Row Shape)
shape_rows = word_row ∷ var_row ∷ sel_row ∷ memory_row ∷ upd_row ∷ rem_row ∷ []

abbrev pub op_shape_in : List ℕ → List (List ℕ) → Option (Shape × List (List ℕ))
op_shape_in word words = option_and_then (λ op. row_in (op_shape_row op) words) (op_in word)

abbrev pub shape_in : List ℕ → List (List ℕ) → Option (Shape × List (List ℕ))
shape_in word words = among shape_rows (λ r. row_in r words) word (op_shape_in word words)

abbrev pub node_line : ℕ → Shape → Line
node_line scope shape = lines.Node (record { scope = scope; shape = shape })

-- the scope of a node, and the word after it
abbrev pub node_head : Row (ℕ × List ℕ)
node_head = row (codes "node") (OneByte ∷ OneName ∷ []) (λ scope word. (scope, word))

abbrev pub node_with : ℕ × List ℕ → List (List ℕ) → Option Line
node_with head words = option_and_then (λ p. ended (node_line head.0 p.0) p.1) (shape_in head.1 words)

abbrev pub node_in : List (List ℕ) → Option Line
node_in words = option_and_then (λ p. node_with p.0 p.1) (row_in node_head words)
