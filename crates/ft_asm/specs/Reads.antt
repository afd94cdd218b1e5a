-- Which text reads as which object, the text of an object, and why a text is refused.
use Rattle.std.specs.Prelude.{◌⊎◌, ◌≡◌, ℕ, suc, ◌≤◌, ◌<◌, true, List, [], ◌∷◌, ◌++◌, length, Option, Some, None, codes}
use Rattle.std.specs.List.{AllZip, flat_map}
use Rattle.ft_types.specs.declared.object.Object.{Object}
use Rattle.ft_format.specs.declared.object_error.ObjectError.{ObjectError}
use Rattle.ft_format.specs.declared.version.Version.TheVariants.{Second}
use Rattle.ft_format.specs.Rows.{spelling}
use Rattle.ft_format.specs.Broken.{broken}
use Rattle.ft_text.specs.Lines.{lines_of}
use Rattle.ft_isa.specs.declared.basic.Basic.{Basic}
use Rattle.ft_isa.specs.declared.colour.Colour.{Colour}
use Rattle.ft_isa.specs.declared.reg.Reg.{Reg}
use Rattle.ft_asm.specs.declared.line.Line.{Line}
use Rattle.ft_asm.specs.declared.line.Line.TheVariants as lines
use Rattle.ft_text.specs.LineWords.{words_of}
use Rattle.ft_asm.specs.Words.{is_said, said_in}
use Rattle.ft_asm.specs.Lines.{line_words, IsForm}
use Rattle.ft_asm.specs.Operands.{reg_word, colour_word}
use Rattle.ft_asm.specs.Listings.{Listing, listing_lines, object_of, listing_of}

-- the meaningful lines of a text spell this listing, line by line
abbrev pub Say : List (List ℕ) → Listing → Type 0
Say texts listing = AllZip IsForm (said_in texts) (listing_lines listing)

-- the lines of the text, in the prescribed order, denote the tables of the object
pub record Reads (text : List ℕ) (object : Object) : Type 0 where
  pub listing : Listing
  pub said : Say (lines_of text) listing
  pub means : object ≡ object_of listing

-- words with one space between them
abbrev pub spaced : List (List ℕ) → List ℕ
spaced [] = []
spaced (word ∷ []) = word
spaced (word ∷ next ∷ words) = word ++ codes " " ++ spaced (next ∷ words)

-- the text of a line, with its line feed
abbrev pub line_text : Line → List ℕ
line_text line = spaced (line_words line) ++ codes "\n"

-- the first words of a register row
abbrev pub reg_head : Reg → Colour → List ℕ
reg_head reg colour = codes "reg " ++ reg_word reg ++ codes " " ++ colour_word colour ++ codes " "

-- the line of a cell
abbrev pub cell_line : List ℕ → Basic → ℕ → Line
cell_line name basic init = lines.Cell (record { name = name; basic = basic; init = init })

-- the text of an object
abbrev pub text_of : Object → List ℕ
text_of object = flat_map line_text (listing_lines (listing_of object))

-- some text that reads as an object begins with these lines
pub record Begin (texts : List (List ℕ)) : Type 0 where
  pub whole : List ℕ
  pub object : Object
  pub reads : Reads whole object
  pub rest : List (List ℕ)
  pub so_far : lines_of whole ≡ texts ++ rest

-- some text that reads as an object begins with the lines before this one, and this one is meaningful
pub record Stops (text : List ℕ) (number : ℕ) : Type 0 where
  pub before : List (List ℕ)
  pub line : List ℕ
  pub after : List (List ℕ)
  pub split : lines_of text ≡ before ++ line ∷ after
  pub here : number ≡ suc (length before)
  pub begin : Begin before
  pub said : is_said (words_of line) ≡ true

-- line `number` is the first at fault: it has none of the forms
pub record IsTextFault (text : List ℕ) (number : ℕ) : Type 0 where
  pub stop : Stops text number
  pub none : (form : Line) → ¬ (IsForm (words_of stop.line) form)

-- line `number` is the first at fault: it has one of the forms, but no text that reads as an object begins with the
-- lines up to it
pub record IsOrderFault (text : List ℕ) (number : ℕ) : Type 0 where
  pub stop : Stops text number
  pub form : Line
  pub is_form : IsForm (words_of stop.line) form
  pub none : ¬ (Begin (stop.before ++ stop.line ∷ []))

-- some text that reads as an object begins with all lines of this text, which is itself incomplete: line `number`,
-- after the last, is missing
pub record Lacks (text : List ℕ) (number : ℕ) : Type 0 where
  pub here : number ≡ suc (length (lines_of text))
  pub begin : Begin (lines_of text)
  pub none : (object : Object) → ¬ (Reads text object)

-- the outcome of a text: the object that it reads as, or why it is refused
pub data Answer : Type 0 where
  Is : Object → Answer
  TooLong : Answer
  Text : ℕ → Answer
  Order : ℕ → Answer
  Broken : ObjectError → Answer

-- the first rule of the format that the version 2 spelling of these tables breaks
abbrev pub rule_broken : Object → Option ObjectError
rule_broken object = broken (spelling Second object)

-- this is the outcome of the text
abbrev pub Applies : List ℕ → Answer → Type 0
Applies text TooLong = 134217728 < length text
Applies text (Is object) = (length text ≤ 134217728) × Reads text object × (rule_broken object ≡ None)
Applies text (Text number) = (length text ≤ 134217728) × IsTextFault text number
Applies text (Order number) = (length text ≤ 134217728) × (IsOrderFault text number ⊎ Lacks text number)
Applies text (Broken error) = (length text ≤ 134217728) × (object : Object) × Reads text object × (rule_broken object ≡ Some error)
