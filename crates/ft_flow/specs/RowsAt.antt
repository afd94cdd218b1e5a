-- The code's rows as plain data: private to the code.
use Rattle.std.specs.Prelude.{List, Result, Ok, Err}
use Rattle.ft_text.specs.Lines.{lines_of}
use Rattle.ft_flow.specs.LineWords.{line_words}
use Rattle.ft_flow.specs.Heads.{Said, said, Head, Declaration}
use Rattle.ft_flow.specs.declared.rows.Row.{Row}
use Rattle.ft_flow.specs.declared.heads.Head as heads
use Rattle.ft_flow.specs.declared.heads.Declaration as declarations
use Rattle.ft_flow.specs.declared.flow_error.FlowError.{FlowError}

-- what a line says
abbrev pub row_at : Row → Said
row_at r = record { number = r.number; words = line_words r.line.now }

-- the lines after it that say something
abbrev pub rows_after : Row → List Said
rows_after r = said r.next (lines_of r.rest.now)

-- a result with another value, if it is `Ok`
abbrev pub map_ok : {A B : Type 0} → (A → B) → Result A FlowError → Result B FlowError
map_ok f (Ok a) = Ok (f a)
map_ok f (Err e) = Err e

-- what the head of a text says
abbrev pub head_at : heads.Head → Head
head_at h = record { vars = h.vars; rest = said h.next (lines_of h.rest.now) }

-- what a line declares
abbrev pub declaration_at : declarations.Declaration → Declaration
declaration_at t = record { array = t.array; name = t.name.now; words = t.words.items }
