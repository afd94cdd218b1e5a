-- What a sink records after one more line, and after a failed put.
use Rattle.std.proofs.Common.{◌≡◌, ℕ, zero, suc, ◌+◌, ◌-◌, ◌<◌, ◌≤◌, max, take, add-one, List, [], ◌∷◌, ◌++◌, length}
use Rattle.std.proofs.Common.{map, get_or, Vec, Global, refl, sym, ap, ◌∙◌, subst, arith}
use Rattle.std.proofs.lemmas.List.{map-append}
use Rattle.std.proofs.Math.Seq.{take-suc}
use Rattle.ft_isa.specs.Words.{cell_address, line}
use Rattle.ft_isa.specs.declared.output.Output.{Output}
use Rattle.ft_edge.specs.Lines.{BreaksOff, with_lines}
use Rattle.ft_edge.specs.Logs.{SinkLog}
use Rattle.ft_edge.proofs.Lines.{lines_then, breaks_then, breaks_before}
use Rattle.ft_meaning.specs.Lines.{name_of, line_of, output_lines}
use Rattle.ft_meaning.specs.Begins.{Begins}
use Rattle.ft_meaning.specs.Room.{HasRoom}
use Rattle.ft_meaning.specs.Runs.{told}

-- writing one more line records one more output
pub told_push : (names : List (List ℕ)) (first before after : SinkLog) (o : List Output) (x : Output)
    → before ≡ told names first o
    → after ≡ with_lines (line_of names x ∷ []) before → after ≡ told names first (o ++ x ∷ [])
told_push names first before after o x h p =
    lines_then (output_lines names o) (line_of names x ∷ []) first before after h p
    ∙ ap (λ ls. with_lines ls first) (sym (map-append (line_of names) o (x ∷ [])))

-- a failed put breaks off the outputs at the last line
pub breaks_here : (names : List (List ℕ)) (first before after : SinkLog) (o : List Output) (x : Output)
    → before ≡ told names first o
    → BreaksOff (line_of names x ∷ []) before after → BreaksOff (output_lines names (o ++ x ∷ [])) first after
breaks_here names first before after o x h b =
    subst (λ ls. BreaksOff ls first after) (sym (map-append (line_of names) o (x ∷ [])))
    (breaks_then (output_lines names o) (line_of names x ∷ []) first before after h b)

-- a put that failed also breaks off a longer list of outputs
pub breaks_longer : (names : List (List ℕ)) (old new : SinkLog) (xs ys : List Output)
    → BreaksOff (output_lines names xs) old new → Begins xs ys → BreaksOff (output_lines names ys) old new
breaks_longer names old new xs ys b more =
    subst (λ ls. BreaksOff ls old new) (sym (map-append (line_of names) xs more.0) ∙ ap (output_lines names) more.1)
    (breaks_before (output_lines names xs) (output_lines names more.0) old new b)

-- the name of a cell is the one that the code finds
pub name_found : (xs : List (Vec ℕ Global)) (k : ℕ) (d : Vec ℕ Global) → k < length xs →
    name_of (map (λ n. n.items) xs) k ≡ (get_or xs k d).items
name_found [] k d h = absurd (omega arith)
name_found (x ∷ xs) zero d h = refl
name_found (x ∷ xs) (suc k) d h = name_found xs k d (omega arith)

-- a name is no longer than the room for names
pub room_for : (names : List (List ℕ)) (room k : ℕ) → HasRoom names room → length (name_of names k) ≤ room
room_for [] room k h = omega arith
room_for (n ∷ names) room zero h = h.0
room_for (n ∷ names) room (suc k) h = room_for names room k h.1

-- the line of a cell's output has the cell's name and the value
pub line_is : (names : List (List ℕ)) (k v : ℕ) (name : List ℕ) → name_of names k ≡ name →
    line_of names (record { addr = cell_address k; value = v }) ≡ line name v
line_is names k v name h =
    let e : cell_address k - cell_address 0 ≡ k = omega arith in
    ap (λ m. line (name_of names m) v) e ∙ ap (λ n. line n v) h

-- if no name is longer than `a`, none is longer than any `b` that is at least `a`
pub more_room : (names : List (List ℕ)) (a b : ℕ) → a ≤ b → HasRoom names a → HasRoom names b
more_room [] a b le h = tt
more_room (n ∷ names) a b le h = (omega (arith, h.0), more_room names a b le h.1)

room_push : (names : List (List ℕ)) (n : List ℕ) (room : ℕ) → HasRoom names room → length n ≤ room →
    HasRoom (names ++ n ∷ []) room
room_push [] n room h g = (g, tt)
room_push (m ∷ names) n room h g = (h.0, room_push names n room h.1 g)

map_push : (xs : List (Vec ℕ Global)) (x : Vec ℕ Global) → map (λ n. n.items) (xs ++ x ∷ []) ≡ map (λ n. n.items) xs
    ++ x.items ∷ []
map_push [] x = refl
map_push (y ∷ xs) x = ap (λ v. y.items ∷ v) (map_push xs x)

-- with one more name, the room needed is the larger of its length and the room so far
pub room_step : (xs : List (Vec ℕ Global)) (i a b : ℕ) (d : Vec ℕ Global) → i < length xs →
    HasRoom (map (λ n. n.items) (take i xs)) a → b ≡ max (length (get_or xs i d).items) a →
    HasRoom (map (λ n. n.items) (take (i + 1) xs)) b
room_step xs i a b d h r e =
    subst (λ v. HasRoom (map (λ n. n.items) v) b) (rw add-one (sym (take-suc xs i d h)))
    (subst (λ v. HasRoom v b) (sym (map_push (take i xs) (get_or xs i d)))
    (room_push (map (λ n. n.items) (take i xs)) (get_or xs i d).items b
    (more_room (map (λ n. n.items) (take i xs)) a b (omega (arith, e)) r) (omega (arith, e))))
