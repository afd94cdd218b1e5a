-- Names as slices of the name bytes.
use Rattle.std.proofs.Common.{◌≡◌, ℕ, zero, suc, ◌+◌, ◌-◌, ◌*◌, ◌≤◌, Bool, true, false, List, [], ◌∷◌, ◌++◌, length}
use Rattle.std.proofs.Common.{take, drop, Option, None, Some, refl, sym, ap, ◌∙◌, arith}
use Rattle.std.specs.Prelude.{◌||◌}
use Rattle.std.specs.List.{list_any}
use Rattle.std.proofs.lemmas.List.{length-drop, length-take-le}
use Rattle.ft_types.specs.declared.object.Cell.{Cell}
use Rattle.ft_format.specs.declared.object_error.ObjectError.{ObjectError}
use Rattle.ft_format.specs.declared.version.Version.{Version}
use Rattle.ft_format.specs.Layout.{numbers, rows, cell_layout}
use Rattle.ft_format.specs.Rules.{◌next◌}
use Rattle.ft_format.specs.Values.{past_of, cell_of, cells_of}
use Rattle.ft_format.specs.Broken.{name_broken, names_broken}
use Rattle.ft_format.proofs.Layouts.{rows_more, rows_none}
use Rattle.ft_view.specs.Ends.{AreEnds}
use Rattle.ft_view.specs.Viewed.{last_end}
use Rattle.ft_view.proofs.RowsAfter.{rows_snoc}

-- the remaining rows are the first of them and those after it
first_row : (m n : ℕ) (bs row : List ℕ) → m ≡ suc n → row ≡ numbers cell_layout (take 16 bs) → rows cell_layout m bs
    ≡ row ∷ rows cell_layout n (drop 16 bs)
first_row m n bs row e is = rows_more cell_layout m n bs e ∙ ap (λ r. r ∷ rows cell_layout n (drop 16 bs)) (sym is)

-- if the first cell fails a test, the others decide whether any cell passes it
pub any_more : (f : Cell → Bool) (names : List ℕ) (start m n : ℕ) (bs row : List ℕ) (all : Bool) → m ≡ suc n → row
    ≡ numbers cell_layout (take 16 bs) → f (cell_of names start row) ≡ false
    → list_any f (cells_of names start (rows cell_layout m bs)) ≡ all →
    list_any f (cells_of names (past_of row) (rows cell_layout n (drop 16 bs))) ≡ all
any_more f names start m n bs row all e is other h =
    let rest = list_any f (cells_of names (past_of row) (rows cell_layout n (drop 16 bs))) in
    sym (ap (λ rs. list_any f (cells_of names start rs)) (first_row m n bs row e is) ∙ ap (λ b. b || rest) other) ∙ h

-- if the first cell passes a test, some cell passes it
pub any_here : (f : Cell → Bool) (names : List ℕ) (start m n : ℕ) (bs row : List ℕ) (all : Bool) → m ≡ suc n → row
    ≡ numbers cell_layout (take 16 bs) → f (cell_of names start row) ≡ true
    → list_any f (cells_of names start (rows cell_layout m bs)) ≡ all → true ≡ all
any_here f names start m n bs row all e is same h =
    let rest = list_any f (cells_of names (past_of row) (rows cell_layout n (drop 16 bs))) in
    sym (ap (λ rs. list_any f (cells_of names start rs)) (first_row m n bs row e is) ∙ ap (λ b. b || rest) same) ∙ h

-- if no cell is left, none passes a test
pub any_none : (f : Cell → Bool) (names : List ℕ) (start m : ℕ) (bs : List ℕ) (all : Bool) → m ≡ 0 →
    list_any f (cells_of names start (rows cell_layout m bs)) ≡ all → false ≡ all
any_none f names start m bs all e h = sym (ap (λ rs. list_any f (cells_of names start rs))
    (rows_none cell_layout m bs e)) ∙ h

-- if the ends in some records do not decrease, neither do those in the first of these records
pub ends_first : (end_of : List ℕ → ℕ) (all start n i : ℕ) (bs : List ℕ) → i ≤ n →
    AreEnds end_of all start (rows cell_layout n bs) → AreEnds end_of all start (rows cell_layout i bs)
unfolding rows AreEnds
ends_first end_of all start n zero bs le h = tt
ends_first end_of all start zero (suc i) bs le h = absurd (omega arith)
ends_first end_of all start (suc n) (suc i) bs le h =
    (h.0, h.1, ends_first end_of all (end_of (numbers cell_layout (take 16 bs))) n i (drop 16 bs) (omega arith) h.2)

-- one more record appends one more cell, whose name begins where the others end
cells_snoc : (names : List ℕ) (start : ℕ) (rs : List (List ℕ)) (r : List ℕ) → cells_of names start (rs ++ r ∷ [])
    ≡ cells_of names start rs ++ cell_of names (last_end past_of start rs) r ∷ []
cells_snoc names start [] r = refl
cells_snoc names start (x ∷ rs) r = ap (λ l. cell_of names start x ∷ l) (cells_snoc names (past_of x) rs r)

last_snoc : (start : ℕ) (rs : List (List ℕ)) (r : List ℕ) → last_end past_of start (rs ++ r ∷ []) ≡ past_of r
last_snoc start [] r = refl
last_snoc start (x ∷ rs) r = last_snoc (past_of x) rs r

-- the next name begins where the last one ends
pub last_more : (i : ℕ) (records rest row : List ℕ) → rest ≡ drop (16 * i) records → row
    ≡ numbers cell_layout (take 16 rest) → past_of row ≡ last_end past_of 0 (rows cell_layout (i + 1) records)
last_more i records rest row at is = sym (ap (last_end past_of 0) (rows_snoc cell_layout i records rest row at is)
    ∙ last_snoc 0 (rows cell_layout i records) row)

-- after a name that breaks no rule, the result is that of the remaining names
pub name_goes : (v : Version) (end at start i m n past refs base code_type init : ℕ) (names records rest : List ℕ)
    (broken : Option ObjectError) → m ≡ suc n
    → past ∷ refs ∷ base ∷ code_type ∷ init ∷ [] ≡ numbers cell_layout (take 16 rest) → rest ≡ drop (16 * i) records →
    start ≡ last_end past_of 0 (rows cell_layout i records)
    → start ≤ past → past ≤ length names
    → name_broken v (cells_of names 0 (rows cell_layout i records)) (at + start)
    (take (past - start) (drop start names)) ≡ None
    → names_broken v end (cells_of names 0 (rows cell_layout i records)) (at + start)
    (cells_of names start (rows cell_layout m rest)) ≡ broken
    → names_broken v end (cells_of names 0 (rows cell_layout (i + 1) records)) (at + past)
    (cells_of names past (rows cell_layout n (drop 16 rest))) ≡ broken
unfolding names_broken
name_goes v end at start i m n past refs base code_type init names records rest broken e is from last le within none h =
    let row : List ℕ = past ∷ refs ∷ base ∷ code_type ∷ init ∷ [] in
    let earlier = cells_of names 0 (rows cell_layout i records) in
    let after = cells_of names past (rows cell_layout n (drop 16 rest)) in
    let cell = cell_of names start row in
    let name : List ℕ = take (past - start) (drop start names) in
    let step : names_broken v end earlier (at + start) (cells_of names start (rows cell_layout m rest))
    ≡ names_broken v end (earlier ++ cell ∷ []) (at + start + length name) after =
    ap (λ rs. names_broken v end earlier (at + start) (cells_of names start rs)) (first_row m n rest row e is)
    ∙ ap (λ r. r next names_broken v end (earlier ++ cell ∷ []) (at + start + length name) after) none in
    let long : length name ≡ past - start = length-take-le (past - start) (drop start names)
    (omega (arith, length-drop start names)) in
    let place : at + start + length name ≡ at + past = omega (arith, long) in
    let more : cells_of names 0 (rows cell_layout (i + 1) records) ≡ earlier ++ cell ∷ [] =
    ap (cells_of names 0) (rows_snoc cell_layout i records rest row from is)
    ∙ cells_snoc names 0 (rows cell_layout i records) row
    ∙ ap (λ s. earlier ++ cell_of names s row ∷ []) (sym last) in
    ap (λ cs. names_broken v end cs (at + past) after) more
    ∙ ap (λ p. names_broken v end (earlier ++ cell ∷ []) p after) (sym place) ∙ sym step ∙ h

-- a name that breaks a rule determines the result
pub name_halts : (v : Version) (end at start m n past refs base code_type init : ℕ) (names rest : List ℕ)
    (earlier : List Cell) (broken : Option ObjectError) (why : ObjectError) → m ≡ suc n
    → past ∷ refs ∷ base ∷ code_type ∷ init ∷ [] ≡ numbers cell_layout (take 16 rest)
    → name_broken v earlier (at + start) (take (past - start) (drop start names)) ≡ Some why
    → names_broken v end earlier (at + start) (cells_of names start (rows cell_layout m rest)) ≡ broken → broken
    ≡ Some why
unfolding names_broken
name_halts v end at start m n past refs base code_type init names rest earlier broken why e is some h =
    let row : List ℕ = past ∷ refs ∷ base ∷ code_type ∷ init ∷ [] in
    let after = cells_of names past (rows cell_layout n (drop 16 rest)) in
    let cell = cell_of names start row in
    sym h ∙ ap (λ rs. names_broken v end earlier (at + start) (cells_of names start rs)) (first_row m n rest row e is)
    ∙ ap (λ r. r next names_broken v end (earlier ++ cell ∷ [])
    (at + start + length (take (past - start) (drop start names))) after) some

-- if no name is left, the result is the one for an empty list
pub names_end : (v : Version) (end place start m : ℕ) (names rest : List ℕ) (earlier : List Cell)
    (broken : Option ObjectError) → m ≡ 0
    → names_broken v end earlier place (cells_of names start (rows cell_layout m rest)) ≡ broken → broken
    ≡ names_broken v end earlier place []
names_end v end place start m names rest earlier broken e h = sym h
    ∙ ap (λ rs. names_broken v end earlier place (cells_of names start rs)) (rows_none cell_layout m rest e)

-- zero records encode no cells
pub no_cells : (names records : List ℕ) → cells_of names 0 (rows cell_layout 0 records) ≡ []
unfolding rows
no_cells names records = refl

pub no_past : (records : List ℕ) → 0 ≡ last_end past_of 0 (rows cell_layout 0 records)
unfolding rows
no_past records = refl
