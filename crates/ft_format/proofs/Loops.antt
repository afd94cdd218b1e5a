-- A loop over records: at each iteration, the result for the remaining records is the result for all of them.
use Rattle.std.proofs.Common.{◌≡◌, ℕ, suc, List, [], ◌∷◌, ◌++◌, ◌+◌, ◌*◌, take, drop, Option, None, Some, sym, ap, ◌∙◌}
use Rattle.std.proofs.Common.{append_assoc, arith}
use Rattle.std.specs.Int.{Width}
use Rattle.std.proofs.lemmas.List.{append-nil, drop-drop}
use Rattle.ft_format.specs.declared.object_error.ObjectError.{ObjectError}
use Rattle.ft_format.specs.Layout.{size, numbers, rows}
use Rattle.ft_format.specs.Rules.{◌next◌}
use Rattle.ft_format.proofs.Layouts.{rows_more, rows_none}

-- the remaining rows are the first of them and those after it
first_row : (ws : List Width) (m n : ℕ) (bs row : List ℕ) → m ≡ suc n → row ≡ numbers ws (take (size ws) bs) →
    rows ws m bs ≡ row ∷ rows ws n (drop (size ws) bs)
first_row ws m n bs row e is = rows_more ws m n bs e ∙ ap (λ r. r ∷ rows ws n (drop (size ws) bs)) (sym is)

-- after a record that breaks no rule, the result is that of the remaining records
pub goes : (ws : List Width) (m n : ℕ) (bs row : List ℕ) (rule broken : Option ObjectError)
    (judge after : List (List ℕ) → Option ObjectError)
    → m ≡ suc n → row ≡ numbers ws (take (size ws) bs) →
    ((rest : List (List ℕ)) → judge (row ∷ rest) ≡ rule next after rest) → rule ≡ None
    → judge (rows ws m bs) ≡ broken → after (rows ws n (drop (size ws) bs)) ≡ broken
goes ws m n bs row rule broken judge after e is more none h =
    let rest = rows ws n (drop (size ws) bs) in
    sym (ap judge (first_row ws m n bs row e is) ∙ more rest ∙ ap (λ r. r next after rest) none) ∙ h

-- a record that breaks a rule determines the result
pub stops : (ws : List Width) (m n : ℕ) (bs row : List ℕ) (rule broken : Option ObjectError) (why : ObjectError)
    (judge after : List (List ℕ) → Option ObjectError)
    → m ≡ suc n → row ≡ numbers ws (take (size ws) bs) →
    ((rest : List (List ℕ)) → judge (row ∷ rest) ≡ rule next after rest) → rule ≡ Some why
    → judge (rows ws m bs) ≡ broken → broken ≡ Some why
stops ws m n bs row rule broken why judge after e is more some h =
    let rest = rows ws n (drop (size ws) bs) in
    sym h ∙ ap judge (first_row ws m n bs row e is) ∙ more rest ∙ ap (λ r. r next after rest) some

-- if no record is left, the result is the one for an empty list
pub ends : (ws : List Width) (m : ℕ) (bs : List ℕ) (broken last : Option ObjectError) (judge : List (List ℕ) →
    Option ObjectError)
    → m ≡ 0 → judge [] ≡ last → judge (rows ws m bs) ≡ broken → broken ≡ last
ends ws m bs broken last judge e none h = sym h ∙ ap judge (rows_none ws m bs e) ∙ none

-- after a value is read, the values read so far and those of the remaining records are still all the values
pub gives : {A : Type 0} (ws : List Width) (m n : ℕ) (bs row : List ℕ) (done all : List A) (v : A)
    (values after : List (List ℕ) → List A)
    → m ≡ suc n → row ≡ numbers ws (take (size ws) bs) → ((rest : List (List ℕ)) → values (row ∷ rest) ≡ v ∷ after rest)
    → done ++ values (rows ws m bs) ≡ all → (done ++ v ∷ []) ++ after (rows ws n (drop (size ws) bs)) ≡ all
gives ws m n bs row done all v values after e is more h =
    let rest = rows ws n (drop (size ws) bs) in
    append_assoc done (v ∷ []) (after rest) ∙ ap (λ l. done
    ++ l) (sym (ap values (first_row ws m n bs row e is) ∙ more rest)) ∙ h

-- if no record is left, the values read so far are all the values
pub given : {A : Type 0} (ws : List Width) (m : ℕ) (bs : List ℕ) (done all : List A) (values : List (List ℕ) → List A)
    → m ≡ 0 → values [] ≡ [] → done ++ values (rows ws m bs) ≡ all → done ≡ all
given ws m bs done all values e none h = sym (append-nil done)
    ∙ ap (λ l. done ++ l) (sym (ap values (rows_none ws m bs e) ∙ none)) ∙ h

-- a value computed from the remaining rows stays the same after a row that does not affect it
pub follows : {A : Type 0} (ws : List Width) (m n : ℕ) (bs row : List ℕ) (all : A) (tells after : List (List ℕ) → A)
    → m ≡ suc n → row ≡ numbers ws (take (size ws) bs) → ((rest : List (List ℕ)) → tells (row ∷ rest) ≡ after rest)
    → tells (rows ws m bs) ≡ all → after (rows ws n (drop (size ws) bs)) ≡ all
follows ws m n bs row all tells after e is more h =
    let rest = rows ws n (drop (size ws) bs) in
    sym (ap tells (first_row ws m n bs row e is) ∙ more rest) ∙ h

-- dropping one more record after the first i drops the first i + 1
pub past_more : (size i : ℕ) (bytes rest : List ℕ) → rest ≡ drop (size * i) bytes → drop size rest
    ≡ drop (size * (i + 1)) bytes
past_more size i bytes rest h =
    let k : size * (i + 1) ≡ size * i + size = omega arith in
    rw (h, k) (drop-drop size (size * i) bytes)
