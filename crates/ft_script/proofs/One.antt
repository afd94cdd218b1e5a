-- A line gives only one command.
use Rattle.std.proofs.Common.{◌≡◌, ◌⊎◌, inl, inr, ⊎_elim, ℕ, ◌^◌, ◌<◌, ◌≤◌, ◌==◌, List, [], ◌∷◌, ◌++◌, Some, decimal}
use Rattle.std.proofs.Common.{codes, refl, ap, sym, ◌∙◌, lit<, arith}
use Rattle.std.specs.Prelude.{if◌then◌else◌}
use Rattle.std.specs.List.{AllZip}
use Rattle.std.proofs.lemmas.List.{append_cancel_left}
use Rattle.std.proofs.lemmas.Fmt.{decimal_injective}
use Rattle.ft_isa.specs.PlanText.{IsSite, site_text, strike_text}
use Rattle.ft_isa.specs.declared.plan.Site.{Site}
use Rattle.ft_isa.specs.declared.plan.Site.TheVariants as sites
use Rattle.ft_isa.specs.declared.plan.Strike.{Strike}
use Rattle.ft_isa.proofs.StrikeRead.{strike_reader}
use Rattle.ft_text.proofs.FirstWords.{one_split}
use Rattle.ft_script.specs.declared.register.Register.{Register}
use Rattle.ft_script.specs.declared.register.Register.TheVariants as registers
use Rattle.ft_script.specs.Commands.{Command, Step, Go, Back, Zap, Reg, Queue, Cell, Where, Break, Bad, IsText, Gives}
use Rattle.ft_script.specs.Commands.{site_of, register_text}
use Rattle.ft_script.proofs.Spaces.{decimal_no_space, site_no_space}

-- SITES AND REGISTERS

-- a text spells only one site
one_site : (s t : Site) → IsSite s → IsSite t → site_text s ≡ site_text t → s ≡ t
one_site s t hs ht e =
    let x : Strike = record { step = 0; site = s; value = 0 } in
    let y : Strike = record { step = 0; site = t; value = 0 } in
    let same : strike_text x ≡ strike_text y = ap (λ l. decimal 0 ++ codes ":" ++ l ++ codes ":" ++ decimal 0) e in
    let read : Some x ≡ Some y = sym (strike_reader.complete (strike_text x) x ((lit< tt, hs, lit< tt), refl))
    ∙ strike_reader.complete (strike_text x) y ((lit< tt, ht, lit< tt), same) in
    let strikes : x ≡ y = cc in
    ap (λ (z : Strike). z.site) strikes

is_site : (r : Register) → IsSite (site_of r)
is_site (registers.R reg) = tt
is_site registers.D = tt
is_site registers.PcG = tt
is_site registers.PcB = tt

-- the register of a site
abbrev register_of : Site → Register
register_of (sites.R reg) = registers.R reg
register_of sites.D = registers.D
register_of sites.PcG = registers.PcG
register_of sites.PcB = registers.PcB
register_of (sites.QAddr n) = registers.D
register_of (sites.QVal n) = registers.D

there_and_back : (r : Register) → register_of (site_of r) ≡ r
there_and_back (registers.R reg) = refl
there_and_back registers.D = refl
there_and_back registers.PcG = refl
there_and_back registers.PcB = refl

one_register : (r q : Register) → register_text r ≡ register_text q → r ≡ q
one_register r q e = sym (there_and_back r) ∙ ap register_of
    (one_site (site_of r) (site_of q) (is_site r) (is_site q) e) ∙ there_and_back q

-- WORDS

one_number : (piece line : List ℕ) (n m : ℕ) → n < 2 ^ 64 → m < 2 ^ 64 → line ≡ piece ++ decimal n → line ≡ piece
    ++ decimal m → n ≡ m
one_number piece line n m hn hm e f = decimal_injective n m hn hm
    (append_cancel_left piece (decimal n) (decimal m) (sym e ∙ f))

-- COMMANDS

-- which command a line may be, by its first bytes
abbrev kind_b : List ℕ → ℕ
kind_b [] = 0
kind_b (byte ∷ bytes) = if byte == 97 then 3 else 4

abbrev kind_of_line : List ℕ → ℕ
kind_of_line [] = 0
kind_of_line (byte ∷ bytes) = if byte == 115 then 1
    else (if byte == 103 then 2 else (if byte == 98 then kind_b bytes
    else (if byte == 122 then 5 else (if byte == 114 then 6
    else (if byte == 113 then 7 else (if byte == 99 then 8 else 9))))))

abbrev kind_of : Command → ℕ
kind_of (Step n) = 1
kind_of (Go n) = 2
kind_of (Back n) = 3
kind_of (Break block index) = 4
kind_of (Zap site value) = 5
kind_of (Reg register) = 6
kind_of Queue = 7
kind_of (Cell name) = 8
kind_of Where = 9
kind_of Bad = 0

kind_is : (c : Command) (line : List ℕ) → IsText c line → kind_of_line line ≡ kind_of c
kind_is (Step n) line h = ap kind_of_line h.1
kind_is (Go n) line h = ap kind_of_line h.1
kind_is (Back n) line h = ap kind_of_line h.1
kind_is (Zap site value) line h = ap kind_of_line h.2
kind_is (Reg register) line h = ap kind_of_line h
kind_is Queue line h = ap kind_of_line h
kind_is (Cell name) line h = ap kind_of_line h.1
kind_is Where line h = ap kind_of_line h
kind_is (Break block index) line h = ap kind_of_line h.2
kind_is Bad line h = absurd h

same_kind : (line : List ℕ) (c d : Command) → kind_of c ≡ kind_of d → IsText c line → IsText d line → c ≡ d
same_kind line (Step n) (Step m) e h i = let few : n ≤ 1000000 = h.0 in let less : m ≤ 1000000 = i.0 in
    ap Step (one_number (codes "step ") line n m (omega arith) (omega arith) h.1 i.1)
same_kind line (Go n) (Go m) e h i = let few : n ≤ 1000000 = h.0 in let less : m ≤ 1000000 = i.0 in
    ap Go (one_number (codes "go ") line n m (omega arith) (omega arith) h.1 i.1)
same_kind line (Back n) (Back m) e h i = let few : n ≤ 1000000 = h.0 in let less : m ≤ 1000000 = i.0 in
    ap Back (one_number (codes "back ") line n m (omega arith) (omega arith) h.1 i.1)
same_kind line (Zap s v) (Zap t w) e h i =
    let parts = one_split (site_text s ++ codes " " ++ decimal v) (site_text s) (decimal v) (site_text t) (decimal w)
    (site_no_space s h.0) (site_no_space t i.0) refl (append_cancel_left (codes "zap ") _ _ (sym h.2 ∙ i.2)) in
    ap (λ x. Zap x v) (one_site s t h.0 i.0 parts.0) ∙ ap (Zap t) (decimal_injective v w h.1 i.1 parts.1)
same_kind line (Reg r) (Reg q) e h i = ap Reg (one_register r q
    (append_cancel_left (codes "reg ") (register_text r) (register_text q) (sym h ∙ i)))
same_kind line Queue Queue e h i = refl
same_kind line (Cell a) (Cell b) e h i = ap Cell (append_cancel_left (codes "cell ") a b (sym h.1 ∙ i.1))
same_kind line Where Where e h i = refl
same_kind line (Break b x) (Break c y) e h i =
    let parts = one_split (decimal b ++ codes " " ++ decimal x) (decimal b) (decimal x) (decimal c) (decimal y)
    (decimal_no_space b h.0) (decimal_no_space c i.0) refl (append_cancel_left (codes "break ") _ _ (sym h.2 ∙ i.2))
    in
    ap (λ z. Break z x) (decimal_injective b c h.0 i.0 parts.0) ∙ ap (Break c) (decimal_injective x y h.1 i.1 parts.1)
same_kind line Bad d e h i = absurd h
same_kind line c d e h i = absurd (omega arith)

one_text : (line : List ℕ) (c d : Command) → IsText c line → IsText d line → c ≡ d
one_text line c d h i = same_kind line c d (sym (kind_is c line h) ∙ kind_is d line i) h i

-- a line is the text of the command that it gives, or of no command
told : (line : List ℕ) (c : Command) → Gives line c → IsText c line ⊎ ((c ≡ Bad) × ((d : Command) → ¬ (IsText d line)))
told line Bad h = inr (refl, h)
told line (Step n) h = inl h
told line (Go n) h = inl h
told line (Back n) h = inl h
told line (Zap site value) h = inl h
told line (Reg register) h = inl h
told line Queue h = inl h
told line (Cell name) h = inl h
told line Where h = inl h
told line (Break block index) h = inl h

-- a line gives only one command
one_command : (line : List ℕ) (c d : Command) → Gives line c → Gives line d → c ≡ d
one_command line c d h i =
    ⊎_elim
    (λ (text : IsText c line).
    ⊎_elim (λ (other : IsText d line). one_text line c d text other)
    (λ (bad : (d ≡ Bad) × ((e : Command) → ¬ (IsText e line))). absurd (bad.1 c text)) (told line d i))
    (λ (bad : (c ≡ Bad) × ((e : Command) → ¬ (IsText e line))).
    ⊎_elim (λ (other : IsText d line). absurd (bad.1 d other))
    (λ (too : (d ≡ Bad) × ((e : Command) → ¬ (IsText e line))). bad.0 ∙ sym too.0) (told line d i))
    (told line c h)

-- lines give only one list of commands
pub one_list : (lines : List (List ℕ)) (cs ds : List Command) → AllZip Gives lines cs → AllZip Gives lines ds → cs ≡ ds
one_list [] [] [] h i = refl
one_list [] [] (d ∷ ds) h i = absurd i
one_list [] (c ∷ cs) ds h i = absurd h
one_list (l ∷ ls) [] ds h i = absurd h
one_list (l ∷ ls) (c ∷ cs) [] h i = absurd i
one_list (l ∷ ls) (c ∷ cs) (d ∷ ds) h i = ap (λ x. x ∷ cs) (one_command l c d h.0 i.0)
    ∙ ap (λ xs. d ∷ xs) (one_list ls cs ds h.1 i.1)
