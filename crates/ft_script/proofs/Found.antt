-- Each line gives a command: it is the text of some command, or of none.
use Rattle.std.proofs.Common.{◌≡◌, ◌≢◌, ◌⊎◌, inl, inr, ℕ, ◌<◌, ◌≤◌, Bool, true, false, List, [], ◌∷◌, ◌++◌, length}
use Rattle.std.proofs.Common.{Option, Some, None, decimal, codes, refl, ap, sym, ◌∙◌, arith}
use Rattle.std.specs.Prelude.{position}
use Rattle.std.specs.List.{AllZip}
use Rattle.std.specs.Str.{bytes_eq}
use Rattle.std.proofs.lemmas.Bool.{true≢false}
use Rattle.std.proofs.lemmas.Slice.Eq.{bytes_eq-Decides}
use Rattle.ft_isa.specs.Words.{IsWord}
use Rattle.ft_isa.specs.PlanText.{IsSite, site_text}
use Rattle.ft_isa.specs.declared.reg.Reg.{Reg}
use Rattle.ft_isa.specs.declared.plan.Site.{Site}
use Rattle.ft_isa.specs.declared.plan.Site.TheVariants as sites
use Rattle.ft_text.proofs.FirstWords.{is_space, no_space_found, found_no_space}
use Rattle.ft_text.proofs.Decided.{IsDecided, IsOf, moved, after_piece, BothGood, with_space, two_words, word_found}
use Rattle.ft_text.proofs.Decided.{IsBelow, below_found, itself}
use Rattle.ft_script.specs.declared.register.Register.{Register}
use Rattle.ft_script.specs.declared.register.Register.TheVariants as registers
use Rattle.ft_script.specs.Commands as commands
use Rattle.ft_script.specs.Commands.{Command, IsCount, IsLineWord, IsText, Gives, register_text}
use Rattle.ft_script.proofs.Spaces.{decimal_no_space, site_no_space}

-- any value is good
abbrev IsAny : {A : Type 0} → A → Type 0
IsAny x = Unit {0}

-- cases: what the test says of two texts
same_at : (line text : List ℕ) (b : Bool) → bytes_eq line text ≡ b → (line ≡ text) ⊎ (line ≢ text)
same_at line text true e = inl ((bytes_eq-Decides line text).0 e)
same_at line text false e = inr (λ h. true≢false (sym ((bytes_eq-Decides line text).1 h) ∙ e))

-- two texts are the same or not
same_found : (line text : List ℕ) → (line ≡ text) ⊎ (line ≢ text)
same_found line text = same_at line text (bytes_eq line text) refl

-- NUMBERS

place_found : (text : List ℕ) → IsDecided (IsOf (IsBelow 8) decimal text)
place_found text = below_found 8 (omega arith) text

count_found : (text : List ℕ) → IsDecided (IsOf IsCount decimal text)
count_found text =
    moved (IsOf (IsBelow 1000001) decimal text) (IsOf IsCount decimal text) (λ n h. (let below : n < 1000001 = h.0 in
    let few : n ≤ 1000000 = omega arith in (n, (few, h.1))))
    (λ n h. (let few : n ≤ 1000000 = h.0 in let below : n < 1000001 = omega arith in (n, (below, h.1))))
    (below_found 1000001 (omega arith) text)

-- REGISTERS, SITES AND NAMES

abbrev reg_decimal : Reg → List ℕ
reg_decimal reg = decimal reg.number

reg_found : (text : List ℕ) → IsDecided (IsOf IsAny reg_decimal text)
reg_found text =
    moved (IsOf (IsBelow 64) decimal text) (IsOf IsAny reg_decimal text) (λ n h.
    (record { number = n; in_range = h.0 }, (tt, h.1))) (λ reg h. (reg.number, (reg.in_range, h.1)))
    (below_found 64 (omega arith) text)

no_register : (text : List ℕ) → text ≢ codes "d" → text ≢ codes "pcg" → text ≢ codes "pcb" →
    ((reg : Reg) → ¬ (IsOf IsAny (λ reg. codes "r" ++ reg_decimal reg) text reg)) → (r : Register) →
    ¬ (IsOf IsAny register_text text r)
no_register text d g b none (registers.R reg) h = none reg (tt, h.1)
no_register text d g b none registers.D h = d h.1
no_register text d g b none registers.PcG h = g h.1
no_register text d g b none registers.PcB h = b h.1

register_by : (text : List ℕ) → (text ≡ codes "d") ⊎ (text ≢ codes "d") → (text ≡ codes "pcg") ⊎ (text ≢ codes "pcg") →
    (text ≡ codes "pcb") ⊎ (text ≢ codes "pcb") → IsDecided (IsOf IsAny (λ reg. codes "r" ++ reg_decimal reg) text)
    → IsDecided (IsOf IsAny register_text text)
register_by text (inl e) g b r = inl (registers.D, (tt, e))
register_by text (inr d) (inl e) b r = inl (registers.PcG, (tt, e))
register_by text (inr d) (inr g) (inl e) r = inl (registers.PcB, (tt, e))
register_by text (inr d) (inr g) (inr b) (inl x) = inl (registers.R x.0, (tt, x.1.1))
register_by text (inr d) (inr g) (inr b) (inr none) = inr (no_register text d g b none)

register_found : (text : List ℕ) → IsDecided (IsOf IsAny register_text text)
register_found text = register_by text (same_found text (codes "d")) (same_found text (codes "pcg"))
    (same_found text (codes "pcb")) (after_piece IsAny reg_decimal reg_found (codes "r") text)

no_site : (text : List ℕ) → ((r : Register) → ¬ (IsOf IsAny register_text text r)) →
    ((n : ℕ) → ¬ (IsOf (IsBelow 8) (λ n. codes "qa" ++ decimal n) text n)) →
    ((n : ℕ) → ¬ (IsOf (IsBelow 8) (λ n. codes "qv" ++ decimal n) text n))
    → (s : Site) → ¬ (IsOf IsSite site_text text s)
no_site text r a v (sites.R reg) h = r (registers.R reg) (tt, h.1)
no_site text r a v sites.D h = r registers.D (tt, h.1)
no_site text r a v sites.PcG h = r registers.PcG (tt, h.1)
no_site text r a v sites.PcB h = r registers.PcB (tt, h.1)
no_site text r a v (sites.QAddr n) h = a n h
no_site text r a v (sites.QVal n) h = v n h

site_of_register : (text : List ℕ) (r : Register) → text ≡ register_text r → IsDecided (IsOf IsSite site_text text)
site_of_register text (registers.R reg) e = inl (sites.R reg, (tt, e))
site_of_register text registers.D e = inl (sites.D, (tt, e))
site_of_register text registers.PcG e = inl (sites.PcG, (tt, e))
site_of_register text registers.PcB e = inl (sites.PcB, (tt, e))

site_by : (text : List ℕ) → IsDecided (IsOf IsAny register_text text) →
    IsDecided (IsOf (IsBelow 8) (λ n. codes "qa" ++ decimal n) text) →
    IsDecided (IsOf (IsBelow 8) (λ n. codes "qv" ++ decimal n) text) → IsDecided (IsOf IsSite site_text text)
site_by text (inl x) a v = site_of_register text x.0 x.1.1
site_by text (inr r) (inl x) v = inl (sites.QAddr x.0, x.1)
site_by text (inr r) (inr a) (inl x) = inl (sites.QVal x.0, x.1)
site_by text (inr r) (inr a) (inr v) = inr (no_site text r a v)

site_found : (text : List ℕ) → IsDecided (IsOf IsSite site_text text)
site_found text = site_by text (register_found text) (after_piece (IsBelow 8) decimal place_found (codes "qa") text)
    (after_piece (IsBelow 8) decimal place_found (codes "qv") text)

name_at : (text : List ℕ) (o : Option ℕ) → 0 < length text → position is_space text ≡ o →
    IsDecided (IsOf IsLineWord itself text)
name_at text None some e = inl (text, (record { some = some; no_space = found_no_space text e }, refl))
name_at text (Some at) some e = inr (λ name h. (let f : None ≡ Some at = sym (no_space_found name h.0.no_space)
    ∙ ap (position is_space) (sym h.1) ∙ e in absurd cc))

name_found : (text : List ℕ) → IsDecided (IsOf IsLineWord itself text)
name_found [] = inr (λ name h. (let none : 0 ≡ length name = ap length h.1 in let some = h.0.some in
    absurd (omega arith)))
name_found (b ∷ bs) = name_at (b ∷ bs) (position is_space (b ∷ bs)) (omega arith) refl

-- COMMANDS

zap_found : (text : List ℕ) → IsDecided (IsOf (BothGood IsSite IsWord) (with_space site_text decimal) text)
zap_found text = two_words IsSite site_text IsWord decimal site_no_space site_found word_found text

break_found : (text : List ℕ) → IsDecided (IsOf (BothGood IsWord IsWord) (with_space decimal decimal) text)
break_found text = two_words IsWord decimal IsWord decimal decimal_no_space word_found word_found text

-- what a line may be, kind by kind
abbrev IsCounted : List ℕ → List ℕ → ℕ → Type 0
IsCounted piece line = IsOf IsCount (λ n. piece ++ decimal n) line

abbrev IsZap : List ℕ → Site × ℕ → Type 0
IsZap line = IsOf (BothGood IsSite IsWord) (λ p. codes "zap " ++ with_space site_text decimal p) line

abbrev IsReg : List ℕ → Register → Type 0
IsReg line = IsOf IsAny (λ r. codes "reg " ++ register_text r) line

abbrev IsCell : List ℕ → List ℕ → Type 0
IsCell line = IsOf IsLineWord (λ name. codes "cell " ++ itself name) line

abbrev IsBreak : List ℕ → ℕ × ℕ → Type 0
IsBreak line = IsOf (BothGood IsWord IsWord) (λ p. codes "break " ++ with_space decimal decimal p) line

-- a line of none of these kinds spells no command
no_text : (line : List ℕ) → ((n : ℕ) → ¬ (IsCounted (codes "step ") line n)) →
    ((n : ℕ) → ¬ (IsCounted (codes "go ") line n)) → ((n : ℕ) → ¬ (IsCounted (codes "back ") line n)) →
    ((p : Site × ℕ) → ¬ (IsZap line p))
    → ((r : Register) → ¬ (IsReg line r)) → line ≢ codes "queue" → ((name : List ℕ) → ¬ (IsCell line name)) →
    line ≢ codes "where" → ((p : ℕ × ℕ) → ¬ (IsBreak line p)) → (c : Command) → ¬ (IsText c line)
no_text line s g b z r q n w k (commands.Step x) h = s x h
no_text line s g b z r q n w k (commands.Go x) h = g x h
no_text line s g b z r q n w k (commands.Back x) h = b x h
no_text line s g b z r q n w k (commands.Zap site value) h = z (site, value) ((h.0, h.1), h.2)
no_text line s g b z r q n w k (commands.Reg x) h = r x (tt, h)
no_text line s g b z r q n w k commands.Queue h = q h
no_text line s g b z r q n w k (commands.Cell name) h = n name h
no_text line s g b z r q n w k commands.Where h = w h
no_text line s g b z r q n w k (commands.Break block index) h = k (block, index) ((h.0, h.1), h.2)
no_text line s g b z r q n w k commands.Bad h = h

-- the kinds are tried one after another
by_kinds : (line : List ℕ) → IsDecided (IsCounted (codes "step ") line) → IsDecided (IsCounted (codes "go ") line) →
    IsDecided (IsCounted (codes "back ") line) → IsDecided (IsZap line)
    → IsDecided (IsReg line) → (line ≡ codes "queue") ⊎ (line ≢ codes "queue") → IsDecided (IsCell line) →
    (line ≡ codes "where") ⊎ (line ≢ codes "where") → IsDecided (IsBreak line) → (c : Command) × Gives line c
by_kinds line (inl x) g b z r q n w k = (commands.Step x.0, x.1)
by_kinds line (inr s) (inl x) b z r q n w k = (commands.Go x.0, x.1)
by_kinds line (inr s) (inr g) (inl x) z r q n w k = (commands.Back x.0, x.1)
by_kinds line (inr s) (inr g) (inr b) (inl x) r q n w k = (commands.Zap x.0.0 x.0.1, (x.1.0.0, x.1.0.1, x.1.1))
by_kinds line (inr s) (inr g) (inr b) (inr z) (inl x) q n w k = (commands.Reg x.0, x.1.1)
by_kinds line (inr s) (inr g) (inr b) (inr z) (inr r) (inl e) n w k = (commands.Queue, e)
by_kinds line (inr s) (inr g) (inr b) (inr z) (inr r) (inr q) (inl x) w k = (commands.Cell x.0, x.1)
by_kinds line (inr s) (inr g) (inr b) (inr z) (inr r) (inr q) (inr n) (inl e) k = (commands.Where, e)
by_kinds line (inr s) (inr g) (inr b) (inr z) (inr r) (inr q) (inr n) (inr w) (inl x) =
    (commands.Break x.0.0 x.0.1, (x.1.0.0, x.1.0.1, x.1.1))
by_kinds line (inr s) (inr g) (inr b) (inr z) (inr r) (inr q) (inr n) (inr w) (inr k) =
    (commands.Bad, no_text line s g b z r q n w k)

counted_found : (piece line : List ℕ) → IsDecided (IsCounted piece line)
counted_found piece line = after_piece IsCount decimal count_found piece line

-- a line gives a command
some_command : (line : List ℕ) → (c : Command) × Gives line c
some_command line =
    by_kinds line (counted_found (codes "step ") line) (counted_found (codes "go ") line)
    (counted_found (codes "back ") line)
    (after_piece (BothGood IsSite IsWord) (with_space site_text decimal) zap_found (codes "zap ") line)
    (after_piece IsAny register_text register_found (codes "reg ") line) (same_found line (codes "queue"))
    (after_piece IsLineWord itself name_found (codes "cell ") line)
    (same_found line (codes "where"))
    (after_piece (BothGood IsWord IsWord) (with_space decimal decimal) break_found (codes "break ") line)

-- lines give a list of commands
pub some_list : (lines : List (List ℕ)) → (cs : List Command) × AllZip Gives lines cs
some_list [] = ([], tt)
some_list (l ∷ ls) = (let c = some_command l in let cs = some_list ls in (c.0 ∷ cs.0, (c.1, cs.1)))
