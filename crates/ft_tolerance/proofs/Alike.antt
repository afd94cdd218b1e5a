-- One step keeps states alike, or the struck machine is detected.
use Rattle.std.proofs.Common.{◌≡◌, ◌≢◌, ℕ, zero, suc, Bool, true, false, cond, if◌then◌else◌, List, [], ◌∷◌, length}
use Rattle.std.proofs.Common.{◌==◌, Option, Some, None, refl, ap, subst, arith, length-append, length-drop, eqb-true}
use Rattle.ft_isa.specs.declared.colour.Colour.{Colour}
use Rattle.ft_isa.specs.declared.colour.Colour.TheVariants.{Green, Blue}
use Rattle.ft_isa.specs.declared.colour.Coloured.{Coloured}
use Rattle.ft_isa.specs.declared.instr.Instr.{Instr}
use Rattle.ft_isa.specs.declared.instr.Instr.TheVariants.{Ld, St}
use Rattle.ft_isa.specs.declared.plan.Site.{Site}
use Rattle.ft_isa.specs.declared.plan.Site.TheVariants.{R, D, PcG, PcB, QAddr, QVal}
use Rattle.ft_isa.specs.declared.plan.Wild.{Wild}
use Rattle.ft_isa.specs.Pending.{Pending, with_address, with_value}
use Rattle.ft_types.specs.declared.object.Object.{Object}
use Rattle.ft_semantics.specs.declared.status.Status.{Status}
use Rattle.ft_semantics.specs.declared.status.Status.TheVariants.{Running, Done, Detected}
use Rattle.ft_semantics.specs.State.{State, Registers, held, with_held}
use Rattle.ft_semantics.specs.Step.{execute, advance, step_at, step}
use Rattle.ft_semantics.specs.Strike.{is_there, with_word, struck_state}
use Rattle.ft_tolerance.specs.Alike.{AreAlikeWords, AreAlikeRegisters, AreAlike, colour_of_site, Follows, keeps_alike}
use Rattle.ft_tolerance.specs.Alike.{is_detected}
use Rattle.ft_semantics.proofs.Held.{held-with_held}
use Rattle.ft_tolerance.proofs.WantedColours.{Wants}

-- the same choice between alike registers gives alike registers
alike_cond : (c : Colour) (b : Bool) (x y f g : Coloured) → AreAlikeWords c x y → AreAlikeWords c f g →
    AreAlikeWords c (cond b x f) (cond b y g)
alike_cond c true x y f g p q = p
alike_cond c false x y f g p q = q

-- registers stay alike if alike words are written
alike_write : (c : Colour) (m n : Registers) (r : ℕ) (x y : Coloured) → AreAlikeRegisters c m n → x.colour ≡ y.colour →
    (x.colour ≢ c → x.word ≡ y.word) → AreAlikeRegisters c (with_held m r x) (with_held n r y)
unfolding AreAlikeRegisters
alike_write c m n r x y h p q = λ k. rw (
  held-with_held m r x k,
  held-with_held n r y k,
) (alike_cond c (k == r) x y (held m k) (held n k) (record { colour = p; word = q }) (h k))

-- alike registers have equal colours
alike_colour : (c : Colour) (m n : Registers) (r : ℕ) → AreAlikeRegisters c m n → (held m r).colour ≡ (held n r).colour
unfolding AreAlikeRegisters
alike_colour c m n r h = (h r).colour

-- alike registers of the other colour have equal words
alike_word : (c : Colour) (m n : Registers) (r : ℕ) → AreAlikeRegisters c m n → (held m r).colour ≢ c → (held m r).word
    ≡ (held n r).word
unfolding AreAlikeRegisters
alike_word c m n r h = (h r).word

ruleset alikes = (alike_write, alike_colour, alike_word, keeps_alike, is_detected)

-- executing an instruction in two alike states keeps them alike, or the second is detected
execute_row : (c : Colour) (s t : State) (w v : List Wild) (i : Instr) → AreAlike c s t → Wants i s →
    (execute i s w).state.status ≢ Detected → Follows c (execute i s w) (execute i t v)
execute_row c s t w v (Ld Green rd rs) h f ok = grind (arith, alikes)
execute_row c s t w v (Ld Blue rd rs) h f ok = grind (arith, alikes)
execute_row c s t w v (St Green rd rs) h f ok = grind (arith, length-append, alikes)
execute_row c s t w v (St Blue rd rs) h f ok = grind (arith, length-drop, alikes)
execute_row c s t w v i h f ok = grind (arith, alikes)

-- so does fetching an instruction, or executing the fetched one
advance_row : (c : Colour) (s t : State) (w v : List Wild) (o : Object) (x : Option Instr) → AreAlike c s t →
    ((i : Instr) → x ≡ Some i → Wants i s) → (advance o x s w).state.status ≢ Detected →
    Follows c (advance o x s w) (advance o x t v)
advance_row c s t w v o None h f ok = grind (arith, alikes)
advance_row c s t w v o (Some i) h f ok = execute_row c s t w v i h (f i refl) ok

-- so does a step, whatever the status
step_by : (c : Colour) (s t : State) (w v : List Wild) (o : Object) (x : Status) → AreAlike c s t →
    (x ≡ Running → (i : Instr) → s.fetched ≡ Some i → Wants i s) → (step_at o x s w).state.status ≢ Detected →
    Follows c (step_at o x s w) (step_at o x t v)
step_by c s t w v o Running h f ok = subst (λ (x : Option Instr). Follows c (advance o s.fetched s w) (advance o x t v))
    h.fetched (advance_row c s t w v o s.fetched h (f refl) ok)
step_by c s t w v o Done h f ok = keeps_alike h refl
step_by c s t w v o Detected h f ok = keeps_alike h refl

-- if the first of two alike states has what its instruction requires, a step from each keeps them alike, or the second
-- is detected
pub alike_step : (c : Colour) (o : Object) (s t : State) (w v : List Wild) → AreAlike c s t →
    (s.status ≡ Running → (i : Instr) → s.fetched ≡ Some i → Wants i s) → (step o s w).state.status ≢ Detected →
    Follows c (step o s w) (step o t v)
alike_step c o s t w v h f ok = subst (λ (x : Status). Follows c (step o s w) (step_at o x t v)) h.status
    (step_by c s t w v o s.status h f ok)

-- A STRIKE

-- registers are alike to themselves
pub alike_itself : (c : Colour) (m : Registers) → AreAlikeRegisters c m m
unfolding AreAlikeRegisters
alike_itself c m = λ r. record { colour = refl; word = λ _. refl }

struck_words : (x y : Coloured) (b : Bool) (v : ℕ) → (b ≡ true → x ≡ y) →
    AreAlikeWords y.colour x (cond b (record { colour = y.colour; word = v }) x)
struck_words x y true v e = record {
  colour = ap (λ (h : Coloured). h.colour) (e refl);
  word = λ ne. absurd (ne (ap (λ (h : Coloured). h.colour) (e refl)));
}
struck_words x y false v e = record { colour = refl; word = λ _. refl }

-- changing the word of one register leaves the registers alike, for the colour of that register
struck_register : (m : Registers) (r v : ℕ) → AreAlikeRegisters (held m r).colour m
    (with_held m r (record { colour = (held m r).colour; word = v }))
unfolding AreAlikeRegisters
struck_register m r v = λ q. rw (held-with_held m r (record { colour = (held m r).colour; word = v }) q)
    (struck_words (held m q) (held m r) (q == r) v (λ e. ap (held m) (eqb-true q r e)))

length-with_address : (q : Pending) (i v : ℕ) → length (with_address q i v) ≡ length q
unfolding with_address
length-with_address [] i v = refl
length-with_address (e ∷ q) zero v = refl
length-with_address (e ∷ q) (suc i) v = ap suc (length-with_address q i v)

length-with_value : (q : Pending) (i v : ℕ) → length (with_value q i v) ≡ length q
unfolding with_value
length-with_value [] i v = refl
length-with_value (e ∷ q) zero v = refl
length-with_value (e ∷ q) (suc i) v = ap suc (length-with_value q i v)

ruleset strikes = (alike_itself, struck_register, length-with_address, length-with_value)

-- states that differ in the word at a site are alike, for the colour of the site
word_alike : (s : State) (site : Site) (v : ℕ) → AreAlike (colour_of_site s site) s (with_word site v s)
word_alike s (R r) v = grind (arith, strikes)
word_alike s D v = grind (arith, strikes)
word_alike s PcG v = grind (arith, strikes)
word_alike s PcB v = grind (arith, strikes)
word_alike s (QAddr i) v = grind (arith, strikes)
word_alike s (QVal i) v = grind (arith, strikes)

alike_or_same : (c : Colour) (b : Bool) (s t : State) → AreAlike c s t → AreAlike c s (if b then t else s)
alike_or_same c true s t h = h
alike_or_same c false s t h = grind (arith, strikes)

-- a state and the struck state are alike, for the colour of the site
pub strike_alike : (s : State) (site : Site) (v : ℕ) → AreAlike (colour_of_site s site) s (struck_state s site v)
strike_alike s site v = alike_or_same (colour_of_site s site) (is_there s site) s (with_word site v s)
    (word_alike s site v)
