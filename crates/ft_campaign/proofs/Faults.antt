-- A text is at most one fault list, has at most one refusal, and is never both a list and refused.
use Rattle.std.proofs.Common.{◌≡◌, ◌≢◌, ◌⊎◌, ℕ, ◌+◌, ◌<◌, ◌≤◌, List, [], ◌∷◌, ◌++◌, length, drop, get_or, Some, Vec}
use Rattle.std.proofs.Common.{Global, Result, Ok, Err, inl, inr, refl, ap, sym, ◌∙◌, subst, ⊎_elim, arith, append_assoc}
use Rattle.std.specs.Prelude.{IfOk, IfErr, MatchResult}
use Rattle.std.proofs.lemmas.Bool.{cases_lt}
use Rattle.std.proofs.lemmas.List.{length-append}
use Rattle.std.proofs.lemmas.Slice.Zip.{AllZip-long, all_zipped_more}
use Rattle.ft_isa.specs.PlanText.{IsStrikeText}
use Rattle.ft_isa.specs.declared.plan.Strike.{Strike}
use Rattle.ft_isa.proofs.StrikeRead.{strike_reader}
use Rattle.ft_campaign.specs.declared.fault_list.ListError.{ListError}
use Rattle.ft_campaign.specs.declared.fault_list.ListError.TheVariants.{Line, TooMany, NoMemory}
use Rattle.ft_text.specs.Lines.{lines_of}
use Rattle.ft_campaign.specs.FaultList.{AreStrikeTexts, IsFaultList, GoesOn, IsFirstBad, IsLong, IsListError}

-- WHAT WAS READ

-- if the next line is the text of a strike, it is added to what was read
pub read_more : (lines done rest : List (List ℕ)) (faults : List Strike) (line : List ℕ) (more : List (List ℕ))
    (x : Strike) → lines ≡ done ++ rest → rest ≡ line ∷ more → AreStrikeTexts done faults → IsStrikeText line x
    → (before : List (List ℕ)) × (lines ≡ before ++ more) × AreStrikeTexts before (faults ++ x ∷ [])
read_more lines done rest faults line more x e f texts h = (
  done ++ line ∷ [],
  e ∙ ap (λ l. done ++ l) f ∙ sym (append_assoc done (line ∷ []) more),
  all_zipped_more IsStrikeText done faults line x texts h,
)

-- a line follows those that were read
pub goes_on : (lines done rest : List (List ℕ)) (faults : List Strike) (line : List ℕ) (more : List (List ℕ)) → lines
    ≡ done ++ rest → rest ≡ line ∷ more → AreStrikeTexts done faults → GoesOn lines done line
goes_on lines done rest faults line more e f texts = record {
  faults = faults;
  texts = texts;
  after = more;
  whole = e ∙ ap (λ l. done ++ l) f;
}

-- ONE LIST

same_strike : (line : List ℕ) (x y : Strike) → IsStrikeText line x → IsStrikeText line y → x ≡ y
same_strike line x y h i = let e : Some x ≡ Some y = sym (strike_reader.complete line x h)
    ∙ strike_reader.complete line y i in cc

same_faults : (lines : List (List ℕ)) (xs ys : List Strike) → AreStrikeTexts lines xs → AreStrikeTexts lines ys → xs
    ≡ ys
same_faults [] [] [] h i = refl
same_faults [] [] (y ∷ ys) h i = absurd i
same_faults [] (x ∷ xs) ys h i = absurd h
same_faults (l ∷ ls) [] ys h i = absurd h
same_faults (l ∷ ls) (x ∷ xs) [] h i = absurd i
same_faults (l ∷ ls) (x ∷ xs) (y ∷ ys) h i = ap (λ z. z ∷ xs) (same_strike l x y h.0 i.0)
    ∙ ap (λ zs. y ∷ zs) (same_faults ls xs ys h.1 i.1)

-- a text is at most one fault list
pub one_list : (text : List ℕ) (xs ys : List Strike) → IsFaultList text xs → IsFaultList text ys → xs ≡ ys
one_list text xs ys h i = same_faults (lines_of text) xs ys h.lines i.lines

-- ONE REFUSAL

-- if the first lines are strikes, a line that is not a strike is not among them
not_before : (bs cs : List (List ℕ)) (l m : List ℕ) (ps qs : List (List ℕ)) (ys : List Strike) → bs ++ l ∷ ps ≡ cs
    ++ m ∷ qs → AreStrikeTexts cs ys → ((x : Strike) → ¬ (IsStrikeText l x)) → ¬ (length bs < length cs)
not_before [] [] l m ps qs ys e h bad lt = absurd (omega arith)
not_before [] (c ∷ cs) l m ps qs [] e h bad lt = absurd h
not_before [] (c ∷ cs) l m ps qs (y ∷ ys) e h bad lt =
    bad y (subst (λ (t : List ℕ). IsStrikeText t y) (sym (ap (λ ls. get_or ls 0 []) e)) h.0)
not_before (b ∷ bs) [] l m ps qs ys e h bad lt = absurd (omega arith)
not_before (b ∷ bs) (c ∷ cs) l m ps qs [] e h bad lt = absurd h
not_before (b ∷ bs) (c ∷ cs) l m ps qs (y ∷ ys) e h bad lt =
    not_before bs cs l m ps qs ys (ap (drop 1) e) h.1 bad (omega arith)

-- if one line is not a strike, the lines do not spell strikes
no_texts : (bs : List (List ℕ)) (l : List ℕ) (ps : List (List ℕ)) (ys : List Strike) →
    AreStrikeTexts (bs ++ l ∷ ps) ys → ((x : Strike) → ¬ (IsStrikeText l x)) → ⊥
no_texts [] l ps [] h bad = absurd h
no_texts [] l ps (y ∷ ys) h bad = bad y h.0
no_texts (b ∷ bs) l ps [] h bad = absurd h
no_texts (b ∷ bs) l ps (y ∷ ys) h bad = no_texts bs l ps ys h.1 bad

-- a fault list is not refused
pub no_error : (text : List ℕ) (xs : List Strike) (e : ListError) → e ≢ NoMemory → IsFaultList text xs →
    ¬ (IsListError text e)
no_error text xs (Line number) ne h i =
    no_texts i.1.before i.1.line i.1.goes_on.after xs (subst (λ (ls : List (List ℕ)).
    AreStrikeTexts ls xs) i.1.goes_on.whole h.lines) i.1.bad
no_error text xs TooMany ne h i =
    ⊎_elim
    (λ (long : 4194304 < length text). let short = h.short in absurd (omega arith))
    (λ (more : (length text ≤ 4194304) × IsLong (lines_of text)).
    let l = more.1 in
    let all = AllZip-long IsStrikeText (lines_of text) xs h.lines in
    let whole = ap length l.goes_on.whole ∙ length-append l.before (l.line ∷ l.goes_on.after) in
    let few = h.few in
    let counted = l.counted in
    absurd (omega arith))
    i
no_error text xs NoMemory ne h i = ne refl

early_line : (lines : List (List ℕ)) (number : ℕ) → IsFirstBad lines number → ¬ (IsLong lines)
early_line lines number h l =
    not_before h.before l.before h.line l.line h.goes_on.after l.goes_on.after l.goes_on.faults (sym h.goes_on.whole
    ∙ l.goes_on.whole) l.goes_on.texts h.bad
    (let a = h.counted in let b = h.early in let d = l.counted in omega arith)

same_line : (lines : List (List ℕ)) (n m : ℕ) → IsFirstBad lines n → IsFirstBad lines m → n ≡ m
same_line lines n m h i =
    let a = not_before h.before i.before h.line i.line h.goes_on.after i.goes_on.after i.goes_on.faults
    (sym h.goes_on.whole ∙ i.goes_on.whole) i.goes_on.texts h.bad in
    let b = not_before i.before h.before i.line h.line i.goes_on.after h.goes_on.after h.goes_on.faults
    (sym i.goes_on.whole ∙ h.goes_on.whole) h.goes_on.texts i.bad in
    let long : length h.before ≡ length i.before =
    ⊎_elim (λ (lt : length h.before < length i.before). absurd (a lt)) (λ (le : length i.before ≤ length h.before).
    ⊎_elim (λ (lt : length i.before < length h.before). absurd (b lt)) (λ (ge : length h.before ≤ length i.before).
    omega arith) (cases_lt (length i.before) (length h.before))) (cases_lt (length h.before) (length i.before)) in
    h.counted ∙ ap (λ k. k + 1) long ∙ sym i.counted

not_long : (text : List ℕ) (number : ℕ) → IsListError text (Line number) → IsListError text TooMany → ⊥
not_long text number h i =
    ⊎_elim
    (λ (long : 4194304 < length text). let short : length text ≤ 4194304 = h.0 in absurd (omega arith))
    (λ (more : (length text ≤ 4194304) × IsLong (lines_of text)). early_line (lines_of text) number h.1 more.1)
    i

-- a text has at most one refusal
pub one_error : (text : List ℕ) (e f : ListError) → e ≢ NoMemory → f ≢ NoMemory → IsListError text e →
    IsListError text f → e ≡ f
one_error text (Line n) (Line m) ne nf h i = ap Line (same_line (lines_of text) n m h.1 i.1)
one_error text (Line n) TooMany ne nf h i = absurd (not_long text n h i)
one_error text (Line n) NoMemory ne nf h i = absurd (nf refl)
one_error text TooMany (Line m) ne nf h i = absurd (not_long text m i h)
one_error text TooMany TooMany ne nf h i = refl
one_error text TooMany NoMemory ne nf h i = absurd (nf refl)
one_error text NoMemory f ne nf h i = absurd (ne refl)

-- EXACT ANSWERS

-- a fault list is read as its faults, unless memory runs out
pub exact_list : (text : List ℕ) (r : Result (Vec Strike Global) ListError) → IfOk r (λ v. IsFaultList text v.items) →
    IfErr r (IsListError text) → (xs : List Strike) → IsFaultList text xs →
    MatchResult r (λ v. v.items ≡ xs) (λ e. e ≡ NoMemory)
exact_list text (Ok v) ok err xs h = same_faults (lines_of text) v.items xs ok.lines h.lines
exact_list text (Err (Line n)) ok err xs h = absurd (no_error text xs (Line n) (λ e. cc) h err)
exact_list text (Err TooMany) ok err xs h = absurd (no_error text xs TooMany (λ e. cc) h err)
exact_list text (Err NoMemory) ok err xs h = refl

-- reading a text that is refused returns its refusal, unless memory runs out
pub exact_error : (text : List ℕ) (r : Result (Vec Strike Global) ListError) → IfOk r (λ v. IsFaultList text v.items) →
    IfErr r (IsListError text) → (e : ListError) → e ≢ NoMemory → IsListError text e →
    MatchResult r (λ v. ⊥) (λ f. (f ≡ e) ⊎ (f ≡ NoMemory))
exact_error text (Ok v) ok err e ne h = no_error text v.items e ne ok h
exact_error text (Err (Line n)) ok err e ne h = inl (one_error text (Line n) e (λ d. cc) ne err h)
exact_error text (Err TooMany) ok err e ne h = inl (one_error text TooMany e (λ d. cc) ne err h)
exact_error text (Err NoMemory) ok err e ne h = inr refl
