-- How the answer follows from the lines so far and those that are left.
use Rattle.std.proofs.Common.{◌≡◌, ℕ, suc, ◌+◌, Bool, true, false, List, [], ◌∷◌, Option, Some, None, nat_lt, length}
use Rattle.std.proofs.Common.{refl, ap, sym, ◌∙◌, subst, add-one}
use Rattle.std.specs.Prelude.{if◌then◌else◌}
use Rattle.std.specs.List.{AllZip}
use Rattle.std.proofs.lemmas.Bool.{cond-true, cond-false}
use Rattle.ft_link_map.specs.declared.link_map.LinkMap.{LinkMap}
use Rattle.ft_link_map.specs.MapLines.{MapLine, Says}
use Rattle.ft_link_map.specs.MapAnswers.{with_line, with_lines, may_stand, first_bad, repeats, first_twice, Answer, Is}
use Rattle.ft_link_map.specs.MapAnswers.{Line, Twice, answered, answer_of}
use Rattle.ft_link_map.specs.declared.draft.Draft.{Draft}
use Rattle.ft_link_map.specs.declared.draft.Turn.{Turn}
use Rattle.ft_link_map.specs.declared.draft.Turn.TheVariants.{On, Again, Stuck}
use Rattle.ft_link_map.specs.Held.{Holds, Takes, Ends, first_of}
use Rattle.ft_link_map.proofs.OneLine.{one_line}

-- the first repeated line: the one found so far, or else the first of those that are left
abbrev sooner : Option ℕ → Option ℕ → Option ℕ
sooner (Some number) later = Some number
sooner None later = later

-- the answer if these lines follow the lines so far
abbrev answer_from : LinkMap → Option ℕ → ℕ → List MapLine → Answer
answer_from m twice count ls = answered (first_bad m count ls) (sooner twice (first_twice m count ls))
    (with_lines m count ls)

-- the invariant of the walk: for every reading of all lines, the lines that are left have a reading with the same
-- answer
abbrev pub Leads : List (List ℕ) → LinkMap → Option ℕ → ℕ → List (List ℕ) → Type 0
Leads all m twice count left = (said : List MapLine) → AllZip Says all said → (rest : List MapLine)
    × AllZip Says left rest × (answer_of said ≡ answer_from m twice count rest)

-- the first repeated line up to and including the next line, given whether that one repeats
abbrev next_twice : Option ℕ → Bool → ℕ → Option ℕ
next_twice (Some first) again number = Some first
next_twice None again number = if again then Some number else None

-- the first repeated line is the same if the next line is counted among those so far
sooner_step : (twice : Option ℕ) (again : Bool) (number : ℕ) (later : Option ℕ) →
    sooner twice (if again then Some number else later) ≡ sooner (next_twice twice again number) later
sooner_step (Some n) again number later = refl
sooner_step None true number later = refl
sooner_step None false number later = refl

-- a correctly placed line does not change the answer when it joins the lines so far
answer_step : (m : LinkMap) (twice : Option ℕ) (count : ℕ) (l : MapLine) (ls : List MapLine) → may_stand m l ≡ true →
    answer_from m twice count (l ∷ ls) ≡ answer_from (with_line m (suc count) l)
    (next_twice twice (repeats m l) (suc count)) (suc count) ls
answer_step m twice count l ls may =
    let after = with_line m (suc count) l in
    ap (λ o. answered o (sooner twice (first_twice m count (l ∷ ls))) (with_lines after (suc count) ls))
    (cond-true (may_stand m l) (first_bad after (suc count) ls) (Some (suc count)) may)
    ∙ ap (λ o. answered (first_bad after (suc count) ls) o (with_lines after (suc count) ls))
    (sooner_step twice (repeats m l) (suc count) (first_twice after (suc count) ls))

-- after a correctly placed line, the lines after it have a reading with the same answer
step_by : (all : List (List ℕ)) (m : LinkMap) (twice : Option ℕ) (count : ℕ) (line : List ℕ) (after : List (List ℕ))
    (l : MapLine) (said rest : List MapLine) → Says line l → may_stand m l ≡ true → AllZip Says (line ∷ after) rest →
    answer_of said ≡ answer_from m twice count rest
    → (others : List MapLine) × AllZip Says after others
    × (answer_of said ≡ answer_from (with_line m (suc count) l) (next_twice twice (repeats m l) (suc count))
    (suc count) others)
step_by all m twice count line after l said [] says may h e = absurd h
step_by all m twice count line after l said (k ∷ ks) says may h e =
    let same : k ≡ l = one_line line k l h.0 says in
    (ks, h.1, e ∙ ap (λ x. answer_from m twice count (x ∷ ks)) same ∙ answer_step m twice count l ks may)

-- the invariant holds after a correctly placed line
leads_on : (all : List (List ℕ)) (m : LinkMap) (twice : Option ℕ) (count : ℕ) (left : List (List ℕ)) (line : List ℕ)
    (after : List (List ℕ)) (l : MapLine) → Leads all m twice count left → left ≡ line ∷ after → Says line l →
    may_stand m l ≡ true
    → Leads all (with_line m (suc count) l) (next_twice twice (repeats m l) (suc count)) (suc count) after
leads_on all m twice count left line after l h e says may = λ said are.
    let x = h said are in
    step_by all m twice count line after l said x.0 says may (subst (λ (ts : List (List ℕ)). AllZip Says ts x.0) e x.1)
    x.2

-- if the next line is misplaced, the answer is its number
stop_by : (m : LinkMap) (twice : Option ℕ) (count : ℕ) (line : List ℕ) (after : List (List ℕ)) (l : MapLine)
    (said rest : List MapLine) → Says line l → may_stand m l ≡ false → AllZip Says (line ∷ after) rest → answer_of said
    ≡ answer_from m twice count rest → answer_of said ≡ Line (suc count)
stop_by m twice count line after l said [] says may h e = absurd h
stop_by m twice count line after l said (k ∷ ks) says may h e =
    let same : k ≡ l = one_line line k l h.0 says in
    let not_here : may_stand m k ≡ false = ap (may_stand m) same ∙ may in
    let next = with_line m (suc count) k in
    e ∙ ap (λ o. answered o (sooner twice (first_twice m count (k ∷ ks))) (with_lines m count (k ∷ ks)))
    (cond-false (may_stand m k) (first_bad next (suc count) ks) (Some (suc count)) not_here)

-- if the draft holds the map after a correctly placed line, the invariant holds too
taken : (all : List (List ℕ)) (d : Draft) (m : LinkMap) (twice r : Option ℕ) (count : ℕ) (left : List (List ℕ))
    (line : List ℕ) (after : List (List ℕ)) (l : MapLine) → Leads all m twice count left → left ≡ line ∷ after →
    Says line l
    → may_stand m l ≡ true → Holds d (with_line m (count + 1) l) → r ≡ next_twice twice (repeats m l) (count + 1) →
    (x : LinkMap) × Holds d x × Leads all x r (count + 1) after
taken all d m twice r count left line after l h e says may holds first =
    let leads : Leads all (with_line m (count + 1) l) (next_twice twice (repeats m l) (count + 1)) (count + 1) after =
    subst (λ k. Leads all (with_line m k l) (next_twice twice (repeats m l) k) k after) (sym (add-one count))
    (leads_on all m twice count left line after l h e says may) in (
      with_line m (count + 1) l,
      holds,
      subst (λ (o : Option ℕ).
          Leads all (with_line m (count + 1) l) o (count + 1) after) (sym first) leads,
    )

-- `first_of` is `next_twice` for a repeated line
first_again : (twice : Option ℕ) (number : ℕ) → first_of twice Again number ≡ next_twice twice true number
first_again (Some n) number = refl
first_again None number = refl

-- `first_of` is `next_twice` for a line that does not repeat
first_on : (twice : Option ℕ) (number : ℕ) → first_of twice On number ≡ next_twice twice false number
first_on (Some n) number = refl
first_on None number = refl

-- after the draft accepts a line, the invariant holds
pub takes_more : (all : List (List ℕ)) (d : Draft) (m : LinkMap) (twice r : Option ℕ) (count : ℕ) (left : List (List ℕ))
    (line : List ℕ) (after : List (List ℕ)) (l : MapLine) (t : Turn)
    → Leads all m twice count left → left ≡ line ∷ after → Says line l → Takes t d m (count + 1) l → (t ≡ Stuck → ⊥) → r
    ≡ first_of twice t (count + 1) → (x : LinkMap) × Holds d x × Leads all x r (count + 1) after
takes_more all d m twice r count left line after l On h e says takes is first =
    taken all d m twice r count left line after l h e says takes.0 takes.2 (first ∙ first_on twice (count + 1)
    ∙ ap (λ b. next_twice twice b (count + 1)) (sym takes.1))
takes_more all d m twice r count left line after l Again h e says takes is first =
    taken all d m twice r count left line after l h e says takes.0 takes.2 (first ∙ first_again twice (count + 1)
    ∙ ap (λ b. next_twice twice b (count + 1)) (sym takes.1))
takes_more all d m twice r count left line after l Stuck h e says takes is first = absurd (is refl)

-- if the next line is misplaced, the answer is its number, by the invariant
leads_nowhere : (all : List (List ℕ)) (m : LinkMap) (twice : Option ℕ) (count : ℕ) (left : List (List ℕ))
    (line : List ℕ) (after : List (List ℕ)) (l : MapLine) → Leads all m twice count left → left ≡ line ∷ after →
    Says line l → may_stand m l ≡ false
    → (said : List MapLine) → AllZip Says all said → answer_of said ≡ Line (suc count)
leads_nowhere all m twice count left line after l h e says may said are =
    let x = h said are in
    stop_by m twice count line after l said x.0 says may (subst (λ (ts : List (List ℕ)). AllZip Says ts x.0) e x.1) x.2

-- if the draft does not accept a line, the answer is its number
pub takes_none : (all : List (List ℕ)) (d : Draft) (m : LinkMap) (twice : Option ℕ) (count : ℕ) (left : List (List ℕ))
    (line : List ℕ) (after : List (List ℕ)) (l : MapLine) (t : Turn)
    → Leads all m twice count left → left ≡ line ∷ after → Says line l → Takes t d m (count + 1) l → t ≡ Stuck →
    (said : List MapLine) → AllZip Says all said → answer_of said ≡ Line (count + 1)
takes_none all d m twice count left line after l Stuck h e says takes is said are =
    leads_nowhere all m twice count left line after l h e says takes said are ∙ ap Line (sym (add-one count))
takes_none all d m twice count left line after l On h e says takes is said are = absurd cc
takes_none all d m twice count left line after l Again h e says takes is said are = absurd cc

-- the answer at the end
abbrev end_answer : LinkMap → Option ℕ → ℕ → Answer
end_answer m twice count = answered (if nat_lt 0 (length m.files) then None else Some (suc count)) (sooner twice None) m

-- if no lines are left, the answer is the one at the end
end_by : (m : LinkMap) (twice : Option ℕ) (count : ℕ) (said rest : List MapLine) → AllZip Says [] rest → answer_of said
    ≡ answer_from m twice count rest → answer_of said ≡ end_answer m twice count
end_by m twice count said [] h e = e
end_by m twice count said (k ∷ ks) h e = absurd h

-- likewise, by the invariant
leads_end : (all : List (List ℕ)) (m : LinkMap) (twice : Option ℕ) (count : ℕ) (left : List (List ℕ)) →
    Leads all m twice count left → left ≡ [] → (said : List MapLine) → AllZip Says all said → answer_of said
    ≡ end_answer m twice count
leads_end all m twice count left h e said are =
    let x = h said are in
    end_by m twice count said x.0 (subst (λ (ts : List (List ℕ)). AllZip Says ts x.0) e x.1) x.2

-- without a module, the answer at the end is the number of the line after the last
pub ends_early : (all : List (List ℕ)) (m : LinkMap) (twice : Option ℕ) (count : ℕ) (left : List (List ℕ)) →
    Leads all m twice count left → left ≡ [] → nat_lt 0 (length m.files) ≡ false
    → (said : List MapLine) → AllZip Says all said → answer_of said ≡ Line (count + 1)
ends_early all m twice count left h e none said are =
    leads_end all m twice count left h e said are ∙ ap (λ b.
    answered (if b then None else Some (suc count)) (sooner twice None) m) none ∙ ap Line (sym (add-one count))

-- after a repeated line, the answer at the end is the number of the first one
pub ends_twice : (all : List (List ℕ)) (m map : LinkMap) (twice : Option ℕ) (number count : ℕ) (left : List (List ℕ)) →
    Leads all m twice count left → left ≡ [] → Ends (Some map) m → twice ≡ Some number
    → (said : List MapLine) → AllZip Says all said → answer_of said ≡ Twice number
ends_twice all m map twice number count left h e ends is said are =
    leads_end all m twice count left h e said are ∙ ap (λ b.
    answered (if b then None else Some (suc count)) (sooner twice None) m) ends.0
    ∙ ap (λ o. answered None (sooner o None) m) is

-- if there is a module and no line is repeated, the answer at the end is the map
pub ends_well : (all : List (List ℕ)) (m map : LinkMap) (twice : Option ℕ) (count : ℕ) (left : List (List ℕ)) →
    Leads all m twice count left → left ≡ [] → Ends (Some map) m → twice ≡ None
    → (said : List MapLine) → AllZip Says all said → answer_of said ≡ Is map
ends_well all m map twice count left h e ends is said are =
    leads_end all m twice count left h e said are ∙ ap (λ b.
    answered (if b then None else Some (suc count)) (sooner twice None) m) ends.0
    ∙ ap (λ o. answered None (sooner o None) m) is ∙ ap Is (sym ends.1)
