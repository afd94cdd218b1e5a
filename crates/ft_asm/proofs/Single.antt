-- A text has at most one outcome.
use Rattle.std.proofs.Common.{◌≡◌, ◌⊎◌, inl, inr, Option, Some, None, ℕ, suc, true, List, [], ◌∷◌, ◌++◌, length, refl}
use Rattle.std.proofs.Common.{ap, sym, ◌∙◌, subst, append_assoc, append-nil, arith}
use Rattle.std.specs.Prelude.{if◌then◌else◌}
use Rattle.std.specs.List.{AllZip}
use Rattle.ft_types.specs.declared.object.Object.{Object}
use Rattle.ft_text.specs.Lines.{lines_of}
use Rattle.ft_asm.specs.declared.line.Line.{Line}
use Rattle.ft_text.specs.LineWords.{words_of}
use Rattle.ft_asm.specs.Words.{is_said, said_in}
use Rattle.ft_asm.specs.Lines.{IsForm}
use Rattle.ft_asm.specs.Listings.{listing_lines}
use Rattle.ft_format.specs.declared.object_error.ObjectError.{ObjectError}
use Rattle.ft_asm.specs.Reads.{Reads, Begin, IsTextFault, IsOrderFault, Lacks, Answer, Is, TooLong, Text, Order, Broken}
use Rattle.ft_asm.specs.Reads.{rule_broken, Applies}
use Rattle.ft_asm.proofs.Order.{one_reading}
use Rattle.ft_asm.proofs.Faults.{said_on}

-- two places in a list of lines are the same, or one is before the other
data Apart (xs ys : List (List ℕ)) (a b : List ℕ) : Type 0 where
  same : xs ≡ ys → a ≡ b → Apart xs ys a b
  first : (zs : List (List ℕ)) → ys ≡ xs ++ a ∷ zs → Apart xs ys a b
  second : (zs : List (List ℕ)) → xs ≡ ys ++ b ∷ zs → Apart xs ys a b

cons_parts : (x y : List ℕ) (xs ys : List (List ℕ)) → x ∷ xs ≡ y ∷ ys → (x ≡ y) × (xs ≡ ys)
cons_parts x y xs ys e = (cc, cc)

apart_on : (x y : List ℕ) (xs ys : List (List ℕ)) (a b : List ℕ) → x ≡ y → Apart xs ys a b → Apart (x ∷ xs) (y ∷ ys) a b
apart_on x y xs ys a b e (same f g) = same (ap (λ z. z ∷ xs) e ∙ ap (λ zs. y ∷ zs) f) g
apart_on x y xs ys a b e (first zs f) = first zs (ap (λ z. z ∷ ys) (sym e) ∙ ap (λ ws. x ∷ ws) f)
apart_on x y xs ys a b e (second zs f) = second zs (ap (λ z. z ∷ xs) e ∙ ap (λ ws. y ∷ ws) f)

apart : (xs ys cs bs : List (List ℕ)) (a b : List ℕ) → xs ++ a ∷ cs ≡ ys ++ b ∷ bs → Apart xs ys a b
apart [] [] cs bs a b e = same refl (cons_parts a b cs bs e).0
apart [] (y ∷ ys) cs bs a b e = first ys (ap (λ z. z ∷ ys) (sym (cons_parts a y cs (ys ++ b ∷ bs) e).0))
apart (x ∷ xs) [] cs bs a b e = second xs (ap (λ z. z ∷ xs) (cons_parts x b (xs ++ a ∷ cs) bs e).0)
apart (x ∷ xs) (y ∷ ys) cs bs a b e = let parts = cons_parts x y (xs ++ a ∷ cs) (ys ++ b ∷ bs) e in
    apart_on x y xs ys a b parts.0 (apart xs ys cs bs a b parts.1)

-- a prefix of lines that begin a text begins it too
begin_front : (xs ys : List (List ℕ)) → Begin (xs ++ ys) → Begin xs
begin_front xs ys b = record {
  whole = b.whole;
  object = b.object;
  reads = b.reads;
  rest = ys ++ b.rest;
  so_far = b.so_far ∙ append_assoc xs ys b.rest;
}

-- likewise, with the prefix given by an equation
begin_prefix : (texts xs ys : List (List ℕ)) → texts ≡ xs ++ ys → Begin texts → Begin xs
begin_prefix texts xs ys e b = begin_front xs ys (subst Begin e b)

-- the first line such that no text that reads as an object begins with the lines up to it
record First (text : List ℕ) (number : ℕ) : Type 0 where
  before : List (List ℕ)
  line : List ℕ
  after : List (List ℕ)
  split : lines_of text ≡ before ++ line ∷ after
  here : number ≡ suc (length before)
  begin : Begin before
  none : ¬ (Begin (before ++ line ∷ []))

zip_at : (ws : List (List (List ℕ))) (w : List (List ℕ)) (vs : List (List (List ℕ))) (ms : List Line) →
    AllZip IsForm (ws ++ w ∷ vs) ms → (m : Line) × IsForm w m
zip_at [] w vs [] h = absurd h
zip_at [] w vs (m ∷ ms) h = (m, h.0)
zip_at (u ∷ ws) w vs [] h = absurd h
zip_at (u ∷ ws) w vs (m ∷ ms) h = zip_at ws w vs ms h.1

-- no text that reads as an object begins with lines of which the last has none of the forms
formless : (texts : List (List ℕ)) (line : List ℕ) → is_said (words_of line) ≡ true →
    ((l : Line) → ¬ (IsForm (words_of line) l)) → ¬ (Begin (texts ++ line ∷ []))
formless texts line t none b =
    let words : said_in (lines_of b.whole) ≡ said_in texts ++ words_of line ∷ said_in b.rest =
    ap said_in (b.so_far ∙ append_assoc texts (line ∷ []) b.rest) ∙ said_on texts (line ∷ b.rest)
    ∙ ap (λ c. said_in texts ++ (if c then words_of line ∷ said_in b.rest else said_in b.rest)) t in
    let found = zip_at (said_in texts) (words_of line) (said_in b.rest) (listing_lines b.reads.listing)
    (subst (λ (ws : List (List (List ℕ))). AllZip IsForm ws (listing_lines b.reads.listing)) words b.reads.said) in
    none found.0 found.1

of_text : (text : List ℕ) (n : ℕ) → IsTextFault text n → First text n
of_text text n h = record {
  before = h.stop.before;
  line = h.stop.line;
  after = h.stop.after;
  split = h.stop.split;
  here = h.stop.here;
  begin = h.stop.begin;
  none = formless h.stop.before h.stop.line h.stop.said h.none;
}

of_order : (text : List ℕ) (n : ℕ) → IsOrderFault text n → First text n
of_order text n h = record {
  before = h.stop.before;
  line = h.stop.line;
  after = h.stop.after;
  split = h.stop.split;
  here = h.stop.here;
  begin = h.stop.begin;
  none = h.none;
}

-- there is at most one first line at fault
one_first : (text : List ℕ) (n m : ℕ) (f : First text n) (g : First text m) → (f.before ≡ g.before) × (f.line ≡ g.line)
one_first text n m f g = elim (apart f.before g.before f.after g.after f.line g.line (sym f.split ∙ g.split)) [
  | same e i ↦ (e, i)
  | first zs e ↦ absurd (f.none (begin_prefix g.before (f.before ++ f.line ∷ []) zs (e
      ∙ sym (append_assoc f.before (f.line ∷ []) zs)) g.begin))
  | second zs e ↦ absurd (g.none (begin_prefix f.before (g.before ++ g.line ∷ []) zs (e
      ∙ sym (append_assoc g.before (g.line ∷ []) zs)) f.begin))
]

one_number : (text : List ℕ) (n m : ℕ) → First text n → First text m → n ≡ m
one_number text n m f g = f.here ∙ ap (λ ls. suc (length ls)) (one_first text n m f g).0 ∙ sym g.here

-- if some text that reads as an object begins with all lines, none is the first at fault
no_first : (text : List ℕ) (n : ℕ) → First text n → ¬ (Begin (lines_of text))
no_first text n f b = f.none (begin_prefix (lines_of text) (f.before ++ f.line ∷ []) f.after (f.split
    ∙ sym (append_assoc f.before (f.line ∷ []) f.after)) b)

reading_begins : (text : List ℕ) (o : Object) → Reads text o → Begin (lines_of text)
reading_begins text o r = record {
  whole = text;
  object = o;
  reads = r;
  rest = [];
  so_far = sym (append-nil (lines_of text));
}

-- the first line at fault does not both have a form and have none
text_or_order : (text : List ℕ) (n m : ℕ) → IsTextFault text n → IsOrderFault text m → ⊥
unfolding of_order of_text
text_or_order text n m h i =
    let lines_are = (one_first text n m (of_text text n h) (of_order text m i)).1 in
    h.none i.form (subst (λ (l : List ℕ). IsForm (words_of l) i.form) (sym lines_are) i.is_form)

-- a text that reads as an object has no line at fault and is complete
no_text : (text : List ℕ) (o : Object) (n : ℕ) → Reads text o → IsTextFault text n → ⊥
no_text text o n r fault = no_first text n (of_text text n fault) (reading_begins text o r)

no_order : (text : List ℕ) (o : Object) (n : ℕ) → Reads text o → IsOrderFault text n ⊎ Lacks text n → ⊥
no_order text o n r (inl fault) = no_first text n (of_order text n fault) (reading_begins text o r)
no_order text o n r (inr lacks) = lacks.none o r

-- the first line at fault has one kind of fault, and one number
text_not_order : (text : List ℕ) (n m : ℕ) → IsTextFault text n → IsOrderFault text m ⊎ Lacks text m → ⊥
text_not_order text n m h (inl fault) = text_or_order text n m h fault
text_not_order text n m h (inr lacks) = no_first text n (of_text text n h) lacks.begin

one_order : (text : List ℕ) (n m : ℕ) → IsOrderFault text n ⊎ Lacks text n → IsOrderFault text m ⊎ Lacks text m → n ≡ m
one_order text n m (inl fault) (inl other) = one_number text n m (of_order text n fault) (of_order text m other)
one_order text n m (inl fault) (inr lacks) = absurd (no_first text n (of_order text n fault) lacks.begin)
one_order text n m (inr lacks) (inl other) = absurd (no_first text m (of_order text m other) lacks.begin)
one_order text n m (inr lacks) (inr too) = lacks.here ∙ sym too.here

-- any two objects that a text reads as break the same first rule, or none
one_judged : (text : List ℕ) (o p : Object) (a b : Option ObjectError) → Reads text o → Reads text p → rule_broken o
    ≡ a → rule_broken p ≡ b → a ≡ b
one_judged text o p a b r s e f = sym e ∙ ap rule_broken (one_reading text o p r s) ∙ f

pub one_answer : (text : List ℕ) (x y : Answer) → Applies text x → Applies text y → x ≡ y
one_answer text (Is o) (Is p) h i = ap Is (one_reading text o p h.1 i.1)
one_answer text (Is o) TooLong h i = absurd (let few = h.0 in omega arith)
one_answer text (Is o) (Text n) h i = absurd (no_text text o n h.1 i.1)
one_answer text (Is o) (Order n) h i = absurd (no_order text o n h.1 i.1)
one_answer text (Is o) (Broken e) h i = absurd (let both = one_judged text o i.1 None (Some e) h.1 i.2 h.2 i.3 in cc)
one_answer text TooLong (Is p) h i = absurd (let few = i.0 in omega arith)
one_answer text TooLong TooLong h i = refl
one_answer text TooLong (Text n) h i = absurd (let few = i.0 in omega arith)
one_answer text TooLong (Order n) h i = absurd (let few = i.0 in omega arith)
one_answer text TooLong (Broken e) h i = absurd (let few = i.0 in omega arith)
one_answer text (Text n) (Is p) h i = absurd (no_text text p n i.1 h.1)
one_answer text (Text n) TooLong h i = absurd (let few = h.0 in omega arith)
one_answer text (Text n) (Text m) h i = ap Text (one_number text n m (of_text text n h.1) (of_text text m i.1))
one_answer text (Text n) (Order m) h i = absurd (text_not_order text n m h.1 i.1)
one_answer text (Text n) (Broken e) h i = absurd (no_text text i.1 n i.2 h.1)
one_answer text (Order n) (Is p) h i = absurd (no_order text p n i.1 h.1)
one_answer text (Order n) TooLong h i = absurd (let few = h.0 in omega arith)
one_answer text (Order n) (Text m) h i = absurd (text_not_order text m n i.1 h.1)
one_answer text (Order n) (Order m) h i = ap Order (one_order text n m h.1 i.1)
one_answer text (Order n) (Broken e) h i = absurd (no_order text i.1 n i.2 h.1)
one_answer text (Broken e) (Is p) h i = absurd (let both = one_judged text h.1 p (Some e) None h.2 i.1 h.3 i.2 in cc)
one_answer text (Broken e) TooLong h i = absurd (let few = h.0 in omega arith)
one_answer text (Broken e) (Text n) h i = absurd (no_text text h.1 n h.2 i.1)
one_answer text (Broken e) (Order n) h i = absurd (no_order text h.1 n h.2 i.1)
one_answer text (Broken e) (Broken f) h i = let both = one_judged text h.1 i.1 (Some e) (Some f) h.2 i.2 h.3 i.3 in
    let same : e ≡ f = cc in ap Broken same
