-- The draft that the lines lead to shows which outcome a text has.
use Rattle.std.proofs.Common.{◌≡◌, ℕ, ◌==◌, Bool, true, false, List, [], ◌∷◌, ◌++◌, map, Some, None, codes, refl, ap}
use Rattle.std.proofs.Common.{sym, ◌∙◌, subst, append_assoc, append-nil, lit<}
use Rattle.std.specs.Prelude.{if◌then◌else◌}
use Rattle.std.specs.Option.{option_and_then}
use Rattle.std.specs.List.{AllByRecursion, AllZip, flat_map}
use Rattle.std.proofs.lemmas.Option.{option_and_then_some}
use Rattle.ft_types.specs.declared.object.Object.{Object}
use Rattle.ft_types.specs.declared.object.Cell.{Cell}
use Rattle.ft_types.specs.declared.object.CodeType.{CodeType}
use Rattle.ft_types.specs.declared.object.RegType.{RegType}
use Rattle.ft_static.specs.declared.node.Node.{Node}
use Rattle.ft_asm.specs.declared.line.Code.{Code}
use Rattle.ft_text.specs.Lines.{with_byte, lines_of}
use Rattle.ft_asm.specs.declared.line.Line.{Line}
use Rattle.ft_asm.specs.declared.line.Line.TheVariants as lines
use Rattle.ft_text.specs.LineWords.{words_of}
use Rattle.ft_asm.specs.Words.{is_said, with_said, said_in}
use Rattle.ft_asm.specs.Lines.{IsForm, FitsLine}
use Rattle.ft_asm.specs.Listings.{Part, Listing, pend_line, type_lines, part_lines, listing_lines, object_of}
use Rattle.ft_asm.specs.Drafts.{Draft, Start, InType, InBlock, Done, fresh_type, with_reg, with_pend, fresh_part}
use Rattle.ft_asm.specs.Drafts.{with_code, more_cells, more_regs, next, walk, lines_so_far}
use Rattle.ft_asm.specs.Reads.{Reads, Begin, line_text}
use Rattle.ft_asm.proofs.FormLaws.{one_line}
use Rattle.ft_asm.proofs.Order.{walk-append, walked, one_list}
use Rattle.ft_asm.proofs.Texts.{text_says}

-- LISTS

-- two lists of lines together say what the first says, followed by what the second says
pub said_on : (xs ys : List (List ℕ)) → said_in (xs ++ ys) ≡ said_in xs ++ said_in ys
said_on [] ys = refl
said_on (x ∷ xs) ys = ap (with_said (words_of x)) (said_on xs ys)
    ∙ with_on (is_said (words_of x)) (words_of x) (said_in xs) (said_in ys)
  where
    with_on : (t : Bool) (w : List (List ℕ)) (us vs : List (List (List ℕ))) → (if t then w ∷ (us ++ vs) else us ++ vs)
        ≡ (if t then w ∷ us else us) ++ vs
    with_on true w us vs = refl
    with_on false w us vs = refl

zip_on : (ws vs : List (List (List ℕ))) (ls ms : List Line) → AllZip IsForm ws ls → AllZip IsForm vs ms →
    AllZip IsForm (ws ++ vs) (ls ++ ms)
zip_on [] vs [] ms h i = i
zip_on [] vs (l ∷ ls) ms h i = absurd h
zip_on (w ∷ ws) vs [] ms h i = absurd h
zip_on (w ∷ ws) vs (l ∷ ls) ms h i = (h.0, zip_on ws vs ls ms h.1 i)

-- if some words spell lines, whatever they spell together with further words begins with those lines
zip_apart : (ws vs : List (List (List ℕ))) (ls ms : List Line) → AllZip IsForm ws ls → AllZip IsForm (ws ++ vs) ms →
    (ns : List Line) × (ms ≡ ls ++ ns) × AllZip IsForm vs ns
zip_apart [] vs [] ms h i = (ms, refl, i)
zip_apart [] vs (l ∷ ls) ms h i = absurd h
zip_apart (w ∷ ws) vs [] ms h i = absurd h
zip_apart (w ∷ ws) vs (l ∷ ls) [] h i = absurd i
zip_apart (w ∷ ws) vs (l ∷ ls) (m ∷ ms) h i =
    let rest = zip_apart ws vs ls ms h.1 i.1 in
    (rest.0, ap (λ x. x ∷ ms) (one_line w m l i.0 h.0) ∙ ap (λ xs. l ∷ xs) rest.1, rest.2)

-- TEXTS OF LINES

-- these bytes contain no line feed
abbrev pub HasNoFeed : List ℕ → Type 0
HasNoFeed line = AllByRecursion (λ b. (b == 10) ≡ false) line

abbrev pub HaveNoFeed : List (List ℕ) → Type 0
HaveNoFeed texts = AllByRecursion HasNoFeed texts

with_byte_free : (b : ℕ) (ls : List (List ℕ)) → (b == 10) ≡ false → HaveNoFeed ls → HaveNoFeed (with_byte b ls)
with_byte_free b [] e h = ((e, tt), tt)
with_byte_free b (l ∷ ls) e h = ((e, h.0), h.1)

lines_step : (t : Bool) (b : ℕ) (ls : List (List ℕ)) → (b == 10) ≡ t → HaveNoFeed ls →
    HaveNoFeed (if t then [] ∷ ls else with_byte b ls)
lines_step true b ls e h = (tt, h)
lines_step false b ls e h = with_byte_free b ls e h

pub lines_free : (text : List ℕ) → HaveNoFeed (lines_of text)
lines_free [] = tt
lines_free (b ∷ bs) = lines_step (b == 10) b (lines_of bs) refl (lines_free bs)

-- the lines, each with its line feed
abbrev fed : List ℕ → List ℕ
fed line = line ++ codes "\n"

first_of_text : (x rest : List ℕ) → HasNoFeed x → lines_of (x ++ 10 ∷ rest) ≡ x ∷ lines_of rest
first_of_text [] rest h = refl
first_of_text (b ∷ bs) rest h =
    ap (λ t. if t then [] ∷ lines_of (bs ++ 10 ∷ rest) else with_byte b (lines_of (bs ++ 10 ∷ rest))) h.0
    ∙ ap (with_byte b) (first_of_text bs rest h.1)

text_of_lines : (texts : List (List ℕ)) (more : List ℕ) → HaveNoFeed texts → lines_of (flat_map fed texts ++ more)
    ≡ texts ++ lines_of more
text_of_lines [] more h = refl
text_of_lines (t ∷ ts) more h =
    ap lines_of (append_assoc (fed t) (flat_map fed ts) more ∙ append_assoc t (codes "\n") (flat_map fed ts ++ more))
    ∙ first_of_text t (flat_map fed ts ++ more) h.0
    ∙ ap (λ ls. t ∷ ls) (text_of_lines ts more h.1)

-- WHAT LINES LEAD TO

push_on : {A : Type 0} (f : A → Line) (xs : List A) (x : A) → map f (xs ++ x ∷ []) ≡ map f xs ++ f x ∷ []
push_on f [] x = refl
push_on f (y ∷ ys) x = ap (λ l. f y ∷ l) (push_on f ys x)

flat_on : {A : Type 0} (f : A → List Line) (xs : List A) (x : A) → flat_map f (xs ++ x ∷ []) ≡ flat_map f xs ++ f x
flat_on f [] x = append-nil (f x)
flat_on f (y ∷ ys) x = ap (λ l. f y ++ l) (flat_on f ys x) ∙ sym (append_assoc (f y) (flat_map f ys) (f x))

deep2 : (a b d x : List Line) → a ++ (b ++ (d ++ x)) ≡ (a ++ (b ++ d)) ++ x
deep2 a b d x = ap (λ l. a ++ l) (sym (append_assoc b d x)) ∙ sym (append_assoc a (b ++ d) x)

deep3 : (a b c d x : List Line) → a ++ (b ++ (c ++ (d ++ x))) ≡ (a ++ (b ++ (c ++ d))) ++ x
deep3 a b c d x = ap (λ l. a ++ l) (deep2 b c d x) ∙ sym (append_assoc a (b ++ (c ++ d)) x)

deep4 : (a b c e d x : List Line) → a ++ (b ++ (c ++ (e ++ (d ++ x)))) ≡ (a ++ (b ++ (c ++ (e ++ d)))) ++ x
deep4 a b c e d x = ap (λ l. a ++ l) (deep3 b c e d x) ∙ sym (append_assoc a (b ++ (c ++ (e ++ d))) x)

led : (d e : Draft) (ls : List Line) → Some d ≡ Some e → lines_so_far d ≡ ls → lines_so_far e ≡ ls
led d e ls h i = let same : d ≡ e = cc in ap lines_so_far (sym same) ∙ i

module _ (cs : List Cell) (ns : List Node) where
  abbrev a : List Line
  a = map lines.Cell cs

  abbrev b : List Line
  b = map lines.Node ns

  told_cells : (ms : List Node) (c : Cell) (e : Draft) → more_cells cs ms c ≡ Some e → lines_so_far e
      ≡ (map lines.Cell cs ++ map lines.Node ms) ++ lines.Cell c ∷ []
  told_cells [] c e h = led (Start (cs ++ c ∷ []) []) e _ h (append-nil (map lines.Cell (cs ++ c ∷ []))
      ∙ push_on lines.Cell cs c ∙ ap (λ l. l ++ lines.Cell c ∷ []) (sym (append-nil a)))
  told_cells (m ∷ ms) c e h = absurd cc

  after_type : (ts : List CodeType) (t : CodeType) (l : Line) → a
      ++ (b ++ (flat_map type_lines (ts ++ t ∷ []) ++ l ∷ [])) ≡ (a ++ (b ++ (flat_map type_lines ts ++ type_lines t)))
      ++ l ∷ []
  after_type ts t l = ap (λ xs. a ++ (b ++ (xs ++ l ∷ []))) (flat_on type_lines ts t)
      ∙ deep2 a b (flat_map type_lines ts ++ type_lines t) (l ∷ [])

  in_type : (ts : List CodeType) (t u : CodeType) (l : Line) → type_lines u ≡ type_lines t ++ l ∷ [] → a
      ++ (b ++ (flat_map type_lines ts ++ type_lines u)) ≡ (a ++ (b ++ (flat_map type_lines ts ++ type_lines t)))
      ++ l ∷ []
  in_type ts t u l e = ap (λ xs. a ++ (b ++ (flat_map type_lines ts ++ xs))) e
      ∙ deep3 a b (flat_map type_lines ts) (type_lines t) (l ∷ [])

  told_regs : (ts : List CodeType) (t : CodeType) (qs : List (ℕ × ℕ)) (r : RegType) (e : Draft) → t.queue ≡ qs →
      more_regs cs ns ts t qs r ≡ Some e → lines_so_far e ≡ (a ++ (b ++ (flat_map type_lines ts ++ type_lines t)))
      ++ lines.Reg r ∷ []
  told_regs ts t [] r e q h =
      let rows : map lines.Reg (t.regs ++ r ∷ []) ++ map pend_line t.queue
      ≡ (map lines.Reg t.regs ++ map pend_line t.queue) ++ lines.Reg r ∷ [] =
      ap (λ ps. map lines.Reg (t.regs ++ r ∷ []) ++ map pend_line ps) q ∙ append-nil (map lines.Reg (t.regs ++ r ∷ []))
      ∙ push_on lines.Reg t.regs r
      ∙ ap (λ l. l ++ lines.Reg r ∷ []) (sym (append-nil (map lines.Reg t.regs)))
      ∙ ap (λ ps. (map lines.Reg t.regs ++ map pend_line ps) ++ lines.Reg r ∷ []) (sym q) in
      led (InType cs ns ts (with_reg t r)) e _ h (in_type ts t (with_reg t r) (lines.Reg r)
      (ap (λ l. lines.Type t.ints t.memory ∷ l) rows))
  told_regs ts t (p ∷ ps) r e q h = absurd cc

  pend_more : (t : CodeType) (q : ℕ × ℕ) → type_lines (with_pend t q) ≡ type_lines t ++ pend_line q ∷ []
  pend_more t q = ap (λ l. lines.Type t.ints t.memory ∷ l) (ap (λ l. map lines.Reg t.regs
      ++ l) (push_on pend_line t.queue q) ∙ sym (append_assoc (map lines.Reg t.regs) (map pend_line t.queue)
      (pend_line q ∷ [])))

  after_block : (ts : List CodeType) (ps : List Part) (p : Part) (l : Line) → a
      ++ (b ++ (flat_map type_lines ts ++ (flat_map part_lines (ps ++ p ∷ []) ++ l ∷ [])))
      ≡ (a ++ (b ++ (flat_map type_lines ts ++ (flat_map part_lines ps ++ part_lines p)))) ++ l ∷ []
  after_block ts ps p l = ap (λ xs. a ++ (b ++ (flat_map type_lines ts ++ (xs ++ l ∷ [])))) (flat_on part_lines ps p)
      ∙ deep3 a b (flat_map type_lines ts) (flat_map part_lines ps ++ part_lines p) (l ∷ [])

  code_more : (p : Part) (c : Code) → part_lines (with_code p c) ≡ part_lines p ++ lines.Code c ∷ []
  code_more p c = ap (λ l. lines.Block p.code_type ∷ l) (push_on lines.Code p.codes c)

  told_start : (l : Line) (e : Draft) → next (Start cs ns) l ≡ Some e → lines_so_far e ≡ (a ++ b) ++ l ∷ []
  told_start (lines.Cell c) e h = told_cells ns c e h
  told_start (lines.Node n) e h = led (Start cs (ns ++ n ∷ [])) e _ h (ap (λ l. a ++ l) (push_on lines.Node ns n)
      ∙ sym (append_assoc a b (lines.Node n ∷ [])))
  told_start (lines.Type ints memory) e h = led (InType cs ns [] (fresh_type ints memory)) e _ h
      (sym (append_assoc a b (lines.Type ints memory ∷ [])))
  told_start (lines.Reg r) e h = absurd cc
  told_start (lines.Pend x y) e h = absurd cc
  told_start (lines.Block t) e h = led (InBlock cs ns [] [] (fresh_part t)) e _ h
      (sym (append_assoc a b (lines.Block t ∷ [])))
  told_start (lines.Code c) e h = absurd cc
  told_start (lines.Entry n) e h = led (Done (record { cells = cs; nodes = ns; types = []; parts = []; entry = n })) e _
      h (sym (append_assoc a b (lines.Entry n ∷ [])))

  told_type : (ts : List CodeType) (t : CodeType) (l : Line) (e : Draft) → next (InType cs ns ts t) l ≡ Some e →
      lines_so_far e ≡ (a ++ (b ++ (flat_map type_lines ts ++ type_lines t))) ++ l ∷ []
  told_type ts t (lines.Cell c) e h = absurd cc
  told_type ts t (lines.Node n) e h = absurd cc
  told_type ts t (lines.Type ints memory) e h = led (InType cs ns (ts ++ t ∷ []) (fresh_type ints memory)) e _ h
      (after_type ts t (lines.Type ints memory))
  told_type ts t (lines.Reg r) e h = told_regs ts t t.queue r e refl h
  told_type ts t (lines.Pend x y) e h = led (InType cs ns ts (with_pend t (x, y))) e _ h
      (in_type ts t (with_pend t (x, y)) (lines.Pend x y) (pend_more t (x, y)))
  told_type ts t (lines.Block n) e h = led (InBlock cs ns (ts ++ t ∷ []) [] (fresh_part n)) e _ h
      (after_type ts t (lines.Block n))
  told_type ts t (lines.Code c) e h = absurd cc
  told_type ts t (lines.Entry n) e h = led (Done (record {
    cells = cs;
    nodes = ns;
    types = ts ++ t ∷ [];
    parts = [];
    entry = n;
  })) e _ h (after_type ts t (lines.Entry n))

  told_block : (ts : List CodeType) (ps : List Part) (p : Part) (l : Line) (e : Draft) → next (InBlock cs ns ts ps p) l
      ≡ Some e → lines_so_far e ≡ (a ++ (b ++ (flat_map type_lines ts ++ (flat_map part_lines ps ++ part_lines p))))
      ++ l ∷ []
  told_block ts ps p (lines.Cell c) e h = absurd cc
  told_block ts ps p (lines.Node n) e h = absurd cc
  told_block ts ps p (lines.Type ints memory) e h = absurd cc
  told_block ts ps p (lines.Reg r) e h = absurd cc
  told_block ts ps p (lines.Pend x y) e h = absurd cc
  told_block ts ps p (lines.Block t) e h = led (InBlock cs ns ts (ps ++ p ∷ []) (fresh_part t)) e _ h
      (after_block ts ps p (lines.Block t))
  told_block ts ps p (lines.Code c) e h =
      led (InBlock cs ns ts ps (with_code p c)) e _ h
      (ap (λ xs. a ++ (b ++ (flat_map type_lines ts ++ (flat_map part_lines ps ++ xs)))) (code_more p c)
      ∙ deep4 a b (flat_map type_lines ts) (flat_map part_lines ps) (part_lines p) (lines.Code c ∷ []))
  told_block ts ps p (lines.Entry n) e h = led (Done (record {
    cells = cs;
    nodes = ns;
    types = ts;
    parts = ps ++ p ∷ [];
    entry = n;
  })) e _ h (after_block ts ps p (lines.Entry n))

-- an allowed line is added to the lines so far
told_more : (d e : Draft) (l : Line) → next d l ≡ Some e → lines_so_far e ≡ lines_so_far d ++ l ∷ []
told_more (Start cs ns) e l h = told_start cs ns l e h
told_more (InType cs ns ts t) e l h = told_type cs ns ts t l e h
told_more (InBlock cs ns ts ps p) e l h = told_block cs ns ts ps p l e h
told_more (Done listing) e l h = absurd cc

-- allowed lines are added to the lines so far
told : (ls : List Line) (d e : Draft) → walk d ls ≡ Some e → lines_so_far e ≡ lines_so_far d ++ ls
told [] d e h = let same : d ≡ e = cc in ap lines_so_far (sym same) ∙ sym (append-nil (lines_so_far d))
told (l ∷ ls) d e h =
    option_and_then_some (λ f. walk f ls) (next d l) e h
    (λ f g i. told ls f e i ∙ ap (λ xs. xs ++ ls) (told_more d f l g) ∙ append_assoc (lines_so_far d) (l ∷ []) ls)

-- ANSWERS

-- what these texts say leads to this draft
pub record Lead (texts : List (List ℕ)) (d : Draft) : Type 0 where
  pub said : List Line
  pub forms : AllZip IsForm (said_in texts) said
  pub leads : walk (Start [] []) said ≡ Some d

pub lead_none : Lead [] (Start [] [])
lead_none = record { said = []; forms = tt; leads = refl }

-- a line that says nothing does not change the draft
pub lead_silent : (texts : List (List ℕ)) (d : Draft) (line : List ℕ) → Lead texts d → is_said (words_of line) ≡ false →
    Lead (texts ++ line ∷ []) d
lead_silent texts d line h e =
    let same : said_in texts ≡ said_in (texts ++ line ∷ []) = sym (said_on texts (line ∷ [])
    ∙ ap (λ t. said_in texts ++ (if t then words_of line ∷ [] else [])) e ∙ append-nil (said_in texts)) in
    record {
      said = h.said;
      forms = subst (λ (ws : List (List (List ℕ))). AllZip IsForm ws h.said) same h.forms;
      leads = h.leads;
    }

-- a line that says something leads to the next draft
pub lead_more : (texts : List (List ℕ)) (d e : Draft) (line : List ℕ) (l : Line) → Lead texts d →
    is_said (words_of line) ≡ true → IsForm (words_of line) l → next d l ≡ Some e → Lead (texts ++ line ∷ []) e
lead_more texts d e line l h t f n =
    let same : said_in texts ++ words_of line ∷ [] ≡ said_in (texts ++ line ∷ []) = sym (said_on texts (line ∷ [])
    ∙ ap (λ b. said_in texts ++ (if b then words_of line ∷ [] else [])) t) in
    record {
      said = h.said ++ l ∷ [];
      forms = subst (λ (ws : List (List (List ℕ))). AllZip IsForm ws (h.said ++ l ∷ [])) same
          (zip_on (said_in texts) (words_of line ∷ []) h.said (l ∷ []) h.forms (f, tt));
      leads = walk-append (Start [] []) h.said (l ∷ []) ∙ ap (option_and_then (λ f. walk f (l ∷ []))) h.leads
          ∙ ap (option_and_then (λ f. walk f [])) n;
    }

-- lines that complete a draft, and the listing that results
finish : (d : Draft) → (ls : List Line) × ((l : Listing) × (walk d ls ≡ Some (Done l))) × AllByRecursion FitsLine ls
finish (Start cs ns) = (
  lines.Entry 0 ∷ [],
  (
    record { cells = cs; nodes = ns; types = []; parts = []; entry = 0 },
    refl,
  ),
  (lit< tt, tt),
)
finish (InType cs ns ts t) = (
  lines.Entry 0 ∷ [],
  (
    record {
      cells = cs;
      nodes = ns;
      types = ts ++ t ∷ [];
      parts = [];
      entry = 0;
    },
    refl,
  ),
  (lit< tt, tt),
)
finish (InBlock cs ns ts ps p) = (
  lines.Entry 0 ∷ [],
  (record { cells = cs; nodes = ns; types = ts; parts = ps ++ p ∷ []; entry = 0 }, refl),
  (lit< tt, tt),
)
finish (Done l) = ([], (l, refl), tt)

-- if lines lead to a draft, some text that reads as an object begins with them
pub lead_begins : (texts : List (List ℕ)) (d : Draft) → HaveNoFeed texts → Lead texts d → Begin texts
lead_begins texts d free h =
    let end = finish d in
    let ls = end.0 in
    let more = flat_map line_text ls in
    let whole : lines_of (flat_map fed texts ++ more) ≡ texts ++ lines_of more = text_of_lines texts more free in
    let forms : AllZip IsForm (said_in (texts ++ lines_of more)) (h.said ++ ls) = subst (λ (ws : List (List (List ℕ))).
    AllZip IsForm ws (h.said ++ ls)) (sym (said_on texts (lines_of more)))
    (zip_on (said_in texts) (said_in (lines_of more)) h.said ls h.forms (text_says ls end.2)) in
    let leads : walk (Start [] []) (h.said ++ ls) ≡ Some (Done end.1.0) = walk-append (Start [] []) h.said ls
    ∙ ap (option_and_then (λ f. walk f ls)) h.leads ∙ end.1.1 in
    let same : h.said ++ ls ≡ listing_lines end.1.0 = sym (told (h.said ++ ls) (Start [] []) (Done end.1.0) leads) in
    record {
      whole = flat_map fed texts ++ more;
      object = object_of end.1.0;
      reads = record {
        listing = end.1.0;
        said = subst (λ (ts : List (List ℕ)). AllZip IsForm (said_in ts) (listing_lines end.1.0)) (sym whole)
            (subst (λ (ms : List Line). AllZip IsForm (said_in (texts ++ lines_of more)) ms) same forms);
        means = refl;
      };
      rest = lines_of more;
      so_far = whole;
    }

-- a complete text reads as the object of its listing
pub done_reads : (text : List ℕ) (l : Listing) → Lead (lines_of text) (Done l) → Reads text (object_of l)
done_reads text l h = record {
  listing = l;
  said = subst (λ (ms : List Line). AllZip IsForm (said_in (lines_of text)) ms)
      (sym (told h.said (Start [] []) (Done l) h.leads)) h.forms;
  means = refl;
}

-- an incomplete text reads as no object
pub open_reads : (text : List ℕ) (d : Draft) → Lead (lines_of text) d → ((l : Listing) → ¬ (d ≡ Done l)) →
    (o : Object) → ¬ (Reads text o)
open_reads text d h none o r =
    let same : h.said ≡ listing_lines r.listing = one_list (said_in (lines_of text)) h.said (listing_lines r.listing)
    h.forms r.said in
    let both : Some d ≡ Some (Done r.listing) = sym h.leads ∙ ap (walk (Start [] [])) same ∙ walked r.listing in
    none r.listing cc

-- if a line leads nowhere, no text that reads as an object begins with the lines up to it
pub stuck : (texts : List (List ℕ)) (d : Draft) (line : List ℕ) (l : Line) → Lead texts d → is_said (words_of line)
    ≡ true → IsForm (words_of line) l → next d l ≡ None → ¬ (Begin (texts ++ line ∷ []))
stuck texts d line l h t f n b =
    let lines_are : lines_of b.whole ≡ texts ++ line ∷ b.rest = b.so_far ∙ append_assoc texts (line ∷ []) b.rest in
    let words : said_in (lines_of b.whole) ≡ said_in texts ++ words_of line ∷ said_in b.rest = ap said_in lines_are
    ∙ said_on texts (line ∷ b.rest) ∙ ap (λ c. said_in texts
    ++ (if c then words_of line ∷ said_in b.rest else said_in b.rest)) t in
    let forms : AllZip IsForm (said_in texts ++ words_of line ∷ said_in b.rest) (listing_lines b.reads.listing) =
    subst (λ (ws : List (List (List ℕ))). AllZip IsForm ws (listing_lines b.reads.listing)) words b.reads.said in
    let parts = zip_apart (said_in texts) (words_of line ∷ said_in b.rest) h.said (listing_lines b.reads.listing)
    h.forms forms in
    first_is parts.0 parts.1 parts.2
  where
    first_is : (ns : List Line) → listing_lines b.reads.listing ≡ h.said ++ ns →
        AllZip IsForm (words_of line ∷ said_in b.rest) ns → ⊥
    first_is [] e z = absurd z
    first_is (m ∷ ms) e z =
        let same : m ≡ l = one_line (words_of line) m l z.0 f in
        let none : walk (Start [] []) (h.said ++ m ∷ ms) ≡ None = walk-append (Start [] []) h.said (m ∷ ms)
        ∙ ap (option_and_then (λ c. walk c (m ∷ ms))) h.leads
        ∙ ap (λ k. option_and_then (λ c. walk c ms) (next d k)) same ∙ ap (option_and_then (λ c. walk c ms)) n in
        let both : None ≡ Some (Done b.reads.listing) = sym none ∙ ap (walk (Start [] [])) (sym e)
        ∙ walked b.reads.listing in
        absurd cc
