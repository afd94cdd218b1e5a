-- The lines of a listing are in an allowed order, and lead to that listing.
use Rattle.std.proofs.Common.{◌≡◌, ℕ, List, [], ◌∷◌, ◌++◌, map, Option, Some, None, refl, ap, sym, ◌∙◌, append_assoc}
use Rattle.std.proofs.Common.{append-nil}
use Rattle.std.specs.Option.{option_and_then}
use Rattle.std.specs.List.{flat_map, AllZip}
use Rattle.ft_static.specs.declared.node.Node.{Node}
use Rattle.ft_types.specs.declared.object.Object.{Object}
use Rattle.ft_types.specs.declared.object.Cell.{Cell}
use Rattle.ft_types.specs.declared.object.CodeType.{CodeType}
use Rattle.ft_types.specs.declared.object.RegType.{RegType}
use Rattle.ft_asm.specs.declared.line.Code.{Code}
use Rattle.ft_asm.specs.declared.line.Line.{Line}
use Rattle.ft_asm.specs.declared.line.Line.TheVariants as lines
use Rattle.ft_asm.specs.Lines.{IsForm}
use Rattle.ft_asm.specs.Words.{said_in}
use Rattle.ft_text.specs.Lines.{lines_of}
use Rattle.ft_asm.specs.Listings.{Part, Listing, pend_line, type_lines, part_lines, listing_lines, object_of}
use Rattle.ft_asm.specs.Reads.{Say, Reads}
use Rattle.ft_asm.specs.Drafts.{Draft, Start, InType, InBlock, Done, fresh_type, fresh_part, next, walk}
use Rattle.ft_asm.proofs.FormLaws.{one_line}

-- WALKING A LISTING

by_next : (xs ys : List Line) (o : Option Draft) →
    ((e : Draft) → walk e (xs ++ ys) ≡ option_and_then (λ f. walk f ys) (walk e xs)) →
    option_and_then (λ e. walk e (xs ++ ys)) o ≡ option_and_then (λ e. walk e ys) (option_and_then (λ e. walk e xs) o)
by_next xs ys None h = refl
by_next xs ys (Some e) h = h e

-- walking a concatenation is walking the first list, then the second from where the first leads
pub walk-append : (d : Draft) (xs ys : List Line) → walk d (xs ++ ys) ≡ option_and_then (λ e. walk e ys) (walk d xs)
walk-append d [] ys = refl
walk-append d (x ∷ xs) ys = by_next xs ys (next d x) (λ e. walk-append e xs ys)

cells_walked : (cs ds : List Cell) (rest : List Line) → walk (Start cs []) (map lines.Cell ds ++ rest)
    ≡ walk (Start (cs ++ ds) []) rest
cells_walked cs [] rest = ap (λ xs. walk (Start xs []) rest) (sym (append-nil cs))
cells_walked cs (d ∷ ds) rest = cells_walked (cs ++ d ∷ []) ds rest
    ∙ ap (λ xs. walk (Start xs []) rest) (append_assoc cs (d ∷ []) ds)

nodes_walked : (cs : List Cell) (ns ms : List Node) (rest : List Line) → walk (Start cs ns) (map lines.Node ms ++ rest)
    ≡ walk (Start cs (ns ++ ms)) rest
nodes_walked cs ns [] rest = ap (λ xs. walk (Start cs xs) rest) (sym (append-nil ns))
nodes_walked cs ns (m ∷ ms) rest = nodes_walked cs (ns ++ m ∷ []) ms rest
    ∙ ap (λ xs. walk (Start cs xs) rest) (append_assoc ns (m ∷ []) ms)

module _ (cs : List Cell) (ns : List Node) where
  -- a code type with these rows
  abbrev rows_are : CodeType → List RegType → List (ℕ × ℕ) → CodeType
  rows_are t rs qs = record { ints = t.ints; regs = rs; queue = qs; memory = t.memory }

  regs_walked : (ts : List CodeType) (t : CodeType) (rs ss : List RegType) (rest : List Line) →
      walk (InType cs ns ts (rows_are t rs [])) (map lines.Reg ss ++ rest)
      ≡ walk (InType cs ns ts (rows_are t (rs ++ ss) [])) rest
  regs_walked ts t rs [] rest = ap (λ xs. walk (InType cs ns ts (rows_are t xs [])) rest) (sym (append-nil rs))
  regs_walked ts t rs (s ∷ ss) rest = regs_walked ts t (rs ++ s ∷ []) ss rest
      ∙ ap (λ xs. walk (InType cs ns ts (rows_are t xs [])) rest) (append_assoc rs (s ∷ []) ss)

  pends_walked : (ts : List CodeType) (t : CodeType) (rs : List RegType) (qs ps : List (ℕ × ℕ)) (rest : List Line) →
      walk (InType cs ns ts (rows_are t rs qs)) (map pend_line ps ++ rest)
      ≡ walk (InType cs ns ts (rows_are t rs (qs ++ ps))) rest
  pends_walked ts t rs qs [] rest = ap (λ xs. walk (InType cs ns ts (rows_are t rs xs)) rest) (sym (append-nil qs))
  pends_walked ts t rs qs (p ∷ ps) rest = pends_walked ts t rs (qs ++ p ∷ []) ps rest
      ∙ ap (λ xs. walk (InType cs ns ts (rows_are t rs xs)) rest) (append_assoc qs (p ∷ []) ps)

  -- the lines of a code type's rows lead from the code type without rows to the whole code type
  type_walked : (ts : List CodeType) (t : CodeType) (rest : List Line) →
      walk (InType cs ns ts (fresh_type t.ints t.memory)) ((map lines.Reg t.regs ++ map pend_line t.queue) ++ rest)
      ≡ walk (InType cs ns ts t) rest
  type_walked ts t rest =
      ap (walk (InType cs ns ts (fresh_type t.ints t.memory)))
      (append_assoc (map lines.Reg t.regs) (map pend_line t.queue) rest)
      ∙ regs_walked ts t [] t.regs (map pend_line t.queue ++ rest)
      ∙ pends_walked ts t t.regs [] t.queue rest

  -- the draft after more code types
  abbrev types_lead : List CodeType → CodeType → List CodeType → Draft
  types_lead ts t [] = InType cs ns ts t
  types_lead ts t (u ∷ us) = types_lead (ts ++ t ∷ []) u us

  more_types_walked : (ts : List CodeType) (t : CodeType) (us : List CodeType) (rest : List Line) →
      walk (InType cs ns ts t) (flat_map type_lines us ++ rest) ≡ walk (types_lead ts t us) rest
  more_types_walked ts t [] rest = refl
  more_types_walked ts t (u ∷ us) rest =
      ap (walk (InType cs ns (ts ++ t ∷ []) (fresh_type u.ints u.memory))) (append_assoc (map lines.Reg u.regs
      ++ map pend_line u.queue) (flat_map type_lines us) rest)
      ∙ type_walked (ts ++ t ∷ []) u (flat_map type_lines us ++ rest)
      ∙ more_types_walked (ts ++ t ∷ []) u us rest

  codes_walked : (ts : List CodeType) (ps : List Part) (b : ℕ) (is js : List Code) (rest : List Line) →
      walk (InBlock cs ns ts ps (record { code_type = b; codes = is })) (map lines.Code js ++ rest)
      ≡ walk (InBlock cs ns ts ps (record { code_type = b; codes = is ++ js })) rest
  codes_walked ts ps b is [] rest = ap (λ xs. walk (InBlock cs ns ts ps (record { code_type = b; codes = xs })) rest)
      (sym (append-nil is))
  codes_walked ts ps b is (j ∷ js) rest = codes_walked ts ps b (is ++ j ∷ []) js rest
      ∙ ap (λ xs. walk (InBlock cs ns ts ps (record { code_type = b; codes = xs })) rest) (append_assoc is (j ∷ []) js)

  -- from a block, the lines of more blocks and of the entry block lead to the complete listing
  more_parts_walked : (ts : List CodeType) (ps : List Part) (p : Part) (qs : List Part) (b : ℕ) →
      walk (InBlock cs ns ts ps p) (flat_map part_lines qs ++ lines.Entry b ∷ [])
      ≡ Some (Done (record { cells = cs; nodes = ns; types = ts; parts = ps ++ p ∷ qs; entry = b }))
  more_parts_walked ts ps p [] b = refl
  more_parts_walked ts ps p (q ∷ qs) b =
      ap (walk (InBlock cs ns ts (ps ++ p ∷ []) (fresh_part q.code_type)))
      (append_assoc (map lines.Code q.codes) (flat_map part_lines qs) (lines.Entry b ∷ []))
      ∙ codes_walked ts (ps ++ p ∷ []) q.code_type [] q.codes (flat_map part_lines qs ++ lines.Entry b ∷ [])
      ∙ more_parts_walked ts (ps ++ p ∷ []) q qs b
      ∙ ap (λ xs. Some (Done (record { cells = cs; nodes = ns; types = ts; parts = xs; entry = b })))
      (append_assoc ps (p ∷ []) (q ∷ qs))

  -- likewise from the start
  start_parts_walked : (qs : List Part) (b : ℕ) → walk (Start cs ns) (flat_map part_lines qs ++ lines.Entry b ∷ [])
      ≡ Some (Done (record { cells = cs; nodes = ns; types = []; parts = qs; entry = b }))
  start_parts_walked [] b = refl
  start_parts_walked (q ∷ qs) b =
      ap (walk (InBlock cs ns [] [] (fresh_part q.code_type)))
      (append_assoc (map lines.Code q.codes) (flat_map part_lines qs) (lines.Entry b ∷ []))
      ∙ codes_walked [] [] q.code_type [] q.codes (flat_map part_lines qs ++ lines.Entry b ∷ [])
      ∙ more_parts_walked [] [] q qs b

  -- likewise from a code type
  type_parts_walked : (ts : List CodeType) (t : CodeType) (qs : List Part) (b : ℕ) →
      walk (InType cs ns ts t) (flat_map part_lines qs ++ lines.Entry b ∷ [])
      ≡ Some (Done (record { cells = cs; nodes = ns; types = ts ++ t ∷ []; parts = qs; entry = b }))
  type_parts_walked ts t [] b = refl
  type_parts_walked ts t (q ∷ qs) b =
      ap (walk (InBlock cs ns (ts ++ t ∷ []) [] (fresh_part q.code_type)))
      (append_assoc (map lines.Code q.codes) (flat_map part_lines qs) (lines.Entry b ∷ []))
      ∙ codes_walked (ts ++ t ∷ []) [] q.code_type [] q.codes (flat_map part_lines qs ++ lines.Entry b ∷ [])
      ∙ more_parts_walked (ts ++ t ∷ []) [] q qs b

  led_parts_walked : (ts : List CodeType) (t : CodeType) (us : List CodeType) (qs : List Part) (b : ℕ) →
      walk (types_lead ts t us) (flat_map part_lines qs ++ lines.Entry b ∷ [])
      ≡ Some (Done (record { cells = cs; nodes = ns; types = ts ++ t ∷ us; parts = qs; entry = b }))
  led_parts_walked ts t [] qs b = type_parts_walked ts t qs b
  led_parts_walked ts t (u ∷ us) qs b = led_parts_walked (ts ++ t ∷ []) u us qs b
      ∙ ap (λ xs. Some (Done (record { cells = cs; nodes = ns; types = xs; parts = qs; entry = b })))
      (append_assoc ts (t ∷ []) (u ∷ us))

  types_walked : (ts : List CodeType) (qs : List Part) (b : ℕ) →
      walk (Start cs ns) (flat_map type_lines ts ++ (flat_map part_lines qs ++ lines.Entry b ∷ []))
      ≡ Some (Done (record { cells = cs; nodes = ns; types = ts; parts = qs; entry = b }))
  types_walked [] qs b = start_parts_walked qs b
  types_walked (t ∷ ts) qs b =
      let rest = flat_map part_lines qs ++ lines.Entry b ∷ [] in
      ap (walk (InType cs ns [] (fresh_type t.ints t.memory))) (append_assoc (map lines.Reg t.regs
      ++ map pend_line t.queue) (flat_map type_lines ts) rest)
      ∙ type_walked [] t (flat_map type_lines ts ++ rest)
      ∙ more_types_walked [] t ts rest
      ∙ led_parts_walked [] t ts qs b

-- the lines of a listing lead to that listing
pub walked : (l : Listing) → walk (Start [] []) (listing_lines l) ≡ Some (Done l)
walked l =
    cells_walked [] l.cells (map lines.Node l.nodes
    ++ (flat_map type_lines l.types ++ (flat_map part_lines l.parts ++ lines.Entry l.entry ∷ [])))
    ∙ nodes_walked l.cells [] l.nodes (flat_map type_lines l.types
    ++ (flat_map part_lines l.parts ++ lines.Entry l.entry ∷ []))
    ∙ types_walked l.cells l.nodes l.types l.parts l.entry

-- two listings with the same lines are equal
pub one_listing : (l m : Listing) → listing_lines l ≡ listing_lines m → l ≡ m
one_listing l m e = let both : Some (Done l) ≡ Some (Done m) = sym (walked l) ∙ ap (walk (Start [] [])) e ∙ walked m in
    let same : Done l ≡ Done m = cc in cc

-- words spell at most one list of lines
pub one_list : (words : List (List (List ℕ))) (ls ms : List Line) → AllZip IsForm words ls → AllZip IsForm words ms → ls
    ≡ ms
one_list [] [] [] h i = refl
one_list [] [] (m ∷ ms) h i = absurd i
one_list [] (l ∷ ls) ms h i = absurd h
one_list (w ∷ ws) [] ms h i = absurd h
one_list (w ∷ ws) (l ∷ ls) [] h i = absurd i
one_list (w ∷ ws) (l ∷ ls) (m ∷ ms) h i = ap (λ x. x ∷ ls) (one_line w l m h.0 i.0)
    ∙ ap (λ xs. m ∷ xs) (one_list ws ls ms h.1 i.1)

-- a text says at most one listing
pub one_said : (texts : List (List ℕ)) (l m : Listing) → Say texts l → Say texts m → l ≡ m
one_said texts l m h i = one_listing l m (one_list (said_in texts) (listing_lines l) (listing_lines m) h i)

-- a text reads as at most one object
pub one_reading : (text : List ℕ) (a b : Object) → Reads text a → Reads text b → a ≡ b
one_reading text a b h i = h.means ∙ ap object_of (one_said (lines_of text) h.listing i.listing h.said i.said)
    ∙ sym i.means
