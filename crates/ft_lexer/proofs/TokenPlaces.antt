-- Each token is the part of the text at its place.
use Rattle.std.proofs.Common.{◌≡◌, ℕ, ◌+◌, ◌^◌, ◌<◌, ◌≤◌, Bool, true, false, List, [], ◌∷◌, ◌++◌, length, take, drop}
use Rattle.std.proofs.Common.{refl, sym, ap, ◌∙◌, subst, arith, length-append, Option, Some, None}
use Rattle.std.specs.Prelude.{cond, nat_lt, nat_le, ◌==◌}
use Rattle.ft_lexer.specs.declared.kind.Kind.TheVariants as kinds
use Rattle.std.proofs.Math.Seq.{take-add}
use Rattle.std.proofs.lemmas.List.{drop-drop}
use Rattle.ft_lexer.specs.declared.kind.Kind.{Kind}
use Rattle.ft_lexer.specs.Numeral.{numeral}
use Rattle.ft_lexer.specs.Bytes.{is_blank, is_letter, is_digit, is_name_byte, word_kind, sign_kind, pair_kind}
use Rattle.ft_lexer.specs.Scan.{Scan, over, token, Mode, gap, comment, name, number, once, number_token, ends, sign_at}
use Rattle.ft_lexer.specs.Scan.{sign_from, begins, in_name, reads, scan_from, scan}
use Rattle.ft_lexer.specs.Placed.{Placed}

-- t is the part of the text from start to at; it is not empty and begins at or after low
pub record Run (text : List ℕ) (low start at : ℕ) (t : List ℕ) : Type 0 where
  pub ends_at : start + length t ≡ at
  pub part : t ≡ take (length t) (drop start text)
  pub above : low ≤ start
  pub some : 0 < length t

abbrev Begun : List ℕ → Mode → ℕ → ℕ → Type 0
Begun text gap low at = low ≤ at
Begun text comment low at = low ≤ at
Begun text (name start t) low at = Run text low start at t
Begun text (number start t) low at = Run text low start at t
Begun text (once k start b) low at = Run text low start at (b ∷ [])

either : (P : Scan → Type 0) (b : Bool) (x y : Scan) → (b ≡ true → P x) → P y → P (cond b x y)
either P true x y p q = p refl
either P false x y p q = q

token_placed : (text t : List ℕ) (k : Kind) (low start at : ℕ) (s : Scan) → Run text low start at t → Placed text at s →
    Placed text low (token (record { kind = k; text = t; at = start }) s)
token_placed text t k low start at s r h = (r.above, r.some, r.part, subst (λ v. Placed text v s) (sym r.ends_at) h)

number_placed : (b : Bool) (text t : List ℕ) (low start at : ℕ) (s : Scan) → Run text low start at t →
    Placed text at s → Placed text low (number_token b start t s)
number_placed true text t low start at s r h = token_placed text t kinds.Number low start at s r h
number_placed false text t low start at s r h = tt

sign_done : (text : List ℕ) (o : Option Kind) (b low start at : ℕ) (s : Scan) → Run text low start at (b ∷ []) →
    Placed text at s → Placed text low (sign_at o start b s)
sign_done text None b low start at s r h = tt
sign_done text (Some k) b low start at s r h = token_placed text (b ∷ []) k low start at s r h

ends_placed : (text : List ℕ) (m : Mode) (low at : ℕ) (s : Scan) → Begun text m low at →
    ((after : ℕ) → after ≤ at → Placed text after s) → Placed text low (ends m s)
ends_placed text gap low at s b h = h low b
ends_placed text comment low at s b h = h low b
ends_placed text (name start t) low at s b h = token_placed text t (word_kind t) low start at s b (h at (omega arith))
ends_placed text (number start t) low at s b h = number_placed (nat_lt (numeral 0 t) (2 ^ 64)) text t low start at s b
    (h at (omega arith))
ends_placed text (once k start c) low at s b h = sign_done text (sign_kind c) c low start at s b (h at (omega arith))

module _ (text : List ℕ) (at b : ℕ) (bs : List ℕ) (here : drop at text ≡ b ∷ bs) where
  behind : drop (at + 1) text ≡ bs
  behind = sym (drop-drop 1 at text) ∙ ap (drop 1) here

  one : (low : ℕ) → low ≤ at → Run text low at (at + 1) (b ∷ [])
  one low h = record { ends_at = refl; part = sym (ap (take 1) here); above = h; some = omega arith }

  further : (low start : ℕ) (t : List ℕ) → Run text low start at t → Run text low start (at + 1) (t ++ b ∷ [])
  further low start t r =
      let len : length (t ++ b ∷ []) ≡ length t + 1 = length-append t (b ∷ []) in
      let there : drop (length t) (drop start text) ≡ b ∷ bs = drop-drop (length t) start text
      ∙ ap (λ v. drop v text) r.ends_at ∙ here in
      record {
        ends_at = omega (arith, len, r.ends_at);
        part = sym (ap (λ v. take v (drop start text)) len ∙ take-add (length t) 1 (drop start text)
            ∙ ap (λ v. v ++ take 1 (drop (length t) (drop start text))) (sym r.part) ∙ ap (λ v. t ++ take 1 v) there);
        above = r.above;
        some = omega (arith, len);
      }

  sign_placed : (o : Option Kind) (after : Mode → Scan) (low : ℕ) →
      ((m : Mode) (low : ℕ) → Begun text m low (at + 1) → Placed text low (after m)) → low ≤ at →
      Placed text low (sign_from o at b after)
  sign_placed None after low h g = sign_done text (sign_kind b) b low at (at + 1) (after gap) (one low g)
      (h gap (at + 1) (omega arith))
  sign_placed (Some k) after low h g = h (once k at b) low (one low g)

  begins_placed : (after : Mode → Scan) → ((m : Mode) (low : ℕ) → Begun text m low (at + 1) →
      Placed text low (after m)) → (low : ℕ) → low ≤ at → Placed text low (begins at b after)
  begins_placed after h low g =
      let P : Scan → Type 0 = Placed text low in
      either P (is_blank b) _ _ (λ _. h gap low (omega arith))
      (either P (b == 35) _ _ (λ _. h comment low (omega arith))
      (either P (is_letter b) _ _ (λ _. h (name at (b ∷ [])) low (one low g))
      (either P (is_digit b) _ _ (λ _. h (number at (b ∷ [])) low (one low g))
      (sign_placed (pair_kind b) after low h g))))

  in_name_placed : (go long : Bool) (low : ℕ) (x y : Scan) → Placed text low x → Placed text low y →
      Placed text low (in_name go long at x y)
  in_name_placed false long low x y p q = q
  in_name_placed true false low x y p q = p
  in_name_placed true true low x y p q = tt

  reads_placed : (m : Mode) (after : Mode → Scan) →
      ((m : Mode) (low : ℕ) → Begun text m low (at + 1) → Placed text low (after m)) → (low : ℕ) → Begun text m low at →
      Placed text low (reads m at b after (begins at b after))
  reads_placed gap after h low g = begins_placed after h low g
  reads_placed comment after h low g = either (Placed text low) (b == 10) _ _ (λ _.
      h gap low (omega arith)) (h comment low (omega arith))
  reads_placed (name start t) after h low g =
      in_name_placed (is_name_byte b) (nat_le 32 (length t)) low _ _
      (h (name start (t ++ b ∷ [])) low (further low start t g))
      (ends_placed text (name start t) low at _ g (begins_placed after h))
  reads_placed (number start t) after h low g = either (Placed text low) (is_digit b) _ _ (λ _.
      h (number start (t ++ b ∷ [])) low (further low start t g))
      (ends_placed text (number start t) low at _ g (begins_placed after h))
  reads_placed (once k start c) after h low g = either (Placed text low) (b == c) _ _
      (λ e. token_placed text (c ∷ b ∷ []) k low start (at + 1) _ (further low start (c ∷ []) g)
      (h gap (at + 1) (omega arith)))
      (ends_placed text (once k start c) low at _ g (begins_placed after h))

placed_from : (text bs : List ℕ) (at : ℕ) (m : Mode) (low : ℕ) → drop at text ≡ bs → Begun text m low at →
    Placed text low (scan_from m at bs)
placed_from text [] at m low here g = ends_placed text m low at over g (λ _ _. tt)
placed_from text (b ∷ bs) at m low here g =
    reads_placed text at b bs here m (λ n. scan_from n (at + 1) bs)
    (λ n low k. placed_from text bs (at + 1) n low (behind text at b bs here) k) low g

pub placed : (text : List ℕ) → Placed text 0 (scan text)
placed text = placed_from text text 0 gap 0 refl (omega arith)
