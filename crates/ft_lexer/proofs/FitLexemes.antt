-- The names and numbers of a text fit: a name has at most 32 bytes, and a number is below 2^64.
use Rattle.std.proofs.Common.{◌≡◌, ℕ, ◌+◌, ◌^◌, ◌<◌, ◌≤◌, Bool, true, false, ◌&&◌, ◌==◌, List, [], ◌∷◌, ◌++◌, length}
use Rattle.std.proofs.Common.{Option, Some, None, refl, ◌∙◌, subst, arith, length-append}
use Rattle.std.specs.Prelude.{Result, Ok, Err, if◌then◌else◌, nat_le, nat_lt, codes}
use Rattle.std.specs.List.{list_all}
use Rattle.std.specs.Str.{bytes_eq}
use Rattle.std.proofs.lemmas.Bool.{and_parts, and_from, ltb-true, leb-false}
use Rattle.std.proofs.lemmas.List.Folds.{list_all-append}
use Rattle.ft_lexer.specs.declared.kind.Kind.{Kind}
use Rattle.ft_lexer.specs.declared.kind.Kind.TheVariants as kinds
use Rattle.ft_lexer.specs.declared.lex_error.LexError.{LexError}
use Rattle.ft_lexer.specs.Bytes.{is_blank, is_digit, is_letter, is_name_byte, word_kind, sign_kind, pair_kind}
use Rattle.ft_lexer.specs.Numeral.{numeral}
use Rattle.ft_lexer.specs.Scan.{Lexeme, Scan, over, wrong, token, Mode, gap, comment, name, number, once, number_token}
use Rattle.ft_lexer.specs.Scan.{ends, sign_at, sign_from, begins, in_name, reads, scan_from, scan, with_token, all_of}

-- a letter, followed by bytes of a name
abbrev pub is_word : List ℕ → Bool
is_word [] = false
is_word (b ∷ bs) = is_letter b && list_all is_name_byte bs

-- a word followed by a byte of a name is a word
word_more : (t : List ℕ) (b : ℕ) → is_word t ≡ true → is_name_byte b ≡ true → is_word (t ++ b ∷ []) ≡ true
word_more [] b e f = cc
word_more (c ∷ cs) b e f =
    let p = and_parts (is_letter c) (list_all is_name_byte cs) e in
    and_from (is_letter c) (list_all is_name_byte (cs ++ b ∷ [])) p.0
    (list_all-append is_name_byte cs (b ∷ []) ∙ and_from (list_all is_name_byte cs) (is_name_byte b
    && true) p.1 (and_from (is_name_byte b) true f refl))

-- the text of a name: a word of at most 32 bytes
pub record IsNameText (t : List ℕ) : Type 0 where
  pub word : is_word t ≡ true
  pub short : length t ≤ 32

-- if the lexeme is a name, its text is the text of a name; if it is a number, it is below 2^64
pub record IsFit (l : Lexeme) : Type 0 where
  pub name_fits : l.kind ≡ kinds.Name → IsNameText l.text
  pub number_fits : l.kind ≡ kinds.Number → numeral 0 l.text < 2 ^ 64

-- a scan whose tokens all fit
data AreFit : Scan → Type 0 where
  over_fits : AreFit over
  wrong_fits : {e : LexError} → AreFit (wrong e)
  token_fits : {l : Lexeme} {rest : Scan} → IsFit l → AreFit rest → AreFit (token l rest)

-- if a scan fits, so do its first token and the rest of the scan
token_parts : (l : Lexeme) (rest : Scan) → AreFit (token l rest) → IsFit l × AreFit rest
token_parts l rest (token_fits a b) = (a, b)

-- a kind other than names and numbers
abbrev IsPlain : Kind → Type 0
IsPlain kinds.Name = ⊥
IsPlain kinds.Number = ⊥
IsPlain _ = Unit {0}

-- a kind other than numbers
abbrev IsNoNumber : Kind → Type 0
IsNoNumber kinds.Number = ⊥
IsNoNumber _ = Unit {0}

-- a lexeme that is neither a name nor a number fits
plain_fits : (k : Kind) (t : List ℕ) (at : ℕ) → IsPlain k → IsFit (record { kind = k; text = t; at = at })
plain_fits k t at h = record {
  name_fits = λ e. absurd (subst IsPlain e h);
  number_fits = λ e. absurd (subst IsPlain e h);
}

-- if two scans fit, so does a choice between them
if_fits : (c : Bool) (x y : Scan) → AreFit x → AreFit y → AreFit (if c then x else y)
if_fits true x y h k = h
if_fits false x y h k = k

-- no kind of word is the kind of numbers
word_choice : (a b c d e : Bool) → IsNoNumber (if a then kinds.Cell
    else (if b then kinds.Var else (if c then kinds.While
    else (if d then kinds.If else (if e then kinds.Else else kinds.Name)))))
word_choice true b c d e = tt
word_choice false true c d e = tt
word_choice false false true d e = tt
word_choice false false false true e = tt
word_choice false false false false true = tt
word_choice false false false false false = tt

-- so the kind of a word is not the kind of numbers
word_kind_plain : (t : List ℕ) → IsNoNumber (word_kind t)
unfolding word_kind
word_kind_plain t = word_choice (bytes_eq t (codes "cell")) (bytes_eq t (codes "var")) (bytes_eq t (codes "while"))
    (bytes_eq t (codes "if")) (bytes_eq t (codes "else"))

-- no kind, or one other than names and numbers
abbrev IsPlainSign : Option Kind → Type 0
IsPlainSign None = Unit {0}
IsPlainSign (Some k) = IsPlain k

-- `IsPlainSign` holds of a choice if it holds in both cases
if_plain : (c : Bool) (k : Kind) (o : Option Kind) → IsPlain k → IsPlainSign o → IsPlainSign (if c then Some k else o)
if_plain true k o h g = h
if_plain false k o h g = g

-- the kind of a sign is neither the kind of names nor the kind of numbers
sign_kind_plain : (b : ℕ) → IsPlainSign (sign_kind b)
unfolding sign_kind
sign_kind_plain b =
    let fourteen = if b == 94 then Some kinds.Xor else None in
    let thirteen = if b == 124 then Some kinds.Or else fourteen in
    let twelve = if b == 38 then Some kinds.And else thirteen in
    let eleven = if b == 93 then Some kinds.RBracket else twelve in
    let ten = if b == 91 then Some kinds.LBracket else eleven in
    let nine = if b == 61 then Some kinds.Assign else ten in
    let eight = if b == 60 then Some kinds.Less else nine in
    let seven = if b == 42 then Some kinds.Star else eight in
    let six = if b == 45 then Some kinds.Minus else seven in
    let five = if b == 43 then Some kinds.Plus else six in
    let four = if b == 125 then Some kinds.RBrace else five in
    let three = if b == 123 then Some kinds.LBrace else four in
    let two = if b == 41 then Some kinds.RParen else three in
    let one = if b == 40 then Some kinds.LParen else two in
    if_plain (b == 59) kinds.Semi one tt
    (if_plain (b == 40) kinds.LParen two tt
    (if_plain (b == 41) kinds.RParen three tt
    (if_plain (b == 123) kinds.LBrace four tt
    (if_plain (b == 125) kinds.RBrace five tt
    (if_plain (b == 43) kinds.Plus six tt
    (if_plain (b == 45) kinds.Minus seven tt
    (if_plain (b == 42) kinds.Star eight tt
    (if_plain (b == 60) kinds.Less nine tt
    (if_plain (b == 61) kinds.Assign ten tt
    (if_plain (b == 91) kinds.LBracket eleven tt
    (if_plain (b == 93) kinds.RBracket twelve tt
    (if_plain (b == 38) kinds.And thirteen tt
    (if_plain (b == 124) kinds.Or fourteen tt
    (if_plain (b == 94) kinds.Xor None tt tt))))))))))))))

-- nor is the kind of a doubled sign
pair_kind_plain : (b : ℕ) → IsPlainSign (pair_kind b)
unfolding pair_kind
pair_kind_plain b =
    let two = if b == 62 then Some kinds.Shr else None in
    let one = if b == 60 then Some kinds.Shl else two in
    if_plain (b == 61) kinds.EqEq one tt
    (if_plain (b == 60) kinds.Shl two tt
    (if_plain (b == 62) kinds.Shr None tt tt))

-- what has begun may end as a lexeme
abbrev MayEnd : Mode → Type 0
MayEnd gap = Unit {0}
MayEnd comment = Unit {0}
MayEnd (name start t) = (is_word t ≡ true) × (length t ≤ 32)
MayEnd (number start t) = Unit {0}
MayEnd (once k start b) = IsPlain k

-- a number token is below 2^64
number_token_fits : (b : Bool) (start : ℕ) (t : List ℕ) (rest : Scan) → nat_lt (numeral 0 t) (2 ^ 64) ≡ b →
    AreFit rest → AreFit (number_token b start t rest)
number_token_fits true start t rest e h = token_fits (record {
  name_fits = λ f. absurd (no f);
  number_fits = λ f. ltb-true (numeral 0 t) (2 ^ 64) e;
}) h
  where
    no : kinds.Number ≡ kinds.Name → ⊥
    no f = cc
number_token_fits false start t rest e h = wrong_fits

-- a sign followed by a scan that fits is a scan that fits
sign_fits : (o : Option Kind) (at b : ℕ) (rest : Scan) → IsPlainSign o → AreFit rest → AreFit (sign_at o at b rest)
sign_fits None at b rest p h = wrong_fits
sign_fits (Some k) at b rest p h = token_fits (plain_fits k (b ∷ []) at p) h

-- if a scan fits, it still fits when what has begun ends in front of it
ends_fits : (m : Mode) (rest : Scan) → MayEnd m → AreFit rest → AreFit (ends m rest)
ends_fits gap rest m h = h
ends_fits comment rest m h = h
ends_fits (name start t) rest m h = token_fits (record {
  name_fits = λ e. record { word = m.0; short = m.1 };
  number_fits = λ e. absurd (subst IsNoNumber e (word_kind_plain t));
}) h
ends_fits (number start t) rest m h = number_token_fits (nat_lt (numeral 0 t) (2 ^ 64)) start t rest refl h
ends_fits (once k start b) rest m h = sign_fits (sign_kind b) start b rest (sign_kind_plain b) h

-- the scan of what a sign begins fits if the scans after it do
sign_from_fits : (o : Option Kind) (at b : ℕ) (after : Mode → Scan) → IsPlainSign o →
    ((n : Mode) → MayEnd n → AreFit (after n)) → AreFit (sign_from o at b after)
sign_from_fits None at b after p h = sign_fits (sign_kind b) at b (after gap) (sign_kind_plain b) (h gap tt)
sign_from_fits (Some k) at b after p h = h (once k at b) p

-- if five scans fit, so does a choice of them
begins_choice : (a b c d : Bool) (u v w x y : Scan) → AreFit u → AreFit v → (c ≡ true → AreFit w) → AreFit x →
    AreFit y → AreFit (if a then u else (if b then v else (if c then w else (if d then x else y))))
begins_choice true b c d u v w x y hu hv hw hx hy = hu
begins_choice false true c d u v w x y hu hv hw hx hy = hv
begins_choice false false true d u v w x y hu hv hw hx hy = hw refl
begins_choice false false false true u v w x y hu hv hw hx hy = hx
begins_choice false false false false u v w x y hu hv hw hx hy = hy

-- the scan of what a byte begins fits if the scans after it do
begins_fits : (at b : ℕ) (after : Mode → Scan) → ((n : Mode) → MayEnd n → AreFit (after n)) → AreFit (begins at b after)
begins_fits at b after h =
    begins_choice (is_blank b) (b == 35) (is_letter b) (is_digit b) (after gap) (after comment)
    (after (name at (b ∷ []))) (after (number at (b ∷ []))) (sign_from (pair_kind b) at b after)
    (h gap tt) (h comment tt) (λ e. h (name at (b ∷ [])) (and_from (is_letter b) true e refl, omega arith))
    (h (number at (b ∷ [])) tt)
    (sign_from_fits (pair_kind b) at b after (pair_kind_plain b) h)

-- the scan of a byte after a name fits if the scans after it do
in_name_fits : (goes long : Bool) (at : ℕ) (more end : Scan) → (goes ≡ true → long ≡ false → AreFit more) → AreFit end →
    AreFit (in_name goes long at more end)
in_name_fits false long at more end h k = k
in_name_fits true false at more end h k = h refl refl
in_name_fits true true at more end h k = wrong_fits

-- the scan of any byte fits if the scans after it do
reads_fits : (m : Mode) (at b : ℕ) (after : Mode → Scan) (other : Scan) → MayEnd m →
    ((n : Mode) → MayEnd n → AreFit (after n)) → AreFit other → AreFit (reads m at b after other)
reads_fits gap at b after other m h k = k
reads_fits comment at b after other m h k = if_fits (b == 10) (after gap) (after comment) (h gap tt) (h comment tt)
reads_fits (name start t) at b after other m h k =
    in_name_fits (is_name_byte b) (nat_le 32 (length t)) at (after (name start (t ++ b ∷ [])))
    (ends (name start t) other)
    (λ e f. h (name start (t ++ b ∷ [])) (
      word_more t b m.0 e,
      (let l = length-append t (b ∷ []) in
          let g = leb-false 32 (length t) f in omega arith),
    ))
    (ends_fits (name start t) other m k)
reads_fits (number start t) at b after other m h k =
    if_fits (is_digit b) (after (number start (t ++ b ∷ []))) (ends (number start t) other)
    (h (number start (t ++ b ∷ [])) tt) (ends_fits (number start t) other tt k)
reads_fits (once q start first) at b after other m h k =
    if_fits (b == first) (token (record { kind = q; text = first ∷ b ∷ []; at = start }) (after gap))
    (ends (once q start first) other) (token_fits (plain_fits q (first ∷ b ∷ []) start m) (h gap tt))
    (ends_fits (once q start first) other m k)

-- all tokens of a scan fit
scan_fits : (m : Mode) (at : ℕ) (bs : List ℕ) → MayEnd m → AreFit (scan_from m at bs)
scan_fits m at [] h = ends_fits m over h over_fits
scan_fits m at (b ∷ bs) h =
    reads_fits m at b (λ n. scan_from n (at + 1) bs) (begins at b (λ n. scan_from n (at + 1) bs)) h
    (λ n k. scan_fits n (at + 1) bs k)
    (begins_fits at b (λ n. scan_from n (at + 1) bs) (λ n k. scan_fits n (at + 1) bs k))

-- all these lexemes fit
abbrev pub AllFit : List Lexeme → Type 0
AllFit [] = Unit {0}
AllFit (l ∷ ls) = IsFit l × AllFit ls

-- so do the lexemes of a scan without an error
lexemes_fit : (s : Scan) (ts : List Lexeme) → AreFit s → all_of s ≡ Ok ts → AllFit ts
lexemes_fit over ts h e = let f : [] ≡ ts = cc in subst AllFit f tt
lexemes_fit (wrong x) ts h e = absurd (no e)
  where
    no : Err x ≡ Ok ts → ⊥
    no f = cc
lexemes_fit (token l rest) ts h e = go (all_of rest) refl e (λ us f. lexemes_fit rest us (token_parts l rest h).1 f)
  where
    go : (r : Result (List Lexeme) LexError) → all_of rest ≡ r → with_token l r ≡ Ok ts →
        ((us : List Lexeme) → all_of rest ≡ Ok us → AllFit us) → AllFit ts
    go (Ok us) f g rec = let q : l ∷ us ≡ ts = cc in subst AllFit q ((token_parts l rest h).0, rec us f)
    go (Err x) f g rec = cc

-- the lexemes of a text fit
pub scanned_fit : (text : List ℕ) (ts : List Lexeme) → all_of (scan text) ≡ Ok ts → AllFit ts
scanned_fit text ts e = lexemes_fit (scan text) ts (scan_fits gap 0 text tt) e
