-- What a text is split into: its tokens with their places, up to the first error.
use Rattle.std.specs.Prelude.{ℕ, ◌+◌, ◌^◌, ◌==◌, Bool, true, false, List, [], ◌∷◌, ◌++◌, length, nat_lt, nat_le, if◌then◌else◌, Option, Some, None, Result, Ok, Err}
use Rattle.ft_lexer.specs.declared.kind.Kind.{Kind}
use Rattle.ft_lexer.specs.declared.kind.Kind.TheVariants as kinds
use Rattle.ft_lexer.specs.declared.token.Token.{Token}
use Rattle.ft_lexer.specs.declared.lex_error.LexError.{LexError}
use Rattle.ft_lexer.specs.declared.lex_error.LexError.TheVariants as lex_errors
use Rattle.ft_lexer.specs.Numeral.{numeral}
use Rattle.ft_lexer.specs.Bytes.{is_blank, is_digit, is_letter, is_name_byte, word_kind, sign_kind, pair_kind}

-- a token as plain data: its kind, its bytes and the place of the first
pub record Lexeme : Type 0 where
  pub kind : Kind
  pub text : List ℕ
  pub at : ℕ

abbrev pub lexeme : Token → Lexeme
lexeme t = record { kind = t.kind; text = t.text.now; at = t.at }

-- the scan of a text from some place: the end, the first error, or a token and the scan after it
pub data Scan : Type 0 where
  over : Scan
  wrong : LexError → Scan
  token : Lexeme → Scan → Scan

-- what the bytes so far have begun, with its place and its bytes: a gap, a comment, a name, a number, or a byte that
-- makes a token of this kind if it is doubled
pub data Mode : Type 0 where
  gap : Mode
  comment : Mode
  name : ℕ → List ℕ → Mode
  number : ℕ → List ℕ → Mode
  once : Kind → ℕ → ℕ → Mode

-- a number of 2^64 or more is an error at its first digit
abbrev pub number_token : Bool → ℕ → List ℕ → Scan → Scan
number_token true start t rest = token (record { kind = kinds.Number; text = t; at = start }) rest
number_token false start t rest = wrong (lex_errors.Number start)

-- a byte that begins no token is an error
abbrev pub sign_at : Option Kind → ℕ → ℕ → Scan → Scan
sign_at (Some k) at b rest = token (record { kind = k; text = b ∷ []; at = at }) rest
sign_at None at b rest = wrong (lex_errors.Byte at)

-- what has begun ends here
abbrev pub ends : Mode → Scan → Scan
ends gap rest = rest
ends comment rest = rest
ends (name start t) rest = token (record { kind = word_kind t; text = t; at = start }) rest
ends (number start t) rest = number_token (nat_lt (numeral 0 t) (2 ^ 64)) start t rest
ends (once k start b) rest = sign_at (sign_kind b) start b rest

-- a byte that makes a token if it is doubled, or is a token by itself
abbrev pub sign_from : Option Kind → ℕ → ℕ → (Mode → Scan) → Scan
sign_from (Some k) at b after = after (once k at b)
sign_from None at b after = sign_at (sign_kind b) at b (after gap)

-- what the byte b begins
abbrev pub begins : ℕ → ℕ → (Mode → Scan) → Scan
begins at b after =
    if is_blank b then after gap
    else (if b == 35 then after comment
    else (if is_letter b then after (name at (b ∷ []))
    else (if is_digit b then after (number at (b ∷ []))
    else sign_from (pair_kind b) at b after)))

-- in a name: it ends, continues, or would be longer than 32 bytes, which is an error at the 33rd
abbrev pub in_name : Bool → Bool → ℕ → Scan → Scan → Scan
in_name false long at more end = end
in_name true false at more end = more
in_name true true at more end = wrong (lex_errors.Byte at)

-- the byte b continues what has begun, or ends it and begins something else
abbrev pub reads : Mode → ℕ → ℕ → (Mode → Scan) → Scan → Scan
reads gap at b after other = other
reads comment at b after other = if b == 10 then after gap else after comment
reads (name start t) at b after other = in_name (is_name_byte b) (nat_le 32 (length t)) at (after (name start (t ++ b ∷ []))) (ends (name start t) other)
reads (number start t) at b after other = if is_digit b then after (number start (t ++ b ∷ [])) else ends (number start t) other
reads (once k start first) at b after other = if b == first then token (record { kind = k; text = first ∷ b ∷ []; at = start }) (after gap) else ends (once k start first) other

-- the scan of these bytes, which begin at this place
abbrev pub scan_from : Mode → ℕ → List ℕ → Scan
scan_from m at [] = ends m over
scan_from m at (b ∷ bs) = reads m at b (λ n. scan_from n (at + 1) bs) (begins at b (λ n. scan_from n (at + 1) bs))

-- the scan of a text
abbrev pub scan : List ℕ → Scan
scan text = scan_from gap 0 text

-- the scan that begins with what a call returned
abbrev pub told : Option (Result Token LexError) → Scan → Scan
told None rest = over
told (Some (Err e)) rest = wrong e
told (Some (Ok t)) rest = token (lexeme t) rest

-- adds a token at the front
abbrev pub with_token : Lexeme → Result (List Lexeme) LexError → Result (List Lexeme) LexError
with_token t (Ok ts) = Ok (t ∷ ts)
with_token t (Err e) = Err e

-- all tokens of a scan, or its error
abbrev pub all_of : Scan → Result (List Lexeme) LexError
all_of over = Ok []
all_of (wrong e) = Err e
all_of (token t rest) = with_token t (all_of rest)

-- how many tokens and errors a scan has
abbrev pub size : Scan → ℕ
size over = 0
size (wrong e) = 1
size (token t rest) = size rest + 1
