-- Kinds of bytes, reserved words, and the bytes that are tokens by themselves.
use Rattle.std.specs.Prelude.{ℕ, ◌==◌, ◌&&◌, ◌||◌, Bool, List, nat_le, if◌then◌else◌, Option, Some, None, codes}
use Rattle.std.specs.Str.{bytes_eq}
use Rattle.ft_lexer.specs.declared.kind.Kind.{Kind}
use Rattle.ft_lexer.specs.declared.kind.Kind.TheVariants as kinds

-- space, tab, carriage return and line feed separate tokens
abbrev pub is_blank : ℕ → Bool
is_blank b = b == 32 || b == 9 || b == 13 || b == 10

-- `0` to `9`
abbrev pub is_digit : ℕ → Bool
is_digit b = nat_le 48 b && nat_le b 57

-- bytes that may begin a name: `a` to `z`, `A` to `Z` and `_`
abbrev pub is_letter : ℕ → Bool
is_letter b = (nat_le 97 b && nat_le b 122) || (nat_le 65 b && nat_le b 90) || b == 95

-- bytes that may follow the first byte of a name
abbrev pub is_name_byte : ℕ → Bool
is_name_byte b = is_letter b || is_digit b

-- the kind of a word: reserved, or a name
unfoldable pub word_kind : List ℕ → Kind
word_kind t =
    if bytes_eq t (codes "cell") then kinds.Cell
    else (if bytes_eq t (codes "var") then kinds.Var
    else (if bytes_eq t (codes "while") then kinds.While
    else (if bytes_eq t (codes "if") then kinds.If
    else (if bytes_eq t (codes "else") then kinds.Else
    else kinds.Name))))

-- the kind of the token that consists of this byte twice
unfoldable pub pair_kind : ℕ → Option Kind
pair_kind b =
    if b == 61 then Some kinds.EqEq
    else (if b == 60 then Some kinds.Shl
    else (if b == 62 then Some kinds.Shr
    else None))

-- the kind of the token that consists of this byte
unfoldable pub sign_kind : ℕ → Option Kind
sign_kind b =
    if b == 59 then Some kinds.Semi
    else (if b == 40 then Some kinds.LParen
    else (if b == 41 then Some kinds.RParen
    else (if b == 123 then Some kinds.LBrace
    else (if b == 125 then Some kinds.RBrace
    else (if b == 43 then Some kinds.Plus
    else (if b == 45 then Some kinds.Minus
    else (if b == 42 then Some kinds.Star
    else (if b == 60 then Some kinds.Less
    else (if b == 61 then Some kinds.Assign
    else (if b == 91 then Some kinds.LBracket
    else (if b == 93 then Some kinds.RBracket
    else (if b == 38 then Some kinds.And
    else (if b == 124 then Some kinds.Or
    else (if b == 94 then Some kinds.Xor
    else None))))))))))))))
